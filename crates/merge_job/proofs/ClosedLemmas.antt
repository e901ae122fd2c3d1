-- Parts that are closed.
use Rattle.std.proofs.Common.{◌≡◌, ◌≤◌, ℕ, zero, suc, false, List, [], ◌∷◌, ◌++◌, length, replicate, refl, ap, sym, subst, ◌∙◌, arith, append_assoc}
use Rattle.std.specs.List.{All}
use Rattle.std.proofs.lemmas.List.{append-nil, nil_from_length, map-append, length-map}
use Rattle.std.proofs.lemmas.List.Elements.{All-push}
use Rattle.ri_base.specs.Documents.{Document}
use Rattle.merge_job.specs.Closed.{AreClosed, IsUnmarked}
use Rattle.merge_job.specs.Cut.{AreCopies, AreCut}
use Rattle.merge_job.specs.NewParts.{all_docs, docs_in}
use Rattle.merge_job.specs.declared.merged.MergedPart.{MergedPart}

pub docs-push : (ps : List MergedPart) (p : MergedPart) → all_docs (ps ++ p ∷ []) ≡ all_docs ps ++ p.docs
docs-push [] p = append-nil p.docs
docs-push (q ∷ ps) p = ap (λ l. q.docs ++ l) (docs-push ps p) ∙ sym (append_assoc q.docs (all_docs ps) p.docs)

cut-none : (most : ℕ) (ps : List MergedPart) (filling : List Document) → AreCopies most (docs_in ps) filling → length filling ≡ 0 → ps ≡ []
cut-none most ps filling c e =
    let none = c.none (nil_from_length filling e) in
    nil_from_length ps (sym (length-map ps (λ (p : MergedPart). p.docs)) ∙ ap length none)

pub AreClosed-none : (most : ℕ) (ps : List MergedPart) (filling : List Document) → All IsUnmarked ps → AreCopies most (docs_in ps) filling → length filling ≡ 0
    → AreClosed (record { most = most; docs = all_docs ps ++ filling }) ps
AreClosed-none most ps filling unmarked c e =
    let none = cut-none most ps filling c e in
    record {
      docs = sym (append-nil _) ∙ ap (λ l. all_docs ps ++ l) (sym (nil_from_length filling e));
      unmarked = unmarked;
      cut = subst (λ (qs : List MergedPart). AreCut most (docs_in qs)) (sym none) tt;
    }

some-length : (n : ℕ) → (n ≡ 0 → ⊥) → 1 ≤ n
some-length zero ne = absurd (ne refl)
some-length (suc n) ne = omega arith

pub AreClosed-end : (most : ℕ) (ps qs : List MergedPart) (filling : List Document) → All IsUnmarked ps → AreCopies most (docs_in ps) filling → (length filling ≡ 0 → ⊥)
    → qs ≡ ps ++ record { docs = filling; marks = replicate (length filling) false } ∷ [] → AreClosed (record { most = most; docs = all_docs ps ++ filling }) qs
AreClosed-end most ps qs filling unmarked c ne put =
    let last : MergedPart = record { docs = filling; marks = replicate (length filling) false } in
    subst (λ (qs : List MergedPart). AreClosed (record { most = most; docs = all_docs ps ++ filling }) qs) (sym put)
    (record {
      docs = docs-push ps last;
      unmarked = All-push IsUnmarked ps last unmarked refl;
      cut = subst (λ (ds : List (List Document)). AreCut most ds) (sym (map-append (λ (p : MergedPart). p.docs) ps (last ∷ []))) (c.cut (some-length (length filling) ne));
    })
