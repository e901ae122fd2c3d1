use Rattle.std.proofs.Common.{◌≡◌, ◌<◌, ◌≤◌, ◌⊎◌, inl, inr, ℕ, ◌+◌, ◌*◌, List, [], ◌∷◌, ◌++◌, length, min, drop, get_or, take, sym, ap, ◌∙◌, arith, length-drop}
use Rattle.std.proofs.lemmas.List.{get_or-drop, take_all, take_more}
use Rattle.ri_base.specs.Collection.{document_at, empty_document}
use Rattle.ri_base.specs.Documents.{Document}
use Rattle.disk_index.proofs.EntryLemmas.{document_at-get_or}
use Rattle.disk_index.proofs.part.documents_in_memory.Goals as goal

-- so many as there are, and this number at most
front-all : (n k : ℕ) (xs : List Document) → n ≡ min (length xs) k → take n xs ≡ take k xs
front-all n k xs is =
    let cases : (k ≤ length xs) ⊎ (length xs < k) = grind arith in
    elim cases [
      | inl more ↦ ap (λ m. take m xs) (omega (arith, is, more))
      | inr fewer ↦ take_all n xs (omega (arith, is, fewer)) ∙ sym (take_all k xs (omega (arith, fewer)))
    ]

pub loop-i-preserved : goal.loop-i-preserved
loop-i-preserved c =
    let ds : List Document = c.args.sealed.now in
    let first = 64 * c.args.range in
    let i = c.loop-i.i in
    let behind : List Document = drop first ds in
    let size = length-drop first ds in
    let inside : i < length behind = omega (arith, size) in
    let one : document_at ds (first + i) ≡ get_or behind i empty_document = document_at-get_or ds (first + i) ∙ sym (get_or-drop first ds i empty_document) in
    c.in_ok-push.ensures.ok ∙ ap (λ (l : List Document). l ++ c.in_ok-doc.field-0 ∷ []) c.loop-i.invariant ∙ ap (λ (d : Document). take i behind ++ d ∷ []) (c.in_ok-doc.ensures ∙ one) ∙ sym (take_more behind i empty_document inside)

pub returns-clause-exact : goal.returns-clause-exact
returns-clause-exact c =
    let ds : List Document = c.args.sealed.now in
    let first = 64 * c.args.range in
    let size = length-drop first ds in
    c.loop-i.invariant ∙ front-all c.loop-i.i 64 (drop first ds) (omega (arith, size))
