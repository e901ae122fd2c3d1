-- The lines of a scan, one document and one part more.
use Rattle.std.proofs.Common.{◌≡◌, ◌<◌, ◌≤◌, ◌+◌, ℕ, zero, suc, Bool, true, false, List, [], ◌∷◌, ◌++◌, append_assoc, cond, get_or, length, map, take, refl, sym, ap, ◌∙◌, arith, Option}
use Rattle.std.proofs.lemmas.Grind.{flat_map-append}
use Rattle.std.proofs.lemmas.List.{append-nil, take_all, take_more}
use Rattle.ri_base.specs.Collection.{document_at}
use Rattle.ri_base.specs.Documents.{Document}
use Rattle.ri_base.specs.Expression.{ExprTree}
use Rattle.ri_base.specs.Pair.{Pair}
use Rattle.store_ends.specs.Files.{Files}
use Rattle.extent_evaluation.specs.Listed.{extent_list}
use Rattle.disk_index.specs.Parts.{reads, size}
use Rattle.disk_index.specs.Snapshots.{Marked, live, live_in, unmarked}
use Rattle.disk_index.proofs.RebuiltLemmas.{reads-length}
use Rattle.ranker.specs.Passed.{live_before}
use Rattle.desk.proofs.ListLemmas.{mapped-more}
use Rattle.desk.specs.Scanning.{extents_in, lines_of}

-- one extent more
pub lines-next : (docno : List ℕ) (found : List Pair) (i : ℕ) (w : Pair) (before lines next : List (List ℕ × Pair)) → i < length found → w ≡ get_or found i w
    → lines ≡ before ++ lines_of docno (take i found) → next ≡ lines ++ (docno, w) ∷ [] → next ≡ before ++ lines_of docno (take (i + 1) found)
lines-next docno found i w before lines next inside at so_far pushed =
    let line : Pair → List ℕ × Pair = λ x. (docno, x) in
    pushed ∙ ap (λ ls. ls ++ line w ∷ []) so_far ∙ append_assoc before (map line (take i found)) (line w ∷ []) ∙ ap (λ ls. before ++ ls) (sym (mapped-more line found i w inside at))

-- ---- one document more of a part

one-more : (docs : List Document) (marks : List Bool) (i : ℕ) → i < length docs → length marks ≡ length docs
    → unmarked (take (suc i) docs) marks ≡ unmarked (take i docs) marks ++ cond (get_or marks i false) [] (document_at docs i ∷ [])
one-more [] marks i lt h = absurd (omega (arith, lt))
one-more (d ∷ docs) [] i lt h = absurd (omega (arith, h))
one-more (d ∷ docs) (true ∷ marks) zero lt h = refl
one-more (d ∷ docs) (false ∷ marks) zero lt h = refl
one-more (d ∷ docs) (true ∷ marks) (suc i) lt h = one-more docs marks i (omega (arith, lt)) (omega (arith, h))
one-more (d ∷ docs) (false ∷ marks) (suc i) lt h = ap (λ (ds : List Document). d ∷ ds) (one-more docs marks i (omega (arith, lt)) (omega (arith, h)))

before-more : (told : Option Files) (m : Marked) (id : ℕ) → length m.marks ≡ size m.source → id < size m.source
    → live_before told m (id + 1) ≡ live_before told m id ++ cond (get_or m.marks id false) [] (document_at (reads told m.source) id ∷ [])
before-more told m id whole inside =
    let next : id + 1 ≡ suc id = omega arith in
    let long = reads-length told m.source in
    ap (λ n. unmarked (take n (reads told m.source)) m.marks) next ∙ one-more (reads told m.source) m.marks id (omega (arith, inside, long)) (omega (arith, whole, long))

module _ (x : ExprTree) where
  extents-more : (docs : List Document) (d : Document) → extents_in x (docs ++ d ∷ []) ≡ extents_in x docs ++ lines_of d.docno (extent_list x d)
  extents-more docs d =
      flat_map-append (λ (e : Document). lines_of e.docno (extent_list x e)) docs (d ∷ []) ∙ ap (λ ls. extents_in x docs ++ ls) (append-nil (lines_of d.docno (extent_list x d)))

  -- a dead document has no lines
  pub dead-next : (told : Option Files) (m : Marked) (id : ℕ) (docs : List Document) (lines : List (List ℕ × Pair)) → length m.marks ≡ size m.source → id < size m.source → get_or m.marks id false ≡ true
      → lines ≡ extents_in x (docs ++ live_before told m id) → lines ≡ extents_in x (docs ++ live_before told m (id + 1))
  dead-next told m id docs lines whole inside dead so_far =
      let seen = live_before told m id in
      let same : live_before told m (id + 1) ≡ seen = before-more told m id whole inside ∙ ap (λ (b : Bool). seen ++ cond b [] (document_at (reads told m.source) id ∷ [])) dead ∙ append-nil seen in
      so_far ∙ ap (λ ds. extents_in x (docs ++ ds)) (sym same)

  -- those of a live document stand behind the others
  pub live-next : (told : Option Files) (m : Marked) (id : ℕ) (docs : List Document) (docno : List ℕ) (found : List Pair) (lines next : List (List ℕ × Pair)) → length m.marks ≡ size m.source → id < size m.source
      → get_or m.marks id false ≡ false → docno ≡ (document_at (reads told m.source) id).docno → found ≡ extent_list x (document_at (reads told m.source) id)
      → next ≡ lines ++ lines_of docno found → lines ≡ extents_in x (docs ++ live_before told m id) → next ≡ extents_in x (docs ++ live_before told m (id + 1))
  live-next told m id docs docno found lines next whole inside alive name list put so_far =
      let d = document_at (reads told m.source) id in
      let seen = live_before told m id in
      let same : live_before told m (id + 1) ≡ seen ++ d ∷ [] = before-more told m id whole inside ∙ ap (λ (b : Bool). seen ++ cond b [] (d ∷ [])) alive in
      put ∙ ap (λ ls. ls ++ lines_of docno found) so_far ∙ ap (λ n. extents_in x (docs ++ seen) ++ lines_of n found) name ∙ ap (λ ws. extents_in x (docs ++ seen) ++ lines_of d.docno ws) list
      ∙ sym (extents-more (docs ++ seen) d) ∙ ap (extents_in x) (append_assoc docs seen (d ∷ [])) ∙ ap (λ ds. extents_in x (docs ++ ds)) (sym same)

  -- ---- a part

  take-zero : (ds : List Document) → take 0 ds ≡ []
  take-zero [] = refl
  take-zero (d ∷ ds) = refl

  pub before-none : (told : Option Files) (m : Marked) (docs : List Document) → extents_in x docs ≡ extents_in x (docs ++ live_before told m 0)
  before-none told m docs = ap (extents_in x) (sym (append-nil docs)) ∙ ap (λ (ds : List Document). extents_in x (docs ++ unmarked ds m.marks)) (sym (take-zero (reads told m.source)))

  pub before-all : (told : Option Files) (m : Marked) (id : ℕ) (docs : List Document) → size m.source ≤ id → extents_in x (docs ++ live_before told m id) ≡ extents_in x (docs ++ live_in told m)
  before-all told m id docs past =
      ap (λ (ds : List Document). extents_in x (docs ++ unmarked ds m.marks)) (take_all id (reads told m.source) (omega (arith, past, reads-length told m.source)))

  -- ---- several parts

  pub parts-none : (told : Option Files) (parts : List Marked) → [] ≡ extents_in x (live told (take 0 parts))
  parts-none told [] = refl
  parts-none told (m ∷ ms) = refl

  pub parts-next : (told : Option Files) (parts : List Marked) (i : ℕ) (m : Marked) (next : List (List ℕ × Pair)) → i < length parts → m ≡ get_or parts i m
      → next ≡ extents_in x (live told (take i parts) ++ live_in told m) → next ≡ extents_in x (live told (take (i + 1) parts))
  parts-next told parts i m next inside at so_far =
      let more : take (i + 1) parts ≡ take i parts ++ m ∷ [] = take_more parts i m inside ∙ ap (λ (p : Marked). take i parts ++ p ∷ []) (sym at) in
      let both : live told (take i parts ++ m ∷ []) ≡ live told (take i parts) ++ live_in told m =
      flat_map-append (live_in told) (take i parts) (m ∷ []) ∙ ap (λ ds. live told (take i parts) ++ ds) (append-nil (live_in told m)) in
      so_far ∙ ap (extents_in x) (sym (ap (live told) more ∙ both))

  pub parts-all : (told : Option Files) (parts : List Marked) (i : ℕ) → length parts ≤ i → extents_in x (live told (take i parts)) ≡ extents_in x (live told parts)
  parts-all told parts i past = ap (λ (ms : List Marked). extents_in x (live told ms)) (take_all i parts past)
