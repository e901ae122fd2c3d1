-- Documents with the ids from one on up to another, one document more at a time.
use Rattle.std.proofs.Common.{◌≡◌, ◌<◌, ◌≤◌, ◌+◌, ◌*◌, ◌-◌, ℕ, zero, suc, min, List, [], ◌∷◌, ◌++◌, length, length-drop, map, take, drop, get_or, refl, sym, ap, subst, ◌∙◌, arith, ⊎_elim}
use Rattle.std.specs.Prelude.{fold}
use Rattle.std.specs.List.{All}
use Rattle.std.proofs.lemmas.Bool.{cases_lt}
use Rattle.std.proofs.lemmas.List.{get_or-drop, map-append, take_all, take_more}
use Rattle.std.proofs.lemmas.List.Elements.{All-push}
use Rattle.std.proofs.lemmas.List.Sums.{fold_push}
use Rattle.ri_base.specs.Collection.{document_at}
use Rattle.ri_base.specs.Documents.{Document}
use Rattle.range_bounds.specs.Ranges.{range_documents}
use Rattle.range_tables.specs.Sections.{section}

pub document_is : (docs : List Document) (id : ℕ) (d : Document) → id < length docs → get_or docs id d ≡ document_at docs id
document_is [] id d h = absurd (omega (arith, h))
document_is (x ∷ docs) zero d h = refl
document_is (x ∷ docs) (suc id) d h = document_is docs id d (omega (arith, h))

pub section_more : (docs : List Document) (first id : ℕ) → first ≤ id → id < length docs → section docs first (id + 1) ≡ section docs first id ++ document_at docs id ∷ []
section_more docs first id low inside =
    let d = document_at docs id in
    let rest = drop first docs in
    let k : id + 1 - first ≡ id - first + 1 = omega (arith, low) in
    let at : get_or rest (id - first) d ≡ d = get_or-drop first docs (id - first) d ∙ ap (λ n. get_or docs n d) (omega (arith, low)) ∙ document_is docs id d inside in
    ap (λ n. take n rest) k ∙ take_more rest (id - first) d (omega (arith, length-drop first docs, low, inside)) ∙ ap (λ x. take (id - first) rest ++ x ∷ []) at

pub section_none : (docs : List Document) (first : ℕ) → section docs first first ≡ []
section_none docs first = let none : first - first ≡ 0 = omega arith in ap (λ n. take n (drop first docs)) none

-- where none of them is left
pub section_end : (docs : List Document) (first end id : ℕ) → id ≡ end → section docs first id ≡ section docs first end
section_end docs first end id same = ap (section docs first) same

-- what holds of all of them, and of one document more
pub All-section_more : (P : Document → Type 0) (docs : List Document) (first id : ℕ) → first ≤ id → id < length docs → All P (section docs first id) → P (document_at docs id) → All P (section docs first (id + 1))
All-section_more P docs first id low inside h p = subst (All P) (sym (section_more docs first id low inside)) (All-push P (section docs first id) (document_at docs id) h p)

-- a least or a greatest with one document more
pub folded : (f : ℕ → ℕ → ℕ) (a : ℕ) (g : Document → ℕ) (docs : List Document) (first id : ℕ) → first ≤ id → id < length docs
    → fold f a (map g (section docs first (id + 1))) ≡ f (fold f a (map g (section docs first id))) (g (document_at docs id))
folded f a g docs first id low inside =
    ap (λ ds. fold f a (map g ds)) (section_more docs first id low inside)
    ∙ ap (fold f a) (map-append g (section docs first id) (document_at docs id ∷ []))
    ∙ fold_push f a (map g (section docs first id)) (g (document_at docs id))

-- the documents of a range
pub section_range : (docs : List Document) (range first end : ℕ) → first ≡ 64 * range → end ≡ first + min (length docs - first) 64 → section docs first end ≡ range_documents docs range
section_range docs range first end is to =
    let rest = drop first docs in
    let long : length rest ≡ length docs - first = length-drop first docs in
    let count : end - first ≡ min (length rest) 64 = omega (arith, to, long) in
    ap (λ n. take n rest) count ∙ few rest ∙ ap (λ n. take 64 (drop n docs)) is
  where
    few : (xs : List Document) → take (min (length xs) 64) xs ≡ take 64 xs
    few xs = ⊎_elim
        (λ (short : length xs < 64).
        let all : min (length xs) 64 ≡ length xs = omega (arith, short) in
        ap (λ n. take n xs) all ∙ take_all (length xs) xs (omega arith) ∙ sym (take_all 64 xs (omega (arith, short))))
        (λ (long : 64 ≤ length xs). let some : min (length xs) 64 ≡ 64 = omega (arith, long) in ap (λ n. take n xs) some)
        (cases_lt (length xs) 64)
