-- Where the live docnos are distinct, none stands at two places.
use Rattle.std.proofs.Common.{◌≡◌, ◌≤◌, ◌+◌, ◌⊎◌, inl, inr, ℕ, zero, suc, Bool, true, false, List, [], ◌∷◌, ◌++◌, ◌||◌, map, get_or, refl, ap, sym, subst, ◌∙◌, arith, Some, None}
use Rattle.std.specs.List.{AllByRecursion, IsDistinct, list_any}
use Rattle.std.specs.Str.{bytes_eq}
use Rattle.std.proofs.lemmas.List.Folds.{list_any-append}
use Rattle.std.proofs.lemmas.List.Sums.{sum_by-take-le}
use Rattle.disk_index.specs.Parts.{size}
use Rattle.disk_index.specs.Snapshots.{Marked, documents_held, unmarked}
use Rattle.holdings.specs.Kept.{cell, row}
use Rattle.holdings.specs.MarkedParts.{docnos_in, docnos_of, tokens_held, tokens_in}
use Rattle.holdings.specs.Marks.{cells}
use Rattle.holdings.specs.Placing.{IsPartsFault, Repeats}
use Rattle.holdings.specs.declared.limits.Limits.{Limits}
use Rattle.holdings.specs.declared.refusals.PartsFault.{PartsFault}
use Rattle.holdings.specs.declared.refusals.PartsFault.TheVariants.{TooManyDocs, TooManyTokens, Repeated, Memory}
use Rattle.holdings.specs.declared.spot.Spot.{Spot}
use Rattle.holdings.proofs.KeptLemmas.{any-from_row, live-from_cell, or-left, or-right}
use Rattle.holdings.proofs.PlacedLemmas.{some_same}

none-any : (k : List ℕ) (xs : List (List ℕ)) → AllByRecursion (λ y. bytes_eq k y ≡ false) xs → list_any (bytes_eq k) xs ≡ true → ⊥
none-any k [] all e = cc
none-any k (x ∷ xs) all e = none-any k xs all.1 (right (bytes_eq k x) (list_any (bytes_eq k) xs) all.0 e)
  where
    right : (a b : Bool) → a ≡ false → (a || b) ≡ true → b ≡ true
    right true b f e = cc
    right false b f e = e

distinct-rest : (xs ys : List (List ℕ)) → IsDistinct bytes_eq (xs ++ ys) → IsDistinct bytes_eq ys
unfolding IsDistinct
distinct-rest [] ys d = d
distinct-rest (x ∷ xs) ys d = distinct-rest xs ys d.1

row-apart : (xs : List (List ℕ)) (ms : List Bool) (rest : List (List ℕ)) (i : ℕ) (k : List ℕ) → IsDistinct bytes_eq (unmarked xs ms ++ rest) → get_or (cells xs ms) i None ≡ Some k → list_any (bytes_eq k) rest ≡ true → ⊥
unfolding IsDistinct
row-apart [] ms rest i k d e any = cc
row-apart (x ∷ xs) [] rest i k d e any = cc
row-apart (x ∷ xs) (true ∷ ms) rest zero k d e any = cc
row-apart (x ∷ xs) (true ∷ ms) rest (suc i) k d e any = row-apart xs ms rest i k d e any
row-apart (x ∷ xs) (false ∷ ms) rest zero k d e any =
    let same : k ≡ x = sym (some_same x k e) in
    none-any x (unmarked xs ms ++ rest) d.0 (list_any-append (bytes_eq x) (unmarked xs ms) rest ∙ or-right _ _ (subst (λ (q : List ℕ). list_any (bytes_eq q) rest ≡ true) same any))
row-apart (x ∷ xs) (false ∷ ms) rest (suc i) k d e any = row-apart xs ms rest i k d.1 e any

row-once : (xs : List (List ℕ)) (ms : List Bool) (rest : List (List ℕ)) (i j : ℕ) (k : List ℕ) → IsDistinct bytes_eq (unmarked xs ms ++ rest) → get_or (cells xs ms) i None ≡ Some k → get_or (cells xs ms) j None ≡ Some k → i ≡ j
unfolding IsDistinct
row-once [] ms rest i j k d a b = cc
row-once (x ∷ xs) [] rest i j k d a b = cc
row-once (x ∷ xs) (true ∷ ms) rest zero j k d a b = cc
row-once (x ∷ xs) (true ∷ ms) rest (suc i) zero k d a b = cc
row-once (x ∷ xs) (true ∷ ms) rest (suc i) (suc j) k d a b = ap suc (row-once xs ms rest i j k d a b)
row-once (x ∷ xs) (false ∷ ms) rest zero zero k d a b = refl
row-once (x ∷ xs) (false ∷ ms) rest zero (suc j) k d a b =
    let there = any-from_row k xs ms j b in
    absurd (none-any x (unmarked xs ms ++ rest) d.0 (list_any-append (bytes_eq x) (unmarked xs ms) rest ∙ or-left _ _ (subst (λ (q : List ℕ). list_any (bytes_eq q) (unmarked xs ms) ≡ true) (sym (some_same x k a)) there)))
row-once (x ∷ xs) (false ∷ ms) rest (suc i) zero k d a b =
    let there = any-from_row k xs ms i a in
    absurd (none-any x (unmarked xs ms ++ rest) d.0 (list_any-append (bytes_eq x) (unmarked xs ms) rest ∙ or-left _ _ (subst (λ (q : List ℕ). list_any (bytes_eq q) (unmarked xs ms) ≡ true) (sym (some_same x k b)) there)))
row-once (x ∷ xs) (false ∷ ms) rest (suc i) (suc j) k d a b = ap suc (row-once xs ms rest i j k d.1 a b)

parts-once : (parts : List Marked) (p i q j : ℕ) (k : List ℕ) → IsDistinct bytes_eq (docnos_of parts) → cell (map row parts) p i ≡ Some k → cell (map row parts) q j ≡ Some k → (p ≡ q) × (i ≡ j)
parts-once [] p i q j k d a b = cc
parts-once (m ∷ ms) zero i zero j k d a b = (refl, row-once (docnos_in m.source) m.marks (docnos_of ms) i j k d a b)
parts-once (m ∷ ms) zero i (suc q) j k d a b = absurd (row-apart (docnos_in m.source) m.marks (docnos_of ms) i k d a (live-from_cell k ms q j b))
parts-once (m ∷ ms) (suc p) i zero j k d a b = absurd (row-apart (docnos_in m.source) m.marks (docnos_of ms) j k d b (live-from_cell k ms p i a))
parts-once (m ∷ ms) (suc p) i (suc q) j k d a b =
    let o = parts-once ms p i q j k (distinct-rest (unmarked (docnos_in m.source) m.marks) (docnos_of ms) d) a b in
    (ap suc o.0, o.1)

pub repeats-not : (parts : List Marked) (s : Spot) → IsDistinct bytes_eq (docnos_of parts) → Repeats parts s → ⊥
repeats-not parts s d r =
    let once = parts-once parts r.first.part r.first.id s.part s.id r.docno d r.at_first r.at_second in
    elim r.earlier [
      | inl before ↦ omega (arith, before, once.0)
      | inr inside ↦ omega (arith, inside.1, once.1)
    ]

-- parts within the limits whose live docnos are distinct can be held
pub honest-fault : (limits : Limits) (parts : List Marked) (fault : PartsFault) → IsPartsFault limits parts fault → documents_held parts ≤ limits.held_docs → tokens_held parts ≤ limits.held_tokens
    → IsDistinct bytes_eq (docnos_of parts) → fault ≡ Memory
honest-fault limits parts (TooManyDocs part) fault documents tokens distinct = absurd (omega (arith, fault.1, documents, sum_by-take-le (λ (m : Marked). size m.source) parts (part + 1)))
honest-fault limits parts (TooManyTokens part) fault documents tokens distinct = absurd (omega (arith, fault.1, tokens, sum_by-take-le (λ (m : Marked). tokens_in m.source) parts (part + 1)))
honest-fault limits parts (Repeated part id) fault documents tokens distinct = absurd (repeats-not parts (record { part = part; id = id }) distinct fault.1)
honest-fault limits parts Memory fault documents tokens distinct = refl
