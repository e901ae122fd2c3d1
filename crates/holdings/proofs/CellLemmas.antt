-- The places of documents where one is added or marked.
use Rattle.std.proofs.Common.{◌≡◌, ℕ, zero, suc, Bool, true, false, List, [], ◌∷◌, ◌++◌, length, map, set, get_or, refl, ap, sym, ◌∙◌, arith, Option, Some, None, inl, inr}
use Rattle.std.proofs.lemmas.Bool.{cases_eq}
use Rattle.disk_index.specs.Snapshots.{Marked}
use Rattle.holdings.specs.Kept.{cell, marked_at, row}
use Rattle.holdings.specs.MarkedParts.{docnos_in}
use Rattle.holdings.specs.Marks.{cells}

pub push-other : {A : Type 0} (xs : List A) (x : A) (i : ℕ) (d : A) → (i ≡ length xs → ⊥) → get_or (xs ++ x ∷ []) i d ≡ get_or xs i d
push-other [] x zero d ne = absurd (ne refl)
push-other [] x (suc i) d ne = refl
push-other (y ∷ xs) x zero d ne = refl
push-other (y ∷ xs) x (suc i) d ne = push-other xs x i d (λ e. ne (ap suc e))

pub push-last : {A : Type 0} (xs : List A) (x : A) (d : A) → get_or (xs ++ x ∷ []) (length xs) d ≡ x
push-last [] x d = refl
push-last (y ∷ xs) x d = push-last xs x d

pub past-end : {A : Type 0} (xs : List A) (d : A) → get_or xs (length xs) d ≡ d
past-end [] d = refl
past-end (y ∷ xs) d = past-end xs d

pub map-push : {A B : Type 0} (f : A → B) (xs : List A) (x : A) → map f (xs ++ x ∷ []) ≡ map f xs ++ f x ∷ []
map-push f [] x = refl
map-push f (y ∷ xs) x = ap (λ l. f y ∷ l) (map-push f xs x)

pub length-row : {A : Type 0} (xs : List A) (ms : List Bool) → length ms ≡ length xs → length (cells xs ms) ≡ length xs
length-row [] ms e = refl
length-row (x ∷ xs) [] e = absurd (omega (arith, e))
length-row (x ∷ xs) (true ∷ ms) e = ap suc (length-row xs ms (omega (arith, e)))
length-row (x ∷ xs) (false ∷ ms) e = ap suc (length-row xs ms (omega (arith, e)))

pub cells-push : {A : Type 0} (xs : List A) (ms : List Bool) (x : A) → length ms ≡ length xs → cells (xs ++ x ∷ []) (ms ++ false ∷ []) ≡ cells xs ms ++ Some x ∷ []
cells-push [] [] x e = refl
cells-push [] (m ∷ ms) x e = absurd (omega (arith, e))
cells-push (y ∷ xs) [] x e = absurd (omega (arith, e))
cells-push (y ∷ xs) (true ∷ ms) x e = ap (λ l. None ∷ l) (cells-push xs ms x (omega (arith, e)))
cells-push (y ∷ xs) (false ∷ ms) x e = ap (λ l. Some y ∷ l) (cells-push xs ms x (omega (arith, e)))

-- a place in the last part
pub cell-last : (g : List (List (Option (List ℕ)))) (r : List (Option (List ℕ))) (i : ℕ) → cell (g ++ r ∷ []) (length g) i ≡ get_or r i None
cell-last g r i = ap (λ l. get_or l i None) (push-last g r [])

pub cell-other : (g : List (List (Option (List ℕ)))) (r : List (Option (List ℕ))) (p i : ℕ) → (p ≡ length g → ⊥) → cell (g ++ r ∷ []) p i ≡ cell g p i
cell-other g r p i ne = ap (λ l. get_or l i None) (push-other g r p [] ne)

-- where the last part has one document more, the others stand where they stood
pub cell-added : (g : List (List (Option (List ℕ)))) (r : List (Option (List ℕ))) (k : List ℕ) (p i : ℕ) → (p ≡ length g → i ≡ length r → ⊥)
    → cell (g ++ (r ++ Some k ∷ []) ∷ []) p i ≡ cell (g ++ r ∷ []) p i
cell-added g r k p i ne = elim (cases_eq p (length g)) [
  | inl e ↦
      let here : cell (g ++ (r ++ Some k ∷ []) ∷ []) p i ≡ get_or (r ++ Some k ∷ []) i None = ap (λ n. cell (g ++ (r ++ Some k ∷ []) ∷ []) n i) e ∙ cell-last g (r ++ Some k ∷ []) i in
      let there : cell (g ++ r ∷ []) p i ≡ get_or r i None = ap (λ n. cell (g ++ r ∷ []) n i) e ∙ cell-last g r i in
      here ∙ push-other r (Some k) i None (ne e) ∙ sym there
  | inr away ↦ cell-other g (r ++ Some k ∷ []) p i away ∙ sym (cell-other g r p i away)
]

-- a document is marked in its part
pub cells-here : {A : Type 0} (xs : List A) (ms : List Bool) (i : ℕ) → get_or (cells xs (set ms i true)) i None ≡ None
cells-here [] ms i = refl
cells-here (x ∷ xs) [] i = refl
cells-here (x ∷ xs) (true ∷ ms) zero = refl
cells-here (x ∷ xs) (false ∷ ms) zero = refl
cells-here (x ∷ xs) (true ∷ ms) (suc i) = cells-here xs ms i
cells-here (x ∷ xs) (false ∷ ms) (suc i) = cells-here xs ms i

pub cells-there : {A : Type 0} (xs : List A) (ms : List Bool) (i j : ℕ) → (j ≡ i → ⊥) → get_or (cells xs (set ms i true)) j None ≡ get_or (cells xs ms) j None
cells-there [] ms i j ne = refl
cells-there (x ∷ xs) [] i j ne = refl
cells-there (x ∷ xs) (m ∷ ms) zero zero ne = absurd (ne refl)
cells-there (x ∷ xs) (true ∷ ms) zero (suc j) ne = refl
cells-there (x ∷ xs) (false ∷ ms) zero (suc j) ne = refl
cells-there (x ∷ xs) (true ∷ ms) (suc i) zero ne = refl
cells-there (x ∷ xs) (false ∷ ms) (suc i) zero ne = refl
cells-there (x ∷ xs) (true ∷ ms) (suc i) (suc j) ne = cells-there xs ms i j (λ e. ne (ap suc e))
cells-there (x ∷ xs) (false ∷ ms) (suc i) (suc j) ne = cells-there xs ms i j (λ e. ne (ap suc e))

pub cell-marked : (parts : List Marked) (p i : ℕ) → cell (map row (marked_at parts p i)) p i ≡ None
cell-marked [] p i = refl
cell-marked (m ∷ ms) zero i = cells-here (docnos_in m.source) m.marks i
cell-marked (m ∷ ms) (suc p) i = cell-marked ms p i

pub cell-unmarked : (parts : List Marked) (p i q j : ℕ) → (q ≡ p → j ≡ i → ⊥) → cell (map row (marked_at parts p i)) q j ≡ cell (map row parts) q j
cell-unmarked [] p i q j ne = refl
cell-unmarked (m ∷ ms) zero i zero j ne = cells-there (docnos_in m.source) m.marks i j (ne refl)
cell-unmarked (m ∷ ms) zero i (suc q) j ne = refl
cell-unmarked (m ∷ ms) (suc p) i zero j ne = refl
cell-unmarked (m ∷ ms) (suc p) i (suc q) j ne = cell-unmarked ms p i q j (λ e. ne (ap suc e))
