-- all of several
use Rattle.std.proofs.Common.{◌≡◌, ◌≢◌, ℕ, ◌<◌, ◌⊎◌, inl, ⊎_elim, List, [], ◌∷◌, refl, sym, subst, arith}
use Rattle.std.specs.List.{All}
use Rattle.std.proofs.lemmas.List.Elements.{All-cons, All-head, All-nil, All-tail}
use Rattle.ri_base.specs.Pair.{Pair}
use Rattle.extent_lists.specs.Operators.{HasEach}
use Rattle.extent_lists.specs.Rows.{Has, Lists, sets}

one_of : (xs : List Pair) → xs ≢ [] → (b : ℕ) × (e : ℕ) × Has xs b e
one_of [] some = absurd (some refl)
one_of (x ∷ xs) some = (x.begin, x.end, inl (refl, refl))

not_empty : (xs : List Pair) (b e : ℕ) → Has xs b e → xs ≢ []
not_empty xs b e h is = subst (λ (l : List Pair). Has l b e) is h

HasEach-from_all : (ls : List (List Pair)) → All (λ xs. xs ≢ []) ls → HasEach (sets ls)
HasEach-from_all [] h = tt
HasEach-from_all (l ∷ ls) h = (one_of l (All-head (λ (xs : List Pair). xs ≢ []) l ls h), HasEach-from_all ls (All-tail (λ (xs : List Pair). xs ≢ []) l ls h))

All-from_each : (ls : List (List Pair)) → HasEach (sets ls) → All (λ xs. xs ≢ []) ls
All-from_each [] h = All-nil (λ (xs : List Pair). xs ≢ [])
All-from_each (l ∷ ls) h = All-cons (λ (xs : List Pair). xs ≢ []) l ls (not_empty l h.0.0 h.0.1 h.0.2) (All-from_each ls h.1)

-- the one extent of a document of n tokens, where each list has one
abbrev pub IsWhole : ℕ → List (List Pair) → ℕ → ℕ → Type 0
IsWhole n ls b e = (b ≡ 0) × (e ≡ n) × (b < e) × HasEach (sets ls)

pub Lists-whole : (n : ℕ) (ls : List (List Pair)) (zs : List Pair) → 0 < n → All (λ xs. xs ≢ []) ls → zs ≡ record { begin = 0; end = n } ∷ [] → Lists (IsWhole n ls) zs
Lists-whole n ls zs some each is = rw is (record {
  ascending = (tt, tt);
  only = λ b e h. ⊎_elim (λ k. (sym k.0, sym k.1, omega (arith, k.0, k.1), HasEach-from_all ls each)) (λ k. absurd k) h;
  all = λ b e h. inl (sym h.0, sym h.1);
})

pub Lists-not_whole : (n : ℕ) (ls : List (List Pair)) (zs : List Pair) → (n ≡ 0) ⊎ (All (λ xs. xs ≢ []) ls → ⊥) → zs ≡ [] → Lists (IsWhole n ls) zs
Lists-not_whole n ls zs fails is = rw is (record {
  ascending = tt;
  only = λ b e h. absurd h;
  all = λ b e h. absurd (⊎_elim (λ k. omega (arith, k, h.1, h.2)) (λ k. k (All-from_each ls h.3)) fails);
})
