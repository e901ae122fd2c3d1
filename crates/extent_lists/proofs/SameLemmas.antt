-- the operators on sets that have the same extents
use Rattle.std.proofs.Common.{ℕ, inl, inr, ⊎_elim, List, [], ◌∷◌}
use Rattle.std.specs.Bool.{⊤}
use Rattle.ri_base.specs.Pair.{Pair}
use Rattle.extent_lists.specs.Operators.{HasEach, HasEachInside, IsChain, IsInSome, IsLeastEnd, IsWindow}
use Rattle.extent_lists.specs.Rows.{Lists}

-- each set has all that the other one at its place has
abbrev pub AreWithin : List (ℕ → ℕ → Type 0) → List (ℕ → ℕ → Type 0) → Type 0
AreWithin [] [] = ⊤
AreWithin [] (S ∷ ss) = ⊥
AreWithin (R ∷ rs) [] = ⊥
AreWithin (R ∷ rs) (S ∷ ss) = ((b e : ℕ) → R b e → S b e) × AreWithin rs ss

pub IsInSome-within : (rs ss : List (ℕ → ℕ → Type 0)) → AreWithin rs ss → (b e : ℕ) → IsInSome rs b e → IsInSome ss b e
IsInSome-within [] [] w b e h = h
IsInSome-within [] (S ∷ ss) w b e h = absurd w
IsInSome-within (R ∷ rs) [] w b e h = absurd w
IsInSome-within (R ∷ rs) (S ∷ ss) w b e h = ⊎_elim (λ k. inl (w.0 b e k)) (λ k. inr (IsInSome-within rs ss w.1 b e k)) h

pub HasEach-within : (rs ss : List (ℕ → ℕ → Type 0)) → AreWithin rs ss → HasEach rs → HasEach ss
HasEach-within [] [] w h = tt
HasEach-within [] (S ∷ ss) w h = absurd w
HasEach-within (R ∷ rs) [] w h = absurd w
HasEach-within (R ∷ rs) (S ∷ ss) w h = ((h.0.0, h.0.1, w.0 h.0.0 h.0.1 h.0.2), HasEach-within rs ss w.1 h.1)

pub IsChain-within : (n : ℕ) (rs ss : List (ℕ → ℕ → Type 0)) → AreWithin rs ss → (b e : ℕ) → IsChain n rs b e → IsChain n ss b e
IsChain-within n [] [] w b e h = h
IsChain-within n [] (S ∷ ss) w b e h = absurd w
IsChain-within n (R ∷ rs) [] w b e h = absurd w
IsChain-within n (R ∷ []) (S ∷ []) w b e h = w.0 b e h
IsChain-within n (R ∷ []) (S ∷ T ∷ ss) w b e h = absurd w.1
IsChain-within n (R ∷ Q ∷ rs) (S ∷ []) w b e h = absurd w.1
IsChain-within n (R ∷ Q ∷ rs) (S ∷ T ∷ ss) w b e h = (h.0, h.1, w.0 b h.0 h.2, h.3, IsChain-within n (Q ∷ rs) (T ∷ ss) w.1 h.1 e h.4)

HasEachInside-within : (rs ss : List (ℕ → ℕ → Type 0)) → AreWithin rs ss → (b e : ℕ) → HasEachInside rs b e → HasEachInside ss b e
HasEachInside-within [] [] w b e h = tt
HasEachInside-within [] (S ∷ ss) w b e h = absurd w
HasEachInside-within (R ∷ rs) [] w b e h = absurd w
HasEachInside-within (R ∷ rs) (S ∷ ss) w b e h = ((h.0.0, h.0.1, w.0 h.0.0 h.0.1 h.0.2, h.0.3), HasEachInside-within rs ss w.1 b e h.1)

pub IsWindow-within : (n : ℕ) (rs ss : List (ℕ → ℕ → Type 0)) → AreWithin rs ss → (b e : ℕ) → IsWindow n rs b e → IsWindow n ss b e
IsWindow-within n rs ss w b e h = record {
  narrow = h.narrow;
  each = HasEachInside-within rs ss w b e h.each;
  begins = (h.begins.0, h.begins.1, IsInSome-within rs ss w b h.begins.0 h.begins.2);
}

pub IsLeastEnd-same : (R S : ℕ → ℕ → Type 0) → ((b e : ℕ) → R b e → S b e) → ((b e : ℕ) → S b e → R b e) → (b e : ℕ) → IsLeastEnd R b e → IsLeastEnd S b e
IsLeastEnd-same R S to from b e h = record { ends = to b e h.ends; least = λ other k. h.least other (from b other k) }

pub Lists-same : (R S : ℕ → ℕ → Type 0) (xs : List Pair) → ((b e : ℕ) → R b e → S b e) → ((b e : ℕ) → S b e → R b e) → Lists R xs → Lists S xs
Lists-same R S xs to from l = record {
  ascending = l.ascending;
  only = λ b e h. to b e (l.only b e h);
  all = λ b e h. l.all b e (from b e h);
}

module _ (rs ss : List (ℕ → ℕ → Type 0)) (to : AreWithin rs ss) (from : AreWithin ss rs) (n : ℕ) (xs : List Pair) where
  pub Lists-chain_same : Lists (IsLeastEnd (IsChain n rs)) xs → Lists (IsLeastEnd (IsChain n ss)) xs
  Lists-chain_same l = Lists-same _ _ xs
      (λ b e h. IsLeastEnd-same (IsChain n rs) (IsChain n ss) (IsChain-within n rs ss to) (IsChain-within n ss rs from) b e h)
      (λ b e h. IsLeastEnd-same (IsChain n ss) (IsChain n rs) (IsChain-within n ss rs from) (IsChain-within n rs ss to) b e h)
      l

  pub Lists-window_same : Lists (IsLeastEnd (IsWindow n rs)) xs → Lists (IsLeastEnd (IsWindow n ss)) xs
  Lists-window_same l = Lists-same _ _ xs
      (λ b e h. IsLeastEnd-same (IsWindow n rs) (IsWindow n ss) (IsWindow-within n rs ss to) (IsWindow-within n ss rs from) b e h)
      (λ b e h. IsLeastEnd-same (IsWindow n ss) (IsWindow n rs) (IsWindow-within n ss rs from) (IsWindow-within n rs ss to) b e h)
      l
