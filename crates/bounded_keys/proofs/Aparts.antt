-- The first k with the others beside them.
use Rattle.std.proofs.Common.{◌≡◌, ◌<◌, ◌≤◌, ℕ, true, List, [], ◌∷◌, length, refl, sym, ap, subst, arith}
use Rattle.std.specs.BinaryHeap.{IsUpperBound}
use Rattle.std.specs.Cmp.{IsStrictWeakOrder, IsTotalOrder}
use Rattle.std.specs.List.{All}
use Rattle.std.specs.List.Sorted.{IsPermutation}
use Rattle.std.specs.Ordering.{is_lt}
use Rattle.std.specs.declared.cmp.Ordering.{Ordering}
use Rattle.std.proofs.lemmas.List.Elements.{All-cons, All-nil, All-weaker, All-from_recursion, recursion_from_All}
use Rattle.std.proofs.lemmas.List.Sorted.{All-permutation, IsPermutation-refl, IsPermutation-sym, IsPermutation-cons, IsPermutation-trans, IsPermutation-middle, IsPermutation-append_left, IsPermutation-append_right, ranks_by, length_permutation}
use Rattle.first_few.specs.First.{AreFirst}
use Rattle.first_few.proofs.FirstLemmas.{NotLess}
use Rattle.bounded_keys.specs.Kept.{IsApart}

module _ {X : Type 0} (order : X → X → Ordering) (total : IsTotalOrder order) where
  weak : IsStrictWeakOrder (λ (x : X) (y : X). is_lt (order x y))
  weak = ranks_by total (λ x. x)

  pub apart_first : (k : ℕ) (all held rest : List X) → IsApart order k all held rest → AreFirst order k all held
  apart_first k all held rest f = record { others = rest; split = f.split; few = f.few; full = f.full; apart = f.apart }

  pub apart_none : (k : ℕ) → IsApart order k [] [] []
  apart_none k = record { split = IsPermutation-refl []; few = omega arith; full = λ _. refl; apart = All-nil _ }

  -- there is room
  pub apart_more : (k : ℕ) (all held moved rest : List X) (x : X) → length held < k → IsPermutation (x ∷ held) moved → IsApart order k all held rest
      → IsApart order k (x ∷ all) moved rest
  apart_more k all held moved rest x room pushed f =
      record {
        split = IsPermutation-trans _ _ _ (IsPermutation-cons x _ _ f.split) (IsPermutation-append_left rest (x ∷ held) moved pushed);
        few = omega (arith, room, length_permutation (x ∷ held) moved pushed);
        full = λ _. f.full room;
        apart = subst (λ r. All (λ y. IsUpperBound order y moved) r) (sym (f.full room)) (All-nil _);
      }

  -- it is less than none that is held
  pub apart_kept : (k : ℕ) (all held rest : List X) (x : X) → k ≤ length held → IsUpperBound order x held → IsApart order k all held rest
      → IsApart order k (x ∷ all) held (x ∷ rest)
  apart_kept k all held rest x long above f =
      record {
        split = IsPermutation-trans _ _ _ (IsPermutation-cons x _ _ f.split) (IsPermutation-sym _ _ (IsPermutation-middle held x rest));
        few = f.few;
        full = λ h. absurd (omega (arith, h, long));
        apart = All-cons (λ r. IsUpperBound order r held) x rest above f.apart;
      }

  bound_moved : (r : X) (held moved : List X) → IsPermutation held moved → IsUpperBound order r held → IsUpperBound order r moved
  bound_moved r held moved p h = recursion_from_All (NotLess order r) moved (All-permutation (NotLess order r) held moved p (All-from_recursion (NotLess order r) held h))

  -- it takes the place of the greatest
  pub apart_swapped : (k : ℕ) (all held left moved rest : List X) (t x : X) → k ≤ length held → IsPermutation held (t ∷ left) → IsUpperBound order t held
      → is_lt (order x t) ≡ true → IsPermutation (x ∷ left) moved → IsApart order k all held rest → IsApart order k (x ∷ all) moved (t ∷ rest)
  apart_swapped k all held left moved rest t x long popped top less pushed f =
      let up = bound_moved t held (t ∷ left) popped top in
      record {
        split = IsPermutation-trans _ _ _ (IsPermutation-cons x _ _ (IsPermutation-trans _ _ _ f.split
            (IsPermutation-trans _ _ _ (IsPermutation-append_left rest held (t ∷ left) popped) (IsPermutation-sym _ _ (IsPermutation-middle left t rest)))))
            (IsPermutation-append_left (t ∷ rest) (x ∷ left) moved pushed);
        few = omega (arith, f.few, length_permutation held (t ∷ left) popped, length_permutation (x ∷ left) moved pushed);
        full = λ h. absurd (omega (arith, h, long, length_permutation held (t ∷ left) popped, length_permutation (x ∷ left) moved pushed));
        apart = All-cons (λ r. IsUpperBound order r moved) t rest
            (bound_moved t (x ∷ left) moved pushed (weak.one_way x t less, up.1))
            (All-weaker (λ r. IsUpperBound order r held) (λ r. IsUpperBound order r moved)
            (λ r h. let g = bound_moved r held (t ∷ left) popped h in bound_moved r (x ∷ left) moved pushed (weak.chain r t x g.0 (weak.one_way x t less), g.1)) rest f.apart);
      }

  -- which items there are then
  pub swapped_same : (held left moved : List X) (t x : X) → IsPermutation held (t ∷ left) → IsPermutation (x ∷ left) moved → IsPermutation (x ∷ held) (t ∷ moved)
  swapped_same held left moved t x popped pushed =
      IsPermutation-trans _ _ _ (IsPermutation-cons x _ _ popped) (IsPermutation-trans _ _ _ (IsPermutation-middle (x ∷ []) t left) (IsPermutation-cons t _ _ pushed))

  -- the others in another order
  pub apart_rest : (k : ℕ) (all held rest other : List X) → IsPermutation rest other → IsApart order k all held rest → IsApart order k all held other
  apart_rest k all held rest other p f =
      record {
        split = IsPermutation-trans _ _ _ f.split (IsPermutation-append_right held rest other p);
        few = f.few;
        full = λ h. none other (omega (arith, length_permutation rest other p, ap length (f.full h)));
        apart = All-permutation (λ r. IsUpperBound order r held) rest other p f.apart;
      }
    where
      none : (ys : List X) → length ys ≡ 0 → ys ≡ []
      none [] h = refl
      none (y ∷ ys) h = absurd (omega (arith, h))
