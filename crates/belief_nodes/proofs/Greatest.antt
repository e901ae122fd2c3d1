-- The greatest of some fractions.
use Rattle.std.proofs.Common.{◌≡◌, Bool, true, false, cond, ◌*◌, ◌<◌, ◌≤◌, List, [], ◌∷◌, ◌++◌, append_assoc, arith, refl, sym, ap, subst}
use Rattle.std.specs.Prelude.{All}
use Rattle.std.specs.List.{best_of}
use Rattle.std.proofs.Math.Nat.{le_of_mul-le-mul_right, mul-le-mul_right}
use Rattle.std.proofs.lemmas.Bool.Decides.{nat_tests}
use Rattle.std.proofs.lemmas.List.Elements.{All-append, All-cons, All-nil, Contains-append_left, Contains-append_right}
use Rattle.ri_base.specs.Ratio.{Ratio, IsBelief}
use Rattle.belief_nodes.specs.Priors.{IsGreatestOf}
use Rattle.belief_nodes.specs.Products.{is_greater, greatest_of}
use Rattle.belief_nodes.proofs.Lists.{all_first, all_rest}

abbrev IsAtMost : Ratio → Ratio → Type 0
IsAtMost r s = r.p * s.q ≤ s.p * r.q

at_most_then : (r s t : Ratio) → 0 < s.q → IsAtMost r s → IsAtMost s t → IsAtMost r t
at_most_then r s t some h h' =
    let a : r.p * s.q * t.q ≤ s.p * r.q * t.q = mul-le-mul_right t.q h in
    let b : s.p * t.q * r.q ≤ t.p * s.q * r.q = mul-le-mul_right r.q h' in
    let c : r.p * t.q * s.q ≤ t.p * r.q * s.q = omega (arith, a, b) in
    le_of_mul-le-mul_right c some

all_at_most : (xs : List Ratio) (r s : Ratio) → 0 < r.q → IsAtMost r s → All (λ x. IsAtMost x r) xs → All (λ x. IsAtMost x s) xs
all_at_most [] r s some h all = All-nil (λ x. IsAtMost x s)
all_at_most (x ∷ xs) r s some h all =
    All-cons (λ x. IsAtMost x s) x xs (at_most_then x r s some (all_first (λ x. IsAtMost x r) x xs all) h)
    (all_at_most xs r s some h (all_rest (λ x. IsAtMost x r) x xs all))

pub greatest_alone : (r : Ratio) → IsGreatestOf (r ∷ []) r
greatest_alone r = record {
  one_of = (0, omega arith, refl);
  most = All-cons (λ x. IsAtMost x r) r [] (omega arith) (All-nil (λ x. IsAtMost x r));
}

greater : Ratio → Ratio → Ratio
greater a b = cond (is_greater b a) b a

-- the greater of the greatest of two lists is the greatest of both
pub greatest_joined : (xs ys : List Ratio) (a b : Ratio) → 0 < a.q → 0 < b.q → IsGreatestOf xs a → IsGreatestOf ys b → IsGreatestOf (xs ++ ys) (cond (is_greater b a) b a)
greatest_joined xs ys a b some some' h h' = by (is_greater b a) refl
  where
    by : (v : Bool) → is_greater b a ≡ v → IsGreatestOf (xs ++ ys) (cond v b a)
    by true e = record {
      one_of = Contains-append_right xs ys b h'.one_of;
      most = All-append (λ x. IsAtMost x b) xs ys (all_at_most xs a b some (grind (arith, nat_tests)) h.most) h'.most;
    }
    by false e = record {
      one_of = Contains-append_left xs ys a h.one_of;
      most = All-append (λ x. IsAtMost x a) xs ys h.most (all_at_most ys b a some' (grind (arith, nat_tests)) h'.most);
    }

positive : (r : Ratio) → IsBelief r → 0 < r.q
positive r h = omega (arith, h.positive, h.at_most_one)

best_is : (xs ys : List Ratio) (r : Ratio) → IsBelief r → All IsBelief ys → IsGreatestOf xs r → IsGreatestOf (xs ++ ys) (best_of is_greater r ys) × IsBelief (best_of is_greater r ys)
best_is xs [] r is all h = (subst (λ l. IsGreatestOf l r) (sym (joined_nil xs)) h, is)
  where
    joined_nil : (l : List Ratio) → l ++ [] ≡ l
    joined_nil [] = refl
    joined_nil (x ∷ l) = ap (λ m. x ∷ m) (joined_nil l)
best_is xs (y ∷ ys) r is all h =
    let first : IsBelief y = all_first IsBelief y ys all in
    let both : IsGreatestOf (xs ++ y ∷ []) (cond (is_greater y r) y r) = greatest_joined xs (y ∷ []) r y (positive r is) (positive y first) h (greatest_alone y) in
    let next = best_is (xs ++ y ∷ []) ys (cond (is_greater y r) y r) (chosen (is_greater y r) first) (all_rest IsBelief y ys all) both in
    (subst (λ l. IsGreatestOf l (best_of is_greater r (y ∷ ys))) (append_assoc xs (y ∷ []) ys) next.0, next.1)
  where
    chosen : (v : Bool) → IsBelief y → IsBelief (cond v y r)
    chosen true f = f
    chosen false f = is

-- the greatest of a list of beliefs
pub greatest_is : (r : Ratio) (rs : List Ratio) → IsBelief r → All IsBelief rs → IsGreatestOf (r ∷ rs) (greatest_of (r ∷ rs)) × IsBelief (greatest_of (r ∷ rs))
unfolding greatest_of
greatest_is r rs is all = best_is (r ∷ []) rs r is all (greatest_alone r)
