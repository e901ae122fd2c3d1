-- Fractions are told by their numbers.
use Rattle.std.proofs.Common.{◌≡◌, ◌<◌, ◌≤◌, ◌^◌, ℕ, List, [], ◌∷◌, length, map, refl, ap, subst, arith}
use Rattle.std.proofs.Math.Bridge.{le_prop}
use Rattle.ri_base.specs.Ratio.{Ratio, ratio_of}
use Rattle.ri_base.specs.declared.fraction.Fraction.{Fraction}
use Rattle.ranker.proofs.Lists.{first_same, rest_same}

fraction_by : (f : Fraction) (p q : ℕ) → f.p ≡ p → f.q ≡ q → (a : 0 < p) (b : p ≤ q) (c : q < 2 ^ 64) → f ≡ record { p = p; q = q; positive = a; at_most_one = b; fits = c }
fraction_by f p q ep eq =
    subst (λ (n : ℕ). (a : 0 < n) (b : n ≤ q) (c : q < 2 ^ 64) → f ≡ record { p = n; q = q; positive = a; at_most_one = b; fits = c }) ep
    (subst (λ (m : ℕ). (a : 0 < f.p) (b : f.p ≤ m) (c : m < 2 ^ 64) → f ≡ record { p = f.p; q = m; positive = a; at_most_one = b; fits = c }) eq
    (λ a b c i. record { p = f.p; q = f.q; positive = le_prop f.positive a i; at_most_one = le_prop f.at_most_one b i; fits = le_prop f.fits c i }))

fraction_same : (f g : Fraction) → ratio_of f ≡ ratio_of g → f ≡ g
fraction_same f g e = fraction_by f g.p g.q (ap (λ (r : Ratio). r.p) e) (ap (λ (r : Ratio). r.q) e) g.positive g.at_most_one g.fits

pub fractions_same : (fs gs : List Fraction) → map ratio_of fs ≡ map ratio_of gs → fs ≡ gs
fractions_same [] [] e = refl
fractions_same [] (g ∷ gs) e = let short : length (map ratio_of []) ≡ length (map ratio_of (g ∷ gs)) = ap length e in absurd (omega (arith, short))
fractions_same (f ∷ fs) [] e = let long : length (map ratio_of (f ∷ fs)) ≡ length (map ratio_of []) = ap length e in absurd (omega (arith, long))
fractions_same (f ∷ fs) (g ∷ gs) e = λ i. fraction_same f g (first_same _ _ _ _ e) i ∷ fractions_same fs gs (rest_same _ _ _ _ e) i
