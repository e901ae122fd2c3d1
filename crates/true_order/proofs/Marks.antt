-- What a mark tells of two hits.
use Rattle.std.proofs.Common.{ℕ, ◌≡◌, ◌<◌, ◌≤◌, ◌+◌, ◌*◌, refl, Bool, true, false, List, [], ◌∷◌, map, Option, None, Some, if◌then◌else◌}
use Rattle.std.proofs.lemmas.Bool.{and_parts, and_from, eqb-true, eq-eqb, ltb-true, ltb-false, both_ways}
use Rattle.std.specs.Prelude.{nat_lt, ◌==◌}
use Rattle.ri_base.specs.Ratio.{ratio_of}
use Rattle.ri_base.specs.declared.fraction.Fraction.{Fraction}
use Rattle.ri_base.specs.declared.hit.Hit.{Hit}
use Rattle.belief_nodes.specs.Order.{IsSame}
use Rattle.ranked_output.specs.declared.marks.Mark.TheVariants.{Below, Same, Near}
use Rattle.ranked_output.specs.Marks.{are_same, mark_of}

-- the test of the marks is the relation of beliefs
pub same_true : (xs ys : List Fraction) → are_same xs ys ≡ true → IsSame (map ratio_of xs) (map ratio_of ys)
same_true [] [] e = tt
same_true [] (y ∷ ys) e = cc
same_true (x ∷ xs) [] e = cc
same_true (x ∷ xs) (y ∷ ys) e =
    let parts = and_parts (x.p * y.q == y.p * x.q) (are_same xs ys) e in
    (eqb-true (x.p * y.q) (y.p * x.q) parts.0, same_true xs ys parts.1)

pub same_is : (xs ys : List Fraction) → IsSame (map ratio_of xs) (map ratio_of ys) → are_same xs ys ≡ true
same_is [] [] h = refl
same_is [] (y ∷ ys) h = absurd h
same_is (x ∷ xs) [] h = absurd h
same_is (x ∷ xs) (y ∷ ys) h =
    let here : (x.p * y.q == y.p * x.q) ≡ true = eq-eqb (x.p * y.q) (y.p * x.q) h.0 in
    and_from (x.p * y.q == y.p * x.q) (are_same xs ys) here (same_is xs ys h.1)

chosen_below : (same far : Bool) → (if same then Same else if far then Below else Near) ≡ Below → far ≡ true
chosen_below true far e = cc
chosen_below false true e = refl
chosen_below false false e = cc

chosen_same : (same far : Bool) → (if same then Same else if far then Below else Near) ≡ Same → same ≡ true
chosen_same true far e = refl
chosen_same false true e = cc
chosen_same false false e = cc

chosen_near : (same far : Bool) → (if same then Same else if far then Below else Near) ≡ Near
    → (same ≡ false) × (far ≡ false)
chosen_near true far e = cc
chosen_near false true e = cc
chosen_near false false e = (refl, refl)

-- the hit of the line above, of which a mark other than the first tells
pub below_is : (scale : ℕ) (o : Option Hit) (hit : Hit) → mark_of scale o hit ≡ Below
    → (above : Hit) × (o ≡ Some above) × (above.key + 2 * scale < hit.key)
below_is scale None hit e = cc
below_is scale (Some above) hit e =
    let reach = above.key + 2 * scale in
    (above, refl, ltb-true reach hit.key (chosen_below (are_same above.fractions hit.fractions) (nat_lt reach hit.key) e))

pub same_above : (scale : ℕ) (o : Option Hit) (hit : Hit) → mark_of scale o hit ≡ Same
    → (above : Hit) × (o ≡ Some above) × IsSame (map ratio_of above.fractions) (map ratio_of hit.fractions)
same_above scale None hit e = cc
same_above scale (Some above) hit e =
    let same = chosen_same (are_same above.fractions hit.fractions) (nat_lt (above.key + 2 * scale) hit.key) e in
    (above, refl, same_true above.fractions hit.fractions same)

pub near_above : (scale : ℕ) (o : Option Hit) (hit : Hit) → mark_of scale o hit ≡ Near →
    (above : Hit) × (o ≡ Some above) × (hit.key ≤ above.key + 2 * scale)
    × ¬ IsSame (map ratio_of above.fractions) (map ratio_of hit.fractions)
near_above scale None hit e = cc
near_above scale (Some above) hit e =
    let test = are_same above.fractions hit.fractions in
    let reach = above.key + 2 * scale in
    let both = chosen_near test (nat_lt reach hit.key) e in
    (above, refl, ltb-false reach hit.key both.1, λ h. both_ways test both.0 (same_is above.fractions hit.fractions h))
