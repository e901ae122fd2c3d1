-- Entries of the same beliefs have the same digits at every level.
use Rattle.std.proofs.Common.{◌≡◌, ◌<◌, ◌+◌, ℕ, true, false, List, [], ◌∷◌, length, drop, min, get_or, length-drop, map, refl, sym, ap, ◌∙◌, arith, ⊎_elim}
use Rattle.std.specs.Cmp.{nat_cmp_is}
use Rattle.std.specs.Ordering.{is_eq, is_ne, nat_cmp, ordering_then}
use Rattle.std.specs.declared.cmp.Ordering.{Ordering}
use Rattle.std.specs.declared.cmp.Ordering.TheVariants.{Equal, Greater, Less}
use Rattle.std.proofs.lemmas.Bool.{both_ways, cases_lt}
use Rattle.std.proofs.lemmas.List.{drop_more}
use Rattle.std.proofs.lemmas.Map.Lookups.{exact_unsigned}
use Rattle.log_chain.specs.Progress.{Progress}
use Rattle.bounded_keys.specs.Digits.{belief}
use Rattle.bounded_keys.specs.Likeness.{by_belief, by_beliefs}
use Rattle.bounded_keys.specs.LikenessLaws.{both_equal}

same_belief : (a b : Progress) → by_belief a b ≡ Equal → belief a ≡ belief b
same_belief a b e =
    let each = both_equal (nat_cmp a.p b.p) (nat_cmp a.q b.q) e in
    let p : a.p ≡ b.p = exact_unsigned a.p b.p each.0 in
    let q : a.q ≡ b.q = exact_unsigned a.q b.q each.1 in
    ap (λ n. record { p = n; q = a.q }) p ∙ ap (λ n. record { p = b.p; q = n }) q

pub same_beliefs : (xs ys : List Progress) → by_beliefs xs ys ≡ Equal → map belief xs ≡ map belief ys
same_beliefs [] [] e = refl
same_beliefs [] (y ∷ ys) e = absurd (both_ways false refl (ap is_eq e))
same_beliefs (x ∷ xs) [] e = absurd (both_ways false refl (ap is_eq e))
same_beliefs (x ∷ xs) (y ∷ ys) e =
    let each = both_equal (by_belief x y) (by_beliefs xs ys) e in
    ap (λ r. r ∷ map belief xs) (same_belief x y each.0) ∙ ap (λ rs. belief y ∷ rs) (same_beliefs xs ys each.1)

-- ---- leaf by leaf

differs : (o k : Ordering) → is_ne o ≡ true → o ≡ ordering_then o k
differs Less k e = refl
differs Equal k e = absurd (both_ways false refl e)
differs Greater k e = refl

agrees : (o k : Ordering) → is_ne o ≡ false → k ≡ ordering_then o k
agrees Less k e = absurd (both_ways true e refl)
agrees Equal k e = refl
agrees Greater k e = absurd (both_ways true e refl)

module _ (xs ys : List Progress) (i : ℕ) where
  cut : (zs : List Progress) (z : Progress) → i < length zs → z ≡ get_or zs i z → z ∷ drop (i + 1) zs ≡ drop i zs
  cut zs z within e = ap (λ a. a ∷ drop (i + 1) zs) e ∙ sym (drop_more zs i z within)

  module _ (x y : Progress) (o : Ordering) (within : i < length xs) (inside : i < length ys) (at : x ≡ get_or xs i x) (also : y ≡ get_or ys i y) (found : o ≡ by_belief x y) where
    abbrev rest : Ordering
    rest = by_beliefs (drop (i + 1) xs) (drop (i + 1) ys)

    stepped : ordering_then o rest ≡ by_beliefs (drop i xs) (drop i ys)
    stepped = ap (λ c. ordering_then c rest) found ∙ ap (λ us. by_beliefs us (y ∷ drop (i + 1) ys)) (cut xs x within at) ∙ ap (λ vs. by_beliefs (drop i xs) vs) (cut ys y inside also)

    pub differ_there : is_ne o ≡ true → o ≡ by_beliefs (drop i xs) (drop i ys)
    differ_there e = differs o rest e ∙ stepped

    pub agree_there : is_ne o ≡ false → by_beliefs (drop (i + 1) xs) (drop (i + 1) ys) ≡ by_beliefs (drop i xs) (drop i ys)
    agree_there e = agrees o rest e ∙ stepped

-- the lengths decide where nothing differs
less_lists : (us vs : List Progress) → length us ≡ 0 → 0 < length vs → Less ≡ by_beliefs us vs
less_lists [] [] e l = absurd (omega (arith, l))
less_lists [] (v ∷ vs) e l = refl
less_lists (u ∷ us) vs e l = absurd (omega (arith, e))

same_lists : (us vs : List Progress) → length us ≡ 0 → length vs ≡ 0 → Equal ≡ by_beliefs us vs
same_lists [] [] e l = refl
same_lists [] (v ∷ vs) e l = absurd (omega (arith, l))
same_lists (u ∷ us) vs e l = absurd (omega (arith, e))

more_lists : (us vs : List Progress) → 0 < length us → length vs ≡ 0 → Greater ≡ by_beliefs us vs
more_lists [] vs l e = absurd (omega (arith, l))
more_lists (u ∷ us) [] l e = refl
more_lists (u ∷ us) (v ∷ vs) l e = absurd (omega (arith, e))

pub ended : (xs ys : List Progress) (i : ℕ) → i ≡ min (length xs) (length ys) → nat_cmp (length xs) (length ys) ≡ by_beliefs (drop i xs) (drop i ys)
ended xs ys i e =
    let m = length-drop i xs in
    let n = length-drop i ys in
    ⊎_elim
    (λ l. sym (nat_cmp_is (length xs) (length ys) Less l) ∙ less_lists (drop i xs) (drop i ys) (omega (arith, e, l, m)) (omega (arith, e, l, n)))
    (λ g. ⊎_elim
    (λ l. sym (nat_cmp_is (length xs) (length ys) Greater l) ∙ more_lists (drop i xs) (drop i ys) (omega (arith, e, l, m)) (omega (arith, e, l, n)))
    (λ h. sym (nat_cmp_is (length xs) (length ys) Equal (omega (arith, g, h))) ∙ same_lists (drop i xs) (drop i ys) (omega (arith, e, g, h, m)) (omega (arith, e, g, h, n)))
    (cases_lt (length ys) (length xs)))
    (cases_lt (length xs) (length ys))
