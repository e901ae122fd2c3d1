-- texts in the order of their bytes
use Rattle.std.proofs.Common.{◌≡◌, ℕ, true, false, List, [], ◌∷◌, refl, sym, ap, ◌∙◌}
use Rattle.std.specs.Cmp.Lexicographic.{slice_cmp}
use Rattle.std.specs.List.{AllByRecursion}
use Rattle.std.specs.List.Sorted.{IsStrictlySortedBy}
use Rattle.std.specs.Ordering.{is_eq, match_ordering, nat_cmp}
use Rattle.std.specs.Str.{bytes_eq}
use Rattle.std.specs.declared.cmp.Ordering.{Ordering}
use Rattle.std.specs.declared.cmp.Ordering.TheVariants.{Less, Equal, Greater}
use Rattle.std.proofs.lemmas.Cmp.{nat_list_cmp_total, tied_itself}
use Rattle.std.proofs.lemmas.List.Elements.{All-from_recursion, All-weaker, recursion_from_All}
use Rattle.std.proofs.lemmas.Map.Text.{is_eq-slice_cmp}
use Rattle.ri_base.specs.Fields.{is_before}

pub same_itself : (a : List ℕ) → bytes_eq a a ≡ true
same_itself a = sym (is_eq-slice_cmp a a) ∙ ap is_eq (tied_itself nat_list_cmp_total a)

pub before_from_less : (a b : List ℕ) → slice_cmp nat_cmp a b ≡ Less → is_before a b ≡ true
before_from_less a b e = ap (λ o. match_ordering o true false false) e

pub less_from_before : (a b : List ℕ) → is_before a b ≡ true → slice_cmp nat_cmp a b ≡ Less
less_from_before a b h = by (slice_cmp nat_cmp a b) refl h
  where
    by : (o : Ordering) → slice_cmp nat_cmp a b ≡ o → match_ordering o true false false ≡ true → slice_cmp nat_cmp a b ≡ Less
    by Less e h = e
    by Equal e h = absurd cc
    by Greater e h = absurd cc

-- each stands behind the one before it
abbrev pub Rises : List ℕ → List (List ℕ) → Type 0
Rises before [] = Unit {0}
Rises before (x ∷ xs) = (slice_cmp nat_cmp before x ≡ Less) × Rises x xs

-- then each stands behind all before it
pub sorted_from : (before : List ℕ) (xs : List (List ℕ)) → Rises before xs → AllByRecursion (λ y. slice_cmp nat_cmp before y ≡ Less) xs × IsStrictlySortedBy (slice_cmp nat_cmp) xs
unfolding IsStrictlySortedBy
sorted_from before [] h = (tt, tt)
sorted_from before (x ∷ xs) h =
    let rest = sorted_from x xs h.1 in
    let all : AllByRecursion (λ y. slice_cmp nat_cmp before y ≡ Less) xs =
    recursion_from_All (λ y. slice_cmp nat_cmp before y ≡ Less) xs (All-weaker (λ y. slice_cmp nat_cmp x y ≡ Less) (λ y. slice_cmp nat_cmp before y ≡ Less) (λ y p. nat_list_cmp_total.trans before x y h.0 p) xs (All-from_recursion (λ y. slice_cmp nat_cmp x y ≡ Less) xs rest.0)) in
    ((h.0, all), rest)
