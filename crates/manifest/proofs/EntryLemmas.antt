-- numbers among others
use Rattle.std.proofs.Common.{◌≡◌, ℕ, List, [], ◌∷◌, ◌++◌, refl, arith}
use Rattle.std.specs.Bool.{nat_eq}
use Rattle.std.specs.BTreeMap.{is_at}
use Rattle.std.specs.List.{list_any}
use Rattle.std.specs.Ordering.{nat_cmp}
use Rattle.std.proofs.lemmas.Bool.Decides.{nat_tests}
use Rattle.manifest.specs.Entries.{with_number, with_numbers}

same_test : (n k : ℕ) → is_at (nat_cmp n) k ≡ nat_eq n k
same_test n k = grind (arith, nat_tests)

pub number_among : (n : ℕ) (used : List ℕ) → list_any (is_at (nat_cmp n)) used ≡ list_any (nat_eq n) used
number_among n [] = refl
number_among n (k ∷ used) = rw (same_test n k, number_among n used) refl

pub one_number_more : (used ns : List ℕ) (n : ℕ) → with_numbers used (ns ++ n ∷ []) ≡ with_number (with_numbers used ns) n
one_number_more used [] n = refl
one_number_more used (k ∷ ns) n = one_number_more (with_number used k) ns n
