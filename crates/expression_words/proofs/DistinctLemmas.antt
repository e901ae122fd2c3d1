-- Terms that were sorted, and of which equal neighbours were dropped.
use Rattle.std.proofs.Common.{◌≡◌, ℕ, List, subst, sym}
use Rattle.std.specs.Cmp.Lexicographic.{slice_cmp, texts_ties}
use Rattle.std.specs.Str.{bytes_eq}
use Rattle.std.specs.List.{Contains, dedup}
use Rattle.std.specs.List.Sorted.{IsPermutation, IsSorted, IsStrictlySortedBy}
use Rattle.std.specs.Ordering.{nat_cmp}
use Rattle.std.proofs.lemmas.Cmp.{nat_list_cmp_total, nat_list_eq_equiv}
use Rattle.std.proofs.lemmas.List.Elements.{All-contains_itself, All-weaker}
use Rattle.std.proofs.lemmas.List.Kept.{Contains-dedup, Contains-from_dedup, IsStrictlySortedBy-dedup}
use Rattle.std.proofs.lemmas.List.Sorted.{Contains-permutation, IsPermutation-sym}
use Rattle.std.proofs.lemmas.Map.Keys.{Less-from_sorted}
use Rattle.std.proofs.lemmas.Slice.Eq.{bytes_eq-Decides}
use Rattle.expression_words.specs.Words.{AreDistinct}

module _ (all sorted left : List (List ℕ)) (moved : IsPermutation all sorted) (up : IsSorted (slice_cmp nat_cmp) sorted) (kept : left ≡ dedup bytes_eq sorted) where
  back : (q : List ℕ) → Contains left q → Contains all q
  back q c = Contains-permutation sorted all q (IsPermutation-sym all sorted moved) (Contains-from_dedup bytes_eq sorted q (subst (λ l. Contains l q) kept c))

  forth : (q : List ℕ) → Contains all q → Contains left q
  forth q c = subst (λ l. Contains l q) (sym kept) (Contains-dedup nat_list_eq_equiv (λ x y e. (bytes_eq-Decides x y).0 e) sorted q (Contains-permutation all sorted q moved c))

  pub AreDistinct-sorted : AreDistinct all left
  AreDistinct-sorted = record {
    rising = λ i j d lower inside.
        Less-from_sorted (slice_cmp nat_cmp) left i j d (subst (IsStrictlySortedBy (slice_cmp nat_cmp)) (sym kept) (IsStrictlySortedBy-dedup nat_list_cmp_total texts_ties sorted up)) lower inside;
    only = All-weaker (Contains left) (Contains all) back left (All-contains_itself left);
    each = All-weaker (Contains all) (Contains left) forth all (All-contains_itself all);
  }
