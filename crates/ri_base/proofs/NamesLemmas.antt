-- the distinct names of fields, as a sort and the drop of equal neighbours give them
use Rattle.std.proofs.Common.{◌≡◌, ℕ, List, get_or, true, sym, subst, ◌∙◌}
use Rattle.std.specs.Cmp.Lexicographic.{slice_cmp, texts_ties}
use Rattle.std.specs.Str.{bytes_eq}
use Rattle.std.proofs.lemmas.Slice.Eq.{bytes_eq-Decides}
use Rattle.std.specs.List.{Contains, dedup}
use Rattle.std.specs.List.Sorted.{IsPermutation, IsSorted, IsStrictlySortedBy}
use Rattle.std.specs.Ordering.{eq_by_cmp, nat_cmp}
use Rattle.std.specs.declared.cmp.Ordering.TheVariants.{Less, Equal}
use Rattle.std.proofs.lemmas.Cmp.{nat_list_cmp_total, nat_list_eq_equiv, tied_itself}
use Rattle.std.proofs.lemmas.List.Elements.{All-contains_itself, All-weaker}
use Rattle.std.proofs.lemmas.List.Kept.{Contains-dedup, Contains-from_dedup, IsStrictlySortedBy-dedup}
use Rattle.std.proofs.lemmas.List.Sorted.{Contains-permutation, IsPermutation-sym}
use Rattle.std.proofs.lemmas.Map.Keys.{Less-from_sorted}
use Rattle.ri_base.specs.Collection.{names_of}
use Rattle.ri_base.specs.Documents.{Field}
use Rattle.ri_base.specs.Names.{AreNames}

module _ (fields : List Field) (names sorted left : List (List ℕ)) (is : names ≡ names_of fields) (moved : IsPermutation names sorted)
    (up : IsSorted (slice_cmp nat_cmp) sorted) (kept : left ≡ dedup bytes_eq sorted) where
  pub AreNames-sorted : AreNames left fields
  AreNames-sorted = record {
    distinct = λ i j d lower inside same.
        let rises : IsStrictlySortedBy (slice_cmp nat_cmp) left = subst (IsStrictlySortedBy (slice_cmp nat_cmp)) (sym kept) (IsStrictlySortedBy-dedup nat_list_cmp_total bytes_ties sorted up) in
        let less : slice_cmp nat_cmp (get_or left i d) (get_or left j d) ≡ Less = Less-from_sorted (slice_cmp nat_cmp) left i j d rises lower inside in
        never (get_or left i d) (get_or left j d) less same;
    only = All-weaker (Contains left) (Contains (names_of fields)) back left (All-contains_itself left);
    all = All-weaker (Contains (names_of fields)) (Contains left) forth (names_of fields) (All-contains_itself (names_of fields));
  }
    where
      exact : (x y : List ℕ) → bytes_eq x y ≡ true → x ≡ y
      exact x y e = (bytes_eq-Decides x y).0 e

      never : (x y : List ℕ) → slice_cmp nat_cmp x y ≡ Less → x ≡ y → ⊥
      never x y less same =
          let again : slice_cmp nat_cmp y y ≡ Less = subst (λ z. slice_cmp nat_cmp z y ≡ Less) same less in
          let tied : slice_cmp nat_cmp y y ≡ Equal = tied_itself nat_list_cmp_total y in
          let clash : Less ≡ Equal = sym again ∙ tied in
          cc

      bytes_ties : (x y : List ℕ) → bytes_eq x y ≡ eq_by_cmp (slice_cmp nat_cmp) x y
      bytes_ties = texts_ties

      back : (q : List ℕ) → Contains left q → Contains (names_of fields) q
      back q c = subst (λ l. Contains l q) is
          (Contains-permutation sorted names q (IsPermutation-sym names sorted moved) (Contains-from_dedup bytes_eq sorted q (subst (λ l. Contains l q) kept c)))

      forth : (q : List ℕ) → Contains (names_of fields) q → Contains left q
      forth q c = subst (λ l. Contains l q) (sym kept)
          (Contains-dedup nat_list_eq_equiv exact sorted q (Contains-permutation names sorted q moved (subst (λ l. Contains l q) (sym is) c)))
