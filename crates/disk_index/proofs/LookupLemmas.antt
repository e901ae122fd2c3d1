-- What a binary search finds is what a search from the front finds.
use Rattle.std.proofs.Common.{◌≡◌, ◌<◌, ◌≤◌, ◌⊎◌, ℕ, zero, suc, ◌+◌, ◌==◌, eqb, List, [], ◌∷◌, length, get_or, take, Bool, true, false, cond, Some, None, Ok, Err, refl, sym, ap, subst, ◌∙◌, inl, inr, arith}
use Rattle.std.specs.Cmp.Lexicographic.{slice_cmp}
use Rattle.std.specs.List.{All, AllPairs, find}
use Rattle.std.specs.List.Sorted.{IsBinarySearchResult, IsPartitionPoint, IsSortedBy}
use Rattle.std.specs.Ordering.{is_lt, nat_cmp, ordering_reverse}
use Rattle.std.specs.Cmp.{IsTotalOrder}
use Rattle.std.specs.declared.cmp.Ordering.{Ordering}
use Rattle.std.specs.declared.cmp.Ordering.TheVariants.{Less, Equal, Greater}
use Rattle.std.proofs.lemmas.Bool.{cases_lt, eq-eqb, false_from_ne_true, lt-ltb, ne_eqb}
use Rattle.std.proofs.lemmas.Cmp.{nat_cmp_total, nat_list_cmp_total, tied_itself}
use Rattle.std.proofs.lemmas.List.{take_all}
use Rattle.std.proofs.lemmas.List.Elements.{All-head, All-tail}
use Rattle.std.proofs.lemmas.List.Sorted.{searchable_from_sorted}
use Rattle.std.proofs.lemmas.Map.Lookups.{exact_bytes, exact_unsigned}
use Rattle.std.proofs.lemmas.Slice.Eq.{bytes_eq-Decides}
use Rattle.std.specs.Str.{bytes_eq}
use Rattle.ri_base.specs.Vocabulary.{IsTermBefore}
use Rattle.seg_codec.specs.declared.dictionary.BlockPlace.{BlockPlace}
use Rattle.seg_codec.specs.declared.dictionary.TermBlocks.{TermBlocks}
use Rattle.seg_codec.specs.declared.documents.Entry.{Entry}

module _ {K X : Type 0} (cmp : K → K → Ordering) (total : IsTotalOrder cmp) (exact : (a b : K) → cmp a b ≡ Equal → a ≡ b) (eq : K → K → Bool) (yes : (a b : K) → a ≡ b → eq a b ≡ true) (no : (a b : K) → (a ≡ b → ⊥) → eq a b ≡ false) (key : X → K) (x : K) where
  abbrev AreApart : List X → Type 0
  AreApart xs = AllPairs (λ a b. cmp (key a) (key b) ≡ Less) xs

  differ : (a b : K) → cmp a b ≡ Less → a ≡ b → ⊥
  differ a b less same =
      let again : cmp b b ≡ Less = subst (λ c. cmp c b ≡ Less) same less in
      let tied : cmp b b ≡ Equal = tied_itself total b in
      let clash : Less ≡ Equal = sym again ∙ tied in
      cc

  rest_apart : (y : X) (ys : List X) → AreApart (y ∷ ys) → AreApart ys
  rest_apart y ys all i j d lower inside = all (suc i) (suc j) d (omega (arith, lower)) (omega (arith, inside))

  find_at : (xs : List X) (i : ℕ) (d : X) → AreApart xs → i < length xs → key (get_or xs i d) ≡ x → find (λ y. eq (key y) x) xs ≡ Some (get_or xs i d)
  find_at [] i d all inside is = absurd (omega (arith, inside))
  find_at (y ∷ ys) zero d all inside is = ap (λ b. cond b (Some y) (find (λ y. eq (key y) x) ys)) (yes (key y) x is)
  find_at (y ∷ ys) (suc i) d all inside is =
      let less : cmp (key y) (key (get_or ys i d)) ≡ Less = all 0 (suc i) d (omega arith) inside in
      let test : eq (key y) x ≡ false = no (key y) x (λ same. differ (key y) (key (get_or ys i d)) less (same ∙ sym is)) in
      ap (λ b. cond b (Some y) (find (λ y. eq (key y) x) ys)) test ∙ find_at ys i d (rest_apart y ys all) (omega (arith, inside)) is

  find_none : (xs : List X) → All (λ y. key y ≡ x → ⊥) xs → find (λ y. eq (key y) x) xs ≡ None
  find_none [] all = refl
  find_none (y ∷ ys) all =
      ap (λ b. cond b (Some y) (find (λ y. eq (key y) x) ys)) (no (key y) x (All-head (λ y. key y ≡ x → ⊥) y ys all)) ∙ find_none ys (All-tail (λ y. key y ≡ x → ⊥) y ys all)

  absent : (xs : List X) (i : ℕ) → AreApart xs → IsBinarySearchResult (λ y. cmp (key y) x) xs (Err i) → All (λ y. key y ≡ x → ⊥) xs
  absent xs i all found k d inside is =
      let point = found (searchable_from_sorted total key xs x sorted) in
      sides point (cases_lt k i)
    where
      sorted : IsSortedBy (λ a b. is_lt (cmp (key a) (key b))) xs
      sorted k d low h =
          let less : cmp (key (get_or xs k d)) (key (get_or xs (k + 1) d)) ≡ Less = all k (k + 1) d (omega arith) h in
          let back : cmp (key (get_or xs (k + 1) d)) (key (get_or xs k d)) ≡ Greater = total.antisymm (key (get_or xs (k + 1) d)) (key (get_or xs k d)) ∙ ap ordering_reverse less in
          ap is_lt back

      tied : cmp (key (get_or xs k d)) x ≡ Equal
      tied = ap (λ c. cmp c x) is ∙ tied_itself total x

      sides : IsPartitionPoint (λ y. cmp (key y) x ≡ Less) (λ y. cmp (key y) x ≡ Greater) xs i → (k < i) ⊎ (i ≤ k) → ⊥
      sides p (inl h) =
          let e : cmp (key (get_or xs k d)) x ≡ Less = p.0 k d (omega arith) h in
          let clash : Less ≡ Equal = sym e ∙ tied in
          cc
      sides p (inr h) =
          let e : cmp (key (get_or xs k d)) x ≡ Greater = p.1 k d h inside in
          let clash : Greater ≡ Equal = sym e ∙ tied in
          cc

  pub found_at : (xs : List X) (i : ℕ) (d : X) → AreApart xs → i < length xs → IsBinarySearchResult (λ y. cmp (key y) x) xs (Ok i) → find (λ y. eq (key y) x) xs ≡ Some (get_or xs i d)
  found_at xs i d all inside found = find_at xs i d all inside (exact (key (get_or xs i d)) x (found d))

  pub found_none : (xs : List X) (i : ℕ) → AreApart xs → IsBinarySearchResult (λ y. cmp (key y) x) xs (Err i) → find (λ y. eq (key y) x) xs ≡ None
  found_none xs i all found = find_none xs (absent xs i all found)

bytes-no : (a b : List ℕ) → (a ≡ b → ⊥) → bytes_eq a b ≡ false
bytes-no a b ne = false_from_ne_true (bytes_eq a b) (λ e. ne ((bytes_eq-Decides a b).0 e))

bytes-yes : (a b : List ℕ) → a ≡ b → bytes_eq a b ≡ true
bytes-yes a b e = (bytes_eq-Decides a b).1 e

module _ (xs : List TermBlocks) (t : List ℕ) (i : ℕ) (all : AllPairs (λ a b. IsTermBefore a.term b.term) xs) where
  pub term_at-found : (d : TermBlocks) → i < length xs → IsBinarySearchResult (λ y. slice_cmp nat_cmp y.term t) xs (Ok i) → find (λ y. bytes_eq y.term t) xs ≡ Some (get_or xs i d)
  term_at-found d inside found = found_at (slice_cmp nat_cmp) nat_list_cmp_total (λ a b. exact_bytes a b) bytes_eq bytes-yes bytes-no (λ (y : TermBlocks). y.term) t xs i d all inside found

  pub term_at-none : IsBinarySearchResult (λ y. slice_cmp nat_cmp y.term t) xs (Err i) → find (λ y. bytes_eq y.term t) xs ≡ None
  term_at-none found = found_none (slice_cmp nat_cmp) nat_list_cmp_total (λ a b. exact_bytes a b) bytes_eq bytes-yes bytes-no (λ (y : TermBlocks). y.term) t xs i all found

-- a term of the dictionary is found at its own place
pub term_at-own : (xs : List TermBlocks) (i : ℕ) (d : TermBlocks) → AllPairs (λ a b. IsTermBefore a.term b.term) xs → i < length xs → find (λ y. bytes_eq y.term (get_or xs i d).term) xs ≡ Some (get_or xs i d)
term_at-own xs i d all inside =
    find_at (slice_cmp nat_cmp) nat_list_cmp_total (λ a b. exact_bytes a b) bytes_eq bytes-yes bytes-no (λ (y : TermBlocks). y.term) (get_or xs i d).term xs i d all inside refl

-- a term is found at a place where it stands
pub term_at-same : (xs : List TermBlocks) (t : List ℕ) (i : ℕ) (d : TermBlocks) → AllPairs (λ a b. IsTermBefore a.term b.term) xs → i < length xs → bytes_eq (get_or xs i d).term t ≡ true → find (λ y. bytes_eq y.term t) xs ≡ Some (get_or xs i d)
term_at-same xs t i d all inside same =
    find_at (slice_cmp nat_cmp) nat_list_cmp_total (λ a b. exact_bytes a b) bytes_eq bytes-yes bytes-no (λ (y : TermBlocks). y.term) t xs i d all inside ((bytes_eq-Decides (get_or xs i d).term t).0 same)

less : (a b : ℕ) → a < b → nat_cmp a b ≡ Less
less a b h = let t = lt-ltb a b h in rw t refl

module _ (xs : List BlockPlace) (r : ℕ) (i : ℕ) (all : AllPairs (λ a b. a.range < b.range) xs) where
  pairs : AllPairs (λ a b. nat_cmp a.range b.range ≡ Less) xs
  pairs m n d lower inside = less (get_or xs m d).range (get_or xs n d).range (all m n d lower inside)

  pub range_at-found : (d : BlockPlace) → i < length xs → IsBinarySearchResult (λ y. nat_cmp y.range r) xs (Ok i) → find (λ y. y.range == r) xs ≡ Some (get_or xs i d)
  range_at-found d inside found = found_at nat_cmp nat_cmp_total (λ a b. exact_unsigned a b) eqb eq-eqb ne_eqb (λ (y : BlockPlace). y.range) r xs i d pairs inside found

  pub range_at-none : IsBinarySearchResult (λ y. nat_cmp y.range r) xs (Err i) → find (λ y. y.range == r) xs ≡ None
  range_at-none found = found_none nat_cmp nat_cmp_total (λ a b. exact_unsigned a b) eqb eq-eqb ne_eqb (λ (y : BlockPlace). y.range) r xs i pairs found

-- what all elements have the one that is found has too, and it passes the test
pub find-has : {X : Type 0} (P : X → Type 0) (test : X → Bool) (xs : List X) (x : X) → All P xs → find test xs ≡ Some x → P x × (test x ≡ true)
find-has P test [] x all h = absurd cc
find-has {X} P test (y ∷ ys) x all h = by (test y) refl h (find-has P test ys x (All-tail P y ys all))
  where
    by : (b : Bool) → test y ≡ b → cond b (Some y) (find test ys) ≡ Some x → (find test ys ≡ Some x → P x × (test x ≡ true)) → P x × (test x ≡ true)
    by true e h rest = let same : y ≡ x = cc in subst (λ (z : X). P z × (test z ≡ true)) same (All-head P y ys all, e)
    by false e h rest = rest h

-- of no more documents than a range has all are taken
pub all_taken : (xs : List Entry) → length xs ≤ 64 → xs ≡ take 64 xs
all_taken xs few = sym (take_all 64 xs few)
