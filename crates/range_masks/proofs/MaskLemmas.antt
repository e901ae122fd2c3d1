-- Bits of masks, and how masks are joined.
use Rattle.std.proofs.Common.{◌≡◌, ◌<◌, ◌≤◌, ℕ, zero, suc, ◌+◌, ◌*◌, ◌-◌, ◌/◌, ◌^◌, ◌%◌, ◌==◌, min, max, Bool, true, false, ◌&&◌, ◌||◌, ◌⊎◌, inl, inr, cond, List, [], ◌∷◌, length, map, take, drop, get_or, bit_and, bit_or, w64, refl, sym, ap, subst, ◌∙◌, arith}
use Rattle.std.specs.Int.{bit_at}
use Rattle.std.specs.List.{list_all, list_any}
use Rattle.std.proofs.lemmas.Bool.Decides.{eqb_tells}
use Rattle.std.proofs.lemmas.List.{take-append-drop, take_all}
use Rattle.std.proofs.lemmas.List.Folds.{list_all-append, list_all-map, list_all_more, list_any_more}
use Rattle.std.proofs.lemmas.Nat.Bits.{bit_at-lt, bit_at-zero, bit_at_and, bit_at_ones, bit_at_or, bit_at_set_other, bit_at_set_same, shr_and_one}
use Rattle.ri_base.specs.Collection.{document_at}
use Rattle.ri_base.specs.Documents.{Document}
use Rattle.ri_base.specs.Query.{filter_tree}
use Rattle.ri_base.specs.declared.query.Filter.{Filter}
use Rattle.query_check.specs.Leaves.{leaf_tree}
use Rattle.query_check.specs.declared.leaf_kind.LeafKind.{LeafKind}
use Rattle.range_masks.specs.Masks.{IsMask}
use Rattle.range_masks.specs.May.{filter_may, filters_may, leaf_may, some_may}

-- ---- bits

least : (x y : Bool) (m n : ℕ) → m ≡ cond x 1 0 → n ≡ cond y 1 0 → min m n ≡ cond (x && y) 1 0
least true true m n h k = rw (h, k) refl
least true false m n h k = rw (h, k) refl
least false true m n h k = rw (h, k) refl
least false false m n h k = rw (h, k) refl

greatest : (x y : Bool) (m n : ℕ) → m ≡ cond x 1 0 → n ≡ cond y 1 0 → max m n ≡ cond (x || y) 1 0
greatest true true m n h k = rw (h, k) refl
greatest true false m n h k = rw (h, k) refl
greatest false true m n h k = rw (h, k) refl
greatest false false m n h k = rw (h, k) refl

or_true : (b : Bool) → b || true ≡ true
or_true true = refl
or_true false = refl

pub or_false : (b : Bool) → b || false ≡ b
or_false true = refl
or_false false = refl

-- a clear bit, and the same bit
clear : (b : Bool) (n : ℕ) → n ≡ cond b 1 0 → n ≡ 0 → b ≡ false
clear true n h k = absurd (omega (arith, h, k))
clear false n h k = refl

same_bit : (b c : Bool) (n : ℕ) → n ≡ cond b 1 0 → n ≡ cond c 1 0 → b ≡ c
same_bit true true n h k = refl
same_bit true false n h k = absurd (omega (arith, h, k))
same_bit false true n h k = absurd (omega (arith, h, k))
same_bit false false n h k = refl

of_one_bit : (n : ℕ) → n < 2 → cond (n == 1) 1 0 ≡ n
of_one_bit zero h = refl
of_one_bit (suc zero) h = refl
of_one_bit (suc (suc n)) h = absurd (omega (arith, h))

-- the test of a bit, as the code makes it
pub bit_tested : (mask k : ℕ) → cond (bit_and (mask / 2 ^ k) 1 == 1) 1 0 ≡ bit_at mask k
bit_tested mask k = ap (λ n. cond (n == 1) 1 0) (shr_and_one mask k) ∙ of_one_bit (bit_at mask k) (bit_at-lt mask k)

-- one bit is set
pub bit_more : (mask k i : ℕ) (b : Bool) → k < 64 → i < 64 → bit_at mask i ≡ cond b 1 0 → bit_at (bit_or mask (1 * 2 ^ k % 2 ^ 64)) i ≡ cond (b || (k == i)) 1 0
bit_more mask k i b small inside is = go (eqb_tells k i)
  where
    go : (((k == i) ≡ true) × (k ≡ i)) ⊎ (((k == i) ≡ false) × (k ≡ i → ⊥)) → bit_at (bit_or mask (1 * 2 ^ k % 2 ^ 64)) i ≡ cond (b || (k == i)) 1 0
    go (inl h) =
        let set : bit_at (bit_or mask (1 * 2 ^ k % 2 ^ 64)) k ≡ 1 = bit_at_set_same w64 mask k small in
        subst (λ j. bit_at (bit_or mask (1 * 2 ^ k % 2 ^ 64)) j ≡ 1) h.1 set ∙ sym (ap (λ c. cond (b || c) 1 0) h.0 ∙ ap (λ c. cond c 1 0) (or_true b))
    go (inr h) =
        let stays : bit_at (bit_or mask (1 * 2 ^ k % 2 ^ 64)) i ≡ bit_at mask i = bit_at_set_other w64 mask k small i (λ e. h.1 (sym e)) in
        stays ∙ is ∙ sym (ap (λ c. cond (b || c) 1 0) h.0 ∙ ap (λ c. cond c 1 0) (or_false b))

-- ---- lists of tests

-- where the first tests fail, all do
pub stops : {X : Type 0} (test : X → Bool) (xs : List X) (i : ℕ) → list_all test (take i xs) ≡ false → list_all test xs ≡ false
stops test xs i h =
    ap (list_all test) (sym (take-append-drop i xs)) ∙ list_all-append test (take i xs) (drop i xs) ∙ ap (λ b. b && list_all test (drop i xs)) h

pub any_map : {X Y : Type 0} (test : X → Bool) (f : Y → X) (ys : List Y) → list_any test (map f ys) ≡ list_any (λ y. test (f y)) ys
any_map test f [] = refl
any_map test f (y ∷ ys) = ap (λ b. test (f y) || b) (any_map test f ys)

module _ (range : ℕ) (docs : List Document) where
  -- ---- masks

  pub IsMask-all : IsMask (λ d. true) range docs (2 ^ 64 - 1)
  IsMask-all = record { bits = λ i inside. bit_at_ones 64 i inside }

  pub IsMask-none : IsMask (λ d. false) range docs 0
  IsMask-none = record { bits = λ i inside. bit_at-zero i }

  pub IsMask-same : (p q : Document → Bool) (m : ℕ) → ((d : Document) → q d ≡ p d) → IsMask p range docs m → IsMask q range docs m
  IsMask-same p q m same h = record { bits = λ i inside. h.bits i inside ∙ ap (λ b. cond b 1 0) (sym (same (document_at docs (64 * range + i)))) }

  pub IsMask-and : (p q : Document → Bool) (m n : ℕ) → IsMask p range docs m → IsMask q range docs n → IsMask (λ d. p d && q d) range docs (bit_and m n)
  IsMask-and p q m n h k = record {
    bits = λ i inside.
        let d = document_at docs (64 * range + i) in
        bit_at_and m n i ∙ least (p d) (q d) (bit_at m i) (bit_at n i) (h.bits i inside) (k.bits i inside);
  }

  IsMask-or : (p q : Document → Bool) (m n : ℕ) → IsMask p range docs m → IsMask q range docs n → IsMask (λ d. p d || q d) range docs (bit_or m n)
  IsMask-or p q m n h k = record {
    bits = λ i inside.
        let d = document_at docs (64 * range + i) in
        bit_at_or m n i ∙ greatest (p d) (q d) (bit_at m i) (bit_at n i) (h.bits i inside) (k.bits i inside);
  }

  -- a document whose bit is clear fails the test
  pub IsMask-clear : (p : Document → Bool) (m i : ℕ) → IsMask p range docs m → i < 64 → bit_at m i ≡ 0 → p (document_at docs (64 * range + i)) ≡ false
  IsMask-clear p m i h inside zero_bit = clear (p (document_at docs (64 * range + i))) (bit_at m i) (h.bits i inside) zero_bit

  -- and each does, where all bits are clear
  pub IsMask-empty : (p : Document → Bool) (m i : ℕ) → IsMask p range docs m → m ≡ 0 → i < 64 → p (document_at docs (64 * range + i)) ≡ false
  IsMask-empty p m i h nothing inside = IsMask-clear p m i h inside (ap (λ n. bit_at n i) nothing ∙ bit_at-zero i)

  -- the test of a document is its bit
  pub IsMask-tells : (p : Document → Bool) (m id : ℕ) (b : Bool) → IsMask p range docs m → 64 * range ≤ id → id < 64 * range + 64 → cond b 1 0 ≡ bit_at m (id % 64) → p (document_at docs id) ≡ b
  IsMask-tells p m id b h from to bit =
      let here : 64 * range + id % 64 ≡ id = omega (arith, from, to) in
      let is : p (document_at docs (64 * range + id % 64)) ≡ b = same_bit (p (document_at docs (64 * range + id % 64))) b (bit_at m (id % 64)) (h.bits (id % 64) (omega arith)) (sym bit) in
      subst (λ n. p (document_at docs n) ≡ b) here is

  -- ---- one test more of a list

  module _ {X : Type 0} (test : X → Document → Bool) (xs : List X) (i : ℕ) where
    pub IsMask-each_more : (x : X) (m n : ℕ) → i < length xs → x ≡ get_or xs i x → IsMask (λ d. list_all (λ y. test y d) (take i xs)) range docs m → IsMask (test x) range docs n
        → IsMask (λ d. list_all (λ y. test y d) (take (i + 1) xs)) range docs (bit_and m n)
    IsMask-each_more x m n inside is h k =
        IsMask-same (λ d. list_all (λ y. test y d) (take i xs) && test x d) (λ d. list_all (λ y. test y d) (take (i + 1) xs)) (bit_and m n)
        (λ d. list_all_more (λ y. test y d) xs i x inside ∙ ap (λ y. list_all (λ z. test z d) (take i xs) && test y d) (sym is))
        (IsMask-and (λ d. list_all (λ y. test y d) (take i xs)) (test x) m n h k)

    pub IsMask-some_more : (x : X) (m n : ℕ) → i < length xs → x ≡ get_or xs i x → IsMask (λ d. list_any (λ y. test y d) (take i xs)) range docs m → IsMask (test x) range docs n
        → IsMask (λ d. list_any (λ y. test y d) (take (i + 1) xs)) range docs (bit_or m n)
    IsMask-some_more x m n inside is h k =
        IsMask-same (λ d. list_any (λ y. test y d) (take i xs) || test x d) (λ d. list_any (λ y. test y d) (take (i + 1) xs)) (bit_or m n)
        (λ d. list_any_more (λ y. test y d) xs i x inside ∙ ap (λ y. list_any (λ z. test z d) (take i xs) || test y d) (sym is))
        (IsMask-or (λ d. list_any (λ y. test y d) (take i xs)) (test x) m n h k)

    -- where no document passes the tests so far, none passes all
    pub IsMask-each_none : (m : ℕ) → m ≡ 0 → IsMask (λ d. list_all (λ y. test y d) (take i xs)) range docs m → IsMask (λ d. list_all (λ y. test y d) xs) range docs 0
    IsMask-each_none m nothing h = record {
      bits = λ j inside.
          let d = document_at docs (64 * range + j) in
          let fails : list_all (λ y. test y d) xs ≡ false = stops (λ y. test y d) xs i (IsMask-empty (λ e. list_all (λ y. test y e) (take i xs)) m j h nothing inside) in
          bit_at-zero j ∙ sym (ap (λ b. cond b 1 0) fails);
    }

    -- the tests of the whole list
    pub IsMask-each : (m : ℕ) → length xs ≤ i → IsMask (λ d. list_all (λ y. test y d) (take i xs)) range docs m → IsMask (λ d. list_all (λ y. test y d) xs) range docs m
    IsMask-each m past h = subst (λ ys. IsMask (λ d. list_all (λ y. test y d) ys) range docs m) (take_all i xs past) h

    pub IsMask-some : (m : ℕ) → length xs ≤ i → IsMask (λ d. list_any (λ y. test y d) (take i xs)) range docs m → IsMask (λ d. list_any (λ y. test y d) xs) range docs m
    IsMask-some m past h = subst (λ ys. IsMask (λ d. list_any (λ y. test y d) ys) range docs m) (take_all i xs past) h

  -- ---- the parts of a query

  pub IsMask-leaves : (leaves : List LeafKind) (m : ℕ) → IsMask (λ d. list_any (λ l. leaf_may (leaf_tree l) d) leaves) range docs m → IsMask (some_may (map leaf_tree leaves)) range docs m
  IsMask-leaves leaves m h =
      IsMask-same (λ d. list_any (λ l. leaf_may (leaf_tree l) d) leaves) (some_may (map leaf_tree leaves)) m (λ d. any_map (λ l. leaf_may l d) leaf_tree leaves) h

  pub IsMask-filters : (filters : List Filter) (m : ℕ) → IsMask (λ d. list_all (λ f. filter_may (filter_tree f) d) filters) range docs m → IsMask (filters_may (map filter_tree filters)) range docs m
  IsMask-filters filters m h =
      IsMask-same (λ d. list_all (λ f. filter_may (filter_tree f) d) filters) (filters_may (map filter_tree filters)) m (λ d. list_all-map (λ f. filter_may f d) filter_tree filters) h

  -- where no document passes the one test, none passes both
  pub IsMask-both_none : (p q : Document → Bool) (m : ℕ) → m ≡ 0 → IsMask p range docs m → IsMask (λ d. p d && q d) range docs 0
  IsMask-both_none p q m nothing h = record {
    bits = λ j inside.
        let d = document_at docs (64 * range + j) in
        bit_at-zero j ∙ sym (ap (λ b. cond (b && q d) 1 0) (IsMask-empty p m j h nothing inside));
  }
