-- the least end of a range of begins
use Rattle.std.proofs.Common.{◌≡◌, ℕ, ◌+◌, ◌-◌, ◌<◌, ◌≤◌, Bool, true, false, cond, ◌&&◌, nat_le, nat_lt, ltb, get_or, Some, None, zero, suc, List, [], ◌∷◌, length, refl, subst, arith}
use Rattle.std.specs.List.Sorted.{IsNonDecreasingBy, IsPartitionPoint}
use Rattle.std.proofs.lemmas.List.Sorted.{IsNonDecreasingBy-from_default}
use Rattle.std.proofs.lemmas.Bool.Decides.{nat_tests}
use Rattle.ri_base.specs.Pair.{Pair}
use Rattle.extent_evaluation.specs.Nearest.{IsShorterAt, Leads, end_led}
use Rattle.extent_lists.specs.Rows.{begin_at, end_at}
use Rattle.extent_lists.proofs.RowLemmas.{Has-at, Has-from}
use Rattle.extent_lists.specs.Operators.{Follows}
use Rattle.extent_lists.specs.Rows.{BeginsAfter, Has, IsRising}
use Rattle.extent_evaluation.specs.Covers.{IsLeastOf}

after_at : (b : ℕ) (xs : List Pair) (k : ℕ) → BeginsAfter b xs → k < length xs → b < begin_at xs k
after_at b [] k h inside = absurd (omega (arith, inside))
after_at b (x ∷ xs) zero h inside = h.0
after_at b (x ∷ xs) (suc k) h inside = after_at b xs k h.1 (omega (arith, inside))

pub begins_rise : (xs : List Pair) → IsRising xs → (i j : ℕ) → i < j → j < length xs → begin_at xs i < begin_at xs j
begins_rise [] up i j lower inside = absurd (omega (arith, inside))
begins_rise (x ∷ xs) up zero zero lower inside = absurd (omega (arith, lower))
begins_rise (x ∷ xs) up zero (suc j) lower inside = after_at x.begin xs j up.0 (omega (arith, inside))
begins_rise (x ∷ xs) up (suc i) zero lower inside = absurd (omega (arith, lower))
begins_rise (x ∷ xs) up (suc i) (suc j) lower inside = begins_rise xs up.1 i j (omega (arith, lower)) (omega (arith, inside))

pub begins_no_later : (xs : List Pair) → IsRising xs → (i j : ℕ) → i ≤ j → j < length xs → begin_at xs i ≤ begin_at xs j
begins_no_later xs up i j lower inside = by (nat_lt i j) refl
  where
    by : (v : Bool) → nat_lt i j ≡ v → begin_at xs i ≤ begin_at xs j
    by true h = let less : begin_at xs i < begin_at xs j = begins_rise xs up i j (grind (arith, nat_tests)) inside in omega arith
    by false h = let same : i ≡ j = grind (arith, nat_tests) in subst (λ (k : ℕ). begin_at xs i ≤ begin_at xs k) same (omega arith)

module _ (xs : List Pair) (up : IsRising xs) (n low : ℕ) where
  -- past those that begin behind the range, and then to one that ends earlier
  pub Leads-on : (from count next : ℕ) → Leads xs n low from → from ≤ length xs → count ≤ from → ((k : ℕ) → count ≤ k → k < from → low + n ≤ begin_at xs k) →
      next ≤ count → (0 < count → 0 < next) → (next < count → low ≤ begin_at xs (next - 1)) → ((k : ℕ) → next ≤ k → k < count → end_at xs (next - 1) ≤ end_at xs k) → Leads xs n low next
  Leads-on from count next leads inside below others within some moved behind = λ k at_least in_list in_range.
      by k at_least in_list in_range (nat_lt k count) refl (nat_lt k from) refl
    where
      front : (k : ℕ) → next ≤ k → k < count → (0 < next) × (low ≤ begin_at xs (next - 1)) × (end_at xs (next - 1) ≤ end_at xs k)
      front k at_least lower = (some (omega arith), moved (omega arith), behind k at_least lower)

      same : next ≡ count → (k : ℕ) → (0 < count) × (low ≤ begin_at xs (count - 1)) × (end_at xs (count - 1) ≤ end_at xs k) → (0 < next) × (low ≤ begin_at xs (next - 1)) × (end_at xs (next - 1) ≤ end_at xs k)
      same e k h = rw e h

      lead : count ≡ from → (k : ℕ) → from ≤ k → k < length xs → begin_at xs k < low + n → (0 < count) × (low ≤ begin_at xs (count - 1)) × (end_at xs (count - 1) ≤ end_at xs k)
      lead e k at_least in_list in_range = rw e (leads k at_least in_list in_range)

      back : (k : ℕ) → from ≤ k → k < length xs → begin_at xs k < low + n → (v : Bool) → nat_lt next count ≡ v → (w : Bool) → nat_lt count from ≡ w → (0 < next) × (low ≤ begin_at xs (next - 1)) × (end_at xs (next - 1) ≤ end_at xs k)
      back k at_least in_list in_range v h true j =
          let lower : count < from = grind (arith, nat_tests) in
          let past : low + n ≤ begin_at xs (from - 1) = others (from - 1) (omega arith) (omega arith) in
          let rises : begin_at xs (from - 1) ≤ begin_at xs k = begins_no_later xs up (from - 1) k (omega arith) in_list in
          absurd (omega arith)
      back k at_least in_list in_range false h false j =
          same (grind (arith, nat_tests)) k (lead (grind (arith, nat_tests)) k at_least in_list in_range)
      back k at_least in_list in_range true h false j =
          let e : count ≡ from = grind (arith, nat_tests) in
          let lower : next < count = grind (arith, nat_tests) in
          let l = lead e k at_least in_list in_range in
          let b : end_at xs (next - 1) ≤ end_at xs (count - 1) = behind (count - 1) (omega arith) (omega arith) in
          (some (omega (arith, lower)), moved lower, omega (arith, b, l.2))

      by : (k : ℕ) → next ≤ k → k < length xs → begin_at xs k < low + n → (v : Bool) → nat_lt k count ≡ v → (w : Bool) → nat_lt k from ≡ w → (0 < next) × (low ≤ begin_at xs (next - 1)) × (end_at xs (next - 1) ≤ end_at xs k)
      by k at_least in_list in_range true h w j = front k at_least (grind (arith, nat_tests))
      by k at_least in_list in_range false h true j =
          let past : low + n ≤ begin_at xs k = others k (grind (arith, nat_tests)) (grind (arith, nat_tests)) in
          absurd (omega arith)
      by k at_least in_list in_range false h false j =
          back k (grind (arith, nat_tests)) in_list in_range (nat_lt next count) refl (nat_lt count from) refl

  never : {m : ℕ} → None ≡ Some m → ⊥
  never h = cc

  -- the end of the extent that leads is the least
  pub IsLeastOf-led : (count next : ℕ) → Leads xs n low next → next ≤ count → count ≤ length xs → (0 < count → begin_at xs (count - 1) < low + n) →
      ((k : ℕ) → k < next → low ≤ begin_at xs k → end_at xs (next - 1) ≤ end_at xs k) → IsLeastOf (Follows n low) xs (end_led xs low next)
  IsLeastOf-led count next leads within inside last before = by (nat_lt 0 next && nat_le low (begin_at xs (next - 1))) refl
    where
      found : 0 < next → low ≤ begin_at xs (next - 1) → IsLeastOf (Follows n low) xs (Some (end_at xs (next - 1)))
      found some begins = record {
        only = λ m h.
            let e : end_at xs (next - 1) ≡ m = cc in
            let rises : begin_at xs (next - 1) ≤ begin_at xs (count - 1) = begins_no_later xs up (next - 1) (count - 1) (omega arith) (omega arith) in
            let top : begin_at xs (count - 1) < low + n = last (omega arith) in
            (begin_at xs (next - 1), (begins, omega arith), subst (λ (v : ℕ). Has xs (begin_at xs (next - 1)) v) e (Has-from xs (next - 1) (omega arith)));
        least = λ b e f h.
            let w = Has-at xs b e h in
            (end_at xs (next - 1), refl, no_later w.0 (omega (arith, w.2, f.0)) (omega (arith, w.2, f.1)) w.1 e w.3);
      }
        where
          no_later : (k : ℕ) → low ≤ begin_at xs k → begin_at xs k < low + n → k < length xs → (e : ℕ) → end_at xs k ≡ e → end_at xs (next - 1) ≤ e
          no_later k begins_k in_range in_list e is = each (nat_lt k next) refl
            where
              each : (v : Bool) → nat_lt k next ≡ v → end_at xs (next - 1) ≤ e
              each true h = let le : end_at xs (next - 1) ≤ end_at xs k = before k (grind (arith, nat_tests)) begins_k in omega arith
              each false h = let l = leads k (grind (arith, nat_tests)) in_list in_range in omega (arith, l.2)

      none : (0 < next → low ≤ begin_at xs (next - 1) → ⊥) → IsLeastOf (Follows n low) xs None
      none fails = record {
        only = λ m h. absurd (never h);
        least = λ b e f h. let w = Has-at xs b e h in absurd (nowhere w.0 (omega (arith, w.2, f.0)) (omega (arith, w.2, f.1)) w.1);
      }
        where
          nowhere : (k : ℕ) → low ≤ begin_at xs k → begin_at xs k < low + n → k < length xs → ⊥
          nowhere k begins_k in_range in_list = each (nat_lt k next) refl
            where
              each : (v : Bool) → nat_lt k next ≡ v → ⊥
              each true h =
                  let lower : k < next = grind (arith, nat_tests) in
                  let rises : begin_at xs k ≤ begin_at xs (next - 1) = begins_no_later xs up k (next - 1) (omega arith) (omega arith) in
                  fails (omega arith) (omega arith)
              each false h = let l = leads k (grind (arith, nat_tests)) in_list in_range in fails l.0 l.1

      by : (v : Bool) → (nat_lt 0 next && nat_le low (begin_at xs (next - 1))) ≡ v → IsLeastOf (Follows n low) xs (cond v (Some (end_at xs (next - 1))) None)
      by true h = found (grind (arith, nat_tests)) (grind (arith, nat_tests))
      by false h = none (λ p q. fails h p q)
        where
          fails : (nat_lt 0 next && nat_le low (begin_at xs (next - 1))) ≡ false → 0 < next → low ≤ begin_at xs (next - 1) → ⊥
          fails h p q = grind (arith, nat_tests)

-- what stands before the extent at which the search stops
pub before_stop : (xs : List Pair) → IsRising xs → (low count next : ℕ) → 0 < count → count ≤ length xs → IsShorterAt xs (count - 1) next (end_at xs (count - 1)) → (0 < next → begin_at xs (next - 1) < low) →
    (k : ℕ) → k < count → low ≤ begin_at xs k → end_at xs (count - 1) ≤ end_at xs k
before_stop xs up low count next some inside shorter stops k lower begins = by (nat_lt k next) refl (nat_lt k (count - 1)) refl
  where
    by : (v : Bool) → nat_lt k next ≡ v → (w : Bool) → nat_lt k (count - 1) ≡ w → end_at xs (count - 1) ≤ end_at xs k
    by true h w j =
        let less : k < next = grind (arith, nat_tests) in
        let within : next ≤ count - 1 = shorter.within in
        let rises : begin_at xs k ≤ begin_at xs (next - 1) = begins_no_later xs up k (next - 1) (omega arith) (omega arith) in
        let below : begin_at xs (next - 1) < low = stops (omega arith) in
        absurd (omega arith)
    by false h true j = shorter.between k (grind (arith, nat_tests)) (grind (arith, nat_tests))
    by false h false j =
        let same : count - 1 ≡ k = grind (arith, nat_tests) in
        rw same (omega arith)

-- a range that ends no further to the right than any extent from `count` on
pub Leads-past : (xs : List Pair) (n low count : ℕ) → ((k : ℕ) → count ≤ k → k < length xs → low + n ≤ begin_at xs k) → Leads xs n low count
Leads-past xs n low count past = λ k at_least in_list in_range. absurd (omega (arith, past k at_least in_list, in_range))

pub begins_do_not_fall : (xs : List Pair) → IsRising xs → IsNonDecreasingBy (λ (x : Pair). x.begin) xs
begins_do_not_fall xs up = IsNonDecreasingBy-from_default (λ (x : Pair). x.begin) xs (record { begin = 0; end = 0 }) (begins_no_later xs up)

-- what a search for `top` among rising begins says
point_at : (xs : List Pair) (top count : ℕ) → IsPartitionPoint (λ (x : Pair). ltb x.begin top ≡ true) (λ (x : Pair). ltb x.begin top ≡ false) xs count → (k : ℕ) → k < count → begin_at xs k < top
point_at xs top count p k lower =
    let none : Pair = record { begin = 0; end = 0 } in
    let h : ltb (get_or xs k none).begin top ≡ true = p.0 k none (omega arith) lower in
    grind (arith, nat_tests)

pub point_last : (xs : List Pair) (top count : ℕ) → count ≤ length xs → IsPartitionPoint (λ (x : Pair). ltb x.begin top ≡ true) (λ (x : Pair). ltb x.begin top ≡ false) xs count → 0 < count → begin_at xs (count - 1) < top
point_last xs top count within p some = point_at xs top count p (count - 1) (omega arith)

pub point_others : (xs : List Pair) (top count : ℕ) → IsPartitionPoint (λ (x : Pair). ltb x.begin top ≡ true) (λ (x : Pair). ltb x.begin top ≡ false) xs count → (k : ℕ) → count ≤ k → k < length xs → top ≤ begin_at xs k
point_others xs top count p k at_least inside =
    let none : Pair = record { begin = 0; end = 0 } in
    let h : ltb (get_or xs k none).begin top ≡ false = p.1 k none at_least inside in
    grind (arith, nat_tests)

-- a search stays below a place whose begin isn't below `top`
pub count_within : (xs : List Pair) → IsRising xs → (top count place : ℕ) → 0 < place → place ≤ length xs → top ≤ begin_at xs (place - 1) → count ≤ length xs → (0 < count → begin_at xs (count - 1) < top) → count ≤ place
count_within xs up top count place some inside past within last = by (nat_lt place count) refl
  where
    by : (v : Bool) → nat_lt place count ≡ v → count ≤ place
    by true h =
        let more : place < count = grind (arith, nat_tests) in
        let rises : begin_at xs (place - 1) ≤ begin_at xs (count - 1) = begins_no_later xs up (place - 1) (count - 1) (omega arith) (omega arith) in
        let below : begin_at xs (count - 1) < top = last (omega arith) in
        absurd (omega arith)
    by false h = grind (arith, nat_tests)
