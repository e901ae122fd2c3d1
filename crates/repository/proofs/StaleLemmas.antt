-- A number is put among others that rise.
use Rattle.std.proofs.Common.{◌≡◌, ◌≤◌, ◌<◌, ◌+◌, ℕ, suc, cond, Bool, true, false, not, List, [], ◌∷◌, None, Some, length, nat_le, refl, ap, ◌∙◌, arith}
use Rattle.std.specs.List.{insert, position}
use Rattle.std.proofs.Math.Dec.{ltb}
use Rattle.std.proofs.lemmas.Bool.{leb-false, leb-true, ltb-false}
use Rattle.std.proofs.lemmas.Grind.{common_steps}
use Rattle.std.proofs.lemmas.List.Sums.{prefix_len-le-length}
use Rattle.manifest.specs.Listing.{AreRising, IsNoneOf}
use Rattle.repository.specs.Stale.{place_among, with_stale}

pub place-some : (n : ℕ) (ns : List ℕ) (i : ℕ) → position (λ m. nat_le n m) ns ≡ Some i → (i ≡ place_among n ns) × (i ≤ length ns)
place-some n ns i is = (grind (arith, common_steps), grind (arith, common_steps))

-- where no place is found the count of those before it is all
no-place : (i n : ℕ) (b : Bool) → ltb i n ≡ b → cond b (Some i) None ≡ None → n ≤ i
no-place i n true e is = absurd (cc)
no-place i n false e is = ltb-false i n e

pub place-none : (n : ℕ) (ns : List ℕ) → position (λ m. nat_le n m) ns ≡ None → length ns ≡ place_among n ns
place-none n ns is =
    let most = prefix_len-le-length (λ m. not (nat_le n m)) ns in
    let least : length ns ≤ place_among n ns = no-place (place_among n ns) (length ns) _ refl is in
    omega (arith, most, least)

one-plus : (k : ℕ) → 1 + k ≡ suc k
one-plus k = omega arith

pub insert-among : (n : ℕ) (ns : List ℕ) → insert ns (place_among n ns) n ≡ with_stale ns n
insert-among n [] = refl
insert-among n (m ∷ ms) = by (nat_le n m) (insert-among n ms)
  where
    by : (b : Bool) → insert ms (place_among n ms) n ≡ with_stale ms n → insert (m ∷ ms) (cond (not b) (1 + place_among n ms) 0) n ≡ cond b (n ∷ m ∷ ms) (m ∷ with_stale ms n)
    by true rest = refl
    by false rest = ap (λ i. insert (m ∷ ms) i n) (one-plus (place_among n ms)) ∙ ap (λ l. m ∷ l) rest

above : (a b : ℕ) → a ≤ b → (a ≡ b → ⊥) → a + 1 ≤ b
above a b le ne = grind (arith, ne)

pub rising-stale : (low n : ℕ) (ns : List ℕ) → AreRising low ns → low ≤ n → IsNoneOf n ns → AreRising low (with_stale ns n)
rising-stale low n [] rise least none = (least, tt)
rising-stale low n (m ∷ ms) rise least none = by (nat_le n m) refl (λ next. rising-stale (m + 1) n ms rise.1 next none.1)
  where
    by : (b : Bool) → nat_le n m ≡ b → (m + 1 ≤ n → AreRising (m + 1) (with_stale ms n)) → AreRising low (cond b (n ∷ m ∷ ms) (m ∷ with_stale ms n))
    by true e rest = (least, (above n m (leb-true n m e) none.0, rise.1))
    by false e rest = (let less : m < n = leb-false n m e in (rise.0, rest (omega (arith, less))))
