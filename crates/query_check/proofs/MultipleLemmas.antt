-- Common divisors and common multiples by divisibility.
use Rattle.std.proofs.Common.{◌≡◌, ℕ, zero, suc, ◌+◌, ◌*◌, ◌/◌, ◌%◌, ◌<◌, ◌≤◌, arith, refl, ◌∙◌, mul-pos, mul_comm, mul-lt-mul_of_pos_right}
use Rattle.std.specs.Int.{IsGcd, ◌∣◌}
use Rattle.std.proofs.Math.Nat.{dvd-mul_right, mul-dvd-mul_left, dvd-mul_left_of_dvd, div-mul_cancel, one-dvd, zero-div, dvd_of_mul-dvd-mul_left}
use Rattle.std.proofs.lemmas.Nat.{mod-mul-add, div-add-mod'}
use Rattle.std.proofs.lemmas.Nat.Gcd.{IsGcd-from_zero, IsGcd-from_mod, same_from_IsGcd, dvd_refl, dvd-zero, dvd_trans, dvd_antisymm, le_of_dvd}
use Rattle.query_check.specs.Multiples.{gcd_within, gcd, lcm}

gcd_within_is : (n a b : ℕ) → b ≤ n → IsGcd a b (gcd_within n a b)
unfolding gcd_within
gcd_within_is zero a b h = IsGcd-from_zero a b (omega arith)
gcd_within_is (suc n) a zero h = IsGcd-from_zero a 0 refl
gcd_within_is (suc n) a (suc b) h =
    let l : a % suc b < suc b = omega arith in
    IsGcd-from_mod a (suc b) _ (gcd_within_is n (suc b) (a % suc b) (omega arith))

pub gcd_is : (a b : ℕ) → IsGcd a b (gcd a b)
unfolding gcd
gcd_is a b = gcd_within_is b a b (omega arith)

pub gcd_zero : (a b : ℕ) → b ≤ 0 → gcd a b ≡ a
gcd_zero a b h = same_from_IsGcd a b (gcd a b) a (gcd_is a b) (IsGcd-from_zero a b (omega arith))

pub gcd_step : (a b : ℕ) → gcd b (a % b) ≡ gcd a b
gcd_step a b = same_from_IsGcd a b (gcd b (a % b)) (gcd a b) (IsGcd-from_mod a b _ (gcd_is b (a % b))) (gcd_is a b)

pub gcd_zero_left : (b : ℕ) → gcd 0 b ≡ b
gcd_zero_left b = same_from_IsGcd 0 b (gcd 0 b) b (gcd_is 0 b) (dvd-zero b, dvd_refl b, λ d p q. q)

pub gcd_assoc : (a b c : ℕ) → gcd (gcd a b) c ≡ gcd a (gcd b c)
gcd_assoc a b c =
    let ab = gcd_is a b in
    let bc = gcd_is b c in
    let a_bc = gcd_is a (gcd b c) in
    same_from_IsGcd (gcd a b) c _ _ (gcd_is (gcd a b) c) (
      ab.2 _ a_bc.0 (dvd_trans _ a_bc.1 bc.0),
      dvd_trans _ a_bc.1 bc.1,
      λ d p q. a_bc.2 d (dvd_trans d p ab.0) (bc.2 d (dvd_trans d p ab.1) q),
    )

factor_positive : (x g b : ℕ) → x * g ≡ b → 0 < b → (0 < x) × (0 < g)
factor_positive zero g b e h = absurd (omega (arith, e, h))
factor_positive (suc x) zero b e h = absurd (omega (arith, e, h))
factor_positive (suc x) (suc g) b e h = (omega arith, omega arith)

pub gcd_positive : (a b : ℕ) → 0 < b → 0 < gcd a b
gcd_positive a b h = (factor_positive (b / gcd a b) (gcd a b) b (div-mul_cancel (gcd a b) (gcd_is a b).1) h).1

pub gcd_positive_left : (a b : ℕ) → 0 < a → 0 < gcd a b
gcd_positive_left a b h = (factor_positive (a / gcd a b) (gcd a b) a (div-mul_cancel (gcd a b) (gcd_is a b).0) h).1

pub lcm_left : (a b : ℕ) → a ∣ lcm a b
unfolding lcm
lcm_left a b = dvd-mul_right a (b / gcd a b)

crossed : (a b x y g : ℕ) → x * g ≡ a → y * g ≡ b → x * b ≡ a * y
crossed a b x y g ea eb = rw (← ea, ← eb) (omega arith)

pub lcm_right : (a b : ℕ) → b ∣ lcm a b
unfolding lcm
lcm_right a b =
    let g = gcd a b in
    let h = gcd_is a b in
    let e : a / g * b ≡ a * (b / g) = crossed a b (a / g) (b / g) g (div-mul_cancel g h.0) (div-mul_cancel g h.1) in
    rw (← e) (dvd-mul_left_of_dvd b (dvd_refl b) (a / g))

pub lcm_positive : (a b : ℕ) → 0 < a → 0 < b → 0 < lcm a b
unfolding lcm
lcm_positive a b pa pb = mul-pos pa (factor_positive (b / gcd a b) (gcd a b) b (div-mul_cancel (gcd a b) (gcd_is a b).1) pb).0

-- a common multiple above 0 is one of numbers above 0
pub lcm_parts : (a b : ℕ) → 0 < lcm a b → (0 < a) × (0 < b)
unfolding lcm
lcm_parts zero b h = absurd (omega (arith, h))
lcm_parts (suc a) zero h =
    let e : zero / gcd (suc a) zero ≡ zero = zero-div (gcd (suc a) zero) in
    let h' : 0 < suc a * zero = rw e at h in
    absurd (omega (arith, h'))
lcm_parts (suc a) (suc b) h = (omega arith, omega arith)

mod_scaled : (a b c : ℕ) → 0 < c → a % b < b → a * c % (b * c) ≡ a % b * c
mod_scaled a b c pos l =
    let e : a / b * b + a % b ≡ a = div-add-mod' a b in
    let f : (a / b * b + a % b) * c ≡ a * c = rw e refl in
    let s : a * c ≡ a / b * (b * c) + a % b * c = omega arith in
    rw s (mod-mul-add (a / b) (b * c) (a % b * c) (mul-lt-mul_of_pos_right l pos))

-- the greatest common divisor of multiples is the multiple of that of the numbers
gcd_within_times : (n a b c : ℕ) → 0 < c → b ≤ n → IsGcd (a * c) (b * c) (gcd_within n a b * c)
unfolding gcd_within
gcd_within_times zero a b c pos h = IsGcd-from_zero (a * c) (b * c) (let z : b ≡ 0 = omega arith in rw z (omega arith))
gcd_within_times (suc n) a zero c pos h = IsGcd-from_zero (a * c) (0 * c) (omega arith)
gcd_within_times (suc n) a (suc b) c pos h =
    let l : a % suc b < suc b = omega arith in
    let e : a * c % (suc b * c) ≡ a % suc b * c = mod_scaled a (suc b) c pos l in
    IsGcd-from_mod (a * c) (suc b * c) _ (rw e (gcd_within_times n (suc b) (a % suc b) c pos (omega arith)))

gcd_times_is : (a b c : ℕ) → 0 < c → IsGcd (a * c) (b * c) (gcd a b * c)
unfolding gcd
gcd_times_is a b c pos = gcd_within_times b a b c pos (omega arith)

pub gcd_times : (a b c : ℕ) → 0 < c → gcd (a * c) (b * c) ≡ gcd a b * c
gcd_times a b c pos = same_from_IsGcd (a * c) (b * c) _ _ (gcd_is (a * c) (b * c)) (gcd_times_is a b c pos)

regrouped : (a x g b : ℕ) → x * g ≡ b → a * b ≡ g * (a * x)
regrouped a x g b e = rw (← e) (omega arith)

-- no common multiple is less
pub lcm_divides : (a b c : ℕ) → 0 < b → a ∣ c → b ∣ c → lcm a b ∣ c
unfolding lcm
lcm_divides a b zero pb ha hb = dvd-zero (a * (b / gcd a b))
lcm_divides a b (suc c) pb ha hb =
    let g = gcd a b in
    let e : b / g * g ≡ b = div-mul_cancel g (gcd_is a b).1 in
    let pg : 0 < g = gcd_positive a b pb in
    let x : b * a ∣ b * suc c = mul-dvd-mul_left a b ha in
    let y : a * b ∣ a * suc c = mul-dvd-mul_left b a hb in
    let x' : a * b ∣ b * suc c = rw (mul_comm b a) at x in
    let z : a * b ∣ g * suc c = (gcd_times_is a b (suc c) (omega arith)).2 (a * b) y x' in
    let p : a * b ≡ g * (a * (b / g)) = regrouped a (b / g) g b e in
    let z' : g * (a * (b / g)) ∣ g * suc c = rw p at z in
    dvd_of_mul-dvd-mul_left (a * (b / g)) pg z'

pub lcm_assoc : (a b c : ℕ) → 0 < a → 0 < b → 0 < c → lcm (lcm a b) c ≡ lcm a (lcm b c)
lcm_assoc a b c pa pb pc =
    let pbc : 0 < lcm b c = lcm_positive b c pb pc in
    let bc_in = lcm_right a (lcm b c) in
    let ab_in = lcm_left (lcm a b) c in
    let left : lcm (lcm a b) c ∣ lcm a (lcm b c) = lcm_divides (lcm a b) c _ pc
    (lcm_divides a b _ pb (lcm_left a (lcm b c)) (dvd_trans _ (lcm_left b c) bc_in))
    (dvd_trans _ (lcm_right b c) bc_in) in
    let right : lcm a (lcm b c) ∣ lcm (lcm a b) c = lcm_divides a (lcm b c) _ pbc
    (dvd_trans _ (lcm_left a b) ab_in)
    (lcm_divides b c _ pc (dvd_trans _ (lcm_right a b) ab_in) (lcm_right (lcm a b) c)) in
    dvd_antisymm left right

pub lcm_of_one : (a : ℕ) → 0 < a → lcm 1 a ≡ a
lcm_of_one a pa = dvd_antisymm (lcm_divides 1 a a pa (one-dvd a) (dvd_refl a)) (lcm_right 1 a)

pub lcm_one : (a : ℕ) → 0 < a → lcm a 1 ≡ a
lcm_one a pa = dvd_antisymm (lcm_divides a 1 a (omega arith) (dvd_refl a) (one-dvd a)) (lcm_left a 1)

pub le_lcm_left : (a b : ℕ) → 0 < a → 0 < b → a ≤ lcm a b
le_lcm_left a b pa pb = le_of_dvd (lcm_positive a b pa pb) (lcm_left a b)

pub le_lcm_right : (a b : ℕ) → 0 < a → 0 < b → b ≤ lcm a b
le_lcm_right a b pa pb = le_of_dvd (lcm_positive a b pa pb) (lcm_right a b)

-- the quotient by a divisor of a number above 0 is above 0
pub quotient_positive : (d w : ℕ) → d ∣ w → 0 < w → 0 < w / d
quotient_positive d w h pw = (factor_positive (w / d) d w (div-mul_cancel d h) pw).0

-- one number more in a common multiple
pub lcm_step : (m s c whole : ℕ) → 0 < whole → lcm m (lcm s c) ≡ whole → (lcm (lcm m s) c ≡ whole) × (0 < m) × (0 < s) × (0 < c) × (lcm m s ≤ whole)
lcm_step m s c whole pos e =
    let all : 0 < lcm m (lcm s c) = rw e pos in
    let outer = lcm_parts m (lcm s c) all in
    let inner = lcm_parts s c outer.1 in
    let moved : lcm (lcm m s) c ≡ whole = lcm_assoc m s c outer.0 inner.0 inner.1 ∙ e in
    (moved, outer.0, inner.0, inner.1, rw (← moved) (le_lcm_left (lcm m s) c (lcm_positive m s outer.0 inner.0) inner.1))
