-- Powers of products and of powers, and bounds that multiply: an order of powers is an order of the numbers.
use Rattle.std.proofs.Common.{◌≡◌, ℕ, zero, suc, ◌+◌, ◌*◌, ◌^◌, ◌<◌, ◌≤◌, arith, ap, refl, sym, ◌∙◌, inl, inr, pow-suc, pow-add, mul-le-mul, mul-zero, mul-suc, mul_comm, one-mul}
use Rattle.std.proofs.Math.Nat.{pow-le-pow_left, pow-lt-pow_left, pow-zero, ne_of_gt}
use Rattle.std.proofs.lemmas.Bool.{cases_lt}
use Rattle.std.proofs.lemmas.Nat.{mul-pow}

pub pow-one : (b : ℕ) → b ^ 1 ≡ b
pow-one b = pow-suc b 0 ∙ ap (λ n. n * b) (pow-zero b) ∙ one-mul b

pub one-pow : (n : ℕ) → 1 ^ n ≡ 1
one-pow zero = refl
one-pow (suc n) = pow-suc 1 n ∙ omega (arith, one-pow n)

pub pow-mul : (b i j : ℕ) → b ^ (i * j) ≡ (b ^ i) ^ j
pow-mul b i zero = rw (mul-zero, pow-zero, pow-zero) refl
pow-mul b i (suc j) = rw (mul-suc, pow-suc, pow-add, pow-mul b i j) refl

pub pow-pow_comm : (b i j : ℕ) → (b ^ i) ^ j ≡ (b ^ j) ^ i
pow-pow_comm b i j = sym (pow-mul b i j) ∙ ap (λ n. b ^ n) (mul_comm i j) ∙ pow-mul b j i

pub pow-double : (b k : ℕ) → b ^ (2 ^ suc k) ≡ b ^ (2 ^ k) * b ^ (2 ^ k)
pow-double b k = let e : 2 ^ suc k ≡ 2 ^ k + 2 ^ k = rw pow-suc (omega arith) in rw e (pow-add b (2 ^ k) (2 ^ k))

pub pow_order : (a b n : ℕ) → 0 < n → a ^ n ≤ b ^ n → a ≤ b
pow_order a b n pos h = elim (cases_lt b a) [
  | inl more ↦ (let l : b ^ n < a ^ n = pow-lt-pow_left more (ne_of_gt pos) in absurd (omega arith))
  | inr le ↦ le
]

-- two lower bounds give one of the products, and one gives one of the powers
pub lower_product : (P Q P' Q' c c' : ℕ) → 2 ^ c * P ≤ Q → 2 ^ c' * P' ≤ Q' → 2 ^ (c + c') * (P * P') ≤ Q * Q'
lower_product P Q P' Q' c c' h h' = rw pow-add (let a : (2 ^ c * P) * (2 ^ c' * P') ≤ Q * Q' = mul-le-mul h h' in omega arith)

pub lower_power : (P Q c a : ℕ) → 2 ^ c * P ≤ Q → 2 ^ (c * a) * P ^ a ≤ Q ^ a
lower_power P Q c a h =
    let b : (2 ^ c * P) ^ a ≤ Q ^ a = pow-le-pow_left h a in
    let d : (2 ^ c) ^ a * P ^ a ≤ Q ^ a = rw mul-pow at b in
    rw pow-mul d

-- and the same of upper bounds
pub upper_product : (P Q P' Q' c c' : ℕ) → Q ≤ 2 ^ c * P → Q' ≤ 2 ^ c' * P' → Q * Q' ≤ 2 ^ (c + c') * (P * P')
upper_product P Q P' Q' c c' h h' = rw pow-add (let a : Q * Q' ≤ (2 ^ c * P) * (2 ^ c' * P') = mul-le-mul h h' in omega arith)

pub upper_power : (P Q c a : ℕ) → Q ≤ 2 ^ c * P → Q ^ a ≤ 2 ^ (c * a) * P ^ a
upper_power P Q c a h =
    let b : Q ^ a ≤ (2 ^ c * P) ^ a = pow-le-pow_left h a in
    let d : Q ^ a ≤ (2 ^ c) ^ a * P ^ a = rw mul-pow at b in
    rw pow-mul d
