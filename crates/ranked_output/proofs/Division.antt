-- Long division: one digit more at each step.
use Rattle.std.proofs.Common.{ℕ, suc, ◌≡◌, ◌+◌, ◌*◌, ◌/◌, ◌%◌, ◌^◌, ◌<◌, arith, sym, ◌∙◌, ap, refl, List, [], ◌∷◌, ◌++◌, append_assoc, mul_assoc, add-one}
use Rattle.std.proofs.Math.Nat.{mul-lt-mul_of_pos_left, pow-succ'}
use Rattle.std.specs.Fmt.{decimal}
use Rattle.std.proofs.lemmas.Nat.{div-mul-add, mod-mul-add, mod_below, div_below, div-add-mod'}
use Rattle.ranked_output.specs.Texts.{last_digits, score_text}

-- m times a number whose quotient is known: its quotient is m times that one and what m times the rest gives
split : (m n d : ℕ) → m * n ≡ (m * (n / d) + m * (n % d) / d) * d + m * (n % d) % d
split m n d =
    let whole : n / d * d + n % d ≡ n = div-add-mod' n d in
    let part : m * (n % d) / d * d + m * (n % d) % d ≡ m * (n % d) = div-add-mod' (m * (n % d)) d in
    let e : m * n ≡ m * (n / d * d + n % d) = ap (λ k. m * k) (sym whole) in
    omega arith

times-div : (m n d : ℕ) → 0 < d → m * n / d ≡ m * (n / d) + m * (n % d) / d
times-div m n d some =
    let k = m * (n % d) in
    ap (λ a. a / d) (split m n d) ∙ div-mul-add (m * (n / d) + k / d) d (k % d) (mod_below k d some)

times-mod : (m n d : ℕ) → 0 < d → m * n % d ≡ m * (n % d) % d
times-mod m n d some =
    let k = m * (n % d) in
    ap (λ a. a % d) (split m n d) ∙ mod-mul-add (m * (n / d) + k / d) d (k % d) (mod_below k d some)

-- what m times the rest gives is below m
next_below : (m n d : ℕ) → 0 < m → 0 < d → m * (n % d) / d < m
next_below m n d more some = div_below (m * (n % d)) d m some (mul-lt-mul_of_pos_left (mod_below n d some) more)

-- the front of a longer quotient is the shorter one, and behind it stands what the rest gives
front : (m n d : ℕ) → 0 < m → 0 < d → m * n / d / m ≡ n / d
front m n d more some =
    let e : m * n / d ≡ n / d * m + m * (n % d) / d = omega (arith, times-div m n d some) in
    ap (λ k. k / m) e ∙ div-mul-add (n / d) m (m * (n % d) / d) (next_below m n d more some)

last : (m n d : ℕ) → 0 < m → 0 < d → m * n / d % m ≡ m * (n % d) / d
last m n d more some =
    let e : m * n / d ≡ n / d * m + m * (n % d) / d = omega (arith, times-div m n d some) in
    ap (λ k. k % m) e ∙ mod-mul-add (n / d) m (m * (n % d) / d) (next_below m n d more some)

power_more : (k x : ℕ) → 10 ^ suc k * x ≡ 10 * (10 ^ k * x)
power_more k x = ap (λ p. p * x) (pow-succ' 10 k) ∙ mul_assoc 10 (10 ^ k) x

-- one digit more
digit_more : (k x d : ℕ) → 0 < d
    → last_digits (suc k) (10 ^ suc k * x / d) ≡ last_digits k (10 ^ k * x / d) ++ (48 + 10 * (10 ^ k * x % d) / d) ∷ []
unfolding last_digits
digit_more k x d some =
    let n = 10 ^ k * x in
    let shorter = front 10 n d (omega arith) some in
    let digit = last 10 n d (omega arith) some in
    ap (λ m. last_digits (suc k) (m / d)) (power_more k x)
    ∙ ap (λ m. last_digits k m ++ (48 + 10 * n / d % 10) ∷ []) shorter
    ∙ ap (λ m. last_digits k (n / d) ++ (48 + m) ∷ []) digit

-- the rest behind it
rest_more : (k x d : ℕ) → 0 < d → 10 ^ suc k * x % d ≡ 10 * (10 ^ k * x % d) % d
rest_more k x d some = ap (λ m. m % d) (power_more k x) ∙ times-mod 10 (10 ^ k * x) d some

-- no digit
no_digits : (n : ℕ) → last_digits 0 n ≡ []
unfolding last_digits
no_digits n = refl

-- the text of x / d with so many places behind the point, and what is left of the division
pub record IsDivided (x d places rest : ℕ) (text : List ℕ) : Type 0 where
  pub digits : text ≡ decimal (x / d) ++ 46 ∷ last_digits places (10 ^ places * x / d)
  pub left : rest ≡ 10 ^ places * x % d

pub first : (x d : ℕ) (text : List ℕ) → text ≡ decimal (x / d) ++ 46 ∷ [] → IsDivided x d 0 (x % d) text
first x d text e =
    let one : x ≡ 1 * x = omega arith in
    record {
      digits = e ∙ ap (λ ds. decimal (x / d) ++ 46 ∷ ds) (sym (no_digits (1 * x / d)));
      left = ap (λ n. n % d) one;
    }

pub next : (x d places rest : ℕ) (text longer : List ℕ) → 0 < d → IsDivided x d places rest text
    → longer ≡ text ++ (48 + 10 * rest / d) ∷ [] → IsDivided x d (places + 1) (10 * rest % d) longer
next x d places rest text longer some h e =
    let whole = decimal (x / d) in
    let so_far = last_digits places (10 ^ places * x / d) in
    let digit = ap (λ r. so_far ++ (48 + 10 * r / d) ∷ []) (sym h.left) in
    let digits = digit_more places x d some ∙ digit in
    rw (add-one places) (record {
      digits = e ∙ ap (λ t. t ++ (48 + 10 * rest / d) ∷ []) h.digits
          ∙ append_assoc whole (46 ∷ so_far) ((48 + 10 * rest / d) ∷ []) ∙ ap (λ ds. whole ++ 46 ∷ ds) (sym digits);
      left = ap (λ r. 10 * r % d) h.left ∙ sym (rest_more places x d some);
    })

-- six places make the text of a score
pub six_places : (x d rest : ℕ) (text : List ℕ) → 0 < d → IsDivided x d 6 rest text → text ≡ score_text (x * 1000000 / d)
six_places x d rest text some h =
    let turned : 1000000 * x ≡ x * 1000000 = omega arith in
    let shorter = front 1000000 x d (omega arith) some in
    let whole : x / d ≡ x * 1000000 / d / 1000000 = sym shorter ∙ ap (λ n. n / d / 1000000) turned in
    h.digits ∙ ap (λ n. decimal (x / d) ++ 46 ∷ last_digits 6 (n / d)) turned
    ∙ ap (λ n. decimal n ++ 46 ∷ last_digits 6 (x * 1000000 / d)) whole
