-- What each item of a list costs.
use Rattle.std.proofs.Common.{◌≡◌, ◌≤◌, ℕ, ◌+◌, ◌*◌, List, ◌∷◌, length, ap, arith, mul-le-mul_left, ◌∙◌}

pub cost_more : {X : Type 0} (a w : ℕ) (x : X) (xs : List X) (s t : ℕ) → s ≡ a + w * length xs → t ≡ s + w → t ≡ a + w * length (x ∷ xs)
cost_more a w x xs s t e f =
    let one : length xs + 1 ≡ length (x ∷ xs) = omega arith in
    let more : t ≡ a + w * (length xs + 1) = omega (arith, e, f) in
    more ∙ ap (λ n. a + w * n) one

-- where there are at most so many
pub within_more : (a b w m n : ℕ) → a ≤ b + w * m → m ≤ n → a ≤ b + w * n
within_more a b w m n h few = omega (arith, h, mul-le-mul_left w few)
