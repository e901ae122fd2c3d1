-- The number that a new file takes.
use Rattle.std.specs.Prelude.{◌≡◌, ◌≤◌, ◌<◌, ◌+◌, ◌-◌, ◌^◌, ℕ, Bool, true, false, List, min}
use Rattle.std.specs.Bool.{nat_eq}
use Rattle.std.specs.List.{list_any}

-- the number is one of these
abbrev pub is_among : ℕ → List ℕ → Bool
is_among n ns = list_any (nat_eq n) ns

-- the greatest number of 64 bits
abbrev pub greatest : ℕ
greatest = 2 ^ 64 - 1

-- the least number from 1 on that is none of these
pub record IsLeastFree (taken : List ℕ) (n : ℕ) : Type 0 where
  pub some : 1 ≤ n
  pub free : is_among n taken ≡ false
  pub least : (k : ℕ) → 1 ≤ k → k < n → is_among k taken ≡ true

-- the number of a new file: the next one, or, once that is the greatest, the least that isn't taken
pub record IsNewNumber (next : ℕ) (taken : List ℕ) (n : ℕ) : Type 0 where
  pub in_turn : next < greatest → n ≡ next
  pub at_end : next ≡ greatest → IsLeastFree taken n

-- the next number behind it; the greatest stays
abbrev pub next_after : ℕ → ℕ
next_after next = min (next + 1) greatest

-- the next number behind so many new files; the greatest stays
abbrev pub next_behind : ℕ → ℕ → ℕ
next_behind next files = min (next + files) greatest

-- the numbers that are taken, and the next one
pub record Taken : Type 0 where
  pub next : ℕ
  pub numbers : List ℕ

-- What is kept of them: all are below the next one, and those below low are among them.
pub record AreTaken (next low : ℕ) (taken : List ℕ) : Type 0 where
  pub next_some : 1 ≤ next
  pub low_some : 1 ≤ low
  pub below : (k : ℕ) → is_among k taken ≡ true → k < next
  pub filled : (k : ℕ) → 1 ≤ k → k < low → is_among k taken ≡ true
