-- The order of numbers.
use Rattle.std.proofs.Common.{rules, ◌≡◌, ◌<◌, ◌≤◌, ℕ, true, false, sym, ◌∙◌, nat_lt, ⊎_elim}
use Rattle.std.specs.Ordering.{is_lt, nat_cmp}
use Rattle.std.proofs.lemmas.Bool.{cases_lt, le-ltb, lt-ltb}

less_is : (m n : ℕ) → m < n → is_lt (nat_cmp m n) ≡ true
less_is m n h = search (rules, lt-ltb)

not_less_is : (m n : ℕ) → n ≤ m → is_lt (nat_cmp m n) ≡ false
not_less_is m n h = search (rules, le-ltb, lt-ltb)

pub is_lt-nat_cmp : (m n : ℕ) → is_lt (nat_cmp m n) ≡ nat_lt m n
is_lt-nat_cmp m n = ⊎_elim (λ l. less_is m n l ∙ sym (lt-ltb m n l)) (λ g. not_less_is m n g ∙ sym (le-ltb m n g)) (cases_lt m n)
