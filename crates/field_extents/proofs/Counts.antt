-- How many positions pass a test.
use Rattle.std.proofs.Common.{◌≡◌, ℕ, suc, zero, ◌+◌, ◌-◌, ◌<◌, ◌≤◌, ⊎_elim, Bool, true, false, cond, refl, arith}
use Rattle.std.specs.List.{count_by, range_with_len}
use Rattle.std.proofs.lemmas.Bool.{cases_lt}
use Rattle.std.proofs.lemmas.List.Sums.{sum_by-cons}

-- the first position counts for itself
first_counts : (p : ℕ → Bool) (a n : ℕ) (b : Bool) → p a ≡ b → count_by p (range_with_len a (suc n)) ≡ cond b 1 0 + count_by p (range_with_len (a + 1) n)
first_counts p a n b h = rw (← h) (sum_by-cons (λ i. cond (p i) 1 0) a (range_with_len (a + 1) n))

-- two tests that agree from a on, n positions far, pass as many
pub count_by-agree : (p q : ℕ → Bool) (a n : ℕ) → ((i : ℕ) → a ≤ i → i < a + n → q i ≡ p i) → count_by q (range_with_len a n) ≡ count_by p (range_with_len a n)
count_by-agree p q a zero h = refl
count_by-agree p q a (suc n) h =
    let head : q a ≡ p a = h a (omega arith) (omega arith) in
    let rest : count_by q (range_with_len (a + 1) n) ≡ count_by p (range_with_len (a + 1) n) = count_by-agree p q (a + 1) n (λ i l u. h i (omega arith) (omega arith)) in
    let of_q : count_by q (range_with_len a (suc n)) ≡ cond (p a) 1 0 + count_by q (range_with_len (a + 1) n) = first_counts q a n (p a) head in
    let of_p : count_by p (range_with_len a (suc n)) ≡ cond (p a) 1 0 + count_by p (range_with_len (a + 1) n) = first_counts p a n (p a) refl in
    cc

-- q passes the positions from b on up to e, which p doesn't, and agrees with p at the others from a on
pub record Fills (p q : ℕ → Bool) (a n b e : ℕ) : Type 0 where
  pub before : (i : ℕ) → a ≤ i → i < b → q i ≡ p i
  pub new : (i : ℕ) → b ≤ i → i < e → p i ≡ false
  pub filled : (i : ℕ) → b ≤ i → i < e → q i ≡ true
  pub behind : (i : ℕ) → e ≤ i → i < a + n → q i ≡ p i

-- it passes that many more
pub count_by-filled : (p q : ℕ → Bool) (a n b e : ℕ) → a ≤ b → b ≤ e → e ≤ a + n → Fills p q a n b e → count_by q (range_with_len a n) ≡ count_by p (range_with_len a n) + (e - b)
count_by-filled p q a zero b e ab be en f = omega arith
count_by-filled p q a (suc n) b e ab be en f =
    let of_q : (v : Bool) → q a ≡ v → count_by q (range_with_len a (suc n)) ≡ cond v 1 0 + count_by q (range_with_len (a + 1) n) = first_counts q a n in
    let of_p : (v : Bool) → p a ≡ v → count_by p (range_with_len a (suc n)) ≡ cond v 1 0 + count_by p (range_with_len (a + 1) n) = first_counts p a n in
    let later : (c : ℕ) → a + 1 ≤ c → c ≤ e → b ≤ c → ((i : ℕ) → a + 1 ≤ i → i < c → q i ≡ p i) → count_by q (range_with_len (a + 1) n) ≡ count_by p (range_with_len (a + 1) n) + (e - c) = λ c ac ce bc same.
    count_by-filled p q (a + 1) n c e ac ce (omega arith) (record {
      before = same;
      new = λ i l u. f.new i (omega arith) u;
      filled = λ i l u. f.filled i (omega arith) u;
      behind = λ i l u. f.behind i l (omega arith);
    }) in
    ⊎_elim
    (λ (front : a < b).
    let head : q a ≡ p a = f.before a (omega arith) front in
    let rest = later b (omega arith) be (omega arith) (λ i l u. f.before i (omega arith) u) in
    omega (arith, of_q (p a) head, of_p (p a) refl))
    (λ (at : b ≤ a). ⊎_elim
    (λ (in_gap : a < e).
    let rest = later (a + 1) (omega arith) (omega arith) (omega arith) (λ i l u. absurd (omega arith)) in
    omega (arith, of_q true (f.filled a at in_gap), of_p false (f.new a at in_gap)))
    (λ (past : e ≤ a).
    let head : q a ≡ p a = f.behind a past (omega arith) in
    let rest : count_by q (range_with_len (a + 1) n) ≡ count_by p (range_with_len (a + 1) n) = count_by-agree p q (a + 1) n (λ i l u. f.behind i (omega arith) (omega arith)) in
    omega (arith, of_q (p a) head, of_p (p a) refl))
    (cases_lt a e))
    (cases_lt a b)

-- a test that fails everywhere
pub count_by-none : (p : ℕ → Bool) (a n : ℕ) → ((i : ℕ) → a ≤ i → i < a + n → p i ≡ false) → count_by p (range_with_len a n) ≡ 0
count_by-none p a zero h = refl
count_by-none p a (suc n) h =
    let first : count_by p (range_with_len a (suc n)) ≡ 0 + count_by p (range_with_len (a + 1) n) = first_counts p a n false (h a (omega arith) (omega arith)) in
    let rest : count_by p (range_with_len (a + 1) n) ≡ 0 = count_by-none p (a + 1) n (λ i l u. h i (omega arith) (omega arith)) in
    omega arith

-- a test that passes everywhere
pub count_by-all : (p : ℕ → Bool) (a n : ℕ) → ((i : ℕ) → a ≤ i → i < a + n → p i ≡ true) → count_by p (range_with_len a n) ≡ n
count_by-all p a zero h = refl
count_by-all p a (suc n) h =
    let first : count_by p (range_with_len a (suc n)) ≡ 1 + count_by p (range_with_len (a + 1) n) = first_counts p a n true (h a (omega arith) (omega arith)) in
    let rest : count_by p (range_with_len (a + 1) n) ≡ n = count_by-all p (a + 1) n (λ i l u. h i (omega arith) (omega arith)) in
    omega arith

-- of positions in two parts
pub count_by-parts : (p : ℕ → Bool) (a m n : ℕ) → count_by p (range_with_len a (m + n)) ≡ count_by p (range_with_len a m) + count_by p (range_with_len (a + m) n)
count_by-parts p a zero n =
    let none : zero + n ≡ n = omega arith in
    let here : a + zero ≡ a = omega arith in
    rw (none, here) (omega arith)
count_by-parts p a (suc m) n =
    let longer : suc m + n ≡ suc (m + n) = omega arith in
    let behind : (a + 1) + m ≡ a + suc m = omega arith in
    let of_all : count_by p (range_with_len a (suc (m + n))) ≡ cond (p a) 1 0 + count_by p (range_with_len (a + 1) (m + n)) = first_counts p a (m + n) (p a) refl in
    let of_front : count_by p (range_with_len a (suc m)) ≡ cond (p a) 1 0 + count_by p (range_with_len (a + 1) m) = first_counts p a m (p a) refl in
    let rest : count_by p (range_with_len (a + 1) (m + n)) ≡ count_by p (range_with_len (a + 1) m) + count_by p (range_with_len (a + suc m) n) = rw behind at (count_by-parts p (a + 1) m n) in
    rw longer (omega (arith, of_all, of_front, rest))
