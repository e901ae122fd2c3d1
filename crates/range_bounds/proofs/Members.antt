-- Numbers that a list has, each counted once.
use Rattle.std.proofs.Common.{◌≡◌, ◌<◌, ◌≤◌, ℕ, zero, suc, Bool, true, false, cond, nat_eq, List, [], ◌∷◌, ◌++◌, length, refl, sym, ap, ◌∙◌, subst, arith, ⊎_elim}
use Rattle.std.specs.Set.{distinct_count, is_member, remove_key, unique_keys}
use Rattle.std.proofs.lemmas.Bool.{both_ways, cases_Bool, cases_lt, eqb-true, eq-eqb, or_cases, or_left, or_right, false_from_ne_true}
use Rattle.std.proofs.lemmas.Map.Made.{length-remove_key}
use Rattle.ri_base.specs.declared.limits.TheConstants.{MAX_DOC_TOKENS}
use Rattle.range_bounds.specs.Most.{capped}

-- the extents of the set begin at no more places than m
abbrev pub HasFew : ℕ → (ℕ → ℕ → Type 0) → Type 0
HasFew m R = (begins : List ℕ) × (length begins ≤ m) × ((b e : ℕ) → R b e → is_member nat_eq begins b ≡ true)

pub member_left : (xs ys : List ℕ) (q : ℕ) → is_member nat_eq xs q ≡ true → is_member nat_eq (xs ++ ys) q ≡ true
member_left [] ys q h = absurd (both_ways false refl h)
member_left (x ∷ xs) ys q h = ⊎_elim (λ e. or_left (nat_eq q x) _ e) (λ e. or_right (nat_eq q x) _ (member_left xs ys q e)) (or_cases (nat_eq q x) (is_member nat_eq xs q) h)

pub member_right : (xs ys : List ℕ) (q : ℕ) → is_member nat_eq ys q ≡ true → is_member nat_eq (xs ++ ys) q ≡ true
member_right [] ys q h = h
member_right (x ∷ xs) ys q h = or_right (nat_eq q x) _ (member_right xs ys q h)

member_removed : (x : ℕ) (bs : List ℕ) (q : ℕ) → is_member nat_eq bs q ≡ true → nat_eq q x ≡ false → is_member nat_eq (remove_key (nat_eq x) bs) q ≡ true
member_removed x [] q h ne = h
member_removed x (b ∷ bs) q h ne = ⊎_elim
    (λ same. ap (λ c. is_member nat_eq (cond c bs (b ∷ remove_key (nat_eq x) bs)) q) same
    ∙ ⊎_elim (λ e. absurd (both_ways _ ne (eq-eqb q x (eqb-true q b e ∙ sym (eqb-true x b same))))) (λ e. e) (or_cases (nat_eq q b) (is_member nat_eq bs q) h))
    (λ other. ap (λ c. is_member nat_eq (cond c bs (b ∷ remove_key (nat_eq x) bs)) q) other
    ∙ ⊎_elim (λ e. or_left (nat_eq q b) _ e) (λ e. or_right (nat_eq q b) _ (member_removed x bs q e ne)) (or_cases (nat_eq q b) (is_member nat_eq bs q) h))
    (cases_Bool (nat_eq x b))

-- each number of a list stands among those that are kept once
pub member_unique : (xs : List ℕ) (q : ℕ) → is_member nat_eq xs q ≡ true → is_member nat_eq (unique_keys nat_eq xs) q ≡ true
member_unique [] q h = h
member_unique (x ∷ xs) q h = ⊎_elim
    (λ (seen : is_member nat_eq xs x ≡ true). subst (λ (c : Bool). is_member nat_eq (cond c (unique_keys nat_eq xs) (x ∷ unique_keys nat_eq xs)) q ≡ true) (sym seen)
    (member_unique xs q (⊎_elim (λ e. subst (λ z. is_member nat_eq xs z ≡ true) (sym (eqb-true q x e)) seen) (λ e. e) (or_cases (nat_eq q x) (is_member nat_eq xs q) h))))
    (λ (fresh : is_member nat_eq xs x ≡ false). subst (λ (c : Bool). is_member nat_eq (cond c (unique_keys nat_eq xs) (x ∷ unique_keys nat_eq xs)) q ≡ true) (sym fresh)
    (⊎_elim (λ e. or_left (nat_eq q x) _ e) (λ e. or_right (nat_eq q x) _ (member_unique xs q e)) (or_cases (nat_eq q x) (is_member nat_eq xs q) h)))
    (cases_Bool (is_member nat_eq xs x))

-- numbers that are all in a list of m are at most m
pub distinct_le : (xs bs : List ℕ) → ((q : ℕ) → is_member nat_eq xs q ≡ true → is_member nat_eq bs q ≡ true) → distinct_count nat_eq xs ≤ length bs
distinct_le [] bs h = omega arith
distinct_le (x ∷ xs) bs h = ⊎_elim
    (λ seen. subst (λ (c : Bool). length (cond c (unique_keys nat_eq xs) (x ∷ unique_keys nat_eq xs)) ≤ length bs) (sym seen) (distinct_le xs bs (λ q m. h q (or_right (nat_eq q x) _ m))))
    (λ fresh.
    let here = h x (or_left (nat_eq x x) _ (eq-eqb x x refl)) in
    let rest = distinct_le xs (remove_key (nat_eq x) bs) (λ q m. member_removed x bs q (h q (or_right (nat_eq q x) _ m))
    (false_from_ne_true (nat_eq q x) (λ e. both_ways _ fresh (subst (λ z. is_member nat_eq xs z ≡ true) (eqb-true q x e) m)))) in
    let l = length-remove_key (nat_eq x) bs here in
    subst (λ (c : Bool). length (cond c (unique_keys nat_eq xs) (x ∷ unique_keys nat_eq xs)) ≤ length bs) (sym fresh) (omega (arith, rest, l)))
    (cases_Bool (is_member nat_eq xs x))

-- ---- the numbers below n

below : ℕ → List ℕ
below zero = []
below (suc n) = n ∷ below n

below_length : (n : ℕ) → length (below n) ≡ n
unfolding below
below_length zero = refl
below_length (suc n) = ap suc (below_length n)

below_has : (n b : ℕ) → b < n → is_member nat_eq (below n) b ≡ true
unfolding below
below_has zero b h = absurd (omega (arith, h))
below_has (suc n) b h = ⊎_elim
    (λ l. or_right (nat_eq b n) _ (below_has n b l))
    (λ g. or_left (nat_eq b n) _ (eq-eqb b n (omega (arith, h, g))))
    (cases_lt b n)

-- no more than so many, and no more than a document has tokens
pub capped_few : (m n : ℕ) (R : ℕ → ℕ → Type 0) → n ≤ MAX_DOC_TOKENS → ((b e : ℕ) → R b e → b < n) → HasFew m R → HasFew (capped m) R
capped_few m n R short within few = ⊎_elim
    (λ l. (below n, omega (arith, below_length n, short, l), λ b e r. below_has n b (within b e r)))
    (λ g. (few.0, omega (arith, few.1, g), few.2))
    (cases_lt n m)
