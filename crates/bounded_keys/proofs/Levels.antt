-- Leaves at the first level and at the last have the digits of their beliefs there, and so the keys are where the first ones say.
use Rattle.std.proofs.Common.{rules, ◌≡◌, ◌⊎◌, inl, inr, ⊎_elim, ◌<◌, ◌≤◌, ℕ, ◌+◌, ◌*◌, ◌^◌, Bool, true, false, ◌||◌, nat_lt, sym, List, [], ◌∷◌, ◌++◌, length, map, get_or, refl, ap, subst, ◌∙◌, arith, append-nil, suc}
use Rattle.std.specs.List.{All}
use Rattle.std.specs.Cmp.{IsTotalOrder, nat_cmp_is}
use Rattle.std.specs.Ordering.{is_lt, nat_cmp, ordering_then}
use Rattle.std.specs.declared.cmp.Ordering.{Ordering}
use Rattle.std.specs.declared.cmp.Ordering.TheVariants.{Equal}
use Rattle.std.proofs.lemmas.Bool.{lt-ltb, ltb-true}
use Rattle.std.proofs.lemmas.Cmp.{nat_cmp_total, on_total, then_total}
use Rattle.std.proofs.lemmas.List.Elements.{All-cons, All-head, All-nil, All-tail}
use Rattle.std.proofs.lemmas.List.Sorted.{All-permutation}
use Rattle.first_few.specs.First.{AreFirst}
use Rattle.ri_base.specs.Ratio.{Ratio, ratio_of}
use Rattle.ri_base.specs.declared.fraction.Fraction.{Fraction}
use Rattle.log_chain.specs.Chain.{chain}
use Rattle.log_chain.specs.Progress.{Progress, digits_of}
use Rattle.log_chain.specs.declared.chain.TheConstants.{FIRST, LAST}
use Rattle.leaf_chains.specs.Chains.{AreAt, at_level, started}
use Rattle.bounded_keys.specs.Digits.{belief, digits_at, early, late}
use Rattle.bounded_keys.specs.Entries.{IsEarly, by_key, by_leading, in_question, settled}
use Rattle.bounded_keys.specs.Kept.{AreContenders, is_surely_before, lower, upper}
use Rattle.bounded_keys.specs.Likeness.{is_before}
use Rattle.bounded_keys.specs.declared.entry.Entry.{Entry}
use Rattle.bounded_keys.specs.declared.entry.Settled.{Settled}
use Rattle.bounded_keys.proofs.Beaten.{first_of_behind}
use Rattle.bounded_keys.proofs.Counts.{All-append_right, count_map, count_weaker}
use Rattle.bounded_keys.proofs.Kepts.{contenders_few}
use Rattle.bounded_keys.specs.LikenessLaws.{before_is}
use Rattle.bounded_keys.proofs.Likenesses.{same_beliefs}

-- ---- leaves

pub early_length : (fractions : List Fraction) → length (early fractions) ≡ length fractions
early_length [] = refl
early_length (f ∷ fs) = ap suc (early_length fs)

pub early_beliefs : (fractions : List Fraction) → map belief (early fractions) ≡ map ratio_of fractions
early_beliefs [] = refl
early_beliefs (f ∷ fs) = ap (λ bs. ratio_of f ∷ bs) (early_beliefs fs)

pub early_digits : (fractions : List Fraction) → map digits_of (early fractions) ≡ digits_at FIRST (map ratio_of fractions)
early_digits [] = refl
early_digits (f ∷ fs) = ap (λ ds. (chain f.p f.q FIRST).digits ∷ ds) (early_digits fs)

pub early_level : (fractions : List Fraction) → AreAt FIRST (early fractions)
early_level [] = All-nil _
early_level (f ∷ fs) = All-cons (λ (a : Progress). a.level ≡ FIRST) (at_level FIRST (started f)) (early fs) refl (early_level fs)

pub started_level : (fractions : List Fraction) → AreAt 0 (map started fractions)
started_level [] = All-nil _
started_level (f ∷ fs) = All-cons (λ (a : Progress). a.level ≡ 0) (started f) (map started fs) refl (started_level fs)

first_digits : (leaves : List Progress) → AreAt FIRST leaves → map digits_of leaves ≡ digits_at FIRST (map belief leaves)
first_digits [] h = refl
first_digits (a ∷ rest) h =
    ap (λ n. n ∷ map digits_of rest) (ap (λ k. (chain a.p a.q k).digits) (All-head (λ (b : Progress). b.level ≡ FIRST) a rest h))
    ∙ ap (λ ns. (chain a.p a.q FIRST).digits ∷ ns) (first_digits rest (All-tail (λ (b : Progress). b.level ≡ FIRST) a rest h))

last_digits : (leaves : List Progress) → map digits_of (late leaves) ≡ digits_at LAST (map belief leaves)
last_digits [] = refl
last_digits (a ∷ rest) = ap (λ ns. (chain a.p a.q LAST).digits ∷ ns) (last_digits rest)

-- ---- orders

pub leading_total : {W : Type 0} → IsTotalOrder (by_leading {W = W})
leading_total {W = W} = on_total (λ (x : Entry W). x.leading) nat_cmp_total

pub key_total : {W : Type 0} (order : W → W → Ordering) → IsTotalOrder order → IsTotalOrder (by_key order)
key_total {W = W} order total = then_total (on_total (λ (x : Settled W). x.key) nat_cmp_total) (on_total (λ (x : Settled W). x.window) total)

less_then : (m n : ℕ) (o : Ordering) → m < n → is_lt (ordering_then (nat_cmp m n) o) ≡ true
less_then m n o h = search (rules, lt-ltb)

equal_then : (m n : ℕ) (o : Ordering) → m ≡ n → is_lt (ordering_then (nat_cmp m n) o) ≡ is_lt o
equal_then m n o e = ap (λ c. is_lt (ordering_then c o)) (sym (nat_cmp_is m n Equal e))

either : (a b : Bool) → (a || b) ≡ true → (a ≡ true) ⊎ (b ≡ true)
either true b e = inl refl
either false b e = inr e

-- ---- keys

module _ (key : List ℕ → ℕ) (leaves scale : ℕ)
    (least : (beliefs : List Ratio) (k s : ℕ) → key (digits_at k beliefs) * 2 ^ s ≤ key (digits_at (k + s) beliefs))
    (most : (beliefs : List Ratio) (k s : ℕ) → key (digits_at (k + s) beliefs) + scale ≤ (key (digits_at k beliefs) + scale) * 2 ^ s) where
  enclosed : {W : Type 0} (x : Entry W) → IsEarly key leaves x → (lower x.leading ≤ (settled key x).key) × ((settled key x).key ≤ upper scale x.leading)
  enclosed x h =
      let beliefs = map belief x.leaves in
      let first : x.leading ≡ key (digits_at FIRST beliefs) = h.leads ∙ ap key (first_digits x.leaves h.first) in
      let last : (settled key x).key ≡ key (digits_at (FIRST + 28) beliefs) = ap key (last_digits x.leaves) in
      let low : key (digits_at FIRST beliefs) * 2 ^ 28 ≤ key (digits_at (FIRST + 28) beliefs) = least beliefs FIRST 28 in
      let high : key (digits_at (FIRST + 28) beliefs) + scale ≤ (key (digits_at FIRST beliefs) + scale) * 2 ^ 28 = most beliefs FIRST 28 in
      (omega (arith, first, last, low), omega (arith, first, last, high))

  -- what surely stands before another is before it with all digits
  surely_less : {W : Type 0} (order : W → W → Ordering) (y x : Entry W) → IsEarly key leaves y → IsEarly key leaves x
      → is_surely_before (λ (z : Entry W). z.leading) scale (is_before order) y x ≡ true → is_lt (by_key order (settled key y) (settled key x)) ≡ true
  surely_less order y x of_y of_x e = ⊎_elim
      (λ l. less_then (settled key y).key (settled key x).key (order y.window x.window)
      (omega (arith, ltb-true (upper scale y.leading) (lower x.leading) l, (enclosed y of_y).1, (enclosed x of_x).0)))
      (λ l. let is = before_is order y x l in
      let same : (settled key y).key ≡ (settled key x).key = ap key (last_digits y.leaves ∙ ap (digits_at LAST) (same_beliefs y.leaves x.leaves is.0) ∙ sym (last_digits x.leaves)) in
      equal_then (settled key y).key (settled key x).key (order y.window x.window) same ∙ ap is_lt is.1)
      (either (nat_lt (upper scale y.leading) (lower x.leading)) (is_before order y x) e)

  -- the first of the contenders are the first of all
  pub first_settled : {W : Type 0} (order : W → W → Ordering) → IsTotalOrder order → (k : ℕ) (all taken : List (Entry W)) (held : List (Settled W))
      → All (λ x. IsEarly key leaves x) all → AreContenders (λ x. x.leading) scale (is_before order) k all taken
      → AreFirst (by_key order) k (map (settled key) taken ++ []) held → AreFirst (by_key order) k (map (settled key) all) held
  first_settled {W = W} order total k all taken held early contenders f =
      first_of_behind (by_key order) (key_total order total) (settled key) k all taken contenders.passed held contenders.split
      (λ i d within.
      let x : Entry W = get_or contenders.passed i d in
      let of_x = All-append_right (λ y. IsEarly key leaves y) taken contenders.passed (All-permutation (λ y. IsEarly key leaves y) all (taken ++ contenders.passed) contenders.split early) i d within in
      omega (
        arith,
        contenders.behind i d within,
        count_weaker (λ y. is_surely_before (λ (z : Entry W). z.leading) scale (is_before order) y x) (λ y. is_lt (by_key order (settled key y) (settled key x))) all
            (λ j e inside l. surely_less order (get_or all j e) x (early j e inside) of_x l),
        count_map (settled key) (λ y. is_lt (by_key order y (settled key x))) all,
      ))
      (subst (λ ys. AreFirst (by_key order) k ys held) (append-nil (map (settled key) taken)) f)

pub taken_few : {W : Type 0} (scale : ℕ) (before : Entry W → Entry W → Bool) (k : ℕ) (all taken : List (Entry W)) → AreContenders (λ x. x.leading) scale before k all taken
    → length taken ≤ length (in_question scale k all)
taken_few {W = W} scale before k all taken h = contenders_few by_leading leading_total (λ (x : Entry W). x.leading) (λ a b. refl) k scale before all taken h
