-- How a belief under Dirichlet smoothing rises and falls with its counts.
use Rattle.std.proofs.Common.{◌≡◌, ◌<◌, ◌≤◌, ◌+◌, ◌*◌, ◌-◌, ℕ, max, sym, ap, ◌∙◌, subst, arith, ⊎_elim, mul-le-mul, mul-le-mul_left, mul-le-mul_right}
use Rattle.std.proofs.Math.Nat.{le_of_mul-le-mul_right}
use Rattle.std.proofs.lemmas.Bool.{cases_lt}
use Rattle.ri_base.specs.Ratio.{Ratio}
use Rattle.smoothing.specs.Bounds.{IsAtMost}
use Rattle.smoothing.specs.Counts.{AreCounts}
use Rattle.smoothing.specs.Fractions.{dirichlet, fraction_of}
use Rattle.smoothing.specs.declared.rule.RuleKind.{RuleKind}
use Rattle.smoothing.specs.declared.rule.RuleKind.TheVariants.{Dirichlet}

pub by_occurrences : (mu tf more len cf total : ℕ) → tf ≤ more → IsAtMost (dirichlet mu tf len cf total) (dirichlet mu more len cf total)
by_occurrences mu tf more len cf total h =
    mul-le-mul_right (2 * max total 1 * (len + mu)) (let w = mul-le-mul_left (2 * max total 1) h in
    let g : 2 * max total 1 * tf + mu * max (2 * cf) 1 ≤ 2 * max total 1 * more + mu * max (2 * cf) 1 = add_right (2 * max total 1 * tf) (2 * max total 1 * more) (mu * max (2 * cf) 1) w in g)
  where
    add_right : (a b c : ℕ) → a ≤ b → a + c ≤ b + c
    add_right a b c h = omega (arith, h)

pub by_words : (mu tf len longer cf total : ℕ) → len ≤ longer → IsAtMost (dirichlet mu tf longer cf total) (dirichlet mu tf len cf total)
by_words mu tf len longer cf total h =
    mul-le-mul_left (2 * max total 1 * tf + mu * max (2 * cf) 1) (mul-le-mul_left (2 * max total 1) (add_right len longer mu h))
  where
    add_right : (a b c : ℕ) → a ≤ b → a + c ≤ b + c
    add_right a b c h = omega (arith, h)

-- (W * n + m * c) * (W * (l + m)) ≤ (W * l + m * c) * (W * (n + m)), where c ≤ W and n ≤ l
cross : (w c m n l : ℕ) → c ≤ w → n ≤ l → (w * n + m * c) * (w * (l + m)) ≤ (w * l + m * c) * (w * (n + m))
cross w c m n l small short =
    go (w - c) (l - n) (omega (arith, small)) (omega (arith, short))
  where
    plain : (c d m n k : ℕ) → ((c + d) * n + m * c) * ((c + d) * (n + k + m)) ≤ ((c + d) * (n + k) + m * c) * ((c + d) * (n + m))
    plain c d m n k =
        let e : ((c + d) * (n + k) + m * c) * ((c + d) * (n + m)) ≡ ((c + d) * n + m * c) * ((c + d) * (n + k + m)) + (c + d) * (m * (d * k)) = omega arith in
        omega (arith, e)

    go : (d k : ℕ) → w ≡ c + d → l ≡ n + k → (w * n + m * c) * (w * (l + m)) ≤ (w * l + m * c) * (w * (n + m))
    go d k e f = subst (λ x. (x * n + m * c) * (x * (l + m)) ≤ (x * l + m * c) * (x * (n + m))) (sym e)
        (subst (λ y. ((c + d) * n + m * c) * ((c + d) * (y + m)) ≤ ((c + d) * y + m * c) * ((c + d) * (n + m))) (sym f) (plain c d m n k))

pub by_both : (mu len longer cf total : ℕ) → cf ≤ total → len ≤ longer → IsAtMost (dirichlet mu len len cf total) (dirichlet mu longer longer cf total)
by_both mu len longer cf total part h = cross (2 * max total 1) (max (2 * cf) 1) mu len longer (omega (arith, part)) h

at_most_then : (a b c : Ratio) → 0 < b.q → IsAtMost a b → IsAtMost b c → IsAtMost a c
at_most_then a b c some f g =
    let x = mul-le-mul_right c.q f in
    let y = mul-le-mul_right a.q g in
    le_of_mul-le-mul_right {k = b.q} (omega (arith, x, y)) some

positive : (mu tf len cf total : ℕ) → 0 < len + mu → 0 < (dirichlet mu tf len cf total).q
positive mu tf len cf total h = let m = mul-le-mul {n₁ = 2} {m₁ = 1} {n₂ = 2 * max total 1} {m₂ = len + mu} (omega arith) (omega (arith, h)) in omega (arith, m)

-- no words and no smoothing
nothing : (mu tf len cf total : ℕ) → tf ≤ len → len + mu ≡ 0 → (dirichlet mu tf len cf total).p ≡ 0
nothing mu tf len cf total within h =
    let t : tf ≡ 0 = omega (arith, within, h) in
    let m : mu ≡ 0 = omega (arith, h) in
    let x : 2 * max total 1 * tf ≡ 0 = ap (λ n. 2 * max total 1 * n) t ∙ omega arith in
    let y : mu * max (2 * cf) 1 ≡ 0 = ap (λ n. n * max (2 * cf) 1) m ∙ omega arith in
    omega (arith, x, y)

-- the bound covers each count and length within its limits
pub covered : (mu most least tf len cf total : ℕ) → tf ≤ len → cf ≤ total → tf ≤ most → least ≤ len
    → IsAtMost (dirichlet mu tf len cf total) (dirichlet mu most (max least most) cf total)
covered mu most least tf len cf total within part few long = ⊎_elim
    (λ none. let e = ap (λ n. n * (dirichlet mu most (max least most) cf total).q) (nothing mu tf len cf total within (omega (arith, none))) in omega (arith, e))
    (λ some. ⊎_elim
    (λ short.
    let e : max least most ≡ most = omega (arith, short, long) in
    subst (λ n. IsAtMost (dirichlet mu tf len cf total) (dirichlet mu most n cf total)) (sym e)
    (at_most_then (dirichlet mu tf len cf total) (dirichlet mu len len cf total) (dirichlet mu most most cf total) (positive mu len len cf total (omega (arith, some)))
    (by_occurrences mu tf len len cf total within) (by_both mu len most cf total part (omega (arith, short)))))
    (λ far.
    at_most_then (dirichlet mu tf len cf total) (dirichlet mu most len cf total) (dirichlet mu most (max least most) cf total) (positive mu most len cf total (omega (arith, some)))
    (by_occurrences mu tf most len cf total few) (by_words mu most (max least most) len cf total (omega (arith, far, long))))
    (cases_lt len most))
    (cases_lt (len + mu) 1)

pub covered_kind : (kind : RuleKind) (most least tf len cf total : ℕ) → AreCounts tf len cf total → tf ≤ most → least ≤ len
    → IsAtMost (fraction_of kind tf len cf total) (fraction_of kind most (max least most) cf total)
covered_kind (Dirichlet mu) most least tf len cf total counts few long = covered mu most least tf len cf total counts.within counts.part few long
