-- That one entry stands before another of the same beliefs is an order.
use Rattle.std.proofs.Common.{◌≡◌, Bool, true, false, ◌&&◌, refl, ap, ◌∙◌}
use Rattle.std.specs.Cmp.{IsTotalOrder}
use Rattle.std.specs.Ordering.{is_eq, is_lt, ordering_then}
use Rattle.std.specs.declared.cmp.Ordering.{Ordering}
use Rattle.std.specs.declared.cmp.Ordering.TheVariants.{Equal, Greater, Less}
use Rattle.std.proofs.lemmas.Bool.{both_ways}
use Rattle.std.proofs.lemmas.Cmp.{lists_total, nat_cmp_total, on_total, then_total}
use Rattle.log_chain.specs.Progress.{Progress}
use Rattle.bounded_keys.specs.Likeness.{by_belief, by_beliefs, is_before}
use Rattle.bounded_keys.specs.declared.entry.Entry.{Entry}

pub equal_from : (o : Ordering) → is_eq o ≡ true → o ≡ Equal
equal_from Less e = absurd (both_ways false refl e)
equal_from Equal e = refl
equal_from Greater e = absurd (both_ways false refl e)

pub less_from : (o : Ordering) → is_lt o ≡ true → o ≡ Less
less_from Less e = refl
less_from Equal e = absurd (both_ways false refl e)
less_from Greater e = absurd (both_ways false refl e)

pub both_from : (a b : Bool) → (a && b) ≡ true → (a ≡ true) × (b ≡ true)
both_from true true e = (refl, refl)
both_from true false e = absurd (both_ways false refl e)
both_from false b e = absurd (both_ways false refl e)

pub both_equal : (a b : Ordering) → ordering_then a b ≡ Equal → (a ≡ Equal) × (b ≡ Equal)
both_equal Less b e = absurd (both_ways false refl (ap is_eq e))
both_equal Equal b e = (refl, e)
both_equal Greater b e = absurd (both_ways false refl (ap is_eq e))

belief_total : IsTotalOrder by_belief
belief_total = then_total (on_total (λ (a : Progress). a.p) nat_cmp_total) (on_total (λ (a : Progress). a.q) nat_cmp_total)

beliefs_total : IsTotalOrder by_beliefs
beliefs_total = lists_total belief_total

module _ {W : Type 0} (order : W → W → Ordering) where
  -- what it says of the beliefs and of the windows
  pub before_is : (a b : Entry W) → is_before order a b ≡ true → (by_beliefs a.leaves b.leaves ≡ Equal) × (order a.window b.window ≡ Less)
  before_is a b e =
      let each = both_from (is_eq (by_beliefs a.leaves b.leaves)) (is_lt (order a.window b.window)) e in
      (equal_from (by_beliefs a.leaves b.leaves) each.0, less_from (order a.window b.window) each.1)

  pub before_from : (a b : Entry W) → by_beliefs a.leaves b.leaves ≡ Equal → order a.window b.window ≡ Less → is_before order a b ≡ true
  before_from a b e f = ap (λ o. is_eq o && is_lt (order a.window b.window)) e ∙ ap is_lt f

  pub before_follow : IsTotalOrder order → (a b c : Entry W) → is_before order a b ≡ true → is_before order b c ≡ true → is_before order a c ≡ true
  before_follow total a b c e f =
      let ab = before_is a b e in
      let bc = before_is b c f in
      before_from a c (beliefs_total.congr a.leaves b.leaves c.leaves ab.0 ∙ bc.0) (total.trans a.window b.window c.window ab.1 bc.1)

  -- so it stands before it along the runs
  pub before_in_runs : (a b : Entry W) → is_before order a b ≡ true → ordering_then (by_beliefs a.leaves b.leaves) (order a.window b.window) ≡ Less
  before_in_runs a b e =
      let ab = before_is a b e in
      ap (λ o. ordering_then o (order a.window b.window)) ab.0 ∙ ab.1
