use Rattle.std.proofs.Common.{◌≡◌, ◌≤◌, ◌-◌, ℕ, ap, ◌∙◌, arith}
use Rattle.std.specs.List.{prefix_len}
use Rattle.field_extents.specs.Extents.{IsNoLater}
use Rattle.field_extents.proofs.PassedLemmas.{begin_count-begun, begins_before}
use Rattle.field_extents.proofs.RisingLemmas.{begin_count-few, begin_count-rising, ends_by, pairs_front}
use Rattle.field_extents.proofs.begins.begins_ahead.Goals as goal

pub returns-then-rising-clause-exact : goal.returns-then-rising-clause-exact
returns-then-rising-clause-exact c =
    begin_count-rising c.args.xs.now c.args.window c.ended_by.result (c.requires.rising c.if-rising.true) c.requires.ahead
    (c.ended_by.ensures ∙ ap (λ (end : ℕ). prefix_len (ends_by end) c.args.xs.now) c.end.ensures.end)

pub returns-then-rising-clause-most : goal.returns-then-rising-clause-most
returns-then-rising-clause-most c = rw (returns-then-rising-clause-exact c) (begin_count-few c.args.xs.now c.args.window c.requires.some)

pub overflow_cast-result : goal.overflow_cast-result
overflow_cast-result c =
    let few : c.ended_by.result ≤ c.args.window.end - c.args.window.begin =
    rw (begin_count-rising c.args.xs.now c.args.window c.ended_by.result (c.requires.rising c.if-rising.true) c.requires.ahead (c.ended_by.ensures ∙ ap (λ (end : ℕ). prefix_len (ends_by end) c.args.xs.now) c.end.ensures.end)) (begin_count-few c.args.xs.now c.args.window c.requires.some) in
    omega (arith, few, c.end.ensures.end, c.end.type_inv)

pub begins_in-requires : goal.begins_in-requires
begins_in-requires c = pairs_front IsNoLater c.args.xs.now c.begun_before.result c.requires.order

pub returns-clause-exact : goal.returns-clause-exact
returns-clause-exact c =
    let begun : c.begun_before.result ≡ prefix_len (begins_before c.args.window.end) c.args.xs.now = c.begun_before.ensures.begun ∙ ap (λ (end : ℕ). prefix_len (begins_before end) c.args.xs.now) c.end-2.ensures.end in
    c.begins_in.ensures.exact ∙ begin_count-begun c.args.xs.now c.args.window c.begun_before.result c.requires.order c.requires.some begun
