use Rattle.std.proofs.Common.{◌≡◌, ◌-◌, max, nat_le, take, arith}
use Rattle.std.specs.List.{prefix_len}
use Rattle.field_extents.specs.Fields.{covered_count}
use Rattle.field_extents.proofs.PassedCover.{count_ahead-all, count_ahead-some}
use Rattle.field_extents.proofs.cover.count_ahead.Goals as goal

pub returns-then-end-reach-clause-exact : goal.returns-then-end-reach-clause-exact
returns-then-end-reach-clause-exact c =
    let all = count_ahead-all c.args.spans.now c.args.name.now c.args.reach c.args.window (omega arith) (omega arith) in
    omega (arith, all)

pub returns-clause-exact : goal.returns-clause-exact
returns-clause-exact c =
    let begun : c.begun_by-begun.result ≡ prefix_len (λ f. nat_le f.begin (c.args.window.end - 1)) c.args.spans.now = rw c.end-end.ensures.end at c.begun_by-begun.ensures in
    let from : c.max-from.result ≡ max c.args.reach c.args.window.begin = rw c.begin-2.ensures.begin at c.max-from.ensures in
    let counted : c.covered.result ≡ covered_count (take c.begun_by-begun.result c.args.spans.now) c.args.name.now (record { begin = c.max-from.result; end = c.args.window.end }) = rw (c.new.ensures, c.end-end.ensures.end) at c.covered.ensures.exact in
    rw c.begin-3.ensures.begin (count_ahead-some c.args.spans.now c.args.name.now c.args.reach c.max-from.result c.begun_by-begun.result c.covered.result c.args.window c.requires (omega arith) (omega arith) from begun counted)
