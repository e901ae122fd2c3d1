use Rattle.std.proofs.Common.{◌∙◌, arith, ap, sym, subst}
use Rattle.repository.specs.Merges.{IsMergedTo, IsTurnedOver, IsTurnedTo, without_dead}
use Rattle.repository.specs.States.{State}
use Rattle.repository.specs.declared.turned.Turned.{Turned}
use Rattle.repository.proofs.PriorWrites.{writes-none}
use Rattle.disk_index.proofs.CacheLemmas.{new-cache}
use Rattle.repository.proofs.WholeLemmas.{begun-some, done-begun, fault-begun, open-done, whole-writes, whole-wrote}
use Rattle.repository.proofs.whole_merge.merge_whole.Goals as goal

-- nothing is written

pub returns-in_err-cache-clause-writes : goal.returns-in_err-cache-clause-writes
returns-in_err-cache-clause-writes g c = writes-none g.T.Store.files g.T.Store.since c.args.repository.now without_dead c.args.store.now

pub returns-in_default-clause-writes : goal.returns-in_default-clause-writes
returns-in_default-clause-writes g c = writes-none g.T.Store.files g.T.Store.since c.args.repository.now without_dead c.args.store.now

pub merge_turn-requires-clause-open : goal.merge_turn-requires-clause-open
merge_turn-requires-clause-open g c = begun-some c.args.repository.now c.begin_merge.new.self c.in-Ok.ensures.begun

pub unreachable-requires : goal.unreachable-requires
unreachable-requires g c =
    open-done c.in-Ok-Open.field-0-0 c.in-Ok-Open.field-0-1
    (sym c.in-Ok-Open.field-0-is ∙ done-begun c.args.repository.now c.begin_merge.new.self c.in-Ok.size c.max.result c.in-Ok-Open.field-0 c.in-Ok.ensures.begun c.in-Ok.ensures.size (omega (arith, c.max.ensures)) c.in-Ok-Open.ensures.turned)

-- the merge is broken off

pub returns-clause-writes : goal.returns-clause-writes
returns-clause-writes g c =
    let a = g.T.Store.files c.args.store.now in
    whole-writes g.T.Store.files g.T.Store.since c.args.repository.now c.begin_merge.new.self c.in-Ok.ensures.begun c.args.store.now c.merge_turn.new.store (c.begin_merge.ensures.reads a) c.merge_turn.ensures.stay c.merge_turn.ensures.stay_on
    (λ k d backed stands read. c.merge_turn.ensures.stops k d (c.in-Ok.ensures.merging a backed) (new-cache a c.in_ok-cache.cache c.in_ok-cache.ensures) stands read)

pub returns-clause-fault : goal.returns-clause-fault
returns-clause-fault g c f told = fault-begun f c.args.repository.now c.begin_merge.new.self c.in_ok-cache.cache c.in-Err.fault c.in-Ok.ensures.begun c.in_ok-cache.ensures (c.in-Err.ensures.fault f told)

pub returns-clause-honest : goal.returns-clause-honest
returns-clause-honest g c intact =
    let a = g.T.Store.files c.args.store.now in
    c.in-Err.ensures.honest_held (c.begin_merge.ensures.intact a intact) (new-cache a c.in_ok-cache.cache c.in_ok-cache.ensures)

-- it is done

pub returns-in-Ok-Done-clause-writes : goal.returns-in-Ok-Done-clause-writes
returns-in-Ok-Done-clause-writes g c =
    let a = g.T.Store.files c.args.store.now in
    whole-writes g.T.Store.files g.T.Store.since c.args.repository.now c.begin_merge.new.self c.in-Ok.ensures.begun c.args.store.now c.merge_turn.new.store (c.begin_merge.ensures.reads a) c.merge_turn.ensures.stay c.merge_turn.ensures.stay_on
    (λ k d backed stands read. c.merge_turn.ensures.stops k d (c.in-Ok.ensures.merging a backed) (new-cache a c.in_ok-cache.cache c.in_ok-cache.ensures) stands read)

pub returns-in-Ok-Done-clause-wrote : goal.returns-in-Ok-Done-clause-wrote
returns-in-Ok-Done-clause-wrote g c =
    let a = g.T.Store.files c.args.store.now in
    let b = g.T.Store.files c.merge_turn.new.store in
    let s = c.args.repository.now in
    let r = c.begin_merge.new.self in
    let t = c.merge_turn.new.self in
    let merged : IsMergedTo r t = subst (λ (x : Turned). IsTurnedTo x c.max.result r t) c.in-Ok-Done.field-0-is c.in-Ok-Done.ensures.state in
    whole-wrote a b s r t c.in-Ok.ensures.begun (merged.ended.limits ∙ ap (λ (x : State). x.held.limits) c.in-Ok.ensures.begun) (c.begin_merge.ensures.reads a)
    (λ backed. subst (λ (x : Turned). IsTurnedOver x r.merge a b r t) c.in-Ok-Done.field-0-is (c.in-Ok-Done.ensures.over (c.in-Ok.ensures.merging a backed) (new-cache a c.in_ok-cache.cache c.in_ok-cache.ensures)))
