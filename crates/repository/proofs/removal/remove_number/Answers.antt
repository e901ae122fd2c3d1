use Rattle.std.proofs.Common.{◌<◌, ◌^◌, arith}
use Rattle.store_ends.specs.Files.{Leaves, SameWhere}
use Rattle.store_ends.proofs.Files.{Leaves-same, SameWhere-same}
use Rattle.repository.specs.Writes.{IsOther}
use Rattle.repository.proofs.RemovalLemmas.{IsThat, file-removed, file-stops, gone-both, gone-still, own-prior, own-segment}
use Rattle.repository.proofs.removal.remove_number.Given as given
use Rattle.repository.proofs.removal.remove_number.Goals as goal
use Rattle.repository.proofs.removal.remove_number.Goals.{After-remove_file, After-remove_file-2}

-- the first is tried

segment : (g : given.Over) (c : After-remove_file g) → c.args.number < 2 ^ 64 → SameWhere (IsOther (IsThat c.args.number)) (g.T.Store.files c.args.store.now) (g.T.Store.files c.remove_file.new.store)
segment g c small =
    let a = g.T.Store.files c.args.store.now in
    file-removed c.args.number _ a a _ (own-segment c.args.number _ small c.segment_name-segment.ensures) (SameWhere-same (IsOther (IsThat c.args.number)) a) c.remove_file.ensures.changed

segment-stops : (g : given.Over) (c : After-remove_file g) → c.args.number < 2 ^ 64 → Leaves (g.T.Store.since c.args.store.now) (g.T.Store.since c.remove_file.new.store) (SameWhere (IsOther (IsThat c.args.number)) (g.T.Store.files c.args.store.now))
segment-stops g c small =
    let a = g.T.Store.files c.args.store.now in
    let past = g.T.Store.since c.args.store.now in
    let same = SameWhere-same (IsOther (IsThat c.args.number)) a in
    file-stops c.args.number _ past past _ a a (own-segment c.args.number _ small c.segment_name-segment.ensures) same (Leaves-same past (SameWhere (IsOther (IsThat c.args.number)) a)) c.remove_file.ensures.stops

pub returns-in_err-remove_file-clause-same : goal.returns-in_err-remove_file-clause-same
returns-in_err-remove_file-clause-same g c = segment g (goal.at.returns-in_err-remove_file-clause-same g c).After-remove_file (omega arith)

pub returns-in_err-remove_file-clause-stops : goal.returns-in_err-remove_file-clause-stops
returns-in_err-remove_file-clause-stops g c = segment-stops g (goal.at.returns-in_err-remove_file-clause-stops g c).After-remove_file (omega arith)

-- both are tried

both : (g : given.Over) (c : After-remove_file-2 g) → c.args.number < 2 ^ 64 → SameWhere (IsOther (IsThat c.args.number)) (g.T.Store.files c.args.store.now) (g.T.Store.files c.remove_file.new.store) → SameWhere (IsOther (IsThat c.args.number)) (g.T.Store.files c.args.store.now) (g.T.Store.files c.remove_file-2.new.store)
both g c small first = file-removed c.args.number _ _ _ _ (own-prior c.args.number _ small c.prior_name-prior.ensures) first c.remove_file-2.ensures.changed

both-stops : (g : given.Over) (c : After-remove_file-2 g) → c.args.number < 2 ^ 64 → SameWhere (IsOther (IsThat c.args.number)) (g.T.Store.files c.args.store.now) (g.T.Store.files c.remove_file.new.store)
    → Leaves (g.T.Store.since c.args.store.now) (g.T.Store.since c.remove_file.new.store) (SameWhere (IsOther (IsThat c.args.number)) (g.T.Store.files c.args.store.now))
    → Leaves (g.T.Store.since c.args.store.now) (g.T.Store.since c.remove_file-2.new.store) (SameWhere (IsOther (IsThat c.args.number)) (g.T.Store.files c.args.store.now))
both-stops g c small first stops = file-stops c.args.number _ _ _ _ _ _ (own-prior c.args.number _ small c.prior_name-prior.ensures) first stops c.remove_file-2.ensures.stops

pub returns-in_err-remove_file-2-clause-same : goal.returns-in_err-remove_file-2-clause-same
returns-in_err-remove_file-2-clause-same g c = (let here = goal.at.returns-in_err-remove_file-2-clause-same g c in both g here.After-remove_file-2 (omega arith) (segment g here.After-remove_file (omega arith)))

pub returns-in_err-remove_file-2-clause-stops : goal.returns-in_err-remove_file-2-clause-stops
returns-in_err-remove_file-2-clause-stops g c =
    let here = goal.at.returns-in_err-remove_file-2-clause-stops g c in
    both-stops g here.After-remove_file-2 (omega arith) (segment g here.After-remove_file (omega arith)) (segment-stops g here.After-remove_file (omega arith))

pub returns-clause-same : goal.returns-clause-same
returns-clause-same g c = (let here = goal.at.returns-clause-same g c in both g here.After-remove_file-2 (omega arith) (segment g here.After-remove_file (omega arith)))

pub returns-clause-stops : goal.returns-clause-stops
returns-clause-stops g c =
    let here = goal.at.returns-clause-stops g c in
    both-stops g here.After-remove_file-2 (omega arith) (segment g here.After-remove_file (omega arith)) (segment-stops g here.After-remove_file (omega arith))

pub returns-clause-gone : goal.returns-clause-gone
returns-clause-gone g c = gone-both c.args.number _ _ _ _ _ c.segment_name-segment.ensures c.prior_name-prior.ensures c.in_ok-remove_file.ensures.done c.in_ok-remove_file-2.ensures.done

pub returns-clause-still : goal.returns-clause-still
returns-clause-still g c = λ n gone. gone-still _ n _ _ c.in_ok-remove_file-2.ensures.done (gone-still _ n _ _ c.in_ok-remove_file.ensures.done gone)
