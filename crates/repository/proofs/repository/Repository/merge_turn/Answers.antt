use Rattle.std.proofs.Common.{List, inr}
use Rattle.store_ends.specs.Files.{Leaves}
use Rattle.disk_index.specs.Cache.{IsCacheBacked}
use Rattle.disk_index.specs.Snapshots.{AreBacked, Marked}
use Rattle.repository.specs.Merges.{AreListed, IsMerging, IsOpenMerging, StaysBacked, without_dead_of}
use Rattle.repository.specs.Saved.{IsUnlisted}
use Rattle.repository.specs.Stands.{Collection, Stands}
use Rattle.repository.specs.States.{ReadsAs, listed_numbers}
use Rattle.repository.specs.Writes.{IsBeside, IsEither}
use Rattle.repository.proofs.StayLemmas.{snapshot-stays}
use Rattle.repository.proofs.TurnLemmas.{done-over, merged-to, merging-turned, open-merging, quiet-leaves, quiet-same, some-fault, some-intact, stays-behind, stays-same, stops-behind, tied-intact}
use Rattle.repository.proofs.repository.Repository.merge_turn.Given as given
use Rattle.repository.proofs.repository.Repository.merge_turn.Goals as goal
use Rattle.repository.proofs.repository.Repository.merge_turn.Goals.{After-end_merge}

pub returns-in-Err-clause-stay : goal.returns-in-Err-clause-stay
returns-in-Err-clause-stay g c =
    quiet-same (g.T.Store.files c.args.store.now) (g.T.Store.files c.turn.new.store) (IsBeside (IsUnlisted (listed_numbers c.args.self.now))) c.turn.ensures.quiet.same_files

pub returns-in-Err-clause-stops : goal.returns-in-Err-clause-stops
returns-in-Err-clause-stops g c k d open_now cached stands read =
    quiet-leaves (g.T.Store.since c.args.store.now) (g.T.Store.since c.turn.new.store) (IsEither c.args.self.now.held.limits k (without_dead_of c.args.self.now.merge d)) c.turn.ensures.quiet.no_more

pub returns-in-Err-clause-fault : goal.returns-in-Err-clause-fault
returns-in-Err-clause-fault g c f told =
    some-fault f c.args.cache.now c.args.self.now.merge c.take_merge-job.result c.in-Err.fault c.take_merge-job.ensures.taken (inr (c.in-Err.ensures.fault f told))

pub returns-in-Err-clause-honest : goal.returns-in-Err-clause-honest
returns-in-Err-clause-honest g c intact cached =
    c.in-Err.ensures.honest (some-intact (g.T.Store.files c.args.store.now) c.args.self.now.merge c.take_merge-job.result c.take_merge-job.ensures.taken intact) cached

pub returns-in-Err-clause-honest_held : goal.returns-in-Err-clause-honest_held
returns-in-Err-clause-honest_held g c intact cached =
    c.in-Err.ensures.honest (tied-intact (g.T.Store.files c.args.store.now) c.args.self.now c.take_merge-job.result c.take_merge-job.ensures.tied intact) cached

pub returns-in-Err-clause-snapshots : goal.returns-in-Err-clause-snapshots
returns-in-Err-clause-snapshots g c ms listed backed = stays-same (g.T.Store.files c.args.store.now) (g.T.Store.files c.turn.new.store) ms c.turn.ensures.quiet.same_files backed

-- the end of the merge stays within these, whatever it answers
snapshots : (g : given.Over) (c : After-end_merge g) (ms : List Marked) → AreListed c.args.self.now ms → AreBacked (g.T.Store.files c.args.store.now) ms
    → StaysBacked (g.T.Store.files c.args.store.now) (g.T.Store.files c.end_merge.new.store) ms
snapshots g c ms listed backed =
    snapshot-stays c.args.self.now c.take_merge-job.ensures.numbered (g.T.Store.files c.args.store.now) (g.T.Store.files c.end_merge.new.store) (stays-behind (g.T.Store.files c.args.store.now) (g.T.Store.files c.turn.new.store) (g.T.Store.files c.end_merge.new.store) c.args.self.now c.take_merge-job.new.self c.take_merge-job.ensures.rest c.turn.ensures.quiet.same_files c.end_merge.ensures.stay) ms listed backed

stops : (g : given.Over) (c : After-end_merge g) (k d : Collection) → IsOpenMerging (g.T.Store.files c.args.store.now) c.args.self.now → IsCacheBacked (g.T.Store.files c.args.store.now) c.args.cache.now
    → Stands c.args.self.now.held.limits (g.T.Store.files c.args.store.now) k → ReadsAs (g.T.Store.files c.args.store.now) c.args.self.now d
    → Leaves (g.T.Store.since c.args.store.now) (g.T.Store.since c.end_merge.new.store) (IsEither c.args.self.now.held.limits k (without_dead_of c.args.self.now.merge d))
stops g c k d open_now cached stands read =
    let merging : IsMerging (g.T.Store.files c.args.store.now) c.args.self.now c.take_merge-job.result = (open-merging (g.T.Store.files c.args.store.now) c.args.self.now c.take_merge-job.result c.take_merge-job.ensures.taken open_now) in
    stops-behind (g.T.Store.since c.args.store.now) (g.T.Store.since c.turn.new.store) (g.T.Store.since c.end_merge.new.store) (g.T.Store.files c.args.store.now) (g.T.Store.files c.turn.new.store) c.args.self.now c.take_merge-job.new.self c.take_merge-job.result c.turn.new.self k d c.take_merge-job.ensures.rest c.turn.ensures.quiet.same_files c.take_merge-job.ensures.taken c.turn.ensures.snapshot c.turn.ensures.quiet.no_more
    (c.end_merge.ensures.stops k d (merging-turned (g.T.Store.files c.args.store.now) (g.T.Store.files c.turn.new.store) c.args.self.now c.take_merge-job.new.self c.take_merge-job.result c.turn.new.self c.take_merge-job.ensures.rest c.turn.ensures.quiet.same_files c.turn.ensures.snapshot (c.turn.ensures.taken merging.snapshot cached merging.taken) merging)) stands read

pub returns-in_err-end_merge-in-Ok-true-clause-snapshots : goal.returns-in_err-end_merge-in-Ok-true-clause-snapshots
returns-in_err-end_merge-in-Ok-true-clause-snapshots g c = snapshots g (goal.at.returns-in_err-end_merge-in-Ok-true-clause-snapshots g c).After-end_merge

pub returns-in_err-end_merge-in-Ok-true-clause-stops : goal.returns-in_err-end_merge-in-Ok-true-clause-stops
returns-in_err-end_merge-in-Ok-true-clause-stops g c = stops g (goal.at.returns-in_err-end_merge-in-Ok-true-clause-stops g c).After-end_merge

pub returns-in_ok-end_merge-in-Ok-true-clause-snapshots : goal.returns-in_ok-end_merge-in-Ok-true-clause-snapshots
returns-in_ok-end_merge-in-Ok-true-clause-snapshots g c = snapshots g (goal.at.returns-in_ok-end_merge-in-Ok-true-clause-snapshots g c).After-end_merge

pub returns-in_ok-end_merge-in-Ok-true-clause-stops : goal.returns-in_ok-end_merge-in-Ok-true-clause-stops
returns-in_ok-end_merge-in-Ok-true-clause-stops g c = stops g (goal.at.returns-in_ok-end_merge-in-Ok-true-clause-stops g c).After-end_merge

pub returns-in_ok-end_merge-in-Ok-true-clause-state : goal.returns-in_ok-end_merge-in-Ok-true-clause-state
returns-in_ok-end_merge-in-Ok-true-clause-state g c =
    merged-to c.args.self.now c.take_merge-job.new.self c.end_merge.new.self c.take_merge-job.result c.turn.new.self c.take_merge-job.ensures.rest c.take_merge-job.ensures.taken c.turn.ensures.snapshot c.turn.ensures.most c.in_ok-end_merge-in-Ok-true.ensures.state

pub returns-in_ok-end_merge-in-Ok-true-clause-over : goal.returns-in_ok-end_merge-in-Ok-true-clause-over
returns-in_ok-end_merge-in-Ok-true-clause-over g c open_now cached =
    let merging : IsMerging (g.T.Store.files c.args.store.now) c.args.self.now c.take_merge-job.result = (open-merging (g.T.Store.files c.args.store.now) c.args.self.now c.take_merge-job.result c.take_merge-job.ensures.taken open_now) in
    done-over (g.T.Store.files c.args.store.now) (g.T.Store.files c.turn.new.store) (g.T.Store.files c.end_merge.new.store) c.args.self.now c.take_merge-job.new.self c.end_merge.new.self c.take_merge-job.result c.turn.new.self c.take_merge-job.ensures.rest c.turn.ensures.quiet.same_files c.take_merge-job.ensures.taken c.turn.ensures.snapshot (c.in_ok-end_merge-in-Ok-true.ensures.over (merging-turned (g.T.Store.files c.args.store.now) (g.T.Store.files c.turn.new.store) c.args.self.now c.take_merge-job.new.self c.take_merge-job.result c.turn.new.self c.take_merge-job.ensures.rest c.turn.ensures.quiet.same_files c.turn.ensures.snapshot (c.turn.ensures.taken merging.snapshot cached merging.taken) merging))
