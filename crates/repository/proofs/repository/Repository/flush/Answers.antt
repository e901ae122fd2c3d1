use Rattle.std.proofs.Common.{◌∙◌, List, ap, subst, sym}
use Rattle.std.specs.List.{All}
use Rattle.disk_index.specs.Snapshots.{Marked}
use Rattle.repository.specs.Entries.{IsOnDisk}
use Rattle.repository.specs.Saved.{IsUnlisted}
use Rattle.repository.specs.States.{State, listed_numbers}
use Rattle.repository.specs.Writes.{Writes}
use Rattle.repository.proofs.CommitLemmas.{AreFit}
use Rattle.repository.proofs.FlushLemmas.{AreHanded, all-handed, flush-begun, flush-form, flush-listed, flush-merging, flush-numbered, flush-saved, flush-wrote}
use Rattle.repository.proofs.ListedLemmas.{next-some}
use Rattle.repository.proofs.TieLemmas.{tied-all_saved}
use Rattle.repository.proofs.Views.{numbered-seen, seen}
use Rattle.repository.proofs.repository.Repository.flush.Given as given
use Rattle.repository.proofs.repository.Repository.flush.Goals as goal
use Rattle.repository.proofs.repository.Repository.flush.Goals.{After-closed_parts-parts, After-deref-2, After-list_files}

-- ---- what stands on the way

handed : (g : given.Over) (c : After-deref-2 g) → AreHanded (seen c.self.view_is) c.args.self.now c.deref.result.now c.deref-2.result.now
handed g c = record { view = c.self.view_is; numbered = numbered-seen c.self.view_is c.self.invariant.0 c.requires; stale_is = c.deref.ensures.value; priors_are = c.deref-2.ensures.value }

fit : (g : given.Over) (c : After-closed_parts-parts g) → AreFit c.save.new.held
fit g c = (let parts = c.closed_parts-parts.ensures in record { whole = parts.whole; distinct = parts.distinct; documents = parts.documents; tokens = parts.tokens; few = parts.fits.few })

listed : (g : given.Over) (c : After-list_files g) → AreHanded (seen c.self.view_is) c.args.self.now c.deref.result.now c.deref-2.result.now → AreFit c.save.new.held
    → Writes g.T.Store.files g.T.Store.since (IsUnlisted (listed_numbers c.args.self.now)) (λ d. d) c.args.self.now c.args.store.now c.list_files.new.store
listed g c lists fits =
    flush-listed lists g.T.Store.files g.T.Store.since c.args.store.now c.save.new.store c.save.ensures.same c.save.ensures.stops c.in_ok-after.ensures.saved fits c.closed_parts-parts.ensures.parts c.deref-3.ensures.value c.deref-4.ensures.value
    c.list_files.new.store c.list_files.ensures.changed c.list_files.ensures.stops

-- ---- what the calls require

pub save-requires-clause-some : goal.save-requires-clause-some
save-requires-clause-some g c = next-some (seen c.self.view_is) (numbered-seen c.self.view_is c.self.invariant.0 c.requires)

pub save-requires-clause-numbered : goal.save-requires-clause-numbered
save-requires-clause-numbered g c =
    all-handed (seen c.self.view_is) c.deref.result.now c.deref-2.result.now c.deref.ensures.value c.deref-2.ensures.value (numbered-seen c.self.view_is c.self.invariant.0 c.requires)

pub list_files-requires-clause-on_disk : goal.list_files-requires-clause-on_disk
list_files-requires-clause-on_disk g c = subst (λ (ms : List Marked). All (λ (m : Marked). IsOnDisk m.source) ms) (sym c.closed_parts-parts.ensures.parts) c.in_ok-after.ensures.saved.on_disk

pub list_files-requires-clause-form : goal.list_files-requires-clause-form
list_files-requires-clause-form g c =
    let here = goal.at.list_files-requires-clause-form g c in
    flush-form (handed g here.After-deref-2) g.T.Store.files g.T.Store.since c.args.store.now c.save.new.store c.save.ensures.same c.save.ensures.stops c.in_ok-after.ensures.saved (fit g here.After-closed_parts-parts)
    c.closed_parts-parts.ensures.parts c.deref-3.ensures.value c.deref-4.ensures.value

-- ---- the ways out

pub returns-in_err-after-clause-writes : goal.returns-in_err-after-clause-writes
returns-in_err-after-clause-writes g c =
    flush-begun (handed g (goal.at.returns-in_err-after-clause-writes g c).After-deref-2) g.T.Store.files g.T.Store.since c.args.store.now c.save.new.store c.save.ensures.same c.save.ensures.stops

pub returns-in_err-list_files-clause-writes : goal.returns-in_err-list_files-clause-writes
returns-in_err-list_files-clause-writes g c =
    let here = goal.at.returns-in_err-list_files-clause-writes g c in
    listed g here.After-list_files (handed g here.After-deref-2) (fit g here.After-closed_parts-parts)

pub returns-clause-writes : goal.returns-clause-writes
returns-clause-writes g c = (let here = goal.at.returns-clause-writes g c in listed g here.After-list_files (handed g here.After-deref-2) (fit g here.After-closed_parts-parts))

pub returns-clause-wrote : goal.returns-clause-wrote
returns-clause-wrote g c =
    let here = goal.at.returns-clause-wrote g c in
    flush-wrote (handed g here.After-deref-2) g.T.Store.files g.T.Store.since c.args.store.now c.save.new.store c.save.ensures.same c.save.ensures.stops c.in_ok-after.ensures.saved (fit g here.After-closed_parts-parts)
    c.closed_parts-parts.ensures.parts c.deref-3.ensures.value c.deref-4.ensures.value c.list_files.new.store c.in_ok-list_files.ensures.done

pub returns-clause-merging : goal.returns-clause-merging
returns-clause-merging g c =
    let here = goal.at.returns-clause-merging g c in
    flush-merging (handed g here.After-deref-2) g.T.Store.files g.T.Store.since c.args.store.now c.save.new.store c.save.ensures.same c.save.ensures.stops c.in_ok-after.ensures.saved (fit g here.After-closed_parts-parts)
    c.closed_parts-parts.ensures.parts c.deref-3.ensures.value c.deref-4.ensures.value c.list_files.new.store c.in_ok-list_files.ensures.done (c.self.invariant.1 (ap (λ (x : State). x.usable) c.self.view_is ∙ c.requires))

pub returns-clause-saved : goal.returns-clause-saved
returns-clause-saved g c =
    let here = goal.at.returns-clause-saved g c in
    flush-saved (handed g here.After-deref-2) g.T.Store.files g.T.Store.since c.args.store.now c.save.new.store c.save.ensures.same c.save.ensures.stops c.in_ok-after.ensures.saved (fit g here.After-closed_parts-parts)

pub invariant_of-self-2 : goal.invariant_of-self-2
invariant_of-self-2 g c = (
  λ usable.
      let here = goal.at.invariant_of-self-2 g c in
      flush-numbered (handed g here.After-deref-2) g.T.Store.files g.T.Store.since c.args.store.now c.save.new.store c.save.ensures.same c.save.ensures.stops c.in_ok-after.ensures.saved (fit g here.After-closed_parts-parts),
  λ usable.
      tied-all_saved (g.T.Store.files c.save.new.store) _ _ _ c.self.inside.held c.save.new.held c.self.inside.merge c.in_ok-after.ensures.saved (c.self.invariant.1 (ap (λ (x : State). x.usable) c.self.view_is ∙ c.requires)),
)
