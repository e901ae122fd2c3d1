use Rattle.std.proofs.Common.{◌∙◌, List, ap, subst, sym}
use Rattle.std.specs.List.{All}
use Rattle.manifest.specs.Listing.{listing}
use Rattle.manifest.specs.Spelling.{manifest_text}
use Rattle.disk_index.specs.Snapshots.{Marked}
use Rattle.repository.specs.Entries.{IsOnDisk, entries_for}
use Rattle.repository.specs.Saved.{IsUnlisted}
use Rattle.repository.specs.States.{State, kept_numbers}
use Rattle.repository.specs.Writes.{Writes}
use Rattle.repository.proofs.CommitLemmas.{AreFit}
use Rattle.repository.proofs.FlushLemmas.{all-handed}
use Rattle.repository.proofs.ListedLemmas.{next-some}
use Rattle.repository.proofs.SweepLemmas.{IsSwept, sweep-begun, sweep-form, sweep-gone, sweep-listed, sweep-merging, sweep-numbered, sweep-saved, sweep-saving, sweep-wrote}
use Rattle.repository.proofs.TieLemmas.{tied-all_saved}
use Rattle.repository.proofs.Views.{numbered-seen, seen}
use Rattle.repository.proofs.repository.Repository.sweep.Given as given
use Rattle.repository.proofs.repository.Repository.sweep.Goals as goal
use Rattle.repository.proofs.repository.Repository.sweep.Goals.{After-closed_parts-parts, After-list_files, After-remove_files}

-- ---- what stands on the way

swept : (g : given.Over) (c : After-remove_files g) → IsSwept g.T.Store.files g.T.Store.since (seen c.self.view_is) c.args.self.now c.deref.result.now c.args.store.now c.remove_files.new.store
swept g c = record {
  view = c.self.view_is;
  numbered = numbered-seen c.self.view_is c.self.invariant.0 c.requires;
  gone = c.deref.ensures.value;
  removed = c.remove_files.ensures.same;
  first = c.remove_files.ensures.stops;
}

fit : (g : given.Over) (c : After-closed_parts-parts g) → AreFit c.save.new.held
fit g c = (let parts = c.closed_parts-parts.ensures in record { whole = parts.whole; distinct = parts.distinct; documents = parts.documents; tokens = parts.tokens; few = parts.fits.few })

listed : (g : given.Over) (c : After-list_files g) → IsSwept g.T.Store.files g.T.Store.since (seen c.self.view_is) c.args.self.now c.deref.result.now c.args.store.now c.remove_files.new.store → AreFit c.save.new.held
    → Writes g.T.Store.files g.T.Store.since (IsUnlisted (kept_numbers c.args.self.now)) (λ d. d) c.args.self.now c.args.store.now c.list_files.new.store
listed g c cut fits =
    sweep-listed cut c.deref-2.ensures.value c.deref-3.ensures.value c.save.new.store c.save.ensures.same c.save.ensures.stops c.in_ok-after.ensures.saved fits c.clear.ensures.items c.closed_parts-parts.ensures.parts c.deref-4.ensures.value
    c.deref-5.ensures.value c.list_files.new.store c.list_files.ensures.changed c.list_files.ensures.stops

-- ---- what the calls require

pub save-requires-clause-some : goal.save-requires-clause-some
save-requires-clause-some g c = next-some (seen c.self.view_is) (numbered-seen c.self.view_is c.self.invariant.0 c.requires)

pub save-requires-clause-numbered : goal.save-requires-clause-numbered
save-requires-clause-numbered g c =
    all-handed (seen c.self.view_is) c.deref-2.result.now c.deref-3.result.now c.deref-2.ensures.value c.deref-3.ensures.value (numbered-seen c.self.view_is c.self.invariant.0 c.requires)

pub list_files-requires-clause-on_disk : goal.list_files-requires-clause-on_disk
list_files-requires-clause-on_disk g c = subst (λ (ms : List Marked). All (λ (m : Marked). IsOnDisk m.source) ms) (sym c.closed_parts-parts.ensures.parts) c.in_ok-after.ensures.saved.on_disk

pub list_files-requires-clause-form : goal.list_files-requires-clause-form
list_files-requires-clause-form g c =
    let here = goal.at.list_files-requires-clause-form g c in
    sweep-form (swept g here.After-remove_files) c.deref-2.ensures.value c.deref-3.ensures.value c.save.new.store c.save.ensures.same c.save.ensures.stops c.in_ok-after.ensures.saved (fit g here.After-closed_parts-parts) c.clear.ensures.items
    c.closed_parts-parts.ensures.parts c.deref-4.ensures.value c.deref-5.ensures.value

-- ---- the ways out

pub returns-in_err-remove_files-clause-writes : goal.returns-in_err-remove_files-clause-writes
returns-in_err-remove_files-clause-writes g c = sweep-begun (swept g (goal.at.returns-in_err-remove_files-clause-writes g c).After-remove_files)

pub returns-in_err-after-clause-writes : goal.returns-in_err-after-clause-writes
returns-in_err-after-clause-writes g c =
    sweep-saving (swept g (goal.at.returns-in_err-after-clause-writes g c).After-remove_files) c.deref-2.ensures.value c.deref-3.ensures.value c.save.new.store c.save.ensures.same c.save.ensures.stops

pub returns-in_err-list_files-clause-writes : goal.returns-in_err-list_files-clause-writes
returns-in_err-list_files-clause-writes g c =
    let here = goal.at.returns-in_err-list_files-clause-writes g c in
    listed g here.After-list_files (swept g here.After-remove_files) (fit g here.After-closed_parts-parts)

pub returns-clause-writes : goal.returns-clause-writes
returns-clause-writes g c = (let here = goal.at.returns-clause-writes g c in listed g here.After-list_files (swept g here.After-remove_files) (fit g here.After-closed_parts-parts))

pub returns-clause-wrote : goal.returns-clause-wrote
returns-clause-wrote g c =
    let here = goal.at.returns-clause-wrote g c in
    sweep-wrote (swept g here.After-remove_files) c.deref-2.ensures.value c.deref-3.ensures.value c.save.new.store c.save.ensures.same c.save.ensures.stops c.in_ok-after.ensures.saved (fit g here.After-closed_parts-parts) c.clear.ensures.items
    c.closed_parts-parts.ensures.parts c.deref-4.ensures.value c.deref-5.ensures.value c.list_files.new.store c.in_ok-list_files.ensures.done

pub returns-clause-merging : goal.returns-clause-merging
returns-clause-merging g c =
    let here = goal.at.returns-clause-merging g c in
    sweep-merging (swept g here.After-remove_files) c.deref-2.ensures.value c.deref-3.ensures.value c.save.new.store c.save.ensures.same c.save.ensures.stops c.in_ok-after.ensures.saved (fit g here.After-closed_parts-parts) c.clear.ensures.items
    c.closed_parts-parts.ensures.parts c.deref-4.ensures.value c.deref-5.ensures.value c.list_files.new.store c.in_ok-list_files.ensures.done (c.self.invariant.1 (ap (λ (x : State). x.usable) c.self.view_is ∙ c.requires))

pub returns-clause-saved : goal.returns-clause-saved
returns-clause-saved g c =
    let here = goal.at.returns-clause-saved g c in
    sweep-saved (swept g here.After-remove_files) c.deref-2.ensures.value c.deref-3.ensures.value c.save.new.store c.save.ensures.same c.save.ensures.stops c.in_ok-after.ensures.saved (fit g here.After-closed_parts-parts) c.clear.ensures.items

pub returns-clause-gone : goal.returns-clause-gone
returns-clause-gone g c =
    let bytes = manifest_text (listing c.in_ok-after.after (entries_for c.closed_parts-parts.result.now) c.deref-4.result.now c.deref-5.result.now) in
    sweep-gone (swept g (goal.at.returns-clause-gone g c).After-remove_files) c.deref-2.ensures.value c.deref-3.ensures.value c.save.new.store c.save.ensures.same c.save.ensures.stops bytes c.list_files.new.store c.in_ok-remove_files.ensures.gone
    c.in_ok-list_files.ensures.done

pub invariant_of-self-2 : goal.invariant_of-self-2
invariant_of-self-2 g c = (
  λ usable.
      let here = goal.at.invariant_of-self-2 g c in
      sweep-numbered (swept g here.After-remove_files) c.deref-2.ensures.value c.deref-3.ensures.value c.save.new.store c.save.ensures.same c.save.ensures.stops c.in_ok-after.ensures.saved (fit g here.After-closed_parts-parts) c.clear.ensures.items,
  λ usable.
      tied-all_saved (g.T.Store.files c.save.new.store) _ _ _ c.self.inside.held c.save.new.held c.self.inside.merge c.in_ok-after.ensures.saved (c.self.invariant.1 (ap (λ (x : State). x.usable) c.self.view_is ∙ c.requires)),
)
