use Rattle.std.proofs.Common.{◌∙◌, ℕ, IfSome, List, Option, ap, arith, length, subst, sym, take}
use Rattle.std.specs.List.{All}
use Rattle.disk_index.specs.Snapshots.{Marked}
use Rattle.merge_job.specs.Merge.{Merging}
use Rattle.repository.specs.Entries.{IsOnDisk}
use Rattle.repository.specs.Merges.{all_stale}
use Rattle.repository.specs.States.{State, part_numbers}
use Rattle.repository.specs.Ties.{IsTied}
use Rattle.repository.proofs.CommitLemmas.{AreFit}
use Rattle.repository.proofs.EndCalls.{EndWrites, IsHanded, end-begun, end-handed, end-none, ended-form, ended-listed, ended-numbered, ended-over, ended-state}
use Rattle.repository.proofs.ListedLemmas.{next-some}
use Rattle.repository.proofs.TieLemmas.{begins-length}
use Rattle.repository.proofs.Views.{numbered-seen, seen}
use Rattle.repository.proofs.repository.Repository.end_merge.Given as given
use Rattle.repository.proofs.repository.Repository.end_merge.Goals as goal
use Rattle.repository.proofs.repository.Repository.end_merge.Goals.{After-closed_parts-parts, After-deref-2, After-list_files, After-save}

-- ---- what stands on the way

handed : (g : given.Over) (c : After-deref-2 g) → IsHanded (seen c.self.view_is) c.args.self.now c.args.job c.exchange.new.held c.note_parts.new.stale.items c.deref.result.now c.deref-2.result.now
handed g c =
    let s = seen c.self.view_is in
    let merged = ap (λ (ms : List Marked). length ms) (c.parts-count.ensures.parts ∙ c.snapshot.ensures) in
    let front = c.split_at.ensures.front ∙ ap (λ (ms : List Marked). take (length c.parts-count.result.now) ms) c.closed_parts.ensures.parts ∙ ap (λ (n : ℕ). take n s.held.parts.closed) merged in
    record {
      view = c.self.view_is;
      numbered = numbered-seen c.self.view_is c.self.invariant.0 c.requires.usable;
      tied = subst (λ (x : State). IsTied x.held c.args.job) (sym c.self.view_is) c.requires.tied;
      none = ap (λ (x : State). x.merge) c.self.view_is ∙ c.requires.none;
      exchanged = c.in_ok-exchange.ensures.parts;
      held = c.in_ok-exchange.ensures.held;
      whole = c.in_ok-exchange.ensures.whole;
      left = c.in_ok-note_parts.ensures ∙ ap (λ (ms : List Marked). all_stale s.stale (part_numbers ms)) front;
      stale_is = c.deref.ensures.value;
      priors_are = c.deref-2.ensures.value;
    }

fit : (g : given.Over) (c : After-closed_parts-parts g) → AreFit c.save.new.held
fit g c = (let parts = c.closed_parts-parts.ensures in record { whole = parts.whole; distinct = parts.distinct; documents = parts.documents; tokens = parts.tokens; few = parts.fits.few })

begun : (g : given.Over) (c : After-save g) → IsHanded (seen c.self.view_is) c.args.self.now c.args.job c.exchange.new.held c.note_parts.new.stale.items c.deref.result.now c.deref-2.result.now
    → EndWrites g.T.Store.files g.T.Store.since c.args.job c.args.self.now c.args.store.now c.save.new.store
begun g c lists = end-begun lists g.T.Store.files g.T.Store.since c.args.store.now c.save.new.store c.save.ensures.same c.save.ensures.stops

listed : (g : given.Over) (c : After-list_files g) → IsHanded (seen c.self.view_is) c.args.self.now c.args.job c.exchange.new.held c.note_parts.new.stale.items c.deref.result.now c.deref-2.result.now → AreFit c.save.new.held
    → EndWrites g.T.Store.files g.T.Store.since c.args.job c.args.self.now c.args.store.now c.list_files.new.store
listed g c lists fits =
    ended-listed lists g.T.Store.files g.T.Store.since c.args.store.now c.save.new.store c.save.ensures.same c.save.ensures.stops c.in_ok-after.ensures.saved fits
    c.closed_parts-parts.ensures.parts c.deref-3.ensures.value c.deref-4.ensures.value c.list_files.new.store c.list_files.ensures.changed c.list_files.ensures.stops

-- ---- what the calls require

pub split_at-requires : goal.split_at-requires
split_at-requires g c =
    let s = seen c.self.view_is in
    let tied : IsTied s.held c.args.job = subst (λ (x : State). IsTied x.held c.args.job) (sym c.self.view_is) c.requires.tied in
    let l = begins-length c.args.job.snapshot s.held.parts.closed tied.begins in
    let e = ap (λ (x : List Marked). length x) (c.parts-count.ensures.parts ∙ c.snapshot.ensures) in
    let same = ap (λ (x : List Marked). length x) c.closed_parts.ensures.parts in
    omega (arith, l, e, same)

pub exchange-requires-clause-tied : goal.exchange-requires-clause-tied
exchange-requires-clause-tied g c = subst (λ (x : State). IsTied x.held c.args.job) (sym c.self.view_is) c.requires.tied

pub save-requires-clause-some : goal.save-requires-clause-some
save-requires-clause-some g c = next-some (seen c.self.view_is) (numbered-seen c.self.view_is c.self.invariant.0 c.requires.usable)

pub save-requires-clause-numbered : goal.save-requires-clause-numbered
save-requires-clause-numbered g c = end-handed (handed g (goal.at.save-requires-clause-numbered g c).After-deref-2)

pub list_files-requires-clause-on_disk : goal.list_files-requires-clause-on_disk
list_files-requires-clause-on_disk g c =
    subst (λ (ms : List Marked). All (λ (m : Marked). IsOnDisk m.source) ms) (sym c.closed_parts-parts.ensures.parts) c.in_ok-after.ensures.saved.on_disk

pub list_files-requires-clause-form : goal.list_files-requires-clause-form
list_files-requires-clause-form g c =
    let here = goal.at.list_files-requires-clause-form g c in
    ended-form (handed g here.After-deref-2) g.T.Store.files g.T.Store.since c.args.store.now c.save.new.store c.save.ensures.same c.save.ensures.stops c.in_ok-after.ensures.saved (fit g here.After-closed_parts-parts)
    c.closed_parts-parts.ensures.parts c.deref-3.ensures.value c.deref-4.ensures.value

-- ---- the ways out

pub returns-in_err-note_parts-clause-stay : goal.returns-in_err-note_parts-clause-stay
returns-in_err-note_parts-clause-stay g c = (end-none g.T.Store.files g.T.Store.since c.args.job c.args.self.now c.args.store.now).stay

pub returns-in_err-note_parts-clause-stay_on : goal.returns-in_err-note_parts-clause-stay_on
returns-in_err-note_parts-clause-stay_on g c = (end-none g.T.Store.files g.T.Store.since c.args.job c.args.self.now c.args.store.now).stay_on

pub returns-in_err-note_parts-clause-stops : goal.returns-in_err-note_parts-clause-stops
returns-in_err-note_parts-clause-stops g c = (end-none g.T.Store.files g.T.Store.since c.args.job c.args.self.now c.args.store.now).stops

pub returns-in_err-exchange-clause-stay : goal.returns-in_err-exchange-clause-stay
returns-in_err-exchange-clause-stay g c = (end-none g.T.Store.files g.T.Store.since c.args.job c.args.self.now c.args.store.now).stay

pub returns-in_err-exchange-clause-stay_on : goal.returns-in_err-exchange-clause-stay_on
returns-in_err-exchange-clause-stay_on g c = (end-none g.T.Store.files g.T.Store.since c.args.job c.args.self.now c.args.store.now).stay_on

pub returns-in_err-exchange-clause-stops : goal.returns-in_err-exchange-clause-stops
returns-in_err-exchange-clause-stops g c = (end-none g.T.Store.files g.T.Store.since c.args.job c.args.self.now c.args.store.now).stops

pub returns-in_err-after-clause-stay : goal.returns-in_err-after-clause-stay
returns-in_err-after-clause-stay g c = (let here = goal.at.returns-in_err-after-clause-stay g c in (begun g here.After-save (handed g here.After-deref-2)).stay)

pub returns-in_err-after-clause-stay_on : goal.returns-in_err-after-clause-stay_on
returns-in_err-after-clause-stay_on g c = (let here = goal.at.returns-in_err-after-clause-stay_on g c in (begun g here.After-save (handed g here.After-deref-2)).stay_on)

pub returns-in_err-after-clause-stops : goal.returns-in_err-after-clause-stops
returns-in_err-after-clause-stops g c = (let here = goal.at.returns-in_err-after-clause-stops g c in (begun g here.After-save (handed g here.After-deref-2)).stops)

pub returns-in_err-list_files-clause-stay : goal.returns-in_err-list_files-clause-stay
returns-in_err-list_files-clause-stay g c = (let here = goal.at.returns-in_err-list_files-clause-stay g c in (listed g here.After-list_files (handed g here.After-deref-2) (fit g here.After-closed_parts-parts)).stay)

pub returns-in_err-list_files-clause-stay_on : goal.returns-in_err-list_files-clause-stay_on
returns-in_err-list_files-clause-stay_on g c = (let here = goal.at.returns-in_err-list_files-clause-stay_on g c in (listed g here.After-list_files (handed g here.After-deref-2) (fit g here.After-closed_parts-parts)).stay_on)

pub returns-in_err-list_files-clause-stops : goal.returns-in_err-list_files-clause-stops
returns-in_err-list_files-clause-stops g c = (let here = goal.at.returns-in_err-list_files-clause-stops g c in (listed g here.After-list_files (handed g here.After-deref-2) (fit g here.After-closed_parts-parts)).stops)

pub returns-clause-stay : goal.returns-clause-stay
returns-clause-stay g c = (let here = goal.at.returns-clause-stay g c in (listed g here.After-list_files (handed g here.After-deref-2) (fit g here.After-closed_parts-parts)).stay)

pub returns-clause-stay_on : goal.returns-clause-stay_on
returns-clause-stay_on g c = (let here = goal.at.returns-clause-stay_on g c in (listed g here.After-list_files (handed g here.After-deref-2) (fit g here.After-closed_parts-parts)).stay_on)

pub returns-clause-stops : goal.returns-clause-stops
returns-clause-stops g c = (let here = goal.at.returns-clause-stops g c in (listed g here.After-list_files (handed g here.After-deref-2) (fit g here.After-closed_parts-parts)).stops)

pub returns-clause-over : goal.returns-clause-over
returns-clause-over g c = λ merging.
    let here = goal.at.returns-clause-over g c in
    ended-over (handed g here.After-deref-2) g.T.Store.files g.T.Store.since c.args.store.now c.save.new.store c.save.ensures.same c.save.ensures.stops c.in_ok-after.ensures.saved (fit g here.After-closed_parts-parts)
    c.closed_parts-parts.ensures.parts c.deref-3.ensures.value c.deref-4.ensures.value c.list_files.new.store c.in_ok-list_files.ensures.done merging

pub returns-clause-state : goal.returns-clause-state
returns-clause-state g c =
    let here = goal.at.returns-clause-state g c in
    ended-state (handed g here.After-deref-2) g.T.Store.files g.T.Store.since c.args.store.now c.save.new.store c.save.ensures.same c.save.ensures.stops c.in_ok-after.ensures.saved (fit g here.After-closed_parts-parts)

pub invariant_of-self-2 : goal.invariant_of-self-2
invariant_of-self-2 g c = (
  λ usable.
      let here = goal.at.invariant_of-self-2 g c in
      ended-numbered (handed g here.After-deref-2) g.T.Store.files g.T.Store.since c.args.store.now c.save.new.store c.save.ensures.same c.save.ensures.stops c.in_ok-after.ensures.saved (fit g here.After-closed_parts-parts),
  λ usable. subst (λ (o : Option Merging). IfSome o (IsTied c.save.new.held)) (sym (ap (λ (x : State). x.merge) c.self.view_is ∙ c.requires.none)) tt,
)
