use Rattle.std.proofs.Common.{◌≡◌, ◌<◌, ◌∙◌, List, Some, ap, refl, subst, sym, ℕ}
use Rattle.std.specs.List.{All}
use Rattle.std.specs.Option.{option_map}
use Rattle.ri_base.specs.Text.{is_name}
use Rattle.store_ends.specs.Files.{with_file}
use Rattle.disk_index.specs.Snapshots.{Marked}
use Rattle.repository.specs.Entries.{IsOnDisk}
use Rattle.repository.specs.Names.{manifest_name}
use Rattle.repository.specs.Numbers.{next_after}
use Rattle.repository.specs.Priors.{number_named, prior_set, with_entry, with_prior}
use Rattle.repository.specs.Saved.{IsUnlisted}
use Rattle.repository.specs.Stale.{with_old}
use Rattle.repository.specs.Stands.{Collection}
use Rattle.repository.specs.States.{IsNumbered, State, listed_numbers}
use Rattle.repository.specs.Writes.{Writes, Wrote}
use Rattle.repository.proofs.CommitLemmas.{AreFit}
use Rattle.repository.proofs.PriorSetLemmas.{IsSetAs, IsSetListed, Takes, handed-is, leaves-listed, listing-is, new-number, same-listed, state, state-is, text-is}
use Rattle.repository.proofs.PriorWrites.{writes-begun, writes-none, writes-set, wrote-set}
use Rattle.repository.proofs.SetLemmas.{set-listing, set-numbered}
use Rattle.repository.proofs.Views.{numbered-seen}
use Rattle.repository.proofs.repository.Repository.replace_prior.Given as given
use Rattle.repository.proofs.repository.Repository.replace_prior.Goals as goal
use Rattle.repository.proofs.repository.Repository.replace_prior.Goals.{After-deref-2, After-list_files, After-put_rows}

-- ---- what stands before the manifest is written

takes : (g : given.Over) (c : After-put_rows g) → Takes c.args.self.now c.in_ok-numbers.numbers
takes g c = record { next = c.in_ok-numbers.ensures.next; numbers = c.in_ok-numbers.ensures.numbers }

numbered : (g : given.Over) (c : After-deref-2 g) → IsNumbered c.args.self.now
numbered g c = subst IsNumbered c.self.view_is (numbered-seen c.self.view_is c.self.invariant.0 c.requires.usable)

fit : (g : given.Over) (c : After-deref-2 g) → AreFit c.args.self.now.held
fit g c = (let parts = c.closed_parts-parts.ensures in
    subst (λ (x : State). AreFit x.held) c.self.view_is (record { whole = parts.whole; distinct = parts.distinct; documents = parts.documents; tokens = parts.tokens; few = parts.fits.few }))

is_set : (g : given.Over) (c : After-deref-2 g) → IsSetAs c.args.self.now c.args.name c.in_ok-number.number c.next-after.result c.args.self.now.held.parts.closed c.list_prior.new.stale.items c.list_prior.new.priors.items
is_set g c = record {
  next_is = c.next-after.ensures.next ∙ c.in_ok-number.ensures.next ∙ ap next_after c.in_ok-numbers.ensures.next;
  parts_are = refl;
  stale_are = c.in_ok-list_prior.ensures.stale ∙ ap (λ (x : State). with_old x.stale (number_named x.priors c.args.name)) c.self.view_is;
  priors_are = c.in_ok-list_prior.ensures.priors ∙ ap (λ (x : State). with_entry x.priors c.args.name c.in_ok-number.number) c.self.view_is;
}

-- the lists that are handed on
is_handed : (g : given.Over) (c : After-deref-2 g) → IsSetAs c.args.self.now c.args.name c.in_ok-number.number c.next-after.result c.closed_parts-parts.result.now c.deref.result.now c.deref-2.result.now
is_handed g c =
    handed-is c.args.self.now c.args.name c.in_ok-number.number c.next-after.result c.args.self.now.held.parts.closed c.list_prior.new.stale.items c.list_prior.new.priors.items (is_set g c)
    (c.closed_parts-parts.ensures.parts ∙ ap (λ (x : State). x.held.parts.closed) c.self.view_is) c.deref.ensures.value c.deref-2.ensures.value

set_listed : (g : given.Over) (c : After-deref-2 g) → IsSetListed c.args.self.now c.args.name c.in_ok-number.number
set_listed g c =
    let s = c.args.self.now in
    let n = c.in_ok-number.number in
    let k = c.in_ok-numbers.numbers in
    let taken : Takes s k = record { next = c.in_ok-numbers.ensures.next; numbers = c.in_ok-numbers.ensures.numbers } in
    let below : n < next_after s.next = subst (λ (m : ℕ). n < m) (c.in_ok-number.ensures.next ∙ ap next_after taken.next) c.in_ok-number.ensures.bounds.1 in
    set-listing s c.args.name n (numbered g c) c.requires.stored (fit g c).whole (fit g c).few (sym (ap is_name c.as_bytes-form.ensures.bytes) ∙ c.as_bytes-form.ensures.form) c.requires.name
    c.requires.room (new-number s k n taken c.in_ok-number.ensures.new) c.in_ok-number.ensures.bounds.0 below

set_state : (g : given.Over) (c : After-deref-2 g)
    → state c.self.inside.merge c.self.inside.held c.next-after.result c.list_prior.new.stale.items c.list_prior.new.priors.items ≡ prior_set c.args.self.now c.args.name c.in_ok-number.number
set_state g c =
    state-is c.args.self.now c.args.name c.in_ok-number.number c.next-after.result c.args.self.now.held.parts.closed c.list_prior.new.stale.items c.list_prior.new.priors.items (is_set g c)
    c.self.inside.held c.self.inside.merge (ap (λ (x : State). x.held) c.self.view_is) (ap (λ (x : State). x.merge) c.self.view_is)

-- ---- the listing

pub list_files-requires-clause-on_disk : goal.list_files-requires-clause-on_disk
list_files-requires-clause-on_disk g c =
    let closed : c.closed_parts-parts.result.now ≡ c.args.self.now.held.parts.closed = c.closed_parts-parts.ensures.parts ∙ ap (λ (x : State). x.held.parts.closed) c.self.view_is in
    subst (λ (ms : List Marked). All (λ (m : Marked). IsOnDisk m.source) ms) (sym closed) c.requires.stored.0

pub list_files-requires-clause-form : goal.list_files-requires-clause-form
list_files-requires-clause-form g c =
    let d = (goal.at.list_files-requires-clause-form g c).After-deref-2 in
    listing-is c.args.self.now c.args.name c.in_ok-number.number c.next-after.result c.closed_parts-parts.result.now c.deref.result.now c.deref-2.result.now (is_handed g d) (set_listed g d)

pub invariant_of-self-2 : goal.invariant_of-self-2
invariant_of-self-2 g c = (
  λ usable.
      let d = (goal.at.invariant_of-self-2 g c).After-deref-2 in
      subst IsNumbered (sym (set_state g d)) (set-numbered c.args.self.now c.args.name c.in_ok-number.number (numbered g d) c.requires.stored (set_listed g d)),
  λ usable. c.self.invariant.1 (ap (λ (x : State). x.usable) c.self.view_is ∙ c.requires.usable),
)

-- ---- the ways out

-- before the manifest is written
begun : (g : given.Over) (c : After-put_rows g)
    → Writes g.T.Store.files g.T.Store.since (IsUnlisted (listed_numbers c.args.self.now)) (λ (d : Collection). with_prior d c.args.name c.args.rows.now) c.args.self.now c.args.store.now c.put_rows.new.store
begun g c =
    let s = c.args.self.now in
    let k = c.in_ok-numbers.numbers in
    writes-begun g.T.Store.files g.T.Store.since s (λ (d : Collection). with_prior d c.args.name c.args.rows.now) c.args.store.now c.put_rows.new.store (same-listed s k _ _ (takes g c) c.put_rows.ensures.same)
    (leaves-listed s k _ _ _ (takes g c) c.put_rows.ensures.stops)

-- and with it
listed : (g : given.Over) (c : After-list_files g) → Takes c.args.self.now c.in_ok-numbers.numbers → AreFit c.args.self.now.held → IsSetListed c.args.self.now c.args.name c.in_ok-number.number
    → IsSetAs c.args.self.now c.args.name c.in_ok-number.number c.next-after.result c.closed_parts-parts.result.now c.deref.result.now c.deref-2.result.now
    → Writes g.T.Store.files g.T.Store.since (IsUnlisted (listed_numbers c.args.self.now)) (λ (d : Collection). with_prior d c.args.name c.args.rows.now) c.args.self.now c.args.store.now c.list_files.new.store
listed g c taken fits form is =
    let s = c.args.self.now in
    let n = c.in_ok-number.number in
    let k = c.in_ok-numbers.numbers in
    writes-set g.T.Store.files g.T.Store.since s c.args.name n c.args.rows.now c.put_rows.ensures.form c.requires.stored fits form c.args.store.now c.put_rows.new.store c.in_ok-number.ensures.done
    (same-listed s k _ _ taken c.put_rows.ensures.same) (leaves-listed s k _ _ _ taken c.put_rows.ensures.stops) c.list_files.new.store _
    (text-is s c.args.name n c.next-after.result c.closed_parts-parts.result.now c.deref.result.now c.deref-2.result.now is) c.list_files.ensures.changed c.list_files.ensures.stops

pub returns-in_err-numbers-clause-writes : goal.returns-in_err-numbers-clause-writes
returns-in_err-numbers-clause-writes g c = writes-none g.T.Store.files g.T.Store.since c.args.self.now (λ (d : Collection). with_prior d c.args.name c.args.rows.now) c.args.store.now

pub returns-in_err-number-clause-writes : goal.returns-in_err-number-clause-writes
returns-in_err-number-clause-writes g c = begun g (goal.at.returns-in_err-number-clause-writes g c).After-put_rows

pub returns-in_err-list_prior-clause-writes : goal.returns-in_err-list_prior-clause-writes
returns-in_err-list_prior-clause-writes g c = begun g (goal.at.returns-in_err-list_prior-clause-writes g c).After-put_rows

pub returns-in_err-list_files-clause-writes : goal.returns-in_err-list_files-clause-writes
returns-in_err-list_files-clause-writes g c =
    let here = goal.at.returns-in_err-list_files-clause-writes g c in
    listed g here.After-list_files (takes g here.After-put_rows) (fit g here.After-deref-2) (set_listed g here.After-deref-2) (is_handed g here.After-deref-2)

pub returns-clause-writes : goal.returns-clause-writes
returns-clause-writes g c =
    let here = goal.at.returns-clause-writes g c in
    listed g here.After-list_files (takes g here.After-put_rows) (fit g here.After-deref-2) (set_listed g here.After-deref-2) (is_handed g here.After-deref-2)

pub returns-clause-set : goal.returns-clause-set
returns-clause-set g c =
    let here = goal.at.returns-clause-set g c in
    (c.in_ok-number.number, new-number c.args.self.now c.in_ok-numbers.numbers c.in_ok-number.number (takes g here.After-put_rows) c.in_ok-number.ensures.new, set_state g here.After-deref-2)

pub returns-clause-wrote : goal.returns-clause-wrote
returns-clause-wrote g c =
    let s = c.args.self.now in
    let n = c.in_ok-number.number in
    let d = (goal.at.returns-clause-wrote g c).After-deref-2 in
    let a = g.T.Store.files c.args.store.now in
    let b = g.T.Store.files c.put_rows.new.store in
    let z = g.T.Store.files c.list_files.new.store in
    let text = text-is s c.args.name n c.next-after.result c.closed_parts-parts.result.now c.deref.result.now c.deref-2.result.now (is_handed g d) in
    let done = c.in_ok-list_files.ensures.done ∙ ap (λ (bytes : List ℕ). option_map (with_file manifest_name (Some bytes)) b) text in
    let same = same-listed s c.in_ok-numbers.numbers _ _ (takes g (goal.at.returns-clause-wrote g c).After-put_rows) c.put_rows.ensures.same in
    let wrote = wrote-set a b z s c.args.name n c.args.rows.now c.put_rows.ensures.form c.requires.stored (fit g d) c.in_ok-number.ensures.done same (set_listed g d) done in
    subst (λ (x : State). Wrote (λ (e : Collection). with_prior e c.args.name c.args.rows.now) a z s x) (sym (set_state g d)) wrote
