use Rattle.std.proofs.Common.{◌≡◌, ◌+◌, ◌-◌, ◌*◌, ℕ, List, Ok, Option, Result, length, map, ap, refl, subst, sym, ◌∙◌, arith}
use Rattle.std.proofs.lemmas.Result.{err_from_is_err_and}
use Rattle.ri_base.specs.Query.{filter_tree}
use Rattle.ri_base.specs.declared.seg_fault.SegFault.{SegFault}
use Rattle.store_ends.specs.Files.{Files}
use Rattle.belief_nodes.specs.Network.{network_tree}
use Rattle.belief_nodes.specs.Priors.{Prior}
use Rattle.disk_index.specs.Snapshots.{AreBacked, AreIntact, IsFileAmong, live}
use Rattle.disk_index.proofs.AmongLemmas.{AreIntact-backed}
use Rattle.ranker.specs.Blocks.{AreReadAt, opened_at}
use Rattle.ranker.specs.Going.{IsAheadBy, PassesAt, tally}
use Rattle.ranker.specs.Passed.{part_at, passed}
use Rattle.ranker.specs.Unbeaten.{Sought, sought, work_at}
use Rattle.ranker.specs.Windows.{KeepsWindows}
use Rattle.ranker.proofs.OpeningLemmas.{OpensAt-broken, OpensAt-passed, opens-same, opens-then, times-sum}
use Rattle.ranker.proofs.PlaceLemmas.{IsAheadAt-later, credit-min}
use Rattle.ranker.proofs.ReadLemmas.{reads-blocks, reads-same, reads-then}
use Rattle.ranker.proofs.SpentLemmas.{rise-same, rise-then}
use Rattle.ranker.proofs.WindowLemmas.{KeepsWindows-same, KeepsWindows-then}
use Rattle.ranker.proofs.WorkLemmas.{PassesAt-broken, PassesAt-later, PassesAt-passed, Passes-same, Passes-then}
use Rattle.ranker.proofs.snapshots.pass_parts.Given as given
use Rattle.ranker.proofs.snapshots.pass_parts.Goals as goal
use Rattle.ranker.proofs.snapshots.pass_parts.Goals.{After-pass_next, Start}

module _ (g : given.Over) (c : Start g) where
  -- what is searched for
  abbrev found : ℕ → Sought
  found count = sought c.args.rule.now.kind (map (λ b. (goal.BeliefNode-dyn g (b.vtable, b.value)).meaning b.value) c.args.plugs.now) (map filter_tree c.args.filters.now) (network_tree c.args.network.now) c.args.tables.now count

module _ (g : given.Over) (c : After-pass_next g) where
  abbrev priors : List Prior
  priors = map (λ b. (goal.BeliefNode-dyn g (b.vtable, b.value)).meaning b.value) c.args.plugs.now

  abbrev priors_here : List Prior
  priors_here = map (λ b. (goal.BeliefNode-dyn g (b.vtable, b.value)).meaning b.value) c.loop-left.plugs

  -- by these priors
  abbrev by : List Prior → ℕ → Sought
  by told count = sought c.args.rule.now.kind told (map filter_tree c.args.filters.now) (network_tree c.args.network.now) c.args.tables.now count

  backed_here : AreBacked (g.T.Store.files c.args.store.now) c.args.parts.now → AreBacked (g.T.Store.files c.loop-left.store) c.args.parts.now
  backed_here backed = subst (λ (f : Option Files). AreBacked f c.args.parts.now) (sym c.loop-left.invariant.reads.quiet.same_files) backed

  intact_here : AreIntact (g.T.Store.files c.args.store.now) c.args.parts.now → AreIntact (g.T.Store.files c.loop-left.store) c.args.parts.now
  intact_here intact = subst (λ (f : Option Files). AreIntact f c.args.parts.now) (sym c.loop-left.invariant.reads.quiet.same_files) intact

  read_here : AreBacked (g.T.Store.files c.args.store.now) c.args.parts.now → AreReadAt (g.T.Store.files c.args.store.now) c.args.parts.now c.args.at.now c.args.cache.now c.args.held.now
      → AreReadAt (g.T.Store.files c.loop-left.store) c.args.parts.now c.loop-left.at c.loop-left.cache c.loop-left.held
  read_here backed cached =
      reads-blocks g.T.Store.files g.T.Store.layers g.T.Store.clock g.T.Store.since g.T.Store.longest g.T.Store.held g.T.Store.faults (IsFileAmong c.args.parts.now) (λ told. AreBacked told c.args.parts.now) (part_at c.args.parts.now c.args.at.now.part).source (part_at c.args.parts.now c.loop-left.at.part).source c.args.store.now c.loop-left.store c.args.cache.now c.loop-left.cache
      c.args.held.now c.loop-left.held c.loop-left.invariant.reads backed cached

  ahead_here : AreBacked (g.T.Store.files c.args.store.now) c.args.parts.now → AreReadAt (g.T.Store.files c.args.store.now) c.args.parts.now c.args.at.now c.args.cache.now c.args.held.now → (count : ℕ) → IsAheadBy (by priors count) (g.T.Store.files c.args.store.now) c.args.parts.now c.args.at.now
      → IsAheadBy (by priors_here count) (g.T.Store.files c.loop-left.store) c.args.parts.now c.loop-left.at
  ahead_here backed cached count ahead =
      let s = by priors count in
      IsAheadAt-later s.kind priors priors_here s.filters s.network s.tables (g.T.Store.files c.args.store.now) (g.T.Store.files c.loop-left.store) c.args.parts.now c.loop-left.at (sym c.loop-left.invariant.stay) (sym c.loop-left.invariant.reads.quiet.same_files)
      (c.loop-left.invariant.ahead backed cached count ahead)

  -- what it comes to here is the same by what was told and read at first
  as_before : (count : ℕ) (result : Result ℕ SegFault)
      → PassesAt (by priors_here count) (length c.args.terms.now) (g.T.Store.files c.loop-left.store) c.args.parts.now c.loop-left.at c.pass_next.new.at c.loop-left.first c.pass_next.new.first (tally c.loop-left.held.range c.loop-left.squares c.loop-left.blocks)
      (tally c.pass_next.new.held.range c.pass_next.new.squares c.pass_next.new.blocks) result
      → PassesAt (by priors count) (length c.args.terms.now) (g.T.Store.files c.args.store.now) c.args.parts.now c.loop-left.at c.pass_next.new.at c.loop-left.first c.pass_next.new.first (tally c.loop-left.held.range c.loop-left.squares c.loop-left.blocks)
      (tally c.pass_next.new.held.range c.pass_next.new.squares c.pass_next.new.blocks) result
  as_before count result h =
      PassesAt-later priors_here priors (g.T.Store.files c.loop-left.store) (g.T.Store.files c.args.store.now) c.loop-left.invariant.stay c.loop-left.invariant.reads.quiet.same_files (λ told. by told count) (length c.args.terms.now) c.args.parts.now c.loop-left.at c.pass_next.new.at
      c.loop-left.first c.pass_next.new.first (tally c.loop-left.held.range c.loop-left.squares c.loop-left.blocks) (tally c.pass_next.new.held.range c.pass_next.new.squares c.pass_next.new.blocks) result h

pub loop-left-init : goal.loop-left-init
loop-left-init g c = record {
  undamaged = refl;
  stay = refl;
  so_far = λ backed cached count ahead. Passes-same _ _ _ _ _;
  ahead = λ backed cached count ahead. ahead;
  windows = KeepsWindows-same _ _ _;
  place = c.requires.place;
  reads = reads-same _ _ _ _ _ _ _ _ _ _ _ _ _ c.requires.fits;
  opened = opens-same _ _ _ _ (omega arith);
  few = omega arith;
  credit = refl;
  squared = rise-same _ _;
  counted = rise-same _ _;
}

pub loop-left-preserved : goal.loop-left-preserved
loop-left-preserved g c =
    let on = (goal.at.loop-left-preserved g c).After-pass_next in
    let told = g.T.Store.files c.args.store.now in
    let parts = c.args.parts.now in
    let terms = length c.args.terms.now in
    let inv = c.loop-left.invariant in
    let docs = c.in_ok-passed.ensures.docs in
    record {
      undamaged = c.in_ok-passed.ensures.undamaged ∙ c.loop-left.invariant.undamaged;
      stay = c.pass_next.ensures.stay ∙ inv.stay;
      so_far = λ backed cached count ahead.
          let s = by g on (priors g on) count in
          Passes-then s terms (passed told parts c.args.at.now) (passed told parts c.loop-left.at) (passed told parts c.pass_next.new.at) c.args.first.now c.loop-left.first c.pass_next.new.first
          (work_at s told parts c.args.at.now c.args.held.now.range c.args.squares.now c.args.blocks.now) (work_at s told parts c.loop-left.at c.loop-left.held.range c.loop-left.squares c.loop-left.blocks) (work_at s told parts c.pass_next.new.at c.pass_next.new.held.range c.pass_next.new.squares c.pass_next.new.blocks)
          (inv.so_far backed cached count ahead)
          (as_before g on count (Ok c.in_ok-passed.passed) (c.in_ok-passed.ensures.work (backed_here g on backed) (read_here g on backed cached) count (ahead_here g on backed cached count ahead))).first;
      ahead = λ backed cached count ahead. (as_before g on count (Ok c.in_ok-passed.passed) (c.in_ok-passed.ensures.work (backed_here g on backed) (read_here g on backed cached) count (ahead_here g on backed cached count ahead))).known;
      windows = KeepsWindows-then (network_tree c.args.network.now) (live told parts) c.args.first.now c.loop-left.first c.pass_next.new.first inv.windows
          (subst (λ (f : Option Files). KeepsWindows (network_tree c.args.network.now) (live f parts) c.loop-left.first c.pass_next.new.first) inv.reads.quiet.same_files c.in_ok-passed.ensures.windows);
      place = c.pass_next.ensures.place;
      reads = reads-then _ _ _ _ _ _ _ _ _ _ _ _ _ _ _ _ _ _ _ _ _ inv.reads c.pass_next.ensures.reads;
      opened = opens-then terms (opened_at parts c.args.at.now c.args.held.now.range) (opened_at parts c.loop-left.at c.loop-left.held.range) (opened_at parts c.pass_next.new.at c.pass_next.new.held.range) c.args.blocks.now c.loop-left.blocks c.pass_next.new.blocks inv.opened c.in_ok-passed.ensures.blocks.opened;
      few =
          let whole : c.in_ok-passed.passed + (c.loop-left.left - c.in_ok-passed.passed) ≡ c.loop-left.left = omega (arith, docs) in
          let sum = times-sum terms c.in_ok-passed.passed (c.loop-left.left - c.in_ok-passed.passed) in
          let all = ap (λ n. length c.args.terms.now * n) whole in
          let more = c.in_ok-passed.ensures.each in
          omega (arith, sum, all, more, inv.few);
      credit = omega (arith, docs, inv.credit);
      squared = rise-then _ _ _ _ _ _ inv.squared c.in_ok-passed.ensures.squared;
      counted = rise-then _ _ _ _ _ _ inv.counted c.in_ok-passed.ensures.counted;
    }

-- ---- a part isn't passed

pub returns-in_err-passed-clause-honest : goal.returns-in_err-passed-clause-honest
returns-in_err-passed-clause-honest g c = λ intact cached.
    let on = (goal.at.returns-in_err-passed-clause-honest g c).After-pass_next in
    let p = err_from_is_err_and c.from_residual.result c.from_residual.ensures.1 in
    rw (p.1, p.2) (c.in_err-passed.ensures.honest (intact_here g on intact) (read_here g on (AreIntact-backed (g.T.Store.files c.args.store.now) c.args.parts.now intact) cached))

pub returns-in_err-passed-clause-reads : goal.returns-in_err-passed-clause-reads
returns-in_err-passed-clause-reads g c = reads-then _ _ _ _ _ _ _ _ _ _ _ _ _ _ _ _ _ _ _ _ _ c.loop-left.invariant.reads c.pass_next.ensures.reads

pub returns-in_err-passed-clause-work : goal.returns-in_err-passed-clause-work
returns-in_err-passed-clause-work g c = λ backed cached count ahead.
    let on = (goal.at.returns-in_err-passed-clause-work g c).After-pass_next in
    PassesAt-broken (by g on (priors g on) count) (length c.args.terms.now) (g.T.Store.files c.args.store.now) c.args.parts.now c.args.at.now _ c.loop-left.at c.pass_next.new.at c.args.first.now c.loop-left.first c.pass_next.new.first
    (tally c.args.held.now.range c.args.squares.now c.args.blocks.now) (tally c.loop-left.held.range c.loop-left.squares c.loop-left.blocks) (tally c.pass_next.new.held.range c.pass_next.new.squares c.pass_next.new.blocks) c.pass_next.result c.from_residual.result
    c.from_residual.ensures.1 (c.loop-left.invariant.so_far backed cached count ahead)
    (as_before g on count c.pass_next.result (c.pass_next.ensures.work (backed_here g on backed) (read_here g on backed cached) count (ahead_here g on backed cached count ahead)))

pub returns-in_err-passed-clause-blocks : goal.returns-in_err-passed-clause-blocks
returns-in_err-passed-clause-blocks g c =
    let terms = length c.args.terms.now in
    OpensAt-broken _ terms c.args.parts.now c.args.at.now c.loop-left.at c.pass_next.new.at c.args.held.now.range c.loop-left.held.range c.pass_next.new.held.range c.args.blocks.now c.loop-left.blocks c.pass_next.new.blocks (terms * c.loop-left.left) (terms * c.args.docs)
    c.pass_next.result c.from_residual.result c.from_residual.ensures.1 c.loop-left.invariant.opened c.loop-left.invariant.few c.pass_next.ensures.blocks

-- ---- so many are passed, or all parts

pub returns-after-loop-left-clause-credit : goal.returns-after-loop-left-clause-credit
returns-after-loop-left-clause-credit g c = λ told.
    credit-min told c.args.parts.now c.loop-left.at c.args.at.now.credit c.args.docs c.loop-left.left c.loop-left.invariant.place c.loop-left.invariant.credit (λ some inside. omega (arith, c.loop-left-test.false, some))

pub returns-after-loop-left-clause-work : goal.returns-after-loop-left-clause-work
returns-after-loop-left-clause-work g c = λ backed cached count ahead.
    let start = (goal.at.returns-after-loop-left-clause-work g c).Start in
    PassesAt-passed (found g start count) (length c.args.terms.now) (g.T.Store.files c.args.store.now) c.args.parts.now c.args.at.now c.loop-left.at c.args.first.now c.loop-left.first (tally c.args.held.now.range c.args.squares.now c.args.blocks.now)
    (tally c.loop-left.held.range c.loop-left.squares c.loop-left.blocks) tt c.loop-left.invariant.place (c.loop-left.invariant.so_far backed cached count ahead) (c.loop-left.invariant.ahead backed cached count ahead)

pub returns-else-at-parts-clause-work : goal.returns-else-at-parts-clause-work
returns-else-at-parts-clause-work g c = λ backed cached count ahead.
    let start = (goal.at.returns-else-at-parts-clause-work g c).Start in
    PassesAt-passed (found g start count) (length c.args.terms.now) (g.T.Store.files c.args.store.now) c.args.parts.now c.args.at.now c.loop-left.at c.args.first.now c.loop-left.first (tally c.args.held.now.range c.args.squares.now c.args.blocks.now)
    (tally c.loop-left.held.range c.loop-left.squares c.loop-left.blocks) tt c.loop-left.invariant.place (c.loop-left.invariant.so_far backed cached count ahead) (c.loop-left.invariant.ahead backed cached count ahead)

pub returns-after-loop-left-clause-blocks : goal.returns-after-loop-left-clause-blocks
returns-after-loop-left-clause-blocks g c =
    OpensAt-passed (length c.args.terms.now) c.args.parts.now c.args.at.now c.loop-left.at c.args.held.now.range c.loop-left.held.range c.args.blocks.now c.loop-left.blocks (length c.args.terms.now * c.args.docs) tt c.loop-left.invariant.opened (omega (arith, c.loop-left.invariant.few))

pub returns-else-at-parts-clause-blocks : goal.returns-else-at-parts-clause-blocks
returns-else-at-parts-clause-blocks g c =
    OpensAt-passed (length c.args.terms.now) c.args.parts.now c.args.at.now c.loop-left.at c.args.held.now.range c.loop-left.held.range c.args.blocks.now c.loop-left.blocks (length c.args.terms.now * c.args.docs) tt c.loop-left.invariant.opened (omega (arith, c.loop-left.invariant.few))
