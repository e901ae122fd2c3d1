use Rattle.std.proofs.Common.{◌<◌, ◌-◌, ℕ, List, Ok, Result, length, map, refl, sym, subst, ◌∙◌, arith}
use Rattle.ri_base.specs.Documents.{Document}
use Rattle.ri_base.specs.Query.{filter_tree}
use Rattle.belief_nodes.specs.Network.{network_tree}
use Rattle.belief_nodes.specs.Priors.{Prior}
use Rattle.disk_index.specs.Snapshots.{unmarked}
use Rattle.extent_lists.proofs.KeepsLemmas.{Keeps-then}
use Rattle.ranker.specs.Going.{IsKnownIn, PassesIn, tally}
use Rattle.ranker.specs.Unbeaten.{Sought, Stretch, live_to, sought, stretch, work_to}
use Rattle.ranker.specs.Windows.{KeepsWindows}
use Rattle.ranker.specs.declared.place.Passed.{Passed}
use Rattle.ri_base.specs.declared.seg_fault.SegFault.{SegFault}
use Rattle.ranker.proofs.AheadLemmas.{IsKnown-priors, IsKnown-read}
use Rattle.ranker.proofs.OpeningLemmas.{OpensIn-broken, OpensIn-passed, opens-same, opens-then, times-sum}
use Rattle.ranker.proofs.SpentLemmas.{rise-same, rise-then}
use Rattle.ranker.proofs.WindowLemmas.{KeepsWindows-same, KeepsWindows-then}
use Rattle.ranker.proofs.WorkLemmas.{PassesIn-broken, PassesIn-passed, PassesIn-read, Passes-same, Passes-then}
use Rattle.ranker.proofs.parts.pass_part.Given as given
use Rattle.ranker.proofs.parts.pass_part.Goals as goal
use Rattle.ranker.proofs.parts.pass_part.Goals.{After-pass_on, Start}

-- what is searched for by these priors, in these documents
module _ (g : given.Over) (c : Start g) where
  abbrev found : ℕ → Sought
  found count = sought c.args.rule.now.kind (map (λ b. (goal.BeliefNode-dyn g (b.vtable, b.value)).meaning b.value) c.args.plugs.now) (map filter_tree c.args.filters.now) (network_tree c.args.network.now) c.args.tables.now count

  abbrev part : List Document → Stretch
  part before = stretch c.args.number before (g.P.Postings.documents c.args.part.now) c.args.marks.now

module _ (g : given.Over) (c : After-pass_on g) where
  abbrev by : List Prior → ℕ → Sought
  by priors count = sought c.args.rule.now.kind priors (map filter_tree c.args.filters.now) (network_tree c.args.network.now) c.args.tables.now count

  abbrev of : List Document → List Document → Stretch
  of before docs = stretch c.args.number before docs c.args.marks.now

  abbrev priors : List Prior
  priors = map (λ b. (goal.BeliefNode-dyn g (b.vtable, b.value)).meaning b.value) c.args.plugs.now

  abbrev priors_here : List Prior
  priors_here = map (λ b. (goal.BeliefNode-dyn g (b.vtable, b.value)).meaning b.value) c.loop-at.plugs

  abbrev docs : List Document
  docs = g.P.Postings.documents c.args.part.now

  abbrev docs_here : List Document
  docs_here = g.P.Postings.documents c.loop-at.part

  known_here : g.P.Postings.sound c.args.part.now → (before : List Document) (count : ℕ) → IsKnownIn (by priors count) (of before docs) c.args.id c.args.ahead → IsKnownIn (by priors_here count) (of before docs_here) c.loop-at.at c.loop-at.known
  known_here sound before count known =
      let s = by priors count in
      IsKnown-priors s.kind priors priors_here s.filters s.network s.tables c.args.number docs_here c.loop-at.at c.loop-at.known (sym c.loop-at.invariant.stay)
      (IsKnown-read s.kind priors s.filters s.network s.tables c.args.number docs docs_here c.loop-at.at c.loop-at.known (sym c.loop-at.invariant.keeps.documents_stay) (c.loop-at.invariant.ahead sound before count known))

  -- what it comes to here is the same by what was told and read at first
  as_before : (before : List Document) (count : ℕ) (result : Result Passed SegFault)
      → PassesIn (by priors_here count) (length c.args.terms.now) (of before docs_here) c.loop-at.at c.loop-at.known c.loop-at.first c.pass_on.new.first (tally (g.P.OpensRanges.present c.loop-at.part) c.loop-at.squares c.loop-at.blocks)
      (tally (g.P.OpensRanges.present c.pass_on.new.part) c.pass_on.new.squares c.pass_on.new.blocks) result
      → PassesIn (by priors count) (length c.args.terms.now) (of before docs) c.loop-at.at c.loop-at.known c.loop-at.first c.pass_on.new.first (tally (g.P.OpensRanges.present c.loop-at.part) c.loop-at.squares c.loop-at.blocks)
      (tally (g.P.OpensRanges.present c.pass_on.new.part) c.pass_on.new.squares c.pass_on.new.blocks) result
  as_before before count result h =
      PassesIn-read priors_here priors docs_here docs c.loop-at.invariant.stay c.loop-at.invariant.keeps.documents_stay (λ ps. by ps count) (of before) (length c.args.terms.now) c.loop-at.at c.loop-at.known c.loop-at.first c.pass_on.new.first
      (tally (g.P.OpensRanges.present c.loop-at.part) c.loop-at.squares c.loop-at.blocks) (tally (g.P.OpensRanges.present c.pass_on.new.part) c.pass_on.new.squares c.pass_on.new.blocks) result h

pub loop-at-init : goal.loop-at-init
loop-at-init g c = record {
  undamaged = refl;
  keeps = record { documents_stay = refl; no_fault_lost = omega arith; sound_stays = λ u. u; intact_stays = λ u. u; stays_quiet = g.met.P.OpensRanges.calm_same _ };
  stay = refl;
  so_far = λ sound before count known. Passes-same _ _ _ _ _;
  ahead = λ sound before count known. known;
  windows = KeepsWindows-same _ _ _;
  ids = omega arith;
  inside = omega (arith, c.requires.id, c.docs-size.ensures);
  few = omega arith;
  opened = opens-same _ _ _ _ (omega arith);
  each = omega arith;
  squared = rise-same _ _;
  counted = rise-same _ _;
}

pub loop-at-preserved : goal.loop-at-preserved
loop-at-preserved g c =
    let on = (goal.at.loop-at-preserved g c).After-pass_on in
    let to = c.in_ok-to.to in
    let keeps = c.loop-at.invariant.keeps in
    let passed = c.in_ok-to.ensures.passed in
    let marks = c.args.marks.now in
    record {
      undamaged = c.in_ok-to.ensures.undamaged ∙ c.loop-at.invariant.undamaged;
      keeps = Keeps-then _ _ _ _ _ g.met.P.OpensRanges.calm_then _ _ _ keeps c.pass_on.ensures.keeps;
      stay = c.pass_on.ensures.stay ∙ c.loop-at.invariant.stay;
      so_far = λ sound before count known.
          let s = by g on (priors g on) count in
          let m = of g on before (docs g on) in
          Passes-then s (length c.args.terms.now) (live_to m c.args.id) (live_to m c.loop-at.at) (live_to m to.id) c.args.first.now c.loop-at.first c.pass_on.new.first
          (work_to s m c.args.id c.args.ahead (g.P.OpensRanges.present c.args.part.now) c.args.squares.now c.args.blocks.now) (work_to s m c.loop-at.at c.loop-at.known (g.P.OpensRanges.present c.loop-at.part) c.loop-at.squares c.loop-at.blocks)
          (work_to s m to.id to.ahead (g.P.OpensRanges.present c.pass_on.new.part) c.pass_on.new.squares c.pass_on.new.blocks) (c.loop-at.invariant.so_far sound before count known)
          (as_before g on before count (Ok to) (c.in_ok-to.ensures.work (keeps.sound_stays sound) before count (known_here g on sound before count known))).first;
      ahead = λ sound before count known. (as_before g on before count (Ok to) (c.in_ok-to.ensures.work (keeps.sound_stays sound) before count (known_here g on sound before count known))).known;
      windows = KeepsWindows-then (network_tree c.args.network.now) (unmarked (docs g on) marks) c.args.first.now c.loop-at.first c.pass_on.new.first c.loop-at.invariant.windows
          (subst (λ (ds : List Document). KeepsWindows (network_tree c.args.network.now) (unmarked ds marks) c.loop-at.first c.pass_on.new.first) keeps.documents_stay c.in_ok-to.ensures.windows);
      ids = omega (arith, c.loop-at.invariant.ids, passed.docs);
      inside = omega (arith, passed.inside, c.requires.marks, c.docs-size.ensures);
      few = omega (arith, c.loop-at.invariant.few, passed.few);
      opened = opens-then (length c.args.terms.now) _ _ _ _ _ _ c.loop-at.invariant.opened c.in_ok-to.ensures.blocks.opened;
      each =
          let left : 0 < c.args.most - c.loop-at.docs = omega (arith, c.loop-at-test.true) in
          let sum = times-sum (length c.args.terms.now) c.loop-at.docs to.docs in
          let more = c.in_ok-to.ensures.each left in
          omega (arith, sum, more, c.loop-at.invariant.each);
      squared = rise-then _ _ _ _ _ _ c.loop-at.invariant.squared c.in_ok-to.ensures.squared;
      counted = rise-then _ _ _ _ _ _ c.loop-at.invariant.counted c.in_ok-to.ensures.counted;
    }

pub returns-after-loop-at-clause-passed : goal.returns-after-loop-at-clause-passed
returns-after-loop-at-clause-passed g c = record {
  inside = omega (arith, c.loop-at.invariant.inside, c.docs-size.ensures, c.requires.marks);
  docs = c.loop-at.invariant.ids;
  few = c.loop-at.invariant.few;
}

pub returns-else-docs-most-clause-passed : goal.returns-else-docs-most-clause-passed
returns-else-docs-most-clause-passed g c = record {
  inside = omega (arith, c.loop-at.invariant.inside, c.docs-size.ensures, c.requires.marks);
  docs = c.loop-at.invariant.ids;
  few = c.loop-at.invariant.few;
}

-- ---- what it comes to

pub returns-after-loop-at-clause-work : goal.returns-after-loop-at-clause-work
returns-after-loop-at-clause-work g c = λ sound before count known.
    let start = (goal.at.returns-after-loop-at-clause-work g c).Start in
    PassesIn-passed (found g start count) (part g start before) (length c.args.terms.now) c.args.id c.args.ahead c.args.first.now c.loop-at.first (tally (g.P.OpensRanges.present c.args.part.now) c.args.squares.now c.args.blocks.now)
    (tally (g.P.OpensRanges.present c.loop-at.part) c.loop-at.squares c.loop-at.blocks) (record { id = c.loop-at.at; docs = c.loop-at.docs; ahead = c.loop-at.known }) (omega (arith, c.loop-at.invariant.inside, c.docs-size.ensures))
    (c.loop-at.invariant.so_far sound before count known) (c.loop-at.invariant.ahead sound before count known)

pub returns-else-docs-most-clause-work : goal.returns-else-docs-most-clause-work
returns-else-docs-most-clause-work g c = λ sound before count known.
    let start = (goal.at.returns-else-docs-most-clause-work g c).Start in
    PassesIn-passed (found g start count) (part g start before) (length c.args.terms.now) c.args.id c.args.ahead c.args.first.now c.loop-at.first (tally (g.P.OpensRanges.present c.args.part.now) c.args.squares.now c.args.blocks.now)
    (tally (g.P.OpensRanges.present c.loop-at.part) c.loop-at.squares c.loop-at.blocks) (record { id = c.loop-at.at; docs = c.loop-at.docs; ahead = c.loop-at.known }) (omega (arith, c.loop-at.invariant.inside, c.docs-size.ensures))
    (c.loop-at.invariant.so_far sound before count known) (c.loop-at.invariant.ahead sound before count known)

pub returns-in_err-to-clause-work : goal.returns-in_err-to-clause-work
returns-in_err-to-clause-work g c = λ sound before count known.
    let on = (goal.at.returns-in_err-to-clause-work g c).After-pass_on in
    PassesIn-broken (by g on (priors g on) count) (of g on before (docs g on)) _ (length c.args.terms.now) c.args.id c.args.ahead c.args.first.now c.loop-at.first c.pass_on.new.first (tally (g.P.OpensRanges.present c.args.part.now) c.args.squares.now c.args.blocks.now)
    (tally (g.P.OpensRanges.present c.loop-at.part) c.loop-at.squares c.loop-at.blocks) (tally (g.P.OpensRanges.present c.pass_on.new.part) c.pass_on.new.squares c.pass_on.new.blocks) c.loop-at.at c.loop-at.known c.pass_on.result c.from_residual.result
    c.from_residual.ensures.1 (c.loop-at.invariant.so_far sound before count known)
    (as_before g on before count c.pass_on.result (c.pass_on.ensures.work (c.loop-at.invariant.keeps.sound_stays sound) before count (known_here g on sound before count known)))

-- ---- blocks

pub returns-after-loop-at-clause-blocks : goal.returns-after-loop-at-clause-blocks
returns-after-loop-at-clause-blocks g c =
    OpensIn-passed (length c.args.terms.now) (length c.args.marks.now) c.args.id (g.P.OpensRanges.present c.args.part.now) (g.P.OpensRanges.present c.loop-at.part) c.args.blocks.now c.loop-at.blocks c.loop-at.docs c.args.most
    (record { id = c.loop-at.at; docs = c.loop-at.docs; ahead = c.loop-at.known }) c.loop-at.invariant.opened c.loop-at.invariant.each c.loop-at.invariant.few

pub returns-else-docs-most-clause-blocks : goal.returns-else-docs-most-clause-blocks
returns-else-docs-most-clause-blocks g c =
    OpensIn-passed (length c.args.terms.now) (length c.args.marks.now) c.args.id (g.P.OpensRanges.present c.args.part.now) (g.P.OpensRanges.present c.loop-at.part) c.args.blocks.now c.loop-at.blocks c.loop-at.docs c.args.most
    (record { id = c.loop-at.at; docs = c.loop-at.docs; ahead = c.loop-at.known }) c.loop-at.invariant.opened c.loop-at.invariant.each c.loop-at.invariant.few

pub returns-in_err-to-clause-blocks : goal.returns-in_err-to-clause-blocks
returns-in_err-to-clause-blocks g c =
    OpensIn-broken _ (length c.args.terms.now) (length c.args.marks.now) c.args.id (g.P.OpensRanges.present c.args.part.now) (g.P.OpensRanges.present c.loop-at.part) (g.P.OpensRanges.present c.pass_on.new.part) c.args.blocks.now c.loop-at.blocks c.pass_on.new.blocks
    c.loop-at.docs c.args.most c.loop-at.at c.pass_on.result c.from_residual.result c.from_residual.ensures.1 c.loop-at.invariant.opened c.loop-at.invariant.each (omega (arith, c.loop-at-test.true)) c.pass_on.ensures.blocks
