use Rattle.std.proofs.Common.{◌≡◌, ◌≤◌, ◌+◌, ℕ, false, cond, List, map, take, refl, ap, sym, subst, ◌∙◌, arith}
use Rattle.ri_base.specs.Collection.{document_at}
use Rattle.ri_base.specs.Documents.{Document}
use Rattle.ri_base.specs.Query.{filter_tree}
use Rattle.belief_nodes.specs.Network.{network_tree}
use Rattle.disk_index.specs.Snapshots.{unmarked}
use Rattle.extent_lists.proofs.KeepsLemmas.{Keeps-then}
use Rattle.range_masks.specs.May.{query_may}
use Rattle.ranker.specs.First.{SpendsWithin, counted}
use Rattle.ranker.specs.Passed.{bit_of}
use Rattle.ranker.specs.Windows.{KeepsWindows}
use Rattle.ranker.proofs.AheadLemmas.{IsAhead-on}
use Rattle.ranker.proofs.PassedLemmas.{Advances-read, Advances-same, Advances-then}
use Rattle.ranker.proofs.SpentLemmas.{rise-same, rise-then}
use Rattle.ranker.proofs.WindowLemmas.{KeepsWindows-same, KeepsWindows-then}
use Rattle.ranker.proofs.WithinLemmas.{within-then, within-to, within-up}
use Rattle.ranker.proofs.parts.pass_masked.Given as given
use Rattle.ranker.proofs.parts.pass_masked.Goals as goal
use Rattle.ranker.proofs.parts.pass_masked.Goals.{Start}

pub loop-at-init : goal.loop-at-init
loop-at-init g c = record {
  undamaged = refl;
  keeps = record { documents_stay = refl; no_fault_lost = omega arith; sound_stays = λ u. u; intact_stays = λ u. u; stays_quiet = g.met.P.Postings.quiet_same _ };
  stay = refl;
  so_far = λ sound known. Advances-same _ _ _ _ _ _;
  windows = KeepsWindows-same _ _ _;
  ids = omega arith;
  from = omega arith;
  inside = omega (arith, c.requires.id, c.requires.end, c.docs.ensures);
  few = omega arith;
  squared = rise-same _ _;
}

pub loop-at-preserved : goal.loop-at-preserved
loop-at-preserved g c =
    let kind = c.args.rule.now.kind in
    let priors = map (λ b. (goal.BeliefNode-dyn g (b.vtable, b.value)).meaning b.value) c.args.plugs.now in
    let filters = map filter_tree c.args.filters.now in
    let network = network_tree c.args.network.now in
    let docs = g.P.Postings.documents c.args.part.now in
    let read = g.P.Postings.documents c.loop-at.part in
    let marks = c.args.marks.now in
    let at = c.loop-at.at in
    let keeps = c.loop-at.invariant.keeps in
    let started = c.loop-at.invariant.from in
    let low : c.args.id ≤ at = omega (arith, started) in
    let test = c.loop-at-test.true in
    record {
      undamaged = c.in_ok-passed.ensures.undamaged ∙ c.loop-at.invariant.undamaged;
      keeps = Keeps-then _ _ _ _ _ g.met.P.Postings.quiet_then _ _ _ keeps c.pass_document.ensures.keeps;
      stay = c.pass_document.ensures.stay ∙ c.loop-at.invariant.stay;
      so_far = λ sound known.
          let none : c.may_have-may.result ≡ false → query_may filters network.leaves (document_at read at) ≡ false =
          λ clear.
          let bit : bit_of c.args.ahead.mask at ≡ 0 = sym c.may_have-may.ensures ∙ ap (λ b. cond b 1 0) clear in
          subst (λ (ds : List Document). query_may filters network.leaves (document_at ds at) ≡ false) (sym keeps.documents_stay) (known.none at low (omega (arith, test)) bit) in
          Advances-then kind priors filters network (unmarked (take c.args.id docs) marks) (unmarked (take at docs) marks) (unmarked (take (at + 1) docs) marks) (counted c.args.first.now c.args.squares.now 0) (counted c.loop-at.first c.loop-at.squares 0) (counted c.pass_document.new.first c.pass_document.new.squares 0)
          (c.loop-at.invariant.so_far sound known)
          (Advances-read kind _ priors filters network read docs marks at (at + 1) (counted c.loop-at.first c.loop-at.squares 0) (counted c.pass_document.new.first c.pass_document.new.squares 0) c.loop-at.invariant.stay keeps.documents_stay (c.in_ok-passed.ensures.first (keeps.sound_stays sound) none));
      windows = KeepsWindows-then network (unmarked docs marks) c.args.first.now c.loop-at.first c.pass_document.new.first c.loop-at.invariant.windows
          (subst (λ (ds : List Document). KeepsWindows network (unmarked ds marks) c.loop-at.first c.pass_document.new.first) keeps.documents_stay c.in_ok-passed.ensures.windows);
      ids = omega (arith, c.loop-at.invariant.ids, c.in_ok-passed.ensures.docs);
      from = omega (arith, c.loop-at.invariant.from, c.in_ok-passed.ensures.one);
      inside = omega (arith, c.loop-at-test.true);
      few = omega (arith, c.loop-at.invariant.few, c.loop-at-test.true, c.in_ok-passed.ensures.one);
      squared = rise-then _ _ _ _ _ _ c.loop-at.invariant.squared c.in_ok-passed.ensures.squared;
    }

pub returns-after-loop-at-clause-passed : goal.returns-after-loop-at-clause-passed
returns-after-loop-at-clause-passed g c = record {
  inside = omega (arith, c.loop-at.invariant.inside, c.docs.ensures, c.requires.marks);
  docs = c.loop-at.invariant.ids;
  few = c.loop-at.invariant.few;
}

pub returns-else-docs-most-clause-passed : goal.returns-else-docs-most-clause-passed
returns-else-docs-most-clause-passed g c = record {
  inside = omega (arith, c.loop-at.invariant.inside, c.docs.ensures, c.requires.marks);
  docs = c.loop-at.invariant.ids;
  few = c.loop-at.invariant.few;
}

pub returns-after-loop-at-clause-ahead : goal.returns-after-loop-at-clause-ahead
returns-after-loop-at-clause-ahead g c = λ sound known.
    let started = c.loop-at.invariant.from in
    IsAhead-on (map filter_tree c.args.filters.now) (network_tree c.args.network.now).leaves (g.P.Postings.documents c.args.part.now) c.args.id c.loop-at.at c.args.ahead c.args.ahead (omega (arith, started)) refl known

pub returns-else-docs-most-clause-ahead : goal.returns-else-docs-most-clause-ahead
returns-else-docs-most-clause-ahead g c = λ sound known.
    let started = c.loop-at.invariant.from in
    IsAhead-on (map filter_tree c.args.filters.now) (network_tree c.args.network.now).leaves (g.P.Postings.documents c.args.part.now) c.args.id c.loop-at.at c.args.ahead c.args.ahead (omega (arith, started)) refl known

-- ---- squarings

-- no more than those up to an id were done, and so no more than those up to the end of what is known
abbrev Within : (g : given.Over) → Start g → ℕ → ℕ → Type 0
Within g c to b =
    SpendsWithin c.args.rule.now.kind (map (λ b. (goal.BeliefNode-dyn g (b.vtable, b.value)).meaning b.value) c.args.plugs.now) (map filter_tree c.args.filters.now) (network_tree c.args.network.now)
    (unmarked (take c.args.id (g.P.Postings.documents c.args.part.now)) c.args.marks.now) (unmarked (take to (g.P.Postings.documents c.args.part.now)) c.args.marks.now) 0 0 c.args.squares.now b

to_end : (g : given.Over) (c : Start g) (to b : ℕ) → to ≤ c.args.ahead.end → Within g c to b → Within g c c.args.ahead.end b
to_end g c to b le =
    within-up c.args.rule.now.kind (map (λ b. (goal.BeliefNode-dyn g (b.vtable, b.value)).meaning b.value) c.args.plugs.now) (map filter_tree c.args.filters.now) (network_tree c.args.network.now)
    (g.P.Postings.documents c.args.part.now) c.args.marks.now c.args.id to c.args.ahead.end c.args.squares.now b le

pub returns-after-loop-at-clause-within : goal.returns-after-loop-at-clause-within
returns-after-loop-at-clause-within g c = λ sound known.
    to_end g (goal.at.returns-after-loop-at-clause-within g c).Start c.loop-at.at c.loop-at.squares (omega (arith, c.loop-at.invariant.inside)) (c.loop-at.invariant.so_far sound known).cost

pub returns-else-docs-most-clause-within : goal.returns-else-docs-most-clause-within
returns-else-docs-most-clause-within g c = λ sound known.
    to_end g (goal.at.returns-else-docs-most-clause-within g c).Start c.loop-at.at c.loop-at.squares (omega (arith, c.loop-at.invariant.inside)) (c.loop-at.invariant.so_far sound known).cost

pub returns-in_err-passed-clause-within : goal.returns-in_err-passed-clause-within
returns-in_err-passed-clause-within g c = λ sound known.
    let kind = c.args.rule.now.kind in
    let priors = map (λ b. (goal.BeliefNode-dyn g (b.vtable, b.value)).meaning b.value) c.args.plugs.now in
    let filters = map filter_tree c.args.filters.now in
    let network = network_tree c.args.network.now in
    let docs = g.P.Postings.documents c.args.part.now in
    let marks = c.args.marks.now in
    let read = g.P.Postings.documents c.loop-at.part in
    let at = c.loop-at.at in
    let keeps = c.loop-at.invariant.keeps in
    let started = c.loop-at.invariant.from in
    let low : c.args.id ≤ at = omega (arith, started) in
    let test = c.loop-at-test.true in
    let none : c.may_have-may.result ≡ false → query_may filters network.leaves (document_at read at) ≡ false =
    λ clear.
    let bit : bit_of c.args.ahead.mask at ≡ 0 = sym c.may_have-may.ensures ∙ ap (λ b. cond b 1 0) clear in
    subst (λ (ds : List Document). query_may filters network.leaves (document_at ds at) ≡ false) (sym keeps.documents_stay) (known.none at low (omega (arith, test)) bit) in
    let next = within-to kind _ priors filters network read docs marks at (at + 1) c.loop-at.squares c.pass_document.new.squares c.loop-at.invariant.stay keeps.documents_stay (c.pass_document.ensures.within (keeps.sound_stays sound) none) in
    to_end g (goal.at.returns-in_err-passed-clause-within g c).Start (at + 1) c.pass_document.new.squares (omega (arith, test))
    (within-then kind priors filters network (unmarked (take c.args.id docs) marks) (unmarked (take at docs) marks) (unmarked (take (at + 1) docs) marks) 0 0 0 c.args.squares.now c.loop-at.squares c.pass_document.new.squares
    (c.loop-at.invariant.so_far sound known).cost next)
