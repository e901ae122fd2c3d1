use Rattle.std.proofs.Common.{◌≤◌, ℕ, IfOk, List, map, sym, subst, ◌∙◌, arith}
use Rattle.ri_base.specs.Documents.{Document}
use Rattle.ri_base.specs.Query.{filter_tree}
use Rattle.belief_nodes.specs.Network.{network_tree}
use Rattle.ranker.specs.Passed.{IsAhead}
use Rattle.ranker.specs.Unbeaten.{Sought, Stretch, sought, stretch}
use Rattle.ranker.specs.declared.place.Passed.{Passed}
use Rattle.ranker.proofs.AheadLemmas.{IsAhead-read}
use Rattle.ranker.proofs.OpenedLemmas.{ScoresIn-clear, ScoresIn-looked, ScoresIn-none}
use Rattle.ranker.proofs.WindowLemmas.{KeepsWindows-same}
use Rattle.ranker.proofs.parts.pass_open.Given as given
use Rattle.ranker.proofs.parts.pass_open.Goals as goal
use Rattle.ranker.proofs.parts.pass_open.Goals.{Start}

module _ (g : given.Over) (c : Start g) where
  -- what is searched for, in which documents
  abbrev found : ℕ → Sought
  found count = sought c.args.rule.now.kind (map (λ b. (goal.BeliefNode-dyn g (b.vtable, b.value)).meaning b.value) c.args.plugs.now) (map filter_tree c.args.filters.now) (network_tree c.args.network.now) c.args.tables.now count

  abbrev part : List Document → Stretch
  part before = stretch c.args.number before (g.P.Postings.documents c.args.part.now) c.args.marks.now

-- ---- the mask isn't read

pub returns-in_err-open-clause-work : goal.returns-in_err-open-clause-work
returns-in_err-open-clause-work g c = λ sound before count known.
    let start = (goal.at.returns-in_err-open-clause-work g c).Start in
    ScoresIn-none (found g start count) (part g start before) c.args.id c.args.ahead known _ c.args.first.now c.args.squares.now c.from_residual.result c.from_residual.ensures.1

-- ---- no bit is set

pub returns-then-is_clear-clause-work : goal.returns-then-is_clear-clause-work
returns-then-is_clear-clause-work g c = λ sound before count known.
    let start = (goal.at.returns-then-is_clear-clause-work g c).Start in
    ScoresIn-clear (found g start count) (part g start before) c.args.id c.args.ahead known c.in_ok-open.open c.in_ok-open.ensures.end c.in_ok-open.ensures.bound c.requires.open (c.in_ok-open.ensures.ahead sound known.span c.requires.open known.may)
    c.args.first.now c.args.squares.now c.args.most c.pass_unseen.result (sym c.is_clear.ensures ∙ c.if-is_clear.true) c.requires.marks c.pass_unseen.ensures.passed c.pass_unseen.ensures.inside c.pass_unseen.ensures.back c.pass_unseen.ensures.same

pub returns-then-is_clear-clause-windows : goal.returns-then-is_clear-clause-windows
returns-then-is_clear-clause-windows g c = KeepsWindows-same _ _ _

-- ---- those with a bit are looked at

pub returns-clause-work : goal.returns-clause-work
returns-clause-work g c = λ sound before count known.
    let start = (goal.at.returns-clause-work g c).Start in
    let keeps = c.masked.ensures.keeps in
    let opened = c.in_ok-open.open in
    let may = c.in_ok-open.ensures.ahead sound known.span c.requires.open known.may in
    let there : IsAhead (map filter_tree c.args.filters.now) (network_tree c.args.network.now).leaves (g.P.Postings.documents c.masked.new.part) c.args.id opened =
    IsAhead-read (map filter_tree c.args.filters.now) (network_tree c.args.network.now).leaves (g.P.Postings.documents c.args.part.now) (g.P.Postings.documents c.masked.new.part) c.args.id opened (sym keeps.documents_stay) may in
    ScoresIn-looked (found g start count) (part g start before) c.args.id c.args.ahead known opened c.in_ok-open.ensures.end c.in_ok-open.ensures.bound c.requires.open may
    c.args.first.now c.pass_masked.new.first c.args.squares.now c.pass_masked.new.squares c.pass_masked.result c.pass_masked.ensures.back c.pass_masked.ensures.inside c.pass_masked.ensures.same
    (rw keeps.documents_stay at (c.pass_masked.ensures.first (keeps.sound_stays sound) there)) (rw keeps.documents_stay at (c.pass_masked.ensures.within (keeps.sound_stays sound) there))

pub returns-clause-windows : goal.returns-clause-windows
returns-clause-windows g c = rw c.masked.ensures.keeps.documents_stay at c.pass_masked.ensures.windows

-- ---- up to the end of what is known

pub returns-then-is_clear-clause-inside : goal.returns-then-is_clear-clause-inside
returns-then-is_clear-clause-inside g c = omega (arith, c.pass_unseen.ensures.inside, c.in_ok-open.ensures.end)

pub returns-clause-inside : goal.returns-clause-inside
returns-clause-inside g c = subst (λ e. IfOk c.pass_masked.result (λ (to : Passed). to.id ≤ e)) c.in_ok-open.ensures.end c.pass_masked.ensures.inside
