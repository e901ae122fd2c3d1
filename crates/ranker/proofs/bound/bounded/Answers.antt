use Rattle.std.proofs.Common.{◌≡◌, None, inl, inr, is_some, map, ap, sym, ◌∙◌}
use Rattle.std.proofs.lemmas.Bool.{false≢true}
use Rattle.belief_nodes.specs.Network.{network_tree}
use Rattle.ranker.proofs.AheadLemmas.{IsKnown-bounded}
use Rattle.ranker.proofs.AskedLemmas.{asked-either, if-err, unbound}
use Rattle.ranker.proofs.bound.bounded.Goals as goal
use Rattle.ranker.proofs.bound.bounded.Goals.{then-is_some-via-then-is_some, then-is_some-via-else-is_some+then-not-beats_some}

pub returns-clause-known : goal.returns-clause-known
returns-clause-known g c = λ filters known.
    let docs = g.P.Postings.documents c.args.part.now in
    IsKnown-bounded c.args.rule.now.kind (map (λ b. (goal.BeliefNode-dyn g (b.vtable, b.value)).meaning b.value) c.args.plugs.now) filters (network_tree c.args.network.now) c.args.tables.now c.args.number docs c.args.id c.args.ahead c.in_ok-bound.bound
    c.requires.open (λ d has. c.in_ok-bound.ensures.bound docs d known.told has) (c.in_ok-bound.ensures.key docs known.told) known

pub returns-clause-asked : goal.returns-clause-asked
returns-clause-asked g c = asked-either c.args.ahead.bound c.in_ok-bound.bound c.args.squares.now c.bound_of.new.squares (unbound c.args.ahead.bound (sym c.is_some.ensures ∙ c.if-is_some.false)) c.in_ok-bound.ensures.none

pub returns-in_err-bound-clause-unasked : goal.returns-in_err-bound-clause-unasked
returns-in_err-bound-clause-unasked g c = if-err c.from_residual.result (c.args.ahead.bound ≡ None) (unbound c.args.ahead.bound (sym c.is_some.ensures ∙ c.if-is_some.false))

pub returns-then-is_some-clause-unbound : goal.returns-then-is_some-clause-unbound
returns-then-is_some-clause-unbound g c = λ none.
    elim c.then-is_some.branch [
      | then-is_some-via-then-is_some w ↦ absurd (false≢true (sym (ap is_some none) ∙ sym c.is_some.ensures ∙ w.if-is_some.true))
      | then-is_some-via-else-is_some+then-not-beats_some w ↦ inr (λ all offered n. w.beats_some.ensures.nothing w.if-not-beats_some.true all offered n)
    ]

pub returns-clause-unbound : goal.returns-clause-unbound
returns-clause-unbound g c = λ none. inl (c.in_ok-bound.ensures.told none)
