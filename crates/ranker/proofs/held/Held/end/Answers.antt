use Rattle.std.proofs.Common.{sym, ◌∙◌}
use Rattle.belief_nodes.specs.Network.{network_tree}
use Rattle.ranker.proofs.HeldLemmas.{IsHeld-ended}
use Rattle.ranker.proofs.SquaresLemmas.{late_spent}
use Rattle.ranker.proofs.WindowLemmas.{HasWindows-ended}
use Rattle.ranker.proofs.held.Held.end.Goals as goal

pub into_first-requires-clause-scale : goal.into_first-requires-clause-scale
into_first-requires-clause-scale g c = (c.requires c.in-Open.kept (sym c.replace.ensures.value ∙ c.in-Open.is)).scaled

pub into_first-requires-clause-early : goal.into_first-requires-clause-early
into_first-requires-clause-early g c = (c.requires c.in-Open.kept (sym c.replace.ensures.value ∙ c.in-Open.is)).each

pub returns-in_ok-hits-in-Open-clause-held : goal.returns-in_ok-hits-in-Open-clause-held
returns-in_ok-hits-in-Open-clause-held g c = λ kind priors filters docs most h.
    IsHeld-ended kind priors filters (network_tree c.args.network.now) docs most c.args.self.now c.in-Open.kept c.in_ok-first-in-Open.first.items c.in_ok-hits-in-Open.hits (sym c.replace.ensures.value ∙ c.in-Open.is)
    c.in_ok-hits-in-Open.ensures.candidates c.in_ok-hits-in-Open.ensures.keys c.in_ok-first-in-Open.ensures.front h

pub returns-in_ok-hits-in-Open-clause-windows : goal.returns-in_ok-hits-in-Open-clause-windows
returns-in_ok-hits-in-Open-clause-windows g c = λ docs leaves most h.
    HasWindows-ended (network_tree c.args.network.now) leaves docs most c.args.self.now c.in-Open.kept c.in_ok-first-in-Open.first.items c.in_ok-hits-in-Open.hits (sym c.replace.ensures.value ∙ c.in-Open.is)
    c.in_ok-hits-in-Open.ensures.candidates c.in_ok-first-in-Open.ensures.few c.in_ok-first-in-Open.ensures.among h

pub returns-in_ok-hits-in-Open-clause-cost : goal.returns-in_ok-hits-in-Open-clause-cost
returns-in_ok-hits-in-Open-clause-cost g c = λ kind priors filters docs most more h.
    late_spent (network_tree c.args.network.now) kind priors filters docs most c.args.self.now c.in-Open.kept c.args.squares.now c.into_first.new.squares (sym c.replace.ensures.value ∙ c.in-Open.is)
    (c.requires c.in-Open.kept (sym c.replace.ensures.value ∙ c.in-Open.is)) c.into_first.ensures.within h

pub returns-in_err-hits-in-Open-clause-cost : goal.returns-in_err-hits-in-Open-clause-cost
returns-in_err-hits-in-Open-clause-cost g c = λ kind priors filters docs most more h.
    late_spent (network_tree c.args.network.now) kind priors filters docs most c.args.self.now c.in-Open.kept c.args.squares.now c.into_first.new.squares (sym c.replace.ensures.value ∙ c.in-Open.is)
    (c.requires c.in-Open.kept (sym c.replace.ensures.value ∙ c.in-Open.is)) c.into_first.ensures.within h

pub returns-in_err-first-in-Open-clause-cost : goal.returns-in_err-first-in-Open-clause-cost
returns-in_err-first-in-Open-clause-cost g c = λ kind priors filters docs most more h.
    late_spent (network_tree c.args.network.now) kind priors filters docs most c.args.self.now c.in-Open.kept c.args.squares.now c.into_first.new.squares (sym c.replace.ensures.value ∙ c.in-Open.is)
    (c.requires c.in-Open.kept (sym c.replace.ensures.value ∙ c.in-Open.is)) c.into_first.ensures.within h
