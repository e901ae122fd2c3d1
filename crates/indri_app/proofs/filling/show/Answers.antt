use Rattle.std.proofs.lemmas.Result.{IfOk-weaker}
use Rattle.desk.specs.Backed.{state_of}
use Rattle.indri_app.proofs.GeneratedLines.{order-named, shown-named}
use Rattle.indri_app.proofs.filling.show.Goals as goal

pub returns-clause-shows : goal.returns-clause-shows
returns-clause-shows g c = λ kept way.
    let s = state_of (g.T.Store.files c.args.store.now) c.args.desk.now.kept in
    shown-named s c.in-Ok.name c.event.result c.in-Ok.ensures (IfOk-weaker c.event.result _ _ (λ reply steps. (steps way.backed way.plugs_are).shows) c.event.ensures.steps)

pub returns-clause-order : goal.returns-clause-order
returns-clause-order g c = λ kept way.
    let s = state_of (g.T.Store.files c.args.store.now) c.args.desk.now.kept in
    order-named s c.in-Ok.name c.event.result c.in-Ok.ensures (IfOk-weaker c.event.result _ _ (λ reply steps. (steps way.backed way.plugs_are).shows) c.event.ensures.steps)
    (IfOk-weaker c.event.result _ _ (λ reply order. order way.backed) c.event.ensures.order)

pub returns-clause-honest : goal.returns-clause-honest
returns-clause-honest g c = λ kept way intact. c.event.ensures.honest way.backed intact
