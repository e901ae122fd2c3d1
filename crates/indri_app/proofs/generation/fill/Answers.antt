use Rattle.std.proofs.Common.{◌∙◌, ap, length, subst, sym}
use Rattle.std.proofs.lemmas.List.{length-map}
use Rattle.std.proofs.lemmas.Result.{IfOk-weaker}
use Rattle.std.specs.Prelude.{OnOk}
use Rattle.store_ends.specs.Files.{Leaves}
use Rattle.store_ends.proofs.Files.{Leaves-same}
use Rattle.smoothing.specs.declared.rule.RuleKind.TheVariants.{Dirichlet}
use Rattle.command_pieces.specs.Pieces.{StandsAlong, kept_behind}
use Rattle.repository.specs.RealLimits.{StandsFor}
use Rattle.repository.specs.Stands.{empty_collection}
use Rattle.generated_events.specs.Events.{last_event}
use Rattle.script_reader.specs.declared.item.Item.TheVariants.{Event}
use Rattle.desk.specs.State.{State}
use Rattle.indri_app.specs.Generated.{gen_items}
use Rattle.indri_app.specs.Items.{pieces_of, state_behind_all}
use Rattle.indri_app.specs.Orders.{IsTrueItem}
use Rattle.indri_app.proofs.Beginning.{begun-all, merge-intact, merge-none}
use Rattle.indri_app.proofs.Following.{along-none}
use Rattle.indri_app.proofs.Generating.{text-made}
use Rattle.indri_app.proofs.generation.fill.Goals as goal

pub make_and_ask-requires-clause-nine : goal.make_and_ask-requires-clause-nine
make_and_ask-requires-clause-nine g c = sym (length-map c.args.plugs.now _) ∙ ap length c.requires.plugs

-- there is no memory for a desk

pub returns-in_default-clause-along : goal.returns-in_default-clause-along
returns-in_default-clause-along g c = λ ahead. along-none empty_collection _ _ ahead.stands

pub returns-in_default-clause-stops : goal.returns-in_default-clause-stops
returns-in_default-clause-stops g c = λ ahead. Leaves-same _ _

-- a desk stands over it

pub returns-clause-text : goal.returns-clause-text
returns-clause-text g c = λ ahead.
    let made = c.in-Ok.ensures in
    let kind = c.in-Ok.desk.same_kind ∙ ap (λ r. r.kind) (made.rule ∙ c.new-rule.ensures) in
    let all = begun-all _ c.args.repository c.in-Ok.desk.kept _ empty_collection (Dirichlet c.args.mu) made.repository made.queries c.requires.none kind ahead (made.backed _ ahead.backed (merge-none _ _ c.requires.none))
    c.requires.plugs (ap length c.requires.plugs) in
    IfOk-weaker c.make_and_ask.result _ _ (λ text is. text-made c.args.count c.args.repository.held.limits (Dirichlet c.args.mu) _ text.items ahead.real c.requires.few all.1 is)
    (c.make_and_ask.ensures.text empty_collection all.0)

pub returns-clause-order : goal.returns-clause-order
returns-clause-order g c = λ ahead.
    let made = c.in-Ok.ensures in
    let kind = c.in-Ok.desk.same_kind ∙ ap (λ r. r.kind) (made.rule ∙ c.new-rule.ensures) in
    let all = begun-all _ c.args.repository c.in-Ok.desk.kept _ empty_collection (Dirichlet c.args.mu) made.repository made.queries c.requires.none kind ahead (made.backed _ ahead.backed (merge-none _ _ c.requires.none))
    c.requires.plugs (ap length c.requires.plugs) in
    subst (λ (s : State). OnOk c.make_and_ask.result (IsTrueItem (state_behind_all s (gen_items c.args.count)) (Event last_event))) all.1 (c.make_and_ask.ensures.order empty_collection all.0)

pub returns-clause-done : goal.returns-clause-done
returns-clause-done g c = λ ahead.
    let made = c.in-Ok.ensures in
    let kind = c.in-Ok.desk.same_kind ∙ ap (λ r. r.kind) (made.rule ∙ c.new-rule.ensures) in
    let all = begun-all _ c.args.repository c.in-Ok.desk.kept _ empty_collection (Dirichlet c.args.mu) made.repository made.queries c.requires.none kind ahead (made.backed _ ahead.backed (merge-none _ _ c.requires.none))
    c.requires.plugs (ap length c.requires.plugs) in
    subst (λ (s : State). OnOk c.make_and_ask.result (StandsFor (kept_behind empty_collection (pieces_of s (gen_items c.args.count))) (g.T.Store.files c.make_and_ask.new.store))) all.1 (c.make_and_ask.ensures.done empty_collection all.0)

pub returns-clause-along : goal.returns-clause-along
returns-clause-along g c = λ ahead.
    let made = c.in-Ok.ensures in
    let kind = c.in-Ok.desk.same_kind ∙ ap (λ r. r.kind) (made.rule ∙ c.new-rule.ensures) in
    let all = begun-all _ c.args.repository c.in-Ok.desk.kept _ empty_collection (Dirichlet c.args.mu) made.repository made.queries c.requires.none kind ahead (made.backed _ ahead.backed (merge-none _ _ c.requires.none))
    c.requires.plugs (ap length c.requires.plugs) in
    subst (λ (s : State). StandsAlong StandsFor empty_collection (pieces_of s (gen_items c.args.count)) (g.T.Store.files c.make_and_ask.new.store)) all.1 (c.make_and_ask.ensures.along empty_collection all.0)

pub returns-clause-stops : goal.returns-clause-stops
returns-clause-stops g c = λ ahead.
    let made = c.in-Ok.ensures in
    let kind = c.in-Ok.desk.same_kind ∙ ap (λ r. r.kind) (made.rule ∙ c.new-rule.ensures) in
    let all = begun-all _ c.args.repository c.in-Ok.desk.kept _ empty_collection (Dirichlet c.args.mu) made.repository made.queries c.requires.none kind ahead (made.backed _ ahead.backed (merge-none _ _ c.requires.none))
    c.requires.plugs (ap length c.requires.plugs) in
    subst (λ (s : State). Leaves (g.T.Store.since c.args.store.now) (g.T.Store.since c.make_and_ask.new.store) (StandsAlong StandsFor empty_collection (pieces_of s (gen_items c.args.count)))) all.1 (c.make_and_ask.ensures.stops empty_collection all.0)

pub returns-clause-honest : goal.returns-clause-honest
returns-clause-honest g c = λ ahead intact.
    let made = c.in-Ok.ensures in
    let kind = c.in-Ok.desk.same_kind ∙ ap (λ r. r.kind) (made.rule ∙ c.new-rule.ensures) in
    let all = begun-all _ c.args.repository c.in-Ok.desk.kept _ empty_collection (Dirichlet c.args.mu) made.repository made.queries c.requires.none kind ahead (made.backed _ ahead.backed (merge-none _ _ c.requires.none))
    c.requires.plugs (ap length c.requires.plugs) in
    c.make_and_ask.ensures.honest empty_collection all.0 (made.intact _ intact (merge-intact _ c.args.repository c.requires.none))
