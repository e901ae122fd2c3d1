use Rattle.std.proofs.Common.{◌≡◌, ◌∙◌, ap, length, refl, subst, sym, List, None}
use Rattle.std.specs.Prelude.{is_some}
use Rattle.std.specs.List.{position}
use Rattle.ri_base.specs.declared.hit.Hit.{Hit}
use Rattle.query_check.specs.Answers.{whole_checked}
use Rattle.query_check.specs.declared.checked.Checked.{Checked}
use Rattle.ranker.specs.Searches.{IsAnswerOf, searched}
use Rattle.desk.specs.Priors.{priors_with}
use Rattle.session_events.specs.declared.event.Event.TheVariants as event
use Rattle.desk.specs.Replied.{AreResults}
use Rattle.desk.specs.declared.reply.Reply.TheVariants as reply
use Rattle.desk.specs.declared.reply.Refusal.TheVariants.{NoSuchName, NotYet}
use Rattle.desk.specs.Backed.{Keeps, Steps, state_of}
use Rattle.desk.specs.Orders.{IsTrueReply}
use Rattle.desk.specs.Queries.{priors_in, query_of}
use Rattle.desk.specs.State.{named}
use Rattle.desk.proofs.Cases.{show-noname, show-results}
use Rattle.desk.proofs.Exits.{accepted-by, of-now, refused-by, refused-exit, refused-here, refused-so}
use Rattle.desk.proofs.Found.{backed-of, left-shown, open-of, place-of, seen}
use Rattle.desk.proofs.FormLemmas.{results-form}
use Rattle.desk.proofs.NamedExits.{all-passed, show-exit, shown-entries}
use Rattle.desk.proofs.Naming.{is_named, named-here, named-none}
use Rattle.desk.proofs.OrderLemmas.{shown-true, true-refused}
use Rattle.desk.proofs.kept.Kept.show.Goals as goal

pub returns-in_default-clause-steps : goal.returns-in_default-clause-steps
returns-in_default-clause-steps c = λ told backed.
    let now : Keeps = c.args.self.now in
    let none : position (is_named c.args.name) now.queries ≡ None = sym c.find.ensures ∙ c.in_default.is in
    refused-exit (event.Show c.args.name) told now (NoSuchName c.args.name) (show-noname (state_of told now) c.args.name (named-none told c.args.name now.queries none)) backed

pub returns-in_default-clause-refuses : goal.returns-in_default-clause-refuses
returns-in_default-clause-refuses c = λ told.
    let now : Keeps = c.args.self.now in
    let none : position (is_named c.args.name) now.queries ≡ None = sym c.find.ensures ∙ c.in_default.is in
    refused-so (event.Show c.args.name) (state_of told now) (NoSuchName c.args.name) (show-noname (state_of told now) c.args.name (named-none told c.args.name now.queries none))

pub returns-in_default-clause-order : goal.returns-in_default-clause-order
returns-in_default-clause-order c = λ told backed. true-refused (state_of told c.args.self.now) (named c.args.name (state_of told c.args.self.now).queries) (NoSuchName c.args.name)

pub returns-in-None-clause-steps : goal.returns-in-None-clause-steps
returns-in-None-clause-steps c = λ told backed.
    let view = seen c.self.inside in
    refused-here (event.Show c.args.name) told view c.args.self.now (NotYet c.args.name) c.self.view_is (left-shown view c.args.self.now c.args.name c.in-Some.place c.index.result.now c.self.view_is (sym c.find.ensures ∙ c.in-Some.is) told c.index.ensures c.self.invariant c.requires.usable (is_some c.results.result) (c.results.ensures.some told) (ap is_some c.in-None.is)) backed

pub returns-in-None-clause-refuses : goal.returns-in-None-clause-refuses
returns-in-None-clause-refuses c = λ told.
    let view = seen c.self.inside in
    refused-by (event.Show c.args.name) told view c.args.self.now (NotYet c.args.name) c.self.view_is (left-shown view c.args.self.now c.args.name c.in-Some.place c.index.result.now c.self.view_is (sym c.find.ensures ∙ c.in-Some.is) told c.index.ensures c.self.invariant c.requires.usable (is_some c.results.result) (c.results.ensures.some told) (ap is_some c.in-None.is))

pub returns-in-None-clause-order : goal.returns-in-None-clause-order
returns-in-None-clause-order c = λ told backed. true-refused (state_of told c.args.self.now) (named c.args.name (state_of told c.args.self.now).queries) (NotYet c.args.name)

pub returns-in_ok-clone_in-in-Some-results-clause-steps : goal.returns-in_ok-clone_in-in-Some-results-clause-steps
returns-in_ok-clone_in-in-Some-results-clause-steps c = λ told backed.
    let name = c.args.name in
    let view = seen c.self.inside in
    let q = c.index.result.now in
    let place = place-of view c.args.self.now name c.in-Some.place q c.self.view_is (sym c.find.ensures ∙ c.in-Some.is) in
    let was = open-of view c.args.self.now name c.in-Some.place q c.self.view_is (sym c.find.ensures ∙ c.in-Some.is) c.index.ensures c.self.invariant c.requires.usable in
    let passed = all-passed told view name c.in-Some.place q place c.index.ensures (is_some c.results.result) (c.results.ensures.some told) (ap is_some c.in-Some-results.is) in
    let hits : List Hit = c.in_ok-clone_in-in-Some-results.field-0 in
    let same : hits ≡ c.in-Some-results.hits.now = c.in_ok-clone_in-in-Some-results.ensures in
    let scale : c.checked.result.now.scale ≡ (whole_checked q.search.checked).scale = ap (λ (x : Checked). x.scale) c.checked.ensures in
    of-now told view c.args.self.now (λ (x : Keeps). Steps (event.Show name) told told x x (reply.Results name c.checked.result.now.scale hits)) c.self.view_is
    (λ b.
    let query = backed-of view c.args.self.now name c.in-Some.place q c.self.view_is (sym c.find.ensures ∙ c.in-Some.is) told c.index.ensures b in
    let priors = priors_with (priors_in told view.repository.priors) in
    let answered : IsAnswerOf view.kind priors q.search (searched told q.search) hits = subst (IsAnswerOf view.kind priors q.search (searched told q.search)) (sym same) (c.in-Some-results.ensures.answer view.kind priors told query.taken) in
    show-exit told view name c.in-Some.place q place c.index.ensures hits c.checked.result.now.scale scale passed (shown-entries told view name c.in-Some.place q place c.index.ensures hits was.distinct query answered) b)
    backed

pub returns-in_ok-clone_in-in-Some-results-clause-order : goal.returns-in_ok-clone_in-in-Some-results-clause-order
returns-in_ok-clone_in-in-Some-results-clause-order c = λ told backed.
    let name = c.args.name in
    let view = seen c.self.inside in
    let q = c.index.result.now in
    let place = place-of view c.args.self.now name c.in-Some.place q c.self.view_is (sym c.find.ensures ∙ c.in-Some.is) in
    let was = open-of view c.args.self.now name c.in-Some.place q c.self.view_is (sym c.find.ensures ∙ c.in-Some.is) c.index.ensures c.self.invariant c.requires.usable in
    let hits : List Hit = c.in_ok-clone_in-in-Some-results.field-0 in
    let same : hits ≡ c.in-Some-results.hits.now = c.in_ok-clone_in-in-Some-results.ensures in
    let scale : c.checked.result.now.scale ≡ q.search.checked.scale = ap (λ (x : Checked). x.scale) c.checked.ensures in
    of-now told view c.args.self.now (λ (x : Keeps). IsTrueReply (state_of told x) (event.Show name) (reply.Results name c.checked.result.now.scale hits)) c.self.view_is
    (λ b.
    let query = backed-of view c.args.self.now name c.in-Some.place q c.self.view_is (sym c.find.ensures ∙ c.in-Some.is) told c.index.ensures b in
    let priors = priors_with (priors_in told view.repository.priors) in
    let answered : IsAnswerOf view.kind priors q.search (searched told q.search) hits = subst (IsAnswerOf view.kind priors q.search (searched told q.search)) (sym same) (c.in-Some-results.ensures.answer view.kind priors told query.taken) in
    shown-true told view name c.in-Some.place q place c.index.ensures c.ranking_is_true.ensures c.checked.result.now.scale hits scale was.distinct query answered)
    backed

pub returns-in_ok-clone_in-in-Some-results-clause-form : goal.returns-in_ok-clone_in-in-Some-results-clause-form
returns-in_ok-clone_in-in-Some-results-clause-form c =
    let name = c.args.name in
    let view = seen c.self.inside in
    let q = c.index.result.now in
    let was = open-of view c.args.self.now name c.in-Some.place q c.self.view_is (sym c.find.ensures ∙ c.in-Some.is) c.index.ensures c.self.invariant c.requires.usable in
    let scale : c.checked.result.now.scale ≡ q.search.checked.scale = ap (λ (x : Checked). x.scale) c.checked.ensures in
    subst (λ (hits : List Hit). AreResults c.checked.result.now.scale hits) (sym c.in_ok-clone_in-in-Some-results.ensures)
    (results-form (length view.repository.priors) c.checked.result.now.scale q (searched None q.search) c.in-Some-results.hits.now was scale (c.in-Some-results.ensures.windows None))

pub returns-in_ok-clone_in-in-Some-results-clause-refuses : goal.returns-in_ok-clone_in-in-Some-results-clause-refuses
returns-in_ok-clone_in-in-Some-results-clause-refuses c = λ told.
    let name = c.args.name in
    let view = seen c.self.inside in
    let q = c.index.result.now in
    let place = place-of view c.args.self.now name c.in-Some.place q c.self.view_is (sym c.find.ensures ∙ c.in-Some.is) in
    let passed = all-passed told view name c.in-Some.place q place c.index.ensures (is_some c.results.result) (c.results.ensures.some told) (ap is_some c.in-Some-results.is) in
    accepted-by (event.Show name) told view c.args.self.now _ c.self.view_is (show-results (state_of told view) name (query_of told q) (named-here told name view.queries c.in-Some.place q place c.index.ensures) passed) refl
