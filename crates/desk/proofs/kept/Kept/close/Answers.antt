use Rattle.std.proofs.Common.{◌≡◌, ◌∙◌, ap, refl, subst, sym, List, Some}
use Rattle.std.specs.List.{position}
use Rattle.session_events.specs.declared.event.Event.TheVariants as event
use Rattle.desk.specs.declared.reply.Reply.TheVariants as reply
use Rattle.desk.specs.declared.reply.Refusal.TheVariants.{NoSuchName}
use Rattle.desk.specs.Backed.{Keeps, Steps, state_of}
use Rattle.desk.specs.Keeping.{AreKept}
use Rattle.desk.specs.declared.query.OpenQuery.{OpenQuery}
use Rattle.desk.specs.Queries.{query_of}
use Rattle.desk.proofs.Cases.{close-closed, close-noname}
use Rattle.desk.proofs.Exits.{accepted-by, of-now, refused-by, refused-here}
use Rattle.desk.proofs.Found.{none-found, place-of, seen}
use Rattle.desk.proofs.KeptLemmas.{kept-removed}
use Rattle.desk.proofs.NamedExits.{close-exit, with_queries}
use Rattle.desk.proofs.Naming.{found-place, is_named, named-here, All-remove}
use Rattle.desk.proofs.IntactLemmas.{AreAllIntact, intact-from}
use Rattle.disk_index.specs.Snapshots.{AreIntact}
use Rattle.desk.proofs.kept.Kept.close.Goals as goal

pub invariant_of-self : goal.invariant_of-self
invariant_of-self c =
    λ usable there.
    let s = c.self.inside in
    let found : position (is_named c.args.name) s.queries.items ≡ Some c.in-Some.place = ap (λ (x : Keeps). position (is_named c.args.name) x.queries) c.self.view_is ∙ sym c.find.ensures ∙ c.in-Some.is in
    let place = found-place c.args.name s.queries.items c.in-Some.place c.remove.result found in
    subst (λ (qs : List OpenQuery). AreKept s.repository qs s.counts) (sym c.remove.ensures.items) (kept-removed s.repository s.queries.items s.counts c.in-Some.place place.within (c.self.invariant usable there))

pub returns-in-None-clause-steps : goal.returns-in-None-clause-steps
returns-in-None-clause-steps c = λ told backed.
    let view = seen c.self.inside in
    refused-here (event.Close c.args.name) told view c.args.self.now (NoSuchName c.args.name) c.self.view_is (close-noname (state_of told view) c.args.name (none-found view c.args.self.now c.args.name c.self.view_is told (sym c.find.ensures ∙ c.in-None.is))) backed

pub returns-in-None-clause-refuses : goal.returns-in-None-clause-refuses
returns-in-None-clause-refuses c = λ told.
    let view = seen c.self.inside in
    refused-by (event.Close c.args.name) told view c.args.self.now (NoSuchName c.args.name) c.self.view_is (close-noname (state_of told view) c.args.name (none-found view c.args.self.now c.args.name c.self.view_is told (sym c.find.ensures ∙ c.in-None.is)))

pub returns-in-Some-clause-steps : goal.returns-in-Some-clause-steps
returns-in-Some-clause-steps c = λ told backed.
    let view = seen c.self.inside in
    let place = place-of view c.args.self.now c.args.name c.in-Some.place c.remove.result c.self.view_is (sym c.find.ensures ∙ c.in-Some.is) in
    of-now told view c.args.self.now (λ (x : Keeps). Steps (event.Close c.args.name) told told x (with_queries view c.remove.new.self.items) (reply.Closed c.args.name)) c.self.view_is
    (λ b. subst (λ (qs : List OpenQuery). Steps (event.Close c.args.name) told told view (with_queries view qs) (reply.Closed c.args.name)) (sym c.remove.ensures.items) (close-exit told view c.args.name c.in-Some.place c.remove.result place c.remove.ensures.value b)) backed

pub returns-in-Some-clause-refuses : goal.returns-in-Some-clause-refuses
returns-in-Some-clause-refuses c = λ told.
    let view = seen c.self.inside in
    let place = place-of view c.args.self.now c.args.name c.in-Some.place c.remove.result c.self.view_is (sym c.find.ensures ∙ c.in-Some.is) in
    accepted-by (event.Close c.args.name) told view c.args.self.now _ c.self.view_is
    (close-closed (state_of told view) c.args.name (query_of told c.remove.result) (named-here told c.args.name view.queries c.in-Some.place c.remove.result place c.remove.ensures.value)) refl

pub returns-in-Some-clause-intact : goal.returns-in-Some-clause-intact
returns-in-Some-clause-intact c = λ told whole.
    let view = seen c.self.inside in
    intact-from told told view c.args.self.now (with_queries view c.remove.new.self.items) c.self.view_is
    (λ w. record {
      parts = w.parts;
      queries = subst (AreAllIntact told) (sym c.remove.ensures.items) (All-remove (λ (q : OpenQuery). AreIntact told q.search.snapshot) view.queries c.in-Some.place w.queries);
      merge = w.merge;
    }) whole
