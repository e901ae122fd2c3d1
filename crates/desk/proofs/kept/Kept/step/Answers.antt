use Rattle.std.proofs.Common.{◌≡◌, ◌∙◌, ◌≤◌, ap, get_or, length, refl, subst, sym, Some, Option, set, rules}
use Rattle.std.specs.Prelude.{is_ok}
use Rattle.std.specs.List.{position}
use Rattle.std.proofs.lemmas.List.Elements.{All-set}
use Rattle.store_ends.specs.Files.{Files}
use Rattle.belief_nodes.specs.Network.{network_tree}
use Rattle.session_events.specs.declared.event.Event.TheVariants as event
use Rattle.desk.specs.declared.reply.Reply.TheVariants as reply
use Rattle.desk.specs.declared.reply.Refusal.TheVariants.{NoSuchName}
use Rattle.desk.specs.Backed.{IsDeskBacked, IsDeskIntact, Keeps, Steps, state_of}
use Rattle.desk.specs.Keeping.{IsOpen}
use Rattle.desk.specs.Queries.{IsCacheKept, IsQueryBacked, query_of}
use Rattle.desk.proofs.CacheLemmas.{cache-read}
use Rattle.desk.proofs.Cases.{step-noname, step-stepped}
use Rattle.desk.proofs.Exits.{accepted-by, of-now, refused-by, refused-here}
use Rattle.desk.proofs.Found.{backed-of, intact-of, none-found, open-of, place-of, seen}
use Rattle.desk.proofs.KeptLemmas.{asks-nine, kept-set, open-on}
use Rattle.desk.proofs.NamedExits.{step-exit, with_search}
use Rattle.desk.proofs.Naming.{at-place, found-place, is_named, named-here}
use Rattle.desk.proofs.QueryLemmas.{plugs-moved}
use Rattle.ri_base.specs.Faults.{TellsDamage}
use Rattle.ri_base.specs.declared.seg_fault.SegFault.{SegFault}
use Rattle.desk.proofs.IntactLemmas.{intact-from}
use Rattle.disk_index.specs.Snapshots.{AreIntact}
use Rattle.desk.specs.declared.query.OpenQuery.{OpenQuery}
use Rattle.desk.proofs.kept.Kept.step.Goals as goal

pub returns-in_default-clause-steps : goal.returns-in_default-clause-steps
returns-in_default-clause-steps g c = λ backed are.
    let told = g.T.Store.files c.args.store.now in
    let view = seen c.self.inside in
    refused-here (event.Step c.args.name c.args.docs) told view c.args.self.now (NoSuchName c.args.name) c.self.view_is (step-noname (state_of told view) c.args.name c.args.docs (none-found view c.args.self.now c.args.name c.self.view_is told (sym c.find.ensures ∙ c.in_default.is))) backed

pub returns-in_default-clause-refuses : goal.returns-in_default-clause-refuses
returns-in_default-clause-refuses g c = λ told.
    let view = seen c.self.inside in
    refused-by (event.Step c.args.name c.args.docs) told view c.args.self.now (NoSuchName c.args.name) c.self.view_is (step-noname (state_of told view) c.args.name c.args.docs (none-found view c.args.self.now c.args.name c.self.view_is told (sym c.find.ensures ∙ c.in_default.is)))

pub advance-requires-clause-usable : goal.advance-requires-clause-usable
advance-requires-clause-usable g c =
    let name = c.args.name in
    let view = seen c.self.inside in
    let q = c.index_mut.result.now in
    let was = open-of view c.args.self.now name c.in-Some.place q c.self.view_is (sym c.find.ensures ∙ c.in-Some.is) c.index_mut.ensures.value c.self.invariant c.requires.usable in
    was.usable

pub advance-requires-clause-plugs : goal.advance-requires-clause-plugs
advance-requires-clause-plugs g c =
    let name = c.args.name in
    let view = seen c.self.inside in
    let q = c.index_mut.result.now in
    let was = open-of view c.args.self.now name c.in-Some.place q c.self.view_is (sym c.find.ensures ∙ c.in-Some.is) c.index_mut.ensures.value c.self.invariant c.requires.usable in
    asks-nine (length view.repository.priors) (length c.args.plugs.now) (network_tree q.search.network).leaves
    (c.priors-few.ensures.few (ap (λ (x : Keeps). x.repository.usable) c.self.view_is ∙ c.requires.usable.1)) c.requires.nine was.priors

pub invariant_of-self : goal.invariant_of-self
invariant_of-self g c =
    λ usable_now there_now.
    let s = c.self.inside in
    let name = c.args.name in
    let found : position (is_named name) s.queries.items ≡ Some c.in-Some.place = ap (λ (x : Keeps). position (is_named name) x.queries) c.self.view_is ∙ sym c.find.ensures ∙ c.in-Some.is in
    let kept = c.self.invariant usable_now there_now in
    let q = c.index_mut.result.now in
    let there : q ≡ get_or s.queries.items c.in-Some.place q = c.index_mut.ensures.value in
    let place = found-place name s.queries.items c.in-Some.place q found in
    let was : IsOpen (length s.repository.priors) q = at-place (IsOpen (length s.repository.priors)) s.queries.items c.in-Some.place q place.within there kept.each in
    kept-set s.repository s.queries.items s.counts c.in-Some.place c.advance.new.self
    (open-on (length s.repository.priors) q c.advance.new.self c.advance.ensures.same (c.advance.ensures.usable ∙ ap is_ok c.in-Ok.is) was) kept

pub returns-in-Ok-clause-steps : goal.returns-in-Ok-clause-steps
returns-in-Ok-clause-steps g c = λ backed are.
    let told = g.T.Store.files c.args.store.now in
    let after = g.T.Store.files c.advance.new.store in
    let name = c.args.name in
    let view = seen c.self.inside in
    let q = c.index_mut.result.now in
    let place = place-of view c.args.self.now name c.in-Some.place q c.self.view_is (sym c.find.ensures ∙ c.in-Some.is) in
    let was = open-of view c.args.self.now name c.in-Some.place q c.self.view_is (sym c.find.ensures ∙ c.in-Some.is) c.index_mut.ensures.value c.self.invariant c.requires.usable in
    let few : length view.repository.priors ≤ 8 = c.priors-few.ensures.few (ap (λ (x : Keeps). x.repository.usable) c.self.view_is ∙ c.requires.usable.1) in
    let new = c.advance.new.self in
    let cache = c.advance.new.cache in
    let same : after ≡ told = c.advance.ensures.quiet.same_files in
    let kind : c.args.rule.now.kind ≡ view.kind = c.requires.kind ∙ sym (ap (λ (x : Keeps). x.kind) c.self.view_is) in
    of-now told view c.args.self.now
    (λ (x : Keeps). Steps (event.Step name c.args.docs) told after x (with_search view (set view.queries c.in-Some.place new) cache) (reply.Stepped name c.in-Ok.credit c.in-Ok.live)) c.self.view_is
    (λ b.
    let query = backed-of view c.args.self.now name c.in-Some.place q c.self.view_is (sym c.find.ensures ∙ c.in-Some.is) told c.index_mut.ensures.value b in
    let own : IsQueryBacked told view.repository c.args.rule.now.kind q = subst (λ k. IsQueryBacked told view.repository k q) (sym kind) query in
    let now : IsQueryBacked after view.repository view.kind new =
    subst (λ k. IsQueryBacked after view.repository k new) kind
    (c.in-Ok.ensures.backed view.repository few was.priors (plugs-moved told view c.args.self.now _ c.self.view_is are) b.cache.backed own) in
    let blocks : IsCacheKept after view.repository cache = subst (λ (f : Option Files). IsCacheKept f view.repository cache) (sym same) (cache-read told view.repository q.search.snapshot view.cache cache query.listed query.snapshot c.advance.ensures.cache b.cache) in
    step-exit told view name c.in-Some.place q place c.index_mut.ensures.value after c.args.docs c.in-Ok.credit c.in-Ok.live new cache same (c.in-Ok.ensures.query told) now blocks (c.in-Ok.ensures.credit told) (c.in-Ok.ensures.live told) b)
    backed

pub returns-in-Ok-clause-refuses : goal.returns-in-Ok-clause-refuses
returns-in-Ok-clause-refuses g c = λ told.
    let name = c.args.name in
    let view = seen c.self.inside in
    let q = c.index_mut.result.now in
    let place = place-of view c.args.self.now name c.in-Some.place q c.self.view_is (sym c.find.ensures ∙ c.in-Some.is) in
    accepted-by (event.Step name c.args.docs) told view c.args.self.now _ c.self.view_is (step-stepped (state_of told view) name c.args.docs (query_of told q) (named-here told name view.queries c.in-Some.place q place c.index_mut.ensures.value)) refl

pub returns-in-Err-clause-honest : goal.returns-in-Err-clause-honest
returns-in-Err-clause-honest g c = λ backed intact.
    let told = g.T.Store.files c.args.store.now in
    let name = c.args.name in
    let view = seen c.self.inside in
    let q = c.index_mut.result.now in
    let b : IsDeskBacked told view = subst (IsDeskBacked told) (sym c.self.view_is) backed in
    let query = backed-of view c.args.self.now name c.in-Some.place q c.self.view_is (sym c.find.ensures ∙ c.in-Some.is) told c.index_mut.ensures.value b in
    let whole = intact-of view c.args.self.now name c.in-Some.place q c.self.view_is (sym c.find.ensures ∙ c.in-Some.is) told c.index_mut.ensures.value (subst (IsDeskIntact told) (sym c.self.view_is) intact) in
    let kind : c.args.rule.now.kind ≡ view.kind = c.requires.kind ∙ sym (ap (λ (x : Keeps). x.kind) c.self.view_is) in
    c.in-Err.ensures.honest view.repository (subst (λ k. IsQueryBacked told view.repository k q) (sym kind) query) whole b.cache.backed

pub returns-in-Err-clause-keeps : goal.returns-in-Err-clause-keeps
returns-in-Err-clause-keeps g c =
    let met : c.match-name.self.cache.damage ≡ c.advance.new.cache.damage = search rules in
    let tells = subst (λ (x : Keeps). TellsDamage x.cache.damage c.advance.new.cache.damage c.in-Err.fault) c.self.view_is c.in-Err.ensures.damaged in
    record {
      form = tt;
      kind = search rules;
      unchanged = tt;
      usable = tt;
      undamaged = tt;
      damaged = subst (λ (after : Option SegFault). TellsDamage c.args.self.now.cache.damage after c.in-Err.fault) (sym met) tells;
    }

pub returns-in-Ok-clause-keeps : goal.returns-in-Ok-clause-keeps
returns-in-Ok-clause-keeps g c = record {
  form = search rules;
  kind = ap (λ (x : Keeps). x.kind) c.self.view_is;
  unchanged = tt;
  usable = search rules;
  undamaged = c.in-Ok.ensures.undamaged ∙ ap (λ (x : Keeps). x.cache.damage) c.self.view_is;
  damaged = tt;
}

pub returns-in-Ok-clause-intact : goal.returns-in-Ok-clause-intact
returns-in-Ok-clause-intact g c = λ told whole.
    let name = c.args.name in
    let view = seen c.self.inside in
    let q = c.index_mut.result.now in
    let new = c.advance.new.self in
    intact-from told told view c.args.self.now (with_search view (set view.queries c.in-Some.place new) c.advance.new.cache) c.self.view_is
    (λ w.
    let was = intact-of view c.args.self.now name c.in-Some.place q c.self.view_is (sym c.find.ensures ∙ c.in-Some.is) told c.index_mut.ensures.value w in
    let own : AreIntact told new.search.snapshot = subst (AreIntact told) (sym c.advance.ensures.same.snapshot) was in
    record {
      parts = w.parts;
      queries = All-set (λ (x : OpenQuery). AreIntact told x.search.snapshot) view.queries c.in-Some.place new own w.queries;
      merge = w.merge;
    }) whole
