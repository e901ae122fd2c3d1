use Rattle.std.proofs.Common.{◌∙◌, ap, refl, rules, subst, Option}
use Rattle.session_events.specs.declared.event.Event.TheVariants as event
use Rattle.desk.specs.Backed.{Keeps, state_of}
use Rattle.desk.proofs.Cases.{step-ended}
use Rattle.desk.proofs.EndExits.{broken-now, broken-stops, end-done, end-gone, end-kept, swept-now, swept-stops}
use Rattle.desk.proofs.Exits.{accepted-by}
use Rattle.desk.proofs.Found.{seen}
use Rattle.desk.proofs.KeptLemmas.{kept-closed}
use Rattle.std.proofs.lemmas.Result.{err_from_is_err_and}
use Rattle.disk_index.proofs.CacheLemmas.{outside-damage}
use Rattle.ri_base.specs.Faults.{TellsDamage}
use Rattle.disk_index.specs.Cache.{Cached}
use Rattle.ri_base.specs.declared.seg_fault.SegFault.{SegFault}
use Rattle.desk.proofs.IntactLemmas.{end-intact}
use Rattle.desk.proofs.kept.Kept.end.Goals as goal

pub returns-in_err-flush-clause-files : goal.returns-in_err-flush-clause-files
returns-in_err-flush-clause-files g c = record {
  done = search rules;
  now = λ kept backed stands.
      let view = seen c.self.inside in
      broken-now g.T.Store.files g.T.Store.clock g.T.Store.since c.args.store.now view c.args.self.now c.drop_merge.new.self kept c.self.view_is c.drop_merge.ensures backed stands c.flush.new.store c.flush.ensures.writes (g.met.T.Store.honest c.flush.new.store) (g.met.T.Store.still c.args.store.now) c.flush.ensures.goes_on.later;
  stops = λ kept backed stands.
      let view = seen c.self.inside in
      broken-stops g.T.Store.files g.T.Store.clock g.T.Store.since c.args.store.now view c.args.self.now c.drop_merge.new.self kept c.self.view_is c.drop_merge.ensures backed stands c.flush.new.store c.flush.ensures.writes;
}

pub returns-in_err-sweep-clause-files : goal.returns-in_err-sweep-clause-files
returns-in_err-sweep-clause-files g c = record {
  done = search rules;
  now = λ kept backed stands.
      let view = seen c.self.inside in
      swept-now g.T.Store.files g.T.Store.clock g.T.Store.since c.args.store.now view c.args.self.now c.drop_merge.new.self kept c.self.view_is c.drop_merge.ensures backed stands c.flush.new.store c.flush.ensures.writes c.flush.new.self c.in_ok-flush.ensures.wrote c.in_ok-flush.ensures.saved c.sweep.new.store c.sweep.ensures.writes (g.met.T.Store.honest c.sweep.new.store) (g.met.T.Store.still c.flush.new.store) c.sweep.ensures.goes_on.later;
  stops = λ kept backed stands.
      let view = seen c.self.inside in
      swept-stops g.T.Store.files g.T.Store.clock g.T.Store.since c.args.store.now view c.args.self.now c.drop_merge.new.self kept c.self.view_is c.drop_merge.ensures backed stands c.flush.new.store c.flush.ensures.writes c.flush.new.self c.in_ok-flush.ensures.wrote c.in_ok-flush.ensures.saved c.sweep.new.store c.sweep.ensures.writes;
}

pub returns-clause-files : goal.returns-clause-files
returns-clause-files g c = record {
  done = λ kept backed stands.
      let view = seen c.self.inside in
      end-kept (g.T.Store.files c.args.store.now) (g.T.Store.files c.flush.new.store) (g.T.Store.files c.sweep.new.store) view c.args.self.now c.drop_merge.new.self c.flush.new.self c.sweep.new.self c.self.view_is c.drop_merge.ensures c.in_ok-flush.ensures.wrote c.in_ok-flush.ensures.saved c.in_ok-sweep.ensures.wrote c.in_ok-sweep.ensures.saved kept backed;
  now = λ kept backed stands.
      let view = seen c.self.inside in
      swept-now g.T.Store.files g.T.Store.clock g.T.Store.since c.args.store.now view c.args.self.now c.drop_merge.new.self kept c.self.view_is c.drop_merge.ensures backed stands c.flush.new.store c.flush.ensures.writes c.flush.new.self c.in_ok-flush.ensures.wrote c.in_ok-flush.ensures.saved c.sweep.new.store c.sweep.ensures.writes (g.met.T.Store.honest c.sweep.new.store) (g.met.T.Store.still c.flush.new.store) c.sweep.ensures.goes_on.later;
  stops = λ kept backed stands.
      let view = seen c.self.inside in
      swept-stops g.T.Store.files g.T.Store.clock g.T.Store.since c.args.store.now view c.args.self.now c.drop_merge.new.self kept c.self.view_is c.drop_merge.ensures backed stands c.flush.new.store c.flush.ensures.writes c.flush.new.self c.in_ok-flush.ensures.wrote c.in_ok-flush.ensures.saved c.sweep.new.store c.sweep.ensures.writes;
}

pub returns-clause-steps : goal.returns-clause-steps
returns-clause-steps g c = λ backed.
    let view = seen c.self.inside in
    end-done (g.T.Store.files c.args.store.now) (g.T.Store.files c.flush.new.store) (g.T.Store.files c.sweep.new.store) view c.args.self.now c.drop_merge.new.self c.flush.new.self c.sweep.new.self c.self.view_is c.drop_merge.ensures c.in_ok-flush.ensures.wrote c.in_ok-flush.ensures.saved c.in_ok-sweep.ensures.wrote c.in_ok-sweep.ensures.saved c.clear.new.self.items c.clear-2.new.self c.live_count.result c.clear.ensures.items c.clear-2.ensures (c.live_count.ensures (g.T.Store.files c.sweep.new.store)) backed

pub returns-clause-refuses : goal.returns-clause-refuses
returns-clause-refuses g c = λ told.
    let view = seen c.self.inside in
    accepted-by event.End told view c.args.self.now _ c.self.view_is (step-ended (state_of told view)) refl

pub returns-clause-swept : goal.returns-clause-swept
returns-clause-swept g c = (
    let view = seen c.self.inside in
    end-gone (g.T.Store.files c.args.store.now) (g.T.Store.files c.flush.new.store) (g.T.Store.files c.sweep.new.store) view c.args.self.now c.drop_merge.new.self c.flush.new.self c.sweep.new.self c.self.view_is c.drop_merge.ensures c.in_ok-flush.ensures.wrote c.in_ok-flush.ensures.saved c.in_ok-sweep.ensures.wrote c.in_ok-sweep.ensures.saved c.in_ok-sweep.ensures.gone)

pub invariant_of-self : goal.invariant_of-self
invariant_of-self g c = λ usable working.
    let s = c.self.inside in
    kept-closed s.repository c.flush.new.self s.queries.items c.clear.new.self.items s.counts c.clear.ensures.items (c.self.invariant usable (ap (λ (x : Keeps). x.repository.usable) c.self.view_is ∙ c.requires.usable.1))

pub invariant_of-self-2 : goal.invariant_of-self-2
invariant_of-self-2 g c = λ usable working.
    let s = c.self.inside in
    kept-closed s.repository c.sweep.new.self s.queries.items c.clear.new.self.items s.counts c.clear.ensures.items (c.self.invariant usable (ap (λ (x : Keeps). x.repository.usable) c.self.view_is ∙ c.requires.usable.1))

pub returns-in_err-flush-clause-keeps : goal.returns-in_err-flush-clause-keeps
returns-in_err-flush-clause-keeps g c =
    let p = err_from_is_err_and c.from_residual.result c.from_residual.ensures.1 in
    rw (p.1, p.2) (record {
      form = tt;
      kind = ap (λ (x : Keeps). x.kind) c.self.view_is;
      unchanged = tt;
      usable = tt;
      undamaged = tt;
      damaged = subst (λ (before : Option SegFault). TellsDamage before c.clear-2.new.self.damage c.in_err-flush.field-0.0)
          (ap (λ (x : Cached). x.damage) c.clear-2.ensures ∙ ap (λ (x : Keeps). x.cache.damage) c.self.view_is) (outside-damage c.clear-2.new.self.damage c.in_err-flush.field-0.0 c.in_err-flush.ensures.outside);
    })

pub returns-in_err-sweep-clause-keeps : goal.returns-in_err-sweep-clause-keeps
returns-in_err-sweep-clause-keeps g c =
    let p = err_from_is_err_and c.from_residual-in_err-sweep.result c.from_residual-in_err-sweep.ensures.1 in
    rw (p.1, p.2) (record {
      form = tt;
      kind = ap (λ (x : Keeps). x.kind) c.self.view_is;
      unchanged = tt;
      usable = tt;
      undamaged = tt;
      damaged = subst (λ (before : Option SegFault). TellsDamage before c.clear-2.new.self.damage c.in_err-sweep.field-0.0)
          (ap (λ (x : Cached). x.damage) c.clear-2.ensures ∙ ap (λ (x : Keeps). x.cache.damage) c.self.view_is) (outside-damage c.clear-2.new.self.damage c.in_err-sweep.field-0.0 c.in_err-sweep.ensures.outside);
    })

pub returns-clause-intact : goal.returns-clause-intact
returns-clause-intact g c =
    end-intact (g.T.Store.files c.args.store.now) (g.T.Store.files c.flush.new.store) (g.T.Store.files c.sweep.new.store) (seen c.self.inside) c.args.self.now c.drop_merge.new.self c.flush.new.self c.sweep.new.self c.clear.new.self.items c.clear-2.new.self c.self.view_is
    c.drop_merge.ensures c.in_ok-flush.ensures.wrote c.in_ok-sweep.ensures.wrote c.in_ok-flush.ensures.saved c.in_ok-sweep.ensures.saved c.clear.ensures.items
