use Rattle.std.proofs.Common.{◌∙◌, ap, refl, rules, subst, sym}
use Rattle.repository.specs.Stands.{Collection, Stands}
use Rattle.session_events.specs.declared.event.Event.TheVariants as event
use Rattle.desk.specs.declared.reply.Reply.TheVariants as reply
use Rattle.desk.specs.Backed.{Keeps, Steps, state_of}
use Rattle.desk.specs.Points.{kept_behind}
use Rattle.desk.specs.Step.{step}
use Rattle.desk.proofs.Cases.{kept-flushed, step-flushed}
use Rattle.desk.proofs.DocumentExits.{with_repository}
use Rattle.desk.proofs.Exits.{accepted-by, leaves-failed, of-now}
use Rattle.desk.proofs.FlushExits.{flush-exit, flush-stands, flushed-now, flushed-stops}
use Rattle.desk.proofs.Found.{seen}
use Rattle.desk.proofs.KeptLemmas.{kept-repository, priors-saved}
use Rattle.std.proofs.lemmas.Result.{err_from_is_err_and}
use Rattle.disk_index.proofs.CacheLemmas.{outside-damage}
use Rattle.desk.proofs.IntactLemmas.{flush-intact}
use Rattle.desk.proofs.kept.Kept.flush.Goals as goal

pub returns-in_err-flush-clause-files : goal.returns-in_err-flush-clause-files
returns-in_err-flush-clause-files g c = record {
  done = search rules;
  now = flushed-now g.T.Store.files g.T.Store.clock g.T.Store.since c.args.store.now c.flush.new.store (seen c.self.inside) c.args.self.now c.self.view_is c.flush.ensures.writes (g.met.T.Store.honest c.flush.new.store) (g.met.T.Store.still c.args.store.now) c.flush.ensures.goes_on.later;
  stops = flushed-stops g.T.Store.files g.T.Store.clock g.T.Store.since c.args.store.now c.flush.new.store (seen c.self.inside) c.args.self.now c.self.view_is c.flush.ensures.writes;
}

pub returns-clause-files : goal.returns-clause-files
returns-clause-files g c = record {
  done = λ kept backed stands.
      let view = seen c.self.inside in
      of-now (g.T.Store.files c.args.store.now) view c.args.self.now (λ (x : Keeps). Stands x.repository.held.limits (g.T.Store.files c.flush.new.store) (kept_behind kept (step (state_of (g.T.Store.files c.args.store.now) x) event.Flush))) c.self.view_is
      (λ b. subst (λ (k : Collection). Stands view.repository.held.limits (g.T.Store.files c.flush.new.store) k) (sym (kept-flushed kept (state_of (g.T.Store.files c.args.store.now) view)))
      (flush-stands (g.T.Store.files c.args.store.now) (g.T.Store.files c.flush.new.store) view c.flush.new.self b c.flush.ensures.writes.others c.in_ok-flush.ensures.wrote c.in_ok-flush.ensures.merging c.in_ok-flush.ensures.saved)) backed;
  now = flushed-now g.T.Store.files g.T.Store.clock g.T.Store.since c.args.store.now c.flush.new.store (seen c.self.inside) c.args.self.now c.self.view_is c.flush.ensures.writes (g.met.T.Store.honest c.flush.new.store) (g.met.T.Store.still c.args.store.now) c.flush.ensures.goes_on.later;
  stops = flushed-stops g.T.Store.files g.T.Store.clock g.T.Store.since c.args.store.now c.flush.new.store (seen c.self.inside) c.args.self.now c.self.view_is c.flush.ensures.writes;
}

pub returns-clause-steps : goal.returns-clause-steps
returns-clause-steps g c = λ backed.
    let view = seen c.self.inside in
    of-now (g.T.Store.files c.args.store.now) view c.args.self.now (λ (x : Keeps). Steps event.Flush (g.T.Store.files c.args.store.now) (g.T.Store.files c.flush.new.store) x (with_repository view c.flush.new.self) (reply.Flushed c.live_count.result)) c.self.view_is
    (λ b. flush-exit (g.T.Store.files c.args.store.now) (g.T.Store.files c.flush.new.store) view c.flush.new.self b c.flush.ensures.writes.others c.in_ok-flush.ensures.wrote c.in_ok-flush.ensures.merging c.in_ok-flush.ensures.saved c.live_count.result (c.live_count.ensures (g.T.Store.files c.flush.new.store))) backed

pub returns-clause-refuses : goal.returns-clause-refuses
returns-clause-refuses g c = λ told.
    let view = seen c.self.inside in
    accepted-by event.Flush told view c.args.self.now _ c.self.view_is (step-flushed (state_of told view)) refl

pub invariant_of-self-2 : goal.invariant_of-self-2
invariant_of-self-2 g c = λ usable working.
    let s = c.self.inside in
    kept-repository s.repository c.flush.new.self s.queries.items s.counts (priors-saved c.flush.result s.repository c.flush.new.self s.repository.stale c.flush.ensures.saved c.flush.ensures.broken working) (c.self.invariant usable (ap (λ (x : Keeps). x.repository.usable) c.self.view_is ∙ c.requires.usable.1))

pub returns-in_err-flush-clause-keeps : goal.returns-in_err-flush-clause-keeps
returns-in_err-flush-clause-keeps g c =
    let p = err_from_is_err_and c.from_residual.result c.from_residual.ensures.1 in
    rw (p.1, p.2) (leaves-failed _ (seen c.self.inside) c.args.self.now _ c.self.view_is refl (outside-damage _ _ c.in_err-flush.ensures.outside))

pub returns-clause-intact : goal.returns-clause-intact
returns-clause-intact g c =
    flush-intact (g.T.Store.files c.args.store.now) (g.T.Store.files c.flush.new.store) (seen c.self.inside) c.args.self.now c.flush.new.self c.self.view_is c.in_ok-flush.ensures.wrote.intact c.flush.ensures.writes.others c.in_ok-flush.ensures.saved.merge
