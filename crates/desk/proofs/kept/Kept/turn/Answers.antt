use Rattle.std.proofs.Common.{◌≡◌, ◌∙◌, false, true, ap, inl, rules, subst, sym, refl}
use Rattle.std.specs.Prelude.{is_some}
use Rattle.std.proofs.lemmas.Result.{err_from_is_err_and}
use Rattle.store_ends.proofs.Files.{Leaves-same}
use Rattle.session_events.specs.declared.event.Event.TheVariants as event
use Rattle.desk.specs.Replied.{IsReply}
use Rattle.desk.specs.declared.reply.Reply.{Reply}
use Rattle.desk.specs.declared.reply.Reply.TheVariants as reply
use Rattle.desk.specs.declared.reply.Refusal.TheVariants.{NoMerge}
use Rattle.desk.specs.Backed.{Keeps, Steps, state_of}
use Rattle.desk.specs.Keeping.{StaysIfRefused}
use Rattle.desk.specs.Step.{step}
use Rattle.desk.specs.Told.{RefusesAs}
use Rattle.desk.proofs.Exits.{leaves-failed, of-now, refused-by, refused-exit}
use Rattle.desk.proofs.Found.{seen}
use Rattle.desk.proofs.KeptLemmas.{kept-repository, priors-turned}
use Rattle.desk.proofs.MergeExits.{with_merged}
use Rattle.desk.proofs.TurnExits.{nomerge-kept, nomerge-step, same-below, turn-form, turn-honest, turn-kept, turn-refuses, turn-stays, turn-steps, turned-now, turned-stops}
use Rattle.desk.proofs.IntactLemmas.{turn-intact}
use Rattle.desk.proofs.kept.Kept.turn.Goals as goal

pub returns-then-not-merge_open-clause-steps : goal.returns-then-not-merge_open-clause-steps
returns-then-not-merge_open-clause-steps g c = λ backed.
    let view = seen c.self.inside in
    let none : is_some view.repository.merge ≡ false = sym c.merge_open.ensures ∙ c.if-not-merge_open.true in
    of-now (g.T.Store.files c.args.store.now) view c.args.self.now (λ (x : Keeps). Steps (event.Turn c.args.docs) (g.T.Store.files c.args.store.now) (g.T.Store.files c.args.store.now) x x (reply.Refused NoMerge)) c.self.view_is (λ inside. refused-exit (event.Turn c.args.docs) (g.T.Store.files c.args.store.now) view NoMerge (nomerge-step (g.T.Store.files c.args.store.now) view c.args.docs none) inside) backed

pub returns-then-not-merge_open-clause-refuses : goal.returns-then-not-merge_open-clause-refuses
returns-then-not-merge_open-clause-refuses g c = λ told.
    let view = seen c.self.inside in
    let none : is_some view.repository.merge ≡ false = sym c.merge_open.ensures ∙ c.if-not-merge_open.true in
    refused-by (event.Turn c.args.docs) told view c.args.self.now NoMerge c.self.view_is (nomerge-step told view c.args.docs none)

pub returns-then-not-merge_open-clause-files : goal.returns-then-not-merge_open-clause-files
returns-then-not-merge_open-clause-files g c = record {
  done = λ kept backed stands.
      let view = seen c.self.inside in
      let none : is_some view.repository.merge ≡ false = sym c.merge_open.ensures ∙ c.if-not-merge_open.true in
      nomerge-kept (g.T.Store.files c.args.store.now) view c.args.self.now c.args.docs kept c.self.view_is none stands;
  now = λ kept backed stands. inl stands;
  stops = λ kept backed stands. Leaves-same (g.T.Store.since c.args.store.now) _;
}

pub returns-in_err-turned-clause-files : goal.returns-in_err-turned-clause-files
returns-in_err-turned-clause-files g c = record {
  done = search rules;
  now = turned-now g.T.Store.files g.T.Store.layers g.T.Store.clock g.T.Store.since g.T.Store.longest g.T.Store.held c.args.store.now c.merge_turn.new.store (seen c.self.inside) c.args.self.now c.args.docs c.self.view_is (sym c.merge_open.ensures ∙ c.if-not-merge_open.false) c.merge_turn.ensures.quiet c.merge_turn.ensures.stay c.merge_turn.ensures.stops (g.met.T.Store.honest c.merge_turn.new.store) (g.met.T.Store.still c.args.store.now) c.merge_turn.ensures.goes_on.later;
  stops = turned-stops g.T.Store.files g.T.Store.layers g.T.Store.clock g.T.Store.since g.T.Store.longest g.T.Store.held c.args.store.now c.merge_turn.new.store (seen c.self.inside) c.args.self.now c.args.docs c.self.view_is (sym c.merge_open.ensures ∙ c.if-not-merge_open.false) c.merge_turn.ensures.quiet c.merge_turn.ensures.stay c.merge_turn.ensures.stops;
}

pub returns-clause-files : goal.returns-clause-files
returns-clause-files g c = record {
  done = λ kept backed stands.
      let view = seen c.self.inside in
      turn-kept (g.T.Store.files c.args.store.now) (g.T.Store.files c.merge_turn.new.store) view c.args.self.now c.args.docs c.merge_turn.new.self c.merge_turn.new.cache c.live_count.result c.self.view_is
      (same-below g.T.Store.files g.T.Store.layers g.T.Store.clock g.T.Store.since g.T.Store.longest g.T.Store.held c.args.store.now c.merge_turn.new.store view.repository.merge c.args.docs c.merge_turn.ensures.quiet) c.in_ok-turned.turned c.in_ok-turned.ensures.turned c.in_ok-turned.ensures.state c.in_ok-turned.ensures.over kept backed stands;
  now = turned-now g.T.Store.files g.T.Store.layers g.T.Store.clock g.T.Store.since g.T.Store.longest g.T.Store.held c.args.store.now c.merge_turn.new.store (seen c.self.inside) c.args.self.now c.args.docs c.self.view_is (sym c.merge_open.ensures ∙ c.if-not-merge_open.false) c.merge_turn.ensures.quiet c.merge_turn.ensures.stay c.merge_turn.ensures.stops (g.met.T.Store.honest c.merge_turn.new.store) (g.met.T.Store.still c.args.store.now) c.merge_turn.ensures.goes_on.later;
  stops = turned-stops g.T.Store.files g.T.Store.layers g.T.Store.clock g.T.Store.since g.T.Store.longest g.T.Store.held c.args.store.now c.merge_turn.new.store (seen c.self.inside) c.args.self.now c.args.docs c.self.view_is (sym c.merge_open.ensures ∙ c.if-not-merge_open.false) c.merge_turn.ensures.quiet c.merge_turn.ensures.stay c.merge_turn.ensures.stops;
}

pub returns-clause-keeps : goal.returns-clause-keeps
returns-clause-keeps g c = record {
  form = subst IsReply (sym c.turned_reply.ensures) (turn-form c.in_ok-turned.turned c.live_count.result);
  kind = ap (λ (x : Keeps). x.kind) c.self.view_is;
  unchanged =
      let s = c.self.inside in
      let behind : Keeps = record { repository = c.merge_turn.new.self; kind = s.kind; queries = s.queries.items; counts = s.counts; cache = c.merge_turn.new.cache; usable = s.usable } in
      subst (λ (x : Reply). StaysIfRefused x c.args.self.now behind) (sym c.turned_reply.ensures) (turn-stays c.in_ok-turned.turned c.live_count.result c.args.self.now behind);
  usable = search rules;
  undamaged = c.in_ok-turned.ensures.undamaged ∙ ap (λ (x : Keeps). x.cache.damage) c.self.view_is;
  damaged = tt;
}

pub returns-in_err-turned-clause-honest : goal.returns-in_err-turned-clause-honest
returns-in_err-turned-clause-honest g c = λ backed intact.
    let view = seen c.self.inside in
    let p = err_from_is_err_and c.from_residual.result c.from_residual.ensures.1 in
    rw (p.1, p.2) (turn-honest (g.T.Store.files c.args.store.now) view c.args.self.now c.in_err-turned.field-0.0 c.self.view_is c.in_err-turned.ensures.honest backed intact)

pub returns-clause-steps : goal.returns-clause-steps
returns-clause-steps g c = λ backed.
    let view = seen c.self.inside in
    subst (λ (x : Reply). Steps (event.Turn c.args.docs) (g.T.Store.files c.args.store.now) (g.T.Store.files c.merge_turn.new.store) c.args.self.now (with_merged view c.merge_turn.new.self c.merge_turn.new.cache) x) (sym c.turned_reply.ensures)
    (turn-steps (g.T.Store.files c.args.store.now) (g.T.Store.files c.merge_turn.new.store) view c.args.self.now c.args.docs c.merge_turn.new.self c.merge_turn.new.cache c.live_count.result c.self.view_is
    (same-below g.T.Store.files g.T.Store.layers g.T.Store.clock g.T.Store.since g.T.Store.longest g.T.Store.held c.args.store.now c.merge_turn.new.store view.repository.merge c.args.docs c.merge_turn.ensures.quiet) c.in_ok-turned.turned c.in_ok-turned.ensures.turned c.in_ok-turned.ensures.state c.in_ok-turned.ensures.over c.merge_turn.ensures.stay c.merge_turn.ensures.cache (c.live_count.ensures (g.T.Store.files c.merge_turn.new.store)) backed)

pub returns-clause-refuses : goal.returns-clause-refuses
returns-clause-refuses g c = λ told.
    let view = seen c.self.inside in
    let some : is_some view.repository.merge ≡ true = sym c.merge_open.ensures ∙ c.if-not-merge_open.false in
    subst (λ (x : Reply). RefusesAs x (step (state_of told c.args.self.now) (event.Turn c.args.docs)).1) (sym c.turned_reply.ensures) (turn-refuses told view c.args.self.now c.args.docs c.live_count.result c.in_ok-turned.turned c.self.view_is some)

pub invariant_of-self : goal.invariant_of-self
invariant_of-self g c = λ usable working.
    let s = c.self.inside in
    kept-repository s.repository c.merge_turn.new.self s.queries.items s.counts (priors-turned c.merge_turn.result c.args.docs s.repository c.merge_turn.new.self c.merge_turn.ensures.state c.merge_turn.ensures.broken working) (c.self.invariant usable (ap (λ (x : Keeps). x.repository.usable) c.self.view_is ∙ c.requires.usable.1))

pub invariant_of-self-2 : goal.invariant_of-self-2
invariant_of-self-2 g c = λ usable working.
    let s = c.self.inside in
    kept-repository s.repository c.merge_turn.new.self s.queries.items s.counts (priors-turned c.merge_turn.result c.args.docs s.repository c.merge_turn.new.self c.merge_turn.ensures.state c.merge_turn.ensures.broken working) (c.self.invariant usable (ap (λ (x : Keeps). x.repository.usable) c.self.view_is ∙ c.requires.usable.1))

pub returns-in_err-turned-clause-keeps : goal.returns-in_err-turned-clause-keeps
returns-in_err-turned-clause-keeps g c =
    let p = err_from_is_err_and c.from_residual.result c.from_residual.ensures.1 in
    rw (p.1, p.2) (leaves-failed _ (seen c.self.inside) c.args.self.now _ c.self.view_is refl c.in_err-turned.ensures.damaged)

pub returns-clause-intact : goal.returns-clause-intact
returns-clause-intact g c =
    turn-intact (g.T.Store.files c.args.store.now) (g.T.Store.files c.merge_turn.new.store) (seen c.self.inside) c.args.self.now c.args.docs c.merge_turn.new.self c.merge_turn.new.cache c.self.view_is (λ merging cached. (c.in_ok-turned.ensures.over merging cached).intact) c.merge_turn.ensures.stay
    c.in_ok-turned.turned c.in_ok-turned.ensures.state
