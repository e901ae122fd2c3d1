use Rattle.std.proofs.Common.{◌∙◌, List, ℕ, arith, subst}
use Rattle.std.proofs.lemmas.List.{take_all}
use Rattle.repository.specs.Writes.{AreGone}
use Rattle.repository.proofs.GoingLemmas.{going-then}
use Rattle.repository.proofs.RemovalLemmas.{gone-more, more-removed, more-stops}
use Rattle.repository.proofs.removal.remove_files.Goals as goal

pub returns-in_err-remove_number-clause-same : goal.returns-in_err-remove_number-clause-same
returns-in_err-remove_number-clause-same g c =
    let inv = c.loop-number.invariant in
    more-removed c.args.numbers.now c.loop-number.number-index (g.T.Store.files c.args.store.now) (g.T.Store.files c.loop-number.store) (g.T.Store.files c.remove_number.new.store) c.loop-number-test.true inv.same c.remove_number.ensures.same

pub returns-in_err-remove_number-clause-stops : goal.returns-in_err-remove_number-clause-stops
returns-in_err-remove_number-clause-stops g c =
    let inv = c.loop-number.invariant in
    more-stops c.args.numbers.now c.loop-number.number-index (g.T.Store.since c.args.store.now) (g.T.Store.since c.loop-number.store) (g.T.Store.since c.remove_number.new.store) (g.T.Store.files c.args.store.now)
    (g.T.Store.files c.loop-number.store) c.loop-number-test.true inv.same inv.stops c.remove_number.ensures.stops

pub loop-number-preserved : goal.loop-number-preserved
loop-number-preserved g c =
    let inv = c.loop-number.invariant in
    let i = c.loop-number.number-index in
    let a = g.T.Store.files c.args.store.now in
    let b = g.T.Store.files c.loop-number.store in
    record {
      gone = gone-more c.args.numbers.now i b (g.T.Store.files c.remove_number.new.store) c.loop-number-test.true c.in_ok-remove_number.ensures.still c.in_ok-remove_number.ensures.gone inv.gone;
      same = more-removed c.args.numbers.now i a b (g.T.Store.files c.remove_number.new.store) c.loop-number-test.true inv.same c.remove_number.ensures.same;
      stops = more-stops c.args.numbers.now i (g.T.Store.since c.args.store.now) (g.T.Store.since c.loop-number.store) (g.T.Store.since c.remove_number.new.store) a b c.loop-number-test.true inv.same inv.stops c.remove_number.ensures.stops;
      goes_on = going-then g.T.Store.layers g.T.Store.clock g.T.Store.longest g.T.Store.held c.args.store.now c.loop-number.store c.remove_number.new.store inv.goes_on c.remove_number.ensures.goes_on;
      later = (let x = inv.later in let y = c.remove_number.ensures.later in omega (arith, x, y));
      none = c.in_ok-remove_number.ensures.none (λ e. cc) ∙ inv.none;
    }

pub returns-clause-gone : goal.returns-clause-gone
returns-clause-gone g c =
    subst (λ (ns : List ℕ). AreGone ns (g.T.Store.files c.loop-number.store)) (take_all c.loop-number.number-index c.args.numbers.now (omega (arith, c.loop-number-test.false))) c.loop-number.invariant.gone
