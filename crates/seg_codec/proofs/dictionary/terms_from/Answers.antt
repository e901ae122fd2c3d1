use Rattle.std.proofs.Common.{[]}
use Rattle.std.proofs.lemmas.Result.{err_from_is_err_and}
use Rattle.ri_base.specs.Reading.{repeat}
use Rattle.seg_codec.specs.Dictionary.{term_blocks, behind_term}
use Rattle.ri_base.proofs.Loops.{goes_on, ends, is_done}
use Rattle.seg_codec.proofs.dictionary.terms_from.Goals as goal

pub returns-in_err-term : goal.returns-in_err-term
returns-in_err-term c =
    let p = err_from_is_err_and c.from_residual-in_err-term.result c.from_residual-in_err-term.ensures.1 in
    rw (p.1, p.2) (ends (term_blocks c.args.docs) (behind_term) c.in_err-term.field-0.0 c.loop.terms.items c.args.count c.loop.counter (record { before = c.loop.before.now; at = c.loop.next }) c.loop.rest.now (repeat (term_blocks c.args.docs) (behind_term) c.args.count (record { before = []; at = c.args.at }) c.args.bytes.now) c.loop-test.true c.in_err-term.ensures.read c.loop.invariant)

pub loop-preserved : goal.loop-preserved
loop-preserved c =
    rw (c.end_of-next.ensures, c.as_slice.ensures, c.in_ok-push.ensures.items, c.in_ok-term.ensures.same) (goes_on (term_blocks c.args.docs) (behind_term) c.loop.terms.items c.args.count c.loop.counter (record { before = c.loop.before.now; at = c.loop.next }) c.loop.rest.now c.in_ok-term.term c.in_ok-term.after.now (repeat (term_blocks c.args.docs) (behind_term) c.args.count (record { before = []; at = c.args.at }) c.args.bytes.now) c.loop-test.true c.in_ok-term.ensures.read c.loop.invariant)

pub returns : goal.returns
returns c = is_done (term_blocks c.args.docs) (behind_term) c.loop.terms.items c.args.count c.loop.counter (record { before = c.loop.before.now; at = c.loop.next }) c.loop.rest.now (repeat (term_blocks c.args.docs) (behind_term) c.args.count (record { before = []; at = c.args.at }) c.args.bytes.now) c.loop-test.false c.loop.invariant
