use Rattle.std.proofs.Common.{List, sym, ap, ◌∙◌}
use Rattle.std.proofs.lemmas.Result.{err_from_is_err_and}
use Rattle.ri_base.specs.declared.places.Place.{Place}
use Rattle.seg_codec.specs.Whole.{all_postings, term_postings}
use Rattle.seg_codec.proofs.WholeLemmas.{all_are_done, all_end, all_go_on, fault_passes}
use Rattle.seg_codec.proofs.whole.all_postings.Goals as goal

pub returns-in_err-found : goal.returns-in_err-found
returns-in_err-found c =
    let bytes = c.args.bytes.now in
    let docs = c.args.documents.now in
    let ts = c.args.terms.now in
    let t = c.term-item.result in
    let p = err_from_is_err_and c.from_residual-in_err-found.result c.from_residual-in_err-found.ensures.1 in
    rw (p.1, p.2) (fault_passes (λ (v : List Place). v) (λ (v : List (List Place)). v) c.in_err-found.field-0.0 c.args.file (term_postings bytes docs c.as_slice.result.now) (all_postings bytes docs ts)
    (λ f e. all_end bytes docs ts c.loop-term.term-index t c.loop-term.postings (all_postings bytes docs ts) f c.loop-term-test.true c.term-item.is (ap (term_postings bytes docs) (sym c.as_slice.ensures) ∙ e) c.loop-term.invariant) c.in_err-found.ensures)

pub loop-term-preserved : goal.loop-term-preserved
loop-term-preserved c =
    all_go_on c.args.bytes.now c.args.documents.now c.args.terms.now c.loop-term.term-index c.term-item.result c.in_ok-found.found c.loop-term.postings _ (all_postings c.args.bytes.now c.args.documents.now c.args.terms.now)
    c.loop-term-test.true c.term-item.is (ap (term_postings c.args.bytes.now c.args.documents.now) (sym c.as_slice.ensures) ∙ c.in_ok-found.ensures) c.in_ok-push.ensures.ok c.loop-term.invariant

pub returns : goal.returns
returns c = all_are_done c.args.bytes.now c.args.documents.now c.args.terms.now c.loop-term.term-index c.loop-term.postings (all_postings c.args.bytes.now c.args.documents.now c.args.terms.now) c.loop-term-test.false c.loop-term.invariant
