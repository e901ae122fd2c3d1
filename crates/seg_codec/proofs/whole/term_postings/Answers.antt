use Rattle.std.proofs.Common.{◌++◌, List, Ok, get_or, sym, ap, ◌∙◌}
use Rattle.std.proofs.lemmas.Result.{err_from_is_err_and}
use Rattle.ri_base.specs.declared.places.Place.{Place}
use Rattle.seg_codec.specs.Whole.{block_in, block_postings, term_postings}
use Rattle.seg_codec.specs.declared.blocks.Block.{Block}
use Rattle.seg_codec.specs.declared.blocks.BlockEntry.{BlockEntry}
use Rattle.seg_codec.proofs.WholeLemmas.{fault_passes, term_ends, term_goes_on, term_is_done}
use Rattle.seg_codec.proofs.whole.term_postings.Goals as goal

pub returns-in_err-found : goal.returns-in_err-found
returns-in_err-found c =
    let bytes = c.args.bytes.now in
    let docs = c.args.documents.now in
    let bs = c.args.blocks.now in
    let p = err_from_is_err_and c.from_residual.result c.from_residual.ensures.1 in
    rw (p.1, p.2) (fault_passes (λ (v : Block). v.entries) (λ (v : List Place). v) c.in_err-found.field-0.0 c.args.file (block_in bytes docs (get_or bs c.loop-block.block-index _)) (term_postings bytes docs bs)
    (λ f e. term_ends bytes docs bs c.loop-block.block-index _ c.loop-block.postings.items (term_postings bytes docs bs) f c.loop-block-test.true e c.loop-block.invariant) c.in_err-found.ensures)

pub loop-block-preserved : goal.loop-block-preserved
loop-block-preserved c =
    term_goes_on c.args.bytes.now c.args.documents.now c.args.blocks.now c.loop-block.block-index _ c.in_ok-found.found.entries c.loop-block.postings.items _ (term_postings c.args.bytes.now c.args.documents.now c.args.blocks.now)
    c.loop-block-test.true c.in_ok-found.ensures (c.in_ok-put_postings.ensures ∙ ap (λ (xs : List BlockEntry). c.loop-block.postings.items ++ block_postings xs) c.as_slice.ensures) c.loop-block.invariant

pub returns : goal.returns
returns c = term_is_done c.args.bytes.now c.args.documents.now c.args.blocks.now c.loop-block.block-index c.loop-block.postings.items (term_postings c.args.bytes.now c.args.documents.now c.args.blocks.now) c.loop-block-test.false c.loop-block.invariant ∙ ap Ok (sym c.of.ensures)
