use Rattle.std.proofs.Common.{◌≡◌, length, refl, arith}
use Rattle.std.proofs.lemmas.Result.{on_ok_weaker}
use Rattle.seg_codec.proofs.Appends.{term_bytes}
use Rattle.seg_codec.specs.Segment.{cut, range_of}
use Rattle.seg_codec.proofs.writing.put_term_blocks.Goals as goal

pub returns-clause-dictionary : goal.returns-clause-dictionary
returns-clause-dictionary c =
    let count : c.in-Ok.count ≡ length (cut range_of c.args.postings.now) = omega arith in
    on_ok_weaker c.put_blocks.result (λ e. term_bytes _ _ _ _ c.args.term.now _ _ c.in-Ok.count c.args.place c.args.postings.now
    refl refl c.in_ok-put_term.ensures.written c.in_ok-put_u32.ensures count e) c.put_blocks.ensures.dictionary
