use Rattle.std.proofs.Common.{List, drop, length, ap, arith, ◌∙◌}
use Rattle.std.specs.Prelude.{sum_by}
use Rattle.seg_codec.specs.declared.documents.Entry.{Entry}
use Rattle.repository.specs.Places.{bytes_of}
use Rattle.repository.proofs.PlaceLemmas.{place_at}
use Rattle.repository.proofs.docno_place.place_within.Goals as goal

pub bytes_before-before-requires : goal.bytes_before-before-requires
bytes_before-before-requires c =
    let at = place_at c.args.documents.now c.args.id in
    let behind = ap (sum_by bytes_of) (c.from_id.ensures ∙ ap (λ (es : List Entry). drop c.args.id es) c.as_slice.ensures.same) in
    omega (arith, at, behind, ap length c.requires)

pub returns : goal.returns
returns c =
    let at = place_at c.args.documents.now c.args.id in
    let behind = ap (sum_by bytes_of) (c.from_id.ensures ∙ ap (λ (es : List Entry). drop c.args.id es) c.as_slice.ensures.same) in
    omega (arith, at, behind, ap length c.requires, c.bytes_before-before.ensures)
