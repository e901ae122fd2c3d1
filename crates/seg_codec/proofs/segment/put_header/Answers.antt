use Rattle.std.proofs.Common.{◌++◌, refl}
use Rattle.std.specs.Int.{w32, w64, to_le_bytes}
use Rattle.std.proofs.lemmas.Result.{on_ok_weaker}
use Rattle.seg_codec.specs.Headers.{magic}
use Rattle.seg_codec.proofs.Appends.{four}
use Rattle.seg_codec.proofs.segment.put_header.Goals as goal

pub returns : goal.returns
returns c =
    let h = c.args.header in
    on_ok_weaker c.put_header_places.result (λ e.
    four _ _ _ _ _ magic (to_le_bytes w32 1) (to_le_bytes w32 h.docs ++ (to_le_bytes w64 h.tokens ++ (to_le_bytes w32 h.terms ++ to_le_bytes w32 h.names)))
    (to_le_bytes w64 h.documents_at ++ (to_le_bytes w64 h.dictionary_at ++ (to_le_bytes w64 h.blocks_at ++ to_le_bytes w64 h.length)))
    _ _ _ _ c.as_slice.ensures refl refl refl c.in_ok-extend_from_slice.ensures.items c.in_ok-put_u32.ensures c.in_ok-put_counts.ensures e) c.put_header_places.ensures
