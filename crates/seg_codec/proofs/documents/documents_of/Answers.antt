use Rattle.std.proofs.Common.{arith}
use Rattle.seg_codec.proofs.DocumentLaws.{documents_counted}
use Rattle.seg_codec.proofs.documents.documents_of.Goals as goal

pub of-requires : goal.of-requires
of-requires c = documents_counted c.args.header.now c.args.bytes.now c.in-Ok.entries.items (record { small = λ i. omega (arith, c.type_inv.bytes i) }) c.in-Ok.ensures
