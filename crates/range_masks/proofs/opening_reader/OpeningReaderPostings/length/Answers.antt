use Rattle.std.proofs.Common.{◌<◌, subst}
use Rattle.disk_index.specs.Parts.{source_of}
use Rattle.disk_index.proofs.RebuiltLemmas.{reads-length}
use Rattle.range_masks.proofs.opening_reader.OpeningReaderPostings.length.Goals as goal

pub length-requires : goal.length-requires
length-requires g c = subst (λ n. c.args.id < n) (reads-length (g.T.Store.files c.args.self.now.store.now) (source_of c.args.self.now.part.now)) c.requires
