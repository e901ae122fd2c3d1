use Rattle.std.proofs.Common.{sym, ap, ◌∙◌}
use Rattle.seg_codec.specs.declared.documents.Entry.{Entry}
use Rattle.disk_index.proofs.RebuiltLemmas.{rebuilt-docno}
use Rattle.disk_index.proofs.index.DiskIndex.docno.Goals as goal

pub returns : goal.returns
returns c = λ file. ap (λ (e : Entry). e.docno) c.entry.ensures.is ∙ sym (rebuilt-docno c.args.self.now file c.args.id c.entry.result.now c.requires)
