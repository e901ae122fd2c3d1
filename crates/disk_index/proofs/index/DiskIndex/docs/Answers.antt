use Rattle.std.proofs.Common.{◌≡◌, length, sym, ap, ◌∙◌}
use Rattle.disk_index.specs.Kept.{Kept}
use Rattle.disk_index.proofs.RebuiltLemmas.{rebuilt-length}
use Rattle.disk_index.proofs.index.DiskIndex.docs.Goals as goal

pub returns-clause-documents : goal.returns-clause-documents
returns-clause-documents c = λ file.
    let size : length c.as_slice.result.now ≡ length c.args.self.now.outlines = ap length (c.as_slice.ensures.same ∙ ap (λ (k : Kept). k.outlines) c.self.view_is) in
    size ∙ sym (rebuilt-length c.args.self.now file)
