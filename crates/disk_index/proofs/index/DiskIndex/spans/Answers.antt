use Rattle.std.proofs.Common.{List, sym, ap, subst, ◌∙◌}
use Rattle.ri_base.specs.Collection.{document_at}
use Rattle.ri_base.specs.Documents.{Field, IsDocument}
use Rattle.seg_codec.specs.declared.documents.Entry.{Entry}
use Rattle.disk_index.specs.Kept.{IsOutline}
use Rattle.disk_index.specs.Reads.{rebuilt}
use Rattle.disk_index.proofs.RebuiltLemmas.{rebuilt-fields, rebuilt-form}
use Rattle.disk_index.proofs.index.DiskIndex.spans.Goals as goal

pub returns-clause-exact : goal.returns-clause-exact
returns-clause-exact c = λ file. c.as_slice.ensures ∙ ap (λ (e : Entry). e.fields) c.entry.ensures.is ∙ sym (rebuilt-fields c.args.self.now file c.args.id c.entry.result.now c.requires)

pub returns-clause-form : goal.returns-clause-form
returns-clause-form c = λ file.
    let now = c.args.self.now in
    let id = c.args.id in
    let outline = subst IsOutline c.entry.ensures.is c.entry.ensures.kept in
    subst (λ (f : List Field). IsDocument (document_at (rebuilt now file) id).tokens f) (sym (c.as_slice.ensures ∙ ap (λ (e : Entry). e.fields) c.entry.ensures.is))
    (rebuilt-form now file id c.entry.result.now c.requires outline)
