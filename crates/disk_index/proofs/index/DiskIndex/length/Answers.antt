use Rattle.std.proofs.Common.{sym, ap, ◌∙◌}
use Rattle.std.proofs.lemmas.List.{get_or-map}
use Rattle.seg_codec.specs.declared.documents.Entry.{Entry}
use Rattle.disk_index.proofs.RebuiltLemmas.{rebuilt-tokens}
use Rattle.disk_index.proofs.index.DiskIndex.length.Goals as goal

pub returns-clause-exact : goal.returns-clause-exact
returns-clause-exact c = λ file. ap (λ (e : Entry). e.tokens) c.entry.ensures.is ∙ sym (rebuilt-tokens c.args.self.now file c.args.id c.entry.result.now c.requires)

pub returns-clause-kept : goal.returns-clause-kept
returns-clause-kept c =
    ap (λ (e : Entry). e.tokens) c.entry.ensures.is ∙ sym (get_or-map (λ (e : Entry). e.tokens) c.args.self.now.outlines c.args.id c.entry.result.now 0 c.requires)
