use Rattle.std.proofs.Common.{◌∙◌, None}
use Rattle.disk_index.specs.Parts.{source_of}
use Rattle.holdings.proofs.PlacingLemmas.{docno-in}
use Rattle.holdings.proofs.placing.docno_of.Goals as goal

pub returns : goal.returns
returns c = c.docno.ensures None ∙ docno-in (source_of c.args.part.now) c.args.id c.requires
