use Rattle.std.proofs.Common.{◌≡◌, [], get_or, sym, ap, ◌∙◌}
use Rattle.std.proofs.lemmas.Map.Lookups.{exact_bytes}
use Rattle.seg_codec.specs.Spelling.{number_of}
use Rattle.seg_codec.proofs.DocumentLaws.{number_of-place}
use Rattle.seg_codec.proofs.NameLemmas.{number_of-absent}
use Rattle.seg_codec.proofs.segment.number_of.Goals as goal

pub returns-in-Ok : goal.returns-in-Ok
returns-in-Ok c =
    let found : get_or c.args.names.now c.in-Ok.number [] ≡ c.args.name.now = exact_bytes _ _ (c.in-Ok.ensures.ok []) in
    sym (ap (number_of c.args.names.now) (sym found) ∙ number_of-place c.args.names.now c.in-Ok.number c.requires c.in-Ok.ensures.bound)

pub returns-in-Err : goal.returns-in-Err
returns-in-Err c = sym (number_of-absent c.args.names.now c.args.name.now c.in-Err.field-0 c.requires c.in-Err.ensures.position)
