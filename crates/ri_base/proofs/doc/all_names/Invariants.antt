use Rattle.std.proofs.Common.{◌≡◌, map, take}
use Rattle.ri_base.specs.Documents.{Field}
use Rattle.ri_base.proofs.doc.all_names.Given as goal

abbrev pub invariant-loop-field : goal.invariant-loop-field
invariant-loop-field l = l.names.items ≡ map (λ (f : Field). f.name) (take l.field-index l.fields)
