use Rattle.std.proofs.Common.{◌≡◌}
use Rattle.std.specs.List.{flat_map}
use Rattle.tokens.specs.Fields.{with_fields}
use Rattle.tokens.specs.Open.{closings, named}
use Rattle.tokens.proofs.open_fields.OpenFields.close_all.Given as goal

-- what the fields so far become with those of the names that are left
abbrev pub invariant-loop-name : goal.invariant-loop-name
invariant-loop-name l = with_fields l.fields (flat_map (λ e. named l.end e.0 e.1.items) l.name-iterator) ≡ with_fields l.fn.fields (closings l.end l.fn.self)
