use Rattle.std.proofs.Common.{◌≡◌, drop}
use Rattle.tokens.specs.Fields.{with_fields}
use Rattle.tokens.specs.Open.{named}
use Rattle.tokens.proofs.open_fields.insert_named.Given as goal

-- what the fields so far become with those of the places that are left
abbrev pub invariant-loop-begin : goal.invariant-loop-begin
invariant-loop-begin l = with_fields l.fields (named l.end l.name (drop l.begin-index l.begins)) ≡ with_fields l.fn.fields (named l.end l.name l.begins)
