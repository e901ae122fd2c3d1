use Rattle.std.proofs.Common.{◌≡◌, ◌++◌, map}
use Rattle.tokens.specs.Keys.{field_of}
use Rattle.tokens.proofs.field_set.FieldSet.into_spans.Given as goal

-- the fields so far, and those that are left
abbrev pub invariant-loop-begin : goal.invariant-loop-begin
invariant-loop-begin l = l.spans.items ++ map field_of l.begin-iterator ≡ l.fn.self
