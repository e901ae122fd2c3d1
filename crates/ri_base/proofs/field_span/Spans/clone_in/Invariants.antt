use Rattle.std.proofs.Common.{◌≡◌, ◌++◌, drop}
use Rattle.ri_base.proofs.field_span.Spans.clone_in.Given as goal

abbrev pub invariant-loop-span : goal.invariant-loop-span
invariant-loop-span l = l.spans ++ drop l.span-index l.span-items ≡ l.fn.self
