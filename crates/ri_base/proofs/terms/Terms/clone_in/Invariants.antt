use Rattle.std.proofs.Common.{◌≡◌, ◌++◌, drop}
use Rattle.ri_base.proofs.terms.Terms.clone_in.Given as goal

abbrev pub invariant-loop-term : goal.invariant-loop-term
invariant-loop-term l = l.terms ++ drop l.term-index l.term-items ≡ l.fn.self
