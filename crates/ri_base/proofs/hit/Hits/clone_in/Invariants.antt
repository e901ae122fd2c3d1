use Rattle.std.proofs.Common.{◌≡◌, ◌++◌, drop}
use Rattle.ri_base.proofs.hit.Hits.clone_in.Given as goal

abbrev pub invariant-loop-hit : goal.invariant-loop-hit
invariant-loop-hit l = l.hits ++ drop l.hit-index l.hit-items ≡ l.fn.self
