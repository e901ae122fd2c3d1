use Rattle.std.proofs.Common.{◌≡◌, sum_by, take}
use Rattle.ri_base.proofs.InversionLemmas.{held_tokens}
use Rattle.ri_base.proofs.sealed.Sealed.token_count.Given as goal

abbrev pub invariant-loop-held : goal.invariant-loop-held
invariant-loop-held l = l.count ≡ sum_by held_tokens (take l.held-index l.held-items)
