use Rattle.std.proofs.Common.{◌≡◌, take}
use Rattle.ri_base.specs.Inversion.{by_number}
use Rattle.seg_codec.proofs.held.terms_at.Given as goal

abbrev pub invariant-loop-rank : goal.invariant-loop-rank
invariant-loop-rank l = l.found.items ≡ by_number l.terms (take l.rank-index l.ranks)
