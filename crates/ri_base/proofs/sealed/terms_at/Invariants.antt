use Rattle.std.proofs.Common.{◌≡◌, [], map, get_or, take}
use Rattle.ri_base.specs.Inversion.{by_number}
use Rattle.ri_base.proofs.sealed.terms_at.Given as goal

abbrev pub invariant-loop-n : goal.invariant-loop-n
invariant-loop-n l = l.terms.items ≡ map (λ n. get_or (by_number l.vocabulary l.ranks) n []) (take l.n-index l.numbers)
