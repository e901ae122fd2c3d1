use Rattle.std.proofs.Common.{◌≡◌, ◌++◌, ◌∷◌, [], drop, length}
use Rattle.std.specs.List.{flat_map}
use Rattle.manifest.specs.Spelling.{spelled_prior}
use Rattle.manifest.proofs.writing.put_priors.Given as goal

abbrev pub invariant-loop-prior : goal.invariant-loop-prior
invariant-loop-prior l = l.out.items ++ flat_map spelled_prior (drop l.prior-index l.priors) ≡ (l.fn.out.items ++ (length l.priors ∷ [])) ++ flat_map spelled_prior l.priors
