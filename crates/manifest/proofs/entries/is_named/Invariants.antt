use Rattle.std.proofs.Common.{◌≡◌, drop, map}
use Rattle.std.specs.Bool.{nat_eq}
use Rattle.std.specs.Cmp.Lexicographic.{pointwise}
use Rattle.std.specs.List.{list_any}
use Rattle.manifest.proofs.entries.is_named.Given as goal

abbrev pub invariant-loop-p : goal.invariant-loop-p
invariant-loop-p l = list_any (pointwise nat_eq l.name) (map (λ p. p.name) (drop l.p-index l.priors)) ≡ list_any (pointwise nat_eq l.name) (map (λ p. p.name) l.priors)
