use Rattle.std.proofs.Common.{◌≡◌, ◌++◌, drop}
use Rattle.std.specs.Option.{option_map}
use Rattle.disk_index.specs.Rebuild.{all_terms}
use Rattle.disk_index.proofs.rebuild.all_terms.Given as goal

abbrev pub invariant-loop-slot : goal.invariant-loop-slot
invariant-loop-slot l = option_map (λ ts. l.terms ++ ts) (all_terms l.dictionary (drop l.slot-index l.slots)) ≡ all_terms l.dictionary l.slots
