use Rattle.std.proofs.Common.{None}
use Rattle.disk_index.specs.Parts.{InMemory}
use Rattle.range_masks.proofs.NextLemmas.{IsNext-forward, IsPassed-term}
use Rattle.range_masks.proofs.sealed.SealedTermMasks.next_term_range.Goals as goal

pub returns-clause-forward : goal.returns-clause-forward
returns-clause-forward c = IsNext-forward _ _ _ c.next_in_memory.ensures

pub returns-clause-passed : goal.returns-clause-passed
returns-clause-passed c = λ sound. IsPassed-term None (InMemory c.args.self.now) c.args.term.now c.args.from _ tt c.next_in_memory.ensures
