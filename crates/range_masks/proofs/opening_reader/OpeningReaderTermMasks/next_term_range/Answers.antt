use Rattle.disk_index.specs.Parts.{source_of}
use Rattle.range_masks.proofs.NextLemmas.{IsNext-forward, IsPassed-term}
use Rattle.range_masks.proofs.opening_reader.OpeningReaderTermMasks.next_term_range.Goals as goal

pub returns-clause-forward : goal.returns-clause-forward
returns-clause-forward g c = IsNext-forward _ _ _ c.next_with.ensures

pub returns-clause-passed : goal.returns-clause-passed
returns-clause-passed g c = λ sound. IsPassed-term _ (source_of c.args.self.now.part.now) c.args.term.now c.args.from _ sound.0 c.next_with.ensures
