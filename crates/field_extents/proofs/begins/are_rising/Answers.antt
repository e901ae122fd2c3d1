use Rattle.std.proofs.Common.{rules}
use Rattle.std.proofs.lemmas.List.Sorted.{answers_always}
use Rattle.field_extents.proofs.RisingLemmas.{rises, rising_answer}
use Rattle.field_extents.proofs.begins.are_rising.Goals as goal

pub returns : goal.returns
returns c = rising_answer c.args.xs.now c.is_sorted_by.result (c.is_sorted_by.ensures.cases rises (answers_always _ _ _ (λ f a r g t. search rules)))
