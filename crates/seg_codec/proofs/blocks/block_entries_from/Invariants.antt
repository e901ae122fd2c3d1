use Rattle.std.proofs.Common.{◌≡◌, ◌-◌, ◌+◌}
use Rattle.ri_base.specs.Reading.{repeat}
use Rattle.seg_codec.specs.Blocks.{block_entry}
use Rattle.ri_base.proofs.Loops.{with_front}
use Rattle.seg_codec.proofs.blocks.block_entries_from.Given as goal

abbrev pub invariant-loop : goal.invariant-loop
invariant-loop l = with_front l.entries.items (repeat (block_entry l.docs l.range) (λ _ e. e.id + 1) (l.count - l.counter) l.low l.rest) ≡ repeat (block_entry l.docs l.range) (λ _ e. e.id + 1) l.count 0 l.bytes
