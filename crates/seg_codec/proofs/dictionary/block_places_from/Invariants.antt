use Rattle.std.proofs.Common.{◌≡◌, ◌-◌}
use Rattle.ri_base.specs.Reading.{repeat}
use Rattle.seg_codec.specs.Dictionary.{block_place, behind}
use Rattle.ri_base.proofs.Loops.{with_front}
use Rattle.seg_codec.proofs.dictionary.block_places_from.Given as goal

abbrev pub invariant-loop : goal.invariant-loop
invariant-loop l = with_front l.places.items (repeat (block_place l.docs) (λ _ b. behind b) (l.count - l.counter) (record { low = l.low; at = l.next }) l.rest) ≡ repeat (block_place l.docs) (λ _ b. behind b) l.count (record { low = 0; at = l.at }) l.bytes
