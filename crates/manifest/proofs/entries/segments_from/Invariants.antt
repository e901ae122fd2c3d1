use Rattle.std.proofs.Common.{◌≡◌, ◌-◌, []}
use Rattle.ri_base.specs.Reading.{repeat}
use Rattle.manifest.specs.Entries.{segment, with_number, with_numbers}
use Rattle.manifest.specs.Files.{numbers_of}
use Rattle.ri_base.proofs.Loops.{with_front}
use Rattle.manifest.proofs.entries.segments_from.Given as goal

abbrev pub invariant-loop : goal.invariant-loop
invariant-loop l = record {
  read : with_front l.segments.items (repeat (segment l.next) (λ used e. with_number used e.number) (l.count - l.counter) l.used.keys l.rest) ≡ repeat (segment l.next) (λ used e. with_number used e.number) l.count [] l.bytes;
  used : l.used.keys ≡ with_numbers [] (numbers_of l.segments.items);
}
