use Rattle.std.proofs.Common.{◌≡◌, ◌-◌}
use Rattle.ri_base.specs.Reading.{repeat}
use Rattle.manifest.specs.Entries.{behind, stale_number, with_numbers}
use Rattle.ri_base.proofs.Loops.{with_front}
use Rattle.manifest.proofs.entries.stale_from.Given as goal

abbrev pub invariant-loop : goal.invariant-loop
invariant-loop l = record {
  read : with_front l.stale.items (repeat (stale_number l.next) behind (l.count - l.counter) (record { low = l.low; used = l.used.keys }) l.rest) ≡ repeat (stale_number l.next) behind l.count (record { low = 0; used = l.fn.before.keys }) l.bytes;
  used : l.used.keys ≡ with_numbers l.fn.before.keys l.stale.items;
}
