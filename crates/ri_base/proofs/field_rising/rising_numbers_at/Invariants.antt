use Rattle.std.proofs.Common.{◌≡◌, ◌-◌, ◌+◌}
use Rattle.ri_base.specs.Reading.{repeat}
use Rattle.ri_base.specs.Fields.{number_between}
use Rattle.ri_base.proofs.Loops.{with_front}
use Rattle.ri_base.proofs.field_rising.rising_numbers_at.Given as goal

abbrev pub invariant-loop : goal.invariant-loop
invariant-loop l = with_front l.numbers.items (repeat (number_between l.top) (λ _ n. n + 1) (l.count - l.counter) l.low l.rest) ≡ repeat (number_between l.top) (λ _ n. n + 1) l.count 0 l.bytes
