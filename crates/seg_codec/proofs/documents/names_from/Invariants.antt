use Rattle.std.proofs.Common.{◌≡◌, ◌-◌, []}
use Rattle.ri_base.specs.Reading.{repeat}
use Rattle.ri_base.specs.Fields.{name_behind}
use Rattle.ri_base.proofs.Loops.{with_front}
use Rattle.seg_codec.proofs.documents.names_from.Given as goal

abbrev pub invariant-loop : goal.invariant-loop
invariant-loop l = with_front l.names.items (repeat (name_behind) (λ _ x. x) (l.count - l.counter) l.before l.rest) ≡ repeat (name_behind) (λ _ x. x) l.count [] l.bytes
