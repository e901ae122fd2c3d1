use Rattle.std.proofs.Common.{ℕ, ◌≡◌, ◌-◌}
use Rattle.ri_base.specs.Reading.{repeat}
use Rattle.seg_codec.specs.Documents.{entry}
use Rattle.ri_base.proofs.Loops.{with_front}
use Rattle.seg_codec.proofs.documents.entries_from.Given as goal

abbrev pub invariant-loop : goal.invariant-loop
invariant-loop l = with_front l.entries.items (repeat (λ (_ : ℕ). entry l.names) (λ s _. s) (l.count - l.counter) 0 l.rest) ≡ repeat (λ (_ : ℕ). entry l.names) (λ s _. s) l.count 0 l.bytes
