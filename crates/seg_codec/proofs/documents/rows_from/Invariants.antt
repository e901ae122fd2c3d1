use Rattle.std.proofs.Common.{◌≡◌, ◌-◌}
use Rattle.ri_base.specs.Reading.{repeat}
use Rattle.seg_codec.specs.Documents.{row, first_row}
use Rattle.ri_base.proofs.Loops.{with_front}
use Rattle.seg_codec.proofs.documents.rows_from.Given as goal

abbrev pub invariant-loop : goal.invariant-loop
invariant-loop l = with_front l.rows.items (repeat (row l.names l.tokens) (λ _ r. r) (l.count - l.counter) l.before l.rest) ≡ repeat (row l.names l.tokens) (λ _ r. r) l.count first_row l.bytes
