use Rattle.std.proofs.Common.{◌≡◌, ◌-◌, [], map}
use Rattle.ri_base.specs.Reading.{repeat}
use Rattle.manifest.specs.Priors.{row, row_of}
use Rattle.ri_base.proofs.Loops.{with_front}
use Rattle.manifest.proofs.prior_reading.rows_from.Given as goal

abbrev pub invariant-loop : goal.invariant-loop
invariant-loop l = with_front (map row_of l.rows.items) (repeat row (λ _ r. r.docno) (l.count - l.counter) l.before l.rest) ≡ repeat row (λ _ r. r.docno) l.count [] l.bytes
