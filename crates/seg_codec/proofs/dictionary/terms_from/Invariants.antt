use Rattle.std.proofs.Common.{◌≡◌, ◌-◌, []}
use Rattle.ri_base.specs.Reading.{repeat}
use Rattle.seg_codec.specs.Dictionary.{term_blocks, behind_term}
use Rattle.ri_base.proofs.Loops.{with_front}
use Rattle.seg_codec.proofs.dictionary.terms_from.Given as goal

abbrev pub invariant-loop : goal.invariant-loop
invariant-loop l = with_front l.terms.items (repeat (term_blocks l.docs) (behind_term) (l.count - l.counter) (record { before = l.before; at = l.next }) l.rest) ≡ repeat (term_blocks l.docs) (behind_term) l.count (record { before = []; at = l.at }) l.bytes
