use Rattle.std.proofs.Common.{◌≡◌, ◌+◌, map}
use Rattle.std.specs.List.{range_with_len}
use Rattle.generated_events.specs.Documents.{word}
use Rattle.generated_events.proofs.documents.words_of.Given as goal

-- the words up to this place
abbrev pub invariant-loop-place : goal.invariant-loop-place
invariant-loop-place l = l.words ≡ map (λ j. word (l.fn.number + j)) (range_with_len 0 l.place)
