use Rattle.std.proofs.Common.{◌≡◌, ◌∙◌, ◌+◌, ◌++◌, [], ◌∷◌, map, sym, ap}
use Rattle.std.specs.List.{range_with_len}
use Rattle.generated_events.specs.Documents.{word}
use Rattle.generated_events.proofs.DocnoLemmas.{words_more}
use Rattle.generated_events.proofs.documents.words_of.Goals as goal

pub loop-place-preserved : goal.loop-place-preserved
loop-place-preserved c =
    let sum : c.from.result + c.from-in-loop-place.result ≡ c.args.number + c.loop-place.place = λ i. c.from.ensures i + c.from-in-loop-place.ensures i in
    c.in_ok-push.ensures.ok ∙ ap (λ ws. ws ++ c.in_ok-word.field-0 ∷ []) c.loop-place.invariant
    ∙ ap (λ w. map (λ j. word (c.args.number + j)) (range_with_len 0 c.loop-place.place) ++ w ∷ []) (c.in_ok-word.ensures ∙ ap word sum) ∙ sym (words_more c.args.number c.loop-place.place)
