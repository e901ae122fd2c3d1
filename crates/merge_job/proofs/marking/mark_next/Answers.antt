use Rattle.std.proofs.Common.{◌∙◌, ap, sym, map, List, Bool, true, length, [], ◌∷◌}
use Rattle.merge_job.specs.declared.merged.MergedPart.{MergedPart}
use Rattle.merge_job.specs.Marking.{before, lengths, marked_from, together}
use Rattle.merge_job.proofs.MarkLemmas.{together-set, lengths-set, IsPlace-next}
use Rattle.merge_job.proofs.marking.mark_next.Goals as goal
use Rattle.merge_job.proofs.marking.mark_next.Goals.{then-marked, else-marked}

pub returns-clause-marks : goal.returns-clause-marks
returns-clause-marks c =
    let f : MergedPart → List Bool = λ p. p.marks in
    let ms = map f c.args.parts.now in
    let at = c.args.place.now in
    elim c.if-marked.branch [
      | then-marked w ↦
          ap (λ ps. together (map f ps)) w.parts-is ∙ ap together w.mark_at.ensures.marks ∙ together-set ms c.go_on.new.place.part c.go_on.new.place.id c.go_on.ensures.within
          ∙ ap (λ n. marked_from (together ms) n (true ∷ [])) c.go_on.ensures.same ∙ ap (λ b. marked_from (together ms) (before ms at.part at.id) (b ∷ [])) (sym w.if-marked.true)
      | else-marked w ↦
          ap (λ ps. together (map f ps)) w.parts-is ∙ ap (λ b. marked_from (together ms) (before ms at.part at.id) (b ∷ [])) (sym w.if-marked.false)
    ]

pub returns-clause-lengths : goal.returns-clause-lengths
returns-clause-lengths c =
    let f : MergedPart → List Bool = λ p. p.marks in
    let ms = map f c.args.parts.now in
    elim c.if-marked.branch [
      | then-marked w ↦
          ap (λ ps. lengths (map f ps)) w.parts-is ∙ ap (map (λ (m : List Bool). length m)) w.mark_at.ensures.marks ∙ lengths-set ms c.go_on.new.place.part c.go_on.new.place.id
      | else-marked w ↦ ap (λ ps. lengths (map f ps)) w.parts-is
    ]

pub returns-clause-place : goal.returns-clause-place
returns-clause-place c =
    let f : MergedPart → List Bool = λ p. p.marks in
    let ms = map f c.args.parts.now in
    IsPlace-next (map f c.if-marked.parts) ms c.go_on.new.place.part c.go_on.new.place.id (returns-clause-lengths c) c.requires.place.some c.go_on.ensures.within
