use Rattle.std.proofs.Common.{◌∙◌, ◌<◌, ap, sym, arith, set, length, List, Bool, true, map, refl}
use Rattle.std.proofs.lemmas.List.{get_or-map, length-map, map-set}
use Rattle.merge_job.specs.declared.merged.MergedPart.{MergedPart}
use Rattle.merge_job.proofs.MarkLemmas.{map-same, part-within}
use Rattle.merge_job.proofs.marking.mark_at.Goals as goal

pub returns-clause-marks : goal.returns-clause-marks
returns-clause-marks c =
    let f : MergedPart → List Bool = λ p. p.marks in
    let ps = c.args.parts.now in
    let within : c.args.part < length ps = (let w = part-within (map f ps) c.args.part c.args.id c.requires in let n = length-map ps f in omega (arith, w, n)) in
    map-set f ps c.args.part _ ∙ ap (set (map f ps) c.args.part) (c.mark.ensures.marks ∙ ap (λ l. set l c.args.id true) (sym (get_or-map f ps c.args.part _ _ within)))

pub returns-clause-docs : goal.returns-clause-docs
returns-clause-docs c =
    let f : MergedPart → List Bool = λ p. p.marks in
    let ps = c.args.parts.now in
    let within : c.args.part < length ps = (let w = part-within (map f ps) c.args.part c.args.id c.requires in let n = length-map ps f in omega (arith, w, n)) in
    map-same _ ps c.args.part c.index-parts-part.result _ within refl
