use Rattle.std.proofs.Common.{sym, subst, List, [], ◌∷◌}
use Rattle.std.proofs.lemmas.List.{map-append}
use Rattle.memory_index.specs.Kept.{Index}
use Rattle.ri_base.specs.Documents.{Document}
use Rattle.merge_job.specs.Cut.{AreCopies}
use Rattle.merge_job.specs.NewParts.{docs_in}
use Rattle.merge_job.specs.declared.merged.MergedPart.{MergedPart}
use Rattle.merge_job.proofs.CutLemmas.{AreCopies-cut, AreCopies-fill}
use Rattle.merge_job.proofs.copied.place.Goals as goal

pub returns-then-takes-clause-cut : goal.returns-then-takes-clause-cut
returns-then-takes-clause-cut c =
    let ps = docs_in c.args.parts.now.items in
    subst (λ (m : Index). AreCopies c.args.most ps m.documents) (sym c.in_ok-fill.ensures.put) (AreCopies-fill c.args.most ps c.args.filling.now.documents c.args.doc.now c.requires.cut (c.takes.ensures.yes c.if-takes.true))

pub returns-clause-cut : goal.returns-clause-cut
returns-clause-cut c =
    let ps = docs_in c.args.parts.now.items in
    subst (λ (m : Index). AreCopies c.args.most (docs_in c.cut.new.parts.items) m.documents) (sym c.in_ok-cut.ensures.begun)
    (subst (λ (l : List MergedPart). AreCopies c.args.most (docs_in l) (c.args.doc.now ∷ [])) (sym c.in_ok-cut.ensures.closed)
    (subst (λ (ds : List (List Document)). AreCopies c.args.most ds (c.args.doc.now ∷ [])) (sym (map-append (λ (p : MergedPart). p.docs) c.args.parts.now.items _))
    (AreCopies-cut c.args.most ps c.args.filling.now.documents c.args.doc.now c.requires.cut (c.takes.ensures.no c.if-takes.false) c.in_ok-cut.ensures.named)))
