use Rattle.std.proofs.Common.{◌<◌, ◌++◌, ◌∷◌, ◌∙◌, [], Bool, List, ℕ, ap, arith, cond, length, take}
use Rattle.std.proofs.lemmas.List.{take_all}
use Rattle.repository.specs.Entries.{marked_from}
use Rattle.repository.proofs.ListedLemmas.{marked-more}
use Rattle.repository.proofs.listing.marked.Goals as goal

pub loop-id-preserved : goal.loop-id-preserved
loop-id-preserved c =
    let i = c.loop-id.id in
    let within : i < length c.args.marks.now = omega (arith, c.loop-id-test.true, c.len-id-end.ensures) in
    c.in_ok-note.ensures ∙ ap (λ (l : List ℕ). l ++ cond c.is_marked.result (i ∷ []) []) c.loop-id.invariant
    ∙ ap (λ (b : Bool). marked_from 0 (take i c.args.marks.now) ++ cond b (i ∷ []) []) c.is_marked.ensures ∙ marked-more c.args.marks.now i within

pub returns : goal.returns
returns c =
    c.loop-id.invariant ∙ ap (marked_from 0) (take_all c.loop-id.id c.args.marks.now (omega (arith, c.loop-id-test.false, c.len-id-end.ensures)))
