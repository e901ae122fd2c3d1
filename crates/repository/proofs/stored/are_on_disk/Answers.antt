use Rattle.std.proofs.Common.{◌++◌, ◌∷◌, ◌∙◌, [], ap, arith, rules, subst, sym, take}
use Rattle.std.specs.List.{All}
use Rattle.std.proofs.lemmas.List.{take_all, take_more}
use Rattle.std.proofs.lemmas.List.Elements.{All-push}
use Rattle.disk_index.specs.Snapshots.{Marked}
use Rattle.repository.proofs.ListedLemmas.{IsStored}
use Rattle.repository.proofs.stored.are_on_disk.Goals as goal

pub loop-part-preserved : goal.loop-part-preserved
loop-part-preserved c =
    let i = c.loop-part.part-index in
    let m = c.part-item.result in
    let more = take_more c.args.parts.now i m c.loop-part-test.true ∙ ap (λ (x : Marked). take i c.args.parts.now ++ x ∷ []) (sym c.part-item.is) in
    subst (All IsStored) (sym more) (All-push IsStored (take i c.args.parts.now) m c.loop-part.invariant (c.is_on_disk.ensures.yes (search rules)))

pub returns-clause-yes : goal.returns-clause-yes
returns-clause-yes c = λ _. subst (All IsStored) (take_all c.loop-part.part-index c.args.parts.now (omega (arith, c.loop-part-test.false))) c.loop-part.invariant
