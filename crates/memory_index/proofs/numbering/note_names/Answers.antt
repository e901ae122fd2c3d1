use Rattle.std.proofs.Common.{◌≡◌, ◌+◌, [], ◌∷◌, ◌++◌, take, sym, ◌∙◌, ap}
use Rattle.std.proofs.lemmas.List.{take_more}
use Rattle.memory_index.proofs.NamesLemmas.{AreNoted-more}
use Rattle.memory_index.proofs.numbering.note_names.Goals as goal

pub loop-name-preserved : goal.loop-name-preserved
loop-name-preserved c =
    let i = c.loop-name.name-index in
    let more = c.args.more.now in
    let name = c.name-item.result in
    let e : take (i + 1) more ≡ take i more ++ name ∷ [] = take_more more i name c.loop-name-test.true ∙ ap (λ x. take i more ++ x ∷ []) (sym c.name-item.is) in
    rw e (AreNoted-more _ _ _ _ name c.loop-name.invariant c.in_ok-note_name.ensures.keys)
