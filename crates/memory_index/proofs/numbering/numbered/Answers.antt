use Rattle.std.proofs.Common.{◌≡◌, ◌+◌, [], ◌∷◌, ◌++◌, take, sym, ◌∙◌, ap}
use Rattle.std.proofs.lemmas.List.{take_more}
use Rattle.memory_index.proofs.NumberingLemmas.{IsAdded, IsAdded-insert, IsNumbering-more}
use Rattle.memory_index.proofs.numbering.numbered.Goals as goal

pub loop-t-preserved : goal.loop-t-preserved
loop-t-preserved c =
    let i = c.loop-t.t-index in
    let ts = c.args.tokens.now in
    let t = c.t-item.result in
    let e : take (i + 1) ts ≡ take i ts ++ t ∷ [] = take_more ts i t c.loop-t-test.true ∙ ap (λ x. take i ts ++ x ∷ []) (sym c.t-item.is) in
    let a : IsAdded c.loop-t.terms.keys c.number_of.new.terms.keys t = rw c.in_ok-number_of.ensures.keys (IsAdded-insert c.loop-t.terms.keys t) in
    rw (e, c.in_ok-push.ensures.items) (IsNumbering-more _ _ _ _ _ _ _ c.loop-t.invariant a c.in_ok-number_of.ensures.stored)
