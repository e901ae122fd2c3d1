use Rattle.std.proofs.Common.{◌≡◌, ◌+◌, ◌++◌, ◌∷◌, [], List, ℕ, length, take, arith, sym, ◌∙◌, ap, subst}
use Rattle.std.proofs.lemmas.List.{length-take-le, take_more}
use Rattle.lone_document.specs.Known.{AreKnown}
use Rattle.lone_document.proofs.known.Known.of.Goals as goal

pub loop-token-preserved : goal.loop-token-preserved
loop-token-preserved c =
    let xs = c.args.tokens.now in
    let i = c.loop-token.token-index in
    let x = c.token-item.result in
    let one_more : take (i + 1) xs ≡ take i xs ++ x ∷ [] = take_more xs i x c.loop-token-test.true ∙ ap (λ y. take i xs ++ y ∷ []) (sym c.token-item.is) in
    let count : c.loop-token.at ≡ length (take i xs) = omega (arith, c.loop-token.invariant.at_is, length-take-le i xs) in
    record {
      at_is = omega (arith, c.loop-token.invariant.at_is);
      known = subst (λ (l : List (List ℕ)). AreKnown c.note.new.self l) (sym one_more) (c.in_ok-note.ensures (take i xs) count c.loop-token.invariant.known);
    }
