use Rattle.std.proofs.Common.{◌≡◌, ◌++◌, ◌∷◌, [], cond, get_or, take, arith, sym, ◌∙◌, ap}
use Rattle.std.specs.Str.{bytes_eq}
use Rattle.std.proofs.lemmas.List.{get_or_default}
use Rattle.ri_base.specs.Places.{places_from}
use Rattle.lone_document.proofs.KnownLemmas.{places_more}
use Rattle.lone_document.proofs.lone_document.places_among.Goals as goal

pub loop-token-preserved : goal.loop-token-preserved
loop-token-preserved c =
    let t = c.args.term.now in
    let xs = c.args.tokens.now in
    let i = c.loop-token.token-index in
    let before = places_from 0 t (take i xs) in
    let here : c.eq.result ≡ bytes_eq (get_or xs i []) t = c.eq.ensures ∙ ap (λ y. bytes_eq y t) (c.token-item.is ∙ get_or_default xs i c.token-item.result [] c.loop-token-test.true) in
    record {
      at_is = omega (arith, c.loop-token.invariant.at_is);
      places_are = c.in_ok-note_place.ensures ∙ ap (λ l. l ++ cond c.eq.result (c.loop-token.at ∷ []) []) c.loop-token.invariant.places_are
          ∙ ap (λ n. before ++ cond c.eq.result (n ∷ []) []) c.loop-token.invariant.at_is ∙ ap (λ b. before ++ cond b (i ∷ []) []) here
          ∙ sym (places_more t xs i c.loop-token-test.true);
    }
