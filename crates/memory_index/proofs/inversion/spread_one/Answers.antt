use Rattle.std.proofs.Common.{◌≡◌, ◌+◌, ◌<◌, List, [], ◌∷◌, ◌++◌, length, take, get_or, set, sym, ◌∙◌, ap, subst, arith}
use Rattle.std.proofs.lemmas.List.{get_or_default, take_more, length-take-le, length-map, map-append}
use Rattle.ri_base.specs.declared.places.Place.{Place}
use Rattle.memory_index.specs.Inverts.{ranks_at}
use Rattle.memory_index.proofs.SpreadLemmas.{AreSpread-more}
use Rattle.memory_index.proofs.inversion.spread_one.Goals as goal

pub loop-n-preserved : goal.loop-n-preserved
loop-n-preserved c =
    let i = c.loop-n.n-index in
    let ts = c.args.tokens.now in
    let rk = c.args.ranks.now in
    let r = get_or rk (get_or ts i 0) 0 in
    let e : ranks_at rk (take (i + 1) ts) ≡ ranks_at rk (take i ts) ++ r ∷ [] =
    ap (ranks_at rk) (take_more ts i 0 c.loop-n-test.true) ∙ map-append (λ n. get_or rk n 0) (take i ts) (get_or ts i 0 ∷ []) in
    let len : length (ranks_at rk (take i ts)) ≡ c.loop-n.at = omega (arith, length-map (take i ts) (λ n. get_or rk n 0), length-take-le i ts) in
    let below : r < length c.args.postings.now.items = c.requires.ranked (get_or ts i 0) 0 (c.requires.numbers i 0 c.loop-n-test.true) in
    let inside : r < length c.loop-n.postings.items = subst (λ n. r < n) (sym c.loop-n.invariant.spread.same_length) below in
    let here : c.index_mut.result.now ≡ get_or c.loop-n.postings.items r [] = c.index_mut.ensures.value ∙ get_or_default c.loop-n.postings.items r c.index_mut.result.now [] inside in
    let written : c.push.new.self ≡ get_or c.loop-n.postings.items r [] ++ record { id = c.args.id; at = c.loop-n.at } ∷ [] =
    c.in_ok-push.ensures.ok ∙ ap (λ (l : List Place). l ++ record { id = c.args.id; at = c.loop-n.at } ∷ []) here in
    record {
      at_is = omega arith;
      spread = rw e (AreSpread-more c.args.postings.now.items c.loop-n.postings.items _ c.args.id r (ranks_at rk (take i ts)) (record { id = c.args.id; at = c.loop-n.at })
          c.loop-n.invariant.spread below (ap (λ k. record { id = c.args.id; at = k }) (sym len)) (ap (set c.loop-n.postings.items r) written));
    }
