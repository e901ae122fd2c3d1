use Rattle.std.proofs.Common.{◌≡◌, ◌+◌, List, ℕ, [], ◌∷◌, ◌++◌, length, take, sym, ◌∙◌, ap, subst, arith}
use Rattle.std.proofs.lemmas.List.{take_more, length-take-le}
use Rattle.memory_index.specs.Inverts.{AreSpread, ranks_at}
use Rattle.memory_index.proofs.SpreadLemmas.{AreAllSpread-more}
use Rattle.memory_index.proofs.inversion.spread.Goals as goal

pub loop-d-preserved : goal.loop-d-preserved
loop-d-preserved c =
    let i = c.loop-d.d-index in
    let ds = c.args.docs.now in
    let e : take (i + 1) ds ≡ take i ds ++ c.d-item.result ∷ [] = take_more ds i c.d-item.result c.loop-d-test.true ∙ ap (λ x. take i ds ++ x ∷ []) (sym c.d-item.is) in
    let z : c.loop-d.id ≡ length (take i ds) = omega (arith, length-take-le i ds) in
    record {
      id_is = omega arith;
      spread = rw e (AreAllSpread-more _ _ _ c.args.ranks.now (take i ds) c.d-item.result c.loop-d.id c.loop-d.invariant.spread z
          (subst (λ (ts : List ℕ). AreSpread c.loop-d.postings.items c.spread_one.new.postings.items c.loop-d.id (ranks_at c.args.ranks.now ts)) c.deref.ensures.value c.in_ok-spread_one.ensures));
    }
