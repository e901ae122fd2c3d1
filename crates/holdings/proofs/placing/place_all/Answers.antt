use Rattle.std.proofs.Common.{◌≡◌, ◌∙◌, ◌++◌, ◌∷◌, [], sym, arith, subst, List, take, rules}
use Rattle.std.proofs.lemmas.List.{take_all}
use Rattle.disk_index.specs.Snapshots.{Marked}
use Rattle.holdings.specs.Kept.{ArePlaced}
use Rattle.holdings.specs.MarkedParts.{filled}
use Rattle.holdings.proofs.PlacingLemmas.{ArePlaced-parts, Repeats-parts}
use Rattle.holdings.proofs.placing.place_all.Goals as goal

pub loop-part-preserved : goal.loop-part-preserved
loop-part-preserved c =
    let inv = c.loop-part.invariant in
    record {
      counts = (let n = inv.counts in omega (arith, n));
      placed =
          ArePlaced-parts _ _ c.args.parts.now c.loop-part.part-index c.part-item.result c.loop-part-test.true c.part-item.is
          (λ front long kept. c.in_ok-id.ensures.places c.in-None.is front (long ∙ sym inv.counts) kept) inv.placed;
    }

pub returns-in-Some : goal.returns-in-Some
returns-in-Some c =
    let inv = c.loop-part.invariant in (
      omega (arith, inv.counts, c.loop-part-test.true),
      Repeats-parts c.args.parts.now c.loop-part.part-index c.part-item.result (record { part = c.loop-part.number; id = c.in-Some.id }) c.loop-part-test.true c.part-item.is
          (λ front long same. (rw c.in-Some.is at c.in_ok-id.ensures.repeats) front (long ∙ sym inv.counts)
          (subst (λ (ps : List Marked). ArePlaced c.loop-part.places.entries (ps ++ filled [] [] ∷ [])) (sym same) inv.placed)),
    )

pub returns : goal.returns
returns c =
    let all : take c.loop-part.part-index c.args.parts.now ≡ c.args.parts.now = take_all c.loop-part.part-index c.args.parts.now (search rules) in
    subst (λ (ps : List Marked). ArePlaced c.loop-part.places.entries (ps ++ filled [] [] ∷ [])) all c.loop-part.invariant.placed
