use Rattle.std.proofs.Common.{drop, ap, refl, sym, ◌∙◌, ◌+◌, rules}
use Rattle.disk_index.specs.Rebuild.{put_places}
use Rattle.disk_index.proofs.RebuildLemmas.{free-below, places-end, places-step, places-stop}
use Rattle.disk_index.proofs.rebuild.put_places.Goals as goal

pub put-requires : goal.put-requires
put-requires c = free-below c.loop-place.slots _ (sym c.is_free.ensures ∙ search rules)

pub returns-then-not-is_free-clause-err : goal.returns-then-not-is_free-clause-err
returns-then-not-is_free-clause-err c =
    sym (sym (places-stop c.loop-place.at c.args.rank c.args.places.now c.loop-place.place-index _ c.loop-place.slots _ c.loop-place-test.true refl (sym c.is_free.ensures ∙ search rules) c.loop-place.invariant))

pub loop-place-preserved : goal.loop-place-preserved
loop-place-preserved c =
    ap (λ n. put_places n c.args.rank (drop (c.loop-place.place-index + 1) c.args.places.now) c.put.new.self) c.saturating_add-at.ensures
    ∙ places-step c.loop-place.at c.args.rank c.args.places.now c.loop-place.place-index _ c.loop-place.slots _ _ c.loop-place-test.true refl (sym c.is_free.ensures ∙ search rules) c.put.ensures c.loop-place.invariant

pub returns-clause-ok : goal.returns-clause-ok
returns-clause-ok c = places-end c.loop-place.at c.args.rank c.args.places.now c.loop-place.place-index c.loop-place.slots _ c.loop-place-test.false c.loop-place.invariant
