use Rattle.std.proofs.Common.{◌≡◌, ◌+◌, ◌++◌, ◌∙◌, [], ◌∷◌, take, ap, sym, arith}
use Rattle.std.proofs.lemmas.List.{take_all, take_more}
use Rattle.ri_base.specs.Pair.{Pair}
use Rattle.extent_walks.proofs.PlaceLemmas.{AreOutermost, AreOutermost-passed, AreOutermost-taken, LiesInSome-same, before_next}
use Rattle.extent_walks.proofs.outermost.Outermost.of.Goals as goal
use Rattle.extent_walks.proofs.outermost.Outermost.of.Goals.{then-end-reach+in_ok-push, else-end-reach}

pub loop-x-preserved : goal.loop-x-preserved
loop-x-preserved c =
    let xs = c.args.xs.now in
    let i = c.loop-x.x-index in
    let x = c.x-item.result in
    let step : take (i + 1) xs ≡ take i xs ++ x ∷ [] = take_more xs i x c.loop-x-test.true ∙ ap (λ (y : Pair). take i xs ++ y ∷ []) (sym c.x-item.is) in
    let before = before_next xs i x c.requires c.loop-x-test.true c.x-item.is in
    elim c.if-end-reach.branch [
      | then-end-reach+in_ok-push w ↦
          rw (step, w.items-is, w.in_ok-push.ensures.items, w.reach-is, w.end-reach.ensures.end)
          (AreOutermost-taken (take i xs) c.loop-x.items.items c.loop-x.reach x c.loop-x.invariant before (omega (arith, w.if-end-reach.true, c.end.ensures.end)))
      | else-end-reach w ↦
          rw (step, w.items-is, w.reach-is)
          (AreOutermost-passed (take i xs) c.loop-x.items.items c.loop-x.reach x c.loop-x.invariant before (omega (arith, w.if-end-reach.false, c.end.ensures.end)) (omega (arith, c.end.ensures.end, c.end.ensures.some)))
    ]

pub invariant_of-result : goal.invariant_of-result
invariant_of-result c = (c.loop-x.invariant.ascending, c.loop-x.invariant.rise)

pub returns : goal.returns
returns c =
    let whole : take c.loop-x.x-index c.args.xs.now ≡ c.args.xs.now = take_all c.loop-x.x-index c.args.xs.now c.loop-x-test.false in
    let outermost : AreOutermost c.args.xs.now c.loop-x.items.items c.loop-x.reach = rw whole at c.loop-x.invariant in
    λ b e. LiesInSome-same c.args.xs.now c.loop-x.items.items c.loop-x.reach b e outermost
