use Rattle.std.proofs.Common.{◌≡◌, ◌-◌, ◌<◌, nat_le, length, take, drop, filter, arith}
use Rattle.std.specs.List.{All, prefix_len}
use Rattle.std.proofs.lemmas.List.{take_all, take_rest}
use Rattle.std.proofs.lemmas.List.Elements.{All-filter, All-more}
use Rattle.ri_base.specs.Pair.{Pair}
use Rattle.field_extents.specs.Extents.{AreInOrder}
use Rattle.field_extents.specs.Fields.{greatest_end, lies_in_some}
use Rattle.field_extents.proofs.Laws.{begin_count-le-covered_count}
use Rattle.field_extents.proofs.ReachLemmas.{HasReached-kept, HasReached-left}
use Rattle.field_extents.proofs.restriction.inside.Goals as goal
use Rattle.field_extents.proofs.restriction.inside.Goals.{then-end-reach+in_ok-push, else-end-reach}

pub loop-extent-preserved : goal.loop-extent-preserved
loop-extent-preserved c =
    let at = c.loop-extent in
    let item = c.extent-item.result in
    let spans = c.args.spans.now in
    let order : AreInOrder c.as_slice-extent-items.result.now = rw c.as_slice-extent-items.ensures c.requires.extents in
    let some : 0 < item.end = omega arith in
    let ahead : take (length spans - at.begun) (drop at.begun spans) ≡ drop at.begun spans = take_rest spans at.begun in
    let more : c.begun_by-more.result ≡ prefix_len (λ f. nat_le f.begin item.begin) (drop at.begun spans) =
    rw (← c.begin-begin.ensures.begin) (rw ahead at c.begun_by-more.ensures) in
    let reached : c.reach_of-reach.result ≡ greatest_end c.args.name.now at.reach (take c.begun_by-more.result (drop at.begun spans)) =
    rw ahead at c.reach_of-reach.ensures in
    let has_some : item.begin < item.end = omega arith in
    let more_some = All-more (λ (x : Pair). x.begin < x.end) c.as_slice-extent-items.result.now at.extent-index item (omega arith) at.invariant.1 (rw (← c.extent-item.is) has_some) in (
      elim c.if-end-reach.branch [
        | then-end-reach+in_ok-push w ↦
            rw (w.kept-is, w.in_ok-push.ensures.ok) (HasReached-kept _ _ _ _ _ _ _ item (omega arith) c.extent-item.is some order c.requires.fields at.invariant.0 _ _ more reached (omega arith))
        | else-end-reach w ↦
            rw w.kept-is (HasReached-left _ _ _ _ _ _ _ item (omega arith) c.extent-item.is some order c.requires.fields at.invariant.0 _ _ more reached (omega arith))
      ],
      more_some,
    )

pub returns-clause-few : goal.returns-clause-few
returns-clause-few c window =
    let xs = c.as_slice-extent-items.result.now in
    let k = c.loop-extent.extent-index in
    let front : take k xs ≡ xs = take_all k xs (omega arith) in
    let exact : c.loop-extent.kept ≡ filter (lies_in_some c.args.spans.now c.args.name.now) xs = rw front at c.loop-extent.invariant.0.exact in
    let some : All (λ x. x.begin < x.end) xs = rw front at c.loop-extent.invariant.1 in
    rw exact (begin_count-le-covered_count xs c.args.spans.now c.args.name.now window (All-filter (lies_in_some c.args.spans.now c.args.name.now) (λ x. x.begin < x.end) xs some))
