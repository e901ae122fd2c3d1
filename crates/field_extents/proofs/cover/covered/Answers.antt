use Rattle.std.proofs.Common.{◌≡◌, true, false, min, max, arith}
use Rattle.std.specs.Str.{bytes_eq}
use Rattle.field_extents.proofs.CoverLemmas.{CoversFront-none, CoversFront-taken, CoversFront-passed, CoversFront-other}
use Rattle.field_extents.proofs.cover.covered.Goals as goal
use Rattle.field_extents.proofs.cover.covered.Goals.{then-begin-end+then-eq, else-begin-end, else-begin-end-via-then-begin-end+else-eq, else-begin-end-via-else-begin-end}

pub loop-span-init : goal.loop-span-init
loop-span-init c = rw c.begin-next.ensures.begin (CoversFront-none c.args.spans.now c.args.name.now c.args.window (omega arith))

pub loop-span-preserved : goal.loop-span-preserved
loop-span-preserved c =
    let at = c.loop-span in
    let from_is : c.max-begin.result ≡ max c.span-item.result.begin at.next = cc in
    let to_is : c.min-end.result ≡ min c.span-item.result.end c.args.window.end = cc in
    elim c.if-begin-end.branch [
      | then-begin-end+then-eq w ↦
          let same : bytes_eq c.span-item.result.name c.args.name.now ≡ true = cc in
          rw (w.count-is, w.next-is) (CoversFront-taken _ _ _ _ _ _ c.span-item.result (omega arith) c.span-item.is c.requires at.invariant _ _ from_is to_is same w.if-begin-end.true)
      | else-begin-end w ↦ rw (w.count-is, w.next-is) (elim w.else-begin-end.branch [
        | else-begin-end-via-then-begin-end+else-eq w' ↦
            let other : bytes_eq c.span-item.result.name c.args.name.now ≡ false = cc in
            CoversFront-other _ _ _ _ _ _ c.span-item.result (omega arith) c.span-item.is c.requires at.invariant other
        | else-begin-end-via-else-begin-end w' ↦
            CoversFront-passed _ _ _ _ _ _ c.span-item.result (omega arith) c.span-item.is c.requires at.invariant _ _ from_is to_is w'.if-begin-end.false
      ])
    ]
