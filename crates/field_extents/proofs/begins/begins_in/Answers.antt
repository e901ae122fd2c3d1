use Rattle.std.proofs.Common.{◌<◌, arith}
use Rattle.field_extents.proofs.BeginsLemmas.{All-CountsFront, begin_count-CountsFront, CountsFront-none, CountsFront-taken, CountsFront-passed}
use Rattle.field_extents.proofs.begins.begins_in.Goals as goal
use Rattle.field_extents.proofs.begins.begins_in.Goals.{then-next-begin+then-end, else-next-begin, else-next-begin-via-then-next-begin+else-end, else-next-begin-via-else-next-begin}

pub loop-extent-init : goal.loop-extent-init
loop-extent-init c = rw c.begin-next.ensures.begin (CountsFront-none c.args.xs.now c.args.window (omega arith))

pub loop-extent-preserved : goal.loop-extent-preserved
loop-extent-preserved c =
    let at = c.loop-extent in
    let item = c.extent-item.result in
    let some : item.begin < item.end = omega arith in
    elim c.if-next-begin.branch [
      | then-next-begin+then-end w ↦
          rw (w.count-is, w.next-is, c.begin-begin.ensures.begin) (CountsFront-taken _ _ _ _ _ item (omega arith) c.extent-item.is c.requires some at.invariant (omega arith) (omega arith))
      | else-next-begin w ↦
          rw (w.count-is, w.next-is) (CountsFront-passed _ _ _ _ _ item (omega arith) c.extent-item.is c.requires some at.invariant (λ new high. elim w.else-next-begin.branch [
            | else-next-begin-via-then-next-begin+else-end w' ↦ omega arith
            | else-next-begin-via-else-next-begin w' ↦ omega arith
          ]))
    ]

pub returns-clause-exact : goal.returns-clause-exact
returns-clause-exact c = begin_count-CountsFront _ _ _ _ _ (omega arith) c.loop-extent.invariant

pub returns-clause-some : goal.returns-clause-some
returns-clause-some c = All-CountsFront _ _ _ _ _ (omega arith) c.loop-extent.invariant
