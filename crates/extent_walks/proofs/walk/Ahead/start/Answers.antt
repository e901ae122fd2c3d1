use Rattle.std.proofs.Common.{◌≡◌, ◌+◌, true, sym, ap, ◌∙◌, arith}
use Rattle.extent_walks.specs.Next.{IsNext}
use Rattle.extent_lists.specs.Plans.{set}
use Rattle.extent_walks.specs.Shapes.{has_one_end, plan_shape}
use Rattle.extent_walks.specs.Walks.{plan}
use Rattle.extent_walks.proofs.NextLemmas.{IsNext-next_begin}
use Rattle.extent_walks.proofs.ShapeLemmas.{one_end_plan}
use Rattle.extent_walks.proofs.walk.Ahead.start.Goals as goal

pub returns-then-from-clause-next : goal.returns-then-from-clause-next
returns-then-from-clause-next c = λ found h.
    let p = plan c.args.self.now.walk in
    let one : has_one_end (plan_shape p) ≡ true = ap has_one_end (sym c.requires.1.1) ∙ sym c.has_one_end.ensures ∙ c.if-not-has_one_end.false in
    let last = c.requires.1.0 c.if-not-self.false in
    let next : IsNext (set p) (c.in-Some.x.begin + 1) 0 found = rw (c.at.ensures, c.begin-then-from.ensures.begin) at h in
    IsNext-next_begin (set p) c.args.from.begin c.args.from.end c.in-Some.x found (one_end_plan p one) (last.only c.in-Some.x c.in-Some.is).0 (sym c.begin.ensures.begin ∙ c.if-begin-from.true) (omega (arith, c.if-from.true, c.from.ensures, c.end.ensures.end)) next
