use Rattle.std.proofs.Common.{◌≡◌, length}
use Rattle.desk_tests.proofs.session.put_lines.Given as goal

-- the rule stays, and there are still nine plugs
abbrev pub invariant-loop-line : goal.invariant-loop-line
invariant-loop-line g l =
    (goal.iterator-loop-line g).can_next l.line-iterator
    × (goal.iterator-loop-line g).is_finite l.line-iterator
    × (l.desk.rule ≡ l.fn.desk.rule)
    × (length l.plugs ≡ 9)
