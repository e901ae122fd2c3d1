use Rattle.std.proofs.Common.{◌≡◌, ◌+◌, ◌++◌, drop}
use Rattle.ranked_output.specs.Explained.{leaves_text}
use Rattle.ranked_output.proofs.explained.push_leaves.Given as goal

-- the text so far, and the lines of the leaves that are left
abbrev pub invariant-loop-leaf : goal.invariant-loop-leaf
invariant-loop-leaf l =
    (l.text.items ++ leaves_text l.number (drop l.leaf-index l.leaf-items) ≡ l.initial.text.items ++ leaves_text 1 l.leaf-items)
    × (l.number ≡ l.leaf-index + 1)
