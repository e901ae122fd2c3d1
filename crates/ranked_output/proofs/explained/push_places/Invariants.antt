use Rattle.std.proofs.Common.{◌≡◌, ◌++◌, drop}
use Rattle.ranked_output.specs.Explained.{places_text}
use Rattle.ranked_output.proofs.explained.push_places.Given as goal

-- the text so far, and the lines of the extents that are left
abbrev pub invariant-loop-x : goal.invariant-loop-x
invariant-loop-x l = l.text.items ++ places_text (drop l.x-index l.x-items) ≡ l.initial.text.items ++ places_text l.x-items
