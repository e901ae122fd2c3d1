-- Entries whose digits are the same at every level.
use Rattle.std.specs.Prelude.{Bool, ◌&&◌, List}
use Rattle.std.specs.Cmp.Lexicographic.{slice_cmp}
use Rattle.std.specs.Ordering.{is_eq, is_lt, nat_cmp, ordering_then}
use Rattle.std.specs.declared.cmp.Ordering.{Ordering}
use Rattle.log_chain.specs.Progress.{Progress}
use Rattle.bounded_keys.specs.declared.entry.Entry.{Entry}

-- by the fractions as they are written
abbrev pub by_belief : Progress → Progress → Ordering
by_belief a b = ordering_then (nat_cmp a.p b.p) (nat_cmp a.q b.q)

-- leaf by leaf
abbrev pub by_beliefs : List Progress → List Progress → Ordering
by_beliefs xs ys = slice_cmp by_belief xs ys

-- an entry of the same beliefs whose window is before the other's
abbrev pub is_before : {W : Type 0} → (W → W → Ordering) → Entry W → Entry W → Bool
is_before order a b = is_eq (by_beliefs a.leaves b.leaves) && is_lt (order a.window b.window)
