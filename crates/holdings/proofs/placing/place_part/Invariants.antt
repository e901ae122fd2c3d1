use Rattle.std.proofs.Common.{◌≡◌, ◌++◌, ◌∷◌, [], List, length, take}
use Rattle.disk_index.specs.Snapshots.{Marked}
use Rattle.holdings.specs.Kept.{ArePlaced}
use Rattle.holdings.specs.MarkedParts.{docnos_in, filled}
use Rattle.holdings.specs.Placing.{front_of}
use Rattle.holdings.proofs.placing.place_part.Given as goal

abbrev pub invariant-loop-id : goal.invariant-loop-id
invariant-loop-id l =
    (front : List Marked) → length front ≡ l.number → ArePlaced l.fn.places.entries (front ++ filled [] [] ∷ [])
    → ArePlaced l.places.entries (front ++ front_of (take l.id (docnos_in l.part.source)) (take l.id l.part.marks) ∷ [])
