use Rattle.std.proofs.Common.{◌≡◌, ◌++◌, ◌∷◌, [], take}
use Rattle.holdings.specs.Kept.{ArePlaced}
use Rattle.holdings.specs.MarkedParts.{filled}
use Rattle.holdings.proofs.placing.place_all.Given as goal

abbrev pub invariant-loop-part : goal.invariant-loop-part
invariant-loop-part l = record {
  counts : l.number ≡ l.part-index;
  placed : ArePlaced l.places.entries (take l.part-index l.parts ++ filled [] [] ∷ []);
}
