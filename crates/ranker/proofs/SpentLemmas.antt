-- Numbers of what a search has spent.
use Rattle.std.proofs.Common.{◌≡◌, ◌≤◌, ◌+◌, ℕ, Bool, true, false, List, Option, refl, arith}
use Rattle.std.proofs.lemmas.Bool.{false≢true}
use Rattle.store_ends.specs.Files.{Files}
use Rattle.belief_nodes.specs.Network.{NetworkTree}
use Rattle.disk_index.specs.Snapshots.{Marked}
use Rattle.document_scoring.specs.Candidates.{Candidate}
use Rattle.ranker.specs.Passed.{part_at}
use Rattle.ranker.specs.Spent.{RiseAlike}
use Rattle.ranker.specs.Squares.{spent}
use Rattle.ranker.specs.Unbeaten.{Sought, early_at, met_at, stretch_at}
use Rattle.ranker.specs.declared.place.Place.{Place}
use Rattle.ranker.proofs.AskedLemmas.{asked-on}
use Rattle.ranker.proofs.BareLemmas.{place_on}
use Rattle.ranker.proofs.PassedLemmas.{cost-more}
use Rattle.ranker.proofs.UnbeatenLemmas.{come-on, scored-more, unbeaten-more}

-- ---- numbers and counters

pub rise-same : (count number : ℕ) → RiseAlike count count number number
rise-same count number = record { up = omega arith; same = omega arith }

pub rise-then : (was now next before after last : ℕ) → RiseAlike was now before after → RiseAlike now next after last → RiseAlike was next before last
rise-then was now next before after last first more = record { up = omega (arith, first.up, more.up); same = omega (arith, first.up, first.same, more.up, more.same) }

-- what is within stays so
pub rise-within : (was now before after most next : ℕ) → RiseAlike was now before after → now + most ≤ was + next → before ≤ most → after ≤ next
rise-within was now before after most next rise more within = omega (arith, rise.up, rise.same, more, within)

-- ---- at a later place

pub spent-open : (network : NetworkTree) (most : ℕ) (more : Bool) (early later : ℕ) (cs ds : List Candidate) → more ≡ true → early ≤ later → spent network most more early cs ≤ spent network most more later ds
spent-open network most true early later cs ds is le = let costs = cost-more network early later le in omega (arith, costs)
spent-open network most false early later cs ds is le = absurd (false≢true is)

module _ (s : Sought) (told : Option Files) (parts : List Marked) (at : Place) (docs : ℕ) where
  pub early-on : early_at s told parts at ≤ early_at s told parts (place_on at docs)
  early-on =
      let asked = asked-on (part_at parts at.part).marks at.id (at.id + docs) at.ahead at.ahead (omega arith) refl in
      let more = scored-more s (stretch_at told parts at.part) at.id (at.id + docs) (omega arith) in
      omega (arith, asked, more)

  pub met-on : (range : ℕ) → met_at s told parts at range ≤ met_at s told parts (place_on at docs) range
  met-on range =
      let more = unbeaten-more s (stretch_at told parts at.part) _ _ (come-on range at.id (at.id + docs) (omega arith)) in
      omega (arith, more)
