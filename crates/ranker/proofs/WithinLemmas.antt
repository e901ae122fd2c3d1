-- No more squarings than those of all candidates, and of the bounds of all ranges.
use Rattle.std.proofs.Common.{◌≡◌, ◌<◌, ◌≤◌, ℕ, zero, suc, ◌+◌, Bool, List, [], ◌∷◌, ◌++◌, refl, Option, length, take, ap, subst, arith}
use Rattle.ri_base.specs.Documents.{Document}
use Rattle.ri_base.specs.Query.{FilterTree}
use Rattle.store_ends.specs.Files.{Files}
use Rattle.smoothing.specs.declared.rule.RuleKind.{RuleKind}
use Rattle.belief_nodes.specs.Network.{NetworkTree}
use Rattle.belief_nodes.specs.Priors.{Prior}
use Rattle.disk_index.specs.Snapshots.{Marked, live, live_in, unmarked}
use Rattle.ranker.specs.First.{AsksWithin, SpendsWithin}
use Rattle.ranker.specs.Passed.{live_before, live_ranges, part_at, passed, ranges_of}
use Rattle.ranker.specs.declared.place.Place.{Place}
use Rattle.ranker.proofs.PassedLemmas.{cost-append, cost-front, cost-more, spent_on}
use Rattle.ranker.proofs.PlaceLemmas.{live-front, live-next, unmarked-front}

-- the first of the first
pub take-take : {A : Type 0} (xs : List A) (i j : ℕ) → i ≤ j → take i (take j xs) ≡ take i xs
take-take xs zero j le = refl
take-take xs (suc i) zero le = absurd (omega (arith, le))
take-take [] (suc i) (suc j) le = refl
take-take {A} (x ∷ xs) (suc i) (suc j) le = ap (λ (ys : List A). x ∷ ys) (take-take xs i j (omega (arith, le)))

module _ (kind : RuleKind) (priors : List Prior) (filters : List FilterTree) (network : NetworkTree) where
  abbrev cost : List Document → ℕ
  cost docs = spent_on kind priors filters network docs

  abbrev Within : List Document → List Document → ℕ → ℕ → ℕ → ℕ → Type 0
  Within old new was asked a b = SpendsWithin kind priors filters network old new was asked a b

  -- where nothing is done
  pub within-same : (old new : List Document) (a : ℕ) → cost old ≤ cost new → Within old new 0 0 a a
  within-same old new a le = omega (arith, le)

  pub within-then : (old mid new : List Document) (p q r a b d : ℕ) → Within old mid p q a b → Within mid new q r b d → Within old new p r a d
  within-then old mid new p q r a b d first second = omega (arith, first, second)

  pub within-more : (old mid new : List Document) (p q r a b : ℕ) → Within old mid p q a b → cost mid ≤ cost new → q ≤ r → Within old new p r a b
  within-more old mid new p q r a b first le less = let more = cost-more network q r less in omega (arith, first, le, more)

  -- behind bounds that were asked for
  pub within-asks : (old new : List Document) (p q r a b d : ℕ) → AsksWithin network p q a b → q ≤ r → Within old new 0 0 b d → Within old new p r a d
  within-asks old new p q r a b d asks less rest = let more = cost-more network q r less in omega (arith, asks, more, rest)

  pub within-bounded : (old new : List Document) (p q r a b d : ℕ) → AsksWithin network p q a b → Within old new q r b d → Within old new p r a d
  within-bounded old new p q r a b d asks rest = omega (arith, asks, rest)

  -- the documents before an id of a part
  pub cost-take : (docs : List Document) (marks : List Bool) (i : ℕ) → cost (unmarked (take i docs) marks) ≤ cost (unmarked docs marks)
  cost-take docs marks i = let h = unmarked-front docs marks i in cost-front kind priors filters network (unmarked (take i docs) marks) h.0 (unmarked docs marks) h.1

  -- and before a later one
  pub cost-to : (docs : List Document) (marks : List Bool) (i j : ℕ) → i ≤ j → cost (unmarked (take i docs) marks) ≤ cost (unmarked (take j docs) marks)
  cost-to docs marks i j le = subst (λ (ds : List Document). cost (unmarked ds marks) ≤ cost (unmarked (take j docs) marks)) (take-take docs i j le) (cost-take (take j docs) marks i)

  pub within-up : (docs : List Document) (marks : List Bool) (i j k a b : ℕ) → j ≤ k → Within (unmarked (take i docs) marks) (unmarked (take j docs) marks) 0 0 a b → Within (unmarked (take i docs) marks) (unmarked (take k docs) marks) 0 0 a b
  within-up docs marks i j k a b le h =
      within-more (unmarked (take i docs) marks) (unmarked (take j docs) marks) (unmarked (take k docs) marks) 0 0 0 a b h (cost-to docs marks j k le) (omega arith)

  -- those before a place
  pub cost-passed : (told : Option Files) (parts : List Marked) (at : Place) → cost (passed told parts at) ≤ cost (live told parts)
  cost-passed told parts at = let h = live-front told parts at.part at.id in cost-front kind priors filters network (passed told parts at) h.0 (live told parts) h.1

  -- behind the first parts
  pub within-part : (told : Option Files) (parts : List Marked) (at : Place) (m : Marked) (was asked others all a b : ℕ) → part_at parts at.part ≡ m → at.part < length parts → others + asked ≤ all
      → Within (live_before told m at.id) (live_in told m) was asked a b → Within (passed told parts at) (live told parts) (others + was) all a b
  within-part told parts at m was asked others all a b is lt le h =
      subst (λ (p : Marked). Within (live_before told p at.id) (live_in told p) was asked a b → Within (passed told parts at) (live told parts) (others + was) all a b) is own h
    where
      own : Within (live_before told (part_at parts at.part) at.id) (live_in told (part_at parts at.part)) was asked a b → Within (passed told parts at) (live told parts) (others + was) all a b
      own w =
          let first : List Document = live told (take at.part parts) in
          let m : Marked = part_at parts at.part in
          let here = cost-append kind priors filters network first (live_before told m at.id) in
          let there = cost-append kind priors filters network first (live_in told m) in
          let next : cost (live told (take (at.part + 1) parts)) ≡ cost (first ++ live_in told m) = ap cost (live-next told parts at.part lt) in
          let front = live-front told parts (at.part + 1) 0 in
          let none = cost-append kind priors filters network (live told (take (at.part + 1) parts)) (live_before told (part_at parts (at.part + 1)) 0) in
          let docs = cost-front kind priors filters network (live told (take (at.part + 1) parts) ++ live_before told (part_at parts (at.part + 1)) 0) front.0 (live told parts) front.1 in
          let more = cost-more network (others + asked) all le in
          omega (arith, w, here, there, next, none, docs, more)

-- by what was read, and what the priors told, before
pub within-read : (kind : RuleKind) (told priors : List Prior) (filters : List FilterTree) (network : NetworkTree) (read docs : List Document) (marks : List Bool) (i was : ℕ) (a b : ℕ) → told ≡ priors → read ≡ docs
    → SpendsWithin kind told filters network (unmarked (take i read) marks) (unmarked read marks) was (live_ranges marks (ranges_of (length read))) a b
    → SpendsWithin kind priors filters network (unmarked (take i docs) marks) (unmarked docs marks) was (live_ranges marks (ranges_of (length docs))) a b
within-read kind told priors filters network read docs marks i was a b stay same h =
    subst (λ (ds : List Document). SpendsWithin kind priors filters network (unmarked (take i ds) marks) (unmarked ds marks) was (live_ranges marks (ranges_of (length ds))) a b) same
    (subst (λ (ps : List Prior). SpendsWithin kind ps filters network (unmarked (take i read) marks) (unmarked read marks) was (live_ranges marks (ranges_of (length read))) a b) stay h)

-- the same up to an id
pub within-to : (kind : RuleKind) (told priors : List Prior) (filters : List FilterTree) (network : NetworkTree) (read docs : List Document) (marks : List Bool) (i j : ℕ) (a b : ℕ) → told ≡ priors → read ≡ docs
    → SpendsWithin kind told filters network (unmarked (take i read) marks) (unmarked (take j read) marks) 0 0 a b → SpendsWithin kind priors filters network (unmarked (take i docs) marks) (unmarked (take j docs) marks) 0 0 a b
within-to kind told priors filters network read docs marks i j a b stay same h =
    subst (λ (ds : List Document). SpendsWithin kind priors filters network (unmarked (take i ds) marks) (unmarked (take j ds) marks) 0 0 a b) same
    (subst (λ (ps : List Prior). SpendsWithin kind ps filters network (unmarked (take i read) marks) (unmarked (take j read) marks) 0 0 a b) stay h)

pub within-later : (kind : RuleKind) (was priors : List Prior) (filters : List FilterTree) (network : NetworkTree) (here told : Option Files) (parts : List Marked) (at : Place) (p q a b : ℕ) → was ≡ priors → here ≡ told
    → SpendsWithin kind was filters network (passed here parts at) (live here parts) p q a b → SpendsWithin kind priors filters network (passed told parts at) (live told parts) p q a b
within-later kind was priors filters network here told parts at p q a b stay same h =
    subst (λ (f : Option Files). SpendsWithin kind priors filters network (passed f parts at) (live f parts) p q a b) same
    (subst (λ (ps : List Prior). SpendsWithin kind ps filters network (passed here parts at) (live here parts) p q a b) stay h)
