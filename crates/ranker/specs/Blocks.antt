-- The terms of a query, and how many of their blocks a search opens.
use Rattle.std.specs.Prelude.{◌≤◌, ◌+◌, ◌*◌, ◌/◌, ◌==◌, ℕ, Bool, List, [], ◌++◌, Option, if◌then◌else◌, min, take}
use Rattle.std.specs.List.{flat_map}
use Rattle.ri_base.specs.Documents.{Document}
use Rattle.ri_base.specs.Query.{FilterTree}
use Rattle.store_ends.specs.Files.{Files}
use Rattle.query_check.specs.Leaves.{LeafTree, extents, prior}
use Rattle.disk_index.specs.Cache.{Cached, IsCacheBacked}
use Rattle.disk_index.specs.Parts.{reads, size}
use Rattle.disk_index.specs.Snapshots.{Marked}
use Rattle.expression_words.specs.Words.{words}
use Rattle.range_masks.specs.Held.{AreAnswersOf, Held}
use Rattle.ranker.specs.Passed.{part_at, ranges_in, ranges_of}
use Rattle.ranker.specs.declared.place.Place.{Place}

-- the terms of a leaf, each as often as it stands; a prior has none
abbrev pub leaf_words : LeafTree → List (List ℕ)
leaf_words (extents x context) = words x
leaf_words (prior n) = []

abbrev pub filter_words : FilterTree → List (List ℕ)
filter_words f = words f.expr

-- the terms of a query
abbrev pub query_words : List FilterTree → List LeafTree → List (List ℕ)
query_words filters leaves = flat_map filter_words filters ++ flat_map leaf_words leaves

-- the cache holds blocks as these files have them, and what is held of a range is that of these documents
pub record AreReadBy (told : Option Files) (docs : List Document) (kept : Cached) (own : Held) : Type 0 where
  pub cache : IsCacheBacked told kept
  pub held : AreAnswersOf docs own

-- the same of the documents of the part of a place
abbrev pub AreReadAt : Option Files → List Marked → Place → Cached → Held → Type 0
AreReadAt told parts at = AreReadBy told (reads told (part_at parts at.part).source)

-- the ranges before that of an id, with this one where its blocks were opened
abbrev pub opened_if : Bool → ℕ → ℕ → ℕ
opened_if here size id = min (if here then id / 64 + 1 else id / 64) (ranges_of size)

-- of how many ranges of so many documents, at most, blocks were opened before an id, where those of this range are held
abbrev pub opened_of : ℕ → ℕ → ℕ → ℕ
opened_of size range id = opened_if (range == id / 64) size id

-- of how many ranges of the parts, at most, blocks were opened before a place
abbrev pub opened_at : List Marked → Place → ℕ → ℕ
opened_at parts at range = ranges_in (take at.part parts) + opened_of (size (part_at parts at.part).source) range at.id

-- no more blocks were opened than one of each of so many terms, in so many ranges more
abbrev pub OpensWithin : ℕ → ℕ → ℕ → ℕ → ℕ → Type 0
OpensWithin terms was opened before now = now + terms * was ≤ before + terms * opened
