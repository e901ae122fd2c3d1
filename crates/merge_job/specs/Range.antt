-- Ranges of 64 ids that were read.
use Rattle.std.specs.Prelude.{◌≡◌, Option, map}
use Rattle.store_ends.specs.Files.{Files}
use Rattle.seg_codec.specs.Segment.{entry_of}
use Rattle.disk_index.specs.Blocks.{of_range}
use Rattle.disk_index.specs.Parts.{Source, reads}
use Rattle.merge_job.specs.Walk.{entries}
use Rattle.merge_job.specs.declared.copying.Range.{Range}

-- without their tokens its documents are those of the part
abbrev pub IsRange : Source → Range → Type 0
IsRange s r = map entry_of r.docs ≡ of_range r.number (entries s)

-- its documents are those that the part reads as
abbrev pub IsRangeNow : Option Files → Source → Range → Type 0
IsRangeNow told s r = r.docs ≡ of_range r.number (reads told s)
