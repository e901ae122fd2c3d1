-- Parts that are closed, before their marks are told.
use Rattle.std.specs.Prelude.{◌≡◌, false, List, length, replicate}
use Rattle.std.specs.List.{All}
use Rattle.merge_job.specs.Cut.{AreCut, Copies}
use Rattle.merge_job.specs.NewParts.{all_docs, docs_in}
use Rattle.merge_job.specs.declared.merged.MergedPart.{MergedPart}

-- no document is marked
abbrev pub IsUnmarked : MergedPart → Type 0
IsUnmarked p = p.marks ≡ replicate (length p.docs) false

-- they are the documents that were copied, in order and cut as stated, and none is marked
pub record AreClosed (c : Copies) (ps : List MergedPart) : Type 0 where
  pub docs : all_docs ps ≡ c.docs
  pub unmarked : All IsUnmarked ps
  pub cut : AreCut c.most (docs_in ps)
