-- New parts of a merge.
use Rattle.std.specs.Prelude.{Bool, List, map}
use Rattle.std.specs.List.{flat_map}
use Rattle.ri_base.specs.Documents.{Document}
use Rattle.merge_job.specs.declared.merged.MergedPart.{MergedPart}

-- of each part its documents, and its marks
abbrev pub docs_in : List MergedPart → List (List Document)
docs_in parts = map (λ p. p.docs) parts

abbrev pub marks_in : List MergedPart → List (List Bool)
marks_in parts = map (λ p. p.marks) parts

-- those of all parts, one part behind the other
abbrev pub all_docs : List MergedPart → List Document
all_docs parts = flat_map (λ p. p.docs) parts

abbrev pub all_marks : List MergedPart → List Bool
all_marks parts = flat_map (λ p. p.marks) parts
