-- The bytes that are written of a manifest.
use Rattle.std.specs.Prelude.{ℕ, List, ◌∷◌, ◌++◌, length}
use Rattle.std.specs.Int.{w32, w64, to_le_bytes}
use Rattle.std.specs.List.{flat_map}
use Rattle.ri_base.specs.Spelling.{spelled_text}
use Rattle.manifest.specs.Files.{magic}
use Rattle.manifest.specs.declared.manifest.Manifest.{Manifest}
use Rattle.manifest.specs.declared.manifest.PriorEntry.{PriorEntry}
use Rattle.manifest.specs.declared.manifest.SegEntry.{SegEntry}

abbrev pub spelled_marks : List ℕ → List ℕ
spelled_marks ms = to_le_bytes w32 (length ms) ++ flat_map (to_le_bytes w32) ms

abbrev pub spelled_segment : SegEntry → List ℕ
spelled_segment e = to_le_bytes w64 e.number ++ (to_le_bytes w32 e.docs ++ spelled_marks e.marks)

abbrev pub spelled_segments : List SegEntry → List ℕ
spelled_segments es = to_le_bytes w32 (length es) ++ flat_map spelled_segment es

abbrev pub spelled_stale : List ℕ → List ℕ
spelled_stale ns = to_le_bytes w64 (length ns) ++ flat_map (to_le_bytes w64) ns

abbrev pub spelled_prior : PriorEntry → List ℕ
spelled_prior p = spelled_text p.name ++ to_le_bytes w64 p.number

abbrev pub spelled_priors : List PriorEntry → List ℕ
spelled_priors ps = length ps ∷ flat_map spelled_prior ps

abbrev pub spelled_opening : ℕ → List ℕ
spelled_opening next = magic ++ (to_le_bytes w32 1 ++ to_le_bytes w64 next)

-- the bytes of a manifest
abbrev pub manifest_text : Manifest → List ℕ
manifest_text m = spelled_opening m.next ++ (spelled_segments m.segments ++ (spelled_stale m.stale ++ spelled_priors m.priors))
