-- Where the postings of a file stand, and the first that stands there a second time.
use Rattle.std.specs.Prelude.{ℕ, ◌≡◌, ◌+◌, ◌-◌, ◌/◌, ◌==◌, ◌&&◌, Bool, List, [], ◌∷◌, ◌++◌, length, Option, Some, None, if◌then◌else◌, unwrap_or}
use Rattle.std.specs.List.{list_any}
use Rattle.ri_base.specs.declared.places.Place.{Place}
use Rattle.ri_base.specs.declared.seg_fault.FileName.{FileName}
use Rattle.ri_base.specs.declared.seg_fault.PartName.TheVariants as parts
use Rattle.ri_base.specs.declared.seg_fault.SegFault.{SegFault}
use Rattle.ri_base.specs.declared.seg_fault.SegFault.TheVariants as faults
use Rattle.seg_codec.specs.Segment.{blocks_of}
use Rattle.seg_codec.specs.declared.twice.Standing.{Standing}
use Rattle.seg_codec.specs.declared.whole.Whole.{Whole}

-- How many bytes a posting takes in the blocks of its term behind another: four, with five more where a document begins,
-- and one more where a block does.
abbrev pub size_behind : Option Place → Place → ℕ
size_behind None p = 10
size_behind (Some q) p = if p.id == q.id then 4 else if p.id / 64 == q.id / 64 then 9 else 10

abbrev pub sizes : Option Place → List Place → ℕ
sizes before [] = 0
sizes before (p ∷ ps) = size_behind before p + sizes (Some p) ps

-- each of these postings, behind this place of the file and another posting, where there is one
abbrev pub standing : ℕ → Option Place → List Place → List Standing
standing end before [] = []
standing end before (p ∷ ps) = record { posting = p; place = end + size_behind before p - 4 } ∷ standing (end + size_behind before p) (Some p) ps

-- the postings of all terms, whose blocks stand one behind the other from this place on
abbrev pub all_standing : ℕ → List (List Place) → List Standing
all_standing at [] = []
all_standing at (ps ∷ pss) = standing at None ps ++ all_standing (at + length (blocks_of ps)) pss

-- the same place of the same document
abbrev pub is_same : Place → Place → Bool
is_same p q = (p.id == q.id) && (p.at == q.at)

-- where the first posting stands that is one of those before it
abbrev pub first_twice : List Place → List Standing → Option ℕ
first_twice before [] = None
first_twice before (s ∷ all) = if list_any (λ q. is_same q s.posting) before then Some s.place else first_twice (before ++ s.posting ∷ []) all

-- where a posting stands in a file a second time
abbrev pub told_twice : Whole → Option ℕ
told_twice w = first_twice [] (all_standing w.header.blocks_at w.postings)

-- the fault of a file of so many bytes whose parts keep their grammar and hold no documents, or want of memory
abbrev pub IsAcross : FileName → ℕ → Whole → SegFault → Type 0
IsAcross file size w (faults.Malformed f p place) = (f ≡ file) × (p ≡ parts.Block) × (place ≡ unwrap_or (told_twice w) size)
IsAcross file size w (faults.Missing f) = ⊥
IsAcross file size w faults.Store = ⊥
IsAcross file size w faults.Memory = Unit {0}
