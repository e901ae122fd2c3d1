-- what the reading of a whole file answers
use Rattle.std.proofs.Common.{◌≡◌, ◌<◌, ℕ, ◌+◌, ◌^◌, Option, List, length, Result, Ok, Err, ap, subst, ◌∙◌}
use Rattle.std.specs.Prelude.{sum_by, unwrap_or}
use Rattle.ri_base.proofs.Codec.{IsBytes}
use Rattle.ri_base.specs.Documents.{Document}
use Rattle.ri_base.specs.declared.places.Place.{Place}
use Rattle.ri_base.specs.declared.seg_fault.FileName.{FileName}
use Rattle.ri_base.specs.declared.seg_fault.SegFault.{SegFault}
use Rattle.ri_base.specs.declared.seg_fault.SegFault.TheVariants.{Malformed, Missing, Store, Memory}
use Rattle.seg_codec.specs.Held.{AreRead, Holds, IsKept, whole_of}
use Rattle.seg_codec.specs.Part.{IsPart}
use Rattle.seg_codec.specs.Segment.{blocks_of, segment}
use Rattle.seg_codec.specs.Twice.{IsAcross, told_twice}
use Rattle.seg_codec.specs.Whole.{AnswersFile, Fault, grammar}
use Rattle.seg_codec.specs.declared.whole.Whole.{Whole}
use Rattle.seg_codec.proofs.FileLaws.{blocks_end, file_is_read}
use Rattle.seg_codec.proofs.OnlyLaws.{held_once}
use Rattle.seg_codec.proofs.ReadLaws.{held_part, held_segment, read_kept}
use Rattle.seg_codec.proofs.SegmentReads.{segment_reads, whole_holds}

abbrev AnswersWhole : Result Whole SegFault → Result Whole Fault → FileName → Type 0
AnswersWhole r read file = AnswersFile (λ (v : Whole). v) r read file

-- ---- a part breaks its grammar, or memory runs out

fault_read : (e : SegFault) (read : Result Whole Fault) (file : FileName) (w : Whole) (docs : List Document) → AnswersWhole (Err e) read file → read ≡ Ok w → AreRead (Err e) docs
fault_read (Malformed f p place) read file w docs h is = absurd cc
fault_read (Missing f) read file w docs h is = h
fault_read Store read file w docs h is = h
fault_read Memory read file w docs h is = tt

pub broken_only : (e : SegFault) (bytes : List ℕ) (file : FileName) (docs : List Document) → AnswersWhole (Err e) (grammar bytes) file → length bytes < 2 ^ 64 → IsPart docs → bytes ≡ segment docs → AreRead (Err e) docs
broken_only e bytes file docs h room part is =
    fault_read e (grammar bytes) file (whole_of docs) docs h (ap grammar is ∙ segment_reads docs part (subst (λ (x : List ℕ). length x < 2 ^ 64) is room))

pub broken_across : (e : SegFault) (read : Result Whole Fault) (file : FileName) (size : ℕ) (w : Whole) → AnswersWhole (Err e) read file → read ≡ Ok w → IsAcross file size w e
broken_across (Malformed f p place) read file size w h is = absurd cc
broken_across (Missing f) read file size w h is = h
broken_across Store read file size w h is = h
broken_across Memory read file size w h is = tt

-- ---- each part keeps its grammar

pub kept_if_read : (bytes : List ℕ) (w : Whole) → IsBytes bytes → grammar bytes ≡ Ok w → IsKept w
kept_if_read bytes w small is = read_kept bytes w small (file_is_read bytes w small is)

pub held_found : (bytes : List ℕ) (w : Whole) (docs : List Document) → IsBytes bytes → grammar bytes ≡ Ok w → Holds docs w → (bytes ≡ segment docs) × IsPart docs
held_found bytes w docs small is h =
    let r = file_is_read bytes w small is in
    (held_segment bytes w docs small r h, held_part bytes w docs r h)

holds_own : (bytes : List ℕ) (w : Whole) (docs : List Document) → grammar bytes ≡ Ok w → length bytes < 2 ^ 64 → IsPart docs → bytes ≡ segment docs → Holds docs w
holds_own bytes w docs is room part own =
    let read : grammar bytes ≡ Ok (whole_of docs) = ap grammar own ∙ segment_reads docs part (subst (λ (x : List ℕ). length x < 2 ^ 64) own room) in
    let same : whole_of docs ≡ w = cc in
    subst (Holds docs) same (whole_holds docs)

pub held_only : (bytes : List ℕ) (w : Whole) (found docs : List Document) → grammar bytes ≡ Ok w → Holds found w → length bytes < 2 ^ 64 → IsPart docs → bytes ≡ segment docs → found ≡ docs
held_only bytes w found docs is h room part own = held_once w found docs h (holds_own bytes w docs is room part own)

pub none_only : (bytes : List ℕ) (w : Whole) (docs : List Document) → grammar bytes ≡ Ok w → ((docs : List Document) → Holds docs w → ⊥) → length bytes < 2 ^ 64 → IsPart docs → bytes ≡ segment docs → ⊥
none_only bytes w docs is none room part own = none docs (holds_own bytes w docs is room part own)

-- its blocks end where the file does
pub ends_within : (bytes : List ℕ) (w : Whole) → IsBytes bytes → grammar bytes ≡ Ok w → w.header.blocks_at + sum_by (λ (ps : List Place). length (blocks_of ps)) w.postings ≡ length bytes
ends_within bytes w small is = blocks_end bytes w small (file_is_read bytes w small is)

-- the place where a posting stands a second time, else the end of the file
pub place_across : (read : Result Whole Fault) (w v : Whole) (found : Option ℕ) (place size : ℕ) → read ≡ Ok w → read ≡ Ok v → found ≡ told_twice w → place ≡ unwrap_or found size → place ≡ unwrap_or (told_twice v) size
place_across read w v found place size a b told is =
    let same : w ≡ v = cc in
    is ∙ ap (λ (o : Option ℕ). unwrap_or o size) (told ∙ ap told_twice same)
