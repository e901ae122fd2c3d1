-- What the opening of a segment's file gives, and why it is refused.
use Rattle.std.specs.Prelude.{◌≡◌, ◌≤◌, ◌<◌, ◌^◌, ℕ, ◌+◌, ◌-◌, List, length, take, drop, Result, Ok, Err, None}
use Rattle.ri_base.specs.declared.seg_fault.FileName.TheVariants.{Segment}
use Rattle.ri_base.specs.declared.seg_fault.PartName.{PartName}
use Rattle.ri_base.specs.declared.seg_fault.PartName.TheVariants as parts
use Rattle.ri_base.specs.declared.seg_fault.SegFault.{SegFault}
use Rattle.ri_base.specs.declared.seg_fault.SegFault.TheVariants.{Malformed, Missing, Store, Memory}
use Rattle.store_ends.specs.Files.{Files}
use Rattle.seg_codec.specs.Dictionary.{dictionary}
use Rattle.seg_codec.specs.Documents.{documents}
use Rattle.seg_codec.specs.Headers.{header}
use Rattle.seg_codec.specs.declared.documents.Entry.{Entry}
use Rattle.seg_codec.specs.declared.header.Header.{Header}
use Rattle.disk_index.specs.Blocks.{file_of}
use Rattle.disk_index.specs.Kept.{Kept}
use Rattle.disk_index.specs.Names.{segment_name}

-- the bytes from a place up to another
abbrev pub stretch : List ℕ → ℕ → ℕ → List ℕ
stretch file from end = take (end - from) (drop from file)

-- the header of a segment of so many documents
abbrev pub header_in : List ℕ → ℕ → Result Header ℕ
header_in file docs = header docs (length file) (stretch file 0 64)

abbrev pub documents_in : List ℕ → Header → List ℕ
documents_in file h = stretch file h.documents_at h.dictionary_at

abbrev pub dictionary_in : List ℕ → Header → List ℕ
dictionary_in file h = stretch file h.dictionary_at h.blocks_at

-- the parts stand one behind the other, their places are those of a file, and the number of terms has its size
pub record AreInOrder (h : Header) : Type 0 where
  pub documents : h.documents_at ≤ h.dictionary_at
  pub dictionary : h.dictionary_at ≤ h.blocks_at
  pub blocks : h.blocks_at ≤ h.length
  pub file : h.length < 2 ^ 64
  pub terms : h.terms < 2 ^ 32

-- the file begins with the header of a segment of so many documents, and what is kept are the parts behind it
pub record IsOpened (file : List ℕ) (docs : ℕ) (kept : Kept) : Type 0 where
  pub head : Header
  pub header_is : header_in file docs ≡ Ok head
  pub outlines_are : documents head (documents_in file head) ≡ Ok kept.outlines
  pub dictionary_is : dictionary head (dictionary_in file head) ≡ Ok kept.dictionary
  pub begin_is : kept.begin ≡ head.blocks_at

-- a part that ends at this place of its file can't be read, and its first bad field begins at that place
abbrev pub IsBroken : {A : Type 0} → Result A ℕ → ℕ → ℕ → Type 0
IsBroken (Ok x) end place = ⊥
IsBroken (Err left) end place = place ≡ end - left

-- the first part that can't be read
abbrev pub IsFirstBroken : List ℕ → ℕ → PartName → ℕ → Type 0
IsFirstBroken file docs parts.Header place = IsBroken (header_in file docs) (length (stretch file 0 64)) place
IsFirstBroken file docs parts.Documents place =
    (h : Header) × (header_in file docs ≡ Ok h) × IsBroken (documents h (documents_in file h)) (h.documents_at + length (documents_in file h)) place
IsFirstBroken file docs parts.Dictionary place =
    (h : Header) × (header_in file docs ≡ Ok h) × (es : List Entry) × (documents h (documents_in file h) ≡ Ok es)
    × IsBroken (dictionary h (dictionary_in file h)) (h.dictionary_at + length (dictionary_in file h)) place
IsFirstBroken file docs parts.Manifest place = ⊥
IsFirstBroken file docs parts.Block place = ⊥
IsFirstBroken file docs parts.Prior place = ⊥

-- Why a segment of so many documents isn't opened: its bytes aren't those of one, and then the place is that of the first bad
-- field, or there is no such file.
abbrev pub IsOpenFault : Files → ℕ → ℕ → SegFault → Type 0
IsOpenFault files number docs (Malformed file part place) = (file ≡ Segment number) × IsFirstBroken (file_of files number) docs part place
IsOpenFault files number docs (Missing file) = (file ≡ Segment number) × ((files (segment_name number)).read ≡ None)
IsOpenFault files number docs Store = Unit {0}
IsOpenFault files number docs Memory = Unit {0}
