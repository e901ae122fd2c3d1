-- What a part on disk reads as, together with its file.
use Rattle.std.specs.Prelude.{◌≡◌, ◌<◌, ◌^◌, ℕ, zero, suc, ◌+◌, ◌/◌, ◌==◌, Bool, false, ◌||◌, List, [], ◌∷◌, Option, Some, length, map, take, drop}
use Rattle.std.specs.List.{find}
use Rattle.std.specs.Option.{option_map_or}
use Rattle.std.specs.Result.{result_unwrap_or}
use Rattle.ri_base.specs.Documents.{Document}
use Rattle.store_ends.specs.Files.{Files}
use Rattle.seg_codec.specs.Blocks.{block}
use Rattle.seg_codec.specs.Part.{IsPart}
use Rattle.ri_base.specs.Vocabulary.{vocabulary_of}
use Rattle.seg_codec.specs.Fits.{FitBlock}
use Rattle.seg_codec.specs.Segment.{blocks_at, entry_of, index, segment}
use Rattle.seg_codec.specs.Spelling.{block_bytes}
use Rattle.seg_codec.specs.declared.blocks.BlockEntry.{BlockEntry}
use Rattle.seg_codec.specs.declared.dictionary.BlockPlace.{BlockPlace}
use Rattle.seg_codec.specs.declared.dictionary.TermBlocks.{TermBlocks}
use Rattle.seg_codec.specs.declared.documents.Entry.{Entry}
use Rattle.disk_index.specs.Blocks.{block_of, places_of}
use Rattle.disk_index.specs.Kept.{Kept, kept_of, place_in, place_of}
use Rattle.disk_index.specs.Names.{segment_name}

abbrev pub is_member : ℕ → List ℕ → Bool
is_member x [] = false
is_member x (y ∷ ys) = (y == x) || is_member x ys

-- the block that the file has at this place; none where the bytes there are no block of these documents
abbrev pub entries_in : List ℕ → List Entry → ℕ → BlockPlace → List BlockEntry
entries_in file outlines range p = result_unwrap_or (block outlines range (take p.length (drop p.place file))) []

-- the block of a term for a range; none where the dictionary has none
abbrev pub entries_of : List ℕ → List Entry → ℕ → TermBlocks → List BlockEntry
entries_of file outlines range t = option_map_or (entries_in file outlines range) (place_in range t) []

-- the term that stands at a place of a document: the first of the dictionary whose block has that place
abbrev pub term_at : List ℕ → List Entry → List TermBlocks → ℕ → ℕ → List ℕ
term_at file outlines dictionary id p =
    option_map_or (λ t. t.term) (find (λ t. is_member p (places_of id (entries_of file outlines (id / 64) t))) dictionary) []

-- the terms at so many places from p on
abbrev pub terms_from : (ℕ → List ℕ) → ℕ → ℕ → List (List ℕ)
terms_from at p zero = []
terms_from at p (suc n) = at p ∷ terms_from at (p + 1) n

-- the documents of these outlines, whose ids go up from id, with the terms that stand at their places
abbrev pub documents_from : (ℕ → ℕ → List ℕ) → ℕ → List Entry → List Document
documents_from at id [] = []
documents_from at id (o ∷ os) = record { docno = o.docno; tokens = terms_from (at id) 0 o.tokens; fields = o.fields } ∷ documents_from at (id + 1) os

-- what is kept, read together with a file, whatever its bytes are
unfoldable pub rebuilt : Kept → List ℕ → List Document
rebuilt kept file = documents_from (term_at file kept.outlines kept.dictionary) 0 kept.outlines

-- What is read of a file in which the segment of some documents was put. It has so many bytes, and all in front of its blocks is read
-- as it was put. So is each block, unless no block of these documents is read in its place: damage of a block shows.
pub record ShowsDamage (docs : List Document) (read : Option (List ℕ)) : Type 0 where
  pub bytes : List ℕ
  pub there : read ≡ Some bytes
  pub size : length bytes ≡ length (segment docs)
  pub front : take (blocks_at docs) bytes ≡ take (blocks_at docs) (segment docs)
  pub each : (term : List ℕ) (range : ℕ) (p : BlockPlace) (es : List BlockEntry) → place_of (index (blocks_at docs) (vocabulary_of docs) docs) term range ≡ Some p
      → FitBlock (map entry_of docs) range es → take p.length (drop p.place bytes) ≡ block_bytes range es → es ≡ block_of term range docs

-- The file of this number is told and there. The segment of these documents was put there, which are some that have one. Damage of it
-- shows.
pub record HasSegment (told : Option Files) (number : ℕ) (docs : List Document) : Type 0 where
  pub files : Files
  pub is_told : told ≡ Some files
  pub file : (files (segment_name number)).put ≡ Some (segment docs)
  pub part : IsPart docs
  pub small : length (segment docs) < 2 ^ 64
  pub shows : ShowsDamage docs (files (segment_name number)).read

-- the file of this number is read as it was put
abbrev pub IsIntact : Option Files → ℕ → Type 0
IsIntact told number = (files : Files) → told ≡ Some files → (files (segment_name number)).read ≡ (files (segment_name number)).put

-- The segment of these documents was put in the part's file, of which the part keeps docnos, lengths, fields and dictionary.
pub record IsBacked (told : Option Files) (kept : Kept) (docs : List Document) : Type 0 where
  pub has : HasSegment told kept.number docs
  pub same : kept ≡ kept_of kept.number docs
