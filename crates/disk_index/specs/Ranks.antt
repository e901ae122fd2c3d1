-- The terms that have a block for a range, by their places in the dictionary.
use Rattle.std.specs.Prelude.{◌≡◌, ◌<◌, ◌+◌, ◌==◌, ℕ, List, [], ◌∷◌, ◌++◌, length, map, slice_index_or, is_some, if◌then◌else◌}
use Rattle.std.specs.Int.{div_ceil}
use Rattle.std.specs.List.{find}
use Rattle.seg_codec.specs.declared.dictionary.BlockPlace.{BlockPlace}
use Rattle.seg_codec.specs.declared.dictionary.TermBlocks.{TermBlocks}
use Rattle.seg_codec.specs.declared.documents.Entry.{Entry}
use Rattle.disk_index.specs.Kept.{AreKept}

-- the rank, if there is a block of the range
abbrev pub own_rank : ℕ → ℕ → List BlockPlace → List ℕ
own_rank range rank bs = if is_some (find (λ b. b.range == range) bs) then rank ∷ [] else []

-- the ranks of the terms that have a block for the range, where the first of these terms has the rank i
abbrev pub ranks_from : ℕ → ℕ → List TermBlocks → List ℕ
ranks_from range i [] = []
ranks_from range i (t ∷ ts) = own_rank range i t.blocks ++ ranks_from range (i + 1) ts

-- the places in the dictionary of the terms that have a block for the range, in order
unfoldable pub ranks_of : ℕ → List TermBlocks → List ℕ
ranks_of range dictionary = ranks_from range 0 dictionary

-- the term that stands there
abbrev pub term_of : List TermBlocks → ℕ → List ℕ
term_of dictionary rank = slice_index_or (map (λ t. t.term) dictionary) rank []

-- the ranks by range, for each range that has one of so many documents
pub record AreRanks (docs : ℕ) (dictionary : List TermBlocks) (rows : List (List ℕ)) : Type 0 where
  pub count : length rows ≡ div_ceil docs 64
  pub each : (range : ℕ) → range < length rows → slice_index_or rows range [] ≡ ranks_of range dictionary

-- all that a part on disk keeps, with the ranks
pub record AreHeld (outlines : List Entry) (dictionary : List TermBlocks) (rows : List (List ℕ)) : Type 0 where
  pub kept : AreKept outlines dictionary
  pub ranks : AreRanks (length outlines) dictionary rows

-- the rank of a term was put behind each range of which it has a block
pub record IsRanked (bs : List BlockPlace) (rank : ℕ) (old new : List (List ℕ)) : Type 0 where
  pub same_count : length new ≡ length old
  pub each : (range : ℕ) → range < length old → slice_index_or new range [] ≡ slice_index_or old range [] ++ own_rank range rank bs
