-- Documents put together again from the blocks of a range.
use Rattle.std.specs.Prelude.{ℕ, ◌+◌, ◌-◌, ◌*◌, ◌%◌, ◌^◌, min, Bool, false, List, [], ◌∷◌, length, map, set, Option, Some, None, Result, Ok, Err, slice_get, slice_index_or, is_none, nat_lt, if◌then◌else◌}
use Rattle.std.specs.List.{find}
use Rattle.std.specs.Option.{option_and_then, option_map, option_map_or}
use Rattle.std.specs.Str.{bytes_eq}
use Rattle.ri_base.specs.Documents.{Document}
use Rattle.seg_codec.specs.declared.blocks.BlockEntry.{BlockEntry}
use Rattle.seg_codec.specs.declared.dictionary.TermBlocks.{TermBlocks}
use Rattle.seg_codec.specs.declared.documents.Entry.{Entry}
use Rattle.disk_index.specs.Ranks.{term_of}

-- of each token of a document the rank of its term, where a block has told it
abbrev pub Slots : Type 0
Slots = List (Option ℕ)

-- there is such a token, and its rank isn't told yet
abbrev pub is_free : Slots → ℕ → Bool
is_free slots p = option_map_or (λ s. is_none s) (slice_get slots p) false

-- so many bytes behind a place; beyond the greatest number no place is told
abbrev pub behind : ℕ → ℕ → ℕ
behind at n = min (at + n) (2 ^ 64 - 1)

-- a further step, where the one before didn't end at a place
abbrev pub then_put : {A B : Type 0} → (A → Result B ℕ) → Result A ℕ → Result B ℕ
then_put f (Ok x) = f x
then_put f (Err place) = Err place

-- The rank is told at these places, the first of which stands there in the file and each further one four bytes on. Where one of
-- them isn't free, it is told where that one stands.
abbrev pub put_places : ℕ → ℕ → List ℕ → Slots → Result Slots ℕ
put_places at rank [] slots = Ok slots
put_places at rank (p ∷ ps) slots = if is_free slots p then put_places (behind at 4) rank ps (set slots p (Some rank)) else Err at

-- the same of an entry, in the row of its document among those of a range of 64 ids
abbrev pub put_entry : ℕ → ℕ → BlockEntry → List Slots → Result (List Slots) ℕ
put_entry at rank e rows =
    if nat_lt (e.id % 64) (length rows) then then_put (λ slots. Ok (set rows (e.id % 64) slots)) (put_places at rank e.positions (slice_index_or rows (e.id % 64) [])) else Err at

-- The same of entries, the first of which stands there. Before the places of each stand its id, of one byte, and their number, of four.
abbrev pub put_entries : ℕ → ℕ → List BlockEntry → List Slots → Result (List Slots) ℕ
put_entries at rank [] rows = Ok rows
put_entries at rank (e ∷ es) rows = then_put (put_entries (behind (behind at 5) (4 * length e.positions)) rank es) (put_entry (behind at 5) rank e rows)

-- the same of a block that begins there, with the number of its entries in its first byte
abbrev pub put_block : ℕ → ℕ → List BlockEntry → List Slots → Result (List Slots) ℕ
put_block begin rank es rows = put_entries (behind begin 1) rank es rows

-- of each row how many tokens there are
abbrev pub lengths : List Slots → List ℕ
lengths rows = map (λ r. length r) rows

-- the first of these ranks whose term this is
abbrev pub rank_in : List TermBlocks → List ℕ → List ℕ → Option ℕ
rank_in dictionary ks t = find (λ k. bytes_eq (term_of dictionary k) t) ks

-- of each token of some documents the first of these ranks whose term it is
abbrev pub rows_of : List TermBlocks → List ℕ → List Document → List Slots
rows_of dictionary ks docs = map (λ d. map (rank_in dictionary ks) d.tokens) docs

-- the term of a rank; none where none is told
abbrev pub term_in : List TermBlocks → Option ℕ → Option (List ℕ)
term_in dictionary slot = option_and_then (λ k. option_map (λ t. t.term) (slice_get dictionary k)) slot

-- the terms of all tokens; none where one has none
abbrev pub all_terms : List TermBlocks → Slots → Option (List (List ℕ))
all_terms dictionary [] = Some []
all_terms dictionary (s ∷ ss) = option_and_then (λ t. option_map (λ ts. t ∷ ts) (all_terms dictionary ss)) (term_in dictionary s)

-- the document of this outline with the terms of its tokens
abbrev pub document_of : List TermBlocks → Entry → Slots → Option Document
document_of dictionary o slots = option_map (λ ts. record { docno = o.docno; tokens = ts; fields = o.fields }) (all_terms dictionary slots)

-- the documents of these outlines
abbrev pub documents_of : List TermBlocks → List Entry → List Slots → Option (List Document)
documents_of dictionary [] rows = Some []
documents_of dictionary (o ∷ os) [] = None
documents_of dictionary (o ∷ os) (r ∷ rs) = option_and_then (λ d. option_map (λ ds. d ∷ ds) (documents_of dictionary os rs)) (document_of dictionary o r)
