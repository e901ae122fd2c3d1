-- A whole segment file: what its parts hold, where each keeps its grammar.
use Rattle.std.specs.Prelude.{ℕ, ◌≡◌, ◌≤◌, ◌+◌, ◌-◌, List, [], ◌∷◌, ◌++◌, length, map, take, drop, Result, Ok, Err, nat_lt, if◌then◌else◌}
use Rattle.std.specs.Int.{w32}
use Rattle.std.specs.List.{flat_map}
use Rattle.ri_base.specs.Fields.{number}
use Rattle.ri_base.specs.Reading.{Reading}
use Rattle.ri_base.specs.Documents.{AreFields}
use Rattle.ri_base.specs.declared.limits.TheConstants.{MAX_DOC_TOKENS}
use Rattle.ri_base.specs.declared.places.Place.{Place}
use Rattle.ri_base.specs.declared.seg_fault.FileName.{FileName}
use Rattle.ri_base.specs.declared.seg_fault.PartName.{PartName}
use Rattle.ri_base.specs.declared.seg_fault.PartName.TheVariants as parts
use Rattle.ri_base.specs.declared.seg_fault.SegFault.{SegFault}
use Rattle.ri_base.specs.declared.seg_fault.SegFault.TheVariants as faults
use Rattle.seg_codec.specs.Blocks.{block}
use Rattle.seg_codec.specs.Dictionary.{dictionary}
use Rattle.seg_codec.specs.Documents.{documents}
use Rattle.seg_codec.specs.Headers.{header}
use Rattle.seg_codec.specs.declared.blocks.BlockEntry.{BlockEntry}
use Rattle.seg_codec.specs.declared.dictionary.BlockPlace.{BlockPlace}
use Rattle.seg_codec.specs.declared.dictionary.TermBlocks.{TermBlocks}
use Rattle.seg_codec.specs.declared.documents.Entry.{Entry}
use Rattle.seg_codec.specs.declared.header.Header.{Header}
use Rattle.seg_codec.specs.declared.whole.Whole.{Whole}

-- where the first bad field of a file begins, and in which part
pub record Fault : Type 0 where
  pub part : PartName
  pub place : ℕ

-- what is read of a part that ends at this place of the file
abbrev pub in_part : {A : Type 0} → PartName → ℕ → Result A ℕ → Result A Fault
in_part part end (Ok x) = Ok x
in_part part end (Err left) = Err (record { part = part; place = end - left })

abbrev pub and_then : {A B : Type 0} → Result A Fault → (A → Result B Fault) → Result B Fault
and_then (Ok x) f = f x
and_then (Err fault) f = Err fault

-- the bytes from one place on up to another
abbrev pub between : List ℕ → ℕ → ℕ → List ℕ
between bytes from to = take (to - from) (drop from bytes)

-- the number that was read
abbrev pub number_or_none : Reading ℕ → ℕ
number_or_none (Ok x) = x.0
number_or_none (Err left) = 0

-- how many documents a header tells, where it tells so
abbrev pub docs_told : List ℕ → ℕ
docs_told bytes = if nat_lt (length bytes) 12 then 0 else number_or_none (number w32 (drop 12 bytes))

abbrev pub header_in : List ℕ → Result Header Fault
header_in bytes = in_part parts.Header (length (take 64 bytes)) (header (docs_told (take 64 bytes)) (length bytes) (take 64 bytes))

abbrev pub documents_in : List ℕ → Header → Result (List Entry) Fault
documents_in bytes h = in_part parts.Documents (h.documents_at + length (between bytes h.documents_at h.dictionary_at)) (documents h (between bytes h.documents_at h.dictionary_at))

abbrev pub dictionary_in : List ℕ → Header → Result (List TermBlocks) Fault
dictionary_in bytes h = in_part parts.Dictionary (h.dictionary_at + length (between bytes h.dictionary_at h.blocks_at)) (dictionary h (between bytes h.dictionary_at h.blocks_at))

-- the bytes of a block
abbrev pub block_bytes_in : List ℕ → BlockPlace → List ℕ
block_bytes_in bytes b = between bytes b.place (b.place + b.length)

abbrev pub block_in : List ℕ → List Entry → BlockPlace → Result (List BlockEntry) Fault
block_in bytes es b = in_part parts.Block (b.place + length (block_bytes_in bytes b)) (block es b.range (block_bytes_in bytes b))

-- the postings of a block
abbrev pub entry_postings : BlockEntry → List Place
entry_postings e = map (λ p. record { id = e.id; at = p }) e.positions

abbrev pub block_postings : List BlockEntry → List Place
block_postings es = flat_map entry_postings es

-- the postings of a term, block by block
unfoldable pub term_postings : List ℕ → List Entry → List BlockPlace → Result (List Place) Fault
term_postings bytes es [] = Ok []
term_postings bytes es (b ∷ bs) = and_then (block_in bytes es b) (λ x. and_then (term_postings bytes es bs) (λ xs. Ok (block_postings x ++ xs)))

-- those of each term
unfoldable pub all_postings : List ℕ → List Entry → List TermBlocks → Result (List (List Place)) Fault
all_postings bytes es [] = Ok []
all_postings bytes es (t ∷ ts) = and_then (term_postings bytes es t.blocks) (λ x. and_then (all_postings bytes es ts) (λ xs. Ok (x ∷ xs)))

-- a block that lies within a file of so many bytes
abbrev pub LiesWithin : ℕ → BlockPlace → Type 0
LiesWithin size b = b.place + b.length ≤ size

-- parts that lie within a file of so many bytes, one behind the other
pub record ArePlaced (size : ℕ) (h : Header) : Type 0 where
  pub documents : h.documents_at ≡ 64
  pub dictionary : 64 ≤ h.dictionary_at
  pub blocks : h.dictionary_at ≤ h.blocks_at
  pub end : h.blocks_at ≤ size
  pub length_is : h.length ≡ size

-- the parts of a file in their order, or the first fault
unfoldable pub grammar : List ℕ → Result Whole Fault
grammar bytes =
    and_then (header_in bytes) (λ h. and_then (documents_in bytes h) (λ es. and_then (dictionary_in bytes h) (λ ts. and_then (all_postings bytes es ts) (λ ps. Ok (record { header = h; documents = es; terms = ts; postings = ps })))))

-- a document without its tokens whose fields are those of a document
pub record IsSound (e : Entry) : Type 0 where
  pub short : e.tokens ≤ MAX_DOC_TOKENS
  pub fields : AreFields e.tokens e.fields

-- the answer of a call that reads parts of a file
abbrev pub AnswersFile : {X A : Type 0} → (X → A) → Result X SegFault → Result A Fault → FileName → Type 0
AnswersFile view (Ok x) read file = read ≡ Ok (view x)
AnswersFile view (Err (faults.Malformed f p place)) read file = (f ≡ file) × (read ≡ Err (record { part = p; place = place }))
AnswersFile view (Err (faults.Missing f)) read file = ⊥
AnswersFile view (Err faults.Store) read file = ⊥
AnswersFile view (Err faults.Memory) read file = Unit {0}

-- this fault of this file, or want of memory
abbrev pub IsFaultOf : {X : Type 0} → Result X SegFault → FileName → Fault → Type 0
IsFaultOf (Ok x) file fault = ⊥
IsFaultOf (Err (faults.Malformed f p place)) file fault = (f ≡ file) × (record { part = p; place = place } ≡ fault)
IsFaultOf (Err (faults.Missing f)) file fault = ⊥
IsFaultOf (Err faults.Store) file fault = ⊥
IsFaultOf (Err faults.Memory) file fault = Unit {0}
