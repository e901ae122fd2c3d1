-- The segment of some documents is opened as what is kept of them.
use Rattle.std.proofs.Common.{◌≡◌, ◌<◌, ◌≤◌, ℕ, ◌+◌, ◌-◌, ◌^◌, List, [], ◌++◌, length, map, take, drop, ◌⊎◌, inl, inr, Option, Result, Ok, Err, refl, sym, ap, subst, ◌∙◌, append_assoc, arith, length-append}
use Rattle.std.specs.Int.{w32, w64, to_le_bytes}
use Rattle.std.specs.Option.{unwrap_or}
use Rattle.std.proofs.lemmas.List.{drop-take, drop_at, take-take, take_at}
use Rattle.ri_base.specs.Documents.{Document}
use Rattle.ri_base.specs.Faults.{IsOutside}
use Rattle.ri_base.specs.Vocabulary.{vocabulary_of}
use Rattle.ri_base.specs.declared.seg_fault.PartName.{PartName}
use Rattle.ri_base.specs.declared.seg_fault.PartName.TheVariants as parts
use Rattle.ri_base.specs.declared.seg_fault.SegFault.{SegFault}
use Rattle.ri_base.specs.declared.seg_fault.SegFault.TheVariants.{Malformed, Missing, Store, Memory}
use Rattle.store_ends.specs.Files.{Files}
use Rattle.ri_base.specs.Fields.{number}
use Rattle.ri_base.proofs.Codec.{number_codec, ok_is, wide32}
use Rattle.seg_codec.specs.Dictionary.{dictionary}
use Rattle.seg_codec.specs.Documents.{documents}
use Rattle.seg_codec.specs.Headers.{header}
use Rattle.seg_codec.specs.Part.{IsPart}
use Rattle.seg_codec.specs.Segment.{all_blocks, blocks_at, dictionary_at, dictionary_size, entry_of, header_of, index, segment}
use Rattle.seg_codec.specs.Spelling.{dictionary_bytes, documents_bytes, header_bytes}
use Rattle.seg_codec.specs.declared.dictionary.TermBlocks.{TermBlocks}
use Rattle.seg_codec.specs.declared.documents.Entry.{Entry}
use Rattle.seg_codec.specs.declared.header.Header.{Header}
use Rattle.seg_codec.proofs.DictionaryFits.{dictionary_length}
use Rattle.seg_codec.proofs.DictionaryLaws.{dictionary_again}
use Rattle.seg_codec.proofs.DocumentLaws.{documents_again}
use Rattle.seg_codec.proofs.HeaderLaws.{header_again}
use Rattle.seg_codec.proofs.SegmentLaws.{parts_fit}
use Rattle.disk_index.specs.Blocks.{IsReadFault, file_of}
use Rattle.disk_index.specs.Kept.{IsSegmentOf, Kept, kept_of}
use Rattle.disk_index.specs.Opening.{IsBroken, IsFirstBroken, IsOpenFault, IsOpened, dictionary_in, documents_in, header_in, stretch}
use Rattle.disk_index.specs.Reads.{HasSegment}

-- ---- the parts of a segment

header_here : (docs : List Document) → stretch (segment docs) 0 64 ≡ header_bytes (header_of docs)
unfolding segment
header_here docs =
    let behind = documents_bytes (map entry_of docs) ++ (dictionary_bytes (index (blocks_at docs) (vocabulary_of docs) docs) ++ all_blocks (vocabulary_of docs) docs) in
    take_at (header_bytes (header_of docs)) behind 64 refl

documents_here : (docs : List Document) → documents_in (segment docs) (header_of docs) ≡ documents_bytes (map entry_of docs)
unfolding segment
documents_here docs =
    let own = documents_bytes (map entry_of docs) in
    let behind = dictionary_bytes (index (blocks_at docs) (vocabulary_of docs) docs) ++ all_blocks (vocabulary_of docs) docs in
    let size : length own ≡ dictionary_at docs - 64 = omega arith in
    ap (take (dictionary_at docs - 64)) (drop_at (header_bytes (header_of docs)) (own ++ behind) 64 refl) ∙ take_at own behind (dictionary_at docs - 64) size

dictionary_here : (docs : List Document) → dictionary_in (segment docs) (header_of docs) ≡ dictionary_bytes (index (blocks_at docs) (vocabulary_of docs) docs)
unfolding segment
dictionary_here docs =
    let head = header_bytes (header_of docs) in
    let front = documents_bytes (map entry_of docs) in
    let own = dictionary_bytes (index (blocks_at docs) (vocabulary_of docs) docs) in
    let behind = all_blocks (vocabulary_of docs) docs in
    let count : length head ≡ 64 = refl in
    let from : length (head ++ front) ≡ dictionary_at docs = length-append head front ∙ omega (arith, count) in
    let known : length own ≡ dictionary_size (vocabulary_of docs) docs = dictionary_length (blocks_at docs) (vocabulary_of docs) docs in
    let size : length own ≡ blocks_at docs - dictionary_at docs = omega (arith, known) in
    ap (λ (l : List ℕ). take (blocks_at docs - dictionary_at docs) (drop (dictionary_at docs) l)) (sym (append_assoc head front (own ++ behind)))
    ∙ ap (take (blocks_at docs - dictionary_at docs)) (drop_at (head ++ front) (own ++ behind) (dictionary_at docs) from) ∙ take_at own behind (blocks_at docs - dictionary_at docs) size

-- the number of documents, behind the first twelve bytes
pub docs_here : (docs : List Document) → length docs < 2 ^ 32 → (rest : List ℕ) × (number w32 (drop 12 (segment docs)) ≡ Ok (length docs, rest))
unfolding segment
docs_here docs few =
    let h = header_of docs in
    let behind = to_le_bytes w64 h.tokens ++ to_le_bytes w32 h.terms ++ to_le_bytes w32 h.names ++ to_le_bytes w64 h.documents_at ++ to_le_bytes w64 h.dictionary_at ++ to_le_bytes w64 h.blocks_at ++ to_le_bytes w64 h.length in
    let others = documents_bytes (map entry_of docs) ++ (dictionary_bytes (index (blocks_at docs) (vocabulary_of docs) docs) ++ all_blocks (vocabulary_of docs) docs) in
    (behind ++ others, ap (number w32) (append_assoc (to_le_bytes w32 (length docs)) behind others) ∙ (number_codec w32 (2 ^ 32) wide32).again (length docs) (behind ++ others) few)

-- a reading that gives a value isn't broken
not_broken : {A : Type 0} (r : Result A ℕ) (x : A) (end place : ℕ) → r ≡ Ok x → IsBroken r end place → ⊥
not_broken (Ok y) x end place e h = h
not_broken (Err n) x end place e h = cc

-- a stretch in the front of bytes
stretch-taken : (a : List ℕ) (n from end : ℕ) → end ≤ n → stretch a from end ≡ stretch (take n a) from end
stretch-taken a n from end within =
    let cases : (from ≤ n) ⊎ (end - from ≡ 0) = grind arith in
    elim cases [
      | inl inside ↦ sym (ap (λ m. take (end - from) (drop from (take m a))) (omega (arith, inside)) ∙ ap (take (end - from)) (drop-take from (n - from) a) ∙ take-take (end - from) (n - from) (drop from a) (omega (arith, inside, within)))
      | inr none ↦ ap (λ m. take m (drop from a)) none ∙ sym (ap (λ m. take m (drop from (take n a))) none)
    ]

stretch-front : (a b : List ℕ) (n from end : ℕ) → take n a ≡ take n b → end ≤ n → stretch a from end ≡ stretch b from end
stretch-front a b n from end same within = stretch-taken a n from end within ∙ ap (λ (l : List ℕ). stretch l from end) same ∙ sym (stretch-taken b n from end within)

module _ (docs : List Document) (part : IsPart docs) (small : length (segment docs) < 2 ^ 64) (bytes : List ℕ) (size : length bytes ≡ length (segment docs)) (front : take (blocks_at docs) bytes ≡ take (blocks_at docs) (segment docs)) where
  header_read : header_in bytes (length docs) ≡ Ok (header_of docs)
  header_read =
      ap (λ n. header (length docs) n (stretch bytes 0 64)) size
      ∙ ap (header (length docs) (length (segment docs))) (stretch-front bytes (segment docs) (blocks_at docs) 0 64 front (omega arith) ∙ header_here docs) ∙ header_again (length docs) (length (segment docs)) (header_of docs) (parts_fit docs part small).0

  documents_read : documents (header_of docs) (documents_in bytes (header_of docs)) ≡ Ok (map entry_of docs)
  documents_read =
      ap (documents (header_of docs)) (stretch-front bytes (segment docs) (blocks_at docs) 64 (dictionary_at docs) front (omega arith) ∙ documents_here docs) ∙ documents_again (header_of docs) (map entry_of docs) (parts_fit docs part small).1.0

  dictionary_read : dictionary (header_of docs) (dictionary_in bytes (header_of docs)) ≡ Ok (index (blocks_at docs) (vocabulary_of docs) docs)
  dictionary_read =
      ap (dictionary (header_of docs)) (stretch-front bytes (segment docs) (blocks_at docs) (dictionary_at docs) (blocks_at docs) front (omega arith) ∙ dictionary_here docs) ∙ dictionary_again (header_of docs) (index (blocks_at docs) (vocabulary_of docs) docs) (parts_fit docs part small).1.1

  pub segment-opened : (number : ℕ) (kept : Kept) → kept.number ≡ number → IsOpened bytes (length docs) kept → kept ≡ kept_of number docs
  unfolding kept_of
  segment-opened number kept is o =
      let head : o.head ≡ header_of docs = let a = o.header_is in let b = header_read in cc in
      let outlines : kept.outlines ≡ map entry_of docs =
      let a = o.outlines_are in
      let b = ap (λ (h : Header). documents h (documents_in bytes h)) head ∙ documents_read in
      cc in
      let terms : kept.dictionary ≡ index (blocks_at docs) (vocabulary_of docs) docs =
      let a = o.dictionary_is in
      let b = ap (λ (h : Header). dictionary h (dictionary_in bytes h)) head ∙ dictionary_read in
      cc in
      let begin : kept.begin ≡ blocks_at docs = o.begin_is ∙ ap (λ (h : Header). h.blocks_at) head in
      ap (λ n. record { number = n; outlines = kept.outlines; dictionary = kept.dictionary; begin = kept.begin }) is
      ∙ ap (λ (es : List Entry). record { number = number; outlines = es; dictionary = kept.dictionary; begin = kept.begin }) outlines
      ∙ ap (λ (ts : List TermBlocks). record { number = number; outlines = map entry_of docs; dictionary = ts; begin = kept.begin }) terms
      ∙ ap (λ n. record { number = number; outlines = map entry_of docs; dictionary = index (blocks_at docs) (vocabulary_of docs) docs; begin = n }) begin

  none_broken : (p : PartName) (place : ℕ) → IsFirstBroken bytes (length docs) p place → ⊥
  none_broken parts.Header place h = not_broken (header_in bytes (length docs)) (header_of docs) (length (stretch bytes 0 64)) place header_read h
  none_broken parts.Documents place h =
      let head : h.0 ≡ header_of docs = let a = h.1 in let b = header_read in cc in
      not_broken (documents h.0 (documents_in bytes h.0)) (map entry_of docs) (h.0.documents_at + length (documents_in bytes h.0)) place
      (ap (λ (x : Header). documents x (documents_in bytes x)) head ∙ documents_read) h.2
  none_broken parts.Dictionary place h =
      let head : h.0 ≡ header_of docs = let a = h.1 in let b = header_read in cc in
      not_broken (dictionary h.0 (dictionary_in bytes h.0)) (index (blocks_at docs) (vocabulary_of docs) docs) (h.0.dictionary_at + length (dictionary_in bytes h.0)) place
      (ap (λ (x : Header). dictionary x (dictionary_in bytes x)) head ∙ dictionary_read) h.4
  none_broken parts.Manifest place h = h
  none_broken parts.Block place h = h
  none_broken parts.Prior place h = h

-- ---- a file of a store

pub segment-file : (told : Option Files) (number : ℕ) (docs : List Document) → (s : HasSegment told number docs) → file_of s.files number ≡ s.shows.bytes
segment-file told number docs s = ap (λ (o : Option (List ℕ)). unwrap_or o []) s.shows.there

-- what was opened in it is what is kept of the documents
pub opened_as : (told : Option Files) (number count size : ℕ) (docs : List Document) → (s : HasSegment told number docs) → length docs ≡ count → size ≡ length (file_of s.files number) → size < 2 ^ 64
    → (kept : Kept) → kept.number ≡ number → IsOpened (file_of s.files number) count kept → kept ≡ kept_of number docs
opened_as told number count size docs s few is below kept own o =
    let file = segment-file told number docs s in
    segment-opened docs s.part s.small s.shows.bytes s.shows.size s.shows.front number kept own (subst (λ n. IsOpened s.shows.bytes n kept) (sym few) (subst (λ (l : List ℕ). IsOpened l count kept) file o))

-- its length is told
pub length_told : (told : Option Files) (number : ℕ) (docs : List Document) → (s : HasSegment told number docs) → (e : SegFault) → IsReadFault s.files number e → IsOutside e
length_told told number docs s (Malformed file part place) h = h
length_told told number docs s (Missing file) h = let a = s.shows.there in let b = h.1 in cc
length_told told number docs s Store h = tt
length_told told number docs s Memory h = tt

-- it isn't refused
pub never_refused : (told : Option Files) (number count size : ℕ) (docs : List Document) → (s : HasSegment told number docs) → length docs ≡ count → size ≡ length (file_of s.files number) → size < 2 ^ 64
    → (e : SegFault) → IsOpenFault s.files number count e → IsOutside e
never_refused told number count size docs s few is below (Malformed file part place) h =
    let file = segment-file told number docs s in
    none_broken docs s.part s.small s.shows.bytes s.shows.size s.shows.front part place
    (subst (λ n. IsFirstBroken s.shows.bytes n part place) (sym few) (subst (λ (l : List ℕ). IsFirstBroken l count part place) file h.1))
never_refused told number count size docs s few is below (Missing file) h = let a = s.shows.there in let b = h.1 in cc
never_refused told number count size docs s few is below Store h = tt
never_refused told number count size docs s few is below Memory h = tt

-- the number that was read is that of the documents
pub docs-told : (bytes rest : List ℕ) (n : ℕ) (docs : List Document) → IsSegmentOf bytes docs → number w32 (drop 12 bytes) ≡ Ok (n, rest) → n ≡ length docs
docs-told bytes rest n docs s read =
    let few : length docs ≤ 1048576 = s.part.few in
    let is = docs_here docs (omega (arith, few)) in
    let same : number w32 (drop 12 bytes) ≡ Ok (length docs, is.0) = ap (λ (l : List ℕ). number w32 (drop 12 l)) s.same ∙ is.1 in
    ap (λ (x : ℕ × List ℕ). x.0) (ok_is (n, rest) (length docs, is.0) (sym read ∙ same))

-- ---- one segment

opened : (docs : List Document) → IsPart docs → length (segment docs) < 2 ^ 64 → IsOpened (segment docs) (length docs) (kept_of 0 docs)
unfolding kept_of
opened docs part small = record {
  head = header_of docs;
  header_is = header_read docs part small (segment docs) refl refl;
  outlines_are = documents_read docs part small (segment docs) refl refl;
  dictionary_is = dictionary_read docs part small (segment docs) refl refl;
  begin_is = refl;
}

outlines-kept : (docs : List Document) → (kept_of 0 docs).outlines ≡ map entry_of docs
unfolding kept_of
outlines-kept docs = refl

number-kept : (docs : List Document) → (kept_of 0 docs).number ≡ 0
unfolding kept_of
number-kept docs = refl

-- documents of one segment are the same without their tokens
pub entries-same : (a b : List Document) → IsPart a → IsPart b → length (segment a) < 2 ^ 64 → length (segment b) < 2 ^ 64 → segment a ≡ segment b → map entry_of a ≡ map entry_of b
entries-same a b part other small below same =
    let few : length a ≤ 1048576 = part.few in
    let told = docs_here a (omega (arith, few)) in
    let count : length a ≡ length b = docs-told (segment a) told.0 (length a) b (record { same = same; part = other }) told.1 in
    let one = segment-opened b other below (segment a) (ap (λ (l : List ℕ). length l) same) (ap (λ (l : List ℕ). take (blocks_at b) l) same) 0 (kept_of 0 a) (number-kept a)
    (subst (λ n. IsOpened (segment a) n (kept_of 0 a)) count (opened a part small)) in
    sym (outlines-kept a) ∙ ap (λ (k : Kept). k.outlines) one ∙ outlines-kept b

-- ---- bytes

pub bytes-opened : (bytes : List ℕ) (number count : ℕ) (docs : List Document) → IsSegmentOf bytes docs → count ≡ length docs → length bytes < 2 ^ 64 → (kept : Kept) → kept.number ≡ number → IsOpened bytes count kept → kept ≡ kept_of number docs
bytes-opened bytes number count docs s is below kept own o =
    let small : length (segment docs) < 2 ^ 64 = subst (λ (l : List ℕ). length l < 2 ^ 64) s.same below in
    segment-opened docs s.part small bytes (ap (λ (l : List ℕ). length l) s.same) (ap (λ (l : List ℕ). take (blocks_at docs) l) s.same) number kept own (subst (λ n. IsOpened bytes n kept) is o)
