-- the segment of documents is read as what they hold
use Rattle.std.proofs.Common.{◌≡◌, ◌<◌, ◌≤◌, ℕ, ◌+◌, ◌-◌, ◌^◌, List, [], ◌∷◌, ◌++◌, length, map, take, drop, Bool, true, false, cond, eqb, Result, Ok, refl, sym, ap, ◌∙◌, append_assoc, arith}
use Rattle.std.specs.Int.{w32}
use Rattle.std.specs.List.{flat_map}
use Rattle.std.proofs.lemmas.Bool.{eqb-true}
use Rattle.std.proofs.lemmas.List.{append-nil, drop_at, length-append, take_at}
use Rattle.std.proofs.lemmas.List.Concat.{flat_map-cons}
use Rattle.ri_base.proofs.Codec.{number_codec, wide32}
use Rattle.ri_base.specs.Documents.{Document}
use Rattle.ri_base.specs.Places.{postings_of}
use Rattle.ri_base.specs.Vocabulary.{vocabulary_of}
use Rattle.ri_base.specs.declared.places.Place.{Place}
use Rattle.ri_base.specs.declared.seg_fault.PartName.TheVariants as parts
use Rattle.seg_codec.specs.Blocks.{block}
use Rattle.seg_codec.specs.Dictionary.{dictionary}
use Rattle.seg_codec.specs.Documents.{documents}
use Rattle.seg_codec.specs.Headers.{header}
use Rattle.seg_codec.specs.Fits.{FitBlock}
use Rattle.seg_codec.specs.Held.{Holds, terms_of, whole_of}
use Rattle.seg_codec.specs.Part.{IsPart}
use Rattle.seg_codec.specs.Segment.{ahead, all_blocks, block_entry_of, block_of, blocks_at, blocks_of, cut, dictionary_at, entry_of, first, header_of, id_of, index, placed, range_of, segment}
use Rattle.seg_codec.specs.Spelling.{dictionary_bytes, documents_bytes, header_bytes}
use Rattle.seg_codec.specs.Whole.{Fault, all_postings, and_then, between, block_in, block_postings, dictionary_in, docs_told, documents_in, grammar, header_in, in_part, number_or_none, term_postings}
use Rattle.seg_codec.specs.declared.dictionary.TermBlocks.{TermBlocks}
use Rattle.seg_codec.specs.declared.documents.Entry.{Entry}
use Rattle.seg_codec.specs.declared.header.Header.{Header}
use Rattle.seg_codec.proofs.BlockLaws.{block_again}
use Rattle.seg_codec.proofs.DictionaryFits.{dictionary_length}
use Rattle.seg_codec.proofs.DictionaryLaws.{dictionary_again}
use Rattle.seg_codec.proofs.DocumentLaws.{documents_again}
use Rattle.seg_codec.proofs.GrammarLemmas.{parts_read}
use Rattle.seg_codec.proofs.HeaderLaws.{header_again}
use Rattle.seg_codec.proofs.SegmentLaws.{BlocksFit, blocks_fit, parts_fit}

-- ---- the middle of bytes

middle : (a b c : List ℕ) (from to : ℕ) → length a ≡ from → from + length b ≡ to → between (a ++ (b ++ c)) from to ≡ b
middle a b c from to start end =
    let size : length b ≡ to - from = omega arith in
    ap (take (to - from)) (drop_at a (b ++ c) from start) ∙ take_at b c (to - from) size

-- ---- what was cut, joined again

abbrev joined : List (List Place) → List Place
joined gs = flat_map (λ (g : List Place). g) gs

ahead_joined : (f : Place → ℕ) (x : Place) (gs : List (List Place)) → joined (ahead f x gs) ≡ x ∷ joined gs
ahead_joined f x [] = refl
ahead_joined f x ([] ∷ gs) = refl
ahead_joined f x ((y ∷ ys) ∷ gs) = by (eqb (f y) (f x))
  where
    by : (b : Bool) → joined (cond b ((x ∷ y ∷ ys) ∷ gs) ((x ∷ []) ∷ (y ∷ ys) ∷ gs)) ≡ x ∷ joined ((y ∷ ys) ∷ gs)
    by true = refl
    by false = refl

cut_joined : (f : Place → ℕ) (ps : List Place) → joined (cut f ps) ≡ ps
unfolding cut
cut_joined f [] = refl
cut_joined f (p ∷ ps) = ahead_joined f p (cut f ps) ∙ ap (λ l. p ∷ l) (cut_joined f ps)

-- the postings of the documents that were cut
abbrev of_groups : List (List Place) → List Place
of_groups gs = block_postings (map block_entry_of gs)

ahead_of_groups : (x : Place) (gs : List (List Place)) → of_groups (ahead id_of x gs) ≡ x ∷ of_groups gs
ahead_of_groups x [] = refl
ahead_of_groups x ([] ∷ gs) = refl
ahead_of_groups x ((y ∷ ys) ∷ gs) = by (eqb y.id x.id) refl
  where
    own : ℕ → List Place
    own id = map (λ p. record { id = id; at = p }) (y.at ∷ map (λ (p : Place). p.at) ys)

    by : (b : Bool) → eqb y.id x.id ≡ b → of_groups (cond b ((x ∷ y ∷ ys) ∷ gs) ((x ∷ []) ∷ (y ∷ ys) ∷ gs)) ≡ x ∷ of_groups ((y ∷ ys) ∷ gs)
    by true e = ap (λ (id : ℕ). x ∷ (own id ++ of_groups gs)) (sym (eqb-true y.id x.id e))
    by false e = refl

cut_of_groups : (ps : List Place) → of_groups (cut id_of ps) ≡ ps
unfolding cut
cut_of_groups [] = refl
cut_of_groups (p ∷ ps) = ahead_of_groups p (cut id_of ps) ∙ ap (λ l. p ∷ l) (cut_of_groups ps)

-- ---- the blocks of a term

abbrev read_postings : List Place → Result (List Place) Fault
read_postings ps = Ok ps

block_read : (bytes front back : List ℕ) (es : List Entry) (at : ℕ) (g : List Place) → bytes ≡ front ++ (block_of g ++ back) → length front ≡ at → FitBlock es (first range_of g) (map block_entry_of (cut id_of g))
    → block_in bytes es (record { range = first range_of g; place = at; length = length (block_of g) }) ≡ Ok (map block_entry_of (cut id_of g))
block_read bytes front back es at g is start fit =
    let here : between bytes at (at + length (block_of g)) ≡ block_of g = ap (λ (x : List ℕ). between x at (at + length (block_of g))) is ∙ middle front (block_of g) back at (at + length (block_of g)) start refl in
    let one : block es (first range_of g) (between bytes at (at + length (block_of g))) ≡ Ok (map block_entry_of (cut id_of g)) = ap (block es (first range_of g)) here ∙ block_again es (first range_of g) (map block_entry_of (cut id_of g)) fit in
    ap (in_part parts.Block (at + length (between bytes at (at + length (block_of g))))) one

groups_read : (bytes front back : List ℕ) (docs : List Document) (at : ℕ) (gs : List (List Place)) → bytes ≡ front ++ (flat_map block_of gs ++ back) → length front ≡ at → BlocksFit docs gs
    → term_postings bytes (map entry_of docs) (placed at gs) ≡ Ok (joined gs)
unfolding term_postings
groups_read bytes front back docs at [] is start fit = refl
groups_read bytes front back docs at (g ∷ gs) is start fit =
    let es = map entry_of docs in
    let rest : List ℕ = flat_map block_of gs ++ back in
    let here : bytes ≡ front ++ (block_of g ++ rest) = is ∙ ap (λ (l : List ℕ). front ++ l) (ap (λ (l : List ℕ). l ++ back) (flat_map-cons block_of g gs) ∙ append_assoc (block_of g) (flat_map block_of gs) back) in
    let next : bytes ≡ (front ++ block_of g) ++ rest = here ∙ sym (append_assoc front (block_of g) rest) in
    let end : length (front ++ block_of g) ≡ at + length (block_of g) = omega (arith, length-append front (block_of g)) in
    let first_read = block_read bytes front rest es at g here start fit.0 in
    let rest_read : term_postings bytes es (placed (at + length (block_of g)) gs) ≡ Ok (joined gs) = groups_read bytes (front ++ block_of g) back docs (at + length (block_of g)) gs next end fit.1 in
    ap (λ r. and_then r (λ x. and_then (term_postings bytes es (placed (at + length (block_of g)) gs)) (λ xs. read_postings (block_postings x ++ xs)))) first_read
    ∙ ap (λ r. and_then r (λ xs. read_postings (of_groups (cut id_of g) ++ xs))) rest_read
    ∙ ap (λ (l : List Place). read_postings (l ++ joined gs)) (cut_of_groups g)

term_read_back : (bytes front back : List ℕ) (docs : List Document) (at : ℕ) (t : List ℕ) → IsPart docs → bytes ≡ front ++ (blocks_of (postings_of t docs) ++ back) → length front ≡ at
    → term_postings bytes (map entry_of docs) (placed at (cut range_of (postings_of t docs))) ≡ Ok (postings_of t docs)
term_read_back bytes front back docs at t part is start =
    groups_read bytes front back docs at (cut range_of (postings_of t docs)) is start (blocks_fit docs t part) ∙ ap read_postings (cut_joined range_of (postings_of t docs))

-- ---- the blocks of all terms

abbrev read_all : List (List Place) → Result (List (List Place)) Fault
read_all pss = Ok pss

index_read : (bytes front back : List ℕ) (docs : List Document) (at : ℕ) (ts : List (List ℕ)) → IsPart docs → bytes ≡ front ++ (all_blocks ts docs ++ back) → length front ≡ at
    → all_postings bytes (map entry_of docs) (index at ts docs) ≡ Ok (map (λ (t : List ℕ). postings_of t docs) ts)
unfolding all_postings
index_read bytes front back docs at [] part is start = refl
index_read bytes front back docs at (t ∷ ts) part is start =
    let es = map entry_of docs in
    let ps : List Place = postings_of t docs in
    let rest : List ℕ = all_blocks ts docs ++ back in
    let here : bytes ≡ front ++ (blocks_of ps ++ rest) = is ∙ ap (λ (l : List ℕ). front ++ l) (ap (λ (l : List ℕ). l ++ back) (flat_map-cons (λ (u : List ℕ). blocks_of (postings_of u docs)) t ts) ∙ append_assoc (blocks_of ps) (all_blocks ts docs) back) in
    let next : bytes ≡ (front ++ blocks_of ps) ++ rest = here ∙ sym (append_assoc front (blocks_of ps) rest) in
    let end : length (front ++ blocks_of ps) ≡ at + length (blocks_of ps) = omega (arith, length-append front (blocks_of ps)) in
    let rest_read : all_postings bytes es (index (at + length (blocks_of ps)) ts docs) ≡ Ok (map (λ (u : List ℕ). postings_of u docs) ts) = index_read bytes (front ++ blocks_of ps) back docs (at + length (blocks_of ps)) ts part next end in
    ap (λ r. and_then r (λ x. and_then (all_postings bytes es (index (at + length (blocks_of ps)) ts docs)) (λ xs. read_all (x ∷ xs)))) (term_read_back bytes front rest docs at t part here start)
    ∙ ap (λ r. and_then r (λ xs. read_all (ps ∷ xs))) rest_read

-- ---- the whole file

told_by_header : (h : Header) → h.docs < 2 ^ 32 → docs_told (header_bytes h) ≡ h.docs
told_by_header h small = ap number_or_none ((number_codec w32 (2 ^ 32) wide32).again h.docs (drop 16 (header_bytes h)) small)

pub segment_reads : (docs : List Document) → IsPart docs → length (segment docs) < 2 ^ 64 → grammar (segment docs) ≡ Ok (whole_of docs)
unfolding segment
segment_reads docs part room =
    let h : Header = header_of docs in
    let es : List Entry = map entry_of docs in
    let ts : List TermBlocks = index (blocks_at docs) (vocabulary_of docs) docs in
    let a : List ℕ = header_bytes h in
    let b : List ℕ = documents_bytes es in
    let d : List ℕ = dictionary_bytes ts in
    let e : List ℕ = all_blocks (vocabulary_of docs) docs in
    let file : List ℕ = a ++ (b ++ (d ++ e)) in
    let fits = parts_fit docs part room in
    let few : length docs ≤ 1048576 = part.few in
    let start : length a ≡ 64 = refl in
    let front : take 64 file ≡ a = take_at a (b ++ (d ++ e)) 64 start in
    let small : length docs < 2 ^ 32 = omega arith in
    let count : docs_told a ≡ length docs = told_by_header h small in
    let header_is : header (docs_told (take 64 file)) (length file) (take 64 file) ≡ Ok h =
    ap (λ (x : List ℕ). header (docs_told x) (length file) x) front ∙ ap (λ (n : ℕ). header n (length file) a) count ∙ header_again (length docs) (length file) h fits.0 in
    let header_read : header_in file ≡ Ok h = ap (in_part parts.Header (length (take 64 file))) header_is in
    let documents_here : between file 64 (dictionary_at docs) ≡ b = middle a b (d ++ e) 64 (dictionary_at docs) start refl in
    let documents_read : documents_in file h ≡ Ok es =
    ap (in_part parts.Documents (64 + length (between file 64 (dictionary_at docs)))) (ap (documents h) documents_here ∙ documents_again h es fits.1.0) in
    let grouped : file ≡ (a ++ b) ++ (d ++ e) = sym (append_assoc a b (d ++ e)) in
    let longer : length (a ++ b) ≡ dictionary_at docs = length-append a b in
    let size : dictionary_at docs + length d ≡ blocks_at docs = omega (arith, dictionary_length (blocks_at docs) (vocabulary_of docs) docs) in
    let dictionary_here : between file (dictionary_at docs) (blocks_at docs) ≡ d = ap (λ (x : List ℕ). between x (dictionary_at docs) (blocks_at docs)) grouped ∙ middle (a ++ b) d e (dictionary_at docs) (blocks_at docs) longer size in
    let dictionary_read : dictionary_in file h ≡ Ok ts =
    ap (in_part parts.Dictionary (dictionary_at docs + length (between file (dictionary_at docs) (blocks_at docs)))) (ap (dictionary h) dictionary_here ∙ dictionary_again h ts fits.1.1) in
    let before : List ℕ = (a ++ b) ++ d in
    let blocks_here : file ≡ before ++ (e ++ []) = grouped ∙ sym (append_assoc (a ++ b) d e) ∙ ap (λ (x : List ℕ). before ++ x) (sym (append-nil e)) in
    let blocks_start : length before ≡ blocks_at docs = omega (arith, length-append (a ++ b) d, longer, size) in
    parts_read file h es ts (map (λ (t : List ℕ). postings_of t docs) (vocabulary_of docs)) header_read documents_read dictionary_read (index_read file before [] docs (blocks_at docs) (vocabulary_of docs) part blocks_here blocks_start)

terms_of_index : (at : ℕ) (ts : List (List ℕ)) (docs : List Document) → terms_of (index at ts docs) ≡ ts
terms_of_index at [] docs = refl
terms_of_index at (t ∷ ts) docs = ap (λ l. t ∷ l) (terms_of_index (at + length (blocks_of (postings_of t docs))) ts docs)

pub whole_holds : (docs : List Document) → Holds docs (whole_of docs)
whole_holds docs = record { documents = refl; terms = sym (terms_of_index (blocks_at docs) (vocabulary_of docs) docs); postings = refl }
