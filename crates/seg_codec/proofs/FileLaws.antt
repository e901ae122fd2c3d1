-- a file whose parts keep their grammar, and whose postings are those of documents, is the segment of these documents
use Rattle.std.proofs.Common.{◌≡◌, ◌<◌, ◌≤◌, ℕ, ◌+◌, ◌-◌, List, [], ◌∷◌, ◌++◌, length, map, take, drop, nat_le, Result, Ok, Err, refl, sym, ap, subst, ◌∙◌, arith}
use Rattle.std.specs.Prelude.{◌==◌, sum_by}
use Rattle.std.specs.Bool.{nat_eq}
use Rattle.std.specs.Cmp.Lexicographic.{pointwise}
use Rattle.std.specs.List.{flat_map}
use Rattle.std.proofs.Math.Seq.{take-add}
use Rattle.std.proofs.lemmas.Bool.{and_parts, eqb-true, leb-true}
use Rattle.std.proofs.lemmas.List.{drop-drop, length-drop, length-map, length-take, take_all}
use Rattle.std.proofs.lemmas.List.Concat.{flat_map-cons}
use Rattle.std.proofs.lemmas.List.Sums.{sum_by-cons}
use Rattle.ri_base.specs.Reading.{AllFit}
use Rattle.ri_base.proofs.Codec.{IsBytes, IsBytes-drop, IsBytes-take}
use Rattle.ri_base.specs.Collection.{token_count}
use Rattle.ri_base.specs.Documents.{Document}
use Rattle.ri_base.specs.Places.{postings_of}
use Rattle.ri_base.specs.Vocabulary.{vocabulary_of}
use Rattle.ri_base.specs.declared.places.Place.{Place}
use Rattle.ri_base.specs.declared.seg_fault.PartName.{PartName}
use Rattle.seg_codec.specs.Blocks.{block}
use Rattle.seg_codec.specs.Dictionary.{BehindTerm, behind, behind_term, end_of, end_of_all}
use Rattle.seg_codec.specs.Documents.{names_in_order}
use Rattle.seg_codec.specs.Fits.{FitBlock, FitDictionary, FitDocuments, FitsBlockPlace, FitsHeader, FitsTermBlocks}
use Rattle.seg_codec.specs.Segment.{all_blocks, block_of, blocks_at, blocks_of, cut, dictionary_at, dictionary_size, entry_of, first, header_of, index, placed, range_of, segment, term_blocks_of}
use Rattle.seg_codec.specs.Spelling.{block_bytes, dictionary_bytes, documents_bytes, header_bytes}
use Rattle.seg_codec.specs.Whole.{Fault, all_postings, and_then, between, block_bytes_in, block_in, block_postings, dictionary_in, docs_told, documents_in, grammar, header_in, in_part, term_postings}
use Rattle.seg_codec.specs.declared.blocks.BlockEntry.{BlockEntry}
use Rattle.seg_codec.specs.declared.dictionary.BlockPlace.{BlockPlace}
use Rattle.seg_codec.specs.declared.dictionary.TermBlocks.{TermBlocks}
use Rattle.seg_codec.specs.declared.documents.Entry.{Entry}
use Rattle.seg_codec.specs.declared.header.Header.{Header}
use Rattle.seg_codec.specs.declared.whole.Whole.{Whole}
use Rattle.seg_codec.proofs.BlockLaws.{block_takes}
use Rattle.seg_codec.proofs.DictionaryFits.{dictionary_length}
use Rattle.seg_codec.proofs.DictionaryLaws.{dictionary_takes}
use Rattle.seg_codec.proofs.DocumentFits.{counted}
use Rattle.seg_codec.proofs.DocumentLaws.{documents_take}
use Rattle.seg_codec.proofs.GroupLemmas.{Other, cut_range}
use Rattle.seg_codec.proofs.HeaderLaws.{header_takes}
use Rattle.seg_codec.proofs.WholeLemmas.{header_placed, places_within, terms_within}

-- ---- steps that did not fail

pub and_then_ok : {A B : Type 0} (r : Result A Fault) (f : A → Result B Fault) (y : B) → and_then r f ≡ Ok y → (x : A) × (r ≡ Ok x) × (f x ≡ Ok y)
and_then_ok (Ok x) f y e = (x, refl, e)
and_then_ok (Err fault) f y e = absurd cc

pub in_part_ok : {A : Type 0} (part : PartName) (end : ℕ) (r : Result A ℕ) (x : A) → in_part part end r ≡ Ok x → r ≡ Ok x
in_part_ok part end (Ok y) x e = cc
in_part_ok part end (Err left) x e = absurd cc

abbrev pub made : {A : Type 0} → A → Result A Fault
made x = Ok x

pub made_is : {A : Type 0} (x y : A) → made x ≡ made y → x ≡ y
made_is x y e = cc

-- ---- bytes between places

pub between_bytes : (bytes : List ℕ) (from to : ℕ) → IsBytes bytes → IsBytes (between bytes from to)
between_bytes bytes from to h = IsBytes-take (to - from) (drop from bytes) (IsBytes-drop from bytes h)

between_length : (bytes : List ℕ) (from to : ℕ) → from ≤ to → to ≤ length bytes → length (between bytes from to) ≡ to - from
between_length bytes from to le within =
    let l = length-take (to - from) (drop from bytes) in
    let k = length-drop from bytes in
    omega (arith, l, k)

between_none : (bytes : List ℕ) (at : ℕ) → between bytes at at ≡ []
between_none bytes at =
    let none : at - at ≡ 0 = omega arith in
    ap (λ n. take n (drop at bytes)) none ∙ nothing (drop at bytes)
  where
    nothing : (xs : List ℕ) → take 0 xs ≡ []
    nothing [] = refl
    nothing (x ∷ xs) = refl

between_join : (bytes : List ℕ) (a b c : ℕ) → a ≤ b → b ≤ c → between bytes a b ++ between bytes b c ≡ between bytes a c
between_join bytes a b c le more =
    let there : drop (b - a) (drop a bytes) ≡ drop b bytes = drop-drop (b - a) a bytes ∙ ap (λ n. drop n bytes) (omega arith) in
    let whole : (b - a) + (c - b) ≡ c - a = omega arith in
    ap (λ xs. between bytes a b ++ take (c - b) xs) (sym there) ∙ sym (take-add (b - a) (c - b) (drop a bytes)) ∙ ap (λ n. take n (drop a bytes)) whole

between_all : (bytes : List ℕ) → between bytes 0 (length bytes) ≡ bytes
between_all bytes =
    let most : length bytes - 0 ≡ length bytes = omega arith in
    ap (λ n. take n (drop 0 bytes)) most ∙ ap (take (length bytes)) (whole bytes) ∙ take_all (length bytes) bytes (omega arith)
  where
    whole : (xs : List ℕ) → drop 0 xs ≡ xs
    whole [] = refl
    whole (x ∷ xs) = refl

-- ---- the blocks of a term

-- what is read of a term's blocks is cut into these blocks, whose bytes are these
record IsTermRead (bytes : List ℕ) (low at end : ℕ) (bs : List BlockPlace) (ps : List Place) : Type 0 where
  are_placed : placed at (cut range_of ps) ≡ bs
  spelled : blocks_of ps ≡ between bytes at end
  after : (range : ℕ) → range < low → Other range_of range ps

term_read : (bytes : List ℕ) (es : List Entry) (n low at : ℕ) (bs : List BlockPlace) (ps : List Place) → IsBytes bytes → AllFit (FitsBlockPlace n) (λ _ b. behind b) (record { low = low; at = at }) bs
    → end_of at bs ≤ length bytes → term_postings bytes es bs ≡ Ok ps → IsTermRead bytes low at (end_of at bs) bs ps
unfolding term_postings cut
term_read bytes es n low at [] ps small fit within e =
    subst (IsTermRead bytes low at at []) (made_is [] ps e)
    (record { are_placed = refl; spelled = sym (between_none bytes at); after = λ range lt. tt })
term_read bytes es n low at (b ∷ bs) ps small fit within e =
    let a = and_then_ok (block_in bytes es b) (λ x. and_then (term_postings bytes es bs) (λ xs. Ok (block_postings x ++ xs))) ps e in
    let c = and_then_ok (term_postings bytes es bs) (λ xs. Ok (block_postings a.0 ++ xs)) ps a.2 in
    let is : block_postings a.0 ++ c.0 ≡ ps = made_is (block_postings a.0 ++ c.0) ps c.2 in
    subst (IsTermRead bytes low at (end_of (b.place + b.length) bs) (b ∷ bs)) is
    (joined a.0 c.0 (block_takes es b.range (block_bytes_in bytes b) a.0 (between_bytes bytes b.place (b.place + b.length) small) (in_part_ok _ _ (block es b.range (block_bytes_in bytes b)) a.0 a.1))
    (term_read bytes es n (b.range + 1) (b.place + b.length) bs c.0 small fit.1 within c.1))
  where
    joined : (x : List BlockEntry) (xs : List Place) → (block_bytes_in bytes b ≡ block_bytes b.range x) × FitBlock es b.range x → IsTermRead bytes (b.range + 1) (b.place + b.length) (end_of (b.place + b.length) bs) bs xs
        → IsTermRead bytes low at (end_of (b.place + b.length) bs) (b ∷ bs) (block_postings x ++ xs)
    joined x xs read rest =
        let g : List Place = block_postings x in
        let end : ℕ = end_of (b.place + b.length) bs in
        let same : b.place ≡ at = eqb-true b.place at fit.0.1.0.1 in
        let last : b.place + b.length ≤ end = (places_within n (length bytes) (behind b) bs fit.1).0 in
        let up : low ≤ b.range = leb-true low b.range (and_parts (nat_le low b.range) _ fit.0.0.1).0 in
        let other : Other range_of b.range xs = rest.after b.range (omega arith) in
        let k = cut_range es b.range x xs read.1 other in
        let bytes_are : block_of g ≡ block_bytes_in bytes b = k.bytes_are ∙ sym read.0 in
        let long : length (block_of g) ≡ b.length = ap length bytes_are ∙ between_length bytes b.place (b.place + b.length) (omega arith) (omega arith) ∙ omega arith in
        let place_is : record { range = first range_of g; place = at; length = length (block_of g) } ≡ b =
        ap (λ (r : ℕ). record { range = r; place = at; length = length (block_of g) }) k.first_is ∙ ap (λ (p : ℕ). record { range = b.range; place = p; length = length (block_of g) }) (sym same) ∙ ap (λ (l : ℕ). record { range = b.range; place = b.place; length = l }) long in
        let next : at + length (block_of g) ≡ b.place + b.length = omega arith in
        record {
          are_placed = ap (placed at) k.cut_is ∙ ap (λ (y : BlockPlace). y ∷ placed (at + length (block_of g)) (cut range_of xs)) place_is ∙ ap (λ m. b ∷ placed m (cut range_of xs)) next ∙ ap (λ l. b ∷ l) rest.are_placed;
          spelled = ap (flat_map block_of) k.cut_is ∙ flat_map-cons block_of g (cut range_of xs) ∙ ap (λ l. l ++ flat_map block_of (cut range_of xs)) bytes_are ∙ ap (λ l. block_bytes_in bytes b ++ l) rest.spelled
              ∙ between_join bytes b.place (b.place + b.length) end (omega arith) last ∙ ap (λ p. between bytes p end) same;
          after = λ range lt. k.above range (omega (arith, lt));
        }

-- ---- the terms

-- the postings of each term are those of documents
abbrev pub Match : List Document → List TermBlocks → List (List Place) → Type 0
Match docs [] [] = Unit {0}
Match docs [] (ps ∷ pss) = ⊥
Match docs (t ∷ ts) [] = ⊥
Match docs (t ∷ ts) (ps ∷ pss) = (postings_of t.term docs ≡ ps) × Match docs ts pss

abbrev terms_of : List TermBlocks → List (List ℕ)
terms_of ts = map (λ (t : TermBlocks). t.term) ts

terms_read : (bytes : List ℕ) (es : List Entry) (n : ℕ) (docs : List Document) (s : BehindTerm) (ts : List TermBlocks) (pss : List (List Place)) → IsBytes bytes → AllFit (FitsTermBlocks n) behind_term s ts
    → end_of_all s.at ts ≤ length bytes → all_postings bytes es ts ≡ Ok pss → Match docs ts pss → (index s.at (terms_of ts) docs ≡ ts) × (all_blocks (terms_of ts) docs ≡ between bytes s.at (end_of_all s.at ts))
unfolding all_postings
terms_read bytes es n docs s [] pss small fit within e match = (refl, sym (between_none bytes s.at))
terms_read bytes es n docs s (t ∷ ts) [] small fit within e match = absurd match
terms_read bytes es n docs s (t ∷ ts) (ps ∷ pss) small fit within e match =
    let a = and_then_ok (term_postings bytes es t.blocks) (λ x. and_then (all_postings bytes es ts) (λ xs. Ok (x ∷ xs))) (ps ∷ pss) e in
    let c = and_then_ok (all_postings bytes es ts) (λ xs. Ok (a.0 ∷ xs)) (ps ∷ pss) a.2 in
    let is : a.0 ∷ c.0 ≡ ps ∷ pss = made_is (a.0 ∷ c.0) (ps ∷ pss) c.2 in
    let one : term_postings bytes es t.blocks ≡ Ok ps = a.1 ∙ cc in
    let more : all_postings bytes es ts ≡ Ok pss = c.1 ∙ cc in
    let end : ℕ = end_of s.at t.blocks in
    let last : ℕ = end_of_all end ts in
    let first : s.at ≤ end = (places_within n (length bytes) (record { low = 0; at = s.at }) t.blocks fit.0.1.0.1.1).0 in
    let later : end ≤ last = (terms_within n (length bytes) (behind_term s t) ts fit.1).0 in
    let here = term_read bytes es n 0 s.at t.blocks ps small fit.0.1.0.1.1 (omega arith) one in
    let rest = terms_read bytes es n docs (behind_term s t) ts pss small fit.1 within more match.1 in
    let blocks_are : blocks_of (postings_of t.term docs) ≡ between bytes s.at end = ap blocks_of match.0 ∙ here.spelled in
    let next : s.at + length (blocks_of (postings_of t.term docs)) ≡ end = omega (arith, ap length blocks_are, between_length bytes s.at end first (omega arith)) in
    let term_is : term_blocks_of s.at t.term (postings_of t.term docs) ≡ t =
    ap (term_blocks_of s.at t.term) match.0 ∙ ap (λ (l : List BlockPlace). record { term = t.term; blocks = l }) here.are_placed in (
      ap (λ (x : TermBlocks). x ∷ index (s.at + length (blocks_of (postings_of t.term docs))) (terms_of ts) docs) term_is ∙ ap (λ m. t ∷ index m (terms_of ts) docs) next ∙ ap (λ l. t ∷ l) rest.0,
      flat_map-cons (λ (u : List ℕ). blocks_of (postings_of u docs)) t.term (terms_of ts) ∙ ap (λ l. l ++ all_blocks (terms_of ts) docs) blocks_are ∙ ap (λ l. between bytes s.at end ++ l) rest.1 ∙ between_join bytes s.at end last first later,
    )

-- ---- the file

same_header : (a b : Header) → a.docs ≡ b.docs → a.tokens ≡ b.tokens → a.terms ≡ b.terms → a.names ≡ b.names → a.documents_at ≡ b.documents_at → a.dictionary_at ≡ b.dictionary_at → a.blocks_at ≡ b.blocks_at → a.length ≡ b.length → a ≡ b
same_header a b e1 e2 e3 e4 e5 e6 e7 e8 =
    ap (λ (x : ℕ). record { docs = x; tokens = a.tokens; terms = a.terms; names = a.names; documents_at = a.documents_at; dictionary_at = a.dictionary_at; blocks_at = a.blocks_at; length = a.length }) e1
    ∙ ap (λ (x : ℕ). record { docs = b.docs; tokens = x; terms = a.terms; names = a.names; documents_at = a.documents_at; dictionary_at = a.dictionary_at; blocks_at = a.blocks_at; length = a.length }) e2
    ∙ ap (λ (x : ℕ). record { docs = b.docs; tokens = b.tokens; terms = x; names = a.names; documents_at = a.documents_at; dictionary_at = a.dictionary_at; blocks_at = a.blocks_at; length = a.length }) e3
    ∙ ap (λ (x : ℕ). record { docs = b.docs; tokens = b.tokens; terms = b.terms; names = x; documents_at = a.documents_at; dictionary_at = a.dictionary_at; blocks_at = a.blocks_at; length = a.length }) e4
    ∙ ap (λ (x : ℕ). record { docs = b.docs; tokens = b.tokens; terms = b.terms; names = b.names; documents_at = x; dictionary_at = a.dictionary_at; blocks_at = a.blocks_at; length = a.length }) e5
    ∙ ap (λ (x : ℕ). record { docs = b.docs; tokens = b.tokens; terms = b.terms; names = b.names; documents_at = b.documents_at; dictionary_at = x; blocks_at = a.blocks_at; length = a.length }) e6
    ∙ ap (λ (x : ℕ). record { docs = b.docs; tokens = b.tokens; terms = b.terms; names = b.names; documents_at = b.documents_at; dictionary_at = b.dictionary_at; blocks_at = x; length = a.length }) e7
    ∙ ap (λ (x : ℕ). record { docs = b.docs; tokens = b.tokens; terms = b.terms; names = b.names; documents_at = b.documents_at; dictionary_at = b.dictionary_at; blocks_at = b.blocks_at; length = x }) e8

-- what is known of the parts of a file that was read
pub record IsRead (bytes : List ℕ) (w : Whole) : Type 0 where
  pub header_spelled : take 64 bytes ≡ header_bytes w.header
  pub header_fits : FitsHeader (docs_told (take 64 bytes)) (length bytes) w.header
  pub documents_spelled : between bytes 64 w.header.dictionary_at ≡ documents_bytes w.documents
  pub documents_fit : FitDocuments w.header w.documents
  pub terms_spelled : between bytes w.header.dictionary_at w.header.blocks_at ≡ dictionary_bytes w.terms
  pub terms_fit : FitDictionary w.header w.terms
  pub postings_are : all_postings bytes w.documents w.terms ≡ Ok w.postings

pub file_is_read : (bytes : List ℕ) (w : Whole) → IsBytes bytes → grammar bytes ≡ Ok w → IsRead bytes w
unfolding grammar
file_is_read bytes w small e =
    let a = and_then_ok (header_in bytes) (λ h. and_then (documents_in bytes h) (λ es. and_then (dictionary_in bytes h) (λ ts. and_then (all_postings bytes es ts) (λ ps. Ok (record { header = h; documents = es; terms = ts; postings = ps }))))) w e in
    let b = and_then_ok (documents_in bytes a.0) (λ es. and_then (dictionary_in bytes a.0) (λ ts. and_then (all_postings bytes es ts) (λ ps. Ok (record { header = a.0; documents = es; terms = ts; postings = ps })))) w a.2 in
    let c = and_then_ok (dictionary_in bytes a.0) (λ ts. and_then (all_postings bytes b.0 ts) (λ ps. Ok (record { header = a.0; documents = b.0; terms = ts; postings = ps }))) w b.2 in
    let d = and_then_ok (all_postings bytes b.0 c.0) (λ ps. Ok (record { header = a.0; documents = b.0; terms = c.0; postings = ps })) w c.2 in
    let h = header_takes (docs_told (take 64 bytes)) (length bytes) (take 64 bytes) a.0 (IsBytes-take 64 bytes small) (in_part_ok _ _ _ a.0 a.1) in
    let placed = header_placed (docs_told (take 64 bytes)) (length bytes) a.0 h.1 in
    let ds = documents_take a.0 (between bytes a.0.documents_at a.0.dictionary_at) b.0 (between_bytes bytes a.0.documents_at a.0.dictionary_at small) (in_part_ok _ _ _ b.0 b.1) in
    let ts = dictionary_takes a.0 (between bytes a.0.dictionary_at a.0.blocks_at) c.0 (between_bytes bytes a.0.dictionary_at a.0.blocks_at small) (in_part_ok _ _ _ c.0 c.1) in
    let whole : Whole = record { header = a.0; documents = b.0; terms = c.0; postings = d.0 } in
    subst (IsRead bytes) (made_is whole w d.2)
    (record {
      header_spelled = h.0;
      header_fits = h.1;
      documents_spelled = ap (λ n. between bytes n a.0.dictionary_at) (sym placed.documents) ∙ ds.0;
      documents_fit = ds.1;
      terms_spelled = ts.0;
      terms_fit = ts.1;
      postings_are = d.1;
    })

-- where the postings are those of documents, the file is their segment
pub file_is_segment : (bytes : List ℕ) (w : Whole) (docs : List Document) → IsBytes bytes → IsRead bytes w → map entry_of docs ≡ w.documents → Match docs w.terms w.postings → vocabulary_of docs ≡ terms_of w.terms → bytes ≡ segment docs
unfolding segment
file_is_segment bytes w docs small r entries match terms =
    let h : Header = w.header in
    let placed = header_placed (docs_told (take 64 bytes)) (length bytes) h r.header_fits in
    let end : end_of_all h.blocks_at w.terms ≡ length bytes = eqb-true (end_of_all h.blocks_at w.terms) h.length r.terms_fit.1 ∙ placed.length_is in
    let read = terms_read bytes w.documents h.docs docs (record { before = []; at = h.blocks_at }) w.terms w.postings small r.terms_fit.0.1 (omega (arith, end)) r.postings_are match in
    let indexed : index h.blocks_at (vocabulary_of docs) docs ≡ w.terms = ap (λ ts. index h.blocks_at ts docs) terms ∙ read.0 in
    let blocks_are : all_blocks (vocabulary_of docs) docs ≡ between bytes h.blocks_at (length bytes) = ap (λ ts. all_blocks ts docs) terms ∙ read.1 ∙ ap (between bytes h.blocks_at) end in
    let documents_are : documents_bytes (map entry_of docs) ≡ between bytes 64 h.dictionary_at = ap documents_bytes entries ∙ sym r.documents_spelled in
    let le1 = placed.dictionary in
    let le2 = placed.blocks in
    let le3 = placed.end in
    let dictionary_is : dictionary_at docs ≡ h.dictionary_at = omega (arith, ap length documents_are, between_length bytes 64 h.dictionary_at le1 (omega arith)) in
    let size : dictionary_size (vocabulary_of docs) docs ≡ h.blocks_at - h.dictionary_at =
    sym (dictionary_length h.blocks_at (vocabulary_of docs) docs) ∙ ap (λ ts. length (dictionary_bytes ts)) indexed ∙ ap length (sym r.terms_spelled) ∙ between_length bytes h.dictionary_at h.blocks_at le2 le3 in
    let blocks_at_is : blocks_at docs ≡ h.blocks_at = omega (arith, dictionary_is, size, le2) in
    let count : length docs ≡ h.docs = sym (length-map docs entry_of) ∙ ap length entries ∙ r.documents_fit.0.1.0.0 in
    let rule = and_parts (sum_by (λ (e : Entry). e.tokens) w.documents == h.tokens) (pointwise (pointwise nat_eq) (names_in_order w.documents) (names_in_order w.documents)) r.documents_fit.1 in
    let tokens : token_count docs ≡ h.tokens = sym (counted docs) ∙ ap (sum_by (λ (e : Entry). e.tokens)) entries ∙ eqb-true _ _ rule.0 in
    let term_count : length (vocabulary_of docs) ≡ h.terms = ap length terms ∙ length-map w.terms (λ (t : TermBlocks). t.term) ∙ r.terms_fit.0.0 in
    let names : length (names_in_order (map entry_of docs)) ≡ h.names = ap (λ es. length (names_in_order es)) entries ∙ r.documents_fit.0.0.0 in
    let long : blocks_at docs + length (all_blocks (vocabulary_of docs) docs) ≡ h.length = omega (arith, blocks_at_is, ap length blocks_are, between_length bytes h.blocks_at (length bytes) le3 (omega arith), placed.length_is) in
    let header_is : header_of docs ≡ h = same_header (header_of docs) h count tokens term_count names (sym placed.documents) dictionary_is blocks_at_is long in
    let parts : header_bytes (header_of docs) ++ (documents_bytes (map entry_of docs) ++ (dictionary_bytes (index (blocks_at docs) (vocabulary_of docs) docs) ++ all_blocks (vocabulary_of docs) docs))
    ≡ between bytes 0 64 ++ (between bytes 64 h.dictionary_at ++ (between bytes h.dictionary_at h.blocks_at ++ between bytes h.blocks_at (length bytes))) =
    ap (λ x. header_bytes x ++ (documents_bytes (map entry_of docs) ++ (dictionary_bytes (index (blocks_at docs) (vocabulary_of docs) docs) ++ all_blocks (vocabulary_of docs) docs))) header_is
    ∙ ap (λ x. x ++ (documents_bytes (map entry_of docs) ++ (dictionary_bytes (index (blocks_at docs) (vocabulary_of docs) docs) ++ all_blocks (vocabulary_of docs) docs))) (sym r.header_spelled)
    ∙ ap (λ x. between bytes 0 64 ++ (x ++ (dictionary_bytes (index (blocks_at docs) (vocabulary_of docs) docs) ++ all_blocks (vocabulary_of docs) docs))) documents_are
    ∙ ap (λ x. between bytes 0 64 ++ (between bytes 64 h.dictionary_at ++ (x ++ all_blocks (vocabulary_of docs) docs))) (ap (λ n. dictionary_bytes (index n (vocabulary_of docs) docs)) blocks_at_is ∙ ap dictionary_bytes indexed ∙ sym r.terms_spelled)
    ∙ ap (λ x. between bytes 0 64 ++ (between bytes 64 h.dictionary_at ++ (between bytes h.dictionary_at h.blocks_at ++ x))) blocks_are in
    sym (parts ∙ ap (λ x. between bytes 0 64 ++ (between bytes 64 h.dictionary_at ++ x)) (between_join bytes h.dictionary_at h.blocks_at (length bytes) le2 le3)
    ∙ ap (λ x. between bytes 0 64 ++ x) (between_join bytes 64 h.dictionary_at (length bytes) le1 (omega arith))
    ∙ between_join bytes 0 64 (length bytes) (omega arith) (omega arith) ∙ between_all bytes)

-- ---- the blocks of a file that was read end where it does

sizes_read : (bytes : List ℕ) (es : List Entry) (n : ℕ) (s : BehindTerm) (ts : List TermBlocks) (pss : List (List Place)) → IsBytes bytes → AllFit (FitsTermBlocks n) behind_term s ts → end_of_all s.at ts ≤ length bytes → all_postings bytes es ts ≡ Ok pss
    → s.at + sum_by (λ (ps : List Place). length (blocks_of ps)) pss ≡ end_of_all s.at ts
unfolding all_postings
sizes_read bytes es n s [] pss small fit within e = subst (λ (x : List (List Place)). s.at + sum_by (λ (ps : List Place). length (blocks_of ps)) x ≡ s.at) (made_is [] pss e) (omega arith)
sizes_read bytes es n s (t ∷ ts) pss small fit within e =
    let a = and_then_ok (term_postings bytes es t.blocks) (λ x. and_then (all_postings bytes es ts) (λ xs. Ok (x ∷ xs))) pss e in
    let c = and_then_ok (all_postings bytes es ts) (λ xs. Ok (a.0 ∷ xs)) pss a.2 in
    let end : ℕ = end_of s.at t.blocks in
    let first : s.at ≤ end = (places_within n (length bytes) (record { low = 0; at = s.at }) t.blocks fit.0.1.0.1.1).0 in
    let later : end ≤ end_of_all end ts = (terms_within n (length bytes) (behind_term s t) ts fit.1).0 in
    let here = term_read bytes es n 0 s.at t.blocks a.0 small fit.0.1.0.1.1 (omega arith) a.1 in
    let size : length (blocks_of a.0) ≡ end - s.at = ap length here.spelled ∙ between_length bytes s.at end first (omega arith) in
    let rest = sizes_read bytes es n (behind_term s t) ts c.0 small fit.1 within c.1 in
    subst (λ (x : List (List Place)). s.at + sum_by (λ (ps : List Place). length (blocks_of ps)) x ≡ end_of_all end ts) (made_is (a.0 ∷ c.0) pss c.2)
    (omega (arith, first, size, rest, sum_by-cons (λ (ps : List Place). length (blocks_of ps)) a.0 c.0))

pub blocks_end : (bytes : List ℕ) (w : Whole) → IsBytes bytes → IsRead bytes w → w.header.blocks_at + sum_by (λ (ps : List Place). length (blocks_of ps)) w.postings ≡ length bytes
blocks_end bytes w small r =
    let placed = header_placed (docs_told (take 64 bytes)) (length bytes) w.header r.header_fits in
    let end : end_of_all w.header.blocks_at w.terms ≡ length bytes = eqb-true (end_of_all w.header.blocks_at w.terms) w.header.length r.terms_fit.1 ∙ placed.length_is in
    sizes_read bytes w.documents w.header.docs (record { before = []; at = w.header.blocks_at }) w.terms w.postings small r.terms_fit.0.1 (omega (arith, end)) r.postings_are ∙ end
