-- what is known of the parts of a file that was read
use Rattle.std.proofs.Common.{◌≡◌, ◌<◌, ◌≤◌, ℕ, ◌+◌, List, [], ◌∷◌, ◌++◌, length, map, take, Ok, true, refl, sym, ap, subst, ◌∙◌, arith, nat_le}
use Rattle.std.specs.Cmp.Lexicographic.{pointwise}
use Rattle.std.specs.Bool.{nat_eq}
use Rattle.std.specs.List.{All}
use Rattle.std.specs.Prelude.{◌==◌, IsTrue, sum_by}
use Rattle.std.proofs.lemmas.Bool.{and_parts, eqb-true, leb-true}
use Rattle.std.proofs.lemmas.List.{length-append, length-map}
use Rattle.std.proofs.lemmas.List.Elements.{All-cons, All-head, All-nil, All-tail}
use Rattle.ri_base.specs.Fields.{is_before}
use Rattle.ri_base.specs.Reading.{AllFit}
use Rattle.ri_base.proofs.Codec.{IsBytes}
use Rattle.ri_base.proofs.Order.{Rises, less_from_before, sorted_from}
use Rattle.ri_base.specs.Collection.{name_count, token_count}
use Rattle.ri_base.specs.Documents.{Document}
use Rattle.ri_base.specs.Places.{postings_of}
use Rattle.ri_base.specs.Text.{is_name, is_term}
use Rattle.ri_base.specs.declared.limits.TheConstants.{MAX_HELD_TOKENS, MAX_PART_DOCS, MAX_PART_NAMES}
use Rattle.ri_base.specs.declared.places.Place.{Place}
use Rattle.seg_codec.specs.Blocks.{block, tokens_of}
use Rattle.seg_codec.specs.Dictionary.{BehindTerm, behind_term}
use Rattle.seg_codec.specs.Documents.{names_in_order}
use Rattle.seg_codec.specs.Fits.{FitBlock, FitsEntry, FitsName, FitsTermBlocks}
use Rattle.seg_codec.specs.Held.{Holds, IsKept, terms_of}
use Rattle.seg_codec.specs.Part.{HasDocno, IsPart}
use Rattle.seg_codec.specs.Rising.{Rise}
use Rattle.seg_codec.specs.Segment.{entry_of, segment}
use Rattle.seg_codec.specs.Whole.{IsSound, all_postings, and_then, block_bytes_in, block_in, block_postings, docs_told, term_postings}
use Rattle.seg_codec.specs.declared.blocks.BlockEntry.{BlockEntry}
use Rattle.seg_codec.specs.declared.dictionary.BlockPlace.{BlockPlace}
use Rattle.seg_codec.specs.declared.dictionary.TermBlocks.{TermBlocks}
use Rattle.seg_codec.specs.declared.documents.Entry.{Entry}
use Rattle.seg_codec.specs.declared.whole.Whole.{Whole}
use Rattle.seg_codec.proofs.BlockLaws.{block_takes}
use Rattle.seg_codec.proofs.DocumentFits.{counted}
use Rattle.seg_codec.proofs.FileLaws.{IsRead, Match, and_then_ok, between_bytes, file_is_segment, in_part_ok, made_is}
use Rattle.seg_codec.proofs.GroupLemmas.{block_is_some}
use Rattle.seg_codec.proofs.NameLemmas.{names_counted}
use Rattle.seg_codec.proofs.PartLemmas.{part_of}
use Rattle.seg_codec.proofs.ReadRise.{term_rises}
use Rattle.seg_codec.proofs.SoundLemmas.{documents_sound}

-- ---- the postings of a term

term_some : (bytes : List ℕ) (es : List Entry) (bs : List BlockPlace) (ps : List Place) → IsBytes bytes → nat_le 1 (length bs) ≡ true → term_postings bytes es bs ≡ Ok ps → 0 < length ps
unfolding term_postings
term_some bytes es [] ps small some e = absurd cc
term_some bytes es (b ∷ bs) ps small some e =
    let a = and_then_ok (block_in bytes es b) (λ x. and_then (term_postings bytes es bs) (λ xs. Ok (block_postings x ++ xs))) ps e in
    let c = and_then_ok (term_postings bytes es bs) (λ xs. Ok (block_postings a.0 ++ xs)) ps a.2 in
    let read = block_takes es b.range (block_bytes_in bytes b) a.0 (between_bytes bytes b.place (b.place + b.length) small) (in_part_ok _ _ (block es b.range (block_bytes_in bytes b)) a.0 a.1) in
    let is : block_postings a.0 ++ c.0 ≡ ps = made_is (block_postings a.0 ++ c.0) ps c.2 in
    omega (arith, first_some a.0 read.1, length-append (block_postings a.0) c.0, ap length is)
  where
    first_some : (x : List BlockEntry) → FitBlock es b.range x → 0 < length (block_postings x)
    first_some x fit = by (block_postings x) refl
      where
        by : (g : List Place) → block_postings x ≡ g → 0 < length g
        by [] is = absurd (block_is_some es b.range x fit.1.1 (and_parts (nat_le 1 (length x)) (nat_le (length x) 64) fit.0).0 is)
        by (p ∷ g) is = omega arith

-- ---- the postings of all terms

record AreKnown (es : List Entry) (ts : List TermBlocks) (pss : List (List Place)) : Type 0 where
  counted : length pss ≡ length ts
  rise : All (Rise (length es) (tokens_of es) 0 0) pss
  some : All (λ (ps : List Place). 0 < length ps) pss

all_known : (bytes : List ℕ) (es : List Entry) (n : ℕ) (s : BehindTerm) (ts : List TermBlocks) (pss : List (List Place)) → IsBytes bytes → AllFit (FitsTermBlocks n) behind_term s ts → all_postings bytes es ts ≡ Ok pss → AreKnown es ts pss
unfolding all_postings
all_known bytes es n s [] pss small fit e =
    subst (AreKnown es []) (made_is [] pss e) (record { counted = refl; rise = All-nil (Rise (length es) (tokens_of es) 0 0); some = All-nil (λ (ps : List Place). 0 < length ps) })
all_known bytes es n s (t ∷ ts) pss small fit e =
    let a = and_then_ok (term_postings bytes es t.blocks) (λ x. and_then (all_postings bytes es ts) (λ xs. Ok (x ∷ xs))) pss e in
    let c = and_then_ok (all_postings bytes es ts) (λ xs. Ok (a.0 ∷ xs)) pss a.2 in
    let places = fit.0.1.0 in
    let rest = all_known bytes es n (behind_term s t) ts c.0 small fit.1 c.1 in
    subst (AreKnown es (t ∷ ts)) (made_is (a.0 ∷ c.0) pss c.2)
    (record {
      counted = omega (arith, rest.counted);
      rise = All-cons (Rise (length es) (tokens_of es) 0 0) a.0 c.0 (term_rises bytes es n 0 s.at t.blocks a.0 small places.1.1 a.1) rest.rise;
      some = All-cons (λ (ps : List Place). 0 < length ps) a.0 c.0 (term_some bytes es t.blocks a.0 small places.0.1 a.1) rest.some;
    })

-- ---- terms in order

terms_rise : (n : ℕ) (s : BehindTerm) (ts : List TermBlocks) → AllFit (FitsTermBlocks n) behind_term s ts → Rises s.before (terms_of ts)
terms_rise n s [] fit = tt
terms_rise n s (t ∷ ts) fit = (less_from_before s.before t.term (and_parts (is_term t.term) (is_before s.before t.term) fit.0.0.1).1, terms_rise n (behind_term s t) ts fit.1)

pub read_sound : (bytes : List ℕ) (w : Whole) → IsRead bytes w → All IsSound w.documents
read_sound bytes w r = documents_sound w.header w.documents r.documents_fit

pub read_kept : (bytes : List ℕ) (w : Whole) → IsBytes bytes → IsRead bytes w → IsKept w
read_kept bytes w small r =
    let fit = r.terms_fit.0.1 in
    let start : BehindTerm = record { before = []; at = w.header.blocks_at } in
    let known = all_known bytes w.documents w.header.docs start w.terms w.postings small fit r.postings_are in
    let rule = and_parts (sum_by (λ (e : Entry). e.tokens) w.documents == w.header.tokens) (pointwise (pointwise nat_eq) (names_in_order w.documents) (names_in_order w.documents)) r.documents_fit.1 in
    record {
      counted = known.counted;
      rise = known.rise;
      some = known.some;
      sorted = (sorted_from [] (terms_of w.terms) (terms_rise w.header.docs start w.terms fit)).1;
      sound = read_sound bytes w r;
      tokens = eqb-true _ _ rule.0;
      few = omega (arith, r.terms_fit.0.0, r.header_fits.1.0.1.0);
    }

-- ---- the documents that it holds have a segment

terms_formed : (n : ℕ) (s : BehindTerm) (ts : List TermBlocks) → AllFit (FitsTermBlocks n) behind_term s ts → All (λ (t : List ℕ). IsTrue (is_term t)) (terms_of ts)
terms_formed n s [] fit = All-nil (λ (t : List ℕ). IsTrue (is_term t))
terms_formed n s (t ∷ ts) fit =
    All-cons (λ (t : List ℕ). IsTrue (is_term t)) t.term (terms_of ts) (and_parts (is_term t.term) (is_before s.before t.term) fit.0.0.1).0 (terms_formed n (behind_term s t) ts fit.1)

names_formed : (before : List ℕ) (ns : List (List ℕ)) → AllFit FitsName (λ _ x. x) before ns → All (λ (n : List ℕ). IsTrue (is_name n)) ns
names_formed before [] fit = All-nil (λ (n : List ℕ). IsTrue (is_name n))
names_formed before (n ∷ ns) fit =
    All-cons (λ (n : List ℕ). IsTrue (is_name n)) n ns (and_parts (is_name n) (is_before before n) fit.0.1).0 (names_formed n ns fit.1)

have_docnos : (ns : List (List ℕ)) (docs : List Document) → AllFit {S = ℕ} (λ _. FitsEntry ns) (λ s _. s) 0 (map entry_of docs) → All IsSound (map entry_of docs) → All HasDocno docs
have_docnos ns [] fit sound = All-nil HasDocno
have_docnos ns (d ∷ docs) fit sound =
    let here : IsSound (entry_of d) = All-head IsSound (entry_of d) (map entry_of docs) sound in
    All-cons HasDocno d docs (record { docno = fit.0.0.1; sound = record { short = here.short; sound = here.fields } }) (have_docnos ns docs fit.1 (All-tail IsSound (entry_of d) (map entry_of docs) sound))

pub held_part : (bytes : List ℕ) (w : Whole) (docs : List Document) → IsRead bytes w → Holds docs w → IsPart docs
held_part bytes w docs r h =
    let head = r.header_fits in
    let es : List Entry = w.documents in
    let count : length docs ≡ w.header.docs = sym (length-map docs entry_of) ∙ ap length h.documents ∙ r.documents_fit.0.1.0.0 in
    let most : w.header.docs ≤ 1048576 = leb-true w.header.docs MAX_PART_DOCS (and_parts (nat_le w.header.docs MAX_PART_DOCS) (w.header.docs == docs_told (take 64 bytes)) head.0.1.1.1).0 in
    let rule = and_parts (sum_by (λ (e : Entry). e.tokens) es == w.header.tokens) (pointwise (pointwise nat_eq) (names_in_order es) (names_in_order es)) r.documents_fit.1 in
    let tokens : token_count docs ≡ w.header.tokens = sym (counted docs) ∙ ap (sum_by (λ (e : Entry). e.tokens)) h.documents ∙ eqb-true _ _ rule.0 in
    let most_tokens : w.header.tokens ≤ 67108864 = leb-true w.header.tokens MAX_HELD_TOKENS head.1.0.0.1 in
    let names : name_count docs ≡ w.header.names = sym (names_counted docs) ∙ ap (λ (xs : List Entry). length (names_in_order xs)) h.documents ∙ r.documents_fit.0.0.0 in
    let most_names : w.header.names ≤ 65536 = leb-true w.header.names MAX_PART_NAMES head.1.0.1.1.0.1 in
    let few : length docs ≤ 1048576 = omega (arith, count, most) in
    let short : token_count docs ≤ 67108864 = omega (arith, tokens, most_tokens) in
    let named : name_count docs ≤ 65536 = omega (arith, names, most_names) in
    part_of docs few short named
    (have_docnos (names_in_order (map entry_of docs)) docs
    (subst (λ (xs : List Entry). AllFit {S = ℕ} (λ _. FitsEntry (names_in_order xs)) (λ s _. s) 0 xs) (sym h.documents) r.documents_fit.0.1.0.1) (subst (All IsSound) (sym h.documents) (read_sound bytes w r)))
    (subst (λ (xs : List Entry). All (λ (n : List ℕ). IsTrue (is_name n)) (names_in_order xs)) (sym h.documents) (names_formed [] (names_in_order es) r.documents_fit.0.0.1))
    (subst (All (λ (t : List ℕ). IsTrue (is_term t))) (sym h.terms) (terms_formed w.header.docs (record { before = []; at = w.header.blocks_at }) w.terms r.terms_fit.0.1))

-- ---- what it holds is told by its postings

pub matched : (docs : List Document) (ts : List TermBlocks) (pss : List (List Place)) → map (λ (t : List ℕ). postings_of t docs) (terms_of ts) ≡ pss → Match docs ts pss
matched docs [] [] e = tt
matched docs [] (ps ∷ pss) e = absurd cc
matched docs (t ∷ ts) [] e = absurd cc
matched docs (t ∷ ts) (ps ∷ pss) e =
    let here : postings_of t.term docs ≡ ps = cc in
    let rest : map (λ (t : List ℕ). postings_of t docs) (terms_of ts) ≡ pss = cc in
    (here, matched docs ts pss rest)

-- the file is the segment of the documents that its parts hold
pub held_segment : (bytes : List ℕ) (w : Whole) (docs : List Document) → IsBytes bytes → IsRead bytes w → Holds docs w → bytes ≡ segment docs
held_segment bytes w docs small r h =
    file_is_segment bytes w docs small r h.documents (matched docs w.terms w.postings (ap (map (λ (t : List ℕ). postings_of t docs)) (sym h.terms) ∙ h.postings)) h.terms
