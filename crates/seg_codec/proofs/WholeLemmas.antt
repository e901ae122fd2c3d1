-- the parts of a whole file
use Rattle.std.proofs.Common.{◌≡◌, ◌<◌, ◌≤◌, ℕ, ◌+◌, ◌-◌, List, [], ◌∷◌, ◌++◌, length, drop, get_or, nat_le, Result, Ok, Err, refl, sym, ap, ◌∙◌, append_assoc, arith}
use Rattle.std.specs.Prelude.{◌==◌, IfOk}
use Rattle.std.specs.List.{All}
use Rattle.std.proofs.lemmas.Bool.{and_parts, eqb-true, leb-true}
use Rattle.std.proofs.lemmas.List.{append-nil, drop_all, drop_more, length-take}
use Rattle.std.proofs.lemmas.List.Elements.{All-cons, All-nil}
use Rattle.ri_base.specs.FieldAnswers.{AnswersPart}
use Rattle.ri_base.specs.Reading.{AllFit}
use Rattle.ri_base.specs.declared.places.Place.{Place}
use Rattle.ri_base.specs.declared.seg_fault.FileName.{FileName}
use Rattle.ri_base.specs.declared.seg_fault.PartName.{PartName}
use Rattle.ri_base.specs.declared.seg_fault.SegFault.{SegFault}
use Rattle.ri_base.specs.declared.seg_fault.SegFault.TheVariants.{Malformed, Missing, Store, Memory}
use Rattle.seg_codec.specs.Dictionary.{Behind, BehindTerm, behind, behind_term, end_of, end_of_all}
use Rattle.seg_codec.specs.Fits.{FitDictionary, FitsBlockPlace, FitsHeader, FitsTermBlocks}
use Rattle.seg_codec.specs.Whole.{AnswersFile, ArePlaced, Fault, LiesWithin, all_postings, and_then, between, block_in, block_postings, entry_postings, in_part, term_postings}
use Rattle.seg_codec.specs.Spelling.{dictionary_bytes, header_bytes}
use Rattle.seg_codec.specs.declared.blocks.BlockEntry.{BlockEntry}
use Rattle.seg_codec.specs.declared.dictionary.BlockPlace.{BlockPlace}
use Rattle.seg_codec.specs.declared.dictionary.TermBlocks.{TermBlocks}
use Rattle.seg_codec.specs.declared.documents.Entry.{Entry}
use Rattle.seg_codec.specs.declared.header.Header.{Header}

-- the answer on a part tells where in the file it is broken
pub in_part_answers : {X A : Type 0} (view : X → A) (r : Result X SegFault) (read : Result A ℕ) (file : FileName) (part : PartName) (end : ℕ) → AnswersPart view r read file part end → AnswersFile view r (in_part part end read) file
in_part_answers view (Ok x) read file part end h = ap (in_part part end) h
in_part_answers view (Err (Malformed f p place)) read file part end h =
    (h.0, ap (in_part part end) h.3 ∙ ap (λ (q : PartName). Err (record { part = q; place = end - h.2 })) (sym h.1) ∙ ap (λ (n : ℕ). Err (record { part = p; place = n })) (sym h.4))
in_part_answers view (Err (Missing f)) read file part end h = h
in_part_answers view (Err Store) read file part end h = h
in_part_answers view (Err Memory) read file part end h = tt

-- where a reading fails as another does, so does its answer
pub fault_passes : {X Y A B : Type 0} (view : X → A) (other : Y → B) (e : SegFault) (file : FileName) (r : Result A Fault) (s : Result B Fault) → ((f : Fault) → r ≡ Err f → s ≡ Err f) → AnswersFile view (Err e) r file → AnswersFile other (Err e) s file
fault_passes view other (Malformed f p place) file r s k h = (h.0, k (record { part = p; place = place }) h.1)
fault_passes view other (Missing f) file r s k h = h
fault_passes view other Store file r s k h = h
fault_passes view other Memory file r s k h = tt

-- ---- where the parts stand

pub header_placed : (docs size : ℕ) (h : Header) → FitsHeader docs size h → ArePlaced size h
header_placed docs size h fit =
    let p = fit.1.1.0 in
    record {
      documents = sym (ap (λ (x : Header). x.documents_at) fit.1.1.1);
      dictionary = leb-true 64 h.dictionary_at p.0.1.1;
      blocks = leb-true h.dictionary_at h.blocks_at p.1.0.0.1;
      end = leb-true h.blocks_at size (and_parts (nat_le h.blocks_at size) (size == size) p.1.0.1.0.1).0;
      length_is = sym (ap (λ (x : Header). x.length) fit.1.1.1);
    }

pub places_within : (docs size : ℕ) (s : Behind) (bs : List BlockPlace) → AllFit (FitsBlockPlace docs) (λ _ b. behind b) s bs → (s.at ≤ end_of s.at bs) × (end_of s.at bs ≤ size → All (LiesWithin size) bs)
places_within docs size s [] h = (omega arith, λ le. All-nil (LiesWithin size))
places_within docs size s (b ∷ bs) h =
    let same : b.place ≡ s.at = eqb-true b.place s.at h.0.1.0.1 in
    let rest = places_within docs size (behind b) bs h.1 in
    let later : b.place + b.length ≤ end_of (b.place + b.length) bs = rest.0 in
    (omega arith, λ le. All-cons (LiesWithin size) b bs (omega arith) (rest.1 le))

pub terms_within : (docs size : ℕ) (s : BehindTerm) (ts : List TermBlocks) → AllFit (FitsTermBlocks docs) behind_term s ts → (s.at ≤ end_of_all s.at ts) × (end_of_all s.at ts ≤ size → All (λ t. All (LiesWithin size) t.blocks) ts)
terms_within docs size s [] h = (omega arith, λ le. All-nil (λ (t : TermBlocks). All (LiesWithin size) t.blocks))
terms_within docs size s (t ∷ ts) h =
    let here = places_within docs size (record { low = 0; at = s.at }) t.blocks h.0.1.0.1.1 in
    let rest = terms_within docs size (behind_term s t) ts h.1 in
    let first : s.at ≤ end_of s.at t.blocks = here.0 in
    let later : end_of s.at t.blocks ≤ end_of_all (end_of s.at t.blocks) ts = rest.0 in
    (omega arith, λ le. All-cons (λ (t : TermBlocks). All (LiesWithin size) t.blocks) t ts (here.1 (omega arith)) (rest.1 le))

-- each block of a dictionary lies within the file
pub blocks_within : (size : ℕ) (h : Header) (ts : List TermBlocks) → ArePlaced size h → FitDictionary h ts → All (λ t. All (LiesWithin size) t.blocks) ts
blocks_within size h ts placed fit =
    let end : end_of_all h.blocks_at ts ≡ h.length = eqb-true (end_of_all h.blocks_at ts) h.length fit.1 in
    let is : h.length ≡ size = placed.length_is in
    (terms_within h.docs size (record { before = []; at = h.blocks_at }) ts fit.0.1).1 (omega arith)

-- ---- postings, block by block

abbrev pub with_postings : {A : Type 0} → List A → Result (List A) Fault → Result (List A) Fault
with_postings front r = and_then r (λ xs. Ok (front ++ xs))

regroup : {A : Type 0} (front x : List A) (r : Result (List A) Fault) → with_postings front (and_then r (λ xs. Ok (x ++ xs))) ≡ with_postings (front ++ x) r
regroup front x (Ok xs) = ap Ok (sym (append_assoc front x xs))
regroup front x (Err f) = refl

pub block_goes_on : (es : List BlockEntry) (i : ℕ) (e : BlockEntry) (front more total : List Place) → i < length es → e ≡ get_or es i e → more ≡ front ++ entry_postings e → front ++ block_postings (drop i es) ≡ total
    → more ++ block_postings (drop (i + 1) es) ≡ total
block_goes_on es i e front more total lt is put so_far =
    let first : drop i es ≡ e ∷ drop (i + 1) es = drop_more es i e lt ∙ ap (λ y. y ∷ drop (i + 1) es) (sym is) in
    ap (λ (l : List Place). l ++ block_postings (drop (i + 1) es)) put ∙ append_assoc front (entry_postings e) (block_postings (drop (i + 1) es)) ∙ sym (ap (λ (l : List BlockEntry). front ++ block_postings l) first) ∙ so_far

pub term_goes_on : (bytes : List ℕ) (es : List Entry) (bs : List BlockPlace) (i : ℕ) (d : BlockPlace) (x : List BlockEntry) (front more : List Place) (total : Result (List Place) Fault) → i < length bs → block_in bytes es (get_or bs i d) ≡ Ok x
    → more ≡ front ++ block_postings x → with_postings front (term_postings bytes es (drop i bs)) ≡ total → with_postings more (term_postings bytes es (drop (i + 1) bs)) ≡ total
unfolding term_postings
term_goes_on bytes es bs i d x front more total lt read put so_far =
    let step : term_postings bytes es (drop i bs) ≡ and_then (term_postings bytes es (drop (i + 1) bs)) (λ xs. Ok (block_postings x ++ xs)) =
    ap (term_postings bytes es) (drop_more bs i d lt) ∙ ap (λ y. and_then y (λ z. and_then (term_postings bytes es (drop (i + 1) bs)) (λ xs. Ok (block_postings z ++ xs)))) read in
    ap (λ f. with_postings f (term_postings bytes es (drop (i + 1) bs))) put ∙ sym (regroup front (block_postings x) (term_postings bytes es (drop (i + 1) bs))) ∙ ap (with_postings front) (sym step) ∙ so_far

pub term_ends : (bytes : List ℕ) (es : List Entry) (bs : List BlockPlace) (i : ℕ) (d : BlockPlace) (front : List Place) (total : Result (List Place) Fault) (f : Fault) → i < length bs → block_in bytes es (get_or bs i d) ≡ Err f
    → with_postings front (term_postings bytes es (drop i bs)) ≡ total → total ≡ Err f
unfolding term_postings
term_ends bytes es bs i d front total f lt read so_far =
    let step : term_postings bytes es (drop i bs) ≡ Err f =
    ap (term_postings bytes es) (drop_more bs i d lt) ∙ ap (λ y. and_then y (λ z. and_then (term_postings bytes es (drop (i + 1) bs)) (λ xs. Ok (block_postings z ++ xs)))) read in
    sym so_far ∙ ap (with_postings front) step

pub term_is_done : (bytes : List ℕ) (es : List Entry) (bs : List BlockPlace) (i : ℕ) (front : List Place) (total : Result (List Place) Fault) → length bs ≤ i → with_postings front (term_postings bytes es (drop i bs)) ≡ total → total ≡ Ok front
unfolding term_postings
term_is_done bytes es bs i front total le so_far =
    sym so_far ∙ ap (λ l. with_postings front (term_postings bytes es l)) (drop_all i bs le) ∙ ap Ok (append-nil front)

-- ---- term by term

push_regroup : {A : Type 0} (front : List A) (x : A) (r : Result (List A) Fault) → with_postings front (and_then r (λ xs. Ok (x ∷ xs))) ≡ with_postings (front ++ x ∷ []) r
push_regroup front x (Ok xs) = ap Ok (sym (append_assoc front (x ∷ []) xs))
push_regroup front x (Err f) = refl

pub all_go_on : (bytes : List ℕ) (es : List Entry) (ts : List TermBlocks) (i : ℕ) (t : TermBlocks) (x : List Place) (front more : List (List Place)) (total : Result (List (List Place)) Fault) → i < length ts → t ≡ get_or ts i t → term_postings bytes es t.blocks ≡ Ok x
    → more ≡ front ++ x ∷ [] → with_postings front (all_postings bytes es (drop i ts)) ≡ total → with_postings more (all_postings bytes es (drop (i + 1) ts)) ≡ total
unfolding all_postings
all_go_on bytes es ts i t x front more total lt is read put so_far =
    let first : drop i ts ≡ t ∷ drop (i + 1) ts = drop_more ts i t lt ∙ ap (λ y. y ∷ drop (i + 1) ts) (sym is) in
    let step : all_postings bytes es (drop i ts) ≡ and_then (all_postings bytes es (drop (i + 1) ts)) (λ xs. Ok (x ∷ xs)) =
    ap (all_postings bytes es) first ∙ ap (λ y. and_then y (λ z. and_then (all_postings bytes es (drop (i + 1) ts)) (λ xs. Ok (z ∷ xs)))) read in
    ap (λ f. with_postings f (all_postings bytes es (drop (i + 1) ts))) put ∙ sym (push_regroup front x (all_postings bytes es (drop (i + 1) ts))) ∙ ap (with_postings front) (sym step) ∙ so_far

pub all_end : (bytes : List ℕ) (es : List Entry) (ts : List TermBlocks) (i : ℕ) (t : TermBlocks) (front : List (List Place)) (total : Result (List (List Place)) Fault) (f : Fault) → i < length ts → t ≡ get_or ts i t → term_postings bytes es t.blocks ≡ Err f
    → with_postings front (all_postings bytes es (drop i ts)) ≡ total → total ≡ Err f
unfolding all_postings
all_end bytes es ts i t front total f lt is read so_far =
    let first : drop i ts ≡ t ∷ drop (i + 1) ts = drop_more ts i t lt ∙ ap (λ y. y ∷ drop (i + 1) ts) (sym is) in
    let step : all_postings bytes es (drop i ts) ≡ Err f =
    ap (all_postings bytes es) first ∙ ap (λ y. and_then y (λ z. and_then (all_postings bytes es (drop (i + 1) ts)) (λ xs. Ok (z ∷ xs)))) read in
    sym so_far ∙ ap (with_postings front) step

pub all_are_done : (bytes : List ℕ) (es : List Entry) (ts : List TermBlocks) (i : ℕ) (front : List (List Place)) (total : Result (List (List Place)) Fault) → length ts ≤ i → with_postings front (all_postings bytes es (drop i ts)) ≡ total → total ≡ Ok front
unfolding all_postings
all_are_done bytes es ts i front total le so_far =
    sym so_far ∙ ap (λ l. with_postings front (all_postings bytes es l)) (drop_all i ts le) ∙ ap Ok (append-nil front)

-- ---- what the readers of parts have found

pub placed_if_read : (r : Result Header SegFault) (bytes : List ℕ) (docs size : ℕ) → IfOk r (λ h. (bytes ≡ header_bytes h) × FitsHeader docs size h) → IfOk r (ArePlaced size)
placed_if_read (Ok h) bytes docs size f = header_placed docs size h f.1
placed_if_read (Err e) bytes docs size f = tt

pub within_if_read : (size : ℕ) (h : Header) (bytes : List ℕ) (r : Result (List TermBlocks) SegFault) → ArePlaced size h → IfOk r (λ ts. (bytes ≡ dictionary_bytes ts) × FitDictionary h ts) → IfOk r (All (λ t. All (LiesWithin size) t.blocks))
within_if_read size h bytes (Ok ts) placed f = blocks_within size h ts placed f.1
within_if_read size h bytes (Err e) placed f = tt

pub between_most : (bytes : List ℕ) (from to : ℕ) → length (between bytes from to) ≤ to - from
between_most bytes from to = omega (arith, length-take (to - from) (drop from bytes))
