-- the documents part: one spelling
use Rattle.std.proofs.Common.{◌≡◌, ℕ, zero, suc, ◌^◌, ◌<◌, ◌&&◌, nat_le, nat_lt, true, false, List, [], ◌∷◌, ◌++◌, length, map, get_or, Ok, refl, sym, ap, subst, ◌∙◌, arith}
use Rattle.std.specs.Cmp.Lexicographic.{pointwise, same_text, slice_cmp}
use Rattle.std.specs.List.{flat_map}
use Rattle.std.specs.List.Sorted.{IsStrictlySortedBy}
use Rattle.std.specs.Int.{w16, w32, to_le_bytes}
use Rattle.std.specs.Ordering.{nat_cmp, is_eq}
use Rattle.std.specs.declared.cmp.Ordering.TheVariants.{Less}
use Rattle.std.specs.Bool.{nat_eq}
use Rattle.std.specs.Prelude.{sum_by, ◌==◌}
use Rattle.std.specs.Str.{bytes_eq}
use Rattle.std.proofs.lemmas.Bool.{and_parts, ltb-true}
use Rattle.std.proofs.lemmas.List.Elements.{All-from_recursion}
use Rattle.std.proofs.lemmas.Map.Text.{is_eq-slice_cmp}
use Rattle.seg_codec.specs.Fits.{end_rule, FitsRow, FitRows, FitFields, length_rule, FitsEntry, FitsName, FitNames, FitEntries, FitListed, FitDocuments}
use Rattle.seg_codec.specs.declared.header.Header.{Header}
use Rattle.ri_base.specs.Text.{is_docno, is_name}
use Rattle.ri_base.specs.declared.limits.TheConstants.{MAX_DOC_TOKENS}
use Rattle.ri_base.specs.declared.text.TheConstants.{DOCNO_BYTES, NAME_BYTES}
use Rattle.ri_base.specs.Spelling.{spelled_text}
use Rattle.ri_base.specs.Fields.{docno, name_behind, number, ruled, is_before}
use Rattle.ri_base.specs.Reading.{AllFit, ◌>>=◌, repeat}
use Rattle.seg_codec.specs.Documents.{row, rows, first_row, fields, named, entry, listed, Listed, are_whole, names_in_order, documents}
use Rattle.seg_codec.specs.Spelling.{spelled_row, spelled_rows, spelled_entry, numbered, number_of, documents_bytes}
use Rattle.seg_codec.specs.declared.documents.Entry.{Entry}
use Rattle.seg_codec.specs.declared.documents.Row.{Row}
use Rattle.ri_base.proofs.Codec.{IsCodec, codec_then, codec_as, number_codec, ruled_codec, text_codec, repeat_codec, IsBytes, whole_takes, whole_again, wide16, wide32}
use Rattle.ri_base.proofs.Order.{Rises, less_from_before, same_itself, sorted_from}

pub row_codec : (names tokens : ℕ) (before : Row) → IsCodec (row names tokens before) spelled_row (FitsRow names tokens before)
unfolding row
row_codec names tokens before =
    codec_then (ruled w16 (λ n. nat_lt n names)) (to_le_bytes w16) (λ n. (n < 2 ^ 16) × (nat_lt n names ≡ true))
    (λ n bytes. ruled w32 (λ b. nat_le before.begin b) bytes >>= λ b. ruled w32 (λ e. end_rule tokens before n b.0 e) b.1 >>= λ e. Ok (record { name = n; begin = b.0; end = e.0 }, e.1))
    (λ n r. to_le_bytes w32 r.begin ++ to_le_bytes w32 r.end)
    (λ n r. ((r.begin < 2 ^ 32) × (nat_le before.begin r.begin ≡ true)) × (((r.end < 2 ^ 32) × (end_rule tokens before n r.begin r.end ≡ true)) × (record { name = n; begin = r.begin; end = r.end } ≡ r)))
    (λ r. r.name)
    (ruled_codec w16 (2 ^ 16) (λ n. nat_lt n names) wide16)
    (λ n _. codec_then (ruled w32 (λ b. nat_le before.begin b)) (to_le_bytes w32) (λ b. (b < 2 ^ 32) × (nat_le before.begin b ≡ true))
    (λ b bytes. ruled w32 (λ e. end_rule tokens before n b e) bytes >>= λ e. Ok (record { name = n; begin = b; end = e.0 }, e.1))
    (λ b r. to_le_bytes w32 r.end)
    (λ b r. ((r.end < 2 ^ 32) × (end_rule tokens before n b r.end ≡ true)) × (record { name = n; begin = b; end = r.end } ≡ r))
    (λ r. r.begin)
    (ruled_codec w32 (2 ^ 32) (λ b. nat_le before.begin b) wide32)
    (λ b _. codec_as (ruled w32 (λ e. end_rule tokens before n b e)) (to_le_bytes w32) (λ e. (e < 2 ^ 32) × (end_rule tokens before n b e ≡ true)) (λ e. record { name = n; begin = b; end = e }) (λ r. r.end)
    (ruled_codec w32 (2 ^ 32) (λ e. end_rule tokens before n b e) wide32) (λ e h. refl))
    (λ b r _ h. sym (ap (λ (x : Row). x.begin) h.1)))
    (λ n r _ h. sym (ap (λ (x : Row). x.name) h.1.1))

pub rows_codec : (names tokens : ℕ) → IsCodec (rows names tokens) spelled_rows (FitRows names tokens)
unfolding rows
rows_codec names tokens =
    codec_then (number w16) (to_le_bytes w16) (λ n. n < 2 ^ 16)
    (λ n bytes. repeat (row names tokens) (λ _ r. r) n first_row bytes)
    (λ n rs. flat_map spelled_row rs)
    (λ n rs. (length rs ≡ n) × AllFit (FitsRow names tokens) (λ _ r. r) first_row rs)
    (λ rs. length rs)
    (number_codec w16 (2 ^ 16) wide16)
    (λ n _. repeat_codec (row names tokens) spelled_row (FitsRow names tokens) (λ _ r. r) (row_codec names tokens) n first_row)
    (λ n rs _ h. h.0)

-- ---- names and their numbers

abbrev pub IsRising : List (List ℕ) → Type 0
IsRising names = IsStrictlySortedBy (slice_cmp nat_cmp) names

not_same : (a b : List ℕ) → slice_cmp nat_cmp a b ≡ Less → bytes_eq a b ≡ false
not_same a b e = sym (is_eq-slice_cmp a b) ∙ ap is_eq e

pub number_of-place : (names : List (List ℕ)) (k : ℕ) → IsRising names → k < length names → number_of names (get_or names k []) ≡ k
unfolding IsStrictlySortedBy
number_of-place [] k up lt = absurd (omega arith)
number_of-place (n ∷ names) zero up lt = rw (same_itself n) refl
number_of-place (n ∷ names) (suc k) up lt =
    let below : k < length names = omega arith in
    let less : slice_cmp nat_cmp n (get_or names k []) ≡ Less = All-from_recursion (λ y. slice_cmp nat_cmp n y ≡ Less) names up.0 k [] below in
    rw (not_same n (get_or names k []) less) (ap suc (number_of-place names k up.1 below))

numbered_back : (names : List (List ℕ)) (r : Row) → IsRising names → r.name < length names → numbered names (named names r) ≡ r
numbered_back names r up lt = ap (λ (n : ℕ). record { name = n; begin = r.begin; end = r.end }) (number_of-place names r.name up lt)

all_numbered_back : (names : List (List ℕ)) (tokens : ℕ) (before : Row) (rs : List Row) → IsRising names → AllFit (FitsRow (length names) tokens) (λ _ r. r) before rs → map (numbered names) (map (named names) rs) ≡ rs
all_numbered_back names tokens before [] up h = refl
all_numbered_back names tokens before (r ∷ rs) up h =
    let k : r.name < length names = ltb-true _ _ h.0.0.1 in
    rw (numbered_back names r up k, all_numbered_back names tokens r rs up h.1) refl

pub fields_codec : (names : List (List ℕ)) (tokens : ℕ) → IsRising names → IsCodec (fields names tokens) (λ fs. spelled_rows (map (numbered names) fs)) (FitFields names tokens)
unfolding fields
fields_codec names tokens up =
    codec_as (rows (length names) tokens) spelled_rows (FitRows (length names) tokens) (map (named names)) (map (numbered names)) (rows_codec (length names) tokens)
    (λ rs h. all_numbered_back names tokens first_row rs up h.1.1)

-- ---- documents

pub entry_codec : (names : List (List ℕ)) → IsRising names → IsCodec (entry names) (spelled_entry names) (FitsEntry names)
unfolding entry
entry_codec names up =
    codec_then docno spelled_text (λ d. (length_rule DOCNO_BYTES (length d) ≡ true) × (is_docno d ≡ true))
    (λ d bytes. ruled w32 (λ n. nat_le n MAX_DOC_TOKENS) bytes >>= λ n. fields names n.0 n.1 >>= λ fs. Ok (record { docno = d; tokens = n.0; fields = fs.0 }, fs.1))
    (λ d e. to_le_bytes w32 e.tokens ++ spelled_rows (map (numbered names) e.fields))
    (λ d e. ((e.tokens < 2 ^ 32) × (nat_le e.tokens MAX_DOC_TOKENS ≡ true)) × (FitFields names e.tokens e.fields × (record { docno = d; tokens = e.tokens; fields = e.fields } ≡ e)))
    (λ e. e.docno)
    (text_codec DOCNO_BYTES is_docno)
    (λ d _. codec_then (ruled w32 (λ n. nat_le n MAX_DOC_TOKENS)) (to_le_bytes w32) (λ n. (n < 2 ^ 32) × (nat_le n MAX_DOC_TOKENS ≡ true))
    (λ n bytes. fields names n bytes >>= λ fs. Ok (record { docno = d; tokens = n; fields = fs.0 }, fs.1))
    (λ n e. spelled_rows (map (numbered names) e.fields))
    (λ n e. FitFields names n e.fields × (record { docno = d; tokens = n; fields = e.fields } ≡ e))
    (λ e. e.tokens)
    (ruled_codec w32 (2 ^ 32) (λ n. nat_le n MAX_DOC_TOKENS) wide32)
    (λ n _. codec_as (fields names n) (λ fs. spelled_rows (map (numbered names) fs)) (FitFields names n) (λ fs. record { docno = d; tokens = n; fields = fs }) (λ e. e.fields) (fields_codec names n up) (λ fs h. refl))
    (λ n e _ h. sym (ap (λ (x : Entry). x.tokens) h.1)))
    (λ d e _ h. sym (ap (λ (x : Entry). x.docno) h.1.1))

-- ---- the names, and then the documents

names_rise : (before : List ℕ) (ns : List (List ℕ)) → AllFit FitsName (λ _ x. x) before ns → Rises before ns
names_rise before [] h = tt
names_rise before (n ∷ ns) h = (less_from_before before n (and_parts (is_name n) (is_before before n) h.0.1).1, names_rise n ns h.1)

abbrev pub spelled_listed : Listed → List ℕ
spelled_listed x = flat_map spelled_text x.0 ++ flat_map (spelled_entry x.0) x.1

pub listed_codec : (names docs : ℕ) → IsCodec (listed names docs) spelled_listed (FitListed names docs)
unfolding listed
listed_codec names docs =
    codec_then (repeat name_behind (λ _ x. x) names []) (flat_map spelled_text) (FitNames names)
    (λ ns bytes. repeat {S = ℕ} (λ _. entry ns) (λ s _. s) docs 0 bytes >>= λ es. Ok ((ns, es.0), es.1))
    (λ ns x. flat_map (spelled_entry ns) x.1)
    (λ ns x. FitEntries docs ns x.1 × ((ns, x.1) ≡ x))
    (λ x. x.0)
    (repeat_codec name_behind spelled_text FitsName (λ _ x. x) (λ before. text_codec NAME_BYTES (λ x. is_name x && is_before before x)) names [])
    (λ ns h. codec_as (repeat {S = ℕ} (λ _. entry ns) (λ s _. s) docs 0) (flat_map (spelled_entry ns)) (FitEntries docs ns) (λ es. (ns, es)) (λ x. x.1)
    (repeat_codec {S = ℕ} (λ _. entry ns) (spelled_entry ns) (λ _. FitsEntry ns) (λ s _. s) (λ _. entry_codec ns (sorted_from [] ns (names_rise [] ns h.1)).1) docs 0) (λ es h. refl))
    (λ ns x _ h. sym (ap (λ (y : Listed). y.0) h.1))

lists_same : (xs ys : List ℕ) → pointwise nat_eq xs ys ≡ true → xs ≡ ys
lists_same xs ys h = same_text xs ys (sym h)

names_same : (xs ys : List (List ℕ)) → pointwise (pointwise nat_eq) xs ys ≡ true → xs ≡ ys
names_same [] [] h = refl
names_same [] (y ∷ ys) h = absurd cc
names_same (x ∷ xs) [] h = absurd cc
names_same (x ∷ xs) (y ∷ ys) h =
    let p = and_parts (pointwise nat_eq x y) (pointwise (pointwise nat_eq) xs ys) h in
    rw (lists_same x y p.0, names_same xs ys p.1) refl

pub documents_take : (h : Header) (bytes : List ℕ) (es : List Entry) → IsBytes bytes → documents h bytes ≡ Ok es → (bytes ≡ documents_bytes es) × FitDocuments h es
documents_take h bytes es small e =
    let w = whole_takes (listed h.names h.docs) spelled_listed (FitListed h.names h.docs) (are_whole h.tokens) (λ x. x.1) (listed_codec h.names h.docs) bytes es small e in
    let x = w.value in
    let parts = and_parts (sum_by (λ e. e.tokens) x.1 == h.tokens) (pointwise (pointwise nat_eq) x.0 (names_in_order x.1)) w.ruled in
    let same : x.0 ≡ names_in_order x.1 = names_same x.0 (names_in_order x.1) parts.1 in
    let is : x ≡ (names_in_order es, es) = ap (λ (ns : List (List ℕ)). (ns, x.1)) same ∙ ap (λ (l : List Entry). (names_in_order l, l)) w.is in
    (w.spelled ∙ ap spelled_listed is, (subst (FitListed h.names h.docs) is w.fit, subst (λ (y : Listed). are_whole h.tokens y ≡ true) is w.ruled))

pub documents_again : (h : Header) (es : List Entry) → FitDocuments h es → documents h (documents_bytes es) ≡ Ok es
documents_again h es fit =
    whole_again (listed h.names h.docs) spelled_listed (FitListed h.names h.docs) (are_whole h.tokens) (λ x. x.1) (listed_codec h.names h.docs) (names_in_order es, es) fit.0 fit.1

-- as many documents as the header says
pub documents_counted : (h : Header) (bytes : List ℕ) (es : List Entry) → IsBytes bytes → documents h bytes ≡ Ok es → length es ≡ h.docs
documents_counted h bytes es small e = (documents_take h bytes es small e).1.0.1.0.0
