-- the documents part of documents keeps what a documents part keeps
use Rattle.std.proofs.Common.{◌≡◌, ◌<◌, ◌≤◌, ℕ, zero, suc, ◌+◌, ◌^◌, List, [], ◌∷◌, length, map, true, ◌&&◌, nat_lt, nat_le, refl, sym, ap, subst, ◌∙◌, inl, inr, arith}
use Rattle.std.specs.Prelude.{◌==◌, IsTrue, sum_by}
use Rattle.std.specs.Bool.{nat_eq}
use Rattle.std.specs.Cmp.Lexicographic.{pointwise, slice_cmp}
use Rattle.std.specs.List.{All, AllByRecursion, AllPairs, Contains, list_all}
use Rattle.std.specs.List.Sorted.{IsStrictlySortedBy}
use Rattle.std.specs.Ordering.{is_eq, nat_cmp}
use Rattle.std.specs.declared.cmp.Ordering.TheVariants.{Less}
use Rattle.std.proofs.lemmas.Bool.{and_from, and_parts, eq-eqb, le-leb, lt-ltb, or_left, or_right}
use Rattle.std.proofs.lemmas.Cmp.{nat_list_cmp_total, tied_itself}
use Rattle.std.proofs.lemmas.List.{get_or_past, length-map}
use Rattle.std.proofs.lemmas.List.Elements.{All-contains, All-contains_itself, All-head, All-tail, All-weaker, Contains-append_left, Contains-append_right, Contains-append_cases, recursion_from_All}
use Rattle.std.proofs.lemmas.List.Sums.{sum_by-cons}
use Rattle.std.proofs.lemmas.Map.Text.{is_eq-slice_cmp}
use Rattle.ri_base.specs.Fields.{is_before}
use Rattle.ri_base.specs.Reading.{AllFit}
use Rattle.ri_base.proofs.Order.{before_from_less}
use Rattle.ri_base.specs.Collection.{field_names, names_of, token_count}
use Rattle.ri_base.specs.Documents.{Document, Field, IsBefore, IsDocument}
use Rattle.ri_base.specs.Text.{is_docno_byte, is_name, is_name_byte, starts_with_letter}
use Rattle.ri_base.specs.declared.limits.TheConstants.{MAX_DOC_TOKENS}
use Rattle.ri_base.specs.declared.text.TheConstants.{DOCNO_BYTES, NAME_BYTES}
use Rattle.ri_base.proofs.ListLemmas.{Contains-cases, Contains-none}
use Rattle.seg_codec.specs.Blocks.{tokens_of}
use Rattle.seg_codec.specs.Documents.{first_row, is_behind, named, names_in_order}
use Rattle.seg_codec.specs.Fits.{FitDocuments, FitFields, FitsEntry, FitsName, FitsRow, end_rule, length_rule}
use Rattle.seg_codec.specs.Part.{IsFormed, IsPart}
use Rattle.seg_codec.specs.Segment.{entry_of, header_of}
use Rattle.seg_codec.specs.Spelling.{number_of, numbered}
use Rattle.seg_codec.specs.declared.documents.Entry.{Entry}
use Rattle.seg_codec.specs.declared.documents.Row.{Row}
use Rattle.seg_codec.proofs.NameLemmas.{names_all, name_at, names_counted, names_only, names_rise, number_of-rises, number_of-there}

-- ---- the fields of a document

row_is_behind : (ns : List (List ℕ)) (f g : Field) → IsStrictlySortedBy (slice_cmp nat_cmp) ns → Contains ns f.name → Contains ns g.name → IsBefore f g → is_behind (numbered ns f) (numbered ns g) ≡ true
row_is_behind ns f g up cf cg (inl begin) = or_left _ _ (lt-ltb f.begin g.begin begin)
row_is_behind ns f g up cf cg (inr (same, inl end)) = or_right _ _ (and_from _ _ (eq-eqb f.begin g.begin same) (or_left _ _ (lt-ltb f.end g.end end)))
row_is_behind ns f g up cf cg (inr (same, inr (ends, less))) =
    or_right _ _ (and_from _ _ (eq-eqb f.begin g.begin same) (or_right _ _ (and_from _ _ (eq-eqb f.end g.end ends) (lt-ltb _ _ (number_of-rises ns f.name g.name up cf cg less)))))

begins_later : (f g : Field) → IsBefore f g → f.begin ≤ g.begin
begins_later f g (inl begin) = omega arith
begins_later f g (inr (same, rest)) = omega arith

-- the first of these fields may stand behind this row
abbrev MayFollow : List (List ℕ) → Row → List Field → Type 0
MayFollow ns before [] = Unit {0}
MayFollow ns before (f ∷ fs) = (before.begin ≤ f.begin) × (is_behind before (numbered ns f) ≡ true)

rows_fit : (ns : List (List ℕ)) (tokens : ℕ) (before : Row) (fs : List Field) → IsStrictlySortedBy (slice_cmp nat_cmp) ns → length ns ≤ 65536 → tokens < 2 ^ 32 → All (λ f. Contains ns f.name) fs
    → All (λ f. f.begin < f.end) fs → All (λ f. f.end ≤ tokens) fs → AllPairs IsBefore fs → MayFollow ns before fs → AllFit (FitsRow (length ns) tokens) (λ _ r. r) before (map (numbered ns) fs)
rows_fit ns tokens before [] up few small there some within order first = tt
rows_fit ns tokens before (f ∷ fs) up few small there some within order first =
    let here = number_of-there ns f.name (All-head (λ f. Contains ns f.name) f fs there) in
    let long : f.begin < f.end = All-head (λ f. f.begin < f.end) f fs some in
    let inside : f.end ≤ tokens = All-head (λ f. f.end ≤ tokens) f fs within in
    let number : number_of ns f.name < 2 ^ 16 = omega (arith, here.0) in
    let rule : end_rule tokens before (number_of ns f.name) f.begin f.end ≡ true =
    and_from (nat_lt f.begin f.end && nat_le f.end tokens) (is_behind before (numbered ns f)) (and_from (nat_lt f.begin f.end) (nat_le f.end tokens) (lt-ltb f.begin f.end long) (le-leb f.end tokens inside)) first.1 in
    let later : AllPairs IsBefore fs = λ i j d lower last. order (suc i) (suc j) d (omega arith) (omega arith) in (
      ((number, lt-ltb (number_of ns f.name) (length ns) here.0), ((omega arith, le-leb before.begin f.begin first.0), ((omega arith, rule), refl))),
      rows_fit ns tokens (numbered ns f) fs up few small (All-tail (λ f. Contains ns f.name) f fs there) (All-tail (λ f. f.begin < f.end) f fs some) (All-tail (λ f. f.end ≤ tokens) f fs within) later (next fs there order),
    )
  where
    next : (gs : List Field) → All (λ f. Contains ns f.name) (f ∷ gs) → AllPairs IsBefore (f ∷ gs) → MayFollow ns (numbered ns f) gs
    next [] there order = tt
    next (g ∷ gs) there order =
        let before_next : IsBefore f g = order 0 1 f (omega arith) (omega arith) in
        (begins_later f g before_next, row_is_behind ns f g up (there 0 f (omega arith)) (there 1 f (omega arith)) before_next)

named_back : (ns : List (List ℕ)) (fs : List Field) → All (λ f. Contains ns f.name) fs → map (named ns) (map (numbered ns) fs) ≡ fs
named_back ns [] there = refl
named_back ns (f ∷ fs) there =
    let here = number_of-there ns f.name (All-head (λ f. Contains ns f.name) f fs there) in
    ap (λ (n : List ℕ). record { name = n; begin = f.begin; end = f.end } ∷ map (named ns) (map (numbered ns) fs)) here.1 ∙ ap (λ (l : List Field). f ∷ l) (named_back ns fs (All-tail (λ f. Contains ns f.name) f fs there))

first_may_follow : (ns : List (List ℕ)) (fs : List Field) → All (λ f. f.begin < f.end) fs → MayFollow ns first_row fs
first_may_follow ns [] some = tt
first_may_follow ns (f ∷ fs) some = (omega arith, by f.begin refl)
  where
    by : (b : ℕ) → f.begin ≡ b → is_behind first_row (numbered ns f) ≡ true
    by zero e =
        let long : f.begin < f.end = some 0 f (omega arith) in
        or_right _ _ (and_from _ _ (eq-eqb 0 f.begin (sym e)) (or_left _ _ (lt-ltb 0 f.end (omega arith))))
    by (suc b) e = or_left _ _ (lt-ltb 0 f.begin (omega arith))

fields_fit : (ns : List (List ℕ)) (d : Document) → IsStrictlySortedBy (slice_cmp nat_cmp) ns → length ns ≤ 65536 → All (λ f. Contains ns f.name) d.fields → IsDocument d.tokens d.fields → FitFields ns (length d.tokens) d.fields
fields_fit ns d up few there h =
    let short : length d.tokens ≤ 1048576 = h.short in
    let most : length d.fields ≤ 65535 = h.sound.few in
    let count = length-map d.fields (numbered ns) in
    ((omega arith, (refl, rows_fit ns (length d.tokens) first_row d.fields up few (omega arith) there h.sound.some h.sound.within h.sound.in_order (first_may_follow ns d.fields h.sound.some))), named_back ns d.fields there)

-- ---- the documents

entry_fits : (ns : List (List ℕ)) (d : Document) → IsStrictlySortedBy (slice_cmp nat_cmp) ns → length ns ≤ 65536 → All (λ f. Contains ns f.name) d.fields → IsFormed d → FitsEntry ns (entry_of d)
entry_fits ns d up few there h =
    let short : length d.tokens ≤ 1048576 = h.sound.short in
    (((and_parts (length_rule DOCNO_BYTES (length d.docno)) (list_all is_docno_byte d.docno) h.docno).0, h.docno), ((omega arith, le-leb (length d.tokens) MAX_DOC_TOKENS short), (fields_fit ns d up few there h.sound, refl)))

entries_fit : (ns : List (List ℕ)) (docs : List Document) → IsStrictlySortedBy (slice_cmp nat_cmp) ns → length ns ≤ 65536 → All (Contains ns) (field_names docs) → All IsFormed docs
    → AllFit {S = ℕ} (λ _. FitsEntry ns) (λ s _. s) 0 (map entry_of docs)
entries_fit ns [] up few there h = tt
entries_fit ns (d ∷ docs) up few there h = (
  entry_fits ns d up few (own d.fields (λ q c. All-contains (Contains ns) (field_names (d ∷ docs)) q there (Contains-append_left (names_of d.fields) (field_names docs) q c))) (All-head IsFormed d docs h),
  entries_fit ns docs up few (others (field_names docs) (λ q c. All-contains (Contains ns) (field_names (d ∷ docs)) q there (Contains-append_right (names_of d.fields) (field_names docs) q c))) (All-tail IsFormed d docs h),
)
  where
    own : (fs : List Field) → ((q : List ℕ) → Contains (names_of fs) q → Contains ns q) → All (λ f. Contains ns f.name) fs
    own fs known = All-weaker (λ f. Contains fs f) (λ f. Contains ns f.name) (λ f c. known f.name (c.0, subst (λ n. c.0 < n) (sym (length-map fs (λ (f : Field). f.name))) c.1, name_at fs c.0 f c.2 c.1)) fs (All-contains_itself fs)

    others : (xs : List (List ℕ)) → ((q : List ℕ) → Contains xs q → Contains ns q) → All (Contains ns) xs
    others xs known = All-weaker (Contains xs) (Contains ns) known xs (All-contains_itself xs)

-- ---- the names

name_length : (x : List ℕ) → is_name x ≡ true → length_rule NAME_BYTES (length x) ≡ true
name_length [] h = absurd cc
name_length (b ∷ x) h =
    and_from (nat_le 1 (length (b ∷ x))) (nat_le (length (b ∷ x)) NAME_BYTES) (le-leb 1 (length (b ∷ x)) (omega arith))
    (and_parts (starts_with_letter (b ∷ x)) (nat_le (length (b ∷ x)) NAME_BYTES) (and_parts (starts_with_letter (b ∷ x) && nat_le (length (b ∷ x)) NAME_BYTES) (list_all is_name_byte (b ∷ x)) h).0).1

rising_names_fit : (before : List ℕ) (ns : List (List ℕ)) → AllByRecursion (λ y. slice_cmp nat_cmp before y ≡ Less) ns → IsStrictlySortedBy (slice_cmp nat_cmp) ns → AllByRecursion (λ n. is_name n ≡ true) ns → AllFit FitsName (λ _ x. x) before ns
unfolding IsStrictlySortedBy
rising_names_fit before [] after up formed = tt
rising_names_fit before (n ∷ ns) after up formed =
    ((name_length n formed.0, and_from (is_name n) (is_before before n) formed.0 (before_from_less before n after.0)), rising_names_fit n ns up.0 up.1 formed.1)

empty_is_before : (t : List ℕ) → is_name t ≡ true → slice_cmp nat_cmp [] t ≡ Less
empty_is_before [] h = absurd cc
empty_is_before (x ∷ t) h = refl

formed_name : (docs : List Document) (q : List ℕ) → All IsFormed docs → Contains (field_names docs) q → is_name q ≡ true
formed_name [] q h c = absurd (Contains-none q c)
formed_name (d ∷ docs) q h c = elim (Contains-append_cases (names_of d.fields) (field_names docs) q c) [
  | inl e ↦ own d.fields (All-head IsFormed d docs h).names e
  | inr e ↦ formed_name docs q (All-tail IsFormed d docs h) e
]
  where
    own : (fs : List Field) → All (λ f. IsTrue (is_name f.name)) fs → Contains (names_of fs) q → is_name q ≡ true
    own [] formed c = absurd (Contains-none q c)
    own (f ∷ fs) formed c = elim (Contains-cases f.name (names_of fs) q c) [
      | inl e ↦ subst (λ n. is_name n ≡ true) e (All-head (λ f. IsTrue (is_name f.name)) f fs formed)
      | inr e ↦ own fs (All-tail (λ f. IsTrue (is_name f.name)) f fs formed) e
    ]

names_fit : (docs : List Document) → All IsFormed docs → AllFit FitsName (λ _ x. x) [] (names_in_order (map entry_of docs))
names_fit docs h =
    let ns = names_in_order (map entry_of docs) in
    let formed : All (λ n. is_name n ≡ true) ns = All-weaker (Contains ns) (λ n. is_name n ≡ true) (λ q c. formed_name docs q h (names_only docs q c)) ns (All-contains_itself ns) in
    let first : All (λ n. slice_cmp nat_cmp [] n ≡ Less) ns = All-weaker (λ n. is_name n ≡ true) (λ n. slice_cmp nat_cmp [] n ≡ Less) empty_is_before ns formed in
    rising_names_fit [] ns (recursion_from_All (λ y. slice_cmp nat_cmp [] y ≡ Less) ns first) (names_rise (map entry_of docs)) (recursion_from_All (λ n. is_name n ≡ true) ns formed)

-- ---- the part

pub counted : (docs : List Document) → sum_by (λ (e : Entry). e.tokens) (map entry_of docs) ≡ token_count docs
counted [] = refl
counted (d ∷ docs) =
    sum_by-cons (λ (e : Entry). e.tokens) (entry_of d) (map entry_of docs) ∙ ap (λ n. length d.tokens + n) (counted docs) ∙ sym (sum_by-cons (λ (d : Document). length d.tokens) d docs)

text_same : (x : List ℕ) → pointwise nat_eq x x ≡ true
text_same x = sym (is_eq-slice_cmp x x) ∙ ap is_eq (tied_itself nat_list_cmp_total x)

texts_same : (xs : List (List ℕ)) → pointwise (pointwise nat_eq) xs xs ≡ true
texts_same [] = refl
texts_same (x ∷ xs) = and_from (pointwise nat_eq x x) (pointwise (pointwise nat_eq) xs xs) (text_same x) (texts_same xs)

pub documents_fit : (docs : List Document) → IsPart docs → FitDocuments (header_of docs) (map entry_of docs)
documents_fit docs h =
    let es = map entry_of docs in
    let ns = names_in_order es in
    let named : length ns ≤ 65536 = subst (λ n. n ≤ 65536) (sym (names_counted docs)) h.named in
    let there : All (Contains ns) (field_names docs) = All-weaker (Contains (field_names docs)) (Contains ns) (names_all docs) (field_names docs) (All-contains_itself (field_names docs)) in (
      ((refl, names_fit docs h.formed), ((length-map docs entry_of, entries_fit ns docs (names_rise es) named there h.formed), refl)),
      and_from (sum_by (λ (e : Entry). e.tokens) es == token_count docs) (pointwise (pointwise nat_eq) ns ns) (eq-eqb _ _ (counted docs)) (texts_same ns),
    )

pub tokens_small : (docs : List Document) → All IsFormed docs → (i : ℕ) → tokens_of (map entry_of docs) i ≤ 1048576
tokens_small [] h i =
    let e : tokens_of [] i ≡ 0 = get_or_past [] i 0 (omega arith) in
    omega arith
tokens_small (d ∷ docs) h zero = (All-head IsFormed d docs h).sound.short
tokens_small (d ∷ docs) h (suc i) = tokens_small docs (All-tail IsFormed d docs h) i
