-- What was read of a segment keeps what a part on disk keeps.
use Rattle.std.proofs.Common.{◌≡◌, ◌<◌, ◌≤◌, ◌⊎◌, ℕ, zero, suc, ◌+◌, ◌^◌, ◌&&◌, ◌||◌, ◌==◌, ltb, leb, List, [], ◌∷◌, length, map, get_or, Bool, true, false, Result, Ok, Err, IfOk, refl, ap, subst, ◌∙◌, inl, inr, arith}
use Rattle.std.specs.Cmp.Lexicographic.{slice_cmp}
use Rattle.std.specs.List.{All, AllPairs}
use Rattle.std.specs.List.Sorted.{IsStrictlySortedBy}
use Rattle.std.specs.Ordering.{nat_cmp}
use Rattle.std.specs.declared.cmp.Ordering.TheVariants.{Less}
use Rattle.std.proofs.lemmas.Bool.{and_parts, eqb-true, leb-true, ltb-true}
use Rattle.std.proofs.lemmas.List.{get_or-map, length-map}
use Rattle.std.proofs.lemmas.List.Elements.{All-cons, All-map, All-nil, All-weaker}
use Rattle.std.proofs.lemmas.Map.Keys.{Less-from_sorted}
use Rattle.ri_base.specs.Documents.{AreFields, Field, IsBefore}
use Rattle.ri_base.specs.Vocabulary.{IsTermBefore}
use Rattle.ri_base.specs.declared.limits.TheConstants.{MAX_PART_DOCS}
use Rattle.ri_base.specs.declared.seg_fault.SegFault.{SegFault}
use Rattle.ri_base.specs.Fields.{is_before}
use Rattle.ri_base.specs.Reading.{AllFit}
use Rattle.ri_base.proofs.Order.{Rises, less_from_before, sorted_from}
use Rattle.seg_codec.specs.Dictionary.{Behind, BehindTerm, behind, behind_term, end_of, end_of_all}
use Rattle.seg_codec.specs.Documents.{first_row, is_behind, named, names_in_order}
use Rattle.seg_codec.specs.Fits.{FitDictionary, FitDocuments, FitFields, FitsBlockPlace, FitsEntry, FitsHeader, FitsName, FitsRow, FitsTermBlocks}
use Rattle.seg_codec.specs.Spelling.{dictionary_bytes, documents_bytes, header_bytes, numbered}
use Rattle.seg_codec.specs.declared.dictionary.BlockPlace.{BlockPlace}
use Rattle.seg_codec.specs.declared.dictionary.TermBlocks.{TermBlocks}
use Rattle.seg_codec.specs.declared.documents.Entry.{Entry}
use Rattle.seg_codec.specs.declared.documents.Row.{Row}
use Rattle.seg_codec.specs.declared.header.Header.{Header}
use Rattle.disk_index.specs.Kept.{ArePlaces, IsOutline}
use Rattle.disk_index.specs.Opening.{AreInOrder}

all_pairs_cons : {X : Type 0} (R : X → X → Type 0) (x : X) (xs : List X) → All (R x) xs → AllPairs R xs → AllPairs R (x ∷ xs)
all_pairs_cons R x xs all pairs zero zero d lower inside = absurd (omega (arith, lower))
all_pairs_cons R x xs all pairs zero (suc j) d lower inside = all j d (omega (arith, inside))
all_pairs_cons R x xs all pairs (suc i) zero d lower inside = absurd (omega (arith, lower))
all_pairs_cons R x xs all pairs (suc i) (suc j) d lower inside = pairs i j d (omega (arith, lower)) (omega (arith, inside))

-- ---- texts in order

names-rise : (before : List ℕ) (ns : List (List ℕ)) → AllFit FitsName (λ _ x. x) before ns → Rises before ns
names-rise before [] h = tt
names-rise before (n ∷ ns) h = (less_from_before before n (and_parts _ (is_before before n) h.0.1).1, names-rise n ns h.1)

-- ---- fields

-- one field stands before another, where a name is told by its number
abbrev IsRowBefore : Row → Row → Type 0
IsRowBefore a b = (a.begin < b.begin) ⊎ (a.begin ≡ b.begin) × ((a.end < b.end) ⊎ (a.end ≡ b.end) × (a.name < b.name))

either : (a b : Bool) → (a || b) ≡ true → (a ≡ true) ⊎ (b ≡ true)
either true b e = inl refl
either false b e = inr e

row_before : (a b : Row) → is_behind a b ≡ true → IsRowBefore a b
row_before a b h = elim (either (ltb a.begin b.begin) ((a.begin == b.begin) && (ltb a.end b.end || (a.end == b.end) && ltb a.name b.name)) h) [
  | inl begin ↦ inl (ltb-true a.begin b.begin begin)
  | inr same ↦ later (and_parts (a.begin == b.begin) (ltb a.end b.end || (a.end == b.end) && ltb a.name b.name) same)
]
  where
    last : ((a.end == b.end) ≡ true) × (ltb a.name b.name ≡ true) → (a.end < b.end) ⊎ (a.end ≡ b.end) × (a.name < b.name)
    last p = inr (eqb-true a.end b.end p.0, ltb-true a.name b.name p.1)

    later : ((a.begin == b.begin) ≡ true) × ((ltb a.end b.end || (a.end == b.end) && ltb a.name b.name) ≡ true) → IsRowBefore a b
    later p = inr (
      eqb-true a.begin b.begin p.0,
      elim (either (ltb a.end b.end) ((a.end == b.end) && ltb a.name b.name) p.1) [
        | inl end ↦ inl (ltb-true a.end b.end end)
        | inr both ↦ last (and_parts (a.end == b.end) (ltb a.name b.name) both)
      ],
    )

ends_before : (a b c : Row) → (a.end < b.end) ⊎ (a.end ≡ b.end) × (a.name < b.name) → (b.end < c.end) ⊎ (b.end ≡ c.end) × (b.name < c.name) → (a.end < c.end) ⊎ (a.end ≡ c.end) × (a.name < c.name)
ends_before a b c (inl p) (inl q) = inl (omega (arith, p, q))
ends_before a b c (inl p) (inr q) = inl (omega (arith, p, q.0))
ends_before a b c (inr p) (inl q) = inl (omega (arith, p.0, q))
ends_before a b c (inr p) (inr q) = inr (p.0 ∙ q.0, omega (arith, p.1, q.1))

row_before-then : (a b c : Row) → IsRowBefore a b → IsRowBefore b c → IsRowBefore a c
row_before-then a b c (inl p) (inl q) = inl (omega (arith, p, q))
row_before-then a b c (inl p) (inr q) = inl (omega (arith, p, q.0))
row_before-then a b c (inr p) (inl q) = inl (omega (arith, p.0, q))
row_before-then a b c (inr p) (inr q) = inr (p.0 ∙ q.0, ends_before a b c p.1 q.1)

record IsRow (names tokens : ℕ) (before r : Row) : Type 0 where
  known : r.name < names
  some : r.begin < r.end
  within : r.end ≤ tokens
  follows : IsRowBefore before r

is_row : (names tokens : ℕ) (before r : Row) → FitsRow names tokens before r → IsRow names tokens before r
is_row names tokens before r h =
    let rule = and_parts (ltb r.begin r.end && leb r.end tokens) (is_behind before r) h.1.1.0.1 in
    let ends = and_parts (ltb r.begin r.end) (leb r.end tokens) rule.0 in
    record { known = ltb-true _ _ h.0.1; some = ltb-true _ _ ends.0; within = leb-true _ _ ends.1; follows = row_before before r rule.1 }

rows_behind : (names tokens : ℕ) (before : Row) (rs : List Row) → AllFit (FitsRow names tokens) (λ _ r. r) before rs → All (IsRow names tokens before) rs
rows_behind names tokens before [] h = All-nil (IsRow names tokens before)
rows_behind names tokens before (r ∷ rs) h =
    let here = is_row names tokens before r h.0 in
    All-cons (IsRow names tokens before) r rs here
    (All-weaker (IsRow names tokens r) (IsRow names tokens before) (λ x p. record { known = p.known; some = p.some; within = p.within; follows = row_before-then before r x here.follows p.follows }) rs (rows_behind names tokens r rs h.1))

named_before : (names : List (List ℕ)) (a b : Row) → IsStrictlySortedBy (slice_cmp nat_cmp) names → b.name < length names → IsRowBefore a b → IsBefore (named names a) (named names b)
named_before names a b up known (inl p) = inl p
named_before names a b up known (inr (p, inl q)) = inr (p, inl q)
named_before names a b up known (inr (p, inr (q, less))) = inr (p, inr (q, Less-from_sorted (slice_cmp nat_cmp) names a.name b.name [] up less known))

fields_in_order : (names : List (List ℕ)) (tokens : ℕ) (before : Row) (rs : List Row) → IsStrictlySortedBy (slice_cmp nat_cmp) names → AllFit (FitsRow (length names) tokens) (λ _ r. r) before rs → AllPairs IsBefore (map (named names) rs)
fields_in_order names tokens before [] up h = λ i j d lower inside. absurd (omega (arith, inside))
fields_in_order names tokens before (r ∷ rs) up h =
    all_pairs_cons IsBefore (named names r) (map (named names) rs)
    (All-map (IsBefore (named names r)) (named names) rs (All-weaker (IsRow (length names) tokens r) (λ x. IsBefore (named names r) (named names x)) (λ x p. named_before names r x up p.known p.follows) rs (rows_behind (length names) tokens r rs h.1)))
    (fields_in_order names tokens r rs up h.1)

are_fields : (names : List (List ℕ)) (tokens : ℕ) (fs : List Field) → IsStrictlySortedBy (slice_cmp nat_cmp) names → FitFields names tokens fs → AreFields tokens fs
are_fields names tokens fs up h =
    let rs = map (numbered names) fs in
    let all = rows_behind (length names) tokens first_row rs h.0.1.1 in
    let made : AreFields tokens (map (named names) rs) = record {
      few = let n = length-map rs (named names) in let few = h.0.0 in omega (arith, n, few);
      some = All-map (λ (f : Field). f.begin < f.end) (named names) rs (All-weaker (IsRow (length names) tokens first_row) (λ r. r.begin < r.end) (λ r p. p.some) rs all);
      within = All-map (λ (f : Field). f.end ≤ tokens) (named names) rs (All-weaker (IsRow (length names) tokens first_row) (λ r. r.end ≤ tokens) (λ r p. p.within) rs all);
      in_order = fields_in_order names tokens first_row rs up h.0.1.1;
    } in
    subst (AreFields tokens) h.1 made

is_outline : (names : List (List ℕ)) (e : Entry) → IsStrictlySortedBy (slice_cmp nat_cmp) names → FitsEntry names e → IsOutline e
is_outline names e up h = (leb-true _ _ h.1.0.1, are_fields names e.tokens e.fields up h.1.1.0)

outlines_from : (names : List (List ℕ)) (es : List Entry) (s : ℕ) → IsStrictlySortedBy (slice_cmp nat_cmp) names → AllFit {S = ℕ} (λ _. FitsEntry names) (λ s _. s) s es → All IsOutline es
outlines_from names [] s up h = All-nil IsOutline
outlines_from names (e ∷ es) s up h = All-cons IsOutline e es (is_outline names e up h.0) (outlines_from names es s up h.1)

pub are_outlines : (h : Header) (es : List Entry) → FitDocuments h es → All IsOutline es
are_outlines h es fit =
    let ns = names_in_order es in
    outlines_from ns es 0 (sorted_from [] ns (names-rise [] ns fit.0.0.1)).1 fit.0.1.0.1

-- ---- the dictionary

terms-rise : (docs : ℕ) (s : BehindTerm) (xs : List TermBlocks) → AllFit (FitsTermBlocks docs) behind_term s xs → Rises s.before (map (λ (x : TermBlocks). x.term) xs)
terms-rise docs s [] h = tt
terms-rise docs s (x ∷ xs) h = (less_from_before s.before x.term (and_parts _ (is_before s.before x.term) h.0.0.1).1, terms-rise docs (behind_term s x) xs h.1)

pub terms_in_order : (h : Header) (xs : List TermBlocks) → FitDictionary h xs → AllPairs (λ a b. IsTermBefore a.term b.term) xs
terms_in_order h xs fit = λ i j d lower inside.
    let term : TermBlocks → List ℕ = λ x. x.term in
    let up = (sorted_from [] (map term xs) (terms-rise h.docs (record { before = []; at = h.blocks_at }) xs fit.0.1)).1 in
    let within : j < length (map term xs) = omega (arith, inside, length-map xs term) in
    let less = Less-from_sorted (slice_cmp nat_cmp) (map term xs) i j d.term up lower within in
    subst (λ (t : List ℕ). slice_cmp nat_cmp t (get_or xs j d).term ≡ Less) (get_or-map term xs i d d.term (omega (arith, lower, inside)))
    (subst (λ (t : List ℕ). slice_cmp nat_cmp (get_or (map term xs) i d.term) t ≡ Less) (get_or-map term xs j d d.term inside) less)

ranges_from : (docs : ℕ) (s : Behind) (bs : List BlockPlace) → AllFit (FitsBlockPlace docs) (λ _ b. behind b) s bs → All (λ b. s.low ≤ b.range) bs
ranges_from docs s [] h = All-nil (λ b. s.low ≤ b.range)
ranges_from docs s (b ∷ bs) h =
    let low : s.low ≤ b.range = leb-true _ _ (and_parts (leb s.low b.range) _ h.0.0.1).0 in
    All-cons (λ b. s.low ≤ b.range) b bs low (All-weaker (λ c. b.range + 1 ≤ c.range) (λ c. s.low ≤ c.range) (λ c p. omega (arith, p, low)) bs (ranges_from docs (behind b) bs h.1))

ranges_in_order : (docs : ℕ) (s : Behind) (bs : List BlockPlace) → AllFit (FitsBlockPlace docs) (λ _ b. behind b) s bs → AllPairs (λ a b. a.range < b.range) bs
ranges_in_order docs s [] h = λ i j d lower inside. absurd (omega (arith, inside))
ranges_in_order docs s (b ∷ bs) h =
    all_pairs_cons (λ a b. a.range < b.range) b bs (All-weaker (λ c. b.range + 1 ≤ c.range) (λ c. b.range < c.range) (λ c p. omega (arith, p)) bs (ranges_from docs (behind b) bs h.1)) (ranges_in_order docs (behind b) bs h.1)

ends_within : (docs : ℕ) (s : Behind) (bs : List BlockPlace) → AllFit (FitsBlockPlace docs) (λ _ b. behind b) s bs → (s.at ≤ end_of s.at bs) × All (λ b. b.place + b.length ≤ end_of s.at bs) bs
ends_within docs s [] h = (omega arith, All-nil (λ b. b.place + b.length ≤ s.at))
ends_within docs s (b ∷ bs) h =
    let at : b.place ≡ s.at = eqb-true _ _ h.0.1.0.1 in
    let rest = ends_within docs (behind b) bs h.1 in
    (omega (arith, at, rest.0), All-cons (λ c. c.place + c.length ≤ end_of (b.place + b.length) bs) b bs rest.0 rest.1)

all_within : (docs : ℕ) (s : BehindTerm) (xs : List TermBlocks) → AllFit (FitsTermBlocks docs) behind_term s xs
    → (s.at ≤ end_of_all s.at xs) × All (λ x. All (λ b. b.place + b.length ≤ end_of_all s.at xs) x.blocks) xs
all_within docs s [] h = (omega arith, All-nil (λ x. All (λ b. b.place + b.length ≤ s.at) x.blocks))
all_within docs s (x ∷ xs) h =
    let own = ends_within docs (record { low = 0; at = s.at }) x.blocks h.0.1.0.1.1 in
    let rest = all_within docs (behind_term s x) xs h.1 in
    let end = end_of_all (end_of s.at x.blocks) xs in (
      omega (arith, own.0, rest.0),
      All-cons (λ y. All (λ b. b.place + b.length ≤ end) y.blocks) x xs (All-weaker (λ b. b.place + b.length ≤ end_of s.at x.blocks) (λ b. b.place + b.length ≤ end) (λ b p. omega (arith, p, rest.0)) x.blocks own.1) rest.1,
    )

ranges_of_all : (docs : ℕ) (s : BehindTerm) (xs : List TermBlocks) → AllFit (FitsTermBlocks docs) behind_term s xs → All (λ x. AllPairs (λ a b. a.range < b.range) x.blocks) xs
ranges_of_all docs s [] h = All-nil (λ x. AllPairs (λ a b. a.range < b.range) x.blocks)
ranges_of_all docs s (x ∷ xs) h =
    All-cons (λ x. AllPairs (λ a b. a.range < b.range) x.blocks) x xs (ranges_in_order docs (record { low = 0; at = s.at }) x.blocks h.0.1.0.1.1) (ranges_of_all docs (behind_term s x) xs h.1)

pub are_places : (h : Header) (xs : List TermBlocks) → h.length < 2 ^ 64 → FitDictionary h xs → All ArePlaces xs
are_places h xs small fit =
    let s : BehindTerm = record { before = []; at = h.blocks_at } in
    let ranges = ranges_of_all h.docs s xs fit.0.1 in
    let within = all_within h.docs s xs fit.0.1 in
    let end : end_of_all h.blocks_at xs ≡ h.length = eqb-true _ _ fit.1 in
    λ k d inside. record {
      rising = ranges k d inside;
      within = λ i b near. let here = within.1 k d inside i b near in omega (arith, here, end, small);
    }

-- ---- the header

pub in_order : (docs size : ℕ) (h : Header) → FitsHeader docs size h → AreInOrder h
in_order docs size h fit =
    let places = fit.1.1.0 in
    let made = fit.1.1.1 in
    let d : 64 ≤ h.dictionary_at = leb-true _ _ places.0.1.1 in
    let b : h.dictionary_at ≤ h.blocks_at = leb-true _ _ places.1.0.0.1 in
    let e = and_parts (leb h.blocks_at size) _ places.1.0.1.0.1 in
    let f : h.blocks_at ≤ size = leb-true _ _ e.0 in
    let first : 64 ≡ h.documents_at = ap (λ (x : Header). x.documents_at) made in
    let last : size ≡ h.length = ap (λ (x : Header). x.length) made in
    let small : size < 2 ^ 64 = places.1.0.1.0.0 in
    record { documents = omega (arith, d, first); dictionary = b; blocks = omega (arith, f, last); file = omega (arith, small, last); terms = fit.1.0.1.0 }

-- the header tells as many documents as are asked for
pub docs_asked : (docs size : ℕ) (h : Header) → FitsHeader docs size h → h.docs ≡ docs
docs_asked docs size h fit = eqb-true h.docs docs (and_parts (leb h.docs MAX_PART_DOCS) _ fit.0.1.1.1).1

-- ---- what was read

pub read-docs : (docs size : ℕ) (bytes : List ℕ) (r : Result Header SegFault) → IfOk r (λ v. (bytes ≡ header_bytes v) × FitsHeader docs size v) → IfOk r (λ h. h.docs ≡ docs)
read-docs docs size bytes (Ok h) p = docs_asked docs size h p.1
read-docs docs size bytes (Err e) p = tt

pub read-count : (h : Header) (bytes : List ℕ) (r : Result (List Entry) SegFault) → IfOk r (λ v. (bytes ≡ documents_bytes v) × FitDocuments h v) → IfOk r (λ es. length es ≡ h.docs)
read-count h bytes (Ok es) p = p.1.0.1.0.0
read-count h bytes (Err e) p = tt

pub read-outlines : (h : Header) (bytes : List ℕ) (r : Result (List Entry) SegFault) → IfOk r (λ v. (bytes ≡ documents_bytes v) × FitDocuments h v) → IfOk r (All IsOutline)
read-outlines h bytes (Ok es) p = are_outlines h es p.1
read-outlines h bytes (Err e) p = tt

pub read-terms : (h : Header) (bytes : List ℕ) (r : Result (List TermBlocks) SegFault) → IfOk r (λ v. (bytes ≡ dictionary_bytes v) × FitDictionary h v) → IfOk r (AllPairs (λ (a b : TermBlocks). IsTermBefore a.term b.term))
read-terms h bytes (Ok xs) p = terms_in_order h xs p.1
read-terms h bytes (Err e) p = tt

pub read-places : (h : Header) (bytes : List ℕ) (r : Result (List TermBlocks) SegFault) → h.length < 2 ^ 64 → IfOk r (λ v. (bytes ≡ dictionary_bytes v) × FitDictionary h v) → IfOk r (All ArePlaces)
read-places h bytes (Ok xs) small p = are_places h xs small p.1
read-places h bytes (Err e) small p = tt

pub read-few : (h : Header) (bytes : List ℕ) (r : Result (List TermBlocks) SegFault) → h.terms < 2 ^ 32 → IfOk r (λ v. (bytes ≡ dictionary_bytes v) × FitDictionary h v) → IfOk r (λ ts. length ts < 2 ^ 32)
read-few h bytes (Ok xs) small p = let count = p.1.0.0 in omega (arith, count, small)
read-few h bytes (Err e) small p = tt
