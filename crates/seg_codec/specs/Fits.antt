-- What has a spelling.
use Rattle.std.specs.Prelude.{◌≡◌, ◌<◌, ℕ, ◌+◌, ◌-◌, ◌*◌, ◌^◌, ◌==◌, Bool, true, List, [], length, map, nat_lt, nat_le, ◌&&◌}
use Rattle.std.specs.Bool.{nat_eq}
use Rattle.std.specs.Cmp.Lexicographic.{pointwise}
use Rattle.ri_base.specs.Documents.{Field}
use Rattle.ri_base.specs.Text.{is_docno, is_name, is_term}
use Rattle.ri_base.specs.declared.limits.TheConstants.{MAX_DOC_TOKENS, MAX_HELD_TOKENS, MAX_PART_DOCS, MAX_PART_NAMES}
use Rattle.ri_base.specs.declared.text.TheConstants.{DOCNO_BYTES, NAME_BYTES, TERM_BYTES}
use Rattle.ri_base.specs.Fields.{is_before}
use Rattle.ri_base.specs.Reading.{AllFit}
use Rattle.seg_codec.specs.Blocks.{is_local, tokens_of}
use Rattle.seg_codec.specs.Dictionary.{Behind, BehindTerm, behind, behind_term, end_of_all}
use Rattle.seg_codec.specs.Documents.{Listed, are_whole, first_row, is_behind, named, names_in_order}
use Rattle.seg_codec.specs.Headers.{magic}
use Rattle.seg_codec.specs.Spelling.{numbered}
use Rattle.seg_codec.specs.declared.blocks.BlockEntry.{BlockEntry}
use Rattle.seg_codec.specs.declared.dictionary.BlockPlace.{BlockPlace}
use Rattle.seg_codec.specs.declared.dictionary.TermBlocks.{TermBlocks}
use Rattle.seg_codec.specs.declared.documents.Entry.{Entry}
use Rattle.seg_codec.specs.declared.documents.Row.{Row}
use Rattle.seg_codec.specs.declared.header.Header.{Header}

-- ---- blocks

abbrev pub place_rule : ℕ → ℕ → ℕ → Bool
place_rule tokens low p = nat_le low p && nat_lt p tokens

abbrev pub FitsPlace : ℕ → ℕ → ℕ → Type 0
FitsPlace tokens low p = (p < 2 ^ 32) × (place_rule tokens low p ≡ true)

abbrev pub FitPlaces : ℕ → List ℕ → Type 0
FitPlaces tokens ps = ((length ps < 2 ^ 32) × (nat_le 1 (length ps) ≡ true)) × ((length ps ≡ length ps) × AllFit (FitsPlace tokens) (λ _ p. p + 1) 0 ps)

abbrev pub FitsId : ℕ → ℕ → ℕ → ℕ → Type 0
FitsId docs range low id = (is_local docs range low (id - 64 * range) ≡ true) × (64 * range + (id - 64 * range) ≡ id)

abbrev pub FitsBlockEntry : List Entry → ℕ → ℕ → BlockEntry → Type 0
FitsBlockEntry docs range low e = FitsId (length docs) range low e.id × (FitPlaces (tokens_of docs e.id) e.positions × (record { id = e.id; positions = e.positions } ≡ e))

abbrev pub FitBlock : List Entry → ℕ → List BlockEntry → Type 0
FitBlock docs range es = (nat_le 1 (length es) && nat_le (length es) 64 ≡ true) × ((length es ≡ length es) × AllFit (FitsBlockEntry docs range) (λ _ e. e.id + 1) 0 es)

-- ---- header

abbrev pub FitsDocs : ℕ → ℕ → Type 0
FitsDocs docs n = (n < 2 ^ 32) × (nat_le n MAX_PART_DOCS && (n == docs) ≡ true)

abbrev pub Counts : Type 0
Counts = ℕ × ℕ × ℕ

abbrev pub FitCounts : Counts → Type 0
FitCounts c =
    ((c.0 < 2 ^ 64) × (nat_le c.0 MAX_HELD_TOKENS ≡ true))
    × ((c.1 < 2 ^ 32)
    × (((c.2 < 2 ^ 32) × (nat_le c.2 MAX_PART_NAMES ≡ true))
    × ((c.0, c.1, c.2) ≡ c)))

abbrev pub FitsDictionaryPlace : ℕ → Type 0
FitsDictionaryPlace d = ((64 < 2 ^ 64) × (64 == 64 ≡ true)) × ((d < 2 ^ 64) × (nat_le 64 d ≡ true))

abbrev pub FitsBlocksPlace : ℕ → ℕ → ℕ → Type 0
FitsBlocksPlace size dictionary b = ((b < 2 ^ 64) × (nat_le dictionary b ≡ true)) × (((size < 2 ^ 64) × (nat_le b size && (size == size) ≡ true)) × (b ≡ b))

abbrev pub FitHeaderPlaces : ℕ → ℕ × ℕ → Type 0
FitHeaderPlaces size p = FitsDictionaryPlace p.0 × (FitsBlocksPlace size p.0 p.1 × ((p.0, p.1) ≡ p))

abbrev pub made : ℕ → ℕ → Counts → ℕ × ℕ → Header
made size n c p = record { docs = n; tokens = c.0; terms = c.1; names = c.2; documents_at = 64; dictionary_at = p.0; blocks_at = p.1; length = size }

abbrev pub counts_of : Header → Counts
counts_of h = (h.tokens, h.terms, h.names)

abbrev pub places_of : Header → ℕ × ℕ
places_of h = (h.dictionary_at, h.blocks_at)

abbrev pub FitsDocsCount : ℕ → ℕ → Type 0
FitsDocsCount docs n = ((length magic ≡ 8) × (pointwise nat_eq magic magic ≡ true)) × (((1 < 2 ^ 32) × (1 == 1 ≡ true)) × FitsDocs docs n)

abbrev pub FitsHeader : ℕ → ℕ → Header → Type 0
FitsHeader docs size h = FitsDocsCount docs h.docs × (FitCounts (counts_of h) × (FitHeaderPlaces size (places_of h) × (made size h.docs (counts_of h) (places_of h) ≡ h)))

-- ---- documents

abbrev pub end_rule : ℕ → Row → ℕ → ℕ → ℕ → Bool
end_rule tokens before n b e = nat_lt b e && nat_le e tokens && is_behind before (record { name = n; begin = b; end = e })

-- what a field keeps behind another
abbrev pub FitsRow : ℕ → ℕ → Row → Row → Type 0
FitsRow names tokens before r =
    ((r.name < 2 ^ 16) × (nat_lt r.name names ≡ true))
    × (((r.begin < 2 ^ 32) × (nat_le before.begin r.begin ≡ true))
    × (((r.end < 2 ^ 32) × (end_rule tokens before r.name r.begin r.end ≡ true))
    × (record { name = r.name; begin = r.begin; end = r.end } ≡ r)))

abbrev pub FitRows : ℕ → ℕ → List Row → Type 0
FitRows names tokens rs = (length rs < 2 ^ 16) × ((length rs ≡ length rs) × AllFit (FitsRow names tokens) (λ _ r. r) first_row rs)

abbrev pub FitFields : List (List ℕ) → ℕ → List Field → Type 0
FitFields names tokens fs = FitRows (length names) tokens (map (numbered names) fs) × (map (named names) (map (numbered names) fs) ≡ fs)

abbrev pub length_rule : ℕ → ℕ → Bool
length_rule most n = nat_le 1 n && nat_le n most

abbrev pub FitsEntry : List (List ℕ) → Entry → Type 0
FitsEntry names e =
    ((length_rule DOCNO_BYTES (length e.docno) ≡ true) × (is_docno e.docno ≡ true))
    × (((e.tokens < 2 ^ 32) × (nat_le e.tokens MAX_DOC_TOKENS ≡ true))
    × (FitFields names e.tokens e.fields × (record { docno = e.docno; tokens = e.tokens; fields = e.fields } ≡ e)))

abbrev pub FitsName : List ℕ → List ℕ → Type 0
FitsName before x = (length_rule NAME_BYTES (length x) ≡ true) × (is_name x && is_before before x ≡ true)

abbrev pub FitNames : ℕ → List (List ℕ) → Type 0
FitNames names ns = (length ns ≡ names) × AllFit FitsName (λ _ x. x) [] ns

abbrev pub FitEntries : ℕ → List (List ℕ) → List Entry → Type 0
FitEntries docs ns es = (length es ≡ docs) × AllFit {S = ℕ} (λ _. FitsEntry ns) (λ s _. s) 0 es

abbrev pub FitListed : ℕ → ℕ → Listed → Type 0
FitListed names docs x = FitNames names x.0 × (FitEntries docs x.0 x.1 × ((x.0, x.1) ≡ x))

-- what the documents part keeps
abbrev pub FitDocuments : Header → List Entry → Type 0
FitDocuments h es = FitListed h.names h.docs (names_in_order es, es) × (are_whole h.tokens (names_in_order es, es) ≡ true)

-- ---- dictionary

abbrev pub range_rule : ℕ → ℕ → ℕ → Bool
range_rule docs low r = nat_le low r && nat_lt (64 * r) docs

abbrev pub FitsBlockPlace : ℕ → Behind → BlockPlace → Type 0
FitsBlockPlace docs s b =
    ((b.range < 2 ^ 32) × (range_rule docs s.low b.range ≡ true))
    × (((b.place < 2 ^ 64) × (b.place == s.at ≡ true))
    × ((b.length < 2 ^ 32) × (record { range = b.range; place = b.place; length = b.length } ≡ b)))

abbrev pub FitBlockPlaces : ℕ → ℕ → List BlockPlace → Type 0
FitBlockPlaces docs at bs = ((length bs < 2 ^ 32) × (nat_le 1 (length bs) ≡ true)) × ((length bs ≡ length bs) × AllFit (FitsBlockPlace docs) (λ _ b. behind b) (record { low = 0; at = at }) bs)

abbrev pub FitsTermBlocks : ℕ → BehindTerm → TermBlocks → Type 0
FitsTermBlocks docs s x =
    ((length_rule TERM_BYTES (length x.term) ≡ true) × (is_term x.term && is_before s.before x.term ≡ true))
    × (FitBlockPlaces docs s.at x.blocks × (record { term = x.term; blocks = x.blocks } ≡ x))

abbrev pub FitTerms : Header → List TermBlocks → Type 0
FitTerms h xs = (length xs ≡ h.terms) × AllFit (FitsTermBlocks h.docs) behind_term (record { before = []; at = h.blocks_at }) xs

abbrev pub FitDictionary : Header → List TermBlocks → Type 0
FitDictionary h xs = FitTerms h xs × (end_of_all h.blocks_at xs == h.length ≡ true)
