-- the fields of a document that was read are those of a document
use Rattle.std.proofs.Common.{◌≡◌, ◌<◌, ◌≤◌, ℕ, zero, suc, List, [], ◌∷◌, length, get_or, map, true, ◌&&◌, ◌||◌, nat_lt, nat_le, ap, subst, inl, inr, arith}
use Rattle.std.specs.Prelude.{◌==◌, IfOk, Result, Ok, Err}
use Rattle.std.specs.Cmp.Lexicographic.{slice_cmp}
use Rattle.std.specs.List.{All, AllPairs}
use Rattle.std.specs.List.Sorted.{IsStrictlySortedBy}
use Rattle.std.specs.Ordering.{nat_cmp}
use Rattle.std.specs.declared.cmp.Ordering.TheVariants.{Less}
use Rattle.std.proofs.lemmas.Bool.{and_parts, eqb-true, leb-true, ltb-true, or_cases}
use Rattle.std.proofs.lemmas.Bool.Decides.{nat_tests}
use Rattle.std.proofs.lemmas.List.{length-map}
use Rattle.std.proofs.lemmas.List.Elements.{All-cons, All-nil, All-weaker}
use Rattle.std.proofs.lemmas.Map.Keys.{Less-from_sorted}
use Rattle.ri_base.specs.Reading.{AllFit}
use Rattle.ri_base.specs.Documents.{Field, IsBefore}
use Rattle.ri_base.specs.declared.limits.TheConstants.{MAX_DOC_TOKENS}
use Rattle.ri_base.specs.declared.seg_fault.SegFault.{SegFault}
use Rattle.seg_codec.specs.Documents.{first_row, is_behind, named, names_in_order}
use Rattle.seg_codec.specs.Fits.{FitDocuments, FitFields, FitsEntry, FitsRow}
use Rattle.seg_codec.specs.Spelling.{documents_bytes, number_of, numbered}
use Rattle.seg_codec.specs.Whole.{IsSound}
use Rattle.seg_codec.specs.declared.documents.Entry.{Entry}
use Rattle.seg_codec.specs.declared.documents.Row.{Row}
use Rattle.seg_codec.specs.declared.header.Header.{Header}
use Rattle.seg_codec.proofs.NameLemmas.{names_rise}

-- a field that lies within the document, with a name among these
record IsKnown (ns : List (List ℕ)) (tokens : ℕ) (f : Field) : Type 0 where
  below : number_of ns f.name < length ns
  back : get_or ns (number_of ns f.name) [] ≡ f.name
  some : f.begin < f.end
  within : f.end ≤ tokens

AllPairs-cons : {X : Type 0} (R : X → X → Type 0) (x : X) (xs : List X) → All (R x) xs → AllPairs R xs → AllPairs R (x ∷ xs)
AllPairs-cons {X} R x xs first rest = pairs
  where
    pairs : (i j : ℕ) (d : X) → i < j → j < length (x ∷ xs) → R (get_or (x ∷ xs) i d) (get_or (x ∷ xs) j d)
    pairs i zero d lower inside = absurd (omega (arith, lower))
    pairs zero (suc j) d lower inside = first j d (omega (arith, inside))
    pairs (suc i) (suc j) d lower inside = rest i j d (omega (arith, lower)) (omega (arith, inside))

is_behind-trans : (a b c : Row) → is_behind a b ≡ true → is_behind b c ≡ true → is_behind a c ≡ true
is_behind-trans a b c h k = grind (arith, nat_tests)

before_from_behind : (ns : List (List ℕ)) (tokens : ℕ) (f g : Field) → IsStrictlySortedBy (slice_cmp nat_cmp) ns → IsKnown ns tokens f → IsKnown ns tokens g → is_behind (numbered ns f) (numbered ns g) ≡ true → IsBefore f g
before_from_behind ns tokens f g up kf kg h =
    elim (or_cases (nat_lt f.begin g.begin) ((f.begin == g.begin) && (nat_lt f.end g.end || (f.end == g.end) && nat_lt (number_of ns f.name) (number_of ns g.name))) h) [
      | inl b ↦ inl (ltb-true f.begin g.begin b)
      | inr e ↦
          let p = and_parts (f.begin == g.begin) (nat_lt f.end g.end || (f.end == g.end) && nat_lt (number_of ns f.name) (number_of ns g.name)) e in
          inr (
            eqb-true f.begin g.begin p.0,
            elim (or_cases (nat_lt f.end g.end) ((f.end == g.end) && nat_lt (number_of ns f.name) (number_of ns g.name)) p.1) [
              | inl b ↦ inl (ltb-true f.end g.end b)
              | inr c ↦
                  let q = and_parts (f.end == g.end) (nat_lt (number_of ns f.name) (number_of ns g.name)) c in
                  let less : slice_cmp nat_cmp (get_or ns (number_of ns f.name) []) (get_or ns (number_of ns g.name) []) ≡ Less =
                  Less-from_sorted (slice_cmp nat_cmp) ns (number_of ns f.name) (number_of ns g.name) [] up (ltb-true (number_of ns f.name) (number_of ns g.name) q.1) kg.below in
                  let left : slice_cmp nat_cmp f.name (get_or ns (number_of ns g.name) []) ≡ Less = subst (λ (x : List ℕ). slice_cmp nat_cmp x (get_or ns (number_of ns g.name) []) ≡ Less) kf.back less in
                  inr (eqb-true f.end g.end q.0, subst (λ (x : List ℕ). slice_cmp nat_cmp f.name x ≡ Less) kg.back left)
            ],
          )
    ]

all_known : (ns : List (List ℕ)) (tokens : ℕ) (before : Row) (fs : List Field) → AllFit (FitsRow (length ns) tokens) (λ _ r. r) before (map (numbered ns) fs) → map (named ns) (map (numbered ns) fs) ≡ fs → All (IsKnown ns tokens) fs
all_known ns tokens before [] h back = All-nil (IsKnown ns tokens)
all_known ns tokens before (f ∷ fs) h back =
    let one : named ns (numbered ns f) ≡ f = cc in
    let rest : map (named ns) (map (numbered ns) fs) ≡ fs = cc in
    let rule = and_parts (nat_lt f.begin f.end && nat_le f.end tokens) (is_behind before (numbered ns f)) h.0.1.1.0.1 in
    let ends = and_parts (nat_lt f.begin f.end) (nat_le f.end tokens) rule.0 in
    All-cons (IsKnown ns tokens) f fs
    (record {
      below = ltb-true (number_of ns f.name) (length ns) h.0.0.1;
      back = ap (λ (x : Field). x.name) one;
      some = ltb-true f.begin f.end ends.0;
      within = leb-true f.end tokens ends.1;
    })
    (all_known ns tokens (numbered ns f) fs h.1 rest)

all_behind : (ns : List (List ℕ)) (tokens : ℕ) (before : Row) (fs : List Field) → AllFit (FitsRow (length ns) tokens) (λ _ r. r) before (map (numbered ns) fs) → All (λ g. is_behind before (numbered ns g) ≡ true) fs
all_behind ns tokens before [] h = All-nil (λ g. is_behind before (numbered ns g) ≡ true)
all_behind ns tokens before (f ∷ fs) h =
    let here : is_behind before (numbered ns f) ≡ true = (and_parts (nat_lt f.begin f.end && nat_le f.end tokens) (is_behind before (numbered ns f)) h.0.1.1.0.1).1 in
    All-cons (λ g. is_behind before (numbered ns g) ≡ true) f fs here
    (All-weaker (λ g. is_behind (numbered ns f) (numbered ns g) ≡ true) (λ g. is_behind before (numbered ns g) ≡ true) (λ g p. is_behind-trans before (numbered ns f) (numbered ns g) here p) fs (all_behind ns tokens (numbered ns f) fs h.1))

in_order : (ns : List (List ℕ)) (tokens : ℕ) (before : Row) (fs : List Field) → IsStrictlySortedBy (slice_cmp nat_cmp) ns → AllFit (FitsRow (length ns) tokens) (λ _ r. r) before (map (numbered ns) fs) → All (IsKnown ns tokens) fs → AllPairs IsBefore fs
in_order ns tokens before [] up h known = λ i j d lower inside. absurd (omega (arith, inside))
in_order ns tokens before (f ∷ fs) up h known =
    let kf : IsKnown ns tokens f = known 0 f (omega arith) in
    let later : All (IsKnown ns tokens) fs = λ k d inside. known (suc k) d (omega (arith, inside)) in
    let behind = all_behind ns tokens (numbered ns f) fs h.1 in
    AllPairs-cons IsBefore f fs (λ k d inside. before_from_behind ns tokens f (get_or fs k d) up kf (later k d inside) (behind k d inside)) (in_order ns tokens (numbered ns f) fs up h.1 later)

entry_sound : (ns : List (List ℕ)) (e : Entry) → IsStrictlySortedBy (slice_cmp nat_cmp) ns → FitsEntry ns e → IsSound e
entry_sound ns e up h =
    let fields : FitFields ns e.tokens e.fields = h.1.1.0 in
    let rows = fields.0.1.1 in
    let known : All (IsKnown ns e.tokens) e.fields = all_known ns e.tokens first_row e.fields rows fields.1 in
    record {
      short = leb-true e.tokens MAX_DOC_TOKENS h.1.0.1;
      fields = record {
        few = omega (arith, fields.0.0, length-map e.fields (numbered ns));
        some = All-weaker (IsKnown ns e.tokens) (λ f. f.begin < f.end) (λ f k. k.some) e.fields known;
        within = All-weaker (IsKnown ns e.tokens) (λ f. f.end ≤ e.tokens) (λ f k. k.within) e.fields known;
        in_order = in_order ns e.tokens first_row e.fields up rows known;
      };
    }

entries_sound : (ns : List (List ℕ)) (es : List Entry) → IsStrictlySortedBy (slice_cmp nat_cmp) ns → AllFit {S = ℕ} (λ _. FitsEntry ns) (λ s _. s) 0 es → All IsSound es
entries_sound ns [] up h = All-nil IsSound
entries_sound ns (e ∷ es) up h = All-cons IsSound e es (entry_sound ns e up h.0) (entries_sound ns es up h.1)

pub documents_sound : (h : Header) (es : List Entry) → FitDocuments h es → All IsSound es
documents_sound h es fit = entries_sound (names_in_order es) es (names_rise es) fit.0.1.0.1

pub sound_if_read : (h : Header) (bytes : List ℕ) (r : Result (List Entry) SegFault) → IfOk r (λ es. (bytes ≡ documents_bytes es) × FitDocuments h es) → IfOk r (All IsSound)
sound_if_read h bytes (Ok es) f = documents_sound h es f.1
sound_if_read h bytes (Err e) f = tt
