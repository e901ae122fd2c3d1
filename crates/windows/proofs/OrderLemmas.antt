-- Windows stand in order, each has a token, and each lies within the document.
use Rattle.std.proofs.Common.{◌≡◌, ℕ, suc, zero, ◌+◌, ◌*◌, ◌<◌, ◌≤◌, ◌⊎◌, ⊎_elim, inl, inr, true, false, nat_lt, List, [], ◌∷◌, filter, map, length, get_or, refl, sym, ◌∙◌, arith}
use Rattle.std.specs.Cmp.Lexicographic.{slice_cmp}
use Rattle.std.specs.List.{All, AllPairs, range_with_len}
use Rattle.std.specs.Ordering.{nat_cmp, is_eq}
use Rattle.std.specs.Str.{bytes_eq}
use Rattle.std.specs.declared.cmp.Ordering.TheVariants.{Less}
use Rattle.std.proofs.Math.Nat.{mul-lt-mul_of_pos_right}
use Rattle.std.proofs.lemmas.Bool.{cases_Bool, ltb-true, false≢true}
use Rattle.std.proofs.lemmas.List.{get_or-map, length-map}
use Rattle.std.proofs.lemmas.List.Elements.{All-filter, All-map, filter_passes}
use Rattle.std.proofs.lemmas.List.FromFn.{get_or-range_with_len, length-range_with_len}
use Rattle.std.proofs.lemmas.List.Kept.{AllPairs-filter}
use Rattle.std.proofs.lemmas.Map.Text.{is_eq-slice_cmp}
use Rattle.std.proofs.lemmas.Slice.Eq.{bytes_eq-Decides}
use Rattle.ri_base.specs.Documents.{AreFields, Field, IsBefore}
use Rattle.ri_base.specs.Pair.{Pair}
use Rattle.ri_base.specs.Query.{is_range}
use Rattle.ri_base.specs.declared.query.Range.{Range}
use Rattle.ri_base.specs.declared.query.Range.TheVariants.{Whole, Field as Fields, Passages}
use Rattle.windows.specs.Windows.{AreRising, IsEarlier, passage, passage_numbers, window, windows}
use Rattle.windows.proofs.LeftLemmas.{AreNumbers-start}

AllPairs-map : {X Y : Type 0} (R : Y → Y → Type 0) (f : X → Y) (xs : List X) → AllPairs (λ a b. R (f a) (f b)) xs → AllPairs R (map f xs)
AllPairs-map R f [] h i j d l u = absurd (omega (arith, u))
AllPairs-map R f (x ∷ xs) h i j d l u =
    let inside : j < length (x ∷ xs) = omega (arith, u, length-map (x ∷ xs) f) in
    rw (get_or-map f (x ∷ xs) i x d (omega arith), get_or-map f (x ∷ xs) j x d inside) (h i j x l inside)

-- two fields of one name differ in their begins or their ends
earlier_field : (name : List ℕ) (a b : Field) → bytes_eq a.name name ≡ true → bytes_eq b.name name ≡ true → IsBefore a b → IsEarlier (window a.begin a.end) (window b.begin b.end)
earlier_field name a b of_a of_b before = ⊎_elim
    (λ (begins : a.begin < b.begin). inl begins)
    (λ (same : (a.begin ≡ b.begin) × ((a.end < b.end) ⊎ (a.end ≡ b.end) × (slice_cmp nat_cmp a.name b.name ≡ Less))). ⊎_elim
    (λ (ends : a.end < b.end). inr (same.0, ends))
    (λ (names : (a.end ≡ b.end) × (slice_cmp nat_cmp a.name b.name ≡ Less)).
    let to_a : a.name ≡ name = (bytes_eq-Decides a.name name).0 of_a in
    let to_b : b.name ≡ name = (bytes_eq-Decides b.name name).0 of_b in
    let equal : bytes_eq a.name b.name ≡ true = (bytes_eq-Decides a.name b.name).1 (to_a ∙ sym to_b) in
    let differ : is_eq (slice_cmp nat_cmp a.name b.name) ≡ false = rw names.1 refl in
    absurd (false≢true (sym differ ∙ is_eq-slice_cmp a.name b.name ∙ equal)))
    same.1)
    before

fields_rise : (name : List ℕ) (fields : List Field) → AllPairs IsBefore fields → AreRising (windows (Fields name) 0 fields)
fields_rise name fields in_order =
    let kept = filter (λ (f : Field). bytes_eq f.name name) fields in
    let before : AllPairs IsBefore kept = AllPairs-filter IsBefore (λ f. bytes_eq f.name name) fields in_order in
    AllPairs-map IsEarlier (λ (f : Field). window f.begin f.end) kept (λ i j d l u.
    earlier_field name (get_or kept i d) (get_or kept j d)
    (filter_passes (λ f. bytes_eq f.name name) fields i d (omega arith))
    (filter_passes (λ f. bytes_eq f.name name) fields j d u)
    (before i j d l u))

range_rises : (a n : ℕ) → AllPairs (λ x y. x < y) (range_with_len a n)
range_rises a n i j d l u =
    let short : j < n = omega (arith, length-range_with_len a n, u) in
    let at_i : get_or (range_with_len a n) i d ≡ a + i = get_or-range_with_len a n i d (omega arith) in
    let at_j : get_or (range_with_len a n) j d ≡ a + j = get_or-range_with_len a n j d short in
    omega arith

passages_rise : (tokens width every : ℕ) → 1 ≤ every → AreRising (windows (Passages width every) tokens [])
passages_rise tokens width every some =
    let numbers = passage_numbers tokens every in
    let rising : AllPairs (λ x y. x < y) numbers = AllPairs-filter (λ x y. x < y) (λ i. nat_lt (i * every) tokens) (range_with_len 0 tokens) (range_rises 0 tokens) in
    AllPairs-map IsEarlier (λ i. passage tokens width (i * every)) numbers (λ i j d l u.
    inl (mul-lt-mul_of_pos_right (rising i j d l u) some))

-- a window in a document: it has a token and ends within it
abbrev IsIn : ℕ → Pair → Type 0
IsIn tokens w = (w.begin < w.end) × (w.end ≤ tokens)

passages_in : (tokens width every : ℕ) → 1 ≤ width → All (IsIn tokens) (windows (Passages width every) tokens [])
passages_in tokens width every some =
    let numbers = passage_numbers tokens every in
    All-map (IsIn tokens) (λ i. passage tokens width (i * every)) numbers (λ k d u.
    let within : get_or numbers k d * every < tokens = ltb-true _ _ (filter_passes (λ i. nat_lt (i * every) tokens) (range_with_len 0 tokens) k d u) in
    (omega arith, omega arith))

fields_in : (tokens : ℕ) (name : List ℕ) (fields : List Field) → AreFields tokens fields → All (IsIn tokens) (windows (Fields name) 0 fields)
fields_in tokens name fields sound =
    let kept = filter (λ (f : Field). bytes_eq f.name name) fields in
    All-map (IsIn tokens) (λ (f : Field). window f.begin f.end) kept (λ k d u. (
      All-filter (λ f. bytes_eq f.name name) (λ f. f.begin < f.end) fields sound.some k d u,
      All-filter (λ f. bytes_eq f.name name) (λ f. f.end ≤ tokens) fields sound.within k d u,
    ))

module _ (tokens : ℕ) (fields : List Field) (sound : AreFields tokens fields) where
  one_rises : (w : Pair) → AreRising (w ∷ [])
  one_rises w i j d l u = absurd (omega (arith, l, u))

  whole_in : 0 < tokens → All (IsIn tokens) (window 0 tokens ∷ [])
  whole_in some zero d u = (some, omega arith)
  whole_in some (suc k) d u = absurd (omega (arith, u))

  -- windows stand in order, each once
  pub windows-AreRising : (r : Range) → is_range r ≡ true → AreRising (windows r tokens fields)
  windows-AreRising Whole numbers = ⊎_elim
      (λ (some : nat_lt 0 tokens ≡ true). rw some (one_rises (window 0 tokens)))
      (λ (none : nat_lt 0 tokens ≡ false). rw none (λ i j d l u. absurd (omega (arith, u))))
      (cases_Bool (nat_lt 0 tokens))
  windows-AreRising (Fields name) numbers = fields_rise name fields sound.in_order
  windows-AreRising (Passages width every) numbers = passages_rise tokens width every (AreNumbers-start 0 width every numbers (omega arith)).apart

  windows_in : (r : Range) → is_range r ≡ true → All (IsIn tokens) (windows r tokens fields)
  windows_in Whole numbers = ⊎_elim
      (λ (some : nat_lt 0 tokens ≡ true). rw some (whole_in (ltb-true _ _ some)))
      (λ (none : nat_lt 0 tokens ≡ false). rw none (λ k d u. absurd (omega (arith, u))))
      (cases_Bool (nat_lt 0 tokens))
  windows_in (Fields name) numbers = fields_in tokens name fields sound
  windows_in (Passages width every) numbers = passages_in tokens width every (AreNumbers-start 0 width every numbers (omega arith)).some

  pub windows-some : (r : Range) → is_range r ≡ true → All (λ w. w.begin < w.end) (windows r tokens fields)
  windows-some r numbers k d u = (windows_in r numbers k d u).0

  pub windows-within : (r : Range) → is_range r ≡ true → All (λ w. w.end ≤ tokens) (windows r tokens fields)
  windows-within r numbers k d u = (windows_in r numbers k d u).1
