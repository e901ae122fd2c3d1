-- What is known of the documents that come next.
use Rattle.std.proofs.Common.{◌≡◌, ◌<◌, ◌≤◌, ℕ, ◌+◌, ◌*◌, ◌/◌, ◌%◌, zero, suc, ◌-◌, true, false, List, [], ◌∷◌, Contains, IfOk, IfSome, Result, Ok, Err, inl, inr, ◌⊎◌, Option, None, Some, length, take, drop, is_some, slice_get, refl, sym, ap, subst, ◌∙◌, arith}
use Rattle.std.specs.Int.{bit_at}
use Rattle.std.specs.List.{All}
use Rattle.std.proofs.lemmas.Bool.{false≢true}
use Rattle.std.proofs.lemmas.Bool.Decides.{nat_tests}
use Rattle.std.proofs.lemmas.List.{length-drop}
use Rattle.std.proofs.lemmas.List.Elements.{All-contains, Contains-append_right, Contains-get_or}
use Rattle.std.proofs.lemmas.Nat.Bits.{bit_at-zero}
use Rattle.ri_base.specs.Collection.{document_at}
use Rattle.ri_base.specs.Documents.{Document}
use Rattle.ri_base.specs.Query.{FilterTree}
use Rattle.query_check.specs.Leaves.{LeafTree}
use Rattle.range_masks.specs.Masks.{IsMask}
use Rattle.range_masks.specs.May.{query_may}
use Rattle.range_masks.proofs.MaskLemmas.{IsMask-tells}
use Rattle.smoothing.specs.declared.rule.RuleKind.{RuleKind}
use Rattle.belief_nodes.specs.Network.{NetworkTree}
use Rattle.belief_nodes.specs.Priors.{Prior}
use Rattle.range_bounds.specs.Ranges.{range_documents}
use Rattle.range_bounds.specs.Tables.{AreAbsent, IsAbsent}
use Rattle.range_bounds.specs.declared.table.RangeTable.{RangeTable}
use Rattle.ranker.specs.Least.{AreFrom}
use Rattle.ranker.specs.RangeKeys.{range_key}
use Rattle.ranker.specs.Passed.{IsAhead, IsKnown, IsSpan, IsTold, bit_of, is_clear, nothing_known}
use Rattle.ranker.specs.declared.place.Ahead.{Ahead}
use Rattle.ranker.specs.declared.place.Passed.{Passed}

-- where no bit is set, that of an id isn't
clear-bit : (mask : Option ℕ) (i : ℕ) → is_clear mask ≡ true → bit_of mask i ≡ 0
clear-bit None i none = absurd (false≢true none)
clear-bit (Some n) i none = let zero_mask : n ≡ 0 = grind (arith, nat_tests) in ap (λ m. bit_at m (i % 64)) zero_mask ∙ bit_at-zero (i % 64)

module _ (filters : List FilterTree) (leaves : List LeafTree) where
  pub IsAhead-nothing : (docs : List Document) (id : ℕ) → IsAhead filters leaves docs id nothing_known
  IsAhead-nothing docs id = record { none = λ i low high clear. absurd (omega (arith, high)) }

  -- the same documents
  pub IsAhead-read : (read docs : List Document) (id : ℕ) (ahead : Ahead) → read ≡ docs → IsAhead filters leaves read id ahead → IsAhead filters leaves docs id ahead
  IsAhead-read read docs id ahead same h = subst (λ (ds : List Document). IsAhead filters leaves ds id ahead) same h

  -- from a later id on
  pub IsAhead-on : (docs : List Document) (id next : ℕ) (ahead then : Ahead) → id ≤ next → then ≡ ahead → IsAhead filters leaves docs id ahead → IsAhead filters leaves docs next then
  IsAhead-on docs id next ahead then up same h =
      let later : IsAhead filters leaves docs next ahead = record { none = λ i low high clear. h.none i (omega (arith, up, low)) high clear } in
      subst (λ (a : Ahead). IsAhead filters leaves docs next a) (sym same) later

  -- documents that have nothing to show
  pub IsAhead-bare : (docs : List Document) (id end : ℕ) → ((i : ℕ) → 64 * (id / 64) ≤ i → i < end → query_may filters leaves (document_at docs i) ≡ false)
      → IsAhead filters leaves docs id (record { end = end; mask = Some 0; bound = None })
  IsAhead-bare docs id end h = record { none = λ i low high clear. h i (omega (arith, low)) high }

  -- those of a mask that isn't read
  pub IsAhead-unread : (docs : List Document) (id end : ℕ) → IsAhead filters leaves docs id (record { end = end; mask = None; bound = None })
  IsAhead-unread docs id end = record { none = λ i low high clear. absurd (omega (arith, clear)) }

  -- those of a mask
  pub IsAhead-mask : (docs : List Document) (id end mask : ℕ) (bound : Option ℕ) → end ≤ 64 * (id / 64 + 1) → IsMask (query_may filters leaves) (id / 64) docs mask
      → IsAhead filters leaves docs id (record { end = end; mask = Some mask; bound = bound })
  IsAhead-mask docs id end mask bound short h = record {
    none = λ i low high clear. IsMask-tells (id / 64) docs (query_may filters leaves) mask i false h (omega (arith, low)) (omega (arith, high, short)) (sym clear);
  }

  -- where no bit is set
  pub bare : (docs : List Document) (id : ℕ) (ahead : Ahead) → is_clear ahead.mask ≡ true → IsAhead filters leaves docs id ahead
      → (i : ℕ) → id ≤ i → i < ahead.end → query_may filters leaves (document_at docs i) ≡ false
  bare docs id ahead none h i low high = h.none i low high (clear-bit ahead.mask i none)

-- ---- up to where something is known

pub IsSpan-nothing : (size : ℕ) → IsSpan size 0 nothing_known
IsSpan-nothing size = record { back = omega arith; inside = omega arith; whole = λ short. omega arith; short = λ read. omega arith }

-- from a later id on
pub IsSpan-on : (size id next : ℕ) (ahead then : Ahead) → id ≤ next → next ≤ ahead.end → then ≡ ahead → IsSpan size id ahead → IsSpan size next then
IsSpan-on size id next ahead then up within same h =
    let short : is_clear ahead.mask ≡ false → ahead.end ≤ 64 * (next / 64 + 1) = λ read. (let end = h.short read in omega (arith, end, up)) in
    subst (λ (a : Ahead). IsSpan size next a) (sym same) (record { back = within; inside = h.inside; whole = h.whole; short = short })

-- with what is found out beside
pub IsSpan-opened : (size id : ℕ) (ahead now : Ahead) → now.end ≡ ahead.end → is_clear ahead.mask ≡ false → IsSpan size id ahead → IsSpan size id now
IsSpan-opened size id ahead now end read h =
    let back = h.back in
    let inside = h.inside in
    let last = h.short read in
    record {
      back = omega (arith, end, back);
      inside = omega (arith, end, inside);
      whole = λ less. (let whole = h.whole (omega (arith, end, less)) in omega (arith, end, whole));
      short = λ _. omega (arith, end, last);
    }

-- ---- documents of a list

document_drop : (docs : List Document) (n i j : ℕ) → j ≡ n + i → j < length docs → document_at (drop n docs) i ≡ document_at docs j
document_drop [] n i j is lt = absurd (omega (arith, lt))
document_drop (d ∷ docs) zero i j is lt = let same : i ≡ j = omega (arith, is) in ap (document_at (d ∷ docs)) same
document_drop (d ∷ docs) (suc n) i zero is lt = absurd (omega (arith, is))
document_drop (d ∷ docs) (suc n) i (suc j) is lt = document_drop docs n i j (omega (arith, is)) (omega (arith, lt))

document_taken : (docs : List Document) (n i : ℕ) → i < n → i < length docs → Contains (take n docs) (document_at docs i)
document_taken [] n i few lt = absurd (omega (arith, lt))
document_taken (d ∷ docs) zero i few lt = absurd (omega (arith, few))
document_taken (d ∷ docs) (suc n) zero few lt = Contains-get_or (d ∷ take n docs) 0 d (omega arith)
document_taken (d ∷ docs) (suc n) (suc i) few lt = Contains-append_right (d ∷ []) (take n docs) (document_at docs i) (document_taken docs n i (omega (arith, few)) (omega (arith, lt)))

-- ---- what is known, with bounds

module _ (kind : RuleKind) (priors : List Prior) (filters : List FilterTree) (network : NetworkTree) (tables : List RangeTable) (number : ℕ) where
  abbrev Known : List Document → ℕ → Ahead → Type 0
  Known docs id ahead = IsKnown kind priors filters network tables number docs id ahead

  pub IsKnown-nothing : (docs : List Document) → IsTold network tables number docs → Known docs 0 nothing_known
  IsKnown-nothing docs told = record {
    may = IsAhead-nothing filters network.leaves docs 0;
    least = λ n i is low high. absurd (omega (arith, high));
    key = λ n i is low high. absurd (omega (arith, high));
    told = told;
    span = IsSpan-nothing (length docs);
  }

  -- the same documents
  pub IsKnown-read : (read docs : List Document) (id : ℕ) (ahead : Ahead) → read ≡ docs → Known read id ahead → Known docs id ahead
  IsKnown-read read docs id ahead same h = subst (λ (ds : List Document). Known ds id ahead) same h

  -- from a later id on
  pub IsKnown-on : (docs : List Document) (id next : ℕ) (ahead then : Ahead) → id ≤ next → next ≤ ahead.end → then ≡ ahead → Known docs id ahead → Known docs next then
  IsKnown-on docs id next ahead then up within same h =
      let later : Known docs next ahead = record {
        may = IsAhead-on filters network.leaves docs id next ahead ahead up refl h.may;
        least = λ n i is low high. h.least n i is (omega (arith, up, low)) high;
        key = λ n i is low high. h.key n i is (omega (arith, up, low)) high;
        told = h.told;
        span = IsSpan-on (length docs) id next ahead ahead up within refl h.span;
      } in
      subst (λ (a : Ahead). Known docs next a) (sym same) later

  -- behind documents that were passed, with what was known
  pub IsKnown-masked : {E : Type 0} (docs : List Document) (id : ℕ) (ahead : Ahead) (passed : Result Passed E) → IfOk passed (λ to. id ≤ to.id) → IfOk passed (λ to. to.id ≤ ahead.end) → IfOk passed (λ to. to.ahead ≡ ahead) → Known docs id ahead
      → IfOk passed (λ to. Known docs to.id to.ahead)
  IsKnown-masked docs id ahead (Ok to) back within same h = IsKnown-on docs id to.id ahead to.ahead back within same h
  IsKnown-masked docs id ahead (Err e) back within same h = tt

  -- what was found out without a bound, or was known
  pub IsKnown-found : (docs : List Document) (id : ℕ) (was now : Ahead) → (now ≡ was) ⊎ ((was.end ≤ id) × (now.bound ≡ None)) → IsAhead filters network.leaves docs id now → IsSpan (length docs) id now → Known docs id was → Known docs id now
  IsKnown-found docs id was now (inl same) may span h = subst (λ (a : Ahead). Known docs id a) (sym same) h
  IsKnown-found docs id was now (inr new) may span h = record {
    may = may;
    least = λ n i is low high. absurd (false≢true (ap is_some (sym new.1 ∙ is)));
    key = λ n i is low high. absurd (false≢true (ap is_some (sym new.1 ∙ is)));
    told = h.told;
    span = span;
  }

  -- with what is found out of the documents beside
  pub IsKnown-opened : (docs : List Document) (id : ℕ) (ahead now : Ahead) → now.end ≡ ahead.end → now.bound ≡ ahead.bound → is_clear ahead.mask ≡ false → IsAhead filters network.leaves docs id now → Known docs id ahead → Known docs id now
  IsKnown-opened docs id ahead now end bound read may h = record {
    may = may;
    least = λ n i is low high. h.least n i (sym bound ∙ is) low (omega (arith, high, end));
    key = λ n i is low high. h.key n i (sym bound ∙ is) low (omega (arith, high, end));
    told = h.told;
    span = IsSpan-opened (length docs) id ahead now end read h.span;
  }

  -- a document of the range of an id
  in_range : (docs : List Document) (i range : ℕ) → 64 * range ≤ i → i < 64 * (range + 1) → i < length docs → Contains (range_documents docs range) (document_at docs i)
  in_range docs i range low high inside =
      let from : List Document = drop (64 * range) docs in
      let at : ℕ = i - 64 * range in
      let long = length-drop (64 * range) docs in
      let here : document_at from at ≡ document_at docs i = document_drop docs (64 * range) at i (omega (arith, low)) inside in
      subst (λ (d : Document). Contains (range_documents docs range) d) here (document_taken from 64 at (omega (arith, low, high)) (omega (arith, long, low, inside)))

  -- where no leaf has an extent in the range
  pub absent-here : (docs : List Document) (id i : ℕ) (ahead : Ahead) → IsSpan (length docs) id ahead → is_clear ahead.mask ≡ false → id ≤ i → i < ahead.end → AreAbsent network.leaves (range_documents docs (id / 64))
      → All (IsAbsent (document_at docs i)) network.leaves
  absent-here docs id i ahead span read low high absent =
      let short = span.short read in
      let inside = span.inside in
      All-contains (λ (d : Document). All (IsAbsent d) network.leaves) (range_documents docs (id / 64)) (document_at docs i) absent (in_range docs i (id / 64) (omega (arith, low)) (omega (arith, high, short)) (omega (arith, high, inside)))

  -- with a bound of the range
  pub IsKnown-bounded : (docs : List Document) (id : ℕ) (ahead : Ahead) (bound : Option ℕ) → is_clear ahead.mask ≡ false
      → ((d : Document) → Contains (range_documents docs (id / 64)) d → IfSome bound (λ n. AreFrom kind priors network n d)) → IfSome bound (λ n. n ≡ range_key kind priors network docs (id / 64)) → Known docs id ahead
      → Known docs id (record { end = ahead.end; mask = ahead.mask; bound = bound })
  IsKnown-bounded docs id ahead bound read least key h =
      let short = h.span.short read in
      let inside = h.span.inside in
      record {
        may = record { none = λ i low high clear. h.may.none i low high clear };
        least = λ n i is low high.
            subst (λ (b : Option ℕ). IfSome b (λ n. AreFrom kind priors network n (document_at docs i))) is
            (least (document_at docs i) (in_range docs i (id / 64) (omega (arith, low)) (omega (arith, high, short)) (omega (arith, high, inside))));
        key = λ n i is low high.
            let same : i / 64 ≡ id / 64 = omega (arith, low, high, short) in
            subst (λ (b : Option ℕ). IfSome b (λ n. n ≡ range_key kind priors network docs (id / 64))) is key ∙ ap (range_key kind priors network docs) (sym same);
        told = h.told;
        span = IsSpan-opened (length docs) id ahead (record { end = ahead.end; mask = ahead.mask; bound = bound }) refl read h.span;
      }

-- by what the priors told before
pub IsKnown-priors : (kind : RuleKind) (was priors : List Prior) (filters : List FilterTree) (network : NetworkTree) (tables : List RangeTable) (number : ℕ) (docs : List Document) (id : ℕ) (ahead : Ahead) → was ≡ priors
    → IsKnown kind was filters network tables number docs id ahead → IsKnown kind priors filters network tables number docs id ahead
IsKnown-priors kind was priors filters network tables number docs id ahead stay h = subst (λ (ps : List Prior). IsKnown kind ps filters network tables number docs id ahead) stay h

-- where there is no table, none is another part's
none_there : (number : ℕ) (t : RangeTable) → slice_get [] number ≡ Some t → ⊥
none_there zero t e = false≢true (ap is_some e)
none_there (suc number) t e = false≢true (ap is_some e)

pub IsTold-none : (network : NetworkTree) (tables : List RangeTable) (number : ℕ) (docs : List Document) → tables ≡ [] → IsTold network tables number docs
IsTold-none network tables number docs none = subst (λ (ts : List RangeTable). IsTold network ts number docs) (sym none) (λ t e. absurd (none_there number t e))
