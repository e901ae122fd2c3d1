-- The pass over the fields of a document that counts the positions which those of a name cover.
use Rattle.std.proofs.Common.{◌≡◌, ℕ, ◌+◌, ◌-◌, ◌<◌, ◌≤◌, ⊎_elim, true, false, ◌||◌, min, max, List, [], length, take, get_or, refl, sym, ◌∙◌, arith}
use Rattle.std.specs.List.{AllPairs, AllWithin}
use Rattle.std.specs.Str.{bytes_eq}
use Rattle.std.proofs.Math.Bool.{or-false}
use Rattle.std.proofs.lemmas.Bool.{cases_Bool, or_right}
use Rattle.std.proofs.lemmas.Bool.Decides.{nat_tests}
use Rattle.std.proofs.lemmas.List.{get_or_read}
use Rattle.std.proofs.lemmas.List.Folds.{list_any_more}
use Rattle.ri_base.specs.Documents.{Field, IsBefore}
use Rattle.ri_base.specs.Pair.{Pair}
use Rattle.field_extents.specs.Fields.{covers, is_covered}
use Rattle.field_extents.proofs.Counts.{count_by-none}
use Rattle.field_extents.proofs.Orders.{begin-IsBefore}
use Rattle.field_extents.proofs.Sweep.{IsSwept, IsFilled, Adds, IsSwept-agree, IsFilled-agree, IsSwept-taken, IsFilled-taken, IsSwept-passed, IsFilled-passed}

-- the first k fields have been counted
pub record CoversFront (spans : List Field) (name : List ℕ) (window : Pair) (k count next : ℕ) : Type 0 where
  pub swept : IsSwept window (is_covered (take k spans) name) count next
  pub filled : AllWithin (λ f. IsFilled window (is_covered (take k spans) name) next f.begin) spans k (length spans)

-- whether a position lies in a field of the name
covers_within : (name : List ℕ) (s : Field) (i : ℕ) → bytes_eq s.name name ≡ true → s.begin ≤ i → i < s.end → covers name i s ≡ true
covers_within name s i same l u = rw same (grind (arith, nat_tests))

covers_before : (name : List ℕ) (s : Field) (i : ℕ) → bytes_eq s.name name ≡ true → i < s.begin → covers name i s ≡ false
covers_before name s i same u = rw same (grind (arith, nat_tests))

covers_behind : (name : List ℕ) (s : Field) (i : ℕ) → bytes_eq s.name name ≡ true → s.end ≤ i → covers name i s ≡ false
covers_behind name s i same l = rw same (grind (arith, nat_tests))

covers_no_other : (name : List ℕ) (s : Field) (i : ℕ) → bytes_eq s.name name ≡ false → covers name i s ≡ false
covers_no_other name s i other = rw other refl

pub CoversFront-none : (spans : List Field) (name : List ℕ) (window : Pair) → window.begin < window.end → CoversFront spans name window 0 0 window.begin
CoversFront-none spans name window some = record {
  swept = record {
    counted = sym (count_by-none (is_covered [] name) window.begin (window.end - window.begin) (λ i l u. refl));
    low = omega arith;
    high = omega arith;
    few = omega arith;
    ahead = λ i l u. refl;
  };
  filled = λ k d l u. record { passes = λ i m n o. absurd (omega arith) };
}

module _ (spans : List Field) (name : List ℕ) (window : Pair) (k count next : ℕ) (s : Field) (within : k < length spans) (read : s ≡ get_or spans k s) (in_order : AllPairs IsBefore spans) (f : CoversFront spans name window k count next) where
  with_next : (i : ℕ) → is_covered (take (k + 1) spans) name i ≡ (is_covered (take k spans) name i || covers name i s)
  with_next i = rw read (list_any_more (covers name i) spans k s within)

  without : (i : ℕ) → covers name i s ≡ false → (is_covered (take k spans) name i || covers name i s) ≡ is_covered (take k spans) name i
  without i h = rw h (or-false (is_covered (take k spans) name i))

  adds : bytes_eq s.name name ≡ true → Adds (is_covered (take k spans) name) (is_covered (take (k + 1) spans) name) s.begin s.end
  adds same = record {
    run = λ i l u. with_next i ∙ or_right _ _ (covers_within name s i same l u);
    before = λ i u. with_next i ∙ without i (covers_before name s i same u);
    behind = λ i l. with_next i ∙ without i (covers_behind name s i same l);
  }

  same_but_name : bytes_eq s.name name ≡ false → (i : ℕ) → is_covered (take (k + 1) spans) name i ≡ is_covered (take k spans) name i
  same_but_name other i = with_next i ∙ without i (covers_no_other name s i other)

  begins_later : (j : ℕ) (d : Field) → k + 1 ≤ j → j < length spans → s.begin ≤ (get_or spans j d).begin
  begins_later j d l u =
      let order : IsBefore (get_or spans k d) (get_or spans j d) = in_order k j d (omega arith) u in
      let is : s ≡ get_or spans k d = get_or_read spans k s within read d in
      begin-IsBefore s (get_or spans j d) (rw is order)

  filled_here : IsFilled window (is_covered (take k spans) name) next s.begin
  filled_here = rw read (f.filled k s (omega arith) within)

  -- a field of another name
  pub CoversFront-other : bytes_eq s.name name ≡ false → CoversFront spans name window (k + 1) count next
  CoversFront-other other = record {
    swept = IsSwept-agree window _ _ count next (λ i l u. same_but_name other i) f.swept;
    filled = λ j d l u. IsFilled-agree window _ _ next (get_or spans j d).begin f.swept.high (λ i m n. same_but_name other i) (f.filled j d (omega arith) u);
  }

  -- `from` and `to` are the ends of the next field, cut to the positions of the window that were not counted
  module _ (from to : ℕ) (cut_begin : from ≡ max s.begin next) (cut_end : to ≡ min s.end window.end) where
    -- where they leave something to count
    pub CoversFront-taken : bytes_eq s.name name ≡ true → from < to → CoversFront spans name window (k + 1) (count + (to - from)) to
    CoversFront-taken same some =
        let order : max s.begin next < min s.end window.end = omega arith in
        rw (cut_begin, cut_end) (record {
          swept = IsSwept-taken window _ _ count next s.begin s.end f.swept filled_here (adds same) order;
          filled = λ j d l u. IsFilled-taken window _ _ count next s.begin s.end f.swept filled_here (adds same) order (get_or spans j d).begin (begins_later j d l u);
        })

    -- where they leave nothing
    pub CoversFront-passed : to ≤ from → CoversFront spans name window (k + 1) count next
    CoversFront-passed none =
        let order : min s.end window.end ≤ max s.begin next = omega arith in
        ⊎_elim
        (λ (same : bytes_eq s.name name ≡ true). record {
          swept = IsSwept-passed window _ _ count next s.begin s.end f.swept filled_here (adds same) order;
          filled = λ j d l u. IsFilled-passed window _ _ count next s.begin s.end f.swept filled_here (adds same) order (get_or spans j d).begin (f.filled j d (omega arith) u);
        })
        (λ (other : bytes_eq s.name name ≡ false). CoversFront-other other)
        (cases_Bool (bytes_eq s.name name))
