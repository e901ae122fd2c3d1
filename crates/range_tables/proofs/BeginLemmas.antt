-- The tokens at which fields of a name begin, one field more at a time.
use Rattle.std.proofs.Common.{◌≡◌, ◌<◌, ◌≤◌, ◌+◌, ◌||◌, ℕ, zero, suc, Bool, true, false, cond, nat_eq, List, [], ◌∷◌, ◌++◌, append-nil, length, length-append, map, filter, take, get_or, refl, sym, ap, subst, ◌∙◌, arith, ⊎_elim}
use Rattle.std.specs.List.{AllPairs, IsDistinct}
use Rattle.std.specs.Set.{distinct_count, is_member}
use Rattle.std.specs.Str.{bytes_eq}
use Rattle.std.proofs.lemmas.Bool.{both_ways, cases_Bool, eq-eqb, eqb-true, false_from_ne_true, or_cases, or_right}
use Rattle.std.proofs.lemmas.List.{map-append, take_more}
use Rattle.std.proofs.lemmas.List.Elements.{filter-append}
use Rattle.std.proofs.lemmas.List.Folds.{list_any-append}
use Rattle.std.proofs.lemmas.Map.Keys.{IsDistinct-push}
use Rattle.std.proofs.lemmas.Map.Made.{length-from_keys}
use Rattle.ri_base.specs.Documents.{Field, IsBefore}
use Rattle.field_extents.proofs.Distinct.{numbers}
use Rattle.range_tables.specs.Begins.{IsCounted, IsNoEarlier, named_begin}
use Rattle.range_bounds.specs.Ranges.{field_begins}
use Rattle.range_tables.specs.declared.begun.Begun.{Begun}

-- ---- a begin more

pub IsCounted-none : (begun : Begun) → begun.count ≡ 0 → begun.next ≡ 0 → IsCounted [] begun
unfolding IsDistinct
IsCounted-none begun none first = record {
  seen = [];
  size = sym none;
  apart = tt;
  same = λ b. refl;
  before = λ b m. absurd (both_ways false refl m);
  last = λ b e. absurd (omega (arith, e, first));
}

has_more : (begins : List ℕ) (begin b : ℕ) → is_member nat_eq (begins ++ begin ∷ []) b ≡ (is_member nat_eq begins b || is_member nat_eq (begin ∷ []) b)
has_more begins begin b = list_any-append (nat_eq b) begins (begin ∷ [])

only_one : (begin b : ℕ) → is_member nat_eq (begin ∷ []) b ≡ true → b ≡ begin
only_one begin b m = ⊎_elim (λ e. eqb-true b begin e) (λ e. absurd (both_ways false refl e)) (or_cases (nat_eq b begin) false m)

-- one behind all others
pub IsCounted-new : (begins : List ℕ) (begin : ℕ) (begun now : Begun) → begun.next ≤ begin → now.count ≡ begun.count + 1 → now.next ≡ begin + 1 → IsCounted begins begun → IsCounted (begins ++ begin ∷ []) now
IsCounted-new begins begin begun now new count next h =
    let absent : is_member nat_eq h.seen begin ≡ false = false_from_ne_true (is_member nat_eq h.seen begin) (λ e. let low = h.before begin (sym (h.same begin) ∙ e) in omega (arith, low, new)) in
    record {
      seen = h.seen ++ begin ∷ [];
      size = omega (arith, length-append h.seen (begin ∷ []), h.size, count);
      apart = IsDistinct-push numbers h.seen begin h.apart absent;
      same = λ b. has_more h.seen begin b ∙ ap (λ c. c || is_member nat_eq (begin ∷ []) b) (h.same b) ∙ sym (has_more begins begin b);
      before = λ b m. ⊎_elim
          (λ e. let low = h.before b e in omega (arith, low, new, next))
          (λ e. omega (arith, only_one begin b e, next))
          (or_cases (is_member nat_eq begins b) (is_member nat_eq (begin ∷ []) b) (sym (has_more begins begin b) ∙ m));
      last = λ b e.
          let here : b ≡ begin = omega (arith, e, next) in
          has_more begins begin b ∙ or_right (is_member nat_eq begins b) (is_member nat_eq (begin ∷ []) b) (or_here b begin here);
    }
  where
    or_here : (b begin : ℕ) → b ≡ begin → is_member nat_eq (begin ∷ []) b ≡ true
    or_here b begin here = ap (λ c. c || false) (eq-eqb b begin here)

-- one that is there already
pub IsCounted-old : (begins : List ℕ) (begin : ℕ) (begun : Begun) → begin < begun.next → IsNoEarlier begins begin → IsCounted begins begun → IsCounted (begins ++ begin ∷ []) begun
IsCounted-old begins begin begun old no_earlier h = record {
  seen = h.seen;
  size = h.size;
  apart = h.apart;
  same = λ b. h.same b ∙ sym (unchanged b);
  before = λ b m. h.before b (sym (unchanged b) ∙ m);
  last = λ b e. unchanged b ∙ h.last b e;
}
  where
    last_false : (c : Bool) → c || false ≡ c
    last_false true = refl
    last_false false = refl

    there : (next : ℕ) → begun.next ≡ next → is_member nat_eq begins begin ≡ true
    there zero e = absurd (omega (arith, old, e))
    there (suc b) e =
        let last = h.last b e in
        let here : b ≡ begin = omega (arith, no_earlier b last, old, e) in
        subst (λ k. is_member nat_eq begins k ≡ true) here last

    unchanged : (b : ℕ) → is_member nat_eq (begins ++ begin ∷ []) b ≡ is_member nat_eq begins b
    unchanged b = has_more begins begin b ∙ ⊎_elim
        (λ (e : is_member nat_eq (begin ∷ []) b ≡ true).
        let has : is_member nat_eq begins b ≡ true = subst (λ k. is_member nat_eq begins k ≡ true) (sym (only_one begin b e)) (there begun.next refl) in
        or_right (is_member nat_eq begins b) (is_member nat_eq (begin ∷ []) b) e ∙ sym has)
        (λ (e : is_member nat_eq (begin ∷ []) b ≡ false). ap (λ c. is_member nat_eq begins b || c) e ∙ last_false (is_member nat_eq begins b))
        (cases_Bool (is_member nat_eq (begin ∷ []) b))

-- how many differ
pub IsCounted-count : (begins : List ℕ) (begun : Begun) → IsCounted begins begun → begun.count ≡ distinct_count nat_eq begins
IsCounted-count begins begun h = sym h.size ∙ length-from_keys numbers h.seen begins h.apart h.same

-- ---- a field more

pub IsCounted-field : (begins : List ℕ) (name : List ℕ) (f : Field) (begun : Begun) (b : Bool) → bytes_eq f.name name ≡ b → IsCounted (begins ++ cond b (f.begin ∷ []) []) begun → IsCounted (begins ++ named_begin name f) begun
IsCounted-field begins name f begun b named h = subst (λ (c : Bool). IsCounted (begins ++ cond c (f.begin ∷ []) []) begun) (sym named) h

pub IsCounted-other : (begins : List ℕ) (name : List ℕ) (f : Field) (begun : Begun) → bytes_eq f.name name ≡ false → IsCounted begins begun → IsCounted (begins ++ named_begin name f) begun
IsCounted-other begins name f begun other h = IsCounted-field begins name f begun false other (subst (λ bs. IsCounted bs begun) (sym (append-nil begins)) h)

pub begins_more : (name : List ℕ) (fields : List Field) (i : ℕ) (f : Field) → i < length fields → f ≡ get_or fields i f → field_begins name (take (i + 1) fields) ≡ field_begins name (take i fields) ++ named_begin name f
begins_more name fields i f inside here =
    let front = take i fields in
    let whole : take (i + 1) fields ≡ front ++ f ∷ [] = take_more fields i f inside ∙ ap (λ x. front ++ x ∷ []) (sym here) in
    ap (field_begins name) whole
    ∙ ap (map (λ (g : Field). g.begin)) (filter-append (λ (g : Field). bytes_eq g.name name) front (f ∷ []))
    ∙ map-append (λ (g : Field). g.begin) (filter (λ (g : Field). bytes_eq g.name name) front) (filter (λ (g : Field). bytes_eq g.name name) (f ∷ []))
    ∙ ap (λ bs. field_begins name front ++ bs) (by (bytes_eq f.name name))
  where
    by : (b : Bool) → map (λ (g : Field). g.begin) (cond b (f ∷ []) []) ≡ cond b (f.begin ∷ []) []
    by true = refl
    by false = refl

-- fields in their order begin no earlier than those before
pub no_earlier : (name : List ℕ) (fields : List Field) (i : ℕ) (f : Field) → i < length fields → f ≡ get_or fields i f → AllPairs IsBefore fields → IsNoEarlier (field_begins name (take i fields)) f.begin
no_earlier name [] i f inside here in_order b m = absurd (omega (arith, inside))
no_earlier name (g ∷ gs) zero f inside here in_order b m = absurd (both_ways false refl m)
no_earlier name (g ∷ gs) (suc i) f inside here in_order b m = by (bytes_eq g.name name) (λ e. no_earlier name gs i f (omega (arith, inside)) here rest b e) m
  where
    rest : AllPairs IsBefore gs
    rest j k d l u = in_order (suc j) (suc k) d (omega (arith, l)) (omega (arith, u))

    first : g.begin ≤ f.begin
    first =
        let before : IsBefore g f = subst (λ (x : Field). IsBefore g x) (sym here) (in_order 0 (suc i) f (omega arith) inside) in
        ⊎_elim (λ (less : g.begin < f.begin). omega (arith, less)) (λ same. omega (arith, same.0)) before

    by : (c : Bool) → (is_member nat_eq (field_begins name (take i gs)) b ≡ true → b ≤ f.begin)
        → is_member nat_eq (map (λ (x : Field). x.begin) (cond c (g ∷ filter (λ (x : Field). bytes_eq x.name name) (take i gs)) (filter (λ (x : Field). bytes_eq x.name name) (take i gs)))) b ≡ true → b ≤ f.begin
    by true later e = ⊎_elim (λ (is : nat_eq b g.begin ≡ true). omega (arith, eqb-true b g.begin is, first)) later (or_cases (nat_eq b g.begin) (is_member nat_eq (field_begins name (take i gs)) b) e)
    by false later e = later e
