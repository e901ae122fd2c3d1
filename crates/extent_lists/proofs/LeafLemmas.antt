-- the extents of a term, of the fields of a name, and of those inside a field
use Rattle.std.proofs.Common.{◌≡◌, ◌≢◌, ℕ, suc, zero, ◌+◌, ◌<◌, ◌⊎◌, inl, inr, ⊎_elim, Bool, true, false, cond, Some, List, [], ◌∷◌, map, slice_get, refl, sym, ap, ◌∙◌, subst, arith}
use Rattle.std.specs.Cmp.Lexicographic.{slice_cmp}
use Rattle.std.specs.List.{All, AllPairs}
use Rattle.std.specs.Ordering.{nat_cmp}
use Rattle.std.specs.Str.{bytes_eq}
use Rattle.std.specs.declared.cmp.Ordering.TheVariants.{Less, Equal}
use Rattle.std.proofs.lemmas.Cmp.{nat_list_cmp_total, tied_itself}
use Rattle.std.proofs.lemmas.List.Elements.{All-head, All-tail}
use Rattle.std.proofs.lemmas.Slice.Eq.{bytes_eq-Decides}
use Rattle.std.proofs.lemmas.Bool.Decides.{not_from_Decides}
use Rattle.ri_base.specs.Documents.{Document, Field, IsBefore as IsFieldBefore}
use Rattle.ri_base.specs.Expression.{word}
use Rattle.ri_base.specs.Pair.{Pair}
use Rattle.ri_base.specs.Places.{places, places_from}
use Rattle.extent_lists.specs.Extents.{Ext, IsField}
use Rattle.extent_lists.specs.Listing.{IsBefore}
use Rattle.extent_lists.specs.Rows.{Has, IsAscending, IsBeforeAll, Lists, extent_at}

-- ---- a term

-- a place of t among tokens that are counted from i on
abbrev At : ℕ → List ℕ → List (List ℕ) → ℕ → ℕ → Type 0
At i t xs b e = (k : ℕ) × (b ≡ i + k) × (slice_get xs k ≡ Some t) × (e ≡ b + 1)

record IsFrom (i : ℕ) (t : List ℕ) (xs : List (List ℕ)) (zs : List Pair) : Type 0 where
  before : (z : Pair) → z.begin < i → IsBeforeAll z zs
  ascending : IsAscending zs
  only : (b e : ℕ) → Has zs b e → At i t xs b e
  all : (b e : ℕ) → At i t xs b e → Has zs b e

module _ (i : ℕ) (t x : List ℕ) (xs : List (List ℕ)) (zs : List Pair) (m : IsFrom (i + 1) t xs zs) where
  one_on : (b e : ℕ) → At (i + 1) t xs b e → At i t (x ∷ xs) b e
  one_on b e h = (suc h.0, omega arith, h.2, h.3)

  found : x ≡ t → IsFrom i t (x ∷ xs) (extent_at i ∷ zs)
  found same = record {
    before = λ z h. (inl h, m.before z (omega arith));
    ascending = (m.before (extent_at i) (omega arith), m.ascending);
    only = λ b e. ⊎_elim (λ h. (zero, omega arith, cc, omega arith)) (λ h. one_on b e (m.only b e h));
    all = λ b e h. at b e h.0 h.1 h.2 h.3;
  }
    where
      at : (b e k : ℕ) → b ≡ i + k → slice_get (x ∷ xs) k ≡ Some t → e ≡ b + 1 → Has (extent_at i ∷ zs) b e
      at b e zero p q r = inl (omega arith, omega arith)
      at b e (suc k) p q r = inr (m.all b e (k, omega arith, q, r))

  passed : x ≢ t → IsFrom i t (x ∷ xs) zs
  passed other = record {
    before = λ z h. m.before z (omega arith);
    ascending = m.ascending;
    only = λ b e h. one_on b e (m.only b e h);
    all = λ b e h. at b e h.0 h.1 h.2 h.3;
  }
    where
      at : (b e k : ℕ) → b ≡ i + k → slice_get (x ∷ xs) k ≡ Some t → e ≡ b + 1 → Has zs b e
      at b e zero p q r = absurd (other cc)
      at b e (suc k) p q r = m.all b e (k, omega arith, q, r)

place_or_not : (i : ℕ) (t x : List ℕ) (xs : List (List ℕ)) (rest : List ℕ) → IsFrom (i + 1) t xs (map extent_at rest) → (v : Bool) → bytes_eq x t ≡ v → IsFrom i t (x ∷ xs) (map extent_at (cond v (i ∷ rest) rest))
place_or_not i t x xs rest m true h = found i t x xs (map extent_at rest) m ((bytes_eq-Decides x t).0 h)
place_or_not i t x xs rest m false h = passed i t x xs (map extent_at rest) m (not_from_Decides _ (bytes_eq-Decides x t) h)

from_places : (i : ℕ) (t : List ℕ) (xs : List (List ℕ)) → IsFrom i t xs (map extent_at (places_from i t xs))
from_places i t [] = record {
  before = λ z h. tt;
  ascending = tt;
  only = λ b e h. absurd h;
  all = λ b e h. absurd (nowhere h.0 h.2);
}
  where
    nowhere : (k : ℕ) → slice_get {X = List ℕ} [] k ≡ Some t → ⊥
    nowhere k h = cc
from_places i t (x ∷ xs) = place_or_not i t x xs (places_from (i + 1) t xs) (from_places (i + 1) t xs) (bytes_eq x t) refl

pub Lists-word : (t : List ℕ) (d : Document) → Lists (Ext (word t) d) (map extent_at (places t d))
unfolding Ext places
Lists-word t d =
    let m = from_places 0 t d.tokens in
    record {
      ascending = m.ascending;
      only = λ b e h. let w = m.only b e h in (subst (λ (k : ℕ). slice_get d.tokens k ≡ Some t) (omega arith) w.2, w.3);
      all = λ b e h. m.all b e (b, omega arith, h.0, h.1);
    }

pub lists_word : (t : List ℕ) (d : Document) (ps : List ℕ) (v : List Pair) → ps ≡ places t d → v ≡ map extent_at ps → Lists (Ext (word t) d) v
lists_word t d ps v e f = rw (f, e) (Lists-word t d)

-- ---- the fields of a name

-- their extents, in the order of the fields
abbrev pub named : List ℕ → List Field → List Pair
named f [] = []
named f (s ∷ rest) = cond (bytes_eq s.name f) (record { begin = s.begin; end = s.end } ∷ named f rest) (named f rest)

pub AllPairs-head : {X : Type 0} (R : X → X → Type 0) (x : X) (xs : List X) → AllPairs R (x ∷ xs) → All (R x) xs
AllPairs-head R x xs h = λ k d inside. h zero (suc k) d (omega arith) (omega (arith, inside))

pub AllPairs-tail : {X : Type 0} (R : X → X → Type 0) (x : X) (xs : List X) → AllPairs R (x ∷ xs) → AllPairs R xs
AllPairs-tail R x xs h = λ i j d lower inside. h (suc i) (suc j) d (omega (arith, lower)) (omega (arith, inside))

never_before_itself : (x y : List ℕ) → slice_cmp nat_cmp x y ≡ Less → x ≡ y → ⊥
never_before_itself x y less same =
    let again : slice_cmp nat_cmp y y ≡ Less = subst (λ (z : List ℕ). slice_cmp nat_cmp z y ≡ Less) same less in
    let tied : slice_cmp nat_cmp y y ≡ Equal = tied_itself nat_list_cmp_total y in
    let clash : Less ≡ Equal = sym again ∙ tied in
    cc

pub field_here : (s : Field) (rest : List Field) (f : List ℕ) (b e : ℕ) → s.name ≡ f → s.begin ≡ b → s.end ≡ e → IsField (s ∷ rest) f b e
field_here s rest f b e p q r =
    let make : List ℕ → ℕ → ℕ → Field = λ n from to. record { name = n; begin = from; end = to } in
    (zero, omega arith, ap (λ (n : List ℕ). make n s.begin s.end) p ∙ ap (λ (from : ℕ). make f from s.end) q ∙ ap (λ (to : ℕ). make f b to) r)

pub field_later : (s : Field) (rest : List Field) (f : List ℕ) (b e : ℕ) → IsField rest f b e → IsField (s ∷ rest) f b e
field_later s rest f b e h = (suc h.0, omega (arith, h.1), h.2)

pub field_cases : (s : Field) (rest : List Field) (f : List ℕ) (b e : ℕ) → IsField (s ∷ rest) f b e → ((s.name ≡ f) × (s.begin ≡ b) × (s.end ≡ e)) ⊎ IsField rest f b e
field_cases s rest f b e (zero, inside, is) = inl (ap (λ (x : Field). x.name) is, ap (λ (x : Field). x.begin) is, ap (λ (x : Field). x.end) is)
field_cases s rest f b e (suc k, inside, is) = inr (k, omega (arith, inside), is)

pub field_none : (f : List ℕ) (b e : ℕ) → IsField [] f b e → ⊥
field_none f b e (k, inside, is) = omega (arith, inside)

record IsNamed (f : List ℕ) (spans : List Field) (zs : List Pair) : Type 0 where
  before : (s : Field) → s.name ≡ f → All (IsFieldBefore s) spans → IsBeforeAll (record { begin = s.begin; end = s.end }) zs
  ascending : AllPairs IsFieldBefore spans → IsAscending zs
  only : (b e : ℕ) → Has zs b e → IsField spans f b e
  all : (b e : ℕ) → IsField spans f b e → Has zs b e

module _ (f : List ℕ) (s : Field) (rest : List Field) (zs : List Pair) (m : IsNamed f rest zs) where
  named_field : s.name ≡ f → IsNamed f (s ∷ rest) (record { begin = s.begin; end = s.end } ∷ zs)
  named_field h = record {
    before = λ t e u. (above t e (All-head (IsFieldBefore t) s rest u), m.before t e (All-tail (IsFieldBefore t) s rest u));
    ascending = λ u. (m.before s h (AllPairs-head IsFieldBefore s rest u), m.ascending (AllPairs-tail IsFieldBefore s rest u));
    only = λ b e. ⊎_elim (λ k. field_here s rest f b e h k.0 k.1) (λ k. field_later s rest f b e (m.only b e k));
    all = λ b e k. ⊎_elim (λ u. inl (u.1, u.2)) (λ u. inr (m.all b e u)) (field_cases s rest f b e k);
  }
    where
      above : (t : Field) → t.name ≡ f → IsFieldBefore t s → IsBefore (record { begin = t.begin; end = t.end }) (record { begin = s.begin; end = s.end })
      above t e = ⊎_elim (λ k. inl k) (λ k. inr (k.0, ⊎_elim (λ w. w) (λ w. absurd (never_before_itself t.name s.name w.1 (e ∙ sym h))) k.1))

  other_field : s.name ≢ f → IsNamed f (s ∷ rest) zs
  other_field h = record {
    before = λ t e u. m.before t e (All-tail (IsFieldBefore t) s rest u);
    ascending = λ u. m.ascending (AllPairs-tail IsFieldBefore s rest u);
    only = λ b e k. field_later s rest f b e (m.only b e k);
    all = λ b e k. ⊎_elim (λ u. absurd (h u.0)) (λ u. m.all b e u) (field_cases s rest f b e k);
  }

  by_name : (v : Bool) → bytes_eq s.name f ≡ v → IsNamed f (s ∷ rest) (cond v (record { begin = s.begin; end = s.end } ∷ zs) zs)
  by_name true h = named_field ((bytes_eq-Decides s.name f).0 h)
  by_name false h = other_field (not_from_Decides _ (bytes_eq-Decides s.name f) h)

IsNamed-named : (f : List ℕ) (spans : List Field) → IsNamed f spans (named f spans)
IsNamed-named f [] = record {
  before = λ t e u. tt;
  ascending = λ u. tt;
  only = λ b e h. absurd h;
  all = λ b e h. absurd (field_none f b e h);
}
IsNamed-named f (s ∷ rest) = by_name f s rest (named f rest) (IsNamed-named f rest) (bytes_eq s.name f) refl

pub Lists-named : (f : List ℕ) (spans : List Field) (zs : List Pair) → AllPairs IsFieldBefore spans → zs ≡ named f spans → Lists (IsField spans f) zs
Lists-named f spans zs up is =
    let m = IsNamed-named f spans in
    rw is (record {
      ascending = m.ascending up;
      only = m.only;
      all = m.all;
    })
