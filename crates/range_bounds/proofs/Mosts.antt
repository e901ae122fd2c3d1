-- Each operator's extents begin at no more places than its count says.
use Rattle.std.proofs.Common.{◌≡◌, ◌<◌, ◌≤◌, ◌+◌, ℕ, zero, suc, Bool, true, false, cond, nat_eq, nat_lt, List, [], ◌∷◌, ◌++◌, length, length-append, map, slice_get, Some, refl, sym, subst, arith, ⊎_elim}
use Rattle.std.specs.List.{All}
use Rattle.std.specs.Set.{distinct_count, is_member}
use Rattle.std.specs.Str.{bytes_eq}
use Rattle.std.proofs.lemmas.Bool.{both_ways, and_cases, cases_Bool, eqb-true, eq-eqb, ltb-false, or_cases, or_left, or_right}
use Rattle.std.proofs.lemmas.List.Elements.{All-contains, All-tail}
use Rattle.std.proofs.lemmas.Slice.Eq.{bytes_eq-Decides}
use Rattle.std.proofs.lemmas.Option.{slice_get_within}
use Rattle.ri_base.specs.Documents.{AreFields, Document, Field}
use Rattle.ri_base.specs.Expression.{ExprTree, ExprTrees, word, ordered, unordered, syn, any, band, in_field, none, more}
use Rattle.ri_base.specs.Pair.{Pair}
use Rattle.ri_base.specs.Places.{places, places_from}
use Rattle.ri_base.specs.declared.limits.TheConstants.{MAX_DOC_TOKENS}
use Rattle.extent_lists.specs.Extents.{Ext, Exts}
use Rattle.extent_lists.specs.Operators.{HasEach, IsChain, IsInSome}
use Rattle.extent_lists.proofs.PresenceLemmas.{chain-each, inside-each}
use Rattle.range_bounds.specs.Most.{capped, each_occurs, most_by, most_of_first, total_most}
use Rattle.range_bounds.proofs.Members.{HasFew, capped_few, distinct_le, member_left, member_right}

-- the counts are at least those of this document
pub record AreMost (terms names : List ℕ → ℕ) (d : Document) : Type 0 where
  pub short : length d.tokens ≤ MAX_DOC_TOKENS
  pub sound : AreFields (length d.tokens) d.fields
  pub each_term : (t : List ℕ) → length (places t d) ≤ terms t
  pub each_name : (f : List ℕ) → HasFew (names f) (Ext (any f) d)

-- a token stands among the places of its term
places_has : (i : ℕ) (t : List ℕ) (tokens : List (List ℕ)) (b : ℕ) → slice_get tokens b ≡ Some t → is_member nat_eq (places_from i t tokens) (i + b) ≡ true
places_has i t [] b h = absurd (cc)
places_has i t (x ∷ xs) zero h =
    let same : x ≡ t = cc in
    let e : bytes_eq x t ≡ true = (bytes_eq-Decides x t).1 same in
    subst (λ (c : Bool). is_member nat_eq (cond c (i ∷ places_from (i + 1) t xs) (places_from (i + 1) t xs)) (i + 0) ≡ true) (sym e)
    (or_left (nat_eq (i + 0) i) _ (eq-eqb (i + 0) i (omega arith)))
places_has i t (x ∷ xs) (suc b) h =
    let later : is_member nat_eq (places_from (i + 1) t xs) (i + suc b) ≡ true =
    subst (λ m. is_member nat_eq (places_from (i + 1) t xs) m ≡ true) (omega arith) (places_has (i + 1) t xs b h) in
    ⊎_elim
    (λ (e : bytes_eq x t ≡ true). subst (λ (c : Bool). is_member nat_eq (cond c (i ∷ places_from (i + 1) t xs) (places_from (i + 1) t xs)) (i + suc b) ≡ true) (sym e) (or_right (nat_eq (i + suc b) i) _ later))
    (λ (e : bytes_eq x t ≡ false). subst (λ (c : Bool). is_member nat_eq (cond c (i ∷ places_from (i + 1) t xs) (places_from (i + 1) t xs)) (i + suc b) ≡ true) (sym e) later)
    (cases_Bool (bytes_eq x t))

word_has : (t : List ℕ) (d : Document) (b : ℕ) → slice_get d.tokens b ≡ Some t → is_member nat_eq (places t d) b ≡ true
unfolding places
word_has t d b h = subst (λ m. is_member nat_eq (places_from 0 t d.tokens) m ≡ true) (omega arith) (places_has 0 t d.tokens b h)

-- ---- several sets

-- a set whose extents begin within n tokens, at no more than m places
pub record IsBound (n m : ℕ) (R : ℕ → ℕ → Type 0) : Type 0 where
  pub few : HasFew m R
  pub within : (b e : ℕ) → R b e → b < n

-- none begins at no place
none_few : (R : ℕ → ℕ → Type 0) → HasFew 0 R → (b e : ℕ) → R b e → ⊥
none_few R few b e r = go few.0 few.1 (few.2 b e r)
  where
    go : (bs : List ℕ) → length bs ≤ 0 → is_member nat_eq bs b ≡ true → ⊥
    go [] h m = both_ways false refl m
    go (x ∷ xs) h m = absurd (omega (arith, h))

fewer : (m k : ℕ) (R S : ℕ → ℕ → Type 0) → m ≤ k → ((b e : ℕ) → S b e → (to : ℕ) × R b to) → HasFew m R → HasFew k S
fewer m k R S h into few = (few.0, omega (arith, few.1, h), λ b e s. let r = into b e s in few.2 b r.0 r.1)

module _ (terms names : List ℕ → ℕ) (d : Document) where
  abbrev pub AreBound : ExprTrees → Type 0
  AreBound none = Unit {0}
  AreBound (more x xs) = IsBound (length d.tokens) (most_by terms names x) (Ext x d) × AreBound xs

  each_none : (xs : ExprTrees) → AreBound xs → each_occurs terms names xs ≡ false → HasEach (Exts xs d) → ⊥
  unfolding Exts each_occurs
  each_none none a e h = both_ways true e refl
  each_none (more x xs) a e h = ⊎_elim
      (λ z. let zero_most : most_by terms names x ≡ 0 = omega (arith, ltb-false 0 (most_by terms names x) z) in
      none_few (Ext x d) (subst (λ m. HasFew m (Ext x d)) zero_most a.0.few) h.0.0 h.0.1 h.0.2)
      (λ z. each_none xs a.1 z h.1)
      (and_cases (nat_lt 0 (most_by terms names x)) (each_occurs terms names xs) e)

  chain_first : (n : ℕ) (xs : ExprTrees) → AreBound xs → IsBound (length d.tokens) (most_of_first terms names xs) (IsChain n (Exts xs d))
  unfolding Exts most_of_first
  chain_first n none a = record { few = ([], omega arith, λ b e r. absurd r); within = λ b e r. absurd r }
  chain_first n (more x none) a = a.0
  chain_first n (more x (more y ys)) a = record {
    few = fewer _ _ (Ext x d) _ (omega arith) (λ b e r. (r.0, r.2)) a.0.few;
    within = λ b e r. a.0.within b r.0 r.2;
  }

  some_total : (xs : ExprTrees) → AreBound xs → IsBound (length d.tokens) (total_most terms names xs) (IsInSome (Exts xs d))
  unfolding Exts total_most
  some_total none a = record { few = ([], omega arith, λ b e r. absurd r); within = λ b e r. absurd r }
  some_total (more x xs) a =
      let rest = some_total xs a.1 in
      record {
        few = (
          a.0.few.0 ++ rest.few.0,
          omega (arith, length-append a.0.few.0 rest.few.0, a.0.few.1, rest.few.1),
          λ b e r. ⊎_elim (λ h. member_left a.0.few.0 rest.few.0 b (a.0.few.2 b e h)) (λ h. member_right a.0.few.0 rest.few.0 b (rest.few.2 b e h)) r,
        );
        within = λ b e r. ⊎_elim (λ h. a.0.within b e h) (λ h. rest.within b e h) r;
      }

  -- a set of which each extent shows one of each argument, and begins where one of a bound set does
  needs_each : (xs : ExprTrees) (m : ℕ) (R S : ℕ → ℕ → Type 0) → AreBound xs → IsBound (length d.tokens) m R → ((b e : ℕ) → S b e → (to : ℕ) × R b to) → ((b e : ℕ) → S b e → HasEach (Exts xs d))
      → IsBound (length d.tokens) (cond (each_occurs terms names xs) m 0) S
  needs_each xs m R S a r into each = record {
    few = go (each_occurs terms names xs) refl;
    within = λ b e s. r.within b _ (into b e s).1;
  }
    where
      go : (c : Bool) → each_occurs terms names xs ≡ c → HasFew (cond c m 0) S
      go true e = fewer m m R S (omega arith) into r.few
      go false e = ([], omega arith, λ b f s. absurd (each_none xs a e (each b f s)))

  module _ (counts : AreMost terms names d) where
    capped_bound : (m : ℕ) (R : ℕ → ℕ → Type 0) → IsBound (length d.tokens) m R → IsBound (length d.tokens) (capped m) R
    capped_bound m R r = record { few = capped_few m (length d.tokens) R counts.short r.within r.few; within = r.within }

    mutual
      unfolding Ext Exts most_by each_occurs most_of_first total_most

      pub bound_of : (x : ExprTree) → IsBound (length d.tokens) (most_by terms names x) (Ext x d)
      bound_of (word t) = capped_bound (terms t) (Ext (word t) d) (record {
        few = (places t d, counts.each_term t, λ b e r. word_has t d b r.0);
        within = λ b e r. slice_get_within d.tokens b t r.0;
      })
      bound_of (ordered n xs) =
          let a = bounds_of xs in
          needs_each xs (most_of_first terms names xs) (IsChain n (Exts xs d)) (Ext (ordered n xs) d) a (chain_first n xs a) (λ b e r. (e, r.ends)) (λ b e r. chain-each n (Exts xs d) b e r.ends)
      bound_of (unordered n xs) =
          let a = bounds_of xs in
          needs_each xs (capped (total_most terms names xs)) (IsInSome (Exts xs d)) (Ext (unordered n xs) d) a (capped_bound _ _ (some_total xs a))
          (λ b e r. (r.ends.begins.0, r.ends.begins.2)) (λ b e r. inside-each (Exts xs d) b e r.ends.each)
      bound_of (syn xs) = capped_bound (total_most terms names xs) (Ext (syn xs) d) (some_total xs (bounds_of xs))
      bound_of (any f) = capped_bound (names f) (Ext (any f) d) (record {
        few = counts.each_name f;
        within = λ b e r.
            let some = All-contains (λ (g : Field). g.begin < g.end) d.fields _ counts.sound.some r in
            let high = All-contains (λ (g : Field). g.end ≤ length d.tokens) d.fields _ counts.sound.within r in
            omega (arith, some, high);
      })
      bound_of (band xs) =
          let a = bounds_of xs in
          needs_each xs 1 (Ext (band xs) d) (Ext (band xs) d) a (record {
            few = (0 ∷ [], omega arith, λ b e r. or_left (nat_eq b 0) _ (eq-eqb b 0 r.0));
            within = λ b e r. omega (arith, r.0, r.1, r.2);
          }) (λ b e r. (e, r)) (λ b e r. r.3)
      bound_of (in_field x f) =
          let a = bound_of x in
          record { few = fewer _ _ (Ext x d) _ (omega arith) (λ b e r. (e, r.0)) a.few; within = λ b e r. a.within b e r.0 }

      pub bounds_of : (xs : ExprTrees) → AreBound xs
      bounds_of none = tt
      bounds_of (more x xs) = (bound_of x, bounds_of xs)

-- the distinct begins of any extents
members_of : (P : ℕ → ℕ → Type 0) (begins : List ℕ) → ((b e : ℕ) → P b e → is_member nat_eq begins b ≡ true) → (xs : List Pair) → All (λ (p : Pair). P p.begin p.end) xs
    → (q : ℕ) → is_member nat_eq (map (λ (p : Pair). p.begin) xs) q ≡ true → is_member nat_eq begins q ≡ true
members_of P begins has [] all q m = absurd (both_ways false refl m)
members_of P begins has (x ∷ xs) all q m = ⊎_elim
    (λ e. subst (λ z. is_member nat_eq begins z ≡ true) (sym (eqb-true q x.begin e)) (has x.begin x.end (all 0 x (omega arith))))
    (λ e. members_of P begins has xs (All-tail (λ (p : Pair). P p.begin p.end) x xs all) q e)
    (or_cases (nat_eq q x.begin) (is_member nat_eq (map (λ (p : Pair). p.begin) xs) q) m)

pub count_most : (m : ℕ) (R : ℕ → ℕ → Type 0) (xs : List Pair) → HasFew m R → All (λ (p : Pair). R p.begin p.end) xs → distinct_count nat_eq (map (λ (p : Pair). p.begin) xs) ≤ m
count_most m R xs few all = omega (arith, distinct_le (map (λ (p : Pair). p.begin) xs) few.0 (members_of R few.0 few.2 xs all), few.1)
