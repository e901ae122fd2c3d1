-- What the two kinds of priors tell.
use Rattle.std.proofs.Common.{◌≡◌, ◌||◌, ℕ, zero, suc, ◌+◌, ◌<◌, ◌≤◌, Bool, true, false, cond, List, [], ◌∷◌, ◌++◌, length, map, filter, take, get_or, Option, None, Some, is_some, arith, refl, sym, ap, subst, ◌∙◌}
use Rattle.std.specs.Prelude.{All, fold, nat_le, slice_index_or, slice_set}
use Rattle.std.specs.List.{AllWithin, best_of, list_any}
use Rattle.std.specs.HashMap.{HashMap, get}
use Rattle.std.specs.List.Sorted.{IsNonDecreasingBy, IsStrictlyIncreasing}
use Rattle.std.specs.Map.{lookup}
use Rattle.std.specs.Option.{option_map_or}
use Rattle.std.specs.Str.{bytes_eq}
use Rattle.std.proofs.lemmas.List.{length-map, map-append, take_all, take_more}
use Rattle.std.proofs.lemmas.List.Sorted.{IsNonDecreasingBy-from_all_adjacent}
use Rattle.std.proofs.lemmas.List.Elements.{All-cons, All-nil}
use Rattle.indexmap.specs.IndexMap.{insert_entry}
use Rattle.indexmap.proofs.CallerLemmas.{insert_entry-new}
use Rattle.ri_base.specs.Ratio.{Ratio, IsBelief, ratio_of}
use Rattle.ri_base.specs.declared.fraction.Fraction.{Fraction}
use Rattle.belief_nodes.specs.Plugs.{greatest_row, told_of}
use Rattle.belief_nodes.specs.Priors.{IsGreatestOf}
use Rattle.belief_nodes.specs.Products.{is_greater, greatest_of}
use Rattle.belief_nodes.proofs.Greatest.{greatest_alone, greatest_is, greatest_joined}

-- one of a list changes, and what is read of it stays
pub map-slice_set : {A B : Type 0} (f : A → B) (xs : List A) (i : ℕ) (x d : A) → i < length xs → f x ≡ f (get_or xs i d) → map f (slice_set xs i x) ≡ map f xs
map-slice_set f [] i x d h e = absurd (omega arith)
map-slice_set f (y ∷ ys) zero x d h e = ap (λ v. v ∷ map f ys) e
map-slice_set f (y ∷ ys) (suc i) x d h e = ap (λ v. f y ∷ v) (map-slice_set f ys i x d (omega arith) e)

at_map : {A B : Type 0} (f : A → B) (xs : List A) (i : ℕ) (d : A) (e : B) → i < length xs → get_or (map f xs) i e ≡ f (get_or xs i d)
at_map f [] i d e inside = absurd (omega arith)
at_map f (x ∷ xs) zero d e inside = refl
at_map f (x ∷ xs) (suc i) d e inside = at_map f xs i d e (omega arith)

fraction_belief : (f : Fraction) → IsBelief (ratio_of f)
fraction_belief f = record { positive = f.positive; at_most_one = f.at_most_one; fits = f.fits }

told_beliefs : {X : Type 0} (rows : List (X × Fraction)) → All IsBelief (map (λ row. row.1) (told_of rows))
told_beliefs [] = All-nil IsBelief
told_beliefs (row ∷ rows) = All-cons IsBelief (ratio_of row.1) (map (λ r. r.1) (told_of rows)) (fraction_belief row.1) (told_beliefs rows)

told_twice : {X : Type 0} (rows : List (X × Fraction)) → map (λ row. row.1) (told_of rows) ≡ map (λ row. ratio_of row.1) rows
told_twice [] = refl
told_twice (row ∷ rows) = ap (λ all. ratio_of row.1 ∷ all) (told_twice rows)

-- ---- rows

module _ (test : List ℕ → Bool) where
  pub row_read : (rows : List (List ℕ × Fraction)) (d : Ratio)
      → slice_index_or (map (λ row. row.1) (filter (λ row. test row.0) (told_of rows))) 0 d ≡ option_map_or ratio_of (lookup test rows) d
  row_read [] d = refl
  row_read (row ∷ rows) d = by (test row.0) (row_read rows d)
    where
      by : (v : Bool) → slice_index_or (map (λ (r : List ℕ × Ratio). r.1) (filter (λ r. test r.0) (told_of rows))) 0 d ≡ option_map_or ratio_of (lookup test rows) d
          → slice_index_or (map (λ (r : List ℕ × Ratio). r.1) (cond v ((row.0, ratio_of row.1) ∷ filter (λ r. test r.0) (told_of rows)) (filter (λ r. test r.0) (told_of rows)))) 0 d
          ≡ option_map_or ratio_of (cond v (Some row.1) (lookup test rows)) d
      by true later = refl
      by false later = later

  pub row_there : (rows : List (List ℕ × Fraction)) → list_any (λ row. test row.0) (told_of rows) ≡ is_some (lookup test rows)
  row_there [] = refl
  row_there (row ∷ rows) = by (test row.0) (row_there rows)
    where
      by : (v : Bool) → list_any (λ r. test r.0) (told_of rows) ≡ is_some (lookup test rows)
          → (v || list_any (λ r. test r.0) (told_of rows)) ≡ is_some (cond v (Some row.1) (lookup test rows))
      by true later = refl
      by false later = later

none_of : {X : Type 0} (o : Option X) → is_some o ≡ false → o ≡ None
none_of None e = refl
none_of (Some x) e = cc

-- a row more
pub told_inserted : {S : Type 0} (m : HashMap (List ℕ) Fraction S) (es : List (List ℕ × Fraction)) (k : List ℕ) (v : Fraction) → is_some (get bytes_eq m k) ≡ false
    → es ≡ insert_entry bytes_eq m.entries k v → told_of es ≡ told_of m.entries ++ (k, ratio_of v) ∷ []
told_inserted m es k v none is =
    ap told_of (is ∙ insert_entry-new bytes_eq m k v (none_of (get bytes_eq m k) none)) ∙ map-append (λ (e : List ℕ × Fraction). (e.0, ratio_of e.1)) m.entries ((k, v) ∷ [])

-- ---- the greatest row

best_pushed : (r : Ratio) (xs : List Ratio) (y : Ratio) → best_of is_greater r (xs ++ y ∷ []) ≡ best_of is_greater (best_of is_greater r xs) (y ∷ [])
best_pushed r [] y = refl
best_pushed r (x ∷ xs) y = best_pushed (cond (is_greater x r) x r) xs y

told_pushed : {X : Type 0} (rows : List (X × Ratio)) (row : X × Ratio) → map (λ (r : X × Ratio). r.1) (rows ++ row ∷ []) ≡ map (λ r. r.1) rows ++ row.1 ∷ []
told_pushed [] row = refl
told_pushed (r ∷ rows) row = ap (λ all. r.1 ∷ all) (told_pushed rows row)

pub greatest_more : (rows : List (List ℕ × Ratio)) (row : List ℕ × Ratio) (g : Ratio) → Some g ≡ greatest_row rows → Some (greatest_of (g ∷ row.1 ∷ [])) ≡ greatest_row (rows ++ row ∷ [])
unfolding greatest_of
greatest_more [] row g e = cc
greatest_more (r ∷ rows) row g e =
    let is : g ≡ best_of is_greater r.1 (map (λ (x : List ℕ × Ratio). x.1) rows) = cc in
    ap Some (ap (λ x. best_of is_greater x (row.1 ∷ [])) is ∙ sym (best_pushed r.1 (map (λ x. x.1) rows) row.1) ∙ ap (best_of is_greater r.1) (sym (told_pushed rows row)))

pub greatest_first : (rows : List (List ℕ × Ratio)) (row : List ℕ × Ratio) → None ≡ greatest_row rows → Some row.1 ≡ greatest_row (rows ++ row ∷ [])
unfolding greatest_of
greatest_first [] row e = refl
greatest_first (r ∷ rows) row e = cc

-- the greatest of the rows and of the rest
pub table_greatest : (rest f r : Fraction) (rows : List (List ℕ × Fraction)) → Some (ratio_of f) ≡ greatest_row (told_of rows) → ratio_of r ≡ greatest_of (ratio_of rest ∷ ratio_of f ∷ [])
    → IsGreatestOf (ratio_of rest ∷ (map (λ row. row.1) (told_of rows) ++ [])) (ratio_of r)
unfolding greatest_of
table_greatest rest f r [] e is = cc
table_greatest rest f r (row ∷ rows) e is =
    let told : List Ratio = map (λ r. r.1) (told_of (row ∷ rows)) in
    let all = told_beliefs rows in
    let of_rows : IsGreatestOf told (ratio_of f) =
    subst (IsGreatestOf told) (let same : greatest_of told ≡ ratio_of f = cc in same) (greatest_is (ratio_of row.1) (map (λ r. r.1) (told_of rows)) (fraction_belief row.1) all).0 in
    let both = greatest_joined (ratio_of rest ∷ []) told (ratio_of rest) (ratio_of f) (positive rest) (positive f) (greatest_alone (ratio_of rest)) of_rows in
    subst (λ (l : List Ratio). IsGreatestOf (ratio_of rest ∷ l) (ratio_of r)) (sym (joined told)) (subst (IsGreatestOf (ratio_of rest ∷ told)) (sym is) both)
  where
    positive : (g : Fraction) → 0 < g.q
    positive g = omega (arith, g.positive, g.at_most_one)

    joined : (l : List Ratio) → l ++ [] ≡ l
    joined [] = refl
    joined (x ∷ l) = ap (λ m. x ∷ m) (joined l)

-- ---- steps

module _ (len : ℕ) where
  none_short : (steps : List (ℕ × Fraction)) → ((k : ℕ) (d : ℕ × Fraction) → k < length steps → nat_le (get_or steps k d).0 len ≡ false) → filter (λ s. nat_le s.0 len) (told_of steps) ≡ []
  none_short [] h = refl
  none_short (s ∷ steps) h = rw (h 0 s (omega arith)) (none_short steps (λ k d inside. h (suc k) d (omega arith)))

  -- where no step has at most that length
  pub rest_settles : (steps : List (ℕ × Fraction)) (r : Ratio) → AllWithin (λ s. nat_le s.0 len ≡ false) steps 0 (length steps)
      → r ≡ fold (λ a b. b) r (map (λ s. s.1) (filter (λ s. nat_le s.0 len) (told_of steps)))
  rest_settles steps r h = ap (λ (l : List (ℕ × Ratio)). fold (λ a b. b) r (map (λ s. s.1) l)) (sym (none_short steps (λ k d inside. h k d (omega arith) inside)))

  -- where the step i is the last that has
  pub step_settles : (steps : List (ℕ × Fraction)) (r : Ratio) (i : ℕ) (f : ℕ × Fraction) → i < length steps
      → ((k : ℕ) (d : ℕ × Fraction) → k ≤ i → nat_le (get_or steps k d).0 len ≡ true)
      → ((k : ℕ) (d : ℕ × Fraction) → i < k → k < length steps → nat_le (get_or steps k d).0 len ≡ false)
      → f ≡ get_or steps i f → ratio_of f.1 ≡ fold (λ a b. b) r (map (λ s. s.1) (filter (λ s. nat_le s.0 len) (told_of steps)))
  step_settles [] r i f inside h h' e = absurd (omega arith)
  step_settles (s ∷ steps) r zero f inside h h' e =
      rw (h 0 s (omega arith), none_short steps (λ k d few. h' (suc k) d (omega arith) (omega arith))) (ap (λ (x : ℕ × Fraction). ratio_of x.1) e)
  step_settles (s ∷ steps) r (suc i) f inside h h' e =
      rw (h 0 s (omega arith)) (step_settles steps (ratio_of s.1) i f (omega arith) (λ k d low. h (suc k) d (omega arith)) (λ k d low high. h' (suc k) d (omega arith) (omega arith)) e)

-- ---- the greatest of the steps and of the rest

pub greatest_next : {X : Type 0} (r : Ratio) (steps : List (X × Fraction)) (i : ℕ) (step : X × Fraction) (g : Ratio) → i < length steps → step ≡ get_or steps i step
    → g ≡ greatest_of (r ∷ map (λ s. ratio_of s.1) (take i steps)) → greatest_of (g ∷ ratio_of step.1 ∷ []) ≡ greatest_of (r ∷ map (λ s. ratio_of s.1) (take (i + 1) steps))
unfolding greatest_of
greatest_next {X = X} r steps i step g inside here is =
    let told : List Ratio = map (λ s. ratio_of s.1) (take i steps) in
    ap (λ x. best_of is_greater x (ratio_of step.1 ∷ [])) is ∙ sym (best_pushed r told (ratio_of step.1))
    ∙ ap (best_of is_greater r) (sym (map-append (λ (s : X × Fraction). ratio_of s.1) (take i steps) (step ∷ []))
    ∙ ap (map (λ (s : X × Fraction). ratio_of s.1)) (ap (λ s. take i steps ++ s ∷ []) here ∙ sym (take_more steps i step inside)))

pub greatest_end : {X : Type 0} (rest : Fraction) (steps : List (X × Fraction)) (i : ℕ) (g : Ratio) → length steps ≤ i
    → g ≡ greatest_of (ratio_of rest ∷ map (λ s. ratio_of s.1) (take i steps)) → IsGreatestOf (ratio_of rest ∷ map (λ s. s.1) (told_of steps)) g
greatest_end {X = X} rest steps i g end is =
    let told : List Ratio = map (λ s. s.1) (told_of steps) in
    let same : g ≡ greatest_of (ratio_of rest ∷ told) = is ∙ ap (λ (l : List Ratio). greatest_of (ratio_of rest ∷ l)) (ap (map (λ (s : X × Fraction). ratio_of s.1)) (take_all i steps end) ∙ sym (told_twice steps)) in
    subst (IsGreatestOf (ratio_of rest ∷ told)) (sym same) (greatest_is (ratio_of rest) told (fraction_belief rest) (told_beliefs steps)).0

-- ---- the lengths of steps

pub lengths_rise : (steps : List (ℕ × Fraction)) → IsStrictlyIncreasing (map (λ s. s.0) steps) → IsNonDecreasingBy (λ (s : ℕ × Fraction). s.0) steps
lengths_rise steps h = IsNonDecreasingBy-from_all_adjacent (λ (s : ℕ × Fraction). s.0) steps
    (λ k d inside. let up = h k (rw (length-map steps (λ (s : ℕ × Fraction). s.0)) inside) in
    let a = at_map (λ (s : ℕ × Fraction). s.0) steps k d 0 (omega arith) in
    let b = at_map (λ (s : ℕ × Fraction). s.0) steps (k + 1) d 0 (omega arith) in
    omega (arith, up, a, b))
