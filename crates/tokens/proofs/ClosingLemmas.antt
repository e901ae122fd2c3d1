-- The fields that the end of a document closes.
use Rattle.std.proofs.Common.{ℕ, ◌≡◌, Bool, true, false, ◌&&◌, ◌||◌, List, [], ◌∷◌, Option, None, Some, map, nat_eq, if◌then◌else◌, refl, ap, sym, subst, ◌∙◌}
use Rattle.std.specs.BTreeMap.{is_at}
use Rattle.std.specs.Cmp.Lexicographic.{slice_cmp, texts_ties}
use Rattle.std.specs.List.{AllByRecursion, flat_map, list_any}
use Rattle.std.specs.List.Sorted.{IsStrictlySortedBy}
use Rattle.std.specs.Map.{keys_of, lookup}
use Rattle.std.specs.Option.{MatchOption, option_map, unwrap_or}
use Rattle.std.specs.Ordering.{is_eq, nat_cmp}
use Rattle.std.specs.Prelude.{reverse}
use Rattle.std.specs.Str.{bytes_eq}
use Rattle.std.specs.declared.cmp.Ordering.TheVariants.{Less}
use Rattle.std.proofs.lemmas.List.Folds.{list_any-append}
use Rattle.std.proofs.lemmas.List.Sorted.{list_any-IsPermutation, IsPermutation-reverse}
use Rattle.std.proofs.lemmas.Slice.Eq.{bytes_eq-Decides}
use Rattle.std.proofs.Math.Bool.{and-false}
use Rattle.ri_base.specs.Documents.{Field}
use Rattle.tokens.specs.Fields.{Opened, closed, closed_at, field_from, last_begin, without_last}
use Rattle.tokens.specs.Open.{Keeps, begins_at, begins_of, named}
use Rattle.tokens.specs.declared.open_fields.OpenFields.{OpenFields}
use Rattle.tokens.proofs.SetLemmas.{has, same_field}

-- the fields of one name
more_named : (b e n r : Bool) → (((b && e) && n) || ((e && n) && r)) ≡ ((e && n) && (b || r))
more_named true true true r = refl
more_named true true false r = refl
more_named true false n r = refl
more_named false true true r = refl
more_named false true false r = refl
more_named false false n r = refl

has_named : (q : Field) (end : ℕ) (name begins : List ℕ) → has q (named end name begins) ≡ ((nat_eq q.end end && bytes_eq q.name name) && list_any (nat_eq q.begin) begins)
has_named q end name [] = sym (and-false (nat_eq q.end end && bytes_eq q.name name))
has_named q end name (b ∷ begins) = ap (λ r. same_field q (record { name = name; begin = b; end = end }) || r) (has_named q end name begins)
    ∙ more_named (nat_eq q.begin b) (nat_eq q.end end) (bytes_eq q.name name) (list_any (nat_eq q.begin) begins)

-- the fields of a list of open ones
abbrev is_begin_of : Field → List Opened → Bool
is_begin_of q opened = list_any (nat_eq q.begin) (begins_of q.name opened)

more_opened : (b e n r : Bool) → (((b && e) && n) || (e && r)) ≡ (e && (if n then b || r else r))
more_opened true true true r = refl
more_opened true true false r = refl
more_opened true false n r = refl
more_opened false e true r = refl
more_opened false e false r = refl

any_where : (p : ℕ → Bool) (x : ℕ) (xs : List ℕ) (n : Bool) → (if n then p x || list_any p xs else list_any p xs) ≡ list_any p (if n then x ∷ xs else xs)
any_where p x xs true = refl
any_where p x xs false = refl

has_opened : (q : Field) (end : ℕ) (opened : List Opened) → has q (map (closed_at end) opened) ≡ (nat_eq q.end end && is_begin_of q opened)
has_opened q end [] = sym (and-false (nat_eq q.end end))
has_opened q end (o ∷ opened) = ap (λ r. same_field q (closed_at end o) || r) (has_opened q end opened)
    ∙ more_opened (nat_eq q.begin o.begin) (nat_eq q.end end) (bytes_eq q.name o.name) (is_begin_of q opened)
    ∙ ap (λ r. nat_eq q.end end && r) (any_where (nat_eq q.begin) o.begin (begins_of q.name opened) (bytes_eq q.name o.name))

-- the fields of a map from names to the places at which theirs begin
module _ {V : Type 0} (items : V → List ℕ) where
  abbrev pub begins_in : List (List ℕ × V) → List ℕ → List ℕ
  begins_in entries name = unwrap_or (option_map items (lookup (is_at (slice_cmp nat_cmp name)) entries)) []

  absent : (name : List ℕ) (entries : List (List ℕ × V)) → AllByRecursion (λ other. slice_cmp nat_cmp name other ≡ Less) (keys_of entries) → lookup (is_at (slice_cmp nat_cmp name)) entries ≡ None
  absent name [] h = refl
  absent name (e ∷ entries) h = ap (λ o. if is_eq o then Some e.1 else lookup (is_at (slice_cmp nat_cmp name)) entries) h.0 ∙ absent name entries h.1

  first_of : (e l : Bool) → (((e && true) && l) || (e && false)) ≡ (e && l)
  first_of true true = refl
  first_of true false = refl
  first_of false l = refl

  rest_of : (e l r : Bool) → (((e && false) && l) || r) ≡ r
  rest_of true l r = refl
  rest_of false l r = refl

  has_entries : (q : Field) (end : ℕ) (entries : List (List ℕ × V)) → IsStrictlySortedBy (slice_cmp nat_cmp) (keys_of entries) →
      has q (flat_map (λ e. named end e.0 (items e.1)) entries) ≡ (nat_eq q.end end && list_any (nat_eq q.begin) (begins_in entries q.name))
  unfolding IsStrictlySortedBy
  has_entries q end [] h = sym (and-false (nat_eq q.end end))
  has_entries q end (e ∷ entries) h =
      list_any-append (same_field q) (named end e.0 (items e.1)) (flat_map (λ e. named end e.0 (items e.1)) entries)
      ∙ ap (λ b. b || has q (flat_map (λ e. named end e.0 (items e.1)) entries)) (has_named q end e.0 (items e.1))
      ∙ ap (λ b. ((nat_eq q.end end && bytes_eq q.name e.0) && list_any (nat_eq q.begin) (items e.1)) || b) (has_entries q end entries h.1)
      ∙ by (bytes_eq q.name e.0) refl
    where
      by : (n : Bool) → bytes_eq q.name e.0 ≡ n →
          (((nat_eq q.end end && bytes_eq q.name e.0) && list_any (nat_eq q.begin) (items e.1)) || (nat_eq q.end end && list_any (nat_eq q.begin) (begins_in entries q.name)))
          ≡ (nat_eq q.end end && list_any (nat_eq q.begin) (begins_in (e ∷ entries) q.name))
      by true same =
          let name : q.name ≡ e.0 = (bytes_eq-Decides q.name e.0).0 same in
          let none : begins_in entries q.name ≡ [] = ap (λ found. unwrap_or (option_map items found) []) (ap (λ n. lookup (is_at (slice_cmp nat_cmp n)) entries) name ∙ absent e.0 entries h.0) in
          let here : begins_in (e ∷ entries) q.name ≡ items e.1 = ap (λ b. unwrap_or (option_map items (if b then Some e.1 else lookup (is_at (slice_cmp nat_cmp q.name)) entries)) []) (sym (texts_ties q.name e.0) ∙ same) in
          rw (none, here, same) (first_of (nat_eq q.end end) (list_any (nat_eq q.begin) (items e.1)))
      by false other =
          let here : begins_in (e ∷ entries) q.name ≡ begins_in entries q.name = ap (λ b. unwrap_or (option_map items (if b then Some e.1 else lookup (is_at (slice_cmp nat_cmp q.name)) entries)) []) (sym (texts_ties q.name e.0) ∙ other) in
          rw (here, other) (rest_of (nat_eq q.end end) (list_any (nat_eq q.begin) (items e.1)) (nat_eq q.end end && list_any (nat_eq q.begin) (begins_in entries q.name)))

  -- the order of the places doesn't matter
  any_reversed : (p : ℕ → Bool) (o : Option V) → list_any p (unwrap_or (option_map items o) []) ≡ list_any p (unwrap_or (option_map (λ v. reverse (items v)) o) [])
  any_reversed p None = refl
  any_reversed p (Some v) = list_any-IsPermutation p (items v) (reverse (items v)) (IsPermutation-reverse (items v))

  -- a map and a list of open fields that agree close the same fields
  pub same_closings : (q : Field) (end : ℕ) (entries : List (List ℕ × V)) (opened : List Opened) → IsStrictlySortedBy (slice_cmp nat_cmp) (keys_of entries) →
      ((name : List ℕ) → unwrap_or (option_map (λ v. reverse (items v)) (lookup (is_at (slice_cmp nat_cmp name)) entries)) [] ≡ begins_of name opened) →
      has q (flat_map (λ e. named end e.0 (items e.1)) entries) ≡ has q (map (closed_at end) opened)
  same_closings q end entries opened h agree = has_entries q end entries h
      ∙ ap (λ b. nat_eq q.end end && b) (any_reversed (nat_eq q.begin) (lookup (is_at (slice_cmp nat_cmp q.name)) entries) ∙ ap (list_any (nat_eq q.begin)) (agree q.name))
      ∙ sym (has_opened q end opened)

-- ---- a field that is closed

head_same : (a b : ℕ) (xs ys : List ℕ) → a ∷ xs ≡ b ∷ ys → a ≡ b
head_same a b xs ys e = cc

tail_same : (a b : ℕ) (xs ys : List ℕ) → a ∷ xs ≡ b ∷ ys → xs ≡ ys
tail_same a b xs ys e = cc

-- what closing the last field of a name answers, as the places of that name change
abbrev pub IsClosed : Option ℕ → List ℕ → List ℕ → Type 0
IsClosed r old new = MatchOption r ((old ≡ []) × (new ≡ [])) (λ begin. old ≡ begin ∷ new)

never : (b : ℕ) (bs : List ℕ) → [] ≡ b ∷ bs → ⊥
never b bs e = cc

last_is : (name : List ℕ) (opened : List Opened) → IsClosed (last_begin name opened) (begins_of name opened) (begins_of name (without_last name opened))
last_is name [] = (refl, refl)
last_is name (o ∷ opened) = by (bytes_eq name o.name) refl (last_is name opened)
  where
    by : (n : Bool) → bytes_eq name o.name ≡ n → IsClosed (last_begin name opened) (begins_of name opened) (begins_of name (without_last name opened)) → IsClosed (if n then Some o.begin else last_begin name opened)
        (if n then o.begin ∷ begins_of name opened else begins_of name opened)
        (begins_of name (if n then opened else o ∷ without_last name opened))
    by true e h = refl
    by false e h = rw e h

-- the fields of other names stay open
others_stay : (name other : List ℕ) (opened : List Opened) → bytes_eq other name ≡ false → begins_of other (without_last name opened) ≡ begins_of other opened
others_stay name other [] h = refl
others_stay name other (o ∷ opened) h = by (bytes_eq name o.name) refl (others_stay name other opened h)
  where
    by : (n : Bool) → bytes_eq name o.name ≡ n → begins_of other (without_last name opened) ≡ begins_of other opened → begins_of other (if n then opened else o ∷ without_last name opened) ≡ begins_of other (o ∷ opened)
    by true e further = let differs : bytes_eq other o.name ≡ false = ap (bytes_eq other) (sym ((bytes_eq-Decides name o.name).0 e)) ∙ h in rw differs refl
    by false e further = ap (λ rest. if bytes_eq other o.name then o.begin ∷ rest else rest) further

same_closed : (r s : Option ℕ) (old new new' : List ℕ) → IsClosed r old new → IsClosed s old new' → (s ≡ r) × (new ≡ new')
same_closed None None old new new' c d = (refl, c.1 ∙ sym d.1)
same_closed None (Some b) old new new' c d = absurd (never b new' (sym c.0 ∙ d))
same_closed (Some a) None old new new' c d = absurd (never a new (sym d.0 ∙ c))
same_closed (Some a) (Some b) old new new' c d = (ap Some (head_same b a new' new (sym d ∙ c)), tail_same a b new new' (sym c ∙ d))

one_closed : (name : List ℕ) (opened : List Opened) (r : Option ℕ) (old new : List ℕ) → IsClosed r old new → old ≡ begins_of name opened → (last_begin name opened ≡ r) × (new ≡ begins_of name (without_last name opened))
one_closed name opened r old new c agree = same_closed r (last_begin name opened) (begins_of name opened) new (begins_of name (without_last name opened)) (subst (λ places. IsClosed r places new) agree c) (last_is name opened)

abbrev pub Others : OpenFields → OpenFields → List ℕ → Type 0
Others old new name = (other : List ℕ) → bytes_eq other name ≡ false → begins_at new other ≡ begins_at old other

-- a field is closed, where one of its name is open
pub keeps_without : (old new : OpenFields) (name : List ℕ) (r : Option ℕ) (opened : List Opened) → IsClosed r (begins_at old name) (begins_at new name) → Others old new name → Keeps old opened → Keeps new (without_last name opened)
keeps_without old new name r opened c others keeps other = by (bytes_eq other name) refl
  where
    by : (same : Bool) → bytes_eq other name ≡ same → begins_at new other ≡ begins_of other (without_last name opened)
    by true e = let is : other ≡ name = (bytes_eq-Decides other name).0 e in rw is (one_closed name opened r _ _ c (keeps name)).1
    by false e = others other e ∙ keeps other ∙ sym (others_stay name other opened e)

pub closed_is : (old new : OpenFields) (name : List ℕ) (end : ℕ) (r : Option ℕ) (opened : List Opened) → IsClosed r (begins_at old name) (begins_at new name) → Keeps old opened → closed name end opened ≡ field_from name end r
closed_is old new name end r opened c keeps = ap (field_from name end) (one_closed name opened r _ _ c (keeps name)).0

-- a field is opened
pub keeps_with : (old new : OpenFields) (name : List ℕ) (begin : ℕ) (opened : List Opened) → begins_at new name ≡ begin ∷ begins_at old name → Others old new name → Keeps old opened → Keeps new (record { name = name; begin = begin } ∷ opened)
keeps_with old new name begin opened here others keeps other = by (bytes_eq other name) refl
  where
    by : (same : Bool) → bytes_eq other name ≡ same → begins_at new other ≡ (if bytes_eq other name then begin ∷ begins_of other opened else begins_of other opened)
    by true e = let is : other ≡ name = (bytes_eq-Decides other name).0 e in rw e (ap (begins_at new) is ∙ here ∙ ap (λ places. begin ∷ places) (keeps name ∙ ap (λ n. begins_of n opened) (sym is)))
    by false e = rw e (others other e ∙ keeps other)
