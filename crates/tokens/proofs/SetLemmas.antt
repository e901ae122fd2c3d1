-- Fields in order, each once, as a set.
use Rattle.std.proofs.Common.{◌≡◌, Bool, true, false, ◌&&◌, ◌||◌, List, [], ◌∷◌, nat_eq, if◌then◌else◌, refl, ap, sym, subst, ◌∙◌}
use Rattle.std.specs.BTreeSet.{insert_key}
use Rattle.std.specs.Cmp.{IsTotalOrder, both_tied, first_so, second_so, then_total, on_total, nat_cmp_total, unsigned_ties}
use Rattle.std.specs.Cmp.Lexicographic.{nat_list_cmp_total, texts_ties}
use Rattle.std.specs.List.{list_any}
use Rattle.std.specs.List.Sorted.{IsStrictlySortedBy}
use Rattle.std.specs.Ordering.{eq_by_cmp, is_eq, match_ordering, ordering_reverse}
use Rattle.std.specs.Str.{bytes_eq}
use Rattle.std.specs.declared.cmp.Ordering.TheVariants.{Less, Equal, Greater}
use Rattle.std.proofs.lemmas.List.Elements.{All-from_recursion, All-weaker, recursion_from_All}
use Rattle.std.proofs.lemmas.Map.Lookups.{btree_set_from_contains}
use Rattle.std.proofs.lemmas.Map.Views.{All-insert_key, exact_unsigned_eq}
use Rattle.std.proofs.lemmas.Slice.Eq.{bytes_eq-Decides}
use Rattle.std.proofs.Math.Bool.{and-false}
use Rattle.ri_base.specs.Documents.{Field}
use Rattle.tokens.specs.Fields.{field_cmp, has_token, with_field, with_fields}

pub field_total : IsTotalOrder field_cmp
field_total = then_total (then_total (on_total (λ f. f.begin) nat_cmp_total) (on_total (λ f. f.end) nat_cmp_total)) (on_total (λ f. f.name) nat_list_cmp_total)

-- whether two fields are equal
abbrev pub same_field : Field → Field → Bool
same_field a b = (nat_eq a.begin b.begin && nat_eq a.end b.end) && bytes_eq a.name b.name

ties : (a b : Field) → same_field a b ≡ eq_by_cmp field_cmp a b
ties a b = both_tied _ _ _ _ (both_tied _ _ _ _ (unsigned_ties a.begin b.begin) (unsigned_ties a.end b.end)) (texts_ties a.name b.name)

pub exact_field : (a b : Field) → same_field a b ≡ true → a ≡ b
exact_field a b h =
    let numbers : (nat_eq a.begin b.begin && nat_eq a.end b.end) ≡ true = first_so _ _ h in
    let name : a.name ≡ b.name = (bytes_eq-Decides a.name b.name).0 (second_so _ _ h) in
    let begin : a.begin ≡ b.begin = exact_unsigned_eq _ _ (first_so _ _ numbers) in
    let end : a.end ≡ b.end = exact_unsigned_eq _ _ (second_so _ _ numbers) in
    λ i. record { name = name i; begin = begin i; end = end i }

exact_cmp : (a b : Field) → field_cmp a b ≡ Equal → a ≡ b
exact_cmp a b e = exact_field a b (ties a b ∙ ap is_eq e)

-- ---- the order

in_order_with : (ks : List Field) (k : Field) → IsStrictlySortedBy field_cmp ks → IsStrictlySortedBy field_cmp (insert_key field_cmp ks k)
unfolding IsStrictlySortedBy
in_order_with [] k h = (tt, tt)
in_order_with (x ∷ xs) k h = elim (field_cmp k x) as (λ o. field_cmp k x ≡ o → IsStrictlySortedBy field_cmp (match_ordering o (k ∷ x ∷ xs) (x ∷ xs) (x ∷ insert_key field_cmp xs k))) [
  | Less ↦ λ e. ((e, recursion_from_All (λ y. field_cmp k y ≡ Less) xs (All-weaker (λ y. field_cmp x y ≡ Less) (λ y. field_cmp k y ≡ Less) (λ y l. field_total.trans k x y e l) xs (All-from_recursion (λ y. field_cmp x y ≡ Less) xs h.0))), h)
  | Equal ↦ λ e. h
  | Greater ↦ λ e. (recursion_from_All (λ y. field_cmp x y ≡ Less) (insert_key field_cmp xs k) (All-insert_key field_cmp k (λ y. field_cmp x y ≡ Less) xs (All-from_recursion (λ y. field_cmp x y ≡ Less) xs h.0) (field_total.antisymm x k ∙ ap ordering_reverse e)), in_order_with xs k h.1)
] refl

pub in_order_with_field : (fields : List Field) (f : Field) → IsStrictlySortedBy field_cmp fields → IsStrictlySortedBy field_cmp (with_field fields f)
in_order_with_field fields f h = elim (has_token f) as (λ b. IsStrictlySortedBy field_cmp (if b then insert_key field_cmp fields f else fields)) [
  | true ↦ in_order_with fields f h
  | false ↦ h
]

pub in_order_after : (old new : List Field) (f : Field) → new ≡ with_field old f → IsStrictlySortedBy field_cmp old → IsStrictlySortedBy field_cmp new
in_order_after old new f e h = subst (IsStrictlySortedBy field_cmp) (sym e) (in_order_with_field old f h)

pub in_order_with_fields : (fields more : List Field) → IsStrictlySortedBy field_cmp fields → IsStrictlySortedBy field_cmp (with_fields fields more)
in_order_with_fields fields [] h = h
in_order_with_fields fields (f ∷ more) h = in_order_with_fields (with_field fields f) more (in_order_with_field fields f h)

pub no_field_in_order : IsStrictlySortedBy field_cmp []
unfolding IsStrictlySortedBy
no_field_in_order = tt

-- ---- the members

-- whether a field is among these
abbrev pub has : Field → List Field → Bool
has q fields = list_any (same_field q) fields

or_swap : (a b c : Bool) → (a || (b || c)) ≡ (b || (a || c))
or_swap true true c = refl
or_swap true false c = refl
or_swap false b c = refl

or_twice : (a b : Bool) → (a || (a || b)) ≡ (a || b)
or_twice true b = refl
or_twice false b = refl

has_inserted : (q k : Field) (ks : List Field) → has q (insert_key field_cmp ks k) ≡ (same_field q k || has q ks)
has_inserted q k [] = refl
has_inserted q k (x ∷ xs) = elim (field_cmp k x) as (λ o. field_cmp k x ≡ o → has q (match_ordering o (k ∷ x ∷ xs) (x ∷ xs) (x ∷ insert_key field_cmp xs k)) ≡ (same_field q k || (same_field q x || has q xs))) [
  | Less ↦ λ e. refl
  | Equal ↦ λ e. sym (or_twice (same_field q x) (has q xs)) ∙ ap (λ z. same_field q z || (same_field q x || has q xs)) (sym (exact_cmp k x e))
  | Greater ↦ λ e. ap (λ b. same_field q x || b) (has_inserted q k xs) ∙ or_swap (same_field q x) (same_field q k) (has q xs)
] refl

-- a field that equals one with a token has a token
token_of : (q f : Field) → (has_token q && same_field q f) ≡ (has_token f && same_field q f)
token_of q f = elim (same_field q f) as (λ b. same_field q f ≡ b → (has_token q && b) ≡ (has_token f && b)) [
  | true ↦ λ e. ap (λ z. has_token z && true) (exact_field q f e)
  | false ↦ λ e. and-false (has_token q) ∙ sym (and-false (has_token f))
] refl

has_with_field : (q f : Field) (fields : List Field) → has q (with_field fields f) ≡ ((has_token q && same_field q f) || has q fields)
has_with_field q f fields = by (has_token f) ∙ ap (λ b. b || has q fields) (sym (token_of q f))
  where
    by : (b : Bool) → has q (if b then insert_key field_cmp fields f else fields) ≡ ((b && same_field q f) || has q fields)
    by true = has_inserted q f fields
    by false = refl

several : (t s h f : Bool) → ((t && h) || ((t && s) || f)) ≡ ((t && (s || h)) || f)
several false s h f = refl
several true true true f = refl
several true true false f = refl
several true false h f = refl

has_with_fields : (q : Field) (fields more : List Field) → has q (with_fields fields more) ≡ ((has_token q && has q more) || has q fields)
has_with_fields q fields [] = ap (λ b. b || has q fields) (sym (and-false (has_token q)))
has_with_fields q fields (f ∷ more) = has_with_fields q (with_field fields f) more ∙ ap (λ b. (has_token q && has q more) || b) (has_with_field q f fields) ∙ several (has_token q) (same_field q f) (has q more) (has q fields)

found : (q : Field) (fields : List Field) → list_any (λ f. is_eq (field_cmp q f)) fields ≡ has q fields
found q [] = refl
found q (f ∷ fields) = let here = sym (ties q f) in λ i. here i || found q fields i

-- what is put among fields counts by its members alone
pub same_set : (fields xs ys : List Field) → IsStrictlySortedBy field_cmp fields → ((q : Field) → has q xs ≡ has q ys) → with_fields fields xs ≡ with_fields fields ys
same_set fields xs ys h same = btree_set_from_contains field_total (record { keys = with_fields fields xs }) (record { keys = with_fields fields ys })
    (in_order_with_fields fields xs h) (in_order_with_fields fields ys h) (λ q. found q (with_fields fields xs) ∙ both q ∙ sym (found q (with_fields fields ys))) exact_cmp
  where
    both : (q : Field) → has q (with_fields fields xs) ≡ has q (with_fields fields ys)
    both q = has_with_fields q fields xs ∙ ap (λ b. (has_token q && b) || has q fields) (same q) ∙ sym (has_with_fields q fields ys)
