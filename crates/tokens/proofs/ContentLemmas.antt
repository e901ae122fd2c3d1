-- The fields of a document are those that a document may have.
use Rattle.std.proofs.Common.{ℕ, ◌≡◌, ◌<◌, ◌≤◌, ◌+◌, Bool, true, false, List, [], ◌∷◌, ◌++◌, Option, None, Some, map, length, length-append, if◌then◌else◌, get_or, arith, refl, ap, sym, subst, ◌∙◌, inl, inr}
use Rattle.std.specs.BTreeSet.{insert_key}
use Rattle.std.specs.Cmp.Lexicographic.{slice_cmp}
use Rattle.std.specs.List.{All, AllByRecursion, AllPairs}
use Rattle.std.specs.List.Sorted.{IsStrictlySortedBy}
use Rattle.std.specs.Ordering.{nat_cmp, ordering_then}
use Rattle.std.specs.declared.cmp.Ordering.{Ordering}
use Rattle.std.specs.declared.cmp.Ordering.TheVariants.{Less, Equal, Greater}
use Rattle.std.proofs.lemmas.Bool.{ltb-true}
use Rattle.std.proofs.lemmas.Cmp.{ranked}
use Rattle.std.proofs.lemmas.List.Elements.{All-nil}
use Rattle.std.proofs.lemmas.Map.Keys.{Less-from_sorted}
use Rattle.std.proofs.lemmas.Map.Views.{All-insert_key}
use Rattle.ri_base.specs.Documents.{Field, IsBefore, IsDocument}
use Rattle.trec_reader.specs.declared.piece.Piece.{Piece}
use Rattle.trec_reader.specs.declared.piece.Piece.TheVariants.{Text, Open, Close, Break}
use Rattle.tokens.specs.Content.{document_terms}
use Rattle.tokens.specs.Fields.{Opened, closed, closed_at, document_fields, field_cmp, field_from, fields_from, has_token, last_begin, with_field, with_fields, without_last}
use Rattle.tokens.specs.Words.{byte_terms}
use Rattle.std.specs.Map.{keys_of}
use Rattle.tokens.specs.Open.{Keeps, closings}
use Rattle.tokens.specs.declared.open_fields.OpenFields.{OpenFields}
use Rattle.tokens.proofs.ClosingLemmas.{same_closings}
use Rattle.tokens.proofs.SetLemmas.{in_order_with_fields, no_field_in_order, same_set}
use Rattle.ri_base.specs.declared.limits.TheConstants.{MAX_DOC_FIELDS, MAX_DOC_TOKENS}

-- ---- what each field keeps

all_with_field : (P : Field → Type 0) (fields : List Field) (f : Field) → All P fields → (has_token f ≡ true → P f) → All P (with_field fields f)
all_with_field P fields f all one = by (has_token f) refl
  where
    by : (b : Bool) → has_token f ≡ b → All P (if b then insert_key field_cmp fields f else fields)
    by true e = All-insert_key field_cmp f P fields all (one e)
    by false e = all

all_with_fields : (P : Field → Type 0) (fields more : List Field) → All P fields → AllByRecursion (λ f. has_token f ≡ true → P f) more → All P (with_fields fields more)
all_with_fields P fields [] all each = all
all_with_fields P fields (f ∷ more) all each = all_with_fields P (with_field fields f) more (all_with_field P fields f all each.0) each.1

each_append : (P : Field → Type 0) (xs ys : List Field) → AllByRecursion P xs → AllByRecursion P ys → AllByRecursion P (xs ++ ys)
each_append P [] ys a b = b
each_append P (x ∷ xs) ys a b = (a.0, each_append P xs ys a.1 b)

-- ---- each has a token

each_some : (more : List Field) → AllByRecursion (λ f. has_token f ≡ true → f.begin < f.end) more
each_some [] = tt
each_some (f ∷ more) = (ltb-true f.begin f.end, each_some more)

-- ---- each ends within the document

abbrev EndsBy : ℕ → Field → Type 0
EndsBy n f = f.end ≤ n

closed_within : (at n : ℕ) → at ≤ n → (opened : List Opened) → AllByRecursion (EndsBy n) (map (closed_at at) opened)
closed_within at n h [] = tt
closed_within at n h (o ∷ opened) = (h, closed_within at n h opened)

one_within : (name : List ℕ) (at n : ℕ) → at ≤ n → (begin : Option ℕ) → AllByRecursion (EndsBy n) (field_from name at begin)
one_within name at n h None = tt
one_within name at n h (Some begin) = (h, tt)

each_within : (pieces : List Piece) (at n : ℕ) (opened : List Opened) → at + length (document_terms pieces) ≤ n → AllByRecursion (EndsBy n) (fields_from at opened pieces)
unfolding document_terms
each_within [] at n opened h = closed_within at n (omega (arith, h)) opened
each_within (Text text ∷ pieces) at n opened h = each_within pieces (at + length (byte_terms text)) n opened
    (let e = length-append (byte_terms text) (document_terms pieces) in omega (arith, h, e))
each_within (Open name ∷ pieces) at n opened h = each_within pieces at n (record { name = name; begin = at } ∷ opened) h
each_within (Close name ∷ pieces) at n opened h = each_append (EndsBy n) (closed name at opened) (fields_from at (without_last name opened) pieces)
    (one_within name at n (omega (arith, h)) (last_begin name opened)) (each_within pieces at n (without_last name opened) h)
each_within (Break ∷ pieces) at n opened h = each_within pieces at n opened h

any_of : (P : Field → Type 0) (more : List Field) → AllByRecursion P more → AllByRecursion (λ f. has_token f ≡ true → P f) more
any_of P [] h = tt
any_of P (f ∷ more) h = ((λ _. h.0), any_of P more h.1)

-- ---- they stand in order

is_before : (a b : Field) → field_cmp a b ≡ Less → IsBefore a b
is_before a b e = by (nat_cmp a.begin b.begin) refl (nat_cmp a.end b.end) refl (slice_cmp nat_cmp a.name b.name) refl e
  where
    by : (o : Ordering) → o ≡ nat_cmp a.begin b.begin → (p : Ordering) → p ≡ nat_cmp a.end b.end → (r : Ordering) → r ≡ slice_cmp nat_cmp a.name b.name → ordering_then (ordering_then o p) r ≡ Less → IsBefore a b
    by Less x p y r z e = inl (ranked a.begin b.begin Less x)
    by Equal x Less y r z e = inr (ranked a.begin b.begin Equal x, inl (ranked a.end b.end Less y))
    by Equal x Equal y r z e = inr (ranked a.begin b.begin Equal x, inr (ranked a.end b.end Equal y, sym z ∙ e))
    by Equal x Greater y r z e = cc
    by Greater x p y r z e = cc

in_order : (fields : List Field) → IsStrictlySortedBy field_cmp fields → AllPairs IsBefore fields
in_order fields h i j d lower inside = is_before (get_or fields i d) (get_or fields j d) (Less-from_sorted field_cmp fields i j d h lower inside)

pub is_document : (pieces : List Piece) → length (document_terms pieces) ≤ MAX_DOC_TOKENS → length (document_fields pieces) ≤ MAX_DOC_FIELDS → IsDocument (document_terms pieces) (document_fields pieces)
unfolding document_fields
is_document pieces short few = record {
  short = short;
  sound = record {
    few = few;
    some = all_with_fields (λ f. f.begin < f.end) [] (fields_from 0 [] pieces) (All-nil _) (each_some (fields_from 0 [] pieces));
    within = all_with_fields (EndsBy (length (document_terms pieces))) [] (fields_from 0 [] pieces) (All-nil _) (any_of (EndsBy (length (document_terms pieces))) (fields_from 0 [] pieces) (each_within pieces 0 (length (document_terms pieces)) [] (omega arith)));
    in_order = in_order (with_fields [] (fields_from 0 [] pieces)) (in_order_with_fields [] (fields_from 0 [] pieces) no_field_in_order);
  };
}

pub is_document_of : (pieces : List Piece) (tokens : List (List ℕ)) (fields : List Field) → tokens ≡ document_terms pieces → fields ≡ document_fields pieces → length tokens ≤ MAX_DOC_TOKENS → length fields ≤ MAX_DOC_FIELDS → IsDocument tokens fields
is_document_of pieces tokens fields t f short few = rw (t, f) (is_document pieces (subst (λ xs. length xs ≤ MAX_DOC_TOKENS) t short) (subst (λ xs. length xs ≤ MAX_DOC_FIELDS) f few))

-- no piece is left
pub at_end : (fields total : List Field) (at end : ℕ) (list : List Opened) (rest : List Piece) → length rest ≡ 0 → end ≡ at → with_fields fields (fields_from at list rest) ≡ total → with_fields fields (map (closed_at end) list) ≡ total
at_end fields total at end list [] none same is = ap (λ n. with_fields fields (map (closed_at n) list)) same ∙ is
at_end fields total at end list (piece ∷ rest) none same is = absurd (omega (arith, none))

-- the end of a document closes what is open
pub ended : (pieces : List Piece) (before after : List Field) (end : ℕ) (opened : OpenFields) (list : List Opened) → IsStrictlySortedBy field_cmp before → IsStrictlySortedBy (slice_cmp nat_cmp) (keys_of opened.begins.entries) → Keeps opened list →
    with_fields before (map (closed_at end) list) ≡ document_fields pieces → after ≡ with_fields before (closings end opened) → after ≡ document_fields pieces
ended pieces before after end opened list order names keeps is e = e ∙ same_set before (closings end opened) (map (closed_at end) list) order (λ q. same_closings (λ begins. begins.items) q end opened.begins.entries list names keeps) ∙ is
