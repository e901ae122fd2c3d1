-- Sets of fields, kept by their keys.
use Rattle.std.proofs.Common.{◌≡◌, List, [], ◌∷◌, Result, Ok, Err, true, map, refl, ap, arith, subst, sym}
use Rattle.std.specs.BTreeSet.{insert_key}
use Rattle.std.specs.List.{All, AllByRecursion}
use Rattle.std.specs.List.Sorted.{IsStrictlySortedBy}
use Rattle.std.specs.Ordering.{match_ordering}
use Rattle.std.specs.declared.cmp.Ordering.{Ordering}
use Rattle.std.specs.declared.cmp.Ordering.TheVariants.{Less, Equal, Greater}
use Rattle.std.proofs.lemmas.Map.Views.{All-insert_key}
use Rattle.std.specs.Prelude.{OnOk, OnErr}
use Rattle.tokens.specs.Fields.{field_cmp, has_token, with_field}
use Rattle.tokens.specs.Keys.{HasToken, Key, field_of, key_cmp}

-- a key takes the place of its field
pub inserted : (keys : List Key) (k : Key) → map field_of (insert_key key_cmp keys k) ≡ insert_key field_cmp (map field_of keys) (field_of k)
inserted [] k = refl
inserted (x ∷ xs) k = by (key_cmp k x) (inserted xs k)
  where
    by : (o : Ordering) → map field_of (insert_key key_cmp xs k) ≡ insert_key field_cmp (map field_of xs) (field_of k) →
        map field_of (match_ordering o (k ∷ x ∷ xs) (x ∷ xs) (x ∷ insert_key key_cmp xs k)) ≡ match_ordering o (field_of k ∷ field_of x ∷ map field_of xs) (field_of x ∷ map field_of xs) (field_of x ∷ insert_key field_cmp (map field_of xs) (field_of k))
    by Less h = refl
    by Equal h = refl
    by Greater h = ap (λ fields. field_of x ∷ fields) h

-- each field has a token behind an insertion too
pub all_have : {T E : Type 0} (r : Result T E) (old new : List Key) (k : Key) → OnOk r (new ≡ insert_key key_cmp old k) → OnErr r (new ≡ old) → All HasToken old → HasToken k → All HasToken new
all_have (Ok added) old new k ok err all here = subst (All HasToken) (sym ok) (All-insert_key key_cmp k HasToken old all here)
all_have (Err e) old new k ok err all here = subst (All HasToken) (sym err) all

-- a field that has a token is put among the others
pub with_token : (old new : List Key) (k : Key) → HasToken k → new ≡ insert_key key_cmp old k → map field_of new ≡ with_field (map field_of old) (field_of k)
with_token old new k h e =
    let has : has_token (field_of k) ≡ true = grind (arith, h) in
    rw (e, inserted old k, has) refl

all_above : (k : Key) (keys : List Key) → AllByRecursion (λ x. key_cmp k x ≡ Less) keys → AllByRecursion (λ f. field_cmp (field_of k) f ≡ Less) (map field_of keys)
all_above k [] h = tt
all_above k (x ∷ keys) h = (h.0, all_above k keys h.1)

-- the fields of keys in order are in order
pub fields_in_order : (keys : List Key) → IsStrictlySortedBy key_cmp keys → IsStrictlySortedBy field_cmp (map field_of keys)
unfolding IsStrictlySortedBy
fields_in_order [] h = tt
fields_in_order (k ∷ keys) h = (all_above k keys h.0, fields_in_order keys h.1)
