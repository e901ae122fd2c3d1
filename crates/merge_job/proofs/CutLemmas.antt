-- Parts that are cut as stated stay so where a document is put behind the others.
use Rattle.std.proofs.Common.{◌≤◌, ℕ, List, [], ◌∷◌, ◌++◌, length, refl, sym, subst, arith, length-append}
use Rattle.std.specs.Str.{bytes_eq}
use Rattle.std.proofs.lemmas.List.{length_push, length-map}
use Rattle.std.proofs.lemmas.Map.Made.{distinct_count-le}
use Rattle.ri_base.specs.Collection.{field_names, name_count, names_of}
use Rattle.ri_base.specs.Documents.{Document, Field}
use Rattle.ri_base.specs.declared.limits.TheConstants.{MAX_DOC_FIELDS, MAX_PART_NAMES}
use Rattle.merge_job.specs.Cut.{AreCopies, AreCut, Ends, IsPart, Takes}

-- a document alone has few enough names
pub names-alone : (d : Document) → length d.fields ≤ MAX_DOC_FIELDS → name_count (d ∷ []) ≤ MAX_PART_NAMES
names-alone d few =
    let most = distinct_count-le bytes_eq (field_names (d ∷ [])) in
    omega (arith, most, few, length-append (names_of d.fields) [], length-map d.fields (λ (f : Field). f.name))

Ends-more : (most : ℕ) (docs : List Document) (xs : List (List Document)) (y : List Document) (zs : List (List Document)) → Ends most docs (xs ++ y ∷ []) → Ends most docs ((xs ++ y ∷ []) ++ zs)
Ends-more most docs [] [] zs ends = absurd ends
Ends-more most docs [] (d ∷ ds) zs ends = ends
Ends-more most docs ([] ∷ xs) y zs ends = absurd ends
Ends-more most docs ((d ∷ ds) ∷ xs) y zs ends = ends

AreCut-push : (most : ℕ) (ps : List (List Document)) (l : List Document) (d : Document) → AreCut most (ps ++ l ∷ []) → (Takes most l d → ⊥) → IsPart most (d ∷ []) → AreCut most ((ps ++ l ∷ []) ++ (d ∷ []) ∷ [])
AreCut-push most [] l d cut full part = (cut.0, full, (part, tt, tt))
AreCut-push most (p ∷ ps) l d cut full part = (cut.0, Ends-more most p ps l ((d ∷ []) ∷ []) cut.1, AreCut-push most ps l d cut.2 full part)

Ends-grow : (most : ℕ) (docs : List Document) (ps : List (List Document)) (x : Document) (l m : List Document) → Ends most docs (ps ++ (x ∷ l) ∷ []) → Ends most docs (ps ++ (x ∷ m) ∷ [])
Ends-grow most docs [] x l m ends = ends
Ends-grow most docs ([] ∷ ps) x l m ends = ends
Ends-grow most docs ((d ∷ ds) ∷ ps) x l m ends = ends

IsPart-grow : (most : ℕ) (docs : List Document) (d : Document) → Takes most docs d → IsPart most (docs ++ d ∷ [])
IsPart-grow most docs d takes =
    let n = length_push docs d in
    (omega (arith, n), (let t = takes.0 in omega (arith, n, t)), takes.1)

AreCut-grow : (most : ℕ) (ps : List (List Document)) (x : Document) (l : List Document) (d : Document) → AreCut most (ps ++ (x ∷ l) ∷ []) → Takes most (x ∷ l) d → AreCut most (ps ++ (x ∷ (l ++ d ∷ [])) ∷ [])
AreCut-grow most [] x l d cut takes = (IsPart-grow most (x ∷ l) d takes, tt, tt)
AreCut-grow most (p ∷ ps) x l d cut takes = (cut.0, Ends-grow most p ps x l (l ++ d ∷ []) cut.1, AreCut-grow most ps x l d cut.2 takes)

pub AreCopies-fill : (most : ℕ) (parts : List (List Document)) (filling : List Document) (d : Document) → AreCopies most parts filling → Takes most filling d → AreCopies most parts (filling ++ d ∷ [])
AreCopies-fill most parts [] d c takes = record {
  some = c.some;
  small = c.small;
  none = λ e. cc;
  cut = λ _. subst (λ (ps : List (List Document)). AreCut most (ps ++ (d ∷ []) ∷ [])) (sym (c.none refl)) (IsPart-grow most [] d takes, tt, tt);
}
AreCopies-fill most parts (x ∷ l) d c takes = record { some = c.some; small = c.small; none = λ e. cc; cut = λ _. AreCut-grow most parts x l d (c.cut (omega arith)) takes }

pub AreCopies-cut : (most : ℕ) (parts : List (List Document)) (filling : List Document) (d : Document) → AreCopies most parts filling → (Takes most filling d → ⊥) → name_count (d ∷ []) ≤ MAX_PART_NAMES
    → AreCopies most (parts ++ filling ∷ []) (d ∷ [])
AreCopies-cut most parts [] d c full named = absurd (full (let s = c.some in omega (arith, s), named))
AreCopies-cut most parts (x ∷ l) d c full named =
    let one : IsPart most (d ∷ []) = (omega arith, (let s = c.some in omega (arith, s)), named) in
    record { some = c.some; small = c.small; none = λ e. cc; cut = λ _. AreCut-push most parts (x ∷ l) d (c.cut (omega arith)) full one }
