-- Where a term stands nowhere in a range of documents.
use Rattle.std.proofs.Common.{◌≡◌, ◌≢◌, ◌⊎◌, ◌<◌, ◌≤◌, ◌+◌, ◌/◌, ◌==◌, ◌||◌, ltb, ℕ, Bool, true, false, cond, List, [], ◌∷◌, ◌++◌, length, get_or, map, Option, Some, None, is_some, refl, sym, ap, subst, ◌∙◌, inl, inr, arith}
use Rattle.std.specs.List.{list_any}
use Rattle.std.specs.Option.{option_map}
use Rattle.std.specs.List.Sorted.{IsNonDecreasingBy, IsPartitionPoint}
use Rattle.std.proofs.lemmas.List.{get_or_default}
use Rattle.ri_base.specs.Documents.{Document}
use Rattle.ri_base.specs.Places.{places, places_at, postings_from, postings_of}
use Rattle.ri_base.specs.Vocabulary.{Occurs}
use Rattle.ri_base.specs.declared.places.Place.{Place}
use Rattle.ri_base.proofs.PlacesLemmas.{none_from, places_at-postings}
use Rattle.seg_codec.specs.declared.dictionary.BlockPlace.{BlockPlace}
use Rattle.store_ends.specs.Files.{Files}
use Rattle.disk_index.specs.Blocks.{block_of, places_of}
use Rattle.disk_index.specs.Kept.{Kept, key_of, place_of}
use Rattle.disk_index.specs.Parts.{IsPartBacked, Source, InMemory, OnDisk, reads}
use Rattle.disk_index.specs.Presence.{IsNowhere, may_have}
use Rattle.disk_index.specs.Reads.{IsBacked}
use Rattle.disk_index.proofs.EntryLemmas.{places_of-block}
use Rattle.disk_index.proofs.KeyLemmas.{unkeyed}
use Rattle.disk_index.proofs.NextLemmas.{none-at, some-at}
use Rattle.disk_index.proofs.RebuiltLemmas.{reads-backed}

-- ---- postings

neither : (a b : Bool) → a || b ≡ false → (a ≡ false) × (b ≡ false)
neither true b h = absurd cc
neither false b h = (refl, h)

none-there : (range id : ℕ) (ps : List Place) → list_any (λ p. p.id / 64 == range) ps ≡ false → id / 64 ≡ range → places_at id ps ≡ []
none-there range id [] none here = refl
none-there range id (p ∷ ps) none here = by (p.id == id) refl (none-there range id ps both.1 here)
  where
    both : ((p.id / 64 == range) ≡ false) × (list_any (λ q. q.id / 64 == range) ps ≡ false)
    both = neither (p.id / 64 == range) (list_any (λ q. q.id / 64 == range) ps) none

    by : (b : Bool) → (p.id == id) ≡ b → places_at id ps ≡ [] → cond b (p.at ∷ places_at id ps) (places_at id ps) ≡ []
    by false e rest = rest
    by true e rest =
        let same : p.id ≡ id = grind (arith, e) in
        let yes : (p.id / 64 == range) ≡ true = grind (arith, same, here) in
        let no = both.0 in
        absurd cc

-- a term that no document has has no postings
none-from : (i : ℕ) (t : List ℕ) (docs : List Document) → (Occurs t docs → ⊥) → postings_from i t docs ≡ []
unfolding places
none-from i t [] none = refl
none-from i t (d ∷ docs) none =
    ap (λ (xs : List ℕ). map (λ p. record { id = i; at = p }) xs ++ postings_from (i + 1) t docs) (none_from 0 t d.tokens (λ c. none (inl c)))
    ∙ none-from (i + 1) t docs (λ o. none (inr o))

pub postings-absent : (t : List ℕ) (docs : List Document) → (Occurs t docs → ⊥) → postings_of t docs ≡ []
unfolding postings_of
postings-absent t docs none = none-from 0 t docs none

-- ---- a range

nowhere-on_disk : (told : Option Files) (kept : Kept) (range : ℕ) (t : List ℕ) (docs : List Document) → IsBacked told kept docs → is_some (place_of kept.dictionary t range) ≡ false → IsNowhere range t docs
nowhere-on_disk told kept range t docs b none = λ id here inside.
    let empty : [] ≡ block_of t range docs = unkeyed told kept docs t range (by (place_of kept.dictionary t range) none) b in
    sym (places_of-block t id docs inside) ∙ ap (λ r. places_of id (block_of t r docs)) here ∙ ap (places_of id) (sym empty)
  where
    by : (o : Option BlockPlace) → is_some o ≡ false → option_map (key_of kept.number range) o ≡ None
    by None e = refl
    by (Some p) e = absurd cc

pub nowhere : (told : Option Files) (source : Source) (range : ℕ) (t : List ℕ) → IsPartBacked told source → may_have source range t ≡ false → IsNowhere range t (reads told source)
nowhere told (InMemory docs) range t backed none = λ id here inside. sym (places_at-postings id t docs inside) ∙ none-there range id (postings_of t docs) none here
nowhere told (OnDisk kept) range t backed none =
    subst (IsNowhere range t) (sym (reads-backed told kept backed.0 backed.1)) (nowhere-on_disk told kept range t backed.0 backed.1 none)

-- ---- the first posting that is not before a range

-- postings by rising id are postings by rising range
pub postings-rise : (ps : List Place) → IsNonDecreasingBy (λ p. p.id) ps → IsNonDecreasingBy (λ p. p.id / 64) ps
postings-rise ps up i j d le inside = let h = up i j d le inside in omega (arith, h)

-- what a search for that posting answers
abbrev pub IsFirstFrom : ℕ → List Place → ℕ → Type 0
IsFirstFrom range ps first = IsPartitionPoint (λ p. ltb (p.id / 64) range ≡ true) (λ p. ltb (p.id / 64) range ≡ false) ps first

module _ (range : ℕ) (ps : List Place) (first : ℕ) (point : IsFirstFrom range ps first) where
  before : (k : ℕ) (d : Place) → k < first → (get_or ps k d).id / 64 ≡ range → ⊥
  before k d lt is = let less : (get_or ps k d).id / 64 < range = grind (arith, point.0 k d (omega arith) lt) in omega (arith, less, is)

  -- each is before the range
  pub all-before : length ps ≤ first → list_any (λ p. p.id / 64 == range) ps ≡ false
  all-before end = none-at (λ (p : Place). p.id / 64) range ps (λ k d inside. before k d (omega (arith, inside, end)))

  -- the first that isn't is in the range or behind it
  pub at-first : (d : Place) → IsNonDecreasingBy (λ p. p.id) ps → first < length ps → ((get_or ps first d).id / 64 == range) ≡ list_any (λ p. p.id / 64 == range) ps
  at-first d rises inside = by ((get_or ps first d).id / 64 == range) refl
    where
      by : (b : Bool) → ((get_or ps first d).id / 64 == range) ≡ b → b ≡ list_any (λ p. p.id / 64 == range) ps
      by true e = let is : (get_or ps first d).id / 64 ≡ range = grind (arith, e) in sym (some-at (λ (p : Place). p.id / 64) range ps first d inside is)
      by false e = sym (none-at (λ (p : Place). p.id / 64) range ps (λ k o within is. away k o within is))
        where
          away : (k : ℕ) (o : Place) → k < length ps → (get_or ps k o).id / 64 ≡ range → ⊥
          away k o within is =
              let from : range ≤ (get_or ps first d).id / 64 = grind (arith, point.1 first d (omega arith) inside) in
              let differ : (get_or ps first d).id / 64 ≢ range = grind (arith, e) in
              let same : get_or ps k o ≡ get_or ps k d = get_or_default ps k o d within in
              let low : (first ≤ k) ⊎ (k < first) = grind arith in
              elim low [
                | inl later ↦ (let up : (get_or ps first d).id ≤ (get_or ps k d).id = rises first k d later within in
                    let there : (get_or ps k d).id / 64 ≡ range = subst (λ (p : Place). p.id / 64 ≡ range) same is in
                    omega (arith, from, differ, up, there))
                | inr sooner ↦ before k o sooner is
              ]
