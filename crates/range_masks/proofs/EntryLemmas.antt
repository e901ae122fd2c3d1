-- Entries of documents: places that rise, and the entries of a block.
use Rattle.std.proofs.Common.{◌≡◌, ◌<◌, ◌≤◌, ℕ, zero, suc, ◌+◌, ◌-◌, ◌*◌, ◌==◌, ◌⊎◌, List, [], ◌∷◌, ◌++◌, length, map, take, drop, get_or, Bool, true, false, ltb, Option, Some, None, inl, inr, refl, sym, ap, subst, ◌∙◌, arith, length-drop}
use Rattle.std.specs.List.{All, IsAllAdjacentAnswer, find}
use Rattle.std.specs.List.Sorted.{IsStrictlyIncreasing}
use Rattle.std.specs.Option.{option_map_or}
use Rattle.std.proofs.lemmas.Bool.{cases_lt, eqb-true, lt-ltb, ltb-true}
use Rattle.std.proofs.lemmas.List.{get_or_default, length-map, length-take}
use Rattle.std.proofs.lemmas.List.Elements.{All-cons, All-nil}
use Rattle.std.proofs.lemmas.List.Kept.{AllPairs-from_increasing}
use Rattle.ri_base.specs.Collection.{document_at}
use Rattle.ri_base.specs.Documents.{Document}
use Rattle.ri_base.specs.Places.{places}
use Rattle.ri_base.proofs.PlacesLemmas.{places-below, places-rise}
use Rattle.seg_codec.specs.Blocks.{tokens_of}
use Rattle.seg_codec.specs.Segment.{entry_of}
use Rattle.seg_codec.specs.declared.blocks.BlockEntry.{BlockEntry}
use Rattle.seg_codec.specs.declared.documents.Entry.{Entry}
use Rattle.store_ends.specs.Files.{Files}
use Rattle.disk_index.specs.Blocks.{block_of, entries_from, entry_of_places, places_of}
use Rattle.disk_index.specs.Faults.{ArePlacesIn}
use Rattle.disk_index.specs.Kept.{Kept, kept_of}
use Rattle.disk_index.specs.Parts.{Source, outlines_of, reads}
use Rattle.disk_index.specs.Reads.{IsBacked}
use Rattle.disk_index.proofs.AlikeLemmas.{outlines-reads}
use Rattle.disk_index.proofs.EntryLemmas.{document_at-range}
use Rattle.disk_index.proofs.LookupLemmas.{find-has}
use Rattle.range_masks.specs.Held.{IsEntryOf}

-- ---- places that rise, the last of them below a number

pub no-places : (size : ℕ) → ArePlacesIn size []
no-places size = record { rising = λ k inside. absurd (omega (arith, inside)); below = All-nil (λ p. p < size) }

-- where each is below the next, or some isn't
pub told-yes : (ps : List ℕ) (b : Bool) → IsAllAdjacentAnswer (λ x y b. b ≡ ltb x y) ps b → b ≡ true → IsStrictlyIncreasing ps
told-yes ps true all e k inside = ltb-true (get_or ps k 0) (get_or ps (k + 1) 0) (sym (all k 0 inside))
told-yes ps false some e k inside = absurd cc

pub told-no : (ps : List ℕ) (b : Bool) → IsAllAdjacentAnswer (λ x y b. b ≡ ltb x y) ps b → IsStrictlyIncreasing ps → b ≡ true
told-no ps true all rising = refl
told-no ps false some rising =
    let yes : ltb (get_or ps some.0 0) (get_or ps (some.0 + 1) 0) ≡ true = lt-ltb (get_or ps some.0 0) (get_or ps (some.0 + 1) 0) (rising some.0 some.1) in
    let no = some.2 0 in
    absurd cc

pub rise-below : (ps : List ℕ) (last size : ℕ) → IsStrictlyIncreasing ps → last ≡ get_or ps (length ps - 1) last → last < size → ArePlacesIn size ps
rise-below ps last size rising is low = record { rising = rising; below = λ k d inside. by k d inside (cases_lt k (length ps - 1)) }
  where
    by : (k d : ℕ) → k < length ps → (k < length ps - 1) ⊎ (length ps - 1 ≤ k) → get_or ps k d < size
    by k d inside (inl before) =
        let less : get_or ps k d < get_or ps (length ps - 1) d = AllPairs-from_increasing ps rising k (length ps - 1) d before (omega (arith, inside)) in
        let same : get_or ps (length ps - 1) d ≡ last = get_or_default ps (length ps - 1) d last (omega (arith, inside)) ∙ sym is in
        omega (arith, less, same, low)
    by k d inside (inr end) =
        let at : k ≡ length ps - 1 = omega (arith, inside, end) in
        let same : get_or ps k d ≡ last = ap (λ n. get_or ps n d) at ∙ get_or_default ps (length ps - 1) d last (omega (arith, inside)) ∙ sym is in
        omega (arith, same, low)

-- the last of places in a document lies in it
pub last-below : (ps : List ℕ) (last size : ℕ) → 0 < length ps → last ≡ get_or ps (length ps - 1) last → ArePlacesIn size ps → last < size
last-below ps last size some is are = subst (λ n. n < size) (sym is) (are.below (length ps - 1) last (omega (arith, some)))

-- ---- how long a document is

document_at-tokens : (docs : List Document) (id : ℕ) → tokens_of (map entry_of docs) id ≡ length (document_at docs id).tokens
document_at-tokens [] id = refl
document_at-tokens (d ∷ docs) zero = refl
document_at-tokens (d ∷ docs) (suc id) = document_at-tokens docs id

pub tokens-read : (told : Option Files) (p : Source) (id : ℕ) → tokens_of (outlines_of p) id ≡ length (document_at (reads told p) id).tokens
tokens-read told p id = ap (λ (os : List Entry). tokens_of os id) (sym (outlines-reads told p)) ∙ document_at-tokens (reads told p) id

-- ---- the places of one document among entries

pub places-among : (outlines : List Entry) (id : ℕ) (es : List BlockEntry) → All (IsEntryOf outlines) es → ArePlacesIn (tokens_of outlines id) (places_of id es)
places-among outlines id es all = by (find (λ e. e.id == id) es) (λ e is. find-has (IsEntryOf outlines) (λ e. e.id == id) es e all is)
  where
    by : (o : Option BlockEntry) → ((e : BlockEntry) → o ≡ Some e → IsEntryOf outlines e × ((e.id == id) ≡ true)) → ArePlacesIn (tokens_of outlines id) (option_map_or (λ (e : BlockEntry). e.positions) o [])
    by None is = no-places (tokens_of outlines id)
    by (Some e) is = let here = is e refl in subst (λ n. ArePlacesIn (tokens_of outlines n) e.positions) (eqb-true e.id id here.1) here.0.places

-- ---- the entries of a block of documents

module _ (outlines : List Entry) (t : List ℕ) where
  -- each of these documents stands there, from an id on
  record StandFrom (i : ℕ) (docs : List Document) : Type 0 where
    inside : (k : ℕ) → k < length docs → i + k < length outlines
    tokens : (k : ℕ) → k < length docs → tokens_of outlines (i + k) ≡ length (document_at docs k).tokens

  entry-of : (i : ℕ) (d : Document) (ps : List ℕ) (es : List BlockEntry) → i < length outlines → ArePlacesIn (tokens_of outlines i) ps → All (IsEntryOf outlines) es → All (IsEntryOf outlines) (entry_of_places i ps ++ es)
  entry-of i d [] es inside are rest = rest
  entry-of i d (p ∷ ps) es inside are rest = All-cons (IsEntryOf outlines) (record { id = i; positions = p ∷ ps }) es (record { inside = inside; places = are }) rest

  entries-of : (i : ℕ) (docs : List Document) → StandFrom i docs → All (IsEntryOf outlines) (entries_from i t docs)
  entries-of i [] stand = All-nil (IsEntryOf outlines)
  entries-of i (d ∷ docs) stand =
      let here : i + 0 ≡ i = omega arith in
      let long : tokens_of outlines i ≡ length d.tokens = ap (tokens_of outlines) (sym here) ∙ stand.tokens 0 (omega arith) in
      let are : ArePlacesIn (tokens_of outlines i) (places t d) = subst (λ n. ArePlacesIn n (places t d)) (sym long) (record { rising = places-rise t d; below = places-below t d }) in
      entry-of i d (places t d) (entries_from (i + 1) t docs) (subst (λ n. n < length outlines) here (stand.inside 0 (omega arith))) are
      (entries-of (i + 1) docs (record {
        inside = λ k low. subst (λ n. n < length outlines) (omega arith) (stand.inside (suc k) (omega (arith, low)));
        tokens = λ k low. ap (tokens_of outlines) (omega arith) ∙ stand.tokens (suc k) (omega (arith, low));
      }))

pub block-entries : (t : List ℕ) (range : ℕ) (docs : List Document) → All (IsEntryOf (map entry_of docs)) (block_of t range docs)
unfolding block_of
block-entries t range docs =
    let s = 64 * range in
    let front = take 64 (drop s docs) in
    entries-of (map entry_of docs) t s front (record {
      inside = λ k low. omega (arith, low, length-take 64 (drop s docs), length-drop s docs, length-map docs entry_of);
      tokens = λ k low.
          let back : s + k - s ≡ k = omega arith in
          document_at-tokens docs (s + k) ∙ ap (λ (d : Document). length d.tokens) (sym (sym (ap (document_at front) back) ∙ document_at-range s (s + k) docs (omega arith) (omega (arith, low, length-take 64 (drop s docs)))));
    })

outlines-kept : (told : Option Files) (kept : Kept) (docs : List Document) → IsBacked told kept docs → kept.outlines ≡ map entry_of docs
unfolding kept_of
outlines-kept told kept docs b = ap (λ (k : Kept). k.outlines) b.same

-- of a backed part the block of a term has entries of its documents alone
pub backed-entries : (told : Option Files) (kept : Kept) (docs : List Document) (t : List ℕ) (range : ℕ) → IsBacked told kept docs → All (IsEntryOf kept.outlines) (block_of t range docs)
backed-entries told kept docs t range b =
    subst (λ (os : List Entry). All (IsEntryOf os) (block_of t range docs)) (sym (outlines-kept told kept docs b)) (block-entries t range docs)
