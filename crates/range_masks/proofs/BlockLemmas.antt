-- The block of a term for a range, and which documents have it.
use Rattle.std.proofs.Common.{◌≡◌, ◌≢◌, ◌<◌, ◌≤◌, ℕ, zero, suc, ◌+◌, ◌-◌, ◌*◌, ◌/◌, ◌%◌, ◌==◌, Bool, true, false, ◌||◌, cond, List, [], ◌∷◌, ◌++◌, length, take, drop, Option, None, Some, is_some, refl, sym, ap, subst, ◌∙◌, arith}
use Rattle.std.specs.Int.{bit_at}
use Rattle.std.specs.List.{list_any}
use Rattle.std.specs.Option.{option_map}
use Rattle.std.proofs.lemmas.List.{length-take}
use Rattle.std.proofs.lemmas.Nat.Bits.{bit_at-zero}
use Rattle.ri_base.specs.Collection.{document_at}
use Rattle.ri_base.specs.Documents.{Document}
use Rattle.ri_base.specs.Places.{places}
use Rattle.seg_codec.specs.declared.blocks.BlockEntry.{BlockEntry}
use Rattle.seg_codec.specs.declared.dictionary.BlockPlace.{BlockPlace}
use Rattle.store_ends.specs.Files.{Files}
use Rattle.disk_index.specs.Blocks.{block_of, entries_from, entry_of_places}
use Rattle.disk_index.specs.Kept.{Kept, key_of, place_of}
use Rattle.disk_index.specs.Reads.{IsBacked}
use Rattle.disk_index.proofs.EntryLemmas.{document_at-range}
use Rattle.disk_index.proofs.KeyLemmas.{unkeyed}
use Rattle.range_masks.specs.Masks.{IsMask}
use Rattle.range_masks.specs.May.{has_term}
use Rattle.range_masks.proofs.PostingLemmas.{no_place, past, same_test, some, some_place}

-- some entry has this id
abbrev has : ℕ → List BlockEntry → Bool
has id es = list_any (λ e. e.id == id) es

-- ---- which ids entries have

-- the entry of another document, or of this one, at the front
has-other : (id i : ℕ) (xs : List ℕ) (es : List BlockEntry) → i ≢ id → has id (entry_of_places i xs ++ es) ≡ has id es
has-other id i [] es differ = refl
has-other id i (x ∷ xs) es differ = let test : (i == id) ≡ false = grind arith in ap (λ b. b || has id es) test

has-own : (id : ℕ) (xs : List ℕ) (es : List BlockEntry) → has id es ≡ false → has id (entry_of_places id xs ++ es) ≡ some xs
has-own id [] es none = none
has-own id (x ∷ xs) es none = let test : (id == id) ≡ true = grind arith in ap (λ b. b || has id es) test

later : (i id : ℕ) (t : List ℕ) (docs : List Document) → id < i → has id (entries_from i t docs) ≡ false
later i id t [] h = refl
later i id t (d ∷ docs) h = has-other id i (places t d) (entries_from (i + 1) t docs) (λ e. omega (arith, e)) ∙ later (i + 1) id t docs (omega arith)

at_from : (i n id : ℕ) (t : List ℕ) (docs : List Document) → id ≡ i + n → has id (entries_from i t docs) ≡ some (places t (document_at docs n))
at_from i n id t [] e = sym (ap (λ d. some (places t d)) (past [] n (omega arith)) ∙ ap some (no_place t))
at_from i zero id t (d ∷ docs) e =
    let is : i ≡ id = omega arith in
    subst (λ k. has id (entry_of_places k (places t d) ++ entries_from (i + 1) t docs) ≡ some (places t d)) (sym is)
    (has-own id (places t d) (entries_from (i + 1) t docs) (later (i + 1) id t docs (omega arith)))
at_from i (suc n) id t (d ∷ docs) e =
    has-other id i (places t d) (entries_from (i + 1) t docs) (λ q. omega (arith, q)) ∙ at_from (i + 1) n id t docs (omega arith)

-- ---- ids counted within their range

same_entry : (range k i : ℕ) (xs : List ℕ) (es : List BlockEntry) → i < 64 → k / 64 ≡ range → list_any (λ e. e.id % 64 == i) es ≡ has (64 * range + i) es
    → list_any (λ e. e.id % 64 == i) (entry_of_places k xs ++ es) ≡ has (64 * range + i) (entry_of_places k xs ++ es)
same_entry range k i [] es small here rest = rest
same_entry range k i (x ∷ xs) es small here rest =
    ap (λ b. b || list_any (λ (e : BlockEntry). e.id % 64 == i) es) (same_test k range i small here) ∙ ap (λ b. (k == 64 * range + i) || b) rest

same_from : (range k i : ℕ) (t : List ℕ) (docs : List Document) → i < 64 → 64 * range ≤ k → k + length docs ≤ 64 * range + 64
    → list_any (λ e. e.id % 64 == i) (entries_from k t docs) ≡ has (64 * range + i) (entries_from k t docs)
same_from range k i t [] small low high = refl
same_from range k i t (d ∷ docs) small low high =
    let here : k / 64 ≡ range = omega (arith, low, high) in
    same_entry range k i (places t d) (entries_from (k + 1) t docs) small here (same_from range (k + 1) i t docs small (omega (arith, low)) (omega (arith, high)))

-- an entry of the block stands for each document of the range that has the term
pub has_block-term : (t : List ℕ) (range : ℕ) (docs : List Document) (i : ℕ) → i < 64 → list_any (λ e. e.id % 64 == i) (block_of t range docs) ≡ has_term t (document_at docs (64 * range + i))
unfolding block_of
has_block-term t range docs i small =
    let s = 64 * range in
    let front = take 64 (drop s docs) in
    let back : s + i - s ≡ i = omega arith in
    let there : document_at front i ≡ document_at docs (s + i) = sym (ap (document_at front) back) ∙ document_at-range s (s + i) docs (omega arith) (omega (arith, small)) in
    same_from range s i t front small (omega arith) (omega (arith, length-take 64 (drop s docs)))
    ∙ at_from s i (s + i) t front refl ∙ ap (λ d. some (places t d)) there ∙ some_place t (document_at docs (s + i))

-- ---- masks

pub IsMask-entries : (t : List ℕ) (range : ℕ) (docs : List Document) (es : List BlockEntry) (mask : ℕ) → es ≡ block_of t range docs
    → ((i : ℕ) → i < 64 → bit_at mask i ≡ cond (list_any (λ e. e.id % 64 == i) es) 1 0) → IsMask (has_term t) range docs mask
IsMask-entries t range docs es mask is bits = record {
  bits = λ i small.
      bits i small ∙ ap (λ b. cond b 1 0) (ap (list_any (λ (e : BlockEntry). e.id % 64 == i)) is ∙ has_block-term t range docs i small);
}

-- where the dictionary has no block of the term for the range, no document there has it
pub IsMask-no_block : (told : Option Files) (kept : Kept) (t : List ℕ) (range : ℕ) (docs : List Document) → IsBacked told kept docs → is_some (place_of kept.dictionary t range) ≡ false
    → IsMask (has_term t) range docs 0
IsMask-no_block told kept t range docs b none =
    IsMask-entries t range docs [] 0 (unkeyed told kept docs t range (by (place_of kept.dictionary t range) none) b) (λ i small. bit_at-zero i)
  where
    by : (o : Option BlockPlace) → is_some o ≡ false → option_map (key_of kept.number range) o ≡ None
    by None e = refl
    by (Some p) e = absurd cc
