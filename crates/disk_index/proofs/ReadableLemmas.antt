-- Where a block or the places of a term were told, the block can be read.
use Rattle.std.proofs.Common.{◌≡◌, ◌/◌, ℕ, List, [], Option, None, Some, Result, IfOk, is_some, false, inl, inr}
use Rattle.std.specs.Option.{MatchOption}
use Rattle.std.proofs.lemmas.Result.{IfOk-weaker}
use Rattle.store_ends.specs.Files.{Files}
use Rattle.seg_codec.specs.declared.blocks.BlockEntry.{BlockEntry}
use Rattle.seg_codec.specs.declared.dictionary.BlockPlace.{BlockPlace}
use Rattle.seg_codec.specs.declared.documents.Entry.{Entry}
use Rattle.disk_index.specs.Cache.{Cached}
use Rattle.disk_index.specs.Faults.{CameFrom, IsReadable, IsTermReadable}
use Rattle.disk_index.specs.Kept.{Kept, key_of, place_of}
use Rattle.disk_index.specs.Parts.{ArePlacesOf, InMemory, IsReadableOf, OnDisk, Source}
use Rattle.disk_index.specs.declared.cache.BlockKey.{BlockKey}

came-readable : (told : Option Files) (cached : Cached) (docs : List Entry) (key : BlockKey) (es : List BlockEntry) → CameFrom told cached docs key es → IsReadable told cached key
came-readable told cached docs key es came = record {
  entries = es;
  here = elim came [ inl kept ↦ inl kept | inr read ↦ inr (λ files is. record { bytes = read.bytes files is; docs = docs; fit = read.fit }) ];
}

block-readable : (told : Option Files) (cached : Cached) (docs : List Entry) (number range : ℕ) (place : Option BlockPlace) (es : List BlockEntry)
    → MatchOption place (es ≡ []) (λ p. CameFrom told cached docs (key_of number range p) es) → MatchOption place (Unit {0}) (λ p. IsReadable told cached (key_of number range p))
block-readable told cached docs number range None es block = tt
block-readable told cached docs number range (Some p) es block = came-readable told cached docs (key_of number range p) es block

pub IsReadableOf-places : (told : Option Files) (cached : Cached) (p : Source) (term : List ℕ) (id : ℕ) (ps : List ℕ) → ArePlacesOf told cached p term id ps → IsReadableOf told cached p term id
IsReadableOf-places told cached (InMemory docs) term id ps are = tt
IsReadableOf-places told cached (OnDisk kept) term id ps are =
    block-readable told cached kept.outlines kept.number (id / 64) (place_of kept.dictionary term (id / 64)) are.entries are.block

-- the block that a call answers for a place in the dictionary
answer-readable : {E : Type 0} (told : Option Files) (cached : Cached) (docs : List Entry) (number range : ℕ) (place : Option BlockPlace) (r : Result (List BlockEntry) E)
    → MatchOption place (IfOk r (λ es. es ≡ [])) (λ p. IfOk r (CameFrom told cached docs (key_of number range p)))
    → IfOk r (λ _. MatchOption place (Unit {0}) (λ p. IsReadable told cached (key_of number range p)))
answer-readable told cached docs number range None r origin = IfOk-weaker r _ _ (λ es empty. tt) origin
answer-readable told cached docs number range (Some p) r origin = IfOk-weaker r _ _ (λ es came. came-readable told cached docs (key_of number range p) es came) origin

pub IsTermReadable-origin : {E : Type 0} (told : Option Files) (cached : Cached) (kept : Kept) (term : List ℕ) (range : ℕ) (r : Result (List BlockEntry) E)
    → MatchOption (place_of kept.dictionary term range) (IfOk r (λ es. es ≡ [])) (λ p. IfOk r (CameFrom told cached kept.outlines (key_of kept.number range p)))
    → IfOk r (λ _. IsTermReadable told cached kept term range)
IsTermReadable-origin told cached kept term range r origin = answer-readable told cached kept.outlines kept.number range (place_of kept.dictionary term range) r origin

-- where the dictionary has no block
pub IsTermReadable-none : (told : Option Files) (cached : Cached) (kept : Kept) (term : List ℕ) (range : ℕ) → is_some (place_of kept.dictionary term range) ≡ false → IsTermReadable told cached kept term range
IsTermReadable-none told cached kept term range none = by (place_of kept.dictionary term range) none
  where
    by : (place : Option BlockPlace) → is_some place ≡ false → MatchOption place (Unit {0}) (λ p. IsReadable told cached (key_of kept.number range p))
    by None is = tt
    by (Some p) is = absurd cc
