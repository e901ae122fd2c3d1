-- A cache that is backed stays so.
use Rattle.std.proofs.Common.{◌≡◌, ◌<◌, ◌^◌, ℕ, List, length, map, drop, take, Option, Some, inl, inr, refl, ap, subst, sym, ◌∙◌}
use Rattle.std.proofs.lemmas.List.Elements.{All-contains}
use Rattle.ri_base.specs.Documents.{Document}
use Rattle.ri_base.specs.Vocabulary.{vocabulary_of}
use Rattle.store_ends.specs.Files.{File, Files, whole}
use Rattle.seg_codec.specs.Fits.{FitBlock}
use Rattle.seg_codec.specs.Part.{IsPart}
use Rattle.seg_codec.specs.Segment.{blocks_at, entry_of, index, segment}
use Rattle.seg_codec.specs.declared.dictionary.BlockPlace.{BlockPlace}
use Rattle.seg_codec.specs.declared.documents.Entry.{Entry}
use Rattle.disk_index.specs.Blocks.{block_of}
use Rattle.disk_index.specs.Cache.{CacheKeeps, Cached, FitsSegment, IsBlockOf, IsCacheBacked, KeptBlock}
use Rattle.disk_index.specs.Kept.{Kept, kept_of, place_of}
use Rattle.disk_index.specs.Names.{segment_name}
use Rattle.disk_index.specs.Parts.{InMemory, IsFileOf, IsPartBacked, OnDisk, Source}
use Rattle.disk_index.specs.Reads.{HasSegment, IsBacked, ShowsDamage}
use Rattle.disk_index.specs.Snapshots.{AreBacked, IsFileAmong, Marked}
use Rattle.disk_index.proofs.KeyLemmas.{place-stands}
use Rattle.disk_index.proofs.OpeningLaws.{entries-same}
use Rattle.disk_index.proofs.SameBlock.{same_block}
use Rattle.disk_index.proofs.SegmentLaws.{StandsAt, segment-laid}

some_is : (f g : Files) → Some f ≡ Some g → f ≡ g
some_is f g e = cc

put_is : (a b : List ℕ) → Some a ≡ Some b → a ≡ b
put_is a b e = cc

-- the segments of one file are the same
one-segment : (told : Option Files) (number : ℕ) (a b : List Document) → HasSegment told number a → HasSegment told number b → map entry_of a ≡ map entry_of b
one-segment told number a b s t =
    let files : s.files ≡ t.files = some_is s.files t.files (sym s.is_told ∙ t.is_told) in
    let same : segment a ≡ segment b = put_is (segment a) (segment b) (sym s.file ∙ ap (λ (f : Files). (f (segment_name number)).put) files ∙ t.file) in
    entries-same a b s.part t.part s.small t.small same

kept-outlines : (number : ℕ) (docs : List Document) → (kept_of number docs).outlines ≡ map entry_of docs
unfolding kept_of
kept-outlines number docs = refl

-- a block of the documents of a backed part fits the segment that was put in its file
block-fits : (told : Option Files) (kept : Kept) (docs : List Document) → IsBacked told kept docs → (e : KeptBlock) → IsBlockOf kept e → FitsSegment told e
block-fits told kept docs b e own = λ ds s.
    let there : HasSegment told kept.number ds = subst (λ n. HasSegment told n ds) own.0 s in
    let outlines : kept.outlines ≡ map entry_of ds = ap (λ (k : Kept). k.outlines) b.same ∙ kept-outlines kept.number docs ∙ one-segment told kept.number docs ds b.has there in
    subst (λ (os : List Entry). FitBlock os e.0.range e.1) outlines own.1

source-fits : (told : Option Files) (p : Source) → IsPartBacked told p → (e : KeptBlock) → IsFileOf p e → FitsSegment told e
source-fits told (InMemory docs) b e own = absurd own
source-fits told (OnDisk kept) b e own = block-fits told kept b.0 b.1 e own

kept-backed : (told : Option Files) (IsOwn : KeptBlock → Type 0) (c d : Cached) → ((e : KeptBlock) → IsOwn e → FitsSegment told e) → CacheKeeps told IsOwn c d → IsCacheBacked told c → IsCacheBacked told d
kept-backed told IsOwn c d fits keeps backed files is e h = elim (keeps.each e h) [ inl was ↦ backed files is e was | inr new ↦ (new.1 files is, fits e new.0) ]

-- where blocks of a backed part were added
pub IsCacheBacked-kept : (told : Option Files) (p : Source) (c d : Cached) → IsPartBacked told p → CacheKeeps told (IsFileOf p) c d → IsCacheBacked told c → IsCacheBacked told d
IsCacheBacked-kept told p c d b keeps backed = kept-backed told (IsFileOf p) c d (source-fits told p b) keeps backed

pub IsCacheBacked-block : (told : Option Files) (kept : Kept) (docs : List Document) (c d : Cached) → IsBacked told kept docs → CacheKeeps told (IsBlockOf kept) c d → IsCacheBacked told c → IsCacheBacked told d
IsCacheBacked-block told kept docs c d b keeps backed = kept-backed told (IsBlockOf kept) c d (block-fits told kept docs b) keeps backed

-- of several parts
pub IsCacheBacked-among : (told : Option Files) (parts : List Marked) (c d : Cached) → AreBacked told parts → CacheKeeps told (IsFileAmong parts) c d → IsCacheBacked told c → IsCacheBacked told d
IsCacheBacked-among told parts c d b keeps backed =
    kept-backed told (IsFileAmong parts) c d (λ e own. source-fits told own.0.source (All-contains (λ (m : Marked). IsPartBacked told m.source) parts own.0 b own.1) e own.2) keeps backed

-- ---- a file that is read as it was put

-- each block stands in the segment where its dictionary says
index-stands : (docs : List Document) → IsPart docs → (t : List ℕ) (r : ℕ) → StandsAt (segment docs) (map entry_of docs) r (place_of (index (blocks_at docs) (vocabulary_of docs) docs) t r) (block_of t r docs)
unfolding kept_of
index-stands docs part t r = place-stands (segment docs) (kept_of 0 docs) docs t r (segment-laid 0 docs part)

-- damage of a file that has none shows
pub whole-shows : (docs : List Document) → IsPart docs → ShowsDamage docs (Some (segment docs))
whole-shows docs part = record {
  bytes = segment docs;
  there = refl;
  size = refl;
  front = refl;
  each = λ t r p es place fit is.
      let here = subst (λ (o : Option BlockPlace). StandsAt (segment docs) (map entry_of docs) r o (block_of t r docs)) place (index-stands docs part t r) in
      same_block (take p.length (drop p.place (segment docs))) r es (block_of t r docs) (map entry_of docs) (map entry_of docs) is fit here.bytes here.fit;
}

-- so the segment that was put has its documents
pub put-segment : (told : Option Files) (files : Files) (number : ℕ) (docs : List Document) → told ≡ Some files → files (segment_name number) ≡ whole (Some (segment docs)) → IsPart docs → length (segment docs) < 2 ^ 64
    → HasSegment told number docs
put-segment told files number docs is there part small = record {
  files = files;
  is_told = is;
  file = ap (λ (f : File). f.put) there;
  part = part;
  small = small;
  shows = subst (λ (o : Option (List ℕ)). ShowsDamage docs o) (sym (ap (λ (f : File). f.read) there)) (whole-shows docs part);
}
