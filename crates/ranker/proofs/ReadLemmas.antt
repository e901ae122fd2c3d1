-- The blocks that a reader of a part is lent.
use Rattle.std.proofs.Common.{◌≡◌, ◌≤◌, ◌<◌, ℕ, ◌+◌, nat_lt, if◌then◌else◌, Bool, true, false, List, Option, get_or, length, refl, sym, subst, arith}
use Rattle.std.proofs.lemmas.Bool.Decides.{nat_tests}
use Rattle.ri_base.specs.Documents.{Document}
use Rattle.store_ends.specs.Files.{Files}
use Rattle.disk_index.specs.Cache.{Cached, IsCacheBacked, KeptBlock}
use Rattle.disk_index.specs.Parts.{IsFileOf, IsPartBacked, IsPartIntact, Source, outlines_of, reads}
use Rattle.disk_index.specs.QuietLaws.{CacheKeeps-after, CacheKeeps-same, IsQuiet-same, IsQuiet-then}
use Rattle.disk_index.specs.Snapshots.{AreBacked, IsFileAmong, Marked}
use Rattle.disk_index.proofs.AmongLemmas.{backed-at, blocks-among, docs-of, intact-of, sound-of}
use Rattle.range_masks.specs.Held.{AreAnswersOf, FitDocuments, Held}
use Rattle.ranker.specs.Blocks.{AreReadAt, AreReadBy}
use Rattle.ranker.specs.Passed.{behind, nothing_known, part_at}
use Rattle.ranker.specs.Reading.{OnlyReads}
use Rattle.ranker.specs.Searches.{told_by}
use Rattle.ranker.specs.declared.place.Passed.{Passed}
use Rattle.ranker.specs.declared.place.Place.{Place}
use Rattle.ranker.specs.declared.search.Search.{Search}

-- they are of the same part
pub fits-part : (source own : Source) (held : Held) → own ≡ source → FitDocuments (outlines_of source) held → FitDocuments (outlines_of own) held
fits-part source own held same fits = subst (λ (p : Source). FitDocuments (outlines_of p) held) (sym same) fits

-- a reader is sound where what it is lent is so
pub sound-by : (told here : Option Files) (source own : Source) (cached kept : Cached) (was held : Held) → here ≡ told → own ≡ source → kept ≡ cached → held ≡ was → IsPartBacked told source
    → AreReadBy told (reads told source) cached was → IsPartBacked here own × IsCacheBacked here kept × AreAnswersOf (reads here own) held
sound-by told here source own cached kept was held same_told same_part same_cache same_held part read =
    let base = sound-of told here source own cached kept same_told same_part same_cache part read.cache in
    let docs = docs-of told here source own same_told same_part in
    (base.0, base.1, subst (λ (ds : List Document). AreAnswersOf ds held) (sym docs) (subst (AreAnswersOf (reads told source)) (sym same_held) read.held))

-- the same where the file of its part is read as it was put
pub intact-by : (told here : Option Files) (source own : Source) (cached kept : Cached) (was held : Held) → here ≡ told → own ≡ source → kept ≡ cached → held ≡ was → IsPartIntact told source
    → AreReadBy told (reads told source) cached was → IsPartIntact here own × IsCacheBacked here kept × AreAnswersOf (reads here own) held
intact-by told here source own cached kept was held same_told same_part same_cache same_held part read =
    let base = intact-of told here source own cached kept same_told same_part same_cache part read.cache in
    let docs = docs-of told here source own same_told same_part in
    (base.0, base.1, subst (λ (ds : List Document). AreAnswersOf ds held) (sym docs) (subst (AreAnswersOf (reads told source)) (sym same_held) read.held))

-- and what it leaves is so by the same files
pub read-after : (told here : Option Files) (source own : Source) (kept : Cached) (held : Held) → here ≡ told → own ≡ source → IsCacheBacked here kept → AreAnswersOf (reads here own) held → AreReadBy told (reads told source) kept held
read-after told here source own kept held same_told same_part cache are = record {
  cache = subst (λ (f : Option Files). IsCacheBacked f kept) same_told cache;
  held = subst (λ (ds : List Document). AreAnswersOf ds held) (docs-of told here source own same_told same_part) are;
}

-- the blocks that a search keeps stay those of its part by other files, where its documents are the same
pub told-same : (s : Search) (told later : Option Files) → reads later (part_at s.snapshot s.at.part).source ≡ reads told (part_at s.snapshot s.at.part).source → told_by told s → told_by later s
told-same s told later same are = subst (λ (ds : List Document). AreAnswersOf ds s.blocks) (sym same) are

-- ---- from part to part

abbrev source_at : List Marked → Place → Source
source_at parts p = (part_at parts p.part).source

-- behind documents of a part
module _ (parts : List Marked) (at : Place) (to : Passed) (most : ℕ) (m : Marked) (is : part_at parts at.part ≡ m) (mid now : Held) (same : most ≤ to.docs → now ≡ mid) where
  pub fits-behind : (to.docs < most → (source : Source) → FitDocuments (outlines_of source) now) → FitDocuments (outlines_of m.source) mid → FitDocuments (outlines_of (part_at parts (behind at to most).part).source) now
  fits-behind none fits = by (nat_lt to.docs most) refl
    where
      by : (b : Bool) → nat_lt to.docs most ≡ b
          → FitDocuments (outlines_of (source_at parts (if b then record { part = at.part + 1; id = 0; credit = at.credit + to.docs; ahead = nothing_known } else record { part = at.part; id = to.id; credit = at.credit + to.docs; ahead = to.ahead }))) now
      by true e =
          let fewer : to.docs < most = grind (arith, nat_tests) in
          none fewer (part_at parts (at.part + 1)).source
      by false e =
          let all : most ≤ to.docs = grind (arith, nat_tests) in
          subst (λ (p : Marked). FitDocuments (outlines_of p.source) now) (sym is) (subst (FitDocuments (outlines_of m.source)) (sym (same all)) fits)

  pub read-behind : (told : Option Files) (kept : Cached) → (to.docs < most → (docs : List Document) → AreAnswersOf docs now) → AreReadBy told (reads told m.source) kept mid → AreReadAt told parts (behind at to most) kept now
  read-behind told kept none read = by (nat_lt to.docs most) refl
    where
      by : (b : Bool) → nat_lt to.docs most ≡ b
          → AreReadAt told parts (if b then record { part = at.part + 1; id = 0; credit = at.credit + to.docs; ahead = nothing_known } else record { part = at.part; id = to.id; credit = at.credit + to.docs; ahead = to.ahead }) kept now
      by true e =
          let fewer : to.docs < most = grind (arith, nat_tests) in
          record { cache = read.cache; held = none fewer (reads told (part_at parts (at.part + 1)).source) }
      by false e =
          let all : most ≤ to.docs = grind (arith, nat_tests) in
          record { cache = read.cache; held = subst (λ (p : Marked). AreAnswersOf (reads told p.source) now) (sym is) (subst (AreAnswersOf (reads told m.source)) (sym (same all)) read.held) }

-- what is read by a cache and by what is held is so by the same ones
pub read-moved : (told : Option Files) (docs : List Document) (c d : Cached) (was now : Held) → c ≡ d → was ≡ now → AreReadBy told docs c was → AreReadBy told docs d now
read-moved told docs c d was now same stay read = subst (λ (h : Held). AreReadBy told docs d h) stay (subst (λ (e : Cached). AreReadBy told docs e was) same read)

-- what is read in a part of the number of a place
pub read-at : (told : Option Files) (parts : List Marked) (at : Place) (m : Marked) (kept : Cached) (held : Held) → part_at parts at.part ≡ m → AreReadAt told parts at kept held → AreReadBy told (reads told m.source) kept held
read-at told parts at m kept held is read = subst (λ (p : Marked). AreReadBy told (reads told p.source) kept held) is read

-- ---- what reading leaves, over several calls

module _ {S : Type 0} (files : S → Option Files) (layers : S → Option (List Files)) (clock : S → ℕ) (since : S → ℕ → Files → Type 0) (longest : S → ℕ) (held : S → List ℕ) (faults : S → ℕ) where
  module _ (IsOwn : KeptBlock → Type 0) (AreOwn : Option Files → Type 0) where
    abbrev Reads : Source → Source → S → S → Cached → Cached → Held → Held → Type 0
    Reads p q s t c d was now = OnlyReads files layers clock since longest held faults IsOwn AreOwn p q s t c d was now

    pub reads-same : (p : Source) (s : S) (c : Cached) (was : Held) → FitDocuments (outlines_of p) was → Reads p p s s c c was was
    reads-same p s c was fits = record {
      quiet = IsQuiet-same files layers clock since longest held faults s;
      later = omega arith;
      cache = CacheKeeps-same (files s) IsOwn c;
      fits = fits;
      read = λ backed read. read;
    }

    -- what is read stays so by the files as they are now
    pub reads-blocks : (p q : Source) (s t : S) (c d : Cached) (was now : Held) → Reads p q s t c d was now → AreOwn (files s) → AreReadBy (files s) (reads (files s) p) c was → AreReadBy (files t) (reads (files t) q) d now
    reads-blocks p q s t c d was now h backed read = subst (λ (f : Option Files). AreReadBy f (reads f q) d now) (sym h.quiet.same_files) (h.read backed read)

    pub reads-then : (p q r : Source) (s t u : S) (c d e : Cached) (was mid now : Held) → Reads p q s t c d was mid → Reads q r t u d e mid now → Reads p r s u c e was now
    reads-then p q r s t u c d e was mid now first second =
        let same : files t ≡ files s = first.quiet.same_files in
        record {
          quiet = IsQuiet-then files layers clock since longest held faults s t u first.quiet second.quiet;
          later = let a = first.later in let b = second.later in omega (arith, a, b);
          cache = CacheKeeps-after (files s) (files t) IsOwn c d e same first.cache second.cache;
          fits = second.fits;
          read = λ backed read. subst (λ (f : Option Files). AreReadBy f (reads f r) e now) same (second.read (subst AreOwn (sym same) backed) (reads-blocks p q s t c d was mid first backed read));
        }

  -- a part among others
  module _ (parts : List Marked) (i : ℕ) (m : Marked) (inside : i < length parts) (at : m ≡ get_or parts i m) (is : part_at parts i ≡ m) where
    pub reads-among : (s t : S) (c d : Cached) (was now : Held) → OnlyReads files layers clock since longest held faults (IsFileOf m.source) (λ told. IsPartBacked told m.source) m.source m.source s t c d was now
        → OnlyReads files layers clock since longest held faults (IsFileAmong parts) (λ told. AreBacked told parts) (part_at parts i).source (part_at parts i).source s t c d was now
    reads-among s t c d was now h = record {
      quiet = h.quiet;
      later = h.later;
      cache = blocks-among parts i m inside at (files s) c d h.cache;
      fits = subst (λ (p : Marked). FitDocuments (outlines_of p.source) now) (sym is) h.fits;
      read = λ backed. subst (λ (p : Marked). AreReadBy (files s) (reads (files s) p.source) c was → AreReadBy (files s) (reads (files s) p.source) d now) (sym is) (h.read (backed-at parts i m inside at (files s) backed));
    }

  -- up to the place behind documents of its part
  module _ (parts : List Marked) (at : Place) (to : Passed) (most : ℕ) (mid now : Held) (same : most ≤ to.docs → now ≡ mid) where
    pub reads-behind : (s t : S) (c d : Cached) (was : Held) → (to.docs < most → (source : Source) → FitDocuments (outlines_of source) now) → (to.docs < most → (docs : List Document) → AreAnswersOf docs now)
        → OnlyReads files layers clock since longest held faults (IsFileAmong parts) (λ told. AreBacked told parts) (part_at parts at.part).source (part_at parts at.part).source s t c d was mid
        → OnlyReads files layers clock since longest held faults (IsFileAmong parts) (λ told. AreBacked told parts) (part_at parts at.part).source (part_at parts (behind at to most).part).source s t c d was now
    reads-behind s t c d was none answers h = record {
      quiet = h.quiet;
      later = h.later;
      cache = h.cache;
      fits = fits-behind parts at to most (part_at parts at.part) refl mid now same none h.fits;
      read = λ backed read. read-behind parts at to most (part_at parts at.part) refl mid now same (files s) d answers (h.read backed read);
    }
