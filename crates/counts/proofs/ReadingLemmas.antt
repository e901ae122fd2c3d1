-- What reading leaves of a store and a cache, over several calls.
use Rattle.std.proofs.Common.{◌≡◌, ◌<◌, ◌≤◌, ◌+◌, ◌/◌, ◌++◌, ◌⊎◌, ◌∙◌, ℕ, List, [], ◌∷◌, Option, All, Contains, eq-or-lt_of_le, get_or, length, take, inl, inr, ap, sym, subst, arith}
use Rattle.std.proofs.lemmas.List.{take_more}
use Rattle.std.proofs.lemmas.List.Elements.{All-contains, All-push}
use Rattle.ri_base.specs.Expression.{ExprTree}
use Rattle.ri_base.specs.Faults.{IsOutside}
use Rattle.ri_base.specs.Keeps.{Rose}
use Rattle.ri_base.specs.declared.seg_fault.SegFault.{SegFault}
use Rattle.ri_base.specs.declared.seg_fault.SegFault.TheVariants.{Malformed, Missing, Store, Memory}
use Rattle.store_ends.specs.Files.{Files}
use Rattle.extent_lists.proofs.WordLemmas.{EachWord-weaker}
use Rattle.disk_index.specs.Cache.{Cached, IsCacheBacked, KeptBlock}
use Rattle.disk_index.specs.Parts.{IsFileOf, IsPartBacked, IsPartIntact, IsReadableOf, Source}
use Rattle.disk_index.specs.QuietLaws.{CacheKeeps-after, CacheKeeps-same, IsQuiet-same, IsQuiet-then, IsReadableIn-before}
use Rattle.disk_index.specs.Snapshots.{AreBacked, AreIntact, IsFileAmong, Marked}
use Rattle.disk_index.proofs.AmongLemmas.{AreIntact-backed, blocks-among}
use Rattle.disk_index.proofs.BackedLemmas.{IsCacheBacked-among, IsCacheBacked-kept}
use Rattle.counts.specs.Reading.{IsFaultOf, OnlyReads}
use Rattle.counts.specs.Told.{IsLiveTold}

-- a fault that came later came
pub rose-earlier : (before mid now : ℕ) → before ≤ mid → Rose mid now → Rose before now
rose-earlier before mid now first rose = omega (arith, first, rose)

-- one number more
pub below-next : (a b : ℕ) → a < b + 1 → a < b ⊎ (a ≡ b)
below-next a b less = let most : a ≤ b = omega (arith, less) in elim (eq-or-lt_of_le most) [ inl is ↦ inr is | inr below ↦ inl below ]

-- one part more
pub parts-more : (P : Marked → Type 0) (parts : List Marked) (i : ℕ) (m : Marked) → i < length parts → m ≡ get_or parts i m → P m → All P (take i parts) → All P (take (i + 1) parts)
parts-more P parts i m inside is own all = subst (All P) (sym (take_more parts i m inside ∙ ap (λ (y : Marked). take i parts ++ y ∷ []) (sym is))) (All-push P (take i parts) m all own)

module _ {S : Type 0} (files : S → Option Files) (layers : S → Option (List Files)) (clock : S → ℕ) (since : S → ℕ → Files → Type 0) (longest : S → ℕ) (held : S → List ℕ) (faults : S → ℕ) where
  module _ (IsOwn : KeptBlock → Type 0) where
    pub reads-same : (s : S) (c : Cached) → OnlyReads files layers clock since longest held faults IsOwn s s c c
    reads-same s c = record { quiet = IsQuiet-same files layers clock since longest held faults s; later = omega arith; cache = CacheKeeps-same (files s) IsOwn c }

    pub reads-then : (s t u : S) (c d e : Cached) → OnlyReads files layers clock since longest held faults IsOwn s t c d → OnlyReads files layers clock since longest held faults IsOwn t u d e
        → OnlyReads files layers clock since longest held faults IsOwn s u c e
    reads-then s t u c d e first second = record {
      quiet = IsQuiet-then files layers clock since longest held faults s t u first.quiet second.quiet;
      later = let a = first.later in let b = second.later in omega (arith, a, b);
      cache = CacheKeeps-after (files s) (files t) IsOwn c d e first.quiet.same_files first.cache second.cache;
    }

    -- what is backed stays so
    pub part-backed : (s t : S) (c d : Cached) (p : Source) → OnlyReads files layers clock since longest held faults IsOwn s t c d → IsPartBacked (files s) p → IsPartBacked (files t) p
    part-backed s t c d p reads backed = subst (λ (f : Option Files). IsPartBacked f p) (sym reads.quiet.same_files) backed

    pub part-intact : (s t : S) (c d : Cached) (p : Source) → OnlyReads files layers clock since longest held faults IsOwn s t c d → IsPartIntact (files s) p → IsPartIntact (files t) p
    part-intact s t c d p reads intact = subst (λ (f : Option Files). IsPartIntact f p) (sym reads.quiet.same_files) intact

    -- what is told afterwards could be told before
    pub live-before : (s t : S) (c d : Cached) (x : ExprTree) (m : Marked) (id : ℕ) → OnlyReads files layers clock since longest held faults IsOwn s t c d
        → IsLiveTold (files t) d x m id → IsLiveTold (files s) c x m id
    live-before s t c d x m id reads told live may =
        EachWord-weaker (λ w. IsReadableOf (files t) d m.source w id) (λ w. IsReadableOf (files s) c m.source w id)
        (λ w can. IsReadableIn-before (files s) IsOwn c d m.source w (id / 64) reads.cache (subst (λ (f : Option Files). IsReadableOf f d m.source w id) reads.quiet.same_files can)) x (told live may)

  -- a backed cache stays so
  pub cache-backed : (p : Source) (s t : S) (c d : Cached) → OnlyReads files layers clock since longest held faults (IsFileOf p) s t c d → IsPartBacked (files s) p → IsCacheBacked (files s) c → IsCacheBacked (files t) d
  cache-backed p s t c d reads part backed = subst (λ (f : Option Files). IsCacheBacked f d) (sym reads.quiet.same_files) (IsCacheBacked-kept (files s) p c d part reads.cache backed)

  pub cache-among : (parts : List Marked) (s t : S) (c d : Cached) → OnlyReads files layers clock since longest held faults (IsFileAmong parts) s t c d → AreBacked (files s) parts → IsCacheBacked (files s) c
      → IsCacheBacked (files t) d
  cache-among parts s t c d reads all backed = subst (λ (f : Option Files). IsCacheBacked f d) (sym reads.quiet.same_files) (IsCacheBacked-among (files s) parts c d all reads.cache backed)

  -- a part's file is among those of its snapshot
  pub reads-among : (parts : List Marked) (i : ℕ) (m : Marked) (s t : S) (c d : Cached) → i < length parts → m ≡ get_or parts i m
      → OnlyReads files layers clock since longest held faults (IsFileOf m.source) s t c d → OnlyReads files layers clock since longest held faults (IsFileAmong parts) s t c d
  reads-among parts i m s t c d lt is reads = record {
    quiet = reads.quiet;
    later = reads.later;
    cache = blocks-among parts i m lt is (files s) c d reads.cache;
  }

-- ---- faults

-- a fault of one part of several
pub fault-of : (told : Option Files) (parts : List Marked) (m : Marked) (cached : Cached) (fault : SegFault) → Contains parts m
    → (AreBacked told parts → IsPartIntact told m.source → IsCacheBacked told cached → IsOutside fault) → IsFaultOf told parts cached fault
fault-of told parts m cached (Malformed file part place) there honest = inr (m, there, honest)
fault-of told parts m cached (Missing file) there honest = inr (m, there, honest)
fault-of told parts m cached Store there honest = inl tt
fault-of told parts m cached Memory there honest = inl tt

-- where all is read as it was put, no part is to blame
pub fault-outside : (told : Option Files) (parts : List Marked) (cached : Cached) (fault : SegFault) → AreIntact told parts → IsCacheBacked told cached → IsFaultOf told parts cached fault → IsOutside fault
fault-outside told parts cached fault intact cached_backed why = elim why [
  | inl outside ↦ outside
  | inr at ↦ absurd (at.2 (AreIntact-backed told parts intact) (All-contains (λ (m : Marked). IsPartIntact told m.source) parts at.0 intact at.1) cached_backed)
]
