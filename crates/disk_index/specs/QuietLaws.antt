-- What reading leaves holds of a state and itself, and over two steps.
use Rattle.std.proofs.Common.{◌≡◌, ◌/◌, ℕ, List, Option, None, Some, inl, inr, refl, subst, ◌∙◌, arith}
use Rattle.std.specs.Option.{MatchOption}
use Rattle.store_ends.specs.Files.{Files, IsQuiet}
use Rattle.seg_codec.specs.declared.dictionary.BlockPlace.{BlockPlace}
use Rattle.disk_index.specs.Cache.{CacheKeeps, Cached, IsCacheBacked, KeptBlock}
use Rattle.disk_index.specs.Faults.{IsReadable, IsTermReadable}
use Rattle.disk_index.specs.Kept.{Kept, key_of, place_of}
use Rattle.disk_index.specs.Parts.{InMemory, IsFileOf, IsPartBacked, IsPartIntact, IsQuietReader, IsReadableIn, IsReadableOf, OnDisk, Source}
use Rattle.disk_index.specs.declared.cache.BlockKey.{BlockKey}

pub CacheKeeps-same : (told : Option Files) (IsOwn : KeptBlock → Type 0) (c : Cached) → CacheKeeps told IsOwn c c
CacheKeeps-same told IsOwn c = record { each = λ e h. inl h }

pub CacheKeeps-then : (told : Option Files) (IsOwn : KeptBlock → Type 0) (c d k : Cached) → CacheKeeps told IsOwn c d → CacheKeeps told IsOwn d k → CacheKeeps told IsOwn c k
CacheKeeps-then told IsOwn c d k a b = record { each = λ e h. elim (b.each e h) [ inl was ↦ a.each e was | inr new ↦ inr new ] }

-- two calls in a row over a store whose files stay
pub CacheKeeps-after : (f g : Option Files) (IsOwn : KeptBlock → Type 0) (c d k : Cached) → g ≡ f → CacheKeeps f IsOwn c d → CacheKeeps g IsOwn d k → CacheKeeps f IsOwn c k
CacheKeeps-after f g IsOwn c d k same a b = CacheKeeps-then f IsOwn c d k a (subst (λ (x : Option Files). CacheKeeps x IsOwn d k) same b)

-- a part whose file is read as it was put is backed
pub IsPartIntact-backed : (told : Option Files) (p : Source) → IsPartIntact told p → IsPartBacked told p
IsPartIntact-backed told (InMemory docs) here = tt
IsPartIntact-backed told (OnDisk kept) here = here.0

pub intact-backed : (told : Option Files) (p : Source) (c : Cached) → IsPartIntact told p × IsCacheBacked told c → IsPartBacked told p × IsCacheBacked told c
intact-backed told p c here = (IsPartIntact-backed told p here.0, here.1)

-- ---- what can be read after reading could be read before

-- the block of a key
IsReadable-before : (told : Option Files) (IsOwn : KeptBlock → Type 0) (c d : Cached) (key : BlockKey) → CacheKeeps told IsOwn c d → IsReadable told d key → IsReadable told c key
IsReadable-before told IsOwn c d key keeps now = record {
  entries = now.entries;
  here = elim now.here [ inl kept ↦ elim (keeps.each (key, now.entries) kept) [ inl was ↦ inl was | inr new ↦ inr new.1 ] | inr file ↦ inr file ];
}

-- that of a term for a range, where there is one
readable-before : (told : Option Files) (IsOwn : KeptBlock → Type 0) (c d : Cached) (number range : ℕ) (place : Option BlockPlace) → CacheKeeps told IsOwn c d
    → MatchOption place (Unit {0}) (λ p. IsReadable told d (key_of number range p)) → MatchOption place (Unit {0}) (λ p. IsReadable told c (key_of number range p))
readable-before told IsOwn c d number range None keeps now = tt
readable-before told IsOwn c d number range (Some p) keeps now = IsReadable-before told IsOwn c d (key_of number range p) keeps now

pub IsTermReadable-before : (told : Option Files) (IsOwn : KeptBlock → Type 0) (c d : Cached) (kept : Kept) (term : List ℕ) (range : ℕ) → CacheKeeps told IsOwn c d
    → IsTermReadable told d kept term range → IsTermReadable told c kept term range
IsTermReadable-before told IsOwn c d kept term range keeps now = readable-before told IsOwn c d kept.number range (place_of kept.dictionary term range) keeps now

pub IsReadableIn-before : (told : Option Files) (IsOwn : KeptBlock → Type 0) (c d : Cached) (p : Source) (term : List ℕ) (range : ℕ) → CacheKeeps told IsOwn c d
    → IsReadableIn told d p term range → IsReadableIn told c p term range
IsReadableIn-before told IsOwn c d (InMemory docs) term range keeps now = tt
IsReadableIn-before told IsOwn c d (OnDisk kept) term range keeps now = IsTermReadable-before told IsOwn c d kept term range keeps now

module _ {S : Type 0} (files : S → Option Files) (layers : S → Option (List Files)) (clock : S → ℕ) (since : S → ℕ → Files → Type 0) (longest : S → ℕ) (held : S → List ℕ) (faults : S → ℕ) where
  pub IsQuiet-same : (s : S) → IsQuiet files layers clock since longest held s s
  IsQuiet-same s = record { same_files = refl; same_layers = refl; same_clock = refl; same_longest = refl; same_held = refl; no_more = λ t f h. h }

  pub IsQuiet-then : (r s t : S) → IsQuiet files layers clock since longest held r s → IsQuiet files layers clock since longest held s t → IsQuiet files layers clock since longest held r t
  IsQuiet-then r s t a b = record {
    same_files = b.same_files ∙ a.same_files;
    same_layers = b.same_layers ∙ a.same_layers;
    same_clock = b.same_clock ∙ a.same_clock;
    same_longest = b.same_longest ∙ a.same_longest;
    same_held = b.same_held ∙ a.same_held;
    no_more = λ n f h. a.no_more n f (b.no_more n f h);
  }

  pub IsQuietReader-same : (p : Source) (sn cn : ℕ) (s : S) (c : Cached) → IsQuietReader files layers clock since longest held faults p p sn sn cn cn s s c c
  IsQuietReader-same p sn cn s c = record {
    same_part = refl;
    same_store = refl;
    same_cache = refl;
    store = IsQuiet-same s;
    no_fault_lost = omega arith;
    cache = CacheKeeps-same (files s) (IsFileOf p) c;
  }

  pub IsQuietReader-then : (p q u : Source) (sn sm so cn cm co : ℕ) (r s t : S) (c d k : Cached)
      → IsQuietReader files layers clock since longest held faults p q sn sm cn cm r s c d → IsQuietReader files layers clock since longest held faults q u sm so cm co s t d k
      → IsQuietReader files layers clock since longest held faults p u sn so cn co r t c k
  IsQuietReader-then p q u sn sm so cn cm co r s t c d k a b = record {
    same_part = b.same_part ∙ a.same_part;
    same_store = b.same_store ∙ a.same_store;
    same_cache = b.same_cache ∙ a.same_cache;
    store = IsQuiet-then r s t a.store b.store;
    no_fault_lost = omega (arith, a.no_fault_lost, b.no_fault_lost);
    cache = CacheKeeps-after (files r) (files s) (IsFileOf p) c d k a.store.same_files a.cache
        (subst (λ (x : Source). CacheKeeps (files s) (IsFileOf x) d k) a.same_part b.cache);
  }

  pub IsQuietReader-readable : (p q : Source) (sn sm cn cm : ℕ) (s t : S) (c d : Cached) (term : List ℕ) (id : ℕ)
      → IsQuietReader files layers clock since longest held faults p q sn sm cn cm s t c d → IsReadableOf (files t) d q term id → IsReadableOf (files s) c p term id
  IsQuietReader-readable p q sn sm cn cm s t c d term id quiet now =
      let same_part = subst (λ (x : Source). IsReadableOf (files t) d x term id) quiet.same_part now in
      let same_files = subst (λ (f : Option Files). IsReadableOf f d p term id) quiet.store.same_files same_part in
      IsReadableIn-before (files s) (IsFileOf p) c d p term (id / 64) quiet.cache same_files
