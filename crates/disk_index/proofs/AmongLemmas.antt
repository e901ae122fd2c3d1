-- One of the parts of a snapshot, and the parts that are read one after the other.
use Rattle.std.proofs.Common.{◌≡◌, ◌<◌, ℕ, List, Option, Contains, get_or, inl, inr, length, sym, ap, subst, ◌∙◌}
use Rattle.std.proofs.lemmas.List.Elements.{All-weaker, Contains-get_or}
use Rattle.store_ends.specs.Files.{Files}
use Rattle.disk_index.specs.Cache.{CacheKeeps, Cached, IsCacheBacked}
use Rattle.disk_index.specs.Parts.{IsFileOf, IsPartBacked, IsPartIntact, Source, reads, size}
use Rattle.disk_index.specs.QuietLaws.{CacheKeeps-after, IsPartIntact-backed}
use Rattle.disk_index.specs.Snapshots.{AreBacked, AreIntact, IsFileAmong, Marked}
use Rattle.disk_index.proofs.RebuiltLemmas.{reads-length}

-- a reader of a backed part and a backed cache is sound
pub sound-of : (told here : Option Files) (source own : Source) (cached kept : Cached) → here ≡ told → own ≡ source → kept ≡ cached → IsPartBacked told source → IsCacheBacked told cached
    → IsPartBacked here own × IsCacheBacked here kept
sound-of told here source own cached kept same_told same_part same_cache part cache = (
  subst (λ (f : Option Files). IsPartBacked f own) (sym same_told) (subst (IsPartBacked told) (sym same_part) part),
  subst (λ (f : Option Files). IsCacheBacked f kept) (sym same_told) (subst (IsCacheBacked told) (sym same_cache) cache),
)

-- the same where its file is read as it was put
pub intact-of : (told here : Option Files) (source own : Source) (cached kept : Cached) → here ≡ told → own ≡ source → kept ≡ cached → IsPartIntact told source → IsCacheBacked told cached
    → IsPartIntact here own × IsCacheBacked here kept
intact-of told here source own cached kept same_told same_part same_cache part cache = (
  subst (λ (f : Option Files). IsPartIntact f own) (sym same_told) (subst (IsPartIntact told) (sym same_part) part),
  subst (λ (f : Option Files). IsCacheBacked f kept) (sym same_told) (subst (IsCacheBacked told) (sym same_cache) cache),
)

-- parts whose files are read as they were put are backed
pub AreIntact-backed : (told : Option Files) (parts : List Marked) → AreIntact told parts → AreBacked told parts
AreIntact-backed told parts intact = All-weaker (λ (m : Marked). IsPartIntact told m.source) (λ (m : Marked). IsPartBacked told m.source) (λ m here. IsPartIntact-backed told m.source here) parts intact

-- and it has the documents of its part
module _ (told here : Option Files) (source own : Source) (same_told : here ≡ told) (same_part : own ≡ source) where
  pub docs-of : reads here own ≡ reads told source
  docs-of = ap (λ (t : Option Files). reads t own) same_told ∙ ap (reads told) same_part

  pub within-of : (id : ℕ) → id < size source → id < length (reads here own)
  within-of id inside = subst (λ n. id < n) (sym (reads-length here own)) (subst (λ (p : Source). id < size p) (sym same_part) inside)

module _ (parts : List Marked) (i : ℕ) (m : Marked) (inside : i < length parts) (at : m ≡ get_or parts i m) where
  -- the part of a place is one of them
  pub there-at : Contains parts m
  there-at = subst (Contains parts) (sym at) (Contains-get_or parts i m inside)

  -- it is backed where all are
  pub backed-at : (told : Option Files) → AreBacked told parts → IsPartBacked told m.source
  backed-at told backed = subst (λ (x : Marked). IsPartBacked told x.source) (sym at) (backed i m inside)

  -- its file is read as it was put where all are
  pub intact-at : (told : Option Files) → AreIntact told parts → IsPartIntact told m.source
  intact-at told intact = subst (λ (x : Marked). IsPartIntact told x.source) (sym at) (intact i m inside)

  -- its file is among theirs
  pub blocks-among : (told : Option Files) (c d : Cached) → CacheKeeps told (IsFileOf m.source) c d → CacheKeeps told (IsFileAmong parts) c d
  blocks-among told c d keeps = record {
    each = λ e h. elim (keeps.each e h) [
      | inl was ↦ inl was
      | inr new ↦ inr ((m, there-at, new.0), new.1)
    ];
  }

  -- after one part more the cache has nothing new but blocks of the parts' files
  pub keeps-among : (told here : Option Files) (c d e : Cached) → here ≡ told → CacheKeeps told (IsFileAmong parts) c d → CacheKeeps here (IsFileOf m.source) d e → CacheKeeps told (IsFileAmong parts) c e
  keeps-among told here c d e same first second = CacheKeeps-after told here (IsFileAmong parts) c d e same first (blocks-among here d e second)
