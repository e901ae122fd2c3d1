-- Blocks that a reading call keeps are those of files that are listed.
use Rattle.std.proofs.Common.{◌≡◌, ◌<◌, inl, inr, ℕ, zero, suc, true, List, [], ◌∷◌, ◌++◌, get_or, length, sym, subst, arith, Option}
use Rattle.store_ends.specs.Files.{Files}
use Rattle.manifest.specs.Listing.{prior_numbers}
use Rattle.disk_index.specs.Cache.{CacheKeeps, Cached, KeptBlock}
use Rattle.disk_index.specs.Parts.{InMemory, IsFileOf, OnDisk, Source}
use Rattle.disk_index.specs.Snapshots.{AreBacked, IsFileAmong, Marked}
use Rattle.disk_index.proofs.BackedLemmas.{IsCacheBacked-among}
use Rattle.repository.specs.Numbers.{is_among}
use Rattle.repository.specs.States.{State, numbers_in, part_numbers}
use Rattle.repository.proofs.NumberLemmas.{among-behind, among-left, among-own}
use Rattle.desk.specs.Queries.{AreListed, IsCacheKept}

-- a part's own file
own-number : (s : Source) (e : KeptBlock) → IsFileOf s e → is_among e.0.number (numbers_in s) ≡ true
own-number (InMemory docs) e own = absurd own
own-number (OnDisk kept) e own = subst (λ k. is_among k (kept.number ∷ []) ≡ true) (sym own.0) (among-own kept.number [])

-- is among those of all parts
among-at : (parts : List Marked) (i n : ℕ) (m : Marked) → i < length parts → get_or parts i m ≡ m → is_among n (numbers_in m.source) ≡ true → is_among n (part_numbers parts) ≡ true
among-at [] i n m within is own = absurd (omega (arith, within))
among-at (p ∷ ps) zero n m within is own = among-left n (numbers_in p.source) (part_numbers ps) (subst (λ (x : Marked). is_among n (numbers_in x.source) ≡ true) (sym is) own)
among-at (p ∷ ps) (suc i) n m within is own = among-behind n (numbers_in p.source) (part_numbers ps) (among-at ps i n m (omega (arith, within)) is own)

pub among-file : (parts : List Marked) (e : KeptBlock) → IsFileAmong parts e → is_among e.0.number (part_numbers parts) ≡ true
among-file parts e file = among-at parts file.1.0 e.0.number file.0 file.1.1 file.1.2 (own-number file.0.source e file.2)

-- ---- over a call that reads some parts

pub cache-read : (told : Option Files) (s : State) (parts : List Marked) (c d : Cached) → AreListed s (part_numbers parts) → AreBacked told parts → CacheKeeps told (IsFileAmong parts) c d → IsCacheKept told s c → IsCacheKept told s d
cache-read told s parts c d listed backed keeps kept = record {
  backed = IsCacheBacked-among told parts c d backed keeps kept.backed;
  listed = λ b there. elim (keeps.each b there) [
    | inl old ↦ kept.listed b old
    | inr new ↦ listed b.0.number (among-file parts b new.0)
  ];
}

-- the files of a snapshot of now are listed
pub listed-now : (s : State) (parts : List Marked) → part_numbers parts ≡ part_numbers s.held.parts.closed → AreListed s (part_numbers parts)
listed-now s parts same n among = among-left n (part_numbers s.held.parts.closed) (s.stale ++ prior_numbers s.priors) (subst (λ ns. is_among n ns ≡ true) same among)
