-- What reading documents leaves of the cache, and faults that were found behind it.
use Rattle.std.proofs.Common.{ℕ, List, Option, inl}
use Rattle.ri_base.specs.declared.seg_fault.SegFault.TheVariants.{Memory}
use Rattle.store_ends.specs.Files.{Files}
use Rattle.disk_index.specs.Cache.{AllKept, CacheKeeps, Cached, IsCacheBacked, KeptBlock}
use Rattle.disk_index.specs.Parts.{IsRangeFaultOf, Source, InMemory, OnDisk}
use Rattle.disk_index.proofs.TogetherLemmas.{documents-fault-before}
use Rattle.ri_base.specs.declared.seg_fault.SegFault.{SegFault}

pub all-backed : (told : Option Files) (c d : Cached) → AllKept c d → IsCacheBacked told c → IsCacheBacked told d
all-backed told c d keeps backed = λ files is e h. backed files is e (keeps e h)

pub all-kept : (told : Option Files) (IsOwn : KeptBlock → Type 0) (c d : Cached) → AllKept c d → CacheKeeps told IsOwn c d
all-kept told IsOwn c d keeps = record { each = λ e h. inl (keeps e h) }

-- a fault by what is kept later is one by what was kept before
pub fault-before : (f : Files) (c d : Cached) (source : Source) (range : ℕ) (e : SegFault) → AllKept c d → IsRangeFaultOf f d source range e → IsRangeFaultOf f c source range e
fault-before f c d (InMemory docs) range e keeps h = h
fault-before f c d (OnDisk kept) range e keeps h = documents-fault-before f c d kept range e keeps h

-- want of memory may come at any time
pub memory-of : (f : Files) (c : Cached) (source : Source) (range : ℕ) → IsRangeFaultOf f c source range Memory
memory-of f c (InMemory docs) range = tt
memory-of f c (OnDisk kept) range = tt
