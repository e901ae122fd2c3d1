-- Which segment is told: the part of the entry at a place, and the first segment that is refused, behind those that were opened.
use Rattle.std.proofs.Common.{◌≡◌, ◌<◌, ℕ, zero, suc, List, [], ◌∷◌, ◌++◌, length, take, drop, get_or, Option, Some, refl, sym, ap, subst, arith}
use Rattle.std.specs.List.{AllZip}
use Rattle.ri_base.specs.declared.seg_fault.SegFault.{SegFault}
use Rattle.store_ends.specs.Files.{Files}
use Rattle.manifest.specs.declared.manifest.SegEntry.{SegEntry}
use Rattle.disk_index.specs.Opening.{IsOpenFault}
use Rattle.disk_index.specs.Snapshots.{Marked}
use Rattle.repository.specs.Opening.{IsEntryFault, IsEntryOpened}

-- the part of the entry at a place
pub part-at : (f : Files) (es : List SegEntry) (ms : List Marked) (i : ℕ) (e : SegEntry) → AllZip (IsEntryOpened (Some f)) es ms → i < length es → e ≡ get_or es i e → (m : Marked) × (m ≡ get_or ms i m) × IsEntryOpened (Some f) e m
part-at f [] ms i e opened below at = absurd (omega (arith, below))
part-at f (x ∷ es) [] i e opened below at = absurd opened
part-at f (x ∷ es) (m ∷ ms) zero e opened below at = (m, refl, subst (λ (y : SegEntry). IsEntryOpened (Some f) y m) (sym at) opened.0)
part-at f (x ∷ es) (m ∷ ms) (suc i) e opened below at = part-at f es ms i e opened.1 (omega (arith, below)) at

-- ---- the first that is refused

split-at : (es : List SegEntry) (i : ℕ) (e : SegEntry) → i < length es → e ≡ get_or es i e → es ≡ take i es ++ e ∷ drop (suc i) es
split-at [] i e below at = absurd (omega (arith, below))
split-at (x ∷ es) zero e below at = ap (λ (y : SegEntry). y ∷ es) (sym at)
split-at (x ∷ es) (suc i) e below at = ap (λ (l : List SegEntry). x ∷ l) (split-at es i e (omega (arith, below)) at)

pub first-refused : (told : Option Files) (f : Files) (es : List SegEntry) (ms : List Marked) (i : ℕ) (e : SegEntry) (fault : SegFault) → told ≡ Some f → AllZip (IsEntryOpened told) (take i es) ms → i < length es → e ≡ get_or es i e
    → IsOpenFault f e.number e.docs fault → IsEntryFault f es fault
first-refused told f es ms i e fault is opened below at refused = record {
  before = take i es;
  entry = e;
  behind = drop (suc i) es;
  are = split-at es i e below at;
  parts = ms;
  opened = subst (λ (o : Option Files). AllZip (IsEntryOpened o) (take i es) ms) is opened;
  refused = refused;
}
