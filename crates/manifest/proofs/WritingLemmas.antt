-- the sizes of a manifest's lists
use Rattle.std.proofs.Common.{◌≡◌, ◌<◌, ◌≤◌, nat_le, ℕ, ◌^◌, true, List, [], ◌∷◌, length, arith}
use Rattle.std.specs.List.{All, AllByRecursion}
use Rattle.std.proofs.lemmas.Bool.Decides.{nat_tests}
use Rattle.std.proofs.lemmas.List.Elements.{All-from_recursion}
use Rattle.ri_base.specs.Reading.{AllFit}
use Rattle.manifest.specs.Entries.{with_number}
use Rattle.manifest.specs.Fits.{FitsSegment, IsManifest}
use Rattle.manifest.specs.declared.manifest.Manifest.{Manifest}
use Rattle.manifest.specs.declared.manifest.SegEntry.{SegEntry}

at_most : (a b : ℕ) → nat_le a b ≡ true → a ≤ b
at_most a b h = grind (arith, nat_tests)

pub few_segments : (m : Manifest) → IsManifest m → length m.segments < 2 ^ 32
few_segments m h = h.1.0.0.0

pub few_priors : (m : Manifest) → IsManifest m → length m.priors < 256
few_priors m h = omega (arith, at_most (length m.priors) 8 h.1.0.1.1.0.0)

all_marks : (next : ℕ) (used : List ℕ) (es : List SegEntry) → AllFit (FitsSegment next) (λ used e. with_number used e.number) used es → AllByRecursion (λ e. length e.marks < 2 ^ 32) es
all_marks next used [] h = tt
all_marks next used (e ∷ es) h = (h.0.1.1.0.0, all_marks next (with_number used e.number) es h.1)

pub few_marks : (m : Manifest) → IsManifest m → All (λ e. length e.marks < 2 ^ 32) m.segments
few_marks m h = All-from_recursion (λ e. length e.marks < 2 ^ 32) m.segments (all_marks m.next [] m.segments h.1.0.0.1.1)
