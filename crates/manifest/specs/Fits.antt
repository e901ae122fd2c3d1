-- What a manifest keeps.
use Rattle.std.specs.Prelude.{◌≡◌, ◌<◌, ℕ, ◌+◌, ◌^◌, true, List, [], length, nat_le, ◌&&◌}
use Rattle.ri_base.specs.declared.limits.TheConstants.{MAX_PRIORS}
use Rattle.ri_base.specs.declared.text.TheConstants.{NAME_BYTES}
use Rattle.ri_base.specs.Reading.{AllFit}
use Rattle.manifest.specs.Entries.{Behind, BehindPrior, behind, behind_prior, is_docs, is_mark, is_number, is_prior_name, is_stale, with_number, with_numbers}
use Rattle.manifest.specs.Files.{Lists, numbers_of}
use Rattle.manifest.specs.declared.manifest.Manifest.{Manifest}
use Rattle.manifest.specs.declared.manifest.PriorEntry.{PriorEntry}
use Rattle.manifest.specs.declared.manifest.SegEntry.{SegEntry}

abbrev pub FitsNumber : ℕ → List ℕ → ℕ → Type 0
FitsNumber next used n = (n < 2 ^ 64) × (is_number next used n ≡ true)

abbrev pub FitsMark : ℕ → ℕ → ℕ → Type 0
FitsMark docs low m = (m < 2 ^ 32) × (is_mark docs low m ≡ true)

abbrev pub FitMarks : ℕ → List ℕ → Type 0
FitMarks docs ms = (length ms < 2 ^ 32) × ((length ms ≡ length ms) × AllFit (FitsMark docs) (λ _ m. m + 1) 0 ms)

abbrev pub FitsDocs : ℕ → Type 0
FitsDocs n = (n < 2 ^ 32) × (is_docs n ≡ true)

abbrev pub FitsSegment : ℕ → List ℕ → SegEntry → Type 0
FitsSegment next used e = FitsNumber next used e.number × (FitsDocs e.docs × (FitMarks e.docs e.marks × (record { number = e.number; docs = e.docs; marks = e.marks } ≡ e)))

abbrev pub FitSegments : ℕ → List SegEntry → Type 0
FitSegments next es = (length es < 2 ^ 32) × ((length es ≡ length es) × AllFit (FitsSegment next) (λ used e. with_number used e.number) [] es)

abbrev pub FitsStale : ℕ → Behind → ℕ → Type 0
FitsStale next s n = (n < 2 ^ 64) × (is_stale next s n ≡ true)

abbrev pub FitStale : ℕ → List ℕ → List ℕ → Type 0
FitStale next used ns = (length ns < 2 ^ 64) × ((length ns ≡ length ns) × AllFit (FitsStale next) behind (record { low = 0; used = used }) ns)

abbrev pub FitsName : List (List ℕ) → List ℕ → Type 0
FitsName names x = (nat_le 1 (length x) && nat_le (length x) NAME_BYTES ≡ true) × (is_prior_name names x ≡ true)

abbrev pub FitsPrior : ℕ → BehindPrior → PriorEntry → Type 0
FitsPrior next s p = FitsName s.names p.name × (FitsNumber next s.used p.number × (record { name = p.name; number = p.number } ≡ p))

abbrev pub FitPriors : ℕ → List ℕ → List PriorEntry → Type 0
FitPriors next used ps = (nat_le (length ps) MAX_PRIORS ≡ true) × ((length ps ≡ length ps) × AllFit (FitsPrior next) behind_prior (record { names = []; used = used }) ps)

abbrev pub FitsOpening : ℕ → Type 0
FitsOpening n = (n < 2 ^ 64) × (nat_le 1 n ≡ true)

abbrev pub FitLists : ℕ → Lists → Type 0
FitLists next x =
    FitSegments next x.0
    × (FitStale next (with_numbers [] (numbers_of x.0)) x.1
    × (FitPriors next (with_numbers (with_numbers [] (numbers_of x.0)) x.1) x.2 × ((x.0, x.1, x.2) ≡ x)))

-- the version is 1, the next number is at least 1, and each list keeps its rules behind those before it
abbrev pub IsManifest : Manifest → Type 0
IsManifest m = FitsOpening m.next × (FitLists m.next (m.segments, m.stale, m.priors) × (record { version = 1; next = m.next; segments = m.segments; stale = m.stale; priors = m.priors } ≡ m))
