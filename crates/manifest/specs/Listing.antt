-- What a manifest lists, said of each of its lists and of the numbers of all its files.
use Rattle.std.specs.Prelude.{◌≡◌, ◌≤◌, ◌<◌, ◌+◌, ◌^◌, ℕ, true, List, [], ◌∷◌, ◌++◌, length, map, nat_le}
use Rattle.ri_base.specs.declared.limits.TheConstants.{MAX_PRIORS}
use Rattle.manifest.specs.Files.{numbers_of}
use Rattle.manifest.specs.Fits.{FitMarks, FitsDocs, FitsName}
use Rattle.manifest.specs.declared.manifest.Manifest.{Manifest}
use Rattle.manifest.specs.declared.manifest.PriorEntry.{PriorEntry}
use Rattle.manifest.specs.declared.manifest.SegEntry.{SegEntry}

-- ---- numbers of files

-- the number is none of these
abbrev pub IsNoneOf : ℕ → List ℕ → Type 0
IsNoneOf n [] = Unit {0}
IsNoneOf n (m ∷ ms) = (n ≡ m → ⊥) × IsNoneOf n ms

-- each number is at least 1 and below that of the next file, and no two are the same
abbrev pub AreNumbered : ℕ → List ℕ → Type 0
AreNumbered next [] = Unit {0}
AreNumbered next (n ∷ ns) = (1 ≤ n) × ((n < next) × (IsNoneOf n ns × AreNumbered next ns))

abbrev pub prior_numbers : List PriorEntry → List ℕ
prior_numbers ps = map (λ p. p.number) ps

-- the numbers of all files that are listed
abbrev pub all_numbers : List SegEntry → List ℕ → List PriorEntry → List ℕ
all_numbers es stale ps = numbers_of es ++ (stale ++ prior_numbers ps)

-- ---- the lists

-- how many documents a segment has, and which of them are dead
abbrev pub FitsEntry : SegEntry → Type 0
FitsEntry e = FitsDocs e.docs × FitMarks e.docs e.marks

abbrev pub FitEntries : List SegEntry → Type 0
FitEntries [] = Unit {0}
FitEntries (e ∷ es) = FitsEntry e × FitEntries es

-- numbers that rise, the first of them at least low
abbrev pub AreRising : ℕ → List ℕ → Type 0
AreRising low [] = Unit {0}
AreRising low (n ∷ ns) = (low ≤ n) × AreRising (n + 1) ns

-- the names of priors, behind these: each has its form, and no two are the same
abbrev pub AreNamed : List (List ℕ) → List PriorEntry → Type 0
AreNamed names [] = Unit {0}
AreNamed names (p ∷ ps) = FitsName names p.name × AreNamed (names ++ p.name ∷ []) ps

-- Lists that make a manifest with this number of the next file.
pub record IsListing (next : ℕ) (es : List SegEntry) (stale : List ℕ) (ps : List PriorEntry) : Type 0 where
  pub next_some : 1 ≤ next
  pub next_fits : next < 2 ^ 64
  pub few_segments : length es < 2 ^ 32
  pub segments_fit : FitEntries es
  pub few_stale : length stale < 2 ^ 64
  pub stale_rise : AreRising 0 stale
  pub few_priors : nat_le (length ps) MAX_PRIORS ≡ true
  pub priors_named : AreNamed [] ps
  pub numbered : AreNumbered next (all_numbers es stale ps)

-- the manifest of these lists
abbrev pub listing : ℕ → List SegEntry → List ℕ → List PriorEntry → Manifest
listing next es stale ps = record { version = 1; next = next; segments = es; stale = stale; priors = ps }
