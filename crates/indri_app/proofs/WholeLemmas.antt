-- The files of a repository's parts are read as they were put: where all files are, and where it has no part.
use Rattle.std.proofs.Common.{◌≡◌, ◌≤◌, ◌+◌, ◌&&◌, ℕ, Bool, true, false, List, [], ◌∷◌, ◌++◌, Option, arith, nat_le, refl, sym}
use Rattle.std.specs.List.{All}
use Rattle.std.proofs.lemmas.Bool.Decides.{nat_tests}
use Rattle.std.proofs.lemmas.List.Elements.{All-head, All-nil, All-weaker}
use Rattle.std.proofs.lemmas.List.Sums.{sum_by-cons}
use Rattle.ri_base.specs.declared.limits.TheConstants.{MAX_PART_DOCS}
use Rattle.store_ends.specs.Files.{Files}
use Rattle.manifest.specs.Fits.{FitsDocs}
use Rattle.disk_index.specs.Names.{segment_name}
use Rattle.disk_index.specs.Parts.{InMemory, IsPartBacked, IsPartIntact, OnDisk, Source, size}
use Rattle.disk_index.specs.Snapshots.{Marked, documents_held}
use Rattle.holdings.specs.MarkedParts.{filled}
use Rattle.holdings.specs.Parts.{all_parts}
use Rattle.holdings.specs.declared.limits.Limits.{Limits}
use Rattle.repository.specs.Opening.{IsRepositoryOpened}
use Rattle.repository.specs.States.{HasDocs, IsBacked, IsSized, IsStateIntact, State}
use Rattle.repository.proofs.OpenLemmas.{numbered-opened}
use Rattle.indri_app.specs.Asked.{AreWhole}

-- ---- all files are read as they were put

whole-part : (told : Option Files) (source : Source) → AreWhole told → IsPartBacked told source → IsPartIntact told source
whole-part told (InMemory docs) whole backed = tt
whole-part told (OnDisk kept) whole backed = (backed, λ files is. whole files is (segment_name kept.number))

pub whole-state : (told : Option Files) (s : State) → AreWhole told → IsBacked told s → IsStateIntact told s
whole-state told s whole backed =
    All-weaker (λ (m : Marked). IsPartBacked told m.source) (λ (m : Marked). IsPartIntact told m.source) (λ m here. whole-part told m.source whole here) s.held.parts.closed backed.parts

-- ---- no document is held, so there is no part

some-docs : (n : ℕ) → FitsDocs n → 1 ≤ n
some-docs n fits = by (nat_le 1 n) (nat_le n MAX_PART_DOCS) refl fits.1
  where
    by : (a b : Bool) → nat_le 1 n ≡ a → (a && b) ≡ true → 1 ≤ n
    by true b e both = grind (arith, nat_tests)
    by false b e both = cc

has-some : (s : Source) → HasDocs s → 1 ≤ size s
has-some (InMemory docs) some = some
has-some (OnDisk kept) fits = some-docs (size (OnDisk kept)) fits

intact-none : (told : Option Files) (ms rest : List Marked) → All IsSized ms → documents_held (ms ++ rest) ≡ 0 → All (λ (m : Marked). IsPartIntact told m.source) ms
intact-none told [] rest sized none = All-nil _
intact-none told (m ∷ ms) rest sized none =
    let some : 1 ≤ size m.source = has-some m.source (All-head IsSized m ms sized) in
    let all : documents_held (m ∷ (ms ++ rest)) ≡ size m.source + documents_held (ms ++ rest) = sum_by-cons (λ (x : Marked). size x.source) m (ms ++ rest) in
    absurd (omega (arith, some, all, none))

pub intact-empty : (told : Option Files) (limits : Limits) (s : State) → IsRepositoryOpened told limits s → documents_held (all_parts s.held.parts) ≡ 0 → IsStateIntact told s
intact-empty told limits s opened none =
    let numbered = numbered-opened told limits opened.list s opened.has.form opened.held (sym opened.next_is) (sym opened.stale_are) (sym opened.priors_are) in
    intact-none told s.held.parts.closed (filled s.held.parts.filling s.held.parts.marks ∷ []) numbered.sized none
