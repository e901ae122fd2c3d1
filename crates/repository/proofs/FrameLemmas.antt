-- Where only files of other numbers change, files stand for what they stood for, and parts read as they did.
use Rattle.std.proofs.Common.{◌≡◌, ◌<◌, ◌^◌, ℕ, true, false, List, [], ◌∷◌, ◌++◌, Option, Some, sym, ap, subst, ◌∙◌, arith}
use Rattle.std.specs.List.{AllZip}
use Rattle.ri_base.specs.Documents.{Document}
use Rattle.store_ends.specs.Files.{Files, SameWhere}
use Rattle.store_ends.proofs.Files.{SameWhere-at, SameWhere-told}
use Rattle.manifest.specs.Files.{numbers_of}
use Rattle.manifest.specs.Listing.{all_numbers, prior_numbers}
use Rattle.manifest.specs.declared.manifest.Manifest.{Manifest}
use Rattle.manifest.specs.declared.manifest.PriorEntry.{PriorEntry}
use Rattle.manifest.specs.declared.manifest.SegEntry.{SegEntry}
use Rattle.manifest.proofs.ListingLaws.{listing-of}
use Rattle.disk_index.specs.Names.{segment_name}
use Rattle.disk_index.specs.Reads.{HasSegment, IsIntact}
use Rattle.disk_index.proofs.NameLemmas.{segment_name-injective}
use Rattle.holdings.specs.declared.limits.Limits.{Limits}
use Rattle.repository.specs.Names.{manifest_name, prior_name}
use Rattle.repository.specs.Numbers.{is_among}
use Rattle.repository.specs.Stands.{Collection, HasManifest, IsListed, IsPriorListed, Prior, Stands}
use Rattle.repository.specs.States.{IsBacked, State, kept_numbers, part_numbers}
use Rattle.repository.specs.Writes.{IsOther}
use Rattle.repository.proofs.IntactLemmas.{has-moved, intact-moved}
use Rattle.repository.proofs.ManifestLemmas.{HasManifest-same}
use Rattle.repository.proofs.NameLemmas.{prior_name-injective, prior_name-manifest, segment_name-manifest, segment_name-prior}
use Rattle.repository.proofs.NumberLemmas.{among-behind, among-left, among-own, among-right, below-next, clash}

pub other-manifest : (own : ℕ → Type 0) → IsOther own manifest_name
other-manifest own = λ n fits o. (segment_name-manifest n, prior_name-manifest n)

-- these numbers are kept, and small
abbrev pub AreWithin : List ℕ → List ℕ → Type 0
AreWithin kept ns = (j : ℕ) → is_among j ns ≡ true → (is_among j kept ≡ true) × (j < 2 ^ 64)

within-tail : (kept : List ℕ) (n : ℕ) (ns : List ℕ) → AreWithin kept (n ∷ ns) → AreWithin kept ns
within-tail kept n ns within = λ j h. within j (among-right j n ns h)

module _ (own : ℕ → Type 0) (kept : List ℕ) (clear : (n : ℕ) → own n → is_among n kept ≡ false) where
  pub other-segment : (j : ℕ) → j < 2 ^ 64 → is_among j kept ≡ true → IsOther own (segment_name j)
  other-segment j small among = λ n fits o. (
    (λ e. clash (is_among j kept) among (ap (λ (m : ℕ). is_among m kept) (segment_name-injective j n small fits e) ∙ clear n o)),
    (λ e. segment_name-prior j n e),
  )

  pub other-prior : (j : ℕ) → j < 2 ^ 64 → is_among j kept ≡ true → IsOther own (prior_name j)
  other-prior j small among = λ n fits o. (
    (λ e. segment_name-prior n j (sym e)),
    (λ e. clash (is_among j kept) among (ap (λ (m : ℕ). is_among m kept) (prior_name-injective j n small fits e) ∙ clear n o)),
  )

  module _ (a b : Option Files) (same : SameWhere (IsOther own) a b) where
    pub has-same : (n : ℕ) (docs : List Document) → is_among n kept ≡ true → n < 2 ^ 64 → HasSegment a n docs → HasSegment b n docs
    has-same n docs among small h =
        let t = SameWhere-told (IsOther own) a b h.files same h.is_told in
        has-moved a b t.0 n docs h t.1 (SameWhere-at (IsOther own) a b h.files t.0 (segment_name n) same h.is_told t.1 (other-segment n small among))

    pub intact-same : (n : ℕ) (f : Files) → a ≡ Some f → is_among n kept ≡ true → n < 2 ^ 64 → IsIntact a n → IsIntact b n
    intact-same n f told among small intact =
        let t = SameWhere-told (IsOther own) a b f same told in
        intact-moved a b f t.0 n told t.1 (SameWhere-at (IsOther own) a b f t.0 (segment_name n) same told t.1 (other-segment n small among)) intact

    listed-same : (es : List SegEntry) (dss : List (List Document)) → AreWithin kept (numbers_of es) → AllZip (IsListed a) es dss → AllZip (IsListed b) es dss
    listed-same [] [] within all = tt
    listed-same [] (ds ∷ dss) within all = absurd all
    listed-same (e ∷ es) [] within all = absurd all
    listed-same (e ∷ es) (ds ∷ dss) within all =
        let w = within e.number (among-own e.number (numbers_of es)) in
        (record { has = has-same e.number ds w.0 w.1 all.0.has; count = all.0.count }, listed-same es dss (within-tail kept e.number (numbers_of es) within) all.1)

    pub priors-same : (es : List PriorEntry) (ps : List Prior) → AreWithin kept (prior_numbers es) → AllZip (IsPriorListed a) es ps → AllZip (IsPriorListed b) es ps
    priors-same [] [] within all = tt
    priors-same [] (p ∷ ps) within all = absurd all
    priors-same (e ∷ es) [] within all = absurd all
    priors-same (e ∷ es) (p ∷ ps) within all =
        let w = within e.number (among-own e.number (prior_numbers es)) in
        let l = all.0 in
        let t = SameWhere-told (IsOther own) a b l.files same l.is_told in (
          record {
            files = t.0;
            is_told = t.1;
            name = l.name;
            file = SameWhere-at (IsOther own) a b l.files t.0 (prior_name e.number) same l.is_told t.1 (other-prior e.number w.1 w.0) ∙ l.file;
            form = l.form;
          },
          priors-same es ps (within-tail kept e.number (prior_numbers es) within) all.1,
        )

    pub manifest-same : (list : Manifest) → HasManifest a list → HasManifest b list
    manifest-same list has =
        let t = SameWhere-told (IsOther own) a b has.files same has.is_told in
        record { files = t.0; is_told = t.1; file = SameWhere-at (IsOther own) a b has.files t.0 manifest_name same has.is_told t.1 (other-manifest own) ∙ has.file; form = has.form }

-- ---- over files of a repository

-- the numbers of its files are kept, and small
module _ (told : Option Files) (s : State) (backed : IsBacked told s) where
  all-small : (j : ℕ) → is_among j (all_numbers backed.list.segments backed.list.stale backed.list.priors) ≡ true → j < 2 ^ 64
  all-small j among =
      let l = listing-of backed.list backed.has.form in
      let below = below-next backed.list.next (all_numbers backed.list.segments backed.list.stale backed.list.priors) l.numbered j among in
      let fits = l.next_fits in
      omega (arith, below, fits)

  pub parts-within : AreWithin (kept_numbers s) (part_numbers s.held.parts.closed)
  parts-within = λ j among.
      let there : is_among j (numbers_of backed.list.segments) ≡ true = ap (is_among j) backed.numbers_are ∙ among in (
        among-left j (part_numbers s.held.parts.closed) (prior_numbers s.priors) among,
        all-small j (among-left j (numbers_of backed.list.segments) (backed.list.stale ++ prior_numbers backed.list.priors) there),
      )

  pub priors-within : AreWithin (kept_numbers s) (prior_numbers s.priors)
  priors-within = λ j among.
      let there : is_among j (prior_numbers backed.list.priors) ≡ true = ap (λ (ps : List PriorEntry). is_among j (prior_numbers ps)) backed.priors_are ∙ among in (
        among-behind j (part_numbers s.held.parts.closed) (prior_numbers s.priors) among,
        all-small j (among-behind j (numbers_of backed.list.segments) (backed.list.stale ++ prior_numbers backed.list.priors) (among-behind j backed.list.stale (prior_numbers backed.list.priors) there)),
      )

  -- files stand for what they stood for
  pub stands-same : (own : ℕ → Type 0) → ((n : ℕ) → own n → is_among n (kept_numbers s) ≡ false) → (limits : Limits) (c : Collection) (now : Option Files) → SameWhere (IsOther own) told now → Stands limits told c
      → Stands limits now c
  stands-same own clear limits c now same stands =
      let one : backed.list ≡ stands.list = HasManifest-same told backed.list stands.list backed.has stands.has in
      let numbers : numbers_of stands.list.segments ≡ part_numbers s.held.parts.closed = ap (λ (m : Manifest). numbers_of m.segments) (sym one) ∙ backed.numbers_are in
      let priors : prior_numbers stands.list.priors ≡ prior_numbers s.priors = ap (λ (m : Manifest). prior_numbers m.priors) (sym one) ∙ ap prior_numbers backed.priors_are in
      record {
        list = stands.list;
        has = manifest-same own (kept_numbers s) clear told now same stands.list stands.has;
        segments = stands.segments;
        listed = listed-same own (kept_numbers s) clear told now same stands.list.segments stands.segments (subst (AreWithin (kept_numbers s)) (sym numbers) parts-within) stands.listed;
        held = stands.held;
        priors = priors-same own (kept_numbers s) clear told now same stands.list.priors c.priors (subst (AreWithin (kept_numbers s)) (sym priors) priors-within) stands.priors;
      }
