-- What files stand for once all parts are saved and the manifest lists them.
use Rattle.std.proofs.Common.{◌≡◌, ◌≤◌, ◌<◌, ◌^◌, inl, inr, ℕ, Bool, true, false, List, [], ◌∷◌, ◌++◌, length, map, Option, Some, None, refl, ap, sym, subst, ◌∙◌, arith, append-nil}
use Rattle.std.specs.List.{All, AllZip, IsDistinct}
use Rattle.std.specs.Option.{option_map}
use Rattle.std.specs.Prelude.{sum_by}
use Rattle.std.specs.Str.{bytes_eq}
use Rattle.std.proofs.lemmas.List.Elements.{All-cons, All-head, All-nil, All-push, All-tail}
use Rattle.std.proofs.lemmas.List.Sums.{sum_by-cons}
use Rattle.ri_base.specs.Collection.{token_count}
use Rattle.ri_base.specs.Documents.{Document}
use Rattle.store_ends.specs.Files.{Files, Leaves, OldOrNew, SameWhere, whole, with_file}
use Rattle.store_ends.proofs.Files.{SameWhere-at, SameWhere-changed, SameWhere-fewer, SameWhere-same, SameWhere-step, SameWhere-told, with_file-same}
use Rattle.manifest.specs.Listing.{AreNumbered, AreRising, IsListing, listing, prior_numbers}
use Rattle.manifest.specs.Spelling.{manifest_text}
use Rattle.manifest.specs.declared.manifest.PriorEntry.{PriorEntry}
use Rattle.manifest.proofs.ListingLaws.{manifest-of}
use Rattle.seg_codec.specs.Segment.{segment}
use Rattle.disk_index.specs.Kept.{Kept}
use Rattle.disk_index.specs.Names.{segment_name}
use Rattle.disk_index.specs.Parts.{InMemory, IsPartBacked, IsPartIntact, OnDisk, Source, reads, size}
use Rattle.disk_index.specs.Reads.{HasSegment, IsBacked as IsKeptBacked, IsIntact}
use Rattle.disk_index.specs.Snapshots as snapshots
use Rattle.disk_index.specs.Snapshots.{Marked, documents_held, unmarked}
use Rattle.disk_index.specs.declared.limits.TheConstants.{MAX_HELD_DOCS}
use Rattle.disk_index.proofs.BackedLemmas.{put-segment}
use Rattle.disk_index.proofs.RebuiltLemmas.{reads-backed, reads-length}
use Rattle.holdings.specs.Contents.{Contents}
use Rattle.holdings.specs.MarkedParts.{IsWhole, docnos_of, filled, tokens_held, tokens_in}
use Rattle.holdings.specs.Parts.{Parts, all_parts, closed_by, live, sealed}
use Rattle.holdings.specs.declared.limits.Limits.{Limits}
use Rattle.holdings.proofs.LiveLemmas.{docnos-live, flat_map-push, tokens-reads}
use Rattle.holdings.proofs.RoomLemmas.{live-sealed}
use Rattle.holdings.proofs.SumLemmas.{documents-sealed, sum-push, tokens-sealed}
use Rattle.repository.specs.Entries.{IsOnDisk, entries_for, entry_for, number_in}
use Rattle.repository.specs.Names.{manifest_name, prior_name}
use Rattle.repository.specs.Numbers.{is_among}
use Rattle.repository.specs.Saved.{AllSaved, Holds, IsSaved, SavedSource}
use Rattle.repository.specs.Stands.{Collection, HasManifest, IsListed, IsPriorListed, Prior, Stands, live_listed, marks_from}
use Rattle.repository.specs.States.{IsBacked, IsNumbered, IsStateIntact, ReadsAs, State, kept_numbers, listed_numbers, numbers_in, part_numbers}
use Rattle.repository.specs.Writes.{IsBeside, IsEither, IsOther, IsSavedAs, Wrote, Writes}
use Rattle.repository.proofs.FrameLemmas.{AreWithin, has-same, intact-same, parts-within, priors-same, priors-within, stands-same}
use Rattle.repository.proofs.IntactLemmas.{has-moved, intact-moved, intact-put}
use Rattle.repository.proofs.ListedLemmas.{IsStored, listing-now, marks-back, numbers-entries}
use Rattle.repository.proofs.NameLemmas.{prior_name-manifest, segment_name-manifest}
use Rattle.repository.proofs.SaveLemmas.{numbers-kept, numbers-sealed}
use Rattle.repository.proofs.NumberLemmas.{among-behind, among-either, among-left, among-own, clash, free-of}

-- ---- the manifest is replaced

-- a name that isn't that of the manifest
abbrev pub IsNotManifest : List ℕ → Type 0
IsNotManifest name = name ≡ manifest_name → ⊥

pub replaced-others : (b c : Option Files) (bytes : List ℕ) → c ≡ option_map (with_file manifest_name (Some bytes)) b → SameWhere IsNotManifest b c
replaced-others b c bytes put = SameWhere-changed IsNotManifest manifest_name (whole (Some bytes)) b b c (λ other. other refl) (SameWhere-same IsNotManifest b) put

-- ---- one part

-- a part of which all documents are in its file now
pub record IsThere (a c : Option Files) (p q : Marked) : Type 0 where
  pub kept : Kept
  pub source : q.source ≡ OnDisk kept
  pub backed : IsKeptBacked c kept (reads a p.source)
  pub marks : q.marks ≡ p.marks
  pub intact : IsPartIntact a p.source → IsIntact c kept.number

module _ (a c : Option Files) where
  pub there-reads : (p q : Marked) → IsThere a c p q → reads c q.source ≡ reads a p.source
  there-reads p q there = ap (reads c) there.source ∙ reads-backed c there.kept (reads a p.source) there.backed

  there-size : (p q : Marked) → IsThere a c p q → size q.source ≡ size p.source
  there-size p q there = sym (reads-length c q.source) ∙ ap (λ (ds : List Document). length ds) (there-reads p q there) ∙ reads-length a p.source

  there-tokens : (p q : Marked) → IsThere a c p q → tokens_in q.source ≡ tokens_in p.source
  there-tokens p q there = sym (tokens-reads c q.source) ∙ ap token_count (there-reads p q there) ∙ tokens-reads a p.source

  there-listed : (p q : Marked) → IsThere a c p q → IsListed c (entry_for q) (reads a p.source)
  there-listed p q there =
      let number : number_in q.source ≡ there.kept.number = ap number_in there.source in
      record { has = subst (λ (n : ℕ). HasSegment c n (reads a p.source)) (sym number) there.backed.has; count = reads-length a p.source ∙ sym (there-size p q there) }

  pub there-part : (p q : Marked) → IsThere a c p q → IsPartBacked c q.source
  there-part p q there = subst (IsPartBacked c) (sym there.source) (reads a p.source, there.backed)

  there-intact : (p q : Marked) → IsThere a c p q → IsPartIntact a p.source → IsPartIntact c q.source
  there-intact p q there intact = subst (IsPartIntact c) (sym there.source) ((reads a p.source, there.backed), there.intact intact)

  there-unmarked : (p q : Marked) → IsThere a c p q → IsWhole p → unmarked (reads a p.source) (marks_from 0 (length (reads a p.source)) (entry_for q).marks) ≡ unmarked (reads a p.source) p.marks
  there-unmarked p q there whole =
      let count : length (reads a p.source) ≡ length q.marks = reads-length a p.source ∙ sym whole ∙ sym (ap (λ (ms : List Bool). length ms) there.marks) in
      ap (λ (n : ℕ). unmarked (reads a p.source) (marks_from 0 n (entry_for q).marks)) count ∙ ap (unmarked (reads a p.source)) (marks-back q.marks ∙ there.marks)

  -- ---- all parts

  abbrev documents-there : List Marked → List (List Document)
  documents-there ps = map (λ (m : Marked). reads a m.source) ps

  pub all-listed : (ps qs : List Marked) → AllZip (IsThere a c) ps qs → AllZip (IsListed c) (entries_for qs) (documents-there ps)
  all-listed [] [] all = tt
  all-listed [] (q ∷ qs) all = absurd all
  all-listed (p ∷ ps) [] all = absurd all
  all-listed (p ∷ ps) (q ∷ qs) all = (there-listed p q all.0, all-listed ps qs all.1)

  pub all-parts : (ps qs : List Marked) → AllZip (IsThere a c) ps qs → All (λ (m : Marked). IsPartBacked c m.source) qs
  all-parts [] [] all = All-nil _
  all-parts [] (q ∷ qs) all = absurd all
  all-parts (p ∷ ps) [] all = absurd all
  all-parts (p ∷ ps) (q ∷ qs) all = All-cons (λ (m : Marked). IsPartBacked c m.source) q qs (there-part p q all.0) (all-parts ps qs all.1)

  pub all-intact : (ps qs : List Marked) → AllZip (IsThere a c) ps qs → All (λ (m : Marked). IsPartIntact a m.source) ps → All (λ (m : Marked). IsPartIntact c m.source) qs
  all-intact [] [] all intact = All-nil _
  all-intact [] (q ∷ qs) all intact = absurd all
  all-intact (p ∷ ps) [] all intact = absurd all
  all-intact (p ∷ ps) (q ∷ qs) all intact =
      All-cons (λ (m : Marked). IsPartIntact c m.source) q qs (there-intact p q all.0 (All-head (λ (m : Marked). IsPartIntact a m.source) p ps intact))
      (all-intact ps qs all.1 (All-tail (λ (m : Marked). IsPartIntact a m.source) p ps intact))

  pub all-live : (ps qs : List Marked) → AllZip (IsThere a c) ps qs → snapshots.live c qs ≡ snapshots.live a ps
  all-live [] [] all = refl
  all-live [] (q ∷ qs) all = absurd all
  all-live (p ∷ ps) [] all = absurd all
  all-live (p ∷ ps) (q ∷ qs) all =
      ap (λ (ds : List Document). unmarked ds q.marks ++ snapshots.live c qs) (there-reads p q all.0)
      ∙ ap (λ (ms : List Bool). unmarked (reads a p.source) ms ++ snapshots.live c qs) all.0.marks
      ∙ ap (λ (l : List Document). unmarked (reads a p.source) p.marks ++ l) (all-live ps qs all.1)

  pub all-live_listed : (ps qs : List Marked) → AllZip (IsThere a c) ps qs → All IsWhole ps → live_listed (entries_for qs) (documents-there ps) ≡ snapshots.live a ps
  all-live_listed [] [] all whole = refl
  all-live_listed [] (q ∷ qs) all whole = absurd all
  all-live_listed (p ∷ ps) [] all whole = absurd all
  all-live_listed (p ∷ ps) (q ∷ qs) all whole =
      ap (λ (l : List Document). l ++ live_listed (entries_for qs) (documents-there ps)) (there-unmarked p q all.0 (All-head IsWhole p ps whole))
      ∙ ap (λ (l : List Document). unmarked (reads a p.source) p.marks ++ l) (all-live_listed ps qs all.1 (All-tail IsWhole p ps whole))

  pub all-documents : (ps : List Marked) → sum_by (λ (ds : List Document). length ds) (documents-there ps) ≡ documents_held ps
  all-documents [] = refl
  all-documents (p ∷ ps) =
      omega (arith, sum_by-cons (λ (ds : List Document). length ds) (reads a p.source) (documents-there ps), sum_by-cons (λ (m : Marked). size m.source) p ps, reads-length a p.source, all-documents ps)

  pub all-tokens : (ps : List Marked) → sum_by token_count (documents-there ps) ≡ tokens_held ps
  all-tokens [] = refl
  all-tokens (p ∷ ps) =
      omega (arith, sum_by-cons token_count (reads a p.source) (documents-there ps), sum_by-cons (λ (m : Marked). tokens_in m.source) p ps, tokens-reads a p.source, all-tokens ps)

  sizes-there : (ps qs : List Marked) → AllZip (IsThere a c) ps qs → documents_held qs ≡ documents_held ps
  sizes-there [] [] all = refl
  sizes-there [] (q ∷ qs) all = absurd all
  sizes-there (p ∷ ps) [] all = absurd all
  sizes-there (p ∷ ps) (q ∷ qs) all =
      omega (arith, sum_by-cons (λ (m : Marked). size m.source) q qs, sum_by-cons (λ (m : Marked). size m.source) p ps, there-size p q all.0, sizes-there ps qs all.1)

  tokens-there : (ps qs : List Marked) → AllZip (IsThere a c) ps qs → tokens_held qs ≡ tokens_held ps
  tokens-there [] [] all = refl
  tokens-there [] (q ∷ qs) all = absurd all
  tokens-there (p ∷ ps) [] all = absurd all
  tokens-there (p ∷ ps) (q ∷ qs) all =
      omega (arith, sum_by-cons (λ (m : Marked). tokens_in m.source) q qs, sum_by-cons (λ (m : Marked). tokens_in m.source) p ps, there-tokens p q all.0, tokens-there ps qs all.1)

  whole-there : (ps qs : List Marked) → AllZip (IsThere a c) ps qs → All IsWhole qs → All IsWhole ps
  whole-there [] [] all whole = whole
  whole-there [] (q ∷ qs) all whole = absurd all
  whole-there (p ∷ ps) [] all whole = absurd all
  whole-there (p ∷ ps) (q ∷ qs) all whole =
      All-cons IsWhole p ps (sym (ap (λ (ms : List Bool). length ms) all.0.marks) ∙ All-head IsWhole q qs whole ∙ there-size p q all.0) (whole-there ps qs all.1 (All-tail IsWhole q qs whole))

-- ---- from what was saved

module _ (a b c : Option Files) (f : Files) (told : c ≡ Some f) (own : ℕ → Type 0) (kept : List ℕ) (clear : (n : ℕ) → own n → is_among n kept ≡ false) (same : SameWhere (IsOther own) a b)
    (others : SameWhere IsNotManifest b c) (taken : List ℕ) where
  held-file : (n : ℕ) (bytes : List ℕ) → Holds (segment_name n) bytes b → f (segment_name n) ≡ whole (Some bytes)
  held-file n bytes held = by b refl held others
    where
      by : (x : Option Files) → x ≡ b → Holds (segment_name n) bytes x → SameWhere IsNotManifest x c → f (segment_name n) ≡ whole (Some bytes)
      by None e h o = absurd (subst (SameWhere IsNotManifest None) told o)
      by (Some g) e h o =
          let s : SameWhere IsNotManifest (Some g) (Some f) = subst (SameWhere IsNotManifest (Some g)) told o in
          s (segment_name n) (λ m. segment_name-manifest n (sym m)) ∙ h

  file-behind : (n : ℕ) (g : Files) → b ≡ Some g → f (segment_name n) ≡ g (segment_name n)
  file-behind n g is = SameWhere-at IsNotManifest b c g f (segment_name n) others is told (λ m. segment_name-manifest n (sym m))

  has-behind : (n : ℕ) (docs : List Document) → HasSegment b n docs → HasSegment c n docs
  has-behind n docs h = has-moved b c f n docs h told (file-behind n h.files h.is_told)

  -- the file of a part that was on disk is read as it was put, where it was
  intact-behind : (n : ℕ) (g : Files) → a ≡ Some g → is_among n kept ≡ true → n < 2 ^ 64 → IsIntact a n → IsIntact c n
  intact-behind n g is among small intact =
      let t = SameWhere-told (IsOther own) a b g same is in
      intact-moved b c t.0 f n t.1 told (file-behind n t.0 t.1) (intact-same own kept clear a b same n g is among small intact)

  pub part-there : (p q : Marked) → AreWithin kept (numbers_in p.source) → IsPartBacked a p.source → IsSaved b taken p q → IsOnDisk q.source → IsThere a c p q
  part-there p q within backed saved stored = by p.source q.source refl refl within backed saved.1 stored
    where
      by : (s t : Source) → s ≡ p.source → t ≡ q.source → AreWithin kept (numbers_in s) → IsPartBacked a s → SavedSource b taken s t → IsOnDisk t → IsThere a c p q
      by s (InMemory docs) es et w back save onto = absurd onto
      by (InMemory docs) (OnDisk k) es et w back save onto =
          let file : f (segment_name k.number) ≡ whole (Some (segment docs)) = held-file k.number (segment docs) save.1.1.1.1.0 in
          let has : HasSegment c k.number docs = put-segment c f k.number docs told file save.1.0 save.1.1.1.1.1 in
          let is : IsKeptBacked c k docs = record { has = has; same = save.0 } in
          record { kept = k; source = sym et; backed = subst (λ (x : Source). IsKeptBacked c k (reads a x)) es is; marks = saved.0; intact = λ _. intact-put c f k.number (Some (segment docs)) told file }
      by (OnDisk j) (OnDisk k) es et w back save onto =
          let n = w j.number (among-own j.number []) in
          let has : HasSegment c j.number back.0 = has-behind j.number back.0 (has-same own kept clear a b same j.number back.0 n.0 n.1 back.1.has) in
          let is : IsKeptBacked c j back.0 = record { has = has; same = back.1.same } in
          let reads-is : reads a (OnDisk j) ≡ back.0 = reads-backed a j back.0 back.1 in
          let one : IsKeptBacked c j (reads a p.source) = subst (λ (ds : List Document). IsKeptBacked c j ds) (sym (ap (reads a) (sym es) ∙ reads-is)) is in
          record {
            kept = k;
            source = sym et;
            backed = subst (λ (x : Kept). IsKeptBacked c x (reads a p.source)) (sym save) one;
            marks = saved.0;
            intact = λ i.
                let before : IsPartIntact a (OnDisk j) = subst (IsPartIntact a) (sym es) i in
                subst (λ (x : Kept). IsIntact c x.number) (sym save) (intact-behind j.number back.1.has.files back.1.has.is_told n.0 n.1 before.1);
          }

  pub parts-there : (ps qs : List Marked) → AreWithin kept (part_numbers ps) → All (λ (m : Marked). IsPartBacked a m.source) ps → AllZip (IsSaved b taken) ps qs → All IsStored qs → AllZip (IsThere a c) ps qs
  parts-there [] [] within backed saved stored = tt
  parts-there [] (q ∷ qs) within backed saved stored = absurd saved
  parts-there (p ∷ ps) [] within backed saved stored = absurd saved
  parts-there (p ∷ ps) (q ∷ qs) within backed saved stored = (
    part-there p q (λ j e. within j (among-left j (numbers_in p.source) (part_numbers ps) e)) (All-head (λ (m : Marked). IsPartBacked a m.source) p ps backed) saved.0 (All-head IsStored q qs stored),
    parts-there ps qs (λ j e. within j (among-behind j (numbers_in p.source) (part_numbers ps) e)) (All-tail (λ (m : Marked). IsPartBacked a m.source) p ps backed) saved.1 (All-tail IsStored q qs stored),
  )

pub priors-replaced : (b c : Option Files) (es : List PriorEntry) (ps : List Prior) → SameWhere IsNotManifest b c → AllZip (IsPriorListed b) es ps → AllZip (IsPriorListed c) es ps
priors-replaced b c [] [] others all = tt
priors-replaced b c [] (p ∷ ps) others all = absurd all
priors-replaced b c (e ∷ es) [] others all = absurd all
priors-replaced b c (e ∷ es) (p ∷ ps) others all =
    let l = all.0 in
    let t = SameWhere-told IsNotManifest b c l.files others l.is_told in (
      record {
        files = t.0;
        is_told = t.1;
        name = l.name;
        file = SameWhere-at IsNotManifest b c l.files t.0 (prior_name e.number) others l.is_told t.1 (λ m. prior_name-manifest e.number (sym m)) ∙ l.file;
        form = l.form;
      },
      priors-replaced b c es ps others all.1,
    )

-- ---- nothing is being filled

pub filling-by : (p : Parts) (docs : List Document) → docs ≡ p.filling → (closed_by p docs).filling ≡ []
filling-by p [] e = sym e
filling-by p (d ∷ docs) e = refl

pub live-whole : (told : Option Files) (q : Parts) → q.filling ≡ [] → live told q ≡ snapshots.live told q.closed
live-whole told q e =
    flat_map-push (λ (m : Marked). unmarked (reads told m.source) m.marks) q.closed (filled q.filling q.marks) ∙ ap (λ (ds : List Document). snapshots.live told q.closed ++ unmarked ds q.marks) e
    ∙ append-nil (snapshots.live told q.closed)

pub documents-whole : (q : Parts) → q.filling ≡ [] → documents_held (all_parts q) ≡ documents_held q.closed
documents-whole q e = let more = sum-push size q.closed (filled q.filling q.marks) in let none : size (InMemory q.filling) ≡ 0 = ap (λ (ds : List Document). length ds) e in omega (arith, more, none)

pub tokens-whole : (q : Parts) → q.filling ≡ [] → tokens_held (all_parts q) ≡ tokens_held q.closed
tokens-whole q e = let more = sum-push tokens_in q.closed (filled q.filling q.marks) in let none : tokens_in (InMemory q.filling) ≡ 0 = ap token_count e in omega (arith, more, none)

backed-by : (a : Option Files) (p : Parts) (docs : List Document) → All (λ (m : Marked). IsPartBacked a m.source) p.closed → All (λ (m : Marked). IsPartBacked a m.source) (closed_by p docs).closed
backed-by a p [] backed = backed
backed-by a p (d ∷ docs) backed = All-push (λ (m : Marked). IsPartBacked a m.source) p.closed (filled p.filling p.marks) backed tt

intact-by : (a : Option Files) (p : Parts) (docs : List Document) → All (λ (m : Marked). IsPartIntact a m.source) p.closed → All (λ (m : Marked). IsPartIntact a m.source) (closed_by p docs).closed
intact-by a p [] intact = intact
intact-by a p (d ∷ docs) intact = All-push (λ (m : Marked). IsPartIntact a m.source) p.closed (filled p.filling p.marks) intact tt

-- ---- all is saved and listed

-- what is known of the parts that are held
pub record AreFit (k : Contents) : Type 0 where
  pub whole : All IsWhole k.parts.closed
  pub distinct : IsDistinct bytes_eq (docnos_of k.parts.closed)
  pub documents : documents_held k.parts.closed ≤ k.limits.held_docs
  pub tokens : tokens_held k.parts.closed ≤ k.limits.held_tokens
  pub few : documents_held k.parts.closed ≤ MAX_HELD_DOCS

-- what is known of the files of its parts and priors, whatever the manifest lists
pub record AreFiled (told : Option Files) (s : State) : Type 0 where
  pub files : Files
  pub is_told : told ≡ Some files
  pub parts : All (λ (m : Marked). IsPartBacked told m.source) s.held.parts.closed
  pub parts_within : AreWithin (kept_numbers s) (part_numbers s.held.parts.closed)
  pub priors : (ps : List Prior) × AllZip (IsPriorListed told) s.priors ps
  pub priors_within : AreWithin (kept_numbers s) (prior_numbers s.priors)

pub filed : (told : Option Files) (s : State) → IsBacked told s → AreFiled told s
filed told s backed = record {
  files = backed.has.files;
  is_told = backed.has.is_told;
  parts = backed.parts;
  parts_within = parts-within told s backed;
  priors = backed.priors;
  priors_within = priors-within told s backed;
}

abbrev pub listed_text : Contents → ℕ → List ℕ → List PriorEntry → List ℕ
listed_text k after stale priors = manifest_text (listing after (entries_for k.parts.closed) stale priors)

abbrev pub state_of : State → Contents → ℕ → List ℕ → State
state_of s k after stale = record { held = k; next = after; stale = stale; priors = s.priors; merge = s.merge; usable = true }

module _ (a b c : Option Files) (s : State) (k : Contents) (after : ℕ) (stale others : List ℕ) (own : ℕ → Type 0) (clear : (n : ℕ) → own n → is_among n (kept_numbers s) ≡ false)
    (same : SameWhere (IsOther own) a b) (saved : AllSaved b others s.next after s.held k) (form : IsListing after (entries_for k.parts.closed) stale s.priors) (fit : AreFit k)
    (put : c ≡ option_map (with_file manifest_name (Some (listed_text k after stale s.priors))) b) where
  abbrev closed-now : List Marked
  closed-now = (sealed s.held.parts).closed

  sealed-filling : (sealed s.held.parts).filling ≡ []
  sealed-filling = filling-by s.held.parts s.held.parts.filling refl

  filling-now : k.parts.filling ≡ []
  filling-now = ap (λ (x : Contents). x.parts.filling) saved.rest ∙ sealed-filling

  module _ (backed : AreFiled a s) where
    abbrev before : (g : Files) × (b ≡ Some g)
    before = SameWhere-told (IsOther own) a b backed.files same backed.is_told

    abbrev pub files-now : Files
    files-now = with_file manifest_name (Some (listed_text k after stale s.priors)) before.0

    pub told-now : c ≡ Some files-now
    told-now = put ∙ ap (option_map (with_file manifest_name (Some (listed_text k after stale s.priors)))) before.1

    has-now : HasManifest c (listing after (entries_for k.parts.closed) stale s.priors)
    has-now = record {
      files = files-now;
      is_told = told-now;
      file = with_file-same manifest_name (Some (listed_text k after stale s.priors)) before.0;
      form = manifest-of after (entries_for k.parts.closed) stale s.priors form;
    }

    within : AreWithin (kept_numbers s) (part_numbers closed-now)
    within = subst (AreWithin (kept_numbers s)) (sym (numbers-sealed s.held.parts)) backed.parts_within

    pub there : AllZip (IsThere a c) closed-now k.parts.closed
    there =
        parts-there a b c files-now told-now own (kept_numbers s) clear same (replaced-others b c (listed_text k after stale s.priors) put) saved.taken closed-now k.parts.closed within
        (backed-by a s.held.parts s.held.parts.filling backed.parts) saved.parts saved.on_disk

    priors-now : (ps : List Prior) → AllZip (IsPriorListed a) s.priors ps → AllZip (IsPriorListed c) s.priors ps
    priors-now ps all =
        priors-replaced b c s.priors ps (replaced-others b c (listed_text k after stale s.priors) put) (priors-same own (kept_numbers s) clear a b same s.priors ps backed.priors_within all)

    pub backed-now : IsBacked c (state_of s k after stale)
    backed-now = record {
      list = listing after (entries_for k.parts.closed) stale s.priors;
      has = has-now;
      next_is = refl;
      numbers_are = numbers-entries k.parts.closed saved.on_disk;
      stale_are = refl;
      priors_are = refl;
      parts = all-parts a c closed-now k.parts.closed there;
      priors = (backed.priors.0, priors-now backed.priors.0 backed.priors.1);
    }

    pub intact-now : IsStateIntact a s → IsStateIntact c (state_of s k after stale)
    intact-now intact = all-intact a c closed-now k.parts.closed there (intact-by a s.held.parts s.held.parts.filling intact)

    live-now : live c k.parts ≡ live a s.held.parts
    live-now =
        live-whole c k.parts filling-now ∙ all-live a c closed-now k.parts.closed there ∙ sym (live-whole a (sealed s.held.parts) sealed-filling) ∙ live-sealed a s.held.parts

    documents-now : documents_held (all_parts k.parts) ≡ documents_held (all_parts s.held.parts)
    documents-now =
        documents-whole k.parts filling-now ∙ sizes-there a c closed-now k.parts.closed there ∙ sym (documents-whole (sealed s.held.parts) sealed-filling) ∙ documents-sealed s.held.parts

    tokens-now : tokens_held (all_parts k.parts) ≡ tokens_held (all_parts s.held.parts)
    tokens-now = tokens-whole k.parts filling-now ∙ tokens-there a c closed-now k.parts.closed there ∙ sym (tokens-whole (sealed s.held.parts) sealed-filling) ∙ tokens-sealed s.held.parts

    module _ (d : Collection) (read : ReadsAs a s d) where
      pub reads-now : ReadsAs c (state_of s k after stale) d
      reads-now = record {
        live_are = live-now ∙ read.live_are;
        documents_are = documents-now ∙ read.documents_are;
        tokens_are = tokens-now ∙ read.tokens_are;
        priors_are = priors-now d.priors read.priors_are;
      }

      live-closed : d.live ≡ snapshots.live a closed-now
      live-closed = sym read.live_are ∙ sym (live-sealed a s.held.parts) ∙ live-whole a (sealed s.held.parts) sealed-filling

      documents-closed : d.documents ≡ documents_held closed-now
      documents-closed = sym read.documents_are ∙ sym (documents-sealed s.held.parts) ∙ documents-whole (sealed s.held.parts) sealed-filling

      tokens-closed : d.tokens ≡ tokens_held closed-now
      tokens-closed = sym read.tokens_are ∙ sym (tokens-sealed s.held.parts) ∙ tokens-whole (sealed s.held.parts) sealed-filling

      pub stands-now : Stands k.limits c d
      stands-now = record {
        list = listing after (entries_for k.parts.closed) stale s.priors;
        has = has-now;
        segments = map (λ (m : Marked). reads a m.source) closed-now;
        listed = all-listed a c closed-now k.parts.closed there;
        held = record {
          live_are = live-closed ∙ sym (all-live_listed a c closed-now k.parts.closed there (whole-there a c closed-now k.parts.closed there fit.whole));
          distinct = subst (IsDistinct bytes_eq)
              (sym (docnos-live c k.parts.closed) ∙ ap (map (λ (x : Document). x.docno)) (all-live a c closed-now k.parts.closed there ∙ sym live-closed)) fit.distinct;
          documents_are = documents-closed ∙ sym (all-documents a c closed-now);
          tokens_are = tokens-closed ∙ sym (all-tokens a c closed-now);
          documents_fit = (let n = documents-closed in let m = sizes-there a c closed-now k.parts.closed there in let most = fit.documents in omega (arith, n, m, most));
          tokens_fit = (let n = tokens-closed in let m = tokens-there a c closed-now k.parts.closed there in let most = fit.tokens in omega (arith, n, m, most));
        };
        priors = priors-now d.priors read.priors_are;
      }

  pub limits-now : k.limits ≡ s.held.limits
  limits-now = ap (λ (x : Contents). x.limits) saved.rest

  -- the call is done
  pub wrote-now : Wrote (λ d. d) a c s (state_of s k after stale)
  wrote-now = record {
    reads = λ d backed read. reads-now (filed a s backed) d read;
    stands = λ d backed read. stands-now (filed a s backed) d read;
    backed = λ backed. backed-now (filed a s backed);
    intact = λ backed intact. intact-now (filed a s backed) intact;
  }

-- ---- while it goes on

beside-other : (own : ℕ → Type 0) (name : List ℕ) → IsBeside own name → IsOther own name
beside-other own name beside = beside.1

module _ (a b : Option Files) (s : State) (own : ℕ → Type 0) (clear : (n : ℕ) → own n → is_among n (kept_numbers s) ≡ false) (same : SameWhere (IsOther own) a b) where
  pub beside-begun : SameWhere (IsBeside own) a b
  beside-begun = SameWhere-fewer (IsOther own) (IsBeside own) a b (beside-other own) same

  pub beside-listed : (c : Option Files) (bytes : List ℕ) → OldOrNew manifest_name (Some bytes) b c → SameWhere (IsBeside own) a c
  beside-listed c bytes changed = SameWhere-step (IsBeside own) manifest_name (Some bytes) a b c (λ beside. beside.0 refl) beside-begun changed

module _ (past mid since : ℕ → Files → Type 0) (a b : Option Files) (s : State) (own : ℕ → Type 0) (clear : (n : ℕ) → own n → is_among n (kept_numbers s) ≡ false) (same : SameWhere (IsOther own) a b)
    (first : Leaves past mid (SameWhere (IsOther own) a)) where
  pub leaves-begun : Leaves past mid (SameWhere (IsBeside own) a)
  leaves-begun = record { each = λ t f h. elim (first.each t f h) [ inl old ↦ inl old | inr now ↦ inr (SameWhere-fewer (IsOther own) (IsBeside own) a (Some f) (beside-other own) now) ] }

  pub stops-begun : (c d : Collection) → IsBacked a s → Stands s.held.limits a c → Leaves past mid (IsEither s.held.limits c d)
  stops-begun c d backed stands = record {
    each = λ t f h. elim (first.each t f h) [ inl old ↦ inl old | inr now ↦ inr (inl (stands-same a s backed own clear s.held.limits c (Some f) now stands)) ];
  }

  module _ (bytes : List ℕ) (second : Leaves mid since (OldOrNew manifest_name (Some bytes) b)) where
    pub leaves-listed : Leaves past since (SameWhere (IsBeside own) a)
    leaves-listed = record {
      each = λ t f h. elim (second.each t f h) [ inl old ↦ leaves-begun.each t f old | inr changed ↦ inr (beside-listed a b s own clear same (Some f) bytes changed) ];
    }

    pub stops-listed : (c d : Collection) → IsBacked a s → Stands s.held.limits a c → ((f : Files) → Some f ≡ option_map (with_file manifest_name (Some bytes)) b → Stands s.held.limits (Some f) d)
        → Leaves past since (IsEither s.held.limits c d)
    stops-listed c d backed stands into = record {
      each = λ t f h. elim (second.each t f h) [
        | inl old ↦ (stops-begun c d backed stands).each t f old
        | inr changed ↦ inr (elim changed [
          | inl kept ↦ inl (stands-same a s backed own clear s.held.limits c (Some f) (subst (SameWhere (IsOther own) a) (sym kept) same) stands)
          | inr new ↦ inr (into f new)
        ])
      ];
    }

-- ---- the whole call

-- a number that isn't listed isn't that of a file that is read
pub unlisted-clear : (s : State) (n : ℕ) → is_among n (listed_numbers s) ≡ false → is_among n (kept_numbers s) ≡ false
unlisted-clear s n free = free-of (is_among n (kept_numbers s)) (λ e. clash (is_among n (listed_numbers s)) (there e) free)
  where
    there : is_among n (kept_numbers s) ≡ true → is_among n (listed_numbers s) ≡ true
    there e = elim (among-either n (part_numbers s.held.parts.closed) (prior_numbers s.priors) e) [
      | inl part ↦ among-left n (part_numbers s.held.parts.closed) (s.stale ++ prior_numbers s.priors) part
      | inr prior ↦ among-behind n (part_numbers s.held.parts.closed) (s.stale ++ prior_numbers s.priors) (among-behind n s.stale (prior_numbers s.priors) prior)
    ]

module _ {S : Type 0} (files : S → Option Files) (since : S → ℕ → Files → Type 0) (s : State) (own : ℕ → Type 0) (clear : (n : ℕ) → own n → is_among n (kept_numbers s) ≡ false) (old mid : S)
    (same : SameWhere (IsOther own) (files old) (files mid)) (first : Leaves (since old) (since mid) (SameWhere (IsOther own) (files old))) where
  pub writes-begun : Writes files since own (λ d. d) s old mid
  writes-begun = record {
    others = beside-begun (files old) (files mid) s own clear same;
    others_stay = leaves-begun (since old) (since mid) (since mid) (files old) (files mid) s own clear same first;
    stops = λ c d backed stands read. stops-begun (since old) (since mid) (since mid) (files old) (files mid) s own clear same first c d backed stands;
  }

  module _ (new : S) (k : Contents) (after : ℕ) (stale others : List ℕ) (saved : AllSaved (files mid) others s.next after s.held k) (form : IsListing after (entries_for k.parts.closed) stale s.priors) (fit : AreFit k)
      (changed : OldOrNew manifest_name (Some (listed_text k after stale s.priors)) (files mid) (files new))
      (second : Leaves (since mid) (since new) (OldOrNew manifest_name (Some (listed_text k after stale s.priors)) (files mid))) where
    pub writes-listed : Writes files since own (λ d. d) s old new
    writes-listed = record {
      others = beside-listed (files old) (files mid) s own clear same (files new) (listed_text k after stale s.priors) changed;
      others_stay = leaves-listed (since old) (since mid) (since new) (files old) (files mid) s own clear same first (listed_text k after stale s.priors) second;
      stops = λ c d backed stands read.
          stops-listed (since old) (since mid) (since new) (files old) (files mid) s own clear same first (listed_text k after stale s.priors) second c d backed stands
          (λ f put. subst (λ (l : Limits). Stands l (Some f) d) (limits-now (files old) (files mid) (Some f) s k after stale others own clear same saved form fit put)
          (stands-now (files old) (files mid) (Some f) s k after stale others own clear same saved form fit put (filed (files old) s backed) d read));
    }

-- ---- the state behind it

pub saved-as : (b : Option Files) (s : State) (k : Contents) (after : ℕ) (stale others : List ℕ) → AllSaved b others s.next after s.held k → IsSavedAs s (state_of s k after stale) stale
saved-as b s k after stale others saved = record {
  on_disk = saved.on_disk;
  none_filling = ap (λ (x : Contents). x.parts.filling) saved.rest ∙ filling-by s.held.parts s.held.parts.filling refl;
  listed = λ n e. numbers-kept b saved.taken (sealed s.held.parts).closed k.parts.closed saved.parts n (ap (is_among n) (numbers-sealed s.held.parts) ∙ e);
  docnos = saved.docnos;
  limits = ap (λ (x : Contents). x.limits) saved.rest;
  generation = ap (λ (x : Contents). x.generation) saved.rest;
  next = saved.rises;
  in_turn = saved.in_turn;
  stale = refl;
  priors = refl;
  merge = refl;
}

pub numbered-now : (b : Option Files) (s : State) (k : Contents) (after : ℕ) (stale others : List ℕ) → IsNumbered s → AllSaved b others s.next after s.held k → IsListing after (entries_for k.parts.closed) stale s.priors
    → IsNumbered (state_of s k after stale)
numbered-now b s k after stale others n saved form = record {
  list = listing after (entries_for k.parts.closed) stale s.priors;
  form = manifest-of after (entries_for k.parts.closed) stale s.priors form;
  next_is = refl;
  numbers_are = numbers-entries k.parts.closed saved.on_disk;
  stale_are = refl;
  priors_are = refl;
  sized = saved.sized n.sized;
}

-- ---- by the lists that are handed on

pub others-handed : (st stale : List ℕ) (ps priors : List PriorEntry) → st ≡ stale → ps ≡ priors → st ++ prior_numbers ps ≡ stale ++ prior_numbers priors
others-handed st stale ps priors a b = ap (λ (l : List ℕ). l ++ prior_numbers ps) a ∙ ap (λ (l : List PriorEntry). stale ++ prior_numbers l) b

module _ (after : ℕ) (ms closed : List Marked) (st stale : List ℕ) (ps priors : List PriorEntry) (parts : ms ≡ closed) (left : st ≡ stale) (rows : ps ≡ priors) where
  pub form-handed : IsListing after (entries_for closed) stale priors → IsListing after (entries_for ms) st ps
  form-handed form =
      subst (λ (x : List Marked). IsListing after (entries_for x) st ps) (sym parts)
      (subst (λ (x : List ℕ). IsListing after (entries_for closed) x ps) (sym left) (subst (λ (x : List PriorEntry). IsListing after (entries_for closed) stale x) (sym rows) form))

  pub text-handed : manifest_text (listing after (entries_for ms) st ps) ≡ manifest_text (listing after (entries_for closed) stale priors)
  text-handed =
      ap (λ (x : List Marked). manifest_text (listing after (entries_for x) st ps)) parts ∙ ap (λ (x : List ℕ). manifest_text (listing after (entries_for closed) x ps)) left
      ∙ ap (λ (x : List PriorEntry). manifest_text (listing after (entries_for closed) stale x)) rows

-- what was saved can be listed with these stale files
pub form-now : (b : Option Files) (s : State) (k : Contents) (after : ℕ) (stale others : List ℕ) → IsNumbered s → AllSaved b others s.next after s.held k → AreFit k → length stale < 2 ^ 64 → AreRising 0 stale → AreNumbered after (part_numbers k.parts.closed ++ (stale ++ prior_numbers s.priors)) → IsListing after (entries_for k.parts.closed) stale s.priors
form-now b s k after stale others n saved fit few_stale rise numbered =
    listing-now s after k.parts.closed stale n saved.rises saved.fits saved.on_disk (saved.sized n.sized) fit.whole fit.few few_stale rise numbered

module _ {S : Type 0} (files : S → Option Files) (since : S → ℕ → Files → Type 0) (s t : State) (view : s ≡ t) (own : State → ℕ → Type 0) (clear : (n : ℕ) → own s n → is_among n (kept_numbers s) ≡ false) (old mid : S)
    (same : SameWhere (IsOther (own s)) (files old) (files mid)) (first : Leaves (since old) (since mid) (SameWhere (IsOther (own s)) (files old))) where
  pub begun : Writes files since (own t) (λ d. d) t old mid
  begun = subst (λ (x : State). Writes files since (own x) (λ d. d) x old mid) view (writes-begun files since s (own s) clear old mid same first)

  module _ (k : Contents) (after : ℕ) (stale others : List ℕ) (saved : AllSaved (files mid) others s.next after s.held k) (form : IsListing after (entries_for k.parts.closed) stale s.priors) (fit : AreFit k) (ms : List Marked) (st : List ℕ)
      (ps : List PriorEntry) (parts : ms ≡ k.parts.closed) (left : st ≡ stale) (rows : ps ≡ s.priors) (new : S) where
    pub listed : OldOrNew manifest_name (Some (manifest_text (listing after (entries_for ms) st ps))) (files mid) (files new)
        → Leaves (since mid) (since new) (OldOrNew manifest_name (Some (manifest_text (listing after (entries_for ms) st ps))) (files mid)) → Writes files since (own t) (λ d. d) t old new
    listed changed second =
        let text = text-handed after ms k.parts.closed st stale ps s.priors parts left rows in
        let changed' = subst (λ (l : List ℕ). OldOrNew manifest_name (Some l) (files mid) (files new)) text changed in
        let second' = subst (λ (l : List ℕ). Leaves (since mid) (since new) (OldOrNew manifest_name (Some l) (files mid))) text second in
        subst (λ (x : State). Writes files since (own x) (λ d. d) x old new) view
        (writes-listed files since s (own s) clear old mid same first new k after stale others saved form fit changed' second')

    pub wrote : files new ≡ option_map (with_file manifest_name (Some (manifest_text (listing after (entries_for ms) st ps)))) (files mid) → Wrote (λ d. d) (files old) (files new) t (state_of s k after stale)
    wrote put =
        let text = text-handed after ms k.parts.closed st stale ps s.priors parts left rows in
        let put' = put ∙ ap (λ (l : List ℕ). option_map (with_file manifest_name (Some l)) (files mid)) text in
        subst (λ (x : State). Wrote (λ d. d) (files old) (files new) x (state_of s k after stale)) view
        (wrote-now (files old) (files mid) (files new) s k after stale others (own s) clear same saved form fit put')
