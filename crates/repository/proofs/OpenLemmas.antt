-- Parts that were opened over files that stand for a collection read as that collection.
use Rattle.std.proofs.Common.{◌≡◌, ◌≤◌, ◌<◌, ℕ, zero, suc, get_or, Bool, true, false, List, [], ◌∷◌, ◌++◌, ◌⊎◌, inl, inr, length, map, Option, Some, None, refl, sym, ap, subst, ◌∙◌, arith}
use Rattle.std.specs.Prelude.{is_some, sum_by}
use Rattle.std.specs.List.{All, AllZip, IsDistinct}
use Rattle.std.specs.Str.{bytes_eq}
use Rattle.std.proofs.lemmas.List.{append-nil}
use Rattle.std.proofs.lemmas.List.Elements.{All-cons, All-nil}
use Rattle.std.proofs.lemmas.List.Sums.{sum_by-cons}
use Rattle.ri_base.specs.Collection.{token_count}
use Rattle.ri_base.specs.Documents.{Document}
use Rattle.ri_base.specs.Faults.{IsOutside}
use Rattle.ri_base.specs.declared.seg_fault.SegFault.{SegFault}
use Rattle.store_ends.specs.Files.{File, Files}
use Rattle.manifest.specs.Files.{numbers_of}
use Rattle.manifest.specs.Fits.{FitsDocs, IsManifest}
use Rattle.manifest.specs.Listing.{FitEntries}
use Rattle.manifest.specs.declared.manifest.Manifest.{Manifest}
use Rattle.manifest.specs.declared.manifest.PriorEntry.{PriorEntry}
use Rattle.manifest.specs.declared.manifest.SegEntry.{SegEntry}
use Rattle.manifest.proofs.ListingLaws.{listing-of}
use Rattle.disk_index.specs.Kept.{kept_of}
use Rattle.disk_index.specs.Parts.{IsPartBacked, OnDisk, reads, size}
use Rattle.disk_index.specs.Reads.{IsBacked, HasSegment}
use Rattle.disk_index.proofs.RebuiltLemmas.{reads-backed, reads-length}
use Rattle.disk_index.specs.Snapshots as snapshots
use Rattle.disk_index.specs.Snapshots.{Marked, documents_held, unmarked}
use Rattle.holdings.specs.Contents.{Contents, closed_held}
use Rattle.holdings.specs.MarkedParts.{IsWritable, docnos_of, filled, tokens_held, tokens_in}
use Rattle.holdings.specs.Parts.{all_parts, live}
use Rattle.holdings.specs.Placing.{IsPartsFault}
use Rattle.holdings.specs.declared.limits.Limits.{Limits}
use Rattle.holdings.specs.declared.refusals.PartsFault.{PartsFault}
use Rattle.holdings.specs.declared.refusals.PartsFault.TheVariants.{TooManyDocs, TooManyTokens, Repeated, Memory}
use Rattle.holdings.proofs.LiveLemmas.{docnos-live, flat_map-push, tokens-reads}
use Rattle.holdings.proofs.SumLemmas.{AreCounted-closed}
use Rattle.repository.specs.Names.{manifest_name}
use Rattle.repository.specs.Entries.{IsOnDisk}
use Rattle.repository.specs.Opening.{AreEntriesHeld, IsAcrossFault, IsEntryFault, IsEntryOpened, IsOpeningFault, IsPartOf, IsRepositoryOpened, of_all, of_entry, of_outside}
use Rattle.repository.specs.Stands.{AreHeld, Collection, HasManifest, IsListed, IsManifestRead, IsPriorListed, Stands, live_listed, marks_from}
use Rattle.repository.specs.States.{HasDocs, IsBacked as IsRepositoryBacked, IsNumbered, IsSized, ReadsAs, State, numbers_in, part_numbers}
use Rattle.repository.proofs.ManifestLemmas.{IsManifestRead-same, manifest-read}

-- ---- one entry

entry-backed : (told : Option Files) (e : SegEntry) (m : Marked) (docs : List Document) → (o : IsEntryOpened told e m) → IsListed told e docs → IsBacked told o.kept docs
entry-backed told e m docs o l =
    let same : o.kept ≡ kept_of o.kept.number docs = o.exact docs l.has l.count ∙ ap (λ n. kept_of n docs) (sym o.number) in
    record { has = subst (λ n. HasSegment told n docs) (sym o.number) l.has; same = same }

entry-reads : (told : Option Files) (e : SegEntry) (m : Marked) (docs : List Document) → IsEntryOpened told e m → IsListed told e docs → reads told m.source ≡ docs
entry-reads told e m docs o l = ap (reads told) o.source ∙ reads-backed told o.kept docs (entry-backed told e m docs o l)

entry-size : (told : Option Files) (e : SegEntry) (m : Marked) (docs : List Document) → IsEntryOpened told e m → IsListed told e docs → size m.source ≡ length docs
entry-size told e m docs o l = sym (reads-length told m.source) ∙ ap (λ (ds : List Document). length ds) (entry-reads told e m docs o l)

entry-tokens : (told : Option Files) (e : SegEntry) (m : Marked) (docs : List Document) → IsEntryOpened told e m → IsListed told e docs → tokens_in m.source ≡ token_count docs
entry-tokens told e m docs o l = sym (tokens-reads told m.source) ∙ ap token_count (entry-reads told e m docs o l)

entry-marks : (told : Option Files) (e : SegEntry) (m : Marked) (docs : List Document) → IsEntryOpened told e m → IsListed told e docs → m.marks ≡ marks_from 0 (length docs) e.marks
entry-marks told e m docs o l =
    let count : length o.kept.outlines ≡ length docs = sym (ap size o.source) ∙ entry-size told e m docs o l in
    o.marks ∙ ap (λ n. marks_from 0 n e.marks) count

entry-part : (told : Option Files) (e : SegEntry) (m : Marked) (docs : List Document) → IsEntryOpened told e m → IsListed told e docs → IsPartBacked told m.source
entry-part told e m docs o l = subst (IsPartBacked told) (sym o.source) (docs, entry-backed told e m docs o l)

-- the documents of the entry at a place
pub listed-at : (told : Option Files) (es : List SegEntry) (dss : List (List Document)) (i : ℕ) (e : SegEntry) → AllZip (IsListed told) es dss → i < length es → e ≡ get_or es i e → (docs : List Document) × IsListed told e docs
listed-at told [] dss i e listed below at = absurd (omega (arith, below))
listed-at told (x ∷ es) [] i e listed below at = absurd listed
listed-at told (x ∷ es) (ds ∷ dss) zero e listed below at = (ds, subst (λ (y : SegEntry). IsListed told y ds) (sym at) listed.0)
listed-at told (x ∷ es) (ds ∷ dss) (suc i) e listed below at = listed-at told es dss i e listed.1 (omega (arith, below)) at

-- a part of a fault is one of the entries
pub part-of : (limits : Limits) (ms : List Marked) (n : ℕ) (fault : PartsFault) → length ms ≡ n → IsPartsFault limits ms fault → IsPartOf n fault
part-of limits ms n (TooManyDocs part) long fault = omega (arith, long, fault.0)
part-of limits ms n (TooManyTokens part) long fault = omega (arith, long, fault.0)
part-of limits ms n (Repeated part id) long fault = omega (arith, long, fault.0)
part-of limits ms n Memory long fault = tt

-- ---- all entries

abbrev CanWrite : Marked → Type 0
CanWrite m = IsWritable m.source

pub writable-opened : (told : Option Files) (es : List SegEntry) (ms : List Marked) → AllZip (IsEntryOpened told) es ms → All (λ (m : Marked). IsWritable m.source) ms
writable-opened told [] [] opened = All-nil CanWrite
writable-opened told [] (m ∷ ms) opened = absurd opened
writable-opened told (e ∷ es) [] opened = absurd opened
writable-opened told (e ∷ es) (m ∷ ms) opened = All-cons CanWrite m ms (subst IsWritable (sym opened.0.source) tt) (writable-opened told es ms opened.1)

abbrev IsStored : Marked → Type 0
IsStored m = IsOnDisk m.source

parts-stored : (told : Option Files) (es : List SegEntry) (ms : List Marked) → AllZip (IsEntryOpened told) es ms → All IsStored ms
parts-stored told [] [] opened = All-nil IsStored
parts-stored told [] (m ∷ ms) opened = absurd opened
parts-stored told (e ∷ es) [] opened = absurd opened
parts-stored told (e ∷ es) (m ∷ ms) opened = All-cons IsStored m ms (subst IsOnDisk (sym opened.0.source) tt) (parts-stored told es ms opened.1)

-- all documents are in files
pub stored-opened : (told : Option Files) (limits : Limits) (es : List SegEntry) (held : Contents) → AreEntriesHeld told limits es held → All (λ (m : Marked). IsOnDisk m.source) held.parts.closed × (held.parts.filling ≡ [])
stored-opened told limits es held h =
    (subst (λ (x : Contents). All IsStored x.parts.closed) (sym h.same) (parts-stored told es h.parts h.opened), ap (λ (x : Contents). x.parts.filling) h.same)

pub sized-opened : (told : Option Files) (es : List SegEntry) (ms : List Marked) → AllZip (IsEntryOpened told) es ms → FitEntries es → All IsSized ms
sized-opened told [] [] opened fit = All-nil IsSized
sized-opened told [] (m ∷ ms) opened fit = absurd opened
sized-opened told (e ∷ es) [] opened fit = absurd opened
sized-opened told (e ∷ es) (m ∷ ms) opened fit =
    let here : HasDocs (OnDisk opened.0.kept) = subst FitsDocs (sym opened.0.count) fit.0.0 in
    All-cons IsSized m ms (subst HasDocs (sym opened.0.source) here) (sized-opened told es ms opened.1 fit.1)

pub numbers-opened : (told : Option Files) (es : List SegEntry) (ms : List Marked) → AllZip (IsEntryOpened told) es ms → numbers_of es ≡ part_numbers ms
numbers-opened told [] [] opened = refl
numbers-opened told [] (m ∷ ms) opened = absurd opened
numbers-opened told (e ∷ es) [] opened = absurd opened
numbers-opened told (e ∷ es) (m ∷ ms) opened =
    let here : numbers_in m.source ≡ e.number ∷ [] = ap numbers_in opened.0.source ∙ ap (λ n. n ∷ []) opened.0.number in
    ap (λ ns. e.number ∷ ns) (numbers-opened told es ms opened.1) ∙ sym (ap (λ ns. ns ++ part_numbers ms) here)

module _ (told : Option Files) where
  live-opened : (es : List SegEntry) (dss : List (List Document)) (ms : List Marked) → AllZip (IsListed told) es dss → AllZip (IsEntryOpened told) es ms → snapshots.live told ms ≡ live_listed es dss
  live-opened [] [] [] listed opened = refl
  live-opened [] [] (m ∷ ms) listed opened = absurd opened
  live-opened [] (ds ∷ dss) ms listed opened = absurd listed
  live-opened (e ∷ es) [] ms listed opened = absurd listed
  live-opened (e ∷ es) (ds ∷ dss) [] listed opened = absurd opened
  live-opened (e ∷ es) (ds ∷ dss) (m ∷ ms) listed opened =
      ap (λ (l : List Document). unmarked l m.marks ++ snapshots.live told ms) (entry-reads told e m ds opened.0 listed.0)
      ∙ ap (λ (marks : List Bool). unmarked ds marks ++ snapshots.live told ms) (entry-marks told e m ds opened.0 listed.0)
      ∙ ap (λ l. unmarked ds (marks_from 0 (length ds) e.marks) ++ l) (live-opened es dss ms listed.1 opened.1)

  documents-opened : (es : List SegEntry) (dss : List (List Document)) (ms : List Marked) → AllZip (IsListed told) es dss → AllZip (IsEntryOpened told) es ms → documents_held ms ≡ sum_by (λ (ds : List Document). length ds) dss
  documents-opened [] [] [] listed opened = refl
  documents-opened [] [] (m ∷ ms) listed opened = absurd opened
  documents-opened [] (ds ∷ dss) ms listed opened = absurd listed
  documents-opened (e ∷ es) [] ms listed opened = absurd listed
  documents-opened (e ∷ es) (ds ∷ dss) [] listed opened = absurd opened
  documents-opened (e ∷ es) (ds ∷ dss) (m ∷ ms) listed opened =
      omega (arith, sum_by-cons (λ (x : Marked). size x.source) m ms, sum_by-cons (λ (x : List Document). length x) ds dss, entry-size told e m ds opened.0 listed.0, documents-opened es dss ms listed.1 opened.1)

  tokens-opened : (es : List SegEntry) (dss : List (List Document)) (ms : List Marked) → AllZip (IsListed told) es dss → AllZip (IsEntryOpened told) es ms → tokens_held ms ≡ sum_by token_count dss
  tokens-opened [] [] [] listed opened = refl
  tokens-opened [] [] (m ∷ ms) listed opened = absurd opened
  tokens-opened [] (ds ∷ dss) ms listed opened = absurd listed
  tokens-opened (e ∷ es) [] ms listed opened = absurd listed
  tokens-opened (e ∷ es) (ds ∷ dss) [] listed opened = absurd opened
  tokens-opened (e ∷ es) (ds ∷ dss) (m ∷ ms) listed opened =
      omega (arith, sum_by-cons (λ (x : Marked). tokens_in x.source) m ms, sum_by-cons token_count ds dss, entry-tokens told e m ds opened.0 listed.0, tokens-opened es dss ms listed.1 opened.1)

  parts-opened : (es : List SegEntry) (dss : List (List Document)) (ms : List Marked) → AllZip (IsListed told) es dss → AllZip (IsEntryOpened told) es ms → All (λ (m : Marked). IsPartBacked told m.source) ms
  parts-opened [] [] [] listed opened = All-nil _
  parts-opened [] [] (m ∷ ms) listed opened = absurd opened
  parts-opened [] (ds ∷ dss) ms listed opened = absurd listed
  parts-opened (e ∷ es) [] ms listed opened = absurd listed
  parts-opened (e ∷ es) (ds ∷ dss) [] listed opened = absurd opened
  parts-opened (e ∷ es) (ds ∷ dss) (m ∷ ms) listed opened =
      All-cons (λ (m : Marked). IsPartBacked told m.source) m ms (entry-part told e m ds opened.0 listed.0) (parts-opened es dss ms listed.1 opened.1)

  module _ (limits : Limits) (es : List SegEntry) (dss : List (List Document)) (c : Collection) (ms : List Marked) (listed : AllZip (IsListed told) es dss) (held : AreHeld limits es dss c) (opened : AllZip (IsEntryOpened told) es ms) where
    -- so they can be held
    pub documents-fit : documents_held ms ≤ limits.held_docs
    documents-fit = omega (arith, documents-opened es dss ms listed opened, held.documents_are, held.documents_fit)

    pub tokens-fit : tokens_held ms ≤ limits.held_tokens
    tokens-fit = omega (arith, tokens-opened es dss ms listed opened, held.tokens_are, held.tokens_fit)

    pub docnos-distinct : IsDistinct bytes_eq (docnos_of ms)
    docnos-distinct =
        let live_are : snapshots.live told ms ≡ c.live = live-opened es dss ms listed opened ∙ sym held.live_are in
        subst (IsDistinct bytes_eq) (ap (map (λ (d : Document). d.docno)) (sym live_are) ∙ docnos-live told ms) held.distinct

-- ---- the repository

live-closed : (told : Option Files) (limits : Limits) (ms : List Marked) → live told (closed_held limits ms).parts ≡ snapshots.live told ms
live-closed told limits ms = flat_map-push (λ (m : Marked). unmarked (reads told m.source) m.marks) ms (filled [] []) ∙ append-nil (snapshots.live told ms)

pub reads-opened : (told : Option Files) (limits : Limits) (s : State) (c : Collection) → Stands limits told c → IsRepositoryOpened told limits s → ReadsAs told s c
reads-opened told limits s c stands o =
    let same = IsManifestRead-same told o.list stands.list o.has (manifest-read told stands.list stands.has) in
    let h = o.held in
    let opened : AllZip (IsEntryOpened told) stands.list.segments h.parts = subst (λ (l : List SegEntry). AllZip (IsEntryOpened told) l h.parts) (ap (λ (m : Manifest). m.segments) same) h.opened in
    let sums = AreCounted-closed limits h.parts (documents_held h.parts) (tokens_held h.parts) refl refl h.documents_fit h.tokens_fit in
    record {
      live_are = ap (λ (x : Contents). live told x.parts) h.same ∙ live-closed told limits h.parts ∙ live-opened told stands.list.segments stands.segments h.parts stands.listed opened ∙ sym stands.held.live_are;
      documents_are =
          ap (λ (x : Contents). documents_held (all_parts x.parts)) h.same ∙ sym sums.documents_are ∙ documents-opened told stands.list.segments stands.segments h.parts stands.listed opened ∙ sym stands.held.documents_are;
      tokens_are = ap (λ (x : Contents). tokens_held (all_parts x.parts)) h.same ∙ sym sums.tokens_are ∙ tokens-opened told stands.list.segments stands.segments h.parts stands.listed opened ∙ sym stands.held.tokens_are;
      priors_are = subst (λ (l : List PriorEntry). AllZip (IsPriorListed told) l c.priors) (sym (o.priors_are ∙ ap (λ (m : Manifest). m.priors) same)) stands.priors;
    }

pub backed-opened : (told : Option Files) (limits : Limits) (s : State) (c : Collection) → Stands limits told c → IsRepositoryOpened told limits s → IsRepositoryBacked told s
backed-opened told limits s c stands o =
    let same = IsManifestRead-same told o.list stands.list o.has (manifest-read told stands.list stands.has) in
    let h = o.held in
    let opened : AllZip (IsEntryOpened told) stands.list.segments h.parts = subst (λ (l : List SegEntry). AllZip (IsEntryOpened told) l h.parts) (ap (λ (m : Manifest). m.segments) same) h.opened in
    record {
      list = o.list;
      has = subst (HasManifest told) (sym same) stands.has;
      next_is = sym o.next_is;
      numbers_are = numbers-opened told o.list.segments h.parts h.opened ∙ sym (ap (λ (x : Contents). part_numbers x.parts.closed) h.same);
      stale_are = sym o.stale_are;
      priors_are = sym o.priors_are;
      parts = subst (λ (x : Contents). All (λ (m : Marked). IsPartBacked told m.source) x.parts.closed) (sym h.same) (parts-opened told stands.list.segments stands.segments h.parts stands.listed opened);
      priors = (c.priors, subst (λ (l : List PriorEntry). AllZip (IsPriorListed told) l c.priors) (sym (o.priors_are ∙ ap (λ (m : Manifest). m.priors) same)) stands.priors);
    }

-- ---- the manifest that was found is the one of a collection

pub none-there : (told : Option Files) (list : Manifest) (found : Option Manifest) → HasManifest told list → ((f : Files) → told ≡ Some f → is_some found ≡ is_some (f manifest_name).read) → found ≡ None → ⊥
none-there told list found has there none =
    let clash : false ≡ true = sym (ap (λ (o : Option Manifest). is_some o) none) ∙ there has.files has.is_told ∙ ap (λ (x : File). is_some x.read) has.file in
    absurd cc

module _ (limits : Limits) (told : Option Files) (list : Manifest) (c : Collection) (has : IsManifestRead told list) (stands : Stands limits told c) where
  one-manifest : stands.list.segments ≡ list.segments
  one-manifest = ap (λ (m : Manifest). m.segments) (IsManifestRead-same told stands.list list (manifest-read told stands.list stands.has) has)

  pub found-listed : AllZip (IsListed told) list.segments stands.segments
  found-listed = subst (λ (es : List SegEntry). AllZip (IsListed told) es stands.segments) one-manifest stands.listed

  pub found-held : AreHeld limits list.segments stands.segments c
  found-held = subst (λ (es : List SegEntry). AreHeld limits es stands.segments c) one-manifest stands.held

pub opening-fault : (f : Files) (limits : Limits) (told : Option Files) (list : Manifest) (fault : SegFault) → told ≡ Some f → IsManifestRead told list
    → IsOutside fault ⊎ (IsEntryFault f list.segments fault ⊎ IsAcrossFault told limits list.segments fault) → IsOpeningFault f limits fault
opening-fault f limits told list fault is has why =
    let there : IsManifestRead (Some f) list = subst (λ (o : Option Files). IsManifestRead o list) is has in
    elim why [
      | inl outside ↦ of_outside outside
      | inr inside ↦ elim inside [
        | inl entry ↦ of_entry list there entry
        | inr across ↦ of_all list there (subst (λ (o : Option Files). IsAcrossFault o limits list.segments fault) is across)
      ]
    ]

-- ---- what was opened can be listed

pub numbered-opened : (told : Option Files) (limits : Limits) (list : Manifest) (s : State) → IsManifest list → AreEntriesHeld told limits list.segments s.held → list.next ≡ s.next → list.stale ≡ s.stale → list.priors ≡ s.priors
    → IsNumbered s
numbered-opened told limits list s form held next stale priors = record {
  list = list;
  form = form;
  next_is = next;
  numbers_are = numbers-opened told list.segments held.parts held.opened ∙ sym (ap (λ (x : Contents). part_numbers x.parts.closed) held.same);
  stale_are = stale;
  priors_are = priors;
  sized = subst (λ (x : Contents). All IsSized x.parts.closed) (sym held.same) (sized-opened told list.segments held.parts held.opened (listing-of list form).segments_fit);
}
