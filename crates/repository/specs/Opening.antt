-- What the opening of a repository gives, and why it is refused.
use Rattle.std.specs.Prelude.{◌≡◌, ◌≤◌, ◌<◌, ℕ, true, List, ◌∷◌, ◌++◌, Option, None, Some, Err, length, slice_index_or}
use Rattle.std.specs.List.{AllZip, IsDistinct}
use Rattle.std.specs.Str.{bytes_eq}
use Rattle.ri_base.specs.Documents.{Document}
use Rattle.ri_base.specs.Faults.{IsOutside}
use Rattle.ri_base.specs.declared.seg_fault.FileName.TheVariants as names
use Rattle.ri_base.specs.declared.seg_fault.PartName.TheVariants as parts
use Rattle.ri_base.specs.declared.seg_fault.SegFault.{SegFault}
use Rattle.ri_base.specs.declared.seg_fault.SegFault.TheVariants.{Malformed, Memory}
use Rattle.store_ends.specs.Files.{Files}
use Rattle.ri_base.specs.FieldAnswers.{AnswersPart}
use Rattle.manifest.specs.Files.{manifest}
use Rattle.manifest.specs.declared.manifest.Manifest.{Manifest}
use Rattle.manifest.specs.declared.manifest.SegEntry.{SegEntry}
use Rattle.disk_index.specs.Blocks.{file_of}
use Rattle.disk_index.specs.Kept.{Kept, kept_of}
use Rattle.disk_index.specs.Opening.{IsOpenFault, IsOpened}
use Rattle.disk_index.specs.Parts.{OnDisk, outlines_of}
use Rattle.disk_index.specs.Reads.{HasSegment}
use Rattle.disk_index.specs.Snapshots.{Marked, documents_held}
use Rattle.holdings.specs.Contents.{Contents, closed_held}
use Rattle.holdings.specs.MarkedParts.{docnos_of, tokens_held}
use Rattle.holdings.specs.Placing.{IsPartsFault}
use Rattle.holdings.specs.declared.limits.Limits.{Limits}
use Rattle.holdings.specs.declared.refusals.PartsFault.{PartsFault}
use Rattle.holdings.specs.declared.refusals.PartsFault.TheVariants as across
use Rattle.repository.specs.Names.{manifest_name}
use Rattle.repository.specs.Places.{document_place}
use Rattle.repository.specs.Stands.{IsManifestRead, marks_from}
use Rattle.repository.specs.States.{State}

-- The part of an entry. Header, documents and dictionary of the entry's file were read by the grammar of a segment of as many documents
-- as the entry says. Where the segment of so many documents was put there and damage of it shows, what is kept is that of these. The
-- documents are marked that the entry names.
pub record IsEntryOpened (told : Option Files) (e : SegEntry) (m : Marked) : Type 0 where
  pub kept : Kept
  pub source : m.source ≡ OnDisk kept
  pub number : kept.number ≡ e.number
  pub count : length kept.outlines ≡ e.docs
  pub marks : m.marks ≡ marks_from 0 (length kept.outlines) e.marks
  pub opened : (files : Files) → told ≡ Some files → IsOpened (file_of files e.number) e.docs kept
  pub exact : (docs : List Document) → HasSegment told e.number docs → length docs ≡ e.docs → kept ≡ kept_of e.number docs

-- The parts of these entries are held, in their order and within the limits, and no two live documents have one docno.
pub record AreEntriesHeld (told : Option Files) (limits : Limits) (es : List SegEntry) (held : Contents) : Type 0 where
  pub parts : List Marked
  pub opened : AllZip (IsEntryOpened told) es parts
  pub same : held ≡ closed_held limits parts
  pub documents_fit : documents_held parts ≤ limits.held_docs
  pub tokens_fit : tokens_held parts ≤ limits.held_tokens
  pub distinct : IsDistinct bytes_eq (docnos_of parts)

-- A repository that was opened over files: the parts of the entries of the manifest that was read are held, and all else is as this lists
-- it.
pub record IsRepositoryOpened (told : Option Files) (limits : Limits) (s : State) : Type 0 where
  pub list : Manifest
  pub has : IsManifestRead told list
  pub held : AreEntriesHeld told limits list.segments s.held
  pub next_is : s.next ≡ list.next
  pub stale_are : s.stale ≡ list.stale
  pub priors_are : s.priors ≡ list.priors
  pub usable : s.usable ≡ true

-- it may be used, within these limits, nothing was added or deleted yet, and no merge is open
pub record IsFresh (limits : Limits) (s : State) : Type 0 where
  pub usable : s.usable ≡ true
  pub limits_are : s.held.limits ≡ limits
  pub none_yet : s.held.generation ≡ 0
  pub unmerged : s.merge ≡ None

-- ---- why it is refused

-- there is a manifest, and the bytes that are read of it are refused so
abbrev pub IsManifestFault : Files → SegFault → Type 0
IsManifestFault files fault =
    (bytes : List ℕ) × ((files manifest_name).read ≡ Some bytes) × AnswersPart {X = Manifest} (λ m. m) (Err fault) (manifest bytes) names.Manifest parts.Manifest (length bytes)

-- The file of one of these entries isn't there, or isn't read as a segment of so many documents. It is the first: those of the entries
-- before it are opened.
pub record IsEntryFault (files : Files) (es : List SegEntry) (fault : SegFault) : Type 0 where
  pub before : List SegEntry
  pub entry : SegEntry
  pub behind : List SegEntry
  pub are : es ≡ before ++ entry ∷ behind
  pub parts : List Marked
  pub opened : AllZip (IsEntryOpened (Some files)) before parts
  pub refused : IsOpenFault files entry.number entry.docs fault

-- The fault that is told of the entry of a part that can't be held: it has too many documents or tokens, at their number in its
-- header, or a docno that is there already, where that document stands.
abbrev pub TellsAcross : List SegEntry → List Marked → PartsFault → SegFault → Type 0
TellsAcross es ms (across.TooManyDocs part) fault = (e : SegEntry) × (e ≡ slice_index_or es part e) × (fault ≡ Malformed (names.Segment e.number) parts.Header 12)
TellsAcross es ms (across.TooManyTokens part) fault = (e : SegEntry) × (e ≡ slice_index_or es part e) × (fault ≡ Malformed (names.Segment e.number) parts.Header 16)
TellsAcross es ms (across.Repeated part id) fault =
    (e : SegEntry) × (m : Marked) × (e ≡ slice_index_or es part e) × (m ≡ slice_index_or ms part m) × (fault ≡ Malformed (names.Segment e.number) parts.Documents (document_place (outlines_of m.source) id))
TellsAcross es ms across.Memory fault = fault ≡ Memory

-- the files of all entries are read, but they can't be held together
pub record IsAcrossFault (told : Option Files) (limits : Limits) (es : List SegEntry) (fault : SegFault) : Type 0 where
  pub opened : List Marked
  pub are_opened : AllZip (IsEntryOpened told) es opened
  pub why : PartsFault
  pub unfit : IsPartsFault limits opened why
  pub tells : TellsAcross es opened why fault

-- The store or the memory is to blame; or the manifest; or what it lists, one file or all together.
pub data IsOpeningFault (files : Files) (limits : Limits) (fault : SegFault) : Type 0 where
  of_outside : IsOutside fault → IsOpeningFault files limits fault
  of_manifest : IsManifestFault files fault → IsOpeningFault files limits fault
  of_entry : (list : Manifest) → IsManifestRead (Some files) list → IsEntryFault files list.segments fault → IsOpeningFault files limits fault
  of_all : (list : Manifest) → IsManifestRead (Some files) list → IsAcrossFault (Some files) limits list.segments fault → IsOpeningFault files limits fault

-- the part of a fault is one of so many
abbrev pub IsPartOf : ℕ → PartsFault → Type 0
IsPartOf n (across.TooManyDocs part) = part < n
IsPartOf n (across.TooManyTokens part) = part < n
IsPartOf n (across.Repeated part id) = part < n
IsPartOf n across.Memory = Unit {0}
