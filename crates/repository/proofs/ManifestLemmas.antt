-- The manifest that lists nothing, and that files have one manifest.
use Rattle.std.proofs.Common.{◌≡◌, ℕ, List, [], Option, Some, None, inl, inr, refl, sym, ap, subst, ◌∙◌, arith}
use Rattle.std.specs.List.{IsDistinct}
use Rattle.std.specs.Str.{bytes_eq}
use Rattle.std.specs.Option.{IfSome, option_map}
use Rattle.std.specs.Prelude.{is_some, length}
use Rattle.ri_base.specs.Faults.{IsOutside}
use Rattle.ri_base.specs.declared.seg_fault.FileName.TheVariants as names
use Rattle.ri_base.specs.declared.seg_fault.PartName.TheVariants as parts
use Rattle.ri_base.specs.declared.seg_fault.SegFault.{SegFault}
use Rattle.store_ends.specs.Files.{File, Files, Leaves, LeavesNoMore, OldOrNew, whole, with_file}
use Rattle.store_ends.proofs.Files.{Leaves-same, Leaves-then, with_file-same}
use Rattle.manifest.specs.Files.{manifest}
use Rattle.manifest.specs.Fits.{IsManifest}
use Rattle.manifest.specs.Spelling.{manifest_text}
use Rattle.manifest.specs.declared.manifest.Manifest.{Manifest}
use Rattle.manifest.specs.declared.manifest.PriorEntry.{PriorEntry}
use Rattle.manifest.specs.declared.manifest.SegEntry.{SegEntry}
use Rattle.manifest.proofs.ManifestLaws.{manifest_again}
use Rattle.holdings.specs.declared.limits.Limits.{Limits}
use Rattle.repository.specs.Names.{manifest_name}
use Rattle.repository.specs.Opening.{IsManifestFault}
use Rattle.repository.specs.Stands.{HasManifest, IsManifestRead, IsStarted, Stands, empty_collection, empty_manifest}
use Rattle.repository.proofs.PartLemmas.{one-read, unbroken}

pub some_same : {A : Type 0} (x y : A) → Some x ≡ Some y → x ≡ y
some_same x y e = cc

-- ---- the manifest that lists nothing

pub empty-form : IsManifest empty_manifest
empty-form = ((omega arith, refl), (((omega arith, (refl, tt)), ((omega arith, (refl, tt)), ((refl, (refl, tt)), refl))), refl))

pub empty-made : (es : List SegEntry) (ss : List ℕ) (ps : List PriorEntry) → es ≡ [] → ss ≡ [] → ps ≡ []
    → record { version = 1; next = 1; segments = es; stale = ss; priors = ps } ≡ empty_manifest
empty-made es ss ps a b c =
    ap (λ (x : List SegEntry). record { version = 1; next = 1; segments = x; stale = ss; priors = ps }) a
    ∙ ap (λ (x : List ℕ). record { version = 1; next = 1; segments = []; stale = x; priors = ps }) b
    ∙ ap (λ (x : List PriorEntry). record { version = 1; next = 1; segments = []; stale = []; priors = x }) c

none-twice : IsDistinct bytes_eq []
unfolding IsDistinct
none-twice = tt

-- files with it stand for a collection in which nothing is
pub Stands-empty : (limits : Limits) (told : Option Files) (f : Files) → told ≡ Some f → f manifest_name ≡ whole (Some (manifest_text empty_manifest)) → Stands limits told empty_collection
Stands-empty limits told f is file = record {
  list = empty_manifest;
  has = record { files = f; is_told = is; file = file; form = empty-form };
  segments = [];
  listed = tt;
  held = record { live_are = refl; distinct = none-twice; documents_are = refl; tokens_are = refl; documents_fit = omega arith; tokens_fit = omega arith };
  priors = tt;
}

pub Stands-made : (limits : Limits) (f : Files) (now : Option Files) → now ≡ option_map (with_file manifest_name (Some (manifest_text empty_manifest))) (Some f) → Stands limits now empty_collection
Stands-made limits f now is = Stands-empty limits now (with_file manifest_name (Some (manifest_text empty_manifest)) f) is (with_file-same manifest_name (Some (manifest_text empty_manifest)) f)

IsStarted-made : (limits : Limits) (before now : Option Files) → OldOrNew manifest_name (Some (manifest_text empty_manifest)) before now → IsStarted limits before now
IsStarted-made limits None now made = elim made [ inl old ↦ inl old | inr new ↦ inl new ]
IsStarted-made limits (Some f) now made = elim made [ inl old ↦ inl old | inr new ↦ inr (Stands-made limits f now new) ]

pub Leaves-started : (limits : Limits) (past since : ℕ → Files → Type 0) (before : Option Files) → Leaves past since (OldOrNew manifest_name (Some (manifest_text empty_manifest)) before)
    → Leaves past since (IsStarted limits before)
Leaves-started limits past since before leaves = Leaves-then past past since (IsStarted limits before) (OldOrNew manifest_name (Some (manifest_text empty_manifest)) before) (Leaves-same past (IsStarted limits before)) leaves
    (IsStarted-made limits before)

-- the same where a reading call went before
pub Leaves-created : (limits : Limits) (past mid since : ℕ → Files → Type 0) (a b : Option Files) (bytes : List ℕ) → LeavesNoMore past mid → b ≡ a → bytes ≡ manifest_text empty_manifest
    → Leaves mid since (OldOrNew manifest_name (Some bytes) b) → Leaves past since (IsStarted limits a)
Leaves-created limits past mid since a b bytes no_more files text leaves =
    let exact : Leaves mid since (OldOrNew manifest_name (Some (manifest_text empty_manifest)) a) =
    subst (λ (o : Option Files). Leaves mid since (OldOrNew manifest_name (Some (manifest_text empty_manifest)) o)) files
    (subst (λ (l : List ℕ). Leaves mid since (OldOrNew manifest_name (Some l) b)) text leaves) in
    let started = Leaves-started limits mid since a exact in
    record { each = λ t f s. elim (started.each t f s) [ inl before ↦ inl (no_more t f before) | inr new ↦ inr new ] }

-- the files behind it
pub changed-created : (a b c : Option Files) (bytes : List ℕ) → b ≡ a → bytes ≡ manifest_text empty_manifest → OldOrNew manifest_name (Some bytes) b c
    → OldOrNew manifest_name (Some (manifest_text empty_manifest)) a c
changed-created a b c bytes files text changed =
    let exact = subst (λ (l : List ℕ). OldOrNew manifest_name (Some l) b c) text changed in
    subst (λ (o : Option Files). OldOrNew manifest_name (Some (manifest_text empty_manifest)) o c) files exact

-- ---- what a store tells of the manifest

pub told_there : (told : Option Files) (f : Files) (name other : List ℕ) (n : Option ℕ) → told ≡ Some f → name ≡ other → IfSome told (λ g. n ≡ option_map length (g name).read) → is_some n ≡ is_some (f other).read
told_there None f name other n is same h = absurd cc
told_there (Some g) f name other n is same h =
    ap (λ (o : Option ℕ). is_some o) (subst (λ (o : Option Files). IfSome o (λ g. n ≡ option_map length (g name).read)) is h ∙ ap (λ (l : List ℕ). option_map length (f l).read) same) ∙ by (f other).read
  where
    by : (o : Option (List ℕ)) → is_some (option_map (λ (l : List ℕ). length l) o) ≡ is_some o
    by None = refl
    by (Some l) = refl

pub told_file_is : {X : Type 0} (view : X → List ℕ) (told : Option Files) (f : Files) (name other : List ℕ) (o : Option X) → told ≡ Some f → name ≡ other → IfSome told (λ g. option_map view o ≡ (g name).read) → option_map view o ≡ (f other).read
told_file_is view None f name other o is same h = absurd cc
told_file_is view (Some g) f name other o is same h = subst (λ (t : Option Files). IfSome t (λ g. option_map view o ≡ (g name).read)) is h ∙ ap (λ (l : List ℕ). (f l).read) same

-- ---- one manifest

manifest-same : (a b : Manifest) → IsManifest a → IsManifest b → manifest_text a ≡ manifest_text b → a ≡ b
manifest-same a b fit other same = one-read (manifest (manifest_text b)) a b (ap manifest (sym same) ∙ manifest_again a fit) (manifest_again b other)

-- what was put is read
pub manifest-read : (told : Option Files) (list : Manifest) → HasManifest told list → IsManifestRead told list
manifest-read told list has = record { files = has.files; is_told = has.is_told; file = ap (λ (f : File). f.read) has.file; form = has.form }

pub IsManifestRead-same : (told : Option Files) (a b : Manifest) → IsManifestRead told a → IsManifestRead told b → a ≡ b
IsManifestRead-same told a b x y =
    let files : x.files ≡ y.files = some_same _ _ (sym x.is_told ∙ y.is_told) in
    let text : manifest_text a ≡ manifest_text b = some_same _ _ (sym x.file ∙ ap (λ (f : Files). (f manifest_name).read) files ∙ y.file) in
    manifest-same a b x.form y.form text

pub HasManifest-same : (told : Option Files) (a b : Manifest) → HasManifest told a → HasManifest told b → a ≡ b
HasManifest-same told a b x y = IsManifestRead-same told a b (manifest-read told a x) (manifest-read told b y)

-- its bytes aren't refused
pub honest-manifest : (told : Option Files) (list : Manifest) (f : Files) (fault : SegFault) → IsManifestRead told list → told ≡ Some f → IsManifestFault f fault → IsOutside fault
honest-manifest told list f fault has is bad =
    let files : has.files ≡ f = some_same _ _ (sym has.is_told ∙ is) in
    let bytes : bad.0 ≡ manifest_text list = some_same _ _ (sym bad.1 ∙ ap (λ (g : Files). (g manifest_name).read) (sym files) ∙ has.file) in
    unbroken fault (manifest bad.0) names.Manifest parts.Manifest (length bad.0) list bad.2 (ap manifest bytes ∙ manifest_again list has.form)
