-- What parts read as, whatever the files are, and where documents are added or deleted.
use Rattle.std.proofs.Common.{◌≡◌, ◌+◌, ℕ, List, [], ◌∷◌, ◌++◌, length, map, refl, ap, sym, ◌∙◌, arith, Option, append_assoc, length-append}
use Rattle.std.specs.List.{flat_map}
use Rattle.std.specs.Prelude.{sum_by}
use Rattle.std.proofs.lemmas.List.{append-nil, length-map, map-append}
use Rattle.std.proofs.lemmas.List.Elements.{filter-append}
use Rattle.std.proofs.lemmas.List.Sums.{sum_by-append, sum_by-cons}
use Rattle.std.proofs.lemmas.Simd.{map-map}
use Rattle.ri_base.specs.Collection.{token_count}
use Rattle.ri_base.specs.Documents.{Document}
use Rattle.seg_codec.specs.Segment.{entry_of}
use Rattle.seg_codec.specs.declared.documents.Entry.{Entry}
use Rattle.store_ends.specs.Files.{Files}
use Rattle.disk_index.specs.Blocks.{told_file}
use Rattle.disk_index.specs.Parts.{Source, InMemory, OnDisk, reads, size}
use Rattle.disk_index.specs.Reads.{rebuilt}
use Rattle.disk_index.specs.Snapshots as snapshots
use Rattle.disk_index.specs.Snapshots.{Marked, documents_held, live_in, unmarked}
use Rattle.disk_index.proofs.AlikeLemmas.{map-unmarked, tokens-outlines}
use Rattle.disk_index.proofs.RebuiltLemmas.{reads-length, rebuilt-outlines}
use Rattle.holdings.specs.MarkedParts.{docnos_in, docnos_of, documents_of, marked_with, tokens_held, tokens_in}
use Rattle.holdings.specs.Marks.{marks_with}
use Rattle.holdings.specs.Parts.{without}
use Rattle.holdings.proofs.MarkLemmas.{unmarked-marks_with}

-- ---- what is known of a part without its file

pub docnos-reads : (told : Option Files) (source : Source) → map (λ (d : Document). d.docno) (reads told source) ≡ docnos_in source
docnos-reads told (InMemory docs) = refl
docnos-reads told (OnDisk kept) =
    let docs = rebuilt kept (told_file told kept.number) in
    sym (map-map (λ (o : Entry). o.docno) entry_of docs) ∙ ap (λ (os : List Entry). map (λ (o : Entry). o.docno) os) (rebuilt-outlines kept (told_file told kept.number))

pub tokens-reads : (told : Option Files) (source : Source) → token_count (reads told source) ≡ tokens_in source
tokens-reads told (InMemory docs) = refl
tokens-reads told (OnDisk kept) =
    let docs = rebuilt kept (told_file told kept.number) in
    tokens-outlines docs ∙ ap (λ (os : List Entry). sum_by (λ (o : Entry). o.tokens) os) (rebuilt-outlines kept (told_file told kept.number))

pub length-docnos_in : (source : Source) → length (docnos_in source) ≡ size source
length-docnos_in (InMemory docs) = length-map docs (λ (d : Document). d.docno)
length-docnos_in (OnDisk kept) = length-map kept.outlines (λ (o : Entry). o.docno)

-- the sums are those of all documents, whatever the files are
pub length-documents_of : (told : Option Files) (parts : List Marked) → length (documents_of told parts) ≡ documents_held parts
length-documents_of told [] = refl
length-documents_of told (m ∷ ms) =
    let here = reads-length told m.source in
    let rest = length-documents_of told ms in
    omega (arith, here, rest, length-append (reads told m.source) (documents_of told ms), sum_by-cons (λ (x : Marked). size x.source) m ms)

pub tokens-held : (told : Option Files) (parts : List Marked) → snapshots.tokens_held told parts ≡ tokens_held parts
tokens-held told [] = refl
tokens-held told (m ∷ ms) =
    let here = tokens-reads told m.source in
    let rest = tokens-held told ms in
    omega (arith, here, rest, sum_by-cons (λ (x : Marked). token_count (reads told x.source)) m ms, sum_by-cons (λ (x : Marked). tokens_in x.source) m ms)

pub token_count-documents_of : (told : Option Files) (parts : List Marked) → token_count (documents_of told parts) ≡ tokens_held parts
token_count-documents_of told [] = refl
token_count-documents_of told (m ∷ ms) =
    let here = tokens-reads told m.source in
    let rest = token_count-documents_of told ms in
    let both = sum_by-append (λ (d : Document). length d.tokens) (reads told m.source) (documents_of told ms) in
    omega (arith, here, rest, both, sum_by-cons (λ (x : Marked). tokens_in x.source) m ms)

-- the live docnos need no file
pub docnos-live : (told : Option Files) (parts : List Marked) → map (λ (d : Document). d.docno) (snapshots.live told parts) ≡ docnos_of parts
docnos-live told [] = refl
docnos-live told (m ∷ ms) =
    let here : map (λ (d : Document). d.docno) (live_in told m) ≡ unmarked (docnos_in m.source) m.marks =
    map-unmarked _ (reads told m.source) m.marks ∙ ap (λ l. unmarked l m.marks) (docnos-reads told m.source) in
    map-append (λ (d : Document). d.docno) (live_in told m) (snapshots.live told ms) ∙ ap (λ l. l ++ map (λ (d : Document). d.docno) (snapshots.live told ms)) here
    ∙ ap (λ l. unmarked (docnos_in m.source) m.marks ++ l) (docnos-live told ms)

-- ---- one document more

pub flat_map-push : {A B : Type 0} (f : A → List B) (xs : List A) (x : A) → flat_map f (xs ++ x ∷ []) ≡ flat_map f xs ++ f x
flat_map-push f [] x = append-nil (f x)
flat_map-push f (y ∷ xs) x = ap (λ l. f y ++ l) (flat_map-push f xs x) ∙ sym (append_assoc (f y) (flat_map f xs) (f x))

-- the last part has one more
pub flat_map-more : {B : Type 0} (f : Marked → List B) (parts : List Marked) (m n : Marked) (x : B) → f n ≡ f m ++ x ∷ [] → flat_map f (parts ++ n ∷ []) ≡ flat_map f (parts ++ m ∷ []) ++ x ∷ []
flat_map-more f parts m n x e =
    flat_map-push f parts n ∙ ap (λ l. flat_map f parts ++ l) e ∙ sym (append_assoc (flat_map f parts) (f m) (x ∷ [])) ∙ ap (λ l. l ++ x ∷ []) (sym (flat_map-push f parts m))

-- ---- the documents of a docno are marked

pub live-marked_with : (told : Option Files) (k : List ℕ) (parts : List Marked) → snapshots.live told (map (marked_with k) parts) ≡ without k (snapshots.live told parts)
live-marked_with told k [] = refl
live-marked_with told k (m ∷ ms) =
    let here : live_in told (marked_with k m) ≡ without k (live_in told m) =
    ap (λ l. unmarked (reads told m.source) (marks_with k l m.marks)) (sym (docnos-reads told m.source)) ∙ unmarked-marks_with k (reads told m.source) m.marks in
    ap (λ l. l ++ snapshots.live told (map (marked_with k) ms)) here ∙ ap (λ l. without k (live_in told m) ++ l) (live-marked_with told k ms) ∙ sym (filter-append _ (live_in told m) (snapshots.live told ms))
