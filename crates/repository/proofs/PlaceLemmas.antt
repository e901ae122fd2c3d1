-- Where a document stands in the file of its segment: what stands behind it is counted from the end.
use Rattle.std.proofs.Common.{◌≡◌, ◌≤◌, ◌+◌, ◌*◌, ℕ, List, [], ◌∷◌, ◌++◌, length, map, take, drop, Option, Result, Ok, Err, refl, ap, subst, ◌∙◌, arith}
use Rattle.std.specs.Prelude.{IfOk, sum_by}
use Rattle.std.specs.Int.{w16, w32, to_le_bytes}
use Rattle.std.specs.List.{flat_map}
use Rattle.std.specs.Option.{unwrap_or}
use Rattle.std.proofs.lemmas.List.{length-append, length-map}
use Rattle.std.proofs.lemmas.List.Concat.{flat_map-cons}
use Rattle.std.proofs.lemmas.List.Sums.{sum_by-cons, sum_by-take-drop}
use Rattle.ri_base.specs.Spelling.{spelled_text}
use Rattle.ri_base.specs.Faults.{IsOutside}
use Rattle.ri_base.specs.declared.seg_fault.SegFault.{SegFault}
use Rattle.ri_base.specs.declared.seg_fault.SegFault.TheVariants.{Malformed, Missing, Store, Memory}
use Rattle.ri_base.proofs.Codec.{IsBytes}
use Rattle.store_ends.specs.Files.{Files}
use Rattle.seg_codec.specs.Documents.{names_in_order}
use Rattle.seg_codec.specs.Headers.{header}
use Rattle.seg_codec.specs.Whole.{ArePlaced}
use Rattle.seg_codec.specs.Spelling.{documents_bytes, header_bytes, numbered, spelled_entry, spelled_row, spelled_rows}
use Rattle.seg_codec.specs.declared.documents.Entry.{Entry}
use Rattle.seg_codec.specs.declared.documents.Row.{Row}
use Rattle.seg_codec.specs.declared.header.Header.{Header}
use Rattle.seg_codec.proofs.HeaderLaws.{header_takes}
use Rattle.disk_index.specs.Blocks.{IsReadFault, file_of}
use Rattle.disk_index.specs.Opening.{header_in}
use Rattle.repository.specs.Places.{bytes_of, document_place}

-- ---- how many bytes stand there

rows-length : (rs : List Row) → length (flat_map spelled_row rs) ≡ 10 * length rs
rows-length [] = refl
rows-length (r ∷ rs) =
    let one : length (spelled_row r) ≡ 10 = refl in
    let step = ap length (flat_map-cons spelled_row r rs) ∙ length-append (spelled_row r) (flat_map spelled_row rs) in
    step ∙ omega (arith, one, rows-length rs)

entry-length : (ns : List (List ℕ)) (e : Entry) → length (spelled_entry ns e) ≡ bytes_of e
entry-length ns e =
    let rs : List Row = map (numbered ns) e.fields in
    let four : length (to_le_bytes w32 e.tokens) ≡ 4 = refl in
    let two : length (to_le_bytes w16 (length rs)) ≡ 2 = refl in
    let inner = length-append (to_le_bytes w16 (length rs)) (flat_map spelled_row rs) in
    let middle = length-append (to_le_bytes w32 e.tokens) (spelled_rows rs) in
    let outer = length-append e.docno (to_le_bytes w32 e.tokens ++ spelled_rows rs) in
    let count : length rs ≡ length e.fields = length-map e.fields (numbered ns) in
    omega (arith, four, two, inner, middle, outer, rows-length rs, count)

entries-length : (ns : List (List ℕ)) (es : List Entry) → length (flat_map (spelled_entry ns) es) ≡ sum_by bytes_of es
entries-length ns [] = refl
entries-length ns (e ∷ es) =
    let step = ap length (flat_map-cons (spelled_entry ns) e es) ∙ length-append (spelled_entry ns e) (flat_map (spelled_entry ns) es) in
    step ∙ omega (arith, entry-length ns e, entries-length ns es, sum_by-cons bytes_of e es)

-- ---- the place

pub place_at : (es : List Entry) (id : ℕ) → document_place es id + sum_by bytes_of (drop id es) ≡ 64 + length (documents_bytes es)
place_at es id =
    let ns : List (List ℕ) = names_in_order es in
    let front = length-append (flat_map spelled_text ns) (flat_map (spelled_entry ns) (take id es)) in
    let all = length-append (flat_map spelled_text ns) (flat_map (spelled_entry ns) es) in
    omega (arith, front, all, entries-length ns (take id es), entries-length ns es, sum_by-take-drop bytes_of es id)

-- ---- a file with a header

-- why it can't be read isn't that there is none
pub headed-outside : (f : Files) (number docs : ℕ) (h : Header) (e : SegFault) → header_in (file_of f number) docs ≡ Ok h → IsReadFault f number e → IsOutside e
headed-outside f number docs h (Malformed file part place) is fault = fault
headed-outside f number docs h (Missing file) is fault =
    let nothing : file_of f number ≡ [] = ap (λ (o : Option (List ℕ)). unwrap_or o []) fault.1 in
    let here : header docs 0 [] ≡ Ok h = subst (λ (l : List ℕ). header_in l docs ≡ Ok h) nothing is in
    let bytes : IsBytes [] = record { small = λ i. omega arith } in
    let same : [] ≡ header_bytes h = (header_takes docs 0 [] h bytes here).0 in
    let none : 0 ≡ 64 = ap length same in
    absurd (omega (arith, none))
headed-outside f number docs h Store is fault = tt
headed-outside f number docs h Memory is fault = tt

-- ---- where the parts stand

-- the documents stand first, and the dictionary behind them
pub documents-first : (size : ℕ) (r : Result Header SegFault) → IfOk r (ArePlaced size) → IfOk r (λ h. h.documents_at ≡ 64)
documents-first size (Ok h) placed = placed.documents
documents-first size (Err e) placed = tt

pub dictionary-behind : (size : ℕ) (r : Result Header SegFault) → IfOk r (ArePlaced size) → IfOk r (λ h. h.documents_at ≤ h.dictionary_at)
dictionary-behind size (Ok h) placed = omega (arith, placed.documents, placed.dictionary)
dictionary-behind size (Err e) placed = tt
