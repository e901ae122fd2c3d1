-- Documents among others, and by other files.
use Rattle.std.proofs.Common.{◌≡◌, ◌<◌, ℕ, zero, suc, Bool, true, false, List, [], ◌∷◌, ◌++◌, Option, Contains, length, map, get_or, refl, sym, ap, subst, ◌∙◌, arith}
use Rattle.std.specs.List.{All}
use Rattle.std.proofs.Math.ListN.{get_or-map}
use Rattle.std.proofs.lemmas.Bool.{false≢true}
use Rattle.std.proofs.lemmas.List.{length-map, map-append}
use Rattle.std.proofs.lemmas.List.Elements.{All-contains_itself, All-weaker, Contains-append_left, Contains-append_right, Contains-get_or}
use Rattle.ri_base.specs.Collection.{document_at}
use Rattle.ri_base.specs.Documents.{Document}
use Rattle.store_ends.specs.Files.{Files}
use Rattle.seg_codec.specs.Segment.{entry_of}
use Rattle.seg_codec.specs.declared.documents.Entry.{Entry}
use Rattle.disk_index.specs.Parts.{outlines_of, reads}
use Rattle.disk_index.specs.Snapshots.{Marked, live, live_in, unmarked}
use Rattle.disk_index.proofs.AlikeLemmas.{map-unmarked, outlines-reads}
use Rattle.document_scoring.specs.Candidates.{Candidate}
use Rattle.ranker.specs.Windows.{IsWindowIn}

-- ---- documents among others

-- a live document stands among the live ones
pub live-at : (docs : List Document) (marks : List Bool) (i : ℕ) → i < length docs → length marks ≡ length docs → get_or marks i false ≡ false → Contains (unmarked docs marks) (document_at docs i)
live-at [] marks i lt whole live = absurd (omega (arith, lt))
live-at (d ∷ docs) [] i lt whole live = absurd (omega (arith, whole))
live-at (d ∷ docs) (true ∷ marks) zero lt whole live = absurd (false≢true (sym live))
live-at (d ∷ docs) (false ∷ marks) zero lt whole live = Contains-get_or (d ∷ unmarked docs marks) 0 d (omega arith)
live-at (d ∷ docs) (true ∷ marks) (suc i) lt whole live = live-at docs marks i (omega (arith, lt)) (omega (arith, whole)) live
live-at (d ∷ docs) (false ∷ marks) (suc i) lt whole live =
    Contains-append_right (d ∷ []) (unmarked docs marks) (document_at docs i) (live-at docs marks i (omega (arith, lt)) (omega (arith, whole)) live)

-- those of a part stand among those of all parts
pub live-among : (told : Option Files) (parts : List Marked) (i : ℕ) (m : Marked) → i < length parts → m ≡ get_or parts i m → All (Contains (live told parts)) (live_in told m)
live-among told [] i m lt is = absurd (omega (arith, lt))
live-among told (p ∷ parts) zero m lt is =
    subst (λ (q : Marked). All (Contains (live told (p ∷ parts))) (live_in told q)) (sym is)
    (All-weaker (Contains (live_in told p)) (Contains (live_in told p ++ live told parts)) (λ d there. Contains-append_left (live_in told p) (live told parts) d there) (live_in told p) (All-contains_itself (live_in told p)))
live-among told (p ∷ parts) (suc i) m lt is =
    All-weaker (Contains (live told parts)) (Contains (live_in told p ++ live told parts)) (λ d there. Contains-append_right (live_in told p) (live told parts) d there) (live_in told m) (live-among told parts i m (omega (arith, lt)) is)

-- docnos, lengths and fields of live documents are the same by all files
live_in-entries : (told : Option Files) (m : Marked) → map entry_of (live_in told m) ≡ unmarked (outlines_of m.source) m.marks
live_in-entries told m = map-unmarked entry_of (reads told m.source) m.marks ∙ ap (λ (es : List Entry). unmarked es m.marks) (outlines-reads told m.source)

pub live-entries : (told here : Option Files) (parts : List Marked) → map entry_of (live told parts) ≡ map entry_of (live here parts)
live-entries told here [] = refl
live-entries told here (m ∷ parts) =
    map-append entry_of (live_in told m) (live told parts)
    ∙ ap (λ (es : List Entry). es ++ map entry_of (live told parts)) (live_in-entries told m ∙ sym (live_in-entries here m))
    ∙ ap (λ (es : List Entry). map entry_of (live_in here m) ++ es) (live-entries told here parts)
    ∙ sym (map-append entry_of (live_in here m) (live here parts))

module _ (leaves : ℕ) where
  -- ---- by other files

  -- a document has one in its place where docnos, lengths and fields are the same
  in-place : (docs others : List Document) (d : Document) → map entry_of docs ≡ map entry_of others → Contains docs d → (e : Document) × Contains others e × (entry_of e ≡ entry_of d)
  in-place docs others d same there =
      let k : ℕ = there.0 in
      let long : length others ≡ length docs = sym (length-map others entry_of) ∙ sym (ap (λ (es : List Entry). length es) same) ∙ length-map docs entry_of in
      let inside : k < length docs = there.1 in
      let e : Document = get_or others k d in
      let here : get_or (map entry_of others) k (entry_of d) ≡ entry_of e = get_or-map entry_of others k d in
      let own : get_or (map entry_of docs) k (entry_of d) ≡ entry_of (get_or docs k d) = get_or-map entry_of docs k d in (
        e,
        Contains-get_or others k d (omega (arith, inside, long)),
        sym here ∙ sym (ap (λ (es : List Entry). get_or es k (entry_of d)) same) ∙ own ∙ ap entry_of there.2,
      )

  pub IsWindowIn-read : (docs others : List Document) (c : Candidate) → map entry_of docs ≡ map entry_of others → IsWindowIn docs leaves c → IsWindowIn others leaves c
  IsWindowIn-read docs others c same h =
      let there = in-place docs others h.0 same h.1 in
      let long : length there.0.tokens ≡ length h.0.tokens = ap (λ (o : Entry). o.tokens) there.2 in
      let inside = h.2.within in (
        there.0,
        there.1,
        record { docno_is = h.2.docno_is ∙ sym (ap (λ (o : Entry). o.docno) there.2); some = h.2.some; within = omega (arith, inside, long); each = h.2.each },
      )
