-- What is kept, read together with a file.
use Rattle.std.proofs.Common.{◌≡◌, ◌<◌, ◌≤◌, ℕ, zero, suc, ◌+◌, ◌/◌, ◌==◌, ◌||◌, List, [], ◌∷◌, length, map, get_or, Bool, true, false, cond, Option, Some, None, Contains, inl, inr, refl, sym, ap, subst, ◌∙◌, arith}
use Rattle.std.specs.List.{All, find}
use Rattle.std.specs.Option.{option_map_or, unwrap_or}
use Rattle.std.specs.Result.{result_unwrap_or}
use Rattle.std.specs.Str.{bytes_eq}
use Rattle.std.proofs.lemmas.List.{length-map}
use Rattle.std.proofs.lemmas.List.Elements.{All-head, All-tail, Contains-get_or}
use Rattle.std.proofs.lemmas.Slice.Eq.{bytes_eq-Decides}
use Rattle.ri_base.specs.Collection.{document_at}
use Rattle.ri_base.specs.Documents.{AreFields, Document, IsDocument}
use Rattle.ri_base.specs.Places.{places, places_from}
use Rattle.ri_base.specs.Vocabulary.{vocabulary_of}
use Rattle.ri_base.specs.declared.limits.TheConstants.{MAX_DOC_TOKENS}
use Rattle.ri_base.proofs.ListLemmas.{Contains-cases}
use Rattle.ri_base.proofs.PlacesLemmas.{occurs_at}
use Rattle.store_ends.specs.Files.{Files}
use Rattle.seg_codec.specs.Blocks.{block}
use Rattle.seg_codec.specs.Segment.{blocks_at, entry_of, index, segment}
use Rattle.seg_codec.specs.declared.blocks.BlockEntry.{BlockEntry}
use Rattle.seg_codec.specs.declared.dictionary.BlockPlace.{BlockPlace}
use Rattle.seg_codec.specs.declared.dictionary.TermBlocks.{TermBlocks}
use Rattle.seg_codec.specs.declared.documents.Entry.{Entry}
use Rattle.seg_codec.proofs.BlockLaws.{block_again}
use Rattle.disk_index.specs.Blocks.{block_of, places_of, put_of, told_file}
use Rattle.disk_index.specs.Kept.{IsOutline, Kept, kept_of, place_in}
use Rattle.disk_index.specs.Parts.{Source, InMemory, OnDisk, reads, size}
use Rattle.disk_index.specs.Reads.{IsBacked, documents_from, entries_in, entries_of, is_member, rebuilt, term_at, terms_from}
use Rattle.disk_index.proofs.EntryLemmas.{places_of-block}
use Rattle.disk_index.proofs.SegmentLaws.{HasBlocks, IsHere, IsLaid, StandsAt, segment-laid}

-- ---- whatever the file has

terms_from-length : (f : ℕ → List ℕ) (p n : ℕ) → length (terms_from f p n) ≡ n
terms_from-length f p zero = refl
terms_from-length f p (suc n) = let rest = terms_from-length f (p + 1) n in omega arith

documents_from-length : (at : ℕ → ℕ → List ℕ) (i : ℕ) (os : List Entry) → length (documents_from at i os) ≡ length os
documents_from-length at i [] = refl
documents_from-length at i (o ∷ os) = let rest = documents_from-length at (i + 1) os in omega arith

made : (ℕ → ℕ → List ℕ) → ℕ → Entry → Document
made at id o = record { docno = o.docno; tokens = terms_from (at id) 0 o.tokens; fields = o.fields }

documents_from-at : (at : ℕ → ℕ → List ℕ) (i k : ℕ) (os : List Entry) (d : Entry) → k < length os → (id : ℕ) × (document_at (documents_from at i os) k ≡ made at id (get_or os k d))
unfolding made
documents_from-at at i k [] d h = absurd (omega arith)
documents_from-at at i zero (o ∷ os) d h = (i, refl)
documents_from-at at i (suc k) (o ∷ os) d h = documents_from-at at (i + 1) k os d (omega arith)

module _ (kept : Kept) (file : List ℕ) where
  pub rebuilt-length : length (rebuilt kept file) ≡ length kept.outlines
  unfolding rebuilt
  rebuilt-length = documents_from-length (term_at file kept.outlines kept.dictionary) 0 kept.outlines

  module _ (k : ℕ) (d : Entry) (h : k < length kept.outlines) where
    pub rebuilt-docno : (document_at (rebuilt kept file) k).docno ≡ (get_or kept.outlines k d).docno
    unfolding rebuilt made
    rebuilt-docno = let at = documents_from-at (term_at file kept.outlines kept.dictionary) 0 k kept.outlines d h in ap (λ (x : Document). x.docno) at.1

    pub rebuilt-fields : (document_at (rebuilt kept file) k).fields ≡ (get_or kept.outlines k d).fields
    unfolding rebuilt made
    rebuilt-fields = let at = documents_from-at (term_at file kept.outlines kept.dictionary) 0 k kept.outlines d h in ap (λ (x : Document). x.fields) at.1

    pub rebuilt-tokens : length (document_at (rebuilt kept file) k).tokens ≡ (get_or kept.outlines k d).tokens
    unfolding rebuilt made
    rebuilt-tokens =
        let at = documents_from-at (term_at file kept.outlines kept.dictionary) 0 k kept.outlines d h in
        ap (λ (x : Document). length x.tokens) at.1 ∙ terms_from-length (term_at file kept.outlines kept.dictionary at.0) 0 (get_or kept.outlines k d).tokens

    pub rebuilt-form : IsOutline (get_or kept.outlines k d) → IsDocument (document_at (rebuilt kept file) k).tokens (get_or kept.outlines k d).fields
    rebuilt-form o =
        let is = rebuilt-tokens in
        record { short = subst (λ n. n ≤ MAX_DOC_TOKENS) (sym is) o.0; sound = subst (λ n. AreFields n (get_or kept.outlines k d).fields) (sym is) o.1 }

documents_from-outlines : (at : ℕ → ℕ → List ℕ) (i : ℕ) (os : List Entry) → map entry_of (documents_from at i os) ≡ os
documents_from-outlines at i [] = refl
documents_from-outlines at i (o ∷ os) =
    ap (λ n. record { docno = o.docno; tokens = n; fields = o.fields } ∷ map entry_of (documents_from at (i + 1) os)) (terms_from-length (at i) 0 o.tokens)
    ∙ ap (λ (l : List Entry). o ∷ l) (documents_from-outlines at (i + 1) os)

-- without their tokens they are what is kept
pub rebuilt-outlines : (kept : Kept) (file : List ℕ) → map entry_of (rebuilt kept file) ≡ kept.outlines
unfolding rebuilt
rebuilt-outlines kept file = documents_from-outlines (term_at file kept.outlines kept.dictionary) 0 kept.outlines

pub reads-length : (told : Option Files) (p : Source) → length (reads told p) ≡ size p
reads-length told (InMemory docs) = refl
reads-length told (OnDisk kept) = rebuilt-length kept (told_file told kept.number)

-- ---- places as members

yes : (a b : List ℕ) → a ≡ b → bytes_eq a b ≡ true
yes a b h = (bytes_eq-Decides a b).1 h

member-low : (k j : ℕ) (t : List ℕ) (xs : List (List ℕ)) → is_member k (places_from j t xs) ≡ true → j ≤ k
member-low k j t [] h = absurd cc
member-low k j t (x ∷ xs) h = by (bytes_eq x t) h (member-low k (j + 1) t xs)
  where
    by : (b : Bool) → is_member k (cond b (j ∷ places_from (j + 1) t xs) (places_from (j + 1) t xs)) ≡ true → (is_member k (places_from (j + 1) t xs) ≡ true → j + 1 ≤ k) → j ≤ k
    by false m rest = let low = rest m in omega arith
    by true m rest = at (j == k) refl m
      where
        at : (c : Bool) → (j == k) ≡ c → ((j == k) || is_member k (places_from (j + 1) t xs)) ≡ true → j ≤ k
        at true e m = let same : j ≡ k = grind (arith, e) in omega arith
        at false e m = let low = rest (rw e at m) in omega arith

member-in : (i p : ℕ) (t : List ℕ) (xs : List (List ℕ)) → p < length xs → get_or xs p [] ≡ t → is_member (i + p) (places_from i t xs) ≡ true
member-in i p t [] h e = absurd (omega arith)
member-in i zero t (x ∷ xs) h e = rw (yes x t e) (go (i == i + 0) (grind arith))
  where
    go : (b : Bool) → b ≡ true → (b || is_member (i + 0) (places_from (i + 1) t xs)) ≡ true
    go true q = refl
    go false q = absurd cc
member-in i (suc p) t (x ∷ xs) h e = by (bytes_eq x t) (subst (λ k. is_member k (places_from (i + 1) t xs) ≡ true) (omega arith) (member-in (i + 1) p t xs (omega arith) e))
  where
    or : (a b : Bool) → b ≡ true → (a || b) ≡ true
    or true b q = refl
    or false b q = q

    by : (b : Bool) → is_member (i + suc p) (places_from (i + 1) t xs) ≡ true → is_member (i + suc p) (cond b (i ∷ places_from (i + 1) t xs) (places_from (i + 1) t xs)) ≡ true
    by true m = or (i == i + suc p) (is_member (i + suc p) (places_from (i + 1) t xs)) m
    by false m = m

member-out : (i p : ℕ) (t : List ℕ) (xs : List (List ℕ)) → p < length xs → is_member (i + p) (places_from i t xs) ≡ true → get_or xs p [] ≡ t
member-out i p t [] h m = absurd (omega arith)
member-out i zero t (x ∷ xs) h m = by (bytes_eq x t) refl m
  where
    by : (b : Bool) → bytes_eq x t ≡ b → is_member (i + 0) (cond b (i ∷ places_from (i + 1) t xs) (places_from (i + 1) t xs)) ≡ true → x ≡ t
    by true e m = (bytes_eq-Decides x t).0 e
    by false e m = let low = member-low (i + 0) (i + 1) t xs m in absurd (omega arith)
member-out i (suc p) t (x ∷ xs) h m = member-out (i + 1) p t xs (omega arith) (subst (λ k. is_member k (places_from (i + 1) t xs) ≡ true) (omega arith) (by (bytes_eq x t) m))
  where
    by : (b : Bool) → is_member (i + suc p) (cond b (i ∷ places_from (i + 1) t xs) (places_from (i + 1) t xs)) ≡ true → is_member (i + suc p) (places_from (i + 1) t xs) ≡ true
    by false m = m
    by true m = let no : (i == i + suc p) ≡ false = grind arith in rw no at m

stands : (t : List ℕ) (d : Document) (p : ℕ) (xs : List ℕ) → p < length d.tokens → xs ≡ places t d → is_member p xs ≡ true → get_or d.tokens p [] ≡ t
unfolding places
stands t d p xs k is m = member-out 0 p t d.tokens k (subst (λ (l : List ℕ). is_member (0 + p) l ≡ true) is (subst (λ x. is_member x xs ≡ true) (omega arith) m))

is_there : (t : List ℕ) (d : Document) (p : ℕ) (xs : List ℕ) → p < length d.tokens → xs ≡ places t d → get_or d.tokens p [] ≡ t → is_member p xs ≡ true
unfolding places
is_there t d p xs k is e = subst (λ (l : List ℕ). is_member p l ≡ true) (sym is) (subst (λ x. is_member x (places_from 0 t d.tokens) ≡ true) (omega arith) (member-in 0 p t d.tokens k e))

-- ---- the file of the documents

entries_in-here : (file : List ℕ) (outlines : List Entry) (range : ℕ) (p : BlockPlace) (es : List BlockEntry) → IsHere file outlines range p es → entries_in file outlines range p ≡ es
entries_in-here file outlines range p es h = ap (λ r. result_unwrap_or r []) (ap (block outlines range) h.bytes ∙ block_again outlines range es h.fit)

entries_of-stands : (file : List ℕ) (outlines : List Entry) (docs : List Document) (x : TermBlocks) (range : ℕ) → HasBlocks file outlines docs x → entries_of file outlines range x ≡ block_of x.term range docs
entries_of-stands file outlines docs x range has = by (place_in range x) (has range)
  where
    by : (o : Option BlockPlace) → StandsAt file outlines range o (block_of x.term range docs) → option_map_or (entries_in file outlines range) o [] ≡ block_of x.term range docs
    by None e = sym e
    by (Some p) h = entries_in-here file outlines range p (block_of x.term range docs) h

-- the first of some terms of which a test tells whether it is this one
first_is : (test : TermBlocks → Bool) (tok : List ℕ) (xs : List TermBlocks) → All (λ x. (test x ≡ true → x.term ≡ tok) × (x.term ≡ tok → test x ≡ true)) xs → Contains (map (λ (x : TermBlocks). x.term) xs) tok
    → option_map_or (λ (x : TermBlocks). x.term) (find test xs) [] ≡ tok
first_is test tok [] all (k, inside, is) = absurd (omega (arith, inside))
first_is test tok (x ∷ xs) all there = by (test x) refl (first_is test tok xs (All-tail (λ x. (test x ≡ true → x.term ≡ tok) × (x.term ≡ tok → test x ≡ true)) x xs all))
  where
    own : (test x ≡ true → x.term ≡ tok) × (x.term ≡ tok → test x ≡ true)
    own = All-head (λ x. (test x ≡ true → x.term ≡ tok) × (x.term ≡ tok → test x ≡ true)) x xs all

    by : (b : Bool) → test x ≡ b → (Contains (map (λ (x : TermBlocks). x.term) xs) tok → option_map_or (λ (x : TermBlocks). x.term) (find test xs) [] ≡ tok)
        → option_map_or (λ (x : TermBlocks). x.term) (cond b (Some x) (find test xs)) [] ≡ tok
    by true e rest = own.0 e
    by false e rest = rest (elim (Contains-cases x.term (map (λ (x : TermBlocks). x.term) xs) tok there) [
      | inl same ↦ absurd (let t = own.1 same in cc)
      | inr later ↦ later
    ])

term_at-is : (file : List ℕ) (kept : Kept) (docs : List Document) → IsLaid file kept docs → (id p : ℕ) → id < length docs → p < length (document_at docs id).tokens
    → term_at file kept.outlines kept.dictionary id p ≡ get_or (document_at docs id).tokens p []
term_at-is file kept docs laid id p h k =
    let tok = get_or (document_at docs id).tokens p [] in
    let test : TermBlocks → Bool = λ t. is_member p (places_of id (entries_of file kept.outlines (id / 64) t)) in
    first_is test tok kept.dictionary (λ n d inside. agree (get_or kept.dictionary n d) (laid.each n d inside))
    (laid.all tok (occurs_at id tok docs h (Contains-get_or (document_at docs id).tokens p [] k)))
  where
    agree : (x : TermBlocks) → HasBlocks file kept.outlines docs x
        → (is_member p (places_of id (entries_of file kept.outlines (id / 64) x)) ≡ true → x.term ≡ get_or (document_at docs id).tokens p [])
        × (x.term ≡ get_or (document_at docs id).tokens p [] → is_member p (places_of id (entries_of file kept.outlines (id / 64) x)) ≡ true)
    agree x has =
        let here : places_of id (entries_of file kept.outlines (id / 64) x) ≡ places x.term (document_at docs id) =
        ap (places_of id) (entries_of-stands file kept.outlines docs x (id / 64) has) ∙ places_of-block x.term id docs h in
        (λ m. sym (stands x.term (document_at docs id) p _ k here m), λ e. is_there x.term (document_at docs id) p _ k here (sym e))

terms_from-is : (f : ℕ → List ℕ) (p : ℕ) (xs : List (List ℕ)) → ((k : ℕ) → k < length xs → f (p + k) ≡ get_or xs k []) → terms_from f p (length xs) ≡ xs
terms_from-is f p [] each = refl
terms_from-is f p (x ∷ xs) each =
    let first : f p ≡ x = ap f (omega arith) ∙ each 0 (omega arith) in
    let rest = terms_from-is f (p + 1) xs (λ k h. ap f (omega arith) ∙ each (suc k) (omega arith)) in
    ap (λ (y : List ℕ). y ∷ terms_from f (p + 1) (length xs)) first ∙ ap (λ (l : List (List ℕ)). x ∷ l) rest

documents_from-is : (at : ℕ → ℕ → List ℕ) (id : ℕ) (ds : List Document) → ((k : ℕ) → k < length ds → terms_from (at (id + k)) 0 (length (document_at ds k).tokens) ≡ (document_at ds k).tokens)
    → documents_from at id (map entry_of ds) ≡ ds
documents_from-is at id [] each = refl
documents_from-is at id (d ∷ ds) each =
    let first : terms_from (at id) 0 (length d.tokens) ≡ d.tokens = subst (λ i. terms_from (at i) 0 (length d.tokens) ≡ d.tokens) (omega arith) (each 0 (omega arith)) in
    let rest = documents_from-is at (id + 1) ds (λ k h. subst (λ i. terms_from (at i) 0 (length (document_at ds k).tokens) ≡ (document_at ds k).tokens) (omega arith) (each (suc k) (omega arith))) in
    ap (λ (t : List (List ℕ)). record { docno = d.docno; tokens = t; fields = d.fields } ∷ documents_from at (id + 1) (map entry_of ds)) first
    ∙ ap (λ (l : List Document). d ∷ l) rest

-- the documents are what the file and what is kept of it read as
pub rebuilt-is : (file : List ℕ) (kept : Kept) (docs : List Document) → IsLaid file kept docs → rebuilt kept file ≡ docs
unfolding rebuilt
rebuilt-is file kept docs laid =
    ap (documents_from (term_at file kept.outlines kept.dictionary) 0) laid.outlines
    ∙ documents_from-is (term_at file kept.outlines kept.dictionary) 0 docs (λ id h.
    terms_from-is (term_at file kept.outlines kept.dictionary (0 + id)) 0 (document_at docs id).tokens (λ p k.
    ap (λ i. term_at file kept.outlines kept.dictionary i (0 + p)) (omega arith) ∙ ap (term_at file kept.outlines kept.dictionary id) (omega arith) ∙ term_at-is file kept docs laid id p h k))

-- a backed part's file
pub backed-file : (told : Option Files) (kept : Kept) (docs : List Document) → (b : IsBacked told kept docs) → put_of b.has.files kept.number ≡ segment docs
backed-file told kept docs b = ap (λ (o : Option (List ℕ)). unwrap_or o []) b.has.file

pub backed-laid : (told : Option Files) (kept : Kept) (docs : List Document) → (b : IsBacked told kept docs) → IsLaid (put_of b.has.files kept.number) kept docs
backed-laid told kept docs b =
    subst (λ (file : List ℕ). IsLaid file kept docs) (sym (backed-file told kept docs b))
    (subst (λ (k : Kept). IsLaid (segment docs) k docs) (sym b.same) (segment-laid kept.number docs b.has.part))

pub backed-dictionary : (told : Option Files) (kept : Kept) (docs : List Document) → IsBacked told kept docs → kept.dictionary ≡ index (blocks_at docs) (vocabulary_of docs) docs
unfolding kept_of
backed-dictionary told kept docs b = ap (λ (k : Kept). k.dictionary) b.same

pub reads-backed : (told : Option Files) (kept : Kept) (docs : List Document) → IsBacked told kept docs → rebuilt kept (told_file told kept.number) ≡ docs
reads-backed told kept docs b = ap (λ (o : Option Files). rebuilt kept (told_file o kept.number)) b.has.is_told ∙ rebuilt-is (put_of b.has.files kept.number) kept docs (backed-laid told kept docs b)

pub inside-docs : (kept : Kept) (docs : List Document) (id : ℕ) → kept.outlines ≡ map entry_of docs → id < length kept.outlines → id < length docs
inside-docs kept docs id is h = omega (arith, ap (λ (l : List Entry). length l) is, length-map docs entry_of, h)
