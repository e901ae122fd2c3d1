-- Where the blocks of a segment stand.
use Rattle.std.proofs.Common.{◌≡◌, ◌<◌, ℕ, zero, suc, ◌+◌, ◌*◌, ◌==◌, List, [], ◌∷◌, ◌++◌, length, take, drop, map, true, false, cond, Option, Some, None, Contains, refl, sym, ap, subst, ◌∙◌, append_assoc, arith, length-append}
use Rattle.std.specs.List.{All, find, flat_map}
use Rattle.std.proofs.lemmas.Bool.{eq-eqb, ne_eqb}
use Rattle.std.proofs.lemmas.List.{append-nil, drop-drop, drop_at, take_at}
use Rattle.std.proofs.lemmas.List.Concat.{flat_map-cons}
use Rattle.std.proofs.lemmas.List.Elements.{All-cons, All-nil}
use Rattle.ri_base.specs.Documents.{Document}
use Rattle.ri_base.specs.Places.{postings_of}
use Rattle.ri_base.specs.Vocabulary.{Occurs, vocabulary_of}
use Rattle.ri_base.specs.declared.places.Place.{Place}
use Rattle.ri_base.proofs.VocabularyLemmas.{IsVocabulary-vocabulary_of}
use Rattle.seg_codec.specs.Fits.{FitBlock}
use Rattle.seg_codec.specs.Part.{IsPart}
use Rattle.seg_codec.specs.Segment as seg
use Rattle.seg_codec.specs.Segment.{all_blocks, block_entry_of, blocks_at, blocks_of, cut, dictionary_at, dictionary_size, entry_of, first, header_of, id_of, index, placed, range_of, segment, term_blocks_of}
use Rattle.seg_codec.specs.Spelling.{block_bytes, dictionary_bytes, documents_bytes, header_bytes}
use Rattle.seg_codec.specs.declared.blocks.BlockEntry.{BlockEntry}
use Rattle.seg_codec.specs.declared.dictionary.BlockPlace.{BlockPlace}
use Rattle.seg_codec.specs.declared.dictionary.TermBlocks.{TermBlocks}
use Rattle.seg_codec.specs.declared.documents.Entry.{Entry}
use Rattle.seg_codec.proofs.DictionaryFits.{dictionary_length}
use Rattle.seg_codec.proofs.SegmentLaws.{BlocksFit, blocks_fit}
use Rattle.disk_index.specs.Blocks.{block_of}
use Rattle.disk_index.specs.Kept.{Kept, kept_of, place_in}
use Rattle.disk_index.proofs.CutLaws.{PartsOther, Same, cut-append, cut-other, entries-cut, postings_behind, postings_behind-none, postings_behind-other, postings_behind-split, postings_in, postings_in-range}

-- the file has there the bytes of this block
pub record IsHere (file : List ℕ) (outlines : List Entry) (range : ℕ) (p : BlockPlace) (es : List BlockEntry) : Type 0 where
  pub bytes : take p.length (drop p.place file) ≡ block_bytes range es
  pub fit : FitBlock outlines range es

-- the same where there is such a place; where there is none, the block has no entries
abbrev pub StandsAt : List ℕ → List Entry → ℕ → Option BlockPlace → List BlockEntry → Type 0
StandsAt file outlines range None es = es ≡ []
StandsAt file outlines range (Some p) es = IsHere file outlines range p es

-- ---- one term

find-other : (k at : ℕ) (parts : List (List Place)) → PartsOther k parts → find (λ (b : BlockPlace). b.range == k) (placed at parts) ≡ None
find-other k at [] all = refl
find-other k at (p ∷ ps) all =
    let test : (first range_of p == k) ≡ false = ne_eqb (first range_of p) k all.0 in
    let here : BlockPlace = record { range = first range_of p; place = at; length = length (seg.block_of p) } in
    ap (λ b. cond b (Some here) (find (λ (b : BlockPlace). b.range == k) (placed (at + length (seg.block_of p)) ps))) test ∙ find-other k (at + length (seg.block_of p)) ps all.1

block-entries : (t : List ℕ) (docs : List Document) (r : ℕ) → map block_entry_of (cut id_of (postings_in t docs r)) ≡ block_of t r docs
unfolding block_of postings_in
block-entries t docs r = entries-cut (64 * r) t (take 64 (drop (64 * r) docs))

module _ (file : List ℕ) (docs : List Document) (t : List ℕ) where
  abbrev At : ℕ → List (List Place) → ℕ → Type 0
  At r parts at = StandsAt file (map entry_of docs) r (find (λ (b : BlockPlace). b.range == r) (placed at parts)) (block_of t r docs)

  stands_here : (r at : ℕ) (rest : List ℕ) (q : Place) (qs : List Place) → postings_in t docs r ≡ q ∷ qs
      → drop at file ≡ flat_map seg.block_of ((q ∷ qs) ∷ cut range_of (postings_behind t docs (r + 1))) ++ rest
      → FitBlock (map entry_of docs) (range_of q) (map block_entry_of (cut id_of (q ∷ qs)))
      → At r ((q ∷ qs) ∷ cut range_of (postings_behind t docs (r + 1))) at
  stands_here r at rest q qs e there fit =
      let behind = cut range_of (postings_behind t docs (r + 1)) in
      let same = subst (λ (l : List Place). Same range_of r l) e (postings_in-range t docs r) in
      let range : range_of q ≡ r = same.0 in
      let test : (range_of q == r) ≡ true = eq-eqb (range_of q) r range in
      let own = seg.block_of (q ∷ qs) in
      let here : BlockPlace = record { range = range_of q; place = at; length = length own } in
      let entries : map block_entry_of (cut id_of (q ∷ qs)) ≡ block_of t r docs = ap (λ (l : List Place). map block_entry_of (cut id_of l)) (sym e) ∙ block-entries t docs r in
      let bytes : take (length own) (drop at file) ≡ own =
      ap (take (length own)) (there ∙ ap (λ (l : List ℕ). l ++ rest) (flat_map-cons seg.block_of (q ∷ qs) behind) ∙ append_assoc own (flat_map seg.block_of behind) rest)
      ∙ take_at own (flat_map seg.block_of behind ++ rest) (length own) refl in
      let spelled : own ≡ block_bytes r (block_of t r docs) = ap (λ n. block_bytes n (map block_entry_of (cut id_of (q ∷ qs)))) range ∙ ap (block_bytes r) entries in
      let fits : FitBlock (map entry_of docs) r (block_of t r docs) =
      subst (λ n. FitBlock (map entry_of docs) n (block_of t r docs)) range (subst (λ (l : List BlockEntry). FitBlock (map entry_of docs) (range_of q) l) entries fit) in
      subst (λ b. StandsAt file (map entry_of docs) r (cond b (Some here) (find (λ (b : BlockPlace). b.range == r) (placed (at + length own) behind))) (block_of t r docs)) (sym test)
      (record { bytes = bytes ∙ spelled; fit = fits })

  stands_none : (r at : ℕ) → postings_in t docs r ≡ [] → At r (cut range_of (postings_behind t docs (r + 1))) at
  unfolding cut
  stands_none r at e =
      let none = find-other r at (cut range_of (postings_behind t docs (r + 1))) (cut-other r (postings_behind t docs (r + 1)) (postings_behind-none t docs r)) in
      let entries : block_of t r docs ≡ [] = sym (block-entries t docs r) ∙ ap (λ (l : List Place). map block_entry_of (cut id_of l)) e in
      subst (λ o. StandsAt file (map entry_of docs) r o (block_of t r docs)) (sym none) entries

  -- the parts of a range, and of those behind it
  first_part : (s : ℕ) (q : Place) (qs : List Place) → postings_in t docs s ≡ q ∷ qs → cut range_of (postings_behind t docs s) ≡ (q ∷ qs) ∷ cut range_of (postings_behind t docs (s + 1))
  first_part s q qs e =
      ap (cut range_of) (postings_behind-split t docs s ∙ ap (λ (l : List Place). l ++ postings_behind t docs (s + 1)) e)
      ∙ cut-append range_of s q qs (postings_behind t docs (s + 1)) (subst (λ (l : List Place). Same range_of s l) e (postings_in-range t docs s)) (postings_behind-other t docs s)

  no_part : (s : ℕ) → postings_in t docs s ≡ [] → cut range_of (postings_behind t docs s) ≡ cut range_of (postings_behind t docs (s + 1))
  no_part s e = ap (cut range_of) (postings_behind-split t docs s ∙ ap (λ (l : List Place). l ++ postings_behind t docs (s + 1)) e)

  -- what holds of the parts of a range and of those behind it
  From : ℕ → ℕ → Type 0
  From r s = (at : ℕ) (rest : List ℕ) → drop at file ≡ flat_map seg.block_of (cut range_of (postings_behind t docs s)) ++ rest → BlocksFit docs (cut range_of (postings_behind t docs s))
      → At r (cut range_of (postings_behind t docs s)) at

  own_range : (r : ℕ) (front : List Place) → postings_in t docs r ≡ front → From r r
  unfolding From
  own_range r [] e at rest there fit = subst (λ parts. At r parts at) (sym (no_part r e)) (stands_none r at e)
  own_range r (q ∷ qs) e at rest there fit =
      subst (λ parts. At r parts at) (sym (first_part r q qs e))
      (stands_here r at rest q qs e (there ∙ ap (λ (parts : List (List Place)). flat_map seg.block_of parts ++ rest) (first_part r q qs e)) (subst (BlocksFit docs) (first_part r q qs e) fit).0)

  before_range : (r s : ℕ) (front : List Place) → s < r → postings_in t docs s ≡ front → From r (s + 1) → From r s
  unfolding From
  before_range r s [] less e behind at rest there fit =
      subst (λ parts. At r parts at) (sym (no_part s e))
      (behind at rest (there ∙ ap (λ (parts : List (List Place)). flat_map seg.block_of parts ++ rest) (no_part s e)) (subst (BlocksFit docs) (no_part s e) fit))
  before_range r s (q ∷ qs) less e behind at rest there fit =
      let parts = cut range_of (postings_behind t docs (s + 1)) in
      let own = seg.block_of (q ∷ qs) in
      let here : BlockPlace = record { range = range_of q; place = at; length = length own } in
      let range : range_of q ≡ s = (subst (λ (l : List Place). Same range_of s l) e (postings_in-range t docs s)).0 in
      let test : (range_of q == r) ≡ false = ne_eqb (range_of q) r (λ h. omega (arith, h, range, less)) in
      let next : drop (at + length own) file ≡ flat_map seg.block_of parts ++ rest =
      sym (drop-drop (length own) at file) ∙ ap (drop (length own)) (there ∙ ap (λ (parts : List (List Place)). flat_map seg.block_of parts ++ rest) (first_part s q qs e)
      ∙ ap (λ (l : List ℕ). l ++ rest) (flat_map-cons seg.block_of (q ∷ qs) parts) ∙ append_assoc own (flat_map seg.block_of parts) rest)
      ∙ drop_at own (flat_map seg.block_of parts ++ rest) (length own) refl in
      subst (λ parts. At r parts at) (sym (first_part s q qs e))
      (subst (λ b. StandsAt file (map entry_of docs) r (cond b (Some here) (find (λ (b : BlockPlace). b.range == r) (placed (at + length own) parts))) (block_of t r docs)) (sym test)
      (behind (at + length own) rest next (subst (BlocksFit docs) (first_part s q qs e) fit).1))

  stands : (k s r : ℕ) → r ≡ s + k → From r s
  stands zero s r is =
      let same : r ≡ s = omega (arith, is) in
      subst (λ n. From n s) (sym same) (own_range s (postings_in t docs s) refl)
  stands (suc k) s r is = before_range r s (postings_in t docs s) (omega (arith, is)) refl (stands k (s + 1) r (omega (arith, is)))

  stands_anywhere : (r at : ℕ) (rest : List ℕ) → drop at file ≡ flat_map seg.block_of (cut range_of (postings_behind t docs 0)) ++ rest → BlocksFit docs (cut range_of (postings_behind t docs 0))
      → At r (cut range_of (postings_behind t docs 0)) at
  unfolding From
  stands_anywhere r = stands r 0 r (omega arith)

-- ---- all terms

-- the term's blocks stand in the file where its places say
abbrev pub HasBlocks : List ℕ → List Entry → List Document → TermBlocks → Type 0
HasBlocks file outlines docs x = (range : ℕ) → StandsAt file outlines range (place_in range x) (block_of x.term range docs)

from_first : (t : List ℕ) (docs : List Document) → postings_of t docs ≡ postings_behind t docs 0
unfolding postings_of postings_behind
from_first t docs = refl

index-stands : (file : List ℕ) (docs : List Document) → IsPart docs → (at : ℕ) (ts : List (List ℕ)) (rest : List ℕ) → drop at file ≡ all_blocks ts docs ++ rest
    → All (HasBlocks file (map entry_of docs) docs) (index at ts docs)
index-stands file docs part at [] rest there = All-nil (HasBlocks file (map entry_of docs) docs)
index-stands file docs part at (t ∷ ts) rest there =
    let own = blocks_of (postings_of t docs) in
    let cons : drop at file ≡ own ++ (all_blocks ts docs ++ rest) =
    there ∙ ap (λ (l : List ℕ). l ++ rest) (flat_map-cons (λ t. blocks_of (postings_of t docs)) t ts) ∙ append_assoc own (all_blocks ts docs) rest in
    let fit : BlocksFit docs (cut range_of (postings_behind t docs 0)) = subst (λ (ps : List Place). BlocksFit docs (cut range_of ps)) (from_first t docs) (blocks_fit docs t part) in
    let next : drop (at + length own) file ≡ all_blocks ts docs ++ rest =
    sym (drop-drop (length own) at file) ∙ ap (drop (length own)) cons ∙ drop_at own (all_blocks ts docs ++ rest) (length own) refl in
    All-cons (HasBlocks file (map entry_of docs) docs) (term_blocks_of at t (postings_of t docs)) (index (at + length own) ts docs)
    (λ range. subst (λ (ps : List Place). StandsAt file (map entry_of docs) range (find (λ (b : BlockPlace). b.range == range) (placed at (cut range_of ps))) (block_of t range docs)) (sym (from_first t docs))
    (stands_anywhere file docs t range at (all_blocks ts docs ++ rest) (cons ∙ ap (λ (ps : List Place). flat_map seg.block_of (cut range_of ps) ++ (all_blocks ts docs ++ rest)) (from_first t docs)) fit))
    (index-stands file docs part (at + length own) ts rest next)

pub segment-blocks : (docs : List Document) → drop (blocks_at docs) (segment docs) ≡ all_blocks (vocabulary_of docs) docs
unfolding segment
segment-blocks docs =
    let h = header_bytes (header_of docs) in
    let d = documents_bytes (map entry_of docs) in
    let x = dictionary_bytes (index (blocks_at docs) (vocabulary_of docs) docs) in
    let b = all_blocks (vocabulary_of docs) docs in
    let head : length h ≡ 64 = refl in
    let size : length x ≡ dictionary_size (vocabulary_of docs) docs = dictionary_length (blocks_at docs) (vocabulary_of docs) docs in
    let front : length (h ++ (d ++ x)) ≡ blocks_at docs = length-append h (d ++ x) ∙ (let two = length-append d x in omega (arith, head, size, two)) in
    ap (drop (blocks_at docs)) (ap (λ (l : List ℕ). h ++ l) (sym (append_assoc d x b)) ∙ sym (append_assoc h (d ++ x) b)) ∙ drop_at (h ++ (d ++ x)) b (blocks_at docs) front

index-terms : (at : ℕ) (ts : List (List ℕ)) (docs : List Document) → map (λ (x : TermBlocks). x.term) (index at ts docs) ≡ ts
index-terms at [] docs = refl
index-terms at (t ∷ ts) docs = ap (λ (l : List (List ℕ)). t ∷ l) (index-terms (at + length (blocks_of (postings_of t docs))) ts docs)

-- what is kept of a file, and the file, are those of these documents
pub record IsLaid (file : List ℕ) (kept : Kept) (docs : List Document) : Type 0 where
  pub outlines : kept.outlines ≡ map entry_of docs
  pub each : All (HasBlocks file kept.outlines docs) kept.dictionary
  pub all : (t : List ℕ) → Occurs t docs → Contains (map (λ (x : TermBlocks). x.term) kept.dictionary) t

pub segment-laid : (number : ℕ) (docs : List Document) → IsPart docs → IsLaid (segment docs) (kept_of number docs) docs
unfolding kept_of
segment-laid number docs part = record {
  outlines = refl;
  each = index-stands (segment docs) docs part (blocks_at docs) (vocabulary_of docs) [] (segment-blocks docs ∙ sym (append-nil (all_blocks (vocabulary_of docs) docs)));
  all = λ t o. subst (λ (ts : List (List ℕ)). Contains ts t) (sym (index-terms (blocks_at docs) (vocabulary_of docs) docs)) ((IsVocabulary-vocabulary_of docs).all t o);
}
