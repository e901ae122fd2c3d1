-- What the blocks of a range tell, block by block, and where they break.
use Rattle.std.proofs.Common.{◌≡◌, ◌<◌, ℕ, zero, suc, ◌+◌, List, [], length, get_or, Option, Some, None, Result, Ok, Err, inl, inr, refl, sym, subst, ◌∙◌, add-one}
use Rattle.std.specs.Option.{MatchOption}
use Rattle.ri_base.specs.Faults.{IsOutside}
use Rattle.ri_base.specs.declared.seg_fault.SegFault.{SegFault}
use Rattle.ri_base.specs.declared.seg_fault.SegFault.TheVariants.{Malformed, Missing, Store, Memory}
use Rattle.store_ends.specs.Files.{Files}
use Rattle.seg_codec.specs.declared.blocks.BlockEntry.{BlockEntry}
use Rattle.seg_codec.specs.declared.dictionary.BlockPlace.{BlockPlace}
use Rattle.seg_codec.specs.declared.documents.Entry.{Entry}
use Rattle.disk_index.specs.Blocks.{IsBlockFault, of_range}
use Rattle.disk_index.specs.Cache.{AllKept, Cached}
use Rattle.disk_index.specs.Faults.{CameFrom, IsTermBlock, IsUnput, block_fault}
use Rattle.disk_index.specs.Kept.{Kept, key_of, place_of}
use Rattle.disk_index.specs.Ranks.{ranks_of, term_of}
use Rattle.disk_index.specs.Rebuild.{Slots, documents_of, put_block}
use Rattle.disk_index.specs.Together.{AreAllRows, AreRows, BlockBreaks, IsDocumentsFault, IsPut, RangeBreaks, begin_of, last_begin, range_end}
use Rattle.disk_index.specs.declared.cache.BlockKey.{BlockKey}

-- ---- a later state, whose files are the same and in which nothing is kept that wasn't

came-before : (f g : Option Files) (c d : Cached) (docs : List Entry) (key : BlockKey) (es : List BlockEntry) → g ≡ f → AllKept c d → CameFrom g d docs key es → CameFrom f c docs key es
came-before f g c d docs key es same kept (inl there) = inl (kept (key, es) there)
came-before f g c d docs key es same kept (inr read) = inr (record { fit = read.fit; bytes = λ files told. read.bytes files (same ∙ told) })

pub block-before : (f g : Option Files) (c d : Cached) (kept : Kept) (t : List ℕ) (range : ℕ) (es : List BlockEntry) → g ≡ f → AllKept c d → IsTermBlock g d kept t range es → IsTermBlock f c kept t range es
block-before f g c d kept t range es same stay h = by (place_of kept.dictionary t range) h
  where
    by : (o : Option BlockPlace) → MatchOption o (es ≡ []) (λ p. CameFrom g d kept.outlines (key_of kept.number range p) es) → MatchOption o (es ≡ []) (λ p. CameFrom f c kept.outlines (key_of kept.number range p) es)
    by None h = h
    by (Some p) h = came-before f g c d kept.outlines (key_of kept.number range p) es same stay h

pub AllKept-then : (c d e : Cached) → AllKept c d → AllKept d e → AllKept c e
AllKept-then c d e a b = λ x h. a x (b x h)

-- ---- one block more

pub rows-more : (told : Option Files) (cached : Cached) (kept : Kept) (range : ℕ) (ks : List ℕ) (i : ℕ) (rows new : List Slots) → AreRows told cached kept range ks i rows
    → IsPut told cached kept range (get_or ks i 0) rows (Ok new) → AreRows told cached kept range ks (i + 1) new
rows-more told cached kept range ks i rows new so_far put = rw add-one (rows, so_far, put)

pub last-more : (kept : Kept) (range : ℕ) (ks : List ℕ) (i last : ℕ) → last ≡ begin_of kept range (get_or ks i 0) → last ≡ last_begin kept range ks (i + 1)
last-more kept range ks i last is = rw add-one is

-- ---- where they break

breaks-next : (f : Files) (cached : Cached) (kept : Kept) (range i : ℕ) (ks : List ℕ) (rows : List Slots) (place : ℕ) → ks ≡ ranks_of range kept.dictionary → i < length ks
    → AreRows (Some f) cached kept range ks i rows → BlockBreaks f cached kept range (get_or ks i 0) rows place → RangeBreaks f cached kept range place
breaks-next f cached kept range i ks rows place are inside so_far breaks = record {
  count = i;
  rows = rows;
  so_far = subst (λ (l : List ℕ). AreRows (Some f) cached kept range l i rows) are so_far;
  breaks = inl (subst (λ (l : List ℕ). (i < length l) × BlockBreaks f cached kept range (get_or l i 0) rows place) are (inside, breaks));
}

-- the next block can't be read
pub unread : (f : Files) (cached : Cached) (kept : Kept) (range i : ℕ) (ks : List ℕ) (rows : List Slots) (e : SegFault) → ks ≡ ranks_of range kept.dictionary → i < length ks → AreRows (Some f) cached kept range ks i rows
    → MatchOption (place_of kept.dictionary (term_of kept.dictionary (get_or ks i 0)) range) (IsOutside e) (λ p. IsBlockFault f (key_of kept.number range p) kept.outlines e) → IsDocumentsFault f cached kept range e
unread f cached kept range i ks rows e are inside so_far h = by (place_of kept.dictionary (term_of kept.dictionary (get_or ks i 0)) range) refl e h
  where
    by : (o : Option BlockPlace) → place_of kept.dictionary (term_of kept.dictionary (get_or ks i 0)) range ≡ o → (x : SegFault)
        → MatchOption o (IsOutside x) (λ p. IsBlockFault f (key_of kept.number range p) kept.outlines x) → IsDocumentsFault f cached kept range x
    by None is (Malformed file part place) h = absurd h
    by None is (Missing file) h = absurd h
    by None is Store h = tt
    by None is Memory h = tt
    by (Some p) is (Malformed file part place) h = (h.0, h.1, breaks-next f cached kept range i ks rows place are inside so_far (inl (p, is, (refl, refl, h.2, h.3, h.4))))
    by (Some p) is (Missing file) h = h
    by (Some p) is Store h = tt
    by (Some p) is Memory h = tt

-- it can't be put
pub unput : (f : Files) (cached : Cached) (kept : Kept) (range i : ℕ) (ks : List ℕ) (rows : List Slots) (begin : ℕ) (es : List BlockEntry) (e : SegFault) → ks ≡ ranks_of range kept.dictionary → i < length ks
    → AreRows (Some f) cached kept range ks i rows → begin ≡ begin_of kept range (get_or ks i 0) → IsTermBlock (Some f) cached kept (term_of kept.dictionary (get_or ks i 0)) range es
    → IsUnput kept.number (put_block begin (get_or ks i 0) es rows) e → IsDocumentsFault f cached kept range e
unput f cached kept range i ks rows begin es e are inside so_far at block h =
    let put : put_block (begin_of kept range (get_or ks i 0)) (get_or ks i 0) es rows ≡ Err h.0 = subst (λ n. put_block n (get_or ks i 0) es rows ≡ Err h.0) at h.1 in
    subst (IsDocumentsFault f cached kept range) (sym h.2)
    (refl, refl, breaks-next f cached kept range i ks rows h.0 are inside so_far (inr (record { entries = es; block = block; put = put })))

-- a token isn't told
pub untold-token : (f : Files) (cached : Cached) (kept : Kept) (range last : ℕ) (rows : List Slots) (e : SegFault) → AreAllRows (Some f) cached kept range rows
    → documents_of kept.dictionary (of_range range kept.outlines) rows ≡ None → last ≡ range_end kept range → e ≡ block_fault kept.number last → IsDocumentsFault f cached kept range e
untold-token f cached kept range last rows e all none at is =
    subst (IsDocumentsFault f cached kept range) (sym is)
    (refl, refl, record { count = length (ranks_of range kept.dictionary); rows = rows; so_far = all; breaks = inr (refl, none, at) })

pub block-apart : (number place : ℕ) (e : SegFault) → e ≡ block_fault number place → e ≡ Store → ⊥
block-apart number place e is store = cc

pub unput-apart : (number : ℕ) (answer : Result (List Slots) ℕ) (e : SegFault) → IsUnput number answer e → e ≡ Store → ⊥
unput-apart number answer e h store = block-apart number h.0 e h.2 store

-- ---- faults that were found behind a cache in which nothing is kept that wasn't

put-before : (f : Files) (c d : Cached) (kept : Kept) (range rank : ℕ) (rows : List Slots) (answer : Result (List Slots) ℕ) → AllKept c d → IsPut (Some f) d kept range rank rows answer
    → IsPut (Some f) c kept range rank rows answer
put-before f c d kept range rank rows answer stay h = record {
  entries = h.entries;
  block = block-before (Some f) (Some f) c d kept (term_of kept.dictionary rank) range h.entries refl stay h.block;
  put = h.put;
}

rows-before : (f : Files) (c d : Cached) (kept : Kept) (range : ℕ) (ks : List ℕ) (n : ℕ) (rows : List Slots) → AllKept c d → AreRows (Some f) d kept range ks n rows → AreRows (Some f) c kept range ks n rows
rows-before f c d kept range ks zero rows stay h = h
rows-before f c d kept range ks (suc n) rows stay h =
    (h.0, rows-before f c d kept range ks n h.0 stay h.1, put-before f c d kept range (get_or ks n 0) h.0 (Ok rows) stay h.2)

pub documents-fault-before : (f : Files) (c d : Cached) (kept : Kept) (range : ℕ) (e : SegFault) → AllKept c d → IsDocumentsFault f d kept range e → IsDocumentsFault f c kept range e
documents-fault-before f c d kept range (Malformed file part place) stay h = (
  h.0,
  h.1,
  record {
    count = h.2.count;
    rows = h.2.rows;
    so_far = rows-before f c d kept range (ranks_of range kept.dictionary) h.2.count h.2.rows stay h.2.so_far;
    breaks = elim h.2.breaks [
      | inl next ↦ inl (
        next.0,
        elim next.1 [
          | inl unread ↦ inl unread
          | inr unput ↦ inr (put-before f c d kept range (get_or (ranks_of range kept.dictionary) h.2.count 0) h.2.rows (Err place) stay unput)
        ],
      )
      | inr all ↦ inr all
    ];
  },
)
documents-fault-before f c d kept range (Missing file) stay h = h
documents-fault-before f c d kept range Store stay h = tt
documents-fault-before f c d kept range Memory stay h = tt
