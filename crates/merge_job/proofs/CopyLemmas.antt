-- One document more is copied.
use Rattle.std.proofs.Common.{◌≡◌, ◌<◌, ◌≤◌, ◌+◌, ◌*◌, ◌/◌, ◌%◌, ℕ, suc, Bool, true, false, List, [], ◌∷◌, ◌++◌, length, map, get_or, take, drop, ap, sym, subst, ◌∙◌, arith, append_assoc, length-append, Option}
use Rattle.std.proofs.lemmas.List.{length-map, map-append, drop_all, get_or-map}
use Rattle.std.proofs.lemmas.List.Sums.{sum_by-cons, sum_by-append}
use Rattle.ri_base.specs.Collection.{token_count}
use Rattle.ri_base.specs.Documents.{Document}
use Rattle.ri_base.specs.declared.limits.TheConstants.{MAX_HELD_TOKENS}
use Rattle.store_ends.specs.Files.{Files}
use Rattle.seg_codec.specs.Segment.{entry_of}
use Rattle.seg_codec.specs.declared.documents.Entry.{Entry}
use Rattle.disk_index.specs.Blocks.{of_range}
use Rattle.disk_index.specs.Cache.{AllKept, Cached, IsCacheBacked}
use Rattle.disk_index.specs.Parts.{IsPartBacked, Source, reads, size}
use Rattle.disk_index.specs.Snapshots.{AreBacked, Marked, unmarked}
use Rattle.disk_index.proofs.AmongLemmas.{backed-at}
use Rattle.disk_index.proofs.RebuildLemmas.{map-range}
use Rattle.disk_index.proofs.RebuiltLemmas.{reads-length}
use Rattle.merge_job.specs.Range.{IsRange, IsRangeNow}
use Rattle.merge_job.specs.Walk.{entries, rest, rest_in, tokens_of}
use Rattle.merge_job.specs.declared.copying.Range.{Range}
use Rattle.merge_job.proofs.KeepLemmas.{all-backed}
use Rattle.merge_job.proofs.WalkLemmas.{entries-reads, in-range, length-entries, length-range, rest-part, rest-past, rest_in-dead, rest_in-live, tokens-entries}

-- ---- a range that was read

pub range-read : (told : Option Files) (own s : Source) (n : ℕ) (docs : List Document) → own ≡ s → map entry_of docs ≡ map entry_of (of_range n (reads told own)) → map entry_of docs ≡ of_range n (entries s)
range-read told own s n docs same kept =
    kept ∙ sym (map-range n (reads told own)) ∙ ap (λ (l : List Entry). of_range n l) (entries-reads told own) ∙ ap (λ (x : Source). of_range n (entries x)) same

-- ---- one document of a part

step : {B : Type 0} (range xs : List B) (ms : List Bool) (i n : ℕ) (y : B) → i < length xs → length ms ≡ length xs → get_or ms i false ≡ false → n ≡ i / 64 → range ≡ take 64 (drop (64 * n) xs) → y ≡ get_or range (i % 64) y
    → unmarked (drop i xs) (drop i ms) ≡ y ∷ unmarked (drop (i + 1) xs) (drop (i + 1) ms)
step range xs ms i n y within long live num read at =
    let place : y ≡ get_or xs i y = at ∙ ap (λ l. get_or l (i % 64) y) read ∙ ap (λ k. get_or (take 64 (drop (64 * k) xs)) (i % 64) y) num ∙ in-range xs i y within in
    rest_in-live xs ms i y within long live ∙ ap (λ z. z ∷ unmarked (drop (i + 1) xs) (drop (i + 1) ms)) (sym place)

module _ (m : Marked) (i : ℕ) (whole : length m.marks ≡ size m.source) (within : i < size m.source) where
  -- a marked one is passed
  pub entry-dead : get_or m.marks i false ≡ true → rest_in entries m i ≡ rest_in entries m (i + 1)
  entry-dead dead = (let n = length-entries m.source in rest_in-dead (entries m.source) m.marks i (omega (arith, n, within)) (omega (arith, n, whole)) dead)

  pub document-dead : (told : Option Files) → get_or m.marks i false ≡ true → rest_in (reads told) m i ≡ rest_in (reads told) m (i + 1)
  document-dead told dead = (let n = reads-length told m.source in rest_in-dead (reads told m.source) m.marks i (omega (arith, n, within)) (omega (arith, n, whole)) dead)

  module _ (r : Range) (num : r.number ≡ i / 64) (read : IsRange m.source r) where
    -- it stands in its range
    pub in-docs : i % 64 < length r.docs
    in-docs =
        let n = length-entries m.source in
        let l = length-range (entries m.source) i (omega (arith, n, within)) in
        let e = sym (length-map r.docs entry_of) ∙ ap length read ∙ ap (λ k. length (take 64 (drop (64 * k) (entries m.source)))) num in
        omega (arith, l, e)

    -- a live one is the next, without its tokens and, where the range is that of the part, whole
    pub entry-next : (d : Document) → get_or m.marks i false ≡ false → d ≡ get_or r.docs (i % 64) d → rest_in entries m i ≡ entry_of d ∷ rest_in entries m (i + 1)
    entry-next d live at =
        let n = length-entries m.source in
        let here : entry_of d ≡ get_or (map entry_of r.docs) (i % 64) (entry_of d) = ap entry_of at ∙ sym (get_or-map entry_of r.docs (i % 64) d (entry_of d) in-docs) in
        step (map entry_of r.docs) (entries m.source) m.marks i r.number (entry_of d) (omega (arith, n, within)) (omega (arith, n, whole)) live num read here

  pub document-next : (told : Option Files) (r : Range) (d : Document) → r.number ≡ i / 64 → IsRangeNow told m.source r → get_or m.marks i false ≡ false → d ≡ get_or r.docs (i % 64) d → rest_in (reads told) m i ≡ d ∷ rest_in (reads told) m (i + 1)
  document-next told r d num read live at = (let n = reads-length told m.source in step r.docs (reads told m.source) m.marks i r.number d (omega (arith, n, within)) (omega (arith, n, whole)) live num read at)

-- it is put behind the others
pub put-entry : (taken : List Document) (d : Document) (behind all : List Entry) → all ≡ entry_of d ∷ behind → map entry_of (taken ++ d ∷ []) ++ behind ≡ map entry_of taken ++ all
put-entry taken d behind all e =
    ap (λ (l : List Entry). l ++ behind) (map-append entry_of taken (d ∷ [])) ∙ append_assoc (map entry_of taken) (entry_of d ∷ []) behind ∙ ap (λ (l : List Entry). map entry_of taken ++ l) (sym e)

pub put-document : (taken : List Document) (d : Document) (behind all : List Document) → all ≡ d ∷ behind → (taken ++ d ∷ []) ++ behind ≡ taken ++ all
put-document taken d behind all e = append_assoc taken (d ∷ []) behind ∙ ap (λ (l : List Document). taken ++ l) (sym e)

-- there is room for its tokens
pub tokens-next : (n : ℕ) (all behind : List Entry) (d : Document) → all ≡ entry_of d ∷ behind → n + tokens_of all ≤ MAX_HELD_TOKENS → n + length d.tokens ≤ MAX_HELD_TOKENS
tokens-next n all behind d e room =
    let s = ap tokens_of e ∙ sum_by-cons (λ (o : Entry). o.tokens) (entry_of d) behind in
    omega (arith, s, room)

-- what was copied and what is left have as many tokens as before
pub tokens-left : (taken more : List Document) (left less : List Entry) → map entry_of more ++ less ≡ map entry_of taken ++ left → token_count taken + tokens_of left ≤ MAX_HELD_TOKENS → token_count more + tokens_of less ≤ MAX_HELD_TOKENS
tokens-left taken more left less e room =
    let a = sum_by-append (λ (o : Entry). o.tokens) (map entry_of more) less in
    let b = sum_by-append (λ (o : Entry). o.tokens) (map entry_of taken) left in
    let s = ap tokens_of e in
    let c = tokens-entries more in
    let d = tokens-entries taken in
    omega (arith, a, b, s, c, d, room)

-- ---- a step in one part is a step in all

in-part : {A : Type 0} (f : Source → List A) (parts : List Marked) (p i j : ℕ) (m : Marked) (xs ys : List A) → p < length parts → m ≡ get_or parts p m → ys ++ rest_in f m j ≡ xs ++ rest_in f m i → ys ++ rest f parts p j ≡ xs ++ rest f parts p i
in-part f parts p i j m xs ys within at e =
    let a : rest f parts p i ≡ rest_in f m i ++ rest f parts (suc p) 0 = rest-part f parts p i m within ∙ ap (λ (n : Marked). rest_in f n i ++ rest f parts (suc p) 0) (sym at) in
    let b : rest f parts p j ≡ rest_in f m j ++ rest f parts (suc p) 0 = rest-part f parts p j m within ∙ ap (λ (n : Marked). rest_in f n j ++ rest f parts (suc p) 0) (sym at) in
    ap (λ l. ys ++ l) b ∙ sym (append_assoc ys (rest_in f m j) (rest f parts (suc p) 0)) ∙ ap (λ l. l ++ rest f parts (suc p) 0) e ∙ append_assoc xs (rest_in f m i) (rest f parts (suc p) 0) ∙ ap (λ l. xs ++ l) (sym a)

unmarked-past : {A : Type 0} (xs : List A) (ms : List Bool) (i : ℕ) → length xs ≤ i → unmarked (drop i xs) (drop i ms) ≡ []
unmarked-past xs ms i past = ap (λ l. unmarked l (drop i ms)) (drop_all i xs past)

-- at the end of a part the next begins
to-next : {A : Type 0} (f : Source → List A) (parts : List Marked) (p j : ℕ) (m : Marked) → p < length parts → m ≡ get_or parts p m → length (f m.source) ≤ j → rest f parts (p + 1) 0 ≡ rest f parts p j
to-next f parts p j m within at past =
    let n : p + 1 ≡ suc p = omega arith in
    let b : rest f parts p j ≡ rest_in f m j ++ rest f parts (suc p) 0 = rest-part f parts p j m within ∙ ap (λ (n : Marked). rest_in f n j ++ rest f parts (suc p) 0) (sym at) in
    ap (λ k. rest f parts k 0) n ∙ sym (b ∙ ap (λ l. l ++ rest f parts (suc p) 0) (unmarked-past (f m.source) m.marks j past))

-- one of the parts
module _ (parts : List Marked) (q p : ℕ) (m : Marked) (within : p < length parts) (same : q ≡ p) (at : m ≡ get_or parts p m) where
  -- its tokens are among those of all
  pub tokens-part : (i n : ℕ) → n + tokens_of (rest entries parts q i) ≤ MAX_HELD_TOKENS → n + tokens_of (rest_in entries m i) ≤ MAX_HELD_TOKENS
  tokens-part i n room =
      let a = ap (λ k. tokens_of (rest entries parts k i)) same ∙ ap tokens_of (rest-part entries parts p i m within) ∙ sum_by-append (λ (o : Entry). o.tokens) (rest_in entries (get_or parts p m) i) (rest entries parts (suc p) 0) in
      let b = ap (λ (k : Marked). tokens_of (rest_in entries k i)) at in
      omega (arith, a, b, room)

  pub in-part-at : {A : Type 0} (f : Source → List A) (i j : ℕ) (xs ys all : List A) → ys ++ rest_in f m j ≡ xs ++ rest_in f m i → xs ++ rest f parts q i ≡ all → ys ++ rest f parts q j ≡ all
  in-part-at f i j xs ys all e before = ap (λ k. ys ++ rest f parts k j) same ∙ in-part f parts p i j m xs ys within at e ∙ ap (λ k. xs ++ rest f parts k i) (sym same) ∙ before

  pub to-next-at : {A : Type 0} (f : Source → List A) (j : ℕ) (ys all : List A) → length (f m.source) ≤ j → ys ++ rest f parts q j ≡ all → ys ++ rest f parts (p + 1) 0 ≡ all
  to-next-at f j ys all past before = ap (λ l. ys ++ l) (to-next f parts p j m within at past) ∙ ap (λ k. ys ++ rest f parts k j) (sym same) ∙ before

  -- the same of whole documents, as the files that stay have them
  pub exact-at : (told here : Option Files) (c d : Cached) (i j : ℕ) (xs ys all : List Document) → here ≡ told → AllKept c d
      → (IsPartBacked here m.source → IsCacheBacked here d → ys ++ rest_in (reads here) m j ≡ xs ++ rest_in (reads here) m i)
      → (AreBacked told parts → IsCacheBacked told c → xs ++ rest (reads told) parts q i ≡ all) → AreBacked told parts → IsCacheBacked told c → ys ++ rest (reads told) parts q j ≡ all
  exact-at told here c d i j xs ys all stay keeps one before backed cached =
      let now = subst (λ (f : Option Files). IsPartBacked f m.source → IsCacheBacked f d → ys ++ rest_in (reads f) m j ≡ xs ++ rest_in (reads f) m i) stay one in
      in-part-at (reads told) i j xs ys all (now (backed-at parts p m within at told backed) (all-backed told c d keeps cached)) (before backed cached)

-- where nothing is left, all that were wanted are copied
pub all-copied : (taken more : List Document) (parts : List Marked) (p i q j goal : ℕ) → map entry_of more ++ rest entries parts q j ≡ map entry_of taken ++ rest entries parts p i → length parts ≤ q
    → goal ≤ length taken + length (rest entries parts p i) → length more ≤ goal → length more ≡ goal
all-copied taken more parts p i q j goal e past enough most =
    let a = ap length e in
    let b = length-append (map entry_of more) (rest entries parts q j) in
    let c = length-append (map entry_of taken) (rest entries parts p i) in
    let d = length-map more entry_of in
    let f = length-map taken entry_of in
    let none = ap length (rest-past entries parts q j past) in
    omega (arith, a, b, c, d, f, none, enough, most)
