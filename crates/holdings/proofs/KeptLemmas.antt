-- What is kept where a document is added or marked.
use Rattle.std.proofs.Common.{◌≡◌, ◌<◌, ◌≤◌, ◌+◌, ℕ, zero, suc, Bool, true, false, List, [], ◌∷◌, ◌++◌, ◌||◌, length, map, set, get_or, refl, ap, sym, subst, ◌∙◌, arith, Option, Some, None, cond, ◌⊎◌, inl, inr, length-append}
use Rattle.std.specs.List.{All, AllByRecursion, IsDistinct, list_any}
use Rattle.std.specs.Map.{lookup}
use Rattle.std.specs.Prelude.{is_some}
use Rattle.std.specs.Str.{bytes_eq}
use Rattle.std.proofs.lemmas.Bool.{false_from_ne_true}
use Rattle.std.proofs.lemmas.List.{append-nil, get_or_append_left, length-map, length-set}
use Rattle.std.proofs.lemmas.List.Elements.{All-cons, All-head, All-push, All-tail}
use Rattle.std.proofs.lemmas.List.Folds.{list_any-append}
use Rattle.std.proofs.lemmas.Map.Keys.{IsDistinct-from_apart, apart_from_distinct}
use Rattle.std.proofs.lemmas.Slice.Eq.{bytes_eq-Decides}
use Rattle.ri_base.specs.Documents.{Document}
use Rattle.store_ends.specs.Files.{Files}
use Rattle.disk_index.specs.Parts.{InMemory}
use Rattle.disk_index.specs.Snapshots as snapshots
use Rattle.disk_index.specs.Snapshots.{Marked, live_in, unmarked}
use Rattle.disk_index.proofs.AlikeLemmas.{unmarked-push}
use Rattle.holdings.specs.Kept.{AreKept, ArePlaced, cell, marked_at, row}
use Rattle.holdings.specs.MarkedParts.{IsWhole, IsWritable, docnos_in, docnos_of, filled}
use Rattle.holdings.specs.Marks.{cells}
use Rattle.holdings.specs.declared.spot.Spot.{Spot}
use Rattle.holdings.proofs.CellLemmas.{cell-added, cell-last, cell-marked, cell-unmarked, cells-push, length-row, map-push, past-end, push-last}
use Rattle.holdings.proofs.LiveLemmas.{flat_map-more, flat_map-push}
use Rattle.holdings.proofs.PlacedLemmas.{IsPlaced-add, IsPlaced-drop, some_same}

pub either : (a b : Bool) → (a || b) ≡ true → (a ≡ true) ⊎ (b ≡ true)
either true b e = inl refl
either false b e = inr e

pub or-left : (a b : Bool) → a ≡ true → (a || b) ≡ true
or-left true b e = refl
or-left false b e = cc

pub or-right : (a b : Bool) → b ≡ true → (a || b) ≡ true
or-right true b e = refl
or-right false b e = e

-- what stands at a place of a part is among what isn't marked, and the other way round
pub any-from_row : (k : List ℕ) (xs : List (List ℕ)) (ms : List Bool) (i : ℕ) → get_or (cells xs ms) i None ≡ Some k → list_any (bytes_eq k) (unmarked xs ms) ≡ true
any-from_row k [] ms i e = cc
any-from_row k (x ∷ xs) [] i e = cc
any-from_row k (x ∷ xs) (true ∷ ms) zero e = cc
any-from_row k (x ∷ xs) (false ∷ ms) zero e = or-left _ _ ((bytes_eq-Decides k x).1 (sym (some_same _ _ e)))
any-from_row k (x ∷ xs) (true ∷ ms) (suc i) e = any-from_row k xs ms i e
any-from_row k (x ∷ xs) (false ∷ ms) (suc i) e = or-right _ _ (any-from_row k xs ms i e)

row-from_any : (k : List ℕ) (xs : List (List ℕ)) (ms : List Bool) → list_any (bytes_eq k) (unmarked xs ms) ≡ true → (i : ℕ) × (get_or (cells xs ms) i None ≡ Some k)
row-from_any k [] ms e = cc
row-from_any k (x ∷ xs) [] e = cc
row-from_any k (x ∷ xs) (true ∷ ms) e = (let r = row-from_any k xs ms e in (suc r.0, r.1))
row-from_any k (x ∷ xs) (false ∷ ms) e = elim (either _ _ e) [
  | inl y ↦ (0, ap Some (sym ((bytes_eq-Decides k x).0 y)))
  | inr rest ↦ (let r = row-from_any k xs ms rest in (suc r.0, r.1))
]

pub live-from_cell : (k : List ℕ) (parts : List Marked) (p i : ℕ) → cell (map row parts) p i ≡ Some k → list_any (bytes_eq k) (docnos_of parts) ≡ true
live-from_cell k [] p i e = cc
live-from_cell k (m ∷ ms) zero i e = list_any-append (bytes_eq k) (unmarked (docnos_in m.source) m.marks) (docnos_of ms) ∙ or-left _ _ (any-from_row k (docnos_in m.source) m.marks i e)
live-from_cell k (m ∷ ms) (suc p) i e = list_any-append (bytes_eq k) (unmarked (docnos_in m.source) m.marks) (docnos_of ms) ∙ or-right _ _ (live-from_cell k ms p i e)

pub cell-from_live : (k : List ℕ) (parts : List Marked) → list_any (bytes_eq k) (docnos_of parts) ≡ true → (s : Spot) × (cell (map row parts) s.part s.id ≡ Some k)
cell-from_live k [] e = cc
cell-from_live k (m ∷ ms) e = elim (either _ _ (sym (list_any-append (bytes_eq k) (unmarked (docnos_in m.source) m.marks) (docnos_of ms)) ∙ e)) [
  | inl here ↦ (let r = row-from_any k (docnos_in m.source) m.marks here in (record { part = 0; id = r.0 }, r.1))
  | inr rest ↦ (let r = cell-from_live k ms rest in (record { part = suc r.0.part; id = r.0.id }, r.1))
]

-- the map has a docno exactly where it is live
is-live : (k : List ℕ) (o : Option Spot) (b : Bool) → ((s : Spot) → o ≡ Some s → b ≡ true) → (b ≡ true → (s : Spot) × (o ≡ Some s)) → is_some o ≡ b
is-live k None true there back = let r = back refl in absurd cc
is-live k None false there back = refl
is-live k (Some s) b there back = sym (there s refl)

pub live-from_lookup : (most : ℕ) (places : List (List ℕ × Spot)) (parts : List Marked) → AreKept most places parts → (k : List ℕ) → is_some (lookup (bytes_eq k) places) ≡ list_any (bytes_eq k) (docnos_of parts)
live-from_lookup most places parts kept k = is-live k (lookup (bytes_eq k) places) (list_any (bytes_eq k) (docnos_of parts))
    (λ s e. live-from_cell k parts s.part s.id ((kept.placed k s).0 e))
    (λ e. (let r = cell-from_live k parts e in (r.0, (kept.placed k r.0).1 r.1)))

pub none-from_not : (o : Option Spot) → is_some o ≡ false → o ≡ None
none-from_not None e = refl
none-from_not (Some s) e = cc

length-docnos : (docs : List Document) → length (map (λ (d : Document). d.docno) docs) ≡ length docs
length-docnos docs = length-map docs (λ (d : Document). d.docno)

abbrev pub CanWrite : Marked → Type 0
CanWrite m = IsWritable m.source

-- what holds of all parts holds of those before the last
pub All-front : (P : Marked → Type 0) (xs : List Marked) (x : Marked) → All P (xs ++ x ∷ []) → All P xs
All-front P xs x all = λ j e below. subst P (get_or_append_left xs (x ∷ []) e j below) (all j e (omega (arith, below, length-append xs (x ∷ []))))

-- each document of the last part has a mark
pub last-whole : (parts : List Marked) (docs : List Document) (marks : List Bool) → All IsWhole (parts ++ filled docs marks ∷ []) → length marks ≡ length docs
last-whole parts docs marks whole =
    subst IsWhole (push-last parts (filled docs marks) (filled docs marks)) (whole (length parts) (filled docs marks) (omega (arith, length-append parts (filled docs marks ∷ []))))

pub placed-of : (most : ℕ) (places : List (List ℕ × Spot)) (parts : List Marked) → AreKept most places parts → ArePlaced places parts
placed-of most places parts kept = record { placed = kept.placed; counted = kept.counted; whole = kept.whole }

-- one document more in the part that is being filled
pub ArePlaced-add : (places new : List (List ℕ × Spot)) (parts : List Marked) (docs : List Document) (marks : List Bool) (d : Document) (s : Spot)
    → ArePlaced places (parts ++ filled docs marks ∷ []) → lookup (bytes_eq d.docno) places ≡ None
    → ((q : List ℕ) → lookup (bytes_eq q) new ≡ cond (bytes_eq d.docno q) (Some s) (lookup (bytes_eq q) places)) → length new ≡ length places + 1
    → s.part ≡ length parts → s.id ≡ length docs → ArePlaced new (parts ++ filled (docs ++ d ∷ []) (marks ++ false ∷ []) ∷ [])
ArePlaced-add places new parts docs marks d s kept none put long part id =
    let g = map row parts in
    let names = map (λ (x : Document). x.docno) docs in
    let r = cells names marks in
    let whole : length marks ≡ length names = last-whole parts docs marks kept.whole ∙ sym (length-docnos docs) in
    let row' : row (filled (docs ++ d ∷ []) (marks ++ false ∷ [])) ≡ r ++ Some d.docno ∷ [] =
    ap (λ l. cells l (marks ++ false ∷ [])) (map-push (λ (x : Document). x.docno) docs d) ∙ cells-push names marks d.docno whole in
    let grid : map row (parts ++ filled docs marks ∷ []) ≡ g ++ r ∷ [] = map-push row parts (filled docs marks) in
    let grid' : map row (parts ++ filled (docs ++ d ∷ []) (marks ++ false ∷ []) ∷ []) ≡ g ++ (r ++ Some d.docno ∷ []) ∷ [] =
    map-push row parts (filled (docs ++ d ∷ []) (marks ++ false ∷ [])) ∙ ap (λ x. g ++ x ∷ []) row' in
    let p : s.part ≡ length g = part ∙ sym (length-map parts row) in
    let i : s.id ≡ length r = id ∙ sym (length-docnos docs) ∙ sym (length-row names marks whole) in
    let free : cell (map row (parts ++ filled docs marks ∷ [])) s.part s.id ≡ None =
    ap (λ x. cell x s.part s.id) grid ∙ ap (λ n. cell (g ++ r ∷ []) n s.id) p ∙ cell-last g r s.id ∙ ap (λ n. get_or r n None) i ∙ past-end r None in
    let here : cell (map row (parts ++ filled (docs ++ d ∷ []) (marks ++ false ∷ []) ∷ [])) s.part s.id ≡ Some d.docno =
    ap (λ x. cell x s.part s.id) grid' ∙ ap (λ n. cell (g ++ (r ++ Some d.docno ∷ []) ∷ []) n s.id) p ∙ cell-last g (r ++ Some d.docno ∷ []) s.id
    ∙ ap (λ n. get_or (r ++ Some d.docno ∷ []) n None) i ∙ push-last r (Some d.docno) None in
    let docnos : unmarked (map (λ (x : Document). x.docno) (docs ++ d ∷ [])) (marks ++ false ∷ []) ≡ unmarked names marks ++ d.docno ∷ [] =
    ap (λ l. unmarked l (marks ++ false ∷ [])) (map-push (λ (x : Document). x.docno) docs d) ∙ unmarked-push names marks d.docno whole in
    record {
      placed = IsPlaced-add _ _ _ _ d.docno s kept.placed none put free here
          (λ q j ne. ap (λ x. cell x q j) grid' ∙ cell-added g r d.docno q j (λ a b. ne (a ∙ sym p) (b ∙ sym i)) ∙ sym (ap (λ x. cell x q j) grid));
      counted =
          let more : docnos_of (parts ++ filled (docs ++ d ∷ []) (marks ++ false ∷ []) ∷ []) ≡ docnos_of (parts ++ filled docs marks ∷ []) ++ d.docno ∷ [] =
          flat_map-more (λ m. unmarked (docnos_in m.source) m.marks) parts (filled docs marks) (filled (docs ++ d ∷ []) (marks ++ false ∷ [])) d.docno docnos in
          let n = ap length more ∙ length-append (docnos_of (parts ++ filled docs marks ∷ [])) (d.docno ∷ []) in
          omega (arith, long, kept.counted, n);
      whole =
          let n : length (marks ++ false ∷ []) ≡ length (docs ++ d ∷ []) =
          length-append marks (false ∷ []) ∙ ap (λ n. n + 1) (last-whole parts docs marks kept.whole) ∙ sym (length-append docs (d ∷ [])) in
          All-push IsWhole parts (filled (docs ++ d ∷ []) (marks ++ false ∷ [])) (All-front IsWhole parts (filled docs marks) kept.whole) n;
    }

pub AreKept-add : (most : ℕ) (places new : List (List ℕ × Spot)) (parts : List Marked) (docs : List Document) (marks : List Bool) (d : Document) (s : Spot)
    → AreKept most places (parts ++ filled docs marks ∷ []) → lookup (bytes_eq d.docno) places ≡ None
    → ((q : List ℕ) → lookup (bytes_eq q) new ≡ cond (bytes_eq d.docno q) (Some s) (lookup (bytes_eq q) places)) → length new ≡ length places + 1
    → s.part ≡ length parts → s.id ≡ length docs → IsWritable (InMemory (docs ++ d ∷ [])) → AreKept most new (parts ++ filled (docs ++ d ∷ []) (marks ++ false ∷ []) ∷ [])
AreKept-add most places new parts docs marks d s kept none put long part id fits =
    let now = ArePlaced-add places new parts docs marks d s (placed-of most places (parts ++ filled docs marks ∷ []) kept) none put long part id in
    record {
      small = kept.small;
      placed = now.placed;
      counted = now.counted;
      whole = now.whole;
      writable = All-push CanWrite parts (filled (docs ++ d ∷ []) (marks ++ false ∷ [])) (All-front CanWrite parts (filled docs marks) kept.writable) fits;
    }

fewer-row : (k : List ℕ) (xs : List (List ℕ)) (ms : List Bool) (i : ℕ) → get_or (cells xs ms) i None ≡ Some k → length (unmarked xs (set ms i true)) + 1 ≡ length (unmarked xs ms)
fewer-row k [] ms i e = cc
fewer-row k (x ∷ xs) [] i e = cc
fewer-row k (x ∷ xs) (true ∷ ms) zero e = cc
fewer-row k (x ∷ xs) (false ∷ ms) zero e = omega arith
fewer-row k (x ∷ xs) (true ∷ ms) (suc i) e = fewer-row k xs ms i e
fewer-row k (x ∷ xs) (false ∷ ms) (suc i) e = let h = fewer-row k xs ms i e in omega (arith, h)

fewer-live : (k : List ℕ) (parts : List Marked) (p i : ℕ) → cell (map row parts) p i ≡ Some k → length (docnos_of (marked_at parts p i)) + 1 ≡ length (docnos_of parts)
fewer-live k [] p i e = cc
fewer-live k (m ∷ ms) zero i e =
    let h = fewer-row k (docnos_in m.source) m.marks i e in
    omega (arith, h, length-append (unmarked (docnos_in m.source) (set m.marks i true)) (docnos_of ms), length-append (unmarked (docnos_in m.source) m.marks) (docnos_of ms))
fewer-live k (m ∷ ms) (suc p) i e =
    let h = fewer-live k ms p i e in
    omega (arith, h, length-append (unmarked (docnos_in m.source) m.marks) (docnos_of (marked_at ms p i)), length-append (unmarked (docnos_in m.source) m.marks) (docnos_of ms))

whole-marked : (parts : List Marked) (p i : ℕ) → All IsWhole parts → All IsWhole (marked_at parts p i)
whole-marked [] p i all = all
whole-marked (m ∷ ms) zero i all = All-cons IsWhole _ ms (length-set m.marks i true ∙ All-head IsWhole m ms all) (All-tail IsWhole m ms all)
whole-marked (m ∷ ms) (suc p) i all = All-cons IsWhole m (marked_at ms p i) (All-head IsWhole m ms all) (whole-marked ms p i (All-tail IsWhole m ms all))

writable-marked : (parts : List Marked) (p i : ℕ) → All CanWrite parts → All CanWrite (marked_at parts p i)
writable-marked [] p i all = all
writable-marked (m ∷ ms) zero i all = All-cons CanWrite _ ms (All-head CanWrite m ms all) (All-tail CanWrite m ms all)
writable-marked (m ∷ ms) (suc p) i all = All-cons CanWrite m (marked_at ms p i) (All-head CanWrite m ms all) (writable-marked ms p i (All-tail CanWrite m ms all))

-- one document less
pub AreKept-mark : (most : ℕ) (places new : List (List ℕ × Spot)) (parts : List Marked) (k : List ℕ) (s : Spot) → AreKept most places parts → lookup (bytes_eq k) places ≡ Some s
    → ((q : List ℕ) → lookup (bytes_eq q) new ≡ cond (bytes_eq k q) None (lookup (bytes_eq q) places)) → length new + 1 ≡ length places → AreKept most new (marked_at parts s.part s.id)
AreKept-mark most places new parts k s kept was put short =
    let stands : cell (map row parts) s.part s.id ≡ Some k = (kept.placed k s).0 was in
    record {
      small = kept.small;
      placed = IsPlaced-drop _ _ _ _ k s kept.placed was put (cell-marked parts s.part s.id) (λ q j ne. cell-unmarked parts s.part s.id q j ne);
      counted = (let h = fewer-live k parts s.part s.id stands in omega (arith, short, kept.counted, h));
      whole = whole-marked parts s.part s.id kept.whole;
      writable = writable-marked parts s.part s.id kept.writable;
    }

-- a docno stands at the one place that is found
pub once-kept : (most : ℕ) (places : List (List ℕ × Spot)) (parts : List Marked) (k : List ℕ) (s : Spot) → AreKept most places parts → lookup (bytes_eq k) places ≡ Some s
    → (q j : ℕ) → cell (map row parts) q j ≡ Some k → (q ≡ s.part) × (j ≡ s.id)
once-kept most places parts k s kept was q j e =
    let st : record { part = q; id = j } ≡ s = some_same _ s (sym ((kept.placed k (record { part = q; id = j })).1 e) ∙ was) in
    (ap (λ (x : Spot). x.part) st, ap (λ (x : Spot). x.id) st)

within-cells : (k : List ℕ) (xs : List (List ℕ)) (ms : List Bool) (i : ℕ) → get_or (cells xs ms) i None ≡ Some k → i < length ms
within-cells k [] ms i e = cc
within-cells k (x ∷ xs) [] i e = cc
within-cells k (x ∷ xs) (true ∷ ms) zero e = omega arith
within-cells k (x ∷ xs) (false ∷ ms) zero e = omega arith
within-cells k (x ∷ xs) (true ∷ ms) (suc i) e = let h = within-cells k xs ms i e in omega (arith, h)
within-cells k (x ∷ xs) (false ∷ ms) (suc i) e = let h = within-cells k xs ms i e in omega (arith, h)

pub mark-room : (parts : List Marked) (docs : List Document) (marks : List Bool) (p i : ℕ) (k : List ℕ) → cell (map row (parts ++ filled docs marks ∷ [])) p i ≡ Some k
    → i < length (get_or (parts ++ filled [] marks ∷ []) p (filled [] [])).marks
mark-room [] docs marks zero i k e = within-cells k (map (λ (d : Document). d.docno) docs) marks i e
mark-room [] docs marks (suc p) i k e = cc
mark-room (m ∷ ms) docs marks zero i k e = within-cells k (docnos_in m.source) m.marks i e
mark-room (m ∷ ms) docs marks (suc p) i k e = mark-room ms docs marks p i k e

-- the part of a marked document is one of those that aren't being filled, or the one that is
pub mark-part : (ps : List Marked) (f m : Marked) (p i : ℕ) → p < length ps → m ≡ get_or ps p m
    → set ps p (record { source = m.source; marks = set m.marks i true }) ++ f ∷ [] ≡ marked_at (ps ++ f ∷ []) p i
mark-part [] f m p i below at = absurd (omega (arith, below))
mark-part (x ∷ xs) f m zero i below at = ap (λ (y : Marked). record { source = y.source; marks = set y.marks i true } ∷ (xs ++ f ∷ [])) at
mark-part (x ∷ xs) f m (suc p) i below at = ap (λ l. x ∷ l) (mark-part xs f m p i (omega (arith, below)) at)

pub mark-filling : (ps : List Marked) (f : Marked) (i : ℕ) → ps ++ record { source = f.source; marks = set f.marks i true } ∷ [] ≡ marked_at (ps ++ f ∷ []) (length ps) i
mark-filling [] f i = refl
mark-filling (x ∷ xs) f i = ap (λ l. x ∷ l) (mark-filling xs f i)

-- where the other parts have fewer parts than the place says, it is in the last
pub at-end : (ps : List Marked) (docs : List Document) (marks : List Bool) (p i : ℕ) → i < length (get_or (ps ++ filled docs marks ∷ []) p (filled [] [])).marks → length ps ≤ p → p ≡ length ps
at-end [] docs marks zero i e le = refl
at-end [] docs marks (suc p) i e le = absurd (omega (arith, e))
at-end (m ∷ ms) docs marks zero i e le = absurd (omega (arith, le))
at-end (m ∷ ms) docs marks (suc p) i e le = ap suc (at-end ms docs marks p i e (omega (arith, le)))

-- an empty part behind the others
pub cell-empty : (g : List (List (Option (List ℕ)))) (p i : ℕ) → cell (g ++ [] ∷ []) p i ≡ cell g p i
cell-empty [] zero i = refl
cell-empty [] (suc p) i = refl
cell-empty (r ∷ g) zero i = refl
cell-empty (r ∷ g) (suc p) i = cell-empty g p i

pub ArePlaced-close : (places : List (List ℕ × Spot)) (parts : List Marked) → ArePlaced places parts → ArePlaced places (parts ++ filled [] [] ∷ [])
ArePlaced-close places parts kept =
    let grid : map row (parts ++ filled [] [] ∷ []) ≡ map row parts ++ [] ∷ [] = map-push row parts (filled [] []) in
    let same : (p i : ℕ) → cell (map row (parts ++ filled [] [] ∷ [])) p i ≡ cell (map row parts) p i = λ p i. ap (λ g. cell g p i) grid ∙ cell-empty (map row parts) p i in
    let docnos : docnos_of (parts ++ filled [] [] ∷ []) ≡ docnos_of parts = flat_map-push (λ m. unmarked (docnos_in m.source) m.marks) parts (filled [] []) ∙ append-nil (docnos_of parts) in
    record {
      placed = λ q s. ((λ e. same s.part s.id ∙ (kept.placed q s).0 e), (λ e. (kept.placed q s).1 (sym (same s.part s.id) ∙ e)));
      counted = kept.counted ∙ sym (ap length docnos);
      whole = All-push IsWhole parts (filled [] []) kept.whole refl;
    }

pub AreKept-close : (most : ℕ) (places : List (List ℕ × Spot)) (parts : List Marked) → AreKept most places parts → AreKept most places (parts ++ filled [] [] ∷ [])
AreKept-close most places parts kept =
    let now = ArePlaced-close places parts (placed-of most places parts kept) in
    record {
      small = kept.small;
      placed = now.placed;
      counted = now.counted;
      whole = now.whole;
      writable = All-push CanWrite parts (filled [] []) kept.writable (omega arith, omega arith);
    }

-- the live documents with one more behind them
pub live-added : (most : ℕ) (places : List (List ℕ × Spot)) (parts : List Marked) (docs : List Document) (marks : List Bool) (d : Document) → AreKept most places (parts ++ filled docs marks ∷ [])
    → (files : Option Files) → snapshots.live files (parts ++ filled (docs ++ d ∷ []) (marks ++ false ∷ []) ∷ []) ≡ snapshots.live files (parts ++ filled docs marks ∷ []) ++ d ∷ []
live-added most places parts docs marks d kept files =
    flat_map-more (live_in files) parts (filled docs marks) (filled (docs ++ d ∷ []) (marks ++ false ∷ [])) d (unmarked-push docs marks d (last-whole parts docs marks kept.whole))

none-any : (k : List ℕ) (xs : List (List ℕ)) → list_any (bytes_eq k) xs ≡ false → AllByRecursion (λ y. bytes_eq k y ≡ false) xs
none-any k [] e = tt
none-any k (x ∷ xs) e = (let f = both-false _ _ e in (f.0, none-any k xs f.1))
  where
    both-false : (a b : Bool) → (a || b) ≡ false → (a ≡ false) × (b ≡ false)
    both-false true b e = cc
    both-false false b e = (refl, e)

-- a docno that stands at one place only is in the list once
row-distinct : (xs : List (List ℕ)) (ms : List Bool) (rest : List (List ℕ)) → IsDistinct bytes_eq rest
    → ((i : ℕ) (k : List ℕ) → get_or (cells xs ms) i None ≡ Some k → list_any (bytes_eq k) rest ≡ true → ⊥)
    → ((i j : ℕ) (k : List ℕ) → get_or (cells xs ms) i None ≡ Some k → get_or (cells xs ms) j None ≡ Some k → i ≡ j) → IsDistinct bytes_eq (unmarked xs ms ++ rest)
unfolding IsDistinct
row-distinct [] ms rest distinct apart once = distinct
row-distinct (x ∷ xs) [] rest distinct apart once = distinct
row-distinct (x ∷ xs) (true ∷ ms) rest distinct apart once =
    row-distinct xs ms rest distinct (λ i k e. apart (suc i) k e) (λ i j k a b. omega (arith, once (suc i) (suc j) k a b))
row-distinct (x ∷ xs) (false ∷ ms) rest distinct apart once =
    let row : list_any (bytes_eq x) (unmarked xs ms) ≡ false = false_from_ne_true _ (λ e. (let r = row-from_any x xs ms e in absurd (omega (arith, once 0 (suc r.0) x refl r.1)))) in
    let behind : list_any (bytes_eq x) rest ≡ false = false_from_ne_true _ (λ e. apart 0 x refl e) in
    let none : list_any (bytes_eq x) (unmarked xs ms ++ rest) ≡ false = list_any-append (bytes_eq x) (unmarked xs ms) rest ∙ ap (λ b. b || list_any (bytes_eq x) rest) row ∙ behind in
    (none-any x (unmarked xs ms ++ rest) none, row-distinct xs ms rest distinct (λ i k e. apart (suc i) k e) (λ i j k a b. omega (arith, once (suc i) (suc j) k a b)))

parts-distinct : (parts : List Marked) → ((p i q j : ℕ) (k : List ℕ) → cell (map row parts) p i ≡ Some k → cell (map row parts) q j ≡ Some k → (p ≡ q) × (i ≡ j)) → IsDistinct bytes_eq (docnos_of parts)
unfolding IsDistinct
parts-distinct [] once = tt
parts-distinct (m ∷ ms) once =
    row-distinct (docnos_in m.source) m.marks (docnos_of ms) (parts-distinct ms (λ p i q j k a b. (let o = once (suc p) i (suc q) j k a b in (omega (arith, o.0), o.1))))
    (λ i k e any. (let r = cell-from_live k ms any in absurd (omega (arith, (once 0 i (suc r.0.part) r.0.id k e r.1).0)))) (λ i j k a b. (once 0 i 0 j k a b).1)

-- the live docnos are distinct
pub placed-distinct : (places : List (List ℕ × Spot)) (parts : List Marked) → ArePlaced places parts → IsDistinct bytes_eq (docnos_of parts)
placed-distinct places parts kept =
    parts-distinct parts (λ p i q j k a b.
    (let s : Spot = record { part = p; id = i } in
    let t : Spot = record { part = q; id = j } in
    let st : s ≡ t = some_same s t (sym ((kept.placed k s).1 a) ∙ (kept.placed k t).1 b) in
    (ap (λ (x : Spot). x.part) st, ap (λ (x : Spot). x.id) st)))

-- those of the parts without the last are too
pub front-distinct : (parts : List Marked) (last : Marked) → IsDistinct bytes_eq (docnos_of (parts ++ last ∷ [])) → IsDistinct bytes_eq (docnos_of parts)
front-distinct parts last distinct =
    let xs = docnos_of parts in
    let ys = unmarked (docnos_in last.source) last.marks in
    let all : IsDistinct bytes_eq (xs ++ ys) = subst (IsDistinct bytes_eq) (flat_map-push (λ m. unmarked (docnos_in m.source) m.marks) parts last) distinct in
    let size = length-append xs ys in
    IsDistinct-from_apart bytes_eq xs (λ i j d less inside.
    ap (bytes_eq (get_or xs i d)) (sym (get_or_append_left xs ys d j inside)) ∙ ap (λ (k : List ℕ). bytes_eq k (get_or (xs ++ ys) j d)) (sym (get_or_append_left xs ys d i (omega (arith, less, inside))))
    ∙ apart_from_distinct bytes_eq (xs ++ ys) i j d all less (omega (arith, inside, size)))

pub kept-distinct : (most : ℕ) (places : List (List ℕ × Spot)) (parts : List Marked) → AreKept most places parts → IsDistinct bytes_eq (docnos_of parts)
kept-distinct most places parts kept = placed-distinct places parts (placed-of most places parts kept)
