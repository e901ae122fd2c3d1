-- Places that are found one after the other.
use Rattle.std.proofs.Common.{◌≡◌, ◌<◌, ◌≤◌, ◌+◌, ◌⊎◌, inl, inr, ℕ, zero, suc, Bool, true, false, List, [], ◌∷◌, ◌++◌, length, map, get_or, take, drop, refl, ap, sym, subst, ◌∙◌, arith, Option, Some, None, length-append}
use Rattle.std.specs.Prelude.{is_some}
use Rattle.std.specs.List.{All, IsDistinct}
use Rattle.std.specs.Map.{lookup}
use Rattle.std.specs.Str.{bytes_eq}
use Rattle.std.proofs.lemmas.List.{append-nil, get_or-map, length-map, length-take, take-append-drop, take_all, take_more}
use Rattle.std.proofs.lemmas.List.Elements.{All-push}
use Rattle.ri_base.specs.Collection.{document_at, empty_document}
use Rattle.ri_base.specs.Documents.{Document}
use Rattle.ri_base.specs.declared.limits.TheConstants.{MAX_PART_DOCS}
use Rattle.memory_index.specs.Kept.{Index}
use Rattle.disk_index.specs.Parts.{Source, reads, size}
use Rattle.disk_index.proofs.EntryLemmas.{document_at-get_or}
use Rattle.disk_index.proofs.RebuiltLemmas.{reads-length}
use Rattle.disk_index.specs.Snapshots.{Marked, unmarked}
use Rattle.holdings.specs.Kept.{AreKept, ArePlaced, IsPlaced, cell, row}
use Rattle.holdings.specs.MarkedParts.{IsWhole, docnos_in, docnos_of, filled}
use Rattle.holdings.specs.Marks.{cells}
use Rattle.holdings.specs.Parts.{all_parts, parts_of}
use Rattle.holdings.specs.Placing.{PlacesOne, Repeats, before_place, front_of, named}
use Rattle.holdings.specs.declared.spot.Spot.{Spot}
use Rattle.holdings.proofs.CellLemmas.{map-push}
use Rattle.holdings.proofs.KeptLemmas.{All-front, ArePlaced-add, ArePlaced-close, CanWrite, placed-distinct}
use Rattle.holdings.proofs.LiveLemmas.{docnos-reads, flat_map-push}

-- the docno of a document, for which no file is needed
pub docno-in : (source : Source) (id : ℕ) → id < size source → (document_at (reads None source) id).docno ≡ get_or (docnos_in source) id []
docno-in source id below =
    let docs = reads None source in
    ap (λ (d : Document). d.docno) (document_at-get_or docs id) ∙ sym (get_or-map (λ (d : Document). d.docno) docs id empty_document [] (omega (arith, below, reads-length None source)))
    ∙ ap (λ (ks : List (List ℕ)). get_or ks id []) (docnos-reads None source)

names : (ks : List (List ℕ)) → map (λ (d : Document). d.docno) (map named ks) ≡ ks
names [] = refl
names (k ∷ ks) = ap (λ l. k ∷ l) (names ks)

-- Two last parts with the same docnos and marks.
last-row : (front : List Marked) (m n : Marked) → docnos_in m.source ≡ docnos_in n.source → m.marks ≡ n.marks → map row (front ++ m ∷ []) ≡ map row (front ++ n ∷ [])
last-row front m n docnos marks =
    map-push row front m ∙ ap (λ (ks : List (List ℕ)). map row front ++ cells ks m.marks ∷ []) docnos ∙ ap (λ (ms : List Bool). map row front ++ cells (docnos_in n.source) ms ∷ []) marks ∙ sym (map-push row front n)

last-docnos : (front : List Marked) (m n : Marked) → docnos_in m.source ≡ docnos_in n.source → m.marks ≡ n.marks → docnos_of (front ++ m ∷ []) ≡ docnos_of (front ++ n ∷ [])
last-docnos front m n docnos marks =
    flat_map-push (λ m. unmarked (docnos_in m.source) m.marks) front m ∙ ap (λ (ks : List (List ℕ)). docnos_of front ++ unmarked ks m.marks) docnos ∙ ap (λ (ms : List Bool). docnos_of front ++ unmarked (docnos_in n.source) ms) marks
    ∙ sym (flat_map-push (λ m. unmarked (docnos_in m.source) m.marks) front n)

ArePlaced-last : (places : List (List ℕ × Spot)) (front : List Marked) (m n : Marked) → docnos_in m.source ≡ docnos_in n.source → m.marks ≡ n.marks → IsWhole m
    → ArePlaced places (front ++ n ∷ []) → ArePlaced places (front ++ m ∷ [])
ArePlaced-last places front m n docnos marks whole kept = record {
  placed = subst (λ (g : List (List (Option (List ℕ)))). IsPlaced (λ q. lookup (bytes_eq q) places) (cell g)) (sym (last-row front m n docnos marks)) kept.placed;
  counted = kept.counted ∙ sym (ap length (last-docnos front m n docnos marks));
  whole = All-push IsWhole front m (All-front IsWhole front n kept.whole) whole;
}

-- a marked document more
cells-marked : (ks : List (List ℕ)) (ms : List Bool) (k : List ℕ) → length ms ≡ length ks → cells (ks ++ k ∷ []) (ms ++ true ∷ []) ≡ cells ks ms ++ None ∷ []
cells-marked [] [] k e = refl
cells-marked [] (m ∷ ms) k e = absurd (omega (arith, e))
cells-marked (x ∷ ks) [] k e = absurd (omega (arith, e))
cells-marked (x ∷ ks) (true ∷ ms) k e = ap (λ l. None ∷ l) (cells-marked ks ms k (omega (arith, e)))
cells-marked (x ∷ ks) (false ∷ ms) k e = ap (λ l. Some x ∷ l) (cells-marked ks ms k (omega (arith, e)))

unmarked-marked : (ks : List (List ℕ)) (ms : List Bool) (k : List ℕ) → length ms ≡ length ks → unmarked (ks ++ k ∷ []) (ms ++ true ∷ []) ≡ unmarked ks ms
unmarked-marked [] [] k e = refl
unmarked-marked [] (m ∷ ms) k e = absurd (omega (arith, e))
unmarked-marked (x ∷ ks) [] k e = absurd (omega (arith, e))
unmarked-marked (x ∷ ks) (true ∷ ms) k e = unmarked-marked ks ms k (omega (arith, e))
unmarked-marked (x ∷ ks) (false ∷ ms) k e = ap (λ l. x ∷ l) (unmarked-marked ks ms k (omega (arith, e)))

none-push : (r : List (Option (List ℕ))) (i : ℕ) → get_or (r ++ None ∷ []) i None ≡ get_or r i None
none-push [] zero = refl
none-push [] (suc i) = refl
none-push (x ∷ r) zero = refl
none-push (x ∷ r) (suc i) = none-push r i

cell-none : (g : List (List (Option (List ℕ)))) (r : List (Option (List ℕ))) (p i : ℕ) → cell (g ++ (r ++ None ∷ []) ∷ []) p i ≡ cell (g ++ r ∷ []) p i
cell-none [] r zero i = none-push r i
cell-none [] r (suc p) i = refl
cell-none (x ∷ g) r zero i = refl
cell-none (x ∷ g) r (suc p) i = cell-none g r p i

ArePlaced-skip : (places : List (List ℕ × Spot)) (front : List Marked) (ks : List (List ℕ)) (ms : List Bool) (k : List ℕ) → length ms ≡ length ks → ArePlaced places (front ++ front_of ks ms ∷ [])
    → ArePlaced places (front ++ front_of (ks ++ k ∷ []) (ms ++ true ∷ []) ∷ [])
ArePlaced-skip places front ks ms k long kept =
    let r = cells ks ms in
    let old : map row (front ++ front_of ks ms ∷ []) ≡ map row front ++ r ∷ [] = map-push row front (front_of ks ms) ∙ ap (λ l. map row front ++ cells l ms ∷ []) (names ks) in
    let new : map row (front ++ front_of (ks ++ k ∷ []) (ms ++ true ∷ []) ∷ []) ≡ map row front ++ (r ++ None ∷ []) ∷ [] =
    map-push row front (front_of (ks ++ k ∷ []) (ms ++ true ∷ [])) ∙ ap (λ l. map row front ++ cells l (ms ++ true ∷ []) ∷ []) (names (ks ++ k ∷ [])) ∙ ap (λ l. map row front ++ l ∷ []) (cells-marked ks ms k long) in
    let same : (p i : ℕ) → cell (map row (front ++ front_of (ks ++ k ∷ []) (ms ++ true ∷ []) ∷ [])) p i ≡ cell (map row (front ++ front_of ks ms ∷ [])) p i =
    λ p i. ap (λ g. cell g p i) new ∙ cell-none (map row front) r p i ∙ sym (ap (λ g. cell g p i) old) in
    let f : Marked → List (List ℕ) = λ m. unmarked (docnos_in m.source) m.marks in
    let docnos : docnos_of (front ++ front_of (ks ++ k ∷ []) (ms ++ true ∷ []) ∷ []) ≡ docnos_of (front ++ front_of ks ms ∷ []) =
    flat_map-push f front (front_of (ks ++ k ∷ []) (ms ++ true ∷ [])) ∙ ap (λ l. docnos_of front ++ unmarked l (ms ++ true ∷ [])) (names (ks ++ k ∷ [])) ∙ ap (λ l. docnos_of front ++ l) (unmarked-marked ks ms k long)
    ∙ sym (flat_map-push f front (front_of ks ms) ∙ ap (λ l. docnos_of front ++ unmarked l ms) (names ks)) in
    record {
      placed = λ q s. ((λ e. same s.part s.id ∙ (kept.placed q s).0 e), (λ e. (kept.placed q s).1 (sym (same s.part s.id) ∙ e)));
      counted = kept.counted ∙ sym (ap length docnos);
      whole = All-push IsWhole front (front_of (ks ++ k ∷ []) (ms ++ true ∷ [])) (All-front IsWhole front (front_of ks ms) kept.whole)
          (length-append ms (true ∷ []) ∙ ap (λ n. n + 1) long ∙ sym (length-append ks (k ∷ [])) ∙ sym (length-map (ks ++ k ∷ []) named));
    }

-- a document more, marked or not
step : (old new : List (List ℕ × Spot)) (front : List Marked) (ks : List (List ℕ)) (ms : List Bool) (m : Bool) (k : List ℕ) (s : Spot) → length ms ≡ length ks → s.part ≡ length front → s.id ≡ length ks
    → PlacesOne old new m k s → ArePlaced old (front ++ front_of ks ms ∷ []) → ArePlaced new (front ++ front_of (ks ++ k ∷ []) (ms ++ m ∷ []) ∷ [])
step old new front ks ms true k s long part id places kept = subst (λ (x : List (List ℕ × Spot)). ArePlaced x (front ++ front_of (ks ++ k ∷ []) (ms ++ true ∷ []) ∷ [])) (sym places) (ArePlaced-skip old front ks ms k long kept)
step old new front ks ms false k s long part id places kept =
    subst (λ (ds : List Document). ArePlaced new (front ++ filled ds (ms ++ false ∷ []) ∷ [])) (sym (map-push named ks k))
    (ArePlaced-add old new front (map named ks) ms (named k) s kept places.0 places.1 places.2 part (id ∙ sym (length-map ks named)))

-- the next document of a part
pub ArePlaced-next : (old new : List (List ℕ × Spot)) (front : List Marked) (ks : List (List ℕ)) (ms : List Bool) (s : Spot) → length ms ≡ length ks → s.id < length ms → s.part ≡ length front
    → PlacesOne old new (get_or ms s.id false) (get_or ks s.id []) s → ArePlaced old (front ++ front_of (take s.id ks) (take s.id ms) ∷ []) → ArePlaced new (front ++ front_of (take (s.id + 1) ks) (take (s.id + 1) ms) ∷ [])
ArePlaced-next old new front ks ms s long within part places kept =
    let some : s.id ≡ length (take s.id ks) = (let n = length-take s.id ks in omega (arith, n, within, long)) in
    let same : length (take s.id ms) ≡ length (take s.id ks) = (let n = length-take s.id ks in let o = length-take s.id ms in omega (arith, n, o, long)) in
    rw (take_more ks s.id [] (omega (arith, within, long)), take_more ms s.id false within)
    (step old new front (take s.id ks) (take s.id ms) (get_or ms s.id false) (get_or ks s.id []) s same part some places kept)

-- all documents of a part
pub ArePlaced-whole : (places : List (List ℕ × Spot)) (front : List Marked) (m : Marked) (n : ℕ) → IsWhole m → length m.marks ≡ length (docnos_in m.source) → n ≡ length m.marks
    → ArePlaced places (front ++ front_of (take n (docnos_in m.source)) (take n m.marks) ∷ []) → ArePlaced places (front ++ m ∷ [])
ArePlaced-whole places front m n whole long all kept =
    let ks : take n (docnos_in m.source) ≡ docnos_in m.source = take_all n (docnos_in m.source) (omega (arith, all, long)) in
    let ms : take n m.marks ≡ m.marks = take_all n m.marks (omega (arith, all)) in
    ArePlaced-last places front m (front_of (take n (docnos_in m.source)) (take n m.marks)) (sym (names (take n (docnos_in m.source)) ∙ ks)) (sym ms) whole kept

-- the next part
pub ArePlaced-parts : (old new : List (List ℕ × Spot)) (parts : List Marked) (i : ℕ) (x : Marked) → i < length parts → x ≡ get_or parts i x
    → ((front : List Marked) → length front ≡ i → ArePlaced old (front ++ filled [] [] ∷ []) → ArePlaced new (front ++ x ∷ []))
    → ArePlaced old (take i parts ++ filled [] [] ∷ []) → ArePlaced new (take (i + 1) parts ++ filled [] [] ∷ [])
ArePlaced-parts old new parts i x within at places kept =
    let more : take (i + 1) parts ≡ take i parts ++ x ∷ [] = take_more parts i x within ∙ ap (λ y. take i parts ++ y ∷ []) (sym at) in
    let long : length (take i parts) ≡ i = (let t = length-take i parts in omega (arith, t, within)) in
    subst (λ (ps : List Marked). ArePlaced new (ps ++ filled [] [] ∷ [])) (sym more) (ArePlaced-close new (take i parts ++ x ∷ []) (places (take i parts) long kept))

-- what stands at a place of the first documents of a part stands there in the whole part
cells-front : (ks : List (List ℕ)) (ms : List Bool) (n i : ℕ) (k : List ℕ) → get_or (cells (take n ks) (take n ms)) i None ≡ Some k → get_or (cells ks ms) i None ≡ Some k
cells-front ks ms zero i k e = cc
cells-front [] ms (suc n) i k e = cc
cells-front (x ∷ ks) [] (suc n) i k e = cc
cells-front (x ∷ ks) (true ∷ ms) (suc n) zero k e = cc
cells-front (x ∷ ks) (false ∷ ms) (suc n) zero k e = e
cells-front (x ∷ ks) (true ∷ ms) (suc n) (suc i) k e = cells-front ks ms n i k e
cells-front (x ∷ ks) (false ∷ ms) (suc n) (suc i) k e = cells-front ks ms n i k e

cells-next : (ks : List (List ℕ)) (ms : List Bool) (n : ℕ) → n < length ms → length ms ≡ length ks → get_or ms n false ≡ false → get_or (cells ks ms) n None ≡ Some (get_or ks n [])
cells-next [] [] n within long free = absurd (omega (arith, within))
cells-next [] (m ∷ ms) n within long free = absurd (omega (arith, long))
cells-next (x ∷ ks) [] n within long free = absurd (omega (arith, within))
cells-next (x ∷ ks) (true ∷ ms) zero within long free = cc
cells-next (x ∷ ks) (false ∷ ms) zero within long free = refl
cells-next (x ∷ ks) (true ∷ ms) (suc n) within long free = cells-next ks ms n (omega (arith, within)) (omega (arith, long)) free
cells-next (x ∷ ks) (false ∷ ms) (suc n) within long free = cells-next ks ms n (omega (arith, within)) (omega (arith, long)) free

last-front : (front : List Marked) (m n : Marked) (p i : ℕ) (k : List ℕ) → ((j : ℕ) → get_or (row n) j None ≡ Some k → get_or (row m) j None ≡ Some k) → cell (map row (front ++ n ∷ [])) p i ≡ Some k
    → cell (map row (front ++ m ∷ [])) p i ≡ Some k
last-front [] m n zero i k into e = into i e
last-front [] m n (suc p) i k into e = e
last-front (x ∷ front) m n zero i k into e = e
last-front (x ∷ front) m n (suc p) i k into e = last-front front m n p i k into e

last-cell : (front : List Marked) (m : Marked) (i : ℕ) → cell (map row (front ++ m ∷ [])) (length front) i ≡ get_or (row m) i None
last-cell [] m i = refl
last-cell (x ∷ front) m i = last-cell front m i

found : (o : Option Spot) → is_some o ≡ true → (s : Spot) × (o ≡ Some s)
found None e = cc
found (Some s) e = (s, refl)

-- ---- which of two places is the earlier one

inside : (r : List (Option (List ℕ))) (i : ℕ) (k : List ℕ) → get_or r i None ≡ Some k → i < length r
inside [] i k e = cc
inside (x ∷ r) zero k e = omega arith
inside (x ∷ r) (suc i) k e = (let rest = inside r i k e in omega (arith, rest))

length-cells : (ks : List (List ℕ)) (ms : List Bool) → length (cells ks ms) ≤ length ks
length-cells [] ms = omega arith
length-cells (k ∷ ks) [] = omega arith
length-cells (k ∷ ks) (true ∷ ms) = (let rest = length-cells ks ms in omega (arith, rest))
length-cells (k ∷ ks) (false ∷ ms) = (let rest = length-cells ks ms in omega (arith, rest))

-- a place in the last of some parts or in one before it
before-last : (front : List Marked) (m : Marked) (p i : ℕ) (k : List ℕ) → cell (map row (front ++ m ∷ [])) p i ≡ Some k → (p < length front) ⊎ ((p ≡ length front) × (i < length (row m)))
before-last [] m zero i k e = inr (refl, inside (row m) i k e)
before-last [] m (suc p) i k e = cc
before-last (x ∷ front) m zero i k e = inl (omega arith)
before-last (x ∷ front) m (suc p) i k e = elim (before-last front m p i k e) [
  | inl less ↦ inl (omega (arith, less))
  | inr last ↦ inr (ap suc last.0, last.1)
]

within-parts : (parts : List Marked) (p i : ℕ) (k : List ℕ) → cell (map row parts) p i ≡ Some k → p < length parts
within-parts [] p i k e = cc
within-parts (m ∷ ms) zero i k e = omega arith
within-parts (m ∷ ms) (suc p) i k e = (let rest = within-parts ms p i k e in omega (arith, rest))

-- the documents before a place in the last of some parts
before-last_part : (front : List Marked) (m : Marked) (n : ℕ) → before_place (front ++ m ∷ []) (length front) n ≡ front ++ front_of (take n (docnos_in m.source)) (take n m.marks) ∷ []
before-last_part [] m n = refl
before-last_part (x ∷ front) m n = ap (λ (l : List Marked). x ∷ l) (before-last_part front m n)

-- a document whose docno is there already
pub Repeats-next : (places : List (List ℕ × Spot)) (front : List Marked) (m : Marked) (n : ℕ) → length m.marks ≡ length (docnos_in m.source) → n < length m.marks → get_or m.marks n false ≡ false
    → is_some (lookup (bytes_eq (get_or (docnos_in m.source) n [])) places) ≡ true → ArePlaced places (front ++ front_of (take n (docnos_in m.source)) (take n m.marks) ∷ [])
    → Repeats (front ++ m ∷ []) (record { part = length front; id = n })
Repeats-next places front m n long within free there kept =
    let ks = docnos_in m.source in
    let k = get_or ks n [] in
    let prefix = front_of (take n ks) (take n m.marks) in
    let r = found _ there in
    let rows : row prefix ≡ cells (take n ks) (take n m.marks) = ap (λ l. cells l (take n m.marks)) (names (take n ks)) in
    let stands : cell (map row (front ++ prefix ∷ [])) r.0.part r.0.id ≡ Some k = (kept.placed k r.0).0 r.1 in
    let few : length (row prefix) ≤ n = (let a = ap length rows in let b = length-cells (take n ks) (take n m.marks) in let c = length-take n ks in omega (arith, a, b, c)) in
    let distinct : IsDistinct bytes_eq (docnos_of (front ++ prefix ∷ [])) = placed-distinct places (front ++ prefix ∷ []) kept in
    record {
      docno = k;
      first = r.0;
      at_first = last-front front m prefix r.0.part r.0.id k (λ j e. cells-front ks m.marks n j k (ap (λ l. get_or l j None) (sym rows) ∙ e)) stands;
      at_second = last-cell front m n ∙ cells-next ks m.marks n within long free;
      earlier = elim (before-last front prefix r.0.part r.0.id k stands) [ inl less ↦ inl less | inr last ↦ inr (last.0, omega (arith, last.1, few)) ];
      before = subst (λ (ps : List Marked). IsDistinct bytes_eq (docnos_of ps)) (sym (before-last_part front m n)) distinct;
    }

cell-more : (xs ys : List Marked) (p i : ℕ) (k : List ℕ) → cell (map row xs) p i ≡ Some k → cell (map row (xs ++ ys)) p i ≡ Some k
cell-more [] ys p i k e = cc
cell-more (x ∷ xs) ys zero i k e = e
cell-more (x ∷ xs) ys (suc p) i k e = cell-more xs ys p i k e

before-more : (xs ys : List Marked) (p i : ℕ) → p < length xs → before_place (xs ++ ys) p i ≡ before_place xs p i
before-more [] ys p i less = absurd (omega (arith, less))
before-more (x ∷ xs) ys zero i less = refl
before-more (x ∷ xs) ys (suc p) i less = ap (λ (l : List Marked). x ∷ l) (before-more xs ys p i (omega (arith, less)))

Repeats-more : (xs ys : List Marked) (s : Spot) → Repeats xs s → Repeats (xs ++ ys) s
Repeats-more xs ys s r =
    let within : s.part < length xs = within-parts xs s.part s.id r.docno r.at_second in
    record {
      docno = r.docno;
      first = r.first;
      at_first = cell-more xs ys _ _ _ r.at_first;
      at_second = cell-more xs ys _ _ _ r.at_second;
      earlier = r.earlier;
      before = subst (λ (ps : List Marked). IsDistinct bytes_eq (docnos_of ps)) (sym (before-more xs ys s.part s.id within)) r.before;
    }

pub Repeats-parts : (parts : List Marked) (i : ℕ) (x : Marked) (s : Spot) → i < length parts → x ≡ get_or parts i x
    → ((front : List Marked) → length front ≡ i → front ≡ take i parts → Repeats (front ++ x ∷ []) s) → Repeats parts s
Repeats-parts parts i x s within at repeats =
    let long : length (take i parts) ≡ i = (let t = length-take i parts in omega (arith, t, within)) in
    let more : take (i + 1) parts ≡ take i parts ++ x ∷ [] = take_more parts i x within ∙ ap (λ y. take i parts ++ y ∷ []) (sym at) in
    let all : (take i parts ++ x ∷ []) ++ drop (i + 1) parts ≡ parts = ap (λ l. l ++ drop (i + 1) parts) (sym more) ∙ take-append-drop (i + 1) parts in
    subst (λ (ps : List Marked). Repeats ps s) all (Repeats-more (take i parts ++ x ∷ []) (drop (i + 1) parts) s (repeats (take i parts) long refl))

-- closed parts whose places were found, and none that is being filled
pub AreKept-closed : (most : ℕ) (places : List (List ℕ × Spot)) (parts : List Marked) (filling : Index) (marks : List Bool) → filling ≡ record { most = most; documents = [] } → marks ≡ []
    → most ≤ MAX_PART_DOCS → All CanWrite parts → ArePlaced places (parts ++ filled [] [] ∷ []) → AreKept filling.most places (all_parts (parts_of parts filling marks))
AreKept-closed most places parts filling marks fresh none small writable placed =
    subst (λ (x : Index). AreKept x.most places (all_parts (parts_of parts x marks))) (sym fresh)
    (subst (λ (ms : List Bool). AreKept most places (parts ++ filled [] ms ∷ [])) (sym none) (record {
      small = small;
      placed = placed.placed;
      counted = placed.counted;
      whole = placed.whole;
      writable = All-push CanWrite parts (filled [] []) writable (omega arith, omega arith);
    }))

pub closed-distinct : (places : List (List ℕ × Spot)) (parts : List Marked) → ArePlaced places (parts ++ filled [] [] ∷ []) → IsDistinct bytes_eq (docnos_of parts)
closed-distinct places parts placed =
    let same : docnos_of (parts ++ filled [] [] ∷ []) ≡ docnos_of parts = flat_map-push (λ m. unmarked (docnos_in m.source) m.marks) parts (filled [] []) ∙ append-nil (docnos_of parts) in
    subst (IsDistinct bytes_eq) same (placed-distinct places (parts ++ filled [] [] ∷ []) placed)
