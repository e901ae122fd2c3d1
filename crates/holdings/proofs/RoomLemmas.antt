-- What is kept, and what parts read as, where a part is closed and where a document is put behind the others.
use Rattle.std.proofs.Common.{◌≡◌, ◌<◌, ◌≤◌, ◌+◌, ℕ, Bool, true, false, List, [], ◌∷◌, ◌++◌, length, map, refl, ap, sym, ◌∙◌, arith, Option, Some, None, cond, nat_le, nat_lt, ◌&&◌, zero, suc, subst, length-append}
use Rattle.std.specs.Map.{lookup}
use Rattle.std.specs.Str.{bytes_eq}
use Rattle.std.proofs.lemmas.List.{append-nil, length-map}
use Rattle.std.proofs.lemmas.Map.Made.{distinct_count-le}
use Rattle.memory_index.specs.Kept.{Index}
use Rattle.ri_base.specs.Collection.{field_names, name_count, names_of}
use Rattle.ri_base.specs.Documents.{Document, Field, IsDocument}
use Rattle.ri_base.specs.declared.limits.TheConstants.{MAX_PART_NAMES}
use Rattle.store_ends.specs.Files.{Files}
use Rattle.disk_index.specs.Parts.{InMemory}
use Rattle.disk_index.specs.Snapshots as snapshots
use Rattle.disk_index.specs.Snapshots.{Marked, live_in, unmarked}
use Rattle.holdings.specs.Kept.{AreKept}
use Rattle.holdings.specs.MarkedParts.{IsWritable, filled, marked_with}
use Rattle.holdings.specs.Parts.{Parts, all_parts, appended, closed_by, has_room, live, parts_of, sealed, with_document, with_room, without, without_docno}
use Rattle.holdings.specs.declared.spot.Spot.{Spot}
use Rattle.holdings.proofs.CellLemmas.{map-push}
use Rattle.holdings.proofs.KeptLemmas.{AreKept-add, AreKept-close, live-added}
use Rattle.holdings.proofs.LiveLemmas.{flat_map-push, live-marked_with}

is-less : (a b : ℕ) → a < b → nat_lt a b ≡ true
is-less a b h = grind arith

is-at-most : (a b : ℕ) → a ≤ b → nat_le a b ≡ true
is-at-most a b h = grind arith

from-less : (a b : ℕ) → nat_lt a b ≡ true → a < b
from-less a b e = grind arith

from-at-most : (a b : ℕ) → nat_le a b ≡ true → a ≤ b
from-at-most a b e = grind arith

both-true : (a b : Bool) → (a && b) ≡ true → (a ≡ true) × (b ≡ true)
both-true true b e = (refl, e)
both-true false b e = absurd cc

-- ---- the part that is being filled is closed

-- the parts with the one that is being filled closed
abbrev pub closed_parts : Parts → Parts
closed_parts p = record { most = p.most; closed = all_parts p; filling = []; marks = [] }

closed_by-some : (p : Parts) (docs : List Document) → 0 < length docs → closed_by p docs ≡ closed_parts p
closed_by-some p [] some = absurd (omega arith)
closed_by-some p (d ∷ docs) some = refl

pub sealed-some : (p : Parts) → 0 < length p.filling → sealed p ≡ closed_parts p
sealed-some p some = closed_by-some p p.filling some

closed_by-none : (p : Parts) (docs : List Document) → length docs ≡ 0 → closed_by p docs ≡ p
closed_by-none p [] none = refl
closed_by-none p (d ∷ docs) none = absurd (omega arith)

pub sealed-none : (p : Parts) → length p.filling ≡ 0 → sealed p ≡ p
sealed-none p none = closed_by-none p p.filling none

AreKept-closed_by : (places : List (List ℕ × Spot)) (p : Parts) (docs : List Document) → AreKept p.most places (all_parts p) → AreKept (closed_by p docs).most places (all_parts (closed_by p docs))
AreKept-closed_by places p [] kept = kept
AreKept-closed_by places p (d ∷ docs) kept = AreKept-close p.most places (all_parts p) kept

pub AreKept-sealed : (places : List (List ℕ × Spot)) (p : Parts) → AreKept p.most places (all_parts p) → AreKept (sealed p).most places (all_parts (sealed p))
AreKept-sealed places p kept = AreKept-closed_by places p p.filling kept

live-closed_by : (told : Option Files) (p : Parts) (docs : List Document) → live told (closed_by p docs) ≡ live told p
live-closed_by told p [] = refl
live-closed_by told p (d ∷ docs) = flat_map-push (live_in told) (all_parts p) (filled [] []) ∙ append-nil (live told p)

pub live-sealed : (told : Option Files) (p : Parts) → live told (sealed p) ≡ live told p
live-sealed told p = live-closed_by told p p.filling

closed-live_by : (told : Option Files) (p : Parts) (docs : List Document) → p.filling ≡ docs → snapshots.live told (closed_by p docs).closed ≡ live told p
closed-live_by told p [] is =
    sym (flat_map-push (live_in told) p.closed (filled p.filling p.marks) ∙ ap (λ (l : List Document). snapshots.live told p.closed ++ unmarked l p.marks) is ∙ append-nil (snapshots.live told p.closed))
closed-live_by told p (d ∷ docs) is = refl

-- once the last part is closed, all live documents are those of closed parts
pub live-closed : (told : Option Files) (p : Parts) → snapshots.live told (sealed p).closed ≡ live told p
live-closed told p = closed-live_by told p p.filling refl

-- ---- room for one more document

-- a document alone has few names
pub name_count-alone : (d : Document) → IsDocument d.tokens d.fields → name_count (d ∷ []) ≤ MAX_PART_NAMES
name_count-alone d form =
    let most = distinct_count-le bytes_eq (field_names (d ∷ [])) in
    let few = form.sound.few in
    omega (arith, most, few, length-append (names_of d.fields) [], length-map d.fields (λ (f : Field). f.name))

has_room-alone : (p : Parts) (d : Document) (docs : List Document) → p.filling ≡ docs → length docs ≡ 0 → 1 ≤ p.most → name_count (d ∷ []) ≤ MAX_PART_NAMES → has_room p d ≡ true
has_room-alone p d [] is none some few =
    let room : nat_lt (length p.filling) p.most ≡ true = is-less (length p.filling) p.most (let n = ap length is in omega (arith, n)) in
    let names : nat_le (name_count (p.filling ++ d ∷ [])) MAX_PART_NAMES ≡ true = is-at-most _ _ (subst (λ (l : List Document). name_count (l ++ d ∷ []) ≤ MAX_PART_NAMES) (sym is) few) in
    ap (λ b. b && nat_le (name_count (p.filling ++ d ∷ [])) MAX_PART_NAMES) room ∙ names
has_room-alone p d (x ∷ docs) is none some few = absurd (omega arith)

pub has_room-fits : (p : Parts) (d : Document) → has_room p d ≡ true → (length p.filling < p.most) × (name_count (p.filling ++ d ∷ []) ≤ MAX_PART_NAMES)
has_room-fits p d room =
    let both = both-true (nat_lt (length p.filling) p.most) (nat_le (name_count (p.filling ++ d ∷ [])) MAX_PART_NAMES) room in
    (from-less _ _ both.0, from-at-most _ _ both.1)

-- where there is no room, the part that is being filled has documents
pub filling-full : (p : Parts) (d : Document) → has_room p d ≡ false → 1 ≤ p.most → name_count (d ∷ []) ≤ MAX_PART_NAMES → 0 < length p.filling
filling-full p d full some few = by (length p.filling) refl
  where
    by : (n : ℕ) → length p.filling ≡ n → 0 < length p.filling
    by zero none = let clash : true ≡ false = sym (has_room-alone p d p.filling refl none some few) ∙ full in absurd cc
    by (suc n) is = omega arith

with_room-left : (p : Parts) (d : Document) → has_room p d ≡ true → with_room p d ≡ p
with_room-left p d room = ap (λ b. cond b p (sealed p)) room

with_room-full : (p : Parts) (d : Document) → has_room p d ≡ false → 0 < length p.filling → with_room p d ≡ closed_parts p
with_room-full p d full some = ap (λ b. cond b p (sealed p)) full ∙ sealed-some p some

AreKept-with_room : (places : List (List ℕ × Spot)) (p : Parts) (d : Document) → AreKept p.most places (all_parts p) → AreKept (with_room p d).most places (all_parts (with_room p d))
AreKept-with_room places p d kept = by (has_room p d)
  where
    by : (b : Bool) → AreKept (cond b p (sealed p)).most places (all_parts (cond b p (sealed p)))
    by true = kept
    by false = AreKept-sealed places p kept

live-with_room : (told : Option Files) (p : Parts) (d : Document) → live told (with_room p d) ≡ live told p
live-with_room told p d = by (has_room p d)
  where
    by : (b : Bool) → live told (cond b p (sealed p)) ≡ live told p
    by true = refl
    by false = live-sealed told p

-- ---- a document is put behind the others

pub AreKept-with_document : (places new : List (List ℕ × Spot)) (p q : Parts) (d : Document) (s : Spot) → AreKept p.most places (all_parts p) → lookup (bytes_eq d.docno) places ≡ None
    → ((k : List ℕ) → lookup (bytes_eq k) new ≡ cond (bytes_eq d.docno k) (Some s) (lookup (bytes_eq k) places)) → length new ≡ length places + 1
    → s.part ≡ length (with_room p d).closed → s.id ≡ length (with_room p d).filling → q ≡ with_document p d → IsWritable (InMemory q.filling) → AreKept q.most new (all_parts q)
AreKept-with_document places new p q d s kept none put long part id is fits =
    let r = with_room p d in
    let writable : IsWritable (InMemory (r.filling ++ d ∷ [])) = subst (λ (x : Parts). IsWritable (InMemory x.filling)) is fits in
    subst (λ (x : Parts). AreKept x.most new (all_parts x)) (sym is)
    (AreKept-add r.most places new r.closed r.filling r.marks d s (AreKept-with_room places p d kept) none put long part id writable)

pub live-with_document : (told : Option Files) (places : List (List ℕ × Spot)) (p q : Parts) (d : Document) → AreKept p.most places (all_parts p) → q ≡ with_document p d → live told q ≡ live told p ++ d ∷ []
live-with_document told places p q d kept is =
    let r = with_room p d in
    ap (live told) is ∙ live-added r.most places r.closed r.filling r.marks d (AreKept-with_room places p d kept) told ∙ ap (λ l. l ++ d ∷ []) (live-with_room told p d)

-- ---- the same of the values of the program

module _ (closed : List Marked) (f : Index) (marks : List Bool) (d : Document) where
  module _ (room : has_room (parts_of closed f marks) d ≡ true) where
    pub held-left : (g : Index) (ns : List Bool) → g ≡ record { most = f.most; documents = f.documents ++ d ∷ [] } → ns ≡ marks ++ false ∷ [] → parts_of closed g ns ≡ with_document (parts_of closed f marks) d
    held-left g ns grown more =
        ap (λ (x : Index). parts_of closed x ns) grown ∙ ap (λ ms. record { most = f.most; closed = closed; filling = f.documents ++ d ∷ []; marks = ms }) more
        ∙ sym (ap (λ (p : Parts). appended p d) (with_room-left (parts_of closed f marks) d room))

    pub part-left : length closed ≡ length (with_room (parts_of closed f marks) d).closed
    part-left = sym (ap (λ (p : Parts). length p.closed) (with_room-left (parts_of closed f marks) d room))

    pub id-left : length f.documents ≡ length (with_room (parts_of closed f marks) d).filling
    id-left = sym (ap (λ (p : Parts). length p.filling) (with_room-left (parts_of closed f marks) d room))

  module _ (full : has_room (parts_of closed f marks) d ≡ false) (some : 0 < length f.documents) where
    pub held-full : (new : List Marked) (g : Index) (ns : List Bool) → new ≡ closed ++ filled f.documents marks ∷ []
        → g ≡ record { most = f.most; documents = d ∷ [] } → ns ≡ false ∷ [] → parts_of new g ns ≡ with_document (parts_of closed f marks) d
    held-full new g ns put fresh none =
        ap (λ (l : List Marked). record { most = g.most; closed = l; filling = g.documents; marks = ns }) put
        ∙ ap (λ (x : Index). record { most = x.most; closed = all_parts (parts_of closed f marks); filling = x.documents; marks = ns }) fresh
        ∙ ap (λ ms. record { most = f.most; closed = all_parts (parts_of closed f marks); filling = d ∷ []; marks = ms }) none
        ∙ sym (ap (λ (p : Parts). appended p d) (with_room-full (parts_of closed f marks) d full some))

    pub part-full : (new : List Marked) → new ≡ closed ++ filled f.documents marks ∷ [] → length new ≡ length (with_room (parts_of closed f marks) d).closed
    part-full new put =
        ap length put ∙ sym (ap (λ (p : Parts). length p.closed) (with_room-full (parts_of closed f marks) d full some))

    pub id-full : 0 ≡ length (with_room (parts_of closed f marks) d).filling
    id-full = sym (ap (λ (p : Parts). length p.filling) (with_room-full (parts_of closed f marks) d full some))

module _ (closed : List Marked) (f : Index) (marks : List Bool) where
  pub closed-seen : (new : List Marked) (g : Index) (ns : List Bool) → 0 < length f.documents → new ≡ closed ++ filled f.documents marks ∷ []
      → g ≡ record { most = f.most; documents = [] } → ns ≡ [] → parts_of new g ns ≡ sealed (parts_of closed f marks)
  closed-seen new g ns some put fresh none =
      ap (λ (l : List Marked). record { most = g.most; closed = l; filling = g.documents; marks = ns }) put
      ∙ ap (λ (x : Index). record { most = x.most; closed = all_parts (parts_of closed f marks); filling = x.documents; marks = ns }) fresh
      ∙ ap (λ ms. record { most = f.most; closed = all_parts (parts_of closed f marks); filling = []; marks = ms }) none
      ∙ sym (sealed-some (parts_of closed f marks) some)

-- ---- the documents of a docno are deleted

pub all_parts-without_docno : (p : Parts) (k : List ℕ) → all_parts (without_docno p k) ≡ map (marked_with k) (all_parts p)
all_parts-without_docno p k = sym (map-push (marked_with k) p.closed (filled p.filling p.marks))

push-same : {A : Type 0} (xs ys : List A) (x y : A) → xs ++ x ∷ [] ≡ ys ++ y ∷ [] → (xs ≡ ys) × (x ≡ y)
push-same [] [] x y e = (refl, cc)
push-same [] (b ∷ ys) x y e = let n = ap length e in absurd (omega (arith, n, length-append ys (y ∷ [])))
push-same (a ∷ xs) [] x y e = let n = ap length e in absurd (omega (arith, n, length-append xs (x ∷ [])))
push-same (a ∷ xs) (b ∷ ys) x y e =
    let rest : xs ++ x ∷ [] ≡ ys ++ y ∷ [] = cc in
    let head : a ≡ b = cc in
    let same = push-same xs ys x y rest in
    (ap (λ h. h ∷ xs) head ∙ ap (λ l. b ∷ l) same.0, same.1)

-- parts that have just these marks more
pub without_docno-seen : (p : Parts) (k : List ℕ) (closed : List Marked) (marks : List Bool) → closed ++ filled p.filling marks ∷ [] ≡ map (marked_with k) (all_parts p)
    → record { most = p.most; closed = closed; filling = p.filling; marks = marks } ≡ without_docno p k
without_docno-seen p k closed marks seen =
    let same = push-same closed (map (marked_with k) p.closed) (filled p.filling marks) (marked_with k (filled p.filling p.marks)) (seen ∙ sym (all_parts-without_docno p k)) in
    ap (λ (l : List Marked). record { most = p.most; closed = l; filling = p.filling; marks = marks }) same.0
    ∙ ap (λ (m : Marked). record { most = p.most; closed = map (marked_with k) p.closed; filling = p.filling; marks = m.marks }) same.1

pub live-without_docno : (told : Option Files) (p : Parts) (k : List ℕ) → live told (without_docno p k) ≡ without k (live told p)
live-without_docno told p k = ap (snapshots.live told) (all_parts-without_docno p k) ∙ live-marked_with told k (all_parts p)
