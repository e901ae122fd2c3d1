-- Where the documents of a part are kept elsewhere, with their docnos and lengths, places and sums stay.
use Rattle.std.proofs.Common.{◌≡◌, ◌<◌, ◌≤◌, ◌+◌, ℕ, zero, suc, Bool, List, [], ◌∷◌, ◌++◌, length, map, set, get_or, refl, ap, sym, subst, ◌∙◌, arith, Option, length-append}
use Rattle.std.specs.List.{All, flat_map}
use Rattle.std.specs.Map.{lookup}
use Rattle.std.specs.Prelude.{sum_by}
use Rattle.std.specs.Str.{bytes_eq}
use Rattle.std.proofs.lemmas.List.Elements.{All-cons, All-head, All-push, All-tail}
use Rattle.std.proofs.lemmas.List.Sums.{sum_by-cons}
use Rattle.std.proofs.lemmas.Simd.{map-map}
use Rattle.ri_base.specs.Documents.{Document}
use Rattle.seg_codec.specs.Segment.{entry_of}
use Rattle.seg_codec.specs.declared.documents.Entry.{Entry}
use Rattle.disk_index.specs.Parts.{Source, InMemory, OnDisk, outlines_of, size}
use Rattle.disk_index.specs.Snapshots.{Marked, documents_held, unmarked}
use Rattle.disk_index.proofs.AlikeLemmas.{size-alike, tokens-outlines}
use Rattle.holdings.specs.Kept.{AreCounted, AreKept, IsPlaced, cell, row}
use Rattle.holdings.specs.MarkedParts.{IsWhole, IsWritable, docnos_in, docnos_of, filled, tokens_held, tokens_in}
use Rattle.holdings.specs.Marks.{cells}
use Rattle.holdings.specs.Parts.{Parts, all_parts, moved, with_source}
use Rattle.holdings.specs.declared.limits.Limits.{Limits}
use Rattle.holdings.specs.declared.spot.Spot.{Spot}
use Rattle.holdings.proofs.CellLemmas.{map-push, push-last}
use Rattle.holdings.proofs.KeptLemmas.{All-front, CanWrite}
use Rattle.holdings.proofs.LiveLemmas.{flat_map-push}
use Rattle.holdings.proofs.SumLemmas.{sum-push}

docnos-outlines : (s : Source) → docnos_in s ≡ map (λ (o : Entry). o.docno) (outlines_of s)
docnos-outlines (InMemory docs) = sym (map-map (λ (o : Entry). o.docno) entry_of docs)
docnos-outlines (OnDisk kept) = refl

tokens-in : (s : Source) → tokens_in s ≡ sum_by (λ (o : Entry). o.tokens) (outlines_of s)
tokens-in (InMemory docs) = tokens-outlines docs
tokens-in (OnDisk kept) = refl

module _ (s t : Source) (same : outlines_of t ≡ outlines_of s) where
  pub docnos-alike : docnos_in t ≡ docnos_in s
  docnos-alike = docnos-outlines t ∙ ap (λ (os : List Entry). map (λ (o : Entry). o.docno) os) same ∙ sym (docnos-outlines s)

  pub tokens-alike : tokens_in t ≡ tokens_in s
  tokens-alike = tokens-in t ∙ ap (λ (os : List Entry). sum_by (λ (o : Entry). o.tokens) os) same ∙ sym (tokens-in s)

-- the part that has its documents elsewhere has the same of them
abbrev IsAlike : List Marked → ℕ → Source → Type 0
IsAlike ms i t = outlines_of t ≡ outlines_of (get_or ms i (filled [] [])).source

rows-moved : (ms : List Marked) (i : ℕ) (t : Source) → IsAlike ms i t → map row (with_source ms i t) ≡ map row ms
rows-moved [] i t same = refl
rows-moved (m ∷ ms) zero t same = ap (λ ds. cells ds m.marks ∷ map row ms) (docnos-alike m.source t same)
rows-moved (m ∷ ms) (suc i) t same = ap (λ l. row m ∷ l) (rows-moved ms i t same)

docnos-moved : (ms : List Marked) (i : ℕ) (t : Source) → IsAlike ms i t → docnos_of (with_source ms i t) ≡ docnos_of ms
docnos-moved [] i t same = refl
docnos-moved (m ∷ ms) zero t same = ap (λ ds. unmarked ds m.marks ++ docnos_of ms) (docnos-alike m.source t same)
docnos-moved (m ∷ ms) (suc i) t same = ap (λ l. unmarked (docnos_in m.source) m.marks ++ l) (docnos-moved ms i t same)

whole-moved : (ms : List Marked) (i : ℕ) (t : Source) → IsAlike ms i t → All IsWhole ms → All IsWhole (with_source ms i t)
whole-moved [] i t same all = all
whole-moved (m ∷ ms) zero t same all = All-cons IsWhole _ ms (All-head IsWhole m ms all ∙ sym (size-alike m.source t same)) (All-tail IsWhole m ms all)
whole-moved (m ∷ ms) (suc i) t same all = All-cons IsWhole m (with_source ms i t) (All-head IsWhole m ms all) (whole-moved ms i t same (All-tail IsWhole m ms all))

writable-moved : (ms : List Marked) (i : ℕ) (t : Source) → IsWritable t → All CanWrite ms → All CanWrite (with_source ms i t)
writable-moved [] i t fits all = all
writable-moved (m ∷ ms) zero t fits all = All-cons CanWrite _ ms fits (All-tail CanWrite m ms all)
writable-moved (m ∷ ms) (suc i) t fits all = All-cons CanWrite m (with_source ms i t) (All-head CanWrite m ms all) (writable-moved ms i t fits (All-tail CanWrite m ms all))

pub all-last : (P : Marked → Type 0) (ms : List Marked) (m : Marked) → All P (ms ++ m ∷ []) → P m
all-last P ms m all = subst P (push-last ms m m) (all (length ms) m (omega (arith, length-append ms (m ∷ []))))

pub docnos-all : (p : Parts) (i : ℕ) (t : Source) → IsAlike p.closed i t → docnos_of (all_parts (moved p i t)) ≡ docnos_of (all_parts p)
docnos-all p i t same =
    flat_map-push (λ (m : Marked). unmarked (docnos_in m.source) m.marks) (with_source p.closed i t) (filled p.filling p.marks) ∙ ap (λ l. l ++ unmarked (docnos_in (InMemory p.filling)) p.marks) (docnos-moved p.closed i t same)
    ∙ sym (flat_map-push (λ (m : Marked). unmarked (docnos_in m.source) m.marks) p.closed (filled p.filling p.marks))

pub AreKept-moved : (most : ℕ) (places : List (List ℕ × Spot)) (p : Parts) (i : ℕ) (t : Source) → IsAlike p.closed i t → IsWritable t → AreKept most places (all_parts p) → AreKept most places (all_parts (moved p i t))
AreKept-moved most places p i t same fits kept =
    let f = filled p.filling p.marks in
    let grid : map row (all_parts (moved p i t)) ≡ map row (all_parts p) =
    map-push row (with_source p.closed i t) f ∙ ap (λ g. g ++ row f ∷ []) (rows-moved p.closed i t same) ∙ sym (map-push row p.closed f) in
    record {
      small = kept.small;
      placed = subst (λ (g : List (List (Option (List ℕ)))). IsPlaced (λ q. lookup (bytes_eq q) places) (cell g)) (sym grid) kept.placed;
      counted = kept.counted ∙ sym (ap (λ (l : List (List ℕ)). length l) (docnos-all p i t same));
      whole = All-push IsWhole (with_source p.closed i t) f (whole-moved p.closed i t same (All-front IsWhole p.closed f kept.whole)) (all-last IsWhole p.closed f kept.whole);
      writable = All-push CanWrite (with_source p.closed i t) f (writable-moved p.closed i t fits (All-front CanWrite p.closed f kept.writable)) (all-last CanWrite p.closed f kept.writable);
    }

-- ---- sums

sum-moved : (f : Source → ℕ) (ms : List Marked) (i : ℕ) (t : Source) → f t ≡ f (get_or ms i (filled [] [])).source → sum_by (λ (m : Marked). f m.source) (with_source ms i t) ≡ sum_by (λ (m : Marked). f m.source) ms
sum-moved f [] i t same = refl
sum-moved f (m ∷ ms) zero t same =
    let new : Marked = record { source = t; marks = m.marks } in
    sum_by-cons (λ (x : Marked). f x.source) new ms ∙ ap (λ n. n + sum_by (λ (x : Marked). f x.source) ms) same ∙ sym (sum_by-cons (λ (x : Marked). f x.source) m ms)
sum-moved f (m ∷ ms) (suc i) t same =
    sum_by-cons (λ (x : Marked). f x.source) m (with_source ms i t) ∙ ap (λ n. f m.source + n) (sum-moved f ms i t same) ∙ sym (sum_by-cons (λ (x : Marked). f x.source) m ms)

sum-all : (f : Source → ℕ) (p : Parts) (i : ℕ) (t : Source) → f t ≡ f (get_or p.closed i (filled [] [])).source
    → sum_by (λ (m : Marked). f m.source) (all_parts (moved p i t)) ≡ sum_by (λ (m : Marked). f m.source) (all_parts p)
sum-all f p i t same =
    sum-push f (with_source p.closed i t) (filled p.filling p.marks) ∙ ap (λ n. n + f (InMemory p.filling)) (sum-moved f p.closed i t same) ∙ sym (sum-push f p.closed (filled p.filling p.marks))

pub documents-moved : (p : Parts) (i : ℕ) (t : Source) → IsAlike p.closed i t → documents_held (all_parts (moved p i t)) ≡ documents_held (all_parts p)
documents-moved p i t same = sum-all size p i t (size-alike (get_or p.closed i (filled [] [])).source t same)

pub tokens-moved : (p : Parts) (i : ℕ) (t : Source) → IsAlike p.closed i t → tokens_held (all_parts (moved p i t)) ≡ tokens_held (all_parts p)
tokens-moved p i t same = sum-all tokens_in p i t (tokens-alike (get_or p.closed i (filled [] [])).source t same)

pub AreCounted-moved : (p : Parts) (l : Limits) (n k : ℕ) (i : ℕ) (t : Source) → IsAlike p.closed i t → AreCounted p l n k → AreCounted (moved p i t) l n k
AreCounted-moved p l n k i t same counted = record {
  documents_are = counted.documents_are ∙ sym (documents-moved p i t same);
  tokens_are = counted.tokens_are ∙ sym (tokens-moved p i t same);
  documents_fit = counted.documents_fit;
  tokens_fit = counted.tokens_fit;
  most = counted.most;
}

-- ---- written through a place

pub set-moved : (ms : List Marked) (i : ℕ) (m : Marked) (t : Source) → i < length ms → m ≡ get_or ms i m → set ms i (record { source = t; marks = m.marks }) ≡ with_source ms i t
set-moved [] i m t below at = absurd (omega (arith, below))
set-moved (x ∷ xs) zero m t below at = ap (λ (y : Marked). record { source = t; marks = y.marks } ∷ xs) at
set-moved (x ∷ xs) (suc i) m t below at = ap (λ l. x ∷ l) (set-moved xs i m t (omega (arith, below)) at)
