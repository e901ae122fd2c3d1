-- How many places a term has at most in one document of a range, by a block of entries and by postings.
use Rattle.std.proofs.Common.{◌≡◌, ◌<◌, ◌≤◌, ℕ, zero, suc, ◌+◌, ◌-◌, ◌*◌, ◌/◌, ◌%◌, ◌==◌, ◌⊎◌, inl, inr, ⊎_elim, max, true, false, List, [], ◌∷◌, ◌++◌, length, map, take, drop, get_or, refl, sym, ap, subst, ◌∙◌, arith}
use Rattle.std.specs.Prelude.{fold}
use Rattle.std.specs.List.{All}
use Rattle.std.proofs.lemmas.Bool.{cases_lt}
use Rattle.std.proofs.lemmas.Bool.Decides.{eqb_tells}
use Rattle.std.proofs.lemmas.List.{get_or-map, length-map, length-take, map-append, take_more}
use Rattle.std.proofs.lemmas.List.Elements.{All-head, All-tail, All-weaker}
use Rattle.std.proofs.lemmas.List.Sums.{fold_push}
use Rattle.ri_base.specs.Collection.{document_at, empty_document}
use Rattle.ri_base.specs.Documents.{Document}
use Rattle.ri_base.specs.Places.{places, postings_of}
use Rattle.ri_base.specs.declared.places.Place.{Place}
use Rattle.seg_codec.specs.declared.blocks.BlockEntry.{BlockEntry}
use Rattle.disk_index.specs.Blocks.{block_of, entries_from, entry_of_places, of_range}
use Rattle.disk_index.proofs.EntryLemmas.{document_at-get_or, document_at-range}
use Rattle.range_masks.specs.Masks.{IsBlock}
use Rattle.range_masks.specs.Most.{IsMostOfOne, greatest_of, most_of_entries, most_places}
use Rattle.range_masks.proofs.PostingLemmas.{no_place, past, places-block, places_at-others}
use Rattle.range_masks.proofs.RunLemmas.{count}

-- ---- the greatest of numbers

from_greatest : (a : ℕ) (ns : List ℕ) → a ≤ fold (λ m n. max m n) a ns
from_greatest a [] = omega arith
from_greatest a (n ∷ ns) = omega (arith, from_greatest (max a n) ns)

at_greatest : (a : ℕ) (ns : List ℕ) (k d : ℕ) → k < length ns → get_or ns k d ≤ fold (λ m n. max m n) a ns
at_greatest a [] k d inside = absurd (omega (arith, inside))
at_greatest a (n ∷ ns) zero d inside = omega (arith, from_greatest (max a n) ns)
at_greatest a (n ∷ ns) (suc k) d inside = at_greatest (max a n) ns k d (omega (arith, inside))

under_greatest : (a most : ℕ) (ns : List ℕ) → a ≤ most → All (λ n. n ≤ most) ns → fold (λ m n. max m n) a ns ≤ most
under_greatest a most [] low all = low
under_greatest a most (n ∷ ns) low all =
    let P : ℕ → Type 0 = λ m. m ≤ most in
    under_greatest (max a n) most ns (omega (arith, low, All-head P n ns all)) (All-tail P n ns all)

-- one more of a list
pub greatest_more : {A : Type 0} (f : A → ℕ) (xs : List A) (k : ℕ) (x : A) (most now : ℕ) → k < length xs → x ≡ get_or xs k x → most ≡ greatest_of f (take k xs) → now ≡ max most (f x)
    → now ≡ greatest_of f (take (k + 1) xs)
greatest_more f xs k x most now inside is so_far greater =
    let front = take k xs in
    let more : take (k + 1) xs ≡ front ++ x ∷ [] = take_more xs k x inside ∙ ap (λ y. front ++ y ∷ []) (sym is) in
    greater ∙ ap (λ n. max n (f x)) so_far
    ∙ sym (ap (greatest_of f) more ∙ ap (fold (λ a b. max a b) 0) (map-append f front (x ∷ [])) ∙ fold_push (λ a b. max a b) 0 (map f front) (f x))

-- ---- by a block of entries

module _ (t : List ℕ) where
  abbrev in_document : Document → ℕ
  in_document d = length (places t d)

  abbrev greatest_from : ℕ → List Document → ℕ
  greatest_from a docs = fold (λ m n. max m n) a (map in_document docs)

  abbrev entries_from_greatest : ℕ → List BlockEntry → ℕ
  entries_from_greatest a es = fold (λ m n. max m n) a (map (λ (e : BlockEntry). length e.positions) es)

  entries_greatest : (a i : ℕ) (docs : List Document) → entries_from_greatest a (entries_from i t docs) ≡ greatest_from a docs
  entries_greatest a i [] = refl
  entries_greatest a i (d ∷ docs) = by (places t d) (λ b. entries_greatest b (i + 1) docs)
    where
      by : (ps : List ℕ) → ((b : ℕ) → entries_from_greatest b (entries_from (i + 1) t docs) ≡ greatest_from b docs)
          → entries_from_greatest a (entry_of_places i ps ++ entries_from (i + 1) t docs) ≡ greatest_from (max a (length ps)) docs
      by [] rest = let same : a ≡ max a 0 = omega arith in rest a ∙ ap (λ n. greatest_from n docs) same
      by (p ∷ ps) rest = rest (max a (length (p ∷ ps)))

  pub most_of_block : (range : ℕ) (docs : List Document) → most_of_entries (block_of t range docs) ≡ most_places t range docs
  unfolding block_of
  most_of_block range docs = entries_greatest 0 (64 * range) (of_range range docs)

  pub most_by_entries : (range : ℕ) (docs : List Document) (es : List BlockEntry) (most : ℕ) → es ≡ block_of t range docs → most ≡ most_of_entries es → most ≡ most_places t range docs
  most_by_entries range docs es most is told = told ∙ ap most_of_entries is ∙ most_of_block range docs

  -- ---- by postings

  module _ (range : ℕ) (docs : List Document) (all block : List Place) (is : all ≡ postings_of t docs) (h : IsBlock range all block) where
    abbrev front : List Document
    front = of_range range docs

    in_front : (i : ℕ) → i < 64 → document_at front i ≡ document_at docs (64 * range + i)
    in_front i small =
        let back : 64 * range + i - 64 * range ≡ i = omega arith in
        ap (document_at front) (sym back) ∙ document_at-range (64 * range) (64 * range + i) docs (omega arith) (omega (arith, small))

    counted : (i : ℕ) → i < 64 → count (64 * range + i) block ≡ in_document (document_at front i)
    counted i small = ap length (places-block t range docs all block is h i small) ∙ ap in_document (sym (in_front i small))

    -- an id of another range has no posting
    elsewhere : (id : ℕ) → (id / 64 ≡ range → ⊥) → count id block ≡ 0
    elsewhere id other =
        ap length (places_at-others id block (All-weaker (λ (p : Place). p.id / 64 ≡ range) (λ p. p.id ≡ id → ⊥) (λ p own e. other (ap (λ n. n / 64) (sym e) ∙ own)) block h.inside))

    -- no document of the range has more than the greatest count
    own_count : (i : ℕ) → i < 64 → count (64 * range + i) block ≤ most_places t range docs
    own_count i small = ⊎_elim
        (λ (inside : i < length front).
        let at : get_or (map in_document front) i 0 ≡ in_document (document_at front i) =
        get_or-map in_document front i empty_document 0 inside ∙ ap in_document (sym (document_at-get_or front i)) in
        omega (arith, counted i small, at, at_greatest 0 (map in_document front) i 0 (omega (arith, inside, length-map front in_document))))
        (λ (out : length front ≤ i).
        let none : in_document (document_at front i) ≡ 0 = ap in_document (past front i out) ∙ ap length (no_place t) in
        omega (arith, counted i small, none))
        (cases_lt i (length front))

    any_count : (id : ℕ) → count id block ≤ most_places t range docs
    any_count id = by (eqb_tells (id / 64) range)
      where
        by : (((id / 64 == range) ≡ true) × (id / 64 ≡ range)) ⊎ (((id / 64 == range) ≡ false) × (id / 64 ≡ range → ⊥)) → count id block ≤ most_places t range docs
        by (inl own) =
            let here = own.1 in
            let at : 64 * range + id % 64 ≡ id = omega (arith, here) in
            subst (λ n. count n block ≤ most_places t range docs) at (own_count (id % 64) (omega arith))
        by (inr other) = omega (arith, elsewhere id other.1)

    pub most_of_run : (most : ℕ) → IsMostOfOne block most → most ≡ most_places t range docs
    most_of_run most run =
        let upper : most_places t range docs ≤ most = under_greatest 0 most (map in_document front) (omega arith) each in
        omega (arith, upper, lower run.reached)
      where
        each : All (λ n. n ≤ most) (map in_document front)
        each k d inside =
            let low : k < length front = omega (arith, inside, length-map front in_document) in
            let small : k < 64 = omega (arith, low, length-take 64 (drop (64 * range) docs)) in
            let at : get_or (map in_document front) k d ≡ in_document (document_at front k) =
            get_or-map in_document front k empty_document d low ∙ ap in_document (sym (document_at-get_or front k)) in
            omega (arith, at, counted k small, run.each (64 * range + k))

        lower : (most ≡ 0) ⊎ ((id : ℕ) × (most ≡ count id block)) → most ≤ most_places t range docs
        lower (inl none) = omega (arith, none)
        lower (inr at) = let told = at.1 in omega (arith, told, any_count at.0)
