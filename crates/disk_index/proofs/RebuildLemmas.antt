-- The blocks of a range give the documents again.
use Rattle.std.proofs.Common.{◌≡◌, ◌<◌, ◌≤◌, ℕ, zero, suc, ◌+◌, ◌*◌, ◌/◌, ◌%◌, ◌-◌, ◌^◌, min, List, [], ◌∷◌, ◌++◌, length, take, drop, map, get_or, set, length-set, replicate, Bool, true, false, cond, ltb, Option, Some, None, Result, Ok, Err, Contains, inl, inr, refl, sym, ap, subst, ◌∙◌, append_assoc, add-zero, arith, length-append, length-drop}
use Rattle.std.specs.Prelude.{is_none, is_some, slice_get}
use Rattle.std.specs.Cmp.Lexicographic.{slice_cmp}
use Rattle.std.specs.List.{All, AllPairs, find}
use Rattle.std.specs.Option.{option_and_then, option_map, option_map_or}
use Rattle.std.specs.Ordering.{nat_cmp}
use Rattle.std.specs.Str.{bytes_eq}
use Rattle.std.specs.declared.cmp.Ordering.TheVariants.{Less, Equal}
use Rattle.std.proofs.lemmas.Bool.{le-ltb, lt-ltb}
use Rattle.std.proofs.lemmas.Cmp.{nat_list_cmp_total, tied_itself}
use Rattle.std.proofs.lemmas.List.{append-nil, at_drop_all, at_drop_more, drop-map, get_or-map, get_or_default, length-map, length-replicate, length-take, take-map}
use Rattle.std.proofs.lemmas.List.Elements.{All-head, All-nil, All-cons, All-drop, All-tail, All-take, All-weaker}
use Rattle.std.proofs.lemmas.Option.{same_Some}
use Rattle.std.proofs.lemmas.Slice.Eq.{bytes_eq-Decides}
use Rattle.ri_base.specs.Collection.{document_at}
use Rattle.ri_base.specs.Documents.{Document}
use Rattle.ri_base.specs.Places.{places, places_from}
use Rattle.ri_base.specs.Vocabulary.{IsTermBefore}
use Rattle.ri_base.proofs.Codec.{ok_is}
use Rattle.ri_base.proofs.ListLemmas.{Contains-cases, Contains-here, Contains-later, Contains-none}
use Rattle.ri_base.proofs.PlacesLemmas.{occurs_at}
use Rattle.store_ends.specs.Files.{Files}
use Rattle.seg_codec.specs.Held.{lengths_of}
use Rattle.seg_codec.specs.Segment.{entry_of}
use Rattle.seg_codec.specs.declared.blocks.BlockEntry.{BlockEntry}
use Rattle.seg_codec.specs.declared.dictionary.BlockPlace.{BlockPlace}
use Rattle.seg_codec.specs.declared.dictionary.TermBlocks.{TermBlocks}
use Rattle.seg_codec.specs.declared.documents.Entry.{Entry}
use Rattle.disk_index.specs.Blocks.{block_of, entries_from, entry_of_places, of_range, places_of, put_of}
use Rattle.disk_index.specs.Kept.{Kept, place_in}
use Rattle.disk_index.specs.Ranks.{ranks_from, ranks_of, term_of}
use Rattle.disk_index.specs.Reads.{IsBacked}
use Rattle.disk_index.specs.Rebuild.{Slots, all_terms, behind, document_of, documents_of, is_free, lengths, put_block, put_entries, put_entry, put_places, rank_in, rows_of, term_in, then_put}
use Rattle.disk_index.proofs.EntryLemmas.{document_at-range, places_of-block}
use Rattle.disk_index.proofs.LookupLemmas.{find-has}
use Rattle.disk_index.proofs.RankLemmas.{RiseBelow, ranks_of-rise}
use Rattle.disk_index.proofs.RebuiltLemmas.{backed-laid}
use Rattle.disk_index.proofs.SegmentLaws.{HasBlocks, IsLaid, StandsAt}

-- ---- an element behind others

get-behind : {X : Type 0} (front : List X) (s : X) (rest : List X) → slice_get (front ++ s ∷ rest) (length front) ≡ Some s
get-behind [] s rest = refl
get-behind (x ∷ front) s rest = get-behind front s rest

at-behind : {X : Type 0} (front : List X) (s : X) (rest : List X) (d : X) → get_or (front ++ s ∷ rest) (length front) d ≡ s
at-behind [] s rest d = refl
at-behind (x ∷ front) s rest d = at-behind front s rest d

set-behind : {X : Type 0} (front : List X) (s t : X) (rest : List X) → set (front ++ s ∷ rest) (length front) t ≡ (front ++ t ∷ []) ++ rest
set-behind [] s t rest = refl
set-behind {X} (x ∷ front) s t rest = ap (λ (l : List X). x ∷ l) (set-behind front s t rest)

-- ---- the places of one term

-- the places of one term are told, where they were free, and those of others stay
put-places : (rank : ℕ) (t : List ℕ) (f g : List ℕ → Option ℕ) → ((x : List ℕ) → bytes_eq x t ≡ true → (f x ≡ None) × (g x ≡ Some rank)) → ((x : List ℕ) → bytes_eq x t ≡ false → g x ≡ f x)
    → (at : ℕ) (front : Slots) (i : ℕ) (toks : List (List ℕ)) → i ≡ length front → put_places at rank (places_from i t toks) (front ++ map f toks) ≡ Ok (front ++ map g toks)
put-places rank t f g own other at front i [] is = refl
put-places rank t f g own other at front i (x ∷ xs) is =
    by (bytes_eq x t) refl (λ n s. put-places rank t f g own other n (front ++ s ∷ []) (i + 1) xs (let n = length-append front (s ∷ []) in omega (arith, n, is)))
  where
    by : (b : Bool) → bytes_eq x t ≡ b → ((n : ℕ) (s : Option ℕ) → put_places n rank (places_from (i + 1) t xs) ((front ++ s ∷ []) ++ map f xs) ≡ Ok ((front ++ s ∷ []) ++ map g xs))
        → put_places at rank (cond b (i ∷ places_from (i + 1) t xs) (places_from (i + 1) t xs)) (front ++ f x ∷ map f xs) ≡ Ok (front ++ g x ∷ map g xs)
    by true e rest =
        let o = own x e in
        let slots : Slots = front ++ f x ∷ map f xs in
        let free : is_free slots i ≡ true =
        ap (is_free slots) is ∙ ap (λ (r : Option (Option ℕ)). option_map_or (λ (s : Option ℕ). is_none s) r false) (get-behind front (f x) (map f xs)) ∙ ap (λ (s : Option ℕ). is_none s) o.0 in
        let put : set slots i (Some rank) ≡ (front ++ Some rank ∷ []) ++ map f xs = ap (λ n. set slots n (Some rank)) is ∙ set-behind front (f x) (Some rank) (map f xs) in
        ap (λ b. cond b (put_places (behind at 4) rank (places_from (i + 1) t xs) (set slots i (Some rank))) (Err at)) free
        ∙ ap (put_places (behind at 4) rank (places_from (i + 1) t xs)) put ∙ rest (behind at 4) (Some rank)
        ∙ ap Ok (append_assoc front (Some rank ∷ []) (map g xs) ∙ ap (λ (s : Option ℕ). front ++ s ∷ map g xs) (sym o.1))
    by false e rest =
        let o = other x e in
        ap (put_places at rank (places_from (i + 1) t xs)) (sym (append_assoc front (f x ∷ []) (map f xs))) ∙ rest at (f x)
        ∙ ap Ok (append_assoc front (f x ∷ []) (map g xs) ∙ ap (λ (s : Option ℕ). front ++ s ∷ map g xs) (sym o))

-- an entry of the document whose row stands behind these
put-own : (at rank : ℕ) (e : BlockEntry) (front : List Slots) (a b : Slots) (others : List Slots) → e.id % 64 ≡ length front → put_places at rank e.positions a ≡ Ok b
    → put_entry at rank e (front ++ a ∷ others) ≡ Ok ((front ++ b ∷ []) ++ others)
put-own at rank e front a b others is own =
    let rows : List Slots = front ++ a ∷ others in
    let size = length-append front (a ∷ others) in
    let inside : ltb (length front) (length rows) ≡ true = lt-ltb (length front) (length rows) (omega (arith, size)) in
    let told : ℕ → Result (List Slots) ℕ = λ n. then_put (λ (s : Slots). Ok (set rows n s)) (put_places at rank e.positions (get_or rows n [])) in
    ap (λ n. cond (ltb n (length rows)) (told n) (Err at)) is ∙ ap (λ c. cond c (told (length front)) (Err at)) inside
    ∙ ap (λ (r : Slots). then_put (λ (s : Slots). Ok (set rows (length front) s)) (put_places at rank e.positions r)) (at-behind front a others [])
    ∙ ap (λ (o : Result Slots ℕ). then_put (λ (s : Slots). Ok (set rows (length front) s)) o) own ∙ ap Ok (set-behind front a b others)

abbrev row : (List ℕ → Option ℕ) → Document → Slots
row f d = map f d.tokens

module _ (rank range : ℕ) (t : List ℕ) (f g : List ℕ → Option ℕ) (own : (x : List ℕ) → bytes_eq x t ≡ true → (f x ≡ None) × (g x ≡ Some rank)) (other : (x : List ℕ) → bytes_eq x t ≡ false → g x ≡ f x) where
  own-row : (at : ℕ) (d : Document) (ps : List ℕ) → places t d ≡ ps → put_places at rank ps (row f d) ≡ Ok (row g d)
  unfolding places
  own-row at d ps is = subst (λ (l : List ℕ). put_places at rank l (row f d) ≡ Ok (row g d)) is (put-places rank t f g own other at [] 0 d.tokens refl)

  put-rows : (at : ℕ) (front : List Slots) (id : ℕ) (ds : List Document) → id ≡ 64 * range + length front → length front + length ds ≤ 64
      → put_entries at rank (entries_from id t ds) (front ++ map (row f) ds) ≡ Ok (front ++ map (row g) ds)
  put-rows at front id [] is few = refl
  put-rows at front id (d ∷ ds) is few =
      let n = length-append front (row g d ∷ []) in
      by (places t d) (own-row (behind at 5) d (places t d) refl)
      (λ k. put-rows k (front ++ row g d ∷ []) (id + 1) ds (omega (arith, n, is)) (omega (arith, n, few)) ∙ ap Ok (append_assoc front (row g d ∷ []) (map (row g) ds)))
    where
      by : (ps : List ℕ) → put_places (behind at 5) rank ps (row f d) ≡ Ok (row g d)
          → ((k : ℕ) → put_entries k rank (entries_from (id + 1) t ds) ((front ++ row g d ∷ []) ++ map (row f) ds) ≡ Ok (front ++ row g d ∷ map (row g) ds))
          → put_entries at rank (entry_of_places id ps ++ entries_from (id + 1) t ds) (front ++ row f d ∷ map (row f) ds) ≡ Ok (front ++ row g d ∷ map (row g) ds)
      by [] e rest =
          ap (λ (r : Slots). put_entries at rank (entries_from (id + 1) t ds) (front ++ r ∷ map (row f) ds)) (ok_is (row f d) (row g d) e)
          ∙ ap (put_entries at rank (entries_from (id + 1) t ds)) (sym (append_assoc front (row g d ∷ []) (map (row f) ds))) ∙ rest at
      by (p ∷ ps) e rest =
          let local : id % 64 ≡ length front = omega (arith, is, few) in
          let next = behind (behind at 5) (4 * length (p ∷ ps)) in
          ap (λ (o : Result (List Slots) ℕ). then_put (put_entries next rank (entries_from (id + 1) t ds)) o)
          (put-own (behind at 5) rank (record { id = id; positions = p ∷ ps }) front (row f d) (row g d) (map (row f) ds) local e) ∙ rest next

  put-own_block : (begin : ℕ) (docs : List Document) → put_block begin rank (block_of t range docs) (map (row f) (of_range range docs)) ≡ Ok (map (row g) (of_range range docs))
  unfolding block_of
  put-own_block begin docs = put-rows (behind begin 1) [] (64 * range) (of_range range docs) (omega arith) (omega (arith, length-take 64 (drop (64 * range) docs)))

-- ---- ranks by term

find-behind-none : (p : ℕ → Bool) (xs : List ℕ) (x : ℕ) → find p xs ≡ None → p x ≡ true → find p (xs ++ x ∷ []) ≡ Some x
find-behind-none p [] x none holds = ap (λ b. cond b (Some x) None) holds
find-behind-none p (y ∷ ys) x none holds = by (p y) none (find-behind-none p ys x)
  where
    by : (b : Bool) → cond b (Some y) (find p ys) ≡ None → (find p ys ≡ None → p x ≡ true → find p (ys ++ x ∷ []) ≡ Some x) → cond b (Some y) (find p (ys ++ x ∷ [])) ≡ Some x
    by true n rest = absurd cc
    by false n rest = rest n holds

find-behind-no : (p : ℕ → Bool) (xs : List ℕ) (x : ℕ) → p x ≡ false → find p (xs ++ x ∷ []) ≡ find p xs
find-behind-no p [] x fails = ap (λ b. cond b (Some x) None) fails
find-behind-no p (y ∷ ys) x fails = ap (λ o. cond (p y) (Some y) o) (find-behind-no p ys x fails)

find-none-all : (p : ℕ → Bool) (xs : List ℕ) → All (λ x. p x ≡ false) xs → find p xs ≡ None
find-none-all p [] all = refl
find-none-all p (x ∷ xs) all = ap (λ b. cond b (Some x) (find p xs)) (All-head (λ (x : ℕ). p x ≡ false) x xs all) ∙ find-none-all p xs (All-tail (λ (x : ℕ). p x ≡ false) x xs all)

same-yes : (a b : List ℕ) → a ≡ b → bytes_eq a b ≡ true
same-yes a b h = (bytes_eq-Decides a b).1 h

yes-same : (a b : List ℕ) → bytes_eq a b ≡ true → a ≡ b
yes-same a b h = (bytes_eq-Decides a b).0 h

apart-no : (a b : List ℕ) → (a ≡ b → ⊥) → bytes_eq a b ≡ false
apart-no a b ne = by (bytes_eq a b) refl
  where
    by : (c : Bool) → bytes_eq a b ≡ c → c ≡ false
    by true e = absurd (ne (yes-same a b e))
    by false e = refl

no_term : TermBlocks
no_term = record { term = []; blocks = [] }

module _ (dictionary : List TermBlocks) (rising : AllPairs (λ a b. IsTermBefore a.term b.term) dictionary) where
  -- no two terms at different places are the same
  are-apart : (j k : ℕ) → j < k → k < length dictionary → term_of dictionary j ≡ term_of dictionary k → ⊥
  unfolding no_term
  are-apart j k less inside same =
      let term : TermBlocks → List ℕ = λ t. t.term in
      let first : term_of dictionary j ≡ (get_or dictionary j no_term).term = get_or-map term dictionary j no_term [] (omega (arith, less, inside)) in
      let second : term_of dictionary k ≡ (get_or dictionary k no_term).term = get_or-map term dictionary k no_term [] inside in
      let before : slice_cmp nat_cmp (get_or dictionary j no_term).term (get_or dictionary k no_term).term ≡ Less = rising j k no_term less inside in
      let again : slice_cmp nat_cmp (get_or dictionary k no_term).term (get_or dictionary k no_term).term ≡ Less =
      subst (λ (t : List ℕ). slice_cmp nat_cmp t (get_or dictionary k no_term).term ≡ Less) (sym first ∙ same ∙ second) before in
      let tied : slice_cmp nat_cmp (get_or dictionary k no_term).term (get_or dictionary k no_term).term ≡ Equal = tied_itself nat_list_cmp_total (get_or dictionary k no_term).term in
      cc

  fresh : (k : ℕ) (ks : List ℕ) → k < length dictionary → All (λ j. j < k) ks → rank_in dictionary ks (term_of dictionary k) ≡ None
  fresh k ks inside below =
      find-none-all (λ j. bytes_eq (term_of dictionary j) (term_of dictionary k)) ks
      (All-weaker (λ j. j < k) (λ j. bytes_eq (term_of dictionary j) (term_of dictionary k) ≡ false) (λ j less. apart-no (term_of dictionary j) (term_of dictionary k) (are-apart j k less inside)) ks below)

  -- one block more
  pub rank-more : (begin range k : ℕ) (done : List ℕ) (docs : List Document) → k < length dictionary → All (λ j. j < k) done
      → put_block begin k (block_of (term_of dictionary k) range docs) (rows_of dictionary done (of_range range docs)) ≡ Ok (rows_of dictionary (done ++ k ∷ []) (of_range range docs))
  rank-more begin range k done docs inside below =
      let t = term_of dictionary k in
      let none : rank_in dictionary done t ≡ None = fresh k done inside below in
      put-own_block k range t (rank_in dictionary done) (rank_in dictionary (done ++ k ∷ []))
      (λ x e.
      let old : rank_in dictionary done x ≡ None = ap (rank_in dictionary done) (yes-same x t e) ∙ none in
      (old, find-behind-none (λ j. bytes_eq (term_of dictionary j) x) done k old (same-yes t x (sym (yes-same x t e)))))
      (λ x e. find-behind-no (λ j. bytes_eq (term_of dictionary j) x) done k (apart-no t x (λ s. let y = same-yes x t (sym s) in cc))) begin docs

-- nothing is told of the documents of these outlines
no-ranks : (dictionary : List TermBlocks) (toks : List (List ℕ)) → replicate (length toks) None ≡ map (rank_in dictionary []) toks
no-ranks dictionary [] = refl
no-ranks dictionary (x ∷ xs) = ap (λ (l : Slots). None ∷ l) (no-ranks dictionary xs)

untold : (dictionary : List TermBlocks) (docs : List Document) → map (λ (o : Entry). replicate o.tokens None) (map entry_of docs) ≡ rows_of dictionary [] docs
untold dictionary [] = refl
untold dictionary (d ∷ ds) =
    ap (λ (r : Slots). r ∷ map (λ (o : Entry). replicate o.tokens None) (map entry_of ds)) (no-ranks dictionary d.tokens) ∙ ap (λ (l : List Slots). map (rank_in dictionary []) d.tokens ∷ l) (untold dictionary ds)

pub map-range : (range : ℕ) (docs : List Document) → of_range range (map entry_of docs) ≡ map entry_of (of_range range docs)
map-range range docs = ap (take 64) (drop-map entry_of (64 * range) docs) ∙ take-map entry_of 64 (drop (64 * range) docs)

pub untold-range : (told : Option Files) (kept : Kept) (range : ℕ) (docs : List Document) → IsBacked told kept docs
    → map (λ (o : Entry). replicate o.tokens None) (of_range range kept.outlines) ≡ rows_of kept.dictionary [] (of_range range docs)
untold-range told kept range docs b =
    let laid = backed-laid told kept docs b in
    ap (λ (os : List Entry). map (λ (o : Entry). replicate o.tokens None) (of_range range os)) laid.outlines
    ∙ ap (λ (os : List Entry). map (λ (o : Entry). replicate o.tokens None) os) (map-range range docs) ∙ untold kept.dictionary (of_range range docs)

pub untold-lengths : (os : List Entry) → lengths (map (λ (o : Entry). replicate o.tokens None) os) ≡ lengths_of os
untold-lengths [] = refl
untold-lengths (o ∷ os) =
    ap (λ n. n ∷ lengths (map (λ (o : Entry). replicate o.tokens None) os)) (length-replicate o.tokens None) ∙ ap (λ (l : List ℕ). o.tokens ∷ l) (untold-lengths os)

-- ---- terms of slots

term-there : (dictionary : List TermBlocks) (k : ℕ) → k < length dictionary → term_in dictionary (Some k) ≡ Some (term_of dictionary k)
term-there [] k h = absurd (omega arith)
term-there (t ∷ ts) zero h = refl
term-there (t ∷ ts) (suc k) h = term-there ts k (omega arith)

terms-known : (dictionary : List TermBlocks) (ks : List ℕ) (xs : List (List ℕ)) → ((x : List ℕ) → Contains xs x → term_in dictionary (rank_in dictionary ks x) ≡ Some x)
    → all_terms dictionary (map (rank_in dictionary ks) xs) ≡ Some xs
terms-known dictionary ks [] each = refl
terms-known dictionary ks (x ∷ xs) each =
    let rest = terms-known dictionary ks xs (λ y c. each y (Contains-later x xs y c)) in
    ap (λ (o : Option (List ℕ)). option_and_then (λ t. option_map (λ ts. t ∷ ts) (all_terms dictionary (map (rank_in dictionary ks) xs))) o) (each x (Contains-here x xs))
    ∙ ap (λ (o : Option (List (List ℕ))). option_map (λ ts. x ∷ ts) o) rest

found-one : (p : ℕ → Bool) (ks : List ℕ) (k : ℕ) → Contains ks k → p k ≡ true → (j : ℕ) × (find p ks ≡ Some j)
found-one p [] k there holds = absurd (Contains-none k there)
found-one p (x ∷ xs) k there holds = by (p x) refl (λ later. found-one p xs k later holds)
  where
    by : (b : Bool) → p x ≡ b → (Contains xs k → (j : ℕ) × (find p xs ≡ Some j)) → (j : ℕ) × (cond b (Some x) (find p xs) ≡ Some j)
    by true e rest = (x, refl)
    by false e rest = elim (Contains-cases x xs k there) [
      | inl same ↦ absurd (let f = ap p same in cc)
      | inr later ↦ rest later
    ]

places-some : (i : ℕ) (t : List ℕ) (toks : List (List ℕ)) → Contains toks t → places_from i t toks ≡ [] → ⊥
places-some i t [] there none = Contains-none t there
places-some i t (x ∷ xs) there none = by (bytes_eq x t) refl none (places-some (i + 1) t xs)
  where
    by : (b : Bool) → bytes_eq x t ≡ b → cond b (i ∷ places_from (i + 1) t xs) (places_from (i + 1) t xs) ≡ [] → (Contains xs t → places_from (i + 1) t xs ≡ [] → ⊥) → ⊥
    by true e n rest = cc
    by false e n rest = elim (Contains-cases x xs t there) [
      | inl same ↦ (let y = same-yes x t same in cc)
      | inr later ↦ rest later n
    ]

ranks_from-has : (range i k : ℕ) (ts : List TermBlocks) (t : TermBlocks) → k < length ts → get_or ts k t ≡ t → is_some (place_in range t) ≡ true → Contains (ranks_from range i ts) (i + k)
ranks_from-has range i k [] t h e some = absurd (omega arith)
ranks_from-has range i zero (x ∷ ts) t h e some =
    let here : is_some (place_in range x) ≡ true = ap (λ (y : TermBlocks). is_some (place_in range y)) e ∙ some in
    let cons : ranks_from range i (x ∷ ts) ≡ i ∷ ranks_from range (i + 1) ts = ap (λ b. cond b (i ∷ []) [] ++ ranks_from range (i + 1) ts) here in
    subst (λ (l : List ℕ). Contains l (i + 0)) (sym cons) (subst (λ n. Contains (i ∷ ranks_from range (i + 1) ts) n) (sym (add-zero i)) (Contains-here i (ranks_from range (i + 1) ts)))
ranks_from-has range i (suc k) (x ∷ ts) t h e some =
    by (is_some (place_in range x)) (subst (λ n. Contains (ranks_from range (i + 1) ts) n) (omega arith) (ranks_from-has range (i + 1) k ts t (omega arith) e some))
  where
    by : (b : Bool) → Contains (ranks_from range (i + 1) ts) (i + suc k) → Contains (cond b (i ∷ []) [] ++ ranks_from range (i + 1) ts) (i + suc k)
    by true c = Contains-later i (ranks_from range (i + 1) ts) (i + suc k) c
    by false c = c

-- ---- the documents of a range

module _ (file : List ℕ) (kept : Kept) (docs : List Document) (laid : IsLaid file kept docs) where
  -- a token of a document is the term of one of the range's ranks
  token-ranked : (id : ℕ) (x : List ℕ) → id < length docs → Contains (document_at docs id).tokens x → (k : ℕ) × (k < length kept.dictionary) × Contains (ranks_of (id / 64) kept.dictionary) k × (term_of kept.dictionary k ≡ x)
  unfolding ranks_of places
  token-ranked id x inside there =
      let term : TermBlocks → List ℕ = λ t. t.term in
      let c = laid.all x (occurs_at id x docs inside there) in
      let k : ℕ = c.0 in
      let count = length-map kept.dictionary term in
      let bound : k < length (map term kept.dictionary) = c.1 in
      let within : k < length kept.dictionary = omega (arith, bound, count) in
      let t : TermBlocks = get_or kept.dictionary k no_term in
      let own : t.term ≡ x = sym (get_or-map term kept.dictionary k no_term x within) ∙ c.2 in
      let named : term_of kept.dictionary k ≡ x = get_or-map term kept.dictionary k no_term [] within ∙ own in
      let has : HasBlocks file kept.outlines docs t = laid.each k no_term within in
      let some : is_some (place_in (id / 64) t) ≡ true = by t (place_in (id / 64) t) refl own (has (id / 64)) in
      let there : Contains (ranks_from (id / 64) 0 kept.dictionary) k =
      subst (λ n. Contains (ranks_from (id / 64) 0 kept.dictionary) n) (omega arith) (ranks_from-has (id / 64) 0 k kept.dictionary t within (sym (get_or_default kept.dictionary k no_term t within)) some) in
      (k, within, there, named)
    where
      by : (t : TermBlocks) (o : Option BlockPlace) → place_in (id / 64) t ≡ o → t.term ≡ x → StandsAt file kept.outlines (id / 64) o (block_of t.term (id / 64) docs) → is_some o ≡ true
      by t None e own s =
          let none : places_from 0 x (document_at docs id).tokens ≡ [] =
          sym (places_of-block x id docs inside) ∙ ap (λ (y : List ℕ). places_of id (block_of y (id / 64) docs)) (sym own) ∙ ap (places_of id) s in
          absurd (places-some 0 x (document_at docs id).tokens there none)
      by t (Some p) e own s = refl

  ranks-below : (low : ℕ) (ks : List ℕ) → RiseBelow low (length kept.dictionary) ks → All (λ k. k < length kept.dictionary) ks
  unfolding RiseBelow
  ranks-below low [] up = All-nil (λ k. k < length kept.dictionary)
  ranks-below low (k ∷ ks) up = All-cons (λ k. k < length kept.dictionary) k ks up.1.0 (ranks-below (k + 1) ks up.1.1)

  tokens-again : (range id : ℕ) → id < length docs → id / 64 ≡ range
      → all_terms kept.dictionary (map (rank_in kept.dictionary (ranks_of range kept.dictionary)) (document_at docs id).tokens) ≡ Some (document_at docs id).tokens
  tokens-again range id inside own =
      let ks = ranks_of range kept.dictionary in
      terms-known kept.dictionary ks (document_at docs id).tokens (λ x there.
      let r = token-ranked id x inside there in
      let is : Contains ks r.0 = subst (λ n. Contains (ranks_of n kept.dictionary) r.0) own r.2 in
      let f = found-one (λ k. bytes_eq (term_of kept.dictionary k) x) ks r.0 is (same-yes (term_of kept.dictionary r.0) x r.3) in
      let h = find-has (λ k. k < length kept.dictionary) (λ k. bytes_eq (term_of kept.dictionary k) x) ks f.0 (ranks-below 0 ks (ranks_of-rise range kept.dictionary)) f.1 in
      ap (term_in kept.dictionary) f.1 ∙ term-there kept.dictionary f.0 h.0 ∙ ap Some (yes-same (term_of kept.dictionary f.0) x h.1))

documents-again : (dictionary : List TermBlocks) (ks : List ℕ) (ds : List Document)
    → ((k : ℕ) → k < length ds → all_terms dictionary (map (rank_in dictionary ks) (document_at ds k).tokens) ≡ Some (document_at ds k).tokens)
    → documents_of dictionary (map entry_of ds) (rows_of dictionary ks ds) ≡ Some ds
documents-again dictionary ks [] each = refl
documents-again dictionary ks (d ∷ ds) each =
    let first : document_of dictionary (entry_of d) (map (rank_in dictionary ks) d.tokens) ≡ Some d =
    ap (λ (o : Option (List (List ℕ))). option_map (λ ts. record { docno = d.docno; tokens = ts; fields = d.fields }) o) (each 0 (omega arith)) in
    let rest = documents-again dictionary ks ds (λ k h. each (suc k) (omega (arith, h))) in
    ap (λ (o : Option Document). option_and_then (λ x. option_map (λ xs. x ∷ xs) (documents_of dictionary (map entry_of ds) (rows_of dictionary ks ds))) o) first
    ∙ ap (λ (o : Option (List Document)). option_map (λ xs. d ∷ xs) o) rest

-- the documents of a range are those that its blocks tell
pub range-again : (told : Option Files) (kept : Kept) (docs : List Document) (range : ℕ) → IsBacked told kept docs
    → documents_of kept.dictionary (of_range range kept.outlines) (rows_of kept.dictionary (ranks_of range kept.dictionary) (of_range range docs)) ≡ Some (of_range range docs)
range-again told kept docs range b =
    let laid = backed-laid told kept docs b in
    let ks = ranks_of range kept.dictionary in
    let ds = of_range range docs in
    let size = length-take 64 (drop (64 * range) docs) in
    let left = length-drop (64 * range) docs in
    ap (λ (os : List Entry). documents_of kept.dictionary (of_range range os) (rows_of kept.dictionary ks ds)) laid.outlines
    ∙ ap (λ (os : List Entry). documents_of kept.dictionary os (rows_of kept.dictionary ks ds)) (map-range range docs)
    ∙ documents-again kept.dictionary ks ds (λ k h.
    let low : k < 64 = omega (arith, h, size) in
    let within : 64 * range + k < length docs = omega (arith, h, size, left) in
    let at : document_at ds k ≡ document_at docs (64 * range + k) =
    ap (document_at ds) (omega arith) ∙ document_at-range (64 * range) (64 * range + k) docs (omega arith) (omega (arith, low)) in
    let own : (64 * range + k) / 64 ≡ range = omega (arith, low) in
    subst (λ (d : Document). all_terms kept.dictionary (map (rank_in kept.dictionary ks) d.tokens) ≡ Some d.tokens) (sym at)
    (tokens-again (put_of b.has.files kept.number) kept docs laid range (64 * range + k) within own))

-- ---- what holds whatever is told

set-lengths : (rows : List Slots) (n : ℕ) (s : Slots) → length s ≡ length (get_or rows n []) → lengths (set rows n s) ≡ lengths rows
set-lengths [] n s is = refl
set-lengths (r ∷ rs) zero s is = ap (λ k. k ∷ lengths rs) is
set-lengths (r ∷ rs) (suc n) s is = ap (λ (l : List ℕ). length r ∷ l) (set-lengths rs n s is)

places-length : (at rank : ℕ) (ps : List ℕ) (slots out : Slots) → put_places at rank ps slots ≡ Ok out → length out ≡ length slots
places-length at rank [] slots out e = ap (λ (l : Slots). length l) (sym (ok_is slots out e))
places-length at rank (p ∷ ps) slots out e = by (is_free slots p) e (places-length (behind at 4) rank ps (set slots p (Some rank)) out)
  where
    by : (b : Bool) → cond b (put_places (behind at 4) rank ps (set slots p (Some rank))) (Err at) ≡ Ok out → (put_places (behind at 4) rank ps (set slots p (Some rank)) ≡ Ok out → length out ≡ length (set slots p (Some rank))) → length out ≡ length slots
    by true e rest = rest e ∙ length-set slots p (Some rank)
    by false e rest = absurd cc

entry-lengths : (at rank : ℕ) (e : BlockEntry) (rows out : List Slots) → put_entry at rank e rows ≡ Ok out → lengths out ≡ lengths rows
entry-lengths at rank e rows out h = by (ltb (e.id % 64) (length rows)) h
  where
    own : (o : Result Slots ℕ) → put_places at rank e.positions (get_or rows (e.id % 64) []) ≡ o → then_put (λ (s : Slots). Ok (set rows (e.id % 64) s)) o ≡ Ok out → lengths out ≡ lengths rows
    own (Err n) is h = absurd cc
    own (Ok s) is h =
        ap lengths (sym (ok_is (set rows (e.id % 64) s) out h)) ∙ set-lengths rows (e.id % 64) s (places-length at rank e.positions (get_or rows (e.id % 64) []) s is)

    by : (b : Bool) → cond b (then_put (λ (s : Slots). Ok (set rows (e.id % 64) s)) (put_places at rank e.positions (get_or rows (e.id % 64) []))) (Err at) ≡ Ok out → lengths out ≡ lengths rows
    by false h = absurd cc
    by true h = own (put_places at rank e.positions (get_or rows (e.id % 64) [])) refl h

-- telling a rank leaves each row as long as it was
pub entries-lengths : (at rank : ℕ) (es : List BlockEntry) (rows out : List Slots) → put_entries at rank es rows ≡ Ok out → lengths out ≡ lengths rows
entries-lengths at rank [] rows out h = ap lengths (sym (ok_is rows out h))
entries-lengths at rank (e ∷ es) rows out h =
    let next = behind (behind at 5) (4 * length e.positions) in
    by next (put_entry (behind at 5) rank e rows) refl h (λ mid. entries-lengths next rank es mid out)
  where
    by : (next : ℕ) (o : Result (List Slots) ℕ) → put_entry (behind at 5) rank e rows ≡ o → then_put (put_entries next rank es) o ≡ Ok out
        → ((mid : List Slots) → put_entries next rank es mid ≡ Ok out → lengths out ≡ lengths mid) → lengths out ≡ lengths rows
    by next (Err n) is h rest = absurd cc
    by next (Ok mid) is h rest = rest mid h ∙ entry-lengths (behind at 5) rank e rows mid is

pub terms-length : (dictionary : List TermBlocks) (slots : Slots) (ts : List (List ℕ)) → all_terms dictionary slots ≡ Some ts → length ts ≡ length slots
terms-length dictionary [] ts e = ap (λ (l : List (List ℕ)). length l) (sym (same_Some [] ts e))
terms-length dictionary (s ∷ ss) ts e = by (term_in dictionary s) (all_terms dictionary ss) refl e (terms-length dictionary ss)
  where
    by : (o : Option (List ℕ)) (r : Option (List (List ℕ))) → all_terms dictionary ss ≡ r → option_and_then (λ t. option_map (λ xs. t ∷ xs) r) o ≡ Some ts
        → ((xs : List (List ℕ)) → all_terms dictionary ss ≡ Some xs → length xs ≡ length ss) → length ts ≡ suc (length ss)
    by None r q e rest = absurd cc
    by (Some t) None q e rest = absurd cc
    by (Some t) (Some xs) q e rest = ap (λ (l : List (List ℕ)). length l) (sym (same_Some (t ∷ xs) ts e)) ∙ ap suc (rest xs q)

-- documents without their tokens are their outlines
pub documents-outlines : (dictionary : List TermBlocks) (os : List Entry) (rows : List Slots) (ds : List Document) → lengths rows ≡ lengths_of os → documents_of dictionary os rows ≡ Some ds → map entry_of ds ≡ os
documents-outlines dictionary [] rows ds shape e = ap (λ (l : List Document). map entry_of l) (sym (same_Some [] ds e))
documents-outlines dictionary (o ∷ os) [] ds shape e = absurd cc
documents-outlines dictionary (o ∷ os) (r ∷ rs) ds shape e = by (all_terms dictionary r) (documents_of dictionary os rs) refl refl e (documents-outlines dictionary os rs)
  where
    by : (t : Option (List (List ℕ))) (q : Option (List Document)) → all_terms dictionary r ≡ t → documents_of dictionary os rs ≡ q
        → option_and_then (λ d. option_map (λ xs. d ∷ xs) q) (option_map (λ ts. record { docno = o.docno; tokens = ts; fields = o.fields }) t) ≡ Some ds
        → ((xs : List Document) → lengths rs ≡ lengths_of os → documents_of dictionary os rs ≡ Some xs → map entry_of xs ≡ os) → map entry_of ds ≡ o ∷ os
    by None q a b e again = absurd cc
    by (Some ts) None a b e again = absurd cc
    by (Some ts) (Some xs) a b e again =
        let d : Document = record { docno = o.docno; tokens = ts; fields = o.fields } in
        let first : length r ≡ o.tokens = cc in
        let rest : lengths rs ≡ lengths_of os = cc in
        let size : length ts ≡ o.tokens = terms-length dictionary r ts a ∙ first in
        ap (λ (l : List Document). map entry_of l) (sym (same_Some (d ∷ xs) ds e)) ∙ ap (λ n. record { docno = o.docno; tokens = n; fields = o.fields } ∷ map entry_of xs) size
        ∙ ap (λ (l : List Entry). o ∷ l) (again xs rest b)

pub All-range : {X : Type 0} (P : X → Type 0) (range : ℕ) (xs : List X) → All P xs → All P (of_range range xs)
All-range P range xs all = All-take P 64 (drop (64 * range) xs) (All-drop P (64 * range) xs all)

-- ---- the loops

pub places-step : (at rank : ℕ) (ps : List ℕ) (i p : ℕ) (slots new : Slots) (total : Result Slots ℕ) → i < length ps → p ≡ get_or ps i 0 → is_free slots p ≡ true → new ≡ set slots p (Some rank)
    → put_places at rank (drop i ps) slots ≡ total → put_places (behind at 4) rank (drop (i + 1) ps) new ≡ total
places-step at rank ps i p slots new total h is free put so_far =
    let rest : Slots → Result Slots ℕ = put_places (behind at 4) rank (drop (i + 1) ps) in
    let step : put_places at rank (drop i ps) slots ≡ cond (is_free slots p) (rest (set slots p (Some rank))) (Err at) =
    at_drop_more (λ (l : List ℕ). put_places at rank l slots) ps i 0 h ∙ ap (λ n. cond (is_free slots n) (rest (set slots n (Some rank))) (Err at)) (sym is) in
    ap rest put ∙ sym (step ∙ ap (λ b. cond b (rest (set slots p (Some rank))) (Err at)) free) ∙ so_far

pub places-stop : (at rank : ℕ) (ps : List ℕ) (i p : ℕ) (slots : Slots) (total : Result Slots ℕ) → i < length ps → p ≡ get_or ps i 0 → is_free slots p ≡ false → put_places at rank (drop i ps) slots ≡ total
    → total ≡ Err at
places-stop at rank ps i p slots total h is taken so_far =
    let rest : Slots → Result Slots ℕ = put_places (behind at 4) rank (drop (i + 1) ps) in
    let step : put_places at rank (drop i ps) slots ≡ cond (is_free slots p) (rest (set slots p (Some rank))) (Err at) =
    at_drop_more (λ (l : List ℕ). put_places at rank l slots) ps i 0 h ∙ ap (λ n. cond (is_free slots n) (rest (set slots n (Some rank))) (Err at)) (sym is) in
    sym so_far ∙ step ∙ ap (λ b. cond b (rest (set slots p (Some rank))) (Err at)) taken

pub places-end : (at rank : ℕ) (ps : List ℕ) (i : ℕ) (slots : Slots) (total : Result Slots ℕ) → length ps ≤ i → put_places at rank (drop i ps) slots ≡ total → total ≡ Ok slots
places-end at rank ps i slots total h so_far = sym so_far ∙ at_drop_all (λ (l : List ℕ). put_places at rank l slots) ps i h

-- whether a place is free, by the length of the slots
pub free-inside : (slots : Slots) (at : ℕ) (s : Option ℕ) → at < length slots → s ≡ get_or slots at s → is_none s ≡ is_free slots at
free-inside [] at s h is = absurd (omega arith)
free-inside (x ∷ xs) zero s h is = ap (λ (o : Option ℕ). is_none o) is
free-inside (x ∷ xs) (suc at) s h is = free-inside xs at s (omega arith) is

pub free-past : (slots : Slots) (at : ℕ) → length slots ≤ at → is_free slots at ≡ false
free-past [] at h = refl
free-past (x ∷ xs) zero h = absurd (omega arith)
free-past (x ∷ xs) (suc at) h = free-past xs at (omega arith)

pub free-below : (slots : Slots) (at : ℕ) → is_free slots at ≡ true → at < length slots
free-below [] at h = absurd cc
free-below (x ∷ xs) zero h = omega arith
free-below (x ∷ xs) (suc at) h = let rest = free-below xs at h in omega (arith, rest)

-- what is told of an entry whose row is there
entry-there : (at rank : ℕ) (e : BlockEntry) (rows : List Slots) (row : ℕ) (s : Slots) (put : Result Slots ℕ) → row ≡ e.id % 64 → row < length rows → s ≡ get_or rows row s → put_places at rank e.positions s ≡ put
    → put_entry at rank e rows ≡ then_put (λ (x : Slots). Ok (set rows row x)) put
entry-there at rank e rows row s put is inside own told =
    let all : ℕ → Result (List Slots) ℕ = λ n. then_put (λ (x : Slots). Ok (set rows n x)) (put_places at rank e.positions (get_or rows n [])) in
    let here : get_or rows row [] ≡ s = get_or_default rows row [] s inside ∙ sym own in
    ap (λ n. cond (ltb n (length rows)) (all n) (Err at)) (sym is) ∙ ap (λ c. cond c (all row) (Err at)) (lt-ltb row (length rows) inside)
    ∙ ap (λ (r : Slots). then_put (λ (x : Slots). Ok (set rows row x)) (put_places at rank e.positions r)) here ∙ ap (λ (o : Result Slots ℕ). then_put (λ (x : Slots). Ok (set rows row x)) o) told

pub entry-step : (at rank : ℕ) (e : BlockEntry) (rows : List Slots) (row : ℕ) (s new : Slots) → row ≡ e.id % 64 → row < length rows → s ≡ get_or rows row s → put_places at rank e.positions s ≡ Ok new
    → put_entry at rank e rows ≡ Ok (set rows row new)
entry-step at rank e rows row s new is inside own put = entry-there at rank e rows row s (Ok new) is inside own put

pub entry-stop : (at rank : ℕ) (e : BlockEntry) (rows : List Slots) (row : ℕ) (s : Slots) (place : ℕ) → row ≡ e.id % 64 → row < length rows → s ≡ get_or rows row s → put_places at rank e.positions s ≡ Err place
    → put_entry at rank e rows ≡ Err place
entry-stop at rank e rows row s place is inside own put = entry-there at rank e rows row s (Err place) is inside own put

pub entry-past : (at rank : ℕ) (e : BlockEntry) (rows : List Slots) → length rows ≤ e.id % 64 → put_entry at rank e rows ≡ Err at
entry-past at rank e rows h =
    ap (λ b. cond b (then_put (λ (x : Slots). Ok (set rows (e.id % 64) x)) (put_places at rank e.positions (get_or rows (e.id % 64) []))) (Err at)) (le-ltb (e.id % 64) (length rows) h)

pub entries-step : (at next rank : ℕ) (es : List BlockEntry) (i : ℕ) (e : BlockEntry) (rows : List Slots) (out total : Result (List Slots) ℕ) → i < length es → e ≡ get_or es i e
    → next ≡ behind (behind at 5) (4 * length e.positions) → put_entry (behind at 5) rank e rows ≡ out → put_entries at rank (drop i es) rows ≡ total → then_put (put_entries next rank (drop (i + 1) es)) out ≡ total
entries-step at next rank es i e rows out total h is on put so_far =
    let rest : ℕ → Result (List Slots) ℕ → Result (List Slots) ℕ = λ n o. then_put (put_entries n rank (drop (i + 1) es)) o in
    let step : put_entries at rank (drop i es) rows ≡ rest (behind (behind at 5) (4 * length e.positions)) (put_entry (behind at 5) rank e rows) =
    at_drop_more (λ (l : List BlockEntry). put_entries at rank l rows) es i e h
    ∙ ap (λ (x : BlockEntry). rest (behind (behind at 5) (4 * length x.positions)) (put_entry (behind at 5) rank x rows)) (sym is) in
    ap (λ n. rest n out) on ∙ sym (step ∙ ap (rest (behind (behind at 5) (4 * length e.positions))) put) ∙ so_far

-- so many places of four bytes each, counted by parts that stop at the greatest number
pub behind-places : (at four five n next : ℕ) → five ≡ min (at + 5) (2 ^ 64 - 1) → four ≡ min (n * 4) (2 ^ 64 - 1) → next ≡ min (five + four) (2 ^ 64 - 1) → next ≡ behind (behind at 5) (4 * n)
behind-places at four five n next a b c = omega (arith, a, b, c)

pub entries-end : (at rank : ℕ) (es : List BlockEntry) (i : ℕ) (rows : List Slots) (total : Result (List Slots) ℕ) → length es ≤ i → put_entries at rank (drop i es) rows ≡ total → total ≡ Ok rows
entries-end at rank es i rows total h so_far = sym so_far ∙ at_drop_all (λ (l : List BlockEntry). put_entries at rank l rows) es i h

-- as many rows as outlines, each as long as its document
pub rows-many : (os : List Entry) (rows : List Slots) → lengths rows ≡ lengths_of os → length rows ≡ length os
rows-many os rows shape = sym (length-map rows (λ (r : Slots). length r)) ∙ ap (λ (l : List ℕ). length l) shape ∙ length-map os (λ (o : Entry). o.tokens)

pub rows-size : (os : List Entry) (rows : List Slots) (i : ℕ) (o : Entry) (r : Slots) → lengths rows ≡ lengths_of os → i < length os → o ≡ get_or os i o → r ≡ get_or rows i r → length r ≡ o.tokens
rows-size os rows i o r shape inside outline row =
    let many = rows-many os rows shape in
    ap (λ (l : Slots). length l) row ∙ sym (get_or-map (λ (l : Slots). length l) rows i r 0 (omega (arith, many, inside))) ∙ ap (λ (l : List ℕ). get_or l i 0) shape ∙ get_or-map (λ (e : Entry). e.tokens) os i o 0 inside
    ∙ ap (λ (e : Entry). e.tokens) (sym outline)

terms-regroup : (front : List (List ℕ)) (t : List ℕ) (r : Option (List (List ℕ))) → option_map (λ (ts : List (List ℕ)). front ++ ts) (option_map (λ ts. t ∷ ts) r) ≡ option_map (λ (ts : List (List ℕ)). (front ++ t ∷ []) ++ ts) r
terms-regroup front t None = refl
terms-regroup front t (Some ts) = ap Some (sym (append_assoc front (t ∷ []) ts))

pub terms-step : (dictionary : List TermBlocks) (ss : Slots) (i : ℕ) (front : List (List ℕ)) (t : List ℕ) (total : Option (List (List ℕ))) → i < length ss → term_in dictionary (get_or ss i None) ≡ Some t
    → option_map (λ ts. front ++ ts) (all_terms dictionary (drop i ss)) ≡ total → option_map (λ ts. (front ++ t ∷ []) ++ ts) (all_terms dictionary (drop (i + 1) ss)) ≡ total
terms-step dictionary ss i front t total h is so_far =
    let rest = all_terms dictionary (drop (i + 1) ss) in
    let step : all_terms dictionary (drop i ss) ≡ option_map (λ ts. t ∷ ts) rest =
    at_drop_more (all_terms dictionary) ss i None h ∙ ap (λ (o : Option (List ℕ)). option_and_then (λ t. option_map (λ ts. t ∷ ts) rest) o) is in
    sym (ap (λ (o : Option (List (List ℕ))). option_map (λ (ts : List (List ℕ)). front ++ ts) o) step ∙ terms-regroup front t rest) ∙ so_far

pub terms-stop : (dictionary : List TermBlocks) (ss : Slots) (i : ℕ) (front : List (List ℕ)) (total : Option (List (List ℕ))) → i < length ss → term_in dictionary (get_or ss i None) ≡ None
    → option_map (λ ts. front ++ ts) (all_terms dictionary (drop i ss)) ≡ total → total ≡ None
terms-stop dictionary ss i front total h is so_far =
    let rest = all_terms dictionary (drop (i + 1) ss) in
    let step : all_terms dictionary (drop i ss) ≡ None =
    at_drop_more (all_terms dictionary) ss i None h ∙ ap (λ (o : Option (List ℕ)). option_and_then (λ t. option_map (λ ts. t ∷ ts) rest) o) is in
    sym so_far ∙ ap (λ (o : Option (List (List ℕ))). option_map (λ (ts : List (List ℕ)). front ++ ts) o) step

pub terms-end : (dictionary : List TermBlocks) (ss : Slots) (i : ℕ) (front : List (List ℕ)) (total : Option (List (List ℕ))) → length ss ≤ i → option_map (λ ts. front ++ ts) (all_terms dictionary (drop i ss)) ≡ total → total ≡ Some front
terms-end dictionary ss i front total h so_far =
    sym so_far ∙ ap (λ (o : Option (List (List ℕ))). option_map (λ (ts : List (List ℕ)). front ++ ts) o) (at_drop_all (all_terms dictionary) ss i h) ∙ ap Some (append-nil front)

docs-regroup : (front : List Document) (d : Document) (r : Option (List Document)) → option_map (λ (ds : List Document). front ++ ds) (option_map (λ ds. d ∷ ds) r) ≡ option_map (λ (ds : List Document). (front ++ d ∷ []) ++ ds) r
docs-regroup front d None = refl
docs-regroup front d (Some ds) = ap Some (sym (append_assoc front (d ∷ []) ds))

-- documents so far with those of the rest
abbrev pub all-documents : List TermBlocks → List Entry → List Slots → ℕ → List Document → Option (List Document)
all-documents dictionary os rs i front = option_map (λ (ds : List Document). front ++ ds) (documents_of dictionary (drop i os) (drop i rs))

module _ (dictionary : List TermBlocks) (os : List Entry) (rs : List Slots) (i : ℕ) (front : List Document) (total : Option (List Document)) where
  module _ (o : Entry) (r : Slots) (inside : i < length os) (under : i < length rs) (outline : o ≡ get_or os i o) (row : r ≡ get_or rs i r) (so_far : all-documents dictionary os rs i front ≡ total) where
    abbrev rest : Option (List Document)
    rest = documents_of dictionary (drop (i + 1) os) (drop (i + 1) rs)

    one-more : documents_of dictionary (drop i os) (drop i rs) ≡ option_and_then (λ d. option_map (λ ds. d ∷ ds) rest) (document_of dictionary o r)
    one-more =
        at_drop_more (λ (l : List Entry). documents_of dictionary l (drop i rs)) os i o inside ∙ at_drop_more (λ (l : List Slots). documents_of dictionary (get_or os i o ∷ drop (i + 1) os) l) rs i r under
        ∙ ap (λ (x : Entry). documents_of dictionary (x ∷ drop (i + 1) os) (get_or rs i r ∷ drop (i + 1) rs)) (sym outline)
        ∙ ap (λ (x : Slots). documents_of dictionary (o ∷ drop (i + 1) os) (x ∷ drop (i + 1) rs)) (sym row)

    pub docs-step : (d : Document) → document_of dictionary o r ≡ Some d → all-documents dictionary os rs (i + 1) (front ++ d ∷ []) ≡ total
    docs-step d made =
        sym (ap (λ (x : Option (List Document)). option_map (λ (ds : List Document). front ++ ds) x)
        (one-more ∙ ap (λ (x : Option Document). option_and_then (λ d. option_map (λ ds. d ∷ ds) rest) x) made) ∙ docs-regroup front d rest) ∙ so_far

    pub docs-stop : document_of dictionary o r ≡ None → total ≡ None
    docs-stop none =
        sym so_far ∙ ap (λ (x : Option (List Document)). option_map (λ (ds : List Document). front ++ ds) x)
        (one-more ∙ ap (λ (x : Option Document). option_and_then (λ d. option_map (λ ds. d ∷ ds) rest) x) none)

  pub docs-end : length os ≤ i → all-documents dictionary os rs i front ≡ total → total ≡ Some front
  docs-end end so_far =
      sym so_far ∙ ap (λ (x : Option (List Document)). option_map (λ (ds : List Document). front ++ ds) x) (at_drop_all (λ (l : List Entry). documents_of dictionary l (drop i rs)) os i end) ∙ ap Some (append-nil front)
