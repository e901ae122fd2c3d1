-- What the counts tell of a leaf is what the definition says of the documents, though terms aren't counted that no leaf needs.
use Rattle.std.proofs.Common.{◌≡◌, ◌<◌, ◌≤◌, ◌⊎◌, inl, inr, ℕ, zero, suc, Bool, true, false, ◌&&◌, cond, nat_lt, List, [], ◌∷◌, ◌++◌, length, map, flat_map, get_or, Some, None, refl, sym, ap, subst, ◌∙◌, arith, ⊎_elim}
use Rattle.std.specs.Prelude.{All, Contains}
use Rattle.std.specs.List.{AllZip, position_or_len}
use Rattle.std.specs.Option.{option_map_or}
use Rattle.std.specs.Str.{bytes_eq}
use Rattle.std.proofs.lemmas.Bool.{both_ways, cases_lt, lt-ltb, ltb-true}
use Rattle.std.proofs.lemmas.List.{get_or-map, get_or_default}
use Rattle.std.proofs.lemmas.List.Concat.{flat_map-cons}
use Rattle.std.proofs.lemmas.List.Elements.{All-cons, All-head, All-nil, All-tail}
use Rattle.std.proofs.lemmas.List.Sums.{fails_before_first, passes_at_first}
use Rattle.std.proofs.lemmas.Slice.Eq.{bytes_eq-Decides}
use Rattle.ri_base.specs.Documents.{Document}
use Rattle.ri_base.specs.Expression.{ExprTree, ExprTrees, word, ordered, unordered, syn, any, band, in_field, none, more}
use Rattle.query_check.specs.Leaves.{LeafTree, extents, prior}
use Rattle.expression_words.specs.Words.{all_asked_by, all_names as all_field_names, all_words, asked_by, names as field_names, words}
use Rattle.range_bounds.specs.Most.{capped, each_occurs, most, most_by, most_of_first, total_most}
use Rattle.range_bounds.specs.Ranges.{most_begins, most_places}
use Rattle.range_bounds.specs.Tables.{TellsLeaf, told, told_by}
use Rattle.range_bounds.specs.declared.range_counts.RangeCounts.{RangeCounts}
use Rattle.range_tables.specs.Asks.{AskFor, leaf_names, leaf_words}
use Rattle.range_tables.specs.Needs.{IsIdle, IsTermCount, most_of}

-- ---- both parts of a list

module _ (P : List ℕ → Type 0) where
  all_behind : (xs ys : List (List ℕ)) → All P (xs ++ ys) → All P ys
  all_behind [] ys h = h
  all_behind (x ∷ xs) ys h = all_behind xs ys (All-tail P x (xs ++ ys) h)

  all_front : (xs ys : List (List ℕ)) → All P (xs ++ ys) → All P xs
  all_front [] ys h = All-nil P
  all_front (x ∷ xs) ys h = All-cons P x xs (All-head P x (xs ++ ys) h) (all_front xs ys (All-tail P x (xs ++ ys) h))

-- ---- counts that are at most others tell no more

both_true : (b c : Bool) → b && c ≡ true → (b ≡ true) × (c ≡ true)
both_true true c h = (refl, h)
both_true false c h = absurd (both_ways false refl h)

cond_le : (b c : Bool) (m n : ℕ) → (b ≡ true → c ≡ true) → m ≤ n → cond b m 0 ≤ cond c n 0
cond_le false c m n h le = omega arith
cond_le true c m n h le = subst (λ d. m ≤ cond d n 0) (sym (h refl)) le

module _ (terms names terms' names' : List ℕ → ℕ) where
  abbrev Fewer : List ℕ → Type 0
  Fewer t = capped (terms t) ≤ capped (terms' t)

  abbrev FewerNamed : List ℕ → Type 0
  FewerNamed f = capped (names f) ≤ capped (names' f)

  mutual
    unfolding most_by each_occurs most_of_first total_most asked_by all_asked_by

    pub fewer_most : (x : ExprTree) → All Fewer (words x) → All FewerNamed (field_names x) → most_by terms names x ≤ most_by terms' names' x
    fewer_most (word t) h k = All-head Fewer t [] h
    fewer_most (ordered n xs) h k = cond_le (each_occurs terms names xs) (each_occurs terms' names' xs) (most_of_first terms names xs) (most_of_first terms' names' xs) (fewer_each xs h k) (fewer_first xs h k)
    fewer_most (unordered n xs) h k =
        cond_le (each_occurs terms names xs) (each_occurs terms' names' xs) (capped (total_most terms names xs)) (capped (total_most terms' names' xs)) (fewer_each xs h k) (omega (arith, fewer_total xs h k))
    fewer_most (syn xs) h k = omega (arith, fewer_total xs h k)
    fewer_most (any f) h k = All-head FewerNamed f [] k
    fewer_most (band xs) h k = cond_le (each_occurs terms names xs) (each_occurs terms' names' xs) 1 1 (fewer_each xs h k) (omega arith)
    fewer_most (in_field x f) h k = fewer_most x h k

    fewer_each : (xs : ExprTrees) → All Fewer (all_words xs) → All FewerNamed (all_field_names xs) → each_occurs terms names xs ≡ true → each_occurs terms' names' xs ≡ true
    fewer_each none h k e = refl
    fewer_each (more x xs) h k e =
        let both = both_true (nat_lt 0 (most_by terms names x)) (each_occurs terms names xs) e in
        let le = fewer_most x (all_front Fewer (words x) (all_words xs) h) (all_front FewerNamed (field_names x) (all_field_names xs) k) in
        let some : 0 < most_by terms' names' x = omega (arith, le, ltb-true 0 (most_by terms names x) both.0) in
        ap (λ b. b && each_occurs terms' names' xs) (lt-ltb 0 (most_by terms' names' x) some)
        ∙ fewer_each xs (all_behind Fewer (words x) (all_words xs) h) (all_behind FewerNamed (field_names x) (all_field_names xs) k) both.1

    fewer_first : (xs : ExprTrees) → All Fewer (all_words xs) → All FewerNamed (all_field_names xs) → most_of_first terms names xs ≤ most_of_first terms' names' xs
    fewer_first none h k = omega arith
    fewer_first (more x xs) h k = fewer_most x (all_front Fewer (words x) (all_words xs) h) (all_front FewerNamed (field_names x) (all_field_names xs) k)

    fewer_total : (xs : ExprTrees) → All Fewer (all_words xs) → All FewerNamed (all_field_names xs) → total_most terms names xs ≤ total_most terms' names' xs
    fewer_total none h k = omega arith
    fewer_total (more x xs) h k =
        let here = fewer_most x (all_front Fewer (words x) (all_words xs) h) (all_front FewerNamed (field_names x) (all_field_names xs) k) in
        let rest = fewer_total xs (all_behind Fewer (words x) (all_words xs) h) (all_behind FewerNamed (field_names x) (all_field_names xs) k) in
        omega (arith, here, rest)

-- ---- the number at a text's place

place_inside : (texts : List (List ℕ)) (t : List ℕ) → Contains texts t → position_or_len (bytes_eq t) texts < length texts
place_inside texts t c = ⊎_elim (λ h. h)
    (λ (out : length texts ≤ position_or_len (bytes_eq t) texts).
    let fails = fails_before_first (bytes_eq t) texts c.0 t (omega (arith, out, c.1)) in
    absurd (both_ways _ fails ((bytes_eq-Decides t (get_or texts c.0 t)).1 (sym c.2))))
    (cases_lt (position_or_len (bytes_eq t) texts) (length texts))

place_told : (texts : List (List ℕ)) (g : List ℕ → ℕ) (t : List ℕ) → Contains texts t → told texts (map g texts) t ≡ g t
place_told texts g t c =
    let n = position_or_len (bytes_eq t) texts in
    let inside = place_inside texts t c in
    let here : t ≡ get_or texts n [] = (bytes_eq-Decides t (get_or texts n [])).0 (passes_at_first (bytes_eq t) texts [] inside) in
    ap (λ b. option_map_or (λ i. get_or (map g texts) i 0) (cond b (Some n) None) 0) (lt-ltb n (length texts) inside)
    ∙ get_or-map g texts n [] 0 inside ∙ ap g (sym here)

zip_at : {X Y : Type 0} (R : X → Y → Type 0) (xs : List X) (ys : List Y) (n : ℕ) (d : X) (e : Y) → AllZip R xs ys → n < length xs → R (get_or xs n d) (get_or ys n e)
zip_at R [] ys n d e h inside = absurd (omega (arith, inside))
zip_at R (x ∷ xs) [] n d e h inside = absurd h
zip_at R (x ∷ xs) (y ∷ ys) zero d e h inside = h.0
zip_at R (x ∷ xs) (y ∷ ys) (suc n) d e h inside = zip_at R xs ys n d e h.1 (omega (arith, inside))

-- what holds of each text and its number
place_holds : (R : List ℕ → ℕ → Type 0) (texts : List (List ℕ)) (numbers : List ℕ) (t : List ℕ) → AllZip R texts numbers → Contains texts t → R t (told texts numbers t)
place_holds R texts numbers t h c =
    let n = position_or_len (bytes_eq t) texts in
    let inside = place_inside texts t c in
    let here : t ≡ get_or texts n [] = (bytes_eq-Decides t (get_or texts n [])).0 (passes_at_first (bytes_eq t) texts [] inside) in
    let at : told texts numbers t ≡ get_or numbers n 0 = ap (λ b. option_map_or (λ i. get_or numbers i 0) (cond b (Some n) None) 0) (lt-ltb n (length texts) inside) in
    subst (λ m. R t m) (sym at) (subst (λ u. R u (get_or numbers n 0)) (sym here) (zip_at R texts numbers n [] 0 h inside))

-- ---- leaves

-- each text of a list stands in it
all_own : (ts : List (List ℕ)) → All (Contains ts) ts
all_own ts k d inside = (k, inside, sym (get_or_default ts k d (get_or ts k d) inside))

each_piece : (P : List ℕ → Type 0) (f : LeafTree → List (List ℕ)) (ls : List LeafTree) → All P (flat_map f ls) → All (λ l. All P (f l)) ls
each_piece P f [] h = All-nil (λ l. All P (f l))
each_piece P f (l ∷ ls) h =
    let both : All P (f l ++ flat_map f ls) = subst (All P) (flat_map-cons f l ls) h in
    All-cons (λ m. All P (f m)) l ls (all_front P (f l) (flat_map f ls) both) (each_piece P f ls (all_behind P (f l) (flat_map f ls) both))

module _ (leaves : List LeafTree) (terms names : List (List ℕ)) (docs : List Document) (counts : RangeCounts)
    (placed : AllZip (IsTermCount leaves docs) terms counts.places.items) (begun : counts.begins.items ≡ map (λ f. capped (most_begins docs f)) names) where
  abbrev term_told : List ℕ → ℕ
  term_told t = told terms counts.places.items t

  abbrev name_told : List ℕ → ℕ
  name_told f = told names counts.begins.items f

  abbrev IsExact : List ℕ → Type 0
  IsExact t = term_told t ≡ capped (most_places docs t)

  name_is : (f : List ℕ) → Contains names f → name_told f ≡ capped (most_begins docs f)
  name_is f c = ap (λ ns. told names ns f) begun ∙ place_told names (λ q. capped (most_begins docs q)) f c

  -- of an expression that a leaf has each term is counted, or it doesn't occur
  exact_or_idle : (x : ExprTree) (c : _) (ts : List (List ℕ)) → Contains leaves (extents x c) → All (Contains terms) ts → All (Contains (words x)) ts → All IsExact ts ⊎ (most docs x ≡ 0)
  exact_or_idle x c [] own among stand = inl (All-nil IsExact)
  exact_or_idle x c (t ∷ ts) own among stand = ⊎_elim
      (λ (exact : IsExact t). ⊎_elim
      (λ (rest : All IsExact ts). inl (All-cons IsExact t ts exact rest))
      (λ idle. inr idle)
      (exact_or_idle x c ts own (All-tail (Contains terms) t ts among) (All-tail (Contains (words x)) t ts stand)))
      (λ (idle : (term_told t ≡ 0) × IsIdle leaves docs t).
      let none : most_of docs (extents x c) ≡ 0 = member idle.1 (All-head (Contains (words x)) t ts stand) in
      inr none)
      (place_holds (IsTermCount leaves docs) terms counts.places.items t placed (All-head (Contains terms) t ts among))
    where
      member : IsIdle leaves docs t → Contains (words x) t → most_of docs (extents x c) ≡ 0
      member h stands = subst (λ l. Contains (leaf_words l) t → most_of docs l ≡ 0) own.2 (h own.0 (extents x c) own.1) stands

  -- no term is told to have more places than it has
  no_more : (t : List ℕ) → Contains terms t → capped (term_told t) ≤ capped (most_places docs t)
  no_more t c = ⊎_elim (λ exact. omega (arith, exact)) (λ idle. let zero_told = idle.0 in omega (arith, zero_told)) (place_holds (IsTermCount leaves docs) terms counts.places.items t placed c)

  tells : (x : ExprTree) (c : _) → Contains leaves (extents x c) → All (Contains terms) (words x) → All (Contains names) (field_names x) → told_by terms names counts x ≡ most docs x
  tells x c own among named =
      let upper : told_by terms names counts x ≤ most docs x =
      fewer_most term_told name_told (most_places docs) (most_begins docs) x
      (λ k d inside. no_more (get_or (words x) k d) (among k d inside))
      (λ k d inside. let is = name_is (get_or (field_names x) k d) (named k d inside) in omega (arith, is)) in
      ⊎_elim
      (λ (exact : All IsExact (words x)).
      let lower : most docs x ≤ told_by terms names counts x =
      fewer_most (most_places docs) (most_begins docs) term_told name_told x
      (λ k d inside. let is = exact k d inside in omega (arith, is))
      (λ k d inside. let is = name_is (get_or (field_names x) k d) (named k d inside) in omega (arith, is)) in
      omega (arith, upper, lower))
      (λ (idle : most docs x ≡ 0). omega (arith, upper, idle))
      (exact_or_idle x c (words x) own among (all_own (words x)))

  tells_leaf : (l : LeafTree) → Contains leaves l → All (Contains terms) (leaf_words l) → All (Contains names) (leaf_names l) → TellsLeaf terms names docs counts l
  tells_leaf (extents x c) own among named = tells x c own among named
  tells_leaf (prior n) own among named = tt

  pub tell_all : AskFor terms names leaves → All (TellsLeaf terms names docs counts) leaves
  tell_all asked k d inside =
      tells_leaf (get_or leaves k d) (k, inside, sym (get_or_default leaves k d (get_or leaves k d) inside))
      (each_piece (Contains terms) leaf_words leaves asked.words k d inside) (each_piece (Contains names) leaf_names leaves asked.names k d inside)
