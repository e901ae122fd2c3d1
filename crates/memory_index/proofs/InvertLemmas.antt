-- lists by rank are the postings of the terms
use Rattle.std.proofs.Common.{◌≡◌, ◌≢◌, ◌<◌, ◌≤◌, ◌⊎◌, ℕ, ◌+◌, List, [], ◌∷◌, ◌++◌, length, map, get_or, Bool, true, false, cond, ◌==◌, refl, sym, ap, subst, ◌∙◌, inl, inr, arith}
use Rattle.std.specs.Cmp.Lexicographic.{slice_cmp}
use Rattle.std.specs.List.{All, Contains}
use Rattle.std.specs.Ordering.{nat_cmp}
use Rattle.std.specs.Str.{bytes_eq}
use Rattle.std.specs.declared.cmp.Ordering.TheVariants.{Less, Equal}
use Rattle.std.proofs.Math.Dec.{eqb}
use Rattle.std.proofs.lemmas.Bool.Decides.{eqb_tells}
use Rattle.std.proofs.lemmas.Cmp.{nat_list_cmp_total, tied_itself}
use Rattle.std.proofs.lemmas.List.{get_or-map, ext_get_or, length-map}
use Rattle.std.proofs.lemmas.List.Elements.{All-nil, All-cons, All-head, All-tail, All-weaker, All-map, All-contains, All-get_or, Contains-get_or}
use Rattle.std.proofs.lemmas.List.Sums.{sum_by-append}
use Rattle.std.proofs.lemmas.Slice.Eq.{bytes_eq-Decides}
use Rattle.ri_base.specs.Collection.{token_count}
use Rattle.ri_base.specs.Documents.{Document, IsDocument}
use Rattle.ri_base.specs.Inversion.{AreNumbers, IsInversion, StandForDocuments, by_number, document_of, documents_of}
use Rattle.ri_base.specs.Places.{places, places_from, postings_from, postings_of}
use Rattle.ri_base.specs.Vocabulary.{IsVocabulary, Occurs}
use Rattle.ri_base.specs.declared.held.Held.{Held}
use Rattle.ri_base.specs.declared.places.Place.{Place}
use Rattle.memory_index.specs.Inverts.{AreAllSpread, AreRising, AreSorted, Inverts, all_places_from, places_of_rank, ranks_at, terms_of}
use Rattle.memory_index.specs.Kept.{AreKept}
use Rattle.memory_index.proofs.SortLemmas.{sorted_all, sorted_only}
use Rattle.memory_index.specs.declared.numbered.Numbered.{Numbered}
use Rattle.ri_base.specs.declared.limits.TheConstants.{MAX_HELD_TOKENS, MAX_PART_DOCS}

differ : (v : List (List ℕ)) → AreRising v → (x y : ℕ) → x < y → y < length v → get_or v x [] ≢ get_or v y []
differ v up x y lower inside e =
    let less : slice_cmp nat_cmp (get_or v x []) (get_or v y []) ≡ Less = up x y [] lower inside in
    let same : slice_cmp nat_cmp (get_or v y []) (get_or v y []) ≡ Less = subst (λ t. slice_cmp nat_cmp t (get_or v y []) ≡ Less) e less in
    let tied = tied_itself nat_list_cmp_total (get_or v y []) in
    let clash : Less ≡ Equal = sym same ∙ tied in
    cc

test_same : (v : List (List ℕ)) → AreRising v → (x r : ℕ) → x < length v → r < length v → (x == r) ≡ bytes_eq (get_or v x []) (get_or v r [])
test_same v up x r inside inside2 = by (eqb_tells x r)
  where
    not_true : (b : Bool) → (b ≡ true → ⊥) → b ≡ false
    not_true true f = absurd (f refl)
    not_true false f = refl

    apart : x ≢ r → get_or v x [] ≢ get_or v r []
    apart ne e = sides (grind arith)
      where
        sides : (x < r) ⊎ (r < x) → ⊥
        sides (inl l) = differ v up x r l inside2 e
        sides (inr l) = differ v up r x l inside (sym e)

    by : ((eqb x r ≡ true) × (x ≡ r)) ⊎ ((eqb x r ≡ false) × (x ≢ r)) → (x == r) ≡ bytes_eq (get_or v x []) (get_or v r [])
    by (inl y) =
        let t : (x == r) ≡ true = grind (arith, y.1) in
        t ∙ sym ((bytes_eq-Decides (get_or v x []) (get_or v r [])).1 (ap (λ k. get_or v k []) y.1))
    by (inr y) =
        let ne : x ≢ r = y.1 in
        let t : (x == r) ≡ false = grind arith in
        t ∙ sym (not_true (bytes_eq (get_or v x []) (get_or v r [])) (λ h. apart ne ((bytes_eq-Decides (get_or v x []) (get_or v r [])).0 h)))

places_same : (v : List (List ℕ)) → AreRising v → (r : ℕ) → r < length v → (i : ℕ) (xs : List ℕ) → All (λ x. x < length v) xs
    → places_of_rank i r xs ≡ places_from i (get_or v r []) (map (λ x. get_or v x []) xs)
places_same v up r inside i [] a = refl
places_same v up r inside i (x ∷ xs) a =
    let P : ℕ → Type 0 = λ x. x < length v in
    let A = places_of_rank (i + 1) r xs in
    let rest = places_same v up r inside (i + 1) xs (All-tail P x xs a) in
    ap (λ b. cond b (i ∷ A) A) (test_same v up x r (All-head P x xs a) inside)
    ∙ ap (λ l. cond (bytes_eq (get_or v x []) (get_or v r [])) (i ∷ l) l) rest

tokens_same : (v : List (List ℕ)) (ranks tokens : List ℕ) → All (λ n. n < length ranks) tokens
    → map (λ n. get_or (by_number v ranks) n []) tokens ≡ map (λ x. get_or v x []) (ranks_at ranks tokens)
tokens_same v ranks [] a = refl
tokens_same v ranks (n ∷ ns) a =
    let P : ℕ → Type 0 = λ n. n < length ranks in
    let here : get_or (by_number v ranks) n [] ≡ get_or v (get_or ranks n 0) [] = get_or-map (λ x. get_or v x []) ranks n 0 [] (All-head P n ns a) in
    ap (λ t. t ∷ map (λ n. get_or (by_number v ranks) n []) ns) here ∙ ap (λ l. get_or v (get_or ranks n 0) [] ∷ l) (tokens_same v ranks ns (All-tail P n ns a))

docs_same : (v : List (List ℕ)) → AreRising v → (ranks : List ℕ) → All (λ x. x < length v) ranks → (r : ℕ) → r < length v → (i : ℕ) (hs : List Held) → AreNumbers (length ranks) hs
    → all_places_from i r ranks hs ≡ postings_from i (get_or v r []) (documents_of (by_number v ranks) hs)
unfolding places
docs_same v up ranks ranked r inside i [] a = refl
docs_same v up ranks ranked r inside i (h ∷ hs) a =
    let P : Held → Type 0 = λ h. All (λ k. k < length ranks) h.tokens.items in
    let small : All (λ k. k < length ranks) h.tokens.items = All-head P h hs a in
    let f : ℕ → Place = λ p. record { id = i; at = p } in
    let t = get_or v r [] in
    let below : All (λ x. x < length v) (ranks_at ranks h.tokens.items) =
    All-map (λ x. x < length v) (λ n. get_or ranks n 0) h.tokens.items
    (All-weaker (λ n. n < length ranks) (λ n. get_or ranks n 0 < length v) (λ n p. All-get_or (λ x. x < length v) ranks n 0 p ranked) h.tokens.items small) in
    let here : places_of_rank 0 r (ranks_at ranks h.tokens.items) ≡ places_from 0 t (map (λ n. get_or (by_number v ranks) n []) h.tokens.items) =
    places_same v up r inside 0 (ranks_at ranks h.tokens.items) below ∙ ap (places_from 0 t) (sym (tokens_same v ranks h.tokens.items small)) in
    ap (λ l. map f l ++ all_places_from (i + 1) r ranks hs) here
    ∙ ap (λ l. map f (places t (document_of (by_number v ranks) h)) ++ l) (docs_same v up ranks ranked r inside (i + 1) hs (All-tail P h hs a))

postings_same : (v : List (List ℕ)) → AreRising v → (ranks : List ℕ) → All (λ x. x < length v) ranks → (hs : List Held) → AreNumbers (length ranks) hs
    → (ps : List (List Place)) → AreAllSpread ps (length v) ranks hs → ps ≡ map (λ t. postings_of t (documents_of (by_number v ranks) hs)) v
unfolding postings_of
postings_same v up ranks ranked hs a ps s =
    let F : List ℕ → List Place = λ t. postings_of t (documents_of (by_number v ranks) hs) in
    let len : length (map F v) ≡ length v = length-map v F in
    ext_get_or [] ps (map F v) (s.same_length ∙ sym len)
    (λ r h. let inside : r < length v = subst (λ n. r < n) s.same_length h in
    s.each r inside ∙ docs_same v up ranks ranked r inside 0 hs a ∙ sym (get_or-map F v r [] [] inside))

pub Inverts-made : (terms : List (List ℕ)) (docs : List Held) (sorted : List Numbered) (ranks : List ℕ) (postings : List (List Place)) (v : List (List ℕ))
    → v ≡ terms_of sorted → AreSorted terms sorted → by_number (terms_of sorted) ranks ≡ terms → All (λ r. r < length sorted) ranks
    → AreAllSpread postings (length sorted) ranks docs → AreNumbers (length terms) docs → Inverts terms docs v ranks postings
Inverts-made terms docs sorted ranks postings v e s named ranked spread numbers =
    let V = terms_of sorted in
    let len : length V ≡ length sorted = length-map sorted (λ (x : Numbered). x.term) in
    let rlen : length ranks ≡ length terms = sym (length-map ranks (λ r. get_or V r [])) ∙ ap length named in
    let ranked2 : All (λ r. r < length V) ranks = subst (λ n. All (λ r. r < n) ranks) (sym len) ranked in
    let numbers2 : AreNumbers (length ranks) docs = subst (λ n. AreNumbers n docs) (sym rlen) numbers in
    let spread2 : AreAllSpread postings (length V) ranks docs = subst (λ n. AreAllSpread postings n ranks docs) (sym len) spread in
    let each : postings ≡ map (λ t. postings_of t (documents_of (by_number V ranks) docs)) V = postings_same V s.rising ranks ranked2 docs numbers2 postings spread2 in
    subst (λ w. Inverts terms docs w ranks postings) (sym e) (record {
      named = named;
      ranked = ranked2;
      rising = s.rising;
      only = sorted_only terms sorted s;
      all = sorted_all terms sorted s;
      each = subst (λ ts. postings ≡ map (λ t. postings_of t (documents_of ts docs)) V) named each;
    })

-- a term that occurs is one of the terms
occurs_named : (terms : List (List ℕ)) (hs : List Held) (t : List ℕ) → AreNumbers (length terms) hs → Occurs t (documents_of terms hs) → Contains terms t
occurs_named terms [] t a p = elim p [ ]
occurs_named terms (h ∷ hs) t a (inl p) =
    let P : Held → Type 0 = λ h. All (λ k. k < length terms) h.tokens.items in
    let f : ℕ → List ℕ = λ n. get_or terms n [] in
    All-contains (Contains terms) (map f h.tokens.items) t
    (All-map (Contains terms) f h.tokens.items (All-weaker (λ n. n < length terms) (λ n. Contains terms (f n)) (λ n q. Contains-get_or terms n [] q) h.tokens.items (All-head P h hs a))) p
occurs_named terms (h ∷ hs) t a (inr p) = occurs_named terms hs t (All-tail (λ h. All (λ k. k < length terms) h.tokens.items) h hs a) p

stand_for : (terms : List (List ℕ)) (hs : List Held) → All (λ d. IsDocument d.tokens d.fields) (documents_of terms hs) → StandForDocuments terms hs
stand_for terms [] all = All-nil (λ h. IsDocument (document_of terms h).tokens h.fields)
stand_for terms (h ∷ hs) all =
    let P : Document → Type 0 = λ d. IsDocument d.tokens d.fields in
    All-cons (λ h. IsDocument (document_of terms h).tokens h.fields) h hs (All-head P (document_of terms h) (documents_of terms hs) all)
    (stand_for terms hs (All-tail P (document_of terms h) (documents_of terms hs) all))

pub IsInversion-made : (most held : ℕ) (terms names : List (List ℕ)) (docs : List Held) (v : List (List ℕ)) (ranks : List ℕ) (postings : List (List Place))
    → AreKept most held terms names docs → Inverts terms docs v ranks postings → IsInversion v ranks docs postings
IsInversion-made most held terms names docs v ranks postings k h =
    let named = h.named in
    let few : length docs ≤ MAX_PART_DOCS = omega (arith, k.within, k.most_small) in
    let rlen : length ranks ≡ length terms = sym (length-map ranks (λ r. get_or v r [])) ∙ ap length named in
    let D = documents_of terms docs in
    let voc : IsVocabulary v D = record {
      rising = h.rising;
      only = All-weaker (Contains terms) (λ t. Occurs t D) (λ t p. All-contains (λ t. Occurs t D) terms t k.used p) v h.only;
      all = λ t p. All-contains (Contains v) terms t h.all (occurs_named terms docs t k.numbers p);
    } in
    record {
      few = few;
      documents = subst (λ ts. StandForDocuments ts docs) (sym named) (stand_for terms docs k.documents);
      fits = subst (λ ts. token_count (documents_of ts docs) ≤ MAX_HELD_TOKENS) (sym named) k.fits;
      terms = subst (λ ts. IsVocabulary v (documents_of ts docs)) (sym named) voc;
      numbers = subst (λ n. AreNumbers n docs) (sym rlen) k.numbers;
      ranked = h.ranked;
      each = subst (λ ts. postings ≡ map (λ t. postings_of t (documents_of ts docs)) v) (sym named) h.each;
    }

-- no document has more tokens than all
pub short_from_count : (terms : List (List ℕ)) (hs : List Held) (n : ℕ) → token_count (documents_of terms hs) ≤ n → All (λ h. length h.tokens.items ≤ n) hs
short_from_count terms [] n h = All-nil (λ h. length h.tokens.items ≤ n)
short_from_count terms (x ∷ hs) n h =
    let len : length (map (λ n. get_or terms n []) x.tokens.items) ≡ length x.tokens.items = length-map x.tokens.items (λ n. get_or terms n []) in
    let sum : token_count (documents_of terms (x ∷ hs)) ≡ (0 + length (map (λ n. get_or terms n []) x.tokens.items)) + token_count (documents_of terms hs) =
    sum_by-append (λ (d : Document). length d.tokens) (document_of terms x ∷ []) (documents_of terms hs) in
    All-cons (λ h. length h.tokens.items ≤ n) x hs (omega (arith, sum)) (short_from_count terms hs n (omega (arith, sum)))
