-- documents that are rebuilt of the ranks told at all places are those that the parts hold
use Rattle.std.proofs.Common.{◌≡◌, ◌<◌, ℕ, zero, suc, ◌+◌, List, [], ◌∷◌, length, get_or, map, refl, sym, ap, subst, ◌∙◌, inl, inr, arith}
use Rattle.std.specs.Cmp.Lexicographic.{slice_cmp}
use Rattle.std.specs.List.{All, AllPairs, Contains}
use Rattle.std.specs.List.Sorted.{IsStrictlySortedBy}
use Rattle.std.specs.Ordering.{nat_cmp}
use Rattle.std.specs.declared.cmp.Ordering.TheVariants.{Less, Equal}
use Rattle.std.proofs.lemmas.Bool.{cases_order}
use Rattle.std.proofs.lemmas.Cmp.{nat_list_cmp_total, tied_itself}
use Rattle.std.proofs.lemmas.List.{ext_get_or, get_or-map, get_or_default, length-map}
use Rattle.std.proofs.lemmas.List.Elements.{All-head, All-tail, Contains-get_or}
use Rattle.std.proofs.lemmas.Map.Keys.{Less-from_sorted}
use Rattle.ri_base.specs.Collection.{document_at}
use Rattle.ri_base.specs.Documents.{Document}
use Rattle.ri_base.specs.Inversion.{by_number}
use Rattle.ri_base.specs.Places.{postings_of}
use Rattle.ri_base.specs.Vocabulary.{IsTermBefore, IsVocabulary, Occurs, vocabulary_of}
use Rattle.ri_base.specs.declared.places.Place.{Place}
use Rattle.ri_base.proofs.PlacesLemmas.{occurs_at}
use Rattle.ri_base.proofs.VocabularyLemmas.{IsVocabulary-same}
use Rattle.seg_codec.specs.Blocks.{tokens_of}
use Rattle.seg_codec.specs.Held.{AreRanked, Holds, IsKept, lengths, lengths_of, rank_at, rebuilt, terms_of}
use Rattle.seg_codec.specs.Rising.{Rise}
use Rattle.seg_codec.specs.Segment.{entry_of}
use Rattle.seg_codec.specs.declared.dictionary.TermBlocks.{TermBlocks}
use Rattle.seg_codec.specs.declared.documents.Entry.{Entry}
use Rattle.seg_codec.specs.declared.whole.Whole.{Whole}
use Rattle.seg_codec.proofs.PostingLemmas.{occurs_stands}
use Rattle.seg_codec.proofs.RisingPlaces.{tokens_of-documents}
use Rattle.seg_codec.proofs.SpreadLaws.{AllThere, AllTold, spread_is_postings, word_of}

-- ---- the documents

pub rebuilt_entries : (terms : List (List ℕ)) (es : List Entry) (ranks : List (List ℕ)) → lengths ranks ≡ lengths_of es → map entry_of (rebuilt terms es ranks) ≡ es
rebuilt_entries terms [] ranks e = refl
rebuilt_entries terms (x ∷ es) [] e = absurd cc
rebuilt_entries terms (x ∷ es) (r ∷ ranks) e =
    let here : length r ≡ x.tokens = cc in
    let rest : lengths ranks ≡ lengths_of es = cc in
    let count : length (by_number terms r) ≡ x.tokens = length-map r (λ n. get_or terms n []) ∙ here in
    let one : record { docno = x.docno; tokens = length (by_number terms r); fields = x.fields } ≡ x = ap (λ (n : ℕ). record { docno = x.docno; tokens = n; fields = x.fields }) count in
    ap (λ (y : Entry). y ∷ map entry_of (rebuilt terms es ranks)) one ∙ ap (λ (ys : List Entry). x ∷ ys) (rebuilt_entries terms es ranks rest)

rebuilt_word : (terms : List (List ℕ)) (es : List Entry) (ranks : List (List ℕ)) (id at none : ℕ) → lengths ranks ≡ lengths_of es → id < length es → at < tokens_of es id
    → word_of (rebuilt terms es ranks) id at ≡ get_or terms (get_or (get_or ranks id []) at none) []
rebuilt_word terms [] ranks id at none e inside within = absurd (omega arith)
rebuilt_word terms (x ∷ es) [] id at none e inside within = absurd cc
rebuilt_word terms (x ∷ es) (r ∷ ranks) zero at none e inside within =
    let here : length r ≡ x.tokens = cc in
    let inner : at < x.tokens = within in
    get_or-map (λ n. get_or terms n []) r at none [] (omega (arith, here, inner))
rebuilt_word terms (x ∷ es) (r ∷ ranks) (suc id) at none e inside within =
    let rest : lengths ranks ≡ lengths_of es = cc in
    rebuilt_word terms es ranks id at none rest (omega arith) within

pub ranks_few : (es : List Entry) (ranks : List (List ℕ)) → lengths ranks ≡ lengths_of es → length ranks ≡ length es
ranks_few es ranks e = sym (length-map ranks (λ (r : List ℕ). length r)) ∙ ap length e ∙ length-map es (λ (e : Entry). e.tokens)

pub ranks_long : (es : List Entry) (ranks : List (List ℕ)) (id : ℕ) → lengths ranks ≡ lengths_of es → id < length es → length (get_or ranks id []) ≡ tokens_of es id
ranks_long es ranks id e inside =
    let there : id < length ranks = omega (arith, ranks_few es ranks e) in
    sym (get_or-map (λ (r : List ℕ). length r) ranks id [] 0 there) ∙ ap (λ (ns : List ℕ). get_or ns id 0) e

-- ---- terms in order are told apart by their ranks

pub same_rank : (terms : List (List ℕ)) (i j : ℕ) → IsStrictlySortedBy (slice_cmp nat_cmp) terms → i < length terms → j < length terms → get_or terms i [] ≡ get_or terms j [] → i ≡ j
same_rank terms i j up lt under e = elim (cases_order i j) [
  | inl same ↦ same
  | inr differ ↦ elim differ [
    | inl below ↦ absurd (clash i j e (Less-from_sorted (slice_cmp nat_cmp) terms i j [] up below under))
    | inr above ↦ absurd (clash j i (sym e) (Less-from_sorted (slice_cmp nat_cmp) terms j i [] up above lt))
  ]
]
  where
    clash : (a b : ℕ) → get_or terms a [] ≡ get_or terms b [] → slice_cmp nat_cmp (get_or terms a []) (get_or terms b []) ≡ Less → ⊥
    clash a b e less =
        let self : slice_cmp nat_cmp (get_or terms a []) (get_or terms a []) ≡ Equal = tied_itself nat_list_cmp_total (get_or terms a []) in
        let same : slice_cmp nat_cmp (get_or terms a []) (get_or terms a []) ≡ Less = ap (slice_cmp nat_cmp (get_or terms a [])) e ∙ less in
        let both : Equal ≡ Less = sym self ∙ same in
        absurd cc

-- ---- ranks of all tokens

pub terms_counted : (w : Whole) → IsKept w → length (terms_of w.terms) ≡ length w.postings
terms_counted w kept = length-map w.terms (λ (t : TermBlocks). t.term) ∙ sym kept.counted

abbrev documents_with : Whole → List (List ℕ) → List Document
documents_with w ranks = rebuilt (terms_of w.terms) w.documents ranks

documents_few : (w : Whole) (ranks : List (List ℕ)) → AreRanked w ranks → length (documents_with w ranks) ≡ length w.documents
documents_few w ranks h = sym (length-map (documents_with w ranks) entry_of) ∙ ap length (rebuilt_entries (terms_of w.terms) w.documents ranks h.shape)

documents_long : (w : Whole) (ranks : List (List ℕ)) (k : ℕ) → AreRanked w ranks → k < length (documents_with w ranks) → tokens_of w.documents k ≡ length (document_at (documents_with w ranks) k).tokens
documents_long w ranks k h inside =
    ap (λ (xs : List Entry). tokens_of xs k) (sym (rebuilt_entries (terms_of w.terms) w.documents ranks h.shape)) ∙ tokens_of-documents (documents_with w ranks) k inside

rank_below : (w : Whole) (ranks : List (List ℕ)) (p : Place) → AreRanked w ranks → p.id < length w.documents → p.at < tokens_of w.documents p.id → rank_at (length w.postings) ranks p < length w.postings
rank_below w ranks p h inside within =
    let in_ranks : p.id < length ranks = omega (arith, inside, ranks_few w.documents ranks h.shape) in
    let in_row : p.at < length (get_or ranks p.id []) = omega (arith, within, ranks_long w.documents ranks p.id h.shape inside) in
    h.full p.id [] in_ranks p.at (length w.postings) in_row

word_is : (w : Whole) (ranks : List (List ℕ)) (p : Place) → AreRanked w ranks → p.id < length w.documents → p.at < tokens_of w.documents p.id
    → word_of (documents_with w ranks) p.id p.at ≡ get_or (terms_of w.terms) (rank_at (length w.postings) ranks p) []
word_is w ranks p h inside within = rebuilt_word (terms_of w.terms) w.documents ranks p.id p.at (length w.postings) h.shape inside within

told_all : (n : ℕ) (tokens : ℕ → ℕ) (word : ℕ → ℕ → List ℕ) (terms : List (List ℕ)) (rank : Place → ℕ) (r id at : ℕ) (ps : List Place) → ((p : Place) → p.id < n → p.at < tokens p.id → word p.id p.at ≡ get_or terms (rank p) [])
    → Rise n tokens id at ps → All (λ (p : Place). rank p ≡ r) ps → AllTold word (get_or terms r []) ps
told_all n tokens word terms rank r id at [] known up all = tt
told_all n tokens word terms rank r id at (p ∷ ps) known up all =
    (known p up.0.inside up.0.within ∙ ap (λ k. get_or terms k []) (All-head (λ (q : Place). rank q ≡ r) p ps all), told_all n tokens word terms rank r p.id (p.at + 1) ps known up.1 (All-tail (λ (q : Place). rank q ≡ r) p ps all))

-- the postings of each term are those of the rebuilt documents
term_held : (w : Whole) (ranks : List (List ℕ)) (r : ℕ) → IsKept w → AreRanked w ranks → r < length w.postings → postings_of (get_or (terms_of w.terms) r []) (documents_with w ranks) ≡ get_or w.postings r []
term_held w ranks r kept h lt =
    let few : length (documents_with w ranks) ≡ length w.documents = documents_few w ranks h in
    spread_is_postings (documents_with w ranks) (tokens_of w.documents) (get_or (terms_of w.terms) r []) (get_or w.postings r []) (λ k inside. documents_long w ranks k h inside)
    (subst (λ (n : ℕ). Rise n (tokens_of w.documents) 0 0 (get_or w.postings r [])) (sym few) (kept.rise r [] lt))
    (told_all (length w.documents) (tokens_of w.documents) (word_of (documents_with w ranks)) (terms_of w.terms) (rank_at (length w.postings) ranks) r 0 0 (get_or w.postings r []) (λ p inside within. word_is w ranks p h inside within) (kept.rise r [] lt) (h.each r lt))
    there
  where
    there : AllThere (length (documents_with w ranks)) (tokens_of w.documents) (word_of (documents_with w ranks)) (get_or (terms_of w.terms) r []) 0 0 (get_or w.postings r [])
    there id at inside within le from is =
        let p : Place = record { id = id; at = at } in
        let in_es : id < length w.documents = omega (arith, inside, documents_few w ranks h) in
        let below : rank_at (length w.postings) ranks p < length w.postings = rank_below w ranks p h in_es within in
        let number = terms_counted w kept in
        let same : rank_at (length w.postings) ranks p ≡ r = same_rank (terms_of w.terms) (rank_at (length w.postings) ranks p) r kept.sorted (omega (arith, below, number)) (omega (arith, lt, number)) (sym (word_is w ranks p h in_es within) ∙ is) in
        subst (λ (k : ℕ). Contains (get_or w.postings k []) p) same (h.only p below)

-- ---- the vocabulary

vocabulary_held : (w : Whole) (ranks : List (List ℕ)) → IsKept w → AreRanked w ranks → IsVocabulary (terms_of w.terms) (documents_with w ranks)
vocabulary_held w ranks kept h = record { rising = up; only = used; all = known }
  where
    terms : List (List ℕ)
    terms = terms_of w.terms

    docs : List Document
    docs = documents_with w ranks

    up : AllPairs IsTermBefore terms
    up i j d lower inside = Less-from_sorted (slice_cmp nat_cmp) terms i j d kept.sorted lower inside

    stands : (r : ℕ) (ps : List Place) → r < length w.postings → 0 < length ps → Rise (length w.documents) (tokens_of w.documents) 0 0 ps → All (λ (p : Place). rank_at (length w.postings) ranks p ≡ r) ps → Occurs (get_or terms r []) docs
    stands r [] lt some rise all = absurd (omega arith)
    stands r (p ∷ ps) lt some rise all =
        let inside : p.id < length docs = omega (arith, documents_few w ranks h, rise.0.inside) in
        let within : p.at < length (document_at docs p.id).tokens = omega (arith, documents_long w ranks p.id h inside, rise.0.within) in
        let word : word_of docs p.id p.at ≡ get_or terms r [] = word_is w ranks p h rise.0.inside rise.0.within ∙ ap (λ k. get_or terms k []) (All-head (λ (q : Place). rank_at (length w.postings) ranks q ≡ r) p ps all) in
        let read : get_or (document_at docs p.id).tokens p.at (get_or terms r []) ≡ get_or terms r [] = get_or_default (document_at docs p.id).tokens p.at (get_or terms r []) [] within ∙ word in
        occurs_at p.id (get_or terms r []) docs inside (p.at, within, read)

    used : All (λ t. Occurs t docs) terms
    used r d lt =
        let below : r < length w.postings = omega (arith, lt, terms_counted w kept) in
        subst (λ (t : List ℕ). Occurs t docs) (get_or_default terms r [] d lt) (stands r (get_or w.postings r []) below (kept.some r [] below) (kept.rise r [] below) (h.each r below))

    known : (t : List ℕ) → Occurs t docs → Contains terms t
    known t o =
        let s = occurs_stands t docs o in
        let p : Place = record { id = s.id; at = s.at } in
        let in_es : s.id < length w.documents = omega (arith, documents_few w ranks h, s.inside) in
        let in_length : s.at < tokens_of w.documents s.id = omega (arith, documents_long w ranks s.id h s.inside, s.within) in
        let below : rank_at (length w.postings) ranks p < length w.postings = rank_below w ranks p h in_es in_length in
        let same : get_or terms (rank_at (length w.postings) ranks p) [] ≡ t = sym (word_is w ranks p h in_es in_length) ∙ s.is in
        subst (Contains terms) same (Contains-get_or terms (rank_at (length w.postings) ranks p) [] (omega (arith, below, terms_counted w kept)))

-- the parts hold the documents that are rebuilt
pub ranked_holds : (w : Whole) (ranks : List (List ℕ)) → IsKept w → AreRanked w ranks → Holds (rebuilt (terms_of w.terms) w.documents ranks) w
ranked_holds w ranks kept h = record { documents = rebuilt_entries terms w.documents ranks h.shape; terms = sym vocabulary; postings = ap (map (λ (t : List ℕ). postings_of t docs)) (sym vocabulary) ∙ each }
  where
    terms : List (List ℕ)
    terms = terms_of w.terms

    docs : List Document
    docs = documents_with w ranks

    vocabulary : terms ≡ vocabulary_of docs
    vocabulary = IsVocabulary-same terms docs (vocabulary_held w ranks kept h)

    count : length (map (λ (t : List ℕ). postings_of t docs) terms) ≡ length w.postings
    count = length-map terms (λ (t : List ℕ). postings_of t docs) ∙ terms_counted w kept

    each : map (λ (t : List ℕ). postings_of t docs) terms ≡ w.postings
    each = ext_get_or [] (map (λ (t : List ℕ). postings_of t docs) terms) w.postings count
        (λ r lt. get_or-map (λ (t : List ℕ). postings_of t docs) terms r [] [] (omega (arith, lt, terms_counted w kept, count)) ∙ term_held w ranks r kept h (omega (arith, lt, count)))
