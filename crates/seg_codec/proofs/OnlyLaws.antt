-- the documents that parts hold are told by them, and their ranks are never refused
use Rattle.std.proofs.Common.{◌≡◌, ◌<◌, ◌≤◌, ℕ, suc, ◌+◌, List, [], ◌∷◌, ◌++◌, length, get_or, map, Bool, true, false, cond, nat_le, refl, sym, ap, subst, ◌∙◌, inl, inr, arith}
use Rattle.std.specs.List.{All, Contains, sum_by}
use Rattle.std.specs.Str.{bytes_eq}
use Rattle.std.proofs.lemmas.Bool.{le-leb}
use Rattle.std.proofs.lemmas.List.{ext_get_or, get_or-map, get_or_default, length-append, length-map}
use Rattle.std.proofs.lemmas.List.Elements.{All-contains}
use Rattle.std.proofs.lemmas.List.Folds.{fold-map}
use Rattle.std.proofs.lemmas.List.Sums.{get_or-le-sum_by, sum_by-cons, sum_by-le-sum_by}
use Rattle.ri_base.specs.Collection.{document_at, token_count}
use Rattle.ri_base.specs.Documents.{Document, Field}
use Rattle.ri_base.specs.Places.{places, places_from, postings_from, postings_of}
use Rattle.ri_base.specs.Vocabulary.{Occurs, vocabulary_of}
use Rattle.ri_base.specs.declared.places.Place.{Place}
use Rattle.ri_base.proofs.ListLemmas.{Contains-here, Contains-later}
use Rattle.ri_base.proofs.PlacesLemmas.{occurs_at}
use Rattle.ri_base.proofs.VocabularyLemmas.{IsVocabulary-vocabulary_of}
use Rattle.ri_base.proofs.Order.{same_itself}
use Rattle.seg_codec.specs.Blocks.{tokens_of}
use Rattle.seg_codec.specs.Held.{AreAgreed, AreFilled, AreOfPostings, Clash, Gap, Holds, IsKept, lengths, rank_at, terms_of}
use Rattle.seg_codec.specs.Segment.{entry_of}
use Rattle.seg_codec.specs.declared.documents.Entry.{Entry}
use Rattle.seg_codec.specs.declared.whole.Whole.{Whole}
use Rattle.seg_codec.proofs.DocumentFits.{counted}
use Rattle.seg_codec.proofs.HeldLaws.{ranks_few, ranks_long, same_rank, terms_counted}
use Rattle.seg_codec.proofs.PostingLemmas.{posting_stands, token_posted}
use Rattle.seg_codec.proofs.RisingPlaces.{tokens_of-documents}
use Rattle.seg_codec.proofs.SpreadLaws.{at_place, word_of}

-- ---- the postings of a rank

posted_is : (w : Whole) (docs : List Document) (r : ℕ) → Holds docs w → r < length w.postings → get_or w.postings r [] ≡ postings_of (get_or (terms_of w.terms) r []) docs
posted_is w docs r h lt =
    let number : length (vocabulary_of docs) ≡ length w.postings = sym (length-map (vocabulary_of docs) (λ (t : List ℕ). postings_of t docs)) ∙ ap length h.postings in
    ap (λ (pss : List (List Place)). get_or pss r []) (sym h.postings) ∙ get_or-map (λ (t : List ℕ). postings_of t docs) (vocabulary_of docs) r [] [] (omega (arith, number, lt))
    ∙ ap (λ (ts : List (List ℕ)). postings_of (get_or ts r []) docs) h.terms

posting_word : (w : Whole) (docs : List Document) (r : ℕ) (p : Place) → Holds docs w → r < length w.postings → Contains (get_or w.postings r []) p → word_of docs p.id p.at ≡ get_or (terms_of w.terms) r []
posting_word w docs r p h lt c = posting_stands docs (get_or (terms_of w.terms) r []) p (subst (λ (ps : List Place). Contains ps p) (posted_is w docs r h lt) c)

-- where parts hold documents, no posting clashes with what is told
pub no_clash : (w : Whole) (docs : List Document) (ranks : List (List ℕ)) → IsKept w → Holds docs w → AreOfPostings w.postings ranks → All (AreFilled (length w.postings) ranks) w.postings → Clash w.postings ranks → ⊥
no_clash w docs ranks kept h only filled clash =
    let p : Place = clash.place in
    let r : ℕ = clash.rank in
    let found : ℕ = rank_at (length w.postings) ranks p in
    let number : length (terms_of w.terms) ≡ length w.postings = terms_counted w kept in
    let below : found < length w.postings = All-contains (λ (q : Place). rank_at (length w.postings) ranks q < length w.postings) (get_or w.postings r []) p (filled r [] clash.known) clash.posted in
    let one : word_of docs p.id p.at ≡ get_or (terms_of w.terms) r [] = posting_word w docs r p h clash.known clash.posted in
    let other : word_of docs p.id p.at ≡ get_or (terms_of w.terms) found [] = posting_word w docs found p h below (only p below) in
    clash.other (same_rank (terms_of w.terms) found r kept.sorted (omega (arith, number, below)) (omega (arith, number, clash.known)) (sym other ∙ one))

-- ---- the rank of a token

record HasRank (w : Whole) (docs : List Document) (id at : ℕ) : Type 0 where
  rank : ℕ
  known : rank < length w.postings
  posted : Contains (get_or w.postings rank []) (record { id = id; at = at })
  is : word_of docs id at ≡ get_or (terms_of w.terms) rank []

token_rank : (w : Whole) (docs : List Document) (id at : ℕ) → Holds docs w → id < length docs → at < length (document_at docs id).tokens → HasRank w docs id at
token_rank w docs id at h inside within =
    let t : List ℕ = word_of docs id at in
    let own : get_or (document_at docs id).tokens at t ≡ t = get_or_default (document_at docs id).tokens at t [] within in
    let c : Contains (vocabulary_of docs) t = (IsVocabulary-vocabulary_of docs).all t (occurs_at id t docs inside (at, within, own)) in
    let number : length (vocabulary_of docs) ≡ length w.postings = sym (length-map (vocabulary_of docs) (λ (t : List ℕ). postings_of t docs)) ∙ ap length h.postings in
    let lt : c.0 < length w.postings = omega (arith, number, c.1) in
    let term_is : get_or (terms_of w.terms) c.0 [] ≡ t = ap (λ (ts : List (List ℕ)). get_or ts c.0 []) (sym h.terms) ∙ get_or_default (vocabulary_of docs) c.0 [] t c.1 ∙ c.2 in
    record {
      rank = c.0;
      known = lt;
      posted = subst (λ (ps : List Place). Contains ps (record { id = id; at = at })) (sym (posted_is w docs c.0 h lt)) (token_posted docs (get_or (terms_of w.terms) c.0 []) id at inside within (sym term_is));
      is = sym term_is;
    }

-- where parts hold documents, and the ranks told agree, none is missing
pub no_gap : (w : Whole) (docs : List Document) (ranks : List (List ℕ)) → Holds docs w → lengths ranks ≡ map (λ (e : Entry). e.tokens) w.documents → AreAgreed w.postings ranks → Gap (length w.postings) ranks → ⊥
no_gap w docs ranks h shape each gap =
    let p : Place = gap.place in
    let in_es : p.id < length w.documents = omega (arith, ranks_few w.documents ranks shape, gap.inside) in
    let inside : p.id < length docs = omega (arith, in_es, length-map docs entry_of, ap length h.documents) in
    let long : tokens_of w.documents p.id ≡ length (document_at docs p.id).tokens = ap (λ (xs : List Entry). tokens_of xs p.id) (sym h.documents) ∙ tokens_of-documents docs p.id inside in
    let within : p.at < length (document_at docs p.id).tokens = omega (arith, long, ranks_long w.documents ranks p.id shape in_es, gap.within) in
    let k = token_rank w docs p.id p.at h inside within in
    let agreed : rank_at (length w.postings) ranks p ≡ k.rank = All-contains (λ (q : Place). rank_at (length w.postings) ranks q ≡ k.rank) (get_or w.postings k.rank []) p (each k.rank k.known) k.posted in
    let read : rank_at (length w.postings) ranks p ≡ rank_at 0 ranks p = get_or_default (get_or ranks p.id []) p.at (length w.postings) 0 gap.within in
    absurd (omega (arith, agreed, read, k.known, gap.free))

-- ---- one list of documents

same_document : (a b : Document) → entry_of a ≡ entry_of b → a.tokens ≡ b.tokens → a ≡ b
same_document a b e tokens =
    ap (λ (x : List ℕ). record { docno = x; tokens = a.tokens; fields = a.fields }) (ap (λ (x : Entry). x.docno) e)
    ∙ ap (λ (x : List (List ℕ)). record { docno = b.docno; tokens = x; fields = a.fields }) tokens
    ∙ ap (λ (x : List Field). record { docno = b.docno; tokens = b.tokens; fields = x }) (ap (λ (x : Entry). x.fields) e)

same_words : (a b : List Document) → map entry_of a ≡ map entry_of b → ((id at : ℕ) → id < length a → at < length (document_at a id).tokens → word_of a id at ≡ word_of b id at) → a ≡ b
same_words [] [] e words = refl
same_words [] (y ∷ b) e words = absurd cc
same_words (x ∷ a) [] e words = absurd cc
same_words (x ∷ a) (y ∷ b) e words =
    let here : entry_of x ≡ entry_of y = cc in
    let rest : map entry_of a ≡ map entry_of b = cc in
    let tokens : x.tokens ≡ y.tokens = ext_get_or [] x.tokens y.tokens (ap (λ (z : Entry). z.tokens) here) (λ at lt. words 0 at (omega arith) lt) in
    ap (λ (z : Document). z ∷ a) (same_document x y here tokens) ∙ ap (λ (zs : List Document). y ∷ zs) (same_words a b rest (λ id at inside within. words (suc id) at (omega (arith, inside)) within))

pub held_once : (w : Whole) (a b : List Document) → Holds a w → Holds b w → a ≡ b
held_once w a b ha hb =
    same_words a b (ha.documents ∙ sym hb.documents)
    (λ id at inside within. let k = token_rank w a id at ha inside within in k.is ∙ sym (posting_word w b k.rank (record { id = id; at = at }) hb k.known k.posted))

-- ---- there are no fewer postings than tokens

abbrev one_if : List ℕ → List ℕ → ℕ
one_if x t = cond (bytes_eq x t) 1 0

one_there : (x : List ℕ) (ts : List (List ℕ)) → Contains ts x → 1 ≤ sum_by (one_if x) ts
one_there x ts c =
    let own : one_if x (get_or ts c.0 x) ≡ 1 = ap (one_if x) c.2 ∙ ap (λ b. cond b 1 0) (same_itself x) in
    omega (arith, own, get_or-le-sum_by (one_if x) ts c.0 x c.1)

sum_both : (f g : List ℕ → ℕ) (ts : List (List ℕ)) → sum_by (λ (t : List ℕ). f t + g t) ts ≡ sum_by f ts + sum_by g ts
sum_both f g [] = omega arith
sum_both f g (t ∷ ts) = omega (arith, sum_both f g ts, sum_by-cons (λ (t : List ℕ). f t + g t) t ts, sum_by-cons f t ts, sum_by-cons g t ts)

words_posted : (i : ℕ) (words ts : List (List ℕ)) → ((x : List ℕ) → Contains words x → Contains ts x) → length words ≤ sum_by (λ (t : List ℕ). length (places_from i t words)) ts
words_posted i [] ts all = omega arith
words_posted i (x ∷ xs) ts all =
    let rest = words_posted (i + 1) xs ts (λ y c. all y (Contains-later x xs y c)) in
    let here = one_there x ts (all x (Contains-here x xs)) in
    let more = sum_by-le-sum_by (λ (t : List ℕ). one_if x t + length (places_from (i + 1) t xs)) (λ (t : List ℕ). length (places_from i t (x ∷ xs))) ts each in
    omega (arith, rest, here, more, sum_both (one_if x) (λ (t : List ℕ). length (places_from (i + 1) t xs)) ts)
  where
    by : (t : List ℕ) (b : Bool) → cond b 1 0 + length (places_from (i + 1) t xs) ≤ length (cond b (i ∷ places_from (i + 1) t xs) (places_from (i + 1) t xs))
    by t true = omega arith
    by t false = omega arith

    each : (t : List ℕ) → one_if x t + length (places_from (i + 1) t xs) ≤ length (places_from i t (x ∷ xs))
    each t = by t (bytes_eq x t)

tokens_posted : (i : ℕ) (docs : List Document) (ts : List (List ℕ)) → ((x : List ℕ) → Occurs x docs → Contains ts x) → token_count docs ≤ sum_by (λ (t : List ℕ). length (postings_from i t docs)) ts
unfolding places
tokens_posted i [] ts all = omega arith
tokens_posted i (d ∷ docs) ts all =
    let rest = tokens_posted (i + 1) docs ts (λ x o. all x (inr o)) in
    let here = words_posted 0 d.tokens ts (λ x c. all x (inl c)) in
    let more = sum_by-le-sum_by (λ (t : List ℕ). length (places_from 0 t d.tokens) + length (postings_from (i + 1) t docs)) (λ (t : List ℕ). length (postings_from i t (d ∷ docs))) ts each in
    omega (arith, rest, here, more, sum_both (λ (t : List ℕ). length (places_from 0 t d.tokens)) (λ (t : List ℕ). length (postings_from (i + 1) t docs)) ts, sum_by-cons (λ (d : Document). length d.tokens) d docs)
  where
    each : (t : List ℕ) → length (places_from 0 t d.tokens) + length (postings_from (i + 1) t docs) ≤ length (map (λ p. record { id = i; at = p }) (places_from 0 t d.tokens) ++ postings_from (i + 1) t docs)
    each t =
        let own : List Place = map (λ p. record { id = i; at = p }) (places_from 0 t d.tokens) in
        omega (arith, length-append own (postings_from (i + 1) t docs), length-map (places_from 0 t d.tokens) (λ p. at_place i p))

pub held_enough : (w : Whole) (docs : List Document) → Holds docs w → token_count docs ≤ sum_by (λ (ps : List Place). length ps) w.postings
unfolding postings_of
held_enough w docs h =
    let ts : List (List ℕ) = vocabulary_of docs in
    let all = tokens_posted 0 docs ts (λ x o. (IsVocabulary-vocabulary_of docs).all x o) in
    let moved : sum_by (λ (ps : List Place). length ps) (map (λ (t : List ℕ). postings_from 0 t docs) ts) ≡ sum_by (λ (t : List ℕ). length (postings_from 0 t docs)) ts = fold-map (λ (a : ℕ) (ps : List Place). a + length ps) (λ (t : List ℕ). postings_from 0 t docs) 0 ts in
    let same : sum_by (λ (ps : List Place). length ps) (map (λ (t : List ℕ). postings_from 0 t docs) ts) ≡ sum_by (λ (ps : List Place). length ps) w.postings = ap (sum_by (λ (ps : List Place). length ps)) h.postings in
    omega (arith, all, moved, same)

-- where parts hold documents, there are as many postings as the header tells tokens
pub enough_postings : (w : Whole) (docs : List Document) → IsKept w → Holds docs w → nat_le w.header.tokens (sum_by (λ (ps : List Place). length ps) w.postings) ≡ true
enough_postings w docs kept h =
    let same : sum_by (λ (e : Entry). e.tokens) (map entry_of docs) ≡ sum_by (λ (e : Entry). e.tokens) w.documents = ap (sum_by (λ (e : Entry). e.tokens)) h.documents in
    le-leb w.header.tokens (sum_by (λ (ps : List Place). length ps) w.postings) (omega (arith, held_enough w docs h, counted docs, same, kept.tokens))
