-- The results of a search are the answer, as a function of the documents.
use Rattle.std.proofs.Common.{◌≡◌, ◌<◌, ℕ, ◌+◌, List, [], ◌∷◌, length, map, get_or, refl, sym, ap, subst, ◌∙◌, arith, zero, suc, true≢false}
use Rattle.std.specs.Prelude.{bytes_eq, false, flat_map}
use Rattle.std.specs.List.{take-map}
use Rattle.std.specs.Cmp.{IsTotalOrder}
use Rattle.std.specs.Cmp.Lexicographic.{slice_cmp}
use Rattle.std.specs.List.{All, AllByRecursion, Contains, IsDistinct, filter, list_all}
use Rattle.std.specs.List.Sorted.{IsPermutation, IsSortedBy}
use Rattle.std.specs.Ordering.{is_lt, is_gt, nat_cmp, ordering_then}
use Rattle.std.specs.declared.cmp.Ordering.{Ordering}
use Rattle.std.specs.declared.cmp.Ordering.TheVariants.{Less, Equal, Greater}
use Rattle.std.proofs.lemmas.Cmp.{on_total, then_total, nat_cmp_total, nat_list_cmp_total}
use Rattle.std.proofs.lemmas.List.{get_or-map, length-map}
use Rattle.std.proofs.lemmas.Map.Lookups.{exact_bytes, exact_unsigned}
use Rattle.std.proofs.lemmas.Slice.Eq.{bytes_eq-Decides}
use Rattle.std.proofs.lemmas.List.Elements.{All-append, All-contains, All-contains_itself, All-filter, All-head, All-map, All-nil, All-tail}
use Rattle.std.proofs.lemmas.List.Sorted.{IsPermutation-map}
use Rattle.ri_base.specs.Documents.{Document}
use Rattle.ri_base.specs.Pair.{Pair}
use Rattle.ri_base.specs.Query.{FilterTree}
use Rattle.ri_base.specs.declared.hit.Hit.{Hit}
use Rattle.log_chain.specs.declared.chain.TheConstants.{LAST}
use Rattle.smoothing.specs.declared.rule.RuleKind.{RuleKind}
use Rattle.query_check.specs.Check.{CheckedTree}
use Rattle.query_check.specs.Trees.{ScaledTree}
use Rattle.belief_nodes.specs.Keys.{key_at}
use Rattle.belief_nodes.specs.Network.{NetworkTree}
use Rattle.belief_nodes.specs.Priors.{Prior}
use Rattle.document_scoring.specs.Candidates.{candidate, candidates, document_candidates, found_windows, passes}
use Rattle.true_order.specs.Ranked.{hit_beliefs}
use Rattle.ranker.specs.Ranking.{IsAnswerBy, candidate_of, hit_order, query_network}
use Rattle.sorted_front.specs.Front.{TellsApart}
use Rattle.sorted_front.proofs.FrontLemmas.{front_only}
use Rattle.desk.specs.Answers.{Entry, answer, entry, entry_of, entry_order}

-- ---- entries that tie

pub entries_total : IsTotalOrder entry_order
entries_total = then_total (on_total (λ (e : Entry). e.key) nat_cmp_total) (then_total (on_total (λ (e : Entry). e.candidate.docno) nat_list_cmp_total) (then_total (on_total (λ (e : Entry). e.candidate.begin) nat_cmp_total) (on_total (λ (e : Entry). e.candidate.end) nat_cmp_total)))

then_first : (a b : Ordering) → ordering_then a b ≡ Equal → a ≡ Equal
then_first Equal b e = refl
then_first Less b e = e
then_first Greater b e = e

then_second : (a b : Ordering) → ordering_then a b ≡ Equal → b ≡ Equal
then_second Equal b e = e
then_second Less b e = absurd (true≢false (ap is_lt e))
then_second Greater b e = absurd (true≢false (ap is_gt e))

tied_docno : (a b : Entry) → entry_order a b ≡ Equal → a.candidate.docno ≡ b.candidate.docno
tied_docno a b e = exact_bytes a.candidate.docno b.candidate.docno (then_first _ _ (then_second (nat_cmp a.key b.key) _ e))

tied_rest : (a b : Entry) → entry_order a b ≡ Equal → ordering_then (nat_cmp a.candidate.begin b.candidate.begin) (nat_cmp a.candidate.end b.candidate.end) ≡ Equal
tied_rest a b e = then_second (slice_cmp nat_cmp a.candidate.docno b.candidate.docno) _ (then_second (nat_cmp a.key b.key) _ e)

tied_begin : (a b : Entry) → entry_order a b ≡ Equal → a.candidate.begin ≡ b.candidate.begin
tied_begin a b e = exact_unsigned a.candidate.begin b.candidate.begin (then_first _ _ (tied_rest a b e))

tied_end : (a b : Entry) → entry_order a b ≡ Equal → a.candidate.end ≡ b.candidate.end
tied_end a b e = exact_unsigned a.candidate.end b.candidate.end (then_second (nat_cmp a.candidate.begin b.candidate.begin) _ (tied_rest a b e))

-- ---- a docno names a document

abbrev pub HaveOwnDocnos : List Document → Type 0
HaveOwnDocnos docs = (a b : Document) → Contains docs a → Contains docs b → a.docno ≡ b.docno → a ≡ b

abbrev IsOfWindow : (Document → Pair → Entry) → List Document → Entry → Type 0
IsOfWindow shows docs x = (d : Document) × (w : Pair) × Contains docs d × (x ≡ shows d w)

pub windows_apart : (shows : Document → Pair → Entry) (docs : List Document) (es : List Entry) → HaveOwnDocnos docs
    → ((d : Document) (w : Pair) → ((shows d w).candidate.docno ≡ d.docno) × ((shows d w).candidate.begin ≡ w.begin) × ((shows d w).candidate.end ≡ w.end))
    → All (IsOfWindow shows docs) es → TellsApart entry_order es
windows_apart shows docs es own names each x y p q tie =
    let v : IsOfWindow shows docs x = All-contains (IsOfWindow shows docs) es x each p in
    let w : IsOfWindow shows docs y = All-contains (IsOfWindow shows docs) es y each q in
    let m = names v.0 v.1 in
    let n = names w.0 w.1 in
    let document : v.0 ≡ w.0 = own v.0 w.0 v.2 w.2 (sym m.0 ∙ ap (λ (e : Entry). e.candidate.docno) (sym v.3) ∙ tied_docno x y tie ∙ ap (λ (e : Entry). e.candidate.docno) w.3 ∙ n.0) in
    let begin : v.1.begin ≡ w.1.begin = sym m.1 ∙ ap (λ (e : Entry). e.candidate.begin) (sym v.3) ∙ tied_begin x y tie ∙ ap (λ (e : Entry). e.candidate.begin) w.3 ∙ n.1 in
    let end : v.1.end ≡ w.1.end = sym m.2 ∙ ap (λ (e : Entry). e.candidate.end) (sym v.3) ∙ tied_end x y tie ∙ ap (λ (e : Entry). e.candidate.end) w.3 ∙ n.2 in
    v.3 ∙ (λ i. shows (document i) (record { begin = begin i; end = end i })) ∙ sym w.3

-- ---- the candidates of a query

module _ (kind : RuleKind) (priors : List Prior) (network : NetworkTree) (tree : ScaledTree) (docs : List Document) where
  abbrev pub window_entry : Document → Pair → Entry
  window_entry d w = entry tree (candidate kind priors network d w)

  of_document : (d : Document) → Contains docs d → (ws : List Pair) → All (λ c. IsOfWindow window_entry docs (entry tree c)) (map (candidate kind priors network d) ws)
  of_document d there ws = All-map (λ c. IsOfWindow window_entry docs (entry tree c)) (candidate kind priors network d) ws (λ k w within. (d, get_or ws k w, there, refl))

  of_documents : (ds : List Document) → All (Contains docs) ds → All (λ c. IsOfWindow window_entry docs (entry tree c)) (flat_map (document_candidates kind priors network) ds)
  of_documents [] there = All-nil (λ c. IsOfWindow window_entry docs (entry tree c))
  of_documents (d ∷ ds) there =
      All-append (λ c. IsOfWindow window_entry docs (entry tree c)) (document_candidates kind priors network d) (flat_map (document_candidates kind priors network) ds)
      (of_document d (All-head (Contains docs) d ds there) (found_windows network.leaves network.range d))
      (of_documents ds (All-tail (Contains docs) d ds there))

  pub entries_apart : (filters : List FilterTree) → HaveOwnDocnos docs → TellsApart entry_order (map (entry tree) (candidates kind priors filters network docs))
  entries_apart filters own =
      windows_apart window_entry docs _ own (λ d w. (refl, refl, refl))
      (All-map (IsOfWindow window_entry docs) (entry tree) (candidates kind priors filters network docs)
      (of_documents (filter (λ d. list_all (passes d) filters) docs) (All-filter (λ d. list_all (passes d) filters) (Contains docs) docs (λ k d within. All-contains_itself docs k d within))))

-- ---- hits as entries

keyed_one : (tree : ScaledTree) (h : Hit) → h.key ≡ key_at LAST (hit_beliefs h) tree → entry tree (candidate_of h) ≡ entry_of h
keyed_one tree h e = λ i. record { key = sym e i; candidate = candidate_of h }

pub keyed : (tree : ScaledTree) (hits : List Hit) → All (λ hit. hit.key ≡ key_at LAST (hit_beliefs hit) tree) hits → map (entry tree) (map candidate_of hits) ≡ map entry_of hits
keyed tree [] keys = refl
keyed tree (h ∷ hs) keys = λ i.
    keyed_one tree h (keys 0 h (omega arith)) i ∷ keyed tree hs (All-tail (λ hit. hit.key ≡ key_at LAST (hit_beliefs hit) tree) h hs keys) i

pub sorted_entries : (hits : List Hit) → IsSortedBy (λ a b. is_lt (hit_order a b)) hits → IsSortedBy (λ a b. is_lt (entry_order a b)) (map entry_of hits)
sorted_entries [] up k d from within = absurd (omega (arith, within))
sorted_entries (h ∷ hs) up k d from within =
    let long = length-map (h ∷ hs) entry_of in
    let here : get_or (map entry_of (h ∷ hs)) k d ≡ entry_of (get_or (h ∷ hs) k h) = get_or-map entry_of (h ∷ hs) k h d (omega (arith, within, long)) in
    let next : get_or (map entry_of (h ∷ hs)) (k + 1) d ≡ entry_of (get_or (h ∷ hs) (k + 1) h) = get_or-map entry_of (h ∷ hs) (k + 1) h d (omega (arith, within, long)) in
    (λ i. is_lt (entry_order (next i) (here i))) ∙ up k h from (omega (arith, within, long))

-- The first k of a ranking are the answer.
pub ranking_told : (kind : RuleKind) (priors : List Prior) (q : CheckedTree) (docs : List Document) (hits : List Hit) (k : ℕ) → HaveOwnDocnos docs
    → IsAnswerBy kind priors q.filters (query_network q docs) docs k hits → map entry_of hits ≡ answer kind priors q k docs
ranking_told kind priors q docs hits k own r =
    let all = candidates kind priors q.filters (query_network q docs) docs in
    front_only entry_order entries_total k (map (entry q.tree) all) (map entry_of hits) (entries_apart kind priors (query_network q docs) q.tree docs q.filters own)
    (record {
      ranking = map entry_of r.0;
      same = subst (λ es. IsPermutation (map (entry q.tree) all) es) (keyed q.tree r.0 r.1.keys) (IsPermutation-map (entry q.tree) _ _ r.1.all);
      sorted = sorted_entries r.0 r.1.sorted;
      first = ap (map entry_of) r.2 ∙ sym (take-map entry_of k r.0);
    })

-- ---- documents of which no two have one docno

apart : (d : Document) (ds : List Document) (j : ℕ) (b : Document) → AllByRecursion (λ y. bytes_eq d.docno y ≡ false) (map (λ (x : Document). x.docno) ds) → j < length ds → get_or ds j b ≡ b → d.docno ≡ b.docno → ⊥
apart d [] j b all h is e = omega (arith, h)
apart d (x ∷ ds) zero b all h is e = true≢false (sym ((bytes_eq-Decides d.docno x.docno).1 (e ∙ sym (ap (λ (y : Document). y.docno) is))) ∙ all.0)
apart d (x ∷ ds) (suc j) b all h is e = apart d ds j b all.1 (omega (arith, h)) is e

own-at : (docs : List Document) → IsDistinct bytes_eq (map (λ (x : Document). x.docno) docs) → (i j : ℕ) (a b : Document) → i < length docs → get_or docs i a ≡ a → j < length docs → get_or docs j b ≡ b → a.docno ≡ b.docno → a ≡ b
unfolding IsDistinct
own-at [] distinct i j a b hi ei hj ej e = absurd (omega (arith, hi))
own-at (d ∷ ds) distinct zero zero a b hi ei hj ej e = sym ei ∙ ej
own-at (d ∷ ds) distinct zero (suc j) a b hi ei hj ej e = absurd (apart d ds j b distinct.0 (omega (arith, hj)) ej (ap (λ (y : Document). y.docno) ei ∙ e))
own-at (d ∷ ds) distinct (suc i) zero a b hi ei hj ej e = absurd (apart d ds i a distinct.0 (omega (arith, hi)) ei (ap (λ (y : Document). y.docno) ej ∙ sym e))
own-at (d ∷ ds) distinct (suc i) (suc j) a b hi ei hj ej e = own-at ds distinct.1 i j a b (omega (arith, hi)) ei (omega (arith, hj)) ej e

pub own-docnos : (docs : List Document) → IsDistinct bytes_eq (map (λ (x : Document). x.docno) docs) → HaveOwnDocnos docs
own-docnos docs distinct a b p q e = own-at docs distinct p.0 q.0 a b p.1 p.2 q.1 q.2 e
