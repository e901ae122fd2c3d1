-- Entries of which the first are held, as the ranking that their rows stand for.
use Rattle.std.proofs.Common.{◌≡◌, ◌<◌, ℕ, ◌+◌, Bool, false, IfOk, Result, Ok, Err, List, [], ◌∷◌, ◌++◌, length, map, filter, flat_map, get_or, take, refl, sym, ap, subst, ◌∙◌, arith}
use Rattle.std.specs.List.{All, list_all}
use Rattle.std.specs.List.Sorted.{IsPermutation, IsSortedBy}
use Rattle.std.specs.Ordering.{is_lt}
use Rattle.std.proofs.lemmas.Grind.{flat_map-append}
use Rattle.std.proofs.lemmas.List.{get_or-map, length-map, map-append, take-map}
use Rattle.std.proofs.lemmas.List.Elements.{filter-append, All-append, All-head, All-map, All-nil, All-tail, All-weaker}
use Rattle.std.proofs.lemmas.List.Sorted.{IsPermutation-append_comm, IsPermutation-map}
use Rattle.log_chain.specs.Chain.{chain}
use Rattle.log_chain.specs.Progress.{Progress, digits_of}
use Rattle.log_chain.specs.declared.chain.TheConstants.{FIRST, LAST}
use Rattle.leaf_chains.specs.Chains.{AreAt}
use Rattle.ri_base.specs.Documents.{Document}
use Rattle.ri_base.specs.Query.{FilterTree}
use Rattle.ri_base.specs.Ratio.{ratio_of}
use Rattle.ri_base.specs.declared.fraction.Fraction.{Fraction}
use Rattle.ri_base.specs.declared.hit.Hit.{Hit}
use Rattle.smoothing.specs.declared.rule.RuleKind.{RuleKind}
use Rattle.belief_nodes.specs.Keys.{digits_at, key_at}
use Rattle.belief_nodes.specs.Network.{NetworkTree}
use Rattle.belief_nodes.specs.Priors.{Prior}
use Rattle.document_scoring.specs.Candidates.{Candidate, candidates, document_candidates, passes}
use Rattle.document_scoring.specs.Rows.{Adds, row_candidate}
use Rattle.document_scoring.specs.declared.scoring.Row.{Row}
use Rattle.first_few.specs.First.{IsFront}
use Rattle.bounded_keys.specs.Digits.{belief, early, late}
use Rattle.bounded_keys.specs.Entries.{IsEarly, by_key, by_leading, settled}
use Rattle.bounded_keys.specs.declared.entry.Entry.{Entry}
use Rattle.bounded_keys.specs.declared.entry.Settled.{Settled}
use Rattle.bounded_keys.proofs.Kepts.{Keeps-same}
use Rattle.bounded_keys.proofs.Levels.{early_beliefs, early_length, early_level, leading_total}
use Rattle.ranker.specs.First.{HoldsFirst, KeptEntries, WereOffered, early_of, key_by, late_of, scale_of, settled_candidate, window_of, window_order}
use Rattle.ranker.specs.Ranking.{IsAnswerBy, IsRankingBy, candidate_of, hit_order}
use Rattle.ranker.specs.declared.window.Window.{Window}
use Rattle.ranker.proofs.Fractions.{fractions_same}
use Rattle.ranker.proofs.Lists.{first_same, rest_same, unmapped}

-- ---- leaves at the first level and at the last

pub late_beliefs : (leaves : List Progress) → map belief (late leaves) ≡ map belief leaves
late_beliefs [] = refl
late_beliefs (a ∷ leaves) = ap (λ bs. belief a ∷ bs) (late_beliefs leaves)

late_digits : (fractions : List Fraction) → map digits_of (late (early fractions)) ≡ digits_at LAST (map ratio_of fractions)
late_digits [] = refl
late_digits (f ∷ fs) = ap (λ ds. (chain f.p f.q LAST).digits ∷ ds) (late_digits fs)

-- leaves at the first level are those of the fractions that they have
early_leaves : (leaves : List Progress) (fractions : List Fraction) → AreAt FIRST leaves → map belief leaves ≡ map ratio_of fractions → leaves ≡ early fractions
early_leaves [] [] at e = refl
early_leaves [] (f ∷ fs) at e = let short : length (map belief []) ≡ length (map ratio_of (f ∷ fs)) = ap length e in absurd (omega (arith, short))
early_leaves (a ∷ leaves) [] at e = let long : length (map belief (a ∷ leaves)) ≡ length (map ratio_of []) = ap length e in absurd (omega (arith, long))
early_leaves (a ∷ leaves) (f ∷ fs) at e =
    let same : belief a ≡ ratio_of f = first_same (belief a) (ratio_of f) (map belief leaves) (map ratio_of fs) e in
    let rest : leaves ≡ early fs = early_leaves leaves fs (All-tail (λ (b : Progress). b.level ≡ FIRST) a leaves at) (rest_same (belief a) (ratio_of f) (map belief leaves) (map ratio_of fs) e) in
    let level : a.level ≡ FIRST = All-head (λ (b : Progress). b.level ≡ FIRST) a leaves at in
    λ i. record { p = (same i).p; q = (same i).q; level = level i } ∷ rest i

-- ---- entries and what they are with all digits

module _ (network : NetworkTree) where
  -- an entry of a row's window and beliefs is the row's
  pub early_is : (row : Row) (x : Entry Window) → x.window ≡ window_of row → map belief x.leaves ≡ map ratio_of row.fractions → IsEarly (key_by network) (length network.leaves) x → x ≡ early_of network row
  early_is row x window beliefs is =
      let leaves : x.leaves ≡ early row.fractions = early_leaves x.leaves row.fractions is.first beliefs in
      let leading : x.leading ≡ key_by network (map digits_of (early row.fractions)) = is.leads ∙ ap (λ (ls : List Progress). key_by network (map digits_of ls)) leaves in
      λ i. record { leading = leading i; window = window i; leaves = leaves i }

  pub early_made : {E : Type 0} (row : Row) (made : Result (Entry Window) E) → IfOk made (λ x. x.window ≡ window_of row) → IfOk made (λ x. map belief x.leaves ≡ map ratio_of row.fractions)
      → IfOk made (λ x. IsEarly (key_by network) (length network.leaves) x) → IfOk made (λ x. x ≡ early_of network row)
  early_made row (Ok x) window beliefs is = early_is row x window beliefs is
  early_made row (Err e) window beliefs is = tt

  IsEarly-row : (row : Row) → length row.fractions ≡ length network.leaves → IsEarly (key_by network) (length network.leaves) (early_of network row)
  IsEarly-row row long = record { each = early_length row.fractions ∙ long; first = early_level row.fractions; leads = refl }

  pub rows_early : (rows : List Row) → All (λ row. length row.fractions ≡ length network.leaves) rows → All (IsEarly (key_by network) (length network.leaves)) (map (early_of network) rows)
  rows_early rows each =
      All-map (IsEarly (key_by network) (length network.leaves)) (early_of network) rows
      (All-weaker (λ row. length row.fractions ≡ length network.leaves) (λ row. IsEarly (key_by network) (length network.leaves) (early_of network row)) IsEarly-row rows each)

  late_key : (row : Row) → (late_of network row).key ≡ key_at LAST (map ratio_of row.fractions) network.tree
  late_key row = ap (key_by network) (late_digits row.fractions)

  settled_rows : (rows : List Row) → map (settled (key_by network)) (map (early_of network) rows) ≡ map (late_of network) rows
  settled_rows [] = refl
  settled_rows (r ∷ rows) = ap (λ (xs : List (Settled Window)). late_of network r ∷ xs) (settled_rows rows)

  -- ---- hits of rows

  abbrev hit_of : Row → Hit
  hit_of r = record { docno = r.docno; begin = r.begin; end = r.end; key = (late_of network r).key; fractions = r.fractions }

  abbrev row_of_hit : Hit → Row
  row_of_hit h = record { docno = h.docno; begin = h.begin; end = h.end; fractions = h.fractions }

  same_candidates : (rows : List Row) → map candidate_of (map hit_of rows) ≡ map row_candidate rows
  same_candidates [] = refl
  same_candidates (r ∷ rows) = ap (λ (cs : List Candidate). row_candidate r ∷ cs) (same_candidates rows)

  hit_is : (h : Hit) (r : Row) → candidate_of h ≡ settled_candidate (late_of network r) → h.key ≡ (late_of network r).key → h ≡ hit_of r
  hit_is h r same key =
      let told : map ratio_of h.fractions ≡ map ratio_of r.fractions = ap (λ (c : Candidate). c.beliefs) same ∙ late_beliefs (early r.fractions) ∙ early_beliefs r.fractions in
      let fractions : h.fractions ≡ r.fractions = fractions_same h.fractions r.fractions told in
      λ i. record { docno = (same i).docno; begin = (same i).begin; end = (same i).end; key = key i; fractions = fractions i }

  hits_are : (hits : List Hit) (rows : List Row) → map candidate_of hits ≡ map settled_candidate (map (late_of network) rows) → map (λ (h : Hit). h.key) hits ≡ map (λ (x : Settled Window). x.key) (map (late_of network) rows) → hits ≡ map hit_of rows
  hits_are [] [] e k = refl
  hits_are [] (r ∷ rows) e k = let short : length (map candidate_of []) ≡ length (map settled_candidate (map (late_of network) (r ∷ rows))) = ap length e in absurd (omega (arith, short))
  hits_are (h ∷ hits) [] e k = let long : length (map candidate_of (h ∷ hits)) ≡ length (map settled_candidate (map (late_of network) [])) = ap length e in absurd (omega (arith, long))
  hits_are (h ∷ hits) (r ∷ rows) e k =
      let one : h ≡ hit_of r = hit_is h r (first_same _ _ _ _ e) (first_same _ _ _ _ k) in
      let rest : hits ≡ map hit_of rows = hits_are hits rows (rest_same _ _ _ _ e) (rest_same _ _ _ _ k) in
      λ i. one i ∷ rest i

  sorted_hits : (rows : List Row) → IsSortedBy (λ a b. is_lt (by_key window_order a b)) (map (late_of network) rows) → IsSortedBy (λ a b. is_lt (hit_order a b)) (map hit_of rows)
  sorted_hits rows h = λ k d low high.
      let long : length (map hit_of rows) ≡ length rows = length-map rows hit_of in
      let also : length (map (late_of network) rows) ≡ length rows = length-map rows (late_of network) in
      let less : k + 1 < length rows = omega (arith, long, high) in
      let r : Row = row_of_hit d in
      let here : get_or (map hit_of rows) k d ≡ hit_of (get_or rows k r) = get_or-map hit_of rows k r d (omega (arith, less)) in
      let there : get_or (map hit_of rows) (k + 1) d ≡ hit_of (get_or rows (k + 1) r) = get_or-map hit_of rows (k + 1) r d less in
      let own : get_or (map (late_of network) rows) k (late_of network r) ≡ late_of network (get_or rows k r) = get_or-map (late_of network) rows k r (late_of network r) (omega (arith, less)) in
      let next : get_or (map (late_of network) rows) (k + 1) (late_of network r) ≡ late_of network (get_or rows (k + 1) r) = get_or-map (late_of network) rows (k + 1) r (late_of network r) less in
      let up : is_lt (by_key window_order (get_or (map (late_of network) rows) (k + 1) (late_of network r)) (get_or (map (late_of network) rows) k (late_of network r))) ≡ false = h k (late_of network r) low (omega (arith, also, less)) in
      let late_up : is_lt (by_key window_order (late_of network (get_or rows (k + 1) r)) (late_of network (get_or rows k r))) ≡ false =
      subst (λ (x : Settled Window). is_lt (by_key window_order (late_of network (get_or rows (k + 1) r)) x) ≡ false) own
      (subst (λ (x : Settled Window). is_lt (by_key window_order x (get_or (map (late_of network) rows) k (late_of network r))) ≡ false) next up) in
      subst (λ (x : Hit). is_lt (hit_order (get_or (map hit_of rows) (k + 1) d) x) ≡ false) (sym here)
      (subst (λ (x : Hit). is_lt (hit_order x (hit_of (get_or rows k r))) ≡ false) (sym there) late_up)

module _ (kind : RuleKind) (priors : List Prior) (filters : List FilterTree) (network : NetworkTree) where
  -- ---- candidates, document by document

  -- the candidates of documents, and then those of others
  pub candidates-append : (docs more : List Document)
      → candidates kind priors filters network (docs ++ more) ≡ candidates kind priors filters network docs ++ candidates kind priors filters network more
  candidates-append docs more =
      let f : Document → List Candidate = document_candidates kind priors network in
      let p : Document → Bool = λ d. list_all (passes d) filters in
      ap (flat_map f) (filter-append p docs more) ∙ flat_map-append f (filter p docs) (filter p more)

  -- as many rows as the document has candidates
  pub adds_length : (d : Document) (rows : List Row) → Adds kind priors filters network d [] rows → length rows ≡ length (candidates kind priors filters network (d ∷ []))
  adds_length d rows adds = ap length adds.behind ∙ sym (length-map adds.more row_candidate) ∙ ap length adds.candidates

  -- ---- the first of the candidates

  -- of no documents
  pub HoldsFirst-none : (most : ℕ) (kept : KeptEntries) → kept.most ≡ most → kept.scale ≡ scale_of network → WereOffered [] kept → HoldsFirst kind priors filters network [] most kept
  HoldsFirst-none most kept room scaled offered = record { rows = []; all = refl; each = All-nil (λ row. length row.fractions ≡ length network.leaves); room = room; scaled = scaled; offered = offered }

  -- with the rows of one more document
  pub HoldsFirst-more : (docs : List Document) (d : Document) (most : ℕ) (kept next : KeptEntries) (rows : List Row)
      → Adds kind priors filters network d [] rows → All (λ row. length row.fractions ≡ length network.leaves) rows → next.most ≡ kept.most → next.scale ≡ kept.scale
      → ((all : List (Entry Window)) → WereOffered all kept → WereOffered (map (early_of network) rows ++ all) next)
      → HoldsFirst kind priors filters network docs most kept → HoldsFirst kind priors filters network (docs ++ d ∷ []) most next
  HoldsFirst-more docs d most kept next rows adds long room scaled step h =
      let found : List Document → List Candidate = candidates kind priors filters network in
      let here : map row_candidate rows ≡ found (d ∷ []) = ap (map row_candidate) adds.behind ∙ adds.candidates in
      let old : List (Entry Window) = map (early_of network) h.rows in
      let new : List (Entry Window) = map (early_of network) rows in
      record {
        rows = h.rows ++ rows;
        all = map-append row_candidate h.rows rows
            ∙ ap (λ cs. cs ++ map row_candidate rows) h.all
            ∙ ap (λ cs. found docs ++ cs) here
            ∙ sym (candidates-append docs (d ∷ []));
        each = All-append (λ row. length row.fractions ≡ length network.leaves) h.rows rows h.each long;
        room = room ∙ h.room;
        scaled = scaled ∙ h.scaled;
        offered = subst (λ (xs : List (Entry Window)). WereOffered xs next) (sym (map-append (early_of network) h.rows rows))
            (Keeps-same by_leading leading_total (λ (x : Entry Window). x.leading) (λ a b. refl) next.most next.scale (new ++ old) (old ++ new) next.held next.near (IsPermutation-append_comm new old) (step old h.offered));
      }

  -- ---- the ranking that rows stand for

  IsRankingBy-rows : (docs : List Document) (rows sorted : List Row) → map row_candidate rows ≡ candidates kind priors filters network docs → IsPermutation rows sorted
      → IsSortedBy (λ a b. is_lt (by_key window_order a b)) (map (late_of network) sorted) → IsRankingBy kind priors filters network docs (map (hit_of network) sorted)
  IsRankingBy-rows docs rows sorted all moved up = record {
    all = subst (λ cs. IsPermutation cs (map candidate_of (map (hit_of network) sorted))) all
        (subst (λ cs. IsPermutation (map row_candidate rows) cs) (sym (same_candidates network sorted)) (IsPermutation-map row_candidate rows sorted moved));
    keys = All-map (λ (hit : Hit). hit.key ≡ key_at LAST (map ratio_of hit.fractions) network.tree) (hit_of network) sorted (λ k r inside. late_key network (get_or sorted k r));
    sorted = sorted_hits network sorted up;
  }

  -- the front of the first candidates is the answer
  pub IsAnswerBy-front : (docs : List Document) (most : ℕ) (kept : KeptEntries) (front : List (Settled Window)) (hits : List Hit)
      → map candidate_of hits ≡ map settled_candidate front → map (λ (h : Hit). h.key) hits ≡ map (λ (x : Settled Window). x.key) front
      → HoldsFirst kind priors filters network docs most kept
      → ((all : List (Entry Window)) → WereOffered all kept → All (IsEarly (key_by network) (length network.leaves)) all → IsFront (by_key window_order) kept.most (map (settled (key_by network)) all) front)
      → IsAnswerBy kind priors filters network docs most hits
  IsAnswerBy-front docs most kept front hits told keys h shown =
      let f : IsFront (by_key window_order) most (map (late_of network) h.rows) front =
      subst (λ (xs : List (Settled Window)). IsFront (by_key window_order) most xs front) (settled_rows network h.rows)
      (subst (λ k. IsFront (by_key window_order) k (map (settled (key_by network)) (map (early_of network) h.rows)) front) h.room (shown (map (early_of network) h.rows) h.offered (rows_early network h.rows h.each))) in
      let ranked = unmapped (late_of network) h.rows f.ranking f.same in
      let sorted : List Row = ranked.0 in
      let first : front ≡ map (late_of network) (take most sorted) = f.first ∙ ap (take most) (sym ranked.2) ∙ take-map (late_of network) most sorted in
      let are : hits ≡ map (hit_of network) (take most sorted) = hits_are network hits (take most sorted) (told ∙ ap (map settled_candidate) first) (keys ∙ ap (map (λ (x : Settled Window). x.key)) first) in (
        map (hit_of network) sorted,
        IsRankingBy-rows docs h.rows sorted h.all ranked.1 (subst (λ (xs : List (Settled Window)). IsSortedBy (λ a b. is_lt (by_key window_order a b)) xs) (sym ranked.2) f.sorted),
        are ∙ sym (take-map (hit_of network) most sorted),
      )
