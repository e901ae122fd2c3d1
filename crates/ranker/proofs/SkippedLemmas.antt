-- Rows of candidates that aren't looked at, whose windows' beliefs are known to be such, with keys that are at least a number.
use Rattle.std.proofs.Common.{◌≡◌, ◌≤◌, ℕ, List, [], ◌∷◌, length, map, filter, flat_map, get_or, refl, sym, ap, subst, ◌∙◌, arith}
use Rattle.std.specs.Prelude.{All, Contains, zip}
use Rattle.std.specs.List.{list_all, list_any}
use Rattle.std.proofs.lemmas.List.{get_or_default, length-map}
use Rattle.std.proofs.lemmas.List.Concat.{flat_map-cons}
use Rattle.std.proofs.lemmas.List.Elements.{All-append, All-cons, All-filter, All-head, All-map, All-nil, All-tail}
use Rattle.log_chain.specs.Chain.{chain}
use Rattle.log_chain.specs.Progress.{digits_of}
use Rattle.log_chain.specs.declared.chain.TheConstants.{FIRST}
use Rattle.ri_base.specs.Documents.{Document}
use Rattle.ri_base.specs.Pair.{Pair}
use Rattle.ri_base.specs.Query.{FilterTree}
use Rattle.ri_base.specs.Ratio.{IsBelief, Ratio, ratio_of}
use Rattle.ri_base.specs.declared.fraction.Fraction.{Fraction}
use Rattle.ri_base.specs.declared.hit.LeafStats.{LeafStats}
use Rattle.smoothing.specs.declared.rule.RuleKind.{RuleKind}
use Rattle.query_check.specs.Leaves.{LeafTree, extents, prior}
use Rattle.belief_nodes.specs.Keys.{digits_at, key_at}
use Rattle.belief_nodes.specs.Network.{NetworkTree}
use Rattle.belief_nodes.specs.Priors.{Prior}
use Rattle.bounded_keys.specs.Digits.{early}
use Rattle.windows.specs.Windows.{windows}
use Rattle.document_scoring.specs.Candidates.{Candidate, beliefs, candidate, candidates, document_candidates, leaf_belief, occurs, passes}
use Rattle.document_scoring.specs.Rows.{row_candidate}
use Rattle.document_scoring.specs.declared.scoring.Row.{Row}
use Rattle.range_bounds.specs.Bounds.{belief_in, beliefs_in}
use Rattle.ranker.specs.First.{early_of, key_by}
use Rattle.ranker.specs.Least.{AreFrom, IsWindowFrom}

-- ---- the beliefs of a candidate are those of its window

belief_same : (kind : RuleKind) (priors : List Prior) (d : Document) (w : Pair) (l : LeafTree) (s : LeafStats) → leaf_belief kind priors d w l s ≡ belief_in kind priors d w l s
belief_same kind priors d w (extents x c) s = refl
belief_same kind priors d w (prior n) s = refl

map_same : (kind : RuleKind) (priors : List Prior) (d : Document) (w : Pair) (ls : List (LeafTree × LeafStats))
    → map (λ l. leaf_belief kind priors d w l.0 l.1) ls ≡ map (λ l. belief_in kind priors d w l.0 l.1) ls
map_same kind priors d w [] = refl
map_same kind priors d w (l ∷ ls) =
    ap (λ r. r ∷ map (λ (m : LeafTree × LeafStats). leaf_belief kind priors d w m.0 m.1) ls) (belief_same kind priors d w l.0 l.1)
    ∙ ap (λ rs. belief_in kind priors d w l.0 l.1 ∷ rs) (map_same kind priors d w ls)

beliefs_same : (kind : RuleKind) (priors : List Prior) (leaves : List LeafTree) (stats : List LeafStats) (d : Document) (w : Pair) → beliefs kind priors leaves stats d w ≡ beliefs_in kind priors d w leaves stats
beliefs_same kind priors leaves stats d w = map_same kind priors d w (zip leaves stats)

zip_length : (leaves : List LeafTree) (stats : List LeafStats) → length leaves ≤ length stats → length (zip leaves stats) ≡ length leaves
zip_length [] [] h = refl
zip_length [] (s ∷ ss) h = refl
zip_length (l ∷ ls) [] h = absurd (omega (arith, h))
zip_length (l ∷ ls) (s ∷ ss) h = let rest = zip_length ls ss (omega (arith, h)) in omega (arith, rest)

-- ---- candidates

-- a candidate with so many beliefs, whose key at the first level is at least a number
pub record IsFrom (network : NetworkTree) (least : ℕ) (c : Candidate) : Type 0 where
  pub beliefs : All IsBelief c.beliefs
  pub each : length c.beliefs ≡ length network.leaves
  pub leads : least ≤ key_at FIRST c.beliefs network.tree

-- what holds of each member holds of all
all_of : {X : Type 0} (P : X → Type 0) (xs : List X) → ((x : X) → Contains xs x → P x) → All P xs
all_of P xs h i d inside = h (get_or xs i d) (i, inside, sym (get_or_default xs i d (get_or xs i d) inside))

module _ (kind : RuleKind) (priors : List Prior) (filters : List FilterTree) (network : NetworkTree) (least : ℕ) (summed : length network.leaves ≤ length network.stats) where
  candidate_from : (d : Document) (w : Pair) → IsWindowFrom kind priors network least d w → IsFrom network least (candidate kind priors network d w)
  candidate_from d w h =
      let same = beliefs_same kind priors network.leaves network.stats d w in
      record {
        beliefs = subst (All IsBelief) (sym same) h.beliefs;
        each = length-map (zip network.leaves network.stats) (λ l. leaf_belief kind priors d w l.0 l.1) ∙ zip_length network.leaves network.stats summed;
        leads = subst (λ (rs : List Ratio). least ≤ key_at FIRST rs network.tree) (sym same) h.leads;
      }

  document_from : (d : Document) → AreFrom kind priors network least d → All (IsFrom network least) (document_candidates kind priors network d)
  document_from d h =
      All-map (IsFrom network least) (candidate kind priors network d) _
      (All-filter (λ w. list_any (occurs d w) network.leaves) (λ w. IsFrom network least (candidate kind priors network d w)) (windows network.range (length d.tokens) d.fields)
      (all_of (λ w. IsFrom network least (candidate kind priors network d w)) (windows network.range (length d.tokens) d.fields) (λ w is. candidate_from d w (h w is))))

  all_from : (docs : List Document) → All (AreFrom kind priors network least) docs → All (IsFrom network least) (flat_map (document_candidates kind priors network) docs)
  all_from [] h = All-nil (IsFrom network least)
  all_from (d ∷ ds) h =
      subst (All (IsFrom network least)) (sym (flat_map-cons (document_candidates kind priors network) d ds))
      (All-append (IsFrom network least) (document_candidates kind priors network d) (flat_map (document_candidates kind priors network) ds)
      (document_from d (All-head (AreFrom kind priors network least) d ds h)) (all_from ds (All-tail (AreFrom kind priors network least) d ds h)))

  candidates_from : (docs : List Document) → All (AreFrom kind priors network least) docs → All (IsFrom network least) (candidates kind priors filters network docs)
  candidates_from docs h = all_from (filter (λ d. list_all (passes d) filters) docs) (All-filter (λ d. list_all (passes d) filters) (AreFrom kind priors network least) docs h)

-- ---- rows

abbrev fraction_with : (r : Ratio) → IsBelief r → Fraction
fraction_with r h = record { p = r.p; q = r.q; positive = h.positive; at_most_one = h.at_most_one; fits = h.fits }

fractions_with : (rs : List Ratio) → All IsBelief rs → List Fraction
fractions_with [] h = []
fractions_with (r ∷ rs) h = fraction_with r (All-head IsBelief r rs h) ∷ fractions_with rs (All-tail IsBelief r rs h)

fractions_are : (rs : List Ratio) (h : All IsBelief rs) → map ratio_of (fractions_with rs h) ≡ rs
unfolding fractions_with
fractions_are [] h = refl
fractions_are (r ∷ rs) h = ap (λ qs. r ∷ qs) (fractions_are rs (All-tail IsBelief r rs h))

-- the digits of the first level, of fractions and of what they are
early_digits : (fs : List Fraction) → map digits_of (early fs) ≡ digits_at FIRST (map ratio_of fs)
early_digits [] = refl
early_digits (f ∷ fs) = ap (λ ds. (chain f.p f.q FIRST).digits ∷ ds) (early_digits fs)

-- rows of candidates, each with so many beliefs and with a key at the first level of at least a number
pub record AreRowsFrom (network : NetworkTree) (least : ℕ) (cs : List Candidate) : Type 0 where
  pub rows : List Row
  pub all : map row_candidate rows ≡ cs
  pub each : All (λ row. length row.fractions ≡ length network.leaves) rows
  pub leads : All (λ x. least ≤ x.leading) (map (early_of network) rows)

module _ (network : NetworkTree) (least : ℕ) where
  abbrev row_with : (c : Candidate) → IsFrom network least c → Row
  row_with c h = record { docno = c.docno; begin = c.begin; end = c.end; fractions = fractions_with c.beliefs h.beliefs }

  row_is : (c : Candidate) (h : IsFrom network least c) → row_candidate (row_with c h) ≡ c
  row_is c h = ap (λ rs. record { docno = c.docno; begin = c.begin; end = c.end; beliefs = rs }) (fractions_are c.beliefs h.beliefs)

  row_each : (c : Candidate) (h : IsFrom network least c) → length (row_with c h).fractions ≡ length network.leaves
  row_each c h = sym (length-map (fractions_with c.beliefs h.beliefs) ratio_of) ∙ ap length (fractions_are c.beliefs h.beliefs) ∙ h.each

  row_leads : (c : Candidate) (h : IsFrom network least c) → least ≤ (early_of network (row_with c h)).leading
  row_leads c h =
      let digits : map digits_of (early (fractions_with c.beliefs h.beliefs)) ≡ digits_at FIRST c.beliefs = early_digits (fractions_with c.beliefs h.beliefs) ∙ ap (digits_at FIRST) (fractions_are c.beliefs h.beliefs) in
      subst (λ ds. least ≤ key_by network ds) (sym digits) h.leads

  rows_from : (cs : List Candidate) → All (IsFrom network least) cs → AreRowsFrom network least cs
  rows_from [] h = record { rows = []; all = refl; each = All-nil (λ (row : Row). length row.fractions ≡ length network.leaves); leads = All-nil (λ x. least ≤ x.leading) }
  rows_from (c ∷ cs) h =
      let here = All-head (IsFrom network least) c cs h in
      let rest = rows_from cs (All-tail (IsFrom network least) c cs h) in
      record {
        rows = row_with c here ∷ rest.rows;
        all = ap (λ d. d ∷ map row_candidate rest.rows) (row_is c here) ∙ ap (λ ds. c ∷ ds) rest.all;
        each = All-cons (λ (row : Row). length row.fractions ≡ length network.leaves) (row_with c here) rest.rows (row_each c here) rest.each;
        leads = All-cons (λ x. least ≤ x.leading) (early_of network (row_with c here)) (map (early_of network) rest.rows) (row_leads c here) rest.leads;
      }

-- The candidates of a document: where in each of its windows the beliefs are such, and their key at the first level is at least a number,
-- there are rows of them with keys of at least that number.
pub document_rows : (kind : RuleKind) (priors : List Prior) (filters : List FilterTree) (network : NetworkTree) (least : ℕ) → length network.leaves ≤ length network.stats → (d : Document) → AreFrom kind priors network least d
    → AreRowsFrom network least (candidates kind priors filters network (d ∷ []))
document_rows kind priors filters network least summed d from =
    rows_from network least (candidates kind priors filters network (d ∷ []))
    (candidates_from kind priors filters network least summed (d ∷ []) (All-cons (AreFrom kind priors network least) d [] from (All-nil (AreFrom kind priors network least))))
