-- A search asks the plugs for no more than the priors tell.
use Rattle.std.proofs.Common.{◌≡◌, ◌≤◌, ◌/◌, ℕ, List, [], ◌∷◌, length, map, ap, refl, sym, subst, ◌∙◌, Option, true}
use Rattle.std.specs.Prelude.{⊤, flat_map, zip}
use Rattle.std.specs.List.{All, filter, list_all}
use Rattle.std.specs.List.Sorted.{IsPermutation}
use Rattle.std.proofs.lemmas.List.Elements.{All-head, All-tail}
use Rattle.log_chain.specs.declared.chain.TheConstants.{FIRST}
use Rattle.ri_base.specs.Collection.{document_at}
use Rattle.ri_base.specs.Documents.{Document}
use Rattle.ri_base.specs.Pair.{Pair}
use Rattle.ri_base.specs.Query.{FilterTree}
use Rattle.ri_base.specs.Ratio.{IsBelief, Ratio}
use Rattle.ri_base.specs.declared.hit.LeafStats.{LeafStats}
use Rattle.ri_base.specs.declared.query.Range.{Range}
use Rattle.store_ends.specs.Files.{Files}
use Rattle.smoothing.specs.declared.rule.RuleKind.{RuleKind}
use Rattle.query_check.specs.Leaves.{LeafTree, extents, prior}
use Rattle.belief_nodes.specs.Keys.{key_at}
use Rattle.belief_nodes.specs.Network.{NetworkTree, network_tree}
use Rattle.belief_nodes.specs.Priors.{Prior, prior_at, prior_fraction, prior_fractions}
use Rattle.belief_nodes.specs.Products.{greatest_of}
use Rattle.disk_index.specs.Parts.{reads}
use Rattle.document_scoring.specs.Candidates.{Candidate, beliefs, candidate, candidates, found_windows, leaf_belief, passes}
use Rattle.range_bounds.specs.Bounds.{belief_in, beliefs_in}
use Rattle.range_bounds.specs.Ranges.{range_documents}
use Rattle.range_bounds.specs.declared.table.RangeTable.{RangeTable}
use Rattle.ranker.specs.Held.{IsHeld}
use Rattle.ranker.specs.Least.{AreFrom}
use Rattle.ranker.specs.Passed.{IsKnown, part_at, passed}
use Rattle.ranker.specs.RangeKeys.{leaf_bound, range_key}
use Rattle.ranker.specs.Ranking.{candidate_of}
use Rattle.ranker.specs.Searches.{IsTaken, filters_of}
use Rattle.ranker.specs.declared.held.Held.{Held}
use Rattle.ranker.specs.declared.held.Held.TheVariants.{Open, Ended}
use Rattle.ranker.specs.declared.place.Ahead.{Ahead}
use Rattle.ranker.specs.declared.search.Search.{Search}

-- two priors tell the same
pub record AreAlike (p q : Prior) : Type 0 where
  pub rows : p.rows ≡ q.rows
  pub steps : p.steps ≡ q.steps
  pub rest : p.rest ≡ q.rest

pub alike-same : (p q : Prior) → p ≡ q → AreAlike p q
alike-same p q same = record {
  rows = ap (λ (x : Prior). x.rows) same;
  steps = ap (λ (x : Prior). x.steps) same;
  rest = ap (λ (x : Prior). x.rest) same;
}

pub alike-turned : (p q : Prior) → AreAlike p q → AreAlike q p
alike-turned p q alike = record { rows = sym alike.rows; steps = sym alike.steps; rest = sym alike.rest }

pub alike-then : (p q r : Prior) → AreAlike p q → AreAlike q r → AreAlike p r
alike-then p q r one two = record { rows = one.rows ∙ two.rows; steps = one.steps ∙ two.steps; rest = one.rest ∙ two.rest }

fraction-alike : (p q : Prior) → AreAlike p q → (docno : List ℕ) (tokens : ℕ) → prior_fraction p docno tokens ≡ prior_fraction q docno tokens
fraction-alike p q alike docno tokens = λ i. prior_fraction (record { rows = alike.rows i; steps = alike.steps i; rest = alike.rest i; is_table = true }) docno tokens

greatest-alike : (p q : Prior) → AreAlike p q → greatest_of (prior_fractions p) ≡ greatest_of (prior_fractions q)
greatest-alike p q alike = λ i. greatest_of (prior_fractions (record { rows = alike.rows i; steps = alike.steps i; rest = alike.rest i; is_table = true }))

-- of a leaf the two tell the same
abbrev pub TellsAlike : List Prior → List Prior → LeafTree → Type 0
TellsAlike a b (extents x context) = ⊤
TellsAlike a b (prior n) = AreAlike (prior_at a n) (prior_at b n)

module _ (kind : RuleKind) (a b : List Prior) where
  belief-alike : (d : Document) (w : Pair) (leaf : LeafTree) (stats : LeafStats) → TellsAlike a b leaf → leaf_belief kind a d w leaf stats ≡ leaf_belief kind b d w leaf stats
  belief-alike d w (extents x context) stats alike = refl
  belief-alike d w (prior n) stats alike = fraction-alike (prior_at a n) (prior_at b n) alike d.docno (length d.tokens)

  belief_in-alike : (d : Document) (w : Pair) (leaf : LeafTree) (stats : LeafStats) → TellsAlike a b leaf → belief_in kind a d w leaf stats ≡ belief_in kind b d w leaf stats
  belief_in-alike d w (extents x context) stats alike = refl
  belief_in-alike d w (prior n) stats alike = fraction-alike (prior_at a n) (prior_at b n) alike d.docno (length d.tokens)

  -- what is told of each leaf is the same where it is so of one
  each-alike : (f g : LeafTree → LeafStats → Ratio) → ((leaf : LeafTree) (stats : LeafStats) → TellsAlike a b leaf → f leaf stats ≡ g leaf stats) → (leaves : List LeafTree) (stats : List LeafStats) → All (TellsAlike a b) leaves
      → map (λ (l : LeafTree × LeafStats). f l.0 l.1) (zip leaves stats) ≡ map (λ (l : LeafTree × LeafStats). g l.0 l.1) (zip leaves stats)
  each-alike f g one [] stats alike = refl
  each-alike f g one (l ∷ ls) [] alike = refl
  each-alike f g one (l ∷ ls) (s ∷ ss) alike = λ i.
      one l s (All-head (TellsAlike a b) l ls alike) i ∷ each-alike f g one ls ss (All-tail (TellsAlike a b) l ls alike) i

  beliefs-alike : (d : Document) (w : Pair) (leaves : List LeafTree) (stats : List LeafStats) → All (TellsAlike a b) leaves → beliefs kind a leaves stats d w ≡ beliefs kind b leaves stats d w
  beliefs-alike d w = each-alike (leaf_belief kind a d w) (leaf_belief kind b d w) (belief-alike d w)

  beliefs_in-alike : (d : Document) (w : Pair) (leaves : List LeafTree) (stats : List LeafStats) → All (TellsAlike a b) leaves → beliefs_in kind a d w leaves stats ≡ beliefs_in kind b d w leaves stats
  beliefs_in-alike d w = each-alike (belief_in kind a d w) (belief_in kind b d w) (belief_in-alike d w)

  candidate-alike : (network : NetworkTree) → All (TellsAlike a b) network.leaves → (d : Document) (w : Pair) → candidate kind a network d w ≡ candidate kind b network d w
  candidate-alike network alike d w = λ i. record { docno = d.docno; begin = w.begin; end = w.end; beliefs = beliefs-alike d w network.leaves network.stats alike i }

  pub candidates-alike : (filters : List FilterTree) (network : NetworkTree) → All (TellsAlike a b) network.leaves → (docs : List Document) → candidates kind a filters network docs ≡ candidates kind b filters network docs
  candidates-alike filters network alike docs = λ i.
      flat_map (λ d. map (λ w. candidate-alike network alike d w i) (found_windows network.leaves network.range d)) (filter (λ d. list_all (passes d) filters) docs)

  held-alike : (filters : List FilterTree) (network : NetworkTree) (docs : List Document) (most : ℕ) → All (TellsAlike a b) network.leaves → (h : Held) → IsHeld kind a filters network docs most h → IsHeld kind b filters network docs most h
  held-alike filters network docs most alike (Open few) held = record { rows = held.rows; all = held.all ∙ candidates-alike filters network alike docs; each = held.each; room = held.room; scaled = held.scaled; offered = held.offered }
  held-alike filters network docs most alike (Ended hits) held =
      (held.0, record { all = subst (λ (cs : List Candidate). IsPermutation cs (map candidate_of held.0)) (candidates-alike filters network alike docs) held.1.all; keys = held.1.keys; sorted = held.1.sorted }, held.2)

  from-alike : (network : NetworkTree) → All (TellsAlike a b) network.leaves → (least : ℕ) (d : Document) → AreFrom kind a network least d → AreFrom kind b network least d
  from-alike network alike least d from = λ w has.
      let same = beliefs_in-alike d w network.leaves network.stats alike in
      record {
        beliefs = subst (λ (qs : List Ratio). All IsBelief qs) same (from w has).beliefs;
        leads = subst (λ (qs : List Ratio). least ≤ key_at FIRST qs network.tree) same (from w has).leads;
      }

  bound-alike : (range : Range) (docs : List Document) (leaf : LeafTree) (stats : LeafStats) → TellsAlike a b leaf → leaf_bound kind a range docs leaf stats ≡ leaf_bound kind b range docs leaf stats
  bound-alike range docs (extents x context) stats alike = refl
  bound-alike range docs (prior n) stats alike = greatest-alike (prior_at a n) (prior_at b n) alike

  key-alike : (network : NetworkTree) → All (TellsAlike a b) network.leaves → (docs : List Document) (range : ℕ) → range_key kind a network docs range ≡ range_key kind b network docs range
  key-alike network alike docs range = ap (λ qs. key_at FIRST qs network.tree)
      (each-alike (leaf_bound kind a network.range (range_documents docs range)) (leaf_bound kind b network.range (range_documents docs range)) (bound-alike network.range (range_documents docs range)) network.leaves network.stats alike)

  known-alike : (filters : List FilterTree) (network : NetworkTree) (tables : List RangeTable) (number : ℕ) (docs : List Document) (id : ℕ) (ahead : Ahead) → All (TellsAlike a b) network.leaves
      → IsKnown kind a filters network tables number docs id ahead → IsKnown kind b filters network tables number docs id ahead
  known-alike filters network tables number docs id ahead alike known = record {
    may = known.may;
    least = λ n i is from end. from-alike network alike n (document_at docs i) (known.least n i is from end);
    key = λ n i is from end. known.key n i is from end ∙ key-alike network alike docs (i / 64);
    told = known.told;
    span = known.span;
  }

  -- What a search has taken by the one is so by the other.
  pub taken-alike : (told : Option Files) (s : Search) → All (TellsAlike a b) (network_tree s.network).leaves → IsTaken kind a told s → IsTaken kind b told s
  taken-alike told s alike taken =
      let docs = reads told (part_at s.snapshot s.at.part).source in
      record {
        held = held-alike (filters_of s) (network_tree s.network) (passed told s.snapshot s.at) s.most alike s.held taken.held;
        ahead = record {
          here = known-alike (filters_of s) (network_tree s.network) s.tables.items s.at.part docs s.at.id s.at.ahead alike taken.ahead.here;
          each = taken.ahead.each;
        };
        blocks = taken.blocks;
      }
