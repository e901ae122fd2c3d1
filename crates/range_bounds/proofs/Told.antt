-- The bounds that a table tells are those of the definition.
use Rattle.std.proofs.Common.{◌≡◌, ◌<◌, ◌≤◌, ◌+◌, ℕ, zero, suc, List, [], ◌∷◌, ◌++◌, Option, None, Some, length, map, take, get_or, add-one, max, refl, ap, subst, ◌∙◌, arith}
use Rattle.std.specs.Prelude.{All, zip}
use Rattle.std.specs.List.{AllZip}
use Rattle.std.proofs.lemmas.List.{length-map, take_all}
use Rattle.ri_base.specs.Documents.{Document}
use Rattle.ri_base.specs.Ratio.{Ratio}
use Rattle.ri_base.specs.declared.hit.LeafStats.{LeafStats}
use Rattle.ri_base.specs.declared.query.Range.{Range}
use Rattle.smoothing.specs.Fractions.{fraction_of}
use Rattle.smoothing.specs.declared.rule.RuleKind.{RuleKind}
use Rattle.query_check.specs.Leaves.{LeafTree, extents, prior}
use Rattle.belief_nodes.specs.Priors.{Prior}
use Rattle.belief_nodes.proofs.Lists.{all_first, all_rest}
use Rattle.range_bounds.specs.Bounds.{AreBounds, IsLeafBound, IsToldBound, least_scored}
use Rattle.range_bounds.specs.Ranges.{least_length, range_documents}
use Rattle.range_bounds.specs.Tables.{AreCountsOf, IsTableOf, TellsLeaf, TellsRange, counts_at, names_of, terms_of, told_most}
use Rattle.range_bounds.specs.declared.range_counts.RangeCounts.{RangeCounts}
use Rattle.range_bounds.specs.declared.table.RangeTable.{RangeTable}

-- ---- the counts of a range

some_inside : (ranges : List (Option RangeCounts)) (range : ℕ) (counts : RangeCounts) → get_or ranges range None ≡ Some counts → range < length ranges
some_inside [] range counts e = absurd cc
some_inside (x ∷ xs) zero counts e = omega arith
some_inside (x ∷ xs) (suc range) counts e = let rest = some_inside xs range counts e in omega (arith, rest)

-- those that a table has are those of the documents
pub counts_told : (leaves : List LeafTree) (docs : List Document) (table : RangeTable) (range : ℕ) (counts : RangeCounts) → IsTableOf leaves docs table → counts_at table range ≡ Some counts
    → AreCountsOf leaves (terms_of table) (names_of table) (range_documents docs range) counts
counts_told leaves docs table range counts is_table e =
    let inside = some_inside table.ranges.items range counts e in
    subst (TellsRange leaves (terms_of table) (names_of table) (range_documents docs range)) e (is_table.each range (omega (arith, inside, is_table.few)))

-- ---- bounds

bound_told : (kind : RuleKind) (priors : List Prior) (range : Range) (table : RangeTable) (docs : List Document) (counts : RangeCounts) (l : LeafTree) (s : LeafStats) (r : Ratio) → counts.least ≡ least_length docs
    → TellsLeaf (terms_of table) (names_of table) docs counts l → IsToldBound kind priors range table counts l s r → IsLeafBound kind priors range docs l s r
bound_told kind priors range table docs counts (extents x c) s r least tells is =
    is ∙ ap (λ n. fraction_of kind (told_most table counts x) (max (least_scored range c n) (told_most table counts x)) s.cf s.total) least
    ∙ ap (λ n. fraction_of kind n (max (least_scored range c (least_length docs)) n) s.cf s.total) tells
bound_told kind priors range table docs counts (prior n) s r least tells is = is

module _ (kind : RuleKind) (priors : List Prior) (range : Range) (table : RangeTable) (counts : RangeCounts) where
  -- the bounds by the counts, as far as they are made
  abbrev pub AreToldBounds : List LeafTree → List LeafStats → List Ratio → Type 0
  AreToldBounds leaves stats bounds = AllZip (λ (leaf : LeafTree × LeafStats) r. IsToldBound kind priors range table counts leaf.0 leaf.1 r) (zip leaves stats) bounds

  pub bounds_told : (docs : List Document) (leaves : List LeafTree) (stats : List LeafStats) (bounds : List Ratio) → counts.least ≡ least_length docs
      → All (TellsLeaf (terms_of table) (names_of table) docs counts) leaves → AreToldBounds leaves stats bounds → AreBounds kind priors range docs leaves stats bounds
  bounds_told docs [] stats [] least tell told = tt
  bounds_told docs [] stats (r ∷ rs) least tell told = absurd told
  bounds_told docs (l ∷ ls) [] [] least tell told = tt
  bounds_told docs (l ∷ ls) [] (r ∷ rs) least tell told = absurd told
  bounds_told docs (l ∷ ls) (s ∷ ss) [] least tell told = absurd told
  bounds_told docs (l ∷ ls) (s ∷ ss) (r ∷ rs) least tell told =
      let Tells = TellsLeaf (terms_of table) (names_of table) docs counts in
      (bound_told kind priors range table docs counts l s r least (all_first Tells l ls tell) told.0, bounds_told docs ls ss rs least (all_rest Tells l ls tell) told.1)

  -- as many as leaves
  pub bounds_length : (leaves : List LeafTree) (stats : List LeafStats) (bounds : List Ratio) → length leaves ≤ length stats → AreToldBounds leaves stats bounds → length bounds ≡ length leaves
  bounds_length [] stats [] few told = refl
  bounds_length [] stats (r ∷ rs) few told = absurd told
  bounds_length (l ∷ ls) [] bounds few told = absurd (omega (arith, few))
  bounds_length (l ∷ ls) (s ∷ ss) [] few told = absurd told
  bounds_length (l ∷ ls) (s ∷ ss) (r ∷ rs) few told = let rest = bounds_length ls ss rs (omega (arith, few)) told.1 in omega (arith, rest)

  bounds_suc : (leaves : List LeafTree) (stats : List LeafStats) (bounds : List Ratio) (i : ℕ) (l : LeafTree) (s : LeafStats) (r : Ratio) → i < length leaves → i < length stats → l ≡ get_or leaves i l → s ≡ get_or stats i s
      → AreToldBounds (take i leaves) (take i stats) bounds → IsToldBound kind priors range table counts l s r → AreToldBounds (take (suc i) leaves) (take (suc i) stats) (bounds ++ r ∷ [])
  bounds_suc [] stats bounds i l s r inside inside' here here' h k = absurd (omega (arith, inside))
  bounds_suc (l' ∷ ls) [] bounds i l s r inside inside' here here' h k = absurd (omega (arith, inside'))
  bounds_suc (l' ∷ ls) (s' ∷ ss) [] zero l s r inside inside' here here' h k =
      (subst (λ x. IsToldBound kind priors range table counts x s' r) here (subst (λ x. IsToldBound kind priors range table counts l x r) here' k), tt)
  bounds_suc (l' ∷ ls) (s' ∷ ss) (b ∷ bs) zero l s r inside inside' here here' h k = absurd h
  bounds_suc (l' ∷ ls) (s' ∷ ss) [] (suc i) l s r inside inside' here here' h k = absurd h
  bounds_suc (l' ∷ ls) (s' ∷ ss) (b ∷ bs) (suc i) l s r inside inside' here here' h k = (h.0, bounds_suc ls ss bs i l s r (omega (arith, inside)) (omega (arith, inside')) here here' h.1 k)

  -- one leaf more
  pub bounds_more : (leaves : List LeafTree) (stats : List LeafStats) (bounds : List Ratio) (i : ℕ) (l : LeafTree) (s : LeafStats) (r : Ratio) → i < length leaves → i < length stats → l ≡ get_or leaves i l → s ≡ get_or stats i s
      → AreToldBounds (take i leaves) (take i stats) bounds → IsToldBound kind priors range table counts l s r → AreToldBounds (take (i + 1) leaves) (take (i + 1) stats) (bounds ++ r ∷ [])
  bounds_more leaves stats bounds i l s r inside inside' here here' h k = rw add-one (bounds_suc leaves stats bounds i l s r inside inside' here here' h k)

  -- all of them, where no leaf is left
  pub all_told : {L : Type 0} (tree : L → LeafTree) (items : List L) (leaves : List LeafTree) (stats : List LeafStats) (bounds : List Ratio) (i : ℕ) → map tree items ≡ leaves → length items ≤ i → length stats ≡ length leaves
      → AreToldBounds (take i leaves) (take i stats) bounds → AreToldBounds leaves stats bounds
  all_told tree items leaves stats bounds i are none each told =
      let long : length (map tree items) ≤ i = rw (length-map items tree) none in
      let end : length leaves ≤ i = subst (λ (ls : List LeafTree). length ls ≤ i) are long in
      subst (λ (ls : List LeafTree). AreToldBounds ls stats bounds) (take_all i leaves end) (subst (λ (ss : List LeafStats). AreToldBounds (take i leaves) ss bounds) (take_all i stats (omega (arith, end, each))) told)
