-- The bounds of a range have one key, however their fractions are written.
use Rattle.std.proofs.Common.{◌≡◌, ◌<◌, ◌≤◌, ◌*◌, ℕ, zero, suc, true, false, is_some, List, [], ◌∷◌, Option, None, Some, Result, Ok, Err, IfOk, length, map, slice_get, refl, sym, ap, subst, ◌∙◌, arith}
use Rattle.std.specs.List.{All}
use Rattle.std.specs.Option.{option_map_or}
use Rattle.std.proofs.lemmas.Bool.{false≢true}
use Rattle.std.proofs.lemmas.List.Elements.{All-cons, All-contains, All-head, All-nil, All-tail}
use Rattle.log_chain.specs.declared.chain.TheConstants.{FIRST}
use Rattle.ri_base.specs.Documents.{Document}
use Rattle.ri_base.specs.Ratio.{IsBelief, Ratio, ratio_of}
use Rattle.ri_base.specs.declared.fraction.Fraction.{Fraction}
use Rattle.ri_base.specs.declared.hit.LeafStats.{LeafStats}
use Rattle.ri_base.specs.declared.query.Range.{Range}
use Rattle.smoothing.specs.declared.rule.RuleKind.{RuleKind}
use Rattle.query_check.specs.Leaves.{LeafTree, extents, prior}
use Rattle.belief_nodes.specs.Keys.{digits_at}
use Rattle.belief_nodes.specs.Network.{NetworkTree}
use Rattle.belief_nodes.specs.Order.{IsSame}
use Rattle.belief_nodes.specs.Priors.{IsGreatestOf, IsPrior, Prior, prior_at, prior_fractions}
use Rattle.belief_nodes.specs.Products.{greatest_of}
use Rattle.belief_nodes.proofs.Greatest.{greatest_is}
use Rattle.belief_nodes.proofs.Same.{digits_same}
use Rattle.range_bounds.specs.Bounds.{AreBounds, IsLeafBound}
use Rattle.range_bounds.specs.Ranges.{range_documents}
use Rattle.range_bounds.specs.Tables.{AreAbsent, IsTableOf, TellsRange, counts_at, has_counts, names_of, terms_of}
use Rattle.range_bounds.specs.declared.range_counts.RangeCounts.{RangeCounts}
use Rattle.range_bounds.specs.declared.table.RangeTable.{RangeTable}
use Rattle.range_bounds.proofs.Leads.{are_beliefs}
use Rattle.ranker.specs.First.{key_by}
use Rattle.ranker.specs.RangeKeys.{has_table, is_told, leaf_bound, leaf_bounds, range_key}

-- ---- whether a range is told

pub told_past : (tables : List RangeTable) (number range : ℕ) → length tables ≤ number → is_told tables number range ≡ false
told_past [] zero range past = refl
told_past [] (suc number) range past = refl
told_past (t ∷ tables) zero range past = absurd (omega (arith, past))
told_past (t ∷ tables) (suc number) range past = told_past tables number range (omega (arith, past))

pub told_without : (tables : List RangeTable) (number range : ℕ) (t : RangeTable) → slice_get tables number ≡ Some t → has_counts t range ≡ false → is_told tables number range ≡ false
told_without tables number range t is none = ap (λ o. option_map_or (λ (u : RangeTable). has_counts u range) o false) is ∙ none

pub told_with : (tables : List RangeTable) (number range : ℕ) (t : RangeTable) → slice_get tables number ≡ Some t → has_counts t range ≡ true → is_told tables number range ≡ true
told_with tables number range t is has = ap (λ o. option_map_or (λ (u : RangeTable). has_counts u range) o false) is ∙ has

pub no_table : (tables : List RangeTable) (number : ℕ) → length tables ≤ number → has_table tables number ≡ false
no_table [] zero past = refl
no_table [] (suc number) past = refl
no_table (t ∷ tables) zero past = absurd (omega (arith, past))
no_table (t ∷ tables) (suc number) past = no_table tables number (omega (arith, past))

-- a table without counts of a range tells that no leaf has an extent there
pub absent_told : (leaves : List LeafTree) (docs : List Document) (t : RangeTable) (range : ℕ) → IsTableOf leaves docs t → 64 * range < length docs → has_counts t range ≡ false → AreAbsent leaves (range_documents docs range)
absent_told leaves docs t range is inside none = go (counts_at t range) none (is.each range inside)
  where
    go : (counts : Option RangeCounts) → is_some counts ≡ false → TellsRange leaves (terms_of t) (names_of t) (range_documents docs range) counts → AreAbsent leaves (range_documents docs range)
    go None n h = h
    go (Some counts) n h = absurd (false≢true (sym n))

-- ---- priors

prior_told : (priors : List Prior) (n : ℕ) → All IsPrior priors → IsPrior (prior_at priors n)
prior_told [] n h = All-cons IsBelief (record { p = 1; q = 1 }) [] (record { positive = omega arith; at_most_one = omega arith; fits = omega arith }) (All-nil IsBelief)
prior_told (p ∷ priors) zero h = All-head IsPrior p priors h
prior_told (p ∷ priors) (suc n) h = prior_told priors n (All-tail IsPrior p priors h)

-- two greatest ones have one value
greatest_same : (all : List Ratio) (r s : Ratio) → IsGreatestOf all r → IsGreatestOf all s → r.p * s.q ≡ s.p * r.q
greatest_same all r s h g =
    let under : r.p * s.q ≤ s.p * r.q = All-contains (λ (x : Ratio). x.p * s.q ≤ s.p * x.q) all r g.most h.one_of in
    let over : s.p * r.q ≤ r.p * s.q = All-contains (λ (x : Ratio). x.p * r.q ≤ r.p * x.q) all s h.most g.one_of in
    omega (arith, under, over)

prior_same : (p : Prior) (r : Ratio) → IsPrior p → IsGreatestOf (prior_fractions p) r → IsBelief (greatest_of (prior_fractions p)) × (r.p * (greatest_of (prior_fractions p)).q ≡ (greatest_of (prior_fractions p)).p * r.q)
prior_same p r h is =
    let all : List Ratio = prior_fractions p in
    let g = greatest_is p.rest _ (All-head IsBelief p.rest _ h) (All-tail IsBelief p.rest _ h) in
    (g.1, greatest_same all r (greatest_of all) is g.0)

-- ---- bounds

module _ (kind : RuleKind) (priors : List Prior) (range : Range) (docs : List Document) (told : All IsPrior priors) where
  leaf_same : (leaf : LeafTree) (stats : LeafStats) (r : Ratio) → IsBelief r → IsLeafBound kind priors range docs leaf stats r
      → IsBelief (leaf_bound kind priors range docs leaf stats) × (r.p * (leaf_bound kind priors range docs leaf stats).q ≡ (leaf_bound kind priors range docs leaf stats).p * r.q)
  leaf_same (extents x c) stats r h is = (subst IsBelief is h, subst (λ (b : Ratio). r.p * b.q ≡ b.p * r.q) is refl)
  leaf_same (prior n) stats r h is = prior_same (prior_at priors n) r (prior_told priors n told) is

  bounds_same : (leaves : List LeafTree) (stats : List LeafStats) (bounds : List Ratio) → All IsBelief bounds → AreBounds kind priors range docs leaves stats bounds
      → All IsBelief (leaf_bounds kind priors range docs leaves stats) × IsSame bounds (leaf_bounds kind priors range docs leaves stats)
  bounds_same [] stats [] h are = (All-nil IsBelief, tt)
  bounds_same [] stats (r ∷ bounds) h are = absurd are
  bounds_same (l ∷ leaves) [] [] h are = (All-nil IsBelief, tt)
  bounds_same (l ∷ leaves) [] (r ∷ bounds) h are = absurd are
  bounds_same (l ∷ leaves) (s ∷ stats) [] h are = absurd are
  bounds_same (l ∷ leaves) (s ∷ stats) (r ∷ bounds) h are =
      let one = leaf_same l s r (All-head IsBelief r bounds h) are.0 in
      let rest = bounds_same leaves stats bounds (All-tail IsBelief r bounds h) are.1 in
      (All-cons IsBelief (leaf_bound kind priors range docs l s) (leaf_bounds kind priors range docs leaves stats) one.0 rest.0, (one.1, rest.1))

pub key-is : {E : Type 0} (kind : RuleKind) (priors : List Prior) (network : NetworkTree) (docs : List Document) (range : ℕ) (bounds : List Fraction) (key : Result ℕ E) → All IsPrior priors
    → IfOk key (λ k. k ≡ key_by network (digits_at FIRST (map ratio_of bounds))) → AreBounds kind priors network.range (range_documents docs range) network.leaves network.stats (map ratio_of bounds)
    → IfOk key (λ k. k ≡ range_key kind priors network docs range)
key-is kind priors network docs range bounds (Ok k) told is are =
    let same = bounds_same kind priors network.range (range_documents docs range) told network.leaves network.stats (map ratio_of bounds) (are_beliefs bounds) are in
    is ∙ ap (key_by network) (digits_same (map ratio_of bounds) (leaf_bounds kind priors network.range (range_documents docs range) network.leaves network.stats) FIRST (are_beliefs bounds) same.0 same.1)
key-is kind priors network docs range bounds (Err e) told is are = tt
