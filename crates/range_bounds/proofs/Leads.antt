-- The beliefs in each window of each document of a range are such, and their key is at least that of the bounds.
use Rattle.std.proofs.Common.{◌≡◌, ◌<◌, ◌≤◌, ◌+◌, ◌*◌, ◌^◌, ℕ, zero, suc, max, List, [], ◌∷◌, length, map, get_or, ap, arith, mul-le-mul}
use Rattle.std.specs.Prelude.{All, Contains}
use Rattle.std.proofs.lemmas.List.Elements.{All-cons, All-contains, All-map, All-nil}
use Rattle.ri_base.specs.Documents.{Document, IsDocument}
use Rattle.ri_base.specs.Pair.{Pair}
use Rattle.ri_base.specs.Ratio.{IsBelief, Ratio, ratio_of}
use Rattle.ri_base.specs.declared.fraction.Fraction.{Fraction}
use Rattle.ri_base.specs.declared.hit.LeafStats.{LeafStats}
use Rattle.ri_base.specs.declared.query.Range.{Range}
use Rattle.extent_evaluation.specs.Counts.{len, tf}
use Rattle.smoothing.specs.Counts.{AreCounts}
use Rattle.smoothing.specs.Fractions.{dirichlet, fraction_of}
use Rattle.smoothing.specs.declared.rule.RuleKind.{RuleKind}
use Rattle.smoothing.specs.declared.rule.RuleKind.TheVariants.{Dirichlet}
use Rattle.smoothing.proofs.Dirichlets.{at_most_one, positive}
use Rattle.query_check.specs.Leaves.{LeafTree, extents, prior}
use Rattle.query_check.specs.Trees.{ScaledTree}
use Rattle.belief_nodes.specs.Keys.{key_at}
use Rattle.belief_nodes.specs.Leaves.{AreLeafStats}
use Rattle.belief_nodes.specs.Priors.{IsPrior, Prior, prior_at}
use Rattle.belief_nodes.proofs.LeafBeliefs.{prior_kept}
use Rattle.belief_nodes.proofs.Lists.{all_first, all_rest}
use Rattle.windows.specs.Windows.{windows}
use Rattle.range_bounds.specs.Bounds.{AreBounds, belief_in, beliefs_in}
use Rattle.range_bounds.specs.Tables.{AreFormed}
use Rattle.range_bounds.proofs.Covers.{all_covered, window_counts, windows_end}
use Rattle.range_bounds.proofs.Falls.{key_falls}

-- ---- of a rule whose belief with the greatest numbers is a fraction of the program each belief is one

greatest_tells : (mu tf len cf total : ℕ) (f : Fraction) → ratio_of f ≡ dirichlet mu 0 (2 ^ 20) 0 (2 ^ 29) → AreCounts tf len cf total → IsBelief (dirichlet mu tf len cf total)
greatest_tells mu tf len cf total f is c =
    let background : f.p ≡ 2 * max (2 ^ 29) 1 * 0 + mu * max (2 * 0) 1 = ap (λ (r : Ratio). r.p) is in
    let whole : f.q ≡ 2 * max (2 ^ 29) 1 * (2 ^ 20 + mu) = ap (λ (r : Ratio). r.q) is in
    let some : 0 < mu = omega (arith, background, f.positive) in
    let words : 2 * max total 1 ≤ 2 * max (2 ^ 29) 1 = omega (arith, c.few) in
    let room : len + mu ≤ 2 ^ 20 + mu = omega (arith, c.short) in
    let least : 2 * max total 1 * (len + mu) ≤ 2 * max (2 ^ 29) 1 * (2 ^ 20 + mu) = mul-le-mul words room in
    let part = c.part in
    record {
      positive = positive (2 * max total 1) tf mu (max (2 * cf) 1) some (omega arith);
      at_most_one = at_most_one (2 * max total 1) tf len mu (max (2 * cf) 1) c.within (omega arith);
      fits = omega (arith, least, whole, f.fits);
    }

pub rule_tells : (kind : RuleKind) (tf len cf total : ℕ) (f : Fraction) → ratio_of f ≡ fraction_of kind 0 (2 ^ 20) 0 (2 ^ 29) → AreCounts tf len cf total → IsBelief (fraction_of kind tf len cf total)
rule_tells (Dirichlet mu) tf len cf total f is c = greatest_tells mu tf len cf total f is c

-- ---- fractions and priors

pub are_beliefs : (fs : List Fraction) → All IsBelief (map ratio_of fs)
are_beliefs [] = All-nil IsBelief
are_beliefs (f ∷ fs) = All-cons IsBelief (ratio_of f) (map ratio_of fs) (record { positive = f.positive; at_most_one = f.at_most_one; fits = f.fits }) (are_beliefs fs)

-- the law of priors, of all of them
pub each_told : {X : Type 0} (f : X → Prior) (xs : List X) → ((x : X) → IsPrior (f x)) → All IsPrior (map f xs)
each_told f xs h = All-map IsPrior f xs (λ k x inside. h (get_or xs k x))

told_at : (priors : List Prior) (n : ℕ) → All IsPrior priors → IsPrior (prior_at priors n)
told_at [] n h = All-cons IsBelief (record { p = 1; q = 1 }) [] (record { positive = omega arith; at_most_one = omega arith; fits = omega arith }) (All-nil IsBelief)
told_at (p ∷ ps) zero h = all_first IsPrior p ps h
told_at (p ∷ ps) (suc n) h = told_at ps n (all_rest IsPrior p ps h)

-- ---- windows

module _ (kind : RuleKind) (priors : List Prior) (range : Range) (docs : List Document) (d : Document) (w : Pair) (formed : AreFormed docs) (has : Contains docs d) (is : Contains (windows range (length d.tokens) d.fields) w)
    (ruled : (tf len cf total : ℕ) → AreCounts tf len cf total → IsBelief (fraction_of kind tf len cf total)) (told : All IsPrior priors) where
  leaf_is_belief : (l : LeafTree) (s : LeafStats) → AreLeafStats s → IsBelief (belief_in kind priors d w l s)
  leaf_is_belief (extents x c) s stats =
      let form : IsDocument d.tokens d.fields = All-contains (λ (e : Document). IsDocument e.tokens e.fields) docs d formed has in
      let within : w.end ≤ length d.tokens = All-contains (λ (v : Pair). v.end ≤ length d.tokens) (windows range (length d.tokens) d.fields) w (windows_end range (length d.tokens) d.fields form.sound) is in
      ruled (tf x d w c) (len d w c) s.cf s.total (window_counts d form.sound x w c s.cf s.total form.short within stats.part stats.few)
  leaf_is_belief (prior n) s stats = prior_kept IsBelief (prior_at priors n) d.docno (length d.tokens) (told_at priors n told)

  pub all_are_beliefs : (leaves : List LeafTree) (stats : List LeafStats) → All AreLeafStats stats → All IsBelief (beliefs_in kind priors d w leaves stats)
  all_are_beliefs [] stats a = All-nil IsBelief
  all_are_beliefs (l ∷ ls) [] a = All-nil IsBelief
  all_are_beliefs (l ∷ ls) (s ∷ ss) a =
      All-cons IsBelief (belief_in kind priors d w l s) (beliefs_in kind priors d w ls ss) (leaf_is_belief l s (all_first AreLeafStats s ss a)) (all_are_beliefs ls ss (all_rest AreLeafStats s ss a))

  pub keys_lead : (leaves : List LeafTree) (stats : List LeafStats) (bounds : List Ratio) (t : ScaledTree) (k : ℕ) → All AreLeafStats stats → All IsBelief bounds → AreBounds kind priors range docs leaves stats bounds
      → key_at k bounds t ≤ key_at k (beliefs_in kind priors d w leaves stats) t
  keys_lead leaves stats bounds t k a b h =
      key_falls t (beliefs_in kind priors d w leaves stats) bounds k (all_are_beliefs leaves stats a) b (all_covered kind priors range docs d w formed has is leaves stats bounds a h)
