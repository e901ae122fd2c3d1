-- The definitions at written-out trees, worked out by hand.
use Rattle.std.proofs.Common.{◌≡◌, List, [], ◌∷◌, refl}
use Rattle.ri_base.specs.Ratio.{Ratio}
use Rattle.query_check.specs.Multiples.{lcm, gcd, gcd_within}
use Rattle.query_check.specs.Scale.{scale, common, weighted_common, count, total}
use Rattle.query_check.specs.Trees.{ScaledTree, leaf, combine, weight, greatest, none, more, none_weighted, more_weighted}
use Rattle.log_chain.specs.Score.{score}
use Rattle.belief_nodes.specs.Keys.{key, shares, weighted_shares, least_of}
use Rattle.belief_nodes.specs.Products.{product, powers, weighted_powers, greatest_of}

-- #weight(3 #combine(a b) 1 #max(b c)): the scales of its arguments are 2 and 1, and its own is 4 * 2
abbrev sample : ScaledTree
sample = weight 8 (more_weighted 3 (combine 2 (more (leaf 0) (more (leaf 1) none))) (more_weighted 1 (greatest 1 (more (leaf 1) (more (leaf 2) none))) none_weighted))

sample_scale : scale sample ≡ 8
unfolding scale common weighted_common count total lcm gcd gcd_within
sample_scale = refl

-- 1 / 2, 2 / 3 and 3 / 5
abbrev beliefs : List Ratio
beliefs = record { p = 1; q = 2 } ∷ record { p = 2; q = 3 } ∷ record { p = 3; q = 5 } ∷ []

-- (1 / 2 * 2 / 3) ^ 3 * (2 / 3) ^ 2
sample_product : product beliefs sample ≡ record { p = 32; q = 1944 }
unfolding product powers weighted_powers greatest_of scale common weighted_common count total lcm gcd gcd_within
sample_product = refl

-- 3 * (10 + 7) + 2 * 7
sample_key : key (10 ∷ 7 ∷ 9 ∷ []) sample ≡ 65
unfolding key shares weighted_shares least_of scale common weighted_common count total lcm gcd gcd_within
sample_key = refl

-- of equal numbers the first
first_of_equal : greatest_of (record { p = 1; q = 3 } ∷ record { p = 2; q = 4 } ∷ record { p = 1; q = 2 } ∷ []) ≡ record { p = 2; q = 4 }
unfolding greatest_of
first_of_equal = refl

-- log2(18 / 10) is 0.847996..
sample_score : score 1 932382459075 ≡ 847996
sample_score = refl
