-- How the beliefs of two windows stand to each other, in powers of whole numbers and without keys. Each window is
-- told by the beliefs of its leaves. P / Q is the product of the tree in the window, and a greater product is a
-- greater belief.
use Rattle.std.specs.Prelude.{◌≡◌, ◌<◌, ◌≤◌, ◌*◌, ◌^◌, List}
use Rattle.std.specs.List.{AllZip}
use Rattle.ri_base.specs.Ratio.{Ratio}
use Rattle.log_chain.specs.declared.chain.TheConstants.{LAST}
use Rattle.query_check.specs.Scale.{scale}
use Rattle.query_check.specs.Trees.{ScaledTree}
use Rattle.belief_nodes.specs.Products.{product}

-- Pa / Qa is greater than Pb / Qb
abbrev pub IsGreater : ScaledTree → List Ratio → List Ratio → Type 0
IsGreater tree a b = (product b tree).p * (product a tree).q < (product a tree).p * (product b tree).q

-- each leaf has the same belief in both
abbrev pub IsSame : List Ratio → List Ratio → Type 0
IsSame a b = AllZip (λ r s. r.p * s.q ≡ s.p * r.q) a b

-- Pa / Qa is at most 2 ^ (4 * E / N) times Pb / Qb, where N = 2 ^ LAST and E is the scale
abbrev pub IsWithin : ScaledTree → List Ratio → List Ratio → Type 0
IsWithin tree a b =
    let x = product a tree in
    let y = product b tree in
    (x.p * y.q) ^ (2 ^ LAST) ≤ (y.p * x.q) ^ (2 ^ LAST) * 2 ^ (4 * scale tree)

-- so near to each other that the last digits may not tell which is greater
pub record IsNear (tree : ScaledTree) (a b : List Ratio) : Type 0 where
  pub left : IsWithin tree a b
  pub right : IsWithin tree b a
