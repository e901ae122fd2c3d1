-- The belief of a leaf as a fraction, under each smoothing rule.
use Rattle.std.specs.Prelude.{◌≡◌, ℕ, ◌+◌, ◌*◌, ◌≤◌, max}
use Rattle.ri_base.specs.declared.fraction.Fraction.{Fraction}
use Rattle.ri_base.specs.Ratio.{Ratio, ratio_of}
use Rattle.smoothing.specs.Counts.{AreCounts}
use Rattle.smoothing.specs.declared.rule.TheConstants.{MAX_MU}
use Rattle.smoothing.specs.declared.rule.RuleKind.{RuleKind}
use Rattle.smoothing.specs.declared.rule.RuleKind.TheVariants.{Dirichlet}

-- Dirichlet smoothing, (tf + mu * cf / total) / (len + mu) (Zhai and Lafferty, A Study of Smoothing Methods for Language
-- Models Applied to Information Retrieval, 2004), as these numbers stand and not reduced. What the collection lacks counts
-- as half an occurrence, and a collection of no words as one word, so that a belief is never 0: this is the project's own.
abbrev pub dirichlet : ℕ → ℕ → ℕ → ℕ → ℕ → Ratio
dirichlet mu tf len cf total =
    let words = max total 1 in
    record {
      p = 2 * words * tf + mu * max (2 * cf) 1;
      q = 2 * words * (len + mu);
    }

-- the range of mu
pub record IsMu (mu : ℕ) : Type 0 where
  pub least : 1 ≤ mu
  pub most : mu ≤ MAX_MU

-- the definition of each kind
abbrev pub fraction_of : RuleKind → ℕ → ℕ → ℕ → ℕ → Ratio
fraction_of (Dirichlet mu) tf len cf total = dirichlet mu tf len cf total

-- f computes the rule of this kind: it may be called with all counts, and its answer is the definition
pub record Computes {S : Type 0} (pre : S → ℕ → ℕ → ℕ → ℕ → Type 0) (post : S → ℕ → ℕ → ℕ → ℕ → Fraction → Type 0) (kind : RuleKind) (f : S)
    : Type 0 where
  pub callable : (tf len cf total : ℕ) → AreCounts tf len cf total → pre f tf len cf total
  pub exact : (tf len cf total : ℕ) (r : Fraction) → AreCounts tf len cf total → post f tf len cf total r → ratio_of r ≡ fraction_of kind tf len cf total
