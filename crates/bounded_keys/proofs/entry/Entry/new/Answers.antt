use Rattle.std.proofs.Common.{length, map, ap, subst, sym, ◌∙◌}
use Rattle.log_chain.specs.Progress.{digits_of}
use Rattle.log_chain.specs.declared.chain.TheConstants.{FIRST}
use Rattle.leaf_chains.specs.Chains.{AreAt}
use Rattle.bounded_keys.specs.Digits.{belief}
use Rattle.bounded_keys.proofs.Levels.{early_beliefs, early_length, early_level}
use Rattle.bounded_keys.proofs.entry.Entry.new.Goals as goal

pub returns-clause-beliefs : goal.returns-clause-beliefs
returns-clause-beliefs g c = ap (map belief) c.in_ok-leaves.ensures.leaves ∙ early_beliefs c.args.fractions.now

pub returns-clause-early : goal.returns-clause-early
returns-clause-early g c = record {
  each = ap length c.in_ok-leaves.ensures.leaves ∙ early_length c.args.fractions.now ∙ c.requires;
  first = subst (λ xs. AreAt FIRST xs) (sym c.in_ok-leaves.ensures.leaves) (early_level c.args.fractions.now);
  leads = c.in_ok-leading.ensures ∙ ap (λ xs. g.C.Combination.key_of c.args.combination.now (map digits_of xs)) c.as_slice.ensures;
}
