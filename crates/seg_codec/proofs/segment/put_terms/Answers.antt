use Rattle.std.proofs.Common.{◌≡◌, ◌∙◌, [], List, ℕ, get_or, subst, arith}
use Rattle.std.specs.Prelude.{IsTrue}
use Rattle.std.specs.List.{All}
use Rattle.std.proofs.lemmas.Grind.{common_steps}
use Rattle.std.proofs.lemmas.List.{get_or_read, take_all}
use Rattle.std.proofs.lemmas.List.Elements.{All-more}
use Rattle.ri_base.specs.Text.{is_term}
use Rattle.seg_codec.proofs.segment.put_terms.Goals as goal

pub loop-rank-preserved : goal.loop-rank-preserved
loop-rank-preserved c =
    let ts = c.as_slice-vocabulary.result.now in
    let rank = c.loop-rank.rank in
    let is : c.index-vocabulary-rank.result ≡ get_or ts rank [] = get_or_read ts rank c.index-vocabulary-rank.result (omega arith) c.index-vocabulary-rank.is [] in
    record {
      dictionary = grind (arith, common_steps);
      blocks = grind (arith, common_steps);
      formed = All-more (λ t. IsTrue (is_term t)) ts rank [] (omega arith) c.loop-rank.invariant.formed (subst (λ (t : List ℕ). IsTrue (is_term t)) is c.in_ok-at.ensures.form);
    }

pub returns-clause-formed : goal.returns-clause-formed
returns-clause-formed c =
    let ts = c.as_slice-vocabulary.result.now in
    let same = c.as_slice-vocabulary.ensures ∙ c.vocabulary.ensures.same in
    subst (All (λ t. IsTrue (is_term t))) (take_all c.loop-rank.rank ts (omega arith) ∙ same) c.loop-rank.invariant.formed
