use Rattle.std.proofs.Common.{◌≡◌, [], List, ℕ, get_or, subst}
use Rattle.std.specs.Prelude.{IsTrue}
use Rattle.std.specs.List.{All}
use Rattle.std.proofs.lemmas.List.{get_or_read, take_all}
use Rattle.std.proofs.lemmas.List.Elements.{All-more}
use Rattle.ri_base.specs.Text.{is_name}
use Rattle.ri_base.specs.Spelling.{spelled_text}
use Rattle.ri_base.proofs.Written.{one_written}
use Rattle.seg_codec.proofs.segment.put_names.Goals as goal

pub loop-name-preserved : goal.loop-name-preserved
loop-name-preserved c =
    let is : c.name-item.result ≡ get_or c.args.names.now c.loop-name.name-index [] = get_or_read c.args.names.now c.loop-name.name-index c.name-item.result c.loop-name-test.true c.name-item.is [] in
    record {
      written = one_written spelled_text c.args.names.now c.loop-name.name-index c.name-item.result _ _ _ c.loop-name-test.true c.name-item.is c.in_ok-put_name.ensures.written c.loop-name.invariant.written;
      formed = All-more (λ n. IsTrue (is_name n)) c.args.names.now c.loop-name.name-index [] c.loop-name-test.true c.loop-name.invariant.formed (subst (λ (n : List ℕ). IsTrue (is_name n)) is c.in_ok-put_name.ensures.form);
    }

pub returns-clause-formed : goal.returns-clause-formed
returns-clause-formed c = subst (All (λ n. IsTrue (is_name n))) (take_all c.loop-name.name-index c.args.names.now c.loop-name-test.false) c.loop-name.invariant.formed
