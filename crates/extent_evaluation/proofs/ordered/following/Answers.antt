use Rattle.std.proofs.Common.{◌≡◌, List, [], ◌∷◌, reverse, ap, ◌∙◌, arith}
use Rattle.std.proofs.lemmas.List.{reverse-append}
use Rattle.ri_base.specs.Pair.{Pair}
use Rattle.extent_evaluation.proofs.ChainLemmas.{finds_more_step, finds_passed_step}
use Rattle.extent_evaluation.proofs.ordered.following.Goals as goal

pub loop-i-preserved-in-Continue-branch-2 : goal.loop-i-preserved-in-Continue-branch-2
loop-i-preserved-in-Continue-branch-2 c = record {
  within = omega arith;
  reached = c.least_following.ensures.within;
  leads = c.least_following.ensures.leads;
  so_far =
      let pushed : reverse c.push.new.self.items ≡ c.new.result ∷ reverse c.loop-i.out.items = ap (λ (l : List Pair). reverse l) c.in_ok-push.ensures.items ∙ reverse-append c.loop-i.out.items (c.new.result ∷ []) in
      rw (pushed, c.new.ensures, c.begin.ensures.begin) (finds_more_step c.args.n c.args.firsts.now c.args.later.now _ c.loop-i.i c.index-firsts-i.result (omega arith) (omega arith) c.index-firsts-i.is c.loop-i.invariant.so_far c.in-Some.end (rw c.end.ensures.end at c.in-Some.ensures.least));
}

pub loop-i-preserved : goal.loop-i-preserved
loop-i-preserved c = record {
  within = omega arith;
  reached = c.least_following.ensures.within;
  leads = c.least_following.ensures.leads;
  so_far = finds_passed_step c.args.n c.args.firsts.now c.args.later.now _ c.loop-i.i c.index-firsts-i.result (omega arith) (omega arith) c.index-firsts-i.is c.loop-i.invariant.so_far (rw c.end.ensures.end at c.in_default.ensures.least);
}

pub returns : goal.returns
returns c =
    let first : c.loop-i.i ≡ 0 = omega arith in
    rw c.reverse.ensures.items (rw first at c.loop-i.invariant.so_far)
