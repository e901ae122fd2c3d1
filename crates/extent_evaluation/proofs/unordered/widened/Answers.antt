use Rattle.std.proofs.Common.{◌≡◌, ◌-◌, ◌<◌, max, List, [], ◌∷◌, reverse, ap, ◌∙◌, arith}
use Rattle.std.proofs.lemmas.Grind.{common_steps}
use Rattle.std.proofs.lemmas.List.{reverse-append}
use Rattle.ri_base.specs.Pair.{Pair}
use Rattle.extent_lists.specs.Rows.{begin_at}
use Rattle.extent_evaluation.proofs.NearestLemmas.{begins_rise}
use Rattle.extent_evaluation.proofs.WindowLemmas.{IsTail-lower, left_out_step, taken_step}
use Rattle.extent_evaluation.proofs.unordered.widened.Goals as goal

pub loop-i-preserved-in-Continue-1 : goal.loop-i-preserved-in-Continue-1
loop-i-preserved-in-Continue-1 c = record {
  within = omega arith;
  tail = λ j lower.
      let read : c.begin.result ≡ begin_at c.args.xs.now (c.loop-i.i - 1) = grind (arith, common_steps) in
      let rises : begin_at c.args.xs.now j < begin_at c.args.xs.now (c.loop-i.i - 1) = begins_rise c.args.xs.now c.requires.rising j (c.loop-i.i - 1) lower (omega arith) in
      IsTail-lower c.args.list.now (begin_at c.args.xs.now j) c.begin.result c.grown-tail.result.from c.grown-tail.result.least (omega arith) c.grown-tail.ensures.tail;
  so_far =
      let x = c.index-xs-i.result in
      let pushed : reverse c.push.new.self.items ≡ c.new.result ∷ reverse c.loop-i.out.items = ap (λ (l : List Pair). reverse l) c.in_ok-push.ensures.items ∙ reverse-append c.loop-i.out.items (c.new.result ∷ []) in
      let made : c.new.result ≡ record { begin = x.begin; end = max x.end c.in-Some.end } = grind (arith, common_steps) in
      rw (pushed, made) (taken_step c.args.list.now c.args.xs.now _ c.loop-i.i x (omega arith) (omega arith) c.index-xs-i.is c.requires.rising c.loop-i.invariant.so_far c.in-Some.end (rw (c.begin.ensures.begin, c.in-Some.is) at c.grown-tail.ensures.least));
}

pub loop-i-preserved : goal.loop-i-preserved
loop-i-preserved c = record {
  within = omega arith;
  tail = λ j lower.
      let read : c.begin.result ≡ begin_at c.args.xs.now (c.loop-i.i - 1) = grind (arith, common_steps) in
      let rises : begin_at c.args.xs.now j < begin_at c.args.xs.now (c.loop-i.i - 1) = begins_rise c.args.xs.now c.requires.rising j (c.loop-i.i - 1) lower (omega arith) in
      IsTail-lower c.args.list.now (begin_at c.args.xs.now j) c.begin.result c.grown-tail.result.from c.grown-tail.result.least (omega arith) c.grown-tail.ensures.tail;
  so_far = left_out_step c.args.list.now c.args.xs.now _ c.loop-i.i c.index-xs-i.result (omega arith) (omega arith) c.index-xs-i.is c.requires.rising c.loop-i.invariant.so_far (rw (c.begin.ensures.begin, c.in_default.is) at c.grown-tail.ensures.least);
}
