use Rattle.std.proofs.Common.{length, sym, ap, ◌∙◌, arith}
use Rattle.extent_walks.specs.Shapes.{plans_shape}
use Rattle.extent_walks.proofs.WalkLaws.{plans-past, shapes-none, weaker-before}
use Rattle.extent_walks.proofs.walk.weakest.Goals as goal

pub loop-i-init : goal.loop-i-init
loop-i-init c = record {
  inside = omega arith;
  shape = sym (ap plans_shape (plans-past c.args.all.now (length c.args.all.now) (omega arith)) ∙ shapes-none);
}

pub loop-i-preserved : goal.loop-i-preserved
loop-i-preserved c = record {
  inside = omega (arith, c.loop-i.invariant.inside);
  shape = rw (c.weaker-shape.ensures, ← c.index-all-i.is, c.loop-i.invariant.shape) (weaker-before c.args.all.now c.loop-i.i c.index-all-i.result c.loop-i-test.true c.loop-i.invariant.inside c.index-all-i.is c.requires);
}
