use Rattle.std.proofs.Common.{rules, ◌≡◌, ◌++◌, map}
use Rattle.ri_base.specs.Query.{belief_tree}
use Rattle.query_check.specs.Check.{pruned, leaves_of}
use Rattle.query_check.specs.Leaves.{leaf_tree}
use Rattle.query_check.proofs.Walks.{all_leaves_step, weighted_leaves_step, weighted_leaves_dropped}
use Rattle.query_check.proofs.leaves.+taking.Goals as goal

pub take_all_leaves-loop-x-preserved : goal.take_all_leaves-loop-x-preserved
take_all_leaves-loop-x-preserved t c =
    let taken : map leaf_tree c.take_leaves.new.leaves.items ≡ map leaf_tree c.loop-x.leaves.items ++ leaves_of c.args.names.now (pruned (belief_tree c.in-Some.x)) = search rules in
    all_leaves_step c.args.names.now _ _ _ c.loop-x.yielded c.in-Some.x c.loop-x.invariant taken

pub take_weighted_leaves-loop-weight-preserved-in-Continue-1 : goal.take_weighted_leaves-loop-weight-preserved-in-Continue-1
take_weighted_leaves-loop-weight-preserved-in-Continue-1 t c =
    let taken : map leaf_tree c.take_leaves.new.leaves.items ≡ map leaf_tree c.loop-weight.leaves.items ++ leaves_of c.args.names.now (pruned (belief_tree c.in-Some.x)) = search rules in
    weighted_leaves_step c.args.names.now _ _ _ c.loop-weight.yielded c.in-Some.weight c.in-Some.x c.if-weight-gt0.true c.loop-weight.invariant taken

pub take_weighted_leaves-loop-weight-preserved-else-weight-gt0 : goal.take_weighted_leaves-loop-weight-preserved-else-weight-gt0
take_weighted_leaves-loop-weight-preserved-else-weight-gt0 t c = weighted_leaves_dropped c.args.names.now _ _ c.loop-weight.yielded c.in-Some.weight c.in-Some.x c.if-weight-gt0.false c.loop-weight.invariant

pub take_weighted_leaves-loop-weight-preserved-else-weight-gt0-2 : goal.take_weighted_leaves-loop-weight-preserved-else-weight-gt0-2
take_weighted_leaves-loop-weight-preserved-else-weight-gt0-2 t c = weighted_leaves_dropped c.args.names.now _ _ c.loop-weight.yielded c.in-Some.weight c.in-Some.x c.if-weight-gt0.false c.loop-weight.invariant

pub take_weighted_leaves-loop-weight-preserved-else-weight-gt0-3 : goal.take_weighted_leaves-loop-weight-preserved-else-weight-gt0-3
take_weighted_leaves-loop-weight-preserved-else-weight-gt0-3 t c = weighted_leaves_dropped c.args.names.now _ _ c.loop-weight.yielded c.in-Some.weight c.in-Some.x c.if-weight-gt0.false c.loop-weight.invariant

pub take_weighted_leaves-loop-weight-preserved-else-weight-gt0-4 : goal.take_weighted_leaves-loop-weight-preserved-else-weight-gt0-4
take_weighted_leaves-loop-weight-preserved-else-weight-gt0-4 t c = weighted_leaves_dropped c.args.names.now _ _ c.loop-weight.yielded c.in-Some.weight c.in-Some.x c.if-weight-gt0.false c.loop-weight.invariant

pub take_weighted_leaves-loop-weight-preserved-else-weight-gt0-5 : goal.take_weighted_leaves-loop-weight-preserved-else-weight-gt0-5
take_weighted_leaves-loop-weight-preserved-else-weight-gt0-5 t c = weighted_leaves_dropped c.args.names.now _ _ c.loop-weight.yielded c.in-Some.weight c.in-Some.x c.if-weight-gt0.false c.loop-weight.invariant

pub take_weighted_leaves-loop-weight-preserved-else-weight-gt0-6 : goal.take_weighted_leaves-loop-weight-preserved-else-weight-gt0-6
take_weighted_leaves-loop-weight-preserved-else-weight-gt0-6 t c = weighted_leaves_dropped c.args.names.now _ _ c.loop-weight.yielded c.in-Some.weight c.in-Some.x c.if-weight-gt0.false c.loop-weight.invariant

pub take_weighted_leaves-loop-weight-preserved-else-weight-gt0-7 : goal.take_weighted_leaves-loop-weight-preserved-else-weight-gt0-7
take_weighted_leaves-loop-weight-preserved-else-weight-gt0-7 t c = weighted_leaves_dropped c.args.names.now _ _ c.loop-weight.yielded c.in-Some.weight c.in-Some.x c.if-weight-gt0.false c.loop-weight.invariant

pub take_weighted_leaves-loop-weight-preserved : goal.take_weighted_leaves-loop-weight-preserved
take_weighted_leaves-loop-weight-preserved t c = weighted_leaves_dropped c.args.names.now _ _ c.loop-weight.yielded c.in-Some.weight c.in-Some.x c.if-weight-gt0.false c.loop-weight.invariant
