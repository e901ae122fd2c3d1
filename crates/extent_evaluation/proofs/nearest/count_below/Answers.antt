use Rattle.std.proofs.Common.{ltb, rules}
use Rattle.std.proofs.lemmas.List.Sorted.{IsPartitionedBy-ltb, IsPartitionPoint-from_clause}
use Rattle.ri_base.specs.Pair.{Pair}
use Rattle.extent_evaluation.proofs.NearestLemmas.{begins_do_not_fall, point_last, point_others}
use Rattle.extent_evaluation.proofs.nearest.count_below.Goals as goal

pub returns-clause-last : goal.returns-clause-last
returns-clause-last c =
    let top = c.args.top in
    let ys = c.args.ys.now in
    point_last ys top c.partition_point.result c.partition_point.ensures.bound
    (IsPartitionPoint-from_clause (λ (x : Pair). ltb x.begin top) ys c.partition_point.result c.partition_point.ensures.partitioned (IsPartitionedBy-ltb (λ (x : Pair). x.begin) ys top (begins_do_not_fall ys c.requires)) (λ a r f t. search rules))

pub returns-clause-others : goal.returns-clause-others
returns-clause-others c =
    let top = c.args.top in
    let ys = c.args.ys.now in
    point_others ys top c.partition_point.result
    (IsPartitionPoint-from_clause (λ (x : Pair). ltb x.begin top) ys c.partition_point.result c.partition_point.ensures.partitioned (IsPartitionedBy-ltb (λ (x : Pair). x.begin) ys top (begins_do_not_fall ys c.requires)) (λ a r f t. search rules))
