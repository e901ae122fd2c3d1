use Rattle.std.proofs.Common.{rules}
use Rattle.std.proofs.lemmas.List.Sorted.{IsPartitionedBy-leb, IsPartitionPoint-from_clause}
use Rattle.ri_base.specs.Pair.{Pair}
use Rattle.field_extents.proofs.RisingLemmas.{ends_by, ends_do_not_fall, point_is_prefix}
use Rattle.field_extents.proofs.begins.ended_by.Goals as goal

pub returns : goal.returns
returns c =
    let xs = c.args.xs.now in
    let end = c.args.position in
    point_is_prefix (ends_by end) xs c.partition_point.result c.partition_point.ensures.bound
    (IsPartitionPoint-from_clause (ends_by end) xs c.partition_point.result c.partition_point.ensures.partitioned (IsPartitionedBy-leb (λ (x : Pair). x.end) xs end (ends_do_not_fall xs c.requires)) (λ a r f t. search rules))
