use Rattle.std.proofs.Common.{◌≡◌, ◌==◌, ltb, true, false, get_or, None, Some, rules}
use Rattle.std.specs.List.Sorted.{IsPartitionPoint}
use Rattle.std.proofs.lemmas.List.Sorted.{IsPartitionedBy-ltb, IsPartitionPoint-from_clause}
use Rattle.seg_codec.specs.declared.dictionary.BlockPlace.{BlockPlace}
use Rattle.disk_index.proofs.NextLemmas.{IsNext-same, blocks-rise, is_some-find, next-none, next-some}
use Rattle.disk_index.proofs.lookup.next_in.Goals as goal

pub returns-then-first-blocks : goal.returns-then-first-blocks
returns-then-first-blocks c =
    let bs = c.args.blocks.now in
    let from = c.args.from in
    let first = c.partition_point-first.result in
    let point : IsPartitionPoint (λ (b : BlockPlace). ltb b.range from ≡ true) (λ (b : BlockPlace). ltb b.range from ≡ false) bs first =
    IsPartitionPoint-from_clause (λ (b : BlockPlace). ltb b.range from) bs first c.partition_point-first.ensures.partitioned
    (IsPartitionedBy-ltb (λ (b : BlockPlace). b.range) bs from (blocks-rise bs c.requires)) (λ a r f t. search rules) in
    IsNext-same _ _ from (Some (get_or bs first _).range) (λ n. is_some-find (λ (b : BlockPlace). b.range == n) bs) (next-some (λ (b : BlockPlace). b.range) bs from first point _ (blocks-rise bs c.requires) c.if-first-blocks.true)

pub returns : goal.returns
returns c =
    let bs = c.args.blocks.now in
    let from = c.args.from in
    let first = c.partition_point-first.result in
    let point : IsPartitionPoint (λ (b : BlockPlace). ltb b.range from ≡ true) (λ (b : BlockPlace). ltb b.range from ≡ false) bs first =
    IsPartitionPoint-from_clause (λ (b : BlockPlace). ltb b.range from) bs first c.partition_point-first.ensures.partitioned
    (IsPartitionedBy-ltb (λ (b : BlockPlace). b.range) bs from (blocks-rise bs c.requires)) (λ a r f t. search rules) in
    IsNext-same _ _ from None (λ n. is_some-find (λ (b : BlockPlace). b.range == n) bs) (next-none (λ (b : BlockPlace). b.range) bs from first point c.if-first-blocks.false)
