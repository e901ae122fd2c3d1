use Rattle.std.proofs.Common.{◌≡◌, ◌-◌, ◌/◌, length, take, drop, leb, ltb, true, false, rules, arith, length-drop}
use Rattle.std.specs.List.Sorted.{IsNonDecreasingBy, IsPartitionPoint}
use Rattle.std.proofs.lemmas.List.{take_all}
use Rattle.std.proofs.lemmas.List.Sorted.{IsNonDecreasingBy-drop, IsPartitionedBy-leb, IsPartitionedBy-ltb, IsPartitionPoint-from_clause}
use Rattle.ri_base.specs.declared.places.Place.{Place}
use Rattle.range_masks.proofs.PostingLemmas.{IsBlock-searched, rising_ranges}
use Rattle.range_masks.proofs.sealed.block_of.Goals as goal

pub returns : goal.returns
returns c =
    let ps = c.args.postings.now in
    let range = c.args.range in
    let first = c.partition_point-first.result in
    let count = c.partition_point-count.result in
    let rest = take (length ps - first) (drop first ps) in
    let is : rest ≡ drop first ps = take_all (length ps - first) (drop first ps) (omega (arith, length-drop first ps)) in
    let up : IsNonDecreasingBy (λ (p : Place). p.id / 64) ps = rising_ranges ps c.requires in
    let rises : IsNonDecreasingBy (λ (p : Place). p.id / 64) rest = rw is (IsNonDecreasingBy-drop (λ (p : Place). p.id / 64) first ps up) in
    let low : IsPartitionPoint (λ (p : Place). ltb (p.id / 64) range ≡ true) (λ (p : Place). ltb (p.id / 64) range ≡ false) ps first =
    IsPartitionPoint-from_clause (λ (p : Place). ltb (p.id / 64) range) ps first c.partition_point-first.ensures.partitioned (IsPartitionedBy-ltb (λ (p : Place). p.id / 64) ps range up) (λ a r f t. search rules) in
    let high : IsPartitionPoint (λ (p : Place). leb (p.id / 64) range ≡ true) (λ (p : Place). leb (p.id / 64) range ≡ false) rest count =
    IsPartitionPoint-from_clause (λ (p : Place). leb (p.id / 64) range) rest count c.partition_point-count.ensures.partitioned (IsPartitionedBy-leb (λ (p : Place). p.id / 64) rest range rises) (λ a r f t. search rules) in
    IsBlock-searched range first count ps rest is c.partition_point-first.ensures.bound c.partition_point-count.ensures.bound c.requires low high
