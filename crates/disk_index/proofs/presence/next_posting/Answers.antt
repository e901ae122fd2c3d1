use Rattle.std.proofs.Common.{◌≡◌, ◌/◌, ltb, true, false, rules}
use Rattle.std.specs.List.Sorted.{IsPartitionPoint}
use Rattle.std.proofs.lemmas.List.Sorted.{IsPartitionedBy-ltb, IsPartitionPoint-from_clause}
use Rattle.ri_base.specs.declared.places.Place.{Place}
use Rattle.disk_index.proofs.NextLemmas.{next-none, next-some}
use Rattle.disk_index.proofs.PresenceLemmas.{postings-rise}
use Rattle.disk_index.proofs.presence.next_posting.Goals as goal

pub returns-then-first-postings : goal.returns-then-first-postings
returns-then-first-postings c =
    let ps = c.args.postings.now in
    let first = c.partition_point-first.result in
    let point : IsPartitionPoint (λ (p : Place). ltb (p.id / 64) c.args.from ≡ true) (λ (p : Place). ltb (p.id / 64) c.args.from ≡ false) ps first =
    IsPartitionPoint-from_clause (λ (p : Place). ltb (p.id / 64) c.args.from) ps first c.partition_point-first.ensures.partitioned
    (IsPartitionedBy-ltb (λ (p : Place). p.id / 64) ps c.args.from (postings-rise ps c.requires)) (λ a r f t. search rules) in
    next-some (λ (p : Place). p.id / 64) ps c.args.from first point _ (postings-rise ps c.requires) c.if-first-postings.true

pub returns : goal.returns
returns c =
    let ps = c.args.postings.now in
    let first = c.partition_point-first.result in
    let point : IsPartitionPoint (λ (p : Place). ltb (p.id / 64) c.args.from ≡ true) (λ (p : Place). ltb (p.id / 64) c.args.from ≡ false) ps first =
    IsPartitionPoint-from_clause (λ (p : Place). ltb (p.id / 64) c.args.from) ps first c.partition_point-first.ensures.partitioned
    (IsPartitionedBy-ltb (λ (p : Place). p.id / 64) ps c.args.from (postings-rise ps c.requires)) (λ a r f t. search rules) in
    next-none (λ (p : Place). p.id / 64) ps c.args.from first point c.if-first-postings.false
