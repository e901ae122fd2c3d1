use Rattle.std.proofs.Common.{◌≡◌, ◌/◌, ltb, false, nat_lt, length, rules, sym, ◌∙◌, arith}
use Rattle.std.proofs.lemmas.List.Sorted.{IsPartitionedBy-ltb, IsPartitionPoint-from_clause}
use Rattle.ri_base.specs.declared.places.Place.{Place}
use Rattle.disk_index.proofs.PresenceLemmas.{IsFirstFrom, all-before, at-first, postings-rise}
use Rattle.disk_index.proofs.presence.has_posting.Goals as goal

pub returns-then-first-postings : goal.returns-then-first-postings
returns-then-first-postings c =
    let ps = c.args.postings.now in
    let point : IsFirstFrom c.args.range ps c.partition_point-first.result =
    IsPartitionPoint-from_clause (λ (p : Place). ltb (p.id / 64) c.args.range) ps c.partition_point-first.result c.partition_point-first.ensures.partitioned
    (IsPartitionedBy-ltb (λ (p : Place). p.id / 64) ps c.args.range (postings-rise ps c.requires)) (λ a r f t. search rules) in
    at-first c.args.range ps c.partition_point-first.result point _ c.requires c.if-first-postings.true

pub returns-else-first-postings : goal.returns-else-first-postings
returns-else-first-postings c =
    let ps = c.args.postings.now in
    let point : IsFirstFrom c.args.range ps c.partition_point-first.result =
    IsPartitionPoint-from_clause (λ (p : Place). ltb (p.id / 64) c.args.range) ps c.partition_point-first.result c.partition_point-first.ensures.partitioned
    (IsPartitionedBy-ltb (λ (p : Place). p.id / 64) ps c.args.range (postings-rise ps c.requires)) (λ a r f t. search rules) in
    let no : nat_lt c.partition_point-first.result (length ps) ≡ false = grind (arith, c.if-first-postings.false) in
    no ∙ sym (all-before c.args.range ps c.partition_point-first.result point c.if-first-postings.false)
