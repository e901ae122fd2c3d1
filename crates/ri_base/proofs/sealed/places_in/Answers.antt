use Rattle.std.proofs.Common.{◌≡◌, ◌-◌, List, ℕ, length, take, drop, leb, ltb, true, false, IfOk, rules, arith, length-drop, subst}
use Rattle.std.specs.List.Sorted.{IsNonDecreasingBy, IsPartitionPoint}
use Rattle.std.proofs.lemmas.List.{take_all}
use Rattle.std.proofs.lemmas.List.Sorted.{IsNonDecreasingBy-drop, IsPartitionedBy-leb, IsPartitionedBy-ltb, IsPartitionPoint-from_clause}
use Rattle.ri_base.specs.declared.places.Place.{Place}
use Rattle.ri_base.proofs.PlacesLemmas.{places_at-searched}
use Rattle.ri_base.proofs.sealed.places_in.Goals as goal

pub returns : goal.returns
returns c =
    let ps = c.args.postings.now in
    let id = c.args.id in
    let first = c.partition_point-first.result in
    let count = c.partition_point-count.result in
    let rest = take (length ps - first) (drop first ps) in
    let is : rest ≡ drop first ps = take_all (length ps - first) (drop first ps) (omega (arith, length-drop first ps)) in
    let rises : IsNonDecreasingBy (λ (p : Place). p.id) rest = rw is (IsNonDecreasingBy-drop (λ (p : Place). p.id) first ps c.requires) in
    let low : IsPartitionPoint (λ (p : Place). ltb p.id id ≡ true) (λ (p : Place). ltb p.id id ≡ false) ps first =
    IsPartitionPoint-from_clause (λ (p : Place). ltb p.id id) ps first c.partition_point-first.ensures.partitioned (IsPartitionedBy-ltb (λ (p : Place). p.id) ps id c.requires) (λ a r f t. search rules) in
    let high : IsPartitionPoint (λ (p : Place). leb p.id id ≡ true) (λ (p : Place). leb p.id id ≡ false) rest count =
    IsPartitionPoint-from_clause (λ (p : Place). leb p.id id) rest count c.partition_point-count.ensures.partitioned (IsPartitionedBy-leb (λ (p : Place). p.id) rest id rises) (λ a r f t. search rules) in
    subst (λ (l : List ℕ). IfOk c.positions_of.result (λ xs. xs ≡ l))
    (places_at-searched id first count ps rest is c.partition_point-first.ensures.bound c.partition_point-count.ensures.bound low high) c.positions_of.ensures
