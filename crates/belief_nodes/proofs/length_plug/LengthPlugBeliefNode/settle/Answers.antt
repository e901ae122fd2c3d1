use Rattle.std.proofs.Common.{rules, ◌≤◌, ◌-◌, ℕ, length, leb, arith}
use Rattle.std.proofs.lemmas.List.Sorted.{IsPartitionPoint-from_clause, IsPartitionedBy-leb}
use Rattle.ri_base.specs.Ratio.{ratio_of}
use Rattle.ri_base.specs.declared.fraction.Fraction.{Fraction}
use Rattle.belief_nodes.proofs.Plugs.{lengths_rise, rest_settles, step_settles}
use Rattle.belief_nodes.proofs.length_plug.LengthPlugBeliefNode.settle.Goals as goal

pub returns-then-count-eq0-clause-answer : goal.returns-then-count-eq0-clause-answer
returns-then-count-eq0-clause-answer c =
    let steps = c.args.self.now.steps.items in
    let up = lengths_rise steps c.args.self.now.rising in
    let point = IsPartitionPoint-from_clause (λ (s : ℕ × Fraction). leb s.0 c.args.len) steps c.partition_point-count.result (rw c.deref.ensures.value at c.partition_point-count.ensures.partitioned) (IsPartitionedBy-leb (λ (s : ℕ × Fraction). s.0) steps c.args.len up) (λ a r f t. search rules) in
    rest_settles c.args.len steps (ratio_of c.args.self.now.rest) (λ k d low high. point.1 k d (omega (arith, c.if-count-eq0.true)) high)

pub returns-clause-answer : goal.returns-clause-answer
returns-clause-answer c =
    let steps = c.args.self.now.steps.items in
    let count = c.partition_point-count.result in
    let some = c.if-count-eq0.false in
    let up = lengths_rise steps c.args.self.now.rising in
    let point = IsPartitionPoint-from_clause (λ (s : ℕ × Fraction). leb s.0 c.args.len) steps count (rw c.deref.ensures.value at c.partition_point-count.ensures.partitioned) (IsPartitionedBy-leb (λ (s : ℕ × Fraction). s.0) steps c.args.len up) (λ a r f t. search rules) in
    let bound = c.partition_point-count.ensures.bound in
    let long = c.deref.ensures.value in
    step_settles c.args.len steps (ratio_of c.args.self.now.rest) (count - 1) c.index.result.now (let h : count ≤ length steps = rw long at bound in omega (arith, h, some))
    (λ k d low. point.0 k d (omega arith) (omega (arith, some))) (λ k d low high. point.1 k d (omega arith) high) c.index.ensures
