use Rattle.std.proofs.Common.{◌≡◌, [], ◌++◌, arith, subst}
use Rattle.std.proofs.lemmas.List.{nil_from_length}
use Rattle.std.specs.List.Sorted.{IsPermutation}
use Rattle.bounded_keys.proofs.RunLemmas.{runs_same}
use Rattle.bounded_keys.proofs.runs.first_of_runs.Goals as goal

pub returns : goal.returns
returns g c =
    let runs = c.loop-item.runs in
    let before = c.loop-item.invariant.runs in
    let left : c.loop-item.items.items ≡ [] = nil_from_length _ (grind arith) in
    runs_same g.T.Leading.before c.args.most runs.run runs.full.items before.0 c.args.items.items runs.items.items
    (subst (λ xs. IsPermutation c.args.items.items (xs ++ before.0)) left before.1) before.2
