-- What an iterator has left.
use Rattle.std.specs.Prelude.{ℕ, ◌&&◌, List, filter}
use Rattle.ri_base.specs.Pair.{Pair}
use Rattle.extent_lists.specs.Pairs.{pairs}
use Rattle.extent_lists.specs.Plans.{Plan, plan_bound}
use Rattle.extent_lists.proofs.PlanTests.{has_planned}
use Rattle.extent_walks.specs.Next.{is_from}

-- The extents of a plan from a place on, by begin and then end: of all pairs of numbers those that are. `has_planned` is a
-- test, whose term stands with the proofs.
unfoldable pub left : Plan → ℕ → ℕ → List Pair
left p begin end = filter (λ x. has_planned p x.begin x.end && is_from begin end x.begin x.end) (pairs (plan_bound p))
