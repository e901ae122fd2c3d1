use Rattle.std.proofs.Common.{◌≡◌, ◌+◌, ◌-◌, ◌*◌, ◌≤◌, Some, drop, length, max}
use Rattle.extent_lists.specs.Operators.{HasEach, HasEachInside, IsChain, IsInSome, IsWindow, Joins}
use Rattle.extent_lists.specs.Plans.{each_set, set}
use Rattle.extent_walks.specs.Chains.{IsReached}
use Rattle.extent_walks.specs.Next.{IsLeastBelow, IsNext}
use Rattle.extent_walks.specs.Walks.{AreKept, IsAheadKept, plan, plans}
use Rattle.extent_walks.proofs.NextLemmas.{AreLow, IsJoinedSoFar, IsLeastSoFar, IsPassed}
use Rattle.extent_walks.proofs.ChainLemmas.{IsSearched, room}
use Rattle.extent_walks.proofs.WalkLaws.{AreGoneOver, depth, depths}
use Rattle.extent_walks.proofs.walk.+next.Given as goal

abbrev pub invariant-Ahead::least_of_ends-loop-self : goal.invariant-Ahead::least_of_ends-loop-self
invariant-Ahead::least_of_ends-loop-self l = record {
  same : plan l.self.walk ≡ plan l.initial.self.walk;
  kept : IsAheadKept l.self;
  so_far : IsLeastSoFar (set (plan l.initial.self.walk)) l.low l.top l.begin l.least;
}

abbrev pub decreases-Ahead::least_of_ends-loop-self : goal.decreases-Ahead::least_of_ends-loop-self
decreases-Ahead::least_of_ends-loop-self l = 4294967296 - l.begin

abbrev pub invariant-joined_end-loop-x : goal.invariant-joined_end-loop-x
invariant-joined_end-loop-x l = record {
  same_first : plan l.first.value.walk ≡ plan l.initial.first.value.walk;
  same_later : plan l.later.value.walk ≡ plan l.initial.later.value.walk;
  kept_first : IsAheadKept l.first.value;
  kept_later : IsAheadKept l.later.value;
  so_far : IsJoinedSoFar l.n (set (plan l.initial.first.value.walk)) (set (plan l.initial.later.value.walk)) l.begin l.end l.least;
}

abbrev pub decreases-joined_end-loop-x : goal.decreases-joined_end-loop-x
decreases-joined_end-loop-x l = 18446744073709551616 - l.end

abbrev pub invariant-next_of_any-loop-i : goal.invariant-next_of_any-loop-i
invariant-next_of_any-loop-i l = record {
  gone : AreGoneOver l.initial.all.items l.all.items l.i;
  first : IsNext (IsInSome (each_set (plans (drop l.i l.all.items)))) l.from.begin l.from.end l.found;
}

abbrev pub decreases-next_of_any-loop-i : goal.decreases-next_of_any-loop-i
decreases-next_of_any-loop-i l = l.i

abbrev pub invariant-enclosing_end-loop-i : goal.invariant-enclosing_end-loop-i
invariant-enclosing_end-loop-i l = record {
  gone : AreGoneOver l.initial.all.items l.all.items l.i;
  least : IsLeastBelow l.top (HasEachInside (each_set (plans (drop l.i l.all.items))) l.low) (Some l.end);
}

abbrev pub decreases-enclosing_end-loop-i : goal.decreases-enclosing_end-loop-i
decreases-enclosing_end-loop-i l = l.i

abbrev pub invariant-has_each-loop-i : goal.invariant-has_each-loop-i
invariant-has_each-loop-i l = record {
  gone : AreGoneOver l.initial.all.items l.all.items l.i;
  each : HasEach (each_set (plans (drop l.i l.all.items)));
}

abbrev pub decreases-has_each-loop-i : goal.decreases-has_each-loop-i
decreases-has_each-loop-i l = l.i

abbrev pub invariant-next_joined-loop-x : goal.invariant-next_joined-loop-x
invariant-next_joined-loop-x l = record {
  same_first : plan l.first.value.walk ≡ plan l.initial.first.value.walk;
  same_later : plan l.later.value.walk ≡ plan l.initial.later.value.walk;
  kept_first : IsAheadKept l.first.value;
  kept_later : IsAheadKept l.later.value;
  low : AreLow (Joins l.n (set (plan l.initial.first.value.walk)) (set (plan l.initial.later.value.walk))) l.from.begin l.from.end l.low;
}

abbrev pub decreases-next_joined-loop-x : goal.decreases-next_joined-loop-x
decreases-next_joined-loop-x l = 4294967296 - l.low

abbrev pub invariant-next_shortest-loop-x : goal.invariant-next_shortest-loop-x
invariant-next_shortest-loop-x l = record {
  same : plan l.inner.value.walk ≡ plan l.initial.inner.value.walk;
  kept : IsAheadKept l.inner.value;
  low : AreLow (set (plan l.initial.inner.value.walk)) l.from.begin l.from.end l.low;
}

abbrev pub decreases-next_shortest-loop-x : goal.decreases-next_shortest-loop-x
decreases-next_shortest-loop-x l = 4294967296 - l.low

abbrev pub invariant-next_chain-loop-x : goal.invariant-next_chain-loop-x
invariant-next_chain-loop-x l = record {
  same : plans l.all.items ≡ plans l.initial.all.items;
  kept : AreKept l.all.items;
  reached : IsReached l.n (each_set (plans l.initial.all.items)) l.reach;
  low : AreLow (IsChain l.n (each_set (plans l.initial.all.items))) l.from.begin l.from.end l.low;
}

abbrev pub decreases-next_chain-loop-x : goal.decreases-next_chain-loop-x
decreases-next_chain-loop-x l = 4294967296 - l.low

abbrev pub invariant-first_chain-loop-i : goal.invariant-first_chain-loop-i
invariant-first_chain-loop-i l = record {
  inside : l.i ≤ length l.all.items;
  same : plans l.all.items ≡ plans l.initial.all.items;
  kept : AreKept l.all.items;
  from : l.reach.from ≡ l.low;
  searched : IsSearched l.n (plans l.initial.all.items) l.low l.i l.end l.reach.lows.items;
}

abbrev pub decreases-first_chain-loop-i : goal.decreases-first_chain-loop-i
decreases-first_chain-loop-i l = 2 * room l.reach.lows.items + l.i

abbrev pub decreases-next_of_one : goal.decreases-next_of_one
decreases-next_of_one l = 8 * depths (plans l.all.now.items) + 4

abbrev pub decreases-next_chain : goal.decreases-next_chain
decreases-next_chain l = 8 * depths (plans l.all.now.items) + 6

abbrev pub decreases-first_chain : goal.decreases-first_chain
decreases-first_chain l = 8 * depths (plans l.all.now.items) + 5

abbrev pub invariant-next_window-loop-x : goal.invariant-next_window-loop-x
invariant-next_window-loop-x l = record {
  same : plans l.all.items ≡ plans l.initial.all.items;
  kept : AreKept l.all.items;
  low : AreLow (IsWindow l.n (each_set (plans l.initial.all.items))) l.from.begin l.from.end l.low;
}

abbrev pub decreases-next_window-loop-x : goal.decreases-next_window-loop-x
decreases-next_window-loop-x l = 4294967296 - l.low

abbrev pub invariant-next_within-loop-x : goal.invariant-next_within-loop-x
invariant-next_within-loop-x l = record {
  same : plan l.inner.value.walk ≡ plan l.initial.inner.value.walk;
  kept : IsAheadKept l.inner.value;
  passed : IsPassed (set (plan l.initial.inner.value.walk)) l.fields l.fn.from.begin l.fn.from.end l.begin l.end;
}

abbrev pub decreases-next_within-loop-x : goal.decreases-next_within-loop-x
decreases-next_within-loop-x l = (4294967296 - l.begin) * 18446744073709551616 + (18446744073709551616 - l.end)

abbrev pub decreases-Walk::next : goal.decreases-Walk::next
decreases-Walk::next l = 8 * depth (plan l.self.now)

abbrev pub decreases-Ahead::next : goal.decreases-Ahead::next
decreases-Ahead::next l = 8 * depth (plan l.self.now.walk) + 1

abbrev pub decreases-Ahead::least_end : goal.decreases-Ahead::least_end
decreases-Ahead::least_end l = 8 * depth (plan l.self.now.walk) + 3

abbrev pub decreases-Ahead::first_end : goal.decreases-Ahead::first_end
decreases-Ahead::first_end l = 8 * depth (plan l.self.now.walk) + 2

abbrev pub decreases-Ahead::least_of_ends : goal.decreases-Ahead::least_of_ends
decreases-Ahead::least_of_ends l = 8 * depth (plan l.self.now.walk) + 2

abbrev pub decreases-next_of_any : goal.decreases-next_of_any
decreases-next_of_any l = 8 * depths (plans l.all.now.items) + 4

abbrev pub decreases-enclosing_end : goal.decreases-enclosing_end
decreases-enclosing_end l = 8 * depths (plans l.all.now.items) + 4

abbrev pub decreases-has_each : goal.decreases-has_each
decreases-has_each l = 8 * depths (plans l.all.now.items) + 4

abbrev pub decreases-next_within : goal.decreases-next_within
decreases-next_within l = 8 * depth (plan l.inner.now.value.walk) + 5

abbrev pub decreases-next_shortest : goal.decreases-next_shortest
decreases-next_shortest l = 8 * depth (plan l.inner.now.value.walk) + 5

abbrev pub decreases-next_joined : goal.decreases-next_joined
decreases-next_joined l = 8 * max (depth (plan l.first.now.value.walk)) (depth (plan l.later.now.value.walk)) + 5

abbrev pub decreases-joined_end : goal.decreases-joined_end
decreases-joined_end l = 8 * max (depth (plan l.first.now.value.walk)) (depth (plan l.later.now.value.walk)) + 4

abbrev pub decreases-next_window : goal.decreases-next_window
decreases-next_window l = 8 * depths (plans l.all.now.items) + 6

abbrev pub decreases-window_end : goal.decreases-window_end
decreases-window_end l = 8 * depths (plans l.all.now.items) + 5

abbrev pub decreases-next_whole : goal.decreases-next_whole
decreases-next_whole l = 8 * depths (plans l.all.now.items) + 6
