use Rattle.std.proofs.Common.{◌≡◌, ◌≢◌, ◌+◌, ◌-◌, ◌<◌, ◌≤◌, ⊎_elim, Some, None, true, false, refl, sym, ap, ◌∙◌, arith}
use Rattle.extent_walks.specs.Next.{IsNext}
use Rattle.extent_lists.specs.Operators.{IsChain, IsInSome, IsWindow, Joins}
use Rattle.extent_lists.specs.Plans.{each_set, set}
use Rattle.extent_walks.specs.Shapes.{is_monotone, plan_shape}
use Rattle.extent_walks.specs.Walks.{chain_plan, plan, plans}
use Rattle.extent_walks.specs.declared.walk.Ahead.{Ahead}
use Rattle.ri_base.specs.Pair.{Pair}
use Rattle.extent_walks.specs.Chains.{plan_at}
use Rattle.extent_walks.proofs.BuildLemmas.{chain_plan-is}
use Rattle.extent_walks.proofs.ChainLemmas.{IsFollowed, IsNext-chain, IsNext-no_chain, IsReached-searched, IsSearched, IsSearched-asked, IsSearched-early, IsSearched-far, IsSearched-follows, IsSearched-last, chained_some, is_at, is_inside, next_at, plan_at-is, plans_count, plans_count-is, room-early, room-far, searched_some}
use Rattle.extent_walks.proofs.NextLemmas.{AreLow-over, HasEach-more, IsFrom-here, IsJoinedSoFar-more, IsLeast-at_top, IsLeast-first, IsLeast-first_end, IsLeast-joined_beyond, IsLeast-short, IsLeast-window, IsLeastBelow-both, IsLeastBelow-missing, IsLeastBelow-none, IsLeastSoFar-more, IsNext-at_begin, IsNext-begin, IsNext-either, IsNext-later, IsNext-least, IsNext-no_extent, IsNext-no_least, IsNext-none, IsNext-same, IsNext-within, IsPassed-over, place_falls}
use Rattle.extent_walks.proofs.ShapeLemmas.{chained_monotone, monotone_plan}
use Rattle.extent_walks.proofs.WalkLaws.{IsKept-Chain, argument_has, argument_inside, depth, depth-at, depth-chain, depths, each_set-more, each_set-none, gone_depth, gone_kept, gone_next, gone_start, joined_above, kept-at, kept-set, plan-Chain, plan-Listed, plan-Within, plans-past, plans-set, plans_before, set-listed, set-some, set-within}
use Rattle.extent_walks.proofs.walk.+next.Goals as goal
use Rattle.extent_walks.proofs.walk.+next.Goals.{Ahead::next-then-not-answers, Ahead::next-else-not-answers}

-- ---- one walk

pub Ahead::next-returns-clause-next : goal.Ahead::next-returns-clause-next
Ahead::next-returns-clause-next t c = elim c.if-not-answers.branch [
  | Ahead::next-then-not-answers w ↦ rw w.self-is (w.start-start.ensures.next w.next-self.result w.next-self.ensures.next)
  | Ahead::next-else-not-answers w ↦
      let yes : c.answers.result ≡ true = cc in
      rw w.self-is (IsNext-later _ _ _ _ _ _ (c.requires.1.0 (c.answers.ensures.asked yes)) (c.answers.ensures.later yes) (c.answers.ensures.none_between yes))
]

pub Ahead::least_of_ends-loop-self-smaller : goal.Ahead::least_of_ends-loop-self-smaller
Ahead::least_of_ends-loop-self-smaller t c =
    omega (arith, IsNext-begin _ c.loop-self.begin c.in-Some.x (rw c.at.ensures at c.in-Some.ensures.next), c.begin-begin.ensures.begin, c.begin-begin.type_inv)

pub Ahead::least_of_ends-loop-self-preserved : goal.Ahead::least_of_ends-loop-self-preserved
Ahead::least_of_ends-loop-self-preserved t c =
    let R = set (plan c.args.self.now.walk) in
    record {
      same = c.next.ensures.same ∙ c.loop-self.invariant.same;
      kept = c.next.ensures.kept;
      so_far = rw (c.lesser-least.ensures, c.end.ensures.end, c.begin-begin.ensures.begin)
          (IsLeastSoFar-more R (set-some (plan c.args.self.now.walk)) c.args.low c.args.top c.loop-self.begin c.loop-self.least c.in-Some.x c.loop-self.invariant.so_far (rw (c.loop-self.invariant.same, c.at.ensures) at c.in-Some.ensures.next) (omega (arith, c.from.ensures, c.begin.ensures.begin, c.if-from-top.false)));
    }

pub Ahead::least_of_ends-returns-clause-least : goal.Ahead::least_of_ends-returns-clause-least
Ahead::least_of_ends-returns-clause-least t c =
    let R = set (plan c.args.self.now.walk) in
    let some = set-some (plan c.args.self.now.walk) in
    let ended : c.may_be_less.result ≡ false = c.loop-self-test.false in
    let no_more : c.may_be_less.result ≢ true = λ e. cc in
    ⊎_elim
    (λ k. IsLeast-at_top R some c.args.low c.args.top c.loop-self.begin c.loop-self.least c.loop-self.invariant.so_far k)
    (λ k. IsLeast-short R some c.args.low c.args.top c.loop-self.begin c.loop-self.least k.0 c.loop-self.invariant.so_far k.1 k.2)
    (c.may_be_less.ensures.not no_more)

pub Ahead::first_end-returns-clause-least : goal.Ahead::first_end-returns-clause-least
Ahead::first_end-returns-clause-least t c =
    let R = set (plan c.args.self.now.walk) in
    let next : IsNext R c.args.low 0 (Some c.in-Some.x) = rw c.at.ensures at c.in-Some.ensures.next in
    rw c.end.ensures.end (IsLeast-first_end R c.args.low c.args.top c.in-Some.x c.requires.monotone next (omega (arith, c.if-from-top.false, c.from.ensures, c.begin.ensures.begin)))

pub Ahead::least_end-first_end-requires : goal.Ahead::least_end-first_end-requires
Ahead::least_end-first_end-requires t c =
    let p = plan c.args.self.now.walk in
    let up : is_monotone (plan_shape p) ≡ true = ap is_monotone (sym c.requires.1.1) ∙ sym c.is_monotone.ensures ∙ c.if-is_monotone.true in
    (omega (arith, c.decreases), (c.requires, monotone_plan p up))

-- ---- the arguments

pub next_of_any-loop-i-init : goal.next_of_any-loop-i-init
next_of_any-loop-i-init t c = record {
  gone = gone_start _ _ (omega (arith, c.len-i.ensures, c.args.all.now.ok.0)) c.requires;
  first = rw (plans-past c.args.all.now.items c.len-i.result (omega (arith, c.len-i.ensures, c.args.all.now.ok.0)), each_set-none) (IsNext-none c.args.from.begin c.args.from.end);
}

pub next_of_any-next-here-requires : goal.next_of_any-next-here-requires
next_of_any-next-here-requires t c =
    let gone = c.loop-i.invariant.gone in
    let is = c.index_mut.ensures.value in
    (omega (arith, c.decreases, gone_depth _ _ _ _ c.loop-i-test.true gone is), gone_kept _ _ _ _ c.loop-i-test.true gone is)

pub next_of_any-loop-i-preserved : goal.next_of_any-loop-i-preserved
next_of_any-loop-i-preserved t c =
    let gone = c.loop-i.invariant.gone in
    let new = c.next-here.new.self in
    let is = c.index_mut.ensures.value in
    record {
      gone = gone_next _ _ _ _ c.loop-i-test.true gone is new c.next-here.ensures.same c.next-here.ensures.kept;
      first = rw (plans_before _ _ _ new c.loop-i-test.true gone.inside is c.next-here.ensures.same, each_set-more, c.earlier-found.ensures) (IsNext-either _ _ _ _ _ _ c.next-here.ensures.next c.loop-i.invariant.first);
    }

pub enclosing_end-loop-i-init : goal.enclosing_end-loop-i-init
enclosing_end-loop-i-init t c = record {
  gone = gone_start _ _ (omega (arith, c.len-i.ensures, c.args.all.now.ok.0)) c.requires;
  least = rw (plans-past c.args.all.now.items c.len-i.result (omega (arith, c.len-i.ensures, c.args.all.now.ok.0)), each_set-none) (IsLeastBelow-none c.args.low c.args.top);
}

pub enclosing_end-least_end-requires : goal.enclosing_end-least_end-requires
enclosing_end-least_end-requires t c =
    let gone = c.loop-i.invariant.gone in
    let is = c.index_mut.ensures.value in
    (omega (arith, c.decreases, gone_depth _ _ _ _ c.loop-i-test.true gone is), gone_kept _ _ _ _ c.loop-i-test.true gone is)

pub enclosing_end-returns-in_default-clause-least : goal.enclosing_end-returns-in_default-clause-least
enclosing_end-returns-in_default-clause-least t c =
    let old = c.index_mut.result.now in
    let inside = argument_inside c.loop-i.all.items c.loop-i.i old old c.loop-i-test.true c.loop-i.invariant.gone.inside c.index_mut.ensures.value c.args.low in
    rw c.loop-i.invariant.gone.same at (IsLeastBelow-missing (set (plan old.walk)) (set-some (plan old.walk)) (each_set (plans c.loop-i.all.items)) c.args.low c.args.top inside c.in_default.ensures.least)

pub enclosing_end-returns-in_default-clause-same : goal.enclosing_end-returns-in_default-clause-same
enclosing_end-returns-in_default-clause-same t c =
    (gone_next _ _ _ _ c.loop-i-test.true c.loop-i.invariant.gone c.index_mut.ensures.value c.least_end.new.self c.least_end.ensures.same c.least_end.ensures.kept).same

pub enclosing_end-returns-in_default-clause-kept : goal.enclosing_end-returns-in_default-clause-kept
enclosing_end-returns-in_default-clause-kept t c =
    (gone_next _ _ _ _ c.loop-i-test.true c.loop-i.invariant.gone c.index_mut.ensures.value c.least_end.new.self c.least_end.ensures.same c.least_end.ensures.kept).kept

pub enclosing_end-loop-i-preserved : goal.enclosing_end-loop-i-preserved
enclosing_end-loop-i-preserved t c =
    let gone = c.loop-i.invariant.gone in
    let new = c.least_end.new.self in
    let is = c.index_mut.ensures.value in
    record {
      gone = gone_next _ _ _ _ c.loop-i-test.true gone is new c.least_end.ensures.same c.least_end.ensures.kept;
      least = rw (plans_before _ _ _ new c.loop-i-test.true gone.inside is c.least_end.ensures.same, each_set-more) (IsLeastBelow-both _ (set-some _) _ _ _ _ _ _ c.in-Some.ensures.least c.loop-i.invariant.least c.max-end.ensures);
    }

pub has_each-loop-i-init : goal.has_each-loop-i-init
has_each-loop-i-init t c = record {
  gone = gone_start _ _ (omega (arith, c.len-i.ensures, c.args.all.now.ok.0)) c.requires;
  each = rw (plans-past c.args.all.now.items c.len-i.result (omega (arith, c.len-i.ensures, c.args.all.now.ok.0)), each_set-none) tt;
}

pub has_each-next-requires : goal.has_each-next-requires
has_each-next-requires t c =
    let gone = c.loop-i.invariant.gone in
    let is = c.index_mut.ensures.value in
    (omega (arith, c.decreases, gone_depth _ _ _ _ c.loop-i-test.true gone is), gone_kept _ _ _ _ c.loop-i-test.true gone is)

pub has_each-returns-in_default-clause-each : goal.has_each-returns-in_default-clause-each
has_each-returns-in_default-clause-each t c =
    let old = c.index_mut.result.now in
    let none : IsNext (set (plan old.walk)) 0 0 None = rw c.at.ensures at c.in_default.ensures.next in
    let has = argument_has c.loop-i.all.items c.loop-i.i old old c.loop-i-test.true c.loop-i.invariant.gone.inside c.index_mut.ensures.value in
    (λ no. cc, λ each. absurd (IsNext-no_extent (set (plan old.walk)) none (has (rw (← c.loop-i.invariant.gone.same) at each))))

pub has_each-returns-in_default-clause-same : goal.has_each-returns-in_default-clause-same
has_each-returns-in_default-clause-same t c =
    (gone_next _ _ _ _ c.loop-i-test.true c.loop-i.invariant.gone c.index_mut.ensures.value c.next.new.self c.next.ensures.same c.next.ensures.kept).same

pub has_each-returns-in_default-clause-kept : goal.has_each-returns-in_default-clause-kept
has_each-returns-in_default-clause-kept t c =
    (gone_next _ _ _ _ c.loop-i-test.true c.loop-i.invariant.gone c.index_mut.ensures.value c.next.new.self c.next.ensures.same c.next.ensures.kept).kept

pub has_each-loop-i-preserved : goal.has_each-loop-i-preserved
has_each-loop-i-preserved t c =
    let gone = c.loop-i.invariant.gone in
    let new = c.next.new.self in
    let is = c.index_mut.ensures.value in
    record {
      gone = gone_next _ _ _ _ c.loop-i-test.true gone is new c.next.ensures.same c.next.ensures.kept;
      each = rw (plans_before _ _ _ new c.loop-i-test.true gone.inside is c.next.ensures.same, each_set-more) (HasEach-more _ _ _ (rw c.at.ensures at c.in-Some.ensures.next) c.loop-i.invariant.each);
    }

-- ---- each operator

pub Walk::next-returns-in-Listed-clause-next : goal.Walk::next-returns-in-Listed-clause-next
Walk::next-returns-in-Listed-clause-next t c = rw (c.in-Listed.is, plan-Listed, set-listed) (rw c.in-Listed.list-is at c.next.ensures)

pub Walk::next-returns-in-Within-clause-next : goal.Walk::next-returns-in-Within-clause-next
Walk::next-returns-in-Within-clause-next t c = rw (c.in-Within.is, plan-Within, set-within) (rw (c.in-Within.inner-is, c.in-Within.fields-is) at c.next_within.ensures.next)

-- ---- those inside a field

pub next_within-returns-then-holds-clause-next : goal.next_within-returns-then-holds-clause-next
next_within-returns-then-holds-clause-next t c =
    let R = set (plan c.args.inner.now.value.walk) in
    let next : IsNext R c.loop-x.begin c.loop-x.end (Some c.in-Some.x) = rw (c.deref_mut.ensures.value, c.loop-x.invariant.same) at c.in-Some.ensures.next in
    IsNext-within R c.args.fields.now c.args.from.begin c.args.from.end c.loop-x.begin c.loop-x.end c.in-Some.x c.loop-x.invariant.passed next (c.holds.ensures.0 c.if-holds.true)

pub next_within-loop-x-smaller : goal.next_within-loop-x-smaller
next_within-loop-x-smaller t c =
    let R = set (plan c.args.inner.now.value.walk) in
    let next : IsNext R c.loop-x.begin c.loop-x.end (Some c.in-Some.x) = rw (c.deref_mut.ensures.value, c.loop-x.invariant.same) at c.in-Some.ensures.next in
    rw (c.begin-begin.ensures.begin, c.from-end.ensures, c.end.ensures.end) (place_falls c.loop-x.begin c.loop-x.end c.in-Some.x.begin c.in-Some.x.end (next.only c.in-Some.x refl).1 (omega (arith, c.begin-begin.ensures.begin, c.begin-begin.type_inv)) (omega (arith, c.end.ensures.end, c.end.type_inv)))

pub next_within-loop-x-preserved : goal.next_within-loop-x-preserved
next_within-loop-x-preserved t c =
    let R = set (plan c.args.inner.now.value.walk) in
    let next : IsNext R c.loop-x.begin c.loop-x.end (Some c.in-Some.x) = rw (c.deref_mut.ensures.value, c.loop-x.invariant.same) at c.in-Some.ensures.next in
    let out : c.holds.result ≡ false = c.if-holds.false in
    record {
      same = c.next.ensures.same ∙ ap (λ (a : Ahead). plan a.walk) c.deref_mut.ensures.value ∙ c.loop-x.invariant.same;
      kept = c.next.ensures.kept;
      passed = rw (c.begin-begin.ensures.begin, c.from-end.ensures, c.end.ensures.end) (IsPassed-over R c.args.fields.now c.args.from.begin c.args.from.end c.loop-x.begin c.loop-x.end c.in-Some.x c.loop-x.invariant.passed next (λ lies. let yes : c.holds.result ≡ true = c.holds.ensures.1 lies in cc));
    }

-- ---- the shortest for each begin

pub next_shortest-returns-in-Some-extent_from-clause-next : goal.next_shortest-returns-in-Some-extent_from-clause-next
next_shortest-returns-in-Some-extent_from-clause-next t c =
    let R = set (plan c.args.inner.now.value.walk) in
    let next : IsNext R c.loop-x.low 0 (Some c.in-Some.x) = rw (c.deref_mut.ensures.value, c.loop-x.invariant.same, c.at.ensures) at c.in-Some.ensures.next in
    let found = rw (c.begin.ensures.begin, c.end.ensures.end) at c.in-Some-extent_from.ensures.some in
    IsNext-least R R (λ b e r. (e, r)) c.args.from.begin c.args.from.end c.loop-x.low c.in-Some.x c.in-Some-extent_from.found (Some c.in-Some.x.end) c.loop-x.invariant.low next (IsLeast-first R c.loop-x.low c.in-Some.x next) found.0 found.1 found.2

pub next_shortest-loop-x-smaller : goal.next_shortest-loop-x-smaller
next_shortest-loop-x-smaller t c =
    omega (arith, IsNext-begin _ c.loop-x.low c.in-Some.x (rw c.at.ensures at c.in-Some.ensures.next), c.begin-low.ensures.begin, c.begin-low.type_inv)

pub next_shortest-loop-x-preserved : goal.next_shortest-loop-x-preserved
next_shortest-loop-x-preserved t c =
    let R = set (plan c.args.inner.now.value.walk) in
    let next : IsNext R c.loop-x.low 0 (Some c.in-Some.x) = rw (c.deref_mut.ensures.value, c.loop-x.invariant.same, c.at.ensures) at c.in-Some.ensures.next in
    let none = rw (c.begin.ensures.begin, c.end.ensures.end) at (c.extent_from.ensures.none c.in_default-extent_from.is) in
    record {
      same = c.next.ensures.same ∙ ap (λ (a : Ahead). plan a.walk) c.deref_mut.ensures.value ∙ c.loop-x.invariant.same;
      kept = c.next.ensures.kept;
      low = rw c.begin-low.ensures.begin (AreLow-over R R (λ b e r. (e, r)) c.args.from.begin c.args.from.end c.loop-x.low c.in-Some.x (Some c.in-Some.x.end) c.loop-x.invariant.low next (IsLeast-first R c.loop-x.low c.in-Some.x next) none);
    }

-- ---- those that are joined

pub joined_end-returns-then-begin-clause-least : goal.joined_end-returns-then-begin-clause-least
joined_end-returns-then-begin-clause-least t c =
    let R = set (plan c.args.first.now.value.walk) in
    let S = set (plan c.args.later.now.value.walk) in
    let next : IsNext R c.args.begin c.loop-x.end (Some c.in-Some.x) = rw (c.deref_mut.ensures.value, c.loop-x.invariant.same_first) at c.in-Some.ensures.next in
    IsLeast-joined_beyond c.args.n R S c.args.begin c.loop-x.end c.loop-x.least c.in-Some.x c.loop-x.invariant.so_far next (λ e. c.if-begin.true (c.begin.ensures.begin ∙ e))

pub joined_end-returns-then-begin-clause-above : goal.joined_end-returns-then-begin-clause-above
joined_end-returns-then-begin-clause-above t c =
    joined_above c.args.n (plan c.args.first.now.value.walk) (plan c.args.later.now.value.walk) c.args.begin c.loop-x.least c.loop-x.invariant.so_far.only

pub joined_end-returns-clause-above : goal.joined_end-returns-clause-above
joined_end-returns-clause-above t c =
    joined_above c.args.n (plan c.args.first.now.value.walk) (plan c.args.later.now.value.walk) c.args.begin c.loop-x.least c.loop-x.invariant.so_far.only

pub joined_end-loop-x-smaller : goal.joined_end-loop-x-smaller
joined_end-loop-x-smaller t c =
    let same : c.in-Some.x.begin ≡ c.args.begin = sym c.begin.ensures.begin ∙ c.if-begin.false in
    let ends : c.loop-x.end ≤ c.in-Some.x.end = IsFrom-here c.args.begin c.loop-x.end c.in-Some.x.begin c.in-Some.x.end (c.in-Some.ensures.next.only c.in-Some.x refl).1 same in
    omega (arith, ends, c.from-end.ensures, c.end-in-Some-2.ensures.end, c.end-in-Some-2.type_inv)

pub joined_end-loop-x-preserved : goal.joined_end-loop-x-preserved
joined_end-loop-x-preserved t c =
    let R = set (plan c.args.first.now.value.walk) in
    let S = set (plan c.args.later.now.value.walk) in
    let next : IsNext R c.args.begin c.loop-x.end (Some c.in-Some.x) = rw (c.deref_mut.ensures.value, c.loop-x.invariant.same_first) at c.in-Some.ensures.next in
    let same : c.in-Some.x.begin ≡ c.args.begin = sym c.begin.ensures.begin ∙ c.if-begin.false in
    let here = rw (c.deref_mut-in-Some.ensures.value, c.loop-x.invariant.same_later, c.end-in-Some.ensures.end, c.from.ensures, c.end.ensures.end, c.from-in-Some.ensures) at c.least_end-here.ensures.least in
    record {
      same_first = c.next.ensures.same ∙ ap (λ (a : Ahead). plan a.walk) c.deref_mut.ensures.value ∙ c.loop-x.invariant.same_first;
      same_later = c.least_end-here.ensures.same ∙ ap (λ (a : Ahead). plan a.walk) c.deref_mut-in-Some.ensures.value ∙ c.loop-x.invariant.same_later;
      kept_first = c.next.ensures.kept;
      kept_later = c.least_end-here.ensures.kept;
      so_far = rw (c.lesser_of-least.ensures, c.from-end.ensures, c.end-in-Some-2.ensures.end) (IsJoinedSoFar-more c.args.n R S c.args.begin c.loop-x.end c.loop-x.least c.least_end-here.result c.in-Some.x c.loop-x.invariant.so_far next same here);
    }

pub next_joined-returns-in-Some-extent_from-clause-next : goal.next_joined-returns-in-Some-extent_from-clause-next
next_joined-returns-in-Some-extent_from-clause-next t c =
    let R = set (plan c.args.first.now.value.walk) in
    let S = set (plan c.args.later.now.value.walk) in
    let next : IsNext R c.loop-x.low 0 (Some c.in-Some.x) = rw (c.deref_mut.ensures.value, c.loop-x.invariant.same_first, c.at.ensures) at c.in-Some.ensures.next in
    let least = rw (c.next.ensures.same, c.deref_mut.ensures.value, c.loop-x.invariant.same_first, c.loop-x.invariant.same_later, c.begin.ensures.begin) at c.joined_end-end.ensures.least in
    let found = rw c.begin-in-Some.ensures.begin at c.in-Some-extent_from.ensures.some in
    IsNext-least (Joins c.args.n R S) R (λ b e h. (h.0, h.2)) c.args.from.begin c.args.from.end c.loop-x.low c.in-Some.x c.in-Some-extent_from.found c.joined_end-end.result c.loop-x.invariant.low next least found.0 found.1 found.2

pub next_joined-loop-x-smaller : goal.next_joined-loop-x-smaller
next_joined-loop-x-smaller t c =
    omega (arith, IsNext-begin _ c.loop-x.low c.in-Some.x (rw c.at.ensures at c.in-Some.ensures.next), c.begin-low.ensures.begin, c.begin-low.type_inv)

pub next_joined-loop-x-preserved : goal.next_joined-loop-x-preserved
next_joined-loop-x-preserved t c =
    let R = set (plan c.args.first.now.value.walk) in
    let S = set (plan c.args.later.now.value.walk) in
    let next : IsNext R c.loop-x.low 0 (Some c.in-Some.x) = rw (c.deref_mut.ensures.value, c.loop-x.invariant.same_first, c.at.ensures) at c.in-Some.ensures.next in
    let least = rw (c.next.ensures.same, c.deref_mut.ensures.value, c.loop-x.invariant.same_first, c.loop-x.invariant.same_later, c.begin.ensures.begin) at c.joined_end-end.ensures.least in
    let none = rw c.begin-in-Some.ensures.begin at (c.extent_from.ensures.none c.in_default-extent_from.is) in
    record {
      same_first = c.joined_end-end.ensures.same_first ∙ c.next.ensures.same ∙ ap (λ (a : Ahead). plan a.walk) c.deref_mut.ensures.value ∙ c.loop-x.invariant.same_first;
      same_later = c.joined_end-end.ensures.same_later ∙ c.loop-x.invariant.same_later;
      kept_first = c.joined_end-end.ensures.kept_first;
      kept_later = c.joined_end-end.ensures.kept_later;
      low = rw c.begin-low.ensures.begin (AreLow-over (Joins c.args.n R S) R (λ b e h. (h.0, h.2)) c.args.from.begin c.args.from.end c.loop-x.low c.in-Some.x c.joined_end-end.result c.loop-x.invariant.low next least none);
    }

pub next_joined-returns-clause-next : goal.next_joined-returns-clause-next
next_joined-returns-clause-next t c =
    let R = set (plan c.args.first.now.value.walk) in
    let S = set (plan c.args.later.now.value.walk) in
    let next : IsNext R c.loop-x.low 0 None = rw (c.deref_mut.ensures.value, c.loop-x.invariant.same_first, c.at.ensures) at c.in_default.ensures.next in
    IsNext-no_least (Joins c.args.n R S) R (λ b e h. (h.0, h.2)) c.args.from.begin c.args.from.end c.loop-x.low c.loop-x.invariant.low next

-- ---- chains

pub next_of_one-next-requires : goal.next_of_one-next-requires
next_of_one-next-requires t c =
    let xs = c.args.all.now.items in
    let old = c.index_mut.result.now in
    let deep = rw (← c.index_mut.ensures.value) at (depth-at xs c.args.i old c.requires.inside) in
    let kept = rw (← c.index_mut.ensures.value) at (kept-at xs c.args.i old c.requires.inside c.requires.kept) in
    (omega (arith, c.decreases, deep), kept)

pub next_of_one-returns-clause-next : goal.next_of_one-returns-clause-next
next_of_one-returns-clause-next t c =
    let xs = c.args.all.now.items in
    let old = c.index_mut.result.now in
    let is : plan old.walk ≡ plan_at (plans xs) c.args.i = ap (λ (a : Ahead). plan a.walk) c.index_mut.ensures.value ∙ plan_at-is xs c.args.i old c.requires.inside in
    rw (is, c.at.ensures) at c.next.ensures.next

pub next_of_one-returns-clause-same : goal.next_of_one-returns-clause-same
next_of_one-returns-clause-same t c =
    plans-set c.args.all.now.items c.args.i c.next.new.self c.index_mut.result.now c.requires.inside (c.next.ensures.same ∙ ap (λ (a : Ahead). plan a.walk) c.index_mut.ensures.value)

pub next_of_one-returns-clause-kept : goal.next_of_one-returns-clause-kept
next_of_one-returns-clause-kept t c =
    kept-set c.args.all.now.items c.args.i c.next.new.self c.requires.kept c.next.ensures.kept

pub first_chain-loop-i-init : goal.first_chain-loop-i-init
first_chain-loop-i-init t c =
    record {
      inside = omega (arith, c.len-i.ensures, c.args.all.now.ok.0);
      same = refl;
      kept = c.requires.kept;
      from = c.ask.ensures.from;
      searched = IsSearched-asked c.args.n (plans c.args.all.now.items) c.args.low c.len-i.result c.args.reach.now c.ask.new.self c.requires.reached c.ask.ensures (omega (arith, c.len-i.ensures, c.args.all.now.ok.0, plans_count-is c.args.all.now.items));
    }

pub first_chain-index-requires : goal.first_chain-index-requires
first_chain-index-requires t c =
    let inv = c.loop-i.invariant in
    let inside = is_inside c.loop-i.all.items c.args.all.now.items inv.same c.loop-i-test.true inv.inside in
    omega (arith, inside, inv.searched.count, c.loop-i.reach.lows.ok.0)

pub first_chain-next_of_one-requires : goal.first_chain-next_of_one-requires
first_chain-next_of_one-requires t c =
    let inv = c.loop-i.invariant in
    (omega (arith, c.decreases, ap depths inv.same), (inv.kept, omega (arith, inv.inside, c.loop-i-test.true)))

pub first_chain-returns-in_default-clause-next : goal.first_chain-returns-in_default-clause-next
first_chain-returns-in_default-clause-next t c =
    let inv = c.loop-i.invariant in
    let inside = is_inside c.loop-i.all.items c.args.all.now.items inv.same c.loop-i-test.true inv.inside in
    IsNext-no_chain c.args.n (plans c.args.all.now.items) c.args.low c.loop-i.i (c.loop-i.i - 1) c.loop-i.end c.loop-i.reach.lows.items inv.searched inside
    (next_at c.loop-i.all.items c.args.all.now.items inv.same (c.loop-i.i - 1) inv.searched inside c.index.ensures c.in_default.ensures.next)

pub first_chain-returns-in_default-clause-reached : goal.first_chain-returns-in_default-clause-reached
first_chain-returns-in_default-clause-reached t c =
    IsReached-searched c.args.n (plans c.args.all.now.items) c.args.low c.loop-i.i c.loop-i.end c.loop-i.reach c.loop-i.invariant.from c.loop-i.invariant.searched

pub first_chain-loop-i-preserved-then-i-len : goal.first_chain-loop-i-preserved-then-i-len
first_chain-loop-i-preserved-then-i-len t c =
    let inv = c.loop-i.invariant in
    let here = is_at c.loop-i.all.items c.args.all.now.items inv.same c.requires.chained c.loop-i-test.true inv.inside inv.searched c.index.ensures c.in-Some.ensures.next in
    let same = c.next_of_one.ensures.same ∙ inv.same in
    let last : plans_count (plans c.args.all.now.items) ≤ c.loop-i.i - 1 + 1 = omega (arith, here.inside, c.if-i-len.true, c.len.ensures, c.next_of_one.new.all.ok.0, plans_count-is c.next_of_one.new.all.items, ap plans_count same) in
    record {
      inside = omega (arith, here.inside, plans_count-is c.next_of_one.new.all.items, ap plans_count same);
      same = same;
      kept = c.next_of_one.ensures.kept;
      from = inv.from;
      searched = rw c.end-end.ensures.end (IsSearched-last here last);
    }

pub first_chain-index-requires-in-loop-i : goal.first_chain-index-requires-in-loop-i
first_chain-index-requires-in-loop-i t c =
    let inv = c.loop-i.invariant in
    let inside = is_inside c.loop-i.all.items c.args.all.now.items inv.same c.loop-i-test.true inv.inside in
    let same = c.next_of_one.ensures.same ∙ inv.same in
    let more_of : c.loop-i.i - 1 + 1 < plans_count (plans c.args.all.now.items) = omega (arith, inside, c.if-i-len.false, c.len.ensures, c.next_of_one.new.all.ok.0, plans_count-is c.next_of_one.new.all.items, ap plans_count same) in
    omega (arith, more_of, inv.searched.count, c.loop-i.reach.lows.ok.0)

pub first_chain-next_of_one-requires-in-loop-i : goal.first_chain-next_of_one-requires-in-loop-i
first_chain-next_of_one-requires-in-loop-i t c =
    let inv = c.loop-i.invariant in
    let inside = is_inside c.loop-i.all.items c.args.all.now.items inv.same c.loop-i-test.true inv.inside in
    let same = c.next_of_one.ensures.same ∙ inv.same in
    let more_of : c.loop-i.i - 1 + 1 < plans_count (plans c.args.all.now.items) = omega (arith, inside, c.if-i-len.false, c.len.ensures, c.next_of_one.new.all.ok.0, plans_count-is c.next_of_one.new.all.items, ap plans_count same) in
    (omega (arith, c.decreases, ap depths same), (c.next_of_one.ensures.kept, omega (arith, more_of, plans_count-is c.next_of_one.new.all.items, ap plans_count same)))

pub first_chain-returns-in_default-next_of_one-clause-next : goal.first_chain-returns-in_default-next_of_one-clause-next
first_chain-returns-in_default-next_of_one-clause-next t c =
    let inv = c.loop-i.invariant in
    let inside = is_inside c.loop-i.all.items c.args.all.now.items inv.same c.loop-i-test.true inv.inside in
    let same = c.next_of_one.ensures.same ∙ inv.same in
    let more_of : c.loop-i.i - 1 + 1 < plans_count (plans c.args.all.now.items) = omega (arith, inside, c.if-i-len.false, c.len.ensures, c.next_of_one.new.all.ok.0, plans_count-is c.next_of_one.new.all.items, ap plans_count same) in
    IsNext-no_chain c.args.n (plans c.args.all.now.items) c.args.low c.loop-i.i (c.loop-i.i - 1 + 1) c.loop-i.end c.loop-i.reach.lows.items inv.searched more_of
    (next_at c.next_of_one.new.all.items c.args.all.now.items same (c.loop-i.i - 1 + 1) inv.searched more_of c.index-in-loop-i.ensures c.in_default-next_of_one.ensures.next)

pub first_chain-returns-in_default-next_of_one-clause-reached : goal.first_chain-returns-in_default-next_of_one-clause-reached
first_chain-returns-in_default-next_of_one-clause-reached t c =
    IsReached-searched c.args.n (plans c.args.all.now.items) c.args.low c.loop-i.i c.loop-i.end c.loop-i.reach c.loop-i.invariant.from c.loop-i.invariant.searched

pub first_chain-index_mut-requires : goal.first_chain-index_mut-requires
first_chain-index_mut-requires t c =
    let inv = c.loop-i.invariant in
    let inside = is_inside c.loop-i.all.items c.args.all.now.items inv.same c.loop-i-test.true inv.inside in
    let same = c.next_of_one.ensures.same ∙ inv.same in
    let more_of : c.loop-i.i - 1 + 1 < plans_count (plans c.args.all.now.items) = omega (arith, inside, c.if-i-len.false, c.len.ensures, c.next_of_one.new.all.ok.0, plans_count-is c.next_of_one.new.all.items, ap plans_count same) in
    omega (arith, more_of, inv.searched.count, c.loop-i.reach.lows.ok.0)

pub first_chain-loop-i-smaller-then-begin-end : goal.first_chain-loop-i-smaller-then-begin-end
first_chain-loop-i-smaller-then-begin-end t c =
    let inv = c.loop-i.invariant in
    let here = is_at c.loop-i.all.items c.args.all.now.items inv.same c.requires.chained c.loop-i-test.true inv.inside inv.searched c.index.ensures c.in-Some.ensures.next in
    let same = c.next_of_one.ensures.same ∙ inv.same in
    let more_of : c.loop-i.i - 1 + 1 < plans_count (plans c.args.all.now.items) = omega (arith, here.inside, c.if-i-len.false, c.len.ensures, c.next_of_one.new.all.ok.0, plans_count-is c.next_of_one.new.all.items, ap plans_count same) in
    let behind : IsFollowed (plans c.args.all.now.items) (c.loop-i.i - 1) c.loop-i.reach.lows.items c.in-Some-next_of_one.y =
    record { more_of = more_of; next = next_at c.next_of_one.new.all.items c.args.all.now.items same (c.loop-i.i - 1 + 1) inv.searched more_of c.index-in-loop-i.ensures c.in-Some-next_of_one.ensures.next } in
    let early : c.in-Some-next_of_one.y.begin < c.in-Some.x.end = omega (arith, c.if-begin-end.true, c.begin.ensures.begin, c.end.ensures.end) in
    let falls = room-early here behind early (omega (arith, c.end.ensures.end, c.end.type_inv)) in
    rw c.end-then-begin-end.ensures.end (omega (arith, falls, c.loop-i-test.true))

pub first_chain-loop-i-preserved-then-begin-end : goal.first_chain-loop-i-preserved-then-begin-end
first_chain-loop-i-preserved-then-begin-end t c =
    let inv = c.loop-i.invariant in
    let here = is_at c.loop-i.all.items c.args.all.now.items inv.same c.requires.chained c.loop-i-test.true inv.inside inv.searched c.index.ensures c.in-Some.ensures.next in
    let same = c.next_of_one.ensures.same ∙ inv.same in
    let more_of : c.loop-i.i - 1 + 1 < plans_count (plans c.args.all.now.items) = omega (arith, here.inside, c.if-i-len.false, c.len.ensures, c.next_of_one.new.all.ok.0, plans_count-is c.next_of_one.new.all.items, ap plans_count same) in
    let behind : IsFollowed (plans c.args.all.now.items) (c.loop-i.i - 1) c.loop-i.reach.lows.items c.in-Some-next_of_one.y =
    record { more_of = more_of; next = next_at c.next_of_one.new.all.items c.args.all.now.items same (c.loop-i.i - 1 + 1) inv.searched more_of c.index-in-loop-i.ensures c.in-Some-next_of_one.ensures.next } in
    let early : c.in-Some-next_of_one.y.begin < c.in-Some.x.end = omega (arith, c.if-begin-end.true, c.begin.ensures.begin, c.end.ensures.end) in
    let again = c.next_of_one-in-loop-i.ensures.same ∙ same in
    record {
      inside = omega (arith, more_of, plans_count-is c.next_of_one-in-loop-i.new.all.items, ap plans_count again);
      same = again;
      kept = c.next_of_one-in-loop-i.ensures.kept;
      from = inv.from;
      searched = rw c.end-then-begin-end.ensures.end (IsSearched-early here behind early);
    }

pub first_chain-index_mut-requires-then-from : goal.first_chain-index_mut-requires-then-from
first_chain-index_mut-requires-then-from t c =
    let inv = c.loop-i.invariant in
    let inside = is_inside c.loop-i.all.items c.args.all.now.items inv.same c.loop-i-test.true inv.inside in
    omega (arith, inside, inv.searched.count, c.loop-i.reach.lows.ok.0)

pub first_chain-loop-i-smaller-then-from : goal.first_chain-loop-i-smaller-then-from
first_chain-loop-i-smaller-then-from t c =
    let inv = c.loop-i.invariant in
    let here = is_at c.loop-i.all.items c.args.all.now.items inv.same c.requires.chained c.loop-i-test.true inv.inside inv.searched c.index.ensures c.in-Some.ensures.next in
    let same = c.next_of_one.ensures.same ∙ inv.same in
    let more_of : c.loop-i.i - 1 + 1 < plans_count (plans c.args.all.now.items) = omega (arith, here.inside, c.if-i-len.false, c.len.ensures, c.next_of_one.new.all.ok.0, plans_count-is c.next_of_one.new.all.items, ap plans_count same) in
    let behind : IsFollowed (plans c.args.all.now.items) (c.loop-i.i - 1) c.loop-i.reach.lows.items c.in-Some-next_of_one.y =
    record { more_of = more_of; next = next_at c.next_of_one.new.all.items c.args.all.now.items same (c.loop-i.i - 1 + 1) inv.searched more_of c.index-in-loop-i.ensures c.in-Some-next_of_one.ensures.next } in
    let falls = room-far here behind (omega (arith, c.begin-then-from.ensures.begin, c.begin-then-from.type_inv)) in
    rw c.begin-then-from.ensures.begin (omega (arith, falls, c.loop-i-test.true))

pub first_chain-loop-i-preserved-then-from : goal.first_chain-loop-i-preserved-then-from
first_chain-loop-i-preserved-then-from t c =
    let inv = c.loop-i.invariant in
    let here = is_at c.loop-i.all.items c.args.all.now.items inv.same c.requires.chained c.loop-i-test.true inv.inside inv.searched c.index.ensures c.in-Some.ensures.next in
    let same = c.next_of_one.ensures.same ∙ inv.same in
    let more_of : c.loop-i.i - 1 + 1 < plans_count (plans c.args.all.now.items) = omega (arith, here.inside, c.if-i-len.false, c.len.ensures, c.next_of_one.new.all.ok.0, plans_count-is c.next_of_one.new.all.items, ap plans_count same) in
    let behind : IsFollowed (plans c.args.all.now.items) (c.loop-i.i - 1) c.loop-i.reach.lows.items c.in-Some-next_of_one.y =
    record { more_of = more_of; next = next_at c.next_of_one.new.all.items c.args.all.now.items same (c.loop-i.i - 1 + 1) inv.searched more_of c.index-in-loop-i.ensures c.in-Some-next_of_one.ensures.next } in
    let far : c.in-Some.x.end + c.args.n ≤ c.in-Some-next_of_one.y.begin = omega (arith, c.if-from.true, c.from.ensures, c.from-in-loop-i.ensures, c.from-in-loop-i-2.ensures, c.begin-in-loop-i.ensures.begin, c.end-in-loop-i.ensures.end) in
    let again = c.next_of_one-in-loop-i.ensures.same ∙ same in
    record {
      inside = omega (arith, here.inside, plans_count-is c.next_of_one-in-loop-i.new.all.items, ap plans_count again);
      same = again;
      kept = c.next_of_one-in-loop-i.ensures.kept;
      from = inv.from;
      searched = rw c.begin-then-from.ensures.begin (IsSearched-far here behind far);
    }

pub first_chain-loop-i-preserved : goal.first_chain-loop-i-preserved
first_chain-loop-i-preserved t c =
    let inv = c.loop-i.invariant in
    let here = is_at c.loop-i.all.items c.args.all.now.items inv.same c.requires.chained c.loop-i-test.true inv.inside inv.searched c.index.ensures c.in-Some.ensures.next in
    let same = c.next_of_one.ensures.same ∙ inv.same in
    let more_of : c.loop-i.i - 1 + 1 < plans_count (plans c.args.all.now.items) = omega (arith, here.inside, c.if-i-len.false, c.len.ensures, c.next_of_one.new.all.ok.0, plans_count-is c.next_of_one.new.all.items, ap plans_count same) in
    let behind : IsFollowed (plans c.args.all.now.items) (c.loop-i.i - 1) c.loop-i.reach.lows.items c.in-Some-next_of_one.y =
    record { more_of = more_of; next = next_at c.next_of_one.new.all.items c.args.all.now.items same (c.loop-i.i - 1 + 1) inv.searched more_of c.index-in-loop-i.ensures c.in-Some-next_of_one.ensures.next } in
    let after : c.in-Some.x.end ≤ c.in-Some-next_of_one.y.begin = omega (arith, c.if-begin-end.false, c.begin.ensures.begin, c.end.ensures.end) in
    let near : c.in-Some-next_of_one.y.begin < c.in-Some.x.end + c.args.n = omega (arith, c.if-from.false, c.from.ensures, c.from-in-loop-i.ensures, c.from-in-loop-i-2.ensures, c.begin-in-loop-i.ensures.begin, c.end-in-loop-i.ensures.end) in
    let again = c.next_of_one-in-loop-i.ensures.same ∙ same in
    record {
      inside = omega (arith, here.inside, plans_count-is c.next_of_one-in-loop-i.new.all.items, ap plans_count again);
      same = again;
      kept = c.next_of_one-in-loop-i.ensures.kept;
      from = inv.from;
      searched = IsSearched-follows here behind after near;
    }

pub first_chain-index-requires-2 : goal.first_chain-index-requires-2
first_chain-index-requires-2 t c =
    omega (arith, chained_some (plans c.args.all.now.items) c.requires.chained, c.loop-i.invariant.searched.count, c.loop-i.reach.lows.ok.0)

pub first_chain-next_of_one-requires-2 : goal.first_chain-next_of_one-requires-2
first_chain-next_of_one-requires-2 t c =
    let inv = c.loop-i.invariant in
    (omega (arith, c.decreases, ap depths inv.same), (inv.kept, omega (arith, chained_some (plans c.args.all.now.items) c.requires.chained, plans_count-is c.loop-i.all.items, ap plans_count inv.same)))

pub first_chain-returns-in_default-next_of_one-2-clause-next : goal.first_chain-returns-in_default-next_of_one-2-clause-next
first_chain-returns-in_default-next_of_one-2-clause-next t c =
    let g = plans c.args.all.now.items in
    let inv = c.loop-i.invariant in
    let some = chained_some g c.requires.chained in
    IsNext-no_chain c.args.n g c.args.low c.loop-i.i 0 c.loop-i.end c.loop-i.reach.lows.items inv.searched some
    (next_at c.loop-i.all.items c.args.all.now.items inv.same 0 inv.searched some c.index-2.ensures c.in_default-next_of_one-2.ensures.next)

pub first_chain-returns-in_default-next_of_one-2-clause-reached : goal.first_chain-returns-in_default-next_of_one-2-clause-reached
first_chain-returns-in_default-next_of_one-2-clause-reached t c =
    IsReached-searched c.args.n (plans c.args.all.now.items) c.args.low c.loop-i.i c.loop-i.end c.loop-i.reach c.loop-i.invariant.from c.loop-i.invariant.searched

pub first_chain-new-requires : goal.first_chain-new-requires
first_chain-new-requires t c =
    let g = plans c.args.all.now.items in
    let inv = c.loop-i.invariant in
    let zero : c.loop-i.i ≡ 0 = omega (arith, c.loop-i-test.false) in
    let some = chained_some g c.requires.chained in
    let all : IsSearched c.args.n g c.args.low 0 c.loop-i.end c.loop-i.reach.lows.items = rw zero at inv.searched in
    let next = next_at c.loop-i.all.items c.args.all.now.items inv.same 0 inv.searched some c.index-2.ensures c.in-Some-next_of_one-2.ensures.next in
    omega (arith, c.begin-2.ensures.begin, searched_some c.args.n g c.args.low c.loop-i.end c.loop-i.reach.lows.items c.in-Some-next_of_one-2.x all some next)

pub first_chain-returns-clause-next : goal.first_chain-returns-clause-next
first_chain-returns-clause-next t c =
    let g = plans c.args.all.now.items in
    let inv = c.loop-i.invariant in
    let zero : c.loop-i.i ≡ 0 = omega (arith, c.loop-i-test.false) in
    let some = chained_some g c.requires.chained in
    let all : IsSearched c.args.n g c.args.low 0 c.loop-i.end c.loop-i.reach.lows.items = rw zero at inv.searched in
    let next = next_at c.loop-i.all.items c.args.all.now.items inv.same 0 inv.searched some c.index-2.ensures c.in-Some-next_of_one-2.ensures.next in
    IsNext-chain c.args.n g c.args.low c.loop-i.end c.loop-i.reach.lows.items c.in-Some-next_of_one-2.x c.new.result (chained_monotone g c.requires.chained) all some next
    (ap (λ (x : Pair). x.begin) c.new.ensures ∙ c.begin-2.ensures.begin) (ap (λ (x : Pair). x.end) c.new.ensures)

pub first_chain-returns-clause-reached : goal.first_chain-returns-clause-reached
first_chain-returns-clause-reached t c =
    IsReached-searched c.args.n (plans c.args.all.now.items) c.args.low c.loop-i.i c.loop-i.end c.loop-i.reach c.loop-i.invariant.from c.loop-i.invariant.searched

pub next_chain-returns-in-Some-extent_from-clause-next : goal.next_chain-returns-in-Some-extent_from-clause-next
next_chain-returns-in-Some-extent_from-clause-next t c =
    let R = IsChain c.args.n (each_set (plans c.args.all.now.items)) in
    let next : IsNext R c.loop-x.low 0 (Some c.in-Some.x) = rw c.loop-x.invariant.same at c.in-Some.ensures.next in
    let found = rw (c.begin.ensures.begin, c.end.ensures.end) at c.in-Some-extent_from.ensures.some in
    IsNext-least R R (λ b e r. (e, r)) c.args.from.begin c.args.from.end c.loop-x.low c.in-Some.x c.in-Some-extent_from.found (Some c.in-Some.x.end) c.loop-x.invariant.low next (IsLeast-first R c.loop-x.low c.in-Some.x next) found.0 found.1 found.2

pub next_chain-loop-x-smaller : goal.next_chain-loop-x-smaller
next_chain-loop-x-smaller t c =
    omega (arith, IsNext-begin _ c.loop-x.low c.in-Some.x c.in-Some.ensures.next, c.begin-low.ensures.begin, c.begin-low.type_inv)

pub next_chain-loop-x-preserved : goal.next_chain-loop-x-preserved
next_chain-loop-x-preserved t c =
    let R = IsChain c.args.n (each_set (plans c.args.all.now.items)) in
    let next : IsNext R c.loop-x.low 0 (Some c.in-Some.x) = rw c.loop-x.invariant.same at c.in-Some.ensures.next in
    let none = rw (c.begin.ensures.begin, c.end.ensures.end) at (c.extent_from.ensures.none c.in_default-extent_from.is) in
    record {
      same = c.first_chain.ensures.same ∙ c.loop-x.invariant.same;
      kept = c.first_chain.ensures.kept;
      reached = rw c.loop-x.invariant.same at c.first_chain.ensures.reached;
      low = rw c.begin-low.ensures.begin (AreLow-over R R (λ b e r. (e, r)) c.args.from.begin c.args.from.end c.loop-x.low c.in-Some.x (Some c.in-Some.x.end) c.loop-x.invariant.low next (IsLeast-first R c.loop-x.low c.in-Some.x next) none);
    }

pub next_chain-returns-clause-next : goal.next_chain-returns-clause-next
next_chain-returns-clause-next t c =
    let R = IsChain c.args.n (each_set (plans c.args.all.now.items)) in
    IsNext-no_least R R (λ b e r. (e, r)) c.args.from.begin c.args.from.end c.loop-x.low c.loop-x.invariant.low (rw c.loop-x.invariant.same at c.in_default.ensures.next)

pub Walk::next-next_chain-requires : goal.Walk::next-next_chain-requires
Walk::next-next_chain-requires t c =
    let kept = rw (c.in-Chain.is, IsKept-Chain) at c.requires in
    let deeper = depth-chain c.in-Chain.n (plans c.in-Chain.all.items) kept.1 in
    let deep : depth (plan c.args.self.now) ≡ depth (chain_plan c.in-Chain.n (plans c.in-Chain.all.items)) = rw (c.in-Chain.is, plan-Chain) refl in
    rw (c.in-Chain.n-is, c.in-Chain.all-is, c.in-Chain.reach-is) (omega (arith, c.decreases, deeper, deep), (kept.0, (kept.1, kept.2)))

pub Walk::next-returns-in-Chain-clause-next : goal.Walk::next-returns-in-Chain-clause-next
Walk::next-returns-in-Chain-clause-next t c =
    rw (c.in-Chain.is, plan-Chain) (IsNext-same _ _ (λ b e. chain_plan-is c.in-Chain.n (plans c.in-Chain.all.items) b e) c.args.from.begin c.args.from.end c.next_chain.result (rw (c.in-Chain.n-is, c.in-Chain.all-is) at c.next_chain.ensures.next))

-- ---- windows

pub window_end-returns-clause-least : goal.window_end-returns-clause-least
window_end-returns-clause-least t c =
    let ss = each_set (plans c.args.all.now.items) in
    let least = rw (c.begin-2.ensures.begin, c.from.ensures, c.from-2.ensures, c.begin.ensures.begin) at c.in-Some.ensures.least in
    IsLeast-window c.args.n ss c.args.x c.requires.first c.in-Some.end c.max-end.result least (rw c.end.ensures.end at c.max-end.ensures) (omega (arith, c.if-from-top.false, c.from-3.ensures, c.from.ensures, c.from-2.ensures, c.begin.ensures.begin))

pub next_window-window_end-end-requires : goal.next_window-window_end-end-requires
next_window-window_end-end-requires t c =
    let same = c.next_of_any.ensures.same in
    let next = rw c.at.ensures at c.in-Some.ensures.next in
    (omega (arith, c.decreases, ap depths (same ∙ c.loop-x.invariant.same)), (c.next_of_any.ensures.kept, rw c.next_of_any.ensures.same (IsNext-at_begin _ c.loop-x.low c.in-Some.x next)))

pub next_window-returns-in-Some-extent_from-clause-next : goal.next_window-returns-in-Some-extent_from-clause-next
next_window-returns-in-Some-extent_from-clause-next t c =
    let ss = each_set (plans c.args.all.now.items) in
    let next : IsNext (IsInSome ss) c.loop-x.low 0 (Some c.in-Some.x) = rw (c.loop-x.invariant.same, c.at.ensures) at c.in-Some.ensures.next in
    let least = rw (c.next_of_any.ensures.same, c.loop-x.invariant.same) at c.window_end-end.ensures.least in
    let found = rw c.begin.ensures.begin at c.in-Some-extent_from.ensures.some in
    IsNext-least (IsWindow c.args.n ss) (IsInSome ss) (λ b e w. (w.begins.0, w.begins.2)) c.args.from.begin c.args.from.end c.loop-x.low c.in-Some.x c.in-Some-extent_from.found c.window_end-end.result c.loop-x.invariant.low next least found.0 found.1 found.2

pub next_window-loop-x-smaller : goal.next_window-loop-x-smaller
next_window-loop-x-smaller t c =
    omega (arith, IsNext-begin _ c.loop-x.low c.in-Some.x (rw c.at.ensures at c.in-Some.ensures.next), c.begin-low.ensures.begin, c.begin-low.type_inv)

pub next_window-loop-x-preserved : goal.next_window-loop-x-preserved
next_window-loop-x-preserved t c =
    let ss = each_set (plans c.args.all.now.items) in
    let next : IsNext (IsInSome ss) c.loop-x.low 0 (Some c.in-Some.x) = rw (c.loop-x.invariant.same, c.at.ensures) at c.in-Some.ensures.next in
    let least = rw (c.next_of_any.ensures.same, c.loop-x.invariant.same) at c.window_end-end.ensures.least in
    let none = rw c.begin.ensures.begin at (c.extent_from.ensures.none c.in_default-extent_from.is) in
    record {
      same = c.window_end-end.ensures.same ∙ c.next_of_any.ensures.same ∙ c.loop-x.invariant.same;
      kept = c.window_end-end.ensures.kept;
      low = rw c.begin-low.ensures.begin (AreLow-over (IsWindow c.args.n ss) (IsInSome ss) (λ b e w. (w.begins.0, w.begins.2)) c.args.from.begin c.args.from.end c.loop-x.low c.in-Some.x c.window_end-end.result c.loop-x.invariant.low next least none);
    }
