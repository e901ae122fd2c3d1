use Rattle.std.proofs.Common.{arith, ◌∷◌, ◌≡◌, ◌≤◌, ◌+◌, subst, sym}
use Rattle.std.proofs.lemmas.Result.{on_ok_weaker}
use Rattle.bounded_keys.specs.Runs.{AreSeen, HoldsRuns}
use Rattle.bounded_keys.proofs.RunLemmas.{runs_kept, runs_left, runs_reach}
use Rattle.bounded_keys.proofs.runs.Runs.take.Goals as goal

pub returns-then-seen-self-clause-runs : goal.returns-then-seen-self-clause-runs
returns-then-seen-self-clause-runs g c = λ taken h.
    let s = c.args.self.now in
    let seen = c.seen_of_run-seen.result in
    let next = c.saturating_add-self.result in
    let more = subst (λ xs. AreSeen g.T.Leading.before xs s.run c.args.item seen) c.deref.ensures.value c.seen_of_run-seen.ensures in
    let one : next ≡ seen + 1 = grind arith in
    subst (λ kept. HoldsRuns g.T.Leading.before s.most (c.args.item ∷ taken) next s.full.items kept) (sym c.in_ok-push.ensures.items)
    (runs_kept g.T.Leading.before g.met.T.Leading.follow s.most s.run seen next s.full.items taken s.items.items c.args.item more c.if-seen-self.true one h)

pub returns-clause-runs : goal.returns-clause-runs
returns-clause-runs g c = on_ok_weaker c.end_run.result
    (λ told taken h.
    let s = c.args.self.now in
    let seen = c.seen_of_run-seen.result in
    let next = c.saturating_add-self.result in
    let now = c.end_run.new.self in
    let before = g.T.Leading.before in
    let more = subst (λ xs. AreSeen before xs s.run c.args.item seen) c.deref.ensures.value c.seen_of_run-seen.ensures in
    let reach = runs_reach before g.met.T.Leading.follow s.most s.run seen s.full.items taken s.items.items c.args.item more c.if-seen-self.false h in
    let up : seen ≤ next = grind arith in
    rw c.end_run.ensures.run
    (rw c.end_run.ensures.items
    (runs_left before g.met.T.Leading.follow s.most s.run seen next s.full.items now.full.items taken s.items.items c.args.item more c.if-seen-self.false up (told reach h.whole) h)))
    c.end_run.ensures.full
