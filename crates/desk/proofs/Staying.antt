-- What no event changes: the priors, the limits and the rule.
use Rattle.std.proofs.Common.{◌≡◌, refl, ℕ, ◌+◌, Bool, true, false, List, Option, Some, None, length}
use Rattle.std.specs.Prelude.{Result, Ok, Err, if◌then◌else◌, is_some, nat_le, nat_lt, slice_get, ◌-◌}
use Rattle.ri_base.specs.Expression.{ExprTree}
use Rattle.query_check.specs.Check.{CheckedTree}
use Rattle.desk.specs.Priors.{names_with}
use Rattle.session_events.specs.declared.event.Event.{Event}
use Rattle.session_events.specs.declared.event.Event.TheVariants as event
use Rattle.desk.specs.declared.reply.Refusal.{Refusal}
use Rattle.desk.specs.Answers.{Entry}
use Rattle.desk.specs.Asked.{asked, scanned}
use Rattle.desk.specs.State.{Merge, Query, State, named}
use Rattle.desk.specs.Step.{answer_of, close_step, explain_step, is_full, is_live, merge_step, open_step, query_step, ranked, scan_step, show_step, step, turn_step}
use Rattle.desk.specs.Told.{Told}
use Rattle.desk.specs.declared.query.TheConstants.{MAX_QUERIES}

pub record Stays (s : State) (r : State × Told) : Type 0 where
  pub priors : r.0.priors ≡ s.priors
  pub limits : r.0.limits ≡ s.limits
  pub kind : r.0.kind ≡ s.kind

same : (s : State) (r : State × Told) → r.0.priors ≡ s.priors → r.0.limits ≡ s.limits → r.0.kind ≡ s.kind → Stays s r
same s r p l k = record { priors = p; limits = l; kind = k }

either : (s : State) (b : Bool) (x y : State × Told) → Stays s x → Stays s y → Stays s (if b then x else y)
either s true x y ex ey = ex
either s false x y ex ey = ey

turn-stays : (s : State) (docs : ℕ) (m : Option Merge) → Stays s (turn_step s docs m)
turn-stays s docs None = same s _ refl refl refl
turn-stays s docs (Some m) = either s (nat_lt (m.credit + docs) m.size) _ _ (same s _ refl refl refl) (same s _ refl refl refl)

merge-stays : (s : State) (m : Option Merge) → Stays s (merge_step s m)
merge-stays s None = same s _ refl refl refl
merge-stays s (Some m) = same s _ refl refl refl

open-stays : (s : State) (name : List ℕ) (k : ℕ) (r : Result CheckedTree Refusal) → Stays s (open_step s name k r)
open-stays s name k (Err why) = same s _ refl refl refl
open-stays s name k (Ok q) = either s (is_some (named name s.queries)) _ _ (same s _ refl refl refl) (either s (nat_le MAX_QUERIES (length s.queries)) _ _ (same s _ refl refl refl) (same s _ refl refl refl))

query-stays : (s : State) (name : List ℕ) (docs : ℕ) (q : Option Query) → Stays s (query_step s name docs q)
query-stays s name docs None = same s _ refl refl refl
query-stays s name docs (Some q) = same s _ refl refl refl

show-stays : (s : State) (name : List ℕ) (q : Option Query) → Stays s (show_step s name q)
show-stays s name None = same s _ refl refl refl
show-stays s name (Some q) = either s (nat_lt q.credit (length q.live)) _ _ (same s _ refl refl refl) (same s _ refl refl refl)

ranked-stays : (s : State) (name : List ℕ) (rank : ℕ) (q : Query) (e : Option Entry) → Stays s (ranked s name rank q e)
ranked-stays s name rank q None = same s _ refl refl refl
ranked-stays s name rank q (Some e) = same s _ refl refl refl

explain-stays : (s : State) (name : List ℕ) (rank : ℕ) (q : Option Query) → Stays s (explain_step s name rank q)
explain-stays s name rank None = same s _ refl refl refl
explain-stays s name rank (Some q) = either s (nat_lt q.credit (length q.live)) _ _ (same s _ refl refl refl) (ranked-stays s name rank q (slice_get (answer_of s q) (rank - 1)))

close-stays : (s : State) (name : List ℕ) (q : Option Query) → Stays s (close_step s name q)
close-stays s name None = same s _ refl refl refl
close-stays s name (Some q) = same s _ refl refl refl

scan-stays : (s : State) (r : Result ExprTree Refusal) → Stays s (scan_step s r)
scan-stays s (Err why) = same s _ refl refl refl
scan-stays s (Ok x) = same s _ refl refl refl

pub step-stays : (s : State) (e : Event) → Stays s (step s e)
unfolding step
step-stays s (event.Document d) = either s (is_live d.docno s.live) _ _ (same s _ refl refl refl) (either s (is_full s d) _ _ (same s _ refl refl refl) (same s _ refl refl refl))
step-stays s (event.Delete docno) = either s (is_live docno s.live) _ _ (same s _ refl refl refl) (same s _ refl refl refl)
step-stays s event.Flush = same s _ refl refl refl
step-stays s event.Merge = merge-stays s s.merge
step-stays s (event.Turn docs) = turn-stays s docs s.merge
step-stays s (event.Open name k text) = open-stays s name k (asked (names_with s.priors) text)
step-stays s (event.Step name docs) = query-stays s name docs (named name s.queries)
step-stays s (event.Show name) = show-stays s name (named name s.queries)
step-stays s (event.Explain name rank) = explain-stays s name rank (named name s.queries)
step-stays s (event.Scan text) = scan-stays s (scanned text)
step-stays s (event.Close name) = close-stays s name (named name s.queries)
step-stays s event.End = same s _ refl refl refl
