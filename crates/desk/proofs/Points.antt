-- Events that are no flush points.
use Rattle.std.proofs.Common.{◌≡◌, refl, sym, ap, subst, ℕ, Bool, true, false, List, Option, Some, None, length}
use Rattle.std.specs.Prelude.{IfErr, OnOk, Result, Ok, Err, if◌then◌else◌, is_some, nat_le, nat_lt, slice_get, ◌-◌}
use Rattle.ri_base.specs.Expression.{ExprTree}
use Rattle.ri_base.specs.Faults.{TellsDamage}
use Rattle.ri_base.specs.declared.seg_fault.SegFault.{SegFault}
use Rattle.ri_base.specs.declared.seg_fault.SegFault.TheVariants.{Memory}
use Rattle.store_ends.specs.Files.{Files}
use Rattle.query_check.specs.Check.{CheckedTree}
use Rattle.desk.specs.Priors.{names_with}
use Rattle.holdings.specs.declared.limits.Limits.{Limits}
use Rattle.repository.specs.Stands.{Collection, Stands}
use Rattle.session_events.specs.declared.event.Event.{Event}
use Rattle.session_events.specs.declared.event.Event.TheVariants as event
use Rattle.desk.specs.declared.reply.Refusal.{Refusal}
use Rattle.desk.specs.declared.reply.Reply.{Reply}
use Rattle.desk.specs.Answers.{Entry}
use Rattle.desk.specs.Asked.{asked, scanned}
use Rattle.desk.specs.Points.{kept_behind, may_write}
use Rattle.desk.specs.State.{Merge, Query, State, collection_of, named}
use Rattle.desk.specs.Step.{answer_of, close_step, explain_step, is_full, is_live, merge_step, open_step, query_step, ranked, scan_step, show_step, step}
use Rattle.desk.specs.Told.{Told, is_flush_point}
use Rattle.desk.specs.declared.query.TheConstants.{MAX_QUERIES}

abbrev IsNoPoint : State × Told → Type 0
IsNoPoint r = is_flush_point r.1 ≡ false

neither : (b : Bool) (x y : State × Told) → IsNoPoint x → IsNoPoint y → IsNoPoint (if b then x else y)
neither true x y ex ey = ex
neither false x y ex ey = ey

merge-point : (s : State) (m : Option Merge) → IsNoPoint (merge_step s m)
merge-point s None = refl
merge-point s (Some m) = refl

open-point : (s : State) (name : List ℕ) (k : ℕ) (r : Result CheckedTree Refusal) → IsNoPoint (open_step s name k r)
open-point s name k (Err why) = refl
open-point s name k (Ok q) = neither (is_some (named name s.queries)) _ _ refl (neither (nat_le MAX_QUERIES (length s.queries)) _ _ refl refl)

query-point : (s : State) (name : List ℕ) (docs : ℕ) (q : Option Query) → IsNoPoint (query_step s name docs q)
query-point s name docs None = refl
query-point s name docs (Some q) = refl

show-point : (s : State) (name : List ℕ) (q : Option Query) → IsNoPoint (show_step s name q)
show-point s name None = refl
show-point s name (Some q) = neither (nat_lt q.credit (length q.live)) _ _ refl refl

ranked-point : (s : State) (name : List ℕ) (rank : ℕ) (q : Query) (e : Option Entry) → IsNoPoint (ranked s name rank q e)
ranked-point s name rank q None = refl
ranked-point s name rank q (Some e) = refl

explain-point : (s : State) (name : List ℕ) (rank : ℕ) (q : Option Query) → IsNoPoint (explain_step s name rank q)
explain-point s name rank None = refl
explain-point s name rank (Some q) = neither (nat_lt q.credit (length q.live)) _ _ refl (ranked-point s name rank q (slice_get (answer_of s q) (rank - 1)))

close-point : (s : State) (name : List ℕ) (q : Option Query) → IsNoPoint (close_step s name q)
close-point s name None = refl
close-point s name (Some q) = refl

scan-point : (s : State) (r : Result ExprTree Refusal) → IsNoPoint (scan_step s r)
scan-point s (Err why) = refl
scan-point s (Ok x) = refl

no-point : (s : State) (e : Event) → may_write e ≡ false → IsNoPoint (step s e)
unfolding step
no-point s (event.Document d) w = neither (is_live d.docno s.live) _ _ refl (neither (is_full s d) _ _ refl refl)
no-point s (event.Delete docno) w = neither (is_live docno s.live) _ _ refl refl
no-point s event.Flush w = absurd (cc)
no-point s event.Merge w = merge-point s s.merge
no-point s (event.Turn docs) w = absurd (cc)
no-point s (event.Open name k text) w = open-point s name k (asked (names_with s.priors) text)
no-point s (event.Step name docs) w = query-point s name docs (named name s.queries)
no-point s (event.Show name) w = show-point s name (named name s.queries)
no-point s (event.Explain name rank) w = explain-point s name rank (named name s.queries)
no-point s (event.Scan text) w = scan-point s (scanned text)
no-point s (event.Close name) w = close-point s name (named name s.queries)
no-point s event.End w = absurd (cc)

pub quiet-kept : (kept : Collection) (s : State) (e : Event) → may_write e ≡ false → kept_behind kept (step s e) ≡ kept
quiet-kept kept s e w = ap (λ (b : Bool). if b then collection_of (step s e).0 else kept) (no-point s e w)

-- Behind such an event, which leaves the files, they stand for what they stood for.
pub kept-by : (limits : Limits) (b c : Option Files) (s : State) (e : Event) (kept : Collection) → may_write e ≡ false → c ≡ b → Stands limits b kept → Stands limits c (kept_behind kept (step s e))
kept-by limits b c s e kept w same stands = subst (λ (k : Collection). Stands limits c k) (sym (quiet-kept kept s e w)) (subst (λ (f : Option Files). Stands limits f kept) (sym same) stands)

-- want of memory isn't damage
pub memory-damage : (r : Result Reply SegFault) (before now : Option SegFault) → now ≡ before → IfErr r (λ fault. fault ≡ Memory) → IfErr r (TellsDamage before now)
memory-damage (Ok x) before now same is = tt
memory-damage (Err fault) before now same is = subst (TellsDamage before now) (sym is) same

pub on-ok : (r : Result Reply SegFault) (P : Type 0) → P → OnOk r P
on-ok (Ok x) P p = p
on-ok (Err e) P p = tt
