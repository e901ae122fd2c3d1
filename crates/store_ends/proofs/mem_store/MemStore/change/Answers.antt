use Rattle.std.proofs.Common.{◌≡◌, refl, ◌∙◌, ap, sym, Option, Some, None, true, false, List, subst, ℕ}
use Rattle.std.specs.Prelude.{IsSome}
use Rattle.std.specs.Option.{option_map, is_some}
use Rattle.store_ends.specs.Past.{failing_call}
use Rattle.store_ends.specs.declared.failing.Left.{Left}
use Rattle.store_ends.specs.declared.failing.StoreFail.{StoreFail}
use Rattle.store_ends.proofs.Past.{recorded, done_at, failed_at, in_one_step, after-any, after-step, stops-any, within_torn, within_step, stops-step, apart}
use Rattle.store_ends.proofs.mem_store.MemStore.change.Goals as goal

found : (left : Option Left) (fails fails' : List StoreFail) (call call' : ℕ) → left ≡ failing_call fails call → fails ≡ fails' → call ≡ call' → left ≡ failing_call fails' call'
found left fails fails' call call' e f g = e ∙ ap (λ xs. failing_call xs call) f ∙ ap (failing_call fails') g

some_found : {A B : Type 0} (f : A → B) (o : Option A) (told : Option B) → true ≡ is_some o → option_map f o ≡ told → IsSome told
some_found f None told some e = absurd (apart some)
some_found f (Some x) told some e = subst IsSome e refl

none_found : {A B : Type 0} (f : A → B) (o : Option A) (told : Option B) → false ≡ is_some o → option_map f o ≡ told → told ≡ None
none_found f None told none e = sym e
none_found f (Some x) told none e = absurd (apart (sym none))

pub returns-then-fails-clause-failed : goal.returns-then-fails-clause-failed
returns-then-fails-clause-failed c _ =
    failed_at _ _ _ _ _ _ _ (some_found _ _ _ c.if-fails.ensures (found _ _ _ _ _ c.fail_at-left.ensures c.deref.ensures.value c.saturating_add-call.ensures)) (recorded _ _ _ _ _ _ _ _ _ (found _ _ _ _ _ c.fail_at-left.ensures c.deref.ensures.value c.saturating_add-call.ensures) c.outcome-done.ensures.made c.outcome-done.ensures.is_done c.in_ok-record.ensures.ok)

pub returns-then-fails-clause-any : goal.returns-then-fails-clause-any
returns-then-fails-clause-any c _ = after-any _ _ _ _ _ _ _ c.in_ok-record.ensures.ok

pub returns-then-fails-clause-step : goal.returns-then-fails-clause-step
returns-then-fails-clause-step c step _ =
    after-step _ _ _ _ _ _ _ (in_one_step _ _ _ _ _ _ step (recorded _ _ _ _ _ _ _ _ _ (found _ _ _ _ _ c.fail_at-left.ensures c.deref.ensures.value c.saturating_add-call.ensures) c.outcome-done.ensures.made c.outcome-done.ensures.is_done c.in_ok-record.ensures.ok))

pub returns-then-fails-clause-stops_any : goal.returns-then-fails-clause-stops_any
returns-then-fails-clause-stops_any c _ = stops-any _ _ _ _ _ _ _ c.in_ok-record.ensures.ok

pub returns-then-fails-clause-stops_step : goal.returns-then-fails-clause-stops_step
returns-then-fails-clause-stops_step c step =
    stops-step _ _ _ _ _ _ (in_one_step _ _ _ _ _ _ step (recorded _ _ _ _ _ _ _ _ _ (found _ _ _ _ _ c.fail_at-left.ensures c.deref.ensures.value c.saturating_add-call.ensures) c.outcome-done.ensures.made c.outcome-done.ensures.is_done c.in_ok-record.ensures.ok))

pub returns-clause-done : goal.returns-clause-done
returns-clause-done c =
    done_at _ _ _ _ _ _ _ (none_found _ _ _ c.if-fails.ensures (found _ _ _ _ _ c.fail_at-left.ensures c.deref.ensures.value c.saturating_add-call.ensures)) (recorded _ _ _ _ _ _ _ _ _ (found _ _ _ _ _ c.fail_at-left.ensures c.deref.ensures.value c.saturating_add-call.ensures) c.outcome-done.ensures.made c.outcome-done.ensures.is_done c.in_ok-record.ensures.ok)

pub returns-clause-stops_any : goal.returns-clause-stops_any
returns-clause-stops_any c _ = stops-any _ _ _ _ _ _ _ c.in_ok-record.ensures.ok

pub returns-clause-stops_step : goal.returns-clause-stops_step
returns-clause-stops_step c step =
    stops-step _ _ _ _ _ _ (in_one_step _ _ _ _ _ _ step (recorded _ _ _ _ _ _ _ _ _ (found _ _ _ _ _ c.fail_at-left.ensures c.deref.ensures.value c.saturating_add-call.ensures) c.outcome-done.ensures.made c.outcome-done.ensures.is_done c.in_ok-record.ensures.ok))

pub returns-then-fails-clause-within_failed : goal.returns-then-fails-clause-within_failed
returns-then-fails-clause-within_failed c torn _ state = within_torn _ _ _ _ _ _ _ state torn c.in_ok-record.ensures.ok

pub returns-clause-within : goal.returns-clause-within
returns-clause-within c torn state = within_torn _ _ _ _ _ _ _ state torn c.in_ok-record.ensures.ok

pub returns-then-fails-clause-step_within_failed : goal.returns-then-fails-clause-step_within_failed
returns-then-fails-clause-step_within_failed c step _ f left = within_step _ _ _ _ _ _ f (in_one_step _ _ _ _ _ _ step (recorded _ _ _ _ _ _ _ _ _ (found _ _ _ _ _ c.fail_at-left.ensures c.deref.ensures.value c.saturating_add-call.ensures) c.outcome-done.ensures.made c.outcome-done.ensures.is_done c.in_ok-record.ensures.ok)) left

pub returns-clause-step_within : goal.returns-clause-step_within
returns-clause-step_within c step f left = within_step _ _ _ _ _ _ f (in_one_step _ _ _ _ _ _ step (recorded _ _ _ _ _ _ _ _ _ (found _ _ _ _ _ c.fail_at-left.ensures c.deref.ensures.value c.saturating_add-call.ensures) c.outcome-done.ensures.made c.outcome-done.ensures.is_done c.in_ok-record.ensures.ok)) left
