-- What an event leaves of what a desk keeps, and of the files.
use Rattle.std.specs.Prelude.{◌≡◌, ℕ, IfErr, IfOk, OnOk, Option, Result}
use Rattle.ri_base.specs.Faults.{TellsDamage}
use Rattle.ri_base.specs.declared.seg_fault.SegFault.{SegFault}
use Rattle.store_ends.specs.Files.{Files, Leaves}
use Rattle.repository.specs.Stands.{Collection, Stands}
use Rattle.repository.specs.Writes.{IsEither}
use Rattle.session_events.specs.declared.event.Event.{Event}
use Rattle.desk.specs.Backed.{IsDeskBacked, IsUsable, Keeps, state_of}
use Rattle.desk.specs.Keeping.{StaysIfRefused}
use Rattle.desk.specs.Points.{kept_behind}
use Rattle.desk.specs.Replied.{IsReply}
use Rattle.desk.specs.Step.{step}
use Rattle.desk.specs.declared.reply.Reply.{Reply}

-- Whatever the files are: the numbers of its reply are in their ranges, the rule stays, where it is refused all stays, and after `Ok` the
-- desk may be used on. Where it is replied to, reading met no damage, and a malformed or missing file that is told is the one that was met.
pub record LeavesKept (result : Result Reply SegFault) (old new : Keeps) : Type 0 where
  pub form : IfOk result IsReply
  pub kind : new.kind ≡ old.kind
  pub unchanged : IfOk result (λ reply. StaysIfRefused reply old new)
  pub usable : OnOk result (IsUsable new)
  pub undamaged : OnOk result (new.cache.damage ≡ old.cache.damage)
  pub damaged : IfErr result (TellsDamage old.cache.damage new.cache.damage)

-- By files that back the desk: once it is done they stand for what they are to stand for behind it. However it ends, and at each moment,
-- they stand for that or for what they stood for.
pub record LeavesFiles (event : Event) (result : Result Reply SegFault) (before after : Option Files) (past since : ℕ → Files → Type 0) (old : Keeps) : Type 0 where
  pub done : OnOk result ((kept : Collection) → IsDeskBacked before old → Stands old.repository.held.limits before kept
      → Stands old.repository.held.limits after (kept_behind kept (step (state_of before old) event)))
  pub now : (kept : Collection) → IsDeskBacked before old → Stands old.repository.held.limits before kept → IsEither old.repository.held.limits kept (kept_behind kept (step (state_of before old) event)) after
  pub stops : (kept : Collection) → IsDeskBacked before old → Stands old.repository.held.limits before kept → Leaves past since (IsEither old.repository.held.limits kept (kept_behind kept (step (state_of before old) event)))
