-- How the calls of a desk end: in a step that is done, or in a refusal.
use Rattle.std.proofs.Common.{◌≡◌, ◌∙◌, false, List, map, refl, sym, ap, subst, Option}
use Rattle.std.specs.Option.{option_map}
use Rattle.std.specs.Prelude.{Err}
use Rattle.ri_base.specs.Faults.{TellsDamage}
use Rattle.ri_base.specs.declared.seg_fault.SegFault.{SegFault}
use Rattle.store_ends.specs.Files.{Files}
use Rattle.smoothing.specs.declared.rule.RuleKind.{RuleKind}
use Rattle.holdings.specs.declared.limits.Limits.{Limits}
use Rattle.repository.specs.Stands.{Collection}
use Rattle.repository.specs.States.{ReadsAs}
use Rattle.session_events.specs.declared.event.Event.{Event}
use Rattle.desk.specs.declared.reply.Refusal.{Refusal}
use Rattle.desk.specs.declared.reply.Reply.{Reply}
use Rattle.desk.specs.declared.reply.Reply.TheVariants as reply
use Rattle.desk.specs.Backed.{IsDeskBacked, Keeps, Steps, merge_of, state_of}
use Rattle.desk.specs.Leaving.{LeavesKept}
use Rattle.desk.specs.Queries.{query_of}
use Rattle.desk.specs.State.{Merge, Query, State}
use Rattle.desk.specs.Step.{refuse, step}
use Rattle.desk.specs.Told.{Shows, Told, is_refusal, refused}
use Rattle.desk.proofs.Keeping.{state-eq, state_at}
use Rattle.desk.proofs.Reading.{priors-read}

-- ---- a step that is done

pub exit : (e : Event) (before after : Option Files) (old new : Keeps) (r : Reply) (to : State × Told) → step (state_of before old) e ≡ to → state_of after new ≡ to.0 → Shows to.1 r → IsDeskBacked after new → Steps e before after old new r
exit e before after old new r to is state shows backed = record {
  state = state ∙ ap (λ (x : State × Told). x.0) (sym is);
  shows = subst (λ (t : Told). Shows t r) (ap (λ (x : State × Told). x.1) (sym is)) shows;
  backed = backed;
}

-- ---- a call that fails

-- damage that it tells is what was met last
pub leaves-failed : (fault : SegFault) (d now new : Keeps) → d ≡ now → new.kind ≡ d.kind → TellsDamage d.cache.damage new.cache.damage fault → LeavesKept (Err fault) now new
leaves-failed fault d now new same kind tells = record {
  form = tt;
  kind = kind ∙ ap (λ (x : Keeps). x.kind) same;
  unchanged = tt;
  usable = tt;
  undamaged = tt;
  damaged = subst (λ (x : Keeps). TellsDamage x.cache.damage new.cache.damage fault) same tells;
}

-- ---- an event that is refused

pub refused-exit : (e : Event) (told : Option Files) (d : Keeps) (why : Refusal) → step (state_of told d) e ≡ refuse (state_of told d) why → IsDeskBacked told d → Steps e told told d d (reply.Refused why)
refused-exit e told d why is backed = exit e told told d d (reply.Refused why) (refuse (state_of told d) why) is refl refl backed

-- whatever the files are, it is refused so
pub refused-so : (e : Event) (s : State) (why : Refusal) → step s e ≡ refuse s why → (step s e).1 ≡ refused why
refused-so e s why is = ap (λ (x : State × Told). x.1) is

-- or not refused
pub accepted : (e : Event) (s : State) (to : State × Told) → step s e ≡ to → is_refusal to.1 ≡ false → is_refusal (step s e).1 ≡ false
accepted e s to is taken = ap (λ (x : State × Told). is_refusal x.1) is ∙ taken

-- the same of a desk that is seen as another
pub refused-by : (e : Event) (told : Option Files) (d now : Keeps) (why : Refusal) → d ≡ now → step (state_of told d) e ≡ refuse (state_of told d) why → (step (state_of told now) e).1 ≡ refused why
refused-by e told d now why same is = subst (λ (x : Keeps). (step (state_of told x) e).1 ≡ refused why) same (refused-so e (state_of told d) why is)

pub accepted-by : (e : Event) (told : Option Files) (d now : Keeps) (to : State × Told) → d ≡ now → step (state_of told d) e ≡ to → is_refusal to.1 ≡ false → is_refusal (step (state_of told now) e).1 ≡ false
accepted-by e told d now to same is taken = subst (λ (x : Keeps). is_refusal (step (state_of told x) e).1 ≡ false) same (accepted e (state_of told d) to is taken)

-- ---- states by what the repository reads as

pub state-by : (told : Option Files) (d : Keeps) (c : Collection) (qs : List Query) (m : Option Merge) (l : Limits) (k : RuleKind) → ReadsAs told d.repository c → map (query_of told) d.queries ≡ qs → option_map merge_of d.repository.merge ≡ m
    → d.repository.held.limits ≡ l → d.kind ≡ k → state_of told d ≡ state_at c.live c.documents c.tokens c.priors qs m l k
state-by told d c qs m l k r eq em el ek = state-eq r.live_are r.documents_are r.tokens_are (sym (priors-read told d.repository.priors c.priors r.priors_are)) eq em el ek

-- ---- the files are the same, though the store was read

-- what is shown of a desk that is backed holds of one that is the same
pub of-now : (told : Option Files) (d now : Keeps) (P : Keeps → Type 0) → d ≡ now → (IsDeskBacked told d → P d) → IsDeskBacked told now → P now
of-now told d now P same into backed = subst P same (into (subst (IsDeskBacked told) (sym same) backed))

-- and it is the same desk
pub refused-here : (e : Event) (told : Option Files) (d now : Keeps) (why : Refusal) → d ≡ now → step (state_of told d) e ≡ refuse (state_of told d) why → IsDeskBacked told now → Steps e told told now now (reply.Refused why)
refused-here e told d now why same is backed = of-now told d now (λ (x : Keeps). Steps e told told x x (reply.Refused why)) same (λ b. refused-exit e told d why is b) backed
