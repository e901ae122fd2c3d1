-- Events by their kind: what follows where an event may write, and where it writes nothing.
use Rattle.std.proofs.Common.{◌≡◌, ◌∙◌, ℕ, Bool, true, false, List, refl, sym, ap, subst, inr, arith, Option, None, true≢false}
use Rattle.std.specs.Prelude.{Result, Ok, Err, IfErr, IfOk, not}
use Rattle.ri_base.specs.Documents.{Document}
use Rattle.ri_base.specs.Faults.{IsOutside}
use Rattle.ri_base.specs.declared.seg_fault.SegFault.{SegFault}
use Rattle.ri_base.specs.declared.seg_fault.SegFault.TheVariants as fault
use Rattle.store_ends.specs.Files.{Files, GoesOn, IsQuiet, Leaves}
use Rattle.repository.specs.Stands.{Collection, Stands}
use Rattle.repository.specs.Writes.{IsEither}
use Rattle.session_events.specs.Events.{is_end}
use Rattle.session_events.specs.declared.event.Event.{Event}
use Rattle.session_events.specs.declared.event.Event.TheVariants as event
use Rattle.desk.specs.declared.reply.Refusal.{Refusal}
use Rattle.desk.specs.declared.reply.Reply.{Reply}
use Rattle.desk.specs.declared.reply.Reply.TheVariants as reply
use Rattle.desk.specs.Backed.{Keeps, Steps, state_of, with_usable}
use Rattle.desk.specs.Keeping.{StaysIfRefused}
use Rattle.desk.specs.Orders.{IsTrueReply}
use Rattle.desk.specs.Points.{is_inside, kept_behind, may_write, needs_hits}
use Rattle.desk.specs.State.{State}
use Rattle.desk.specs.Step.{step}
use Rattle.desk.specs.Told as told
use Rattle.desk.specs.Told.{RefusesAs, Told, is_refusal, reply_early, told_early}
use Rattle.desk.proofs.Points.{kept-by}
use Rattle.desk.proofs.WritingLemmas.{none-written}

-- ---- results

pub if-ok-map : {A E : Type 0} (r : Result A E) (P Q : A → Type 0) → ((x : A) → P x → Q x) → IfOk r P → IfOk r Q
if-ok-map (Ok x) P Q into p = into x p
if-ok-map (Err e) P Q into p = tt

pub if-ok-all : {A E : Type 0} (r : Result A E) (P : A → Type 0) → ((x : A) → P x) → IfOk r P
if-ok-all (Ok x) P all = all x
if-ok-all (Err e) P all = tt

-- ---- a refusal that rests on no document

none-early : (t : Told) → is_refusal t ≡ false → told_early t ≡ None
none-early (told.refused why) h = absurd (true≢false h)
none-early t h = refl

pub early-by : (r : Reply) (t : Told) → RefusesAs r t → reply_early r ≡ told_early t
early-by (reply.Refused why) t h = ap told_early (sym h)
early-by r t h = sym (none-early t h)

-- so it is where all refusals are known
pub early-for : (r : Result Reply SegFault) (now : Keeps) (e other : Event) → e ≡ other → IfOk r (λ x. (told : Option Files) → RefusesAs x (step (state_of told now) other).1)
    → IfOk r (λ x. (told : Option Files) → reply_early x ≡ told_early (step (state_of told now) e).1)
early-for r now e other is refused =
    if-ok-map r (λ (x : Reply). (told : Option Files) → RefusesAs x (step (state_of told now) other).1) (λ (x : Reply). (told : Option Files) → reply_early x ≡ told_early (step (state_of told now) e).1)
    (λ x was told. subst (λ (y : Event). reply_early x ≡ told_early (step (state_of told now) y).1) (sym is) (early-by x (step (state_of told now) other).1 (was told))) refused

-- ---- an event that may write

pub true-writing : (s : State) (e : Event) (r : Reply) → may_write e ≡ true → IsTrueReply s e r
true-writing s (event.Show name) r w = absurd (true≢false (sym w))
true-writing s e r w = tt

pub writing-outside : (e : Event) → may_write e ≡ true → is_inside e ≡ true → ⊥
writing-outside event.Flush w i = true≢false (sym i)
writing-outside (event.Turn docs) w i = true≢false (sym i)
writing-outside event.End w i = true≢false (sym i)
writing-outside e w i = true≢false (sym w)

-- there are three
pub write-kinds : (e : Event) → may_write e ≡ true → (e ≡ event.Flush → ⊥) → ((docs : ℕ) → e ≡ event.Turn docs → ⊥) → (e ≡ event.End → ⊥) → ⊥
write-kinds event.Flush w flush turn end = flush refl
write-kinds (event.Turn docs) w flush turn end = turn docs refl
write-kinds event.End w flush turn end = end refl
write-kinds e w flush turn end = true≢false (sym w)

-- ---- an event that writes nothing

-- five never ask the store
pub inside-kinds : (e : Event) → is_inside e ≡ true → ((d : Document) → e ≡ event.Document d → ⊥) → ((docno : List ℕ) → e ≡ event.Delete docno → ⊥) → (e ≡ event.Merge → ⊥) → ((name : List ℕ) → e ≡ event.Show name → ⊥) → ((name : List ℕ) → e ≡ event.Close name → ⊥) → ⊥
inside-kinds (event.Document d) i document delete merge show close = document d refl
inside-kinds (event.Delete docno) i document delete merge show close = delete docno refl
inside-kinds event.Merge i document delete merge show close = merge refl
inside-kinds (event.Show name) i document delete merge show close = show name refl
inside-kinds (event.Close name) i document delete merge show close = close name refl
inside-kinds e i document delete merge show close = true≢false (sym i)

-- and four read from it
pub reading-kinds : (e : Event) → may_write e ≡ false → is_inside e ≡ false → ((name : List ℕ) (k : ℕ) (text : List ℕ) → e ≡ event.Open name k text → ⊥) → ((name : List ℕ) (docs : ℕ) → e ≡ event.Step name docs → ⊥)
    → ((name : List ℕ) (rank : ℕ) → e ≡ event.Explain name rank → ⊥) → ((text : List ℕ) → e ≡ event.Scan text → ⊥) → ⊥
reading-kinds (event.Document d) w i opens steps explains scans = true≢false i
reading-kinds (event.Delete docno) w i opens steps explains scans = true≢false i
reading-kinds event.Flush w i opens steps explains scans = true≢false w
reading-kinds event.Merge w i opens steps explains scans = true≢false i
reading-kinds (event.Turn docs) w i opens steps explains scans = true≢false w
reading-kinds (event.Open name k text) w i opens steps explains scans = opens name k text refl
reading-kinds (event.Step name docs) w i opens steps explains scans = steps name docs refl
reading-kinds (event.Show name) w i opens steps explains scans = true≢false i
reading-kinds (event.Explain name rank) w i opens steps explains scans = explains name rank refl
reading-kinds (event.Scan text) w i opens steps explains scans = scans text refl
reading-kinds (event.Close name) w i opens steps explains scans = true≢false i
reading-kinds event.End w i opens steps explains scans = true≢false w

-- only results that are shown claim an order, and these are kept
pub true-reading : (s : State) (e : Event) (r : Reply) → is_inside e ≡ false → IsTrueReply s e r
true-reading s (event.Show name) r i = absurd (true≢false i)
true-reading s e r i = tt

pub end-writes : (e : Event) → may_write e ≡ false → is_end e ≡ true → ⊥
end-writes event.End w i = true≢false w
end-writes e w i = true≢false (sym i)

pub no-clash : (b : Bool) → b ≡ true → b ≡ false → ⊥
no-clash b is other = true≢false (sym is ∙ other)

module _ {S : Type 0} (files : S → Option Files) (layers : S → Option (List Files)) (clock : S → ℕ) (since : S → ℕ → Files → Type 0) (longest : S → ℕ) (held : S → List ℕ) (old new : S) (quiet : IsQuiet files layers clock since longest held old new) where
  pub quiet-on : GoesOn layers clock longest held old new
  quiet-on = let same = quiet.same_clock in record { same_layers = quiet.same_layers; same_longest = quiet.same_longest; same_held = quiet.same_held; later = omega (arith, same) }

  module _ (d : Keeps) (e : Event) (kept : Collection) (none : may_write e ≡ false) where
    -- the files stand for what they stood for
    pub quiet-done : Stands d.repository.held.limits (files old) kept → Stands d.repository.held.limits (files new) (kept_behind kept (step (state_of (files old) d) e))
    quiet-done stands = kept-by d.repository.held.limits (files old) (files new) (state_of (files old) d) e kept none quiet.same_files stands

    pub quiet-now : Stands d.repository.held.limits (files old) kept → IsEither d.repository.held.limits kept (kept_behind kept (step (state_of (files old) d) e)) (files new)
    quiet-now stands = inr (quiet-done stands)

    pub quiet-stops : Leaves (since old) (since new) (IsEither d.repository.held.limits kept (kept_behind kept (step (state_of (files old) d) e)))
    quiet-stops = none-written (since old) (since new) (IsEither d.repository.held.limits kept (kept_behind kept (step (state_of (files old) d) e))) quiet.no_more

-- ---- a fault of memory

pub outside-memory : {A : Type 0} (r : Result A SegFault) → IfErr r (λ why. why ≡ fault.Memory) → IfErr r IsOutside
outside-memory (Ok x) memory = tt
outside-memory (Err why) memory = subst IsOutside (sym memory) tt

two-faults : fault.Store ≡ fault.Memory → ⊥
two-faults e = cc

pub never-store : {A : Type 0} (r : Result A SegFault) (Q : Type 0) → IfErr r (λ why. why ≡ fault.Memory) → r ≡ Err fault.Store → Q
never-store {A} r Q memory is = absurd (two-faults (subst (λ (x : Result A SegFault). IfErr x (λ why. why ≡ fault.Memory)) is memory))

-- ---- whether it may be used on is read by no state, and no file is tied to it

pub usable-set : (e : Event) (before after : Option Files) (old new : Keeps) (usable : Bool) (r : Reply) → Steps e before after old new r → Steps e before after old (with_usable new usable) r
usable-set e before after old new usable r steps =
    let b = steps.backed in
    record {
      state = steps.state;
      shows = steps.shows;
      backed = record { repository = b.repository; queries = b.queries; merge = b.merge; counts = b.counts; cache = b.cache };
    }

-- ---- an event that is refused changes nothing

pub stays-same : (r : Reply) (old new : Keeps) → new ≡ old → StaysIfRefused r old new
stays-same (reply.Refused why) old new same = same
stays-same r old new same = tt

never-ended : (live : ℕ) (why : Refusal) → told.ended live ≡ told.refused why → ⊥
never-ended live why is = cc

-- the end is never refused, and behind another event the desk may be used on
usable-same : (e : Event) (old new : Keeps) (why : Refusal) → old.usable ≡ true → (needs_hits e ≡ false → (step (state_of None old) e).1 ≡ told.refused why) → new ≡ old → with_usable new (not (is_end e)) ≡ old
unfolding step
usable-same event.End old new why on refused same = absurd (never-ended _ why (refused refl))
usable-same e old new why on refused same = ap (λ (x : Keeps). with_usable x true) same ∙ ap (with_usable old) (sym on)

pub stays-usable : (e : Event) (old new : Keeps) (r : Reply) → old.usable ≡ true → (needs_hits e ≡ false → RefusesAs r (step (state_of None old) e).1) → StaysIfRefused r old new → StaysIfRefused r old (with_usable new (not (is_end e)))
stays-usable e old new (reply.Refused why) on refused same = usable-same e old new why on refused same
stays-usable e old new r on refused same = tt
