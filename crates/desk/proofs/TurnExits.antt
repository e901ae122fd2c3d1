-- A turn of a merge, over the call of the repository: what it does, and what the files stand for.
use Rattle.std.proofs.Common.{◌≡◌, ◌∙◌, ◌+◌, ◌<◌, ◌≤◌, ℕ, Bool, false, true, List, length, refl, sym, ap, subst, inl, Option, Some}
use Rattle.std.specs.Prelude.{IfSome, if◌then◌else◌, is_some, nat_lt}
use Rattle.std.specs.Option.{option_map}
use Rattle.std.proofs.lemmas.Bool.{ltb-true}
use Rattle.ri_base.specs.Faults.{IsOutside}
use Rattle.ri_base.specs.declared.seg_fault.SegFault.{SegFault}
use Rattle.store_ends.specs.Files.{Files, IsQuiet, Leaves, SameWhere}
use Rattle.disk_index.specs.Cache.{CacheKeeps, Cached, IsCacheBacked}
use Rattle.disk_index.specs.Snapshots.{AreIntact, IsFileAmong}
use Rattle.holdings.specs.Parts.{live}
use Rattle.merge_job.specs.Merge.{Merging, size_of}
use Rattle.repository.specs.Merges.{IsMergedTo, IsOpenMerging, IsTurnedOn, IsTurnedOver, IsTurnedTo, turned, without_dead_of}
use Rattle.repository.specs.Saved.{IsUnlisted}
use Rattle.repository.specs.Stands.{Collection, Stands}
use Rattle.repository.specs.States as repositories
use Rattle.repository.specs.States.{IsBacked, ReadsAs, listed_numbers}
use Rattle.repository.specs.Writes.{IsBeside, IsEither}
use Rattle.repository.specs.declared.turned.Turned.{Turned}
use Rattle.repository.specs.declared.turned.Turned.TheVariants as turn
use Rattle.repository.proofs.TieLemmas.{IfSome-map}
use Rattle.session_events.specs.declared.event.Event.TheVariants as event
use Rattle.desk.specs.Replied.{IsReply}
use Rattle.desk.specs.declared.reply.Reply.TheVariants as reply
use Rattle.desk.specs.declared.reply.Refusal.TheVariants.{NoMerge}
use Rattle.desk.specs.Backed.{IsDeskBacked, IsDeskIntact, IsMergeBacked, Keeps, Steps, merge_of, state_of}
use Rattle.desk.specs.Keeping.{StaysIfRefused}
use Rattle.desk.specs.Points.{kept_behind}
use Rattle.desk.specs.Replying.{turned_reply}
use Rattle.desk.specs.State.{collection_of}
use Rattle.desk.specs.Step.{refuse, step}
use Rattle.desk.specs.Told.{RefusesAs, is_refusal}
use Rattle.desk.proofs.CacheLemmas.{cache-read}
use Rattle.desk.proofs.Cases.{kept-merged, kept-nomerge, kept-turned, step-merged, step-nomerge, step-turned}
use Rattle.desk.proofs.Exits.{accepted, of-now}
use Rattle.desk.proofs.Keeping.{merge-condition}
use Rattle.desk.proofs.MergeExits.{if-some, merged-exit, none-of, some-of, turned-exit, with_merged}
use Rattle.desk.proofs.Reading.{reads-state}
use Rattle.desk.proofs.WritingLemmas.{either-now, none-written}

-- ---- what the answer tells of the credit

below-open : (b : Bool) (credit size x y : ℕ) → turn.Open credit size ≡ (if b then turn.Open x y else turn.Done) → b ≡ true
below-open true credit size x y e = refl
below-open false credit size x y e = absurd (cc)

credit-open : (b : Bool) (credit size x y : ℕ) → turn.Open credit size ≡ (if b then turn.Open x y else turn.Done) → (credit ≡ x) × (size ≡ y)
credit-open true credit size x y e = (cc, cc)
credit-open false credit size x y e = absurd (cc)

past-done : (b : Bool) (x y : ℕ) → turn.Done ≡ (if b then turn.Open x y else turn.Done) → b ≡ false
past-done true x y e = absurd (cc)
past-done false x y e = refl

-- ---- below the size nothing of the store changes

module _ {S : Type 0} (files : S → Option Files) (layers : S → Option (List Files)) (clock : S → ℕ) (since : S → ℕ → Files → Type 0) (longest : S → ℕ) (held : S → List ℕ) (old new : S) (o : Option Merging) (docs : ℕ)
    (quiet : IfSome o (λ m. length m.copied + docs < size_of m → IsQuiet files layers clock since longest held old new)) where
  pub same-below : IfSome o (λ m. length m.copied + docs < size_of m → files new ≡ files old)
  same-below = IfSome-map o (λ (m : Merging). length m.copied + docs < size_of m → IsQuiet files layers clock since longest held old new) (λ (m : Merging). length m.copied + docs < size_of m → files new ≡ files old) (λ m q lt. (q lt).same_files) quiet

  pub none-below : IfSome o (λ m. length m.copied + docs < size_of m → (t : ℕ) (f : Files) → since new t f → since old t f)
  none-below = IfSome-map o (λ (m : Merging). length m.copied + docs < size_of m → IsQuiet files layers clock since longest held old new)
      (λ (m : Merging). length m.copied + docs < size_of m → (t : ℕ) (f : Files) → since new t f → since old t f) (λ m q lt. (q lt).no_more) quiet

-- ---- no merge is open

pub nomerge-step : (told : Option Files) (d : Keeps) (docs : ℕ) → is_some d.repository.merge ≡ false → step (state_of told d) (event.Turn docs) ≡ refuse (state_of told d) NoMerge
nomerge-step told d docs none = step-nomerge (state_of told d) docs (ap (option_map merge_of) (none-of d.repository.merge none))

nomerge-behind : (told : Option Files) (d : Keeps) (docs : ℕ) (kept : Collection) → is_some d.repository.merge ≡ false → kept_behind kept (step (state_of told d) (event.Turn docs)) ≡ kept
nomerge-behind told d docs kept none = kept-nomerge kept (state_of told d) docs (ap (option_map merge_of) (none-of d.repository.merge none))

-- the files stand for what they stood for
pub nomerge-kept : (told : Option Files) (d now : Keeps) (docs : ℕ) (kept : Collection) → d ≡ now → is_some d.repository.merge ≡ false → Stands now.repository.held.limits told kept
    → Stands now.repository.held.limits told (kept_behind kept (step (state_of told now) (event.Turn docs)))
nomerge-kept told d now docs kept same none stands =
    let behind : kept_behind kept (step (state_of told now) (event.Turn docs)) ≡ kept = subst (λ (x : Keeps). kept_behind kept (step (state_of told x) (event.Turn docs)) ≡ kept) same (nomerge-behind told d docs kept none) in
    subst (λ (c : Collection). Stands now.repository.held.limits told c) (sym behind) stands

-- ---- one is open

module _ (told : Option Files) (d : Keeps) (docs : ℕ) (m : Merging) (is : d.repository.merge ≡ Some m) where
  merge-is : option_map merge_of d.repository.merge ≡ Some (merge_of m)
  merge-is = ap (option_map merge_of) is

  accepted-either : (b : Bool) → nat_lt (length m.copied + docs) (size_of m) ≡ b → is_refusal (step (state_of told d) (event.Turn docs)).1 ≡ false
  accepted-either true e = accepted (event.Turn docs) (state_of told d) _ (step-turned (state_of told d) docs (merge_of m) merge-is e) refl
  accepted-either false e = accepted (event.Turn docs) (state_of told d) _ (step-merged (state_of told d) docs (merge_of m) merge-is e) refl

  -- whatever the files are, the turn isn't refused
  pub turn-accepted : is_refusal (step (state_of told d) (event.Turn docs)).1 ≡ false
  turn-accepted = accepted-either (nat_lt (length m.copied + docs) (size_of m)) refl

  -- below the size the files stand for what they stood for
  pub behind-turned : (kept : Collection) → nat_lt (length m.copied + docs) (size_of m) ≡ true → kept_behind kept (step (state_of told d) (event.Turn docs)) ≡ kept
  behind-turned kept below = kept-turned kept (state_of told d) docs (merge_of m) merge-is below

  -- and else for the live documents, without the dead of the start
  pub behind-merged : (kept : Collection) → nat_lt (length m.copied + docs) (size_of m) ≡ false
      → kept_behind kept (step (state_of told d) (event.Turn docs)) ≡ without_dead_of d.repository.merge (collection_of (state_of told d))
  behind-merged kept past =
      kept-merged kept (state_of told d) docs (merge_of m) merge-is past ∙ ap (λ (o : Option Merging). without_dead_of o (collection_of (state_of told d))) (sym is)

module _ {S : Type 0} (files : S → Option Files) (clock : S → ℕ) (since : S → ℕ → Files → Type 0) (old new : S) (d now : Keeps) (docs : ℕ) (kept : Collection) (same : d ≡ now) (some : is_some d.repository.merge ≡ true) (same_if : IfSome d.repository.merge (λ m. length m.copied + docs < size_of m → files new ≡ files old))
    (no_more : IfSome d.repository.merge (λ m. length m.copied + docs < size_of m → (t : ℕ) (f : Files) → since new t f → since old t f)) (stay : SameWhere (IsBeside (IsUnlisted (listed_numbers d.repository))) (files old) (files new))
    (stops : (c k : Collection) → IsOpenMerging (files old) d.repository → IsCacheBacked (files old) d.cache → Stands d.repository.held.limits (files old) c → ReadsAs (files old) d.repository k
    → Leaves (since old) (since new) (IsEither d.repository.held.limits c (without_dead_of d.repository.merge k)))
    (backed : IsDeskBacked (files old) now) (stands : Stands now.repository.held.limits (files old) kept) where
  abbrev m : Merging
  m = (some-of d.repository.merge some).0

  is : d.repository.merge ≡ Some m
  is = (some-of d.repository.merge some).1

  inside : IsDeskBacked (files old) d
  inside = subst (IsDeskBacked (files old)) (sym same) backed

  stood : Stands d.repository.held.limits (files old) kept
  stood = subst (λ (x : Keeps). Stands x.repository.held.limits (files old) kept) (sym same) stands

  abbrev done : Collection
  done = without_dead_of d.repository.merge (collection_of (state_of (files old) d))

  leaves : Leaves (since old) (since new) (IsEither d.repository.held.limits kept done)
  leaves = stops kept (collection_of (state_of (files old) d)) (merge-condition (files old) d.repository d.repository.merge inside.merge) inside.cache.backed stood (reads-state (files old) d inside.repository)

  less : nat_lt (length m.copied + docs) (size_of m) ≡ true → length m.copied + docs < size_of m
  less e = ltb-true (length m.copied + docs) (size_of m) e

  stops-by : (b : Bool) → nat_lt (length m.copied + docs) (size_of m) ≡ b → Leaves (since old) (since new) (IsEither d.repository.held.limits kept (kept_behind kept (step (state_of (files old) d) (event.Turn docs))))
  stops-by true e = none-written (since old) (since new) (IsEither d.repository.held.limits kept (kept_behind kept (step (state_of (files old) d) (event.Turn docs))))
      (if-some (λ (k : Merging). length k.copied + docs < size_of k → (t : ℕ) (f : Files) → since new t f → since old t f) d.repository.merge m is no_more (less e))
  stops-by false e = subst (λ (c : Collection). Leaves (since old) (since new) (IsEither d.repository.held.limits kept c)) (sym (behind-merged (files old) d docs m is kept e)) leaves

  -- at each moment
  pub turn-stops : Leaves (since old) (since new) (IsEither now.repository.held.limits kept (kept_behind kept (step (state_of (files old) now) (event.Turn docs))))
  turn-stops = subst (λ (x : Keeps). Leaves (since old) (since new) (IsEither x.repository.held.limits kept (kept_behind kept (step (state_of (files old) x) (event.Turn docs))))) same
      (stops-by (nat_lt (length m.copied + docs) (size_of m)) refl)

  module _ (honest : (t : ℕ) (f : Files) → t ≤ clock new → files new ≡ Some f → since new t f) (still : (f : Files) → since old (clock old) f → files old ≡ Some f) (later : clock old ≤ clock new) where
    now-by : (b : Bool) → nat_lt (length m.copied + docs) (size_of m) ≡ b → IsEither d.repository.held.limits kept (kept_behind kept (step (state_of (files old) d) (event.Turn docs))) (files new)
    now-by true e =
        inl (subst (λ (f : Option Files). Stands d.repository.held.limits f kept) (sym (if-some (λ (k : Merging). length k.copied + docs < size_of k → files new ≡ files old) d.repository.merge m is same_if (less e))) stood)
    now-by false e = subst (λ (c : Collection). IsEither d.repository.held.limits kept c (files new)) (sym (behind-merged (files old) d docs m is kept e))
        (either-now files clock since d.repository.held.limits kept done old new (IsBeside (IsUnlisted (listed_numbers d.repository))) honest still later stay stood leaves)

    -- however it ends
    pub turn-now : IsEither now.repository.held.limits kept (kept_behind kept (step (state_of (files old) now) (event.Turn docs))) (files new)
    turn-now = subst (λ (x : Keeps). IsEither x.repository.held.limits kept (kept_behind kept (step (state_of (files old) x) (event.Turn docs))) (files new)) same
        (now-by (nat_lt (length m.copied + docs) (size_of m)) refl)

-- the same of all that the files may have stood for
module _ {S : Type 0} (files : S → Option Files) (layers : S → Option (List Files)) (clock : S → ℕ) (since : S → ℕ → Files → Type 0) (longest : S → ℕ) (held : S → List ℕ) (old new : S) (d now : Keeps) (docs : ℕ) (same : d ≡ now)
    (some : is_some d.repository.merge ≡ true) (quiet : IfSome d.repository.merge (λ m. length m.copied + docs < size_of m → IsQuiet files layers clock since longest held old new)) (stay : SameWhere (IsBeside (IsUnlisted (listed_numbers d.repository))) (files old) (files new))
    (stops : (c k : Collection) → IsOpenMerging (files old) d.repository → IsCacheBacked (files old) d.cache → Stands d.repository.held.limits (files old) c → ReadsAs (files old) d.repository k
    → Leaves (since old) (since new) (IsEither d.repository.held.limits c (without_dead_of d.repository.merge k))) where
  pub turned-stops : (kept : Collection) → IsDeskBacked (files old) now → Stands now.repository.held.limits (files old) kept → Leaves (since old) (since new) (IsEither now.repository.held.limits kept (kept_behind kept (step (state_of (files old) now) (event.Turn docs))))
  turned-stops kept backed stands =
      turn-stops files clock since old new d now docs kept same some (same-below files layers clock since longest held old new d.repository.merge docs quiet) (none-below files layers clock since longest held old new d.repository.merge docs quiet) stay stops backed stands

  pub turned-now : ((t : ℕ) (f : Files) → t ≤ clock new → files new ≡ Some f → since new t f) → ((f : Files) → since old (clock old) f → files old ≡ Some f) → clock old ≤ clock new
      → (kept : Collection) → IsDeskBacked (files old) now → Stands now.repository.held.limits (files old) kept → IsEither now.repository.held.limits kept (kept_behind kept (step (state_of (files old) now) (event.Turn docs))) (files new)
  turned-now honest still later kept backed stands =
      turn-now files clock since old new d now docs kept same some (same-below files layers clock since longest held old new d.repository.merge docs quiet) (none-below files layers clock since longest held old new d.repository.merge docs quiet) stay stops backed stands honest still later

-- a fault is none of the files
pub turn-honest : (told : Option Files) (d now : Keeps) (why : SegFault) → d ≡ now → (IfSome d.repository.merge (λ m. AreIntact told m.snapshot) → IsCacheBacked told d.cache → IsOutside why)
    → IsDeskBacked told now → IsDeskIntact told now → IsOutside why
turn-honest told d now why same honest backed intact =
    let inside : IsDeskBacked told d = subst (IsDeskBacked told) (sym same) backed in
    let whole : IsDeskIntact told d = subst (IsDeskIntact told) (sym same) intact in
    honest whole.merge inside.cache.backed

-- ---- below the size

module _ (before after : Option Files) (d now : Keeps) (docs credit size : ℕ) (r : repositories.State) (cache : Cached) (same : d ≡ now) (answer : IfSome d.repository.merge (λ m. turn.Open credit size ≡ turned m docs)) (on : IsTurnedOn docs d.repository r)
    (same_if : IfSome d.repository.merge (λ m. length m.copied + docs < size_of m → after ≡ before)) where
  below-on : nat_lt (length on.before.copied + docs) (size_of on.before) ≡ true
  below-on = below-open (nat_lt (length on.before.copied + docs) (size_of on.before)) credit size (length on.before.copied + docs) (size_of on.before)
      (if-some (λ (m : Merging). turn.Open credit size ≡ turned m docs) d.repository.merge on.before on.was answer)

  shown-on : (credit ≡ length on.before.copied + docs) × (size ≡ size_of on.before)
  shown-on = credit-open (nat_lt (length on.before.copied + docs) (size_of on.before)) credit size (length on.before.copied + docs) (size_of on.before)
      (if-some (λ (m : Merging). turn.Open credit size ≡ turned m docs) d.repository.merge on.before on.was answer)

  same-on : after ≡ before
  same-on = if-some (λ (m : Merging). length m.copied + docs < size_of m → after ≡ before) d.repository.merge on.before on.was same_if (ltb-true (length on.before.copied + docs) (size_of on.before) below-on)

  pub open-done : (IsOpenMerging before d.repository → IsCacheBacked before d.cache → IsTurnedOver (turn.Open credit size) d.repository.merge before after d.repository r) → IfSome d.repository.merge (λ m. CacheKeeps before (IsFileAmong m.snapshot) d.cache cache)
      → IsDeskBacked before now → Steps (event.Turn docs) before after now (with_merged d r cache) (reply.Turned credit size)
  open-done over keeps backed =
      of-now before d now (λ (x : Keeps). Steps (event.Turn docs) before after x (with_merged d r cache) (reply.Turned credit size)) same
      (λ inside.
      let s = d.repository in
      let m = on.before in
      let merging : IsMergeBacked before s m = if-some (IsMergeBacked before s) s.merge m on.was inside.merge in
      let turns = over (merge-condition before s s.merge inside.merge) inside.cache.backed in
      let kept = cache-read before s m.snapshot d.cache cache merging.listed merging.merging.snapshot (if-some (λ (k : Merging). CacheKeeps before (IsFileAmong k.snapshot) d.cache cache) s.merge m on.was keeps) inside.cache in
      let c = collection_of (state_of before d) in
      let shown : reply.Turned credit size ≡ reply.Turned (length m.copied + docs) (size_of m) = λ i. reply.Turned (shown-on.0 i) (shown-on.1 i) in
      subst (λ x. Steps (event.Turn docs) before after d (with_merged d r cache) x) (sym shown)
      (turned-exit before after d docs r cache m on.was kept inside below-on same-on on (subst (λ (f : Option Files). ReadsAs f r c) same-on (turns.reads c (reads-state before d inside.repository)))
      (subst (λ (f : Option Files). IsBacked f r) same-on turns.backed) (subst (λ (f : Option Files). IsOpenMerging f r) same-on turns.merging))) backed

  pub open-kept : (kept : Collection) → Stands now.repository.held.limits before kept → Stands now.repository.held.limits after (kept_behind kept (step (state_of before now) (event.Turn docs)))
  open-kept kept stands =
      let behind : kept_behind kept (step (state_of before now) (event.Turn docs)) ≡ kept = subst (λ (x : Keeps). kept_behind kept (step (state_of before x) (event.Turn docs)) ≡ kept) same (behind-turned before d docs on.before on.was kept below-on) in
      subst (λ (c : Collection). Stands now.repository.held.limits after c) (sym behind) (subst (λ (f : Option Files). Stands now.repository.held.limits f kept) (sym same-on) stands)

-- ---- at the size

module _ (before after : Option Files) (d now : Keeps) (docs : ℕ) (r : repositories.State) (cache : Cached) (same : d ≡ now) (answer : IfSome d.repository.merge (λ m. turn.Done ≡ turned m docs)) (to : IsMergedTo d.repository r)
    (over : IsOpenMerging before d.repository → IsCacheBacked before d.cache → IsTurnedOver turn.Done d.repository.merge before after d.repository r) where
  past-to : nat_lt (length to.before.copied + docs) (size_of to.before) ≡ false
  past-to = past-done (nat_lt (length to.before.copied + docs) (size_of to.before)) (length to.before.copied + docs) (size_of to.before)
      (if-some (λ (m : Merging). turn.Done ≡ turned m docs) d.repository.merge to.before to.was answer)

  pub merged-done : SameWhere (IsBeside (IsUnlisted (listed_numbers d.repository))) before after → IfSome d.repository.merge (λ m. CacheKeeps before (IsFileAmong m.snapshot) d.cache cache) → (count : ℕ) → count ≡ length (live after r.held.parts)
      → IsDeskBacked before now → Steps (event.Turn docs) before after now (with_merged d r cache) (reply.Merged count)
  merged-done stay keeps count is backed =
      of-now before d now (λ (x : Keeps). Steps (event.Turn docs) before after x (with_merged d r cache) (reply.Merged count)) same
      (λ inside.
      let s = d.repository in
      let m = to.before in
      let merging : IsMergeBacked before s m = if-some (IsMergeBacked before s) s.merge m to.was inside.merge in
      let turns = over (merge-condition before s s.merge inside.merge) inside.cache.backed in
      let kept = cache-read before s m.snapshot d.cache cache merging.listed merging.merging.snapshot (if-some (λ (k : Merging). CacheKeeps before (IsFileAmong k.snapshot) d.cache cache) s.merge m to.was keeps) inside.cache in
      let c = collection_of (state_of before d) in
      let read : ReadsAs after r (without_dead_of (Some m) c) = subst (λ (o : Option Merging). ReadsAs after r (without_dead_of o c)) to.was (turns.reads c (reads-state before d inside.repository)) in
      merged-exit before after d docs r cache m to.was kept inside past-to stay to read turns.backed count is) backed

  pub merged-kept : (kept : Collection) → IsDeskBacked before now → Stands now.repository.held.limits after (kept_behind kept (step (state_of before now) (event.Turn docs)))
  merged-kept kept backed =
      of-now before d now (λ (x : Keeps). Stands x.repository.held.limits after (kept_behind kept (step (state_of before x) (event.Turn docs)))) same
      (λ inside.
      let turns = over (merge-condition before d.repository d.repository.merge inside.merge) inside.cache.backed in
      let c = collection_of (state_of before d) in
      subst (λ (k : Collection). Stands d.repository.held.limits after k) (sym (behind-merged before d docs to.before to.was kept past-to)) (turns.stands refl c (reads-state before d inside.repository))) backed

-- ---- whatever became of it

module _ (before after : Option Files) (d now : Keeps) (docs : ℕ) (r : repositories.State) (cache : Cached) (count : ℕ) (same : d ≡ now)
    (same_if : IfSome d.repository.merge (λ m. length m.copied + docs < size_of m → after ≡ before)) where
  abbrev Over : Turned → Type 0
  Over t = IsOpenMerging before d.repository → IsCacheBacked before d.cache → IsTurnedOver t d.repository.merge before after d.repository r

  pub turn-steps : (t : Turned) → IfSome d.repository.merge (λ m. t ≡ turned m docs) → IsTurnedTo t docs d.repository r → Over t → SameWhere (IsBeside (IsUnlisted (listed_numbers d.repository))) before after
      → IfSome d.repository.merge (λ m. CacheKeeps before (IsFileAmong m.snapshot) d.cache cache) → count ≡ length (live after r.held.parts) → IsDeskBacked before now → Steps (event.Turn docs) before after now (with_merged d r cache) (turned_reply t count)
  turn-steps (turn.Open credit size) answer to over stay keeps is backed = open-done before after d now docs credit size r cache same answer to same_if over keeps backed
  turn-steps turn.Done answer to over stay keeps is backed = merged-done before after d now docs r cache same answer to over stay keeps count is backed

  -- the files stand for what they are to stand for
  pub turn-kept : (t : Turned) → IfSome d.repository.merge (λ m. t ≡ turned m docs) → IsTurnedTo t docs d.repository r → Over t → (kept : Collection) → IsDeskBacked before now → Stands now.repository.held.limits before kept
      → Stands now.repository.held.limits after (kept_behind kept (step (state_of before now) (event.Turn docs)))
  turn-kept (turn.Open credit size) answer to over kept backed stands = open-kept before after d now docs credit size r cache same answer to same_if kept stands
  turn-kept turn.Done answer to over kept backed stands = merged-kept before after d now docs r cache same answer to over kept backed

-- it isn't refused
pub turn-refuses : (told : Option Files) (d now : Keeps) (docs count : ℕ) (t : Turned) → d ≡ now → is_some d.repository.merge ≡ true → RefusesAs (turned_reply t count) (step (state_of told now) (event.Turn docs)).1
turn-refuses told d now docs count t same some = by t
  where
    accepted-now : is_refusal (step (state_of told now) (event.Turn docs)).1 ≡ false
    accepted-now = (let m = some-of d.repository.merge some in subst (λ (x : Keeps). is_refusal (step (state_of told x) (event.Turn docs)).1 ≡ false) same (turn-accepted told d docs m.0 m.1))

    by : (t : Turned) → RefusesAs (turned_reply t count) (step (state_of told now) (event.Turn docs)).1
    by (turn.Open credit size) = accepted-now
    by turn.Done = accepted-now

pub turn-form : (t : Turned) (count : ℕ) → IsReply (turned_reply t count)
turn-form (turn.Open credit size) count = tt
turn-form turn.Done count = tt

pub turn-stays : (t : Turned) (count : ℕ) (old new : Keeps) → StaysIfRefused (turned_reply t count) old new
turn-stays (turn.Open credit size) count old new = tt
turn-stays turn.Done count old new = tt
