-- Where a merge is opened, goes on or is done.
use Rattle.std.proofs.Common.{◌≡◌, ◌∙◌, ◌+◌, ◌-◌, ℕ, false, true, List, length, refl, sym, ap, subst, Option, None, Some, true≢false}
use Rattle.std.specs.Prelude.{IfSome, is_some, nat_lt, unwrap_or}
use Rattle.std.specs.Option.{option_map}
use Rattle.ri_base.specs.Collection.{token_count}
use Rattle.ri_base.specs.Documents.{Document}
use Rattle.store_ends.specs.Files.{Files, SameWhere}
use Rattle.disk_index.specs.Cache.{Cached}
use Rattle.disk_index.specs.Snapshots as snapshots
use Rattle.disk_index.specs.Snapshots.{Marked}
use Rattle.holdings.specs.Contents.{all_closed}
use Rattle.holdings.specs.Parts.{live, sealed}
use Rattle.holdings.proofs.RoomLemmas.{live-closed}
use Rattle.counts.specs.Kept.{AreSums}
use Rattle.merge_job.specs.Merge.{Merging, size_of}
use Rattle.repository.specs.Merges as merges
use Rattle.repository.specs.Merges.{IsMergedTo, IsMerging, IsOpenMerging, IsTurnedOn, dead_documents, dead_tokens, merge_begun, without_dead_of}
use Rattle.repository.specs.Numbers.{is_among}
use Rattle.repository.specs.Saved.{IsUnlisted}
use Rattle.repository.specs.Stands.{Collection}
use Rattle.repository.specs.States as repositories
use Rattle.repository.specs.States.{IsBacked, ReadsAs, listed_numbers, part_numbers}
use Rattle.repository.specs.Writes.{IsBeside}
use Rattle.repository.proofs.SaveLemmas.{numbers-sealed}
use Rattle.session_events.specs.declared.event.Event.TheVariants as event
use Rattle.desk.specs.declared.reply.Reply.TheVariants as reply
use Rattle.desk.specs.declared.reply.Refusal.TheVariants.{MergeOpen}
use Rattle.desk.specs.Backed.{IsDeskBacked, IsMergeBacked, Keeps, Steps, merge_of, state_of}
use Rattle.desk.specs.Queries.{AreListed, IsCacheKept, priors_in}
use Rattle.desk.specs.State.{Merge, collection_of, opened_merge, turned_merge}
use Rattle.desk.specs.Step.{refuse, step}
use Rattle.desk.proofs.Cases.{step-merged, step-mergeopen, step-merging, step-turned}
use Rattle.desk.proofs.CacheLemmas.{listed-now}
use Rattle.desk.proofs.CountLemmas.{documents-closed, length-alike, tokens-alike, tokens-closed}
use Rattle.desk.proofs.DocumentExits.{with_repository}
use Rattle.desk.proofs.Exits.{exit, of-now, state-by}
use Rattle.desk.proofs.Keeping.{Cache-commit, Cache-on, Lists, Queries-commit, Queries-on, listed-held, queries-same}
use Rattle.desk.proofs.Reading.{priors-read, reads-state}

abbrev merge_at : ℕ → ℕ → ℕ → ℕ → Merge
merge_at size credit documents tokens = record { size = size; credit = credit; dead_documents = documents; dead_tokens = tokens }

-- with another repository and other blocks
abbrev pub with_merged : Keeps → repositories.State → Cached → Keeps
with_merged d r cache = record { repository = r; kind = d.kind; queries = d.queries; counts = d.counts; cache = cache; usable = d.usable }

merge-eq : {a b c d e f g h : ℕ} → a ≡ b → c ≡ d → e ≡ f → g ≡ h → merge_at a c e g ≡ merge_at b d f h
merge-eq p q r s = λ i. merge_at (p i) (q i) (r i) (s i)

-- a merge of all live documents, as it is opened
merge-opened : (told : Option Files) (d : Keeps) → merge_of (merges.merge_of d.repository) ≡ opened_merge (state_of told d)
merge-opened told d =
    let p = d.repository.held.parts in
    let closed = (sealed p).closed in
    let size : length (snapshots.live None closed) ≡ length (live told p) = length-alike None told closed ∙ ap length (live-closed told p) in
    let tokens : token_count (snapshots.live None closed) ≡ token_count (live told p) = tokens-alike None told closed ∙ ap token_count (live-closed told p) in
    merge-eq size refl (λ i. documents-closed p i - size i) (λ i. tokens-closed p i - tokens i)

-- a merge is opened
pub merge-exit : (told : Option Files) (d : Keeps) (count : ℕ) → d.repository.merge ≡ None → count ≡ length (live told d.repository.held.parts) → ReadsAs told (merge_begun d.repository) (collection_of (state_of told d))
    → IsBacked told (merge_begun d.repository) → IsOpenMerging told (merge_begun d.repository) → IsDeskBacked told d → Steps event.Merge told told d (with_repository d (merge_begun d.repository)) (reply.Merging count)
merge-exit told d count none is reads stored merging backed =
    let s = d.repository in
    let r = merge_begun s in
    let n = with_repository d r in
    let lists : Lists s r = listed-held s (all_closed s.held) (numbers-sealed s.held.parts) in
    exit event.Merge told told d n (reply.Merging count) _ (step-merging (state_of told d) (ap (option_map merge_of) none))
    (state-by told n (collection_of (state_of told d)) _ _ _ _ reads refl (ap (λ (m : Merge). Some m) (merge-opened told d)) refl refl) (ap reply.Merging is)
    (record {
      repository = stored;
      queries = Queries-on told s r d.kind d.queries lists refl backed.queries;
      merge = record { merging = merging; listed = λ j among. lists j (listed-now s (sealed s.held.parts).closed (numbers-sealed s.held.parts) j among) };
      counts = subst (λ (docs : List Document). AreSums docs s.held.generation d.counts) (sym reads.live_are) backed.counts;
      cache = Cache-on told s r d.cache lists backed.cache;
    })

-- over the call of the repository, which gives the condition of an open merge
pub merge-done : (told : Option Files) (d now : Keeps) (r : repositories.State) (count : ℕ) → d ≡ now → d.repository.merge ≡ None → r ≡ merge_begun d.repository → count ≡ length (live told d.repository.held.parts)
    → ((c : Collection) → ReadsAs told d.repository c → ReadsAs told r c) → (IsBacked told d.repository → IsBacked told r) → (IsBacked told d.repository → IsOpenMerging told r) → IsDeskBacked told now
    → Steps event.Merge told told now (with_repository d r) (reply.Merging count)
merge-done told d now r count same none made is reads stored merging backed =
    of-now told d now (λ (x : Keeps). Steps event.Merge told told x (with_repository d r) (reply.Merging count)) same
    (λ inside.
    let c = collection_of (state_of told d) in
    let read : ReadsAs told (merge_begun d.repository) c = subst (λ (x : repositories.State). ReadsAs told x c) made (reads c (reads-state told d inside.repository)) in
    subst (λ (x : repositories.State). Steps event.Merge told told d (with_repository d x) (reply.Merging count)) (sym made)
    (merge-exit told d count none is read (subst (IsBacked told) made (stored inside.repository)) (subst (IsOpenMerging told) made (merging inside.repository)) inside)) backed

-- ---- which merge is open

pub none-of : {X : Type 0} (o : Option X) → is_some o ≡ false → o ≡ None
none-of None e = refl
none-of (Some x) e = absurd (true≢false e)

pub some-of : {X : Type 0} (o : Option X) → is_some o ≡ true → (x : X) × (o ≡ Some x)
some-of None e = absurd (true≢false (sym e))
some-of (Some x) e = (x, refl)

-- where one is open, no other is opened
pub mergeopen-step : (told : Option Files) (d : Keeps) → is_some d.repository.merge ≡ true → step (state_of told d) event.Merge ≡ refuse (state_of told d) MergeOpen
mergeopen-step told d some = let m = some-of d.repository.merge some in step-mergeopen (state_of told d) (merge_of m.0) (ap (option_map merge_of) m.1)

-- ---- a turn

pub if-some : {X : Type 0} (P : X → Type 0) (o : Option X) (x : X) → o ≡ Some x → IfSome o P → P x
if-some {X} P o x is h = subst (λ (p : Option X). IfSome p P) is h

pub some-if : {X : Type 0} (P : X → Type 0) (o : Option X) (x : X) → o ≡ Some x → P x → IfSome o P
some-if {X} P o x is h = subst (λ (p : Option X). IfSome p P) (sym is) h

pub none-if : {X : Type 0} (P : X → Type 0) (o : Option X) → o ≡ None → IfSome o P
none-if {X} P o is = subst (λ (p : Option X). IfSome p P) (sym is) tt

same-some : {X : Type 0} (o : Option X) (x y : X) → o ≡ Some x → o ≡ Some y → x ≡ y
same-some {X} o x y p q = ap (λ (r : Option X). unwrap_or r x) (sym p ∙ q)

module _ (told after : Option Files) (d : Keeps) (docs : ℕ) (r : repositories.State) (cache : Cached) (m : Merging) (open_is : d.repository.merge ≡ Some m) (kept : IsCacheKept told d.repository cache) (backed : IsDeskBacked told d) where
  was-listed : AreListed d.repository (part_numbers m.snapshot)
  was-listed = (if-some (IsMergeBacked told d.repository) d.repository.merge m open_is backed.merge).listed

  -- below the size nothing is committed
  pub turned-exit : nat_lt (length m.copied + docs) (size_of m) ≡ true → after ≡ told → IsTurnedOn docs d.repository r → ReadsAs told r (collection_of (state_of told d)) → IsBacked told r → IsOpenMerging told r
      → Steps (event.Turn docs) told after d (with_merged d r cache) (reply.Turned (length m.copied + docs) (size_of m))
  turned-exit below same on reads stored merging =
      let s = d.repository in
      let n = with_merged d r cache in
      let was : on.before ≡ m = same-some s.merge on.before m on.was open_is in
      let snapshot : on.now.snapshot ≡ m.snapshot = on.snapshot ∙ ap (λ (x : Merging). x.snapshot) was in
      let copied : length on.now.copied ≡ length m.copied + docs = on.copied ∙ ap (λ (x : Merging). length x.copied + docs) was in
      let now : r.merge ≡ Some on.now = ap (λ (x : repositories.State). x.merge) on.is in
      let lists : Lists s r = subst (λ (x : repositories.State). Lists s x) (sym on.is) (λ j among. among) in
      let turned : option_map merge_of r.merge ≡ Some (turned_merge (merge_of m) docs) = ap (option_map merge_of) now
      ∙ ap (λ (x : Merge). Some x) (merge-eq (ap (λ (ms : List Marked). length (snapshots.live None ms)) snapshot) copied (ap dead_documents snapshot) (ap dead_tokens snapshot)) in
      let all : IsDeskBacked told n = record {
        repository = stored;
        queries = Queries-on told s r d.kind d.queries lists (ap (λ (x : repositories.State). x.priors) on.is) backed.queries;
        merge = some-if (IsMergeBacked told r) r.merge on.now now (record {
          merging = if-some (IsMerging told r) r.merge on.now now merging;
          listed = λ j among. lists j (was-listed j (subst (λ (ms : List Marked). is_among j (part_numbers ms) ≡ true) snapshot among));
        });
        counts = subst (λ g. AreSums (live told r.held.parts) g d.counts) (ap (λ (x : repositories.State). x.held.generation) (sym on.is)) (subst (λ (ds : List Document). AreSums ds s.held.generation d.counts) (sym reads.live_are) backed.counts);
        cache = Cache-on told s r cache lists kept;
      } in
      exit (event.Turn docs) told after d n (reply.Turned (length m.copied + docs) (size_of m)) _ (step-turned (state_of told d) docs (merge_of m) (ap (option_map merge_of) open_is) below)
      (ap (λ (f : Option Files). state_of f n) same ∙ state-by told n (collection_of (state_of told d)) _ _ _ _ reads refl turned (ap (λ (x : repositories.State). x.held.limits) on.is) refl) refl
      (subst (λ (f : Option Files). IsDeskBacked f n) (sym same) all)

  -- at the size it is committed
  pub merged-exit : nat_lt (length m.copied + docs) (size_of m) ≡ false → SameWhere (IsBeside (IsUnlisted (listed_numbers d.repository))) told after → IsMergedTo d.repository r → ReadsAs after r (without_dead_of (Some m) (collection_of (state_of told d)))
      → IsBacked after r → (count : ℕ) → count ≡ length (live after r.held.parts) → Steps (event.Turn docs) told after d (with_merged d r cache) (reply.Merged count)
  merged-exit past stay to reads stored count is =
      let s = d.repository in
      let n = with_merged d r cache in
      let ended = to.ended in
      let lists : Lists s r = ended.listed in
      let priors : priors_in after r.priors ≡ priors_in told s.priors = sym (priors-read after r.priors (priors_in told s.priors) reads.priors_are) in
      exit (event.Turn docs) told after d n (reply.Merged count) _ (step-merged (state_of told d) docs (merge_of m) (ap (option_map merge_of) open_is) past)
      (state-by after n (without_dead_of (Some m) (collection_of (state_of told d))) _ _ _ _ reads (queries-same told after s d.kind d.queries backed.repository stay backed.queries) (ap (option_map merge_of) ended.closed) ended.limits refl)
      (ap reply.Merged (is ∙ ap length reads.live_are))
      (record {
        repository = stored;
        queries = Queries-commit told after s r d.kind d.queries backed.repository stay lists priors backed.queries;
        merge = none-if (IsMergeBacked after r) r.merge ended.closed;
        counts = subst (λ g. AreSums (live after r.held.parts) g d.counts) (sym ended.generation) (subst (λ (ds : List Document). AreSums ds s.held.generation d.counts) (sym reads.live_are) backed.counts);
        cache = Cache-commit told after s r cache backed.repository stay lists kept;
      })
