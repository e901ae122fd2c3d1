-- The end: nothing is open any more, what is in memory is written, and no file is stale.
use Rattle.std.proofs.Common.{◌≡◌, ◌∙◌, ◌≤◌, ℕ, List, [], length, refl, sym, ap, subst, arith, inr, Option, Some, None}
use Rattle.std.specs.Option.{IfSome, option_map}
use Rattle.std.proofs.lemmas.List.Elements.{All-nil}
use Rattle.ri_base.specs.Documents.{Document}
use Rattle.store_ends.specs.Files.{Files, Leaves}
use Rattle.disk_index.specs.Cache.{Cached, without_blocks}
use Rattle.disk_index.proofs.CacheLemmas.{empty-cache}
use Rattle.holdings.specs.Parts.{live}
use Rattle.counts.specs.Kept.{AreSums}
use Rattle.merge_job.specs.Merge.{Merging}
use Rattle.repository.specs.Merges.{with_merge}
use Rattle.repository.specs.Saved.{IsUnlisted}
use Rattle.repository.specs.Stands.{Collection, Stands}
use Rattle.repository.specs.States as repositories
use Rattle.repository.specs.States.{ReadsAs, kept_numbers, listed_numbers}
use Rattle.repository.specs.Writes.{AreGone, IsBeside, IsEither, IsSavedAs, Writes, Wrote}
use Rattle.repository.proofs.KeepLemmas.{backed-merge}
use Rattle.session_events.specs.declared.event.Event.TheVariants as event
use Rattle.desk.specs.declared.reply.Reply.TheVariants as reply
use Rattle.desk.specs.Backed.{IsDeskBacked, IsMergeBacked, Keeps, Steps, StepsTo, merge_of, state_of}
use Rattle.desk.specs.Points.{kept_behind}
use Rattle.desk.specs.Queries.{IsCacheKept, IsQueryBacked}
use Rattle.desk.specs.State.{State, collection_of}
use Rattle.desk.specs.Step.{step}
use Rattle.desk.specs.Told.{Told}
use Rattle.desk.specs.declared.query.OpenQuery.{OpenQuery}
use Rattle.desk.proofs.Cases.{kept-ended, step-ended}
use Rattle.desk.proofs.Exits.{exit, of-now, state-by}
use Rattle.desk.proofs.FlushExits.{leaves-either, stands-either}
use Rattle.desk.proofs.Reading.{reads-state}
use Rattle.desk.proofs.WritingLemmas.{either-now, one-of, then-same}

-- with another repository, and with these queries and blocks
abbrev pub ended_with : Keeps → repositories.State → List OpenQuery → Cached → Keeps
ended_with d t queries cache = record { repository = t; kind = d.kind; queries = queries; counts = d.counts; cache = cache; usable = d.usable }

-- nothing is open, and no block is kept
abbrev pub ended : Keeps → repositories.State → Keeps
ended d t = ended_with d t [] (without_blocks d.cache)

pub cache-empty : (told : Option Files) (s : repositories.State) (c : Cached) → IsCacheKept told s (without_blocks c)
cache-empty told s c = record {
  backed = empty-cache told (without_blocks c) refl;
  listed = λ b there. let within = there.1 in absurd (omega (arith, within));
}

none-open : (told : Option Files) (t : repositories.State) (o : Option Merging) → o ≡ None → IfSome o (IsMergeBacked told t)
none-open told t o is = subst (λ (p : Option Merging). IfSome p (IsMergeBacked told t)) (sym is) tt

-- it is backed, with all that was open given up
begun-backed : (told : Option Files) (d : Keeps) → IsDeskBacked told d → IsDeskBacked told (ended d (with_merge d.repository None))
begun-backed told d backed = record {
  repository = backed-merge told d.repository None backed.repository;
  queries = All-nil (IsQueryBacked told (with_merge d.repository None) d.kind);
  merge = tt;
  counts = backed.counts;
  cache = cache-empty told (with_merge d.repository None) d.cache;
}

step-begun : (told : Option Files) (d : Keeps) → step (state_of told (ended d (with_merge d.repository None))) event.End ≡ step (state_of told d) event.End
unfolding step
step-begun told d = refl

-- ---- it is flushed and swept

module _ (before mid after : Option Files) (d : Keeps) (r t : repositories.State) (none : d.repository.merge ≡ None) (backed : IsDeskBacked before d) (flushed : Wrote (λ c. c) before mid d.repository r)
    (saved : IsSavedAs d.repository r d.repository.stale) (swept : Wrote (λ c. c) mid after r t) (last : IsSavedAs r t []) where
  reads-mid : ReadsAs mid r (collection_of (state_of before d))
  reads-mid = flushed.reads (collection_of (state_of before d)) backed.repository (reads-state before d backed.repository)

  reads-after : ReadsAs after t (collection_of (state_of before d))
  reads-after = swept.reads (collection_of (state_of before d)) (flushed.backed backed.repository) reads-mid

  closed : t.merge ≡ None
  closed = last.merge ∙ saved.merge ∙ none

  end-exit : (count : ℕ) → count ≡ length (live after t.held.parts) → Steps event.End before after d (ended d t) (reply.Ended count)
  end-exit count is =
      exit event.End before after d (ended d t) (reply.Ended count) _ (step-ended (state_of before d))
      (state-by after (ended d t) (collection_of (state_of before d)) _ _ _ _ reads-after refl (ap (option_map merge_of) closed) (last.limits ∙ saved.limits) refl) (ap reply.Ended (is ∙ ap length reads-after.live_are))
      (record {
        repository = swept.backed (flushed.backed backed.repository);
        queries = All-nil (IsQueryBacked after t d.kind);
        merge = none-open after t t.merge closed;
        counts = subst (λ g. AreSums (live after t.held.parts) g d.counts) (sym (last.generation ∙ saved.generation))
            (subst (λ (docs : List Document). AreSums docs d.repository.held.generation d.counts) (sym reads-after.live_are) backed.counts);
        cache = cache-empty after t d.cache;
      })

  end-stands : Stands d.repository.held.limits after (collection_of (state_of before d))
  end-stands = subst (λ l. Stands l after (collection_of (state_of before d))) (last.limits ∙ saved.limits) (swept.stands (collection_of (state_of before d)) (flushed.backed backed.repository) reads-mid)

-- ---- over the calls of the repository, the first of which finds a merge given up

module _ (before mid after : Option Files) (d now : Keeps) (start r t : repositories.State) (same : d ≡ now) (made : start ≡ with_merge d.repository None) (flushed : Wrote (λ c. c) before mid start r)
    (saved : IsSavedAs start r start.stale) (swept : Wrote (λ c. c) mid after r t) (last : IsSavedAs r t []) where
  abbrev begun : Keeps
  begun = ended d (with_merge d.repository None)

  flushed-begun : Wrote (λ c. c) before mid begun.repository r
  flushed-begun = subst (λ (x : repositories.State). Wrote (λ c. c) before mid x r) made flushed

  saved-begun : IsSavedAs begun.repository r begun.repository.stale
  saved-begun = subst (λ (x : repositories.State). IsSavedAs x r x.stale) made saved

  end-now : (count : ℕ) → count ≡ length (live after t.held.parts) → IsDeskBacked before now → Steps event.End before after now (ended d t) (reply.Ended count)
  end-now count is backed = of-now before d now (λ (x : Keeps). Steps event.End before after x (ended d t) (reply.Ended count)) same
      (λ inside. subst (λ (x : State × Told). StepsTo x after (ended d t) (reply.Ended count)) (step-begun before d)
      (end-exit before mid after begun r t refl (begun-backed before d inside) flushed-begun saved-begun swept last count is)) backed

  -- with queries and blocks of which there are none
  pub end-done : (qs : List OpenQuery) (cache : Cached) (count : ℕ) → qs ≡ [] → cache ≡ without_blocks d.cache → count ≡ length (live after t.held.parts) → IsDeskBacked before now → Steps event.End before after now (ended_with d t qs cache) (reply.Ended count)
  end-done qs cache count closed_all emptied is backed =
      let same_now : ended d t ≡ ended_with d t qs cache = λ i. ended_with d t (sym closed_all i) (sym emptied i) in
      subst (λ (x : Keeps). Steps event.End before after now x (reply.Ended count)) same_now (end-now count is backed)

  -- the files stand for the live documents
  pub end-kept : (kept : Collection) → IsDeskBacked before now → Stands now.repository.held.limits after (kept_behind kept (step (state_of before now) event.End))
  end-kept kept backed = of-now before d now (λ (x : Keeps). Stands x.repository.held.limits after (kept_behind kept (step (state_of before x) event.End))) same
      (λ inside. subst (λ (c : Collection). Stands d.repository.held.limits after c) (sym (kept-ended kept (state_of before d)))
      (end-stands before mid after begun r t refl (begun-backed before d inside) flushed-begun saved-begun swept last)) backed

  -- and those that were stale are gone
  pub end-gone : AreGone r.stale after → (t.stale ≡ []) × AreGone now.repository.stale after
  end-gone gone = (last.stale, subst (λ (x : Keeps). AreGone x.repository.stale after) same (subst (λ (ns : List ℕ). AreGone ns after) saved-begun.stale gone))

-- ---- however it ends, and at each moment

module _ {S : Type 0} (files : S → Option Files) (clock : S → ℕ) (since : S → ℕ → Files → Type 0) (first : S) (d now : Keeps) (start : repositories.State) (kept : Collection) (same : d ≡ now)
    (made : start ≡ with_merge d.repository None) (backed : IsDeskBacked (files first) now) (stands : Stands now.repository.held.limits (files first) kept) where
  abbrev opened : Keeps
  opened = ended d (with_merge d.repository None)

  abbrev lives : Collection
  lives = collection_of (state_of (files first) d)

  inside : IsDeskBacked (files first) opened
  inside = begun-backed (files first) d (subst (IsDeskBacked (files first)) (sym same) backed)

  stood : Stands d.repository.held.limits (files first) kept
  stood = subst (λ (x : Keeps). Stands x.repository.held.limits (files first) kept) (sym same) stands

  -- what holds of the live documents holds of what the files stand for behind the end
  of-end : (P : Keeps → Collection → Type 0) → P d lives → P now (kept_behind kept (step (state_of (files first) now) event.End))
  of-end P p = subst (λ (x : Keeps). P x (kept_behind kept (step (state_of (files first) x) event.End))) same (subst (P d) (sym (kept-ended kept (state_of (files first) d))) p)

  module _ (mid : S) (writes : Writes files since (IsUnlisted (listed_numbers start)) (λ c. c) start first mid) where
    written : Writes files since (IsUnlisted (listed_numbers opened.repository)) (λ c. c) opened.repository first mid
    written = subst (λ (x : repositories.State). Writes files since (IsUnlisted (listed_numbers x)) (λ c. c) x first mid) made writes

    flush-leaves : Leaves (since first) (since mid) (IsEither d.repository.held.limits kept lives)
    flush-leaves = leaves-either files clock since first mid opened kept inside written stood

    -- the flush fails
    pub broken-stops : Leaves (since first) (since mid) (IsEither now.repository.held.limits kept (kept_behind kept (step (state_of (files first) now) event.End)))
    broken-stops = of-end (λ x c. Leaves (since first) (since mid) (IsEither x.repository.held.limits kept c)) flush-leaves

    pub broken-now : ((t : ℕ) (f : Files) → t ≤ clock mid → files mid ≡ Some f → since mid t f) → ((f : Files) → since first (clock first) f → files first ≡ Some f) → clock first ≤ clock mid
        → IsEither now.repository.held.limits kept (kept_behind kept (step (state_of (files first) now) event.End)) (files mid)
    broken-now honest still later = of-end (λ x c. IsEither x.repository.held.limits kept c (files mid)) (stands-either files clock since first mid opened kept inside written stood honest still later)

    -- or it is done, and files are swept
    module _ (r : repositories.State) (flushed : Wrote (λ c. c) (files first) (files mid) start r) (saved : IsSavedAs start r start.stale) (last : S) (sweeps : Writes files since (IsUnlisted (kept_numbers r)) (λ c. c) r mid last) where
      wrote : Wrote (λ c. c) (files first) (files mid) opened.repository r
      wrote = subst (λ (x : repositories.State). Wrote (λ c. c) (files first) (files mid) x r) made flushed

      limits : r.held.limits ≡ d.repository.held.limits
      limits = (subst (λ (x : repositories.State). IsSavedAs x r x.stale) made saved).limits

      reads : ReadsAs (files mid) r lives
      reads = wrote.reads lives inside.repository (reads-state (files first) opened inside.repository)

      stand : Stands r.held.limits (files mid) lives
      stand = wrote.stands lives inside.repository (reads-state (files first) opened inside.repository)

      sweep-leaves : Leaves (since mid) (since last) (IsEither r.held.limits lives lives)
      sweep-leaves = sweeps.stops lives lives (wrote.backed inside.repository) stand reads

      pub swept-stops : Leaves (since first) (since last) (IsEither now.repository.held.limits kept (kept_behind kept (step (state_of (files first) now) event.End)))
      swept-stops = of-end (λ x c. Leaves (since first) (since last) (IsEither x.repository.held.limits kept c))
          (then-same (since first) (since mid) (since last) d.repository.held.limits kept lives flush-leaves (subst (λ l. Leaves (since mid) (since last) (IsEither l lives lives)) limits sweep-leaves))

      pub swept-now : ((t : ℕ) (f : Files) → t ≤ clock last → files last ≡ Some f → since last t f) → ((f : Files) → since mid (clock mid) f → files mid ≡ Some f) → clock mid ≤ clock last
          → IsEither now.repository.held.limits kept (kept_behind kept (step (state_of (files first) now) event.End)) (files last)
      swept-now honest still later =
          let either = either-now files clock since r.held.limits lives lives mid last (IsBeside (IsUnlisted (kept_numbers r))) honest still later sweeps.others stand sweep-leaves in
          of-end (λ x c. IsEither x.repository.held.limits kept c (files last)) (inr (subst (λ l. Stands l (files last) lives) limits (one-of r.held.limits lives (files last) either)))
