-- Where what is in memory is written.
use Rattle.std.proofs.Common.{◌≡◌, ◌∙◌, ◌≤◌, ℕ, true, List, ◌++◌, length, refl, sym, ap, subst, inl, inr, Option, Some}
use Rattle.std.specs.Option.{option_map}
use Rattle.ri_base.specs.Documents.{Document}
use Rattle.store_ends.specs.Files.{Files, Leaves, SameWhere}
use Rattle.manifest.specs.Listing.{prior_numbers}
use Rattle.manifest.specs.declared.manifest.PriorEntry.{PriorEntry}
use Rattle.holdings.specs.Parts.{live}
use Rattle.counts.specs.Kept.{AreSums}
use Rattle.repository.specs.Merges.{IsOpenMerging}
use Rattle.repository.specs.Numbers.{is_among}
use Rattle.repository.specs.Saved.{IsUnlisted}
use Rattle.repository.specs.Stands.{Collection, Stands}
use Rattle.repository.specs.States as repositories
use Rattle.repository.specs.States.{ReadsAs, listed_numbers, part_numbers}
use Rattle.repository.specs.Writes.{IsBeside, IsEither, IsSavedAs, Writes, Wrote}
use Rattle.repository.proofs.NumberLemmas.{among-behind, among-either, among-left}
use Rattle.session_events.specs.declared.event.Event.TheVariants as event
use Rattle.desk.specs.declared.reply.Reply.TheVariants as reply
use Rattle.desk.specs.Backed.{IsDeskBacked, Keeps, Steps, merge_of, state_of}
use Rattle.desk.specs.Points.{kept_behind}
use Rattle.desk.specs.Queries.{priors_in}
use Rattle.desk.specs.State.{collection_of}
use Rattle.desk.specs.Step.{step}
use Rattle.desk.proofs.Cases.{kept-flushed, step-flushed}
use Rattle.desk.proofs.DocumentExits.{with_repository}
use Rattle.desk.proofs.Exits.{exit, of-now, state-by}
use Rattle.desk.proofs.Keeping.{Cache-commit, Lists, Queries-commit, merge-condition, merge-kept, queries-same}
use Rattle.desk.proofs.Reading.{priors-read, reads-state}
use Rattle.desk.proofs.WritingLemmas.{either-now}

-- what was listed is listed
pub lists-saved : (s t : repositories.State) → IsSavedAs s t s.stale → Lists s t
lists-saved s t saved n among = elim (among-either n (part_numbers s.held.parts.closed) (s.stale ++ prior_numbers s.priors) among) [
  | inl own ↦ among-left n (part_numbers t.held.parts.closed) (t.stale ++ prior_numbers t.priors) (saved.listed n own)
  | inr rest ↦ among-behind n (part_numbers t.held.parts.closed) (t.stale ++ prior_numbers t.priors)
      (subst (λ (ps : List PriorEntry). is_among n (t.stale ++ prior_numbers ps) ≡ true) (sym saved.priors) (subst (λ ns. is_among n (ns ++ prior_numbers s.priors) ≡ true) (sym saved.stale) rest))
]

module _ (before after : Option Files) (d : Keeps) (r : repositories.State) (backed : IsDeskBacked before d) (same : SameWhere (IsBeside (IsUnlisted (listed_numbers d.repository))) before after)
    (wrote : Wrote (λ c. c) before after d.repository r) (merging : IsOpenMerging before d.repository → IsOpenMerging after r) (saved : IsSavedAs d.repository r d.repository.stale) where
  reads-after : ReadsAs after r (collection_of (state_of before d))
  reads-after = wrote.reads (collection_of (state_of before d)) backed.repository (reads-state before d backed.repository)

  state-after : state_of after (with_repository d r) ≡ state_of before d
  state-after =
      state-by after (with_repository d r) (collection_of (state_of before d)) _ _ _ _ reads-after (queries-same before after d.repository d.kind d.queries backed.repository same backed.queries) (ap (option_map merge_of) saved.merge) saved.limits refl

  backed-after : IsDeskBacked after (with_repository d r)
  backed-after =
      let s = d.repository in
      let lists = lists-saved s r saved in
      let priors : priors_in after r.priors ≡ priors_in before s.priors = sym (priors-read after r.priors (priors_in before s.priors) reads-after.priors_are) in
      record {
        repository = wrote.backed backed.repository;
        queries = Queries-commit before after s r d.kind d.queries backed.repository same lists priors backed.queries;
        merge = merge-kept before after s r saved.merge lists (merging (merge-condition before s s.merge backed.merge)) backed.merge;
        counts = subst (λ g. AreSums (live after r.held.parts) g d.counts) (sym saved.generation) (subst (λ (docs : List Document). AreSums docs s.held.generation d.counts) (sym reads-after.live_are) backed.counts);
        cache = Cache-commit before after s r d.cache backed.repository same lists backed.cache;
      }

  pub flush-exit : (count : ℕ) → count ≡ length (live after r.held.parts) → Steps event.Flush before after d (with_repository d r) (reply.Flushed count)
  flush-exit count is =
      exit event.Flush before after d (with_repository d r) (reply.Flushed count) _ (step-flushed (state_of before d)) state-after (ap reply.Flushed (is ∙ ap length reads-after.live_are)) backed-after

  -- the files stand for what it reads as
  pub flush-stands : Stands d.repository.held.limits after (collection_of (state_of before d))
  flush-stands = subst (λ l. Stands l after (collection_of (state_of before d))) saved.limits (wrote.stands (collection_of (state_of before d)) backed.repository (reads-state before d backed.repository))

-- ---- however it ends, and at each moment

module _ {S : Type 0} (files : S → Option Files) (clock : S → ℕ) (since : S → ℕ → Files → Type 0) (old new : S) (d : Keeps) (kept : Collection) (backed : IsDeskBacked (files old) d)
    (writes : Writes files since (IsUnlisted (listed_numbers d.repository)) (λ c. c) d.repository old new) (stands : Stands d.repository.held.limits (files old) kept) where
  pub leaves-either : Leaves (since old) (since new) (IsEither d.repository.held.limits kept (collection_of (state_of (files old) d)))
  leaves-either = writes.stops kept (collection_of (state_of (files old) d)) backed.repository stands (reads-state (files old) d backed.repository)

  pub stands-either : ((t : ℕ) (f : Files) → t ≤ clock new → files new ≡ Some f → since new t f) → ((f : Files) → since old (clock old) f → files old ≡ Some f) → clock old ≤ clock new
      → IsEither d.repository.held.limits kept (collection_of (state_of (files old) d)) (files new)
  stands-either honest still later =
      either-now files clock since d.repository.held.limits kept (collection_of (state_of (files old) d)) old new (IsBeside (IsUnlisted (listed_numbers d.repository))) honest still later writes.others stands leaves-either

  pub flush-stops : Leaves (since old) (since new) (IsEither d.repository.held.limits kept (kept_behind kept (step (state_of (files old) d) event.Flush)))
  flush-stops = subst (λ (c : Collection). Leaves (since old) (since new) (IsEither d.repository.held.limits kept c)) (sym (kept-flushed kept (state_of (files old) d))) leaves-either

  pub flush-now : ((t : ℕ) (f : Files) → t ≤ clock new → files new ≡ Some f → since new t f) → ((f : Files) → since old (clock old) f → files old ≡ Some f) → clock old ≤ clock new
      → IsEither d.repository.held.limits kept (kept_behind kept (step (state_of (files old) d) event.Flush)) (files new)
  flush-now honest still later =
      subst (λ (c : Collection). IsEither d.repository.held.limits kept c (files new)) (sym (kept-flushed kept (state_of (files old) d))) (stands-either honest still later)

-- the same of a desk that is seen as another
module _ {S : Type 0} (files : S → Option Files) (clock : S → ℕ) (since : S → ℕ → Files → Type 0) (old new : S) (d now : Keeps) (same : d ≡ now) (writes : Writes files since (IsUnlisted (listed_numbers d.repository)) (λ c. c) d.repository old new) where
  pub flushed-stops : (kept : Collection) → IsDeskBacked (files old) now → Stands now.repository.held.limits (files old) kept → Leaves (since old) (since new) (IsEither now.repository.held.limits kept (kept_behind kept (step (state_of (files old) now) event.Flush)))
  flushed-stops kept =
      of-now (files old) d now (λ (x : Keeps). Stands x.repository.held.limits (files old) kept → Leaves (since old) (since new) (IsEither x.repository.held.limits kept (kept_behind kept (step (state_of (files old) x) event.Flush)))) same
      (λ b standing. flush-stops files clock since old new d kept b writes standing)

  pub flushed-now : ((t : ℕ) (f : Files) → t ≤ clock new → files new ≡ Some f → since new t f) → ((f : Files) → since old (clock old) f → files old ≡ Some f) → clock old ≤ clock new
      → (kept : Collection) → IsDeskBacked (files old) now → Stands now.repository.held.limits (files old) kept → IsEither now.repository.held.limits kept (kept_behind kept (step (state_of (files old) now) event.Flush)) (files new)
  flushed-now honest still later kept =
      of-now (files old) d now (λ (x : Keeps). Stands x.repository.held.limits (files old) kept → IsEither x.repository.held.limits kept (kept_behind kept (step (state_of (files old) x) event.Flush)) (files new)) same
      (λ b standing. flush-now files clock since old new d kept b writes standing honest still later)
