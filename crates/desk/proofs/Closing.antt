-- Where the part that is being filled is closed: a desk reads as before, and stays backed.
use Rattle.std.proofs.Common.{◌≡◌, ◌⊎◌, inl, inr, ◌<◌, ◌-◌, ◌^◌, List, Contains, Option, refl, sym, ap, subst}
use Rattle.std.specs.Prelude.{Err, Ok, OnErr, OnOk, Result}
use Rattle.ri_base.specs.Documents.{Document}
use Rattle.store_ends.specs.Files.{Files}
use Rattle.disk_index.specs.Cache.{Cached}
use Rattle.holdings.specs.Contents.{all_closed}
use Rattle.holdings.specs.Parts.{live}
use Rattle.holdings.proofs.RoomLemmas.{live-sealed}
use Rattle.counts.specs.Kept.{AreSums, Kept}
use Rattle.repository.specs.States as repositories
use Rattle.repository.specs.States.{ReadsAs}
use Rattle.repository.specs.Steps.{with_held}
use Rattle.repository.proofs.KeepLemmas.{merging-closed}
use Rattle.repository.proofs.SaveLemmas.{numbers-sealed}
use Rattle.repository.proofs.StepLemmas.{backed-closed, reads-closed}
use Rattle.desk.specs.Backed.{IsDeskBacked, Keeps, state_of}
use Rattle.desk.specs.Keeping.{AreKept}
use Rattle.desk.specs.Queries.{IsCacheKept}
use Rattle.desk.specs.State.{collection_of}
use Rattle.desk.specs.declared.query.OpenQuery.{OpenQuery}
use Rattle.desk.proofs.Keeping.{Cache-on, Lists, Merge-on, Queries-on, listed-held, merge-condition}
use Rattle.desk.proofs.KeptLemmas.{kept-counts, kept-repository}
use Rattle.desk.proofs.Reading.{reads-state}

-- the repository, with the part that was being filled closed
abbrev pub closed : repositories.State → repositories.State
closed s = with_held s (all_closed s.held)

-- with it, and with other sums and blocks
abbrev pub with_closed : Keeps → List Kept → Cached → Keeps
with_closed d counts cache = record { repository = closed d.repository; kind = d.kind; queries = d.queries; counts = counts; cache = cache; usable = d.usable }

-- what was listed is listed
pub lists-closed : (s : repositories.State) → Lists s (closed s)
lists-closed s = listed-held s (all_closed s.held) (numbers-sealed s.held.parts)

-- over a call that may close it, whatever it answers
pub priors-closed : {A E : Type 0} (r : Result A E) (s t : repositories.State) → OnOk r (t ≡ closed s) → OnErr r ((t ≡ s) ⊎ (t ≡ closed s)) → t.priors ≡ s.priors
priors-closed (Ok a) s t done left = ap (λ (x : repositories.State). x.priors) done
priors-closed (Err e) s t done left = elim left [
  | inl same ↦ ap (λ (x : repositories.State). x.priors) same
  | inr now ↦ ap (λ (x : repositories.State). x.priors) now
]

-- what is kept over a snapshot
pub snapped-kept : {A E : Type 0} (r : Result A E) (s t : repositories.State) (qs : List OpenQuery) (cs : List Kept) → OnOk r (t ≡ closed s) → OnErr r ((t ≡ s) ⊎ (t ≡ closed s)) → AreKept s qs cs → AreKept t qs cs
snapped-kept r s t qs cs done left kept = kept-repository s t qs cs (priors-closed r s t done left) kept

-- and where other sums are kept of it
pub summed-kept : {A E : Type 0} (r : Result A E) (s t : repositories.State) (qs : List OpenQuery) (cs ds : List Kept) → OnOk r (t ≡ closed s) → OnErr r ((t ≡ s) ⊎ (t ≡ closed s))
    → ((e : Kept) → Contains ds e → Contains cs e ⊎ (e.generation < 2 ^ 64 - 1)) → AreKept s qs cs → AreKept t qs ds
summed-kept r s t qs cs ds done left adds kept = kept-counts t qs cs ds adds (snapped-kept r s t qs cs done left kept)

module _ (told : Option Files) (d : Keeps) (backed : IsDeskBacked told d) where
  pub closed-reads : ReadsAs told (closed d.repository) (collection_of (state_of told d))
  closed-reads = reads-closed told d.repository (collection_of (state_of told d)) (reads-state told d backed.repository)

  pub closed-sums : (counts : List Kept) → AreSums (live told d.repository.held.parts) d.repository.held.generation counts → AreSums (live told (closed d.repository).held.parts) d.repository.held.generation counts
  closed-sums counts sums = subst (λ (docs : List Document). AreSums docs d.repository.held.generation counts) (sym (live-sealed told d.repository.held.parts)) sums

  pub closed-backed : (counts : List Kept) (cache : Cached) → AreSums (live told d.repository.held.parts) d.repository.held.generation counts → IsCacheKept told d.repository cache → IsDeskBacked told (with_closed d counts cache)
  closed-backed counts cache sums kept =
      let s = d.repository in
      let r = closed s in
      record {
        repository = backed-closed told s backed.repository;
        queries = Queries-on told s r d.kind d.queries (lists-closed s) refl backed.queries;
        merge = Merge-on told told s r s.merge (lists-closed s) backed.merge (merging-closed told s (merge-condition told s s.merge backed.merge));
        counts = closed-sums counts sums;
        cache = Cache-on told s r cache (lists-closed s) kept;
      }
