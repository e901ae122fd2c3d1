-- The ways out of a merge's end, by the lists that are handed on.
use Rattle.std.proofs.Common.{◌≡◌, ℕ, List, ◌++◌, length, take, Option, None, Some, ap, sym, subst, ◌∙◌}
use Rattle.std.specs.List.{All}
use Rattle.std.specs.Option.{option_map}
use Rattle.store_ends.specs.Files.{Files, Leaves, OldOrNew, SameWhere, with_file}
use Rattle.store_ends.proofs.Files.{Leaves-same, SameWhere-same}
use Rattle.manifest.specs.Listing.{AreNumbered, IsListing, listing, prior_numbers}
use Rattle.manifest.specs.Spelling.{manifest_text}
use Rattle.manifest.specs.declared.manifest.PriorEntry.{PriorEntry}
use Rattle.disk_index.specs.Snapshots.{Marked}
use Rattle.holdings.specs.Contents.{Contents, with_parts}
use Rattle.holdings.specs.MarkedParts.{IsWhole}
use Rattle.holdings.specs.Parts.{sealed}
use Rattle.merge_job.specs.Merge.{Merging}
use Rattle.repository.specs.Entries.{entries_for}
use Rattle.repository.specs.Merges.{IsExchange, IsMergeEnded, IsMerging, IsTurnedOver, all_stale, without_dead_of}
use Rattle.repository.specs.Names.{manifest_name}
use Rattle.repository.specs.Numbers.{is_among}
use Rattle.repository.specs.Saved.{AllSaved, IsUnlisted}
use Rattle.repository.specs.Stands.{Collection, Stands}
use Rattle.repository.specs.States.{IsNumbered, ReadsAs, State, listed_numbers, part_numbers}
use Rattle.repository.specs.Ties.{IsTied}
use Rattle.repository.specs.Writes.{IsBeside, IsEither, IsOther}
use Rattle.repository.specs.declared.turned.Turned.TheVariants.{Done}
use Rattle.repository.proofs.CommitLemmas.{AreFit, beside-begun, beside-listed, form-handed, leaves-begun, leaves-listed, listed_text, others-handed, state_of, stops-begun, stops-listed, text-handed, unlisted-clear}
use Rattle.repository.proofs.EndLemmas.{among-exchanged, end-form, end-numbered, end-over, end-stands, end-state, numbered-exchanged, state_exchanged}
use Rattle.repository.proofs.SaveLemmas.{leaves-among, same-among}

-- what is written stays within this, at each moment too
pub record EndWrites {S : Type 0} (files : S → Option Files) (since : S → ℕ → Files → Type 0) (job : Merging) (s : State) (old new : S) : Type 0 where
  pub stay : SameWhere (IsBeside (IsUnlisted (listed_numbers s))) (files old) (files new)
  pub stay_on : Leaves (since old) (since new) (SameWhere (IsBeside (IsUnlisted (listed_numbers s))) (files old))
  pub stops : (c d : Collection) → IsMerging (files old) s job → Stands s.held.limits (files old) c → ReadsAs (files old) s d → Leaves (since old) (since new) (IsEither s.held.limits c (without_dead_of (Some job) d))

-- nothing was written yet
pub end-none : {S : Type 0} (files : S → Option Files) (since : S → ℕ → Files → Type 0) (job : Merging) (s : State) (x : S) → EndWrites files since job s x x
end-none files since job s x = record {
  stay = SameWhere-same (IsBeside (IsUnlisted (listed_numbers s))) (files x);
  stay_on = Leaves-same (since x) (SameWhere (IsBeside (IsUnlisted (listed_numbers s))) (files x));
  stops = λ c d merging stands read. Leaves-same (since x) (IsEither s.held.limits c (without_dead_of (Some job) d));
}

-- what is handed on to the saving: in `h` the parts of the merge are in the place of those of its snapshot, whose numbers are stale
pub record IsHanded (s t : State) (job : Merging) (h : Contents) (stale st : List ℕ) (ps : List PriorEntry) : Type 0 where
  pub view : s ≡ t
  pub numbered : IsNumbered s
  pub tied : IsTied s.held job
  pub none : s.merge ≡ None
  pub exchanged : IsExchange job (sealed s.held.parts).closed h.parts.closed
  pub held : h ≡ with_parts s.held h.parts.closed
  pub whole : All IsWhole (sealed s.held.parts).closed
  pub left : stale ≡ all_stale s.stale (part_numbers (take (length job.snapshot) s.held.parts.closed))
  pub stale_is : st ≡ stale
  pub priors_are : ps ≡ s.priors

module _ {s t : State} {job : Merging} {h : Contents} {stale st : List ℕ} {ps : List PriorEntry} (p : IsHanded s t job h stale st ps) where
  abbrev handed : List ℕ
  handed = part_numbers h.parts.closed ++ (st ++ prior_numbers ps)

  abbrev others : List ℕ
  others = stale ++ prior_numbers s.priors

  others-are : st ++ prior_numbers ps ≡ others
  others-are = others-handed st stale ps s.priors p.stale_is p.priors_are

  -- what the saving of parts requires
  pub end-handed : AreNumbered s.next handed
  end-handed = subst (λ (os : List ℕ). AreNumbered s.next (part_numbers h.parts.closed ++ os)) (sym others-are) (numbered-exchanged s job h stale p.numbered p.tied p.exchanged p.held p.whole p.left)

  listed-are : (k : ℕ) → is_among k handed ≡ is_among k (listed_numbers s)
  listed-are k = ap (λ (os : List ℕ). is_among k (part_numbers h.parts.closed ++ os)) others-are ∙ among-exchanged s job h stale p.numbered p.tied p.exchanged p.held p.whole p.left k

  module _ {S : Type 0} (files : S → Option Files) (since : S → ℕ → Files → Type 0) (old mid : S) (same : SameWhere (IsOther (IsUnlisted handed)) (files old) (files mid))
      (first : Leaves (since old) (since mid) (SameWhere (IsOther (IsUnlisted handed)) (files old))) where
    own : ℕ → Type 0
    own = IsUnlisted (listed_numbers s)

    known : SameWhere (IsOther (IsUnlisted (listed_numbers s))) (files old) (files mid)
    known = same-among handed (listed_numbers s) (files old) (files mid) listed-are same

    known_stops : Leaves (since old) (since mid) (SameWhere (IsOther (IsUnlisted (listed_numbers s))) (files old))
    known_stops = leaves-among (since old) (since mid) handed (listed_numbers s) (files old) listed-are first

    pub end-begun : EndWrites files since job t old mid
    end-begun = subst (λ (x : State). EndWrites files since job x old mid) p.view (record {
      stay = beside-begun (files old) (files mid) s (IsUnlisted (listed_numbers s)) (unlisted-clear s) known;
      stay_on = leaves-begun (since old) (since mid) (since mid) (files old) (files mid) s (IsUnlisted (listed_numbers s)) (unlisted-clear s) known known_stops;
      stops = λ c d merging stands read. stops-begun (since old) (since mid) (since mid) (files old) (files mid) s (IsUnlisted (listed_numbers s)) (unlisted-clear s) known known_stops c (without_dead_of (Some job) d) merging.backed stands;
    })

    module _ {k : Contents} {after : ℕ} (saved : AllSaved (files mid) (st ++ prior_numbers ps) s.next after h k) (fit : AreFit k) where
      all_saved : AllSaved (files mid) others s.next after h k
      all_saved = subst (λ (os : List ℕ). AllSaved (files mid) os s.next after h k) others-are saved

      form : IsListing after (entries_for k.parts.closed) stale s.priors
      form = end-form s job h stale p.numbered p.tied p.exchanged p.held p.whole p.left (files old) (files mid) k after known all_saved fit

      pub ended-numbered : IsNumbered (state_of (state_exchanged s h stale) k after stale)
      ended-numbered = end-numbered s job h stale p.numbered p.tied p.exchanged p.held p.whole p.left (files old) (files mid) k after known all_saved fit

      pub ended-state : IsMergeEnded job t (state_of (state_exchanged s h stale) k after stale)
      ended-state = subst (λ (x : State). IsMergeEnded job x (state_of (state_exchanged s h stale) k after stale)) p.view
          (end-state s job h stale p.numbered p.tied p.exchanged p.held p.whole p.left (files old) (files mid) k after known all_saved fit p.none)

      module _ {ms : List Marked} {lst : List ℕ} {rows : List PriorEntry} (parts : ms ≡ k.parts.closed) (lst_is : lst ≡ stale) (rows_are : rows ≡ s.priors) where
        pub ended-form : IsListing after (entries_for ms) lst rows
        ended-form = form-handed after ms k.parts.closed lst stale rows s.priors parts lst_is rows_are form

        text : manifest_text (listing after (entries_for ms) lst rows) ≡ listed_text k after stale s.priors
        text = text-handed after ms k.parts.closed lst stale rows s.priors parts lst_is rows_are

        pub ended-listed : (new : S) → OldOrNew manifest_name (Some (manifest_text (listing after (entries_for ms) lst rows))) (files mid) (files new)
            → Leaves (since mid) (since new) (OldOrNew manifest_name (Some (manifest_text (listing after (entries_for ms) lst rows))) (files mid)) → EndWrites files since job t old new
        ended-listed new changed second =
            let bytes = listed_text k after stale s.priors in
            let changed' = subst (λ (l : List ℕ). OldOrNew manifest_name (Some l) (files mid) (files new)) text changed in
            let second' = subst (λ (l : List ℕ). Leaves (since mid) (since new) (OldOrNew manifest_name (Some l) (files mid))) text second in
            subst (λ (x : State). EndWrites files since job x old new) p.view (record {
              stay = beside-listed (files old) (files mid) s (IsUnlisted (listed_numbers s)) (unlisted-clear s) known (files new) bytes changed';
              stay_on = leaves-listed (since old) (since mid) (since new) (files old) (files mid) s (IsUnlisted (listed_numbers s)) (unlisted-clear s) known known_stops bytes second';
              stops = λ c d merging stands read.
                  stops-listed (since old) (since mid) (since new) (files old) (files mid) s (IsUnlisted (listed_numbers s)) (unlisted-clear s) known known_stops bytes second' c (without_dead_of (Some job) d) merging.backed stands
                  (λ f put. end-stands s job h stale p.numbered p.tied p.exchanged p.held p.whole p.left (files old) (files mid) k after known all_saved fit (Some f) put merging d read);
            })

        pub ended-over : (new : S) → files new ≡ option_map (with_file manifest_name (Some (manifest_text (listing after (entries_for ms) lst rows)))) (files mid) → IsMerging (files old) t job
            → IsTurnedOver Done (Some job) (files old) (files new) t (state_of (state_exchanged s h stale) k after stale)
        ended-over new put merging =
            let put' = put ∙ ap (λ (l : List ℕ). option_map (with_file manifest_name (Some l)) (files mid)) text in
            subst (λ (x : State). IsTurnedOver Done (Some job) (files old) (files new) x (state_of (state_exchanged s h stale) k after stale)) p.view
            (end-over s job h stale p.numbered p.tied p.exchanged p.held p.whole p.left (files old) (files mid) k after known all_saved fit (files new) p.none put' (subst (λ (x : State). IsMerging (files old) x job) (sym p.view) merging))
