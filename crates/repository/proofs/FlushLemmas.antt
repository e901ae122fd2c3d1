-- The ways out of flush, by the lists that are handed on.
use Rattle.std.proofs.Common.{◌≡◌, ℕ, List, ◌++◌, Option, Some, IfSome, ap, sym, subst, ◌∙◌}
use Rattle.std.specs.Option.{option_map}
use Rattle.store_ends.specs.Files.{Files, Leaves, OldOrNew, SameWhere, with_file}
use Rattle.manifest.specs.Listing.{AreNumbered, IsListing, listing, prior_numbers}
use Rattle.manifest.specs.Spelling.{manifest_text}
use Rattle.manifest.specs.declared.manifest.PriorEntry.{PriorEntry}
use Rattle.disk_index.specs.Snapshots.{Marked}
use Rattle.holdings.specs.Contents.{Contents}
use Rattle.repository.specs.Entries.{entries_for}
use Rattle.repository.specs.Names.{manifest_name}
use Rattle.repository.specs.Merges.{IsOpenMerging}
use Rattle.repository.specs.Saved.{AllSaved, IsUnlisted}
use Rattle.repository.specs.States.{IsNumbered, State, listed_numbers, part_numbers}
use Rattle.repository.specs.Ties.{IsTied}
use Rattle.repository.specs.Writes.{IsOther, IsSavedAs, Wrote, Writes}
use Rattle.repository.proofs.CommitLemmas.{AreFit, begun, form-handed, form-now, listed, numbered-now, others-handed, saved-as, state_of, text-handed, unlisted-clear, wrote}
use Rattle.repository.proofs.KeepLemmas.{merging-saved}
use Rattle.repository.proofs.ListedLemmas.{all-listed, stale-listed}

-- numbers of parts, of stale files and of priors
abbrev pub files_of : State → List ℕ → List PriorEntry → List ℕ
files_of s st ps = part_numbers s.held.parts.closed ++ (st ++ prior_numbers ps)

module _ (s : State) (st : List ℕ) (ps : List PriorEntry) (stale : st ≡ s.stale) (priors : ps ≡ s.priors) where
  pub all-handed : IsNumbered s → AreNumbered s.next (files_of s st ps)
  all-handed numbered = subst (λ (os : List ℕ). AreNumbered s.next (part_numbers s.held.parts.closed ++ os)) (sym (others-handed st s.stale ps s.priors stale priors)) (all-listed s numbered)

  pub same-handed : (a b : Option Files) → SameWhere (IsOther (IsUnlisted (files_of s st ps))) a b → SameWhere (IsOther (IsUnlisted (listed_numbers s))) a b
  same-handed a b same = subst (λ (os : List ℕ). SameWhere (IsOther (IsUnlisted (part_numbers s.held.parts.closed ++ os))) a b) (others-handed st s.stale ps s.priors stale priors) same

  pub stops-handed : (past since : ℕ → Files → Type 0) (a : Option Files) → Leaves past since (SameWhere (IsOther (IsUnlisted (files_of s st ps))) a) → Leaves past since (SameWhere (IsOther (IsUnlisted (listed_numbers s))) a)
  stops-handed past since a leaves =
      subst (λ (os : List ℕ). Leaves past since (SameWhere (IsOther (IsUnlisted (part_numbers s.held.parts.closed ++ os))) a)) (others-handed st s.stale ps s.priors stale priors) leaves

  pub saved-handed : (b : Option Files) (after : ℕ) (k : Contents) → AllSaved b (st ++ prior_numbers ps) s.next after s.held k → AllSaved b (s.stale ++ prior_numbers s.priors) s.next after s.held k
  saved-handed b after k saved = subst (λ (os : List ℕ). AllSaved b os s.next after s.held k) (others-handed st s.stale ps s.priors stale priors) saved

-- the state that the view shows can be listed, and its lists are handed on
pub record AreHanded (s t : State) (st : List ℕ) (ps : List PriorEntry) : Type 0 where
  pub view : s ≡ t
  pub numbered : IsNumbered s
  pub stale_is : st ≡ s.stale
  pub priors_are : ps ≡ s.priors

module _ {s t : State} {st : List ℕ} {ps : List PriorEntry} (lists : AreHanded s t st ps) {S : Type 0} (files : S → Option Files) (since : S → ℕ → Files → Type 0) (old mid : S) (same : SameWhere (IsOther (IsUnlisted (files_of s st ps))) (files old) (files mid))
    (first : Leaves (since old) (since mid) (SameWhere (IsOther (IsUnlisted (files_of s st ps))) (files old))) where
  known : SameWhere (IsOther (IsUnlisted (listed_numbers s))) (files old) (files mid)
  known = same-handed s st ps lists.stale_is lists.priors_are (files old) (files mid) same

  known_stops : Leaves (since old) (since mid) (SameWhere (IsOther (IsUnlisted (listed_numbers s))) (files old))
  known_stops = stops-handed s st ps lists.stale_is lists.priors_are (since old) (since mid) (files old) first

  pub flush-begun : Writes files since (IsUnlisted (listed_numbers t)) (λ d. d) t old mid
  flush-begun = begun files since s t lists.view (λ x. IsUnlisted (listed_numbers x)) (unlisted-clear s) old mid known known_stops

  module _ {k : Contents} {after : ℕ} (saved : AllSaved (files mid) (st ++ prior_numbers ps) s.next after s.held k) (fit : AreFit k) where
    all_saved : AllSaved (files mid) (s.stale ++ prior_numbers s.priors) s.next after s.held k
    all_saved = saved-handed s st ps lists.stale_is lists.priors_are (files mid) after k saved

    form : IsListing after (entries_for k.parts.closed) s.stale s.priors
    form =
        let left = stale-listed s lists.numbered in
        form-now (files mid) s k after s.stale (s.stale ++ prior_numbers s.priors) lists.numbered all_saved fit left.0 left.1 all_saved.numbered

    pub flush-numbered : IsNumbered (state_of s k after s.stale)
    flush-numbered = numbered-now (files mid) s k after s.stale (s.stale ++ prior_numbers s.priors) lists.numbered all_saved form

    pub flush-saved : IsSavedAs t (state_of s k after s.stale) t.stale
    flush-saved = subst (λ (x : State). IsSavedAs x (state_of s k after s.stale) x.stale) lists.view (saved-as (files mid) s k after s.stale (s.stale ++ prior_numbers s.priors) all_saved)

    module _ {ms : List Marked} {left : List ℕ} {rows : List PriorEntry} (parts : ms ≡ k.parts.closed) (left_are : left ≡ s.stale) (rows_are : rows ≡ s.priors) where
      pub flush-form : IsListing after (entries_for ms) left rows
      flush-form = form-handed after ms k.parts.closed left s.stale rows s.priors parts left_are rows_are form

      pub flush-listed : (new : S) → OldOrNew manifest_name (Some (manifest_text (listing after (entries_for ms) left rows))) (files mid) (files new)
          → Leaves (since mid) (since new) (OldOrNew manifest_name (Some (manifest_text (listing after (entries_for ms) left rows))) (files mid)) → Writes files since (IsUnlisted (listed_numbers t)) (λ d. d) t old new
      flush-listed new changed second =
          listed files since s t lists.view (λ x. IsUnlisted (listed_numbers x)) (unlisted-clear s) old mid known known_stops k after s.stale (s.stale ++ prior_numbers s.priors) all_saved form fit ms left rows parts left_are rows_are new changed second

      pub flush-wrote : (new : S) → files new ≡ option_map (with_file manifest_name (Some (manifest_text (listing after (entries_for ms) left rows)))) (files mid)
          → Wrote (λ d. d) (files old) (files new) t (state_of s k after s.stale)
      flush-wrote new put =
          wrote files since s t lists.view (λ x. IsUnlisted (listed_numbers x)) (unlisted-clear s) old mid known known_stops k after s.stale (s.stale ++ prior_numbers s.priors) all_saved form fit ms left rows parts left_are rows_are new put

      -- the condition of an open merge is kept
      pub flush-merging : (new : S) → files new ≡ option_map (with_file manifest_name (Some (manifest_text (listing after (entries_for ms) left rows)))) (files mid) → IfSome s.merge (IsTied s.held) → IsOpenMerging (files old) t
          → IsOpenMerging (files new) (state_of s k after s.stale)
      flush-merging new put tied open_now =
          let text = text-handed after ms k.parts.closed left s.stale rows s.priors parts left_are rows_are in
          let put' = put ∙ ap (λ (l : List ℕ). option_map (with_file manifest_name (Some l)) (files mid)) text in
          merging-saved (files old) (files mid) (files new) s k after s.stale (s.stale ++ prior_numbers s.priors) (IsUnlisted (listed_numbers s)) (unlisted-clear s) known all_saved form fit put' tied
          (subst (λ (x : State). IsOpenMerging (files old) x) (sym lists.view) open_now)
