-- Where the stale files are removed, and what is held is saved behind that.
use Rattle.std.proofs.Common.{◌≡◌, ◌<◌, ◌^◌, inl, inr, ℕ, true, false, List, [], ◌++◌, get_or, Option, Some, IfSome, ap, sym, subst, ◌∙◌, arith}
use Rattle.std.specs.List.{All}
use Rattle.std.specs.Option.{option_map}
use Rattle.store_ends.specs.Files.{Files, Leaves, OldOrNew, SameWhere, with_file}
use Rattle.store_ends.proofs.Files.{Leaves-same, Leaves-then, SameWhere-fewer, SameWhere-then}
use Rattle.manifest.specs.Listing.{IsListing, listing, prior_numbers}
use Rattle.manifest.specs.Spelling.{manifest_text}
use Rattle.manifest.specs.declared.manifest.PriorEntry.{PriorEntry}
use Rattle.manifest.proofs.ListingLaws.{listing-of}
use Rattle.disk_index.specs.Names.{segment_name}
use Rattle.disk_index.specs.Snapshots.{Marked}
use Rattle.holdings.specs.Contents.{Contents}
use Rattle.repository.specs.Entries.{entries_for}
use Rattle.repository.specs.Names.{manifest_name, prior_name}
use Rattle.repository.specs.Merges.{IsOpenMerging}
use Rattle.repository.specs.Numbers.{is_among}
use Rattle.repository.specs.Saved.{AllSaved, IsUnlisted}
use Rattle.repository.specs.States.{IsNumbered, State, kept_numbers, listed_numbers, part_numbers}
use Rattle.repository.specs.Ties.{IsTied}
use Rattle.repository.specs.Writes.{AreGone, IsOther, IsSavedAs, Wrote, Writes}
use Rattle.repository.proofs.CommitLemmas.{AreFit, begun, form-handed, form-now, listed, numbered-now, saved-as, state_of, text-handed, unlisted-clear, wrote}
use Rattle.repository.proofs.FlushLemmas.{files_of, same-handed, saved-handed, stops-handed}
use Rattle.repository.proofs.FrameLemmas.{other-prior, other-segment}
use Rattle.repository.proofs.KeepLemmas.{merging-saved}
use Rattle.repository.proofs.ListedLemmas.{all-listed}
use Rattle.repository.proofs.NumberLemmas.{among-behind, among-either, among-left, below-next, clash, free-of, numbered-apart, numbered-less, numbered-right}
use Rattle.repository.proofs.RemovalLemmas.{IsAmong, among-at, gone-listed, gone-same}

-- the names that stay over a sweep
abbrev pub IsRead : State → List ℕ → Type 0
IsRead s = IsOther (IsUnlisted (kept_numbers s))

abbrev pub IsKnown : State → List ℕ → Type 0
IsKnown s = IsOther (IsUnlisted (listed_numbers s))

module _ (s : State) (numbered : IsNumbered s) where
  -- a stale number is that of no file that is read
  stale-clear : (n : ℕ) → is_among n s.stale ≡ true → is_among n (kept_numbers s) ≡ false
  stale-clear n e =
      let parts = part_numbers s.held.parts.closed in
      let priors = prior_numbers s.priors in
      let all = all-listed s numbered in
      free-of (is_among n (kept_numbers s)) (λ there. elim (among-either n parts priors there) [
        | inl part ↦ clash (is_among n (s.stale ++ priors)) (among-left n s.stale priors e) (numbered-apart s.next parts (s.stale ++ priors) all n part)
        | inr prior ↦ clash (is_among n priors) prior (numbered-apart s.next s.stale priors (numbered-right s.next parts (s.stale ++ priors) all) n e)
      ])

  pub swept-same : (a m : Option Files) → SameWhere (IsOther (IsAmong s.stale)) a m → SameWhere (IsRead s) a m
  swept-same a m same = SameWhere-fewer (IsOther (IsAmong s.stale)) (IsRead s) a m (λ name other n fits e. other n fits (stale-clear n e)) same

  pub swept-stops : (past since : ℕ → Files → Type 0) (a : Option Files) → Leaves past since (SameWhere (IsOther (IsAmong s.stale)) a) → Leaves past since (SameWhere (IsRead s) a)
  swept-stops past since a leaves =
      Leaves-then past past since (SameWhere (IsRead s) a) (SameWhere (IsOther (IsAmong s.stale)) a) (Leaves-same past (SameWhere (IsRead s) a)) leaves (λ f now. swept-same a f now)

  pub saved-same : (a m b : Option Files) → SameWhere (IsOther (IsAmong s.stale)) a m → SameWhere (IsKnown s) m b → SameWhere (IsRead s) a b
  saved-same a m b first second =
      SameWhere-then (IsRead s) a m b (swept-same a m first) (SameWhere-fewer (IsKnown s) (IsRead s) m b (λ name other n fits free. other n fits (unlisted-clear s n free)) second)

  pub saved-stops : (past mid since : ℕ → Files → Type 0) (a m : Option Files) → SameWhere (IsOther (IsAmong s.stale)) a m → Leaves past mid (SameWhere (IsOther (IsAmong s.stale)) a) → Leaves mid since (SameWhere (IsKnown s) m)
      → Leaves past since (SameWhere (IsRead s) a)
  saved-stops past mid since a m same first second =
      Leaves-then past mid since (SameWhere (IsRead s) a) (SameWhere (IsKnown s) m) (swept-stops past mid a first) second (λ f now. saved-same a m f same now)

  -- the files of stale numbers aren't written anew
  stale-names : All (λ n. IsKnown s (segment_name n) × IsKnown s (prior_name n)) s.stale
  stale-names = λ k d within.
      let n = get_or s.stale k d in
      let parts = part_numbers s.held.parts.closed in
      let among : is_among n (listed_numbers s) ≡ true = among-behind n parts (s.stale ++ prior_numbers s.priors) (among-left n s.stale (prior_numbers s.priors) (among-at s.stale k d within)) in
      let below : n < s.next = below-next s.next (listed_numbers s) (all-listed s numbered) n among in
      let fits = (listing-of numbered.list numbered.form).next_fits in
      let small : n < 2 ^ 64 = omega (arith, below, fits, numbered.next_is) in
      (other-segment (IsUnlisted (listed_numbers s)) (listed_numbers s) (λ j o. o) n small among, other-prior (IsUnlisted (listed_numbers s)) (listed_numbers s) (λ j o. o) n small among)

  pub gone-swept : (bytes : List ℕ) (m b c : Option Files) → AreGone s.stale m → SameWhere (IsKnown s) m b → c ≡ option_map (with_file manifest_name (Some bytes)) b → AreGone s.stale c
  gone-swept bytes m b c gone same put = gone-listed s.stale bytes b c put (gone-same (IsKnown s) s.stale m b same stale-names gone)

-- ---- the ways out

-- the stale files of the state that the view shows are removed
pub record IsSwept {S : Type 0} (files : S → Option Files) (since : S → ℕ → Files → Type 0) (s t : State) (ns : List ℕ) (old cut : S) : Type 0 where
  pub view : s ≡ t
  pub numbered : IsNumbered s
  pub gone : ns ≡ s.stale
  pub removed : SameWhere (IsOther (IsAmong ns)) (files old) (files cut)
  pub first : Leaves (since old) (since cut) (SameWhere (IsOther (IsAmong ns)) (files old))

module _ {S : Type 0} {files : S → Option Files} {since : S → ℕ → Files → Type 0} {s t : State} {ns : List ℕ} {old cut : S} (swept : IsSwept files since s t ns old cut) where
  removed_here : SameWhere (IsOther (IsAmong s.stale)) (files old) (files cut)
  removed_here = subst (λ (l : List ℕ). SameWhere (IsOther (IsAmong l)) (files old) (files cut)) swept.gone swept.removed

  removed_stops : Leaves (since old) (since cut) (SameWhere (IsOther (IsAmong s.stale)) (files old))
  removed_stops = subst (λ (l : List ℕ). Leaves (since old) (since cut) (SameWhere (IsOther (IsAmong l)) (files old))) swept.gone swept.first

  pub sweep-begun : Writes files since (IsUnlisted (kept_numbers t)) (λ d. d) t old cut
  sweep-begun =
      begun files since s t swept.view (λ x. IsUnlisted (kept_numbers x)) (λ n free. free) old cut (swept-same s swept.numbered (files old) (files cut) removed_here) (swept-stops s swept.numbered (since old) (since cut) (files old) removed_stops)

  module _ {st : List ℕ} {ps : List PriorEntry} (stale : st ≡ s.stale) (priors : ps ≡ s.priors) (mid : S) (kept : SameWhere (IsOther (IsUnlisted (files_of s st ps))) (files cut) (files mid))
      (second : Leaves (since cut) (since mid) (SameWhere (IsOther (IsUnlisted (files_of s st ps))) (files cut))) where
    same : SameWhere (IsRead s) (files old) (files mid)
    same = saved-same s swept.numbered (files old) (files cut) (files mid) removed_here (same-handed s st ps stale priors (files cut) (files mid) kept)

    stops : Leaves (since old) (since mid) (SameWhere (IsRead s) (files old))
    stops = saved-stops s swept.numbered (since old) (since cut) (since mid) (files old) (files cut) removed_here removed_stops (stops-handed s st ps stale priors (since cut) (since mid) (files cut) second)

    pub sweep-saving : Writes files since (IsUnlisted (kept_numbers t)) (λ d. d) t old mid
    sweep-saving = begun files since s t swept.view (λ x. IsUnlisted (kept_numbers x)) (λ n free. free) old mid same stops

    pub sweep-gone : (bytes : List ℕ) (new : S) → AreGone ns (files cut) → files new ≡ option_map (with_file manifest_name (Some bytes)) (files mid) → AreGone t.stale (files new)
    sweep-gone bytes new none put =
        let here = subst (λ (l : List ℕ). AreGone l (files cut)) swept.gone none in
        subst (λ (x : State). AreGone x.stale (files new)) swept.view (gone-swept s swept.numbered bytes (files cut) (files mid) (files new) here (same-handed s st ps stale priors (files cut) (files mid) kept) put)

    module _ {k : Contents} {after : ℕ} (saved : AllSaved (files mid) (st ++ prior_numbers ps) s.next after s.held k) (fit : AreFit k) where
      all_saved : AllSaved (files mid) (s.stale ++ prior_numbers s.priors) s.next after s.held k
      all_saved = saved-handed s st ps stale priors (files mid) after k saved

      form : IsListing after (entries_for k.parts.closed) [] s.priors
      form =
          let fewer = numbered-less after (part_numbers k.parts.closed) s.stale (prior_numbers s.priors) all_saved.numbered in
          form-now (files mid) s k after [] (s.stale ++ prior_numbers s.priors) swept.numbered all_saved fit (omega arith) tt fewer

      module _ {left : List ℕ} (none : left ≡ []) where
        pub sweep-numbered : IsNumbered (state_of s k after left)
        sweep-numbered = subst (λ (l : List ℕ). IsNumbered (state_of s k after l)) (sym none) (numbered-now (files mid) s k after [] (s.stale ++ prior_numbers s.priors) swept.numbered all_saved form)

        pub sweep-saved : IsSavedAs t (state_of s k after left) []
        sweep-saved =
            subst (λ (l : List ℕ). IsSavedAs t (state_of s k after l) []) (sym none)
            (subst (λ (x : State). IsSavedAs x (state_of s k after []) []) swept.view (saved-as (files mid) s k after [] (s.stale ++ prior_numbers s.priors) all_saved))

        module _ {ms : List Marked} {listed_stale : List ℕ} {rows : List PriorEntry} (parts : ms ≡ k.parts.closed) (stale_are : listed_stale ≡ left) (rows_are : rows ≡ s.priors) where
          pub sweep-form : IsListing after (entries_for ms) listed_stale rows
          sweep-form = form-handed after ms k.parts.closed listed_stale [] rows s.priors parts (stale_are ∙ none) rows_are form

          pub sweep-listed : (new : S) → OldOrNew manifest_name (Some (manifest_text (listing after (entries_for ms) listed_stale rows))) (files mid) (files new)
              → Leaves (since mid) (since new) (OldOrNew manifest_name (Some (manifest_text (listing after (entries_for ms) listed_stale rows))) (files mid)) → Writes files since (IsUnlisted (kept_numbers t)) (λ d. d) t old new
          sweep-listed new changed last =
              listed files since s t swept.view (λ x. IsUnlisted (kept_numbers x)) (λ n free. free) old mid same stops k after [] (s.stale ++ prior_numbers s.priors) all_saved form fit ms listed_stale rows parts (stale_are ∙ none) rows_are new changed
              last

          pub sweep-wrote : (new : S) → files new ≡ option_map (with_file manifest_name (Some (manifest_text (listing after (entries_for ms) listed_stale rows)))) (files mid)
              → Wrote (λ d. d) (files old) (files new) t (state_of s k after left)
          sweep-wrote new put =
              subst (λ (l : List ℕ). Wrote (λ d. d) (files old) (files new) t (state_of s k after l)) (sym none)
              (wrote files since s t swept.view (λ x. IsUnlisted (kept_numbers x)) (λ n free. free) old mid same stops k after [] (s.stale ++ prior_numbers s.priors) all_saved form fit ms listed_stale rows parts (stale_are ∙ none) rows_are new put)

          -- the condition of an open merge is kept
          pub sweep-merging : (new : S) → files new ≡ option_map (with_file manifest_name (Some (manifest_text (listing after (entries_for ms) listed_stale rows)))) (files mid) → IfSome s.merge (IsTied s.held) → IsOpenMerging (files old) t
              → IsOpenMerging (files new) (state_of s k after left)
          sweep-merging new put tied open_now =
              let text = text-handed after ms k.parts.closed listed_stale [] rows s.priors parts (stale_are ∙ none) rows_are in
              let put' = put ∙ ap (λ (l : List ℕ). option_map (with_file manifest_name (Some l)) (files mid)) text in
              subst (λ (l : List ℕ). IsOpenMerging (files new) (state_of s k after l)) (sym none)
              (merging-saved (files old) (files mid) (files new) s k after [] (s.stale ++ prior_numbers s.priors) (IsUnlisted (kept_numbers s)) (λ n free. free) same all_saved form fit put' tied
              (subst (λ (x : State). IsOpenMerging (files old) x) (sym swept.view) open_now))
