-- What a repository reads as once a prior is set, and what the files stand for.
use Rattle.std.proofs.Common.{◌≡◌, ℕ, false, List, [], map, Option, Some, refl, sym, ap, subst, ◌∙◌, arith}
use Rattle.std.specs.List.{AllZip, IsDistinct}
use Rattle.std.specs.Option.{option_map}
use Rattle.std.specs.Str.{bytes_eq}
use Rattle.ri_base.specs.Documents.{Document}
use Rattle.store_ends.specs.Files.{Files, Leaves, OldOrNew, SameWhere, whole, with_file}
use Rattle.store_ends.proofs.Files.{Leaves-same, SameWhere-same, with_file-same}
use Rattle.manifest.specs.Listing.{IsListing, listing}
use Rattle.manifest.specs.PriorFits.{IsPrior}
use Rattle.manifest.specs.Priors.{PriorTable, prior_text}
use Rattle.manifest.specs.Spelling.{manifest_text}
use Rattle.manifest.proofs.ListingLaws.{manifest-of}
use Rattle.disk_index.specs.Parts.{reads}
use Rattle.disk_index.specs.Snapshots as snapshots
use Rattle.disk_index.specs.Snapshots.{Marked}
use Rattle.holdings.proofs.LiveLemmas.{docnos-live}
use Rattle.repository.specs.Entries.{entries_for}
use Rattle.repository.specs.Names.{manifest_name, prior_name}
use Rattle.repository.specs.Numbers.{is_among}
use Rattle.repository.specs.Priors.{AreStored, prior_set, with_entry, with_prior, with_rows}
use Rattle.repository.specs.Saved.{IsUnlisted}
use Rattle.repository.specs.Stands.{Collection, HasManifest, IsPriorListed, Prior, Stands}
use Rattle.repository.specs.States.{IsBacked, IsStateIntact, ReadsAs, State, kept_numbers, listed_numbers}
use Rattle.repository.specs.Writes.{IsBeside, IsEither, IsOther, Wrote, Writes}
use Rattle.repository.proofs.CommitLemmas.{AreFit, IsNotManifest, IsThere, all-documents, all-intact, all-listed, all-live, all-live_listed, all-parts, all-tokens, beside-begun, beside-listed, documents-whole, leaves-begun, leaves-listed, live-whole, parts-there, priors-replaced, replaced-others, stops-begun, stops-listed, tokens-whole, unlisted-clear}
use Rattle.repository.proofs.FrameLemmas.{parts-within, priors-same, priors-within}
use Rattle.repository.proofs.ListedLemmas.{numbers-entries}
use Rattle.repository.proofs.PriorSetLemmas.{file-put, priors-set}
use Rattle.repository.proofs.SaveLemmas.{all-same}

-- the bytes of the manifest that lists it
abbrev pub set_text : State → List ℕ → ℕ → List ℕ
set_text s name n = manifest_text (listing (prior_set s name n).next (entries_for s.held.parts.closed) (prior_set s name n).stale (prior_set s name n).priors)

module _ (a b c : Option Files) (s : State) (name : List ℕ) (n : ℕ) (t : PriorTable) (prior_fits : IsPrior t) (stored : AreStored s) (fit : AreFit s.held) (put : b ≡ option_map (with_file (prior_name n) (Some (prior_text t))) a)
    (same : SameWhere (IsOther (IsUnlisted (listed_numbers s))) a b) (form : IsListing (prior_set s name n).next (entries_for s.held.parts.closed) (prior_set s name n).stale (prior_set s name n).priors)
    (replaced : c ≡ option_map (with_file manifest_name (Some (set_text s name n))) b) (backed : IsBacked a s) where
  abbrev ms : List Marked
  ms = s.held.parts.closed

  clear : (k : ℕ) → IsUnlisted (listed_numbers s) k → is_among k (kept_numbers s) ≡ false
  clear k o = unlisted-clear s k o

  others : SameWhere IsNotManifest b c
  others = replaced-others b c (set_text s name n) replaced

  abbrev file-there : (g : Files) × (b ≡ Some g) × (g (prior_name n) ≡ whole (Some (prior_text t)))
  file-there = file-put backed.has.files a b n t backed.has.is_told put

  abbrev files-now : Files
  files-now = with_file manifest_name (Some (set_text s name n)) file-there.0

  told-now : c ≡ Some files-now
  told-now = replaced ∙ ap (option_map (with_file manifest_name (Some (set_text s name n)))) file-there.1

  has-now : HasManifest c (listing (prior_set s name n).next (entries_for ms) (prior_set s name n).stale (prior_set s name n).priors)
  has-now = record {
    files = files-now;
    is_told = told-now;
    file = with_file-same manifest_name (Some (set_text s name n)) file-there.0;
    form = manifest-of (prior_set s name n).next (entries_for ms) (prior_set s name n).stale (prior_set s name n).priors form;
  }

  there : AllZip (IsThere a c) ms ms
  there = parts-there a b c files-now told-now (IsUnlisted (listed_numbers s)) (kept_numbers s) clear same others [] ms ms (parts-within a s backed) backed.parts (all-same b [] ms) stored.0

  priors-now : (ps : List Prior) → AllZip (IsPriorListed a) s.priors ps → AllZip (IsPriorListed c) (with_entry s.priors name n) (with_rows ps name t)
  priors-now ps listed =
      priors-replaced b c (with_entry s.priors name n) (with_rows ps name t) others
      (priors-set file-there.0 b n t file-there.1 file-there.2 prior_fits s.priors ps name (priors-same (IsUnlisted (listed_numbers s)) (kept_numbers s) clear a b same s.priors ps (priors-within a s backed) listed))

  set-backed : IsBacked c (prior_set s name n)
  set-backed = record {
    list = listing (prior_set s name n).next (entries_for ms) (prior_set s name n).stale (prior_set s name n).priors;
    has = has-now;
    next_is = refl;
    numbers_are = numbers-entries ms stored.0;
    stale_are = refl;
    priors_are = refl;
    parts = all-parts a c ms ms there;
    priors = (with_rows backed.priors.0 name t, priors-now backed.priors.0 backed.priors.1);
  }

  set-intact : IsStateIntact a s → IsStateIntact c (prior_set s name n)
  set-intact intact = all-intact a c ms ms there intact

  set-reads : (d : Collection) → ReadsAs a s d → ReadsAs c (prior_set s name n) (with_prior d name t)
  set-reads d read = record {
    live_are = live-whole c s.held.parts stored.1 ∙ all-live a c ms ms there ∙ sym (live-whole a s.held.parts stored.1) ∙ read.live_are;
    documents_are = read.documents_are;
    tokens_are = read.tokens_are;
    priors_are = priors-now d.priors read.priors_are;
  }

  pub set-stands : (d : Collection) → ReadsAs a s d → Stands s.held.limits c (with_prior d name t)
  set-stands d read =
      let live_is : d.live ≡ snapshots.live a ms = sym read.live_are ∙ live-whole a s.held.parts stored.1 in
      let documents_is = sym read.documents_are ∙ documents-whole s.held.parts stored.1 in
      let tokens_is = sym read.tokens_are ∙ tokens-whole s.held.parts stored.1 in
      record {
        list = listing (prior_set s name n).next (entries_for ms) (prior_set s name n).stale (prior_set s name n).priors;
        has = has-now;
        segments = map (λ (m : Marked). reads a m.source) ms;
        listed = all-listed a c ms ms there;
        held = record {
          live_are = live_is ∙ sym (all-live_listed a c ms ms there fit.whole);
          distinct = subst (IsDistinct bytes_eq) (sym (docnos-live a ms) ∙ ap (map (λ (x : Document). x.docno)) (sym live_is)) fit.distinct;
          documents_are = documents_is ∙ sym (all-documents a c ms);
          tokens_are = tokens_is ∙ sym (all-tokens a c ms);
          documents_fit = (let most = fit.documents in omega (arith, documents_is, most));
          tokens_fit = (let most = fit.tokens in omega (arith, tokens_is, most));
        };
        priors = priors-now d.priors read.priors_are;
      }

-- once it is done
pub wrote-set : (a b c : Option Files) (s : State) (name : List ℕ) (n : ℕ) (t : PriorTable) → IsPrior t → AreStored s → AreFit s.held → b ≡ option_map (with_file (prior_name n) (Some (prior_text t))) a
    → SameWhere (IsOther (IsUnlisted (listed_numbers s))) a b → IsListing (prior_set s name n).next (entries_for s.held.parts.closed) (prior_set s name n).stale (prior_set s name n).priors
    → c ≡ option_map (with_file manifest_name (Some (set_text s name n))) b → Wrote (λ d. with_prior d name t) a c s (prior_set s name n)
wrote-set a b c s name n t prior_fits stored fit put same form replaced = record {
  reads = λ d backed read. set-reads a b c s name n t prior_fits stored fit put same form replaced backed d read;
  stands = λ d backed read. set-stands a b c s name n t prior_fits stored fit put same form replaced backed d read;
  backed = λ backed. set-backed a b c s name n t prior_fits stored fit put same form replaced backed;
  intact = λ backed intact. set-intact a b c s name n t prior_fits stored fit put same form replaced backed intact;
}

-- ---- while it goes on

module _ {S : Type 0} (files : S → Option Files) (since : S → ℕ → Files → Type 0) (s : State) (into : Collection → Collection) where
  clear-of : (k : ℕ) → IsUnlisted (listed_numbers s) k → is_among k (kept_numbers s) ≡ false
  clear-of k o = unlisted-clear s k o

  -- nothing was written
  pub writes-none : (x : S) → Writes files since (IsUnlisted (listed_numbers s)) into s x x
  writes-none x = record {
    others = SameWhere-same (IsBeside (IsUnlisted (listed_numbers s))) (files x);
    others_stay = Leaves-same (since x) (SameWhere (IsBeside (IsUnlisted (listed_numbers s))) (files x));
    stops = λ c d backed stands read. Leaves-same (since x) (IsEither s.held.limits c (into d));
  }

  module _ (x y : S) (same : SameWhere (IsOther (IsUnlisted (listed_numbers s))) (files x) (files y)) (first : Leaves (since x) (since y) (SameWhere (IsOther (IsUnlisted (listed_numbers s))) (files x))) where
    -- a file of a new number was written
    pub writes-begun : Writes files since (IsUnlisted (listed_numbers s)) into s x y
    writes-begun = record {
      others = beside-begun (files x) (files y) s (IsUnlisted (listed_numbers s)) clear-of same;
      others_stay = leaves-begun (since x) (since y) (since y) (files x) (files y) s (IsUnlisted (listed_numbers s)) clear-of same first;
      stops = λ c d backed stands read. stops-begun (since x) (since y) (since y) (files x) (files y) s (IsUnlisted (listed_numbers s)) clear-of same first c (into d) backed stands;
    }

    -- and then the manifest was replaced, or may have been
    pub writes-listed : (z : S) (bytes : List ℕ) → OldOrNew manifest_name (Some bytes) (files y) (files z) → Leaves (since y) (since z) (OldOrNew manifest_name (Some bytes) (files y))
        → ((d : Collection) (f : Files) → IsBacked (files x) s → ReadsAs (files x) s d → Some f ≡ option_map (with_file manifest_name (Some bytes)) (files y) → Stands s.held.limits (Some f) (into d))
        → Writes files since (IsUnlisted (listed_numbers s)) into s x z
    writes-listed z bytes changed second new = record {
      others = beside-listed (files x) (files y) s (IsUnlisted (listed_numbers s)) clear-of same (files z) bytes changed;
      others_stay = leaves-listed (since x) (since y) (since z) (files x) (files y) s (IsUnlisted (listed_numbers s)) clear-of same first bytes second;
      stops = λ c d backed stands read.
          stops-listed (since x) (since y) (since z) (files x) (files y) s (IsUnlisted (listed_numbers s)) clear-of same first bytes second c (into d) backed stands (λ f is. new d f backed read is);
    }

-- the whole call
pub writes-set : {S : Type 0} (files : S → Option Files) (since : S → ℕ → Files → Type 0) (s : State) (name : List ℕ) (n : ℕ) (t : PriorTable) → IsPrior t → AreStored s → AreFit s.held
    → IsListing (prior_set s name n).next (entries_for s.held.parts.closed) (prior_set s name n).stale (prior_set s name n).priors → (x y : S) → files y ≡ option_map (with_file (prior_name n) (Some (prior_text t))) (files x)
    → SameWhere (IsOther (IsUnlisted (listed_numbers s))) (files x) (files y) → Leaves (since x) (since y) (SameWhere (IsOther (IsUnlisted (listed_numbers s))) (files x)) → (z : S) (bytes : List ℕ) → bytes ≡ set_text s name n
    → OldOrNew manifest_name (Some bytes) (files y) (files z) → Leaves (since y) (since z) (OldOrNew manifest_name (Some bytes) (files y))
    → Writes files since (IsUnlisted (listed_numbers s)) (λ d. with_prior d name t) s x z
writes-set files since s name n t prior_fits stored fit form x y put same first z bytes text changed second =
    writes-listed files since s (λ d. with_prior d name t) x y same first z bytes changed second
    (λ d f backed read is.
    set-stands (files x) (files y) (Some f) s name n t prior_fits stored fit put same form (is ∙ ap (λ (b : List ℕ). option_map (with_file manifest_name (Some b)) (files y)) text) backed d read)
