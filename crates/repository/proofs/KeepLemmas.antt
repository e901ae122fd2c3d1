-- The condition of an open merge is kept by each call.
use Rattle.std.proofs.Common.{◌≡◌, inl, inr, ℕ, Bool, true, false, List, [], ◌∷◌, ◌++◌, length, map, take, Option, None, Some, IfSome, refl, ap, sym, subst, ◌∙◌}
use Rattle.std.specs.List.{AllZip}
use Rattle.std.proofs.lemmas.List.Elements.{All-cons, All-head, All-nil, All-tail}
use Rattle.ri_base.specs.Documents.{Document}
use Rattle.std.specs.Option.{option_map}
use Rattle.store_ends.specs.Files.{Files, SameWhere, with_file}
use Rattle.manifest.specs.Listing.{IsListing}
use Rattle.disk_index.specs.Kept.{Kept}
use Rattle.disk_index.specs.Parts.{InMemory, IsPartBacked, OnDisk, Source, reads}
use Rattle.disk_index.specs.Snapshots.{AreBacked, Marked, live, unmarked}
use Rattle.holdings.specs.Contents.{Contents, added, all_closed, deleted}
use Rattle.holdings.specs.MarkedParts.{docnos_in, filled, marked_with}
use Rattle.holdings.specs.Marks.{marks_with}
use Rattle.holdings.specs.Parts.{Parts, sealed}
use Rattle.merge_job.specs.Marks.{HasGrown, mapped}
use Rattle.merge_job.specs.Merge.{Merging}
use Rattle.merge_job.proofs.LawLemmas.{twice}
use Rattle.repository.specs.Merges.{IsMerging, IsOpenMerging, ReadAlike, merge_begun, merge_of, with_merge}
use Rattle.repository.specs.Entries.{entries_for}
use Rattle.repository.specs.Names.{manifest_name}
use Rattle.repository.specs.Numbers.{is_among}
use Rattle.repository.specs.Saved.{AllSaved}
use Rattle.repository.specs.States.{IsBacked, State, kept_numbers, numbers_in, part_numbers}
use Rattle.repository.specs.Steps.{with_held}
use Rattle.repository.specs.Ties.{Begins, IsSourceOf, IsTied}
use Rattle.repository.specs.Writes.{IsOther}
use Rattle.repository.proofs.CommitLemmas.{AreFiled, AreFit, IsNotManifest, IsThere, backed-now, filed, files-now, listed_text, part-there, replaced-others, state_of, there as parts-now, there-part, there-reads, told-now}
use Rattle.repository.proofs.FrameLemmas.{AreWithin}
use Rattle.repository.proofs.NumberLemmas.{among-behind, among-either, among-left}
use Rattle.repository.proofs.StepLemmas.{Closes, backed-added, backed-closed, backed-deleted, closes-by, closes-with}
use Rattle.repository.proofs.TieLemmas.{IfSome-map, grown-with, no-mark}

alike-append : (told : Option Files) (ms ps qs : List Marked) → ReadAlike told ms ps → ReadAlike told ms (ps ++ qs)
alike-append told [] ps qs alike = tt
alike-append told (m ∷ ms) [] qs alike = absurd alike
alike-append told (m ∷ ms) (p ∷ ps) qs alike = (alike.0, alike-append told ms ps qs alike.1)

alike-closes : (told : Option Files) (ms : List Marked) (p : Parts) (closed : List Marked) → Closes p closed → ReadAlike told ms p.closed → ReadAlike told ms closed
alike-closes told ms p closed closes alike = elim closes [
  | inl same ↦ subst (ReadAlike told ms) (sym same) alike
  | inr more ↦ subst (ReadAlike told ms) (sym more) (alike-append told ms p.closed (filled p.filling p.marks ∷ []) alike)
]

pub alike-sealed : (told : Option Files) (ms : List Marked) (p : Parts) → ReadAlike told ms p.closed → ReadAlike told ms (sealed p).closed
alike-sealed told ms p alike = alike-closes told ms p (sealed p).closed (closes-by p p.filling) alike

-- what reads alike without the marked ones reads alike without more of them
alike-marked : (told : Option Files) (k : List ℕ) (ms ps : List Marked) → ReadAlike told ms ps → ReadAlike told ms (map (marked_with k) ps)
alike-marked told k [] ps alike = tt
alike-marked told k (m ∷ ms) [] alike = absurd alike
alike-marked told k (m ∷ ms) (p ∷ ps) alike =
    let now = marks_with k (docnos_in p.source) p.marks in
    let grown : HasGrown p.marks now = grown-with k (docnos_in p.source) p.marks in (
      sym (twice (reads told p.source) p.marks now grown) ∙ ap (λ (ds : List Document). unmarked ds (mapped p.marks now)) alike.0 ∙ twice (reads told m.source) p.marks now grown,
      alike-marked told k ms ps alike.1,
    )

-- ---- other parts are held

merging-held : (told : Option Files) (s : State) (h : Contents) (m : Merging) → IsBacked told (with_held s h) → ReadAlike told m.snapshot h.parts.closed → IsMerging told s m → IsMerging told (with_held s h) m
merging-held told s h m backed alike merging = record { backed = backed; snapshot = merging.snapshot; alike = alike; taken = merging.taken }

pub merging-added : (told : Option Files) (s : State) (d : Document) → IsOpenMerging told s → IsOpenMerging told (with_held s (added s.held d))
merging-added told s d open_now =
    IfSome-map s.merge (IsMerging told s) (IsMerging told (with_held s (added s.held d)))
    (λ m merging. merging-held told s (added s.held d) m (backed-added told s d merging.backed)
    (alike-closes told m.snapshot s.held.parts (added s.held d).parts.closed (closes-with s.held.parts d) merging.alike) merging) open_now

pub merging-deleted : (told : Option Files) (s : State) (k : List ℕ) → IsOpenMerging told s → IsOpenMerging told (with_held s (deleted s.held k))
merging-deleted told s k open_now =
    IfSome-map s.merge (IsMerging told s) (IsMerging told (with_held s (deleted s.held k)))
    (λ m merging. merging-held told s (deleted s.held k) m (backed-deleted told s k merging.backed) (alike-marked told k m.snapshot s.held.parts.closed merging.alike) merging) open_now

pub merging-closed : (told : Option Files) (s : State) → IsOpenMerging told s → IsOpenMerging told (with_held s (all_closed s.held))
merging-closed told s open_now =
    IfSome-map s.merge (IsMerging told s) (IsMerging told (with_held s (all_closed s.held)))
    (λ m merging. merging-held told s (all_closed s.held) m (backed-closed told s merging.backed) (alike-sealed told m.snapshot s.held.parts merging.alike) merging) open_now

-- ---- a merge is opened

pub backed-merge : (told : Option Files) (s : State) (o : Option Merging) → IsBacked told s → IsBacked told (with_merge s o)
backed-merge told s o b = record { list = b.list; has = b.has; next_is = b.next_is; numbers_are = b.numbers_are; stale_are = b.stale_are; priors_are = b.priors_are; parts = b.parts; priors = b.priors }

alike-same : (told : Option Files) (ps : List Marked) → ReadAlike told ps ps
alike-same told [] = tt
alike-same told (p ∷ ps) = (refl, alike-same told ps)

pub merging-begun : (told : Option Files) (s : State) → IsBacked told s → IsOpenMerging told (merge_begun s)
merging-begun told s backed =
    let closed = backed-closed told s backed in
    record {
      backed = backed-merge told (with_held s (all_closed s.held)) (Some (merge_of s)) closed;
      snapshot = closed.parts;
      alike = alike-same told (sealed s.held.parts).closed;
      taken = refl;
    }

-- ---- files that are read stay, and all is saved

source-numbers : (m p : Source) (j : ℕ) → IsSourceOf m p → is_among j (numbers_in m) ≡ true → is_among j (numbers_in p) ≡ true
source-numbers (InMemory docs) p j goes e = absurd (no-mark e)
source-numbers (OnDisk i) (InMemory d) j goes e = absurd goes
source-numbers (OnDisk i) (OnDisk k) j goes e = ap (λ (x : Kept). is_among j (x.number ∷ [])) goes ∙ e

-- the files of a snapshot's parts are among those of the parts that go on from them
pub begins-numbers : (ms ps : List Marked) (j : ℕ) → Begins ms ps → is_among j (part_numbers ms) ≡ true → is_among j (part_numbers ps) ≡ true
begins-numbers [] ps j begins e = absurd (no-mark e)
begins-numbers (m ∷ ms) [] j begins e = absurd begins
begins-numbers (m ∷ ms) (p ∷ ps) j begins e = elim (among-either j (numbers_in m.source) (part_numbers ms) e) [
  | inl here ↦ among-left j (numbers_in p.source) (part_numbers ps) (source-numbers m.source p.source j begins.0.0 here)
  | inr rest ↦ among-behind j (numbers_in p.source) (part_numbers ps) (begins-numbers ms ps j begins.1 rest)
]

module _ (a b c : Option Files) (f : Files) (told : c ≡ Some f) (own : ℕ → Type 0) (kept : List ℕ) (clear : (n : ℕ) → own n → is_among n kept ≡ false) (same : SameWhere (IsOther own) a b)
    (others : SameWhere IsNotManifest b c) where
  source-kept : (s : Source) → AreWithin kept (numbers_in s) → IsPartBacked a s → IsPartBacked c s × (reads c s ≡ reads a s)
  source-kept (InMemory docs) within backed = (tt, refl)
  source-kept (OnDisk k) within backed =
      let m : Marked = record { source = OnDisk k; marks = [] } in
      let there : IsThere a c m m = part-there a b c f told own kept clear same others [] m m within backed (refl, refl) tt in
      (there-part a c m m there, there-reads a c m m there)

  snapshot-kept : (ms : List Marked) → AreWithin kept (part_numbers ms) → AreBacked a ms → AreBacked c ms × (live c ms ≡ live a ms)
  snapshot-kept [] within backed = (All-nil _, refl)
  snapshot-kept (m ∷ ms) within backed =
      let here = source-kept m.source (λ j e. within j (among-left j (numbers_in m.source) (part_numbers ms) e)) (All-head (λ (x : Marked). IsPartBacked a x.source) m ms backed) in
      let rest = snapshot-kept ms (λ j e. within j (among-behind j (numbers_in m.source) (part_numbers ms) e)) (All-tail (λ (x : Marked). IsPartBacked a x.source) m ms backed) in (
        All-cons (λ (x : Marked). IsPartBacked c x.source) m ms here.0 rest.0,
        ap (λ (ds : List Document). unmarked ds m.marks ++ live c ms) here.1 ∙ ap (λ (l : List Document). unmarked (reads a m.source) m.marks ++ l) rest.1,
      )

  alike-there : (ms ps qs : List Marked) → AreWithin kept (part_numbers ms) → AreBacked a ms → AllZip (IsThere a c) ps qs → ReadAlike a ms ps → ReadAlike c ms qs
  alike-there [] ps qs within backed there alike = tt
  alike-there (m ∷ ms) [] qs within backed there alike = absurd alike
  alike-there (m ∷ ms) (p ∷ ps) [] within backed there alike = absurd there
  alike-there (m ∷ ms) (p ∷ ps) (q ∷ qs) within backed there alike =
      let here = source-kept m.source (λ j e. within j (among-left j (numbers_in m.source) (part_numbers ms) e)) (All-head (λ (x : Marked). IsPartBacked a x.source) m ms backed) in (
        ap (λ (ds : List Document). unmarked ds q.marks) (there-reads a c p q there.0) ∙ ap (λ (b : List Bool). unmarked (reads a p.source) b) there.0.marks ∙ alike.0
            ∙ ap (λ (b : List Bool). unmarked (reads a m.source) b) (sym there.0.marks) ∙ ap (λ (ds : List Document). unmarked ds q.marks) (sym here.1),
        alike-there ms ps qs (λ j e. within j (among-behind j (numbers_in m.source) (part_numbers ms) e)) (All-tail (λ (x : Marked). IsPartBacked a x.source) m ms backed) there.1 alike.1,
      )

module _ (a b c : Option Files) (s : State) (k : Contents) (after : ℕ) (stale others : List ℕ) (own : ℕ → Type 0) (clear : (n : ℕ) → own n → is_among n (kept_numbers s) ≡ false)
    (same : SameWhere (IsOther own) a b) (saved : AllSaved b others s.next after s.held k) (form : IsListing after (entries_for k.parts.closed) stale s.priors) (fit : AreFit k)
    (put : c ≡ option_map (with_file manifest_name (Some (listed_text k after stale s.priors))) b) where
  module _ (m : Merging) (tied : IsTied s.held m) (merging : IsMerging a s m) where
    known : AreFiled a s
    known = filed a s merging.backed

    snapshot-within : AreWithin (kept_numbers s) (part_numbers m.snapshot)
    snapshot-within = λ j e. known.parts_within j (begins-numbers m.snapshot s.held.parts.closed j tied.begins e)

    merge-kept : IsMerging c (state_of s k after stale) m
    merge-kept =
        let told = told-now a b c s k after stale others own clear same saved form fit put known in
        let files = files-now a b c s k after stale others own clear same saved form fit put known in
        let replaced = replaced-others b c (listed_text k after stale s.priors) put in
        let there = parts-now a b c s k after stale others own clear same saved form fit put known in
        let snap = snapshot-kept a b c files told own (kept_numbers s) clear same replaced m.snapshot snapshot-within merging.snapshot in
        record {
          backed = backed-now a b c s k after stale others own clear same saved form fit put known;
          snapshot = snap.0;
          alike = alike-there a b c files told own (kept_numbers s) clear same replaced m.snapshot (sealed s.held.parts).closed k.parts.closed snapshot-within merging.snapshot there (alike-sealed a m.snapshot s.held.parts merging.alike);
          taken = merging.taken ∙ ap (take (length m.copied)) (sym snap.1);
        }

  pub merging-saved : IfSome s.merge (IsTied s.held) → IsOpenMerging a s → IsOpenMerging c (state_of s k after stale)
  merging-saved tied open_now = by s.merge tied open_now
    where
      by : (o : Option Merging) → IfSome o (IsTied s.held) → IfSome o (IsMerging a s) → IfSome o (IsMerging c (state_of s k after stale))
      by None t now = now
      by (Some m) t now = merge-kept m t now
