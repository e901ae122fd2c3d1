-- Files that are read as they were put stay so.
use Rattle.std.proofs.Common.{◌≡◌, ◌∙◌, ℕ, Bool, List, [], ◌∷◌, Option, None, Some, Result, Ok, Err, ap, subst, sym}
use Rattle.std.specs.Prelude.{All, IfSome, OnOk}
use Rattle.std.proofs.lemmas.List.Elements.{All-cons, All-head, All-nil, All-tail}
use Rattle.ri_base.specs.declared.seg_fault.SegFault.{SegFault}
use Rattle.smoothing.specs.declared.rule.RuleKind.{RuleKind}
use Rattle.store_ends.specs.Files.{Files, SameWhere}
use Rattle.disk_index.specs.Cache.{Cached, IsCacheBacked}
use Rattle.disk_index.specs.Snapshots.{AreIntact}
use Rattle.holdings.specs.Parts.{sealed}
use Rattle.merge_job.specs.Merge.{Merging}
use Rattle.repository.specs.Merges.{IsOpenMerging, IsTurnedTo, merge_begun, with_merge}
use Rattle.repository.specs.Saved.{IsUnlisted}
use Rattle.repository.specs.States as repositories
use Rattle.repository.specs.States.{IsBacked, listed_numbers}
use Rattle.repository.specs.Writes.{IsBeside, IsSavedAs, Wrote}
use Rattle.repository.specs.declared.turned.Turned.{Turned}
use Rattle.repository.specs.declared.turned.Turned.TheVariants as turn
use Rattle.repository.proofs.KeepLemmas.{backed-merge}
use Rattle.desk.specs.Backed.{IsDeskBacked, IsDeskIntact, IsMergeBacked, Keeps, with_usable}
use Rattle.desk.specs.Queries.{IsQueryBacked}
use Rattle.desk.specs.declared.query.OpenQuery.{OpenQuery}
use Rattle.desk.specs.declared.reply.Reply.{Reply}
use Rattle.desk.proofs.DocumentExits.{with_repository}
use Rattle.desk.proofs.EndExits.{ended_with}
use Rattle.desk.proofs.Frames.{intact-same, listed-stays}
use Rattle.desk.proofs.Keeping.{merge-condition}
use Rattle.desk.proofs.MergeExits.{if-some, none-if, some-if, with_merged}

-- the files of the snapshots of open queries
abbrev pub AreAllIntact : Option Files → List OpenQuery → Type 0
AreAllIntact told qs = All (λ q. AreIntact told q.search.snapshot) qs

-- those of the snapshot of the merge that is open
abbrev pub IsMergeIntact : Option Files → Option Merging → Type 0
IsMergeIntact told o = IfSome o (λ m. AreIntact told m.snapshot)

-- of a new desk, where nothing is open
pub intact-new : (told : Option Files) (d : Keeps) → d.queries ≡ [] → AreIntact told d.repository.held.parts.closed → IsMergeIntact told d.repository.merge → IsDeskIntact told d
intact-new told d none parts merge = record { parts = parts; queries = subst (AreAllIntact told) (sym none) (All-nil (λ (q : OpenQuery). AreIntact told q.search.snapshot)); merge = merge }

-- what a desk keeps that is seen as another
pub intact-from : (before after : Option Files) (d now n : Keeps) → d ≡ now → (IsDeskIntact before d → IsDeskIntact after n) → IsDeskIntact before now → IsDeskIntact after n
intact-from before after d now n same into whole = into (subst (IsDeskIntact before) (sym same) whole)

pub intact-moved : (told : Option Files) (n now : Keeps) → n ≡ now → IsDeskIntact told now → IsDeskIntact told n
intact-moved told n now same whole = subst (IsDeskIntact told) (sym same) whole

pub merge-moved : (told : Option Files) (o p : Option Merging) → p ≡ o → IsMergeIntact told o → IsMergeIntact told p
merge-moved told o p same whole = subst (IsMergeIntact told) (sym same) whole

pub on-ok-map : (r : Result Reply SegFault) (P Q : Type 0) → (P → Q) → OnOk r P → OnOk r Q
on-ok-map (Ok x) P Q into p = into p
on-ok-map (Err e) P Q into p = tt

-- whether it may be used on is tied to no file
pub usable-intact : (told : Option Files) (d : Keeps) (usable : Bool) → IsDeskIntact told d → IsDeskIntact told (with_usable d usable)
usable-intact told d usable whole = record { parts = whole.parts; queries = whole.queries; merge = whole.merge }

-- a merge that begins has the parts that are held
pub begun-intact : (told : Option Files) (s r : repositories.State) → r ≡ merge_begun s → AreIntact told r.held.parts.closed → IsMergeIntact told r.merge
begun-intact told s r made whole =
    let here : AreIntact told (sealed s.held.parts).closed = subst (λ (x : repositories.State). AreIntact told x.held.parts.closed) made whole in
    subst (λ (x : repositories.State). IsMergeIntact told x.merge) (sym made) here

-- ---- over a commit, which leaves the files that are listed

module _ (a b : Option Files) (s : repositories.State) (backed : IsBacked a s) (same : SameWhere (IsBeside (IsUnlisted (listed_numbers s))) a b) where
  pub queries-intact : (kind : RuleKind) (qs : List OpenQuery) → All (IsQueryBacked a s kind) qs → AreAllIntact a qs → AreAllIntact b qs
  queries-intact kind [] all whole = All-nil (λ (q : OpenQuery). AreIntact b q.search.snapshot)
  queries-intact kind (q ∷ qs) all whole =
      let query = All-head (IsQueryBacked a s kind) q qs all in
      let own = All-head (λ (x : OpenQuery). AreIntact a x.search.snapshot) q qs whole in
      All-cons (λ (x : OpenQuery). AreIntact b x.search.snapshot) q qs (intact-same (IsBeside (IsUnlisted (listed_numbers s))) a b same q.search.snapshot (λ j h. listed-stays a s backed j (query.listed j h)) own)
      (queries-intact kind qs (All-tail (IsQueryBacked a s kind) q qs all) (All-tail (λ (x : OpenQuery). AreIntact a x.search.snapshot) q qs whole))

  pub merge-intact : (o : Option Merging) → IfSome o (IsMergeBacked a s) → IsMergeIntact a o → IsMergeIntact b o
  merge-intact None all whole = tt
  merge-intact (Some m) all whole = intact-same (IsBeside (IsUnlisted (listed_numbers s))) a b same m.snapshot (λ j h. listed-stays a s backed j (all.listed j h)) whole

-- ---- what is in memory is written

pub flush-intact : (before after : Option Files) (d now : Keeps) (r : repositories.State) → d ≡ now → (IsBacked before d.repository → AreIntact before d.repository.held.parts.closed → AreIntact after r.held.parts.closed)
    → SameWhere (IsBeside (IsUnlisted (listed_numbers d.repository))) before after → r.merge ≡ d.repository.merge → IsDeskBacked before now → IsDeskIntact before now → IsDeskIntact after (with_repository d r)
flush-intact before after d now r same parts stay merge backed whole =
    let b = subst (IsDeskBacked before) (sym same) backed in
    let w = subst (IsDeskIntact before) (sym same) whole in
    record {
      parts = parts b.repository w.parts;
      queries = queries-intact before after d.repository b.repository stay d.kind d.queries b.queries w.queries;
      merge = merge-moved after d.repository.merge r.merge merge (merge-intact before after d.repository b.repository stay d.repository.merge b.merge w.merge);
    }

-- ---- a turn of a merge

turned-merge : (after : Option Files) (s r : repositories.State) (docs : ℕ) (t : Turned) → IsTurnedTo t docs s r → IsMergeIntact after s.merge → IsMergeIntact after r.merge
turned-merge after s r docs (turn.Open credit size) on whole =
    let was = if-some (λ (m : Merging). AreIntact after m.snapshot) s.merge on.before on.was whole in
    some-if (λ (m : Merging). AreIntact after m.snapshot) r.merge on.now (ap (λ (x : repositories.State). x.merge) on.is) (subst (AreIntact after) (sym on.snapshot) was)
turned-merge after s r docs turn.Done to whole = none-if (λ (m : Merging). AreIntact after m.snapshot) r.merge to.ended.closed

pub turn-intact : (before after : Option Files) (d now : Keeps) (docs : ℕ) (r : repositories.State) (cache : Cached) → d ≡ now → (IsOpenMerging before d.repository → IsCacheBacked before d.cache → AreIntact before d.repository.held.parts.closed → AreIntact after r.held.parts.closed)
    → SameWhere (IsBeside (IsUnlisted (listed_numbers d.repository))) before after → (t : Turned) → IsTurnedTo t docs d.repository r → IsDeskBacked before now → IsDeskIntact before now → IsDeskIntact after (with_merged d r cache)
turn-intact before after d now docs r cache same parts stay t to backed whole =
    let b = subst (IsDeskBacked before) (sym same) backed in
    let w = subst (IsDeskIntact before) (sym same) whole in
    record {
      parts = parts (merge-condition before d.repository d.repository.merge b.merge) b.cache.backed w.parts;
      queries = queries-intact before after d.repository b.repository stay d.kind d.queries b.queries w.queries;
      merge = turned-merge after d.repository r docs t to (merge-intact before after d.repository b.repository stay d.repository.merge b.merge w.merge);
    }

-- ---- the end, behind which nothing is open

pub end-intact : (before mid after : Option Files) (d now : Keeps) (start r t : repositories.State) (qs : List OpenQuery) (cache : Cached) → d ≡ now → start ≡ with_merge d.repository None → Wrote (λ c. c) before mid start r → Wrote (λ c. c) mid after r t
    → IsSavedAs start r start.stale → IsSavedAs r t [] → qs ≡ [] → IsDeskBacked before now → IsDeskIntact before now → IsDeskIntact after (ended_with d t qs cache)
end-intact before mid after d now start r t qs cache same made flushed swept saved last none backed whole =
    let b = subst (IsDeskBacked before) (sym same) backed in
    let w = subst (IsDeskIntact before) (sym same) whole in
    let begun : IsBacked before start = subst (IsBacked before) (sym made) (backed-merge before d.repository None b.repository) in
    let here : AreIntact before start.held.parts.closed = subst (λ (x : repositories.State). AreIntact before x.held.parts.closed) (sym made) w.parts in
    let closed : t.merge ≡ None = last.merge ∙ saved.merge ∙ ap (λ (x : repositories.State). x.merge) made in
    record {
      parts = swept.intact (flushed.backed begun) (flushed.intact begun here);
      queries = subst (AreAllIntact after) (sym none) (All-nil (λ (q : OpenQuery). AreIntact after q.search.snapshot));
      merge = none-if (λ (m : Merging). AreIntact after m.snapshot) t.merge closed;
    }
