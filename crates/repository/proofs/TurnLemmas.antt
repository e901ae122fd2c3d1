-- A turn of an open merge: where it goes on, and where it is done.
use Rattle.std.proofs.Common.{◌≡◌, ◌≤◌, ◌<◌, ◌+◌, ◌⊎◌, inl, inr, ℕ, Bool, true, false, cond, List, [], ◌∷◌, length, min, nat_lt, Option, None, Some, IfSome, refl, ap, sym, subst, ◌∙◌, arith}
use Rattle.std.specs.List.{All}
use Rattle.std.proofs.lemmas.Bool.Decides.{nat_tests}
use Rattle.std.proofs.lemmas.List.Elements.{All-cons, All-head, All-nil, All-tail}
use Rattle.ri_base.specs.Faults.{IsOutside}
use Rattle.ri_base.specs.declared.seg_fault.SegFault.{SegFault}
use Rattle.store_ends.specs.Files.{Files, Leaves, SameWhere}
use Rattle.store_ends.proofs.Files.{Leaves-then}
use Rattle.disk_index.specs.Cache.{CacheKeeps, Cached}
use Rattle.disk_index.specs.Kept.{Kept}
use Rattle.disk_index.specs.Parts.{InMemory, IsPartIntact, OnDisk, Source}
use Rattle.disk_index.specs.Snapshots.{AreBacked, AreIntact, IsFileAmong, Marked, live}
use Rattle.merge_job.specs.Merge.{AreTaken, Merging, size_of}
use Rattle.merge_job.specs.Walk.{IsFaultAmong}
use Rattle.repository.specs.Merges.{IsMergeEnded, IsMergedTo, IsMerging, IsOpenMerging, IsTurnedOn, IsTurnedOver, ReadAlike, StaysBacked, turned, with_merge, without_dead_of}
use Rattle.repository.specs.Stands.{Collection, Stands}
use Rattle.repository.specs.Saved.{IsUnlisted}
use Rattle.repository.specs.States.{IsBacked, IsStateIntact, ReadsAs, State, listed_numbers}
use Rattle.repository.specs.Ties.{Begins, IsSourceOf, IsTied}
use Rattle.repository.specs.Writes.{IsBeside, IsEither}
use Rattle.repository.specs.declared.turned.Turned.{Turned}
use Rattle.repository.specs.declared.turned.Turned.TheVariants.{Done, Open}
use Rattle.repository.proofs.KeepLemmas.{backed-merge}

pub if-some : {A : Type 0} (o : Option A) (x : A) (P : A → Type 0) → o ≡ Some x → P x → IfSome o P
if-some o x P is p = subst (λ (y : Option _). IfSome y P) (sym is) p

-- ---- what is told of the open merge

pub some-turned : (o : Option Merging) (m : Merging) (docs : ℕ) (t : Turned) → o ≡ Some m → t ≡ turned m docs → IfSome o (λ x. t ≡ turned x docs)
some-turned o m docs t was is = if-some o m (λ (x : Merging). t ≡ turned x docs) was is

pub some-quiet : {P : Type 0} (o : Option Merging) (m : Merging) (docs : ℕ) → o ≡ Some m → P → IfSome o (λ x. length x.copied + docs < size_of x → P)
some-quiet {P} o m docs was quiet = if-some o m (λ (x : Merging). length x.copied + docs < size_of x → P) was (λ below. quiet)

pub some-not-below : (P : Type 0) (o : Option Merging) (m : Merging) (docs : ℕ) → o ≡ Some m → (length m.copied + docs < size_of m → ⊥) → IfSome o (λ x. length x.copied + docs < size_of x → P)
some-not-below P o m docs was not = if-some o m (λ (x : Merging). length x.copied + docs < size_of x → P) was (λ below. absurd (not below))

pub some-kept : (told : Option Files) (o : Option Merging) (m : Merging) (x y : Cached) → o ≡ Some m → CacheKeeps told (IsFileAmong m.snapshot) x y → IfSome o (λ k. CacheKeeps told (IsFileAmong k.snapshot) x y)
some-kept told o m x y was keeps = if-some o m (λ (k : Merging). CacheKeeps told (IsFileAmong k.snapshot) x y) was keeps

pub some-fault : (f : Files) (cached : Cached) (o : Option Merging) (m : Merging) (fault : SegFault) → o ≡ Some m → IsOutside fault ⊎ IsFaultAmong f cached m.snapshot fault
    → IfSome o (λ x. IsOutside fault ⊎ IsFaultAmong f cached x.snapshot fault)
some-fault f cached o m fault was is = if-some o m (λ (x : Merging). IsOutside fault ⊎ IsFaultAmong f cached x.snapshot fault) was is

-- ---- what is answered

pub turned-open : (m : Merging) (docs credit size : ℕ) → credit ≡ min (length m.copied + docs) (size_of m) → credit < size_of m → size ≡ size_of m → Open credit size ≡ turned m docs
turned-open m docs credit size credit_is below size_is = by (nat_lt (length m.copied + docs) (size_of m)) refl
  where
    by : (b : Bool) → nat_lt (length m.copied + docs) (size_of m) ≡ b → Open credit size ≡ cond b (Open (length m.copied + docs) (size_of m)) Done
    by true e =
        let less : length m.copied + docs < size_of m = grind (arith, nat_tests) in
        let exact : credit ≡ length m.copied + docs = omega (arith, credit_is, less) in
        ap (λ (x : ℕ). Open x size) exact ∙ ap (Open (length m.copied + docs)) size_is
    by false e =
        let most : size_of m ≤ length m.copied + docs = grind (arith, nat_tests) in
        absurd (omega (arith, credit_is, below, most))

pub turned-done : (m : Merging) (docs credit : ℕ) → credit ≡ min (length m.copied + docs) (size_of m) → (credit < size_of m → ⊥) → Done ≡ turned m docs
turned-done m docs credit credit_is all = by (nat_lt (length m.copied + docs) (size_of m)) refl
  where
    by : (b : Bool) → nat_lt (length m.copied + docs) (size_of m) ≡ b → Done ≡ cond b (Open (length m.copied + docs) (size_of m)) Done
    by true e = (let less : length m.copied + docs < size_of m = grind (arith, nat_tests) in absurd (all (omega (arith, credit_is, less))))
    by false e = refl

pub all-copied : (m n : Merging) (docs : ℕ) → length n.copied ≡ min (length m.copied + docs) (size_of m) → size_of n ≡ size_of m → (length n.copied < size_of n → ⊥) → length n.copied ≡ size_of n
all-copied m n docs copied same all = elim (at-most (length n.copied) (size_of n) (omega (arith, copied, same))) [ inl less ↦ absurd (all less) | inr is ↦ is ]
  where
    at-most : (a b : ℕ) → a ≤ b → (a < b) ⊎ (a ≡ b)
    at-most a b le = by (nat_lt a b) refl
      where
        by : (t : Bool) → nat_lt a b ≡ t → (a < b) ⊎ (a ≡ b)
        by true e = inl (grind (arith, nat_tests))
        by false e = inr (grind (arith, nat_tests))

pub false-true : {b : Bool} → b ≡ false → b ≡ true → ⊥
false-true is_false is_true = cc

-- fewer are copied than there are
pub open-below : (m n : Merging) (credit : ℕ) → credit ≡ length n.copied → size_of n ≡ size_of m → length n.copied < size_of n → credit < size_of m
open-below m n credit is same below = omega (arith, is, same, below)

pub not-below : (m n : Merging) (docs : ℕ) → length n.copied ≡ min (length m.copied + docs) (size_of m) → size_of n ≡ size_of m → (length n.copied < size_of n → ⊥) → length m.copied + docs < size_of m → ⊥
not-below m n docs copied same all below = all (omega (arith, copied, same, below))

-- ---- another merge beside the same parts

pub put-back : (s r t : State) (n : Merging) → r ≡ with_merge s None → t ≡ with_merge r (Some n) → t ≡ with_merge s (Some n)
put-back s r t n out back = back ∙ ap (λ (x : State). with_merge x (Some n)) out

pub tied-turned : (s r : State) (m n : Merging) → r ≡ with_merge s None → n.snapshot ≡ m.snapshot → n.most ≡ m.most → IsTied s.held m → IsTied r.held n
tied-turned s r m n out snapshot most tied =
    subst (λ (x : State). IsTied x.held n) (sym out)
    (record { begins = subst (λ (l : List Marked). Begins l s.held.parts.closed) (sym snapshot) tied.begins; most_is = most ∙ tied.most_is })

pub reads-merge : (told : Option Files) (s : State) (o : Option Merging) (c : Collection) → ReadsAs told s c → ReadsAs told (with_merge s o) c
reads-merge told s o c r = record { live_are = r.live_are; documents_are = r.documents_are; tokens_are = r.tokens_are; priors_are = r.priors_are }

-- the condition holds on where more was copied, and files are as they were
pub merging-on : (a b : Option Files) (s : State) (o : Option Merging) (m n : Merging) → b ≡ a → n.snapshot ≡ m.snapshot → AreTaken b n → IsMerging a s m → IsMerging b (with_merge s o) n
merging-on a b s o m n same snapshot taken merging = record {
  backed = subst (λ (f : Option Files). IsBacked f (with_merge s o)) (sym same) (backed-merge a s o merging.backed);
  snapshot = subst (λ (f : Option Files). AreBacked f n.snapshot) (sym same) (subst (AreBacked a) (sym snapshot) merging.snapshot);
  alike = subst (λ (f : Option Files). ReadAlike f n.snapshot s.held.parts.closed) (sym same) (subst (λ (l : List Marked). ReadAlike a l s.held.parts.closed) (sym snapshot) merging.alike);
  taken = taken;
}

pub open-merging : (told : Option Files) (s : State) (m : Merging) → s.merge ≡ Some m → IsOpenMerging told s → IsMerging told s m
open-merging told s m was open_now = subst (λ (o : Option Merging). IfSome o (IsMerging told s)) was open_now

-- ---- the merge goes on

pub turned-on : (docs : ℕ) (s t : State) (m n : Merging) → s.merge ≡ Some m → t ≡ with_merge s (Some n) → n.snapshot ≡ m.snapshot → n.most ≡ m.most → length n.copied ≡ length m.copied + docs → IsTurnedOn docs s t
turned-on docs s t m n was is snapshot most copied = record { before = m; was = was; now = n; is = is; snapshot = snapshot; most = most; copied = copied }

pub more-copied : (m n : Merging) (docs : ℕ) → length n.copied ≡ min (length m.copied + docs) (size_of m) → size_of n ≡ size_of m → length n.copied < size_of n → length n.copied ≡ length m.copied + docs
more-copied m n docs copied same below = omega (arith, copied, same, below)

pub open-over : (credit size : ℕ) (a b : Option Files) (s : State) (o : Option Merging) (m n : Merging) → b ≡ a → n.snapshot ≡ m.snapshot → AreTaken b n → IsMerging a s m → IsTurnedOver (Open credit size) o a b s (with_merge s (Some n))
open-over credit size a b s o m n same snapshot taken merging =
    let now = merging-on a b s (Some n) m n same snapshot taken merging in
    record {
      reads = λ d read. reads-merge b s (Some n) d (subst (λ (f : Option Files). ReadsAs f s d) (sym same) read);
      backed = now.backed;
      merging = now;
      intact = λ intact. subst (λ (f : Option Files). IsStateIntact f s) (sym same) intact;
      stands = λ e d read. absurd (no-end e);
    }
  where
    no-end : Open credit size ≡ Done → ⊥
    no-end e = cc

-- ---- the merge is done

pub without-dead-same : (m n : Merging) (d : Collection) → n.snapshot ≡ m.snapshot → without_dead_of (Some n) d ≡ without_dead_of (Some m) d
without-dead-same m n d same =
    ap (λ (l : List Marked). without_dead_of (Some (record { snapshot = l; most = n.most; copied = n.copied })) d) same

ended-merge : (s t : State) (o : Option Merging) (job : Merging) → IsMergeEnded job (with_merge s o) t → IsMergeEnded job s t
ended-merge s t o job e = record {
  made = e.made;
  exchange = e.exchange;
  parts = e.parts;
  closed = e.closed;
  on_disk = e.on_disk;
  none_filling = e.none_filling;
  in_turn = e.in_turn;
  stale = e.stale;
  unlisted = e.unlisted;
  listed = e.listed;
  limits = e.limits;
  generation = e.generation;
  priors = e.priors;
}

pub merged-to : (s r t : State) (m n : Merging) → r ≡ with_merge s None → s.merge ≡ Some m → n.snapshot ≡ m.snapshot → n.most ≡ m.most → IsMergeEnded n r t → IsMergedTo s t
merged-to s r t m n is was snapshot most ended = record {
  before = m;
  was = was;
  job = n;
  snapshot = snapshot;
  most = most;
  ended = ended-merge s t None n (subst (λ (x : State). IsMergeEnded n x t) is ended);
}

pub done-over : (a b c : Option Files) (s r t : State) (m n : Merging) → r ≡ with_merge s None → b ≡ a → s.merge ≡ Some m → n.snapshot ≡ m.snapshot → IsTurnedOver Done (Some n) b c r t → IsTurnedOver Done s.merge a c s t
done-over a b c s r t m n is same was snapshot over =
    let into : (d : Collection) → without_dead_of (Some n) d ≡ without_dead_of s.merge d = λ d. without-dead-same m n d snapshot ∙ ap (λ (o : Option Merging). without_dead_of o d) (sym was) in
    let here : (d : Collection) → ReadsAs a s d → ReadsAs b r d =
    λ d read. subst (λ (x : State). ReadsAs b x d) (sym is) (reads-merge b s None d (subst (λ (f : Option Files). ReadsAs f s d) (sym same) read)) in
    record {
      reads = λ d read. subst (ReadsAs c t) (into d) (over.reads d (here d read));
      backed = over.backed;
      merging = over.merging;
      intact = λ intact. over.intact (subst (λ (x : State). IsStateIntact b x) (sym is) (subst (λ (f : Option Files). IsStateIntact f s) (sym same) intact));
      stands = λ e d read.
          subst (Stands s.held.limits c) (into d) (subst (λ (x : State). Stands x.held.limits c (without_dead_of (Some n) d)) is (over.stands e d (here d read)));
    }

-- ---- no file of the snapshot is damaged

-- a file of the snapshot is that of a part that goes on
source-intact : (told : Option Files) (m p : Source) → IsSourceOf m p → IsPartIntact told p → IsPartIntact told m
source-intact told (InMemory docs) p goes intact = tt
source-intact told (OnDisk j) (InMemory docs) goes intact = absurd goes
source-intact told (OnDisk j) (OnDisk k) goes intact = subst (λ (x : Kept). IsPartIntact told (OnDisk x)) goes intact

begins-intact : (told : Option Files) (ms ps : List Marked) → Begins ms ps → All (λ (m : Marked). IsPartIntact told m.source) ps → AreIntact told ms
begins-intact told [] ps begins intact = All-nil _
begins-intact told (m ∷ ms) [] begins intact = absurd begins
begins-intact told (m ∷ ms) (p ∷ ps) begins intact =
    All-cons (λ (x : Marked). IsPartIntact told x.source) m ms (source-intact told m.source p.source begins.0.0 (All-head (λ (x : Marked). IsPartIntact told x.source) p ps intact))
    (begins-intact told ms ps begins.1 (All-tail (λ (x : Marked). IsPartIntact told x.source) p ps intact))

pub tied-intact : (told : Option Files) (s : State) (m : Merging) → IsTied s.held m → IsStateIntact told s → AreIntact told m.snapshot
tied-intact told s m tied intact = begins-intact told m.snapshot s.held.parts.closed tied.begins intact

pub some-intact : (told : Option Files) (o : Option Merging) (m : Merging) → o ≡ Some m → IfSome o (λ x. AreIntact told x.snapshot) → AreIntact told m.snapshot
some-intact told o m was intact = subst (λ (x : Option Merging). IfSome x (λ y. AreIntact told y.snapshot)) was intact

-- a snapshot over files that are as they were
pub stays-same : (a c : Option Files) (ms : List Marked) → c ≡ a → AreBacked a ms → StaysBacked a c ms
stays-same a c ms same backed = record {
  backed = subst (λ (f : Option Files). AreBacked f ms) (sym same) backed;
  reads = ap (λ (f : Option Files). live f ms) same;
  intact = λ intact. subst (λ (f : Option Files). AreIntact f ms) (sym same) intact;
}

-- ---- what a stop leaves

pub quiet-same : (a b : Option Files) (P : List ℕ → Type 0) → b ≡ a → SameWhere P a b
quiet-same a b P same = subst (SameWhere P a) (sym same) (here a)
  where
    here : (a : Option Files) → SameWhere P a a
    here None = tt
    here (Some f) = λ name p. refl

pub quiet-leaves : (past since : ℕ → Files → Type 0) (P : Option Files → Type 0) → ((t : ℕ) (f : Files) → since t f → past t f) → Leaves past since P
quiet-leaves past since P more = record { each = λ t f s. inl (more t f s) }

-- behind a reading call
pub leaves-behind : (past mid since : ℕ → Files → Type 0) (P : Option Files → Type 0) → ((t : ℕ) (f : Files) → mid t f → past t f) → Leaves mid since P → Leaves past since P
leaves-behind past mid since P more leaves = Leaves-then past mid since P P (quiet-leaves past mid P more) leaves (λ f p. p)

-- behind a reading call that left the files as they were, and another that wrote
pub stays-behind : (a b c : Option Files) (s r : State) → r ≡ with_merge s None → b ≡ a → SameWhere (IsBeside (IsUnlisted (listed_numbers r))) b c → SameWhere (IsBeside (IsUnlisted (listed_numbers s))) a c
stays-behind a b c s r is same stay =
    subst (λ (f : Option Files). SameWhere (IsBeside (IsUnlisted (listed_numbers s))) f c) same (subst (λ (x : State). SameWhere (IsBeside (IsUnlisted (listed_numbers x))) b c) is stay)

pub stays-on-behind : (past mid since : ℕ → Files → Type 0) (a b : Option Files) (s r : State) → r ≡ with_merge s None → b ≡ a → ((t : ℕ) (f : Files) → mid t f → past t f) → Leaves mid since (SameWhere (IsBeside (IsUnlisted (listed_numbers r))) b)
    → Leaves past since (SameWhere (IsBeside (IsUnlisted (listed_numbers s))) a)
stays-on-behind past mid since a b s r is same more leaves =
    leaves-behind past mid since (SameWhere (IsBeside (IsUnlisted (listed_numbers s))) a) more
    (subst (λ (f : Option Files). Leaves mid since (SameWhere (IsBeside (IsUnlisted (listed_numbers s))) f)) same
    (subst (λ (x : State). Leaves mid since (SameWhere (IsBeside (IsUnlisted (listed_numbers x))) b)) is leaves))

-- the condition, once a merge was taken out and more was copied
pub merging-turned : (a b : Option Files) (s r : State) (m n : Merging) → r ≡ with_merge s None → b ≡ a → n.snapshot ≡ m.snapshot → AreTaken b n → IsMerging a s m → IsMerging b r n
merging-turned a b s r m n is same snapshot taken merging = subst (λ (x : State). IsMerging b x n) (sym is) (merging-on a b s None m n same snapshot taken merging)

pub stops-behind : (past mid since : ℕ → Files → Type 0) (a b : Option Files) (s r : State) (m n : Merging) (k d : Collection) → r ≡ with_merge s None → b ≡ a → s.merge ≡ Some m → n.snapshot ≡ m.snapshot
    → ((t : ℕ) (f : Files) → mid t f → past t f) → (Stands r.held.limits b k → ReadsAs b r d → Leaves mid since (IsEither r.held.limits k (without_dead_of (Some n) d))) → Stands s.held.limits a k → ReadsAs a s d
    → Leaves past since (IsEither s.held.limits k (without_dead_of s.merge d))
stops-behind past mid since a b s r m n k d is same was snapshot more stops stands read =
    let into : without_dead_of (Some n) d ≡ without_dead_of s.merge d = without-dead-same m n d snapshot ∙ ap (λ (o : Option Merging). without_dead_of o d) (sym was) in
    let stood : Stands r.held.limits b k = subst (λ (x : State). Stands x.held.limits b k) (sym is) (subst (λ (f : Option Files). Stands s.held.limits f k) (sym same) stands) in
    let reads : ReadsAs b r d = subst (λ (x : State). ReadsAs b x d) (sym is) (reads-merge b s None d (subst (λ (f : Option Files). ReadsAs f s d) (sym same) read)) in
    let left = stops stood reads in
    leaves-behind past mid since (IsEither s.held.limits k (without_dead_of s.merge d)) more
    (subst (λ (e : Collection). Leaves mid since (IsEither s.held.limits k e)) into
    (subst (λ (x : State). Leaves mid since (IsEither x.held.limits k (without_dead_of (Some n) d))) is left))
