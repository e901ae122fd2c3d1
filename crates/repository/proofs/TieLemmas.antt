-- An open merge stays tied to the parts that are held.
use Rattle.std.proofs.Common.{◌≡◌, ◌≤◌, ◌⊎◌, inl, inr, ℕ, Bool, true, false, List, [], ◌∷◌, ◌++◌, length, map, Option, None, Some, IfSome, Result, refl, ap, sym, subst, ◌∙◌, arith}
use Rattle.std.specs.List.{AllZip}
use Rattle.std.specs.Prelude.{OnErr, OnOk}
use Rattle.ri_base.specs.Documents.{Document}
use Rattle.seg_codec.specs.Segment.{entry_of}
use Rattle.store_ends.specs.Files.{Files}
use Rattle.disk_index.specs.Kept.{Kept}
use Rattle.disk_index.specs.Parts.{InMemory, OnDisk, Source, outlines_of}
use Rattle.disk_index.specs.Snapshots.{Marked}
use Rattle.holdings.specs.Contents.{Contents, added, all_closed, deleted}
use Rattle.holdings.specs.MarkedParts.{docnos_in, filled, marked_with}
use Rattle.holdings.specs.Marks.{marks_with}
use Rattle.holdings.specs.Parts.{Parts, sealed}
use Rattle.merge_job.specs.Marks.{HasGrown}
use Rattle.merge_job.specs.Merge.{Merging}
use Rattle.repository.specs.Saved.{AllSaved, IsSaved, SavedSource}
use Rattle.repository.specs.States.{IsNumbered, State}
use Rattle.repository.specs.Steps.{with_held}
use Rattle.repository.specs.Ties.{Begins, IsSourceOf, IsTied}
use Rattle.repository.proofs.SaveLemmas.{source-outlines}
use Rattle.repository.proofs.StepLemmas.{Closes, closed-call, closes-by, closes-with, numbered-closed}

pub IfSome-map : {A : Type 0} (o : Option A) (P Q : A → Type 0) → ((x : A) → P x → Q x) → IfSome o P → IfSome o Q
IfSome-map None P Q into some = some
IfSome-map (Some x) P Q into some = into x some

-- ---- marks

pub grown-same : (ms : List Bool) → HasGrown ms ms
grown-same [] = tt
grown-same (m ∷ ms) = ((λ e. e), grown-same ms)

pub no-mark : {P : Type 0} → false ≡ true → P
no-mark e = cc

pub grown-with : (k : List ℕ) (ds : List (List ℕ)) (ms : List Bool) → HasGrown ms (marks_with k ds ms)
grown-with k [] ms = grown-same ms
grown-with k (d ∷ ds) [] = tt
grown-with k (d ∷ ds) (true ∷ ms) = ((λ e. refl), grown-with k ds ms)
grown-with k (d ∷ ds) (false ∷ ms) = ((λ e. no-mark e), grown-with k ds ms)

pub grown-then : (ms ns os : List Bool) → HasGrown ms ns → HasGrown ns os → HasGrown ms os
grown-then [] [] [] a b = tt
grown-then [] [] (o ∷ os) a b = absurd b
grown-then [] (n ∷ ns) os a b = absurd a
grown-then (m ∷ ms) [] os a b = absurd a
grown-then (m ∷ ms) (n ∷ ns) [] a b = absurd b
grown-then (m ∷ ms) (n ∷ ns) (o ∷ os) a b = ((λ e. b.0 (a.0 e)), grown-then ms ns os a.1 b.1)

-- ---- parts

source-same : (s : Source) → IsSourceOf s s
source-same (InMemory docs) = refl
source-same (OnDisk kept) = refl

source-then : (told : Option Files) (taken : List ℕ) (m p q : Source) → IsSourceOf m p → SavedSource told taken p q → IsSourceOf m q
source-then told taken (InMemory docs) (InMemory d) (InMemory e) goes saved = saved ∙ goes
source-then told taken (InMemory docs) (InMemory d) (OnDisk k) goes saved = source-outlines told taken (InMemory d) (OnDisk k) saved ∙ ap (λ (ds : List Document). map entry_of ds) goes
source-then told taken (InMemory docs) (OnDisk j) (InMemory e) goes saved = absurd saved
source-then told taken (InMemory docs) (OnDisk j) (OnDisk k) goes saved = ap (λ (x : Kept). x.outlines) saved ∙ goes
source-then told taken (OnDisk i) (InMemory d) q goes saved = absurd goes
source-then told taken (OnDisk i) (OnDisk j) (InMemory e) goes saved = absurd saved
source-then told taken (OnDisk i) (OnDisk j) (OnDisk k) goes saved = saved ∙ goes

pub source-alike : (m p : Source) → IsSourceOf m p → outlines_of p ≡ outlines_of m
source-alike (InMemory docs) (InMemory d) goes = ap (λ (ds : List Document). map entry_of ds) goes
source-alike (InMemory docs) (OnDisk k) goes = goes
source-alike (OnDisk j) (InMemory d) goes = absurd goes
source-alike (OnDisk j) (OnDisk k) goes = ap (λ (x : Kept). x.outlines) goes

pub begins-same : (ps : List Marked) → Begins ps ps
begins-same [] = tt
begins-same (p ∷ ps) = ((source-same p.source, grown-same p.marks), begins-same ps)

begins-append : (ms ps qs : List Marked) → Begins ms ps → Begins ms (ps ++ qs)
begins-append [] ps qs begins = tt
begins-append (m ∷ ms) [] qs begins = absurd begins
begins-append (m ∷ ms) (p ∷ ps) qs begins = (begins.0, begins-append ms ps qs begins.1)

begins-closes : (ms : List Marked) (p : Parts) (closed : List Marked) → Closes p closed → Begins ms p.closed → Begins ms closed
begins-closes ms p closed closes begins = elim closes [
  | inl same ↦ subst (Begins ms) (sym same) begins
  | inr more ↦ subst (Begins ms) (sym more) (begins-append ms p.closed (filled p.filling p.marks ∷ []) begins)
]

begins-marked : (k : List ℕ) (ms ps : List Marked) → Begins ms ps → Begins ms (map (marked_with k) ps)
begins-marked k [] ps begins = tt
begins-marked k (m ∷ ms) [] begins = absurd begins
begins-marked k (m ∷ ms) (p ∷ ps) begins =
    ((begins.0.0, grown-then m.marks p.marks (marks_with k (docnos_in p.source) p.marks) begins.0.1 (grown-with k (docnos_in p.source) p.marks)), begins-marked k ms ps begins.1)

begins-saved : (told : Option Files) (taken : List ℕ) (ms ps qs : List Marked) → AllZip (IsSaved told taken) ps qs → Begins ms ps → Begins ms qs
begins-saved told taken [] ps qs saved begins = tt
begins-saved told taken (m ∷ ms) [] qs saved begins = absurd begins
begins-saved told taken (m ∷ ms) (p ∷ ps) [] saved begins = absurd saved
begins-saved told taken (m ∷ ms) (p ∷ ps) (q ∷ qs) saved begins = (
  (source-then told taken m.source p.source q.source begins.0.0 saved.0.1, subst (HasGrown m.marks) (sym saved.0.0) begins.0.1),
  begins-saved told taken ms ps qs saved.1 begins.1,
)

pub begins-length : (ms ps : List Marked) → Begins ms ps → length ms ≤ length ps
begins-length [] ps begins = omega arith
begins-length (m ∷ ms) [] begins = absurd begins
begins-length (m ∷ ms) (p ∷ ps) begins = (let rest = begins-length ms ps begins.1 in omega (arith, rest))

-- ---- over each call

pub tied-added : (h : Contents) (d : Document) (m : Merging) → IsTied h m → IsTied (added h d) m
tied-added h d m tied = record { begins = begins-closes m.snapshot h.parts (added h d).parts.closed (closes-with h.parts d) tied.begins; most_is = tied.most_is }

pub tied-deleted : (h : Contents) (k : List ℕ) (m : Merging) → IsTied h m → IsTied (deleted h k) m
tied-deleted h k m tied = record { begins = begins-marked k m.snapshot h.parts.closed tied.begins; most_is = tied.most_is }

pub tied-closed : (h : Contents) (m : Merging) → IsTied h m → IsTied (all_closed h) m
tied-closed h m tied = record { begins = begins-closes m.snapshot h.parts (sealed h.parts).closed (closes-by h.parts h.parts.filling) tied.begins; most_is = tied.most_is }

pub tied-saved : (b : Option Files) (others : List ℕ) (next after : ℕ) (h k : Contents) (m : Merging) → AllSaved b others next after h k → IsTied h m → IsTied k m
tied-saved b others next after h k m saved tied =
    let closed = tied-closed h m tied in
    record {
      begins = begins-saved b saved.taken m.snapshot (all_closed h).parts.closed k.parts.closed saved.parts closed.begins;
      most_is = tied.most_is ∙ sym (ap (λ (x : Contents). x.limits.part_docs) saved.rest);
    }

pub tied-all_closed : (h : Contents) (o : Option Merging) → IfSome o (IsTied h) → IfSome o (IsTied (all_closed h))
tied-all_closed h o tied = IfSome-map o (IsTied h) (IsTied (all_closed h)) (λ m t. tied-closed h m t) tied

-- what a usable repository keeps, over a call that closes the part that is being filled or leaves all as it was
pub kept-closed : {A E : Type 0} (s : State) (r : Result A E) (h : Contents) → OnOk r (h ≡ all_closed s.held) → OnErr r ((h ≡ s.held) ⊎ (h ≡ all_closed s.held)) → (s.usable ≡ true → IsNumbered s) × (s.usable ≡ true → IfSome s.merge (IsTied s.held))
    → (s.usable ≡ true → IsNumbered (with_held s h)) × (s.usable ≡ true → IfSome s.merge (IsTied h))
kept-closed s r h done left kept = (
  λ usable. (let numbered = kept.0 usable in closed-call IsNumbered s r h done left numbered (numbered-closed s numbered)),
  λ usable. (let tied = kept.1 usable in closed-call (λ (x : State). IfSome x.merge (IsTied x.held)) s r h done left tied (tied-all_closed s.held s.merge tied)),
)

pub tied-all_saved : (b : Option Files) (others : List ℕ) (next after : ℕ) (h k : Contents) (o : Option Merging) → AllSaved b others next after h k → IfSome o (IsTied h) → IfSome o (IsTied k)
tied-all_saved b others next after h k o saved tied = IfSome-map o (IsTied h) (IsTied k) (λ m t. tied-saved b others next after h k m saved t) tied
