-- What a desk keeps of its open queries and sums, call by call.
use Rattle.std.proofs.Common.{◌≡◌, ◌⊎◌, inl, inr, ◌<◌, ◌≤◌, ◌-◌, ◌^◌, ℕ, true, false, List, [], ◌∷◌, ◌++◌, Contains, length, set, sym, ap, subst, ◌∙◌, arith, true≢false}
use Rattle.std.specs.Prelude.{IfOk, OnErr, OnOk, Result, Ok, Err}
use Rattle.std.specs.List.{All, IsDistinct, remove}
use Rattle.std.specs.Str.{bytes_eq}
use Rattle.std.proofs.lemmas.List.{length-set, length_push}
use Rattle.std.proofs.lemmas.List.Edits.{length-remove}
use Rattle.std.proofs.lemmas.List.Elements.{All-nil, All-push, All-set, All-weaker}
use Rattle.ri_base.specs.declared.seg_fault.SegFault.{SegFault}
use Rattle.query_check.specs.Leaves as leaves
use Rattle.query_check.specs.Leaves.{LeafTree}
use Rattle.belief_nodes.specs.Leaves.{HasPrior}
use Rattle.belief_nodes.specs.Network.{NetworkTree}
use Rattle.disk_index.specs.Snapshots.{Marked}
use Rattle.holdings.specs.Contents.{all_closed}
use Rattle.holdings.specs.MarkedParts.{docnos_of}
use Rattle.counts.specs.Kept.{Kept}
use Rattle.ranker.specs.Searches.{IsSameSearch}
use Rattle.repository.specs.Merges.{IsTurnedTo, merge_begun}
use Rattle.repository.specs.States.{State}
use Rattle.repository.specs.Steps.{with_held}
use Rattle.repository.specs.Writes.{IsSavedAs}
use Rattle.repository.specs.declared.turned.Turned.{Turned}
use Rattle.repository.specs.declared.turned.Turned.TheVariants as turn
use Rattle.session_events.specs.declared.event.TheConstants.{MAX_RESULTS}
use Rattle.desk.specs.Keeping.{AreKept, AsksFor, IsOpen}
use Rattle.desk.specs.declared.query.OpenQuery.{OpenQuery}
use Rattle.desk.specs.declared.query.TheConstants.{MAX_QUERIES}
use Rattle.desk.proofs.Naming.{All-remove}

-- a repository with as many priors
pub kept-repository : (s t : State) (qs : List OpenQuery) (cs : List Kept) → t.priors ≡ s.priors → AreKept s qs cs → AreKept t qs cs
kept-repository s t qs cs same kept = record { few = kept.few; each = subst (λ n. All (IsOpen n) qs) (sym (ap length same)) kept.each; early = kept.early }

-- over a call that leaves the priors, whatever it answers
pub priors-call : {A E : Type 0} (r : Result A E) (s t made : State) → OnOk r (t ≡ made) → OnErr r (t ≡ s) → made.priors ≡ s.priors → t.priors ≡ s.priors
priors-call (Ok a) s t made done kept same = ap (λ (x : State). x.priors) done ∙ same
priors-call (Err e) s t made done kept same = ap (λ (x : State). x.priors) kept

-- one query fewer
pub kept-removed : (s : State) (qs : List OpenQuery) (cs : List Kept) (i : ℕ) → i < length qs → AreKept s qs cs → AreKept s (remove qs i) cs
kept-removed s qs cs i within kept = record {
  few = let fewer = length-remove qs i within in let few = kept.few in omega (arith, fewer, few);
  each = All-remove (IsOpen (length s.priors)) qs i kept.each;
  early = kept.early;
}

-- none
pub kept-cleared : (s t : State) (qs : List OpenQuery) (cs : List Kept) → AreKept s qs cs → AreKept t [] cs
kept-cleared s t qs cs kept = record { few = omega arith; each = All-nil (IsOpen (length t.priors)); early = kept.early }

-- whatever the repository is then
pub kept-closed : (s t : State) (qs rs : List OpenQuery) (cs : List Kept) → rs ≡ [] → AreKept s qs cs → AreKept t rs cs
kept-closed s t qs rs cs none kept = subst (λ (x : List OpenQuery). AreKept t x cs) (sym none) (kept-cleared s t qs cs kept)

-- over a call that writes: where the repository may be used on, its priors are those of before

pub priors-saved : {A E : Type 0} (r : Result A E) (s t : State) (left : List ℕ) → OnOk r (IsSavedAs s t left) → OnErr r (t.usable ≡ false) → t.usable ≡ true → t.priors ≡ s.priors
priors-saved (Ok a) s t left saved broken usable = saved.priors
priors-saved (Err e) s t left saved broken usable = absurd (true≢false (sym usable ∙ broken))

pub priors-turned : (r : Result Turned SegFault) (docs : ℕ) (s t : State) → IfOk r (λ x. IsTurnedTo x docs s t) → OnErr r (t.usable ≡ false) → t.usable ≡ true → t.priors ≡ s.priors
priors-turned (Ok (turn.Open credit size)) docs s t to broken usable = ap (λ (x : State). x.priors) to.is
priors-turned (Ok turn.Done) docs s t to broken usable = to.ended.priors
priors-turned (Err e) docs s t to broken usable = absurd (true≢false (sym usable ∙ broken))

pub priors-begun : {A E : Type 0} (r : Result A E) (s t : State) → OnOk r (t ≡ merge_begun s) → OnErr r ((t ≡ s) ⊎ (t ≡ with_held s (all_closed s.held))) → t.priors ≡ s.priors
priors-begun (Ok a) s t begun left = ap (λ (x : State). x.priors) begun
priors-begun (Err e) s t begun left = elim left [
  | inl same ↦ ap (λ (x : State). x.priors) same
  | inr now ↦ ap (λ (x : State). x.priors) now
]

-- one query got more credit
pub open-on : (count : ℕ) (q r : OpenQuery) → IsSameSearch q.search r.search → r.search.usable ≡ true → IsOpen count q → IsOpen count r
open-on count q r same usable was = record {
  usable = usable;
  network = same.network ∙ was.network ∙ (λ i. record { leaves = (sym same.checked i).leaves; range = (sym same.checked i).range; stats = (sym same.network i).stats; tree = (sym same.checked i).tree });
  distinct = subst (λ (ms : List Marked). IsDistinct bytes_eq (docnos_of ms)) (sym same.snapshot) was.distinct;
  few = subst (λ n. n ≤ MAX_RESULTS) (sym same.most) was.few;
  priors = subst (λ (n : NetworkTree). All (AsksFor count) n.leaves) (sym same.network) was.priors;
}

pub kept-set : (s : State) (qs : List OpenQuery) (cs : List Kept) (i : ℕ) (r : OpenQuery) → IsOpen (length s.priors) r → AreKept s qs cs → AreKept s (set qs i r) cs
kept-set s qs cs i r was kept = record {
  few = let long = length-set qs i r in let few = kept.few in omega (arith, long, few);
  each = All-set (IsOpen (length s.priors)) qs i r was kept.each;
  early = kept.early;
}

-- one query more
pub kept-pushed : (s : State) (qs : List OpenQuery) (cs : List Kept) (q : OpenQuery) → length qs < MAX_QUERIES → IsOpen (length s.priors) q → AreKept s qs cs → AreKept s (qs ++ q ∷ []) cs
kept-pushed s qs cs q room new kept = record {
  few = let long = length_push qs q in omega (arith, long, room);
  each = All-push (IsOpen (length s.priors)) qs q kept.each new;
  early = kept.early;
}

-- other sums are kept
pub kept-counts : (s : State) (qs : List OpenQuery) (cs ds : List Kept) → ((e : Kept) → Contains ds e → Contains cs e ⊎ (e.generation < 2 ^ 64 - 1)) → AreKept s qs cs → AreKept s qs ds
kept-counts s qs cs ds adds kept = record {
  few = kept.few;
  each = kept.each;
  early = λ e there. elim (adds e there) [
    | inl old ↦ kept.early e old
    | inr early ↦ early
  ];
}

-- ---- the priors that a leaf names are among nine

has-nine : (count : ℕ) → count ≤ 8 → (l : LeafTree) → AsksFor count l → HasPrior 9 l
has-nine count few (leaves.extents x context) asks = tt
has-nine count few (leaves.prior n) asks = elim asks [
  | inl lt ↦ omega (arith, lt, few)
  | inr e ↦ omega (arith, e)
]

pub asks-nine : (count many : ℕ) (ls : List LeafTree) → count ≤ 8 → many ≡ 9 → All (AsksFor count) ls → All (HasPrior many) ls
asks-nine count many ls few nine asks = All-weaker (AsksFor count) (HasPrior many) (λ l a. subst (λ n. HasPrior n l) (sym nine) (has-nine count few l a)) ls asks
