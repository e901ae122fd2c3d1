-- The files of priors where one of them is set.
use Rattle.std.proofs.Common.{◌≡◌, ◌≤◌, ◌<◌, ◌^◌, inl, inr, ℕ, cond, Bool, true, false, List, [], ◌∷◌, Option, Some, refl, sym, ap, subst, ◌∙◌, arith}
use Rattle.std.specs.List.{AllZip}
use Rattle.std.specs.Option.{option_map}
use Rattle.std.proofs.lemmas.Bool.{cases_eq}
use Rattle.store_ends.specs.Files.{AnyState, Files, Leaves, SameWhere, whole, with_file}
use Rattle.store_ends.proofs.Files.{SameWhere-any, SameWhere-same, with_file-same}
use Rattle.manifest.specs.Entries.{with_numbers}
use Rattle.manifest.specs.Listing.{AreNumbered, IsListing, listing}
use Rattle.manifest.specs.PriorFits.{IsPrior}
use Rattle.manifest.specs.Priors.{PriorTable, prior_text}
use Rattle.manifest.specs.Spelling.{manifest_text}
use Rattle.manifest.specs.declared.manifest.PriorEntry.{PriorEntry}
use Rattle.disk_index.specs.Snapshots.{Marked}
use Rattle.holdings.specs.Contents.{Contents}
use Rattle.merge_job.specs.Merge.{Merging}
use Rattle.repository.specs.Entries.{entries_for}
use Rattle.repository.specs.Names.{prior_name}
use Rattle.repository.specs.Numbers.{IsNewNumber, Taken, greatest, is_among, next_after}
use Rattle.repository.specs.Priors.{is_same, number_named, prior_set, with_entry, with_rows}
use Rattle.repository.specs.Saved.{IsUnlisted}
use Rattle.repository.specs.Stale.{with_old}
use Rattle.repository.specs.Stands.{IsPriorListed, Prior}
use Rattle.repository.specs.States.{State, listed_numbers}
use Rattle.repository.specs.Writes.{IsOther}
use Rattle.repository.proofs.NumberLemmas.{among-listed, below-next, none-of, numbered-higher, taken-are}
use Rattle.repository.proofs.SaveLemmas.{leaves-among, same-among}

-- a name that is that of no own number isn't that of an own one
pub not-other : (own : ℕ → Type 0) (n : ℕ) (name : List ℕ) → n < 2 ^ 64 → own n → name ≡ prior_name n → IsOther own name → ⊥
not-other own n name fits o is other = (other n fits o).1 is

-- whatever becomes of the file of an own number, the others stay
pub others-stay : (own : ℕ → Type 0) (name : List ℕ) (a b : Option Files) → (IsOther own name → ⊥) → AnyState name a b → SameWhere (IsOther own) a b
others-stay own name a b owned any = SameWhere-any (IsOther own) name a a b owned (SameWhere-same (IsOther own) a) any

pub leaves-others : (own : ℕ → Type 0) (name : List ℕ) (past since : ℕ → Files → Type 0) (a : Option Files) → (IsOther own name → ⊥) → Leaves past since (AnyState name a) → Leaves past since (SameWhere (IsOther own) a)
leaves-others own name past since a owned leaves = record { each = λ t f h. elim (leaves.each t f h) [ inl old ↦ inl old | inr any ↦ inr (others-stay own name a (Some f) owned any) ] }

-- ---- the priors afterwards

module _ (f : Files) (b : Option Files) (n : ℕ) (t : PriorTable) (is : b ≡ Some f) (file : f (prior_name n) ≡ whole (Some (prior_text t))) (form : IsPrior t) where
  fresh : (name other : List ℕ) → other ≡ name → IsPriorListed b (record { name = name; number = n }) (record { name = other; table = t })
  fresh name other same = record { files = f; is_told = is; name = same; file = file; form = form }

  pub priors-set : (es : List PriorEntry) (ps : List Prior) (name : List ℕ) → AllZip (IsPriorListed b) es ps → AllZip (IsPriorListed b) (with_entry es name n) (with_rows ps name t)
  priors-set [] [] name all = (fresh name name refl, tt)
  priors-set [] (p ∷ ps) name all = absurd all
  priors-set (e ∷ es) [] name all = absurd all
  priors-set (e ∷ es) (p ∷ ps) name all =
      subst (λ (q : List ℕ). AllZip (IsPriorListed b) (cond (is_same name e.name) (record { name = e.name; number = n } ∷ es) (e ∷ with_entry es name n)) (cond (is_same name q) (record { name = p.name; table = t } ∷ ps) (p ∷ with_rows ps name t)))
      (sym all.0.name) (by (is_same name e.name) (priors-set es ps name all.1))
    where
      by : (y : Bool) → AllZip (IsPriorListed b) (with_entry es name n) (with_rows ps name t) → AllZip (IsPriorListed b) (cond y (record { name = e.name; number = n } ∷ es) (e ∷ with_entry es name n)) (cond y (record { name = p.name; table = t } ∷ ps) (p ∷ with_rows ps name t))
      by true rest = (fresh e.name p.name all.0.name, all.1)
      by false rest = (all.0, rest)

-- the new file has its rows
pub file-put : (f : Files) (a b : Option Files) (n : ℕ) (t : PriorTable) → a ≡ Some f → b ≡ option_map (with_file (prior_name n) (Some (prior_text t))) a
    → (g : Files) × (b ≡ Some g) × (g (prior_name n) ≡ whole (Some (prior_text t)))
file-put f a b n t is put =
    (with_file (prior_name n) (Some (prior_text t)) f, put ∙ ap (option_map (with_file (prior_name n) (Some (prior_text t)))) is, with_file-same (prior_name n) (Some (prior_text t)) f)

-- ---- the number of its file

pub new-free : (next n : ℕ) (ns : List ℕ) → AreNumbered next ns → next ≤ greatest → IsNewNumber next (with_numbers [] ns) n → is_among n ns ≡ false
new-free next n ns numbered most new = elim (cases_eq next greatest) [
  | inl last ↦ sym (among-listed ns n) ∙ (new.at_end last).free
  | inr before ↦ (let turn = new.in_turn (omega (arith, most, before)) in in-turn turn (is_among n ns) refl)
]
  where
    in-turn : n ≡ next → (b : Bool) → is_among n ns ≡ b → b ≡ false
    in-turn turn true e = (let below = below-next next ns numbered n e in absurd (omega (arith, turn, below)))
    in-turn turn false e = refl

pub new-numbered : (next later n : ℕ) (ns : List ℕ) → AreNumbered next ns → next ≤ greatest → next ≤ later → IsNewNumber next (with_numbers [] ns) n → 1 ≤ n → n < later → AreNumbered later (n ∷ ns)
new-numbered next later n ns numbered most rises new some below = (some, (below, (none-of n ns (new-free next n ns numbered most new), numbered-higher next later ns rises numbered)))

pub after-fits : (next : ℕ) → next_after next < 2 ^ 64
after-fits next = omega arith

pub after-rises : (next : ℕ) → next ≤ greatest → next ≤ next_after next
after-rises next most = omega (arith, most)

-- ---- the numbers that are taken

-- they are those of the files of a repository
pub record Takes (s : State) (k : Taken) : Type 0 where
  pub next : k.next ≡ s.next
  pub numbers : k.numbers ≡ with_numbers [] (listed_numbers s)

pub new-number : (s : State) (k : Taken) (n : ℕ) → Takes s k → IsNewNumber k.next k.numbers n → IsNewNumber s.next (with_numbers [] (listed_numbers s)) n
new-number s k n takes new = subst (λ (m : ℕ). IsNewNumber m (with_numbers [] (listed_numbers s)) n) takes.next (subst (λ (ns : List ℕ). IsNewNumber k.next ns n) takes.numbers new)

among-taken : (s : State) (k : Taken) → Takes s k → (n : ℕ) → is_among n k.numbers ≡ is_among n (listed_numbers s)
among-taken s k takes n = taken-are k.numbers (listed_numbers s) (listed_numbers s) takes.numbers refl n

pub same-listed : (s : State) (k : Taken) (a b : Option Files) → Takes s k → SameWhere (IsOther (IsUnlisted k.numbers)) a b → SameWhere (IsOther (IsUnlisted (listed_numbers s))) a b
same-listed s k a b takes same = same-among k.numbers (listed_numbers s) a b (among-taken s k takes) same

pub leaves-listed : (s : State) (k : Taken) (past since : ℕ → Files → Type 0) (a : Option Files) → Takes s k → Leaves past since (SameWhere (IsOther (IsUnlisted k.numbers)) a) → Leaves past since (SameWhere (IsOther (IsUnlisted (listed_numbers s))) a)
leaves-listed s k past since a takes leaves = leaves-among past since k.numbers (listed_numbers s) a (among-taken s k takes) leaves

-- ---- what is listed then

-- what is listed of it once the prior is set makes a manifest
abbrev pub IsSetListed : State → List ℕ → ℕ → Type 0
IsSetListed s name n = IsListing (prior_set s name n).next (entries_for s.held.parts.closed) (prior_set s name n).stale (prior_set s name n).priors

-- these are the lists of a repository in which the prior is set
pub record IsSetAs (s : State) (name : List ℕ) (n next : ℕ) (parts : List Marked) (stale : List ℕ) (priors : List PriorEntry) : Type 0 where
  pub next_is : next ≡ next_after s.next
  pub parts_are : parts ≡ s.held.parts.closed
  pub stale_are : stale ≡ with_old s.stale (number_named s.priors name)
  pub priors_are : priors ≡ with_entry s.priors name n

abbrev pub state : Option Merging → Contents → ℕ → List ℕ → List PriorEntry → State
state merge h k ns ps = record { held = h; next = k; stale = ns; priors = ps; merge = merge; usable = true }

module _ (s : State) (name : List ℕ) (n next : ℕ) (parts : List Marked) (stale : List ℕ) (priors : List PriorEntry) (is : IsSetAs s name n next parts stale priors) where
  -- and so are others that equal them
  pub handed-is : {ms : List Marked} {st : List ℕ} {ps : List PriorEntry} → ms ≡ parts → st ≡ stale → ps ≡ priors → IsSetAs s name n next ms st ps
  handed-is same_parts same_stale same_priors = record { next_is = is.next_is; parts_are = same_parts ∙ is.parts_are; stale_are = same_stale ∙ is.stale_are; priors_are = same_priors ∙ is.priors_are }

  pub listing-is : IsSetListed s name n → IsListing next (entries_for parts) stale priors
  listing-is form =
      subst (λ (k : ℕ). IsListing k (entries_for parts) stale priors) (sym is.next_is)
      (subst (λ (ms : List Marked). IsListing (next_after s.next) (entries_for ms) stale priors) (sym is.parts_are)
      (subst (λ (ns : List ℕ). IsListing (next_after s.next) (entries_for s.held.parts.closed) ns priors) (sym is.stale_are)
      (subst (λ (ps : List PriorEntry). IsListing (next_after s.next) (entries_for s.held.parts.closed) (with_old s.stale (number_named s.priors name)) ps) (sym is.priors_are) form)))

  pub text-is : manifest_text (listing next (entries_for parts) stale priors) ≡ manifest_text (listing (prior_set s name n).next (entries_for s.held.parts.closed) (prior_set s name n).stale (prior_set s name n).priors)
  text-is =
      ap (λ (k : ℕ). manifest_text (listing k (entries_for parts) stale priors)) is.next_is
      ∙ ap (λ (ms : List Marked). manifest_text (listing (next_after s.next) (entries_for ms) stale priors)) is.parts_are
      ∙ ap (λ (ns : List ℕ). manifest_text (listing (next_after s.next) (entries_for s.held.parts.closed) ns priors)) is.stale_are
      ∙ ap (λ (ps : List PriorEntry). manifest_text (listing (next_after s.next) (entries_for s.held.parts.closed) (with_old s.stale (number_named s.priors name)) ps)) is.priors_are

  pub state-is : (held : Contents) (merge : Option Merging) → held ≡ s.held → merge ≡ s.merge → state merge held next stale priors ≡ prior_set s name n
  state-is held merge same open_now =
      ap (λ (h : Contents). state merge h next stale priors) same ∙ ap (λ (k : ℕ). state merge s.held k stale priors) is.next_is
      ∙ ap (λ (ns : List ℕ). state merge s.held (next_after s.next) ns priors) is.stale_are
      ∙ ap (λ (ps : List PriorEntry). state merge s.held (next_after s.next) (with_old s.stale (number_named s.priors name)) ps) is.priors_are
      ∙ ap (λ (m : Option Merging). state m s.held (next_after s.next) (with_old s.stale (number_named s.priors name)) (with_entry s.priors name n)) open_now
