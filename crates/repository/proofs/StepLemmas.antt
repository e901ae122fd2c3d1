-- What a repository reads as where a document is added or deleted, and that it stays backed.
use Rattle.std.proofs.Common.{◌≡◌, ◌+◌, ◌⊎◌, inl, inr, ℕ, Bool, true, false, List, [], ◌∷◌, ◌++◌, length, map, Option, Result, Ok, Err, cond, refl, sym, ap, subst, ◌∙◌}
use Rattle.std.specs.List.{All}
use Rattle.std.specs.Prelude.{OnErr, OnOk}
use Rattle.std.proofs.lemmas.List.{append-nil}
use Rattle.std.proofs.lemmas.List.Elements.{All-cons, All-head, All-nil, All-push, All-tail}
use Rattle.ri_base.specs.Documents.{Document}
use Rattle.store_ends.specs.Files.{Files}
use Rattle.disk_index.specs.Parts.{IsPartBacked, IsPartIntact, Source}
use Rattle.disk_index.specs.Snapshots.{Marked, documents_held}
use Rattle.holdings.specs.Contents.{Contents, added, all_closed, deleted}
use Rattle.holdings.specs.MarkedParts.{filled, marked_with, tokens_held}
use Rattle.holdings.specs.Parts as parts
use Rattle.holdings.specs.Parts.{Parts, all_parts, closed_by, has_room, live, sealed, without}
use Rattle.holdings.proofs.LiveLemmas.{flat_map-push}
use Rattle.holdings.proofs.RoomLemmas.{live-sealed}
use Rattle.holdings.proofs.SumLemmas.{documents-sealed, tokens-sealed}
use Rattle.repository.specs.Stands.{Collection}
use Rattle.repository.specs.States.{IsBacked, IsNumbered, IsSized, IsStateIntact, ReadsAs, State, numbers_in, part_numbers}
use Rattle.repository.specs.Steps.{with_document, with_held, without_docno}
use Rattle.repository.proofs.SaveLemmas.{numbers-sealed, sized-sealed}

module _ (told : Option Files) (s : State) (h : Contents) (c : Collection) (reads : ReadsAs told s c) where
  pub reads-added : (d : Document) → ((t : Option Files) → live t h.parts ≡ live t s.held.parts ++ d ∷ []) → documents_held (all_parts h.parts) ≡ documents_held (all_parts s.held.parts) + 1
      → tokens_held (all_parts h.parts) ≡ tokens_held (all_parts s.held.parts) + length d.tokens → ReadsAs told (with_held s h) (with_document c d)
  reads-added d more documents tokens = record {
    live_are = more told ∙ ap (λ l. l ++ d ∷ []) reads.live_are;
    documents_are = documents ∙ ap (λ n. n + 1) reads.documents_are;
    tokens_are = tokens ∙ ap (λ n. n + length d.tokens) reads.tokens_are;
    priors_are = reads.priors_are;
  }

  pub reads-deleted : (docno : List ℕ) → ((t : Option Files) → live t h.parts ≡ without docno (live t s.held.parts)) → documents_held (all_parts h.parts) ≡ documents_held (all_parts s.held.parts)
      → tokens_held (all_parts h.parts) ≡ tokens_held (all_parts s.held.parts) → ReadsAs told (with_held s h) (without_docno c docno)
  reads-deleted docno fewer documents tokens = record {
    live_are = fewer told ∙ ap (without docno) reads.live_are;
    documents_are = documents ∙ reads.documents_are;
    tokens_are = tokens ∙ reads.tokens_are;
    priors_are = reads.priors_are;
  }

-- ---- the parts on disk stay

abbrev IsStored : Option Files → Marked → Type 0
IsStored told m = IsPartBacked told m.source

backed-held : (told : Option Files) (s : State) (h : Contents) → IsBacked told s → part_numbers h.parts.closed ≡ part_numbers s.held.parts.closed → All (IsStored told) h.parts.closed → IsBacked told (with_held s h)
backed-held told s h backed numbers stored = record {
  list = backed.list;
  has = backed.has;
  next_is = backed.next_is;
  numbers_are = backed.numbers_are ∙ sym numbers;
  stale_are = backed.stale_are;
  priors_are = backed.priors_are;
  parts = stored;
  priors = backed.priors;
}

-- one part in memory more, or none
abbrev pub Closes : Parts → List Marked → Type 0
Closes p closed = (closed ≡ p.closed) ⊎ (closed ≡ p.closed ++ filled p.filling p.marks ∷ [])

pub closes-by : (p : Parts) (docs : List Document) → Closes p (closed_by p docs).closed
closes-by p [] = inl refl
closes-by p (d ∷ docs) = inr refl

pub closes-with : (p : Parts) (d : Document) → Closes p (parts.with_document p d).closed
closes-with p d = by (has_room p d)
  where
    by : (b : Bool) → Closes p (cond b p (sealed p)).closed
    by true = inl refl
    by false = closes-by p p.filling

numbers-closes : (p : Parts) (closed : List Marked) → Closes p closed → part_numbers closed ≡ part_numbers p.closed
numbers-closes p closed closes =
    elim closes [
      | inl same ↦ ap part_numbers same
      | inr more ↦ ap part_numbers more ∙ flat_map-push (λ (m : Marked). numbers_in m.source) p.closed (filled p.filling p.marks) ∙ append-nil (part_numbers p.closed)
    ]

-- what holds of each part that was closed, and of the one that is being filled
all-closes : (P : Marked → Type 0) (p : Parts) (closed : List Marked) → P (filled p.filling p.marks) → Closes p closed → All P p.closed → All P closed
all-closes P p closed last closes all =
    elim closes [
      | inl same ↦ subst (All P) (sym same) all
      | inr more ↦ subst (All P) (sym more) (All-push P p.closed (filled p.filling p.marks) all last)
    ]

stored-closes : (told : Option Files) (p : Parts) (closed : List Marked) → Closes p closed → All (IsStored told) p.closed → All (IsStored told) closed
stored-closes told p closed closes all = all-closes (IsStored told) p closed tt closes all

backed-closes : (told : Option Files) (s : State) (h : Contents) → Closes s.held.parts h.parts.closed → IsBacked told s → IsBacked told (with_held s h)
backed-closes told s h closes backed = backed-held told s h backed (numbers-closes s.held.parts h.parts.closed closes) (stored-closes told s.held.parts h.parts.closed closes backed.parts)

pub backed-added : (told : Option Files) (s : State) (d : Document) → IsBacked told s → IsBacked told (with_held s (added s.held d))
backed-added told s d backed = backed-closes told s (added s.held d) (closes-with s.held.parts d) backed

numbers-marked : (k : List ℕ) (ms : List Marked) → part_numbers (map (marked_with k) ms) ≡ part_numbers ms
numbers-marked k [] = refl
numbers-marked k (m ∷ ms) = ap (λ ns. numbers_in m.source ++ ns) (numbers-marked k ms)

-- what holds of where each part is
all-marked : (P : Source → Type 0) (k : List ℕ) (ms : List Marked) → All (λ (m : Marked). P m.source) ms → All (λ (m : Marked). P m.source) (map (marked_with k) ms)
all-marked P k [] all = All-nil (λ (m : Marked). P m.source)
all-marked P k (m ∷ ms) all =
    All-cons (λ (m : Marked). P m.source) (marked_with k m) (map (marked_with k) ms) (All-head (λ (m : Marked). P m.source) m ms all) (all-marked P k ms (All-tail (λ (m : Marked). P m.source) m ms all))

pub backed-deleted : (told : Option Files) (s : State) (k : List ℕ) → IsBacked told s → IsBacked told (with_held s (deleted s.held k))
backed-deleted told s k backed = backed-held told s (deleted s.held k) backed (numbers-marked k s.held.parts.closed) (all-marked (IsPartBacked told) k s.held.parts.closed backed.parts)

-- ---- files that were read as they were put still are

abbrev IsRead : Option Files → Marked → Type 0
IsRead told m = IsPartIntact told m.source

pub intact-added : (told : Option Files) (s : State) (d : Document) → IsStateIntact told s → IsStateIntact told (with_held s (added s.held d))
intact-added told s d intact = all-closes (IsRead told) s.held.parts (added s.held d).parts.closed tt (closes-with s.held.parts d) intact

pub intact-deleted : (told : Option Files) (s : State) (k : List ℕ) → IsStateIntact told s → IsStateIntact told (with_held s (deleted s.held k))
intact-deleted told s k intact = all-marked (IsPartIntact told) k s.held.parts.closed intact

pub intact-closed : (told : Option Files) (s : State) → IsStateIntact told s → IsStateIntact told (with_held s (all_closed s.held))
intact-closed told s intact = all-closes (IsRead told) s.held.parts (sealed s.held.parts).closed tt (closes-by s.held.parts s.held.parts.filling) intact

-- over a call that changes what is held or leaves it, whatever it answers
pub held-call : {A E : Type 0} (P : State → Type 0) (s : State) (r : Result A E) (h now : Contents) → OnOk r (h ≡ now) → OnErr r (h ≡ s.held) → (P s → P (with_held s now)) → P s → P (with_held s h)
held-call P s (Ok a) h now done kept into was = subst (λ (x : Contents). P (with_held s x)) (sym done) (into was)
held-call P s (Err e) h now done kept into was = subst (λ (x : Contents). P (with_held s x)) (sym kept) was

-- ---- what is held can be listed

numbered-held : (s : State) (h : Contents) → IsNumbered s → part_numbers h.parts.closed ≡ part_numbers s.held.parts.closed → All IsSized h.parts.closed → IsNumbered (with_held s h)
numbered-held s h n numbers sized = record {
  list = n.list;
  form = n.form;
  next_is = n.next_is;
  numbers_are = n.numbers_are ∙ sym numbers;
  stale_are = n.stale_are;
  priors_are = n.priors_are;
  sized = sized;
}

numbers-with : (p : Parts) (d : Document) → part_numbers (parts.with_document p d).closed ≡ part_numbers p.closed
numbers-with p d = by (has_room p d)
  where
    by : (b : Bool) → part_numbers (cond b p (sealed p)).closed ≡ part_numbers p.closed
    by true = refl
    by false = numbers-sealed p

sized-with : (p : Parts) (d : Document) → All IsSized p.closed → All IsSized (parts.with_document p d).closed
sized-with p d sized = by (has_room p d)
  where
    by : (b : Bool) → All IsSized (cond b p (sealed p)).closed
    by true = sized
    by false = sized-sealed p sized

pub numbered-added : (s : State) (d : Document) → IsNumbered s → IsNumbered (with_held s (added s.held d))
numbered-added s d n = numbered-held s (added s.held d) n (numbers-with s.held.parts d) (sized-with s.held.parts d n.sized)

sized-marked : (k : List ℕ) (ms : List Marked) → All IsSized ms → All IsSized (map (marked_with k) ms)
sized-marked k [] all = All-nil IsSized
sized-marked k (m ∷ ms) all = All-cons IsSized (marked_with k m) (map (marked_with k) ms) (All-head IsSized m ms all) (sized-marked k ms (All-tail IsSized m ms all))

pub numbered-deleted : (s : State) (k : List ℕ) → IsNumbered s → IsNumbered (with_held s (deleted s.held k))
numbered-deleted s k n = numbered-held s (deleted s.held k) n (numbers-marked k s.held.parts.closed) (sized-marked k s.held.parts.closed n.sized)

-- ---- the part that is being filled is closed

pub backed-closed : (told : Option Files) (s : State) → IsBacked told s → IsBacked told (with_held s (all_closed s.held))
backed-closed told s backed = backed-closes told s (all_closed s.held) (closes-by s.held.parts s.held.parts.filling) backed

pub reads-closed : (told : Option Files) (s : State) (c : Collection) → ReadsAs told s c → ReadsAs told (with_held s (all_closed s.held)) c
reads-closed told s c reads = record {
  live_are = live-sealed told s.held.parts ∙ reads.live_are;
  documents_are = documents-sealed s.held.parts ∙ reads.documents_are;
  tokens_are = tokens-sealed s.held.parts ∙ reads.tokens_are;
  priors_are = reads.priors_are;
}

pub numbered-closed : (s : State) → IsNumbered s → IsNumbered (with_held s (all_closed s.held))
numbered-closed s n = numbered-held s (all_closed s.held) n (numbers-sealed s.held.parts) (sized-sealed s.held.parts n.sized)

-- over a call that closes it or leaves all as it was, whatever it answers
pub closed-call : {A E : Type 0} (P : State → Type 0) (s : State) (r : Result A E) (h : Contents) → OnOk r (h ≡ all_closed s.held) → OnErr r ((h ≡ s.held) ⊎ (h ≡ all_closed s.held)) → P s → P (with_held s (all_closed s.held))
    → P (with_held s h)
closed-call P s (Ok a) h done left was closed = subst (λ (x : Contents). P (with_held s x)) (sym done) closed
closed-call P s (Err e) h done left was closed =
    elim left [
      | inl same ↦ subst (λ (x : Contents). P (with_held s x)) (sym same) was
      | inr sealed ↦ subst (λ (x : Contents). P (with_held s x)) (sym sealed) closed
    ]
