-- Where a document is added or deleted.
use Rattle.std.proofs.Common.{◌≡◌, ◌∙◌, ℕ, Bool, true, false, List, [], ◌∷◌, ◌++◌, cond, length, map, refl, sym, ap, subst, arith, Option, true≢false}
use Rattle.std.specs.Prelude.{◌↔◌, Err, IfOk, IsErr, Ok, OnErr, OnOk, Result, is_err}
use Rattle.std.specs.Set.{is_member}
use Rattle.std.specs.Str.{bytes_eq}
use Rattle.ri_base.specs.Documents.{Document}
use Rattle.ri_base.specs.declared.seg_fault.SegFault.{SegFault}
use Rattle.store_ends.specs.Files.{Files}
use Rattle.disk_index.specs.Snapshots.{Marked}
use Rattle.holdings.specs.Contents as contents
use Rattle.holdings.specs.Contents.{Answers, Contents, added, deleted, next_generation}
use Rattle.holdings.specs.MarkedParts.{marked_with}
use Rattle.holdings.specs.Parts as parts
use Rattle.holdings.specs.Parts.{Parts, all_parts, has_room, live, sealed}
use Rattle.holdings.specs.declared.refusals.AddRefusal.{AddRefusal}
use Rattle.holdings.specs.declared.refusals.AddRefusal.TheVariants as add
use Rattle.holdings.proofs.LiveLemmas.{docnos-live}
use Rattle.counts.specs.Kept.{AreSums, Kept}
use Rattle.repository.specs.Merges.{IsOpenMerging}
use Rattle.repository.specs.Stands.{Collection}
use Rattle.repository.specs.States as repositories
use Rattle.repository.specs.States.{IsBacked, ReadsAs, numbers_in, part_numbers}
use Rattle.repository.specs.Steps.{with_document, with_held, without_docno}
use Rattle.repository.proofs.SaveLemmas.{numbers-sealed}
use Rattle.session_events.specs.declared.event.Event.{Event}
use Rattle.session_events.specs.declared.event.Event.TheVariants as event
use Rattle.desk.specs.declared.reply.Refusal.{Refusal}
use Rattle.desk.specs.declared.reply.Reply.{Reply}
use Rattle.desk.specs.declared.reply.Reply.TheVariants as reply
use Rattle.desk.specs.declared.reply.Refusal.TheVariants.{Repeated, CollectionFull, NoSuchDoc}
use Rattle.desk.specs.Backed.{IsDeskBacked, Keeps, Steps, state_of}
use Rattle.desk.specs.Keeping.{AreEarly}
use Rattle.desk.specs.Replying.{not_added}
use Rattle.desk.specs.State.{collection_of}
use Rattle.desk.specs.Step.{is_live, refuse, step}
use Rattle.desk.specs.Told.{RefusesAs, refused}
use Rattle.desk.proofs.Cases.{answers-full, answers-repeated, step-added, step-deleted, step-full, step-nodoc, step-repeated}
use Rattle.desk.proofs.Exits.{exit, refused-by, refused-exit, state-by}
use Rattle.desk.proofs.Keeping.{Cache-on, Queries-on, listed-held, merge-condition, merge-kept}
use Rattle.desk.proofs.Reading.{reads-state}

-- with another repository
abbrev pub with_repository : Keeps → repositories.State → Keeps
with_repository d r = record { repository = r; kind = d.kind; queries = d.queries; counts = d.counts; cache = d.cache; usable = d.usable }

-- what is live is known without the files
pub live-told : (told : Option Files) (d : Keeps) (docno : List ℕ) → is_live docno (state_of told d).live ≡ parts.is_live d.repository.held.parts docno
live-told told d docno = ap (λ ns. is_member bytes_eq ns docno) (docnos-live told (all_parts d.repository.held.parts))

-- ---- no sum is kept for the greatest generation, so none is kept for a later one

pub sums-later : (docs more : List Document) (g : ℕ) (all : List Kept) → AreEarly all → AreSums docs g all → AreSums more (next_generation g) all
sums-later docs more g all none are = record {
  right = λ e there is. absurd (let below = none e there in let old = are.none_later e there in omega (arith, is, below, old));
  none_later = λ e there. let below = none e there in let old = are.none_later e there in omega (arith, below, old);
}

-- ---- files that are listed stay listed

numbers-with : (p : Parts) (d : Document) → part_numbers (parts.with_document p d).closed ≡ part_numbers p.closed
numbers-with p d = by (has_room p d)
  where
    by : (b : Bool) → part_numbers (cond b p (sealed p)).closed ≡ part_numbers p.closed
    by true = refl
    by false = numbers-sealed p

numbers-marked : (docno : List ℕ) (ms : List Marked) → part_numbers (map (marked_with docno) ms) ≡ part_numbers ms
numbers-marked docno [] = refl
numbers-marked docno (m ∷ ms) = ap (λ ns. numbers_in m.source ++ ns) (numbers-marked docno ms)

-- ---- the desk stays backed

module _ (told : Option Files) (d : Keeps) (backed : IsDeskBacked told d) (none : AreEarly d.counts) where
  held-backed : (h : Contents) → part_numbers h.parts.closed ≡ part_numbers d.repository.held.parts.closed → h.generation ≡ next_generation d.repository.held.generation → IsBacked told (with_held d.repository h)
      → IsOpenMerging told (with_held d.repository h) → IsDeskBacked told (with_repository d (with_held d.repository h))
  held-backed h numbers later stored merging =
      let s = d.repository in
      let lists = listed-held s h numbers in
      record {
        repository = stored;
        queries = Queries-on told s (with_held s h) d.kind d.queries lists refl backed.queries;
        merge = merge-kept told told s (with_held s h) refl lists merging backed.merge;
        counts = subst (λ g. AreSums (live told h.parts) g d.counts) (sym later) (sums-later (live told s.held.parts) (live told h.parts) s.held.generation d.counts none backed.counts);
        cache = Cache-on told s (with_held s h) d.cache lists backed.cache;
      }

  pub add-exit : (doc : Document) → parts.is_live d.repository.held.parts doc.docno ≡ false → contents.is_full d.repository.held doc ≡ false
      → ReadsAs told (with_held d.repository (added d.repository.held doc)) (with_document (collection_of (state_of told d)) doc) → IsBacked told (with_held d.repository (added d.repository.held doc))
      → IsOpenMerging told (with_held d.repository (added d.repository.held doc)) → Steps (event.Document doc) told told d (with_repository d (with_held d.repository (added d.repository.held doc))) (reply.Added doc.docno (length doc.tokens))
  add-exit doc fresh room reads stored merging =
      let s = d.repository in
      let h = added s.held doc in
      let n = with_repository d (with_held s h) in
      let state = state-by told n (with_document (collection_of (state_of told d)) doc) _ _ _ _ reads refl refl refl refl in
      exit (event.Document doc) told told d n (reply.Added doc.docno (length doc.tokens)) _ (step-added (state_of told d) doc (live-told told d doc.docno ∙ fresh) room) state refl
      (held-backed h (numbers-with s.held.parts doc) refl stored merging)

  pub delete-exit : (docno : List ℕ) → parts.is_live d.repository.held.parts docno ≡ true → ReadsAs told (with_held d.repository (deleted d.repository.held docno)) (without_docno (collection_of (state_of told d)) docno)
      → IsBacked told (with_held d.repository (deleted d.repository.held docno)) → IsOpenMerging told (with_held d.repository (deleted d.repository.held docno)) → Steps (event.Delete docno) told told d (with_repository d (with_held d.repository (deleted d.repository.held docno))) (reply.Deleted docno)
  delete-exit docno there reads stored merging =
      let s = d.repository in
      let h = deleted s.held docno in
      let n = with_repository d (with_held s h) in
      let state = state-by told n (without_docno (collection_of (state_of told d)) docno) _ _ _ _ reads refl refl refl refl in
      exit (event.Delete docno) told told d n (reply.Deleted docno) _ (step-deleted (state_of told d) docno (live-told told d docno ∙ there)) state refl
      (held-backed h (numbers-marked docno s.held.parts.closed) refl stored merging)

-- ---- refusals

module _ (told : Option Files) (d : Keeps) where
  pub repeated-step : (doc : Document) → parts.is_live d.repository.held.parts doc.docno ≡ true → step (state_of told d) (event.Document doc) ≡ refuse (state_of told d) (Repeated doc.docno)
  repeated-step doc there = step-repeated (state_of told d) doc (live-told told d doc.docno ∙ there)

  pub full-step : (doc : Document) → parts.is_live d.repository.held.parts doc.docno ≡ false → contents.is_full d.repository.held doc ≡ true
      → step (state_of told d) (event.Document doc) ≡ refuse (state_of told d) (CollectionFull doc.docno)
  full-step doc fresh full = step-full (state_of told d) doc (live-told told d doc.docno ∙ fresh) full

  pub absent-step : (docno : List ℕ) → parts.is_live d.repository.held.parts docno ≡ false → step (state_of told d) (event.Delete docno) ≡ refuse (state_of told d) (NoSuchDoc docno)
  absent-step docno gone = step-nodoc (state_of told d) docno (live-told told d docno ∙ gone)

-- ---- over the calls of the repository

-- what a call on a repository hands on
abbrev HandsOn : Option Files → repositories.State → repositories.State → (Collection → Collection) → Type 0
HandsOn told s r into = (c : Collection) → ReadsAs told s c → ReadsAs told r (into c)

pub add-done : (told : Option Files) (d now : Keeps) (r : repositories.State) (doc : Document) → d ≡ now → AreEarly d.counts → r ≡ with_held d.repository (added d.repository.held doc)
    → parts.is_live d.repository.held.parts doc.docno ≡ false → contents.is_full d.repository.held doc ≡ false → HandsOn told d.repository r (λ c. with_document c doc) → (IsBacked told d.repository → IsBacked told r)
    → (IsOpenMerging told d.repository → IsOpenMerging told r) → IsDeskBacked told now
    → Steps (event.Document doc) told told now (with_repository d r) (reply.Added doc.docno (length doc.tokens))
add-done told d now r doc same early made fresh room reads stored merging backed =
    let inside : IsDeskBacked told d = subst (IsDeskBacked told) (sym same) backed in
    let h = with_held d.repository (added d.repository.held doc) in
    let c = collection_of (state_of told d) in
    let read : ReadsAs told h (with_document c doc) = subst (λ (x : repositories.State). ReadsAs told x (with_document c doc)) made (reads c (reads-state told d inside.repository)) in
    subst (λ (x : Keeps). Steps (event.Document doc) told told x (with_repository d r) (reply.Added doc.docno (length doc.tokens))) same
    (subst (λ (x : repositories.State). Steps (event.Document doc) told told d (with_repository d x) (reply.Added doc.docno (length doc.tokens))) (sym made)
    (add-exit told d inside early doc fresh room read (subst (IsBacked told) made (stored inside.repository)) (subst (IsOpenMerging told) made (merging (merge-condition told d.repository d.repository.merge inside.merge)))))

pub delete-done : (told : Option Files) (d now : Keeps) (r : repositories.State) (docno : List ℕ) → d ≡ now → AreEarly d.counts → r ≡ with_held d.repository (deleted d.repository.held docno)
    → parts.is_live d.repository.held.parts docno ≡ true → HandsOn told d.repository r (λ c. without_docno c docno) → (IsBacked told d.repository → IsBacked told r)
    → (IsOpenMerging told d.repository → IsOpenMerging told r) → IsDeskBacked told now
    → Steps (event.Delete docno) told told now (with_repository d r) (reply.Deleted docno)
delete-done told d now r docno same early made there reads stored merging backed =
    let inside : IsDeskBacked told d = subst (IsDeskBacked told) (sym same) backed in
    let h = with_held d.repository (deleted d.repository.held docno) in
    let c = collection_of (state_of told d) in
    let read : ReadsAs told h (without_docno c docno) = subst (λ (x : repositories.State). ReadsAs told x (without_docno c docno)) made (reads c (reads-state told d inside.repository)) in
    subst (λ (x : Keeps). Steps (event.Delete docno) told told x (with_repository d r) (reply.Deleted docno)) same
    (subst (λ (x : repositories.State). Steps (event.Delete docno) told told d (with_repository d x) (reply.Deleted docno)) (sym made)
    (delete-exit told d inside early docno there read (subst (IsBacked told) made (stored inside.repository)) (subst (IsOpenMerging told) made (merging (merge-condition told d.repository d.repository.merge inside.merge)))))

-- a call that is refused leaves the repository as it was
pub refused-done : (told : Option Files) (e : Event) (d now : Keeps) (r : repositories.State) (why : Refusal) → d ≡ now → r ≡ d.repository → step (state_of told d) e ≡ refuse (state_of told d) why → IsDeskBacked told now
    → Steps e told told now (with_repository d r) (reply.Refused why)
refused-done told e d now r why same kept is backed =
    let inside : IsDeskBacked told d = subst (IsDeskBacked told) (sym same) backed in
    subst (λ (x : Keeps). Steps e told told x (with_repository d r) (reply.Refused why)) same
    (subst (λ (x : repositories.State). Steps e told told d (with_repository d x) (reply.Refused why)) (sym kept) (refused-exit e told d why is inside))

-- ---- a document that isn't added

-- by the repository's answer
module _ (d now : Keeps) (r : repositories.State) (doc : Document) (same : d ≡ now) (kept : r ≡ d.repository) where
  abbrev Refuses : AddRefusal → Type 0
  Refuses why = Answers (Err why) (contents.answer d.repository.held doc)

  abbrev live_now : Bool
  live_now = parts.is_live d.repository.held.parts doc.docno

  abbrev full_now : Bool
  full_now = contents.is_full d.repository.held doc

  repeated-is : (n : List ℕ) → Refuses (add.Repeated n) → (live_now ≡ true) × (n ≡ doc.docno)
  repeated-is n answer = answers-repeated live_now full_now doc.docno n answer

  full-is : (n : List ℕ) → Refuses (add.CollectionFull n) → (live_now ≡ false) × ((full_now ≡ true) × (n ≡ doc.docno))
  full-is n answer = answers-full live_now full_now doc.docno n answer

  steps-by : (why : AddRefusal) → Refuses why → IfOk (not_added why) (λ x. (told : Option Files) → IsDeskBacked told now → Steps (event.Document doc) told told now (with_repository d r) x)
  steps-by (add.Repeated n) answer = λ told backed. (let is = repeated-is n answer in
      subst (λ k. Steps (event.Document doc) told told now (with_repository d r) (reply.Refused (Repeated k))) (sym is.1)
      (refused-done told (event.Document doc) d now r (Repeated doc.docno) same kept (repeated-step told d doc is.0) backed))
  steps-by (add.CollectionFull n) answer = λ told backed. (let is = full-is n answer in
      subst (λ k. Steps (event.Document doc) told told now (with_repository d r) (reply.Refused (CollectionFull k))) (sym is.1.1)
      (refused-done told (event.Document doc) d now r (CollectionFull doc.docno) same kept (full-step told d doc is.0 is.1.0) backed))
  steps-by add.Memory answer = tt

  refuses-by : (why : AddRefusal) → Refuses why → IfOk (not_added why) (λ x. (told : Option Files) → RefusesAs x (step (state_of told now) (event.Document doc)).1)
  refuses-by (add.Repeated n) answer = λ told. (let is = repeated-is n answer in
      refused-by (event.Document doc) told d now (Repeated doc.docno) same (repeated-step told d doc is.0) ∙ ap (λ k. refused (Repeated k)) (sym is.1))
  refuses-by (add.CollectionFull n) answer = λ told. (let is = full-is n answer in
      refused-by (event.Document doc) told d now (CollectionFull doc.docno) same (full-step told d doc is.0 is.1.0) ∙ ap (λ k. refused (CollectionFull k)) (sym is.1.1))
  refuses-by add.Memory answer = tt

  pub not-added-steps : (result : Result Reply SegFault) (why : AddRefusal) → result ≡ not_added why → Refuses why → IfOk result (λ x. (told : Option Files) → IsDeskBacked told now → Steps (event.Document doc) told told now (with_repository d r) x)
  not-added-steps result why is answer =
      subst (λ (o : Result Reply SegFault). IfOk o (λ x. (told : Option Files) → IsDeskBacked told now → Steps (event.Document doc) told told now (with_repository d r) x)) (sym is) (steps-by why answer)

  pub not-added-refuses : (result : Result Reply SegFault) (why : AddRefusal) → result ≡ not_added why → Refuses why → IfOk result (λ x. (told : Option Files) → RefusesAs x (step (state_of told now) (event.Document doc)).1)
  not-added-refuses result why is answer =
      subst (λ (o : Result Reply SegFault). IfOk o (λ x. (told : Option Files) → RefusesAs x (step (state_of told now) (event.Document doc)).1)) (sym is) (refuses-by why answer)

-- ---- a deletion is refused just where no live document has the docno

pub ok-of : {A E : Type 0} (r : Result A E) (P : Type 0) → is_err r ≡ false → OnOk r P → P
ok-of (Ok a) P is p = p
ok-of (Err e) P is p = absurd (true≢false is)

pub err-of : {A E : Type 0} (r : Result A E) (P : Type 0) → is_err r ≡ true → OnErr r P → P
err-of (Ok a) P is p = absurd (true≢false (sym is))
err-of (Err e) P is p = p

pub live-there : {A E : Type 0} (r : Result A E) (b : Bool) → (IsErr r ↔ (b ≡ false)) → is_err r ≡ false → b ≡ true
live-there r true h is = refl
live-there r false h is = absurd (true≢false (sym (h.1 refl) ∙ is))
