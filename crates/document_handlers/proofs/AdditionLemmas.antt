-- A document that is added to a repository, over the collection that it reads as.
use Rattle.std.proofs.Common.{◌≡◌, ◌+◌, ℕ, Bool, true, false, ◌||◌, List, [], ◌∷◌, length, refl, ap, sym, ◌∙◌, subst, inl, inr, Option, Result, Ok, Err, map}
use Rattle.std.specs.Prelude.{nat_lt, if◌then◌else◌, IfOk, OnOk}
use Rattle.std.specs.Set.{is_member}
use Rattle.std.specs.Str.{bytes_eq}
use Rattle.ri_base.specs.Documents.{Document}
use Rattle.store_ends.specs.Files.{Files}
use Rattle.command_pieces.specs.Written.{Plain, told_piece}
use Rattle.holdings.specs.Contents.{Answers, answer, is_full}
use Rattle.holdings.specs.MarkedParts.{tokens_held}
use Rattle.holdings.specs.Parts.{all_parts, is_live}
use Rattle.holdings.specs.declared.refusals.AddRefusal.{AddRefusal}
use Rattle.holdings.specs.declared.refusals.AddRefusal.TheVariants as holding
use Rattle.holdings.proofs.LiveLemmas.{docnos-live}
use Rattle.refusals.specs.Lines.{refusal_piece}
use Rattle.refusals.specs.declared.refusal.CollectionKind.TheVariants.{CollectionFull, Repeated}
use Rattle.refusals.specs.declared.refusal.Refusal.{Refusal}
use Rattle.refusals.specs.declared.refusal.Refusal.TheVariants as refusal
use Rattle.repository.specs.Stands.{Collection}
use Rattle.repository.specs.States.{IsBacked, ReadsAs, State}
use Rattle.repository.specs.Steps.{with_document}
use Rattle.tokens.specs.Content as tokens
use Rattle.tokens.specs.Content.{content}
use Rattle.tokens.specs.declared.document.TokenRefusal.{TokenRefusal}
use Rattle.tokens.specs.declared.document.TokenRefusal.TheVariants as unreadable
use Rattle.trec_reader.specs.declared.document.RawDoc.{RawDoc}
use Rattle.holdings.specs.declared.limits.Limits.{Limits}
use Rattle.document_handlers.specs.Work.{Work, adding, behind, replies, scanning}
use Rattle.document_handlers.specs.Addition.{added, added_text, addition, collection_with, holds_too_much, is_there}

-- what the answer of a repository says of a document; want of memory says nothing
abbrev pub as_addition : Document → Result (Unit {0}) AddRefusal → Result Document Refusal
as_addition d (Ok done) = Ok d
as_addition d (Err (holding.Repeated docno)) = Err (refusal.Collection Repeated docno)
as_addition d (Err (holding.CollectionFull docno)) = Err (refusal.Collection CollectionFull docno)
as_addition d (Err holding.Memory) = Ok d

by-tests : (d : Document) (there full : Bool) → as_addition d (if there then Err (holding.Repeated d.docno) else if full then Err (holding.CollectionFull d.docno) else Ok tt)
    ≡ (if there then Err (refusal.Collection Repeated d.docno) else if full then Err (refusal.Collection CollectionFull d.docno) else Ok d)
by-tests d true full = refl
by-tests d false true = refl
by-tests d false false = refl

module _ (told : Option Files) (s : State) (c : Collection) (reads : ReadsAs told s c) where
  live-there : (docno : List ℕ) → is_live s.held.parts docno ≡ is_there c.live docno
  live-there docno =
      ap (λ ks. is_member bytes_eq ks docno) (sym (docnos-live told (all_parts s.held.parts))) ∙ ap (λ ds. is_member bytes_eq (map (λ (d : Document). d.docno) ds) docno) reads.live_are

  full-same : (d : Document) → is_full s.held d ≡ holds_too_much s.held.limits c d
  full-same d =
      ap (λ n. nat_lt s.held.limits.held_docs (n + 1) || nat_lt s.held.limits.held_tokens (tokens_held (all_parts s.held.parts) + length d.tokens)) reads.documents_are
      ∙ ap (λ n. nat_lt s.held.limits.held_docs (c.documents + 1) || nat_lt s.held.limits.held_tokens (n + length d.tokens)) reads.tokens_are

  addition-is : (d : Document) → addition s.held.limits c (Ok d) ≡ as_addition d (answer s.held d)
  addition-is d =
      sym (by-tests d (is_live s.held.parts d.docno) (is_full s.held d)
      ∙ ap (λ there. if there then Err (refusal.Collection Repeated d.docno) else if is_full s.held d then Err (refusal.Collection CollectionFull d.docno) else Ok d) (live-there d.docno)
      ∙ ap (λ full. if is_there c.live d.docno then Err (refusal.Collection Repeated d.docno) else if full then Err (refusal.Collection CollectionFull d.docno) else Ok d) (full-same d))

-- what a document's answer is, unless memory was wanting
pub answered : (told : Option Files) (s : State) (c : Collection) (d : Document) (r : Result (Unit {0}) AddRefusal) → ReadsAs told s c → Answers r (answer s.held d) → (r ≡ Err holding.Memory → ⊥) → addition s.held.limits c (Ok d) ≡ as_addition d r
answered told s c d r reads answers some = elim answers [
  | inl none ↦ absurd (some none)
  | inr is ↦ addition-is told s c reads d ∙ ap (as_addition d) (sym is)
]

pub added-reply : (told : Option Files) (s : State) (c : Collection) (d : Document) (r : Result (Unit {0}) AddRefusal) (p : Plain) → ReadsAs told s c → Answers r (answer s.held d) → r ≡ Ok tt → p ≡ told_piece (added_text d) → p ≡ added (addition s.held.limits c (Ok d))
added-reply told s c d r p reads answers ok e = e ∙ sym (ap added (answered told s c d r reads answers (λ none. cc) ∙ ap (as_addition d) ok))

pub added-reads : (told : Option Files) (s t : State) (c : Collection) (d : Document) (r : Result (Unit {0}) AddRefusal) → ReadsAs told s c → Answers r (answer s.held d) → r ≡ Ok tt → ReadsAs told t (with_document c d)
    → ReadsAs told t (collection_with c (addition s.held.limits c (Ok d)))
added-reads told s t c d r reads answers ok now =
    subst (λ x. ReadsAs told t (collection_with c x)) (sym (answered told s c d r reads answers (λ none. cc) ∙ ap (as_addition d) ok)) now

-- ---- it is refused

pub repeated-is : (told : Option Files) (s : State) (c : Collection) (d : Document) (r : Result (Unit {0}) AddRefusal) (docno : List ℕ) → ReadsAs told s c → Answers r (answer s.held d) → r ≡ Err (holding.Repeated docno) → addition s.held.limits c (Ok d) ≡ Err (refusal.Collection Repeated docno)
repeated-is told s c d r docno reads answers is = answered told s c d r reads answers (λ none. cc) ∙ ap (as_addition d) is

pub full-is : (told : Option Files) (s : State) (c : Collection) (d : Document) (r : Result (Unit {0}) AddRefusal) (docno : List ℕ) → ReadsAs told s c → Answers r (answer s.held d) → r ≡ Err (holding.CollectionFull docno) → addition s.held.limits c (Ok d) ≡ Err (refusal.Collection CollectionFull docno)
full-is told s c d r docno reads answers is = answered told s c d r reads answers (λ none. cc) ∙ ap (as_addition d) is

pub refused-reply : {E : Type 0} (q : Result Plain E) (x : Result Document Refusal) (why : Refusal) → x ≡ Err why → IfOk q (λ p. p ≡ refusal_piece why) → IfOk q (λ p. p ≡ added x)
refused-reply (Ok p) x why is e = e ∙ sym (ap added is)
refused-reply (Err none) x why is e = tt

pub refused-reads : {A E : Type 0} (q : Result A E) (told : Option Files) (s t : State) (c : Collection) (x : Result Document Refusal) (why : Refusal) → ReadsAs told s c → x ≡ Err why → t ≡ s → OnOk q (ReadsAs told t (collection_with c x))
refused-reads (Ok a) told s t c x why reads is same = subst (λ x. ReadsAs told t (collection_with c x)) (sym is) (subst (λ u. ReadsAs told u c) (sym same) reads)
refused-reads (Err none) told s t c x why reads is same = tt

pub same-limits : {A E : Type 0} (q : Result A E) (s t : State) → t ≡ s → OnOk q (t.held.limits ≡ s.held.limits)
same-limits (Ok a) s t same = ap (λ (u : State). u.held.limits) same
same-limits (Err none) s t same = tt

-- ---- a document that isn't read

pub unread : (d : RawDoc) (why : TokenRefusal) → tokens.Answers (Err why) (content d) → (why ≡ unreadable.Memory → ⊥) → content d ≡ Err why
unread d (unreadable.TooManyTokens docno) answers some = answers
unread d (unreadable.TooManyFields docno) answers some = answers
unread d unreadable.Memory answers some = absurd (some refl)

pub unread-reply : (told : Option Files) (limits : Limits) (c : Collection) (w : Work) (d : RawDoc) (why : TokenRefusal) (p : Plain) → w ≡ adding told limits c → content d ≡ Err why → p ≡ refusal_piece (refusal.Document why) → p ∷ [] ≡ replies w d
unfolding replies
unread-reply told limits c w d why p w_is is e = rw w_is (rw is (ap (λ q. q ∷ []) e))

pub unread-behind : (told : Option Files) (limits : Limits) (c : Collection) (w : Work) (d : RawDoc) (why : TokenRefusal) → w ≡ adding told limits c → content d ≡ Err why → behind w d ≡ adding told limits c
unfolding behind
unread-behind told limits c w d why w_is is = rw w_is (rw is refl)

-- ---- the repository is given back

abbrev told_in : Option Files → Work → Option Files
told_in other (scanning x) = other
told_in other (adding told limits c) = told

abbrev limits_in : Limits → Work → Limits
limits_in other (scanning x) = other
limits_in other (adding told limits c) = limits

abbrev collection_in : Collection → Work → Collection
collection_in other (scanning x) = other
collection_in other (adding told limits c) = c

pub given-back : (told known : Option Files) (limits : Limits) (s : State) (c d : Collection) → adding told limits c ≡ adding known s.held.limits d → ReadsAs known s d → IsBacked known s → ReadsAs told s c × IsBacked told s × (s.held.limits ≡ limits)
given-back told known limits s c d same reads backed =
    let told_is = sym (ap (told_in told) same) in
    (subst (λ t. ReadsAs t s c) told_is (subst (ReadsAs known s) (sym (ap (collection_in c) same)) reads), subst (λ t. IsBacked t s) told_is backed, sym (ap (limits_in limits) same))
