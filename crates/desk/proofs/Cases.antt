-- The cases of a step.
use Rattle.std.proofs.Common.{◌≡◌, ℕ, ◌+◌, inl, inr, Bool, true, false, List, [], ◌∷◌, ◌++◌, length, min, refl, ap, ◌∙◌, Some, None}
use Rattle.std.specs.Prelude.{Result, Ok, Err, nat_le, nat_lt, is_some, slice_get, ◌-◌, if◌then◌else◌}
use Rattle.ri_base.specs.Documents.{Document}
use Rattle.ri_base.specs.Expression.{ExprTree}
use Rattle.query_check.specs.Check.{CheckedTree}
use Rattle.desk.specs.Priors.{names_with}
use Rattle.holdings.specs.Contents.{Answers}
use Rattle.holdings.specs.Parts.{without}
use Rattle.holdings.specs.declared.refusals.AddRefusal.TheVariants as add
use Rattle.repository.specs.Stands.{Collection}
use Rattle.session_events.specs.declared.event.Event.TheVariants as event
use Rattle.desk.specs.declared.reply.Refusal.{Refusal}
use Rattle.desk.specs.declared.reply.Refusal.TheVariants.{NameTaken, NoSuchName, NotYet, DeskFull, NoMerge, NoSuchRank, MergeOpen, Repeated, CollectionFull, NoSuchDoc}
use Rattle.desk.specs.Answers.{Entry}
use Rattle.desk.specs.Asked.{asked, scanned}
use Rattle.desk.specs.Points.{kept_behind}
use Rattle.desk.specs.State.{Merge, Query, State, closed, collection_of, merged, named, opened, opened_merge, stepped, turned_merge, with_live, with_merge, with_queries}
use Rattle.desk.specs.Scanning.{extents_in}
use Rattle.desk.specs.Step.{answer_of, is_full, is_live, line_of, open_step, ranked, refuse, step}
use Rattle.desk.specs.Told as told
use Rattle.desk.specs.Told.{Told}
use Rattle.desk.specs.declared.query.TheConstants.{MAX_QUERIES}

choice-yes : (b : Bool) (x y : State × Told) → b ≡ true → (if b then x else y) ≡ x
choice-yes b x y e = ap (λ (c : Bool). if c then x else y) e

choice-no : (b : Bool) (x y : State × Told) → b ≡ false → (if b then x else y) ≡ y
choice-no b x y e = ap (λ (c : Bool). if c then x else y) e

-- ---- documents

pub step-repeated : (s : State) (d : Document) → is_live d.docno s.live ≡ true → step s (event.Document d) ≡ refuse s (Repeated d.docno)
unfolding step
step-repeated s d e = choice-yes (is_live d.docno s.live) _ _ e

pub step-full : (s : State) (d : Document) → is_live d.docno s.live ≡ false → is_full s d ≡ true → step s (event.Document d) ≡ refuse s (CollectionFull d.docno)
unfolding step
step-full s d e full = choice-no (is_live d.docno s.live) _ _ e ∙ choice-yes (is_full s d) _ _ full

pub step-added : (s : State) (d : Document) → is_live d.docno s.live ≡ false → is_full s d ≡ false
    → step s (event.Document d) ≡ (with_live s (s.live ++ d ∷ []) (s.documents + 1) (s.tokens + length d.tokens), told.added d.docno (length d.tokens))
unfolding step
step-added s d e full = choice-no (is_live d.docno s.live) _ _ e ∙ choice-no (is_full s d) _ _ full

-- what a repository answers tells the two tests
pub answers-ok : (b c : Bool) (docno : List ℕ) → Answers (Ok tt) (if b then Err (add.Repeated docno) else if c then Err (add.CollectionFull docno) else Ok tt) → (b ≡ false) × (c ≡ false)
answers-ok true c docno a = elim a [ inl e ↦ absurd (cc) | inr e ↦ absurd (cc) ]
answers-ok false true docno a = elim a [ inl e ↦ absurd (cc) | inr e ↦ absurd (cc) ]
answers-ok false false docno a = (refl, refl)

pub answers-repeated : (b c : Bool) (docno n : List ℕ) → Answers (Err (add.Repeated n)) (if b then Err (add.Repeated docno) else if c then Err (add.CollectionFull docno) else Ok tt) → (b ≡ true) × (n ≡ docno)
answers-repeated true c docno n a = elim a [ inl e ↦ absurd (cc) | inr e ↦ (refl, cc) ]
answers-repeated false true docno n a = elim a [ inl e ↦ absurd (cc) | inr e ↦ absurd (cc) ]
answers-repeated false false docno n a = elim a [ inl e ↦ absurd (cc) | inr e ↦ absurd (cc) ]

pub answers-full : (b c : Bool) (docno n : List ℕ) → Answers (Err (add.CollectionFull n)) (if b then Err (add.Repeated docno) else if c then Err (add.CollectionFull docno) else Ok tt) → (b ≡ false) × ((c ≡ true) × (n ≡ docno))
answers-full true c docno n a = elim a [ inl e ↦ absurd (cc) | inr e ↦ absurd (cc) ]
answers-full false true docno n a = elim a [ inl e ↦ absurd (cc) | inr e ↦ (refl, (refl, cc)) ]
answers-full false false docno n a = elim a [ inl e ↦ absurd (cc) | inr e ↦ absurd (cc) ]

pub step-deleted : (s : State) (docno : List ℕ) → is_live docno s.live ≡ true → step s (event.Delete docno) ≡ (with_live s (without docno s.live) s.documents s.tokens, told.deleted docno)
unfolding step
step-deleted s docno e = choice-yes (is_live docno s.live) _ _ e

pub step-nodoc : (s : State) (docno : List ℕ) → is_live docno s.live ≡ false → step s (event.Delete docno) ≡ refuse s (NoSuchDoc docno)
unfolding step
step-nodoc s docno e = choice-no (is_live docno s.live) _ _ e

-- ---- a flush, a merge, the end

pub step-flushed : (s : State) → step s event.Flush ≡ (s, told.flushed (length s.live))
unfolding step
step-flushed s = refl

pub step-ended : (s : State) → step s event.End ≡ (with_merge (with_queries s []) None, told.ended (length s.live))
unfolding step
step-ended s = refl

pub step-merging : (s : State) → s.merge ≡ None → step s event.Merge ≡ (with_merge s (Some (opened_merge s)), told.merging (length s.live))
unfolding step
step-merging s e = rw e refl

pub step-mergeopen : (s : State) (m : Merge) → s.merge ≡ Some m → step s event.Merge ≡ refuse s MergeOpen
unfolding step
step-mergeopen s m e = rw e refl

pub step-nomerge : (s : State) (docs : ℕ) → s.merge ≡ None → step s (event.Turn docs) ≡ refuse s NoMerge
unfolding step
step-nomerge s docs e = rw e refl

pub step-turned : (s : State) (docs : ℕ) (m : Merge) → s.merge ≡ Some m → nat_lt (m.credit + docs) m.size ≡ true → step s (event.Turn docs) ≡ (with_merge s (Some (turned_merge m docs)), told.turned (m.credit + docs) m.size)
unfolding step
step-turned s docs m e less = rw e (choice-yes (nat_lt (m.credit + docs) m.size) _ _ less)

pub step-merged : (s : State) (docs : ℕ) (m : Merge) → s.merge ≡ Some m → nat_lt (m.credit + docs) m.size ≡ false → step s (event.Turn docs) ≡ (merged s m, told.merged (length s.live))
unfolding step
step-merged s docs m e less = rw e (choice-no (nat_lt (m.credit + docs) m.size) _ _ less)

-- ---- queries

pub step-open : (s : State) (name : List ℕ) (k : ℕ) (text : List ℕ) (r : Result CheckedTree Refusal) → asked (names_with s.priors) text ≡ r → step s (event.Open name k text) ≡ open_step s name k r
unfolding step
step-open s name k text r e = ap (open_step s name k) e

pub open-taken : (s : State) (name : List ℕ) (k : ℕ) (q : CheckedTree) → is_some (named name s.queries) ≡ true → open_step s name k (Ok q) ≡ refuse s (NameTaken name)
open-taken s name k q taken = choice-yes (is_some (named name s.queries)) _ _ taken

pub open-full : (s : State) (name : List ℕ) (k : ℕ) (q : CheckedTree) → is_some (named name s.queries) ≡ false → nat_le MAX_QUERIES (length s.queries) ≡ true → open_step s name k (Ok q) ≡ refuse s (DeskFull name)
open-full s name k q free full = choice-no (is_some (named name s.queries)) _ _ free ∙ choice-yes (nat_le MAX_QUERIES (length s.queries)) _ _ full

pub open-opened : (s : State) (name : List ℕ) (k : ℕ) (q : CheckedTree) → is_some (named name s.queries) ≡ false → nat_le MAX_QUERIES (length s.queries) ≡ false
    → open_step s name k (Ok q) ≡ (with_queries s (s.queries ++ opened s name q k ∷ []), told.opened name (length s.live))
open-opened s name k q free room = choice-no (is_some (named name s.queries)) _ _ free ∙ choice-no (nat_le MAX_QUERIES (length s.queries)) _ _ room

pub step-noname : (s : State) (name : List ℕ) (docs : ℕ) → named name s.queries ≡ None → step s (event.Step name docs) ≡ refuse s (NoSuchName name)
unfolding step
step-noname s name docs e = rw e refl

pub step-stepped : (s : State) (name : List ℕ) (docs : ℕ) (q : Query) → named name s.queries ≡ Some q
    → step s (event.Step name docs) ≡ (with_queries s (stepped name docs s.queries), told.stepped name (min (q.credit + docs) (length q.live)) (length q.live))
unfolding step
step-stepped s name docs q e = rw e refl

pub show-noname : (s : State) (name : List ℕ) → named name s.queries ≡ None → step s (event.Show name) ≡ refuse s (NoSuchName name)
unfolding step
show-noname s name e = rw e refl

pub show-notyet : (s : State) (name : List ℕ) (q : Query) → named name s.queries ≡ Some q → nat_lt q.credit (length q.live) ≡ true → step s (event.Show name) ≡ refuse s (NotYet name)
unfolding step
show-notyet s name q e less = rw e (choice-yes (nat_lt q.credit (length q.live)) _ _ less)

pub show-results : (s : State) (name : List ℕ) (q : Query) → named name s.queries ≡ Some q → nat_lt q.credit (length q.live) ≡ false → step s (event.Show name) ≡ (s, told.results name q.query.scale (answer_of s q))
unfolding step
show-results s name q e less = rw e (choice-no (nat_lt q.credit (length q.live)) _ _ less)

pub explain-noname : (s : State) (name : List ℕ) (rank : ℕ) → named name s.queries ≡ None → step s (event.Explain name rank) ≡ refuse s (NoSuchName name)
unfolding step
explain-noname s name rank e = rw e refl

pub explain-notyet : (s : State) (name : List ℕ) (rank : ℕ) (q : Query) → named name s.queries ≡ Some q → nat_lt q.credit (length q.live) ≡ true → step s (event.Explain name rank) ≡ refuse s (NotYet name)
unfolding step
explain-notyet s name rank q e less = rw e (choice-yes (nat_lt q.credit (length q.live)) _ _ less)

pub explain-passed : (s : State) (name : List ℕ) (rank : ℕ) (q : Query) → named name s.queries ≡ Some q → nat_lt q.credit (length q.live) ≡ false → step s (event.Explain name rank) ≡ ranked s name rank q (slice_get (answer_of s q) (rank - 1))
unfolding step
explain-passed s name rank q e less = rw (e, less) refl

pub explain-norank : (s : State) (name : List ℕ) (rank : ℕ) (q : Query) → named name s.queries ≡ Some q → nat_lt q.credit (length q.live) ≡ false → slice_get (answer_of s q) (rank - 1) ≡ None → step s (event.Explain name rank) ≡ refuse s (NoSuchRank name)
unfolding step
explain-norank s name rank q e less none = rw (e, less, none) refl

pub explain-ranked : (s : State) (name : List ℕ) (rank : ℕ) (q : Query) (x : Entry) → named name s.queries ≡ Some q → nat_lt q.credit (length q.live) ≡ false → slice_get (answer_of s q) (rank - 1) ≡ Some x
    → step s (event.Explain name rank) ≡ (s, told.explained (line_of s q rank x))
unfolding step
explain-ranked s name rank q x e less is = rw (e, less, is) refl

pub scan-fault : (s : State) (text : List ℕ) (why : Refusal) → scanned text ≡ Err why → step s (event.Scan text) ≡ refuse s why
unfolding step
scan-fault s text why e = rw e refl

pub scan-found : (s : State) (text : List ℕ) (x : ExprTree) → scanned text ≡ Ok x → step s (event.Scan text) ≡ (s, told.extents (extents_in x s.live))
unfolding step
scan-found s text x e = rw e refl

pub close-noname : (s : State) (name : List ℕ) → named name s.queries ≡ None → step s (event.Close name) ≡ refuse s (NoSuchName name)
unfolding step
close-noname s name e = rw e refl

pub close-closed : (s : State) (name : List ℕ) (q : Query) → named name s.queries ≡ Some q → step s (event.Close name) ≡ (with_queries s (closed name s.queries), told.closed name)
unfolding step
close-closed s name q e = rw e refl

-- ---- what the files stand for behind a step

pub kept-flushed : (kept : Collection) (s : State) → kept_behind kept (step s event.Flush) ≡ collection_of s
unfolding step
kept-flushed kept s = refl

pub kept-ended : (kept : Collection) (s : State) → kept_behind kept (step s event.End) ≡ collection_of s
unfolding step
kept-ended kept s = refl

pub kept-nomerge : (kept : Collection) (s : State) (docs : ℕ) → s.merge ≡ None → kept_behind kept (step s (event.Turn docs)) ≡ kept
unfolding step
kept-nomerge kept s docs e = rw e refl

pub kept-turned : (kept : Collection) (s : State) (docs : ℕ) (m : Merge) → s.merge ≡ Some m → nat_lt (m.credit + docs) m.size ≡ true → kept_behind kept (step s (event.Turn docs)) ≡ kept
unfolding step
kept-turned kept s docs m e less = rw (e, less) refl

pub kept-merged : (kept : Collection) (s : State) (docs : ℕ) (m : Merge) → s.merge ≡ Some m → nat_lt (m.credit + docs) m.size ≡ false → kept_behind kept (step s (event.Turn docs)) ≡ collection_of (merged s m)
unfolding step
kept-merged kept s docs m e less = rw (e, less) refl
