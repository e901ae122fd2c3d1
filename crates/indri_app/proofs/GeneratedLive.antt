-- Behind all events the documents that are kept are live.
use Rattle.std.proofs.Common.{◌≡◌, ◌<◌, ◌≤◌, ◌+◌, ◌*◌, ◌^◌, ◌∙◌, ◌++◌, ℕ, zero, suc, Bool, true, false, not, List, [], ◌∷◌, Option, None, Some, filter, length, map, refl, sym, ap, subst, arith, append_assoc}
use Rattle.std.specs.Prelude.{◌%◌, Ok, Err, Result, flat_map, if◌then◌else◌, is_some, nat_le, nat_lt}
use Rattle.std.specs.List.{All, range_with_len}
use Rattle.std.proofs.lemmas.Bool.{cond-false, cond-true, le-ltb, not_from_false, not_from_true, or_from}
use Rattle.std.proofs.lemmas.List.{append-nil, map-append}
use Rattle.std.proofs.lemmas.List.Elements.{All-append, All-cons, All-head, All-map, All-nil, All-push, All-tail, All-weaker}
use Rattle.std.proofs.lemmas.List.FromFn.{length-map-range_with_len}
use Rattle.ri_base.specs.Documents.{Document}
use Rattle.holdings.specs.Parts.{without}
use Rattle.holdings.specs.declared.limits.Limits.{Limits}
use Rattle.repository.specs.RealLimits.{AreReal}
use Rattle.query_check.specs.Check.{CheckedTree}
use Rattle.desk.specs.Priors.{names_with}
use Rattle.script_reader.specs.State.{is_end}
use Rattle.script_reader.specs.declared.item.Item.{Item}
use Rattle.script_reader.specs.declared.item.Item.TheVariants as item
use Rattle.session_events.specs.declared.event.Event.{Event}
use Rattle.session_events.specs.declared.event.Event.TheVariants as event
use Rattle.generated_events.specs.Documents.{docno_of, generated, is_deleted, kept_documents, live_count, word, words_of}
use Rattle.generated_events.specs.Events.{addition, additions, asking, deletion, deletions, flushes, is_flushed, name, question, quiet_events, turnings, turns}
use Rattle.generated_events.specs.declared.generator.TheConstants.{MAX_GENERATED}
use Rattle.desk.specs.declared.reply.Refusal.{Refusal}
use Rattle.desk.specs.Asked.{asked}
use Rattle.desk.specs.State.{Merge, Query, State, named, with_live}
use Rattle.desk.specs.Step.{is_full, is_live, merge_step, open_step, query_step, step, turn_step}
use Rattle.desk.specs.Told.{Told}
use Rattle.desk.specs.declared.query.TheConstants.{MAX_QUERIES}
use Rattle.smoothing.specs.declared.rule.RuleKind.{RuleKind}
use Rattle.repository.specs.Stands.{empty_collection}
use Rattle.generated_events.specs.Left.{behind_deletions}
use Rattle.indri_app.specs.Generated.{gen_items}
use Rattle.indri_app.specs.Items.{state_behind, state_behind_all}
use Rattle.indri_app.specs.Sessions.{begun}
use Rattle.indri_app.proofs.GeneratedLists.{above-differs, below-differs, live-there, not-live, without-one}

-- the state behind events
abbrev behind : State → List Event → State
behind s [] = s
behind s (e ∷ es) = behind (step s e).0 es

behind-items : (s : State) (es : List Event) → state_behind_all s (map item.Event es) ≡ behind s es
unfolding state_behind_all state_behind
behind-items s [] = refl
behind-items s (e ∷ es) = behind-items (step s e).0 es

behind-append : (s : State) (xs ys : List Event) → behind s (xs ++ ys) ≡ behind (behind s xs) ys
behind-append s [] ys = refl
behind-append s (x ∷ xs) ys = behind-append (step s x).0 xs ys

-- ---- additions

-- so many documents were added, which are these
record IsFilled (limits : Limits) (count : ℕ) (docs : List Document) (s : State) : Type 0 where
  live : s.live ≡ docs
  documents : s.documents ≤ count
  tokens : s.tokens ≤ 4 * count
  limits_are : s.limits ≡ limits

few-words : (i : ℕ) → length (words_of i) ≤ 4
few-words i =
    let long = length-map-range_with_len (λ j. word (i + j)) 0 (2 + i % 3) in
    omega (arith, long)

has-room : (limits : Limits) (count : ℕ) (docs : List Document) (s : State) → AreReal limits → count < MAX_GENERATED → IsFilled limits count docs s → is_full s (generated count) ≡ false
has-room limits count docs s real few filled =
    let limits_are = filled.limits_are in
    let held : s.limits.held_docs ≡ limits.held_docs = ap (λ (l : Limits). l.held_docs) limits_are in
    let tokens : s.limits.held_tokens ≡ limits.held_tokens = ap (λ (l : Limits). l.held_tokens) limits_are in
    or_from (nat_lt s.limits.held_docs (s.documents + 1)) _
    (le-ltb s.limits.held_docs (s.documents + 1) (omega (arith, held, real.held_docs, few, filled.documents)))
    (le-ltb s.limits.held_tokens (s.tokens + length (words_of count)) (omega (arith, tokens, real.held_tokens, few, filled.tokens, few-words count)))

-- a document is added
add-live : (s : State) (d : Document) → is_live d.docno s.live ≡ false → is_full s d ≡ false → (step s (event.Document d)).0 ≡ with_live s (s.live ++ d ∷ []) (s.documents + 1) (s.tokens + length d.tokens)
unfolding step
add-live s d new room = rw (new, room) refl

add-filled : (limits : Limits) (count : ℕ) (done : List ℕ) (s : State) → AreReal limits → count < MAX_GENERATED → All (λ j. j < count) done → IsFilled limits count (map generated done) s
    → IsFilled limits (count + 1) (map generated (done ++ count ∷ [])) (step s (event.Document (generated count))).0
add-filled limits count done s real few below filled =
    let new : is_live (docno_of count) s.live ≡ false =
    ap (is_live (docno_of count)) filled.live ∙ not-live count (omega (arith, few)) done (below-differs count done (omega (arith, few)) below) in
    let made = add-live s (generated count) new (has-room limits count (map generated done) s real few filled) in
    subst (IsFilled limits (count + 1) (map generated (done ++ count ∷ []))) (sym made) (record {
      live = ap (λ ds. ds ++ generated count ∷ []) filled.live ∙ sym (map-append generated done (count ∷ []));
      documents = omega (arith, filled.documents);
      tokens = omega (arith, filled.tokens, few-words count);
      limits_are = filled.limits_are;
    })

-- a flush changes nothing
flush-same : (s : State) (b : Bool) (rest : List Event) → behind s ((if b then event.Flush ∷ [] else []) ++ rest) ≡ behind s rest
unfolding step
flush-same s true rest = refl
flush-same s false rest = refl

additions-live : (limits : Limits) (n k i : ℕ) (done : List ℕ) (s : State) → AreReal limits → i + k ≤ MAX_GENERATED → All (λ j. j < i) done → IsFilled limits i (map generated done) s
    → (behind s (flat_map (addition n) (range_with_len i k))).live ≡ map generated (done ++ range_with_len i k)
additions-live limits n zero i done s real few below filled = filled.live ∙ ap (map generated) (sym (append-nil done))
additions-live limits n (suc k) i done s real few below filled =
    ap (λ (t : State). t.live) (flush-same (step s (event.Document (generated i))).0 (is_flushed n i) (flat_map (addition n) (range_with_len (i + 1) k)))
    ∙ additions-live limits n k (i + 1) (done ++ i ∷ []) (step s (event.Document (generated i))).0 real (omega (arith, few))
    (All-push (λ j. j < i + 1) done i (All-weaker (λ j. j < i) (λ j. j < i + 1) (λ j h. omega (arith, h)) done below) (omega arith))
    (add-filled limits i done s real (omega (arith, few)) below filled)
    ∙ ap (map generated) (append_assoc done (i ∷ []) (range_with_len (i + 1) k))

-- ---- deletions

delete-live : (s : State) (docno : List ℕ) → is_live docno s.live ≡ true → (step s (event.Delete docno)).0 ≡ with_live s (without docno s.live) s.documents s.tokens
unfolding step
delete-live s docno there = rw there refl

abbrev stays : ℕ → Bool
stays i = not (is_deleted i)

module _ (i k : ℕ) (done : List ℕ) (s : State) (few : i + suc k ≤ 2 ^ 64) (below : All (λ j. j < i) done) (live : s.live ≡ map generated (done ++ range_with_len i (suc k))) where
  still-below : All (λ j. j < i + 1) done
  still-below = All-weaker (λ j. j < i) (λ j. j < i + 1) (λ j h. omega (arith, h)) done below

  deleted-live : (step s (deletion i)).0.live ≡ map generated (done ++ range_with_len (i + 1) k)
  deleted-live =
      let small : i < 2 ^ 64 = omega (arith, few) in
      let there : is_live (docno_of i) s.live ≡ true = ap (is_live (docno_of i)) live ∙ live-there i small done (range_with_len (i + 1) k) in
      ap (λ (t : State). t.live) (delete-live s (docno_of i) there) ∙ ap (without (docno_of i)) live
      ∙ without-one i small done (range_with_len (i + 1) k) (below-differs i done small below) (above-differs i (i + 1) k (omega arith) (omega (arith, few)))

-- what is left behind these is kept as their numbers say
abbrev Keeps : ℕ → ℕ → List ℕ → State → Type 0
Keeps k i done s = (behind s (map deletion (filter is_deleted (range_with_len i k)))).live ≡ map generated (done ++ filter stays (range_with_len i k))

abbrev KeepsAll : ℕ → ℕ → Type 0
KeepsAll k i = (done : List ℕ) (s : State) → i + k ≤ 2 ^ 64 → All (λ j. j < i) done → s.live ≡ map generated (done ++ range_with_len i k) → Keeps k i done s

one-more : (b : Bool) (k i : ℕ) → is_deleted i ≡ b → KeepsAll k (i + 1) → KeepsAll (suc k) i
one-more true k i e more done s few below live =
    ap (λ is. (behind s (map deletion is)).live) (cond-true (is_deleted i) _ _ e)
    ∙ more done (step s (deletion i)).0 (omega (arith, few)) (still-below i k done s few below live) (deleted-live i k done s few below live)
    ∙ ap (λ is. map generated (done ++ is)) (sym (cond-false (stays i) _ _ (not_from_true (is_deleted i) e)))
one-more false k i e more done s few below live =
    ap (λ is. (behind s (map deletion is)).live) (cond-false (is_deleted i) _ _ e)
    ∙ more (done ++ i ∷ []) s (omega (arith, few)) (All-push (λ j. j < i + 1) done i (still-below i k done s few below live) (omega arith))
    (live ∙ ap (map generated) (sym (append_assoc done (i ∷ []) (range_with_len (i + 1) k))))
    ∙ ap (map generated) (append_assoc done (i ∷ []) (filter stays (range_with_len (i + 1) k)))
    ∙ ap (λ is. map generated (done ++ is)) (sym (cond-true (stays i) _ _ (not_from_false (is_deleted i) e)))

deletions-live : (k i : ℕ) → KeepsAll k i
deletions-live zero i = λ done s few below live. live
deletions-live (suc k) i = one-more (is_deleted i) k i refl (deletions-live k (i + 1))

-- ---- the merge and the query

-- no document comes or goes with it
abbrev IsAsking : Event → Type 0
IsAsking event.Merge = Unit {0}
IsAsking (event.Turn docs) = Unit {0}
IsAsking (event.Open n k text) = Unit {0}
IsAsking (event.Step n docs) = Unit {0}
IsAsking e = ⊥

same-either : (docs : List Document) (b : Bool) (x y : State × Told) → x.0.live ≡ docs → y.0.live ≡ docs → (if b then x else y).0.live ≡ docs
same-either docs true x y a b = a
same-either docs false x y a b = b

merge-live : (s : State) (m : Option Merge) → (merge_step s m).0.live ≡ s.live
merge-live s None = refl
merge-live s (Some m) = refl

turn-live : (s : State) (docs : ℕ) (m : Option Merge) → (turn_step s docs m).0.live ≡ s.live
turn-live s docs None = refl
turn-live s docs (Some m) = same-either s.live (nat_lt (m.credit + docs) m.size) _ _ refl refl

open-live : (s : State) (n : List ℕ) (k : ℕ) (r : Result CheckedTree Refusal) → (open_step s n k r).0.live ≡ s.live
open-live s n k (Err why) = refl
open-live s n k (Ok q) = same-either s.live (is_some (named n s.queries)) _ _ refl (same-either s.live (nat_le MAX_QUERIES (length s.queries)) _ _ refl refl)

query-live : (s : State) (n : List ℕ) (docs : ℕ) (q : Option Query) → (query_step s n docs q).0.live ≡ s.live
query-live s n docs None = refl
query-live s n docs (Some q) = refl

asking-live : (s : State) (e : Event) → IsAsking e → (step s e).0.live ≡ s.live
unfolding step
asking-live s (event.Document d) asks = absurd asks
asking-live s (event.Delete docno) asks = absurd asks
asking-live s event.Flush asks = absurd asks
asking-live s event.Merge asks = merge-live s s.merge
asking-live s (event.Turn docs) asks = turn-live s docs s.merge
asking-live s (event.Open n k text) asks = open-live s n k (asked (names_with s.priors) text)
asking-live s (event.Step n docs) asks = query-live s n docs (named n s.queries)
asking-live s (event.Show n) asks = absurd asks
asking-live s (event.Explain n rank) asks = absurd asks
asking-live s (event.Scan text) asks = absurd asks
asking-live s (event.Close n) asks = absurd asks
asking-live s event.End asks = absurd asks

behind-live : (s : State) (es : List Event) → All IsAsking es → (behind s es).live ≡ s.live
behind-live s [] all = refl
behind-live s (e ∷ es) all = behind-live (step s e).0 es (All-tail IsAsking e es all) ∙ asking-live s e (All-head IsAsking e es all)

turnings-ask : (k : ℕ) → All IsAsking (turnings k)
turnings-ask zero = All-nil IsAsking
turnings-ask (suc k) = All-cons IsAsking (event.Turn 500) (turnings k) tt (turnings-ask k)

asking-asks : (n : ℕ) → All IsAsking (asking n)
asking-asks n =
    All-cons IsAsking question (event.Step name (live_count n) ∷ []) tt (All-cons IsAsking (event.Step name (live_count n)) [] tt (All-nil IsAsking))

-- ---- all events

new-filled : (limits : Limits) (kind : RuleKind) → IsFilled limits 0 [] (begun limits kind empty_collection)
new-filled limits kind = record { live = refl; documents = omega arith; tokens = omega arith; limits_are = refl }

pub made-live : (n : ℕ) (limits : Limits) (kind : RuleKind) → AreReal limits → n ≤ MAX_GENERATED → (state_behind_all (begun limits kind empty_collection) (gen_items n)).live ≡ kept_documents n
made-live n limits kind real few =
    let new = begun limits kind empty_collection in
    let filled = behind new (additions n) in
    let deleted = behind filled (deletions n) in
    ap (λ (t : State). t.live) (behind-items new (quiet_events n) ∙ behind-append new (additions n) (deletions n ++ behind_deletions n) ∙ behind-append filled (deletions n) (behind_deletions n))
    ∙ behind-live deleted (behind_deletions n) (All-cons IsAsking event.Merge (turnings (turns n) ++ asking n) tt (All-append IsAsking (turnings (turns n)) (asking n) (turnings-ask (turns n)) (asking-asks n)))
    ∙ deletions-live n 0 [] filled (omega (arith, few)) (All-nil (λ j. j < 0)) (additions-live limits n n 0 [] new real (omega (arith, few)) (All-nil (λ j. j < 0)) (new-filled limits kind))

-- ---- none of them ends the session

abbrev GoesOn : Item → Type 0
GoesOn i = is_end (Some i) ≡ false

abbrev GoesOnBehind : Event → Type 0
GoesOnBehind e = GoesOn (item.Event e)

flushes-go : (b : Bool) → All GoesOnBehind (if b then event.Flush ∷ [] else [])
flushes-go true = All-cons GoesOnBehind event.Flush [] refl (All-nil GoesOnBehind)
flushes-go false = All-nil GoesOnBehind

additions-go : (n : ℕ) (is : List ℕ) → All GoesOnBehind (flat_map (addition n) is)
additions-go n [] = All-nil GoesOnBehind
additions-go n (i ∷ is) =
    All-append GoesOnBehind (addition n i) (flat_map (addition n) is) (All-cons GoesOnBehind (event.Document (generated i)) (flushes n i) refl (flushes-go (is_flushed n i))) (additions-go n is)

deletions-go : (is : List ℕ) → All GoesOnBehind (map deletion is)
deletions-go [] = All-nil GoesOnBehind
deletions-go (i ∷ is) = All-cons GoesOnBehind (deletion i) (map deletion is) refl (deletions-go is)

turnings-go : (k : ℕ) → All GoesOnBehind (turnings k)
turnings-go zero = All-nil GoesOnBehind
turnings-go (suc k) = All-cons GoesOnBehind (event.Turn 500) (turnings k) refl (turnings-go k)

asking-goes : (n : ℕ) → All GoesOnBehind (asking n)
asking-goes n =
    All-cons GoesOnBehind question (event.Step name (live_count n) ∷ []) refl (All-cons GoesOnBehind (event.Step name (live_count n)) [] refl (All-nil GoesOnBehind))

events-go : (n : ℕ) → All GoesOnBehind (quiet_events n)
events-go n =
    All-append GoesOnBehind (additions n) (deletions n ++ behind_deletions n) (additions-go n (range_with_len 0 n))
    (All-append GoesOnBehind (deletions n) (behind_deletions n) (deletions-go (filter is_deleted (range_with_len 0 n)))
    (All-cons GoesOnBehind event.Merge (turnings (turns n) ++ asking n) refl (All-append GoesOnBehind (turnings (turns n)) (asking n) (turnings-go (turns n)) (asking-goes n))))

goes-at : (done left : List Item) (i : Item) → All GoesOn (done ++ i ∷ left) → GoesOn i
goes-at [] left i all = All-head GoesOn i left all
goes-at (x ∷ done) left i all = goes-at done left i (All-tail GoesOn x (done ++ i ∷ left) all)

pub goes-next : (n : ℕ) (done left : List Item) (i : Item) → done ++ i ∷ left ≡ gen_items n → is_end (Some i) ≡ false
goes-next n done left i are = goes-at done left i (subst (All GoesOn) (sym are) (All-map GoesOn item.Event (quiet_events n) (events-go n)))
