-- What a generator has left, stage by stage.
use Rattle.std.proofs.Common.{◌≡◌, ◌<◌, ◌≤◌, ◌+◌, ◌-◌, ℕ, zero, suc, true, false, [], ◌∷◌, ◌++◌, map, refl, sym, ap, ◌∙◌, arith}
use Rattle.std.specs.Prelude.{◌%◌, ◌==◌, flat_map}
use Rattle.std.specs.List.{filter, range_with_len}
use Rattle.std.proofs.Math.Arith.{lt_of_le-ne}
use Rattle.std.proofs.lemmas.Bool.{cond-false, cond-true, eqb-false, eqb-true, ne_eqb, or_parts}
use Rattle.session_events.specs.declared.event.Event.TheVariants as event
use Rattle.generated_events.specs.Documents.{generated, is_deleted, live_count}
use Rattle.generated_events.specs.Events.{addition, asking, deletion, deletions, flushes, is_flushed, name, question, quiet_events, turnings, turns}
use Rattle.generated_events.specs.Left.{additions_from, behind_additions, behind_deletions, deletions_from, events_left}
use Rattle.generated_events.specs.declared.generator.Stage.TheVariants as stage

-- ---- documents

range-first : (n i : ℕ) → i < n → range_with_len i (n - i) ≡ i ∷ range_with_len (i + 1) (n - (i + 1))
range-first n i h =
    let one : n - i ≡ suc (n - (i + 1)) = omega (arith, h) in
    ap (range_with_len i) one

additions-first : (n i : ℕ) → i < n → additions_from n i ≡ addition n i ++ additions_from n (i + 1)
additions-first n i h = ap (flat_map (addition n)) (range-first n i h)

additions-none : (n i : ℕ) → n ≤ i → additions_from n i ≡ []
additions-none n i h =
    let none : n - i ≡ 0 = omega (arith, h) in
    ap (λ k. flat_map (addition n) (range_with_len i k)) none

flushed : (n i : ℕ) → is_flushed n i ≡ true → flushes n i ≡ event.Flush ∷ []
flushed n i e = rw e refl

not-flushed : (n i : ℕ) → is_flushed n i ≡ false → flushes n i ≡ []
not-flushed n i e = rw e refl

pub not_last : (n i : ℕ) → i < n → is_flushed n i ≡ false → i + 1 < n
not_last n i h e =
    let other = eqb-false (i + 1) n (or_parts ((i + 1) % 1000 == 0) (i + 1 == n) e).1 in
    lt_of_le-ne (omega (arith, h)) other

pub left_all : (n : ℕ) → events_left n (stage.Document 0) ≡ quiet_events n
unfolding events_left
left_all n =
    let all : n - 0 ≡ n = omega arith in
    ap (λ k. flat_map (addition n) (range_with_len 0 k) ++ behind_additions n) all

pub left_flushed : (n i : ℕ) → i < n → is_flushed n i ≡ true → events_left n (stage.Document i) ≡ event.Document (generated i) ∷ events_left n (stage.Flush i)
unfolding events_left
left_flushed n i h e =
    ap (λ es. es ++ behind_additions n) (additions-first n i h ∙ ap (λ fs. (event.Document (generated i) ∷ fs) ++ additions_from n (i + 1)) (flushed n i e))

pub left_document : (n i : ℕ) → i < n → is_flushed n i ≡ false → events_left n (stage.Document i) ≡ event.Document (generated i) ∷ events_left n (stage.Document (i + 1))
unfolding events_left
left_document n i h e =
    ap (λ es. es ++ behind_additions n) (additions-first n i h ∙ ap (λ fs. (event.Document (generated i) ∷ fs) ++ additions_from n (i + 1)) (not-flushed n i e))

pub left_flush : (n i : ℕ) → events_left n (stage.Flush i) ≡ event.Flush ∷ events_left n (stage.Document (i + 1))
unfolding events_left
left_flush n i = refl

-- ---- deletions

is-third : (i : ℕ) → is_deleted i ≡ true → i % 3 ≡ 1
is-third i e = eqb-true (i % 3) 1 e

next-stays : (i : ℕ) → is_deleted i ≡ true → is_deleted (i + 1) ≡ false
next-stays i e =
    let third = is-third i e in
    ne_eqb ((i + 1) % 3) 1 (λ h. omega (arith, third, h))

second-stays : (i : ℕ) → is_deleted i ≡ true → is_deleted (i + 1 + 1) ≡ false
second-stays i e =
    let third = is-third i e in
    ne_eqb ((i + 1 + 1) % 3) 1 (λ h. omega (arith, third, h))

pub third_is : (i : ℕ) → is_deleted i ≡ true → is_deleted (i + 3) ≡ true
third_is i e =
    let third = is-third i e in
    let same : (i + 3) % 3 ≡ i % 3 = omega (arith, third) in
    ap (λ k. k == 1) same ∙ e

filter-none : (i : ℕ) → is_deleted i ≡ false → (k : ℕ) → filter is_deleted (range_with_len i (suc k)) ≡ filter is_deleted (range_with_len (i + 1) k)
filter-none i e k = cond-false (is_deleted i) _ _ e

filter-first : (i k : ℕ) → is_deleted i ≡ true → filter is_deleted (range_with_len i (suc k)) ≡ i ∷ filter is_deleted (range_with_len (i + 1) k)
filter-first i k e = cond-true (is_deleted i) _ _ e

filter-behind : (i k : ℕ) → is_deleted i ≡ true → filter is_deleted (range_with_len (i + 1) k) ≡ filter is_deleted (range_with_len (i + 3) (k - 2))
filter-behind i zero e =
    let none : zero - 2 ≡ zero = omega arith in
    ap (λ j. filter is_deleted (range_with_len (i + 3) j)) (sym none)
filter-behind i (suc zero) e =
    let none : suc zero - 2 ≡ zero = omega arith in
    filter-none (i + 1) (next-stays i e) zero ∙ ap (λ j. filter is_deleted (range_with_len (i + 3) j)) (sym none)
filter-behind i (suc (suc k)) e =
    let three : i + 1 + 1 + 1 ≡ i + 3 = omega arith in
    let less : suc (suc k) - 2 ≡ k = omega arith in
    filter-none (i + 1) (next-stays i e) (suc k) ∙ filter-none (i + 1 + 1) (second-stays i e) k ∙ ap (λ j. filter is_deleted (range_with_len j k)) three
    ∙ ap (λ j. filter is_deleted (range_with_len (i + 3) j)) (sym less)

deletions-first : (n i : ℕ) → i < n → is_deleted i ≡ true → deletions_from n i ≡ deletion i ∷ deletions_from n (i + 3)
deletions-first n i h e =
    let one : n - i ≡ suc (n - (i + 1)) = omega (arith, h) in
    let two : n - (i + 1) - 2 ≡ n - (i + 3) = omega arith in
    ap (map deletion) (ap (λ k. filter is_deleted (range_with_len i k)) one ∙ filter-first i (n - (i + 1)) e
    ∙ ap (λ is. i ∷ is) (filter-behind i (n - (i + 1)) e ∙ ap (λ k. filter is_deleted (range_with_len (i + 3) k)) two))

deletions-none : (n i : ℕ) → n ≤ i → deletions_from n i ≡ []
deletions-none n i h =
    let none : n - i ≡ 0 = omega (arith, h) in
    ap (λ k. map deletion (filter is_deleted (range_with_len i k))) none

pub left_deletion : (n i : ℕ) → i < n → is_deleted i ≡ true → events_left n (stage.Deletion i) ≡ deletion i ∷ events_left n (stage.Deletion (i + 3))
unfolding events_left
left_deletion n i h e = ap (λ es. es ++ behind_deletions n) (deletions-first n i h e)

pub left_last : (n i : ℕ) → i < n → n ≤ i + 3 → is_deleted i ≡ true → events_left n (stage.Deletion i) ≡ deletion i ∷ events_left n stage.Merge
unfolding events_left
left_last n i h most e = ap (λ es. es ++ behind_deletions n) (deletions-first n i h e ∙ ap (λ es. deletion i ∷ es) (deletions-none n (i + 3) most))

-- behind the last document: the first isn't deleted
all-from : (n : ℕ) → 1 ≤ n → deletions n ≡ deletions_from n 1
all-from n h =
    let one : n ≡ suc (n - 1) = omega (arith, h) in
    ap (λ k. map deletion (filter is_deleted (range_with_len 0 k))) one

pub left_deletions : (n i : ℕ) → 1 ≤ n → n ≤ i + 1 → events_left n (stage.Flush i) ≡ event.Flush ∷ events_left n (stage.Deletion 1)
unfolding events_left
left_deletions n i some last =
    ap (λ es. event.Flush ∷ (es ++ behind_additions n)) (additions-none n (i + 1) last) ∙ ap (λ es. event.Flush ∷ (es ++ behind_deletions n)) (all-from n some)

pub left_none : (n i : ℕ) → n ≤ 1 → 1 ≤ n → n ≤ i + 1 → events_left n (stage.Flush i) ≡ event.Flush ∷ events_left n stage.Merge
unfolding events_left
left_none n i few some last =
    ap (λ es. event.Flush ∷ (es ++ behind_additions n)) (additions-none n (i + 1) last) ∙ ap (λ es. event.Flush ∷ (es ++ behind_deletions n)) (all-from n some ∙ deletions-none n 1 few)

-- ---- the merge

-- the first document stays
pub some_live : (n : ℕ) → 1 ≤ n → 1 ≤ live_count n
some_live zero h = absurd (omega (arith, h))
some_live (suc n) h = omega arith

pub some_turn : (n : ℕ) → 1 ≤ n → 1 ≤ turns n
some_turn n h = omega (arith, some_live n h)

pub left_merge : (n k : ℕ) → k ≡ turns n → events_left n stage.Merge ≡ event.Merge ∷ events_left n (stage.Turn k)
unfolding events_left
left_merge n k e = ap (λ j. event.Merge ∷ (turnings j ++ asking n)) (sym e)

pub left_turn : (n k : ℕ) → 1 ≤ k → events_left n (stage.Turn k) ≡ event.Turn 500 ∷ events_left n (stage.Turn (k - 1))
unfolding events_left
left_turn n k h =
    let one : k ≡ suc (k - 1) = omega (arith, h) in
    ap (λ j. turnings j ++ asking n) one

pub left_last_turn : (n : ℕ) → events_left n (stage.Turn 1) ≡ event.Turn 500 ∷ events_left n stage.Question
unfolding events_left
left_last_turn n = refl

-- ---- the query

pub left_question : (n : ℕ) → events_left n stage.Question ≡ question ∷ events_left n stage.Step
unfolding events_left
left_question n = refl

pub left_step : (n : ℕ) → events_left n stage.Step ≡ event.Step name (live_count n) ∷ events_left n stage.Ended
unfolding events_left
left_step n = refl

pub left_none_more : (n : ℕ) → events_left n stage.Ended ≡ []
unfolding events_left
left_none_more n = refl
