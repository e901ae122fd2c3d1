-- How much stays, document by document.
use Rattle.std.proofs.Common.{◌≡◌, ◌+◌, ◌∙◌, ◌++◌, ℕ, Bool, true, false, [], ◌∷◌, cond, length, map, sym, ap, arith}
use Rattle.std.specs.Prelude.{◌%◌, not}
use Rattle.std.specs.List.{filter, range_with_len}
use Rattle.std.proofs.lemmas.Bool.{cond-false, cond-true, not_from_false, not_from_true}
use Rattle.std.proofs.lemmas.List.{append-nil, length-append, map-append, map-id}
use Rattle.std.proofs.lemmas.List.FromFn.{filter_of_map_range_with_len_more, length-map-range_with_len}
use Rattle.std.proofs.lemmas.List.Sums.{sum_by-append}
use Rattle.ri_base.specs.Collection.{token_count}
use Rattle.ri_base.specs.Documents.{Document}
use Rattle.generated_events.specs.Documents.{generated, is_deleted, kept, kept_documents, live_count, live_tokens, words_of, word}

abbrev stays : ℕ → Bool
stays i = not (is_deleted i)

kept-more : (i : ℕ) → kept (i + 1) ≡ kept i ++ cond (stays i) (i ∷ []) []
kept-more i =
    ap (filter stays) (sym (map-id (range_with_len 0 (i + 1)))) ∙ filter_of_map_range_with_len_more stays (λ (x : ℕ). x) 0 i i (omega arith)
    ∙ ap (λ xs. filter stays xs ++ cond (stays i) (i ∷ []) []) (map-id (range_with_len 0 i))

kept-one : (i : ℕ) → is_deleted i ≡ false → kept (i + 1) ≡ kept i ++ i ∷ []
kept-one i e = kept-more i ∙ ap (λ xs. kept i ++ xs) (cond-true (stays i) (i ∷ []) [] (not_from_false (is_deleted i) e))

pub kept-none : (i : ℕ) → is_deleted i ≡ true → kept (i + 1) ≡ kept i
kept-none i e = kept-more i ∙ ap (λ xs. kept i ++ xs) (cond-false (stays i) (i ∷ []) [] (not_from_true (is_deleted i) e)) ∙ append-nil (kept i)

documents-one : (i : ℕ) → is_deleted i ≡ false → kept_documents (i + 1) ≡ kept_documents i ++ generated i ∷ []
documents-one i e = ap (map generated) (kept-one i e) ∙ map-append generated (kept i) (i ∷ [])

pub live_more : (i : ℕ) → is_deleted i ≡ false → live_count (i + 1) ≡ live_count i + 1
live_more i e = ap length (documents-one i e) ∙ length-append (kept_documents i) (generated i ∷ [])

pub live_same : (i : ℕ) → is_deleted i ≡ true → live_count (i + 1) ≡ live_count i
live_same i e = ap (λ is. length (map generated is)) (kept-none i e)

words-length : (i : ℕ) → length (words_of i) ≡ 2 + i % 3
words-length i = length-map-range_with_len (λ j. word (i + j)) 0 (2 + i % 3)

pub tokens_more : (i : ℕ) → is_deleted i ≡ false → live_tokens (i + 1) ≡ live_tokens i + (2 + i % 3)
tokens_more i e =
    let long = words-length i in
    let one : 0 + length (words_of i) ≡ 2 + i % 3 = omega (arith, long) in
    ap token_count (documents-one i e) ∙ sum_by-append (λ (d : Document). length d.tokens) (kept_documents i) (generated i ∷ []) ∙ ap (λ n. token_count (kept_documents i) + n) one

pub tokens_same : (i : ℕ) → is_deleted i ≡ true → live_tokens (i + 1) ≡ live_tokens i
tokens_same i e = ap (λ is. token_count (map generated is)) (kept-none i e)
