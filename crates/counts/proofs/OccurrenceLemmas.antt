-- What is counted in a document as a whole.
use Rattle.std.proofs.Common.{◌≡◌, ◌≤◌, ℕ, List, [], ◌∷◌, filter, length, sum_by, Option, None, Some, refl, sym, ap, subst, ◌∙◌, arith}
use Rattle.std.proofs.lemmas.List.Sums.{sum_by-cons}
use Rattle.ri_base.specs.Collection.{token_count}
use Rattle.ri_base.specs.Documents.{Document, Field}
use Rattle.ri_base.specs.Expression.{ExprTree}
use Rattle.ri_base.specs.Pair.{Pair}
use Rattle.field_extents.specs.Extents.{begin_count}
use Rattle.field_extents.specs.Fields.{covered_count, lies_in_some}
use Rattle.extent_lists.specs.Pairs.{pair}
use Rattle.extent_evaluation.specs.Counts.{whole}
use Rattle.extent_evaluation.specs.Listed.{extent_list}
use Rattle.counts.specs.Sums.{counted_tokens, occurrences}

-- ---- how often an expression occurs

pub plain_occurs : (x : ExprTree) (d : Document) (context : Option (List ℕ)) (found : List Pair) (n count : ℕ) → context ≡ None → found ≡ extent_list x d → n ≡ length d.tokens
    → count ≡ begin_count found (pair 0 n) → count ≡ occurrences x context d
plain_occurs x d context found n count is listed tokens counted =
    counted ∙ ap (λ m. begin_count found (pair 0 m)) tokens ∙ ap (λ xs. begin_count xs (whole d)) listed ∙ sym (ap (λ c. occurrences x c d) is)

pub inside_occurs : (x : ExprTree) (d : Document) (context : Option (List ℕ)) (name : List ℕ) (found kept : List Pair) (fields : List Field) (n count : ℕ) → context ≡ Some name → found ≡ extent_list x d
    → fields ≡ d.fields → kept ≡ filter (lies_in_some fields name) found → n ≡ length d.tokens → count ≡ begin_count kept (pair 0 n) → count ≡ occurrences x context d
inside_occurs x d context name found kept fields n count is listed same exact tokens counted =
    counted ∙ ap (λ m. begin_count kept (pair 0 m)) tokens
    ∙ ap (λ xs. begin_count xs (whole d)) (exact ∙ ap (λ (fs : List Field). filter (lies_in_some fs name) found) same ∙ ap (filter (lies_in_some d.fields name)) listed)
    ∙ sym (ap (λ c. occurrences x c d) is)

-- ---- it occurs no more often than tokens count

pub plain_few : (d : Document) (context : Option (List ℕ)) (n count : ℕ) → context ≡ None → n ≡ length d.tokens → count ≤ n → count ≤ counted_tokens context d
plain_few d context n count is tokens few = subst (λ c. count ≤ counted_tokens c d) (sym is) (omega (arith, tokens, few))

pub inside_few : (d : Document) (context : Option (List ℕ)) (name : List ℕ) (kept : List Pair) (fields : List Field) (n count : ℕ) → context ≡ Some name → fields ≡ d.fields → n ≡ length d.tokens
    → count ≡ begin_count kept (pair 0 n) → ((w : Pair) → begin_count kept w ≤ covered_count fields name w) → count ≤ counted_tokens context d
inside_few d context name kept fields n count is same tokens counted few =
    let first : count ≤ covered_count fields name (pair 0 n) = omega (arith, counted, few (pair 0 n)) in
    let here : count ≤ covered_count fields name (whole d) = subst (λ m. count ≤ covered_count fields name (pair 0 m)) tokens first in
    let own : count ≤ covered_count d.fields name (whole d) = subst (λ (fs : List Field). count ≤ covered_count fs name (whole d)) same here in
    subst (λ c. count ≤ counted_tokens c d) (sym is) own

-- ---- how many tokens count

pub covered_none : (d : Document) (name : List ℕ) (n : ℕ) → n ≡ 0 → n ≡ length d.tokens → 0 ≡ counted_tokens (Some name) d
covered_none d name n none tokens = sym (ap (λ m. covered_count d.fields name (pair 0 m)) (sym tokens ∙ none))

pub covered_is : (d : Document) (name : List ℕ) (fields : List Field) (n count : ℕ) (window : Pair) → fields ≡ d.fields → n ≡ length d.tokens → window ≡ pair 0 n
    → count ≡ covered_count fields name window → count ≡ counted_tokens (Some name) d
covered_is d name fields n count window same tokens is exact =
    exact ∙ ap (covered_count fields name) is ∙ ap (λ m. covered_count fields name (pair 0 m)) tokens ∙ ap (λ (fs : List Field). covered_count fs name (whole d)) same

-- without a context all tokens
pub all_counted : (docs : List Document) → sum_by (counted_tokens None) docs ≡ token_count docs
all_counted [] = refl
all_counted (d ∷ docs) =
    let rest = all_counted docs in
    omega (arith, rest, sum_by-cons (counted_tokens None) d docs, sum_by-cons (λ (e : Document). length e.tokens) d docs)
