-- Which documents pass the filters of a query.
use Rattle.std.proofs.Common.{◌≡◌, ◌<◌, ◌+◌, ℕ, Bool, true, false, not, if◌then◌else◌, Option, List, [], ◌∷◌, length, map, get_or, slice_get, take, refl, sym, ap, ◌∙◌, arith}
use Rattle.std.proofs.Math.Bool.{beq}
use Rattle.std.specs.List.{list_all}
use Rattle.std.specs.Option.{is_some}
use Rattle.std.proofs.lemmas.Bool.{and_from}
use Rattle.std.proofs.lemmas.List.{get_or-map, length-map, take_more}
use Rattle.std.proofs.lemmas.List.Folds.{list_all-append, list_all-map, list_all_at}
use Rattle.ri_base.specs.Collection.{document_at}
use Rattle.ri_base.specs.Documents.{Document}
use Rattle.ri_base.specs.Pair.{Pair}
use Rattle.ri_base.specs.Query.{FilterTree, filter_tree}
use Rattle.ri_base.specs.declared.query.Filter.{Filter}
use Rattle.extent_evaluation.specs.Listed.{extent_list}
use Rattle.document_scoring.specs.Candidates.{has_some, passes}

-- a list has a first extent where it has some
first_tells : (xs : List Pair) → is_some (slice_get xs 0) ≡ has_some xs
first_tells [] = refl
first_tells (x ∷ xs) = refl

is_kept : (some keep : Bool) → beq some keep ≡ (if keep then some else not some)
is_kept true true = refl
is_kept true false = refl
is_kept false true = refl
is_kept false false = refl

pub passes_is : (d : Document) (f : FilterTree) (found : List Pair) (first : Option Pair) (some : Bool) → some ≡ is_some first → first ≡ slice_get found 0
    → found ≡ extent_list f.expr d → beq some f.keep ≡ passes d f
passes_is d f found first some told is listed =
    let here : some ≡ has_some (extent_list f.expr d) = told ∙ ap is_some is ∙ first_tells found ∙ ap has_some listed in
    ap (λ b. beq b f.keep) here ∙ is_kept (has_some (extent_list f.expr d)) f.keep

-- not all pass where one doesn't
pub not_all_pass : (docs read : List Document) (id : ℕ) (filters : List Filter) (i : ℕ) (f : Filter) (passed : Bool) → read ≡ docs → i < length filters → f ≡ get_or filters i f
    → passed ≡ passes (document_at read id) (filter_tree f) → passed ≡ false → false ≡ list_all (passes (document_at docs id)) (map filter_tree filters)
not_all_pass docs read id filters i f passed same inside is tested fails =
    let here : passes (document_at docs id) (filter_tree f) ≡ false = ap (λ (ds : List Document). passes (document_at ds id) (filter_tree f)) (sym same) ∙ sym tested ∙ fails in
    let long : length (map filter_tree filters) ≡ length filters = length-map filters filter_tree in
    let there : get_or (map filter_tree filters) i (filter_tree f) ≡ filter_tree f = get_or-map filter_tree filters i f (filter_tree f) inside ∙ ap filter_tree (sym is) in
    sym (list_all_at (passes (document_at docs id)) (map filter_tree filters) i (filter_tree f) (omega (arith, long, inside)) (ap (passes (document_at docs id)) there ∙ here))

-- one filter more is passed
pub all_pass_more : (docs read : List Document) (id : ℕ) (filters : List Filter) (i : ℕ) (f : Filter) (passed : Bool) → read ≡ docs → i < length filters → f ≡ get_or filters i f
    → passed ≡ passes (document_at read id) (filter_tree f) → passed ≡ true → list_all (passes (document_at docs id)) (map filter_tree (take i filters)) ≡ true
    → list_all (passes (document_at docs id)) (map filter_tree (take (i + 1) filters)) ≡ true
all_pass_more docs read id filters i f passed same inside is tested holds so_far =
    let d = document_at docs id in
    let here : passes d (filter_tree f) ≡ true = ap (λ (ds : List Document). passes (document_at ds id) (filter_tree f)) (sym same) ∙ sym tested ∙ holds in
    let last : passes d (filter_tree (get_or filters i f)) ≡ true = ap (λ (x : Filter). passes d (filter_tree x)) (sym is) ∙ here in
    let front = sym (list_all-map (passes d) filter_tree (take i filters)) ∙ so_far in
    list_all-map (passes d) filter_tree (take (i + 1) filters)
    ∙ ap (list_all (λ x. passes d (filter_tree x))) (take_more filters i f inside)
    ∙ list_all-append (λ x. passes d (filter_tree x)) (take i filters) (get_or filters i f ∷ [])
    ∙ and_from _ _ front (and_from _ _ last refl)
