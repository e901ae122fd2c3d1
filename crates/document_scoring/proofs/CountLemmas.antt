-- What is found of leaves in a document, and what is counted of them.
use Rattle.std.proofs.Common.{◌≡◌, ◌<◌, ◌≤◌, ◌+◌, ◌-◌, ℕ, List, [], ◌∷◌, ◌++◌, length, map, filter, take, Option, None, Some, IfSome, get_or, refl, sym, ap, subst, ◌∙◌, arith}
use Rattle.std.proofs.lemmas.List.{get_or-map, length-map, map-append, take_more}
use Rattle.ri_base.specs.Collection.{document_at}
use Rattle.ri_base.specs.Documents.{Document, Field}
use Rattle.ri_base.specs.Expression.{ExprTree, expr_tree}
use Rattle.ri_base.specs.Pair.{Pair}
use Rattle.ri_base.specs.declared.expression.ExtentExpr.{ExtentExpr}
use Rattle.field_extents.specs.Extents.{AreInOrder, begin_count}
use Rattle.field_extents.specs.Fields.{covered_count, lies_in_some}
use Rattle.field_extents.proofs.Laws.{AreInOrder-filter}
use Rattle.extent_evaluation.specs.Listed.{extent_list}
use Rattle.query_check.specs.Leaves.{LeafTree, leaf_tree}
use Rattle.query_check.specs.declared.leaf_kind.LeafKind.{LeafKind}
use Rattle.query_check.specs.declared.leaf_kind.LeafKind.TheVariants.{Extents, Prior}
use Rattle.document_scoring.specs.Counters.{IsFewer, IsFound, found_count}
use Rattle.document_scoring.specs.Counts.{count_in, counted}
use Rattle.document_scoring.specs.declared.found.LeafExtents.{LeafExtents}

-- ---- what is found of one leaf

pub prior_is : (leaf : LeafKind) (n : ℕ) (d : Document) (w : Pair) → leaf ≡ Prior n → record { tf = 0; len = 0 } ≡ count_in d w (leaf_tree leaf)
prior_is leaf n d w is = sym (ap (λ (l : LeafKind). count_in d w (leaf_tree l)) is)

-- an expression without a context
pub plain_is : (leaf : LeafKind) (expr : ExtentExpr) (context : Option (List ℕ)) (d : Document) (w : Pair) (found : List Pair) → leaf ≡ Extents expr context → context ≡ None
    → found ≡ counted (expr_tree expr) d context → record { tf = begin_count found w; len = w.end - w.begin } ≡ count_in d w (leaf_tree leaf)
plain_is leaf expr context d w found is none exact =
    let whole : leaf ≡ Extents expr None = is ∙ ap (Extents expr) none in
    let here : found ≡ counted (expr_tree expr) d None = exact ∙ ap (counted (expr_tree expr) d) none in
    ap (λ xs. record { tf = begin_count xs w; len = w.end - w.begin }) here ∙ sym (ap (λ (l : LeafKind). count_in d w (leaf_tree l)) whole)

-- an expression with a context
pub inside_is : (leaf : LeafKind) (expr : ExtentExpr) (context : Option (List ℕ)) (name : List ℕ) (d : Document) (w : Pair) (found : List Pair) → leaf ≡ Extents expr context → context ≡ Some name
    → found ≡ counted (expr_tree expr) d context → record { tf = begin_count found w; len = covered_count d.fields name w } ≡ count_in d w (leaf_tree leaf)
inside_is leaf expr context name d w found is some exact =
    let whole : leaf ≡ Extents expr (Some name) = is ∙ ap (Extents expr) some in
    let here : found ≡ counted (expr_tree expr) d (Some name) = exact ∙ ap (counted (expr_tree expr) d) some in
    ap (λ xs. record { tf = begin_count xs w; len = covered_count d.fields name w }) here ∙ sym (ap (λ (l : LeafKind). count_in d w (leaf_tree l)) whole)

-- ---- the extents that count

pub counted_all : (x : ExprTree) (d : Document) (context : Option (List ℕ)) (found : List Pair) → context ≡ None → found ≡ extent_list x d → found ≡ counted x d context
counted_all x d context found is listed = rw (is, listed) refl

pub counted_in : (x : ExprTree) (d : Document) (context : Option (List ℕ)) (name : List ℕ) (found kept : List Pair) (fields : List Field)
    → context ≡ Some name → found ≡ extent_list x d → fields ≡ d.fields → kept ≡ filter (lies_in_some fields name) found → kept ≡ counted x d context
counted_in x d context name found kept fields is listed same exact = rw (is, exact, same, listed) refl

pub few_none : (context : Option (List ℕ)) (found : List Pair) (fields : List Field) → context ≡ None → IfSome context (IsFewer found fields)
few_none context found fields is = rw is tt

pub few_some : (context : Option (List ℕ)) (name : List ℕ) (kept : List Pair) (fields : List Field) → context ≡ Some name → IsFewer kept fields name → IfSome context (IsFewer kept fields)
few_some context name kept fields is few = rw is few

pub few_of : (context : Option (List ℕ)) (name : List ℕ) (kept : List Pair) (fields : List Field) → context ≡ Some name → IfSome context (IsFewer kept fields) → IsFewer kept fields name
few_of context name kept fields is few = rw is at few

-- the extents in fields of a name, and that no more of them begin than these fields cover
pub inside_found : (found kept : List Pair) (fields same : List Field) (name : List ℕ) → AreInOrder found → kept ≡ filter (lies_in_some fields name) found
    → ((w : Pair) → begin_count kept w ≤ covered_count fields name w) → fields ≡ same → AreInOrder kept × IsFewer kept same name
inside_found found kept fields same name in_order is few here =
    (subst AreInOrder (sym is) (AreInOrder-filter (lies_in_some fields name) found in_order), λ w. subst (λ (fs : List Field). begin_count kept w ≤ covered_count fs name w) here (few w))

-- ---- one more element in two lists that two functions take to the same

pub next_same : {X Y Z : Type 0} (f : X → Z) (g : Y → Z) (xs : List X) (ys : List Y) (i : ℕ) (x : X) (y : Y) → i < length ys → y ≡ get_or ys i y
    → map f xs ≡ map g (take i ys) → f x ≡ g y → map f (xs ++ x ∷ []) ≡ map g (take (i + 1) ys)
next_same f g xs ys i x y inside is so_far here =
    let more : take (i + 1) ys ≡ take i ys ++ y ∷ [] = take_more ys i y inside ∙ ap (λ e. take i ys ++ e ∷ []) (sym is) in
    map-append f xs (x ∷ [])
    ∙ ap (λ zs. zs ++ f x ∷ []) so_far
    ∙ ap (λ z. map g (take i ys) ++ z ∷ []) here
    ∙ sym (ap (map g) more ∙ map-append g (take i ys) (y ∷ []))

-- one more of what a function takes a list to
pub next_counted : {X Y : Type 0} (f : X → Y) (xs : List X) (all counts : List Y) (i : ℕ) (x : X) (n : Y) → i < length xs → x ≡ get_or xs i x → map f xs ≡ all → counts ≡ take i all → n ≡ f x → counts ++ n ∷ [] ≡ take (i + 1) all
next_counted f xs all counts i x n inside is same so_far here =
    let long : length all ≡ length xs = sym (ap length same) ∙ length-map xs f in
    let there : get_or all i n ≡ n = ap (λ ns. get_or ns i n) (sym same) ∙ get_or-map f xs i x n inside ∙ ap f (sym is) ∙ sym here in
    ap (λ ns. ns ++ n ∷ []) so_far ∙ sym (take_more all i n (omega (arith, long, inside)) ∙ ap (λ m. take i all ++ m ∷ []) there)

-- what is found in a document is found in it as it was before
pub found_stays : (docs read : List Document) (id : ℕ) (w : Pair) (leaf : LeafTree) (x : LeafExtents) → read ≡ docs → found_count (document_at read id).fields w x ≡ count_in (document_at read id) w leaf
    → found_count (document_at docs id).fields w x ≡ count_in (document_at docs id) w leaf
found_stays docs read id w leaf x same h = subst (λ (ds : List Document). found_count (document_at ds id).fields w x ≡ count_in (document_at ds id) w leaf) same h

pub IsFound-stays : (docs read : List Document) (id : ℕ) (x : LeafExtents) → read ≡ docs → IsFound (document_at read id).fields x → IsFound (document_at docs id).fields x
IsFound-stays docs read id x same h = subst (λ (ds : List Document). IsFound (document_at ds id).fields x) same h
