-- Terms that are needed, leaf by leaf, and their counts, term by term.
use Rattle.std.proofs.Common.{◌≡◌, ◌<◌, ◌≤◌, ◌+◌, ◌∙◌, ◌++◌, ◌∷◌, [], ℕ, List, length, map, take, get_or, zero, suc, false, refl, sym, ap, subst, ⊎_elim, arith}
use Rattle.std.specs.Prelude.{Contains}
use Rattle.std.specs.List.{AllZip}
use Rattle.std.specs.Str.{bytes_eq}
use Rattle.std.proofs.lemmas.Bool.{both_ways}
use Rattle.std.proofs.lemmas.List.{map-append, take_all, take_more}
use Rattle.std.proofs.lemmas.List.Elements.{All-push, Contains-append_cases}
use Rattle.std.proofs.lemmas.Slice.Eq.{bytes_eq-Decides}
use Rattle.ri_base.specs.Documents.{Document}
use Rattle.ri_base.specs.Expression.{expr_tree, expr_trees}
use Rattle.ri_base.specs.declared.expression.ExtentExpr.{ExtentExpr}
use Rattle.query_check.specs.Leaves.{leaf_tree}
use Rattle.query_check.specs.declared.leaf_kind.LeafKind.{LeafKind}
use Rattle.expression_words.specs.Words.{all_asked_by, all_words, itself, nothing, words}
use Rattle.expression_words.proofs.WordLemmas.{told_more}
use Rattle.range_tables.specs.Needs.{IsIdle, IsIdleIn}

-- ---- counts

zip_push : {X Y : Type 0} (R : X → Y → Type 0) (xs : List X) (ys : List Y) (x : X) (y : Y) → AllZip R xs ys → R x y → AllZip R (xs ++ x ∷ []) (ys ++ y ∷ [])
zip_push R [] [] x y h k = (k, tt)
zip_push R [] (z ∷ zs) x y h k = absurd h
zip_push R (v ∷ vs) [] x y h k = absurd h
zip_push R (v ∷ vs) (z ∷ zs) x y h k = (h.0, zip_push R vs zs x y h.1 k)

-- one term more
pub counts_more : (R : List ℕ → ℕ → Type 0) (terms : List (List ℕ)) (i : ℕ) (t : List ℕ) (counts now : List ℕ) (n : ℕ) → i < length terms → t ≡ get_or terms i t → now ≡ counts ++ n ∷ []
    → AllZip R (take i terms) counts → R t n → AllZip R (take (i + 1) terms) now
counts_more R terms i t counts now n inside here is h k =
    let whole : take (i + 1) terms ≡ take i terms ++ t ∷ [] = take_more terms i t inside ∙ ap (λ x. take i terms ++ x ∷ []) (sym here) in
    subst (λ ns. AllZip R (take (i + 1) terms) ns) (sym is) (subst (λ ts. AllZip R ts (counts ++ n ∷ [])) (sym whole) (zip_push R (take i terms) counts t n h k))

-- ---- leaves

-- one leaf more that is idle
pub idle_more : (docs : List Document) (t : List ℕ) (leaves : List LeafKind) (i : ℕ) (leaf : LeafKind) → i < length leaves → leaf ≡ get_or leaves i leaf → IsIdle (map leaf_tree (take i leaves)) docs t
    → IsIdleIn docs t (leaf_tree leaf) → IsIdle (map leaf_tree (take (i + 1) leaves)) docs t
idle_more docs t leaves i leaf inside here h k =
    let whole : take (i + 1) leaves ≡ take i leaves ++ leaf ∷ [] = take_more leaves i leaf inside ∙ ap (λ x. take i leaves ++ x ∷ []) (sym here) in
    subst (λ ls. IsIdle ls docs t) (sym (ap (map leaf_tree) whole ∙ map-append leaf_tree (take i leaves) (leaf ∷ []))) (All-push (IsIdleIn docs t) (map leaf_tree (take i leaves)) (leaf_tree leaf) h k)

pub idle_end : (docs : List Document) (t : List ℕ) (leaves : List LeafKind) (i : ℕ) → length leaves ≤ i → IsIdle (map leaf_tree (take i leaves)) docs t → IsIdle (map leaf_tree leaves) docs t
idle_end docs t leaves i end h = subst (λ ls. IsIdle (map leaf_tree ls) docs t) (take_all i leaves end) h

-- ---- words

-- no text stands in an empty list
pub not_there : (t : List ℕ) {ws : List (List ℕ)} → ws ≡ [] → Contains ws t → ⊥
not_there t is has = empty (subst (λ ts. Contains ts t) is has)
  where
    empty : Contains [] t → ⊥
    empty h = absurd (omega (arith, h.1))

-- nor in a list of another alone
pub not_own : (t u : List ℕ) {ws : List (List ℕ)} → bytes_eq u t ≡ false → ws ≡ u ∷ [] → Contains ws t → ⊥
not_own t u other is has = alone (subst (λ ts. Contains ts t) is has)
  where
    alone : Contains (u ∷ []) t → ⊥
    alone (zero, inside, same) = both_ways (bytes_eq u t) other ((bytes_eq-Decides u t).1 same)
    alone (suc k, inside, same) = absurd (omega (arith, inside))

-- it stands in none of these
abbrev pub HasNone : List ℕ → List ExtentExpr → Type 0
HasNone t xs = Contains (all_words (expr_trees (map expr_tree xs))) t → ⊥

pub none_first : (t : List ℕ) → HasNone t []
unfolding all_asked_by
none_first t = not_there t refl

pub none_more : (t : List ℕ) (xs : List ExtentExpr) (i : ℕ) (x : ExtentExpr) → i < length xs → x ≡ get_or xs i x → HasNone t (take i xs) → (Contains (words (expr_tree x)) t → ⊥) → HasNone t (take (i + 1) xs)
none_more t xs i x inside here h k has =
    let front = all_words (expr_trees (map expr_tree (take i xs))) in
    let whole = told_more itself nothing xs i x [] front (front ++ words (expr_tree x)) inside here refl refl in
    ⊎_elim h k (Contains-append_cases front (words (expr_tree x)) t (subst (λ ws. Contains ws t) (sym whole) has))

pub none_end : (t : List ℕ) (xs : List ExtentExpr) (i : ℕ) → length xs ≤ i → HasNone t (take i xs) → HasNone t xs
none_end t xs i end h = subst (HasNone t) (take_all i xs end) h
