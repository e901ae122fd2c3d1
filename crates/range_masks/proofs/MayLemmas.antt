-- A document with an extent has its terms; and whether it may have one, by the variant of the expression.
use Rattle.std.proofs.Common.{◌≡◌, ℕ, zero, suc, ◌+◌, ◌*◌, Bool, true, ◌&&◌, ◌||◌, cond, List, [], ◌∷◌, map, slice_get, Some, Vec, Box, Global, refl, ap, ◌∙◌, arith}
use Rattle.std.specs.Int.{bit_at}
use Rattle.std.specs.List.{list_all, list_any}
use Rattle.std.specs.Str.{bytes_eq}
use Rattle.std.proofs.lemmas.Bool.{or_left, or_right}
use Rattle.std.proofs.lemmas.Slice.Eq.{bytes_eq-Decides}
use Rattle.ri_base.specs.Collection.{document_at}
use Rattle.ri_base.specs.Documents.{Document}
use Rattle.ri_base.specs.Expression.{ExprTree, expr_tree, expr_trees}
use Rattle.ri_base.specs.declared.expression.ExtentExpr.{ExtentExpr, Word, Any, Ordered, Unordered, Syn, Band, InField}
use Rattle.extent_lists.specs.Extents.{Ext}
use Rattle.extent_lists.specs.Presence.{may_with, may_each_with, may_some_with}
use Rattle.extent_lists.proofs.PresenceLemmas.{may_with-Ext, may_with-any, may_with-band, may_with-in_field, may_with-ordered, may_with-syn, may_with-unordered, may_with-word}
use Rattle.range_masks.specs.Masks.{HasEachDocument, IsMask}
use Rattle.range_masks.specs.May.{has_term, may}

pub both : (p q : Bool) → p ≡ true → q ≡ true → p && q ≡ true
both p q h i = rw (h, i) refl

-- a token is one of the document's terms
has_term_at : (t : List ℕ) (tokens : List (List ℕ)) (b : ℕ) → slice_get tokens b ≡ Some t → list_any (λ token. bytes_eq token t) tokens ≡ true
has_term_at t [] b h = absurd (cc)
has_term_at t (x ∷ xs) zero h =
    let is : x ≡ t = cc in
    or_left (bytes_eq x t) _ ((bytes_eq-Decides x t).1 is)
has_term_at t (x ∷ xs) (suc b) h = or_right (bytes_eq x t) _ (has_term_at t xs b h)

-- a document with an extent may have one
pub may-Ext : (d : Document) (x : ExprTree) (b e : ℕ) → Ext x d b e → may x d ≡ true
may-Ext d x b e h = may_with-Ext (λ t. has_term t d) d (λ t i there. has_term_at t d.tokens i there) x b e h

-- a mask by terms leaves out no document with an extent
pub HasEachDocument-mask : (x : ExprTree) (range : ℕ) (docs : List Document) (mask : ℕ) → IsMask (may x) range docs mask → HasEachDocument x range docs mask
HasEachDocument-mask x range docs mask h i b e inside is_clear extent =
    let set : bit_at mask i ≡ 1 = h.bits i inside ∙ ap (λ c. cond c 1 0) (may-Ext (document_at docs (64 * range + i)) x b e extent) in
    omega (arith, set, is_clear)

-- ---- by the variant of an expression, whose arguments are a list

module _ (has : List ℕ → Bool) where
  each_listed : (xs : List ExtentExpr) → may_each_with has (expr_trees (map expr_tree xs)) ≡ list_all (λ x. may_with has (expr_tree x)) xs
  unfolding may_with may_each_with
  each_listed [] = refl
  each_listed (x ∷ xs) = ap (λ b. may_with has (expr_tree x) && b) (each_listed xs)

  some_listed : (xs : List ExtentExpr) → may_some_with has (expr_trees (map expr_tree xs)) ≡ list_any (λ x. may_with has (expr_tree x)) xs
  unfolding may_with may_some_with
  some_listed [] = refl
  some_listed (x ∷ xs) = ap (λ b. may_with has (expr_tree x) || b) (some_listed xs)

-- the test of a term in a document
abbrev own : Document → List ℕ → Bool
own d t = has_term t d

module _ (x : ExtentExpr) (d : Document) where
  pub may-word : (t : List ℕ) → x ≡ Word t → may (expr_tree x) d ≡ has_term t d
  may-word t is = may_with-word (own d) x t is

  pub may-any : (f : List ℕ) → x ≡ Any f → may (expr_tree x) d ≡ true
  may-any f is = may_with-any (own d) x f is

  pub may-ordered : (n : ℕ) (a : Vec ExtentExpr Global) → x ≡ Ordered n a → may (expr_tree x) d ≡ list_all (λ y. may (expr_tree y) d) a.items
  may-ordered n a is = may_with-ordered (own d) x n a is ∙ each_listed (own d) a.items

  pub may-unordered : (n : ℕ) (a : Vec ExtentExpr Global) → x ≡ Unordered n a → may (expr_tree x) d ≡ list_all (λ y. may (expr_tree y) d) a.items
  may-unordered n a is = may_with-unordered (own d) x n a is ∙ each_listed (own d) a.items

  pub may-band : (a : Vec ExtentExpr Global) → x ≡ Band a → may (expr_tree x) d ≡ list_all (λ y. may (expr_tree y) d) a.items
  may-band a is = may_with-band (own d) x a is ∙ each_listed (own d) a.items

  pub may-syn : (a : Vec ExtentExpr Global) → x ≡ Syn a → may (expr_tree x) d ≡ list_any (λ y. may (expr_tree y) d) a.items
  may-syn a is = may_with-syn (own d) x a is ∙ some_listed (own d) a.items

  pub may-in_field : (b : Box ExtentExpr Global) (f : List ℕ) → x ≡ InField b f → may (expr_tree x) d ≡ may (expr_tree b.value) d
  may-in_field b f is = may_with-in_field (own d) x b f is
