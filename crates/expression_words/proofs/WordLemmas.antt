-- What the variants of an expression ask for, and the arguments of an operator.
use Rattle.std.proofs.Common.{◌≡◌, ◌<◌, ◌≤◌, ◌+◌, ◌⊎◌, inl, inr, ℕ, List, [], ◌∷◌, ◌++◌, append_assoc, append-nil, length, map, take, get_or, Vec, Box, Global, refl, sym, ap, ◌∙◌}
use Rattle.std.proofs.lemmas.List.{take_all, take_more}
use Rattle.ri_base.specs.Expression.{ExprTree, ExprTrees, expr_tree, expr_trees, word, ordered, unordered, syn, any, band, in_field}
use Rattle.ri_base.specs.declared.expression.ExtentExpr.{ExtentExpr, Word, Any, Ordered, Unordered, Syn, Band, InField}
use Rattle.ri_base.proofs.ExpressionLemmas.{expr_tree-Word, expr_tree-Any, expr_tree-Ordered, expr_tree-Unordered, expr_tree-Syn, expr_tree-Band, expr_tree-InField}
use Rattle.expression_words.specs.Words.{all_asked_by, asked_by}

module _ (of_term of_name : List ℕ → List (List ℕ)) where
  abbrev pub told : ExtentExpr → List (List ℕ)
  told x = asked_by of_term of_name (expr_tree x)

  abbrev pub all_told : List ExtentExpr → List (List ℕ)
  all_told xs = all_asked_by of_term of_name (expr_trees (map expr_tree xs))

  of_word : (t : List ℕ) → asked_by of_term of_name (word t) ≡ of_term t
  unfolding asked_by
  of_word t = refl

  of_any : (f : List ℕ) → asked_by of_term of_name (any f) ≡ of_name f
  unfolding asked_by
  of_any f = refl

  of_ordered : (n : ℕ) (xs : ExprTrees) → asked_by of_term of_name (ordered n xs) ≡ all_asked_by of_term of_name xs
  unfolding asked_by all_asked_by
  of_ordered n xs = refl

  of_unordered : (n : ℕ) (xs : ExprTrees) → asked_by of_term of_name (unordered n xs) ≡ all_asked_by of_term of_name xs
  unfolding asked_by all_asked_by
  of_unordered n xs = refl

  of_syn : (xs : ExprTrees) → asked_by of_term of_name (syn xs) ≡ all_asked_by of_term of_name xs
  unfolding asked_by all_asked_by
  of_syn xs = refl

  of_band : (xs : ExprTrees) → asked_by of_term of_name (band xs) ≡ all_asked_by of_term of_name xs
  unfolding asked_by all_asked_by
  of_band xs = refl

  of_in_field : (x : ExprTree) (f : List ℕ) → asked_by of_term of_name (in_field x f) ≡ asked_by of_term of_name x
  unfolding asked_by
  of_in_field x f = refl

  module _ (x : ExtentExpr) where
    pub in_word : (t : List ℕ) → x ≡ Word t → told x ≡ of_term t
    in_word t is = ap told is ∙ ap (asked_by of_term of_name) (expr_tree-Word t) ∙ of_word t

    pub in_any : (f : List ℕ) → x ≡ Any f → told x ≡ of_name f
    in_any f is = ap told is ∙ ap (asked_by of_term of_name) (expr_tree-Any f) ∙ of_any f

    in_ordered : (n : ℕ) (a : Vec ExtentExpr Global) → x ≡ Ordered n a → told x ≡ all_told a.items
    in_ordered n a is = ap told is ∙ ap (asked_by of_term of_name) (expr_tree-Ordered n a) ∙ of_ordered n _

    in_unordered : (n : ℕ) (a : Vec ExtentExpr Global) → x ≡ Unordered n a → told x ≡ all_told a.items
    in_unordered n a is = ap told is ∙ ap (asked_by of_term of_name) (expr_tree-Unordered n a) ∙ of_unordered n _

    in_syn : (a : Vec ExtentExpr Global) → x ≡ Syn a → told x ≡ all_told a.items
    in_syn a is = ap told is ∙ ap (asked_by of_term of_name) (expr_tree-Syn a) ∙ of_syn _

    in_band : (a : Vec ExtentExpr Global) → x ≡ Band a → told x ≡ all_told a.items
    in_band a is = ap told is ∙ ap (asked_by of_term of_name) (expr_tree-Band a) ∙ of_band _

    pub in_in_field : (b : Box ExtentExpr Global) (f : List ℕ) → x ≡ InField b f → told x ≡ told b.value
    in_in_field b f is = ap told is ∙ ap (asked_by of_term of_name) (expr_tree-InField b f) ∙ of_in_field _ f

    -- an operator asks for what all its arguments do
    pub in_operator : (a : Vec ExtentExpr Global) → ((n : ℕ) × (x ≡ Ordered n a)) ⊎ (((n : ℕ) × (x ≡ Unordered n a)) ⊎ ((x ≡ Syn a) ⊎ (x ≡ Band a))) → told x ≡ all_told a.items
    in_operator a (inl h) = in_ordered h.0 a h.1
    in_operator a (inr (inl h)) = in_unordered h.0 a h.1
    in_operator a (inr (inr (inl h))) = in_syn a h
    in_operator a (inr (inr (inr h))) = in_band a h

  -- the first arguments, and the next
  first_told : (xs : List ExtentExpr) (x : ExtentExpr) → all_told (xs ++ x ∷ []) ≡ all_told xs ++ told x
  unfolding all_asked_by
  first_told [] x = append-nil _
  first_told (y ∷ xs) x = ap (λ l. told y ++ l) (first_told xs x) ∙ sym (append_assoc (told y) (all_told xs) (told x))

  pub told_more : (xs : List ExtentExpr) (i : ℕ) (x : ExtentExpr) (start mid now : List (List ℕ)) → i < length xs → x ≡ get_or xs i x → mid ≡ start ++ all_told (take i xs)
      → now ≡ mid ++ told x → now ≡ start ++ all_told (take (i + 1) xs)
  told_more xs i x start mid now inside here is more =
      let whole : take (i + 1) xs ≡ take i xs ++ x ∷ [] = take_more xs i x inside ∙ ap (λ y. take i xs ++ y ∷ []) (sym here) in
      more ∙ ap (λ l. l ++ told x) is ∙ append_assoc start (all_told (take i xs)) (told x)
      ∙ ap (λ l. start ++ l) (sym (ap all_told whole ∙ first_told (take i xs) x))

  pub told_end : (xs : List ExtentExpr) (i : ℕ) (start now : List (List ℕ)) → length xs ≤ i → now ≡ start ++ all_told (take i xs) → now ≡ start ++ all_told xs
  told_end xs i start now end is = is ∙ ap (λ ys. start ++ all_told ys) (take_all i xs end)

  pub told_none : (start : List (List ℕ)) → start ≡ start ++ all_told []
  unfolding all_asked_by
  told_none start = sym (append-nil start)
