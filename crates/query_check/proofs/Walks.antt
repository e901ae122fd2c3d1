-- What a definition says of the beliefs from one place of a list on.
use Rattle.std.proofs.Common.{append_assoc, append-nil, ◌≡◌, ℕ, List, [], ◌∷◌, ◌++◌, map, Option, None, Some, length, drop, get_or, ◌<◌, ◌≤◌, ◌+◌, zero, suc, refl, sym, ap, arith, add-one, Bool, true, false, cond, ◌∙◌}
use Rattle.std.specs.Prelude.{find}
use Rattle.std.specs.List.{list_any}
use Rattle.std.proofs.lemmas.Bool.Decides.{nat_tests}
use Rattle.ri_base.specs.declared.belief.Belief.{Belief}
use Rattle.ri_base.specs.Query.{belief_tree, belief_trees, weighted_tree, weighted_trees, none_weighted, more_weighted, BeliefTree, WeightedTrees}
use Rattle.query_check.specs.Check.{weights, is_some_weight, has_weights, have_weights, have_weights_weighted, priors, all_priors, weighted_priors, pruned, all_pruned, weighted_pruned, has_leaf, have_leaf, have_leaf_weighted, leaves_of, all_leaves, weighted_leaves}
use Rattle.query_check.specs.Leaves.{LeafTree}
use Rattle.query_check.specs.Multiples.{gcd, common_divisor}
use Rattle.query_check.proofs.MultipleLemmas.{gcd_zero, gcd_zero_left, gcd_assoc}

drop_suc : {X : Type 0} (xs : List X) (i : ℕ) (x : X) → i < length xs → x ≡ get_or xs i x → drop i xs ≡ x ∷ drop (suc i) xs
drop_suc [] i x h e = absurd (omega arith)
drop_suc (y ∷ xs) zero x h e = ap (λ z. z ∷ xs) (sym e)
drop_suc (y ∷ xs) (suc i) x h e = drop_suc xs i x (omega arith) e

pub drop_at : {X : Type 0} (xs : List X) (i : ℕ) (x : X) → i < length xs → x ≡ get_or xs i x → drop i xs ≡ x ∷ drop (i + 1) xs
drop_at xs i x h e = rw add-one (drop_suc xs i x h e)

pub drop_end : {X : Type 0} (xs : List X) (i : ℕ) → length xs ≤ i → drop i xs ≡ []
drop_end [] zero h = refl
drop_end [] (suc i) h = refl
drop_end (x ∷ xs) zero h = absurd (omega arith)
drop_end (x ∷ xs) (suc i) h = drop_end xs i (omega arith)

-- a child of weight 0 is dropped, and each other stays
pub weighted_kept : (w : ℕ) (x : BeliefTree) (xs : WeightedTrees) → 0 < w → weighted_pruned (more_weighted w x xs) ≡ more_weighted w (pruned x) (weighted_pruned xs)
unfolding pruned all_pruned weighted_pruned
weighted_kept zero x xs h = absurd (omega arith)
weighted_kept (suc w) x xs h = grind (arith, nat_tests)

pub weighted_dropped : (w : ℕ) (x : BeliefTree) (xs : WeightedTrees) → w ≤ 0 → weighted_pruned (more_weighted w x xs) ≡ weighted_pruned xs
unfolding pruned all_pruned weighted_pruned
weighted_dropped zero x xs h = refl
weighted_dropped (suc w) x xs h = absurd (omega arith)

some_is : (w : ℕ) (ws : List ℕ) → 0 < w → list_any is_some_weight (w ∷ ws) ≡ true
some_is zero ws h = absurd (omega arith)
some_is (suc w) ws h = grind (arith, nat_tests)

none_is : (w : ℕ) (ws : List ℕ) → w ≤ 0 → list_any is_some_weight (w ∷ ws) ≡ list_any is_some_weight ws
none_is zero ws h = refl
none_is (suc w) ws h = absurd (omega arith)

divisor_more : (d w : ℕ) (x : BeliefTree) (xs : WeightedTrees) → gcd (gcd d w) (common_divisor (weights (weighted_pruned xs))) ≡ gcd d (common_divisor (weights (weighted_pruned (more_weighted w x xs))))
unfolding weights common_divisor
divisor_more d zero x xs = rw (gcd_zero d 0 (omega arith), weighted_dropped 0 x xs (omega arith)) refl
divisor_more d (suc w) x xs = rw (weighted_kept (suc w) x xs (omega arith)) (gcd_assoc d (suc w) _)

pub divisor_start : (d : ℕ) → gcd 0 d ≡ d
divisor_start d = gcd_zero_left d

test_found : {X : Type 0} (t : Bool) (x : X) (a b : Option X) (y : X) → (a ≡ Some y → b ≡ Some y) → cond t (Some x) a ≡ Some y → cond t (Some x) b ≡ Some y
test_found true x a b y later h = h
test_found false x a b y later h = later h

test_passed : {X : Type 0} (t : Bool) (x : X) (a b c : Option X) → (a ≡ None → b ≡ c) → cond t (Some x) a ≡ None → cond t (Some x) b ≡ c
test_passed true x a b c later h = cc
test_passed false x a b c later h = later h

find_found : {X : Type 0} (p : X → Bool) (xs ys : List X) (y : X) → find p xs ≡ Some y → find p (xs ++ ys) ≡ Some y
find_found p [] ys y h = cc
find_found p (x ∷ xs) ys y h =
    let later : find p xs ≡ Some y → find p (xs ++ ys) ≡ Some y = find_found p xs ys y in
    test_found (p x) x (find p xs) (find p (xs ++ ys)) y later h

find_passed : {X : Type 0} (p : X → Bool) (xs ys : List X) → find p xs ≡ None → find p (xs ++ ys) ≡ find p ys
find_passed p [] ys h = refl
find_passed p (x ∷ xs) ys h =
    let later : find p xs ≡ None → find p (xs ++ ys) ≡ find p ys = find_passed p xs ys in
    test_passed (p x) x (find p xs) (find p (xs ++ ys)) (find p ys) later h

module _ (xs : List Belief) (i : ℕ) where
  pub have_weights_found : (x : Belief) → i < length xs → x ≡ get_or xs i x → has_weights (belief_tree x) ≡ false → have_weights (belief_trees (map belief_tree (drop i xs))) ≡ false
  unfolding has_weights have_weights have_weights_weighted
  have_weights_found x h e is = rw (drop_at xs i x h e, is) refl

  pub have_weights_passed : (x : Belief) → i < length xs → x ≡ get_or xs i x → has_weights (belief_tree x) ≡ true → have_weights (belief_trees (map belief_tree (drop i xs))) ≡ have_weights (belief_trees (map belief_tree (drop (i + 1) xs)))
  unfolding has_weights have_weights have_weights_weighted
  have_weights_passed x h e is = rw (drop_at xs i x h e, is) refl

  pub have_weights_end : length xs ≤ i → have_weights (belief_trees (map belief_tree (drop i xs))) ≡ true
  unfolding has_weights have_weights have_weights_weighted
  have_weights_end h = rw (drop_end xs i h) refl

  pub have_leaf_found : (x : Belief) → i < length xs → x ≡ get_or xs i x → has_leaf (pruned (belief_tree x)) ≡ true → have_leaf (all_pruned (belief_trees (map belief_tree (drop i xs)))) ≡ true
  unfolding has_leaf have_leaf have_leaf_weighted all_pruned
  have_leaf_found x h e is = rw (drop_at xs i x h e, is) refl

  pub have_leaf_passed : (x : Belief) → i < length xs → x ≡ get_or xs i x → has_leaf (pruned (belief_tree x)) ≡ false → have_leaf (all_pruned (belief_trees (map belief_tree (drop i xs)))) ≡ have_leaf (all_pruned (belief_trees (map belief_tree (drop (i + 1) xs))))
  unfolding has_leaf have_leaf have_leaf_weighted all_pruned
  have_leaf_passed x h e is = rw (drop_at xs i x h e, is) refl

  pub have_leaf_end : length xs ≤ i → have_leaf (all_pruned (belief_trees (map belief_tree (drop i xs)))) ≡ false
  unfolding has_leaf have_leaf have_leaf_weighted pruned all_pruned weighted_pruned
  have_leaf_end h = rw (drop_end xs i h) refl

  pub priors_found : (p : List ℕ → Bool) (x : Belief) (f : List ℕ) → i < length xs → x ≡ get_or xs i x → find p (priors (belief_tree x)) ≡ Some f → find p (all_priors (belief_trees (map belief_tree (drop i xs)))) ≡ Some f
  unfolding priors all_priors weighted_priors
  priors_found p x f h e is = rw (drop_at xs i x h e) (find_found p (priors (belief_tree x)) _ f is)

  pub priors_passed : (p : List ℕ → Bool) (x : Belief) → i < length xs → x ≡ get_or xs i x → find p (priors (belief_tree x)) ≡ None → find p (all_priors (belief_trees (map belief_tree (drop i xs)))) ≡ find p (all_priors (belief_trees (map belief_tree (drop (i + 1) xs))))
  unfolding priors all_priors weighted_priors
  priors_passed p x h e is = rw (drop_at xs i x h e) (find_passed p (priors (belief_tree x)) _ is)

  pub priors_end : (p : List ℕ → Bool) → length xs ≤ i → find p (all_priors (belief_trees (map belief_tree (drop i xs)))) ≡ None
  unfolding priors all_priors weighted_priors
  priors_end p h = rw (drop_end xs i h) refl

module _ (xs : List (ℕ × Belief)) (i : ℕ) where
  pub have_weights_weighted_found : (x : (ℕ × Belief)) → i < length xs → x ≡ get_or xs i x → has_weights (belief_tree x.1) ≡ false → have_weights_weighted (weighted_trees (map weighted_tree (drop i xs))) ≡ false
  unfolding has_weights have_weights have_weights_weighted
  have_weights_weighted_found x h e is = rw (drop_at xs i x h e, is) refl

  pub have_weights_weighted_passed : (x : (ℕ × Belief)) → i < length xs → x ≡ get_or xs i x → has_weights (belief_tree x.1) ≡ true → have_weights_weighted (weighted_trees (map weighted_tree (drop i xs))) ≡ have_weights_weighted (weighted_trees (map weighted_tree (drop (i + 1) xs)))
  unfolding has_weights have_weights have_weights_weighted
  have_weights_weighted_passed x h e is = rw (drop_at xs i x h e, is) refl

  pub have_weights_weighted_end : length xs ≤ i → have_weights_weighted (weighted_trees (map weighted_tree (drop i xs))) ≡ true
  unfolding has_weights have_weights have_weights_weighted
  have_weights_weighted_end h = rw (drop_end xs i h) refl

  pub some_weight_found : (x : (ℕ × Belief)) → i < length xs → x ≡ get_or xs i x → 0 < x.0 → list_any is_some_weight (weights (weighted_trees (map weighted_tree (drop i xs)))) ≡ true
  unfolding weights
  some_weight_found x h e pos = rw (drop_at xs i x h e) (some_is x.0 (weights (weighted_trees (map weighted_tree (drop (i + 1) xs)))) pos)

  pub some_weight_passed : (x : (ℕ × Belief)) → i < length xs → x ≡ get_or xs i x → x.0 ≤ 0 → list_any is_some_weight (weights (weighted_trees (map weighted_tree (drop i xs)))) ≡ list_any is_some_weight (weights (weighted_trees (map weighted_tree (drop (i + 1) xs))))
  unfolding weights
  some_weight_passed x h e zero_is = rw (drop_at xs i x h e) (none_is x.0 (weights (weighted_trees (map weighted_tree (drop (i + 1) xs)))) zero_is)

  pub some_weight_end : length xs ≤ i → list_any is_some_weight (weights (weighted_trees (map weighted_tree (drop i xs)))) ≡ false
  unfolding weights
  some_weight_end h = rw (drop_end xs i h) refl

  pub divisor_at : (d : ℕ) (x : (ℕ × Belief)) → i < length xs → x ≡ get_or xs i x → gcd (gcd d x.0) (common_divisor (weights (weighted_pruned (weighted_trees (map weighted_tree (drop (i + 1) xs)))))) ≡ gcd d (common_divisor (weights (weighted_pruned (weighted_trees (map weighted_tree (drop i xs))))))
  divisor_at d x h e = rw (drop_at xs i x h e) (divisor_more d x.0 (belief_tree x.1) (weighted_trees (map weighted_tree (drop (i + 1) xs))))

  pub divisor_end : (d : ℕ) → length xs ≤ i → gcd d (common_divisor (weights (weighted_pruned (weighted_trees (map weighted_tree (drop i xs)))))) ≡ d
  unfolding weights pruned all_pruned weighted_pruned common_divisor
  divisor_end d h = rw (drop_end xs i h) (gcd_zero d 0 (omega arith))

  pub have_leaf_weighted_found : (x : (ℕ × Belief)) → i < length xs → x ≡ get_or xs i x → 0 < x.0 → has_leaf (pruned (belief_tree x.1)) ≡ true → have_leaf_weighted (weighted_pruned (weighted_trees (map weighted_tree (drop i xs)))) ≡ true
  unfolding has_leaf have_leaf have_leaf_weighted
  have_leaf_weighted_found x h e pos is = rw (drop_at xs i x h e) (rw (weighted_kept x.0 (belief_tree x.1) (weighted_trees (map weighted_tree (drop (i + 1) xs))) pos, is) refl)

  pub have_leaf_weighted_passed : (x : (ℕ × Belief)) → i < length xs → x ≡ get_or xs i x → 0 < x.0 → has_leaf (pruned (belief_tree x.1)) ≡ false → have_leaf_weighted (weighted_pruned (weighted_trees (map weighted_tree (drop i xs)))) ≡ have_leaf_weighted (weighted_pruned (weighted_trees (map weighted_tree (drop (i + 1) xs))))
  unfolding has_leaf have_leaf have_leaf_weighted
  have_leaf_weighted_passed x h e pos is = rw (drop_at xs i x h e) (rw (weighted_kept x.0 (belief_tree x.1) (weighted_trees (map weighted_tree (drop (i + 1) xs))) pos, is) refl)

  pub have_leaf_weighted_dropped : (x : (ℕ × Belief)) → i < length xs → x ≡ get_or xs i x → x.0 ≤ 0 → have_leaf_weighted (weighted_pruned (weighted_trees (map weighted_tree (drop i xs)))) ≡ have_leaf_weighted (weighted_pruned (weighted_trees (map weighted_tree (drop (i + 1) xs))))
  have_leaf_weighted_dropped x h e none_is = rw (drop_at xs i x h e) (rw (weighted_dropped x.0 (belief_tree x.1) (weighted_trees (map weighted_tree (drop (i + 1) xs))) none_is) refl)

  pub have_leaf_weighted_end : length xs ≤ i → have_leaf_weighted (weighted_pruned (weighted_trees (map weighted_tree (drop i xs)))) ≡ false
  unfolding has_leaf have_leaf have_leaf_weighted pruned all_pruned weighted_pruned
  have_leaf_weighted_end h = rw (drop_end xs i h) refl

  pub weighted_priors_found : (p : List ℕ → Bool) (x : (ℕ × Belief)) (f : List ℕ) → i < length xs → x ≡ get_or xs i x → find p (priors (belief_tree x.1)) ≡ Some f → find p (weighted_priors (weighted_trees (map weighted_tree (drop i xs)))) ≡ Some f
  unfolding priors all_priors weighted_priors
  weighted_priors_found p x f h e is = rw (drop_at xs i x h e) (find_found p (priors (belief_tree x.1)) _ f is)

  pub weighted_priors_passed : (p : List ℕ → Bool) (x : (ℕ × Belief)) → i < length xs → x ≡ get_or xs i x → find p (priors (belief_tree x.1)) ≡ None → find p (weighted_priors (weighted_trees (map weighted_tree (drop i xs)))) ≡ find p (weighted_priors (weighted_trees (map weighted_tree (drop (i + 1) xs))))
  unfolding priors all_priors weighted_priors
  weighted_priors_passed p x h e is = rw (drop_at xs i x h e) (find_passed p (priors (belief_tree x.1)) _ is)

  pub weighted_priors_end : (p : List ℕ → Bool) → length xs ≤ i → find p (weighted_priors (weighted_trees (map weighted_tree (drop i xs)))) ≡ None
  unfolding priors all_priors weighted_priors
  weighted_priors_end p h = rw (drop_end xs i h) refl

kept_more : (names : List (List ℕ)) (w : ℕ) (y : BeliefTree) (xs ys : WeightedTrees) (more_leaves : List LeafTree) → weighted_leaves names xs ≡ weighted_leaves names ys ++ more_leaves → weighted_leaves names (more_weighted w y xs) ≡ weighted_leaves names (more_weighted w y ys) ++ more_leaves
unfolding leaves_of all_leaves weighted_leaves
kept_more names w y xs ys more_leaves h = ap (λ rest. leaves_of names y ++ rest) h ∙ sym (append_assoc (leaves_of names y) _ _)

-- the leaves of a list, one belief more at its end
all_leaves_more : (names : List (List ℕ)) (xs : List Belief) (x : Belief) → all_leaves names (all_pruned (belief_trees (map belief_tree (xs ++ x ∷ [])))) ≡ all_leaves names (all_pruned (belief_trees (map belief_tree xs))) ++ leaves_of names (pruned (belief_tree x))
unfolding all_pruned leaves_of all_leaves weighted_leaves
all_leaves_more names [] x = append-nil _
all_leaves_more names (y ∷ xs) x = ap (λ rest. leaves_of names (pruned (belief_tree y)) ++ rest) (all_leaves_more names xs x) ∙ sym (append_assoc (leaves_of names (pruned (belief_tree y))) _ _)

pub all_leaves_step : (names : List (List ℕ)) (start before after : List LeafTree) (xs : List Belief) (x : Belief) → before ≡ start ++ all_leaves names (all_pruned (belief_trees (map belief_tree xs))) → after ≡ before ++ leaves_of names (pruned (belief_tree x)) → after ≡ start ++ all_leaves names (all_pruned (belief_trees (map belief_tree (xs ++ x ∷ []))))
all_leaves_step names start before after xs x h e = rw (all_leaves_more names xs x) (e ∙ ap (λ rest. rest ++ leaves_of names (pruned (belief_tree x))) h ∙ append_assoc start _ _)

pub all_leaves_start : (names : List (List ℕ)) (start : List LeafTree) → start ++ all_leaves names (all_pruned (belief_trees (map belief_tree []))) ≡ start
unfolding all_pruned leaves_of all_leaves weighted_leaves
all_leaves_start names start = append-nil start

pub weighted_leaves_start : (names : List (List ℕ)) (start : List LeafTree) → start ++ weighted_leaves names (weighted_pruned (weighted_trees (map weighted_tree []))) ≡ start
unfolding pruned all_pruned weighted_pruned leaves_of all_leaves weighted_leaves
weighted_leaves_start names start = append-nil start

one_kept : (names : List (List ℕ)) (w : ℕ) (x : BeliefTree) → 0 < w → weighted_leaves names (weighted_pruned (more_weighted w x none_weighted)) ≡ leaves_of names (pruned x)
unfolding weighted_pruned leaves_of all_leaves weighted_leaves
one_kept names w x h = rw (weighted_kept w x none_weighted h) (append-nil (leaves_of names (pruned x)))

one_dropped : (names : List (List ℕ)) (w : ℕ) (x : BeliefTree) → w ≤ 0 → weighted_leaves names (weighted_pruned (more_weighted w x none_weighted)) ≡ []
unfolding weighted_pruned leaves_of all_leaves weighted_leaves
one_dropped names w x h = rw (weighted_dropped w x none_weighted h) refl

weighted_leaves_more : (names : List (List ℕ)) (xs : List (ℕ × Belief)) (x : ℕ × Belief) → weighted_leaves names (weighted_pruned (weighted_trees (map weighted_tree (xs ++ x ∷ [])))) ≡ weighted_leaves names (weighted_pruned (weighted_trees (map weighted_tree xs))) ++ weighted_leaves names (weighted_pruned (more_weighted x.0 (belief_tree x.1) none_weighted))
unfolding pruned all_pruned weighted_pruned leaves_of all_leaves weighted_leaves
weighted_leaves_more names [] x = refl
weighted_leaves_more names ((zero, y) ∷ xs) x = weighted_leaves_more names xs x
weighted_leaves_more names ((suc w, y) ∷ xs) x = rw (weighted_kept (suc w) (belief_tree y) (weighted_trees (map weighted_tree (xs ++ x ∷ []))) (omega arith), weighted_kept (suc w) (belief_tree y) (weighted_trees (map weighted_tree xs)) (omega arith)) (kept_more names (suc w) (pruned (belief_tree y)) (weighted_pruned (weighted_trees (map weighted_tree (xs ++ x ∷ [])))) (weighted_pruned (weighted_trees (map weighted_tree xs))) (weighted_leaves names (weighted_pruned (more_weighted x.0 (belief_tree x.1) none_weighted))) (weighted_leaves_more names xs x))

pub weighted_leaves_step : (names : List (List ℕ)) (start before after : List LeafTree) (xs : List (ℕ × Belief)) (w : ℕ) (x : Belief) → 0 < w → before ≡ start ++ weighted_leaves names (weighted_pruned (weighted_trees (map weighted_tree xs))) → after ≡ before ++ leaves_of names (pruned (belief_tree x)) → after ≡ start ++ weighted_leaves names (weighted_pruned (weighted_trees (map weighted_tree (xs ++ (w, x) ∷ []))))
weighted_leaves_step names start before after xs w x pos h e = rw (weighted_leaves_more names xs (w, x), one_kept names w (belief_tree x) pos) (e ∙ ap (λ rest. rest ++ leaves_of names (pruned (belief_tree x))) h ∙ append_assoc start _ _)

pub weighted_leaves_dropped : (names : List (List ℕ)) (start before : List LeafTree) (xs : List (ℕ × Belief)) (w : ℕ) (x : Belief) → w ≤ 0 → before ≡ start ++ weighted_leaves names (weighted_pruned (weighted_trees (map weighted_tree xs))) → before ≡ start ++ weighted_leaves names (weighted_pruned (weighted_trees (map weighted_tree (xs ++ (w, x) ∷ []))))
weighted_leaves_dropped names start before xs w x none_is h = rw (weighted_leaves_more names xs (w, x), one_dropped names w (belief_tree x) none_is, append-nil) h
