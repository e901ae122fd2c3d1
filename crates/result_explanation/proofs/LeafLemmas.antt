-- What is told of leaves, one after the other.
use Rattle.std.proofs.Common.{◌≡◌, ℕ, List, [], ◌∷◌, ◌++◌, map, drop, length, get_or, ◌+◌, ◌<◌, ◌≤◌, refl, ap, sym, ◌∙◌}
use Rattle.std.proofs.lemmas.List.{drop_all, drop_more}
use Rattle.ri_base.specs.Documents.{Document}
use Rattle.ri_base.specs.Pair.{Pair}
use Rattle.ri_base.specs.declared.fraction.Fraction.{Fraction}
use Rattle.ri_base.specs.declared.hit.LeafStats.{LeafStats}
use Rattle.query_check.specs.Leaves.{LeafTree}
use Rattle.ranked_output.specs.declared.explained.LeafShown.{LeafShown}
use Rattle.result_explanation.specs.Explanation.{LeafTold, leaf_told, leaves_told, told_leaf}

drop_at : {X : Type 0} (xs : List X) (i : ℕ) (x : X) → i < length xs → x ≡ get_or xs i x → drop i xs ≡ x ∷ drop (i + 1) xs
drop_at xs i x h e = drop_more xs i x h ∙ ap (λ y. y ∷ drop (i + 1) xs) (sym e)

joined_more : (xs : List LeafShown) (x : LeafShown) (rest : List LeafTold) → map told_leaf (xs ++ x ∷ []) ++ rest ≡ map told_leaf xs ++ told_leaf x ∷ rest
joined_more [] x rest = refl
joined_more (y ∷ xs) x rest = ap (λ all. told_leaf y ∷ all) (joined_more xs x rest)

pub joined_none : (xs : List LeafTold) → xs ++ [] ≡ xs
joined_none [] = refl
joined_none (x ∷ xs) = ap (λ all. x ∷ all) (joined_none xs)

module _ (names : List (List ℕ)) (d : Document) (w : Pair) (leaves : List LeafTree) (stats : List LeafStats) (beliefs : List Fraction) (i : ℕ) where
  leaf_at : (l : LeafTree) (s : LeafStats) (b : Fraction) → i < length leaves → i < length stats → i < length beliefs
      → l ≡ get_or leaves i l → s ≡ get_or stats i s → b ≡ get_or beliefs i b
      → leaves_told names d w (drop i leaves) (drop i stats) (drop i beliefs)
      ≡ leaf_told names d w l s b ∷ leaves_told names d w (drop (i + 1) leaves) (drop (i + 1) stats) (drop (i + 1) beliefs)
  unfolding leaves_told
  leaf_at l s b inside inside' inside'' here here' here'' = rw (drop_at leaves i l inside here, drop_at stats i s inside' here', drop_at beliefs i b inside'' here'') refl

  pub leaf_next : (l : LeafTree) (s : LeafStats) (b : Fraction) → i < length leaves → i < length stats → i < length beliefs
      → l ≡ get_or leaves i l → s ≡ get_or stats i s → b ≡ get_or beliefs i b
      → (xs : List LeafShown) (x : LeafShown) (all : List LeafTold) → told_leaf x ≡ leaf_told names d w l s b
      → map told_leaf xs ++ leaves_told names d w (drop i leaves) (drop i stats) (drop i beliefs) ≡ all
      → map told_leaf (xs ++ x ∷ []) ++ leaves_told names d w (drop (i + 1) leaves) (drop (i + 1) stats) (drop (i + 1) beliefs) ≡ all
  leaf_next l s b inside inside' inside'' here here' here'' xs x all is h =
      rw (joined_more, is) (rw (leaf_at l s b inside inside' inside'' here here' here'') at h)

  pub leaf_end : length leaves ≤ i → leaves_told names d w (drop i leaves) (drop i stats) (drop i beliefs) ≡ []
  unfolding leaves_told
  leaf_end out = rw (drop_all i leaves out) refl
