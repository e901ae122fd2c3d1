-- The beliefs of leaves, one after the other.
use Rattle.std.proofs.Common.{◌≡◌, ℕ, zero, suc, List, [], ◌∷◌, ◌++◌, Bool, true, false, cond, map, filter, drop, length, get_or, ◌+◌, ◌<◌, ◌≤◌, arith, refl, ap}
use Rattle.std.specs.Prelude.{All, fold, nat_le, slice_index_or}
use Rattle.std.specs.Str.{bytes_eq}
use Rattle.std.proofs.lemmas.List.Elements.{All-cons, All-nil}
use Rattle.ri_base.specs.Ratio.{Ratio, IsBelief, ratio_of}
use Rattle.ri_base.specs.declared.fraction.Fraction.{Fraction}
use Rattle.ri_base.specs.declared.hit.LeafStats.{LeafStats}
use Rattle.smoothing.specs.Fractions.{IsMu}
use Rattle.smoothing.specs.declared.rule.RuleKind.{RuleKind}
use Rattle.smoothing.specs.declared.rule.RuleKind.TheVariants.{Dirichlet}
use Rattle.smoothing.proofs.Dirichlets.{dirichlet_belief}
use Rattle.query_check.specs.Leaves.{LeafTree, extents, prior}
use Rattle.query_check.proofs.Walks.{drop_at, drop_end}
use Rattle.belief_nodes.specs.Fractions.{leaf_fraction, leaf_fractions}
use Rattle.belief_nodes.specs.Leaves.{IsLeafCount, AreLeafStats}
use Rattle.belief_nodes.specs.Priors.{Prior, IsPrior, prior_at, prior_fraction, prior_fractions, by_length}
use Rattle.belief_nodes.specs.declared.leaf_count.LeafCount.{LeafCount}
use Rattle.belief_nodes.proofs.Lists.{all_first, all_rest, all_front, all_behind}

joined_more : (xs : List Fraction) (f : Fraction) (rest : List Ratio) → map ratio_of (xs ++ f ∷ []) ++ rest ≡ map ratio_of xs ++ ratio_of f ∷ rest
joined_more [] f rest = refl
joined_more (x ∷ xs) f rest = ap (λ all. ratio_of x ∷ all) (joined_more xs f rest)

pub joined_none : (xs : List Ratio) → xs ++ [] ≡ xs
joined_none [] = refl
joined_none (x ∷ xs) = ap (λ all. x ∷ all) (joined_none xs)

module _ (kind : RuleKind) (priors : List Prior) (docno : List ℕ) (tokens : ℕ) (leaves : List LeafTree) (counts : List LeafCount) (stats : List LeafStats) (i : ℕ) where
  leaf_at : (l : LeafTree) (n : LeafCount) (s : LeafStats) → i < length leaves → i < length counts → i < length stats
      → l ≡ get_or leaves i l → n ≡ get_or counts i n → s ≡ get_or stats i s
      → leaf_fractions kind priors docno tokens (drop i leaves) (drop i counts) (drop i stats)
      ≡ leaf_fraction kind priors docno tokens l n s ∷ leaf_fractions kind priors docno tokens (drop (i + 1) leaves) (drop (i + 1) counts) (drop (i + 1) stats)
  unfolding leaf_fractions
  leaf_at l n s inside inside' inside'' here here' here'' = rw (drop_at leaves i l inside here, drop_at counts i n inside' here', drop_at stats i s inside'' here'') refl

  pub leaf_next : (l : LeafTree) (n : LeafCount) (s : LeafStats) → i < length leaves → i < length counts → i < length stats
      → l ≡ get_or leaves i l → n ≡ get_or counts i n → s ≡ get_or stats i s
      → (xs : List Fraction) (f : Fraction) (whole : List Ratio) → ratio_of f ≡ leaf_fraction kind priors docno tokens l n s
      → map ratio_of xs ++ leaf_fractions kind priors docno tokens (drop i leaves) (drop i counts) (drop i stats) ≡ whole
      → map ratio_of (xs ++ f ∷ []) ++ leaf_fractions kind priors docno tokens (drop (i + 1) leaves) (drop (i + 1) counts) (drop (i + 1) stats) ≡ whole
  leaf_next l n s inside inside' inside'' here here' here'' xs f whole is h =
      rw (joined_more, is) (rw (leaf_at l n s inside inside' inside'' here here' here'') at h)

  pub leaf_end : length leaves ≤ i → leaf_fractions kind priors docno tokens (drop i leaves) (drop i counts) (drop i stats) ≡ []
  unfolding leaf_fractions
  leaf_end out = rw (drop_end leaves i out) refl

-- ---- what a prior tells is one of its fractions

module _ {X : Type 0} (P : Ratio → Type 0) (p : X × Ratio → Bool) where
  first_kept : (rows : List (X × Ratio)) (d : Ratio) → P d → All P (map (λ row. row.1) rows) → P (slice_index_or (map (λ row. row.1) (filter p rows)) 0 d)
  first_kept [] d h all = h
  first_kept (row ∷ rows) d h all = by (p row) (first_kept rows d h (all_rest P row.1 (map (λ row. row.1) rows) all))
    where
      by : (b : Bool) → P (slice_index_or (map (λ (row : X × Ratio). row.1) (filter p rows)) 0 d)
          → P (slice_index_or (map (λ (row : X × Ratio). row.1) (cond b (row ∷ filter p rows) (filter p rows))) 0 d)
      by true later = all_first P row.1 (map (λ row. row.1) rows) all
      by false later = later

  last_kept : (steps : List (X × Ratio)) (d : Ratio) → P d → All P (map (λ step. step.1) steps) → P (fold (λ r s. s) d (map (λ step. step.1) (filter p steps)))
  last_kept [] d h all = h
  last_kept (step ∷ steps) d h all = by (p step) (λ r is. last_kept steps r is (all_rest P step.1 (map (λ step. step.1) steps) all))
    where
      by : (b : Bool) → ((r : Ratio) → P r → P (fold (λ r s. s) r (map (λ (step : X × Ratio). step.1) (filter p steps))))
          → P (fold (λ r s. s) d (map (λ (step : X × Ratio). step.1) (cond b (step ∷ filter p steps) (filter p steps))))
      by true later = later step.1 (all_first P step.1 (map (λ step. step.1) steps) all)
      by false later = later d h

-- what holds of all fractions of a prior holds of the one that it tells
pub prior_kept : (P : Ratio → Type 0) (p : Prior) (docno : List ℕ) (tokens : ℕ) → All P (prior_fractions p) → P (prior_fraction p docno tokens)
prior_kept P p docno tokens h =
    let rows : List Ratio = map (λ row. row.1) p.rows in
    let steps : List Ratio = map (λ step. step.1) p.steps in
    let told : All P (rows ++ steps) = all_rest P p.rest (rows ++ steps) h in
    first_kept P (λ row. bytes_eq docno row.0) p.rows (by_length p tokens)
    (last_kept P (λ step. nat_le step.0 tokens) p.steps p.rest (all_first P p.rest (rows ++ steps) h) (all_behind P rows steps told))
    (all_front P rows steps told)

is_prior_at : (priors : List Prior) (n : ℕ) → All IsPrior priors → IsPrior (prior_at priors n)
is_prior_at [] n h = All-cons IsBelief (record { p = 1; q = 1 }) [] (record { positive = omega arith; at_most_one = omega arith; fits = omega arith }) (All-nil IsBelief)
is_prior_at (p ∷ ps) zero h = all_first IsPrior p ps h
is_prior_at (p ∷ ps) (suc n) h = is_prior_at ps n (all_rest IsPrior p ps h)

-- ---- the beliefs of all leaves

leaf_belief : (mu : ℕ) → IsMu mu → (priors : List Prior) (docno : List ℕ) (tokens : ℕ) → All IsPrior priors
    → (l : LeafTree) (n : LeafCount) (s : LeafStats) → IsLeafCount n → AreLeafStats s → IsBelief (leaf_fraction (Dirichlet mu) priors docno tokens l n s)
leaf_belief mu m priors docno tokens told (extents x c) n s h h' =
    dirichlet_belief mu n.tf n.len s.cf s.total m (record { within = h.within; part = h'.part; short = h.short; few = h'.few })
leaf_belief mu m priors docno tokens told (prior i) n s h h' = prior_kept IsBelief (prior_at priors i) docno tokens (is_prior_at priors i told)

pub leaf_beliefs : (mu : ℕ) → IsMu mu → (priors : List Prior) (docno : List ℕ) (tokens : ℕ) → All IsPrior priors
    → (leaves : List LeafTree) (counts : List LeafCount) (stats : List LeafStats) → All IsLeafCount counts → All AreLeafStats stats
    → All IsBelief (leaf_fractions (Dirichlet mu) priors docno tokens leaves counts stats)
unfolding leaf_fractions
leaf_beliefs mu m priors docno tokens told [] counts stats h h' = All-nil IsBelief
leaf_beliefs mu m priors docno tokens told (l ∷ ls) [] stats h h' = All-nil IsBelief
leaf_beliefs mu m priors docno tokens told (l ∷ ls) (n ∷ ns) [] h h' = All-nil IsBelief
leaf_beliefs mu m priors docno tokens told (l ∷ ls) (n ∷ ns) (s ∷ ss) h h' =
    All-cons IsBelief _ _ (leaf_belief mu m priors docno tokens told l n s (all_first IsLeafCount n ns h) (all_first AreLeafStats s ss h'))
    (leaf_beliefs mu m priors docno tokens told ls ns ss (all_rest IsLeafCount n ns h) (all_rest AreLeafStats s ss h'))
