-- The priors that a query asks for are among those of its names, and the plugs tell these.
use Rattle.std.proofs.Common.{◌≡◌, ◌⊎◌, inl, inr, ◌<◌, ◌≤◌, ◌+◌, ◌-◌, ℕ, Bool, true, false, List, [], ◌∷◌, length, map, get_or, drop, refl, sym, ap, ◌∙◌, arith, Option, Some, None}
use Rattle.std.specs.Prelude.{bytes_eq, if◌then◌else◌}
use Rattle.std.specs.List.{All, position}
use Rattle.std.proofs.lemmas.List.{get_or-append_right, get_or-drop, get_or-map, get_or_append_left, get_or_default, length-map}
use Rattle.std.proofs.lemmas.List.Elements.{All-append, All-cons, All-nil}
use Rattle.std.proofs.lemmas.List.Quantifiers.{position-Some}
use Rattle.ri_base.specs.Query.{BeliefTree, BeliefTrees, WeightedTrees, combine, weight, greatest, prior, leaf, none, more, none_weighted, more_weighted}
use Rattle.query_check.specs.Check.{all_leaves, is_length, leaves_of, place_or, prior_number, weighted_leaves}
use Rattle.query_check.specs.Leaves as leaves
use Rattle.query_check.specs.Leaves.{LeafTree}
use Rattle.belief_nodes.specs.Priors as nodes
use Rattle.belief_nodes.specs.Priors.{no_prior, prior_at}
use Rattle.desk.specs.Priors.{kept_prior, length_prior, priors_with, run_priors}
use Rattle.repository.specs.Stands.{Prior}
use Rattle.desk.specs.Keeping.{AsksFor}
use Rattle.desk.specs.Plugs.{ArePlugs, IsPlugOf}
use Rattle.desk.proofs.Plugs.{AreAlike, TellsAlike, alike-same, alike-then}

-- ---- numbers of priors

number-by : (count : ℕ) (b : Bool) (o : Option ℕ) → ((i : ℕ) → o ≡ Some i → i < count) → ((if b then 8 else place_or 8 o) < count) ⊎ ((if b then 8 else place_or 8 o) ≡ 8)
number-by count true o below = inr refl
number-by count false None below = inr refl
number-by count false (Some i) below = inl (below i refl)

number-asks : (names : List (List ℕ)) (f : List ℕ) → AsksFor (length names) (leaves.prior (prior_number names f))
unfolding prior_number
number-asks names f = number-by (length names) (is_length f) (position (λ name. bytes_eq name f) names) (λ i e. (position-Some (λ name. bytes_eq name f) names i [] e).0)

mutual
  unfolding leaves_of all_leaves weighted_leaves

  -- each leaf of a query asks for one of them
  pub leaves-ask : (names : List (List ℕ)) (x : BeliefTree) → All (AsksFor (length names)) (leaves_of names x)
  leaves-ask names (combine xs) = all-ask names xs
  leaves-ask names (weight xs) = weighted-ask names xs
  leaves-ask names (greatest xs) = all-ask names xs
  leaves-ask names (prior f) = All-cons (AsksFor (length names)) (leaves.prior (prior_number names f)) [] (number-asks names f) (All-nil (AsksFor (length names)))
  leaves-ask names (leaf x context) = All-cons (AsksFor (length names)) (leaves.extents x context) [] tt (All-nil (AsksFor (length names)))

  all-ask : (names : List (List ℕ)) (xs : BeliefTrees) → All (AsksFor (length names)) (all_leaves names xs)
  all-ask names none = All-nil (AsksFor (length names))
  all-ask names (more x xs) = All-append (AsksFor (length names)) (leaves_of names x) (all_leaves names xs) (leaves-ask names x) (all-ask names xs)

  weighted-ask : (names : List (List ℕ)) (xs : WeightedTrees) → All (AsksFor (length names)) (weighted_leaves names xs)
  weighted-ask names none_weighted = All-nil (AsksFor (length names))
  weighted-ask names (more_weighted w x xs) = All-append (AsksFor (length names)) (leaves_of names x) (weighted_leaves names xs) (leaves-ask names x) (weighted-ask names xs)

-- ---- what the plugs tell

abbrev kept_of : Prior → nodes.Prior
kept_of p = kept_prior p.table

stored-at : (ps : List Prior) (n : ℕ) (d : Prior) → n < length ps → prior_at (priors_with ps) n ≡ kept_of (get_or ps n d)
stored-at ps n d lt =
    let long = length-map ps kept_of in
    get_or_append_left (map kept_of ps) (drop (length ps) run_priors) no_prior n (omega (arith, lt, long)) ∙ get_or-map kept_of ps n d no_prior lt

last-at : (ps : List Prior) → length ps ≤ 8 → prior_at (priors_with ps) 8 ≡ length_prior
last-at ps few =
    let all : length ps + (8 - length ps) ≡ 8 = omega (arith, few) in
    get_or-append_right (map kept_of ps) (drop (length ps) run_priors) (length ps) 8 no_prior (length-map ps kept_of) few
    ∙ get_or-drop (length ps) run_priors (8 - length ps) no_prior ∙ ap (λ n. get_or run_priors n no_prior) all

same-prior : (p : Prior) (plug : nodes.Prior) → IsPlugOf p plug → AreAlike plug (kept_of p)
same-prior p plug is = record { rows = is.rows; steps = is.steps; rest = is.rest }

-- the prior of lengths
last-alike : (ps : List Prior) (plugs : List nodes.Prior) → ArePlugs ps plugs → length ps ≤ 8 → (n : ℕ) → n ≡ 8 → AreAlike (prior_at plugs n) (prior_at (priors_with ps) n)
last-alike ps plugs are few n e = alike-same (prior_at plugs n) (prior_at (priors_with ps) n)
    (ap (λ k. prior_at plugs k) e ∙ are.last ∙ sym (last-at ps few) ∙ ap (λ k. prior_at (priors_with ps) k) (sym e))

pub plugs-alike : (ps : List Prior) (plugs : List nodes.Prior) → ArePlugs ps plugs → length ps ≤ 8 → (l : LeafTree) → AsksFor (length ps) l → TellsAlike plugs (priors_with ps) l
plugs-alike ps plugs are few (leaves.extents x context) asks = tt
plugs-alike [] plugs are few (leaves.prior n) asks = elim asks [
  | inl lt ↦ absurd (omega (arith, lt))
  | inr e ↦ last-alike [] plugs are few n e
]
plugs-alike (p ∷ ps) plugs are few (leaves.prior n) asks = elim asks [
  | inl lt ↦
      let own = get_or (p ∷ ps) n p in
      alike-then (prior_at plugs n) (kept_of own) (prior_at (priors_with (p ∷ ps)) n)
      (same-prior own (prior_at plugs n) (are.stored n own lt (get_or_default (p ∷ ps) n p own lt)))
      (alike-same (kept_of own) (prior_at (priors_with (p ∷ ps)) n) (sym (stored-at (p ∷ ps) n p lt)))
  | inr e ↦ last-alike (p ∷ ps) plugs are few n e
]
