-- Documents that can't occur in a result are passed over: what is held stays.
use Rattle.std.proofs.Common.{◌≡◌, ℕ, Bool, true, false, not, ◌&&◌, ◌||◌, nat_lt, cond, None, Some, List, [], ◌∷◌, ◌++◌, length, filter, map, flat_map, refl, sym, ap, ◌∙◌}
use Rattle.std.specs.List.{All, list_all, list_any}
use Rattle.std.proofs.lemmas.Bool.{false≢true}
use Rattle.std.proofs.lemmas.List.Elements.{All-cons, All-head, All-nil, All-tail}
use Rattle.ri_base.specs.Documents.{Document}
use Rattle.ri_base.specs.Expression.{ExprTree}
use Rattle.ri_base.specs.Pair.{Pair}
use Rattle.ri_base.specs.Query.{FilterTree}
use Rattle.smoothing.specs.declared.rule.RuleKind.{RuleKind}
use Rattle.query_check.specs.Leaves.{LeafTree, extents, prior}
use Rattle.belief_nodes.specs.Network.{NetworkTree}
use Rattle.belief_nodes.specs.Priors.{Prior}
use Rattle.windows.specs.Windows.{windows}
use Rattle.field_extents.specs.Extents.{begin_count}
use Rattle.field_extents.specs.Fields.{lies_in_some}
use Rattle.extent_lists.specs.Extents.{Ext}
use Rattle.extent_evaluation.specs.Listed.{extent_list}
use Rattle.extent_evaluation.proofs.ListedLemmas.{listing}
use Rattle.range_masks.specs.May.{filter_may, filters_may, leaf_may, may, query_may, some_may}
use Rattle.range_masks.proofs.MayLemmas.{both, may-Ext}
use Rattle.document_scoring.specs.Candidates.{candidate, candidates, document_candidates, found_windows, has_some, occurs, passes}
use Rattle.document_scoring.specs.Counts.{count_in}
use Rattle.range_bounds.specs.Tables.{IsAbsent}
use Rattle.ranker.specs.First.{HoldsFirst, KeptEntries}
use Rattle.ranker.proofs.RankingLemmas.{HoldsFirst-more}

-- ---- a document in which no leaf has an extent

none_listed : (x : ExprTree) (d : Document) → ((b e : ℕ) → Ext x d b e → ⊥) → extent_list x d ≡ []
none_listed x d none = go (extent_list x d) (listing x d).only
  where
    go : (xs : List Pair) → All (λ p. Ext x d p.begin p.end) xs → xs ≡ []
    go [] h = refl
    go (p ∷ ps) h = absurd (none p.begin p.end (All-head (λ (q : Pair). Ext x d q.begin q.end) p ps h))

no_begin : (xs : List Pair) (w : Pair) → xs ≡ [] → begin_count xs w ≡ 0
no_begin xs w e = ap (λ ys. begin_count ys w) e

leaf_absent : (d : Document) (w : Pair) (l : LeafTree) → IsAbsent d l → (count_in d w l).tf ≡ 0
leaf_absent d w (extents x None) h = no_begin (extent_list x d) w (none_listed x d h)
leaf_absent d w (extents x (Some c)) h = no_begin (filter (lies_in_some d.fields c) (extent_list x d)) w (ap (filter (lies_in_some d.fields c)) (none_listed x d h))
leaf_absent d w (prior n) h = refl

leaves_absent : (d : Document) (w : Pair) (leaves : List LeafTree) → All (IsAbsent d) leaves → list_any (occurs d w) leaves ≡ false
leaves_absent d w [] h = refl
leaves_absent d w (l ∷ ls) h =
    ap (λ n. nat_lt 0 n || list_any (occurs d w) ls) (leaf_absent d w l (All-head (IsAbsent d) l ls h)) ∙ leaves_absent d w ls (All-tail (IsAbsent d) l ls h)

-- ---- a document without the terms

no_extents : (x : ExprTree) (d : Document) → may x d ≡ false → extent_list x d ≡ []
no_extents x d none = none_listed x d (λ b e is. false≢true (sym none ∙ may-Ext d x b e is))

may_absent : (d : Document) (l : LeafTree) → leaf_may l d ≡ false → IsAbsent d l
may_absent d (extents x c) none = λ b e is. false≢true (sym none ∙ may-Ext d x b e is)
may_absent d (prior n) none = tt

or_tells : (b c : Bool) → b || c ≡ false → (b ≡ false) × (c ≡ false)
or_tells true c h = absurd (false≢true (sym h))
or_tells false c h = (refl, h)

and_tells : (b c : Bool) → b && c ≡ true → (b ≡ true) × (c ≡ true)
and_tells true c h = (refl, h)
and_tells false c h = absurd (false≢true h)

first_false : (b c : Bool) → c ≡ true → b && c ≡ false → b ≡ false
first_false true c h e = absurd (false≢true (sym e ∙ h))
first_false false c h e = refl

all_absent : (d : Document) (leaves : List LeafTree) → some_may leaves d ≡ false → All (IsAbsent d) leaves
all_absent d [] h = All-nil (IsAbsent d)
all_absent d (l ∷ ls) h =
    let apart = or_tells (leaf_may l d) (some_may ls d) h in
    All-cons (IsAbsent d) l ls (may_absent d l apart.0) (all_absent d ls apart.1)

-- a filter that is passed may be passed
passes_may : (d : Document) (f : FilterTree) → passes d f ≡ true → filter_may f d ≡ true
passes_may d f h = go f.keep (may f.expr d) refl h
  where
    go : (keep some : Bool) → may f.expr d ≡ some → cond keep (has_some (extent_list f.expr d)) (not (has_some (extent_list f.expr d))) ≡ true → cond keep some true ≡ true
    go true true e p = refl
    go true false e p = absurd (false≢true (sym (ap has_some (no_extents f.expr d e)) ∙ p))
    go false some e p = refl

all_may : (d : Document) (filters : List FilterTree) → list_all (passes d) filters ≡ true → filters_may filters d ≡ true
all_may d [] h = refl
all_may d (f ∷ fs) h =
    let apart = and_tells (passes d f) (list_all (passes d) fs) h in
    both (filter_may f d) (filters_may fs d) (passes_may d f apart.0) (all_may d fs apart.1)

filter_none : {X : Type 0} (p : X → Bool) (xs : List X) → ((x : X) → p x ≡ false) → filter p xs ≡ []
filter_none p [] h = refl
filter_none p (x ∷ xs) h = ap (λ b. cond b (x ∷ filter p xs) (filter p xs)) (h x) ∙ filter_none p xs h

-- ---- one document that is passed over

module _ (kind : RuleKind) (priors : List Prior) (filters : List FilterTree) (network : NetworkTree) where
  none_shown : (d : Document) → (list_all (passes d) filters ≡ true → All (IsAbsent d) network.leaves) → candidates kind priors filters network (d ∷ []) ≡ []
  none_shown d absent = go (list_all (passes d) filters) refl
    where
      go : (b : Bool) → list_all (passes d) filters ≡ b → flat_map (document_candidates kind priors network) (cond b (d ∷ []) []) ≡ []
      go false e = refl
      go true e =
          let found : found_windows network.leaves network.range d ≡ [] = filter_none (λ w. list_any (occurs d w) network.leaves) (windows network.range (length d.tokens) d.fields) (λ w. leaves_absent d w network.leaves (absent e)) in
          ap (λ ws. map (candidate kind priors network d) ws ++ []) found

  -- one more document that has nothing to show
  pub HoldsFirst-absent : (docs : List Document) (d : Document) (most : ℕ) (few : KeptEntries) → (list_all (passes d) filters ≡ true → All (IsAbsent d) network.leaves)
      → HoldsFirst kind priors filters network docs most few → HoldsFirst kind priors filters network (docs ++ d ∷ []) most few
  HoldsFirst-absent docs d most few absent h =
      HoldsFirst-more kind priors filters network docs d most few few [] (record { more = []; behind = refl; candidates = sym (none_shown d absent) }) (All-nil (λ row. length row.fractions ≡ length network.leaves)) refl refl (λ all first. first) h

  pub HoldsFirst-skipped : (docs : List Document) (d : Document) (most : ℕ) (few : KeptEntries) → query_may filters network.leaves d ≡ false
      → HoldsFirst kind priors filters network docs most few → HoldsFirst kind priors filters network (docs ++ d ∷ []) most few
  HoldsFirst-skipped docs d most few none h =
      HoldsFirst-absent docs d most few (λ passed. all_absent d network.leaves (first_false (some_may network.leaves d) (filters_may filters d) (all_may d filters passed) none)) h
