-- What is found of a leaf that stood before.
use Rattle.std.proofs.Common.{◌≡◌, ◌<◌, ℕ, zero, suc, List, [], ◌∷◌, Result, IfOk, length, map, take, get_or, refl, sym, ap, subst, ◌∙◌, arith}
use Rattle.std.proofs.lemmas.List.{get_or-map, get_or-take, length-map, length-take}
use Rattle.ri_base.specs.Collection.{document_at}
use Rattle.ri_base.specs.Documents.{Document}
use Rattle.ri_base.specs.Pair.{Pair}
use Rattle.ri_base.specs.declared.seg_fault.SegFault.{SegFault}
use Rattle.query_check.specs.Leaves.{LeafTree, leaf_tree, prior}
use Rattle.query_check.specs.declared.leaf_kind.LeafKind.{LeafKind}
use Rattle.belief_nodes.specs.declared.leaf_count.LeafCount.{LeafCount}
use Rattle.document_scoring.specs.Counters.{found_count}
use Rattle.document_scoring.specs.Counts.{count_in}
use Rattle.document_scoring.specs.declared.found.LeafExtents.{LeafExtents}

within : (number : ℕ) (trees : List LeafTree) (first : ℕ) → first < number → number < length trees → first < length (take number trees)
within number trees first lt inside = let long = length-take number trees in omega (arith, lt, inside, long)

module _ (d : Document) where
  -- the counts of a leaf that is the same are the same
  pub copied : (w : Pair) (leaves : List LeafKind) (before : List LeafExtents) (number first : ℕ) (early late : LeafKind) (x copy : LeafExtents) → first < number → number < length leaves → length before ≡ number
      → early ≡ get_or leaves first early → late ≡ get_or leaves number late → leaf_tree early ≡ leaf_tree late → x ≡ get_or before first x → copy ≡ x
      → map (found_count d.fields w) before ≡ map (count_in d w) (take number (map leaf_tree leaves))
      → found_count d.fields w copy ≡ count_in d w (get_or (map leaf_tree leaves) number (prior 0))
  copied w leaves before number first early late x copy lt inside each at_early at_late same at is so_far =
      let f : LeafExtents → LeafCount = found_count d.fields w in
      let g : LeafTree → LeafCount = count_in d w in
      let trees : List LeafTree = map leaf_tree leaves in
      let other : LeafCount = f x in
      let long = length-map leaves leaf_tree in
      let here : f x ≡ get_or (map f before) first other = ap f at ∙ sym (get_or-map f before first x other (omega (arith, lt, each))) in
      let there : get_or (map g (take number trees)) first other ≡ g (get_or (take number trees) first (prior 0)) = get_or-map g (take number trees) first (prior 0) other (within number trees first lt (omega (arith, inside, long))) in
      let front : get_or (take number trees) first (prior 0) ≡ get_or trees first (prior 0) = get_or-take number trees first (prior 0) lt in
      let early_is : get_or trees first (prior 0) ≡ leaf_tree early = get_or-map leaf_tree leaves first early (prior 0) (omega (arith, lt, inside)) ∙ ap leaf_tree (sym at_early) in
      let late_is : get_or trees number (prior 0) ≡ leaf_tree late = get_or-map leaf_tree leaves number late (prior 0) inside ∙ ap leaf_tree (sym at_late) in
      ap f is ∙ here ∙ ap (λ ns. get_or ns first other) so_far ∙ there ∙ ap g (front ∙ early_is ∙ same ∙ sym late_is)

  pub read : (leaves : List LeafKind) (number : ℕ) (leaf : LeafKind) (result : Result LeafExtents SegFault) → number < length leaves → leaf ≡ get_or leaves number leaf
      → IfOk result (λ found. (w : Pair) → found_count d.fields w found ≡ count_in d w (leaf_tree leaf))
      → IfOk result (λ found. (w : Pair) → found_count d.fields w found ≡ count_in d w (get_or (map leaf_tree leaves) number (prior 0)))
  read leaves number leaf result inside at h =
      let same : leaf_tree leaf ≡ get_or (map leaf_tree leaves) number (prior 0) = ap leaf_tree at ∙ sym (get_or-map leaf_tree leaves number leaf (prior 0) inside) in
      subst (λ (l : LeafTree). IfOk result (λ found. (w : Pair) → found_count d.fields w found ≡ count_in d w l)) same h

-- an element that is there is the same by any default
pub default : {X : Type 0} (xs : List X) (i : ℕ) (a b : X) → i < length xs → get_or xs i a ≡ get_or xs i b
default [] i a b lt = absurd (omega (arith, lt))
default (x ∷ xs) zero a b lt = refl
default (x ∷ xs) (suc i) a b lt = default xs i a b (omega (arith, lt))

-- what was found in a document as it was before
pub so_far_read : (docs read : List Document) (id : ℕ) (leaves : List LeafTree) (number : ℕ) (before : List LeafExtents) → docs ≡ read
    → ((w : Pair) → map (found_count (document_at docs id).fields w) before ≡ map (count_in (document_at docs id) w) (take number leaves))
    → (w : Pair) → map (found_count (document_at read id).fields w) before ≡ map (count_in (document_at read id) w) (take number leaves)
so_far_read docs read id leaves number before same h w =
    subst (λ (ds : List Document). map (found_count (document_at ds id).fields w) before ≡ map (count_in (document_at ds id) w) (take number leaves)) same (h w)
