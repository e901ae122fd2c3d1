-- Of which terms of a query places were told.
use Rattle.std.specs.Prelude.{◌≡◌, ◌⊎◌, ⊤, ℕ, Bool, true, false, List, All, Contains}
use Rattle.ri_base.specs.Expression.{EachWord}
use Rattle.ri_base.specs.Query.{FilterTree}
use Rattle.query_check.specs.Leaves.{LeafTree, extents, prior}

-- of each term of a leaf; a prior has none
abbrev pub IsLeafTold : (List ℕ → Type 0) → LeafTree → Type 0
IsLeafTold IsTold (extents x context) = EachWord IsTold x
IsLeafTold IsTold (prior n) = ⊤

abbrev pub IsFilterTold : (List ℕ → Type 0) → FilterTree → Type 0
IsFilterTold IsTold f = EachWord IsTold f.expr

-- of each term of all filters; where a document doesn't pass, of each term of one of them
abbrev pub AreFiltersTold : (List ℕ → Type 0) → List FilterTree → Bool → Type 0
AreFiltersTold IsTold filters true = All (IsFilterTold IsTold) filters
AreFiltersTold IsTold filters false = (f : FilterTree) × Contains filters f × IsFilterTold IsTold f

-- of each term of all filters and leaves; where nothing was added, of each term of one filter at least
abbrev pub IsDocumentTold : {R : Type 0} → (List ℕ → Type 0) → List FilterTree → List LeafTree → List R → List R → Type 0
IsDocumentTold IsTold filters leaves old new =
    AreFiltersTold IsTold filters true × All (IsLeafTold IsTold) leaves ⊎ AreFiltersTold IsTold filters false × (new ≡ old)
