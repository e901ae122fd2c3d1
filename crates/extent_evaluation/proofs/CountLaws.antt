-- What is counted in a window without tokens, and how many tokens of a document count.
use Rattle.std.proofs.Common.{◌≡◌, ◌<◌, ◌≤◌, ℕ, false, List, [], ◌∷◌, filter, length, Option, None, Some, refl, arith}
use Rattle.std.specs.List.{All}
use Rattle.std.proofs.lemmas.Bool.Decides.{nat_tests}
use Rattle.std.proofs.lemmas.List.Elements.{All-head, All-tail}
use Rattle.ri_base.specs.Documents.{Document}
use Rattle.ri_base.specs.Pair.{Pair}
use Rattle.field_extents.specs.Extents.{begin_count, is_inside}
use Rattle.field_extents.proofs.Laws.{covered_count-le}
use Rattle.extent_lists.specs.Pairs.{pair}
use Rattle.extent_evaluation.specs.Counts.{len, whole}

outside : (x : Pair) → x.begin < x.end → is_inside (pair 0 0) x ≡ false
outside x h = grind (arith, nat_tests)

nothing_inside : (xs : List Pair) → All (λ x. x.begin < x.end) xs → filter (is_inside (pair 0 0)) xs ≡ []
nothing_inside [] h = refl
nothing_inside (x ∷ xs) h =
    let some : x.begin < x.end = All-head (λ (y : Pair). y.begin < y.end) x xs h in
    rw (outside x some) (nothing_inside xs (All-tail (λ (y : Pair). y.begin < y.end) x xs h))

-- no extent begins in it
pub begin_count_none : (xs : List Pair) → All (λ x. x.begin < x.end) xs → begin_count xs (pair 0 0) ≡ 0
begin_count_none xs h = rw (nothing_inside xs h) refl

-- no more tokens of a document count than it has
pub whole-len-le : (context : Option (List ℕ)) (d : Document) → len d (whole d) context ≤ length d.tokens
whole-len-le None d = omega arith
whole-len-le (Some c) d = omega (arith, covered_count-le d.fields c (whole d))
