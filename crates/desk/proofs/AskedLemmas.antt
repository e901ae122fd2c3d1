-- Texts that are read, and why others aren't.
use Rattle.std.proofs.Common.{◌≡◌, ℕ, true, List, length, ap, subst, Option, None, Some}
use Rattle.std.specs.Prelude.{Result, Ok, Err}
use Rattle.std.specs.List.{All}
use Rattle.std.specs.Str.{IsUtf8, is_utf8}
use Rattle.std.proofs.lemmas.Str.{IsUtf8-from_is_utf8}
use Rattle.ri_base.specs.Query.{QueryTree}
use Rattle.query_check.specs.Check.{CheckedTree, checked_or, checked_tree, checks, first_fault, pruned, whole}
use Rattle.query_check.specs.declared.fault.CheckFault.{CheckFault}
use Rattle.desk.specs.Keeping.{AsksFor}
use Rattle.desk.proofs.Known.{leaves-ask}

pub utf8_text : (text : List ℕ) → is_utf8 text ≡ true → IsUtf8 text
utf8_text text e = IsUtf8-from_is_utf8 text e

-- ---- the priors that a checked query asks for

checked-is : (o : Option CheckFault) (tree q : CheckedTree) → checked_or o tree ≡ Ok q → tree ≡ q
checked-is None tree q is = ap (λ r. value_or r q) is
  where
    value_or : Result CheckedTree CheckFault → CheckedTree → CheckedTree
    value_or (Ok x) y = x
    value_or (Err e) y = y
checked-is (Some fault) tree q is = absurd (cc)

pub checked-asks : (names : List (List ℕ)) (tree : QueryTree) (q : CheckedTree) → checks tree names ≡ Ok q → All (AsksFor (length names)) q.leaves
checked-asks names tree q is =
    subst (λ (x : CheckedTree). All (AsksFor (length names)) x.leaves) (checked-is (first_fault names (whole tree)) (checked_tree tree names) q is) (leaves-ask names (pruned (whole tree)))
