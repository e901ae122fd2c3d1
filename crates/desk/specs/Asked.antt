-- What the text of an event asks for, or why it is refused.
use Rattle.std.specs.Prelude.{◌≡◌, ℕ, List, Result, Ok, Err}
use Rattle.ri_base.specs.Expression.{ExprTree}
use Rattle.ri_base.specs.Query.{QueryTree}
use Rattle.query_reader.specs.QueryText.{expr_text, query_text}
use Rattle.query_reader.specs.declared.fault.QueryFault.{QueryFault}
use Rattle.query_reader.specs.declared.fault.QueryFault.TheVariants as text
use Rattle.query_reader.specs.declared.fault.QueryKind.{QueryKind}
use Rattle.query_check.specs.Check.{CheckedTree, checks}
use Rattle.query_check.specs.declared.fault.CheckFault.{CheckFault}
use Rattle.query_check.specs.declared.fault.CheckFault.TheVariants as fault
use Rattle.desk.specs.declared.asking.NotTaken.{NotTaken}
use Rattle.desk.specs.declared.asking.NotTaken.TheVariants as not_taken
use Rattle.desk.specs.declared.reply.CheckKind.{CheckKind}
use Rattle.desk.specs.declared.reply.CheckKind.TheVariants as kind
use Rattle.desk.specs.declared.reply.Refusal.{Refusal}
use Rattle.desk.specs.declared.reply.Refusal.TheVariants as refusal

-- the kind of a fault; a query is never checked to be short of memory
abbrev pub kind_of : CheckFault → CheckKind
kind_of fault.NoWeight = kind.NoWeight
kind_of fault.NoLeaf = kind.NoLeaf
kind_of fault.ScaleTooLarge = kind.ScaleTooLarge
kind_of (fault.UnknownPrior name) = kind.UnknownPrior name
kind_of fault.Memory = kind.NoWeight

abbrev pub checked_as : Result CheckedTree CheckFault → Result CheckedTree Refusal
checked_as (Ok checked) = Ok checked
checked_as (Err fault) = Err (refusal.Check (kind_of fault))

abbrev pub asked_as : List (List ℕ) → Result QueryTree (QueryKind × ℕ) → Result CheckedTree Refusal
asked_as names (Ok query) = checked_as (checks query names)
asked_as names (Err fault) = Err (refusal.Query fault.0 fault.1)

-- the checked query of a text, where there are priors of these names, or the first fault: the grammar goes before the check
abbrev pub asked : List (List ℕ) → List ℕ → Result CheckedTree Refusal
asked names text = asked_as names (query_text text)

abbrev pub scanned_as : Result ExprTree (QueryKind × ℕ) → Result ExprTree Refusal
scanned_as (Ok x) = Ok x
scanned_as (Err fault) = Err (refusal.Query fault.0 fault.1)

-- the expression of a text, or its fault
abbrev pub scanned : List ℕ → Result ExprTree Refusal
scanned text = scanned_as (expr_text text)

-- ---- what a call answers where it doesn't take a text

abbrev pub text_fault : QueryFault → NotTaken
text_fault (text.Refused kind place) = not_taken.Refused (refusal.Query kind place)
text_fault text.Memory = not_taken.Memory

abbrev pub check_fault : CheckFault → NotTaken
check_fault fault.NoWeight = not_taken.Refused (refusal.Check kind.NoWeight)
check_fault fault.NoLeaf = not_taken.Refused (refusal.Check kind.NoLeaf)
check_fault fault.ScaleTooLarge = not_taken.Refused (refusal.Check kind.ScaleTooLarge)
check_fault (fault.UnknownPrior name) = not_taken.Refused (refusal.Check (kind.UnknownPrior name))
check_fault fault.Memory = not_taken.Memory

-- the text is refused so, or memory was wanting
abbrev pub IsNotTaken : {A : Type 0} → Result A Refusal → NotTaken → Type 0
IsNotTaken expected (not_taken.Refused why) = expected ≡ Err why
IsNotTaken expected not_taken.Memory = Unit {0}
