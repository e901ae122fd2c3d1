-- The lines of refusals of a command's text. What is no refusal has no line.
use Rattle.std.specs.Prelude.{ℕ, List, [], ◌++◌, codes}
use Rattle.command_pieces.specs.Written.{Plain, refused_piece}
use Rattle.query_check.specs.declared.fault.CheckFault.{CheckFault}
use Rattle.query_check.specs.declared.fault.CheckFault.TheVariants as check
use Rattle.query_reader.specs.Names.{kind_name}
use Rattle.refusals.specs.Lines.{named_line, placed_line}
use Rattle.query_refusals.specs.declared.refusal.QueryRefusal.{QueryRefusal}
use Rattle.query_refusals.specs.declared.refusal.QueryRefusal.TheVariants as refusal

abbrev pub check_name : CheckFault → List ℕ
check_name check.NoWeight = codes "NoWeight"
check_name check.NoLeaf = codes "NoLeaf"
check_name check.ScaleTooLarge = codes "ScaleTooLarge"
check_name (check.UnknownPrior name) = codes "UnknownPrior " ++ name
check_name check.Memory = []

-- the line of a refusal: its kind, and the offset or the name that it is about
unfoldable pub line_of : QueryRefusal → List ℕ
line_of (refusal.Text kind place) = placed_line (kind_name kind) place
line_of (refusal.Check why) = named_line (codes "Check") (check_name why)
line_of (refusal.NoSuchRank query) = named_line (codes "NoSuchRank") query

-- the piece of a refusal
abbrev pub refusal_piece : QueryRefusal → Plain
refusal_piece why = refused_piece (line_of why)
