-- The lines of refusals.
use Rattle.std.specs.Prelude.{ℕ, List, [], ◌∷◌, ◌++◌, codes}
use Rattle.query_reader.specs.Names.{kind_name}
use Rattle.refusals.specs.Lines.{named_line, placed_line}
use Rattle.desk.specs.declared.reply.CheckKind.{CheckKind}
use Rattle.desk.specs.declared.reply.CheckKind.TheVariants as check
use Rattle.desk.specs.declared.reply.Refusal.{Refusal}
use Rattle.desk.specs.declared.reply.Refusal.TheVariants.{NameTaken, NoSuchName, NotYet, DeskFull, NoMerge, NoSuchRank, MergeOpen, Repeated, CollectionFull, NoSuchDoc, Query, Check}

-- refused KIND
abbrev pub bare_line : List ℕ → List ℕ
bare_line kind = codes "refused " ++ kind ++ 10 ∷ []

-- the kind of a query that is read and has a fault, with the prior that isn't known
abbrev pub check_name : CheckKind → List ℕ
check_name check.NoWeight = codes "NoWeight"
check_name check.NoLeaf = codes "NoLeaf"
check_name check.ScaleTooLarge = codes "ScaleTooLarge"
check_name (check.UnknownPrior name) = codes "UnknownPrior " ++ name

-- the line of a refusal: its kind, and the name, the docno or the place that it is about
unfoldable pub refusal_text : Refusal → List ℕ
refusal_text (NameTaken name) = named_line (codes "NameTaken") name
refusal_text (NoSuchName name) = named_line (codes "NoSuchName") name
refusal_text (NotYet name) = named_line (codes "NotYet") name
refusal_text (DeskFull name) = named_line (codes "DeskFull") name
refusal_text NoMerge = bare_line (codes "NoMerge")
refusal_text (NoSuchRank name) = named_line (codes "NoSuchRank") name
refusal_text MergeOpen = bare_line (codes "MergeOpen")
refusal_text (Repeated docno) = named_line (codes "Repeated") docno
refusal_text (CollectionFull docno) = named_line (codes "CollectionFull") docno
refusal_text (NoSuchDoc docno) = named_line (codes "NoSuchDoc") docno
refusal_text (Query kind place) = placed_line (kind_name kind) place
refusal_text (Check kind) = named_line (codes "Check") (check_name kind)
