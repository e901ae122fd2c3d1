-- The words for a kind of fault in a line that tells a refusal.
use Rattle.std.specs.Prelude.{ℕ, List, codes}
use Rattle.query_reader.specs.declared.fault.QueryKind.{QueryKind}
use Rattle.query_reader.specs.declared.fault.QueryKind.TheVariants.{Expected, UnknownOperator, BadNumber, EmptyTerm, EmptyOperator, TooDeep, TooManyNodes, FilterInside, WindowInside, ContextInside, BadField, WeightTooLong, NotYetBuilt}

abbrev pub kind_name : QueryKind → List ℕ
kind_name Expected = codes "Query Expected"
kind_name UnknownOperator = codes "Query UnknownOperator"
kind_name BadNumber = codes "Query BadNumber"
kind_name EmptyTerm = codes "Query EmptyTerm"
kind_name EmptyOperator = codes "Query EmptyOperator"
kind_name TooDeep = codes "Query TooDeep"
kind_name TooManyNodes = codes "Query TooManyNodes"
kind_name FilterInside = codes "Query FilterInside"
kind_name WindowInside = codes "Query WindowInside"
kind_name ContextInside = codes "Query ContextInside"
kind_name BadField = codes "Query BadField"
kind_name WeightTooLong = codes "Query WeightTooLong"
kind_name NotYetBuilt = codes "Query NotYetBuilt"
