-- The canonical text of a query's text.
use Rattle.std.specs.Prelude.{ℕ, List, Result}
use Rattle.std.specs.Result.{result_map_both}
use Rattle.query_printer.specs.Printed.{query_printed}
use Rattle.query_reader.specs.QueryText.{query_text}
use Rattle.query_reader.specs.declared.fault.QueryKind.{QueryKind}

-- what is printed of the tree that the text is read as, or the text's one kind of fault and place
abbrev pub canonical : List ℕ → Result (List ℕ) (QueryKind × ℕ)
canonical bytes = result_map_both query_printed (λ fault. fault) (query_text bytes)
