use Rattle.std.proofs.Common.{rules, ◌≡◌, Ok}
use Rattle.ri_base.specs.Queries.{whole_tree}
use Rattle.query_printer.specs.Printed.{query_printed}
use Rattle.query_reader.specs.QueryText.{query_text}
use Rattle.query_language.proofs.QueryLaw.{printed_query_same}
use Rattle.query_language.proofs.canonical.canonical_query.Goals as goal

pub returns-in-Ok-clause-same : goal.returns-in-Ok-clause-same
returns-in-Ok-clause-same c =
    let read : query_text c.args.text.now ≡ Ok (whole_tree c.in_ok-query.query) = search rules in
    let print : c.in-Ok.printed ≡ query_printed (whole_tree c.in_ok-query.query) = search rules in
    rw print (printed_query_same _ _ read)
