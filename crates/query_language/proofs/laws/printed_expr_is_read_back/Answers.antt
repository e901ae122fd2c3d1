use Rattle.query_reader.proofs.QueryFits.{expr_text_bounded}
use Rattle.query_language.proofs.laws.printed_expr_is_read_back.Goals as goal

pub returns-clause-only : goal.returns-clause-only
returns-clause-only c = expr_text_bounded
