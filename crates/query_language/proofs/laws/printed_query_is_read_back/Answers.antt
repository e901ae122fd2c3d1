use Rattle.query_reader.proofs.QueryFits.{query_text_bounded}
use Rattle.query_language.proofs.laws.printed_query_is_read_back.Goals as goal

pub returns-clause-only : goal.returns-clause-only
returns-clause-only c = query_text_bounded
