use Rattle.query_language.proofs.QueryGrammarLaw.{query_text_is}
use Rattle.query_language.proofs.laws.query_text_is_grammar.Goals as goal

pub returns : goal.returns
returns c = query_text_is
