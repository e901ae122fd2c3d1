use Rattle.query_language.proofs.GrammarLaw.{expr_text_is}
use Rattle.query_language.proofs.GrammarReads.{expr_text_reads}
use Rattle.query_language.proofs.laws.expr_text_is_grammar.Goals as goal

pub returns-clause-only : goal.returns-clause-only
returns-clause-only c = expr_text_is

pub returns-clause-every : goal.returns-clause-every
returns-clause-every c = expr_text_reads
