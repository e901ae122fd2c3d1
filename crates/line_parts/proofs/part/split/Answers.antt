use Rattle.line_parts.proofs.PartLemmas.{split_found, split_none}
use Rattle.line_parts.proofs.part.split.Goals as goal

pub returns-in-Some : goal.returns-in-Some
returns-in-Some c = split_found c.args.byte c.args.text.now c.in-Some.at (rw c.in-Some.is at c.memchr.ensures)

pub returns-in-None : goal.returns-in-None
returns-in-None c = split_none c.args.byte c.args.text.now (rw c.in-None.is at c.memchr.ensures)
