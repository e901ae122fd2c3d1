use Rattle.prior_lines.proofs.LineLemmas.{none_given, some_given}
use Rattle.prior_lines.proofs.line.next_row.Goals as goal

pub returns-in_ok-take_line-in-Some-clause-rows : goal.returns-in_ok-take_line-in-Some-clause-rows
returns-in_ok-take_line-in-Some-clause-rows g c =
    let texts = rw c.in-Some.is at c.in_ok-line.ensures.texts in
    some_given c.in-Some.line c.next_text.new.self.text c.args.kept.now c.take_line.new.kept c.in_ok-take_line-in-Some.field-0 c.args.lines.now.ahead.offset c.next_text.new.self.ahead.offset _ _ c.in_ok-take_line-in-Some.ensures texts

pub returns-in-None-clause-rows : goal.returns-in-None-clause-rows
returns-in-None-clause-rows g c =
    let texts = rw c.in-None.is at c.in_ok-line.ensures.texts in
    none_given c.next_text.new.self.text c.args.kept.now c.args.lines.now.ahead.offset c.next_text.new.self.ahead.offset _ _ texts
