use Rattle.std.proofs.Common.{rules, ◌≡◌, ◌∙◌, ap, ◌++◌, length, take, drop}
use Rattle.line_reader.specs.Lines.{kept}
use Rattle.line_reader.proofs.LineLemmas.{feed_found, feed_before, feed_after, no_feed, no_feed_before, no_feed_after}
use Rattle.line_reader.proofs.line.take_piece.Goals as goal

pub returns-in_ok-keep-in-Some-clause-ends : goal.returns-in_ok-keep-in-Some-clause-ends
returns-in_ok-keep-in-Some-clause-ends c = feed_found c.args.ahead.now.bytes c.in-Some.count (rw (c.in-Some.is, c.bytes-bytes.ensures.exact) at c.memchr.ensures)

pub returns-in_ok-keep-in-Some-clause-text : goal.returns-in_ok-keep-in-Some-clause-text
returns-in_ok-keep-in-Some-clause-text c =
    let first = rw (c.in-Some.is, c.bytes-bytes.ensures.exact) at c.memchr.ensures in
    let text : c.keep.new.text.items ≡ kept (c.args.text.now.items ++ take c.in-Some.count c.args.ahead.now.bytes) = search rules in
    text ∙ ap (λ xs. kept (c.args.text.now.items ++ xs)) (feed_before c.args.ahead.now.bytes c.in-Some.count first)

pub returns-in_ok-keep-in-Some-clause-rest : goal.returns-in_ok-keep-in-Some-clause-rest
returns-in_ok-keep-in-Some-clause-rest c = c.advance.ensures.rest ∙ feed_after c.args.ahead.now.bytes c.in-Some.count (rw (c.in-Some.is, c.bytes-bytes.ensures.exact) at c.memchr.ensures)

pub returns-in_ok-keep-in-None-clause-ends : goal.returns-in_ok-keep-in-None-clause-ends
returns-in_ok-keep-in-None-clause-ends c = no_feed c.args.ahead.now.bytes (rw (c.in-None.is, c.bytes-bytes.ensures.exact) at c.memchr.ensures)

pub returns-in_ok-keep-in-None-clause-text : goal.returns-in_ok-keep-in-None-clause-text
returns-in_ok-keep-in-None-clause-text c =
    let none = rw (c.in-None.is, c.bytes-bytes.ensures.exact) at c.memchr.ensures in
    let text : c.keep-in-None.new.text.items ≡ kept (c.args.text.now.items ++ c.args.ahead.now.bytes) = search rules in
    text ∙ ap (λ xs. kept (c.args.text.now.items ++ xs)) (no_feed_before c.args.ahead.now.bytes none)

pub returns-in_ok-keep-in-None-clause-rest : goal.returns-in_ok-keep-in-None-clause-rest
returns-in_ok-keep-in-None-clause-rest c =
    let count : c.advance-in-None.new.self.bytes ≡ drop (length c.args.ahead.now.bytes) c.args.ahead.now.bytes = search rules in
    count ∙ no_feed_after c.args.ahead.now.bytes (rw (c.in-None.is, c.bytes-bytes.ensures.exact) at c.memchr.ensures)
