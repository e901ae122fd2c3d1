use Rattle.std.proofs.Common.{◌<◌, Some, rules, length, ap, sym, ◌∙◌, arith}
use Rattle.std.proofs.lemmas.Option.{slice_get-get_or}
use Rattle.range_bounds.specs.declared.table.RangeTable.{RangeTable}
use Rattle.ranker.proofs.RangeKeyLemmas.{told_past, told_without}
use Rattle.ranker.proofs.bound.bound_of.Goals as goal

pub returns-clause-bound : goal.returns-clause-bound
returns-clause-bound g c = λ docs d told has.
    let tables = c.args.tables.now in
    let table = c.index-tables-number.result in
    let inside : c.args.number < length tables = omega (arith, c.if-number-tables.false) in
    let there = slice_get-get_or tables c.args.number table inside ∙ ap (λ (t : RangeTable). Some t) (sym c.index-tables-number.is) in
    c.in_ok-least.ensures.least docs d (told table there) has

pub returns-clause-key : goal.returns-clause-key
returns-clause-key g c = λ docs told.
    let tables = c.args.tables.now in
    let table = c.index-tables-number.result in
    let inside : c.args.number < length tables = omega (arith, c.if-number-tables.false) in
    let there = slice_get-get_or tables c.args.number table inside ∙ ap (λ (t : RangeTable). Some t) (sym c.index-tables-number.is) in
    c.in_ok-least.ensures.key docs (told table there)

pub returns-then-number-tables-clause-told : goal.returns-then-number-tables-clause-told
returns-then-number-tables-clause-told g c = λ none. told_past c.args.tables.now c.args.number c.args.range (omega (arith, c.if-number-tables.true))

pub returns-then-not-has-clause-told : goal.returns-then-not-has-clause-told
returns-then-not-has-clause-told g c = λ none.
    let tables = c.args.tables.now in
    let table = c.index-tables-number.result in
    let inside : c.args.number < length tables = omega (arith, c.if-number-tables.false) in
    let there = slice_get-get_or tables c.args.number table inside ∙ ap (λ (t : RangeTable). Some t) (sym c.index-tables-number.is) in
    told_without tables c.args.number c.args.range table there (search rules)
