use Rattle.std.proofs.Common.{◌<◌, Some, rules, length, ap, sym, ◌∙◌, arith}
use Rattle.std.proofs.lemmas.Bool.{false≢true}
use Rattle.std.proofs.lemmas.Option.{slice_get-get_or}
use Rattle.range_bounds.specs.declared.table.RangeTable.{RangeTable}
use Rattle.ranker.proofs.RangeKeyLemmas.{absent_told, no_table, told_with}
use Rattle.ranker.proofs.bound.is_absent.Goals as goal

pub returns-clause-absent : goal.returns-clause-absent
returns-clause-absent c = λ none network docs inside told.
    let tables = c.args.tables.now in
    let table = c.index-tables-number.result in
    let few : c.args.number < length tables = omega (arith, c.if-number-tables.false) in
    let there = slice_get-get_or tables c.args.number table few ∙ ap (λ (t : RangeTable). Some t) (sym c.index-tables-number.is) in
    absent_told network.leaves docs table c.args.range (told table there) inside (search rules)

pub returns-then-number-tables-clause-told : goal.returns-then-number-tables-clause-told
returns-then-number-tables-clause-told c = λ none untold. no_table c.args.tables.now c.args.number (omega (arith, c.if-number-tables.true))

pub returns-clause-told : goal.returns-clause-told
returns-clause-told c = λ none untold.
    let tables = c.args.tables.now in
    let table = c.index-tables-number.result in
    let few : c.args.number < length tables = omega (arith, c.if-number-tables.false) in
    let there = slice_get-get_or tables c.args.number table few ∙ ap (λ (t : RangeTable). Some t) (sym c.index-tables-number.is) in
    absurd (false≢true (sym untold ∙ told_with tables c.args.number c.args.range table there (search rules)))
