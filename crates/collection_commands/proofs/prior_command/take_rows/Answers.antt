use Rattle.std.proofs.Common.{◌≡◌, ℕ, List, ap, Err, ◌∙◌, subst, sym}
use Rattle.std.specs.Prelude.{◌==◌, IfSome, not}
use Rattle.prior_lines.specs.Rows.{refusals}
use Rattle.prior_lines.specs.declared.line.RowLine.{RowLine}
use Rattle.collection_commands.proofs.FaultLemmas.{items_change}
use Rattle.collection_commands.proofs.PriorLemmas.{lines-broken, memory-broken, read-broken, set-broken, set-done, set-stops, table-of}
use Rattle.collection_commands.proofs.prior_command.take_rows.Goals as goal

-- the input isn't read to its end, or its rows aren't ordered

pub returns-in-Err-Read-clause-broken : goal.returns-in-Err-Read-clause-broken
returns-in-Err-Read-clause-broken g c = λ k ahead. read-broken k c.args.name _ _ _ ahead.stands

pub returns-in-Err-Memory-clause-broken : goal.returns-in-Err-Memory-clause-broken
returns-in-Err-Memory-clause-broken g c = λ k ahead. memory-broken k c.args.name _ _ _ ahead.stands

pub returns-in_default-clause-broken : goal.returns-in_default-clause-broken
returns-in_default-clause-broken g c = λ k ahead. memory-broken k c.args.name _ _ _ ahead.stands

-- the lines are broken off

pub returns-in-Err-clause-broken : goal.returns-in-Err-clause-broken
returns-in-Err-clause-broken g c = λ k ahead.
    let made = c.in-Ok-into_rows.ensures in
    let said = subst (λ (ls : List RowLine). IfSome (g.S.Source.left c.args.source.now) (λ bytes. ls ≡ refusals bytes)) (sym c.deref.ensures.value) c.in-Ok.ensures.refusals in
    lines-broken k c.args.name c.in-Ok-into_rows.rows c.deref.result.now c.in-Err.fault _ _ _ _ _ (table-of _ c.in-Ok-into_rows.rows _ c.in-Ok.ensures.rows made.rest made.rows made.form) said c.of_items.ensures
    (items_change c.in-Err.fault _ (λ e. c.in-Err.ensures.no_read (ap Err e)) c.of_items.ensures) c.in-Err.ensures.broken ahead.stands

-- they are written, and the rows are set

pub returns-in-Ok-set_rows-clause-finished : goal.returns-in-Ok-set_rows-clause-finished
returns-in-Ok-set_rows-clause-finished g c = λ k ahead.
    let made = c.in-Ok-into_rows.ensures in
    let said = subst (λ (ls : List RowLine). IfSome (g.S.Source.left c.args.source.now) (λ bytes. ls ≡ refusals bytes)) (sym c.deref.ensures.value) c.in-Ok.ensures.refusals in
    let some = ap not c.is_empty.ensures ∙ ap (λ (n : ℕ). not (n == 0)) (sym c.deref.ensures.len) in
    set-done k c.args.name c.in-Ok-into_rows.rows c.deref.result.now _ _ _ _ _ _ _ (table-of _ c.in-Ok-into_rows.rows _ c.in-Ok.ensures.rows made.rest made.rows made.form) said some c.in-Ok-write_rows.ensures.finished ahead.stands
    (c.in-Ok-set_rows.ensures.does.finished k k ahead)

pub returns-in-Ok-set_rows-clause-stops : goal.returns-in-Ok-set_rows-clause-stops
returns-in-Ok-set_rows-clause-stops g c = λ k ahead.
    let made = c.in-Ok-into_rows.ensures in
    set-stops k c.args.name c.in-Ok-into_rows.rows c.in-Ok.found.1.items _ _ _ (table-of _ c.in-Ok-into_rows.rows _ c.in-Ok.ensures.rows made.rest made.rows made.form) (c.set_rows.ensures.does.stops k k ahead)

-- the rows can't be set

pub returns-clause-broken : goal.returns-clause-broken
returns-clause-broken g c = λ k ahead.
    let made = c.in-Ok-into_rows.ensures in
    let said = subst (λ (ls : List RowLine). IfSome (g.S.Source.left c.args.source.now) (λ bytes. ls ≡ refusals bytes)) (sym c.deref.ensures.value) c.in-Ok.ensures.refusals in
    set-broken k c.args.name c.in-Ok-into_rows.rows c.deref.result.now _ _ _ _ _ _ _ (table-of _ c.in-Ok-into_rows.rows _ c.in-Ok.ensures.rows made.rest made.rows made.form) said c.in-Err-set_rows.ensures.only c.in-Ok-write_rows.ensures.finished
    ahead.stands (c.in-Err-set_rows.ensures.does.broken k k ahead)

pub returns-clause-stops : goal.returns-clause-stops
returns-clause-stops g c = λ k ahead.
    let made = c.in-Ok-into_rows.ensures in
    set-stops k c.args.name c.in-Ok-into_rows.rows c.in-Ok.found.1.items _ _ _ (table-of _ c.in-Ok-into_rows.rows _ c.in-Ok.ensures.rows made.rest made.rows made.form) (c.set_rows.ensures.does.stops k k ahead)
