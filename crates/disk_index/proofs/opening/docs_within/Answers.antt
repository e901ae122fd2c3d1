use Rattle.std.proofs.Common.{◌-◌, drop, length, ap, sym, ◌∙◌, ℕ, List, arith, length-drop}
use Rattle.std.specs.Int.{w32}
use Rattle.std.proofs.lemmas.List.{take_all}
use Rattle.ri_base.specs.Fields.{number}
use Rattle.disk_index.proofs.OpeningLaws.{docs-told}
use Rattle.disk_index.proofs.opening.docs_within.Goals as goal

pub returns-in-Ok : goal.returns-in-Ok
returns-in-Ok c = λ docs s.
    let behind = drop 12 c.args.bytes.now in
    let size = length-drop 12 c.args.bytes.now in
    docs-told c.args.bytes.now c.in-Ok.field-0-1.now c.in-Ok.docs docs s
    (sym (ap (λ (l : List ℕ). number w32 l) (take_all (length c.args.bytes.now - 12) behind (omega (arith, size)))) ∙ c.in-Ok.ensures)
