use Rattle.std.proofs.Common.{◌≡◌, ◌∙◌}
use Rattle.indri_app.specs.LastLines.{malformed_line}
use Rattle.indri_app.proofs.ending.close.Goals as goal

pub returns-in-Ok-clause-closed : goal.returns-in-Ok-clause-closed
returns-in-Ok-clause-closed g c =
    let text : c.deref.result.now ≡ malformed_line c.in-Malformed.file c.in-Malformed.part c.in-Malformed.place = c.deref.ensures.value ∙ c.in-Ok.ensures in
    rw c.in-Malformed.is (rw text at c.end_with-in-Ok.ensures.ended)
