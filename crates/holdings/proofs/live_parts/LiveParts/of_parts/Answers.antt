use Rattle.std.proofs.Common.{◌<◌, ◌++◌, ◌∷◌, [], List, length, subst}
use Rattle.disk_index.specs.Snapshots.{Marked}
use Rattle.holdings.specs.Kept.{ArePlaced}
use Rattle.holdings.specs.MarkedParts.{filled}
use Rattle.holdings.specs.Placing.{Repeats}
use Rattle.holdings.proofs.PlacingLemmas.{AreKept-closed, closed-distinct}
use Rattle.holdings.proofs.live_parts.LiveParts.of_parts.Goals as goal

pub invariant_of-result : goal.invariant_of-result
invariant_of-result c =
    let placed : ArePlaced c.in-Ok.places.entries (c.args.parts.items ++ filled [] [] ∷ []) =
    subst (λ (ps : List Marked). ArePlaced c.in-Ok.places.entries (ps ++ filled [] [] ∷ [])) c.deref.ensures.value (rw c.in-Ok.is at c.in_ok-places.ensures) in
    AreKept-closed c.args.part_docs c.in-Ok.places.entries c.args.parts.items c.in_ok-filling.filling c.in_ok-marks.marks c.in_ok-filling.ensures c.in_ok-marks.ensures c.requires.small c.requires.writable placed

pub returns-in-Ok-clause-distinct : goal.returns-in-Ok-clause-distinct
returns-in-Ok-clause-distinct c =
    let placed : ArePlaced c.in-Ok.places.entries (c.args.parts.items ++ filled [] [] ∷ []) =
    subst (λ (ps : List Marked). ArePlaced c.in-Ok.places.entries (ps ++ filled [] [] ∷ [])) c.deref.ensures.value (rw c.in-Ok.is at c.in_ok-places.ensures) in
    closed-distinct c.in-Ok.places.entries c.args.parts.items placed

pub returns-in-Err-clause-fault : goal.returns-in-Err-clause-fault
returns-in-Err-clause-fault c = λ limits within.
    let repeats = subst (λ (ps : List Marked). (c.in-Err.spot.part < length ps) × Repeats ps (record { part = c.in-Err.spot.part; id = c.in-Err.spot.id })) c.deref.ensures.value (rw c.in-Err.is at c.in_ok-places.ensures) in
    (repeats.0, repeats.1, within)
