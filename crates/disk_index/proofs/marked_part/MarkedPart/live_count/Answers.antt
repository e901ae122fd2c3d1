use Rattle.std.proofs.Common.{◌≡◌, length, subst, arith}
use Rattle.disk_index.specs.Parts.{reads, source_of}
use Rattle.disk_index.specs.Snapshots.{Marked, live_in}
use Rattle.disk_index.proofs.LiveLemmas.{unmarked-length}
use Rattle.disk_index.proofs.RebuiltLemmas.{reads-length}
use Rattle.disk_index.proofs.marked_part.MarkedPart.live_count.Goals as goal

pub returns-clause-exact : goal.returns-clause-exact
returns-clause-exact c = λ told.
    let source = source_of c.self.inside.part in
    let all = reads-length told source in
    let whole = c.self.invariant.whole in
    let counted = unmarked-length (reads told source) c.self.inside.marks (omega (arith, whole, all)) in
    let here : c.live_count.result ≡ length (live_in told (record { source = source; marks = c.self.inside.marks })) = omega (arith, c.live_count.ensures, counted) in
    subst (λ (m : Marked). c.live_count.result ≡ length (live_in told m)) c.self.view_is here
