use Rattle.std.proofs.Common.{◌≡◌, IfOk, refl, subst}
use Rattle.disk_index.specs.Kept.{Kept}
use Rattle.disk_index.proofs.OpeningLaws.{bytes-opened}
use Rattle.disk_index.proofs.index.DiskIndex.of_bytes.Goals as goal

pub returns-in-Ok : goal.returns-in-Ok
returns-in-Ok c = λ ds s.
    subst (λ (k : Kept). IfOk c.of.result (λ x. x ≡ k))
    (bytes-opened c.args.bytes.now c.args.number c.in_ok-docs.docs ds s (c.in_ok-docs.ensures ds s) c.in-Ok.ensures.small
    (record { number = c.args.number; outlines = c.in-Ok.parts.documents; dictionary = c.in-Ok.parts.dictionary; begin = c.in-Ok.parts.blocks_at }) refl c.in-Ok.ensures.found) c.of.ensures
