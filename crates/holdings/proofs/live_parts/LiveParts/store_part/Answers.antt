use Rattle.std.proofs.Common.{◌≡◌, ◌∙◌, [], ap, sym, subst, List, get_or}
use Rattle.disk_index.specs.Parts.{OnDisk, outlines_of}
use Rattle.disk_index.specs.Snapshots.{Marked}
use Rattle.holdings.specs.Kept.{AreKept}
use Rattle.holdings.specs.MarkedParts.{filled}
use Rattle.holdings.specs.Parts.{Parts, all_parts, moved, parts_of}
use Rattle.holdings.proofs.MovedLemmas.{AreKept-moved}
use Rattle.holdings.proofs.live_parts.LiveParts.store_part.Goals as goal

pub invariant_of-self : goal.invariant_of-self
invariant_of-self c =
    let s = c.self.inside in
    let p = parts_of s.closed.items s.filling s.marks in
    let same : c.args.index.value.outlines ≡ outlines_of (get_or s.closed.items c.args.number (filled [] [])).source =
    c.requires.same ∙ sym (ap (λ (q : Parts). outlines_of (get_or q.closed c.args.number (filled [] [])).source) c.self.view_is) in
    subst (λ (ms : List Marked). AreKept s.filling.most s.places.entries (all_parts (record { most = s.filling.most; closed = ms; filling = s.filling.documents; marks = s.marks }))) (sym c.move_part.ensures)
    (AreKept-moved s.filling.most s.places.entries p c.args.number (OnDisk c.args.index.value) same tt c.self.invariant)
