use Rattle.std.proofs.Common.{◌∙◌, [], ap, arith, get_or, subst, sym}
use Rattle.disk_index.specs.Parts.{InMemory, source_of}
use Rattle.holdings.specs.Contents.{Contents}
use Rattle.holdings.specs.MarkedParts.{filled}
use Rattle.repository.specs.Entries.{IsOnDisk}
use Rattle.repository.proofs.SaveLemmas.{kept-alike, memory-at, number-kept, saves-none, saves-one, stored-at}
use Rattle.repository.proofs.saving.write_part.Goals as goal

pub store_part-requires-clause-same : goal.store_part-requires-clause-same
store_part-requires-clause-same g c =
    let at = memory-at c.args.held.now.parts.closed c.closed_parts-parts.result.now c.args.place c.index-parts-place.result (source_of c.part.result.now) _ c.requires c.closed_parts-parts.ensures.parts c.index-parts-place.is c.part.ensures.part (ap source_of c.in-Memory.is) in
    kept-alike c.in_ok-number-in-Memory.number c.deref.result.now c.in_ok-index-in-Memory.index.value (get_or c.args.held.now.parts.closed c.args.place (filled [] [])).source c.in_ok-index-in-Memory.ensures.kept (at ∙ ap InMemory (sym c.deref.ensures))

pub returns-in-Disk-clause-saved : goal.returns-in-Disk-clause-saved
returns-in-Disk-clause-saved g c = saves-none (g.T.Store.files c.args.store.now) c.args.numbers.now c.args.held.now

pub returns-in_ok-index-in-Memory-clause-saved : goal.returns-in_ok-index-in-Memory-clause-saved
returns-in_ok-index-in-Memory-clause-saved g c =
    let h = c.args.held.now in
    let n = c.in_ok-number-in-Memory.number in
    let docs = c.deref.result.now in
    let kept = c.in_ok-index-in-Memory.index.value in
    let number = c.in_ok-number-in-Memory.ensures in
    let index = c.in_ok-index-in-Memory.ensures in
    let at = memory-at h.parts.closed c.closed_parts-parts.result.now c.args.place c.index-parts-place.result (source_of c.part.result.now) _ c.requires c.closed_parts-parts.ensures.parts c.index-parts-place.is c.part.ensures.part (ap source_of c.in-Memory.is) in
    let below = number.small in
    saves-one (g.T.Store.files c.args.store.now) (g.T.Store.files c.write_segment.new.store) c.args.numbers.now c.take.new.self h c.store_part.new.self c.args.place n kept docs c.requires (at ∙ ap InMemory (sym c.deref.ensures)) index.kept
    (number-kept n docs kept index.kept) index.part index.small number.some (omega (arith, below)) number.below number.next number.rises number.free number.numbers index.done c.store_part.ensures.moved

pub returns-in_ok-index-in-Memory-clause-on_disk : goal.returns-in_ok-index-in-Memory-clause-on_disk
returns-in_ok-index-in-Memory-clause-on_disk g c =
    subst (λ (x : Contents). IsOnDisk (get_or x.parts.closed c.args.place (filled [] [])).source) (sym c.store_part.ensures.moved) (stored-at c.args.held.now.parts.closed c.args.place c.in_ok-index-in-Memory.index.value c.requires)
