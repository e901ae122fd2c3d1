use Rattle.std.proofs.Common.{◌≡◌, ℕ, ◌+◌, List, None, length, sum_by, sym, ap, ◌∙◌, arith}
use Rattle.std.proofs.lemmas.List.{take_all}
use Rattle.std.proofs.lemmas.List.Sums.{sum_by-take-le, sum_by_more}
use Rattle.disk_index.specs.Snapshots.{Marked, documents_held, live, live_in}
use Rattle.disk_index.proofs.LiveLemmas.{live-few, live-length}
use Rattle.disk_index.proofs.snapshot.Snapshot.live_count.Goals as goal

count : Marked → ℕ
count m = length (live_in None m)

pub overflow_add-count : goal.overflow_add-count
unfolding count
overflow_add-count c =
    let ms = c.deref-part-items.result.now in
    let i = c.loop-part.part-index in
    let held : documents_held ms ≡ documents_held c.self.inside.parts.items = ap documents_held c.deref-part-items.ensures.value in
    let so_far = c.loop-part.invariant None in
    let one = c.live_count-count.ensures.exact None in
    let more = sum_by_more count ms i c.part-item.result c.loop-part-test.true in
    let same = ap count c.part-item.is in
    let part = sum_by-take-le count ms (i + 1) in
    let few = live-few None ms in
    omega (arith, held, so_far, one, more, same, part, few, c.self.invariant.few)

pub returns : goal.returns
returns c = λ told.
    c.loop-part.invariant told ∙ ap (sum_by (λ (m : Marked). length (live_in told m))) (take_all c.loop-part.part-index c.deref-part-items.result.now c.loop-part-test.false ∙ c.deref-part-items.ensures.value)
    ∙ sym (live-length told c.self.inside.parts.items) ∙ ap (λ (ms : List Marked). length (live told ms)) c.self.view_is
