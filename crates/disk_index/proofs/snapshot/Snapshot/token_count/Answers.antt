use Rattle.std.proofs.Common.{◌≡◌, ℕ, ◌+◌, List, None, length, sum_by, sym, ap, ◌∙◌, arith}
use Rattle.std.proofs.lemmas.List.{take_all}
use Rattle.std.proofs.lemmas.List.Sums.{sum_by-take-le, sum_by_more}
use Rattle.ri_base.specs.Collection.{token_count}
use Rattle.ri_base.specs.Documents.{Document}
use Rattle.disk_index.specs.Snapshots.{Marked, live, live_in, tokens_held}
use Rattle.disk_index.proofs.LiveLemmas.{live-short, sum-live}
use Rattle.disk_index.proofs.snapshot.Snapshot.token_count.Goals as goal

count : Marked → ℕ
count m = token_count (live_in None m)

pub overflow_add-count : goal.overflow_add-count
unfolding count
overflow_add-count c =
    let ms = c.deref-part-items.result.now in
    let i = c.loop-part.part-index in
    let held : tokens_held None ms ≡ tokens_held None c.self.inside.parts.items = ap (tokens_held None) c.deref-part-items.ensures.value in
    let so_far = c.loop-part.invariant None in
    let one = c.token_count-count.ensures None in
    let more = sum_by_more count ms i c.part-item.result c.loop-part-test.true in
    let same = ap count c.part-item.is in
    let part = sum_by-take-le count ms (i + 1) in
    let short = live-short None ms in
    let bound = c.self.invariant.short None in
    omega (arith, held, so_far, one, more, same, part, short, bound)

pub returns-clause-exact : goal.returns-clause-exact
returns-clause-exact c = λ told.
    c.loop-part.invariant told ∙ ap (sum_by (λ (m : Marked). token_count (live_in told m))) (take_all c.loop-part.part-index c.deref-part-items.result.now c.loop-part-test.false ∙ c.deref-part-items.ensures.value)
    ∙ sym (sum-live (λ (d : Document). length d.tokens) told c.self.inside.parts.items) ∙ ap (λ (ms : List Marked). token_count (live told ms)) c.self.view_is

pub returns-clause-most : goal.returns-clause-most
unfolding count
returns-clause-most c =
    let ms = c.deref-part-items.result.now in
    let held : tokens_held None ms ≡ tokens_held None c.self.inside.parts.items = ap (tokens_held None) c.deref-part-items.ensures.value in
    let so_far = c.loop-part.invariant None in
    let part = sum_by-take-le count ms c.loop-part.part-index in
    let short = live-short None ms in
    let bound = c.self.invariant.short None in
    omega (arith, held, so_far, part, short, bound)
