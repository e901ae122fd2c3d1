use Rattle.std.proofs.Common.{◌≡◌, ◌+◌, ◌∙◌, ap, arith, sum_by}
use Rattle.std.proofs.lemmas.List.{take_all}
use Rattle.std.proofs.lemmas.List.Sums.{sum_by_more, sum_by-take-le}
use Rattle.ri_base.proofs.InversionLemmas.{counted, fits_in_part, held_tokens}
use Rattle.ri_base.proofs.sealed.Sealed.token_count.Goals as goal

pub overflow_add-count : goal.overflow_add-count
overflow_add-count c =
    let hs = c.deref-held-items.result.now in
    let i = c.loop-held.held-index in
    let fits = fits_in_part _ _ _ _ _ c.self.invariant c.self.view_is in
    let all : sum_by held_tokens hs ≡ sum_by held_tokens c.self.inside.docs.items = ap (sum_by held_tokens) c.deref-held-items.ensures.value in
    let more = sum_by_more held_tokens hs i c.held-item.result c.loop-held-test.true in
    let part = sum_by-take-le held_tokens hs (i + 1) in
    let here = c.loop-held.invariant in
    let one = ap held_tokens c.held-item.is in
    let len = c.len.ensures in
    omega (arith, fits, all, more, part, here, one, len)

pub returns-clause-count : goal.returns-clause-count
returns-clause-count c =
    c.loop-held.invariant ∙ ap (sum_by held_tokens) (take_all c.loop-held.held-index c.deref-held-items.result.now c.loop-held-test.false ∙ c.deref-held-items.ensures.value)
    ∙ counted _ _ _ _ _ c.self.invariant c.self.view_is

pub returns-clause-most : goal.returns-clause-most
returns-clause-most c =
    let fits = fits_in_part _ _ _ _ _ c.self.invariant c.self.view_is in
    let is = c.loop-held.invariant ∙ ap (sum_by held_tokens) (take_all c.loop-held.held-index c.deref-held-items.result.now c.loop-held-test.false ∙ c.deref-held-items.ensures.value) in
    omega (arith, fits, is)
