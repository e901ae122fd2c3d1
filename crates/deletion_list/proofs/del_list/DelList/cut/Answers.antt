use Rattle.std.proofs.Common.{◌≡◌, ◌+◌, ◌-◌, length, take, sym, ap, ◌∙◌, rules, arith}
use Rattle.deletion_list.proofs.MarkLemmas.{live_cut, dead_cut, live_last}
use Rattle.deletion_list.proofs.del_list.DelList.cut.Goals.{then-not-index, else-not-index}
use Rattle.deletion_list.proofs.del_list.DelList.cut.Goals as goal

pub overflow_sub-self : goal.overflow_sub-self
overflow_sub-self c =
    let len : length c.self.inside.marks.items ≡ (c.len-last.result - 1) + 1 = search rules in
    let p = live_last (c.len-last.result - 1) c.self.inside.marks.items _ len (sym c.index.ensures ∙ c.if-not-index.true) in
    omega (arith, p.1, c.self.invariant.0)

pub invariant_of-self : goal.invariant_of-self
invariant_of-self c =
    let n = c.len-last.result - 1 in
    let len : length c.self.inside.marks.items ≡ n + 1 = search rules in
    elim c.if-not-index.branch [
      | then-not-index w ↦ live_cut n _ _ _ _ _ c.self.invariant len (sym c.index.ensures ∙ w.if-not-index.true) (ap (λ i. i.live) w.self-inside-is) (c.truncate.ensures.items ∙ ap (λ i. take n i.marks.items) w.self-inside-is)
      | else-not-index w ↦ dead_cut n _ _ _ _ _ c.self.invariant len (sym c.index.ensures ∙ w.if-not-index.false) (ap (λ i. i.live) w.self-inside-is) (c.truncate.ensures.items ∙ ap (λ i. take n i.marks.items) w.self-inside-is)
    ]
