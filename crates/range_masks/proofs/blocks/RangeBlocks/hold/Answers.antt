use Rattle.std.proofs.Common.{Some, cond, sym, ap, ◌∙◌}
use Rattle.std.specs.BTreeMap.{get}
use Rattle.std.specs.Cmp.Lexicographic.{slice_cmp, texts_ties}
use Rattle.std.specs.Ordering.{nat_cmp}
use Rattle.std.specs.Str.{bytes_eq}
use Rattle.range_masks.specs.Held.{Held, block_in}
use Rattle.range_masks.proofs.blocks.RangeBlocks.hold.Goals as goal

pub returns-clause-block : goal.returns-clause-block
returns-clause-block c = λ t.
    let old = get (slice_cmp nat_cmp) c.self.inside.blocks t in
    c.in_ok-insert.ensures.updates.0 t
    ∙ ap (λ b. cond b (Some c.args.block) old) (sym (texts_ties _ t) ∙ ap (λ k. bytes_eq k t) c.in_ok-clone_in.ensures)
    ∙ ap (λ (h : Held). cond (bytes_eq c.args.term.now t) (Some c.args.block) (block_in h t)) c.self.view_is
