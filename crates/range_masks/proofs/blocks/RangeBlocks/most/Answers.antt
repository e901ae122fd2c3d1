use Rattle.std.proofs.Common.{◌≡◌, ◌==◌, Some, true, sym, ap, ◌∙◌, rules}
use Rattle.range_masks.specs.Held.{block_in}
use Rattle.range_masks.proofs.HeldLemmas.{most-held}
use Rattle.range_masks.proofs.blocks.RangeBlocks.most.Goals as goal

pub returns-in-Some : goal.returns-in-Some
returns-in-Some c =
    let held = c.args.self.now in
    let here : (c.args.range == held.range) ≡ true = search rules in
    let at : block_in held c.args.term.now ≡ Some c.in-Some.block.now = search rules in
    most-held held c.args.term.now c.args.range c.most_of_entries.result c.entries.result.now here (at ∙ ap Some (sym c.entries.ensures)) c.most_of_entries.ensures
