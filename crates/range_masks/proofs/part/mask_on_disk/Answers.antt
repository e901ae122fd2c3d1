use Rattle.std.proofs.Common.{◌≡◌, false, is_some, sym, ◌∙◌, rules}
use Rattle.disk_index.specs.Kept.{place_of}
use Rattle.disk_index.proofs.ReadableLemmas.{IsTermReadable-none}
use Rattle.range_masks.proofs.BlockLemmas.{IsMask-entries, IsMask-no_block}
use Rattle.range_masks.proofs.part.mask_on_disk.Goals as goal

pub returns-then-not-has_block-clause-exact : goal.returns-then-not-has_block-clause-exact
returns-then-not-has_block-clause-exact g c = λ docs b backed.
    let kept = c.args.index.now in
    let not : c.has_block.result ≡ false = search rules in
    let none : is_some (place_of kept.dictionary c.args.term.now c.args.range) ≡ false = sym c.has_block.ensures ∙ not in
    IsMask-no_block (g.T.Store.files c.args.store.now) kept c.args.term.now c.args.range docs b none

pub returns-clause-exact : goal.returns-clause-exact
returns-clause-exact g c = λ docs b backed.
    IsMask-entries c.args.term.now c.args.range docs c.entries.result.now c.mask_of_entries.result (c.entries.ensures ∙ c.in_ok-block.ensures.exact docs b backed) c.mask_of_entries.ensures

pub returns-then-not-has_block-clause-told : goal.returns-then-not-has_block-clause-told
returns-then-not-has_block-clause-told g c =
    let kept = c.args.index.now in
    let not : c.has_block.result ≡ false = search rules in
    IsTermReadable-none (g.T.Store.files c.args.store.now) c.args.cache.now kept c.args.term.now c.args.range (sym c.has_block.ensures ∙ not)
