use Rattle.std.proofs.Common.{◌≡◌, List, Result, Ok, true, inr, sym, subst, ◌∙◌}
use Rattle.std.specs.List.{All}
use Rattle.ri_base.specs.declared.seg_fault.SegFault.{SegFault}
use Rattle.seg_codec.specs.declared.blocks.BlockEntry.{BlockEntry}
use Rattle.disk_index.specs.Faults.{IsTermReadable}
use Rattle.disk_index.proofs.ReadableLemmas.{IsTermReadable-origin}
use Rattle.range_masks.specs.Held.{IsEntryOf}
use Rattle.range_masks.proofs.EntryLemmas.{backed-entries}
use Rattle.range_masks.proofs.opening.open_block.Goals as goal

pub returns-else-are_entries_of-clause-has : goal.returns-else-are_entries_of-clause-has
returns-else-are_entries_of-clause-has g c = λ docs b backed.
    let told = g.T.Store.files c.args.store.now in
    let fit = backed-entries told c.args.index.now docs c.args.term.now c.range-range.result b in
    let own = subst (λ (es : List BlockEntry). All (IsEntryOf c.args.index.now.outlines) es) (sym (c.entries.ensures ∙ c.in_ok-block.ensures.exact docs b backed)) fit in
    let yes : c.are_entries_of.result ≡ true = c.are_entries_of.ensures.no own in
    let no = c.if-are_entries_of.false in
    absurd cc

pub returns-else-are_entries_of-clause-told : goal.returns-else-are_entries_of-clause-told
returns-else-are_entries_of-clause-told g c =
    let told = g.T.Store.files c.args.store.now in
    let read : Result (List BlockEntry) SegFault = Ok c.in_ok-block.block in
    let can : IsTermReadable told c.args.cache.now c.args.index.now c.args.term.now c.range-range.result =
    IsTermReadable-origin told c.args.cache.now c.args.index.now c.args.term.now c.range-range.result read c.in_ok-block.ensures.origin in
    inr (subst (λ r. IsTermReadable told c.args.cache.now c.args.index.now c.args.term.now r) c.range-range.ensures can)
