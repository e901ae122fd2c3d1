use Rattle.std.proofs.Common.{List, [], ◌∷◌, ◌++◌, take, sym, ap, subst, ◌∙◌, rules}
use Rattle.std.specs.List.{All}
use Rattle.std.proofs.lemmas.List.{take_all, take_more}
use Rattle.std.proofs.lemmas.List.Elements.{All-push}
use Rattle.seg_codec.specs.declared.blocks.BlockEntry.{BlockEntry}
use Rattle.range_masks.specs.Held.{IsEntryOf}
use Rattle.range_masks.proofs.opening.are_entries_of.Goals as goal

pub loop-entry-preserved : goal.loop-entry-preserved
loop-entry-preserved c =
    let xs = c.args.entries.now in
    let i = c.loop-entry.entry-index in
    let x = c.entry-item.result in
    subst (λ (l : List BlockEntry). All (IsEntryOf c.args.index.now.outlines) l) (sym (take_more xs i x c.loop-entry-test.true ∙ ap (λ (y : BlockEntry). take i xs ++ y ∷ []) (sym c.entry-item.is)))
    (All-push (IsEntryOf c.args.index.now.outlines) (take i xs) x c.loop-entry.invariant (c.is_entry_of.ensures.yes (search rules)))

pub returns-clause-yes : goal.returns-clause-yes
returns-clause-yes c = λ yes.
    subst (λ (l : List BlockEntry). All (IsEntryOf c.args.index.now.outlines) l) (take_all c.loop-entry.entry-index c.args.entries.now c.loop-entry-test.false) c.loop-entry.invariant
