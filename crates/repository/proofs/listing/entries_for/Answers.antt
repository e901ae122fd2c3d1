use Rattle.std.proofs.Common.{◌++◌, ◌∷◌, ◌∙◌, [], List, ap, subst, sym, take}
use Rattle.disk_index.specs.Snapshots.{Marked}
use Rattle.manifest.specs.declared.manifest.SegEntry.{SegEntry}
use Rattle.repository.specs.Entries.{IsOnDisk, entries_for}
use Rattle.repository.proofs.ListedLemmas.{entries-more}
use Rattle.repository.proofs.listing.entries_for.Goals as goal

pub entry_for-requires : goal.entry_for-requires
entry_for-requires c =
    subst (λ (m : Marked). IsOnDisk m.source) (sym c.part-item.is) (c.requires c.loop-part.part-index c.part-item.result c.loop-part-test.true)

pub loop-part-preserved : goal.loop-part-preserved
loop-part-preserved c =
    let m = c.part-item.result in
    c.in_ok-put_behind.ensures ∙ ap (λ (es : List SegEntry). es ++ c.in_ok-entry.entry ∷ []) c.loop-part.invariant
    ∙ ap (λ (e : SegEntry). entries_for (take c.loop-part.part-index c.args.parts.now) ++ e ∷ []) c.in_ok-entry.ensures
    ∙ entries-more c.args.parts.now c.loop-part.part-index m c.loop-part-test.true c.part-item.is
