use Rattle.std.proofs.Common.{◌++◌, List, ℕ, ap, ◌∙◌, map}
use Rattle.ri_base.specs.declared.places.Place.{Place}
use Rattle.seg_codec.specs.Whole.{block_postings}
use Rattle.seg_codec.proofs.WholeLemmas.{block_goes_on}
use Rattle.seg_codec.proofs.whole.put_postings.Goals as goal

pub loop-entry-preserved : goal.loop-entry-preserved
loop-entry-preserved c =
    let e = c.entry-item.result in
    let before : List Place = c.loop-entry.postings.items in
    block_goes_on c.args.entries.now c.loop-entry.entry-index e before _ (c.args.postings.now.items ++ block_postings c.args.entries.now) c.loop-entry-test.true c.entry-item.is
    (c.in_ok-put_positions.ensures ∙ ap (λ (ps : List ℕ). before ++ map (λ p. record { id = e.id; at = p }) ps) c.as_slice.ensures) c.loop-entry.invariant
