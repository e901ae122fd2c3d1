use Rattle.std.proofs.Common.{◌<◌, ◌+◌, ◌^◌, List, sym, subst}
use Rattle.std.specs.List.{All}
use Rattle.seg_codec.specs.declared.dictionary.TermBlocks.{TermBlocks}
use Rattle.disk_index.specs.Kept.{ArePlaces}
use Rattle.disk_index.specs.Ranks.{term_of}
use Rattle.disk_index.specs.declared.cache.BlockKey.{BlockKey}
use Rattle.disk_index.proofs.KeyLemmas.{place-fits}
use Rattle.disk_index.proofs.index.DiskIndex.ranked_key.Goals as goal

pub returns-in-Some-clause-fits : goal.returns-in-Some-clause-fits
returns-in-Some-clause-fits c =
    let ts : List TermBlocks = c.as_slice.result.now in
    subst (λ (k : BlockKey). k.place + k.length < 2 ^ 64) (sym c.key_at.ensures)
    (place-fits ts (term_of ts c.args.rank) c.args.range c.in-Some.place (subst (λ (l : List TermBlocks). All ArePlaces l) (sym c.as_slice.ensures) c.self.invariant.kept.places) c.in-Some.ensures)
