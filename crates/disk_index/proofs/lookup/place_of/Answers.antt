use Rattle.std.proofs.Common.{◌<◌, List, sym, subst}
use Rattle.std.specs.List.{AllPairs}
use Rattle.std.specs.Str.{bytes_eq}
use Rattle.seg_codec.specs.declared.dictionary.BlockPlace.{BlockPlace}
use Rattle.seg_codec.specs.declared.dictionary.TermBlocks.{TermBlocks}
use Rattle.disk_index.specs.Kept.{ArePlaces}
use Rattle.disk_index.proofs.LookupLemmas.{find-has}
use Rattle.disk_index.proofs.lookup.place_of.Goals as goal

pub block_in-requires : goal.block_in-requires
block_in-requires c =
    let found = find-has ArePlaces (λ (t : TermBlocks). bytes_eq t.term c.args.term.now) c.args.dictionary.now c.in-Some.found.now c.requires.places (sym c.in-Some.ensures) in
    subst (λ (l : List BlockPlace). AllPairs (λ (a b : BlockPlace). a.range < b.range) l) (sym c.as_slice.ensures) found.0.rising
