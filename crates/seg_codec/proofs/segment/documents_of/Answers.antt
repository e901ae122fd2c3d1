use Rattle.std.proofs.Common.{map, sym, subst}
use Rattle.std.specs.Cmp.Lexicographic.{slice_cmp}
use Rattle.std.specs.List.Sorted.{IsStrictlySortedBy}
use Rattle.std.specs.Ordering.{nat_cmp}
use Rattle.seg_codec.specs.Segment.{entry_of}
use Rattle.seg_codec.proofs.NameLemmas.{names_rise}
use Rattle.seg_codec.proofs.segment.documents_of.Goals as goal

pub put_entries-requires : goal.put_entries-requires
put_entries-requires c = subst (IsStrictlySortedBy (slice_cmp nat_cmp)) (sym c.requires) (names_rise (map entry_of c.args.sealed.now))
