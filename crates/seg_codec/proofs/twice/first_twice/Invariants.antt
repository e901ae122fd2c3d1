use Rattle.std.proofs.Common.{◌≡◌, [], drop, map, take}
use Rattle.std.specs.BTreeSet.{contains}
use Rattle.std.specs.List.{list_any}
use Rattle.ri_base.specs.declared.places.Place.{Place}
use Rattle.seg_codec.specs.Twice.{first_twice, is_same}
use Rattle.seg_codec.proofs.TwiceLemmas.{pair_cmp}
use Rattle.seg_codec.proofs.twice.first_twice.Given as goal

abbrev pub invariant-loop-one : goal.invariant-loop-one
invariant-loop-one l = record {
  rest : first_twice (map (λ s. s.posting) (take l.one-index l.all)) (drop l.one-index l.all) ≡ first_twice [] l.all;
  seen : (q : Place) → contains pair_cmp l.seen (q.id, q.at) ≡ list_any (λ x. is_same x q) (map (λ s. s.posting) (take l.one-index l.all));
}
