use Rattle.std.proofs.Common.{◌≡◌, take}
use Rattle.std.specs.List.{list_all}
use Rattle.ri_base.specs.Keeps.{Keeps}
use Rattle.ri_base.specs.Query.{filter_tree}
use Rattle.range_masks.specs.Masks.{IsMask}
use Rattle.range_masks.specs.May.{filter_may}
use Rattle.range_masks.proofs.query.filters_mask.Given as goal

abbrev pub invariant-loop-filter : goal.invariant-loop-filter
invariant-loop-filter g l = record {
  keeps : Keeps g.P.Postings.documents g.P.Postings.faults g.P.Postings.sound g.P.Postings.intact g.P.Postings.quiet l.initial.part l.part;
  undamaged : g.P.Postings.damage l.part ≡ g.P.Postings.damage l.initial.part;
  exact : g.P.Postings.sound l.initial.part → IsMask (λ d. list_all (λ f. filter_may (filter_tree f) d) (take l.filter-index l.filters)) l.range (g.P.Postings.documents l.initial.part) l.mask;
}
