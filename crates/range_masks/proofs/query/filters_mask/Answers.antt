use Rattle.std.proofs.Common.{refl, arith, ◌∙◌}
use Rattle.ri_base.specs.Query.{filter_tree}
use Rattle.ri_base.specs.declared.query.Filter.{Filter}
use Rattle.extent_lists.proofs.KeepsLemmas.{Keeps-then}
use Rattle.range_masks.specs.May.{filter_may}
use Rattle.range_masks.proofs.MaskLemmas.{IsMask-all, IsMask-each, IsMask-each_more, IsMask-filters}
use Rattle.range_masks.proofs.query.filters_mask.Goals as goal

pub loop-filter-init : goal.loop-filter-init
loop-filter-init g c = record {
  undamaged = refl;
  keeps = record { documents_stay = refl; no_fault_lost = omega arith; sound_stays = λ u. u; intact_stays = λ u. u; stays_quiet = g.met.P.Postings.quiet_same _ };
  exact = λ sound. IsMask-all _ _;
}

pub loop-filter-preserved : goal.loop-filter-preserved
loop-filter-preserved g c = record {
  undamaged = c.in_ok-found.ensures.undamaged ∙ c.loop-filter.invariant.undamaged;
  keeps = Keeps-then _ _ _ _ _ g.met.P.Postings.quiet_then _ _ _ c.loop-filter.invariant.keeps c.filter_mask.ensures.keeps;
  exact = λ sound.
      let found = rw c.loop-filter.invariant.keeps.documents_stay at (c.in_ok-found.ensures.exact (c.loop-filter.invariant.keeps.sound_stays sound)) in
      IsMask-each_more _ _ (λ (f : Filter). filter_may (filter_tree f)) c.args.filters.now c.loop-filter.filter-index c.filter-item.result _ _ c.loop-filter-test.true c.filter-item.is (c.loop-filter.invariant.exact sound) found;
}

pub returns-clause-exact : goal.returns-clause-exact
returns-clause-exact g c = λ sound.
    IsMask-filters _ _ c.args.filters.now _ (IsMask-each _ _ (λ (f : Filter). filter_may (filter_tree f)) c.args.filters.now c.loop-filter.filter-index _ c.loop-filter-test.false (c.loop-filter.invariant.exact sound))
