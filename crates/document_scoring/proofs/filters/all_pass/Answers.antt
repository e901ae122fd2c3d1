use Rattle.std.proofs.Common.{ℕ, List, subst, arith, ◌∙◌}
use Rattle.std.specs.List.{All}
use Rattle.std.proofs.lemmas.List.{take_all}
use Rattle.std.proofs.lemmas.List.Elements.{All-map, All-more}
use Rattle.ri_base.specs.Expression.{expr_tree}
use Rattle.ri_base.specs.Query.{filter_tree}
use Rattle.ri_base.specs.declared.query.Filter.{Filter}
use Rattle.extent_lists.proofs.KeepsLemmas.{Keeps-then}
use Rattle.extent_lists.proofs.WordLemmas.{EachWord-weaker}
use Rattle.document_scoring.specs.Told.{IsFilterTold}
use Rattle.document_scoring.proofs.FilterLemmas.{all_pass_more, not_all_pass}
use Rattle.document_scoring.proofs.ToldLemmas.{one_told}
use Rattle.document_scoring.proofs.filters.all_pass.Goals as goal

pub returns-then-not-branch-clause-exact : goal.returns-then-not-branch-clause-exact
returns-then-not-branch-clause-exact g c = λ sound.
    not_all_pass (g.P.Postings.documents c.args.part.now) (g.P.Postings.documents c.loop-filter.part) c.args.id c.args.filters.now c.loop-filter.filter-index c.filter-item.result
    c.in_ok-passes.field-0 c.loop-filter.invariant.keeps.documents_stay c.loop-filter-test.true c.filter-item.is
    (c.in_ok-passes.ensures.exact (c.loop-filter.invariant.keeps.sound_stays sound)) c.if-not-branch.true

-- ---- of which terms places were told

pub loop-filter-preserved : goal.loop-filter-preserved
loop-filter-preserved g c =
    let IsTold = λ (t : List ℕ). g.P.Postings.told c.args.part.now t c.args.id in
    let before = λ (t : List ℕ). g.met.P.Postings.told_before c.args.part.now c.loop-filter.part t c.args.id c.loop-filter.invariant.keeps.stays_quiet in
    let f = c.filter-item.result in
    let here : IsFilterTold IsTold (filter_tree f) = EachWord-weaker _ IsTold before (expr_tree f.expr) c.in_ok-passes.ensures.told in
    record {
      undamaged = c.in_ok-passes.ensures.undamaged ∙ c.loop-filter.invariant.undamaged;
      keeps = Keeps-then _ _ _ _ _ g.met.P.Postings.quiet_then _ _ _ c.loop-filter.invariant.keeps c.passes.ensures.keeps;
      so_far = λ sound.
          all_pass_more (g.P.Postings.documents c.args.part.now) (g.P.Postings.documents c.loop-filter.part) c.args.id c.args.filters.now c.loop-filter.filter-index f
          c.in_ok-passes.field-0 c.loop-filter.invariant.keeps.documents_stay c.loop-filter-test.true c.filter-item.is
          (c.in_ok-passes.ensures.exact (c.loop-filter.invariant.keeps.sound_stays sound)) c.if-not-branch.false (c.loop-filter.invariant.so_far sound);
      told = All-more (λ x. IsFilterTold IsTold (filter_tree x)) c.args.filters.now c.loop-filter.filter-index f c.loop-filter-test.true c.loop-filter.invariant.told
          (subst (λ (x : Filter). IsFilterTold IsTold (filter_tree x)) c.filter-item.is here);
    }

pub returns-then-not-branch-clause-told : goal.returns-then-not-branch-clause-told
returns-then-not-branch-clause-told g c =
    let IsTold = λ (t : List ℕ). g.P.Postings.told c.args.part.now t c.args.id in
    let before = λ (t : List ℕ). g.met.P.Postings.told_before c.args.part.now c.loop-filter.part t c.args.id c.loop-filter.invariant.keeps.stays_quiet in
    let f = c.filter-item.result in
    one_told IsTold c.args.filters.now c.loop-filter.filter-index f c.loop-filter-test.true c.filter-item.is (EachWord-weaker _ IsTold before (expr_tree f.expr) c.in_ok-passes.ensures.told)

pub returns-clause-told : goal.returns-clause-told
returns-clause-told g c =
    let IsTold = λ (t : List ℕ). g.P.Postings.told c.args.part.now t c.args.id in
    let filters = c.args.filters.now in
    All-map (IsFilterTold IsTold) filter_tree filters
    (subst (All (λ x. IsFilterTold IsTold (filter_tree x))) (take_all c.loop-filter.filter-index filters (omega (arith, c.loop-filter-test.false))) c.loop-filter.invariant.told)
