use Rattle.std.proofs.Common.{arith, rules, ◌≡◌, ◌∙◌, ◌∷◌, ◌++◌, [], ℕ, length, List, ap, refl}
use Rattle.ri_base.specs.Collection.{document_at}
use Rattle.ri_base.specs.Documents.{Document}
use Rattle.ri_base.specs.Expression.{expr_tree}
use Rattle.extent_walks.specs.Walks.{plan, plans}
use Rattle.ri_base.specs.declared.expression.ExtentExpr.{the_lemmas}
use Rattle.extent_walks.proofs.BuildLemmas.{GiveEach-more, Gives-of_any, Gives-of_band, Gives-of_in_field, Gives-of_ordered, Gives-of_syn, Gives-of_unordered, Gives-of_word, chain_plan-is}
use Rattle.extent_lists.proofs.KeepsLemmas.{Keeps-then}
use Rattle.extent_lists.proofs.WordLemmas.{EachWord-of_any, EachWord-of_band, EachWord-of_in_field, EachWord-of_ordered, EachWord-of_syn, EachWord-of_unordered, EachWord-of_word, EachWord-weaker, EachWordOf-more, EachWordOf-none}
use Rattle.extent_walks.proofs.WalkLaws.{AreKept-push, plan-Listed, plan-Union, plan-Whole, plan-Window, plan-Within}
use Rattle.extent_walks.proofs.iterator.+building.Goals as goal

pub group_of-walk_of-requires : goal.group_of-walk_of-requires
group_of-walk_of-requires g t c κs within = search (rules, the_lemmas)

pub group_of-loop-x-init : goal.group_of-loop-x-init
group_of-loop-x-init g t c =
    let empty : c.new-out.result.items ≡ [] = search rules in
    record {
      undamaged = refl;
      keeps = record { documents_stay = refl; no_fault_lost = omega arith; sound_stays = λ u. u; intact_stays = λ u. u; stays_quiet = g.met.P.Postings.quiet_same _ };
      gives = λ sound. rw empty tt;
      kept = rw empty tt;
      told = EachWordOf-none _;
    }

pub group_of-loop-x-preserved : goal.group_of-loop-x-preserved
group_of-loop-x-preserved g t c =
    let d = document_at (g.P.Postings.documents c.args.postings.now) c.args.id in
    let pushed : c.push.new.self.items ≡ c.loop-x.out.items ++ c.new.result ∷ [] = search rules in
    record {
      undamaged = c.in_ok-walk.ensures.undamaged ∙ c.loop-x.invariant.undamaged;
      keeps = Keeps-then _ _ _ _ _ g.met.P.Postings.quiet_then _ _ _ c.loop-x.invariant.keeps c.walk_of.ensures.keeps;
      gives = λ sound.
          let here = rw c.loop-x.invariant.keeps.documents_stay at (c.in_ok-walk.ensures.exact (c.loop-x.invariant.keeps.sound_stays sound)) in
          rw pushed (GiveEach-more d _ _ _ c.loop-x.out.items c.new.result c.loop-x-test.true c.x-item.is (c.loop-x.invariant.gives sound) (rw c.new.ensures.walk here));
      kept = rw pushed (AreKept-push c.loop-x.out.items c.new.result c.loop-x.invariant.kept c.new.ensures.kept);
      told =
          let before = λ (t : List ℕ). g.met.P.Postings.told_before c.args.postings.now c.loop-x.postings t c.args.id c.loop-x.invariant.keeps.stays_quiet in
          let here = EachWord-weaker _ (λ t. g.P.Postings.told c.args.postings.now t c.args.id) before (expr_tree c.x-item.result) c.in_ok-walk.ensures.told in
          EachWordOf-more (λ t. g.P.Postings.told c.args.postings.now t c.args.id) c.args.all.now c.loop-x.x-index c.x-item.result c.loop-x-test.true c.x-item.is c.loop-x.invariant.told here;
    }

-- ---- what was told of each term

pub walk_of-returns-in_ok-found-in-Word-clause-told : goal.walk_of-returns-in_ok-found-in-Word-clause-told
walk_of-returns-in_ok-found-in-Word-clause-told g t c = EachWord-of_word _ c.args.expr.now c.in-Word.term c.in-Word.is c.in_ok-found-in-Word.ensures.told

pub walk_of-returns-in_ok-chain_of-in-Ordered-clause-told : goal.walk_of-returns-in_ok-chain_of-in-Ordered-clause-told
walk_of-returns-in_ok-chain_of-in-Ordered-clause-told g t c =
    EachWord-of_ordered _ c.args.expr.now c.in-Ordered.n c.in-Ordered.all c.in-Ordered.is (rw c.deref.ensures.value at c.in_ok-all-in-Ordered.ensures.told)

pub walk_of-returns-in_ok-all-in-Unordered-clause-told : goal.walk_of-returns-in_ok-all-in-Unordered-clause-told
walk_of-returns-in_ok-all-in-Unordered-clause-told g t c =
    EachWord-of_unordered _ c.args.expr.now c.in-Unordered.n c.in-Unordered.all c.in-Unordered.is (rw c.deref-in-Unordered.ensures.value at c.in_ok-all-in-Unordered.ensures.told)

pub walk_of-returns-in_ok-all-in-Syn-clause-told : goal.walk_of-returns-in_ok-all-in-Syn-clause-told
walk_of-returns-in_ok-all-in-Syn-clause-told g t c =
    EachWord-of_syn _ c.args.expr.now c.in-Syn.all c.in-Syn.is (rw c.deref-in-Syn.ensures.value at c.in_ok-all-in-Syn.ensures.told)

pub walk_of-returns-in_ok-fields-in-Any-clause-told : goal.walk_of-returns-in_ok-fields-in-Any-clause-told
walk_of-returns-in_ok-fields-in-Any-clause-told g t c = EachWord-of_any _ c.args.expr.now c.in-Any.name c.in-Any.is

pub walk_of-returns-in_ok-all-in-Band-clause-told : goal.walk_of-returns-in_ok-all-in-Band-clause-told
walk_of-returns-in_ok-all-in-Band-clause-told g t c =
    EachWord-of_band _ c.args.expr.now c.in-Band.all c.in-Band.is (rw c.deref-in-Band.ensures.value at c.in_ok-all-in-Band.ensures.told)

pub walk_of-returns-in_ok-ahead-in-InField-clause-told : goal.walk_of-returns-in_ok-ahead-in-InField-clause-told
walk_of-returns-in_ok-ahead-in-InField-clause-told g t c =
    EachWord-of_in_field _ c.args.expr.now c.in-InField.x c.in-InField.name c.in-InField.is (rw c.deref-in-InField.ensures at c.in_ok-inner-in-InField.ensures.told)

-- ---- which extents they are

pub walk_of-returns-in_ok-found-in-Word-clause-exact : goal.walk_of-returns-in_ok-found-in-Word-clause-exact
walk_of-returns-in_ok-found-in-Word-clause-exact g t c = λ sound.
    Gives-of_word c.args.expr.now _ _ c.in-Word.term _ c.in-Word.is (plan-Listed _) (rw (c.new.ensures, c.into_vec.ensures) (c.in_ok-found-in-Word.ensures.exact sound))

pub walk_of-returns-in_ok-chain_of-in-Ordered-clause-exact : goal.walk_of-returns-in_ok-chain_of-in-Ordered-clause-exact
walk_of-returns-in_ok-chain_of-in-Ordered-clause-exact g t c = λ sound.
    Gives-of_ordered c.args.expr.now _ _ c.in-Ordered.n c.in-Ordered.all (plans c.in_ok-all-in-Ordered.all.items) c.in-Ordered.is (λ b e. rw c.in_ok-chain_of-in-Ordered.ensures.chain (chain_plan-is c.in-Ordered.n (plans c.in_ok-all-in-Ordered.all.items) b e))
    (rw c.deref.ensures.value at (c.in_ok-all-in-Ordered.ensures.exact sound))

pub walk_of-returns-in_ok-all-in-Unordered-clause-exact : goal.walk_of-returns-in_ok-all-in-Unordered-clause-exact
walk_of-returns-in_ok-all-in-Unordered-clause-exact g t c = λ sound.
    Gives-of_unordered c.args.expr.now _ _ c.in-Unordered.n c.in-Unordered.all (plans c.in_ok-all-in-Unordered.all.items) c.in-Unordered.is (plan-Window _ _)
    (rw c.deref-in-Unordered.ensures.value at (c.in_ok-all-in-Unordered.ensures.exact sound))

pub walk_of-returns-in_ok-all-in-Syn-clause-exact : goal.walk_of-returns-in_ok-all-in-Syn-clause-exact
walk_of-returns-in_ok-all-in-Syn-clause-exact g t c = λ sound.
    Gives-of_syn c.args.expr.now _ _ c.in-Syn.all (plans c.in_ok-all-in-Syn.all.items) c.in-Syn.is (plan-Union _)
    (rw c.deref-in-Syn.ensures.value at (c.in_ok-all-in-Syn.ensures.exact sound))

pub walk_of-returns-in_ok-fields-in-Any-clause-exact : goal.walk_of-returns-in_ok-fields-in-Any-clause-exact
walk_of-returns-in_ok-fields-in-Any-clause-exact g t c = λ sound.
    Gives-of_any c.args.expr.now _ _ c.in-Any.name _ c.in-Any.is (plan-Listed _) (rw (c.new-in-Any.ensures, ← c.spans.ensures.exact) c.in_ok-fields-in-Any.ensures) (rw (← c.spans.ensures.exact) c.spans.ensures.form.sound.some)

pub walk_of-returns-in_ok-all-in-Band-clause-exact : goal.walk_of-returns-in_ok-all-in-Band-clause-exact
walk_of-returns-in_ok-all-in-Band-clause-exact g t c = λ sound.
    let tokens = c.length.ensures.exact ∙ ap (λ (ds : List Document). length (document_at ds c.args.id).tokens) c.in_ok-all-in-Band.ensures.keeps.documents_stay in
    Gives-of_band c.args.expr.now _ _ c.in-Band.all (plans c.in_ok-all-in-Band.all.items) c.length.result c.in-Band.is (plan-Whole _ _) tokens
    (rw c.deref-in-Band.ensures.value at (c.in_ok-all-in-Band.ensures.exact sound))

pub walk_of-returns-in_ok-ahead-in-InField-clause-exact : goal.walk_of-returns-in_ok-ahead-in-InField-clause-exact
walk_of-returns-in_ok-ahead-in-InField-clause-exact g t c = λ sound.
    let fields = c.spans-in-InField.ensures.exact ∙ ap (λ (ds : List Document). (document_at ds c.args.id).fields) c.in_ok-inner-in-InField.ensures.keeps.documents_stay in
    Gives-of_in_field c.args.expr.now _ _ c.in-InField.x c.in-InField.name (plan c.in_ok-inner-in-InField.inner) c.in_ok-fields-in-InField.fields.items _ c.in-InField.is (rw (plan-Within, c.in_ok-ahead-in-InField.ensures.walk) refl)
    (rw c.deref-in-InField.ensures at (c.in_ok-inner-in-InField.ensures.exact sound)) (rw fields at c.in_ok-fields-in-InField.ensures) (rw c.deref-in-InField-2.ensures.value at c.in_ok-outer-in-InField.ensures)
