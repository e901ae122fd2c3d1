use Rattle.std.proofs.Common.{arith, refl, rules, [], ◌∷◌, ◌++◌, ◌≡◌, ◌∙◌, ℕ, List, length, ap}
use Rattle.std.proofs.lemmas.List.Elements.{All-nil, All-push}
use Rattle.std.proofs.lemmas.Result.{IfOk-weaker}
use Rattle.ri_base.specs.Collection.{document_at}
use Rattle.ri_base.specs.Documents.{Document}
use Rattle.ri_base.specs.Expression.{expr_tree}
use Rattle.ri_base.specs.declared.expression.ExtentExpr.{the_lemmas}
use Rattle.ri_base.proofs.ExpressionLemmas.{expr_tree-Word}
use Rattle.extent_lists.specs.Extents.{IsField}
use Rattle.extent_lists.specs.Operators.{IsChain, IsInSome, IsLeastEnd, IsWindow}
use Rattle.extent_lists.specs.Rows.{IsAscending, Lists, sets}
use Rattle.extent_evaluation.proofs.BandLemmas.{IsWhole}
use Rattle.extent_evaluation.proofs.EvaluationLemmas.{AreListed-more, found-gives, Lists-of_any, Lists-of_band, Lists-of_in_field, Lists-of_ordered, Lists-of_syn, Lists-of_unordered}
use Rattle.extent_evaluation.proofs.InsideLemmas.{IsAscending-inside}
use Rattle.extent_lists.proofs.KeepsLemmas.{Keeps-then}
use Rattle.extent_lists.proofs.WordLemmas.{EachWord-of_any, EachWord-of_band, EachWord-of_in_field, EachWord-of_ordered, EachWord-of_syn, EachWord-of_unordered, EachWord-of_word, EachWord-weaker, EachWordOf-more, EachWordOf-none}
use Rattle.extent_evaluation.proofs.InsideLemmas.{AreInOrder-ascending}
use Rattle.extent_evaluation.proofs.evaluation.+evaluation.Goals as goal

pub all_evaluated-evaluated-requires : goal.all_evaluated-evaluated-requires
all_evaluated-evaluated-requires g t c κs within = search (rules, the_lemmas)

pub all_evaluated-loop-x-init : goal.all_evaluated-loop-x-init
all_evaluated-loop-x-init g t c =
    let empty : c.new-lists.result.items ≡ [] = search rules in
    record {
      undamaged = refl;
      keeps = record { documents_stay = refl; no_fault_lost = omega arith; sound_stays = λ u. u; intact_stays = λ u. u; stays_quiet = g.met.P.Postings.quiet_same _ };
      listed = λ sound. rw empty tt;
      ascending = rw empty (All-nil IsAscending);
      told = EachWordOf-none _;
    }

pub all_evaluated-loop-x-preserved : goal.all_evaluated-loop-x-preserved
all_evaluated-loop-x-preserved g t c =
    let pushed : c.push.new.self.items ≡ c.loop-x.lists.items ++ c.in_ok-found.found ∷ [] = search rules in
    record {
      undamaged = c.in_ok-found.ensures.undamaged ∙ c.loop-x.invariant.undamaged;
      keeps = Keeps-then _ _ _ _ _ g.met.P.Postings.quiet_then _ _ _ c.loop-x.invariant.keeps c.evaluated.ensures.keeps;
      listed = λ sound.
          let listed = rw c.loop-x.invariant.keeps.documents_stay at (c.in_ok-found.ensures.exact (c.loop-x.invariant.keeps.sound_stays sound)) in
          rw pushed (AreListed-more _ _ _ _ _ _ c.loop-x-test.true c.x-item.is (c.loop-x.invariant.listed sound) listed);
      ascending = rw pushed (All-push IsAscending c.loop-x.lists.items c.in_ok-found.found c.loop-x.invariant.ascending c.in_ok-found.ensures.ascending);
      told =
          let before = λ (t : List ℕ). g.met.P.Postings.told_before c.args.postings.now c.loop-x.postings t c.args.id c.loop-x.invariant.keeps.stays_quiet in
          let here = EachWord-weaker _ (λ t. g.P.Postings.told c.args.postings.now t c.args.id) before (expr_tree c.x-item.result) c.in_ok-found.ensures.told in
          EachWordOf-more (λ t. g.P.Postings.told c.args.postings.now t c.args.id) c.args.all.now c.loop-x.x-index c.x-item.result c.loop-x-test.true c.x-item.is c.loop-x.invariant.told here;
    }

-- ---- what was told of each term

pub evaluated-returns-in-Word-clause-told : goal.evaluated-returns-in-Word-clause-told
evaluated-returns-in-Word-clause-told g t c =
    IfOk-weaker _ _ _ (λ found told. EachWord-of_word (λ t. g.P.Postings.told c.args.postings.now t c.args.id) c.args.expr.now c.in-Word.term c.in-Word.is told) c.of_term.ensures.told

pub evaluated-returns-in_ok-lists-in-Ordered-clause-told : goal.evaluated-returns-in_ok-lists-in-Ordered-clause-told
evaluated-returns-in_ok-lists-in-Ordered-clause-told g t c =
    let words = EachWord-of_ordered _ c.args.expr.now c.in-Ordered.n c.in-Ordered.all c.in-Ordered.is (rw c.deref.ensures.value at c.in_ok-lists-in-Ordered.ensures.told) in
    IfOk-weaker _ _ _ (λ xs found. words) c.listed.ensures.some

pub evaluated-returns-in_ok-lists-in-Unordered-clause-told : goal.evaluated-returns-in_ok-lists-in-Unordered-clause-told
evaluated-returns-in_ok-lists-in-Unordered-clause-told g t c =
    let words = EachWord-of_unordered _ c.args.expr.now c.in-Unordered.n c.in-Unordered.all c.in-Unordered.is (rw c.deref-in-Unordered.ensures.value at c.in_ok-lists-in-Unordered.ensures.told) in
    IfOk-weaker _ _ _ (λ xs found. words) c.listed-in-Unordered.ensures.some

pub evaluated-returns-in_ok-lists-in-Syn-clause-told : goal.evaluated-returns-in_ok-lists-in-Syn-clause-told
evaluated-returns-in_ok-lists-in-Syn-clause-told g t c =
    let words = EachWord-of_syn _ c.args.expr.now c.in-Syn.all c.in-Syn.is (rw c.deref-in-Syn.ensures.value at c.in_ok-lists-in-Syn.ensures.told) in
    IfOk-weaker _ _ _ (λ xs found. words) c.listed-in-Syn.ensures.some

pub evaluated-returns-in_ok-lists-in-Band-clause-told : goal.evaluated-returns-in_ok-lists-in-Band-clause-told
evaluated-returns-in_ok-lists-in-Band-clause-told g t c =
    let words = EachWord-of_band _ c.args.expr.now c.in-Band.all c.in-Band.is (rw c.deref-in-Band.ensures.value at c.in_ok-lists-in-Band.ensures.told) in
    IfOk-weaker _ _ _ (λ xs found. words) c.listed-in-Band.ensures.some

pub evaluated-returns-in-Any-clause-told : goal.evaluated-returns-in-Any-clause-told
evaluated-returns-in-Any-clause-told g t c =
    let words = EachWord-of_any _ c.args.expr.now c.in-Any.name c.in-Any.is in
    IfOk-weaker _ _ _ (λ xs found. words) c.listed-in-Any.ensures.some

pub evaluated-returns-in_ok-inside-in-InField-clause-told : goal.evaluated-returns-in_ok-inside-in-InField-clause-told
evaluated-returns-in_ok-inside-in-InField-clause-told g t c =
    EachWord-of_in_field _ c.args.expr.now c.in-InField.x c.in-InField.name c.in-InField.is (rw c.deref-in-InField.ensures at c.in_ok-found-in-InField.ensures.told)

-- ---- which extents they are

pub evaluated-inside-requires-clause-extents : goal.evaluated-inside-requires-clause-extents
evaluated-inside-requires-clause-extents g t c = AreInOrder-ascending _ c.in_ok-found-in-InField.ensures.ascending

pub evaluated-returns-in-Word-clause-exact : goal.evaluated-returns-in-Word-clause-exact
evaluated-returns-in-Word-clause-exact g t c = λ sound. rw (c.in-Word.is, expr_tree-Word) (c.of_term.ensures.exact sound)

pub evaluated-returns-in_ok-lists-in-Ordered-clause-exact : goal.evaluated-returns-in_ok-lists-in-Ordered-clause-exact
evaluated-returns-in_ok-lists-in-Ordered-clause-exact g t c = λ sound.
    let lists = rw c.deref.ensures.value at (c.in_ok-lists-in-Ordered.ensures.exact sound) in
    found-gives (Lists (IsLeastEnd (IsChain c.in-Ordered.n (sets c.in_ok-lists-in-Ordered.lists.items)))) _ _ _ (λ xs found. Lists-of_ordered c.args.expr.now _ c.in-Ordered.n c.in-Ordered.all c.in_ok-lists-in-Ordered.lists.items xs c.in-Ordered.is lists found)
    (rw c.deref-in-Ordered.ensures.value at c.chains.ensures) c.listed.ensures.some

pub evaluated-returns-in_ok-lists-in-Unordered-clause-exact : goal.evaluated-returns-in_ok-lists-in-Unordered-clause-exact
evaluated-returns-in_ok-lists-in-Unordered-clause-exact g t c = λ sound.
    let lists = rw c.deref-in-Unordered.ensures.value at (c.in_ok-lists-in-Unordered.ensures.exact sound) in
    found-gives (Lists (IsLeastEnd (IsWindow c.in-Unordered.n (sets c.in_ok-lists-in-Unordered.lists.items)))) _ _ _ (λ xs found. Lists-of_unordered c.args.expr.now _ c.in-Unordered.n c.in-Unordered.all c.in_ok-lists-in-Unordered.lists.items xs c.in-Unordered.is lists found)
    (rw c.deref-in-Unordered-2.ensures.value at c.windows.ensures) c.listed-in-Unordered.ensures.some

pub evaluated-returns-in_ok-lists-in-Syn-clause-exact : goal.evaluated-returns-in_ok-lists-in-Syn-clause-exact
evaluated-returns-in_ok-lists-in-Syn-clause-exact g t c = λ sound.
    let lists = rw c.deref-in-Syn.ensures.value at (c.in_ok-lists-in-Syn.ensures.exact sound) in
    found-gives (Lists (IsInSome (sets c.in_ok-lists-in-Syn.lists.items))) _ _ _ (λ xs found. Lists-of_syn c.args.expr.now _ c.in-Syn.all c.in_ok-lists-in-Syn.lists.items xs c.in-Syn.is lists found)
    (rw c.deref-in-Syn-2.ensures.value at c.union_of.ensures) c.listed-in-Syn.ensures.some

pub evaluated-returns-in_ok-lists-in-Band-clause-exact : goal.evaluated-returns-in_ok-lists-in-Band-clause-exact
evaluated-returns-in_ok-lists-in-Band-clause-exact g t c = λ sound.
    let tokens = c.length-length.ensures.exact ∙ ap (λ (ds : List Document). length (document_at ds c.args.id).tokens) c.in_ok-lists-in-Band.ensures.keeps.documents_stay in
    let lists = rw c.deref-in-Band.ensures.value at (c.in_ok-lists-in-Band.ensures.exact sound) in
    found-gives (Lists (IsWhole c.length-length.result c.in_ok-lists-in-Band.lists.items)) _ _ _ (λ xs found. Lists-of_band c.args.expr.now _ c.in-Band.all c.in_ok-lists-in-Band.lists.items c.length-length.result xs c.in-Band.is lists tokens found)
    (rw c.deref-in-Band-2.ensures.value at c.whole_if_each.ensures) c.listed-in-Band.ensures.some

pub evaluated-returns-in-Any-clause-exact : goal.evaluated-returns-in-Any-clause-exact
evaluated-returns-in-Any-clause-exact g t c = λ sound.
    found-gives (Lists (IsField c.spans.result.now c.in-Any.name)) _ _ _ (λ xs found. Lists-of_any c.args.expr.now _ c.in-Any.name c.spans.result.now xs c.in-Any.is c.spans.ensures.exact found)
    c.of_fields.ensures c.listed-in-Any.ensures.some

pub evaluated-returns-in-Any-clause-ascending : goal.evaluated-returns-in-Any-clause-ascending
evaluated-returns-in-Any-clause-ascending g t c =
    found-gives (Lists (IsField c.spans.result.now c.in-Any.name)) IsAscending _ _ (λ xs found. found.ascending) c.of_fields.ensures c.listed-in-Any.ensures.some

pub evaluated-returns-in_ok-lists-in-Ordered-clause-ascending : goal.evaluated-returns-in_ok-lists-in-Ordered-clause-ascending
evaluated-returns-in_ok-lists-in-Ordered-clause-ascending g t c =
    found-gives (Lists (IsLeastEnd (IsChain c.in-Ordered.n (sets c.in_ok-lists-in-Ordered.lists.items)))) IsAscending _ _ (λ xs found. found.ascending) (rw c.deref-in-Ordered.ensures.value at c.chains.ensures) c.listed.ensures.some

pub evaluated-returns-in_ok-lists-in-Unordered-clause-ascending : goal.evaluated-returns-in_ok-lists-in-Unordered-clause-ascending
evaluated-returns-in_ok-lists-in-Unordered-clause-ascending g t c =
    found-gives (Lists (IsLeastEnd (IsWindow c.in-Unordered.n (sets c.in_ok-lists-in-Unordered.lists.items)))) IsAscending _ _ (λ xs found. found.ascending) (rw c.deref-in-Unordered-2.ensures.value at c.windows.ensures) c.listed-in-Unordered.ensures.some

pub evaluated-returns-in_ok-lists-in-Syn-clause-ascending : goal.evaluated-returns-in_ok-lists-in-Syn-clause-ascending
evaluated-returns-in_ok-lists-in-Syn-clause-ascending g t c =
    found-gives (Lists (IsInSome (sets c.in_ok-lists-in-Syn.lists.items))) IsAscending _ _ (λ xs found. found.ascending) (rw c.deref-in-Syn-2.ensures.value at c.union_of.ensures) c.listed-in-Syn.ensures.some

pub evaluated-returns-in_ok-lists-in-Band-clause-ascending : goal.evaluated-returns-in_ok-lists-in-Band-clause-ascending
evaluated-returns-in_ok-lists-in-Band-clause-ascending g t c =
    found-gives (Lists (IsWhole c.length-length.result c.in_ok-lists-in-Band.lists.items)) IsAscending _ _ (λ xs found. found.ascending) (rw c.deref-in-Band-2.ensures.value at c.whole_if_each.ensures) c.listed-in-Band.ensures.some

pub evaluated-returns-in_ok-inside-in-InField-clause-exact : goal.evaluated-returns-in_ok-inside-in-InField-clause-exact
evaluated-returns-in_ok-inside-in-InField-clause-exact g t c = λ sound.
    let fields = c.spans-in-InField.ensures.exact ∙ ap (λ (ds : List Document). (document_at ds c.args.id).fields) c.in_ok-found-in-InField.ensures.keeps.documents_stay in
    Lists-of_in_field c.args.expr.now _ c.in-InField.x c.in-InField.name c.spans-in-InField.result.now c.in_ok-found-in-InField.found _ c.in-InField.is fields
    (rw c.deref-in-InField.ensures at (c.in_ok-found-in-InField.ensures.exact sound)) c.in_ok-inside-in-InField.ensures.exact

pub evaluated-returns-in_ok-inside-in-InField-clause-ascending : goal.evaluated-returns-in_ok-inside-in-InField-clause-ascending
evaluated-returns-in_ok-inside-in-InField-clause-ascending g t c =
    IsAscending-inside c.spans-in-InField.result.now c.in-InField.name c.in_ok-found-in-InField.found _ c.in_ok-found-in-InField.ensures.ascending c.in_ok-inside-in-InField.ensures.exact
