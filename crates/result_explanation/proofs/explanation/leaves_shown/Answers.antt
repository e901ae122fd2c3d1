use Rattle.std.proofs.Common.{rules, ◌≡◌, ◌<◌, ◌≤◌, ◌++◌, ℕ, List, length, get_or, map, sym, ap, subst, ◌∙◌, arith}
use Rattle.std.specs.List.{All}
use Rattle.std.proofs.Math.ListN.{get_or-map}
use Rattle.std.proofs.lemmas.List.{length-map, take_all}
use Rattle.std.proofs.lemmas.List.Elements.{All-map, All-more}
use Rattle.ri_base.specs.Collection.{document_at}
use Rattle.ri_base.specs.Documents.{Document}
use Rattle.ri_base.specs.declared.hit.LeafStats.{LeafStats}
use Rattle.extent_lists.proofs.KeepsLemmas.{Keeps-then}
use Rattle.query_check.specs.Leaves.{leaf_tree}
use Rattle.query_check.specs.declared.leaf_kind.LeafKind.{LeafKind}
use Rattle.document_scoring.specs.Told.{IsLeafTold}
use Rattle.document_scoring.proofs.ToldLemmas.{IsLeafTold-weaker}
use Rattle.result_explanation.specs.Explanation.{leaf_told, told_leaf}
use Rattle.result_explanation.proofs.LeafLemmas.{joined_none, leaf_end, leaf_next}
use Rattle.result_explanation.proofs.explanation.leaves_shown.Goals as goal

pub loop-i-preserved : goal.loop-i-preserved
loop-i-preserved g c =
    let leaves = c.args.leaves.now in
    let stats = c.args.stats.now in
    let i = c.loop-i.i in
    let inv = c.loop-i.invariant in
    let leaf = c.index-leaves-i.result in
    let s : LeafStats = get_or stats i (record { cf = 0; total = 0 }) in
    let b = c.index-beliefs-i.result in
    let d = document_at (g.P.Postings.documents c.args.part.now) c.args.id in
    let inside : i < length leaves = c.loop-i-test.true in
    let long : i < length (map leaf_tree leaves) = omega (arith, inside, length-map leaves leaf_tree) in
    let here : leaf_tree leaf ≡ get_or (map leaf_tree leaves) i (leaf_tree leaf) = ap leaf_tree c.index-leaves-i.is ∙ sym (get_or-map leaf_tree leaves i leaf) in
    record {
      undamaged = c.in_ok-leaf.ensures.undamaged ∙ c.loop-i.invariant.undamaged;
      keeps = Keeps-then _ _ _ _ _ g.met.P.Postings.quiet_then _ _ _ inv.keeps c.in_ok-leaf.ensures.keeps;
      so_far = λ sound.
          let told : told_leaf c.in_ok-leaf.leaf ≡ leaf_told c.args.names.now d c.args.window (leaf_tree leaf) s b =
          c.in_ok-leaf.ensures.exact (inv.keeps.sound_stays sound)
          ∙ ap (λ (ds : List Document). leaf_told c.args.names.now (document_at ds c.args.id) c.args.window (leaf_tree leaf) s b) inv.keeps.documents_stay in
          let next = leaf_next c.args.names.now d c.args.window (map leaf_tree leaves) stats c.args.beliefs.now i (leaf_tree leaf) s b long
          (omega (arith, inside, c.requires.stats)) (omega (arith, inside, c.requires.beliefs)) here (search rules) c.index-beliefs-i.is
          c.loop-i.shown c.in_ok-leaf.leaf _ told (inv.so_far sound) in
          rw c.in_ok-push.ensures.ok next;
      told =
          let IsTold = λ (t : List ℕ). g.P.Postings.told c.args.part.now t c.args.id in
          let before = λ (t : List ℕ). g.met.P.Postings.told_before c.args.part.now c.loop-i.part t c.args.id inv.keeps.stays_quiet in
          let told : IsLeafTold IsTold (leaf_tree leaf) = IsLeafTold-weaker _ IsTold before (leaf_tree leaf) c.in_ok-leaf.ensures.told in
          All-more (λ l. IsLeafTold IsTold (leaf_tree l)) leaves i leaf inside inv.told
          (subst (λ (l : LeafKind). IsLeafTold IsTold (leaf_tree l)) c.index-leaves-i.is told);
    }

pub returns-clause-exact : goal.returns-clause-exact
returns-clause-exact g c = λ sound.
    let leaves = c.args.leaves.now in
    let d = document_at (g.P.Postings.documents c.args.part.now) c.args.id in
    let end : length leaves ≤ c.loop-i.i = c.loop-i-test.false in
    let none = leaf_end c.args.names.now d c.args.window (map leaf_tree leaves) c.args.stats.now c.args.beliefs.now c.loop-i.i (omega (arith, end, length-map leaves leaf_tree)) in
    sym (joined_none (map told_leaf c.loop-i.shown)) ∙ ap (λ rest. map told_leaf c.loop-i.shown ++ rest) (sym none) ∙ c.loop-i.invariant.so_far sound

pub returns-clause-told : goal.returns-clause-told
returns-clause-told g c =
    let IsTold = λ (t : List ℕ). g.P.Postings.told c.args.part.now t c.args.id in
    let leaves = c.args.leaves.now in
    All-map (IsLeafTold IsTold) leaf_tree leaves
    (subst (All (λ l. IsLeafTold IsTold (leaf_tree l))) (take_all c.loop-i.i leaves c.loop-i-test.false) c.loop-i.invariant.told)
