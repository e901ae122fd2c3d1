use Rattle.std.proofs.Common.{◌≡◌, ◌++◌, drop, map, take}
use Rattle.std.specs.List.{All}
use Rattle.ri_base.specs.Collection.{document_at}
use Rattle.ri_base.specs.Keeps.{Keeps}
use Rattle.query_check.specs.Leaves.{leaf_tree}
use Rattle.document_scoring.specs.Told.{IsLeafTold}
use Rattle.result_explanation.specs.Explanation.{leaves_told, told_leaf}
use Rattle.result_explanation.proofs.explanation.leaves_shown.Given as goal

abbrev pub invariant-loop-i : goal.invariant-loop-i
invariant-loop-i g l =
    let d = document_at (g.P.Postings.documents l.fn.part) l.id in
    let leaves = map leaf_tree l.leaves in
    record {
      keeps : Keeps g.P.Postings.documents g.P.Postings.faults g.P.Postings.sound g.P.Postings.intact g.P.Postings.quiet l.fn.part l.part;
      undamaged : g.P.Postings.damage l.part ≡ g.P.Postings.damage l.fn.part;
      so_far : g.P.Postings.sound l.fn.part → map told_leaf l.shown ++ leaves_told l.names d l.window (drop l.i leaves) (drop l.i l.stats) (drop l.i l.beliefs)
          ≡ leaves_told l.names d l.window leaves l.stats l.beliefs;
      told : All (λ leaf. IsLeafTold (λ t. g.P.Postings.told l.fn.part t l.id) (leaf_tree leaf)) (take l.i l.leaves);
    }
