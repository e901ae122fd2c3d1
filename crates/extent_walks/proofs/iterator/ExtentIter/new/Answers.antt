use Rattle.ri_base.specs.Collection.{document_at}
use Rattle.ri_base.specs.Expression.{expr_tree}
use Rattle.extent_walks.specs.Walks.{plan}
use Rattle.extent_walks.proofs.LeftLemmas.{IsListing-left}
use Rattle.extent_walks.proofs.iterator.ExtentIter.new.Goals as goal

pub returns-clause-exact : goal.returns-clause-exact
returns-clause-exact g c = λ sound.
    rw (c.at.ensures, c.new.ensures.walk)
    (IsListing-left (plan c.in_ok-walk.walk) (expr_tree c.args.expr.now) (document_at (g.P.Postings.documents c.args.postings.now) c.args.id) (c.in_ok-walk.ensures.exact sound))
