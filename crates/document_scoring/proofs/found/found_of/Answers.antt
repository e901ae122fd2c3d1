use Rattle.ri_base.specs.Collection.{document_at}
use Rattle.document_scoring.proofs.CountLemmas.{few_of, inside_is, plain_is, prior_is}
use Rattle.document_scoring.proofs.ToldLemmas.{leaf_told, prior_told}
use Rattle.document_scoring.proofs.found.found_of.Goals as goal

pub returns-in_default-clause-exact : goal.returns-in_default-clause-exact
returns-in_default-clause-exact g c = λ sound w.
    prior_is c.args.leaf.now c.in_default.field-0 (document_at (g.P.Postings.documents c.args.part.now) c.args.id) w c.in_default.is

pub returns-in-None-clause-exact : goal.returns-in-None-clause-exact
returns-in-None-clause-exact g c = λ sound w.
    plain_is c.args.leaf.now c.in-Extents.expr c.in-Extents.context (document_at (g.P.Postings.documents c.args.part.now) c.args.id) w c.in_ok-found.found c.in-Extents.is c.in-None.is (c.in_ok-found.ensures.exact sound)

pub returns-in-Some-clause-exact : goal.returns-in-Some-clause-exact
returns-in-Some-clause-exact g c = λ sound w.
    inside_is c.args.leaf.now c.in-Extents.expr c.in-Extents.context c.in-Some.name (document_at (g.P.Postings.documents c.args.part.now) c.args.id) w c.in_ok-found.found c.in-Extents.is c.in-Some.is (c.in_ok-found.ensures.exact sound)

pub returns-in-Some-clause-found : goal.returns-in-Some-clause-found
returns-in-Some-clause-found g c =
    (c.in_ok-found.ensures.order, few_of c.in-Extents.context c.in-Some.name c.in_ok-found.found (document_at (g.P.Postings.documents c.args.part.now) c.args.id).fields c.in-Some.is c.in_ok-found.ensures.few)

-- ---- of which terms places were told

pub returns-in_default-clause-told : goal.returns-in_default-clause-told
returns-in_default-clause-told g c = prior_told c.args.leaf.now c.in_default.field-0 _ c.in_default.is

pub returns-in-None-clause-told : goal.returns-in-None-clause-told
returns-in-None-clause-told g c = leaf_told c.args.leaf.now c.in-Extents.expr c.in-Extents.context _ c.in-Extents.is c.in_ok-found.ensures.told

pub returns-in-Some-clause-told : goal.returns-in-Some-clause-told
returns-in-Some-clause-told g c = leaf_told c.args.leaf.now c.in-Extents.expr c.in-Extents.context _ c.in-Extents.is c.in_ok-found.ensures.told
