use Rattle.std.proofs.Common.{Contains, List, ℕ, inl, inr, map, take}
use Rattle.std.proofs.lemmas.List.Elements.{All-contains_itself}
use Rattle.std.proofs.lemmas.Result.{IfOk-weaker}
use Rattle.ri_base.specs.Collection.{document_at}
use Rattle.query_check.specs.Leaves.{leaf_tree}
use Rattle.document_scoring.specs.Told.{IsLeafTold}
use Rattle.document_scoring.proofs.FirstsLemmas.{copied, read}
use Rattle.document_scoring.proofs.ToldLemmas.{leaf_at, leaf_copied}
use Rattle.document_scoring.proofs.found.found_at.Goals as goal

-- ---- an equal one was found before

pub returns-then-same_leaf-clause-exact : goal.returns-then-same_leaf-clause-exact
returns-then-same_leaf-clause-exact g c = λ sound so_far w.
    let d = document_at (g.P.Postings.documents c.args.part.now) c.args.id in
    copied d w c.args.leaves.now c.args.before.now c.args.number c.args.first c.index-leaves-first.result c.index-leaves-number.result c.index-before-first.result _ c.if-first-number.true c.requires.number c.requires.each
    c.index-leaves-first.is c.index-leaves-number.is (c.same_leaf.ensures c.if-same_leaf.true) c.index-before-first.is c.in_ok-clone_in.ensures (so_far w)

-- ---- the part tells

pub returns-clause-exact : goal.returns-clause-exact
returns-clause-exact g c = λ sound so_far.
    read (document_at (g.P.Postings.documents c.args.part.now) c.args.id) c.args.leaves.now c.args.number c.index-leaves-number.result c.found_of.result c.requires.number c.index-leaves-number.is (c.found_of.ensures.exact sound)

-- ---- of which terms places were told

pub returns-then-same_leaf-clause-told : goal.returns-then-same_leaf-clause-told
returns-then-same_leaf-clause-told g c =
    let before = take c.args.number (map leaf_tree c.args.leaves.now) in
    inr (leaf_copied (Contains before) c.args.leaves.now c.args.number c.requires.number c.args.first c.index-leaves-first.result c.index-leaves-number.result c.if-first-number.true c.index-leaves-first.is c.index-leaves-number.is
    (c.same_leaf.ensures c.if-same_leaf.true) (All-contains_itself before))

pub returns-clause-told : goal.returns-clause-told
returns-clause-told g c =
    let IsTold = λ (t : List ℕ). g.P.Postings.told c.args.part.now t c.args.id in
    IfOk-weaker _ _ _ (λ found told. inl (leaf_at (IsLeafTold IsTold) c.args.leaves.now c.args.number c.requires.number c.index-leaves-number.result c.index-leaves-number.is told)) c.found_of.ensures.told
