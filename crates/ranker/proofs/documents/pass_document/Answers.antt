use Rattle.std.proofs.Common.{map, refl, sym, arith, ◌∙◌}
use Rattle.ri_base.specs.Query.{filter_tree}
use Rattle.belief_nodes.specs.Network.{network_tree}
use Rattle.ranker.specs.First.{counted}
use Rattle.ranker.proofs.PassedLemmas.{Advances-dead, Advances-live, Advances-unseen, cost-live, ids-dead, ids-live}
use Rattle.ranker.proofs.WindowLemmas.{KeepsWindows-live, KeepsWindows-same}
use Rattle.ranker.proofs.documents.pass_document.Goals as goal

-- ---- it is dead

pub returns-then-is_marked-clause-first : goal.returns-then-is_marked-clause-first
returns-then-is_marked-clause-first g c = λ sound none.
    Advances-dead c.args.rule.now.kind (map (λ b. (goal.BeliefNode-dyn g (b.vtable, b.value)).meaning b.value) c.args.plugs.now) (map filter_tree c.args.filters.now) (network_tree c.args.network.now) (g.P.Postings.documents c.args.part.now) c.args.marks.now c.args.id (counted c.args.first.now c.args.squares.now 0)
    c.requires.id c.requires.marks (sym c.is_marked.ensures ∙ c.if-is_marked.true)

pub returns-then-is_marked-clause-docs : goal.returns-then-is_marked-clause-docs
returns-then-is_marked-clause-docs g c = ids-dead c.args.marks.now c.args.id (omega (arith, c.requires.id, c.requires.marks)) (sym c.is_marked.ensures ∙ c.if-is_marked.true)

pub returns-then-is_marked-clause-windows : goal.returns-then-is_marked-clause-windows
returns-then-is_marked-clause-windows g c = KeepsWindows-same _ _ _

-- ---- it has nothing to show

pub returns-then-not-may_have-clause-first : goal.returns-then-not-may_have-clause-first
returns-then-not-may_have-clause-first g c = λ sound none.
    Advances-unseen c.args.rule.now.kind (map (λ b. (goal.BeliefNode-dyn g (b.vtable, b.value)).meaning b.value) c.args.plugs.now) (map filter_tree c.args.filters.now) (network_tree c.args.network.now) (g.P.Postings.documents c.args.part.now) c.args.marks.now c.args.id (counted c.args.first.now c.args.squares.now 0)
    c.requires.id c.requires.marks (sym c.is_marked.ensures ∙ c.if-is_marked.false) (none c.if-not-may_have.true)

pub returns-then-not-may_have-clause-docs : goal.returns-then-not-may_have-clause-docs
returns-then-not-may_have-clause-docs g c = ids-live c.args.marks.now c.args.id (omega (arith, c.requires.id, c.requires.marks)) (sym c.is_marked.ensures ∙ c.if-is_marked.false)

pub returns-then-not-may_have-clause-windows : goal.returns-then-not-may_have-clause-windows
returns-then-not-may_have-clause-windows g c = KeepsWindows-same _ _ _

-- ---- its candidates are offered

pub returns-clause-first : goal.returns-clause-first
returns-clause-first g c = λ sound none.
    Advances-live c.args.rule.now.kind (map (λ b. (goal.BeliefNode-dyn g (b.vtable, b.value)).meaning b.value) c.args.plugs.now) (map filter_tree c.args.filters.now) (network_tree c.args.network.now) (g.P.Postings.documents c.args.part.now) c.args.marks.now c.args.id (counted c.args.first.now c.args.squares.now 0) (counted c.offer_document.new.first c.offer_document.new.squares 0)
    refl c.requires.id c.requires.marks (sym c.is_marked.ensures ∙ c.if-is_marked.false) (c.in_ok-offer_document.ensures.first sound) (c.in_ok-offer_document.ensures.cost sound)

pub returns-clause-docs : goal.returns-clause-docs
returns-clause-docs g c = ids-live c.args.marks.now c.args.id (omega (arith, c.requires.id, c.requires.marks)) (sym c.is_marked.ensures ∙ c.if-is_marked.false)

pub returns-clause-windows : goal.returns-clause-windows
returns-clause-windows g c =
    KeepsWindows-live (network_tree c.args.network.now) (g.P.Postings.documents c.args.part.now) c.args.marks.now c.args.id c.args.first.now c.offer_document.new.first
    c.requires.id c.requires.marks (sym c.is_marked.ensures ∙ c.if-is_marked.false) c.in_ok-offer_document.ensures.windows

-- ---- squarings

pub returns-then-is_marked-clause-within : goal.returns-then-is_marked-clause-within
returns-then-is_marked-clause-within g c = λ sound none.
    (Advances-dead c.args.rule.now.kind (map (λ b. (goal.BeliefNode-dyn g (b.vtable, b.value)).meaning b.value) c.args.plugs.now) (map filter_tree c.args.filters.now) (network_tree c.args.network.now) (g.P.Postings.documents c.args.part.now) c.args.marks.now c.args.id (counted c.args.first.now c.args.squares.now 0)
    c.requires.id c.requires.marks (sym c.is_marked.ensures ∙ c.if-is_marked.true)).cost

pub returns-then-not-may_have-clause-within : goal.returns-then-not-may_have-clause-within
returns-then-not-may_have-clause-within g c = λ sound none.
    (Advances-unseen c.args.rule.now.kind (map (λ b. (goal.BeliefNode-dyn g (b.vtable, b.value)).meaning b.value) c.args.plugs.now) (map filter_tree c.args.filters.now) (network_tree c.args.network.now) (g.P.Postings.documents c.args.part.now) c.args.marks.now c.args.id (counted c.args.first.now c.args.squares.now 0)
    c.requires.id c.requires.marks (sym c.is_marked.ensures ∙ c.if-is_marked.false) (none c.if-not-may_have.true)).cost

pub returns-in_err-offer_document-clause-within : goal.returns-in_err-offer_document-clause-within
returns-in_err-offer_document-clause-within g c = λ sound none.
    let more = cost-live c.args.rule.now.kind (map (λ b. (goal.BeliefNode-dyn g (b.vtable, b.value)).meaning b.value) c.args.plugs.now) (map filter_tree c.args.filters.now) (network_tree c.args.network.now) (g.P.Postings.documents c.args.part.now) c.args.marks.now c.args.id c.requires.id c.requires.marks (sym c.is_marked.ensures ∙ c.if-is_marked.false) in
    let one = c.offer_document.ensures.cost sound in
    omega (arith, more, one)

pub returns-clause-within : goal.returns-clause-within
returns-clause-within g c = λ sound none.
    let more = cost-live c.args.rule.now.kind (map (λ b. (goal.BeliefNode-dyn g (b.vtable, b.value)).meaning b.value) c.args.plugs.now) (map filter_tree c.args.filters.now) (network_tree c.args.network.now) (g.P.Postings.documents c.args.part.now) c.args.marks.now c.args.id c.requires.id c.requires.marks (sym c.is_marked.ensures ∙ c.if-is_marked.false) in
    let one = c.offer_document.ensures.cost sound in
    omega (arith, more, one)
