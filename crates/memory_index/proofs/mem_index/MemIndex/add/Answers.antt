use Rattle.std.proofs.Common.{◌≡◌, ◌<◌, ◌≤◌, ◌+◌, ◌++◌, [], ◌∷◌, length, sym, ap, subst, ◌∙◌, arith}
use Rattle.ri_base.specs.Collection.{token_count}
use Rattle.ri_base.specs.Inversion.{documents_of}
use Rattle.memory_index.specs.Kept.{AreKept, Index}
use Rattle.memory_index.proofs.KeptLemmas.{AreKept-more, documents_of-more}
use Rattle.memory_index.proofs.mem_index.MemIndex.add.Goals as goal
use Rattle.ri_base.specs.declared.limits.TheConstants.{MAX_HELD_TOKENS}

pub invariant_of-self : goal.invariant_of-self
invariant_of-self c =
    let room : length c.self.inside.docs.items < c.self.inside.most = omega arith in
    let fits : token_count (documents_of c.self.inside.terms.keys c.self.inside.docs.items) + length c.args.doc.now.tokens ≤ MAX_HELD_TOKENS =
    subst (λ (m : Index). token_count m.documents + length c.args.doc.now.tokens ≤ MAX_HELD_TOKENS) (sym c.self.view_is) c.requires.room in
    let w : c.from.result ≡ length c.args.doc.now.tokens = omega (arith, c.len.ensures.exact) in
    subst (λ k. AreKept c.self.inside.most (c.self.inside.held + k) c.hold.new.terms.keys c.hold.new.names.keys c.hold.new.docs.items) (sym w)
    (AreKept-more _ _ _ _ _ _ _ _ c.args.doc.now c.in-Ok.ensures.ok c.self.invariant room fits)

pub returns-in-Ok-clause-added : goal.returns-in-Ok-clause-added
returns-in-Ok-clause-added c =
    ap (λ ds. record { most = c.self.inside.most; documents = ds }) (documents_of-more _ _ _ _ _ _ _ c.in-Ok.ensures.ok c.self.invariant.numbers)
    ∙ ap (λ (m : Index). record { most = m.most; documents = m.documents ++ c.args.doc.now ∷ [] }) c.self.view_is
