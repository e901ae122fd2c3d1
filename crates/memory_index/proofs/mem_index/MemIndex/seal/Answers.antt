use Rattle.std.proofs.Common.{◌≤◌, List, ℕ, length, sym, subst}
use Rattle.std.specs.List.{All}
use Rattle.ri_base.specs.declared.held.Held.{Held}
use Rattle.memory_index.specs.Inverts.{Inverts}
use Rattle.memory_index.proofs.InvertLemmas.{IsInversion-made, short_from_count}
use Rattle.memory_index.proofs.mem_index.MemIndex.seal.Goals as goal
use Rattle.ri_base.specs.declared.limits.TheConstants.{MAX_HELD_TOKENS}

pub invert-requires-clause-short : goal.invert-requires-clause-short
invert-requires-clause-short c =
    subst (λ (l : List Held). All (λ h. length h.tokens.items ≤ MAX_HELD_TOKENS) l) (sym c.deref.ensures.value)
    (short_from_count c.self.inside.terms.keys c.self.inside.docs.items MAX_HELD_TOKENS c.self.invariant.fits)

pub of-requires : goal.of-requires
of-requires c =
    let v = c.in-Ok.inverted.vocabulary in
    let ranks = c.in-Ok.inverted.ranks.items in
    let postings = c.in-Ok.inverted.postings.items in
    let h : Inverts c.self.inside.terms.keys c.self.inside.docs.items v ranks postings =
    subst (λ (l : List Held). Inverts c.self.inside.terms.keys l v ranks postings) c.deref.ensures.value
    (subst (λ (l : List (List ℕ)). Inverts l c.deref.result.now v ranks postings) c.as_slice.ensures.keys c.in-Ok.ensures) in
    record { inverts = IsInversion-made c.self.inside.most c.self.inside.held c.self.inside.terms.keys c.self.inside.names.keys c.self.inside.docs.items v ranks postings c.self.invariant h }
