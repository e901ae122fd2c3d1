use Rattle.std.proofs.Common.{◌≡◌, ◌<◌, ◌∙◌, ap, sym, subst, ℕ, [], length, arith}
use Rattle.holdings.specs.Kept.{AreKept}
use Rattle.holdings.specs.Parts.{Parts, all_parts, parts_of, sealed}
use Rattle.holdings.proofs.KeptLemmas.{last-whole}
use Rattle.holdings.proofs.RoomLemmas.{AreKept-sealed, closed-seen, sealed-none}
use Rattle.holdings.proofs.live_parts.LiveParts.seal.Goals as goal

pub close-requires : goal.close-requires
close-requires c = record { whole = last-whole c.self.inside.closed.items c.self.inside.filling.documents c.self.inside.marks c.self.invariant.whole }

pub invariant_of-self-2 : goal.invariant_of-self-2
invariant_of-self-2 c =
    let most : c.args.part_docs ≡ c.self.inside.filling.most = c.requires.most ∙ sym (ap (λ (p : Parts). p.most) c.self.view_is) in
    let fresh : c.close.new.filling ≡ record { most = c.self.inside.filling.most; documents = [] } = c.in_ok-close.ensures.filling ∙ c.in_ok-fresh.ensures ∙ ap (λ (m : ℕ). record { most = m; documents = [] }) most in
    let some : 0 < length c.self.inside.filling.documents = omega arith in
    let p = parts_of c.self.inside.closed.items c.self.inside.filling c.self.inside.marks in
    subst (λ (q : Parts). AreKept q.most c.self.inside.places.entries (all_parts q))
    (sym (closed-seen c.self.inside.closed.items c.self.inside.filling c.self.inside.marks c.close.new.closed.items c.close.new.filling c.close.new.marks some c.in_ok-close.ensures.closed fresh (c.in_ok-close.ensures.marks ∙ c.in_ok-fresh_marks.ensures)))
    (AreKept-sealed c.self.inside.places.entries p c.self.invariant)

pub returns-then-len-eq0-clause-sealed : goal.returns-then-len-eq0-clause-sealed
returns-then-len-eq0-clause-sealed c =
    let p = parts_of c.self.inside.closed.items c.self.inside.filling c.self.inside.marks in
    subst (λ (q : Parts). q ≡ sealed q) c.self.view_is (sym (sealed-none p (omega arith)))

pub returns-clause-sealed : goal.returns-clause-sealed
returns-clause-sealed c =
    let most : c.args.part_docs ≡ c.self.inside.filling.most = c.requires.most ∙ sym (ap (λ (p : Parts). p.most) c.self.view_is) in
    let fresh : c.close.new.filling ≡ record { most = c.self.inside.filling.most; documents = [] } = c.in_ok-close.ensures.filling ∙ c.in_ok-fresh.ensures ∙ ap (λ (m : ℕ). record { most = m; documents = [] }) most in
    let some : 0 < length c.self.inside.filling.documents = omega arith in
    closed-seen c.self.inside.closed.items c.self.inside.filling c.self.inside.marks c.close.new.closed.items c.close.new.filling c.close.new.marks some c.in_ok-close.ensures.closed fresh (c.in_ok-close.ensures.marks ∙ c.in_ok-fresh_marks.ensures)
    ∙ ap sealed c.self.view_is
