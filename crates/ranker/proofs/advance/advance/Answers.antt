use Rattle.std.proofs.Common.{◌≡◌, ◌≤◌, ◌+◌, ◌*◌, ℕ, None, length, map, min, refl, sym, ap, ◌∙◌, arith}
use Rattle.ri_base.specs.Query.{filter_tree}
use Rattle.belief_nodes.specs.Network.{network_tree}
use Rattle.disk_index.specs.Snapshots.{live}
use Rattle.ranker.specs.Going.{tally}
use Rattle.ranker.specs.Held.{is_open}
use Rattle.ranker.specs.Passed.{passed}
use Rattle.ranker.specs.Unbeaten.{Sought, sought}
use Rattle.ranker.proofs.HeldLemmas.{HoldsEntries-on, HoldsEntries-shut, ended-credit}
use Rattle.ranker.proofs.OpeningLemmas.{OpensAt-else, OpensAt-none}
use Rattle.ranker.proofs.PlaceLemmas.{credit-le, passed-all}
use Rattle.ranker.proofs.ReadLemmas.{reads-same}
use Rattle.ranker.proofs.TakingLemmas.{TakesAt-broken, TakesAt-end, TakesAt-ended, TakesAt-failed, TakesAt-on}
use Rattle.ranker.proofs.WindowLemmas.{HasWindows-on}
use Rattle.ranker.proofs.advance.advance.Given as given
use Rattle.ranker.proofs.advance.advance.Goals as goal
use Rattle.ranker.proofs.advance.advance.Goals.{Start}

module _ (g : given.Over) (c : Start g) where
  -- what is searched for
  abbrev found : ℕ → Sought
  found most = sought c.args.rule.now.kind (map (λ b. (goal.BeliefNode-dyn g (b.vtable, b.value)).meaning b.value) c.args.plugs.now) (map filter_tree c.args.filters.now) (network_tree c.args.network.now) c.args.tables.now most

pub returns-in_default-clause-credit : goal.returns-in_default-clause-credit
returns-in_default-clause-credit g c =
    let at = c.args.at.now in
    let whole : c.args.count ≡ length (live None c.args.parts.now) = c.requires.count None in
    let below : at.credit ≤ length (live None c.args.parts.now) = credit-le None c.args.parts.now at c.requires.place in
    let few : at.credit ≤ c.args.count = omega (arith, whole, below) in
    let all : at.credit ≡ c.args.count = ended-credit c.args.held.now c.in_default.field-0 at.credit c.args.count c.in_default.is c.requires.open few in
    omega (arith, all)

pub returns-then-at-count-clause-credit : goal.returns-then-at-count-clause-credit
returns-then-at-count-clause-credit g c = c.in_ok-pass_parts.ensures.credit None ∙ ap (min (c.args.at.now.credit + c.args.docs)) (sym (c.requires.count None))

pub returns-clause-credit : goal.returns-clause-credit
returns-clause-credit g c = c.in_ok-pass_parts.ensures.credit None ∙ ap (min (c.args.at.now.credit + c.args.docs)) (sym (c.requires.count None))

pub returns-then-at-count-clause-windows : goal.returns-then-at-count-clause-windows
returns-then-at-count-clause-windows g c = λ told most h.
    HasWindows-on (network_tree c.args.network.now) told (g.T.Store.files c.args.store.now) c.args.parts.now most c.args.held.now c.in-Open.first c.pass_parts.new.first c.in-Open.is c.in_ok-pass_parts.ensures.windows h

pub returns-clause-windows : goal.returns-clause-windows
returns-clause-windows g c = λ told most h.
    let leaves = length (network_tree c.args.network.now).leaves in
    c.in_ok-end.ensures.windows (live told c.args.parts.now) leaves most
    (HasWindows-on (network_tree c.args.network.now) told (g.T.Store.files c.args.store.now) c.args.parts.now most c.args.held.now c.in-Open.first c.pass_parts.new.first c.in-Open.is c.in_ok-pass_parts.ensures.windows h)

pub end-requires : goal.end-requires
end-requires g c = HoldsEntries-on (network_tree c.args.network.now) (live (g.T.Store.files c.args.store.now) c.args.parts.now) c.args.held.now c.in-Open.first c.pass_parts.new.first c.in-Open.is c.in_ok-pass_parts.ensures.windows c.requires.entries

pub returns-then-at-count-clause-entries : goal.returns-then-at-count-clause-entries
returns-then-at-count-clause-entries g c = HoldsEntries-on (network_tree c.args.network.now) (live (g.T.Store.files c.args.store.now) c.args.parts.now) c.args.held.now c.in-Open.first c.pass_parts.new.first c.in-Open.is c.in_ok-pass_parts.ensures.windows c.requires.entries

pub returns-clause-entries : goal.returns-clause-entries
returns-clause-entries g c = HoldsEntries-shut (network_tree c.args.network.now) c.end.new.self c.in_ok-end.ensures.ended

-- ---- what it comes to

pub returns-in_default-clause-takes : goal.returns-in_default-clause-takes
returns-in_default-clause-takes g c = λ backed cached most ahead held.
    let start = (goal.at.returns-in_default-clause-takes g c).Start in
    let told = g.T.Store.files c.args.store.now in
    let parts = c.args.parts.now in
    let at = c.args.at.now in
    let whole : c.args.count ≡ length (live told parts) = c.requires.count told in
    let below : at.credit ≤ length (live told parts) = credit-le told parts at c.requires.place in
    let few : at.credit ≤ c.args.count = omega (arith, whole, below) in
    let end : at.credit ≡ c.args.count = ended-credit c.args.held.now c.in_default.field-0 at.credit c.args.count c.in_default.is c.requires.open few in
    TakesAt-ended (found g start most) (length c.args.terms.now) told parts at c.args.held.now (tally c.args.read.now.range c.args.squares.now c.args.blocks.now) tt (ap is_open c.in_default.is) c.requires.place (passed-all told parts at (sym (c.requires.place.credit told) ∙ end ∙ whole)) ahead held

pub returns-in_err-pass_parts-clause-takes : goal.returns-in_err-pass_parts-clause-takes
returns-in_err-pass_parts-clause-takes g c = λ backed cached most ahead held.
    let start = (goal.at.returns-in_err-pass_parts-clause-takes g c).Start in
    TakesAt-failed (found g start most) (length c.args.terms.now) (g.T.Store.files c.args.store.now) c.args.parts.now c.args.at.now c.pass_parts.new.at c.args.held.now c.in-Open.first c.pass_parts.new.first (tally c.args.read.now.range c.args.squares.now c.args.blocks.now)
    (tally c.pass_parts.new.held.range c.pass_parts.new.squares c.pass_parts.new.blocks) c.in-Open.is held _ _ c.pass_parts.result c.from_residual.result c.from_residual.ensures.1 (c.pass_parts.ensures.work backed cached most ahead)

pub returns-then-at-count-clause-takes : goal.returns-then-at-count-clause-takes
returns-then-at-count-clause-takes g c = λ backed cached most ahead held.
    let start = (goal.at.returns-then-at-count-clause-takes g c).Start in
    TakesAt-on (found g start most) (length c.args.terms.now) (g.T.Store.files c.args.store.now) c.args.parts.now c.args.at.now c.pass_parts.new.at c.args.held.now c.in-Open.first c.pass_parts.new.first (tally c.args.read.now.range c.args.squares.now c.args.blocks.now)
    (tally c.pass_parts.new.held.range c.pass_parts.new.squares c.pass_parts.new.blocks) c.in-Open.is held tt (c.in_ok-pass_parts.ensures.work backed cached most ahead)

pub returns-in_err-end-clause-takes : goal.returns-in_err-end-clause-takes
returns-in_err-end-clause-takes g c = λ backed cached most ahead held.
    let start = (goal.at.returns-in_err-end-clause-takes g c).Start in
    let told = g.T.Store.files c.args.store.now in
    let parts = c.args.parts.now in
    let now = c.pass_parts.new.at in
    let whole : c.args.count ≡ length (live told parts) = c.requires.count told in
    let below : now.credit ≤ length (live told parts) = credit-le told parts now c.pass_parts.ensures.place in
    let end : now.credit ≡ length (live told parts) = omega (arith, whole, below, c.if-at-count.false) in
    TakesAt-broken (found g start most) (length c.args.terms.now) told parts c.args.at.now now c.args.held.now c.in-Open.first c.pass_parts.new.first (tally c.args.read.now.range c.args.squares.now c.args.blocks.now)
    (tally c.pass_parts.new.held.range c.pass_parts.new.squares c.pass_parts.new.blocks) c.in-Open.is held c.end.new.squares (passed-all told parts now (sym (c.pass_parts.ensures.place.credit told) ∙ end))
    (λ h. c.end.ensures.cost c.args.rule.now.kind (found g start most).priors (found g start most).filters (passed told parts now) most refl h) tt _ c.end.new.self c.from_residual-in_err-end.result c.from_residual-in_err-end.ensures.1 (c.in_ok-pass_parts.ensures.work backed cached most ahead)

pub returns-clause-takes : goal.returns-clause-takes
returns-clause-takes g c = λ backed cached most ahead held.
    let start = (goal.at.returns-clause-takes g c).Start in
    let told = g.T.Store.files c.args.store.now in
    let parts = c.args.parts.now in
    let now = c.pass_parts.new.at in
    let whole : c.args.count ≡ length (live told parts) = c.requires.count told in
    let below : now.credit ≤ length (live told parts) = credit-le told parts now c.pass_parts.ensures.place in
    let end : now.credit ≡ length (live told parts) = omega (arith, whole, below, c.if-at-count.false) in
    TakesAt-end (found g start most) (length c.args.terms.now) told parts c.args.at.now now c.args.held.now c.in-Open.first c.pass_parts.new.first (tally c.args.read.now.range c.args.squares.now c.args.blocks.now)
    (tally c.pass_parts.new.held.range c.pass_parts.new.squares c.pass_parts.new.blocks) c.in-Open.is held c.end.new.squares (passed-all told parts now (sym (c.pass_parts.ensures.place.credit told) ∙ end))
    (λ h. c.end.ensures.cost c.args.rule.now.kind (found g start most).priors (found g start most).filters (passed told parts now) most refl h) tt c.end.new.self c.in_ok-end.ensures.ended
    (λ h. c.in_ok-end.ensures.held c.args.rule.now.kind (found g start most).priors (found g start most).filters (passed told parts now) most h) (c.in_ok-pass_parts.ensures.work backed cached most ahead)

-- ---- what is left, and blocks

pub returns-in_default-clause-reads : goal.returns-in_default-clause-reads
returns-in_default-clause-reads g c = reads-same _ _ _ _ _ _ _ _ _ _ _ _ _ c.requires.fits

pub returns-in_default-clause-blocks : goal.returns-in_default-clause-blocks
returns-in_default-clause-blocks g c = OpensAt-none (length c.args.terms.now) c.args.parts.now c.args.at.now c.args.read.now.range c.args.blocks.now (length c.args.terms.now * c.args.docs) tt

pub returns-in_err-pass_parts-clause-blocks : goal.returns-in_err-pass_parts-clause-blocks
returns-in_err-pass_parts-clause-blocks g c =
    OpensAt-else _ (length c.args.terms.now) c.args.parts.now c.args.at.now c.pass_parts.new.at c.args.read.now.range c.pass_parts.new.held.range c.args.blocks.now c.pass_parts.new.blocks (length c.args.terms.now * c.args.docs) c.pass_parts.result c.from_residual.result c.from_residual.ensures.1
    c.pass_parts.ensures.blocks

pub returns-in_err-end-clause-blocks : goal.returns-in_err-end-clause-blocks
returns-in_err-end-clause-blocks g c =
    OpensAt-else _ (length c.args.terms.now) c.args.parts.now c.args.at.now c.pass_parts.new.at c.args.read.now.range c.pass_parts.new.held.range c.args.blocks.now c.pass_parts.new.blocks (length c.args.terms.now * c.args.docs) c.pass_parts.result c.from_residual-in_err-end.result c.from_residual-in_err-end.ensures.1
    c.pass_parts.ensures.blocks
