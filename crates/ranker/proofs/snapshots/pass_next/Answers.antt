use Rattle.std.proofs.Common.{◌≡◌, ◌*◌, ℕ, Ok, length, map, take, ap, sym, subst, ◌∙◌, arith}
use Rattle.std.proofs.lemmas.Result.{err_from_is_err_and}
use Rattle.ri_base.specs.Query.{filter_tree}
use Rattle.ri_base.specs.declared.seg_fault.SegFault.{SegFault}
use Rattle.belief_nodes.specs.Network.{network_tree}
use Rattle.disk_index.specs.Parts.{IsPartBacked, IsPartIntact, outlines_of, size}
use Rattle.disk_index.specs.Snapshots.{AreBacked, IsFileAmong, Marked, live, live_in}
use Rattle.disk_index.proofs.AmongLemmas.{backed-at, intact-at}
use Rattle.range_masks.specs.Held.{FitDocuments, Held}
use Rattle.ranker.specs.Going.{OpensAt, PassesAt, tally}
use Rattle.ranker.specs.Passed.{IsPlace, behind, part_at}
use Rattle.ranker.specs.Reading.{OnlyReads}
use Rattle.ranker.specs.Unbeaten.{Sought, sought}
use Rattle.ranker.specs.declared.place.Place.{Place}
use Rattle.ranker.proofs.DocumentLemmas.{live-among}
use Rattle.ranker.proofs.OpeningLemmas.{OpensAt-behind, OpensAt-failed}
use Rattle.ranker.proofs.PlaceLemmas.{IsPlace-behind, credit-behind, credit-few, part-behind, part-is}
use Rattle.ranker.proofs.ReadLemmas.{read-at, reads-among, reads-behind}
use Rattle.ranker.proofs.WindowLemmas.{KeepsWindows-among}
use Rattle.ranker.proofs.WorkLemmas.{PassesAt-behind, PassesAt-failed, known-own}
use Rattle.ranker.proofs.snapshots.pass_next.Given as given
use Rattle.ranker.proofs.snapshots.pass_next.Goals as goal
use Rattle.ranker.proofs.snapshots.pass_next.Goals.{After-pass_marked}

module _ (g : given.Over) (c : After-pass_marked g) where
  -- what is searched for
  abbrev found : ℕ → Sought
  found count = sought c.args.rule.now.kind (map (λ b. (goal.BeliefNode-dyn g (b.vtable, b.value)).meaning b.value) c.args.plugs.now) (map filter_tree c.args.filters.now) (network_tree c.args.network.now) c.args.tables.now count

  -- the part is that of the place
  own_part : part_at c.args.parts.now c.args.at.now.part ≡ c.index-parts-at.result
  own_part = part-is c.args.parts.now c.args.at.now.part c.index-parts-at.result c.requires.some c.index-parts-at.is

  -- what is left where it isn't passed, and before the next part begins
  reads_here : OnlyReads g.T.Store.files g.T.Store.layers g.T.Store.clock g.T.Store.since g.T.Store.longest g.T.Store.held g.T.Store.faults (IsFileAmong c.args.parts.now) (λ told. AreBacked told c.args.parts.now) (part_at c.args.parts.now c.args.at.now.part).source (part_at c.args.parts.now c.args.at.now.part).source c.args.store.now c.pass_marked.new.store c.args.cache.now c.pass_marked.new.cache c.args.held.now c.pass_marked.new.held
  reads_here = reads-among g.T.Store.files g.T.Store.layers g.T.Store.clock g.T.Store.since g.T.Store.longest g.T.Store.held g.T.Store.faults c.args.parts.now c.args.at.now.part c.index-parts-at.result c.requires.some c.index-parts-at.is own_part c.args.store.now c.pass_marked.new.store c.args.cache.now c.pass_marked.new.cache c.args.held.now c.pass_marked.new.held c.pass_marked.ensures.reads

pub pass_marked-requires-clause-id : goal.pass_marked-requires-clause-id
pass_marked-requires-clause-id g c =
    let is = part-is c.args.parts.now c.args.at.now.part c.index-parts-at.result c.requires.some c.index-parts-at.is in
    let inside = c.requires.place.id in
    omega (arith, inside, ap (λ (m : Marked). size m.source) is)

pub place_behind-requires-clause-credit : goal.place_behind-requires-clause-credit
place_behind-requires-clause-credit g c =
    let parts = c.args.parts.now in
    let at = c.args.at.now in
    let to = c.in_ok-to.to in
    let is = part-is parts at.part c.index-parts-at.result c.requires.some c.index-parts-at.is in
    let next = IsPlace-behind parts at to c.args.most c.index-parts-at.result is c.requires.some c.pass_marked.ensures.whole c.in_ok-to.ensures.passed c.in_ok-to.ensures.end c.requires.place in
    let few = credit-few parts (behind at to c.args.most) c.requires.few next in
    omega (arith, few, credit-behind at to c.args.most)

pub returns-clause-work : goal.returns-clause-work
returns-clause-work g c = λ backed cached count ahead.
    let told = g.T.Store.files c.args.store.now in
    let parts = c.args.parts.now in
    let at = c.args.at.now in
    let m = c.index-parts-at.result in
    let to = c.in_ok-to.to in
    let terms = length c.args.terms.now in
    let on = (goal.at.returns-clause-work g c).After-pass_marked in
    let s = found g on count in
    let is = own_part g on in
    let own : IsPartBacked told m.source = backed-at parts at.part m c.requires.some c.index-parts-at.is told backed in
    let was = tally c.args.held.now.range c.args.squares.now c.args.blocks.now in
    let now = tally c.pass_marked.new.held.range c.pass_marked.new.squares c.pass_marked.new.blocks in
    let last = tally c.keep_blocks.new.held.range c.pass_marked.new.squares c.pass_marked.new.blocks in
    subst (λ (p : Place). PassesAt {E = SegFault} s terms told parts at p c.args.first.now c.pass_marked.new.first was last (Ok c.in_ok-to.to.docs)) (sym c.place_behind.ensures)
    (PassesAt-behind s terms told parts at m is c.requires.some ahead c.args.first.now c.pass_marked.new.first was now c.keep_blocks.new.held.range to c.args.most to.docs c.pass_marked.ensures.whole c.in_ok-to.ensures.passed c.in_ok-to.ensures.end
    (λ le. ap (λ (h : Held). h.range) (c.keep_blocks.ensures.same le)) (c.in_ok-to.ensures.work own (read-at told parts at m c.args.cache.now c.args.held.now is cached) (live told (take at.part parts)) count (known-own s terms told parts at m is c.requires.some ahead)))

pub returns-in_err-to-clause-work : goal.returns-in_err-to-clause-work
returns-in_err-to-clause-work g c = λ backed cached count ahead.
    let told = g.T.Store.files c.args.store.now in
    let parts = c.args.parts.now in
    let at = c.args.at.now in
    let m = c.index-parts-at.result in
    let terms = length c.args.terms.now in
    let on = (goal.at.returns-in_err-to-clause-work g c).After-pass_marked in
    let s = found g on count in
    let is = own_part g on in
    let own : IsPartBacked told m.source = backed-at parts at.part m c.requires.some c.index-parts-at.is told backed in
    PassesAt-failed s terms told parts at m is c.requires.some ahead _ c.args.first.now c.pass_marked.new.first (tally c.args.held.now.range c.args.squares.now c.args.blocks.now) (tally c.pass_marked.new.held.range c.pass_marked.new.squares c.pass_marked.new.blocks)
    c.pass_marked.result c.from_residual.result c.from_residual.ensures.1
    (c.pass_marked.ensures.work own (read-at told parts at m c.args.cache.now c.args.held.now is cached) (live told (take at.part parts)) count (known-own s terms told parts at m is c.requires.some ahead))

pub returns-clause-windows : goal.returns-clause-windows
returns-clause-windows g c =
    let told = g.T.Store.files c.args.store.now in
    let parts = c.args.parts.now in
    let m = c.index-parts-at.result in
    KeepsWindows-among (network_tree c.args.network.now) (live_in told m) (live told parts) c.args.first.now c.pass_marked.new.first
    (live-among told parts c.args.at.now.part m c.requires.some c.index-parts-at.is) c.in_ok-to.ensures.windows

pub returns-clause-place : goal.returns-clause-place
returns-clause-place g c =
    let parts = c.args.parts.now in
    let at = c.args.at.now in
    let is = part-is parts at.part c.index-parts-at.result c.requires.some c.index-parts-at.is in
    subst (λ (p : Place). IsPlace parts p) (sym c.place_behind.ensures)
    (IsPlace-behind parts at c.in_ok-to.to c.args.most c.index-parts-at.result is c.requires.some c.pass_marked.ensures.whole c.in_ok-to.ensures.passed c.in_ok-to.ensures.end c.requires.place)

pub returns-clause-docs : goal.returns-clause-docs
returns-clause-docs g c = let few = c.in_ok-to.ensures.passed.few in (ap (λ (p : Place). p.credit) c.place_behind.ensures ∙ credit-behind c.args.at.now c.in_ok-to.to c.args.most, omega (arith, few))

pub returns-clause-next : goal.returns-clause-next
returns-clause-next g c = ap (λ (p : Place). p.part) c.place_behind.ensures ∙ part-behind c.args.at.now c.in_ok-to.to c.args.most

pub returns-in_err-to-clause-honest : goal.returns-in_err-to-clause-honest
returns-in_err-to-clause-honest g c = λ intact cached.
    let told = g.T.Store.files c.args.store.now in
    let parts = c.args.parts.now in
    let m = c.index-parts-at.result in
    let at = c.args.at.now in
    let is = part-is parts at.part m c.requires.some c.index-parts-at.is in
    let own : IsPartIntact told m.source = intact-at parts c.args.at.now.part m c.requires.some c.index-parts-at.is told intact in
    let p = err_from_is_err_and c.from_residual.result c.from_residual.ensures.1 in
    rw (p.1, p.2) (c.in_err-to.ensures.honest own (read-at told parts at m c.args.cache.now c.args.held.now is cached))

-- ---- what is left, and blocks

pub pass_marked-requires-clause-fits : goal.pass_marked-requires-clause-fits
pass_marked-requires-clause-fits g c =
    let parts = c.args.parts.now in
    let at = c.args.at.now in
    let m = c.index-parts-at.result in
    let is = part-is parts at.part m c.requires.some c.index-parts-at.is in
    subst (λ (p : Marked). FitDocuments (outlines_of p.source) c.args.held.now) is c.requires.fits

pub returns-clause-reads : goal.returns-clause-reads
returns-clause-reads g c =
    let parts = c.args.parts.now in
    let at = c.args.at.now in
    let on = (goal.at.returns-clause-reads g c).After-pass_marked in
    subst (λ (p : Place). OnlyReads g.T.Store.files g.T.Store.layers g.T.Store.clock g.T.Store.since g.T.Store.longest g.T.Store.held g.T.Store.faults (IsFileAmong parts) (λ told. AreBacked told parts) (part_at parts at.part).source (part_at parts p.part).source c.args.store.now c.pass_marked.new.store c.args.cache.now c.pass_marked.new.cache c.args.held.now c.keep_blocks.new.held) (sym c.place_behind.ensures)
    (reads-behind g.T.Store.files g.T.Store.layers g.T.Store.clock g.T.Store.since g.T.Store.longest g.T.Store.held g.T.Store.faults parts at c.in_ok-to.to c.args.most c.pass_marked.new.held c.keep_blocks.new.held c.keep_blocks.ensures.same c.args.store.now c.pass_marked.new.store c.args.cache.now c.pass_marked.new.cache c.args.held.now c.keep_blocks.ensures.fits c.keep_blocks.ensures.answers (reads_here g on))

pub returns-in_err-to-clause-reads : goal.returns-in_err-to-clause-reads
returns-in_err-to-clause-reads g c = reads_here g (goal.at.returns-in_err-to-clause-reads g c).After-pass_marked

pub returns-clause-blocks : goal.returns-clause-blocks
returns-clause-blocks g c =
    let parts = c.args.parts.now in
    let at = c.args.at.now in
    let terms = length c.args.terms.now in
    let on = (goal.at.returns-clause-blocks g c).After-pass_marked in
    subst (λ (p : Place). OpensAt {E = SegFault} terms parts at p c.args.held.now.range c.keep_blocks.new.held.range c.args.blocks.now c.pass_marked.new.blocks (terms * c.args.most) (Ok c.in_ok-to.to.docs)) (sym c.place_behind.ensures)
    (OpensAt-behind terms parts at c.index-parts-at.result (own_part g on) c.args.held.now.range c.pass_marked.new.held.range c.keep_blocks.new.held.range c.args.blocks.now c.pass_marked.new.blocks c.args.most (terms * c.args.most) c.in_ok-to.to c.in_ok-to.to.docs c.requires.some
    (λ le. ap (λ (h : Held). h.range) (c.keep_blocks.ensures.same le)) c.in_ok-to.ensures.blocks)

pub returns-in_err-to-clause-blocks : goal.returns-in_err-to-clause-blocks
returns-in_err-to-clause-blocks g c =
    let terms = length c.args.terms.now in
    let on = (goal.at.returns-in_err-to-clause-blocks g c).After-pass_marked in
    OpensAt-failed terms c.args.parts.now c.args.at.now c.index-parts-at.result (own_part g on) _ c.args.held.now.range c.pass_marked.new.held.range c.args.blocks.now c.pass_marked.new.blocks (terms * c.args.most) c.pass_marked.result c.from_residual.result c.from_residual.ensures.1
    c.pass_marked.ensures.blocks
