use Rattle.std.proofs.Common.{◌≡◌, ◌<◌, ◌≤◌, ◌/◌, ℕ, true, false, List, length, map, take, ap, sym, subst, ◌∙◌, arith}
use Rattle.ri_base.specs.Collection.{document_at}
use Rattle.ri_base.specs.Documents.{Document}
use Rattle.ri_base.specs.Query.{filter_tree}
use Rattle.belief_nodes.specs.Network.{network_tree}
use Rattle.disk_index.specs.Snapshots.{unmarked}
use Rattle.ranker.specs.First.{Advances, AsksWithin, Counted, counted}
use Rattle.ranker.specs.Going.{IsKnownIn}
use Rattle.ranker.specs.Passed.{IsSpan, asked_of, has_live, is_clear, live_ranges, ranges_of}
use Rattle.ranker.specs.Unbeaten.{Holds, Sought, Stretch, live_to, sought, stretch}
use Rattle.ranker.proofs.AheadLemmas.{IsKnown-found, IsKnown-on, absent-here, bare}
use Rattle.ranker.proofs.AskedLemmas.{asked-found, asked-on, asks-all, asks-bounded, asks-same, asks-then, live-here}
use Rattle.ranker.proofs.OpeningLemmas.{OpensIn-failed, OpensIn-none, OpensIn-one, each-passed}
use Rattle.ranker.proofs.PassedLemmas.{Advances-beaten, Advances-by-each, Advances-dead, PassesBy, passes_absent, passes_unseen}
use Rattle.ranker.proofs.UnbeatenLemmas.{is-unbeaten, left-by}
use Rattle.ranker.proofs.WindowLemmas.{KeepsWindows-same}
use Rattle.ranker.proofs.WorkLemmas.{PassesIn-by, PassesIn-none, PassesIn-over, asks-up}
use Rattle.ranker.proofs.parts.pass_on.Given as given
use Rattle.ranker.proofs.parts.pass_on.Goals as goal
use Rattle.ranker.proofs.parts.pass_on.Goals.{After-ahead_of-found, After-is_beaten, then-is_clear-via-else-is_clear+then-is_absent, then-is_clear-via-then-is_clear}

module _ (g : given.Over) (c : After-ahead_of-found g) where
  -- what is searched for, in which documents
  abbrev found : ℕ → Sought
  found count = sought c.args.rule.now.kind (map (λ b. (goal.BeliefNode-dyn g (b.vtable, b.value)).meaning b.value) c.args.plugs.now) (map filter_tree c.args.filters.now) (network_tree c.args.network.now) c.args.tables.now count

  abbrev part : List Document → Stretch
  part before = stretch c.args.number before (g.P.Postings.documents c.args.part.now) c.args.marks.now

  -- what is found out is known
  known_here : g.P.Postings.sound c.args.part.now → (before : List Document) (count : ℕ) → IsKnownIn (found count) (part before) c.args.id c.args.ahead → IsKnownIn (found count) (part before) c.args.id c.ahead_of-found.result
  known_here sound before count known =
      let s = found count in
      IsKnown-found s.kind s.priors s.filters s.network s.tables c.args.number (g.P.Postings.documents c.args.part.now) c.args.id c.args.ahead c.ahead_of-found.result c.ahead_of-found.ensures.found (c.ahead_of-found.ensures.ahead sound known.may) (c.ahead_of-found.ensures.span known.span) known

  -- and no bound more was asked for
  asked_here : IsSpan (length (g.P.Postings.documents c.args.part.now)) c.args.id c.args.ahead → asked_of c.args.marks.now c.args.id c.args.ahead ≤ asked_of c.args.marks.now c.args.id c.ahead_of-found.result
  asked_here span = asked-found c.args.marks.now (length (g.P.Postings.documents c.args.part.now)) c.args.id c.args.ahead c.ahead_of-found.result c.ahead_of-found.ensures.found span c.requires.id

module _ (g : given.Over) (c : After-is_beaten g) where
  live_here : has_live c.args.marks.now (c.args.id / 64) ≡ true
  live_here = live-here c.args.marks.now c.args.id (omega (arith, c.requires.id, c.requires.marks)) (sym c.is_marked.ensures ∙ c.if-is_marked.false)

  -- with the bound of the range, where it was asked for
  asks_here : IsSpan (length (g.P.Postings.documents c.args.part.now)) c.args.id c.ahead_of-found.result → asked_of c.args.marks.now c.args.id c.args.ahead ≤ asked_of c.args.marks.now c.args.id c.ahead_of-found.result
      → AsksWithin (network_tree c.args.network.now) (asked_of c.args.marks.now c.args.id c.args.ahead) (asked_of c.args.marks.now c.args.id c.in_ok-known.known) c.args.squares.now c.bounded.new.squares
  asks_here span asked =
      let network = network_tree c.args.network.now in
      let marks = c.args.marks.now in
      let id = c.args.id in
      asks-then network (asked_of marks id c.args.ahead) (asked_of marks id c.ahead_of-found.result) (asked_of marks id c.in_ok-known.known) c.args.squares.now c.args.squares.now c.bounded.new.squares
      (asks-same network (asked_of marks id c.args.ahead) (asked_of marks id c.ahead_of-found.result) c.args.squares.now asked)
      (asks-bounded network marks (length (g.P.Postings.documents c.args.part.now)) id c.ahead_of-found.result c.in_ok-known.known c.args.squares.now c.bounded.new.squares c.in_ok-known.ensures.asked c.in_ok-known.ensures.end c.ahead_of-found.ensures.some
      (sym c.is_clear.ensures ∙ c.if-is_clear.false) live_here c.bounded.ensures.cost span)

-- ---- no document may have candidates

pub returns-then-is_clear-clause-work : goal.returns-then-is_clear-clause-work
returns-then-is_clear-clause-work g c = λ sound before count known.
    let start = (goal.at.returns-then-is_clear-clause-work g c).After-ahead_of-found in
    let s = found g start count in
    let m = part g start before in
    let id = c.args.id in
    let here = known_here g start sound before count known in
    let asked = asked_here g start known.span in
    let to = c.pass_unseen.result in
    let inside = c.pass_unseen.ensures.passed.inside in
    let within = c.pass_unseen.ensures.inside in
    let on = asked-on m.marks id to.id c.ahead_of-found.result to.ahead c.pass_unseen.ensures.back c.pass_unseen.ensures.same in
    let few : Counted = counted c.args.first.now c.args.squares.now 0 in
    let by : (i : ℕ) → id ≤ i → i < to.id → PassesBy s.kind s.priors s.filters s.network few (document_at m.docs i) =
    elim c.then-is_clear.branch [
      | then-is_clear-via-then-is_clear w ↦ (λ i low high. passes_unseen s.kind s.priors s.filters s.network few (document_at m.docs i)
          (bare s.filters s.network.leaves m.docs id c.ahead_of-found.result (sym c.is_clear.ensures ∙ w.if-is_clear.true) here.may i low (omega (arith, high, within))))
      | then-is_clear-via-else-is_clear+then-is_absent w ↦ (λ i low high. passes_absent s.kind s.priors s.filters s.network few (document_at m.docs i)
          (absent-here s.kind s.priors s.filters s.network s.tables m.number m.docs id i c.ahead_of-found.result here.span (sym c.is_clear.ensures ∙ w.if-is_clear.false) low (omega (arith, high, within))
          (w.is_absent.ensures.absent w.if-is_absent.true s.network m.docs (omega (arith, c.requires.id)) known.told)))
    ] in
    PassesIn-by s m (length c.args.terms.now) id c.args.ahead (g.P.OpensRanges.present c.args.part.now) c.args.first.now c.args.squares.now c.args.squares.now c.args.blocks.now to c.pass_unseen.ensures.back (omega (arith, c.requires.id))
    (Advances-by-each s.kind s.priors s.filters s.network m.docs m.marks few id to.id c.pass_unseen.ensures.back (omega (arith, inside, c.requires.marks)) c.requires.marks by).step
    (asks-same s.network (asked_of m.marks id c.args.ahead) (asked_of m.marks to.id to.ahead) c.args.squares.now (omega (arith, asked, on)))
    (IsKnown-on s.kind s.priors s.filters s.network s.tables m.number m.docs id to.id c.ahead_of-found.result to.ahead c.pass_unseen.ensures.back within c.pass_unseen.ensures.same here)

pub returns-then-is_clear-clause-windows : goal.returns-then-is_clear-clause-windows
returns-then-is_clear-clause-windows g c = KeepsWindows-same _ _ _

-- ---- the document is dead

pub returns-then-is_marked-clause-work : goal.returns-then-is_marked-clause-work
returns-then-is_marked-clause-work g c = λ sound before count known.
    let start = (goal.at.returns-then-is_marked-clause-work g c).After-ahead_of-found in
    let s = found g start count in
    let m = part g start before in
    let id = c.args.id in
    let here = known_here g start sound before count known in
    let asked = asked_here g start known.span in
    let to = c.pass_dead.result in
    let next = c.pass_dead.ensures.next in
    let on = asked-on m.marks id to.id c.ahead_of-found.result to.ahead (omega (arith, next)) c.pass_dead.ensures.same in
    let few : Counted = counted c.args.first.now c.args.squares.now 0 in
    PassesIn-by s m (length c.args.terms.now) id c.args.ahead (g.P.OpensRanges.present c.args.part.now) c.args.first.now c.args.squares.now c.args.squares.now c.args.blocks.now to (omega (arith, next)) (omega (arith, c.requires.id))
    (subst (λ n. Advances s.kind s.priors s.filters s.network (unmarked (take id m.docs) m.marks) (unmarked (take n m.docs) m.marks) few few) (sym next)
    (Advances-dead s.kind s.priors s.filters s.network m.docs m.marks id few c.requires.id c.requires.marks (sym c.is_marked.ensures ∙ c.if-is_marked.true))).step
    (asks-same s.network (asked_of m.marks id c.args.ahead) (asked_of m.marks to.id to.ahead) c.args.squares.now (omega (arith, asked, on)))
    (IsKnown-on s.kind s.priors s.filters s.network s.tables m.number m.docs id to.id c.ahead_of-found.result to.ahead (omega (arith, next)) (omega (arith, next, c.ahead_of-found.ensures.some)) c.pass_dead.ensures.same here)

pub returns-then-is_marked-clause-passed : goal.returns-then-is_marked-clause-passed
returns-then-is_marked-clause-passed g c = c.pass_dead.ensures.passed c.args.most

pub returns-then-is_marked-clause-windows : goal.returns-then-is_marked-clause-windows
returns-then-is_marked-clause-windows g c = KeepsWindows-same _ _ _

-- ---- no bound is told

pub returns-in_err-known-clause-work : goal.returns-in_err-known-clause-work
returns-in_err-known-clause-work g c = λ sound before count known.
    let start = (goal.at.returns-in_err-known-clause-work g c).After-ahead_of-found in
    let s = found g start count in
    let m = part g start before in
    let id = c.args.id in
    let asked = asked_here g start known.span in
    let live = live-here m.marks id (omega (arith, c.requires.id, c.requires.marks)) (sym c.is_marked.ensures ∙ c.if-is_marked.false) in
    PassesIn-none s m _ (length c.args.terms.now) id c.args.ahead (g.P.OpensRanges.present c.args.part.now) c.args.first.now c.args.squares.now c.bounded.new.squares c.args.blocks.now c.from_residual.result c.from_residual.ensures.1 (omega (arith, c.requires.id))
    (asks-then s.network (asked_of m.marks id c.args.ahead) (asked_of m.marks id c.ahead_of-found.result) (live_ranges m.marks (ranges_of (length m.docs))) c.args.squares.now c.args.squares.now c.bounded.new.squares
    (asks-same s.network (asked_of m.marks id c.args.ahead) (asked_of m.marks id c.ahead_of-found.result) c.args.squares.now asked)
    (asks-all s.network m.marks (length m.docs) id c.ahead_of-found.result c.args.squares.now c.bounded.new.squares c.in_err-known.ensures.unasked c.requires.id live c.bounded.ensures.cost))

-- ---- no candidate of the range can be among the first

pub returns-then-is_beaten-clause-work : goal.returns-then-is_beaten-clause-work
returns-then-is_beaten-clause-work g c = λ sound before count known.
    let at = goal.at.returns-then-is_beaten-clause-work g c in
    let s = found g at.After-ahead_of-found count in
    let m = part g at.After-ahead_of-found before in
    let id = c.args.id in
    let here = known_here g at.After-ahead_of-found sound before count known in
    let asks = asks_here g at.After-is_beaten here.span (asked_here g at.After-ahead_of-found known.span) in
    let now = c.in_ok-known.known in
    let bounded : IsKnownIn s m id now = c.in_ok-known.ensures.known s.filters here in
    let to = c.pass_unseen-then-is_beaten.result in
    let inside = c.pass_unseen-then-is_beaten.ensures.passed.inside in
    let within = c.pass_unseen-then-is_beaten.ensures.inside in
    let on = asked-on m.marks id to.id now to.ahead c.pass_unseen-then-is_beaten.ensures.back c.pass_unseen-then-is_beaten.ensures.same in
    let beaten = c.is_beaten.ensures.beaten c.if-is_beaten.true in
    let stats = c.args.network.now.kept.each in
    let leaves : length s.network.leaves ≤ length s.network.stats = omega (arith, stats) in
    PassesIn-by s m (length c.args.terms.now) id c.args.ahead (g.P.OpensRanges.present c.args.part.now) c.args.first.now c.args.squares.now c.bounded.new.squares c.args.blocks.now to c.pass_unseen-then-is_beaten.ensures.back (omega (arith, c.requires.id))
    (Advances-beaten s.kind s.priors s.filters s.network m.docs m.marks (counted c.args.first.now c.bounded.new.squares 0) id to.id beaten.0 c.pass_unseen-then-is_beaten.ensures.back (omega (arith, inside, c.requires.marks)) c.requires.marks leaves beaten.2
    (λ i low high. bounded.least beaten.0 i beaten.1 low (omega (arith, high, within)))).step
    (asks-up s.network (asked_of m.marks id c.args.ahead) (asked_of m.marks id now) (asked_of m.marks to.id to.ahead) c.args.squares.now c.bounded.new.squares asks on)
    (IsKnown-on s.kind s.priors s.filters s.network s.tables m.number m.docs id to.id now to.ahead c.pass_unseen-then-is_beaten.ensures.back within c.pass_unseen-then-is_beaten.ensures.same bounded)

pub returns-then-is_beaten-clause-windows : goal.returns-then-is_beaten-clause-windows
returns-then-is_beaten-clause-windows g c = KeepsWindows-same _ _ _

-- ---- the range is gone over

pub returns-clause-work : goal.returns-clause-work
returns-clause-work g c = λ sound before count known.
    let at = goal.at.returns-clause-work g c in
    let s = found g at.After-ahead_of-found count in
    let m = part g at.After-ahead_of-found before in
    let id = c.args.id in
    let here = known_here g at.After-ahead_of-found sound before count known in
    let asks = asks_here g at.After-is_beaten here.span (asked_here g at.After-ahead_of-found known.span) in
    let now = c.in_ok-known.known in
    let bounded : IsKnownIn s m id now = c.in_ok-known.ensures.known s.filters here in
    let some_ahead : id < now.end = omega (arith, c.ahead_of-found.ensures.some, c.in_ok-known.ensures.end) in
    let found_unbeaten = λ (held : Holds s (live_to m id) c.args.first.now).
    is-unbeaten s m id c.args.first.now now.bound held (λ n is. bounded.key n id is (omega arith) some_ahead) (c.is_beaten.ensures.unbeaten c.if-is_beaten.false) (λ none. left-by (c.is_absent.ensures.told c.if-is_absent.false) (c.in_ok-known.ensures.unbound none)) in
    let read : is_clear now.mask ≡ false = ap is_clear c.in_ok-known.ensures.mask ∙ sym c.is_clear.ensures ∙ c.if-is_clear.false in
    PassesIn-over s m id c.args.ahead now (g.P.OpensRanges.present c.args.part.now) (g.P.OpensRanges.present c.pass_opened.new.part) c.args.first.now c.pass_opened.new.first c.args.squares.now c.bounded.new.squares c.pass_opened.new.squares c.args.blocks.now c.pass_opened.new.blocks (length c.args.terms.now)
    c.requires.marks c.requires.id bounded.span.inside (bounded.span.short read) asks (live_here g at.After-is_beaten) found_unbeaten c.pass_opened.ensures.none c.pass_opened.ensures.cost
    c.pass_opened.result (omega (arith, some_ahead)) c.pass_opened.ensures.back c.pass_opened.ensures.inside c.pass_opened.ensures.present (c.pass_opened.ensures.work sound before count bounded)

-- ---- blocks

pub returns-then-is_clear-clause-blocks : goal.returns-then-is_clear-clause-blocks
returns-then-is_clear-clause-blocks g c = OpensIn-none (length c.args.terms.now) (length c.args.marks.now) c.args.id (g.P.OpensRanges.present c.args.part.now) c.args.blocks.now (length c.args.terms.now) c.pass_unseen.result c.pass_unseen.ensures.back

pub returns-then-is_marked-clause-blocks : goal.returns-then-is_marked-clause-blocks
returns-then-is_marked-clause-blocks g c =
    let next = c.pass_dead.ensures.next in
    OpensIn-none (length c.args.terms.now) (length c.args.marks.now) c.args.id (g.P.OpensRanges.present c.args.part.now) c.args.blocks.now (length c.args.terms.now) c.pass_dead.result (omega (arith, next))

pub returns-in_err-known-clause-blocks : goal.returns-in_err-known-clause-blocks
returns-in_err-known-clause-blocks g c = OpensIn-failed _ (length c.args.terms.now) (length c.args.marks.now) c.args.id (g.P.OpensRanges.present c.args.part.now) c.args.blocks.now (length c.args.terms.now) c.from_residual.result c.from_residual.ensures.1

pub returns-then-is_beaten-clause-blocks : goal.returns-then-is_beaten-clause-blocks
returns-then-is_beaten-clause-blocks g c =
    OpensIn-none (length c.args.terms.now) (length c.args.marks.now) c.args.id (g.P.OpensRanges.present c.args.part.now) c.args.blocks.now (length c.args.terms.now) c.pass_unseen-then-is_beaten.result c.pass_unseen-then-is_beaten.ensures.back

pub returns-clause-blocks : goal.returns-clause-blocks
returns-clause-blocks g c =
    OpensIn-one (length c.args.terms.now) (length c.args.marks.now) (g.P.OpensRanges.present c.args.part.now) (g.P.OpensRanges.present c.pass_opened.new.part) c.args.id c.args.blocks.now c.pass_opened.new.blocks c.pass_opened.result
    (omega (arith, c.requires.id, c.requires.marks)) c.pass_opened.ensures.back c.pass_opened.ensures.present c.pass_opened.ensures.none c.pass_opened.ensures.cost

pub returns-clause-each : goal.returns-clause-each
returns-clause-each g c =
    each-passed (length c.args.terms.now) c.args.marks.now c.args.id c.args.most c.args.blocks.now c.pass_opened.new.blocks c.pass_opened.result (omega (arith, c.requires.id, c.requires.marks)) (sym c.is_marked.ensures ∙ c.if-is_marked.false)
    c.pass_opened.ensures.passed c.pass_opened.ensures.forward c.pass_opened.ensures.cost
