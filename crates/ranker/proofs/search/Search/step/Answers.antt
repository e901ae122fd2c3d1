use Rattle.std.proofs.Common.{rules, ◌<◌, ◌+◌, ◌^◌, length, map, refl, sym, ◌∙◌, arith}
use Rattle.std.proofs.lemmas.Bool.{lt-ltb}
use Rattle.std.proofs.lemmas.Bool.Decides.{nat_tests}
use Rattle.belief_nodes.specs.Network.{network_tree}
use Rattle.disk_index.specs.Parts.{reads}
use Rattle.document_scoring.specs.Candidates.{candidates}
use Rattle.ranker.specs.Held.{is_open}
use Rattle.ranker.specs.Passed.{IsBareTo, part_at, passed}
use Rattle.ranker.specs.Unbeaten.{early_at}
use Rattle.ranker.specs.Searches.{filters_of, sought_by}
use Rattle.ranker.proofs.AheadLemmas.{IsKnown-on}
use Rattle.ranker.proofs.BareLemmas.{IsBareTo-on, IsHeld-few, IsPlace-few, bare-end, place_on}
use Rattle.ranker.proofs.OpeningLemmas.{times-more}
use Rattle.ranker.proofs.SpentLemmas.{early-on, met-on, spent-open}
use Rattle.ranker.proofs.search.Search.step.Goals as goal

pub overflow_add-self : goal.overflow_add-self
overflow_add-self g c =
    let s = c.args.self.now in
    let low : s.at.credit + c.args.docs < s.bare_to = c.passes_bare.ensures c.if-passes_bare.true in
    let here : IsBareTo s.snapshot s.at s.live_count s.bare_to = s.next c.requires.usable in
    let fits = here.ids in
    omega (arith, low, fits)

pub overflow_cast-self : goal.overflow_cast-self
overflow_cast-self g c =
    let s = c.args.self.now in
    let low : s.at.credit + c.args.docs < s.bare_to = c.passes_bare.ensures c.if-passes_bare.true in
    let here : IsBareTo s.snapshot s.at s.live_count s.bare_to = s.next c.requires.usable in
    let fits = here.ids in
    omega (arith, low, fits)

pub overflow_add-self-then-passes_bare : goal.overflow_add-self-then-passes_bare
overflow_add-self-then-passes_bare g c =
    let s = c.args.self.now in
    let low : s.at.credit + c.args.docs < s.bare_to = c.passes_bare.ensures c.if-passes_bare.true in
    let small : s.bare_to < 2 ^ 64 = search rules in
    omega (arith, low, small)

pub returns-then-passes_bare-clause-credit : goal.returns-then-passes_bare-clause-credit
returns-then-passes_bare-clause-credit g c = λ told.
    let s = c.args.self.now in
    let low : s.at.credit + c.args.docs < s.bare_to = c.passes_bare.ensures c.if-passes_bare.true in
    let here : IsBareTo s.snapshot s.at s.live_count s.bare_to = s.next c.requires.usable in
    let left = here.left in
    omega (arith, low, left, s.count told)

pub returns-then-passes_bare-clause-done : goal.returns-then-passes_bare-clause-done
returns-then-passes_bare-clause-done g c = λ told.
    let s = c.args.self.now in
    let low : s.at.credit + c.args.docs < s.bare_to = c.passes_bare.ensures c.if-passes_bare.true in
    let here : IsBareTo s.snapshot s.at s.live_count s.bare_to = s.next c.requires.usable in
    let left = here.left in
    let all = s.count told in
    grind (arith, nat_tests)

pub returns-then-passes_bare-clause-same : goal.returns-then-passes_bare-clause-same
returns-then-passes_bare-clause-same g c = record { snapshot = refl; checked = refl; network = refl; most = refl }

pub returns-then-passes_bare-clause-taken : goal.returns-then-passes_bare-clause-taken
returns-then-passes_bare-clause-taken g c = λ backed cached h.
    let s = c.args.self.now in
    let told = g.T.Store.files c.args.store.now in
    let priors = map (λ b. (goal.BeliefNode-dyn g (b.vtable, b.value)).meaning b.value) c.args.plugs.now in
    let low : s.at.credit + c.args.docs < s.bare_to = c.passes_bare.ensures c.if-passes_bare.true in
    let here : IsBareTo s.snapshot s.at s.live_count s.bare_to = s.next c.requires.usable in
    let left = here.left in
    record {
      held = IsHeld-few s.snapshot s.at c.args.docs (here.bare c.args.docs low) c.args.rule.now.kind priors (filters_of s) (network_tree s.network) s.tables.items told h.ahead c.args.docs s.most s.held (omega arith)
          (s.open c.requires.usable told ∙ lt-ltb _ _ (omega (arith, low, left, s.count told))) h.held;
      blocks = h.blocks;
      ahead = record {
        here = IsKnown-on c.args.rule.now.kind priors (filters_of s) (network_tree s.network) s.tables.items s.at.part (reads told (part_at s.snapshot s.at.part).source) s.at.id (s.at.id + c.args.docs) s.at.ahead s.at.ahead (omega arith)
            (bare-end s.snapshot s.at c.args.docs (here.bare c.args.docs low) c.args.docs (omega arith) h.ahead.here.span.back) refl h.ahead.here;
        each = h.ahead.each;
      };
    }

pub returns-then-passes_bare-clause-spent : goal.returns-then-passes_bare-clause-spent
returns-then-passes_bare-clause-spent g c = λ backed cached h within.
    let s = c.args.self.now in
    let told = g.T.Store.files c.args.store.now in
    let priors = map (λ b. (goal.BeliefNode-dyn g (b.vtable, b.value)).meaning b.value) c.args.plugs.now in
    let low : s.at.credit + c.args.docs < s.bare_to = c.passes_bare.ensures c.if-passes_bare.true in
    let here : IsBareTo s.snapshot s.at s.live_count s.bare_to = s.next c.requires.usable in
    let left = here.left in
    let sought = sought_by c.args.rule.now.kind priors s in
    let network = network_tree s.network in
    let found = candidates c.args.rule.now.kind priors (filters_of s) network in
    let more = spent-open network s.most (is_open s.held) (early_at sought told s.snapshot s.at) (early_at sought told s.snapshot (place_on s.at c.args.docs)) (found (passed told s.snapshot s.at)) (found (passed told s.snapshot (place_on s.at c.args.docs)))
    (s.open c.requires.usable told ∙ lt-ltb _ _ (omega (arith, low, left, s.count told))) (early-on sought told s.snapshot s.at c.args.docs) in
    let opened = times-more (length s.terms) _ _ (met-on sought told s.snapshot s.at c.args.docs s.blocks.range) in
    record { squares = omega (arith, more, within.squares); blocks = omega (arith, opened, within.blocks) }

pub invariant_of-self : goal.invariant_of-self
invariant_of-self g c =
    let s = c.args.self.now in
    let low : s.at.credit + c.args.docs < s.bare_to = c.passes_bare.ensures c.if-passes_bare.true in
    let here : IsBareTo s.snapshot s.at s.live_count s.bare_to = s.next c.requires.usable in
    let left = here.left in
    record {
      shown = s.shown;
      fits = s.fits;
      count = s.count;
      place = IsPlace-few s.snapshot s.at c.args.docs (here.bare c.args.docs low) c.args.docs (omega arith) s.place;
      next = λ usable. IsBareTo-on s.snapshot s.at s.live_count s.bare_to c.args.docs low here;
      «open» = λ usable told. s.open usable told ∙ lt-ltb _ _ (omega (arith, low, left, s.count told)) ∙ sym (lt-ltb _ _ (omega (arith, low, left, s.count told)));
      entries = s.entries;
      windows = s.windows;
    }
