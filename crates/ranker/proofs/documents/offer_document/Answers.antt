use Rattle.std.proofs.Common.{◌≤◌, ◌+◌, List, [], length, map, subst}
use Rattle.ri_base.specs.Collection.{document_at}
use Rattle.ri_base.specs.Query.{filter_tree}
use Rattle.belief_nodes.specs.Network.{network_tree}
use Rattle.document_scoring.specs.Rows.{Adds, AddsRows}
use Rattle.document_scoring.specs.declared.scoring.Row.{Row}
use Rattle.ranker.specs.First.{early_cost}
use Rattle.ranker.proofs.RankingLemmas.{HoldsFirst-more, adds_length}
use Rattle.ranker.proofs.WindowLemmas.{KeepsWindows-offered, rows_each}
use Rattle.ranker.proofs.documents.offer_document.Goals as goal

pub offer_rows-requires : goal.offer_rows-requires
offer_rows-requires g c =
    let leaves = length (network_tree c.args.network.now).leaves in
    let d = document_at (g.P.Postings.documents c.args.part.now) c.args.id in
    let adds : AddsRows d leaves [] c.score_document.new.rows.items =
    subst (λ (rs : List Row). AddsRows d leaves rs c.score_document.new.rows.items) c.new-rows.ensures.items c.in_ok-score_document.ensures.shape in
    rows_each d leaves c.score_document.new.rows.items adds

pub returns-clause-first : goal.returns-clause-first
returns-clause-first g c = λ sound docs most h.
    let kind = c.args.rule.now.kind in
    let priors = map (λ b. (goal.BeliefNode-dyn g (b.vtable, b.value)).meaning b.value) c.args.plugs.now in
    let filters = map filter_tree c.args.filters.now in
    let network = network_tree c.args.network.now in
    let d = document_at (g.P.Postings.documents c.args.part.now) c.args.id in
    let adds : Adds kind priors filters network d [] c.score_document.new.rows.items =
    subst (λ (rs : List Row). Adds kind priors filters network d rs c.score_document.new.rows.items) c.new-rows.ensures.items (c.in_ok-score_document.ensures.exact sound) in
    let rows : AddsRows d (length network.leaves) [] c.score_document.new.rows.items =
    subst (λ (rs : List Row). AddsRows d (length network.leaves) rs c.score_document.new.rows.items) c.new-rows.ensures.items c.in_ok-score_document.ensures.shape in
    HoldsFirst-more kind priors filters network docs d most c.args.first.now _ _ adds (rows_each d (length network.leaves) c.score_document.new.rows.items rows) c.offer_rows.ensures.most c.offer_rows.ensures.scale c.in_ok-offer_rows.ensures.offered h

pub returns-clause-windows : goal.returns-clause-windows
returns-clause-windows g c =
    let network = network_tree c.args.network.now in
    let leaves = length network.leaves in
    let d = document_at (g.P.Postings.documents c.args.part.now) c.args.id in
    let adds : AddsRows d leaves [] c.score_document.new.rows.items =
    subst (λ (rs : List Row). AddsRows d leaves rs c.score_document.new.rows.items) c.new-rows.ensures.items c.in_ok-score_document.ensures.shape in
    KeepsWindows-offered network d c.args.first.now _ _ adds c.offer_rows.ensures.most c.offer_rows.ensures.scale c.in_ok-offer_rows.ensures.among

pub returns-clause-cost : goal.returns-clause-cost
returns-clause-cost g c = λ sound.
    let kind = c.args.rule.now.kind in
    let priors = map (λ b. (goal.BeliefNode-dyn g (b.vtable, b.value)).meaning b.value) c.args.plugs.now in
    let filters = map filter_tree c.args.filters.now in
    let network = network_tree c.args.network.now in
    let d = document_at (g.P.Postings.documents c.args.part.now) c.args.id in
    let rows = c.score_document.new.rows.items in
    let adds : Adds kind priors filters network d [] rows = subst (λ (rs : List Row). Adds kind priors filters network d rs rows) c.new-rows.ensures.items (c.in_ok-score_document.ensures.exact sound) in
    subst (λ n. c.offer_rows.new.squares ≤ c.args.squares.now + early_cost network n) (adds_length kind priors filters network d rows adds) c.offer_rows.ensures.cost

pub returns-in_err-offer_rows-clause-cost : goal.returns-in_err-offer_rows-clause-cost
returns-in_err-offer_rows-clause-cost g c = λ sound.
    let kind = c.args.rule.now.kind in
    let priors = map (λ b. (goal.BeliefNode-dyn g (b.vtable, b.value)).meaning b.value) c.args.plugs.now in
    let filters = map filter_tree c.args.filters.now in
    let network = network_tree c.args.network.now in
    let d = document_at (g.P.Postings.documents c.args.part.now) c.args.id in
    let rows = c.score_document.new.rows.items in
    let adds : Adds kind priors filters network d [] rows = subst (λ (rs : List Row). Adds kind priors filters network d rs rows) c.new-rows.ensures.items (c.in_ok-score_document.ensures.exact sound) in
    subst (λ n. c.offer_rows.new.squares ≤ c.args.squares.now + early_cost network n) (adds_length kind priors filters network d rows adds) c.offer_rows.ensures.cost
