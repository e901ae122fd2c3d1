use Rattle.std.proofs.Common.{◌≡◌, ◌∙◌, List, ap, length, refl, rules}
use Rattle.disk_index.specs.Snapshots.{Marked, live}
use Rattle.desk.proofs.QueryLemmas.{live-advanced, query-advanced, steps-backed}
use Rattle.desk.proofs.query.OpenQuery.advance.Goals as goal

pub returns-clause-live : goal.returns-clause-live
returns-clause-live g c = λ told.
    let wide : c.from.result ≡ c.live_count.result = search rules in
    live-advanced told c.args.self.now.search c.step.new.self _ c.step.ensures.same (wide ∙ c.live_count.ensures told ∙ ap (λ (ms : List Marked). length (live told ms)) c.snapshot.ensures)

pub returns-clause-query : goal.returns-clause-query
returns-clause-query g c = λ told. query-advanced told c.args.docs c.args.self.now _ refl c.step.ensures.same (c.in_ok-step.ensures.credit told)

pub returns-clause-backed : goal.returns-clause-backed
returns-clause-backed g c = λ s few asks are cached backed.
    steps-backed (g.T.Store.files c.args.store.now) s c.args.rule.now.kind c.args.self.now _ _ _ c.step.ensures.quiet.same_files few asks are c.step.ensures.same (c.in_ok-step.ensures.taken backed.snapshot cached) backed
