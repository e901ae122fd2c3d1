use Rattle.std.proofs.Common.{◌≡◌, ◌∙◌, ◌-◌, ap, length, map, rules, subst, sym, List, None, refl}
use Rattle.std.specs.Prelude.{is_some}
use Rattle.std.proofs.Math.Logic.{∥∥₁_map}
use Rattle.std.proofs.lemmas.Result.{err_from_is_err_and}
use Rattle.ri_base.specs.declared.hit.Hit.{Hit}
use Rattle.manifest.specs.declared.manifest.PriorEntry.{PriorEntry}
use Rattle.query_check.specs.Answers.{whole_checked}
use Rattle.query_check.specs.declared.checked.Checked.{Checked}
use Rattle.belief_nodes.specs.Network.{network_tree}
use Rattle.disk_index.specs.Snapshots.{AreBacked, AreIntact, Marked, live}
use Rattle.ranker.specs.Ranking.{candidate_of}
use Rattle.ranker.specs.Searches.{searched}
use Rattle.ranker.specs.Windows.{IsWindowIn}
use Rattle.result_explanation.specs.Explanation.{IsExplanation}
use Rattle.repository.specs.States.{part_numbers}
use Rattle.desk.specs.Answer.{document_with}
use Rattle.desk.specs.Priors.{priors_with}
use Rattle.desk.proofs.ExplainedLemmas.{of_each}
use Rattle.desk.proofs.SearchLemmas.{as-many-leaves}
use Rattle.session_events.specs.declared.event.Event.TheVariants as event
use Rattle.desk.specs.declared.reply.Reply.TheVariants as reply
use Rattle.desk.specs.declared.reply.Refusal.TheVariants.{NoSuchName, NoSuchRank, NotYet}
use Rattle.desk.specs.Backed.{IsDeskBacked, IsDeskIntact, Keeps, Steps, state_of}
use Rattle.desk.specs.Queries.{AreListed, IsCacheKept, priors_in, query_of}
use Rattle.desk.specs.Step.{step}
use Rattle.desk.specs.Told.{told_early}
use Rattle.desk.proofs.CacheLemmas.{cache-read}
use Rattle.desk.proofs.Cases.{explain-noname}
use Rattle.desk.proofs.Exits.{leaves-failed, of-now, refused-exit, refused-here}
use Rattle.desk.proofs.Found.{backed-of, intact-of, left-explained, none-found, open-of, place-of, seen}
use Rattle.desk.proofs.FormLemmas.{scale-form}
use Rattle.desk.proofs.NamedExits.{all-passed, shown-entries}
use Rattle.desk.proofs.Naming.{named-here}
use Rattle.desk.proofs.ReadingExits.{early-passed, early-refused, explain-exit, no-rank, with_cache}
use Rattle.desk.proofs.IntactLemmas.{intact-from}
use Rattle.desk.proofs.kept.Kept.explain.Goals as goal

pub returns-in_default-clause-steps : goal.returns-in_default-clause-steps
returns-in_default-clause-steps g c = λ backed.
    let told = g.T.Store.files c.args.store.now in
    let view = seen c.self.inside in
    refused-here (event.Explain c.args.name c.args.rank) told view c.args.self.now (NoSuchName c.args.name) c.self.view_is (explain-noname (state_of told view) c.args.name c.args.rank (none-found view c.args.self.now c.args.name c.self.view_is told (sym c.find.ensures ∙ c.in_default.is))) backed

pub returns-in_default-clause-early : goal.returns-in_default-clause-early
returns-in_default-clause-early g c = λ told.
    let view = seen c.self.inside in
    early-refused (event.Explain c.args.name c.args.rank) told view c.args.self.now (NoSuchName c.args.name) c.self.view_is (explain-noname (state_of told view) c.args.name c.args.rank (none-found view c.args.self.now c.args.name c.self.view_is told (sym c.find.ensures ∙ c.in_default.is)))

pub returns-in_default-results-clause-steps : goal.returns-in_default-results-clause-steps
returns-in_default-results-clause-steps g c = λ backed.
    let told = g.T.Store.files c.args.store.now in
    let view = seen c.self.inside in
    refused-here (event.Explain c.args.name c.args.rank) told view c.args.self.now (NotYet c.args.name) c.self.view_is (left-explained view c.args.self.now c.args.name c.in-Some.place c.index.result.now c.self.view_is (sym c.find.ensures ∙ c.in-Some.is) told c.index.ensures c.self.invariant c.requires.usable (is_some c.results.result) (c.results.ensures.some told) (ap is_some c.in_default-results.is) c.args.rank) backed

pub returns-in_default-results-clause-early : goal.returns-in_default-results-clause-early
returns-in_default-results-clause-early g c = λ told.
    let view = seen c.self.inside in
    early-refused (event.Explain c.args.name c.args.rank) told view c.args.self.now (NotYet c.args.name) c.self.view_is (left-explained view c.args.self.now c.args.name c.in-Some.place c.index.result.now c.self.view_is (sym c.find.ensures ∙ c.in-Some.is) told c.index.ensures c.self.invariant c.requires.usable (is_some c.results.result) (c.results.ensures.some told) (ap is_some c.in_default-results.is) c.args.rank)

pub returns-in_default-2-clause-steps : goal.returns-in_default-2-clause-steps
returns-in_default-2-clause-steps g c = λ backed.
    let told = g.T.Store.files c.args.store.now in
    let name = c.args.name in
    let view = seen c.self.inside in
    let q = c.index.result.now in
    let place = place-of view c.args.self.now name c.in-Some.place q c.self.view_is (sym c.find.ensures ∙ c.in-Some.is) in
    let was = open-of view c.args.self.now name c.in-Some.place q c.self.view_is (sym c.find.ensures ∙ c.in-Some.is) c.index.ensures c.self.invariant c.requires.usable in
    let passed = all-passed told view name c.in-Some.place q place c.index.ensures (is_some c.results.result) (c.results.ensures.some told) (ap is_some c.in-Some-results.is) in
    let hits : List Hit = c.in-Some-results.hits.now in
    of-now told view c.args.self.now (λ x. Steps (event.Explain name c.args.rank) told told x x (reply.Refused (NoSuchRank name))) c.self.view_is
    (λ b.
    let query = backed-of view c.args.self.now name c.in-Some.place q c.self.view_is (sym c.find.ensures ∙ c.in-Some.is) told c.index.ensures b in
    let entries = shown-entries told view name c.in-Some.place q place c.index.ensures hits was.distinct query (c.in-Some-results.ensures.answer view.kind (priors_with (priors_in told view.repository.priors)) told query.taken) in
    refused-exit (event.Explain name c.args.rank) told view (NoSuchRank name) (no-rank told view name c.in-Some.place q place c.index.ensures passed hits entries c.args.rank (sym c.in_default-2.is ∙ c.in_ok-hit.ensures)) b)
    backed

pub returns-in_default-2-clause-early : goal.returns-in_default-2-clause-early
returns-in_default-2-clause-early g c = λ told.
    let name = c.args.name in
    let view = seen c.self.inside in
    let q = c.index.result.now in
    let place = place-of view c.args.self.now name c.in-Some.place q c.self.view_is (sym c.find.ensures ∙ c.in-Some.is) in
    let passed = all-passed told view name c.in-Some.place q place c.index.ensures (is_some c.results.result) (c.results.ensures.some told) (ap is_some c.in-Some-results.is) in
    subst (λ (x : Keeps). None ≡ told_early (step (state_of told x) (event.Explain name c.args.rank)).1) c.self.view_is
    (sym (early-passed (state_of told view) name c.args.rank (query_of told q) (named-here told name view.queries c.in-Some.place q place c.index.ensures) passed))

pub explain_hit-requires-clause-hit : goal.explain_hit-requires-clause-hit
explain_hit-requires-clause-hit g c =
    let told = g.T.Store.files c.args.store.now in
    let name = c.args.name in
    let view = seen c.self.inside in
    let q = c.index.result.now in
    let was = open-of view c.args.self.now name c.in-Some.place q c.self.view_is (sym c.find.ensures ∙ c.in-Some.is) c.index.ensures c.self.invariant c.requires.usable in
    let n = length (network_tree q.search.network).leaves in
    let hit = c.in-Some-2.hit in
    let parts : c.parts.result.now ≡ q.search.snapshot = c.parts.ensures.parts ∙ c.snapshot.ensures in
    ∥∥₁_map (c.in-Some-results.ensures.windows told) (λ w.
    let here : IsWindowIn (searched told q.search) n (candidate_of hit) =
    of_each (λ (h : Hit). IsWindowIn (searched told q.search) n (candidate_of h)) c.in-Some-results.hits.now (c.args.rank - 1) hit w.each (sym c.in_ok-hit.ensures ∙ c.in-Some-2.is) in
    subst (λ leaves. IsWindowIn (live told c.parts.result.now) leaves (candidate_of hit)) (as-many-leaves q.search c.checked.result.now was.network c.checked.ensures)
    (subst (λ (ms : List Marked). IsWindowIn (live told ms) n (candidate_of hit)) (sym parts) here))

pub returns-clause-keeps : goal.returns-clause-keeps
returns-clause-keeps g c = record {
  form = scale-form c.checked.result.now c.in_ok-explained.explained.scale c.in_ok-explained.ensures.scale;
  kind = ap (λ (x : Keeps). x.kind) c.self.view_is;
  unchanged = tt;
  usable = search rules;
  undamaged = c.in_ok-explained.ensures.undamaged ∙ ap (λ (x : Keeps). x.cache.damage) c.self.view_is;
  damaged = tt;
}

pub returns-clause-steps : goal.returns-clause-steps
returns-clause-steps g c = λ backed.
    let told = g.T.Store.files c.args.store.now in
    let name = c.args.name in
    let view = seen c.self.inside in
    let after = g.T.Store.files c.explain_hit.new.store in
    let q = c.index.result.now in
    let place = place-of view c.args.self.now name c.in-Some.place q c.self.view_is (sym c.find.ensures ∙ c.in-Some.is) in
    let was = open-of view c.args.self.now name c.in-Some.place q c.self.view_is (sym c.find.ensures ∙ c.in-Some.is) c.index.ensures c.self.invariant c.requires.usable in
    let passed = all-passed told view name c.in-Some.place q place c.index.ensures (is_some c.results.result) (c.results.ensures.some told) (ap is_some c.in-Some-results.is) in
    let hits : List Hit = c.in-Some-results.hits.now in
    let hit = c.in-Some-2.hit in
    let e = c.in_ok-explained.explained in
    let cache = c.explain_hit.new.cache in
    let same : after ≡ told = c.in_ok-explained.ensures.reads.quiet.same_files in
    let parts : c.parts.result.now ≡ q.search.snapshot = c.parts.ensures.parts ∙ c.snapshot.ensures in
    let names : c.deref.result.now ≡ map (λ (x : PriorEntry). x.name) view.repository.priors = c.deref.ensures.value ∙ c.in_ok-names.ensures ∙ ap (map (λ (x : PriorEntry). x.name)) c.priors.ensures.list in
    of-now told view c.args.self.now (λ x. Steps (event.Explain name c.args.rank) told after x (with_cache view cache) (reply.Explained e)) c.self.view_is
    (λ b.
    let query = backed-of view c.args.self.now name c.in-Some.place q c.self.view_is (sym c.find.ensures ∙ c.in-Some.is) told c.index.ensures b in
    let entries = shown-entries told view name c.in-Some.place q place c.index.ensures hits was.distinct query (c.in-Some-results.ensures.answer view.kind (priors_with (priors_in told view.repository.priors)) told query.taken) in
    let found_in = c.in_ok-explained.ensures.exact (subst (λ (ms : List Marked). AreBacked told ms) (sym parts) query.snapshot) b.cache.backed in
    let document = sym (ap (λ (ms : List Marked). document_with hit.docno (live told ms)) parts) ∙ found_in.1 in
    let is = subst (λ (k : Checked). IsExplanation c.deref.result.now (whole_checked k) c.stats.result.now found_in.0 c.args.rank hit e) c.checked.ensures found_in.2 in
    let kept_blocks : IsCacheKept told view.repository cache = cache-read told view.repository c.parts.result.now view.cache cache (subst (λ (ms : List Marked). AreListed view.repository (part_numbers ms)) (sym parts) query.listed) (subst (λ (ms : List Marked). AreBacked told ms) (sym parts) query.snapshot) c.in_ok-explained.ensures.reads.cache b.cache in
    explain-exit told view name c.in-Some.place q place c.index.ensures passed hits entries c.args.rank after cache hit found_in.0 c.deref.result.now c.stats.result.now e same (sym c.in-Some-2.is ∙ c.in_ok-hit.ensures) document names c.stats.ensures is query kept_blocks b)
    backed

pub returns-clause-early : goal.returns-clause-early
returns-clause-early g c = λ told.
    let name = c.args.name in
    let view = seen c.self.inside in
    let q = c.index.result.now in
    let place = place-of view c.args.self.now name c.in-Some.place q c.self.view_is (sym c.find.ensures ∙ c.in-Some.is) in
    let passed = all-passed told view name c.in-Some.place q place c.index.ensures (is_some c.results.result) (c.results.ensures.some told) (ap is_some c.in-Some-results.is) in
    subst (λ (x : Keeps). None ≡ told_early (step (state_of told x) (event.Explain name c.args.rank)).1) c.self.view_is
    (sym (early-passed (state_of told view) name c.args.rank (query_of told q) (named-here told name view.queries c.in-Some.place q place c.index.ensures) passed))

pub returns-in_err-explained-clause-honest : goal.returns-in_err-explained-clause-honest
returns-in_err-explained-clause-honest g c = λ backed intact.
    let told = g.T.Store.files c.args.store.now in
    let name = c.args.name in
    let view = seen c.self.inside in
    let q = c.index.result.now in
    let b : IsDeskBacked told view = subst (IsDeskBacked told) (sym c.self.view_is) backed in
    let i : IsDeskIntact told view = subst (IsDeskIntact told) (sym c.self.view_is) intact in
    let query = intact-of view c.args.self.now name c.in-Some.place q c.self.view_is (sym c.find.ensures ∙ c.in-Some.is) told c.index.ensures i in
    let parts : c.parts.result.now ≡ q.search.snapshot = c.parts.ensures.parts ∙ c.snapshot.ensures in
    let p = err_from_is_err_and c.from_residual-in_err-explained.result c.from_residual-in_err-explained.ensures.1 in
    rw (p.1, p.2) (c.in_err-explained.ensures.honest (subst (λ (ms : List Marked). AreIntact told ms) (sym parts) query) b.cache.backed)

pub returns-in_err-explained-clause-keeps : goal.returns-in_err-explained-clause-keeps
returns-in_err-explained-clause-keeps g c =
    let p = err_from_is_err_and c.from_residual-in_err-explained.result c.from_residual-in_err-explained.ensures.1 in
    rw (p.1, p.2) (leaves-failed _ (seen c.self.inside) c.args.self.now _ c.self.view_is refl c.in_err-explained.ensures.damaged)

pub returns-clause-intact : goal.returns-clause-intact
returns-clause-intact g c = λ told whole.
    let view = seen c.self.inside in
    intact-from told told view c.args.self.now (with_cache view c.explain_hit.new.cache) c.self.view_is (λ w. record { parts = w.parts; queries = w.queries; merge = w.merge }) whole
