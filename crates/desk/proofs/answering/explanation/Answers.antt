use Rattle.std.proofs.Common.{◌≡◌, ◌-◌, List, length, ap, subst, sym, ◌∙◌, arith}
use Rattle.std.proofs.Math.Logic.{∥∥₁_map}
use Rattle.ri_base.specs.declared.hit.Hit.{Hit}
use Rattle.query_check.specs.Answers.{whole_checked}
use Rattle.query_check.specs.declared.checked.Checked.{Checked}
use Rattle.disk_index.specs.Snapshots.{AreBacked, Marked, live}
use Rattle.belief_nodes.specs.Network.{network_tree}
use Rattle.ranker.specs.Ranking.{candidate_of}
use Rattle.ranker.specs.Searches.{searched}
use Rattle.ranker.specs.Windows.{IsWindowIn}
use Rattle.result_explanation.specs.Explanation.{IsExplanation}
use Rattle.desk.specs.Answer.{document_with}
use Rattle.desk.proofs.ExplainedLemmas.{hit-explained, none-shown, of_each}
use Rattle.desk.proofs.SearchLemmas.{as-many-leaves, search-answer}
use Rattle.desk.proofs.answering.explanation.Goals as goal

pub returns-in_default-clause-exact : goal.returns-in_default-clause-exact
returns-in_default-clause-exact g c = λ kind priors backed cached taken summed.
    let told = g.T.Store.files c.args.store.now in
    let s = c.args.search.now in
    let docs = searched told s in
    let hits = c.results_of.result.now in
    none-shown kind priors c.args.names.now c.args.rank s.most (whole_checked s.checked) docs hits c.requires.rank c.requires.most
    (search-answer kind priors s docs hits c.requires.network summed (c.results_of.ensures.answer kind priors told taken)) (sym c.in_ok-hit.ensures ∙ c.in_default.is)

pub returns-clause-exact : goal.returns-clause-exact
returns-clause-exact g c = λ kind priors backed cached taken summed.
    let told = g.T.Store.files c.args.store.now in
    let s = c.args.search.now in
    let docs = searched told s in
    let hits = c.results_of.result.now in
    let names = c.args.names.now in
    let hit = c.in-Some.hit in
    let e = c.in_ok-explained.explained in
    let parts : c.parts-parts.result.now ≡ s.snapshot = c.parts-parts.ensures.parts ∙ c.snapshot.ensures in
    let found = c.in_ok-explained.ensures.exact (subst (λ (ms : List Marked). AreBacked told ms) (sym parts) backed) cached in
    hit-explained kind priors names c.args.rank s.most (whole_checked s.checked) docs hits c.requires.rank c.requires.most
    (search-answer kind priors s docs hits c.requires.network summed (c.results_of.ensures.answer kind priors told taken))
    hit found.0 e c.stats.result.now c.into_vec.result.items (sym c.in_ok-hit.ensures ∙ c.in-Some.is)
    (sym (ap (λ (ms : List Marked). document_with hit.docno (live told ms)) parts) ∙ found.1)
    (subst (λ (k : Checked). IsExplanation names (whole_checked k) c.stats.result.now found.0 c.args.rank hit e) c.checked.ensures found.2)
    (c.stats.ensures ∙ summed) (c.into_vec.ensures ∙ c.in_ok-text.ensures)

pub explain_hit-requires-clause-hit : goal.explain_hit-requires-clause-hit
explain_hit-requires-clause-hit g c =
    let told = g.T.Store.files c.args.store.now in
    let s = c.args.search.now in
    let n = length (network_tree s.network).leaves in
    let hit = c.in-Some.hit in
    let parts : c.parts-parts.result.now ≡ s.snapshot = c.parts-parts.ensures.parts ∙ c.snapshot.ensures in
    ∥∥₁_map (c.results_of.ensures.windows told) (λ w.
    let here : IsWindowIn (searched told s) n (candidate_of hit) =
    of_each (λ (h : Hit). IsWindowIn (searched told s) n (candidate_of h)) c.results_of.result.now (c.args.rank - 1) hit w.each (sym c.in_ok-hit.ensures ∙ c.in-Some.is) in
    subst (λ leaves. IsWindowIn (live told c.parts-parts.result.now) leaves (candidate_of hit)) (as-many-leaves s c.checked.result.now c.requires.network c.checked.ensures)
    (subst (λ (ms : List Marked). IsWindowIn (live told ms) n (candidate_of hit)) (sym parts) here))

pub explain_lines-requires : goal.explain_lines-requires
explain_lines-requires g c =
    let kept = c.checked.result.now.kept in
    record { some = omega (arith, kept.positive, c.in_ok-explained.ensures.scale); small = omega (arith, kept.small, c.in_ok-explained.ensures.scale) }
