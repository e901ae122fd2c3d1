use Rattle.std.proofs.Common.{◌≡◌, ◌≤◌, Some, length, sym, ◌∙◌, arith}
use Rattle.std.proofs.Math.Logic.{∥∥₁_elim}
use Rattle.std.proofs.Math.Nat.{ℕ_set}
use Rattle.std.proofs.lemmas.List.{length-map}
use Rattle.std.proofs.lemmas.Result.{IfOk-weaker}
use Rattle.ri_base.specs.Documents.{Document}
use Rattle.ri_base.specs.Ratio.{ratio_of}
use Rattle.query_check.specs.Answers.{whole_checked}
use Rattle.disk_index.specs.Snapshots.{live}
use Rattle.result_explanation.specs.Explanation.{IsExplanation}
use Rattle.desk.specs.Answer.{document_with}
use Rattle.desk.specs.Places.{document_in}
use Rattle.desk.proofs.PlaceLemmas.{none-missed}
use Rattle.desk.proofs.explained.explain_hit.Goals as goal

pub returns-clause-exact : goal.returns-clause-exact
returns-clause-exact g c = λ backed cached.
    let told = g.T.Store.files c.args.store.now in
    let d = document_in told c.args.parts.now c.in-Some.place in
    let q = whole_checked c.args.checked.now in
    IfOk-weaker c.explain_at.result (IsExplanation c.args.names.now q c.args.stats.now d c.args.rank c.args.hit)
    (λ explained. (e : Document) × (document_with c.args.hit.docno (live told c.args.parts.now) ≡ Some e) × IsExplanation c.args.names.now q c.args.stats.now e c.args.rank c.args.hit explained)
    (λ explained is. (d, c.in-Some.ensures.document told, is)) (c.explain_at.ensures.exact backed cached)

pub explain_at-requires-clause-window : goal.explain_at-requires-clause-window
explain_at-requires-clause-window g c =
    let no : c.args.hit.end ≤ c.args.hit.begin → ⊥ = λ none. ∥∥₁_elim c.requires.hit (λ x y. absurd x) (λ w. let some = w.2.some in omega (arith, some, none)) in
    grind (arith, no)

pub explain_at-requires-clause-beliefs : goal.explain_at-requires-clause-beliefs
explain_at-requires-clause-beliefs g c =
    ∥∥₁_elim c.requires.hit (ℕ_set (length c.args.hit.fractions) (length c.args.checked.now.leaves.items)) (λ w. sym (length-map c.args.hit.fractions ratio_of) ∙ w.2.each)

-- its document is there
pub unreachable-requires : goal.unreachable-requires
unreachable-requires g c =
    let told = g.T.Store.files c.args.store.now in
    ∥∥₁_elim c.requires.hit (λ x y. absurd x)
    (λ w. none-missed c.args.hit.docno (live told c.args.parts.now) w.1.0 w.0 w.1.1 w.1.2 w.2.docno_is (c.in-None.ensures.document told))
