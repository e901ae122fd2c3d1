use Rattle.std.proofs.Common.{◌≡◌, ℕ, List, inl, inr, length, map, ap, refl, subst, sym, ◌∙◌}
use Rattle.std.specs.List.{All}
use Rattle.std.proofs.lemmas.List.{length-map}
use Rattle.std.proofs.lemmas.List.Elements.{All-weaker}
use Rattle.ri_base.specs.Collection.{document_at}
use Rattle.ri_base.specs.Documents.{AreFields, Document}
use Rattle.ri_base.specs.Query.{filter_tree}
use Rattle.query_check.specs.Leaves.{leaf_tree}
use Rattle.belief_nodes.specs.Network.{network_tree}
use Rattle.document_scoring.specs.Counters.{found_count}
use Rattle.document_scoring.specs.Told.{AreFiltersTold, IsLeafTold}
use Rattle.document_scoring.proofs.ScoringLemmas.{adds_document, counted_is, no_rows, not_passed, rows_of_windows}
use Rattle.document_scoring.proofs.ToldLemmas.{IsLeafTold-weaker}
use Rattle.document_scoring.proofs.scoring.score_document.Goals as goal

pub returns-then-not-branch-clause-exact : goal.returns-then-not-branch-clause-exact
returns-then-not-branch-clause-exact g c = λ sound.
    not_passed c.args.rule.now.kind (map (λ b. (goal.BeliefNode-dyn g (b.vtable, b.value)).meaning b.value) c.args.plugs.now) (map filter_tree c.args.filters.now) (network_tree c.args.network.now) (document_at (g.P.Postings.documents c.args.part.now) c.args.id)
    c.in_ok-all_pass.field-0 c.args.rows.now.items (c.in_ok-all_pass.ensures.exact sound) c.if-not-branch.true

pub returns-clause-exact : goal.returns-clause-exact
returns-clause-exact g c = λ sound.
    let docs = g.P.Postings.documents c.args.part.now in
    let read = g.P.Postings.documents c.all_pass.new.part in
    let last = g.P.Postings.documents c.all_found.new.part in
    let id = c.args.id in
    let pass = c.in_ok-all_pass.ensures.keeps in
    let keeps = c.in_ok-found.ensures.keeps in
    let later = keeps.documents_stay ∙ pass.documents_stay in
    let priors = map (λ b. (goal.BeliefNode-dyn g (b.vtable, b.value)).meaning b.value) c.args.plugs.now in
    let network = network_tree c.args.network.now in
    adds_document c.args.rule.now.kind priors (map filter_tree c.args.filters.now) network (document_at docs id) c.docno.result.now c.length.result c.spans.result.now (λ w. map (found_count c.spans.result.now w) c.deref.result.now) c.args.rows.now.items c.score_found.new.rows.items
    (sym (c.in_ok-all_pass.ensures.exact sound) ∙ c.if-not-branch.false)
    (c.docno.ensures ∙ ap (λ (ds : List Document). (document_at ds id).docno) later)
    (c.length.ensures.exact ∙ ap (λ (ds : List Document). length (document_at ds id).tokens) later)
    (c.spans.ensures.exact ∙ ap (λ (ds : List Document). (document_at ds id).fields) later)
    (λ w. counted_is docs read last id w c.spans.result.now c.deref.result.now c.in_ok-found.found.items network.leaves (map leaf_tree c.leaves.result.now) pass.documents_stay later c.spans.ensures.exact c.deref.ensures.value
    (c.in_ok-found.ensures.exact (pass.sound_stays sound) w) c.leaves.ensures)
    c.in_ok-score_found.ensures.adds

-- ---- also of a part that isn't sound

pub returns-then-not-branch-clause-shape : goal.returns-then-not-branch-clause-shape
returns-then-not-branch-clause-shape g c = no_rows (document_at (g.P.Postings.documents c.args.part.now) c.args.id) (length (network_tree c.args.network.now).leaves) c.args.rows.now.items

pub returns-clause-shape : goal.returns-clause-shape
returns-clause-shape g c =
    let docs = g.P.Postings.documents c.args.part.now in
    let read = g.P.Postings.documents c.all_pass.new.part in
    let id = c.args.id in
    let later = c.in_ok-found.ensures.keeps.documents_stay ∙ c.in_ok-all_pass.ensures.keeps.documents_stay in
    let spans = c.spans.result.now in
    let leaves : length (network_tree c.args.network.now).leaves ≡ length c.leaves.result.now = ap length (sym c.leaves.ensures) ∙ length-map c.leaves.result.now leaf_tree in
    let found : length c.deref.result.now ≡ length (network_tree c.args.network.now).leaves = ap length c.deref.ensures.value ∙ c.in_ok-found.ensures.each ∙ sym leaves in
    rows_of_windows c.args.rule.now.kind (map (λ b. (goal.BeliefNode-dyn g (b.vtable, b.value)).meaning b.value) c.args.plugs.now) (network_tree c.args.network.now) (document_at docs id)
    c.docno.result.now c.length.result spans (λ w. map (found_count spans w) c.deref.result.now) c.args.rows.now.items c.score_found.new.rows.items
    (c.docno.ensures ∙ ap (λ (ds : List Document). (document_at ds id).docno) later)
    (c.length.ensures.exact ∙ ap (λ (ds : List Document). length (document_at ds id).tokens) later)
    (subst (λ n. AreFields n spans) (sym c.length.ensures.exact) c.spans.ensures.form.sound)
    c.requires.range
    c.args.network.now.kept.each
    (λ w. length-map c.deref.result.now (found_count spans w) ∙ found)
    c.in_ok-score_found.ensures.adds

-- ---- of which terms places were told

pub returns-then-not-branch-clause-told : goal.returns-then-not-branch-clause-told
returns-then-not-branch-clause-told g c =
    inr (subst (AreFiltersTold (λ t. g.P.Postings.told c.args.part.now t c.args.id) (map filter_tree c.args.filters.now)) c.if-not-branch.true c.in_ok-all_pass.ensures.told, refl)

pub returns-clause-told : goal.returns-clause-told
returns-clause-told g c =
    let IsTold = λ (t : List ℕ). g.P.Postings.told c.args.part.now t c.args.id in
    let before = λ (t : List ℕ). g.met.P.Postings.told_before c.args.part.now c.all_pass.new.part t c.args.id c.in_ok-all_pass.ensures.keeps.stays_quiet in
    let filters = subst (AreFiltersTold IsTold (map filter_tree c.args.filters.now)) c.if-not-branch.false c.in_ok-all_pass.ensures.told in
    let leaves = All-weaker _ (IsLeafTold IsTold) (λ l. IsLeafTold-weaker _ IsTold before l) (map leaf_tree c.leaves.result.now) c.in_ok-found.ensures.told in
    inl (filters, subst (All (IsLeafTold IsTold)) c.leaves.ensures leaves)
