use Rattle.std.proofs.Common.{◌≡◌, ◌≤◌, List, Option, map, option_map, ap, subst, sym, ◌∙◌, arith}
use Rattle.std.proofs.lemmas.Result.{IfOk-weaker, err_from_is_err_and}
use Rattle.store_ends.specs.Files.{Files}
use Rattle.query_check.specs.Answers.{whole_checked}
use Rattle.query_check.specs.Leaves.{leaf_tree}
use Rattle.query_check.specs.declared.leaf_kind.LeafKind.{LeafKind}
use Rattle.document_scoring.specs.Counts.{stats_of}
use Rattle.belief_nodes.specs.Priors.{Prior}
use Rattle.disk_index.specs.QuietLaws.{IsQuiet-then}
use Rattle.disk_index.specs.Snapshots.{AreBacked, AreIntact, Marked, live}
use Rattle.disk_index.proofs.AmongLemmas.{AreIntact-backed}
use Rattle.counts.proofs.ReadingLemmas.{cache-among, rose-earlier}
use Rattle.ranker.specs.Searches.{IsTaken, searched}
use Rattle.desk.specs.Answer.{IsAnswerText}
use Rattle.desk.specs.Shown.{told_shown}
use Rattle.desk.proofs.AnswerLemmas.{answer-moved, empty-sums}
use Rattle.desk.proofs.SearchLemmas.{summed-by}
use Rattle.desk.proofs.answering.answer.Goals as goal

pub returns-in_err-search-clause-honest : goal.returns-in_err-search-clause-honest
returns-in_err-search-clause-honest g c = λ intact kept.
    let told = g.T.Store.files c.args.store.now in
    let first = c.in_ok-stats.ensures.reads in
    let cached = cache-among _ _ _ _ _ _ _ c.args.snapshot _ _ _ _ first (AreIntact-backed told c.args.snapshot intact) kept in
    let p = err_from_is_err_and c.from_residual-in_err-search.result c.from_residual-in_err-search.ensures.1 in
    rw (p.1, p.2) (c.in_err-search.ensures.honest (subst (λ (f : Option Files). AreIntact f c.args.snapshot) (sym first.quiet.same_files) intact) cached)

pub returns-clause-honest : goal.returns-clause-honest
returns-clause-honest g c = λ intact kept.
    let told = g.T.Store.files c.args.store.now in
    let here = g.T.Store.files c.search_all.new.store in
    let first = c.in_ok-stats.ensures.reads in
    let second = c.in_ok-search.ensures.reads in
    let same : here ≡ told = second.quiet.same_files ∙ first.quiet.same_files in
    let backed = AreIntact-backed told c.args.snapshot intact in
    let now = subst (λ (f : Option Files). AreBacked f c.args.snapshot) (sym first.quiet.same_files) backed in
    let cached = cache-among _ _ _ _ _ _ _ c.args.snapshot _ _ _ _ second now (cache-among _ _ _ _ _ _ _ c.args.snapshot _ _ _ _ first backed kept) in
    let parts = subst (λ (ms : List Marked). AreIntact told ms) (sym c.in_ok-search.ensures.searched.snapshot) intact in
    c.show.ensures.honest (subst (λ (f : Option Files). AreIntact f c.in_ok-search.search.snapshot) (sym same) parts) cached

pub returns-clause-store : goal.returns-clause-store
returns-clause-store g c = λ failed.
    let first : g.T.Store.faults c.args.store.now ≤ g.T.Store.faults c.search_all.new.store = omega (arith, c.in_ok-stats.ensures.reads.later, c.in_ok-search.ensures.reads.later) in
    rose-earlier _ _ _ first (c.show.ensures.store failed)

pub returns-clause-exact : goal.returns-clause-exact
returns-clause-exact g c = λ backed kept.
    let told = g.T.Store.files c.args.store.now in
    let here = g.T.Store.files c.search_all.new.store in
    let parts = c.args.snapshot in
    let q = whole_checked c.args.checked in
    let s = c.in_ok-search.search in
    let has = c.in_ok-search.ensures.searched in
    let names = c.args.names.now in
    let shown = told_shown c.args.shown.now in
    let priors : List Prior = map (λ b. (goal.BeliefNode-dyn g (b.vtable, b.value)).meaning b.value) c.args.plugs.now in
    let first = c.in_ok-stats.ensures.reads in
    let second = c.in_ok-search.ensures.reads in
    let same : here ≡ told = second.quiet.same_files ∙ first.quiet.same_files in
    let now = subst (λ (f : Option Files). AreBacked f parts) (sym first.quiet.same_files) backed in
    let cached = cache-among _ _ _ _ _ _ _ parts _ _ _ _ first backed kept in
    let later = cache-among _ _ _ _ _ _ _ parts _ _ _ _ second now cached in
    let then = subst (λ (f : Option Files). AreBacked f s.snapshot) (sym same) (subst (λ (ms : List Marked). AreBacked told ms) (sym has.snapshot) backed) in
    let taken = subst (λ (f : Option Files). IsTaken c.args.kind priors f s) (sym second.quiet.same_files) (c.in_ok-search.ensures.taken now cached) in
    let counted = c.in_ok-stats.ensures.exact backed kept (empty-sums (live told parts) c.args.generation c.in_ok-counts.counts c.in_ok-counts.ensures) in
    let summed = summed-by parts q c.deref-2.result.now c.wanted-most.result s told here has same (c.deref-2.ensures.value ∙ counted ∙ ap (λ (ls : List LeafKind). map (stats_of (live told parts)) (map leaf_tree ls)) c.deref.ensures.value) in
    IfOk-weaker c.show.result (λ text. IsAnswerText c.args.kind priors names shown (whole_checked s.checked) (searched here s) (option_map (λ t. t.items) text))
    (λ text. IsAnswerText c.args.kind priors names shown q (live told parts) (option_map (λ t. t.items) text))
    (λ text is. answer-moved c.args.kind priors names shown parts q c.deref-2.result.now c.wanted-most.result s told here _ has same is)
    (c.show.ensures.exact c.args.kind priors then later taken summed)

pub returns-clause-quiet : goal.returns-clause-quiet
returns-clause-quiet g c =
    let files = g.T.Store.files in
    let faults = g.T.Store.faults in
    IsQuiet-then files g.T.Store.layers g.T.Store.clock g.T.Store.since g.T.Store.longest g.T.Store.held faults _ _ _
    (IsQuiet-then files g.T.Store.layers g.T.Store.clock g.T.Store.since g.T.Store.longest g.T.Store.held faults _ _ _ c.in_ok-stats.ensures.reads.quiet c.in_ok-search.ensures.reads.quiet) c.show.ensures.reads.quiet
