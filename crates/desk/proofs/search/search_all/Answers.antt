use Rattle.std.proofs.Common.{◌≡◌, [], List, Option, length, map, ap, refl, sym, ◌∙◌, subst}
use Rattle.std.specs.List.{All}
use Rattle.std.proofs.lemmas.Result.{err_from_is_err_and}
use Rattle.store_ends.specs.Files.{Files}
use Rattle.smoothing.specs.declared.rule.RuleKind.{RuleKind}
use Rattle.query_check.specs.Answers.{whole_checked}
use Rattle.belief_nodes.specs.Leaves.{HasPrior}
use Rattle.belief_nodes.specs.Network.{NetworkTree}
use Rattle.belief_nodes.specs.Priors.{Prior}
use Rattle.disk_index.specs.Snapshots.{AreBacked, AreIntact, Marked}
use Rattle.disk_index.proofs.AmongLemmas.{AreIntact-backed}
use Rattle.counts.proofs.ReadingLemmas.{cache-among, reads-then}
use Rattle.ranker.specs.Searches.{IsTaken, told_by}
use Rattle.desk.proofs.AnswerLemmas.{nine_priors}
use Rattle.desk.proofs.SearchLemmas.{has-searched}
use Rattle.desk.proofs.search.search_all.Goals as goal

pub step-requires-clause-plugs : goal.step-requires-clause-plugs
step-requires-clause-plugs g c =
    let checked = c.args.checked in
    let nine : All (HasPrior (length c.args.plugs.now)) (whole_checked checked).leaves =
    subst (λ n. All (HasPrior n) (whole_checked checked).leaves) (sym c.requires.nine) (nine_priors (whole_checked checked).leaves checked.kept.within.sound_leaves) in
    subst (λ (n : NetworkTree). All (HasPrior (length c.args.plugs.now)) n.leaves) (sym c.in_ok-search.ensures.network) nine

pub returns-clause-searched : goal.returns-clause-searched
returns-clause-searched g c =
    let s = c.in_ok-search.search in
    let made = c.in_ok-search.ensures in
    has-searched c.args.snapshot (whole_checked c.args.checked) c.args.stats.now c.args.most _ s c.step.new.self made.snapshot (ap whole_checked made.checked) made.network made.most made.credit
    (λ told. c.from-live.ensures ∙ c.live_count.ensures told) c.in_ok-step.ensures.credit c.step.ensures.same c.in_ok-step.ensures.usable

pub returns-clause-taken : goal.returns-clause-taken
returns-clause-taken g c = λ backed cached.
    let told = g.T.Store.files c.args.store.now in
    let here = g.T.Store.files c.new_search.new.store in
    let priors : List Prior = map (λ b. (goal.BeliefNode-dyn g (b.vtable, b.value)).meaning b.value) c.args.plugs.now in
    let made = c.in_ok-search.ensures in
    let same : here ≡ told = made.reads.quiet.same_files in
    let kind : c.new-rule.result.kind ≡ c.args.kind = rw c.new-rule.ensures refl in
    let parts = subst (λ (f : Option Files). AreBacked f c.in_ok-search.search.snapshot) (sym same) (subst (λ (ms : List Marked). AreBacked told ms) (sym made.snapshot) backed) in
    let begun = subst (λ (f : Option Files). IsTaken c.new-rule.result.kind priors f c.in_ok-search.search) (sym same) (made.taken backed cached c.new-rule.result.kind priors) in
    subst (λ (f : Option Files). IsTaken c.args.kind priors f c.step.new.self) same
    (subst (λ (k : RuleKind). IsTaken k priors here c.step.new.self) kind
    (c.in_ok-step.ensures.taken parts (cache-among _ _ _ _ _ _ _ c.args.snapshot _ _ _ _ made.reads backed cached) begun))

pub returns-clause-reads : goal.returns-clause-reads
returns-clause-reads g c =
    let made = c.in_ok-search.ensures in
    reads-then _ _ _ _ _ _ _ _ _ _ c.step.new.store _ _ c.step.new.cache made.reads (record { quiet = c.step.ensures.quiet; later = c.step.ensures.later; cache = rw made.snapshot at c.step.ensures.cache })

pub returns-in_err-step-clause-reads : goal.returns-in_err-step-clause-reads
returns-in_err-step-clause-reads g c =
    let made = c.in_ok-search.ensures in
    reads-then _ _ _ _ _ _ _ _ _ _ c.step.new.store _ _ c.step.new.cache made.reads (record { quiet = c.step.ensures.quiet; later = c.step.ensures.later; cache = rw made.snapshot at c.step.ensures.cache })

pub returns-in_err-step-clause-honest : goal.returns-in_err-step-clause-honest
returns-in_err-step-clause-honest g c = λ intact cached.
    let told = g.T.Store.files c.args.store.now in
    let made = c.in_ok-search.ensures in
    let backed = AreIntact-backed told c.args.snapshot intact in
    let parts = subst (λ (f : Option Files). AreIntact f c.in_ok-search.search.snapshot) (sym made.reads.quiet.same_files) (subst (λ (ms : List Marked). AreIntact told ms) (sym made.snapshot) intact) in
    let p = err_from_is_err_and c.from_residual-in_err-step.result c.from_residual-in_err-step.ensures.1 in
    let blocks = subst (λ (f : Option Files). told_by f c.in_ok-search.search) (sym made.reads.quiet.same_files) (made.taken backed cached c.args.kind []).blocks in
    rw (p.1, p.2) (c.in_err-step.ensures.honest parts (cache-among _ _ _ _ _ _ _ c.args.snapshot _ _ _ _ made.reads backed cached) blocks)
