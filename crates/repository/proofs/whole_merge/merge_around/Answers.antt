use Rattle.std.proofs.Common.{◌≡◌, ◌∙◌, ap, false, rules, sym, true}
use Rattle.store_ends.specs.Files.{IsQuiet}
use Rattle.disk_index.specs.Cache.{IsCacheBacked}
use Rattle.holdings.specs.Parts.{is_live, without}
use Rattle.repository.specs.Merges.{after_turn}
use Rattle.repository.specs.States.{ReadsAs}
use Rattle.repository.specs.Steps.{without_docno}
use Rattle.repository.proofs.WholeLemmas.{after-live, around-done, around-live, begun-some, ok-live, ok-on, open-done, some-below, some-cache}
use Rattle.repository.proofs.whole_merge.merge_around.Goals as goal

pub returns-clause-live : goal.returns-clause-live
returns-clause-live g c = λ _ d backed cached read.
    let a = g.T.Store.files c.args.store.now in
    let b = g.T.Store.files c.merge_turn.new.store in
    let first = c.in_ok-merge_turn.ensures in
    let quiet : IsQuiet g.T.Store.files g.T.Store.layers g.T.Store.clock g.T.Store.since g.T.Store.longest g.T.Store.held c.args.store.now c.merge_turn.new.store =
    some-below c.begin_merge.new.self.merge c.args.docs c.in_ok-merge_turn.field-0 (begun-some c.args.repository.now c.begin_merge.new.self c.in-Ok.ensures.begun) first.turned (λ e. open-done c.in_default-2.field-0 c.in_default-2.field-1 (sym c.in_default-2.is ∙ e)) c.merge_turn.ensures.quiet in
    let over = first.over (c.in-Ok.ensures.merging a backed) cached in
    let kept : IsCacheBacked b c.merge_turn.new.cache =
    some-cache a b c.begin_merge.new.self c.begin_merge.new.self.merge c.args.cache.now c.merge_turn.new.cache (begun-some c.args.repository.now c.begin_merge.new.self c.in-Ok.ensures.begun) quiet.same_files (c.in-Ok.ensures.merging a backed) c.merge_turn.ensures.cache cached in
    let deleted : ReadsAs b c.delete.new.self (without_docno (after_turn c.in_ok-merge_turn.field-0 c.begin_merge.new.self.merge d) c.args.docno.now) =
    ok-on c.delete.result _ c.if-is_err.ensures.negation c.delete.ensures.reads b _ (over.reads d (c.begin_merge.ensures.reads a d read)) in
    let last = (c.in_ok-merge_turn-2.ensures.over (c.delete.ensures.merging b over.merging) kept).reads _ deleted in
    last.live_are ∙ after-live c.in_ok-merge_turn-2.field-0 c.delete.new.self.merge _ ∙ ap (without c.args.docno.now) (after-live c.in_ok-merge_turn.field-0 c.begin_merge.new.self.merge d)

pub returns-in-Done-clause-answer : goal.returns-in-Done-clause-answer
returns-in-Done-clause-answer g c =
    around-done c.args.repository.now c.begin_merge.new.self c.args.docs c.in_ok-merge_turn.field-0 c.in-Ok.ensures.begun c.in_ok-merge_turn.ensures.turned _ c.in-Done.is

pub returns-then-is_err-clause-answer : goal.returns-then-is_err-clause-answer
returns-then-is_err-clause-answer g c =
    let first = c.in_ok-merge_turn.ensures in
    let absent : is_live c.merge_turn.new.self.held.parts c.args.docno.now ≡ false = search rules in
    around-live c.args.repository.now c.begin_merge.new.self c.args.docs c.in_ok-merge_turn.field-0 c.in-Ok.ensures.begun first.turned c.merge_turn.new.self first.state
    (λ e. open-done c.in_default-2.field-0 c.in_default-2.field-1 (sym c.in_default-2.is ∙ e)) c.args.docno.now false absent

pub returns-clause-answer : goal.returns-clause-answer
returns-clause-answer g c =
    let first = c.in_ok-merge_turn.ensures in
    around-live c.args.repository.now c.begin_merge.new.self c.args.docs c.in_ok-merge_turn.field-0 c.in-Ok.ensures.begun first.turned c.merge_turn.new.self first.state
    (λ e. open-done c.in_default-2.field-0 c.in_default-2.field-1 (sym c.in_default-2.is ∙ e)) c.args.docno.now true
    (ok-live c.delete.result _ c.if-is_err.ensures.negation c.delete.ensures.refused.1)
