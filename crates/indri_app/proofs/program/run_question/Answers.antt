use Rattle.std.proofs.Common.{refl, subst, arith}
use Rattle.repository.specs.Names.{manifest_name}
use Rattle.desk.specs.Shown.{told_shown}
use Rattle.indri_app.specs.Opened.{IsOpenFault}
use Rattle.indri_app.specs.Runs.{IsReplyStatus}
use Rattle.indri_app.specs.Asked.{IsBrokenOver}
use Rattle.indri_app.specs.declared.status.Status.TheVariants as status
use Rattle.indri_app.proofs.AskedRuns.{asked-blocks, asked-in_order, asked-needs, asked-not_making, asked-not_scan, asked-runs, asked-tells, damage-over, file-runs, intact-of, over-absent, refused-runs, some-of, tells-not}
use Rattle.indri_app.proofs.Closing.{stops-none}
use Rattle.indri_app.proofs.Ended.{absent-closed, absent-closed-status, absent-line-closed, damage-closed, damage-not_want, done-not_closed-any, exists-closed, exists-line-closed, malformed-closed, read-closed, store-closed, usage-not_closed, write-closed}
use Rattle.indri_app.proofs.program.run_question.Goals as goal

-- it is answered

pub returns-in-Ok-clause-has_run : goal.returns-in-Ok-clause-has_run
returns-in-Ok-clause-has_run g c = λ asks left by'.
    let did = c.in-Ok.ensures in
    let text = c.args.text.now in
    let shown = told_shown c.args.shown.now in
    let mu = c.args.mu in
    let same = c.ask.ensures.quiet.same_files in
    let only = c.write_reply.ensures.only in
    record {
      runs = λ k stands. asked-runs _ _ asks k left _ _ _ _ text mu shown c.in-Ok.reply _ by' same stands (did.asked k stands) c.write_reply.ensures.written;
      stops = λ k stands. stops-none _ asks k left _ _ c.ask.ensures.quiet.no_more;
      order = λ k stands all. asked-in_order asks k left text mu shown by';
      made = λ makes f told none. absurd (asked-not_making asks text mu shown by' makes);
      made_stops = λ makes f told none. absurd (asked-not_making asks text mu shown by' makes);
      made_order = λ makes f told none all. absurd (asked-not_making asks text mu shown by' makes);
      scans = λ other is. absurd (asked-not_scan asks text mu shown other by' is);
      sound = λ is k stands whole. subst IsReplyStatus is only;
      there = λ f told is. absurd (subst IsReplyStatus is only);
      damage = λ is. absurd (subst IsReplyStatus is only);
      intact = λ f told has needs. intact-of _ (did.intact f told);
      intact_priors = λ f told has reads. did.intact f told;
      absent = λ f told is. absurd (subst IsReplyStatus is only);
      without = λ f told none needs. absurd (did.manifest f told none);
      absent_line_is = λ is. absurd (subst IsReplyStatus is only);
      exists = λ f told makes there. absurd (asked-not_making asks text mu shown by' makes);
      exists_there = λ f told is. absurd (subst IsReplyStatus is only);
      exists_line_is = λ is. absurd (subst IsReplyStatus is only);
      command = λ is. subst IsReplyStatus is only;
    }

pub returns-in-Ok-clause-no_read : goal.returns-in-Ok-clause-no_read
returns-in-Ok-clause-no_read g c = λ is. subst IsReplyStatus is c.write_reply.ensures.only

pub returns-in-Ok-clause-store : goal.returns-in-Ok-clause-store
returns-in-Ok-clause-store g c = λ is. absurd (subst IsReplyStatus is c.write_reply.ensures.only)

-- its text is refused

pub returns-in-Err-Refused-clause-has_run : goal.returns-in-Err-Refused-clause-has_run
returns-in-Err-Refused-clause-has_run g c = λ asks left by'.
    let did = rw c.in-Err-Refused.field-0-is at c.in-Err-Refused.ensures in
    let text = c.args.text.now in
    let shown = told_shown c.args.shown.now in
    let mu = c.args.mu in
    let same = c.ask.ensures.quiet.same_files in
    let tells = c.tell_refusal.ensures.tells in
    record {
      runs = λ k stands. refused-runs _ _ asks k left _ _ _ _ text mu shown c.in-Err-Refused.refusal _ by' same stands (did.refused k stands) tells;
      stops = λ k stands. stops-none _ asks k left _ _ c.ask.ensures.quiet.no_more;
      order = λ k stands all. asked-in_order asks k left text mu shown by';
      made = λ makes f told none. absurd (asked-not_making asks text mu shown by' makes);
      made_stops = λ makes f told none. absurd (asked-not_making asks text mu shown by' makes);
      made_order = λ makes f told none all. absurd (asked-not_making asks text mu shown by' makes);
      scans = λ other is. absurd (asked-not_scan asks text mu shown other by' is);
      sound = λ is k stands whole. tells-not _ _ status.Malformed _ _ tells is (λ e. cc) (λ e. cc) (λ e. cc);
      there = λ f told is. absurd (tells-not _ _ status.Malformed _ _ tells is (λ e. cc) (λ e. cc) (λ e. cc));
      damage = λ is. absurd (tells-not _ _ status.Malformed _ _ tells is (λ e. cc) (λ e. cc) (λ e. cc));
      intact = λ f told has needs. intact-of _ (did.intact_refused f told);
      intact_priors = λ f told has reads. did.intact_refused f told;
      absent = λ f told is. absurd (tells-not _ _ status.NoRepository _ _ tells is (λ e. cc) (λ e. cc) (λ e. cc));
      without = λ f told none needs. absurd (did.there f told none);
      absent_line_is = λ is. absurd (tells-not _ _ status.NoRepository _ _ tells is (λ e. cc) (λ e. cc) (λ e. cc));
      exists = λ f told makes there. absurd (asked-not_making asks text mu shown by' makes);
      exists_there = λ f told is. absurd (tells-not _ _ status.Exists _ _ tells is (λ e. cc) (λ e. cc) (λ e. cc));
      exists_line_is = λ is. absurd (tells-not _ _ status.Exists _ _ tells is (λ e. cc) (λ e. cc) (λ e. cc));
      command = λ is. tells-not _ _ status.Usage _ _ tells is (λ e. cc) (λ e. cc) (λ e. cc);
    }

pub returns-in-Err-Refused-clause-no_read : goal.returns-in-Err-Refused-clause-no_read
returns-in-Err-Refused-clause-no_read g c = λ is. tells-not _ _ status.ReadFault _ _ c.tell_refusal.ensures.tells is (λ e. cc) (λ e. cc) (λ e. cc)

pub returns-in-Err-Refused-clause-store : goal.returns-in-Err-Refused-clause-store
returns-in-Err-Refused-clause-store g c = λ is. absurd (tells-not _ _ status.StoreFault _ _ c.tell_refusal.ensures.tells is (λ e. cc) (λ e. cc) (λ e. cc))

-- it is broken off

pub returns-in-Err-Broken-clause-has_run : goal.returns-in-Err-Broken-clause-has_run
returns-in-Err-Broken-clause-has_run g c = λ asks left by'.
    let did = rw c.in-Err-Broken.field-0-is at c.in-Err-Broken.ensures in
    let why = c.in-Err-Broken.fault in
    let text = c.args.text.now in
    let shown = told_shown c.args.shown.now in
    let mu = c.args.mu in
    let same = c.ask.ensures.quiet.same_files in
    let ends = c.close.ensures.closed in
    record {
      runs = λ k stands. file-runs _ _ asks k left _ _ _ _ why _ (omega arith) same stands (did.refused k stands) ends;
      stops = λ k stands. stops-none _ asks k left _ _ c.ask.ensures.quiet.no_more;
      order = λ k stands all. asked-in_order asks k left text mu shown by';
      made = λ makes f told none. absurd (asked-not_making asks text mu shown by' makes);
      made_stops = λ makes f told none. absurd (asked-not_making asks text mu shown by' makes);
      made_order = λ makes f told none all. absurd (asked-not_making asks text mu shown by' makes);
      scans = λ other is. absurd (asked-not_scan asks text mu shown other by' is);
      sound = λ is k stands whole. damage-not_want why (malformed-closed why _ _ _ _ _ ends is) (did.honest k stands (whole (asked-blocks asks text mu shown by')));
      there = λ f told is. some-of (f manifest_name).read (damage-over f why (malformed-closed why _ _ _ _ _ ends is) (did.there f told));
      damage = λ is. asked-tells asks _ _ _ _ text mu shown by' (damage-closed why _ _ _ _ _ ends is);
      intact = λ f told has needs. absurd (done-not_closed-any why _ _ _ _ _ ends has);
      intact_priors = λ f told has reads. absurd (done-not_closed-any why _ _ _ _ _ ends has);
      absent = λ f told is. (asked-needs asks text mu shown by', subst (IsBrokenOver f) (absent-closed why _ _ _ _ _ ends is) (did.there f told));
      without = λ f told none needs. absent-closed-status why _ _ _ _ _ (over-absent f why (did.there f told) none) ends;
      absent_line_is = λ is. absent-line-closed why _ _ _ _ _ ends is;
      exists = λ f told makes there. absurd (asked-not_making asks text mu shown by' makes);
      exists_there = λ f told is. absurd (subst (IsBrokenOver f) (exists-closed why _ _ _ _ _ ends is) (did.there f told));
      exists_line_is = λ is. exists-line-closed why _ _ _ _ _ ends is;
      command = λ is. usage-not_closed why _ _ _ _ _ ends is;
    }

pub returns-in-Err-Broken-clause-no_read : goal.returns-in-Err-Broken-clause-no_read
returns-in-Err-Broken-clause-no_read g c = λ is.
    let did = rw c.in-Err-Broken.field-0-is at c.in-Err-Broken.ensures in
    subst IsOpenFault (read-closed c.in-Err-Broken.fault _ _ _ _ _ c.close.ensures.closed is) did.only

pub returns-in-Err-Broken-clause-write : goal.returns-in-Err-Broken-clause-write
returns-in-Err-Broken-clause-write g c = λ is.
    let did = rw c.in-Err-Broken.field-0-is at c.in-Err-Broken.ensures in
    absurd (subst IsOpenFault (write-closed c.in-Err-Broken.fault _ _ _ _ _ c.close.ensures.closed is) did.only)

pub returns-in-Err-Broken-clause-store : goal.returns-in-Err-Broken-clause-store
returns-in-Err-Broken-clause-store g c = λ is.
    let did = rw c.in-Err-Broken.field-0-is at c.in-Err-Broken.ensures in
    let one = store-closed c.in-Err-Broken.fault _ _ _ _ _ c.close.ensures.closed is in
    did.store (rw one refl)
