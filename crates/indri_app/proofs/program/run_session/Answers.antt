use Rattle.repository.specs.Names.{manifest_name}
use Rattle.command_words.specs.Table.{session}
use Rattle.indri_app.specs.LastLines.{absent_line}
use Rattle.indri_app.proofs.Closing.{ended-runs}
use Rattle.indri_app.proofs.Ended.{absent-ended, absent-line-ended, damage-ended, done-ended, exists-not_ended, first-ended, line-first, read-ended, rose-later, store-ended, there-ended, usage-not_ended, without-ended, write-ended}
use Rattle.indri_app.proofs.AskedRuns.{intact-of}
use Rattle.indri_app.proofs.SessionLemmas.{all-ended, damage-behind, session-untouched}
use Rattle.indri_app.proofs.program.run_session.Goals as goal

pub returns-clause-has_run : goal.returns-clause-has_run
returns-clause-has_run g c =
    let did = c.session_files-answer.ensures in
    let answer = c.session_files-answer.result in
    let ended = c.finish.ensures.ended in
    record {
      runs = λ k stands. ended-runs _ (session c.args.mu) k _ _ _ _ _ answer _ _ _ _ did.write_later (did.done k stands) (did.broken k stands) ended;
      stops = did.stops;
      order = λ k stands all. all-ended _ answer _ _ _ _ _ (did.order k stands) ended all;
      made = λ makes f told none. absurd makes;
      made_stops = λ makes f told none. absurd makes;
      made_order = λ makes f told none all. absurd makes;
      scans = λ text is. absurd cc;
      sound = λ is k stands whole. first-ended ⊥ answer _ _ _ _ _ (did.honest k stands (whole tt)) ended is;
      there = λ f told is. there-ended (f manifest_name).read answer _ _ _ _ _ (λ none. did.without f told none) ended is;
      damage = λ is. damage-behind _ _ _ _ _ _ did.grows did.write_later (damage-ended answer _ _ _ _ _ ended is);
      intact = λ f told has needs. intact-of _ (done-ended _ answer _ _ _ _ _ (did.intact f told) ended has);
      intact_priors = λ f told has reads. done-ended _ answer _ _ _ _ _ (did.intact f told) ended has;
      absent = λ f told is. (tt, did.absent f told (absent-ended answer _ _ _ _ _ ended is));
      without = λ f told none needs. without-ended answer _ _ _ _ _ (did.without f told none) ended;
      absent_line_is = λ is. line-first absent_line _ _ _ _ _ _ (did.untouched (absent-ended answer _ _ _ _ _ ended is)).2 did.write_later (absent-line-ended answer _ _ _ _ _ ended is);
      exists = λ f told makes there. absurd makes;
      exists_there = λ f told is. absurd (exists-not_ended answer _ _ _ _ _ did.only ended is);
      exists_line_is = λ is. absurd (exists-not_ended answer _ _ _ _ _ did.only ended is);
      command = λ is. usage-not_ended answer _ _ _ _ _ ended is;
    }

pub returns-clause-untouched : goal.returns-clause-untouched
returns-clause-untouched g c = λ un.
    let did = c.session_files-answer.ensures in
    let first = session-untouched _ c.session_files-answer.result _ _ _ _ _ did.untouched did.only c.finish.ensures.ended un in
    (first.0, first.1)

pub returns-clause-read : goal.returns-clause-read
returns-clause-read g c = λ is. c.session_files-answer.ensures.read (read-ended c.session_files-answer.result _ _ _ _ _ c.finish.ensures.ended is)

pub returns-clause-write : goal.returns-clause-write
returns-clause-write g c = λ is. rose-later _ _ _ (c.session_files-answer.ensures.write (write-ended c.session_files-answer.result _ _ _ _ _ c.finish.ensures.ended is)) c.finish.ensures.later

pub returns-clause-store : goal.returns-clause-store
returns-clause-store g c = λ is. c.session_files-answer.ensures.store (store-ended c.session_files-answer.result _ _ _ _ _ c.finish.ensures.ended is)
