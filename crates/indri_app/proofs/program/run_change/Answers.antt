use Rattle.repository.specs.Names.{manifest_name}
use Rattle.indri_app.specs.LastLines.{absent_line}
use Rattle.indri_app.proofs.ChangingLemmas.{change-in_order, change-needs, change-not_making, change-not_scan, change-reads, change-tells}
use Rattle.indri_app.specs.Changes.{told_change}
use Rattle.indri_app.proofs.Closing.{ended-runs}
use Rattle.indri_app.proofs.Ended.{absent-ended, absent-first, absent-line-ended, damage-ended, damage-first, done-ended, exists-not_ended, first-ended, line-first, read-ended, rose-later, store-ended, there-ended, untouched-ended, usage-not_ended, without-ended, write-ended}
use Rattle.indri_app.proofs.program.run_change.Goals as goal

pub returns-clause-has_run : goal.returns-clause-has_run
returns-clause-has_run g c =
    let did = c.change_files-answer.ensures in
    let answer = c.change_files-answer.result in
    let ended = c.finish.ensures.ended in
    let what = c.args.what in
    record {
      runs = λ k stands. ended-runs _ (told_change what) k _ _ _ _ _ answer _ _ _ _ did.write_later (did.done k stands) (did.broken k stands) ended;
      stops = did.stops;
      order = λ k stands all. change-in_order what k _;
      made = λ makes f told none. absurd (change-not_making what makes);
      made_stops = λ makes f told none. absurd (change-not_making what makes);
      made_order = λ makes f told none all. absurd (change-not_making what makes);
      scans = λ text is. absurd (change-not_scan what text is);
      sound = λ is k stands whole. first-ended ⊥ answer _ _ _ _ _ (did.honest k stands whole) ended is;
      there = λ f told is. there-ended (f manifest_name).read answer _ _ _ _ _ (λ none. did.without f told none) ended is;
      damage = λ is. change-tells what _ _ _ _ (damage-first _ _ _ _ _ _ (first-ended _ answer _ _ _ _ _ did.first ended is).2 did.write_later (damage-ended answer _ _ _ _ _ ended is));
      intact = λ f told has needs. done-ended _ answer _ _ _ _ _ (did.intact f told) ended has;
      intact_priors = λ f told has reads. absurd (change-reads what reads);
      absent = λ f told is. (change-needs what, did.absent f told (absent-ended answer _ _ _ _ _ ended is));
      without = λ f told none needs. without-ended answer _ _ _ _ _ (did.without f told none) ended;
      absent_line_is = λ is. line-first absent_line _ _ _ _ _ _ (absent-first _ answer did.first (absent-ended answer _ _ _ _ _ ended is)).2 did.write_later (absent-line-ended answer _ _ _ _ _ ended is);
      exists = λ f told makes there. absurd (change-not_making what makes);
      exists_there = λ f told is. absurd (exists-not_ended answer _ _ _ _ _ did.only ended is);
      exists_line_is = λ is. absurd (exists-not_ended answer _ _ _ _ _ did.only ended is);
      command = λ is. usage-not_ended answer _ _ _ _ _ ended is;
    }

pub returns-clause-untouched : goal.returns-clause-untouched
returns-clause-untouched g c = λ un.
    let did = c.change_files-answer.ensures in
    let first = untouched-ended _ c.change_files-answer.result _ _ _ _ _ did.first did.only c.finish.ensures.ended un in
    (first.0, first.1)

pub returns-clause-read : goal.returns-clause-read
returns-clause-read g c = λ is. c.change_files-answer.ensures.read (read-ended c.change_files-answer.result _ _ _ _ _ c.finish.ensures.ended is)

pub returns-clause-write : goal.returns-clause-write
returns-clause-write g c = λ is. rose-later _ _ _ (c.change_files-answer.ensures.write (write-ended c.change_files-answer.result _ _ _ _ _ c.finish.ensures.ended is)) c.finish.ensures.later

pub returns-clause-store : goal.returns-clause-store
returns-clause-store g c = λ is. c.change_files-answer.ensures.store (store-ended c.change_files-answer.result _ _ _ _ _ c.finish.ensures.ended is)
