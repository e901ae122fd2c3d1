use Rattle.ranker.proofs.search.Search.step.Given as goal

abbrev pub ghosts-uncounted_step-L-Ledger : goal.ghosts-uncounted_step-L-Ledger
ghosts-uncounted_step-L-Ledger g a = record { name = a.blank.name; parts = a.blank.parts }

abbrev pub ghosts-uncounted_step-B-Ledger : goal.ghosts-uncounted_step-B-Ledger
ghosts-uncounted_step-B-Ledger g a = record { name = a.other.name; parts = a.other.parts }
