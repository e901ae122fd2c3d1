use Rattle.std.proofs.Common.{arith}
use Rattle.store_ends.specs.Files.{Leaves, SameWhere}
use Rattle.store_ends.proofs.Files.{SameWhere-same}
use Rattle.repository.specs.Saved.{IsUnlisted}
use Rattle.repository.specs.Writes.{IsOther}
use Rattle.repository.proofs.PriorSetLemmas.{leaves-others, not-other, others-stay}
use Rattle.repository.proofs.priors.put_rows.Given as given
use Rattle.repository.proofs.priors.put_rows.Goals as goal
use Rattle.repository.proofs.priors.put_rows.Goals.{After-put_file}

pub returns-in_err-bytes-clause-same : goal.returns-in_err-bytes-clause-same
returns-in_err-bytes-clause-same g c = SameWhere-same (IsOther (IsUnlisted c.args.numbers.now.numbers)) (g.T.Store.files c.args.store.now)

pub returns-in_err-number-clause-same : goal.returns-in_err-number-clause-same
returns-in_err-number-clause-same g c = SameWhere-same (IsOther (IsUnlisted c.args.numbers.now.numbers)) (g.T.Store.files c.args.store.now)

-- the file of the new number is tried

own : (g : given.Over) (c : After-put_file g) → IsOther (IsUnlisted c.args.numbers.now.numbers) c.prior_name-name.result → ⊥
own g c = (let below = c.in_ok-number.ensures.small in not-other (IsUnlisted c.args.numbers.now.numbers) c.in_ok-number.number _ (omega (arith, below)) c.in_ok-number.ensures.free c.prior_name-name.ensures)

same : (g : given.Over) (c : After-put_file g) → SameWhere (IsOther (IsUnlisted c.args.numbers.now.numbers)) (g.T.Store.files c.args.store.now) (g.T.Store.files c.put_file.new.store)
same g c = others-stay (IsUnlisted c.args.numbers.now.numbers) _ _ _ (own g c) c.put_file.ensures.changed

stops : (g : given.Over) (c : After-put_file g) → Leaves (g.T.Store.since c.args.store.now) (g.T.Store.since c.put_file.new.store) (SameWhere (IsOther (IsUnlisted c.args.numbers.now.numbers)) (g.T.Store.files c.args.store.now))
stops g c = leaves-others (IsUnlisted c.args.numbers.now.numbers) _ (g.T.Store.since c.args.store.now) _ _ (own g c) c.put_file.ensures.stops

pub returns-in_err-put_file-clause-same : goal.returns-in_err-put_file-clause-same
returns-in_err-put_file-clause-same g c = same g (goal.at.returns-in_err-put_file-clause-same g c).After-put_file

pub returns-in_err-put_file-clause-stops : goal.returns-in_err-put_file-clause-stops
returns-in_err-put_file-clause-stops g c = stops g (goal.at.returns-in_err-put_file-clause-stops g c).After-put_file

pub returns-clause-same : goal.returns-clause-same
returns-clause-same g c = same g (goal.at.returns-clause-same g c).After-put_file

pub returns-clause-stops : goal.returns-clause-stops
returns-clause-stops g c = stops g (goal.at.returns-clause-stops g c).After-put_file
