use Rattle.std.proofs.Common.{refl}
use Rattle.disk_index.specs.QuietLaws.{IsQuiet-same}
use Rattle.repository.specs.Priors.{with_prior}
use Rattle.repository.specs.Stands.{Collection}
use Rattle.repository.proofs.PriorWrites.{writes-none}
use Rattle.repository.proofs.repository.Repository.set_prior.Goals as goal

pub returns-then-not-has_room_for-clause-writes : goal.returns-then-not-has_room_for-clause-writes
returns-then-not-has_room_for-clause-writes g c = writes-none g.T.Store.files g.T.Store.since c.args.self.now (λ (d : Collection). with_prior d c.args.name c.args.rows.now) c.args.store.now

pub returns-then-not-has_room_for-clause-refused : goal.returns-then-not-has_room_for-clause-refused
returns-then-not-has_room_for-clause-refused g c = λ _. (refl, IsQuiet-same g.T.Store.files g.T.Store.layers g.T.Store.clock g.T.Store.since g.T.Store.longest g.T.Store.held g.T.Store.faults c.args.store.now)
