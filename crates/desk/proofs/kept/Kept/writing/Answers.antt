use Rattle.std.proofs.Common.{subst, sym}
use Rattle.session_events.specs.declared.event.Event.{Event}
use Rattle.desk.specs.Leaving.{LeavesFiles}
use Rattle.desk.proofs.EventExits.{write-kinds}
use Rattle.desk.proofs.kept.Kept.writing.Goals as goal

pub returns-in-Flush-clause-files : goal.returns-in-Flush-clause-files
returns-in-Flush-clause-files g c =
    subst (λ (e : Event). LeavesFiles e c.flush.result (g.T.Store.files c.args.store.now) (g.T.Store.files c.flush.new.store) (g.T.Store.since c.args.store.now) (g.T.Store.since c.flush.new.store) c.args.self.now) (sym c.in-Flush.is) c.flush.ensures.files

pub returns-in-Turn-clause-files : goal.returns-in-Turn-clause-files
returns-in-Turn-clause-files g c =
    subst (λ (e : Event). LeavesFiles e c.turn.result (g.T.Store.files c.args.store.now) (g.T.Store.files c.turn.new.store) (g.T.Store.since c.args.store.now) (g.T.Store.since c.turn.new.store) c.args.self.now) (sym c.in-Turn.is) c.turn.ensures.files

pub returns-in-End-clause-files : goal.returns-in-End-clause-files
returns-in-End-clause-files g c =
    subst (λ (e : Event). LeavesFiles e c.end.result (g.T.Store.files c.args.store.now) (g.T.Store.files c.end.new.store) (g.T.Store.since c.args.store.now) (g.T.Store.since c.end.new.store) c.args.self.now) (sym c.in-End.is) c.end.ensures.files

pub unreachable-requires : goal.unreachable-requires
unreachable-requires g c = write-kinds c.args.event c.requires.writes c.in_default.not-Flush c.in_default.not-Turn c.in_default.not-End
