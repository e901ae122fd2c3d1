use Rattle.desk.proofs.EventExits.{early-for, reading-kinds}
use Rattle.desk.proofs.kept.Kept.reading.Goals as goal

pub returns-in-Open-clause-early : goal.returns-in-Open-clause-early
returns-in-Open-clause-early g c = early-for c.open.result c.args.self.now c.args.event _ c.in-Open.is c.open.ensures.refuses

pub returns-in-Step-clause-early : goal.returns-in-Step-clause-early
returns-in-Step-clause-early g c = early-for c.step.result c.args.self.now c.args.event _ c.in-Step.is c.step.ensures.refuses

pub returns-in-Scan-clause-early : goal.returns-in-Scan-clause-early
returns-in-Scan-clause-early g c = early-for c.scan.result c.args.self.now c.args.event _ c.in-Scan.is c.scan.ensures.refuses

pub unreachable-requires : goal.unreachable-requires
unreachable-requires g c = reading-kinds c.args.event c.requires.quiet c.requires.outside c.in_default.not-Open c.in_default.not-Step c.in_default.not-Explain c.in_default.not-Scan
