use Rattle.std.proofs.Common.{refl, arith}
use Rattle.range_tables.proofs.BeginLemmas.{IsCounted-new, IsCounted-old}
use Rattle.range_tables.proofs.begun.Begun.with.Goals as goal

pub returns-then-begin-self : goal.returns-then-begin-self
returns-then-begin-self c = λ begins no_earlier h. IsCounted-old begins c.args.begin c.args.self (omega (arith, c.if-begin-self.true, c.from-begin.ensures)) no_earlier h

pub returns : goal.returns
returns c = λ begins no_earlier h. IsCounted-new begins c.args.begin c.args.self _ (omega (arith, c.if-begin-self.false, c.from-begin.ensures)) refl (omega (arith, c.from-begin.ensures)) h
