use Rattle.std.proofs.Common.{refl}
use Rattle.range_tables.proofs.BeginLemmas.{IsCounted-none}
use Rattle.range_tables.proofs.begun.Begun.new.Goals as goal

pub returns : goal.returns
returns c = IsCounted-none _ refl refl
