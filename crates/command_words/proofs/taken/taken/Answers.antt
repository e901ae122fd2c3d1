use Rattle.command_words.proofs.TakenLemmas.{taken_or_refused}
use Rattle.command_words.proofs.taken.taken.Goals as goal

pub returns : goal.returns
returns c = taken_or_refused _ _ c.try_get_matches_from.result c.requires c.try_get_matches_from.ensures.matches c.try_get_matches_from.ensures.kinds
