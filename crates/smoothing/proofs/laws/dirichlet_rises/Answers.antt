use Rattle.smoothing.proofs.Rises.{by_both, by_occurrences, by_words}
use Rattle.smoothing.proofs.laws.dirichlet_rises.Goals as goal

pub returns : goal.returns
returns c = record { occurrences = by_occurrences; words = by_words; both = by_both }
