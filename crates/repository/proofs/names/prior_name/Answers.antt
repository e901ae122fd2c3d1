use Rattle.std.proofs.Common.{append-nil, ap, ◌∷◌, ◌∙◌, List, ℕ}
use Rattle.repository.specs.Names.{prior_name}
use Rattle.repository.proofs.names.prior_name.Goals as goal

pub returns : goal.returns
unfolding prior_name
returns c = ap (λ (xs : List ℕ). 112 ∷ 114 ∷ 105 ∷ 45 ∷ xs) (append-nil c.write_hex.new.places ∙ c.write_hex.ensures)
