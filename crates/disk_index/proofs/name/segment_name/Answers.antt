use Rattle.std.proofs.Common.{append-nil, ap, ◌∷◌, ◌∙◌, List, ℕ}
use Rattle.disk_index.specs.Names.{segment_name}
use Rattle.disk_index.proofs.name.segment_name.Goals as goal

pub returns : goal.returns
unfolding segment_name
returns c = ap (λ (xs : List ℕ). 115 ∷ 101 ∷ 103 ∷ 45 ∷ xs) (append-nil c.write_hex.new.places ∙ c.write_hex.ensures)
