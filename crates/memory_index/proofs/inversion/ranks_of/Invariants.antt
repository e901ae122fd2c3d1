use Rattle.std.proofs.Common.{◌≡◌, ◌<◌, ℕ, [], length, get_or}
use Rattle.std.specs.List.{All}
use Rattle.memory_index.specs.Inverts.{terms_of}
use Rattle.memory_index.specs.declared.numbered.Numbered.{Numbered}
use Rattle.memory_index.proofs.inversion.ranks_of.Given as goal

abbrev pub invariant-loop-s : goal.invariant-loop-s
invariant-loop-s l = record {
  rank_is : l.rank ≡ l.s-index;
  same_length : length l.ranks.items ≡ length l.terms;
  ranked : All (λ r. r < length l.sorted) l.ranks.items;
  told : (j : ℕ) (d : Numbered) → j < l.s-index → get_or (terms_of l.sorted) (get_or l.ranks.items (get_or l.sorted j d).number 0) [] ≡ get_or l.terms (get_or l.sorted j d).number [];
}
