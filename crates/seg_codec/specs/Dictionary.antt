-- The dictionary of a segment: each term, with the places of its blocks.
use Rattle.std.specs.Prelude.{ℕ, ◌+◌, ◌*◌, List, [], ◌∷◌, Result, Ok, nat_lt, nat_le, ◌==◌, ◌&&◌}
use Rattle.std.specs.Int.{w32, w64}
use Rattle.ri_base.specs.Fields.{term_behind, number, ruled}
use Rattle.ri_base.specs.Reading.{Reading, ◌>>=◌, repeat, whole}
use Rattle.seg_codec.specs.declared.header.Header.{Header}
use Rattle.seg_codec.specs.declared.dictionary.BlockPlace.{BlockPlace}
use Rattle.seg_codec.specs.declared.dictionary.TermBlocks.{TermBlocks}

-- behind the blocks before: the least range that may come, and the place where the next block stands
pub record Behind : Type 0 where
  pub low : ℕ
  pub at : ℕ

abbrev pub behind : BlockPlace → Behind
behind b = record { low = b.range + 1; at = b.place + b.length }

-- a block of a range that holds one of so many documents
unfoldable pub block_place : ℕ → Behind → List ℕ → Reading BlockPlace
block_place docs s bytes = do
  r ← ruled w32 (λ r. nat_le s.low r && nat_lt (64 * r) docs) bytes
  p ← ruled w64 (λ p. p == s.at) r.1
  n ← number w32 p.1
  Ok (record { range = r.0; place = p.0; length = n.0 }, n.1)

unfoldable pub block_places : ℕ → ℕ → List ℕ → Reading (List BlockPlace)
block_places docs at bytes = do
  n ← ruled w32 (λ n. nat_le 1 n) bytes
  repeat (block_place docs) (λ _ b. behind b) n.0 (record { low = 0; at = at }) n.1

-- where the last of some blocks ends; where there is none, this place
abbrev pub end_of : ℕ → List BlockPlace → ℕ
end_of at [] = at
end_of at (b ∷ bs) = end_of (b.place + b.length) bs

-- behind the terms before: the last of them, and the place where the next block stands
pub record BehindTerm : Type 0 where
  pub before : List ℕ
  pub at : ℕ

unfoldable pub term_blocks : ℕ → BehindTerm → List ℕ → Reading TermBlocks
term_blocks docs s bytes = do
  t ← term_behind s.before bytes
  bs ← block_places docs s.at t.1
  Ok (record { term = t.0; blocks = bs.0 }, bs.1)

abbrev pub behind_term : BehindTerm → TermBlocks → BehindTerm
behind_term s x = record { before = x.term; at = end_of s.at x.blocks }

abbrev pub end_of_all : ℕ → List TermBlocks → ℕ
end_of_all at [] = at
end_of_all at (x ∷ xs) = end_of_all (end_of at x.blocks) xs

abbrev pub terms : Header → List ℕ → Reading (List TermBlocks)
terms h bytes = repeat (term_blocks h.docs) behind_term h.terms (record { before = []; at = h.blocks_at }) bytes

-- the last block ends where the file does
abbrev pub dictionary : Header → List ℕ → Result (List TermBlocks) ℕ
dictionary h bytes = whole (λ xs. end_of_all h.blocks_at xs == h.length) (λ xs. xs) (terms h bytes)
