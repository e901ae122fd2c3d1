-- The entries of a manifest.
use Rattle.std.specs.Prelude.{ℕ, ◌+◌, Bool, List, [], ◌∷◌, ◌++◌, Ok, nat_lt, nat_le, ◌&&◌, not}
use Rattle.std.specs.Bool.{nat_eq}
use Rattle.std.specs.BTreeSet.{insert_key}
use Rattle.std.specs.Cmp.Lexicographic.{pointwise}
use Rattle.std.specs.Int.{w32, w64}
use Rattle.std.specs.List.{list_any}
use Rattle.std.specs.Ordering.{nat_cmp}
use Rattle.ri_base.specs.Text.{is_name}
use Rattle.ri_base.specs.declared.limits.TheConstants.{MAX_PART_DOCS, MAX_PRIORS}
use Rattle.ri_base.specs.declared.text.TheConstants.{NAME_BYTES}
use Rattle.ri_base.specs.Fields.{number, rising_numbers, ruled, ruled_byte, text}
use Rattle.ri_base.specs.Reading.{Reading, ◌>>=◌, repeat}
use Rattle.manifest.specs.declared.manifest.PriorEntry.{PriorEntry}
use Rattle.manifest.specs.declared.manifest.SegEntry.{SegEntry}

-- ---- numbers of files. Those before a field are kept as a set, its numbers in rising order.

abbrev pub with_number : List ℕ → ℕ → List ℕ
with_number used n = insert_key nat_cmp used n

abbrev pub with_numbers : List ℕ → List ℕ → List ℕ
with_numbers used [] = used
with_numbers used (n ∷ ns) = with_numbers (with_number used n) ns

-- a file's number: at least 1, below that of the next file, and none of those before
abbrev pub is_number : ℕ → List ℕ → ℕ → Bool
is_number next used n = nat_le 1 n && nat_lt n next && not (list_any (nat_eq n) used)

abbrev pub file_number : ℕ → List ℕ → List ℕ → Reading ℕ
file_number next used bytes = ruled w64 (is_number next used) bytes

-- ---- segments

-- the id of a dead document, of a segment of so many, behind the ids below low
abbrev pub is_mark : ℕ → ℕ → ℕ → Bool
is_mark docs low m = nat_le low m && nat_lt m docs

unfoldable pub marks : ℕ → List ℕ → Reading (List ℕ)
marks docs bytes = do
  n ← number w32 bytes
  rising_numbers docs n.0 n.1

-- how many documents a segment has
abbrev pub is_docs : ℕ → Bool
is_docs n = nat_le 1 n && nat_le n MAX_PART_DOCS

unfoldable pub segment : ℕ → List ℕ → List ℕ → Reading SegEntry
segment next used bytes = do
  n ← file_number next used bytes
  d ← ruled w32 is_docs n.1
  ms ← marks d.0 d.1
  Ok (record { number = n.0; docs = d.0; marks = ms.0 }, ms.1)

unfoldable pub segments : ℕ → List ℕ → Reading (List SegEntry)
segments next bytes = do
  n ← number w32 bytes
  repeat (segment next) (λ used e. with_number used e.number) n.0 [] n.1

-- ---- stale files

-- behind the stale numbers before: the least that may come, and all numbers so far
pub record Behind : Type 0 where
  pub low : ℕ
  pub used : List ℕ

abbrev pub behind : Behind → ℕ → Behind
behind s n = record { low = n + 1; used = with_number s.used n }

abbrev pub is_stale : ℕ → Behind → ℕ → Bool
is_stale next s n = nat_le s.low n && is_number next s.used n

abbrev pub stale_number : ℕ → Behind → List ℕ → Reading ℕ
stale_number next s bytes = ruled w64 (is_stale next s) bytes

unfoldable pub stale : ℕ → List ℕ → List ℕ → Reading (List ℕ)
stale next used bytes = do
  n ← number w64 bytes
  repeat (stale_number next) behind n.0 (record { low = 0; used = used }) n.1

-- ---- priors

-- length, the name of the prior that no file has
abbrev pub length_name : List ℕ
length_name = 108 ∷ 101 ∷ 110 ∷ 103 ∷ 116 ∷ 104 ∷ []

-- the name of a prior, behind these
abbrev pub is_prior_name : List (List ℕ) → List ℕ → Bool
is_prior_name names x = is_name x && not (pointwise nat_eq x length_name) && not (list_any (pointwise nat_eq x) names)

-- behind the priors before: their names, and all numbers so far
pub record BehindPrior : Type 0 where
  pub names : List (List ℕ)
  pub used : List ℕ

abbrev pub behind_prior : BehindPrior → PriorEntry → BehindPrior
behind_prior s p = record { names = s.names ++ p.name ∷ []; used = with_number s.used p.number }

unfoldable pub prior : ℕ → BehindPrior → List ℕ → Reading PriorEntry
prior next s bytes = do
  x ← text NAME_BYTES (is_prior_name s.names) bytes
  n ← file_number next s.used x.1
  Ok (record { name = x.0; number = n.0 }, n.1)

unfoldable pub priors : ℕ → List ℕ → List ℕ → Reading (List PriorEntry)
priors next used bytes = do
  n ← ruled_byte (λ n. nat_le n MAX_PRIORS) bytes
  repeat (prior next) behind_prior n.0 (record { names = []; used = used }) n.1
