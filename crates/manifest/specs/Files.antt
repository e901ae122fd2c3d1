-- A manifest as its bytes.
use Rattle.std.specs.Prelude.{ℕ, true, List, [], ◌∷◌, map, Result, Ok, nat_le, ◌==◌}
use Rattle.std.specs.Bool.{nat_eq}
use Rattle.std.specs.Cmp.Lexicographic.{pointwise}
use Rattle.std.specs.Int.{w32, w64}
use Rattle.ri_base.specs.Fields.{ruled, ruled_front}
use Rattle.ri_base.specs.Reading.{Reading, ◌>>=◌, whole}
use Rattle.manifest.specs.Entries.{segments, stale, priors, with_numbers}
use Rattle.manifest.specs.declared.manifest.Manifest.{Manifest}
use Rattle.manifest.specs.declared.manifest.PriorEntry.{PriorEntry}
use Rattle.manifest.specs.declared.manifest.SegEntry.{SegEntry}

-- indriman
abbrev pub magic : List ℕ
magic = 105 ∷ 110 ∷ 100 ∷ 114 ∷ 105 ∷ 109 ∷ 97 ∷ 110 ∷ []

-- the magic, the version, and the number of the next file
unfoldable pub opening : List ℕ → Reading ℕ
opening bytes = do
  m ← ruled_front 8 (λ x. pointwise nat_eq x magic) bytes
  v ← ruled w32 (λ n. n == 1) m.1
  ruled w64 (λ n. nat_le 1 n) v.1

-- the numbers of segments
abbrev pub numbers_of : List SegEntry → List ℕ
numbers_of es = map (λ e. e.number) es

abbrev pub Lists : Type 0
Lists = List SegEntry × List ℕ × List PriorEntry

-- segments, stale files and priors, whose numbers are distinct
unfoldable pub lists : ℕ → List ℕ → Reading Lists
lists next bytes = do
  es ← segments next bytes
  ss ← stale next (with_numbers [] (numbers_of es.0)) es.1
  ps ← priors next (with_numbers (with_numbers [] (numbers_of es.0)) ss.0) ss.1
  Ok ((es.0, ss.0, ps.0), ps.1)

unfoldable pub manifest_fields : List ℕ → Reading Manifest
manifest_fields bytes = do
  n ← opening bytes
  x ← lists n.0 n.1
  Ok (record { version = 1; next = n.0; segments = x.0.0; stale = x.0.1; priors = x.0.2 }, x.1)

abbrev pub manifest : List ℕ → Result Manifest ℕ
manifest bytes = whole (λ _. true) (λ m. m) (manifest_fields bytes)
