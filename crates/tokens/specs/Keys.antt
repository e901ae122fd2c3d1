-- The keys by which a set of fields stands: begin, end, name.
use Rattle.std.specs.Prelude.{ℕ, ◌<◌, List}
use Rattle.std.specs.Cmp.Lexicographic.{slice_cmp}
use Rattle.std.specs.Ordering.{nat_cmp, ordering_then}
use Rattle.std.specs.declared.cmp.Ordering.{Ordering}
use Rattle.ri_base.specs.Documents.{Field}

abbrev pub Key : Type 0
Key = ℕ × ℕ × List ℕ

abbrev pub field_of : Key → Field
field_of key = record { name = key.2; begin = key.0; end = key.1 }

-- the field of this key has a token
abbrev pub HasToken : Key → Type 0
HasToken key = key.0 < key.1

abbrev pub key_cmp : Key → Key → Ordering
key_cmp a b = ordering_then (ordering_then (nat_cmp a.0 b.0) (nat_cmp a.1 b.1)) (slice_cmp nat_cmp a.2 b.2)
