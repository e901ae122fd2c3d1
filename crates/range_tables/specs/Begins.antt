-- How the tokens at which fields begin are counted, one field after the other.
use Rattle.std.specs.Prelude.{◌≡◌, ◌<◌, ◌≤◌, ℕ, suc, true, nat_eq, if◌then◌else◌, List, [], ◌∷◌, length}
use Rattle.std.specs.List.{IsDistinct}
use Rattle.std.specs.Set.{is_member}
use Rattle.std.specs.Str.{bytes_eq}
use Rattle.ri_base.specs.Documents.{Field}
use Rattle.range_tables.specs.declared.begun.Begun.{Begun}

-- of these begins each was counted once; next is the token behind the last of them
pub record IsCounted (begins : List ℕ) (begun : Begun) : Type 0 where
  pub seen : List ℕ
  pub size : length seen ≡ begun.count
  pub apart : IsDistinct nat_eq seen
  pub same : (b : ℕ) → is_member nat_eq seen b ≡ is_member nat_eq begins b
  pub before : (b : ℕ) → is_member nat_eq begins b ≡ true → b < begun.next
  pub last : (b : ℕ) → begun.next ≡ suc b → is_member nat_eq begins b ≡ true

-- none of these begins lies behind
abbrev pub IsNoEarlier : List ℕ → ℕ → Type 0
IsNoEarlier begins begin = (b : ℕ) → is_member nat_eq begins b ≡ true → b ≤ begin

-- where a field of this name begins
abbrev pub named_begin : List ℕ → Field → List ℕ
named_begin name f = if bytes_eq f.name name then f.begin ∷ [] else []
