-- The file of a prior as its bytes.
use Rattle.std.specs.Prelude.{ℕ, true, List, [], ◌∷◌, ◌++◌, length, Option, None, Some, Result, Ok, nat_lt, nat_le, ◌==◌, ◌&&◌, if◌then◌else◌, Bool}
use Rattle.std.specs.Bool.{nat_eq}
use Rattle.std.specs.Cmp.Lexicographic.{pointwise}
use Rattle.std.specs.Int.{w32, w64, to_le_bytes}
use Rattle.std.specs.List.{flat_map}
use Rattle.ri_base.specs.Ratio.{Ratio, ratio_of}
use Rattle.ri_base.specs.declared.fraction.Fraction.{Fraction}
use Rattle.ri_base.specs.declared.limits.TheConstants.{MAX_PRIOR_ROWS, PRIOR_LIMIT}
use Rattle.ri_base.specs.Fields.{docno_behind, ruled, ruled_byte, ruled_front}
use Rattle.ri_base.specs.Reading.{Reading, ◌>>=◌, repeat, whole}
use Rattle.ri_base.specs.Spelling.{spelled_text}

-- a docno with its belief
pub record Row : Type 0 where
  pub docno : List ℕ
  pub belief : Ratio

-- the belief of the documents that have no row, where there is one, and the rows by rising docno
pub record PriorTable : Type 0 where
  pub rest : Option Ratio
  pub rows : List Row

abbrev pub row_of : List ℕ × Fraction → Row
row_of x = record { docno = x.0; belief = ratio_of x.1 }

-- ---- reading

-- indripri
abbrev pub prior_magic : List ℕ
prior_magic = 105 ∷ 110 ∷ 100 ∷ 114 ∷ 105 ∷ 112 ∷ 114 ∷ 105 ∷ []

abbrev pub is_p : ℕ → Bool
is_p p = nat_le 1 p && nat_lt p PRIOR_LIMIT

abbrev pub is_q : ℕ → ℕ → Bool
is_q p q = nat_le p q && nat_lt q PRIOR_LIMIT

unfoldable pub belief : List ℕ → Reading Ratio
belief bytes = do
  p ← ruled w64 is_p bytes
  q ← ruled w64 (is_q p.0) p.1
  Ok (record { p = p.0; q = q.0 }, q.1)

unfoldable pub row : List ℕ → List ℕ → Reading Row
row before bytes = do
  d ← docno_behind before bytes
  f ← belief d.1
  Ok (record { docno = d.0; belief = f.0 }, f.1)

unfoldable pub rows : List ℕ → Reading (List Row)
rows bytes = do
  n ← ruled w32 (λ n. nat_le n MAX_PRIOR_ROWS) bytes
  repeat row (λ _ r. r.docno) n.0 [] n.1

-- nothing behind 0, a belief behind 1
abbrev pub rest_behind : ℕ → List ℕ → Reading (Option Ratio)
rest_behind flag bytes = if flag == 0 then Ok (None, bytes) else (belief bytes >>= λ f. Ok (Some f.0, f.1))

unfoldable pub rest : List ℕ → Reading (Option Ratio)
rest bytes = do
  flag ← ruled_byte (λ n. nat_le n 1) bytes
  rest_behind flag.0 flag.1

unfoldable pub prior_fields : List ℕ → Reading PriorTable
prior_fields bytes = do
  m ← ruled_front 8 (λ x. pointwise nat_eq x prior_magic) bytes
  r ← rest m.1
  rs ← rows r.1
  Ok (record { rest = r.0; rows = rs.0 }, rs.1)

abbrev pub prior_file : List ℕ → Result PriorTable ℕ
prior_file bytes = whole (λ _. true) (λ t. t) (prior_fields bytes)

-- ---- writing

abbrev pub spelled_belief : Ratio → List ℕ
spelled_belief f = to_le_bytes w64 f.p ++ to_le_bytes w64 f.q

abbrev pub spelled_row : Row → List ℕ
spelled_row r = spelled_text r.docno ++ spelled_belief r.belief

abbrev pub spelled_rows : List Row → List ℕ
spelled_rows rs = to_le_bytes w32 (length rs) ++ flat_map spelled_row rs

abbrev pub flag_of : Option Ratio → ℕ
flag_of None = 0
flag_of (Some f) = 1

abbrev pub belief_behind : Option Ratio → List ℕ
belief_behind None = []
belief_behind (Some f) = spelled_belief f

abbrev pub spelled_rest : Option Ratio → List ℕ
spelled_rest r = flag_of r ∷ belief_behind r

-- the bytes of a prior's file
abbrev pub prior_text : PriorTable → List ℕ
prior_text t = prior_magic ++ (spelled_rest t.rest ++ spelled_rows t.rows)
