-- Reading bytes from left to right.
use Rattle.std.specs.Prelude.{ℕ, zero, suc, Bool, List, [], ◌∷◌, length, Result, Ok, Err, ◌==◌, if◌then◌else◌}

-- A reading gives a value and the bytes behind it. Where a field breaks its rule, it gives the number of bytes from the
-- begin of the first such field on, so the end of the bytes tells where that field begins.
abbrev pub Reading : Type 0 → Type 0
Reading A = Result (A × List ℕ) ℕ

-- one reading, and then another of the bytes behind it
infixl 10 ◌>>=◌
abbrev pub ◌>>=◌ : {A B : Type 0} → Reading A → (A × List ℕ → Reading B) → Reading B
(Ok x) >>= f = f x
(Err left) >>= f = Err left

-- a field where it keeps its rule; else the bytes are broken at the field's begin
abbrev pub kept : {A : Type 0} → Bool → A × List ℕ → List ℕ → Reading A
kept rule field bytes = if rule then Ok field else Err (length bytes)

-- so many, one behind the other; what is read of one depends on those before it
unfoldable pub repeat : {S A : Type 0} → (S → List ℕ → Reading A) → (S → A → S) → ℕ → S → List ℕ → Reading (List A)
repeat one next zero s bytes = Ok ([], bytes)
repeat one next (suc n) s bytes = do
  x ← one s bytes
  xs ← repeat one next n (next s x.0) x.1
  Ok (x.0 ∷ xs.0, xs.1)

-- All of the bytes: none stands behind the last field, and then a rule of the whole part is tested at its end.
abbrev pub whole : {A B : Type 0} → (A → Bool) → (A → B) → Reading A → Result B ℕ
whole rule view (Ok x) = if length x.1 == 0 then (if rule x.0 then Ok (view x.0) else Err 0) else Err (length x.1)
whole rule view (Err left) = Err left

-- each keeps its rule behind those before it
abbrev pub AllFit : {S A : Type 0} → (S → A → Type 0) → (S → A → S) → S → List A → Type 0
AllFit fits next s [] = Unit {0}
AllFit fits next s (x ∷ xs) = fits s x × AllFit fits next (next s x) xs
