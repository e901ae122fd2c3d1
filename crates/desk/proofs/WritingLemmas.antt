-- What the files stand for once a call that writes has answered, and at each moment.
use Rattle.std.proofs.Common.{◌≡◌, ◌≤◌, inl, inr, ℕ, List, Option, Some, sym, subst}
use Rattle.store_ends.specs.Files.{Files, Leaves, SameWhere}
use Rattle.store_ends.proofs.Files.{Leaves-now, Leaves-then, SameWhere-told}
use Rattle.holdings.specs.declared.limits.Limits.{Limits}
use Rattle.repository.specs.Stands.{Collection, Stands}
use Rattle.repository.specs.Writes.{IsEither}

module _ {S : Type 0} (files : S → Option Files) (clock : S → ℕ) (since : S → ℕ → Files → Type 0) (limits : Limits) (kept c : Collection) (old new : S) where
  -- whatever it answered
  pub either-now : (P : List ℕ → Type 0) → ((t : ℕ) (f : Files) → t ≤ clock new → files new ≡ Some f → since new t f) → ((f : Files) → since old (clock old) f → files old ≡ Some f) → clock old ≤ clock new
      → SameWhere P (files old) (files new) → Stands limits (files old) kept → Leaves (since old) (since new) (IsEither limits kept c) → IsEither limits kept c (files new)
  either-now P honest still later same stands leaves =
      let told = SameWhere-told P (files old) (files new) stands.has.files same stands.has.is_told in
      let left = Leaves-now files clock since old new (IsEither limits kept c) told.0 honest still later leaves told.1 in
      subst (IsEither limits kept c) (sym told.1) (elim left [
        | inl here ↦ inl (subst (λ (f : Option Files). Stands limits f kept) here stands)
        | inr either ↦ either
      ])

-- where both are the same
pub one-of : (limits : Limits) (c : Collection) (f : Option Files) → IsEither limits c c f → Stands limits f c
one-of limits c f either = elim either [ inl s ↦ s | inr s ↦ s ]

-- one call more, before and behind which they stand for the same
pub then-same : (past mid since : ℕ → Files → Type 0) (limits : Limits) (kept c : Collection) → Leaves past mid (IsEither limits kept c) → Leaves mid since (IsEither limits c c) → Leaves past since (IsEither limits kept c)
then-same past mid since limits kept c first second = Leaves-then past mid since (IsEither limits kept c) (IsEither limits c c) first second (λ f either. inr (one-of limits c f either))

-- nothing was written
pub none-written : (past since : ℕ → Files → Type 0) (P : Option Files → Type 0) → ((t : ℕ) (f : Files) → since t f → past t f) → Leaves past since P
none-written past since P no_more = record { each = λ t f left. inl (no_more t f left) }
