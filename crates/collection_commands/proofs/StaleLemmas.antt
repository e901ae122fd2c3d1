-- Stale files, one of which is new.
use Rattle.std.proofs.Common.{◌≡◌, ℕ, Bool, true, false, List, [], ◌∷◌, Option, None, Some, refl}
use Rattle.std.specs.List.{All}
use Rattle.std.specs.Prelude.{nat_le}
use Rattle.std.proofs.lemmas.List.Elements.{All-cons, All-head, All-nil, All-tail}
use Rattle.store_ends.specs.Files.{Files}
use Rattle.repository.specs.Stale.{with_old, with_stale}
use Rattle.repository.specs.Writes.{AreGone, IsGone}

one-without : (P : ℕ → Type 0) (m : ℕ) (ms : List ℕ) (n : ℕ) (b : Bool) → nat_le n m ≡ b → (All P (with_stale ms n) → All P ms) → All P (with_stale (m ∷ ms) n) → All P (m ∷ ms)
one-without P m ms n true e rest all = All-tail P n (m ∷ ms) (rw e at all)
one-without P m ms n false e rest all =
    let here : All P (m ∷ with_stale ms n) = rw e at all in
    All-cons P m ms (All-head P m (with_stale ms n) here) (rest (All-tail P m (with_stale ms n) here))

without : (P : ℕ → Type 0) (ms : List ℕ) (n : ℕ) → All P (with_stale ms n) → All P ms
without P [] n all = All-nil P
without P (m ∷ ms) n all = one-without P m ms n (nat_le n m) refl (without P ms n) all

-- those before are gone where all are
pub gone-old : (stale : List ℕ) (old : Option ℕ) (told : Option Files) → AreGone (with_old stale old) told → AreGone stale told
gone-old stale None told gone = gone
gone-old stale (Some n) told gone = without (λ m. IsGone m told) stale n gone
