-- Texts in UTF-8.
use Rattle.std.proofs.Common.{ℕ, ◌≡◌, true, false, List, sym, refl, Bool}
use Rattle.std.specs.Str.{IsUtf8, is_utf8}
use Rattle.std.proofs.lemmas.Str.{IsUtf8-from_is_utf8, is_utf8-from_IsUtf8}

pub is_text : (text : List ℕ) → IsUtf8 text → true ≡ is_utf8 text
is_text text h = sym (is_utf8-from_IsUtf8 text h)

fails : (v : Bool) → (v ≡ true → ⊥) → false ≡ v
fails true never = absurd (never refl)
fails false never = refl

pub is_no_text : (text : List ℕ) → ¬ (IsUtf8 text) → false ≡ is_utf8 text
is_no_text text h = fails (is_utf8 text) (λ e. h (IsUtf8-from_is_utf8 text e))
