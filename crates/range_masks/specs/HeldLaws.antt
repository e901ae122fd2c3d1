-- What the blocks that are held tell after reading they told before.
use Rattle.std.proofs.Common.{◌≡◌, ◌⊎◌, ℕ, List, inl, inr, subst}
use Rattle.range_masks.specs.Held.{Held, IsAnswered}

pub answered-before : (h k : Held) (term : List ℕ) (id : ℕ) (Now Before : Type 0) → k ≡ h → (Now → Before) → IsAnswered k term id ⊎ Now → IsAnswered h term id ⊎ Before
answered-before h k term id Now Before same before now = elim now [ inl held ↦ inl (subst (λ (x : Held). IsAnswered x term id) same held) | inr here ↦ inr (before here) ]
