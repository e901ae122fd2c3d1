-- What a text has are terms.
use Rattle.std.proofs.Common.{ℕ, ◌≡◌, Bool, true, false, List, [], ◌∷◌, map, refl, ◌⊎◌, inl, inr}
use Rattle.std.specs.Prelude.{filter}
use Rattle.ri_base.specs.Text.{is_term}
use Rattle.unicode_segmentation.specs.Word.{words}
use Rattle.tokens.specs.Words.{text_terms, folded}

abbrev pub AllTerms : List (List ℕ) → Type 0
AllTerms [] = Unit {0}
AllTerms (t ∷ ts) = (is_term t ≡ true) × AllTerms ts

which : (b : Bool) → (b ≡ true) ⊎ (b ≡ false)
which true = inl refl
which false = inr refl

filtered : (ws : List (List ℕ)) → AllTerms (filter is_term ws)
filtered [] = tt
filtered (w ∷ ws) = elim (which (is_term w)) [
  | inl is ↦ rw is (is, filtered ws)
  | inr isnt ↦ rw isnt (filtered ws)
]

pub are_terms : (text : List ℕ) → AllTerms (text_terms text)
are_terms text = filtered (map folded (words text))
