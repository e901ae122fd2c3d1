-- The terms of some texts, computed.
use Rattle.std.proofs.Common.{◌≡◌, [], ◌∷◌, codes, refl}
use Rattle.tokens.specs.Words.{text_terms}
use Rattle.tokens.proofs.Computing.{tokens}

ascii : text_terms (codes "Don't stop 3.14, state-of-the") ≡ codes "don't" ∷ codes "stop" ∷ codes "3.14" ∷ codes "state" ∷ codes "of" ∷ codes "the" ∷ []
unfolding tokens
ascii = refl

no_word : text_terms (codes "!?-") ≡ []
unfolding tokens
no_word = refl
