-- Whether a part is being filled.
use Rattle.std.proofs.Common.{◌≡◌, false, List, [], ◌∷◌, length, nat_lt, refl, ap, arith}
use Rattle.std.proofs.lemmas.Bool.{ltb-false}
use Rattle.ri_base.specs.Documents.{Document}

pub none_filling : (ds : List Document) → nat_lt 0 (length ds) ≡ false → ds ≡ []
none_filling [] is = refl
none_filling (d ∷ ds) is = (let none = ltb-false 0 (length (d ∷ ds)) is in absurd (omega (arith, none)))

pub filling_none : (ds : List Document) → ds ≡ [] → nat_lt 0 (length ds) ≡ false
filling_none ds is = ap (λ (l : List Document). nat_lt 0 (length l)) is
