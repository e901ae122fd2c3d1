-- Fields that are open, kept by their names.
use Rattle.std.proofs.Common.{ℕ, ◌≡◌, List, [], Option, false, ap, sym, ◌∙◌}
use Rattle.std.specs.BTreeMap.{is_at}
use Rattle.std.specs.Cmp.Lexicographic.{slice_cmp, texts_ties}
use Rattle.std.specs.Option.{option_map, unwrap_or}
use Rattle.std.specs.Ordering.{nat_cmp}
use Rattle.std.specs.Str.{bytes_eq}
use Rattle.std.proofs.lemmas.Cmp.{nat_list_eq_equiv}

-- names that differ are apart in the order
pub apart : (name other : List ℕ) → bytes_eq other name ≡ false → is_at (slice_cmp nat_cmp name) other ≡ false
apart name other h = sym (texts_ties name other) ∙ nat_list_eq_equiv.symm name other ∙ h

-- what is found at a name stays
pub items_stay : {V : Type 0} (items : V → List ℕ) (old new : Option V) → new ≡ old → unwrap_or (option_map items new) [] ≡ unwrap_or (option_map items old) []
items_stay items old new e = ap (λ found. unwrap_or (option_map items found) []) e
