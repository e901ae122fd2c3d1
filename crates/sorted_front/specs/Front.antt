-- The first of a list in order, as a function of the list.
use Rattle.std.specs.Prelude.{◌≡◌, ℕ, List, [], ◌∷◌, take, if◌then◌else◌}
use Rattle.std.specs.List.{Contains}
use Rattle.std.specs.Ordering.{is_lt}
use Rattle.std.specs.declared.cmp.Ordering.{Ordering}
use Rattle.std.specs.declared.cmp.Ordering.TheVariants.{Equal}

module _ {X : Type 0} (order : X → X → Ordering) where
  -- x before the first that isn't less
  abbrev pub into : X → List X → List X
  into x [] = x ∷ []
  into x (y ∷ ys) = if is_lt (order y x) then y ∷ into x ys else x ∷ y ∷ ys

  -- all in order; what ties stays as it stood
  abbrev pub in_order : List X → List X
  in_order [] = []
  in_order (x ∷ xs) = into x (in_order xs)

  -- the first k in order
  abbrev pub front : ℕ → List X → List X
  front k xs = take k (in_order xs)

  -- two elements that tie show the same
  abbrev pub TiesShow : {Y : Type 0} → (X → Y) → List X → Type 0
  TiesShow shows xs = (x y : X) → Contains xs x → Contains xs y → order x y ≡ Equal → shows x ≡ shows y

  -- two elements that tie are the same
  abbrev pub TellsApart : List X → Type 0
  TellsApart xs = TiesShow (λ x. x) xs
