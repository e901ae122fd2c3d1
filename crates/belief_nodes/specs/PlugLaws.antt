-- The fractions of both kinds of priors are beliefs.
use Rattle.std.specs.Prelude.{ℕ, List, [], ◌∷◌, ◌++◌, map, All}
use Rattle.std.proofs.lemmas.List.Elements.{All-append, All-cons, All-nil}
use Rattle.ri_base.specs.Ratio.{IsBelief, ratio_of}
use Rattle.ri_base.specs.declared.fraction.Fraction.{Fraction}
use Rattle.belief_nodes.specs.Plugs.{told_of}

fraction_is_belief : (f : Fraction) → IsBelief (ratio_of f)
fraction_is_belief f = record { positive = f.positive; at_most_one = f.at_most_one; fits = f.fits }

told_are_beliefs : {X : Type 0} (entries : List (X × Fraction)) → All IsBelief (map (λ entry. entry.1) (told_of entries))
told_are_beliefs [] = All-nil IsBelief
told_are_beliefs (entry ∷ entries) =
    All-cons IsBelief (ratio_of entry.1) (map (λ e. e.1) (told_of entries)) (fraction_is_belief entry.1) (told_are_beliefs entries)

-- the rest, rows and steps
pub all_are_beliefs : (rest : Fraction) (rows : List (List ℕ × Fraction)) (steps : List (ℕ × Fraction))
    → All IsBelief (ratio_of rest ∷ map (λ row. row.1) (told_of rows) ++ map (λ step. step.1) (told_of steps))
all_are_beliefs rest rows steps =
    All-cons IsBelief (ratio_of rest) (map (λ row. row.1) (told_of rows) ++ map (λ step. step.1) (told_of steps)) (fraction_is_belief rest)
    (All-append IsBelief (map (λ row. row.1) (told_of rows)) (map (λ step. step.1) (told_of steps)) (told_are_beliefs rows) (told_are_beliefs steps))
