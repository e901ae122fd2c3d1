-- What is given for names, one behind the other.
use Rattle.std.proofs.Common.{◌≡◌, ℕ, Bool, true, false, not, List, [], ◌∷◌, ◌++◌, bytes_eq, refl, sym, inl, inr, ◌⊎◌}
use Rattle.std.proofs.lemmas.Bool.{and_from, and_parts, and_right, both_ways, false≢true, false_from_ne_true, not-true, not_from_false, or_cases, or_from, or_left, or_parts, or_right}
use Rattle.std.proofs.lemmas.Slice.Eq.{bytes_eq-Decides}
use Rattle.std.specs.List.{list_any}
use Rattle.command_words.specs.Given.{Named, are_apart, has_name}

pub same_bytes : (a b : List ℕ) → bytes_eq a b ≡ true → a ≡ b
same_bytes a b = (bytes_eq-Decides a b).0

pub bytes_same : (a b : List ℕ) → a ≡ b → bytes_eq a b ≡ true
bytes_same a b = (bytes_eq-Decides a b).1

pub itself : (a : List ℕ) → bytes_eq a a ≡ true
itself a = bytes_same a a refl

turned : (a b : List ℕ) → bytes_eq a b ≡ true → bytes_eq b a ≡ true
turned a b e = bytes_same b a (sym (same_bytes a b e))

differ_turned : (a b : List ℕ) → bytes_eq a b ≡ false → bytes_eq b a ≡ false
differ_turned a b e = false_from_ne_true (bytes_eq b a) (λ t. both_ways (bytes_eq a b) e (turned b a t))

any_at : (p : Named → Bool) (all : List Named) (g : Named) (rest : List Named) → p g ≡ true → list_any p (all ++ g ∷ rest) ≡ true
any_at p [] g rest h = or_left (p g) (list_any p rest) h
any_at p (x ∷ all) g rest h = or_right (p x) (list_any p (all ++ g ∷ rest)) (any_at p all g rest h)

any_push : (p : Named → Bool) (all : List Named) (g : Named) → list_any p all ≡ false → p g ≡ false → list_any p (all ++ g ∷ []) ≡ false
any_push p [] g none h = or_from (p g) false h refl
any_push p (x ∷ all) g none h =
    let parts = or_parts (p x) (list_any p all) none in
    or_from (p x) (list_any p (all ++ g ∷ [])) parts.0 (any_push p all g parts.1 h)

module _ (x g : Named) (all rest : List Named) where
  apart_at : (bytes_eq x.0 g.0 ≡ true) ⊎ (list_any (has_name g.0) all ≡ true) → (list_any (has_name g.0) all ≡ true → are_apart (all ++ g ∷ rest) ≡ false)
      → are_apart (x ∷ (all ++ g ∷ rest)) ≡ false
  apart_at (inl same) further = rw (any_at (has_name x.0) all g rest (turned x.0 g.0 same)) refl
  apart_at (inr there) further = and_right (not (list_any (has_name x.0) (all ++ g ∷ rest))) (are_apart (all ++ g ∷ rest)) (further there)

-- a name that is there already is given twice
pub not_apart : (all : List Named) (g : Named) (rest : List Named) → list_any (has_name g.0) all ≡ true → are_apart (all ++ g ∷ rest) ≡ false
not_apart [] g rest e = absurd (false≢true e)
not_apart (x ∷ all) g rest e = apart_at x g all rest (or_cases (bytes_eq x.0 g.0) (list_any (has_name g.0) all) e) (not_apart all g rest)

pub apart_more : (all : List Named) (g : Named) → are_apart all ≡ true → list_any (has_name g.0) all ≡ false → are_apart (all ++ g ∷ []) ≡ true
apart_more [] g apart new = refl
apart_more (x ∷ all) g apart new =
    let parts = and_parts (not (list_any (has_name x.0) all)) (are_apart all) apart in
    let others = or_parts (bytes_eq x.0 g.0) (list_any (has_name g.0) all) new in
    let none : list_any (has_name x.0) all ≡ false = not-true (list_any (has_name x.0) all) parts.0 in
    and_from (not (list_any (has_name x.0) (all ++ g ∷ []))) (are_apart (all ++ g ∷ []))
    (not_from_false _ (any_push (has_name x.0) all g none (differ_turned x.0 g.0 others.0)))
    (apart_more all g parts.1 others.1)
