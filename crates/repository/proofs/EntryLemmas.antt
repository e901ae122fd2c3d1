-- An entry of a prior is put in its place.
use Rattle.std.proofs.Common.{◌≡◌, ◌<◌, ℕ, zero, suc, cond, Bool, true, false, List, [], ◌∷◌, ◌++◌, Option, None, Some, length, set, get_or, refl, sym, ap, ◌∙◌, arith}
use Rattle.std.proofs.Math.Dec.{ltb}
use Rattle.std.proofs.lemmas.Bool.{ltb-false}
use Rattle.std.proofs.lemmas.List.Quantifiers.{position-Some}
use Rattle.std.proofs.lemmas.List.Sums.{fails_before_first}
use Rattle.std.specs.List.{position, position_or_len}
use Rattle.manifest.specs.declared.manifest.PriorEntry.{PriorEntry}
use Rattle.repository.specs.Priors.{is_same, number_named, with_entry}

abbrev pub has_name : List ℕ → PriorEntry → Bool
has_name name e = is_same name e.name

-- the first entry of the name stands at this place
record IsFirst (es : List PriorEntry) (name : List ℕ) (i : ℕ) (d : PriorEntry) : Type 0 where
  pub within : i < length es
  pub has : is_same name (get_or es i d).name ≡ true
  pub first : (k : ℕ) → k < i → is_same name (get_or es k d).name ≡ false

set-first : (es : List PriorEntry) (name : List ℕ) (n i : ℕ) (d : PriorEntry) → IsFirst es name i d → set es i (record { name = (get_or es i d).name; number = n }) ≡ with_entry es name n
set-first [] name n i d first = absurd (let within = first.within in omega (arith, within))
set-first (e ∷ es) name n zero d first = ap (λ b. cond b (record { name = e.name; number = n } ∷ es) (e ∷ with_entry es name n)) (sym first.has)
set-first (e ∷ es) name n (suc i) d first =
    let other : is_same name e.name ≡ false = first.first 0 (omega arith) in
    ap (λ l. e ∷ l) (set-first es name n i d (record { within = (let within = first.within in omega (arith, within)); has = first.has; first = λ k below. first.first (suc k) (omega (arith, below)) }))
    ∙ ap (λ b. cond b (record { name = e.name; number = n } ∷ es) (e ∷ with_entry es name n)) (sym other)

old-first : (es : List PriorEntry) (name : List ℕ) (i : ℕ) (d : PriorEntry) → IsFirst es name i d → Some (get_or es i d).number ≡ number_named es name
old-first [] name i d first = absurd (let within = first.within in omega (arith, within))
old-first (e ∷ es) name zero d first = ap (λ b. cond b (Some e.number) (number_named es name)) (sym first.has)
old-first (e ∷ es) name (suc i) d first =
    let other : is_same name e.name ≡ false = first.first 0 (omega arith) in
    old-first es name i d (record { within = (let within = first.within in omega (arith, within)); has = first.has; first = λ k below. first.first (suc k) (omega (arith, below)) })
    ∙ ap (λ b. cond b (Some e.number) (number_named es name)) (sym other)

found : (es : List PriorEntry) (name : List ℕ) (i : ℕ) (d : PriorEntry) → position (has_name name) es ≡ Some i → IsFirst es name i d
found es name i d is = (let at = position-Some (has_name name) es i d is in record { within = at.0; has = at.1; first = at.2 })

-- what is found among the same entries by the same name
pub found-at : (es items : List PriorEntry) (name bytes : List ℕ) (o : Option ℕ) → items ≡ es → bytes ≡ name → o ≡ position (has_name bytes) items → position (has_name name) es ≡ o
found-at es items name bytes o same text is = ap (λ (x : List ℕ). position (has_name x) es) (sym text) ∙ ap (λ (l : List PriorEntry). position (has_name bytes) l) (sym same) ∙ sym is

-- ---- the entry at that place

pub place-within : (es : List PriorEntry) (name : List ℕ) (i : ℕ) (d : PriorEntry) → position (has_name name) es ≡ Some i → i < length es
place-within es name i d is = (position-Some (has_name name) es i d is).0

pub set-there : (es : List PriorEntry) (name : List ℕ) (n i : ℕ) (d : PriorEntry) → position (has_name name) es ≡ Some i → set es i (record { name = (get_or es i d).name; number = n }) ≡ with_entry es name n
set-there es name n i d is = set-first es name n i d (found es name i d is)

pub old-there : (es : List PriorEntry) (name : List ℕ) (i : ℕ) (d : PriorEntry) → position (has_name name) es ≡ Some i → Some (get_or es i d).number ≡ number_named es name
old-there es name i d is = old-first es name i d (found es name i d is)

-- ---- none is there

abbrev IsNone : List PriorEntry → List ℕ → Type 0
IsNone es name = (k : ℕ) (d : PriorEntry) → k < length es → is_same name (get_or es k d).name ≡ false

push-last : (es : List PriorEntry) (name : List ℕ) (n : ℕ) → IsNone es name → es ++ record { name = name; number = n } ∷ [] ≡ with_entry es name n
push-last [] name n none = refl
push-last (e ∷ es) name n none =
    ap (λ l. e ∷ l) (push-last es name n (λ k d below. none (suc k) d (omega (arith, below))))
    ∙ ap (λ b. cond b (record { name = e.name; number = n } ∷ es) (e ∷ with_entry es name n)) (sym (none 0 e (omega arith)))

none-last : (es : List PriorEntry) (name : List ℕ) → IsNone es name → None ≡ number_named es name
none-last [] name none = refl
none-last (e ∷ es) name none =
    none-last es name (λ k d below. none (suc k) d (omega (arith, below))) ∙ ap (λ b. cond b (Some e.number) (number_named es name)) (sym (none 0 e (omega arith)))

not-found : (es : List PriorEntry) (name : List ℕ) (d : PriorEntry) (b : Bool) → ltb (position_or_len (has_name name) es) (length es) ≡ b → cond b (Some (position_or_len (has_name name) es)) None ≡ None → (k : ℕ) → k < length es
    → is_same name (get_or es k d).name ≡ false
not-found es name d true is e k below = absurd (cc)
not-found es name d false is e k below =
    let end = ltb-false (position_or_len (has_name name) es) (length es) is in
    fails_before_first (has_name name) es k d (omega (arith, end, below))

is-none : (es : List PriorEntry) (name : List ℕ) → position (has_name name) es ≡ None → IsNone es name
is-none es name e = λ k d below. not-found es name d _ refl e k below

pub push-there : (es : List PriorEntry) (name : List ℕ) (n : ℕ) → position (has_name name) es ≡ None → es ++ record { name = name; number = n } ∷ [] ≡ with_entry es name n
push-there es name n e = push-last es name n (is-none es name e)

pub none-there : (es : List PriorEntry) (name : List ℕ) → position (has_name name) es ≡ None → None ≡ number_named es name
none-there es name e = none-last es name (is-none es name e)
