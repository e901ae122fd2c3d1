-- Open queries at their places, of which one is changed.
use Rattle.std.proofs.Common.{◌≡◌, ℕ, zero, suc, ◌<◌, Bool, true, false, List, [], ◌∷◌, length, take, drop, get_or, set, map, refl, sym, ap, subst, ◌∙◌, arith, cond, Some, None, Option}
use Rattle.std.proofs.Math.Dec.{ltb}
use Rattle.std.proofs.lemmas.Bool.{ltb-false}
use Rattle.std.proofs.lemmas.List.Elements.{All-append, All-drop, All-take}
use Rattle.std.proofs.lemmas.List.Quantifiers.{position-Some}
use Rattle.std.proofs.lemmas.List.Sums.{fails_before_first}
use Rattle.std.specs.List.{All, position, position_or_len, remove}
use Rattle.std.specs.Prelude.{bytes_eq, is_some, if◌then◌else◌}
use Rattle.store_ends.specs.Files.{Files}
use Rattle.desk.specs.Queries.{query_of}
use Rattle.desk.specs.State.{Query, advanced, closed, named, stepped}
use Rattle.desk.specs.declared.query.OpenQuery.{OpenQuery}

-- whether it has that name
abbrev pub is_named : List ℕ → OpenQuery → Bool
is_named name q = bytes_eq q.name name

-- The place of a name: it has the name, and none before it has.
pub record IsPlace (name : List ℕ) (qs : List OpenQuery) (i : ℕ) (d : OpenQuery) : Type 0 where
  pub within : i < length qs
  pub has : is_named name (get_or qs i d) ≡ true
  pub first : (k : ℕ) → k < i → is_named name (get_or qs k d) ≡ false

pub found-place : (name : List ℕ) (qs : List OpenQuery) (i : ℕ) (d : OpenQuery) → position (is_named name) qs ≡ Some i → IsPlace name qs i d
found-place name qs i d e = let found = position-Some (is_named name) qs i d e in record { within = found.0; has = found.1; first = found.2 }

not-found : (name : List ℕ) (qs : List OpenQuery) (d : OpenQuery) (b : Bool) → ltb (position_or_len (is_named name) qs) (length qs) ≡ b → cond b (Some (position_or_len (is_named name) qs)) None ≡ None
    → (k : ℕ) → k < length qs → is_named name (get_or qs k d) ≡ false
not-found name qs d true is e k lt = absurd (cc)
not-found name qs d false is e k lt = let le = ltb-false (position_or_len (is_named name) qs) (length qs) is in fails_before_first (is_named name) qs k d (omega (arith, le, lt))

next-place : (name : List ℕ) (q : OpenQuery) (qs : List OpenQuery) (i : ℕ) (d : OpenQuery) → IsPlace name (q ∷ qs) (suc i) d → IsPlace name qs i d
next-place name q qs i d p = let within = p.within in record { within = omega (arith, within); has = p.has; first = λ k lt. p.first (suc k) (omega (arith, lt)) }

pub named-at : (told : Option Files) (name : List ℕ) (qs : List OpenQuery) (i : ℕ) (d : OpenQuery) → IsPlace name qs i d → named name (map (query_of told) qs) ≡ Some (query_of told (get_or qs i d))
named-at told name [] i d p = let within = p.within in absurd (omega (arith, within))
named-at told name (q ∷ qs) zero d p = ap (λ (b : Bool). if b then Some (query_of told q) else named name (map (query_of told) qs)) p.has
named-at told name (q ∷ qs) (suc i) d p =
    ap (λ (b : Bool). if b then Some (query_of told q) else named name (map (query_of told) qs)) (p.first zero (omega arith)) ∙ named-at told name qs i d (next-place name q qs i d p)

none-named : (told : Option Files) (name : List ℕ) (qs : List OpenQuery) (d : OpenQuery) → ((k : ℕ) → k < length qs → is_named name (get_or qs k d) ≡ false) → named name (map (query_of told) qs) ≡ None
none-named told name [] d none = refl
none-named told name (q ∷ qs) d none =
    ap (λ (b : Bool). if b then Some (query_of told q) else named name (map (query_of told) qs)) (none zero (omega arith)) ∙ none-named told name qs d (λ k lt. none (suc k) (omega (arith, lt)))

pub named-none : (told : Option Files) (name : List ℕ) (qs : List OpenQuery) → position (is_named name) qs ≡ None → named name (map (query_of told) qs) ≡ None
named-none told name [] e = refl
named-none told name (q ∷ qs) e = none-named told name (q ∷ qs) q (not-found name (q ∷ qs) q _ refl e)

-- one query is advanced
pub stepped-at : (told now : Option Files) (name : List ℕ) (docs : ℕ) (qs : List OpenQuery) (i : ℕ) (d new : OpenQuery) → now ≡ told → IsPlace name qs i d → query_of told new ≡ advanced docs (query_of told (get_or qs i d))
    → map (query_of now) (set qs i new) ≡ stepped name docs (map (query_of told) qs)
stepped-at told now name docs qs i d new same p e = ap (λ (f : Option Files). map (query_of f) (set qs i new)) same ∙ go qs i p e
  where
    go : (qs : List OpenQuery) (i : ℕ) → IsPlace name qs i d → query_of told new ≡ advanced docs (query_of told (get_or qs i d)) → map (query_of told) (set qs i new) ≡ stepped name docs (map (query_of told) qs)
    go [] i p e = let within = p.within in absurd (omega (arith, within))
    go (q ∷ qs) zero p e =
        ap (λ (x : Query). x ∷ map (query_of told) qs) e
        ∙ sym (ap (λ (b : Bool). if b then advanced docs (query_of told q) ∷ map (query_of told) qs else query_of told q ∷ stepped name docs (map (query_of told) qs)) p.has)
    go (q ∷ qs) (suc i) p e =
        ap (λ xs. query_of told q ∷ xs) (go qs i (next-place name q qs i d p) e)
        ∙ sym (ap (λ (b : Bool). if b then advanced docs (query_of told q) ∷ map (query_of told) qs else query_of told q ∷ stepped name docs (map (query_of told) qs)) (p.first zero (omega arith)))

-- one query is taken out
pub closed-at : (told : Option Files) (name : List ℕ) (qs : List OpenQuery) (i : ℕ) (d : OpenQuery) → IsPlace name qs i d → map (query_of told) (remove qs i) ≡ closed name (map (query_of told) qs)
closed-at told name [] i d p = let within = p.within in absurd (omega (arith, within))
closed-at told name (q ∷ qs) zero d p =
    sym (ap (λ (b : Bool). if b then map (query_of told) qs else query_of told q ∷ closed name (map (query_of told) qs)) p.has)
closed-at told name (q ∷ qs) (suc i) d p =
    ap (λ xs. query_of told q ∷ xs) (closed-at told name qs i d (next-place name q qs i d p))
    ∙ sym (ap (λ (b : Bool). if b then map (query_of told) qs else query_of told q ∷ closed name (map (query_of told) qs)) (p.first zero (omega arith)))

pub All-remove : {X : Type 0} (P : X → Type 0) (xs : List X) (i : ℕ) → All P xs → All P (remove xs i)
All-remove P xs i all = All-append P (take i xs) (drop (suc i) xs) (All-take P i xs all) (All-drop P (suc i) xs all)

pub named-here : (told : Option Files) (name : List ℕ) (qs : List OpenQuery) (i : ℕ) (d : OpenQuery) → IsPlace name qs i d → d ≡ get_or qs i d → named name (map (query_of told) qs) ≡ Some (query_of told d)
named-here told name qs i d p is = named-at told name qs i d p ∙ ap (λ q. Some (query_of told q)) (sym is)

-- what holds of all queries holds of the one at a place
pub at-place : (P : OpenQuery → Type 0) (qs : List OpenQuery) (i : ℕ) (d : OpenQuery) → i < length qs → d ≡ get_or qs i d → All P qs → P d
at-place P qs i d lt is all = subst P (sym is) (all i d lt)

-- whether a name is taken
taken-by : (told : Option Files) (name : List ℕ) (qs : List OpenQuery) (d : OpenQuery) (b : Bool) (o : Option ℕ) → position (is_named name) qs ≡ o → is_some o ≡ b → is_some (named name (map (query_of told) qs)) ≡ b
taken-by told name qs d b None e is = ap is_some (named-none told name qs e) ∙ is
taken-by told name qs d b (Some i) e is = ap is_some (named-at told name qs i d (found-place name qs i d e)) ∙ is

pub is-taken : (told : Option Files) (name : List ℕ) (qs : List OpenQuery) (b : Bool) → is_some (position (is_named name) qs) ≡ b → is_some (named name (map (query_of told) qs)) ≡ b
is-taken told name [] b is = is
is-taken told name (q ∷ qs) b is = taken-by told name (q ∷ qs) q b _ refl is
