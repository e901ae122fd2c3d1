-- the places of terms among tokens, of which there is one more
use Rattle.std.proofs.Common.{◌≡◌, ◌<◌, ℕ, zero, suc, ◌+◌, List, [], ◌∷◌, ◌++◌, length, take, get_or, Bool, true, false, cond, Option, Some, None, IfSome, refl, sym, ap, subst, ◌∙◌, add-zero, arith}
use Rattle.std.specs.Str.{bytes_eq}
use Rattle.std.proofs.lemmas.List.{length-take-le, take_more}
use Rattle.std.proofs.lemmas.Slice.Eq.{bytes_eq-Decides}
use Rattle.ri_base.specs.Collection.{document_at}
use Rattle.ri_base.specs.Documents.{Document}
use Rattle.ri_base.specs.Places.{places, places_from}
use Rattle.ri_base.proofs.ListLemmas.{append_nil}

pub places_push : (i : ℕ) (t x : List ℕ) (xs : List (List ℕ)) → places_from i t (xs ++ x ∷ []) ≡ places_from i t xs ++ cond (bytes_eq x t) ((i + length xs) ∷ []) []
places_push i t x [] = ap (λ n. cond (bytes_eq x t) (n ∷ []) []) (sym (add-zero i))
places_push i t x (y ∷ xs) =
    let rest : places_from (i + 1) t (xs ++ x ∷ []) ≡ places_from (i + 1) t xs ++ cond (bytes_eq x t) ((i + length (y ∷ xs)) ∷ []) [] =
    places_push (i + 1) t x xs ∙ ap (λ n. places_from (i + 1) t xs ++ cond (bytes_eq x t) (n ∷ []) []) (omega arith) in
    by (bytes_eq y t) rest
  where
    by : (b : Bool) → places_from (i + 1) t (xs ++ x ∷ []) ≡ places_from (i + 1) t xs ++ cond (bytes_eq x t) ((i + length (y ∷ xs)) ∷ []) []
        → cond b (i ∷ places_from (i + 1) t (xs ++ x ∷ [])) (places_from (i + 1) t (xs ++ x ∷ []))
        ≡ cond b (i ∷ places_from (i + 1) t xs) (places_from (i + 1) t xs) ++ cond (bytes_eq x t) ((i + length (y ∷ xs)) ∷ []) []
    by true e = ap (λ l. i ∷ l) e
    by false e = e

push_here : (t x : List ℕ) (xs : List (List ℕ)) → bytes_eq x t ≡ true → places_from 0 t (xs ++ x ∷ []) ≡ places_from 0 t xs ++ length xs ∷ []
push_here t x xs e = places_push 0 t x xs ∙ ap (λ b. places_from 0 t xs ++ cond b ((0 + length xs) ∷ []) []) e ∙ ap (λ n. places_from 0 t xs ++ n ∷ []) (omega arith)

push_other : (t x : List ℕ) (xs : List (List ℕ)) → bytes_eq x t ≡ false → places_from 0 t (xs ++ x ∷ []) ≡ places_from 0 t xs
push_other t x xs e = places_push 0 t x xs ∙ ap (λ b. places_from 0 t xs ++ cond b ((0 + length xs) ∷ []) []) e ∙ append_nil (places_from 0 t xs)

-- what is kept of each term are its places among the tokens
abbrev AreIn : (List ℕ → Option (List ℕ)) → List (List ℕ) → Type 0
AreIn found tokens = (t : List ℕ) → IfSome (found t) (λ places. places ≡ places_from 0 t tokens)

-- a token whose places are kept
pub noted : (x : List ℕ) (xs : List (List ℕ)) (old new : List ℕ → Option (List ℕ)) (places : List ℕ)
    → ((t : List ℕ) → bytes_eq x t ≡ true → new t ≡ Some (places ++ length xs ∷ []))
    → ((t : List ℕ) → bytes_eq x t ≡ false → new t ≡ old t)
    → old x ≡ Some places → AreIn old xs → AreIn new (xs ++ x ∷ [])
noted x xs old new places here others is known t = by (bytes_eq x t) refl
  where
    before : places ≡ places_from 0 x xs
    before = subst (λ (o : Option (List ℕ)). IfSome o (λ ps. ps ≡ places_from 0 x xs)) is (known x)

    by : (b : Bool) → bytes_eq x t ≡ b → IfSome (new t) (λ ps. ps ≡ places_from 0 t (xs ++ x ∷ []))
    by true e =
        let same : x ≡ t = (bytes_eq-Decides x t).0 e in
        let now : places ++ length xs ∷ [] ≡ places_from 0 t (xs ++ x ∷ []) =
        ap (λ l. l ++ length xs ∷ []) (before ∙ ap (λ y. places_from 0 y xs) same) ∙ sym (push_here t x xs e) in
        subst (λ (o : Option (List ℕ)). IfSome o (λ ps. ps ≡ places_from 0 t (xs ++ x ∷ []))) (sym (here t e)) now
    by false e =
        subst (λ (o : Option (List ℕ)). IfSome o (λ ps. ps ≡ places_from 0 t (xs ++ x ∷ []))) (sym (others t e))
        (subst (λ (l : List ℕ). IfSome (old t) (λ ps. ps ≡ l)) (sym (push_other t x xs e)) (known t))

-- a token whose places aren't
pub passed : (x : List ℕ) (xs : List (List ℕ)) (old : List ℕ → Option (List ℕ)) → old x ≡ None → AreIn old xs → AreIn old (xs ++ x ∷ [])
passed x xs old is known t = by (bytes_eq x t) refl
  where
    by : (b : Bool) → bytes_eq x t ≡ b → IfSome (old t) (λ ps. ps ≡ places_from 0 t (xs ++ x ∷ []))
    by true e =
        let same : x ≡ t = (bytes_eq-Decides x t).0 e in
        subst (λ (o : Option (List ℕ)). IfSome o (λ ps. ps ≡ places_from 0 t (xs ++ x ∷ []))) (sym (ap old (sym same) ∙ is)) tt
    by false e = subst (λ (l : List ℕ). IfSome (old t) (λ ps. ps ≡ l)) (sym (push_other t x xs e)) (known t)

-- a term that is entered before a token was seen
pub entered : (x : List ℕ) (old new : List ℕ → Option (List ℕ))
    → ((t : List ℕ) → new t ≡ cond (bytes_eq x t) (Some []) (old t))
    → AreIn old [] → AreIn new []
entered x old new updates known t = by (bytes_eq x t) (updates t)
  where
    by : (b : Bool) → new t ≡ cond b (Some []) (old t) → IfSome (new t) (λ ps. ps ≡ [])
    by true e = subst (λ (o : Option (List ℕ)). IfSome o (λ ps. ps ≡ [])) (sym e) refl
    by false e = subst (λ (o : Option (List ℕ)). IfSome o (λ ps. ps ≡ [])) (sym e) (known t)

-- the places among one token more
pub places_more : (t : List ℕ) (xs : List (List ℕ)) (i : ℕ) → i < length xs → places_from 0 t (take (i + 1) xs) ≡ places_from 0 t (take i xs) ++ cond (bytes_eq (get_or xs i []) t) (i ∷ []) []
places_more t xs i inside =
    let count : 0 + length (take i xs) ≡ i = omega (arith, length-take-le i xs) in
    ap (places_from 0 t) (take_more xs i [] inside) ∙ places_push 0 t (get_or xs i []) (take i xs)
    ∙ ap (λ n. places_from 0 t (take i xs) ++ cond (bytes_eq (get_or xs i []) t) (n ∷ []) []) count

-- the one document of a list
pub alone : (docs : List Document) (d : Document) (id : ℕ) → docs ≡ d ∷ [] → id < length docs → document_at docs id ≡ d
alone docs d id is inside = ap (λ l. document_at l id) is ∙ first id (subst (λ (l : List Document). id < length l) is inside)
  where
    first : (i : ℕ) → i < 1 → document_at (d ∷ []) i ≡ d
    first zero low = refl
    first (suc i) low = absurd (omega (arith, low))

-- what is known of a term are its places in the document
pub known_in : (found : List ℕ → Option (List ℕ)) (t ps : List ℕ) (d : Document) → AreIn found d.tokens → found t ≡ Some ps → ps ≡ places t d
unfolding places
known_in found t ps d known is = subst (λ (o : Option (List ℕ)). IfSome o (λ l. l ≡ places_from 0 t d.tokens)) is (known t)

pub searched : (t : List ℕ) (d : Document) → places_from 0 t d.tokens ≡ places t d
unfolding places
searched t d = refl
