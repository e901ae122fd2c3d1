-- a token more, and a document more, are spread
use Rattle.std.proofs.Common.{◌≡◌, ◌≢◌, ◌<◌, ◌⊎◌, ℕ, ◌+◌, List, [], ◌∷◌, ◌++◌, length, map, get_or, Bool, true, false, cond, ◌==◌, refl, sym, ap, subst, ◌∙◌, inl, inr, arith, append_assoc, add-zero, set, length-set}
use Rattle.std.proofs.lemmas.List.{map-append, get_or-set_same, get_or-set_other}
use Rattle.std.proofs.lemmas.Bool.Decides.{eqb_tells}
use Rattle.std.proofs.Math.Dec.{eqb}
use Rattle.ri_base.specs.declared.held.Held.{Held}
use Rattle.ri_base.specs.declared.places.Place.{Place}
use Rattle.ri_base.proofs.ListLemmas.{append_nil}
use Rattle.memory_index.specs.Inverts.{AreSpread, AreAllSpread, places_of_rank, new_places, all_places_from, ranks_at}

places_push : (i q x : ℕ) (xs : List ℕ) → places_of_rank i q (xs ++ x ∷ []) ≡ places_of_rank i q xs ++ cond (x == q) ((i + length xs) ∷ []) []
places_push i q x [] = ap (λ n. cond (x == q) (n ∷ []) []) (sym (add-zero i))
places_push i q x (y ∷ xs) =
    let rest : places_of_rank (i + 1) q (xs ++ x ∷ []) ≡ places_of_rank (i + 1) q xs ++ cond (x == q) ((i + length (y ∷ xs)) ∷ []) [] =
    places_push (i + 1) q x xs ∙ ap (λ n. places_of_rank (i + 1) q xs ++ cond (x == q) (n ∷ []) []) (omega arith) in
    by (y == q) rest
  where
    by : (b : Bool) → places_of_rank (i + 1) q (xs ++ x ∷ []) ≡ places_of_rank (i + 1) q xs ++ cond (x == q) ((i + length (y ∷ xs)) ∷ []) []
        → cond b (i ∷ places_of_rank (i + 1) q (xs ++ x ∷ [])) (places_of_rank (i + 1) q (xs ++ x ∷ []))
        ≡ cond b (i ∷ places_of_rank (i + 1) q xs) (places_of_rank (i + 1) q xs) ++ cond (x == q) ((i + length (y ∷ xs)) ∷ []) []
    by true e = ap (λ l. i ∷ l) e
    by false e = e

new_places-same : (id q x : ℕ) (xs : List ℕ) → x ≡ q → new_places id q (xs ++ x ∷ []) ≡ new_places id q xs ++ record { id = id; at = length xs } ∷ []
new_places-same id q x xs e =
    let f : ℕ → Place = λ p. record { id = id; at = p } in
    let t : (x == q) ≡ true = grind arith in
    let z : 0 + length xs ≡ length xs = omega arith in
    ap (map f) (places_push 0 q x xs ∙ ap (λ b. places_of_rank 0 q xs ++ cond b ((0 + length xs) ∷ []) []) t)
    ∙ map-append f (places_of_rank 0 q xs) ((0 + length xs) ∷ []) ∙ ap (λ n. map f (places_of_rank 0 q xs) ++ f n ∷ []) z

new_places-other : (id q x : ℕ) (xs : List ℕ) → x ≢ q → new_places id q (xs ++ x ∷ []) ≡ new_places id q xs
new_places-other id q x xs e =
    let f : ℕ → Place = λ p. record { id = id; at = p } in
    let t : (x == q) ≡ false = grind arith in
    ap (map f) (places_push 0 q x xs ∙ ap (λ b. places_of_rank 0 q xs ++ cond b ((0 + length xs) ∷ []) []) t ∙ append_nil (places_of_rank 0 q xs))

pub AreSpread-start : (old : List (List Place)) (id : ℕ) → AreSpread old old id []
AreSpread-start old id = record { same_length = refl; each = λ r h. sym (append_nil (get_or old r [])) }

pub AreSpread-more : (old mid new : List (List Place)) (id r : ℕ) (xs : List ℕ) (p : Place) → AreSpread old mid id xs → r < length old
    → p ≡ record { id = id; at = length xs } → new ≡ set mid r (get_or mid r [] ++ p ∷ []) → AreSpread old new id (xs ++ r ∷ [])
AreSpread-more old mid new id r xs p h below pe e =
    let len = h.same_length in
    record {
      same_length = rw e (length-set mid r (get_or mid r [] ++ p ∷ []) ∙ len);
      each = λ q inside. by q inside (eqb_tells q r);
    }
  where
    by : (q : ℕ) → q < length old → ((eqb q r ≡ true) × (q ≡ r)) ⊎ ((eqb q r ≡ false) × (q ≢ r)) → get_or new q [] ≡ get_or old q [] ++ new_places id q (xs ++ r ∷ [])
    by q inside (inl y) =
        let same : q ≡ r = y.1 in
        let len = h.same_length in
        let at_r : get_or new r [] ≡ get_or mid r [] ++ p ∷ [] = ap (λ l. get_or l r []) e ∙ get_or-set_same mid r (get_or mid r [] ++ p ∷ []) [] (omega arith) in
        ap (λ k. get_or new k []) same ∙ at_r ∙ ap (λ l. l ++ p ∷ []) (h.each r below) ∙ append_assoc (get_or old r []) (new_places id r xs) (p ∷ [])
        ∙ ap (λ (z : Place). get_or old r [] ++ (new_places id r xs ++ z ∷ [])) pe
        ∙ ap (λ l. get_or old r [] ++ l) (sym (new_places-same id r r xs refl))
        ∙ ap (λ k. get_or old k [] ++ new_places id k (xs ++ r ∷ [])) (sym same)
    by q inside (inr y) =
        let other : q ≢ r = y.1 in
        ap (λ l. get_or l q []) e ∙ get_or-set_other mid r q (get_or mid r [] ++ p ∷ []) [] other ∙ h.each q inside
        ∙ ap (λ l. get_or old q [] ++ l) (sym (new_places-other id q r xs (λ z. other (sym z))))

all_places-push : (i r : ℕ) (ranks : List ℕ) (hs : List Held) (h : Held) → all_places_from i r ranks (hs ++ h ∷ []) ≡ all_places_from i r ranks hs ++ new_places (i + length hs) r (ranks_at ranks h.tokens.items)
all_places-push i r ranks [] h = append_nil (new_places i r (ranks_at ranks h.tokens.items)) ∙ ap (λ n. new_places n r (ranks_at ranks h.tokens.items)) (sym (add-zero i))
all_places-push i r ranks (g ∷ hs) h =
    let P = new_places i r (ranks_at ranks g.tokens.items) in
    ap (λ l. P ++ l) (all_places-push (i + 1) r ranks hs h ∙ ap (λ n. all_places_from (i + 1) r ranks hs ++ new_places n r (ranks_at ranks h.tokens.items)) (omega arith))
    ∙ sym (append_assoc P (all_places_from (i + 1) r ranks hs) (new_places (i + length (g ∷ hs)) r (ranks_at ranks h.tokens.items)))

pub AreAllSpread-more : (mid new : List (List Place)) (n : ℕ) (ranks : List ℕ) (docs : List Held) (h : Held) (id : ℕ)
    → AreAllSpread mid n ranks docs → id ≡ length docs → AreSpread mid new id (ranks_at ranks h.tokens.items) → AreAllSpread new n ranks (docs ++ h ∷ [])
AreAllSpread-more mid new n ranks docs h id a is s =
    let z : id ≡ 0 + length docs = omega arith in
    record {
      same_length = s.same_length ∙ a.same_length;
      each = λ r inside. s.each r (subst (λ k. r < k) (sym a.same_length) inside) ∙ ap (λ l. l ++ new_places id r (ranks_at ranks h.tokens.items)) (a.each r inside)
          ∙ ap (λ k. all_places_from 0 r ranks docs ++ new_places k r (ranks_at ranks h.tokens.items)) z ∙ sym (all_places-push 0 r ranks docs h);
    }
