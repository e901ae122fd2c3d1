-- A set of texts with one more in it.
use Rattle.std.proofs.Common.{◌≡◌, ◌<◌, ◌+◌, ◌∙◌, ◌++◌, ◌∷◌, [], ℕ, Bool, true, false, cond, List, length, take, get_or, sym, ap, subst}
use Rattle.std.specs.Prelude.{Contains}
use Rattle.std.specs.List.{All, list_any}
use Rattle.std.specs.Str.{bytes_eq}
use Rattle.std.proofs.lemmas.List.{take_more}
use Rattle.std.proofs.lemmas.List.Elements.{All-push, All-weaker, Contains-append_left}
use Rattle.std.proofs.lemmas.Slice.Eq.{bytes_eq-Decides}
use Rattle.indexmap.specs.IndexSet.{insert_key}
use Rattle.indexmap.proofs.CallerLemmas.{Contains-insert_key}

-- what the set has stays
kept : (keys : List (List ℕ)) (t q : List ℕ) → Contains keys q → Contains (insert_key bytes_eq keys t) q
kept keys t q h = by (list_any (bytes_eq t) keys)
  where
    by : (b : Bool) → Contains (cond b keys (keys ++ t ∷ [])) q
    by true = h
    by false = Contains-append_left keys (t ∷ []) q h

-- the first texts are in it, and the next
pub has_more : (texts old new : List (List ℕ)) (i : ℕ) (t : List ℕ) → i < length texts → t ≡ get_or texts i t → new ≡ insert_key bytes_eq old t → All (Contains old) (take i texts) → All (Contains new) (take (i + 1) texts)
has_more texts old new i t inside here is h =
    let whole : take (i + 1) texts ≡ take i texts ++ t ∷ [] = take_more texts i t inside ∙ ap (λ x. take i texts ++ x ∷ []) (sym here) in
    subst (All (Contains new)) (sym whole) (All-push (Contains new) (take i texts) t
    (All-weaker (Contains old) (Contains new) (λ q c. subst (λ ks. Contains ks q) (sym is) (kept old t q c)) (take i texts) h)
    (subst (λ ks. Contains ks t) (sym is) (Contains-insert_key bytes_eq (λ x y e. (bytes_eq-Decides x y).0 e) old t)))
