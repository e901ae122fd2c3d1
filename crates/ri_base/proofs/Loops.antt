-- Reading one thing after the other, as a loop does.
use Rattle.std.proofs.Common.{◌≡◌, ℕ, suc, ◌-◌, ◌+◌, ◌≤◌, ◌<◌, List, [], ◌∷◌, ◌++◌, Ok, Err, refl, sym, ap, ◌∙◌, append_assoc, arith}
use Rattle.std.proofs.lemmas.List.{append-nil}
use Rattle.ri_base.specs.declared.broken.Broken.{Broken}
use Rattle.ri_base.specs.declared.broken.Broken.TheVariants.{At, Memory}
use Rattle.ri_base.specs.FieldAnswers.{Fails}
use Rattle.ri_base.specs.Reading.{Reading, ◌>>=◌, repeat}

-- what was read before, and what is still read
abbrev pub with_front : {A : Type 0} → List A → Reading (List A) → Reading (List A)
with_front front read = read >>= λ x. Ok (front ++ x.0, x.1)

regroup : {A : Type 0} (front : List A) (n : A) (read : Reading (List A)) → with_front front (read >>= λ x. Ok (n ∷ x.0, x.1)) ≡ with_front (front ++ n ∷ []) read
regroup {A} front n (Ok x) = ap (λ (ns : List A). Ok (ns, x.1)) (simp append_assoc)
regroup front n (Err left) = refl

pub goes_on : {S A : Type 0} (one : S → List ℕ → Reading A) (next : S → A → S) (front : List A) (count i : ℕ) (s : S) (bytes : List ℕ) (n : A) (after : List ℕ) (total : Reading (List A)) → i < count → one s bytes ≡ Ok (n, after)
    → with_front front (repeat one next (count - i) s bytes) ≡ total → with_front (front ++ n ∷ []) (repeat one next (count - (i + 1)) (next s n) after) ≡ total
unfolding repeat
goes_on one next front count i s bytes n after total lt h so_far =
    let k : count - i ≡ suc (count - (i + 1)) = omega arith in
    let step : with_front front (repeat one next (count - i) s bytes) ≡ with_front (front ++ n ∷ []) (repeat one next (count - (i + 1)) (next s n) after) = rw (k, h) (regroup front n (repeat one next (count - (i + 1)) (next s n) after)) in
    sym step ∙ so_far

pub ends : {S A : Type 0} (one : S → List ℕ → Reading A) (next : S → A → S) (e : Broken) (front : List A) (count i : ℕ) (s : S) (bytes : List ℕ) (total : Reading (List A)) → i < count → Fails e (one s bytes)
    → with_front front (repeat one next (count - i) s bytes) ≡ total → Fails e total
unfolding repeat
ends one next Memory front count i s bytes total lt h so_far = tt
ends one next (At left) front count i s bytes total lt h so_far =
    let k : count - i ≡ suc (count - (i + 1)) = omega arith in
    let step : with_front front (repeat one next (count - i) s bytes) ≡ Err left = rw (k, h) refl in
    sym so_far ∙ step

pub is_done : {S A : Type 0} (one : S → List ℕ → Reading A) (next : S → A → S) (front : List A) (count i : ℕ) (s : S) (bytes : List ℕ) (total : Reading (List A)) → count ≤ i
    → with_front front (repeat one next (count - i) s bytes) ≡ total → total ≡ Ok (front, bytes)
unfolding repeat
is_done {S} {A} one next front count i s bytes total le so_far =
    let k : count - i ≡ 0 = omega arith in
    let step : with_front front (repeat one next (count - i) s bytes) ≡ Ok (front, bytes) = rw k (ap (λ (ns : List A). Ok (ns, bytes)) (append-nil front)) in
    sym so_far ∙ step
