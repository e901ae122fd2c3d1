-- Bytes that are skipped.
use Rattle.std.proofs.Common.{ℕ, zero, suc, ◌≡◌, ◌≤◌, ◌+◌, ◌-◌, List, [], ◌∷◌, ◌++◌, Option, length, drop, refl, sym, ap, ◌∙◌, arith, length-append, length-drop}
use Rattle.std.specs.Prelude.{Some, None}
use Rattle.std.specs.Option.{option_map}
use Rattle.std.specs.Io.KnownBytes.{prepend_known}
use Rattle.read_ahead.specs.Ahead.{Ahead, Steps}
use Rattle.read_ahead.proofs.StepsLemmas.{steps_ahead}

pub drop_behind : (m : ℕ) (bytes rest : List ℕ) → drop (m - length bytes) (drop m bytes ++ rest) ≡ drop m (bytes ++ rest)
drop_behind zero bytes rest = let e : 0 - length bytes ≡ 0 = omega arith in ap (λ k. drop k (bytes ++ rest)) e
drop_behind (suc m) [] rest = let e : suc m - length {A = ℕ} [] ≡ suc m = omega arith in ap (λ k. drop k rest) e
drop_behind (suc m) (b ∷ bytes) rest = let e : suc m - length (b ∷ bytes) ≡ m - length bytes = omega arith in ap (λ k. drop k (drop m bytes ++ rest)) e ∙ drop_behind m bytes rest

pub skipped : (m n : ℕ) (bytes now : List ℕ) (left : Option (List ℕ)) → now ≡ drop m bytes → n ≡ m - length bytes → option_map (drop n) (prepend_known now left) ≡ option_map (drop m) (prepend_known bytes left)
skipped m n bytes now None e f = refl
skipped m n bytes now (Some rest) e f = rw (e, f) (ap (λ xs. Some xs) (drop_behind m bytes rest))

pub missing_still : (m n : ℕ) (bytes now : List ℕ) (left : Option (List ℕ)) → now ≡ drop m bytes → n ≡ m - length bytes → option_map (λ xs. n - length xs) (prepend_known now left) ≡ option_map (λ xs. m - length xs) (prepend_known bytes left)
missing_still m n bytes now None e f = refl
missing_still m n bytes now (Some rest) e f =
    let same : n - length (now ++ rest) ≡ m - length (bytes ++ rest) = omega (arith, f, length-append now rest, length-append bytes rest, ap length e, length-drop m bytes) in
    ap (λ k. Some k) same

module _ {S : Type 0} (left : S → Option (List ℕ)) (layers : S → Option (List (List ℕ × ℕ))) (held : S → List ℕ) (faults can_give : S → ℕ) where
  -- so many bytes ahead as are there are read
  pub steps_within : (a b : Ahead) (m n : ℕ) (x : S) → b.bytes ≡ drop m a.bytes → n ≡ m - length a.bytes → b.offset + n ≡ a.offset + m → Steps left layers held faults can_give a b x x
  steps_within a b m n x bytes missing offset =
      let there : m - n ≤ length a.bytes = omega (arith, missing) in
      let rest : b.bytes ≡ drop (m - n) a.bytes = bytes ∙ same m n a.bytes missing in
      let at : b.offset ≡ a.offset + (m - n) = omega (arith, missing, offset) in
      steps_ahead left layers held faults can_give a b (m - n) x there rest at
    where
      same : (m n : ℕ) (xs : List ℕ) → n ≡ m - length xs → drop m xs ≡ drop (m - n) xs
      same zero n xs e = let k : 0 - n ≡ 0 = omega arith in ap (λ i. drop i xs) (sym k)
      same (suc m) n [] e = let all : n ≡ suc m = omega (arith, e) in let k : suc m - n ≡ 0 = omega arith in ap (λ i. drop {A = ℕ} i []) (sym k)
      same (suc m) n (x ∷ xs) e =
          let less : n ≡ m - length xs = omega (arith, e) in
          let k : suc m - n ≡ suc (m - n) = omega arith in
          same m n xs less ∙ ap (λ i. drop i (x ∷ xs)) (sym k)
