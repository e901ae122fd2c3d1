-- Reading the front of a source.
use Rattle.std.proofs.Common.{◌≡◌, ℕ, zero, suc, ◌≤◌, ◌+◌, ◌-◌, List, [], ◌∷◌, ◌++◌, Option, Some, None, take, drop, length, ap, sym, ◌∙◌, arith, refl, length-append}
use Rattle.std.specs.Option.{option_map}
use Rattle.std.specs.Io.KnownBytes.{prepend_known, Consumes, IsAtEnd}
use Rattle.std.proofs.Math.Seq.{take-append-add, drop-append-add, take-nil}
use Rattle.ri_ends.specs.Front.{behind_front}

front_take : (m n : ℕ) (bs xs : List ℕ) → length bs ≡ n → n ≤ m → take m (bs ++ xs) ≡ bs ++ take (m - n) xs
front_take m n bs xs len le =
    let whole : m ≡ length bs + (m - n) = omega (arith, len) in
    ap (λ k. take k (bs ++ xs)) whole ∙ take-append-add bs xs (m - n)

pub front_bytes : (m n : ℕ) (bs : List ℕ) (before after : Option (List ℕ)) → length bs ≡ n → n ≤ m → before ≡ prepend_known bs after
    → option_map (take m) before ≡ prepend_known bs (option_map (take (m - n)) after)
front_bytes m n bs before None len le e = ap (λ (o : Option (List ℕ)). option_map (take m) o) e
front_bytes m n bs before (Some xs) len le e = ap (λ (o : Option (List ℕ)). option_map (take m) o) e ∙ ap (λ (ys : List ℕ). Some ys) (front_take m n bs xs len le)

pub front_reader : (m n : ℕ) (bs : List ℕ) (before after : Option (List ℕ)) → length bs ≡ n → n ≤ m → Consumes before after bs
    → Consumes (option_map (take m) before) (option_map (take (m - n)) after) bs
front_reader m n bs None after len le c = c
front_reader m n bs (Some xs) None len le c = c
front_reader m n bs (Some xs) (Some ys) len le c = ap (take m) c ∙ front_take m n bs ys len le

pub front_behind : (m n : ℕ) (bs : List ℕ) (before after : Option (List ℕ)) (layers : Option (List (List ℕ × ℕ))) → length bs ≡ n → n ≤ m → before ≡ prepend_known bs after
    → behind_front (m - n) after layers ≡ behind_front m before layers
front_behind m n bs before None layers len le e = sym (ap (λ (o : Option (List ℕ)). behind_front m o layers) e)
front_behind m n bs before (Some xs) layers len le e =
    let whole : m ≡ length bs + (m - n) = omega (arith, len) in
    let rest : drop m (bs ++ xs) ≡ drop (m - n) xs = ap (λ k. drop k (bs ++ xs)) whole ∙ drop-append-add bs xs (m - n) in
    let short : m - length (bs ++ xs) ≡ m - n - length xs = omega (arith, len, length-append bs xs) in
    let same : behind_front m (Some (bs ++ xs)) layers ≡ behind_front (m - n) (Some xs) layers =
    ap (λ (p : List ℕ). option_map (λ (others : List (List ℕ × ℕ)). (p, m - length (bs ++ xs)) ∷ others) layers) rest
    ∙ ap (λ (k : ℕ). option_map (λ (others : List (List ℕ × ℕ)). (drop (m - n) xs, k) ∷ others) layers) short in
    sym (ap (λ (o : Option (List ℕ)). behind_front m o layers) e ∙ same)

pub front_empty : (known : Option (List ℕ)) → Consumes (option_map (take 0) known) (option_map (take 0) known) [] × IsAtEnd (option_map (take 0) known)
front_empty None = (tt, tt)
front_empty (Some xs) = (refl, refl)

pub front_end : (m : ℕ) (known : Option (List ℕ)) → IsAtEnd known → IsAtEnd (option_map (take m) known)
front_end m None end = tt
front_end m (Some xs) end = ap (take m) end ∙ take-nil m

abbrev first_number : Option (List (List ℕ × ℕ)) → ℕ
first_number None = 0
first_number (Some []) = 0
first_number (Some (layer ∷ others)) = layer.1

missing_number : (m n : ℕ) (bytes rest : List ℕ) (layers others : List (List ℕ × ℕ)) → Some ((drop m bytes, m - length bytes) ∷ layers) ≡ Some ((rest, n) ∷ others) → m - length bytes ≡ n
missing_number m n bytes rest layers others e = ap first_number e

none_layers : (layer : List ℕ × ℕ) (others : List (List ℕ × ℕ)) → None ≡ Some (layer ∷ others) → ⊥
none_layers layer others e = cc

none_bytes : (bytes : List ℕ) → None ≡ Some bytes → ⊥
none_bytes bytes e = cc

some_bytes : (b : ℕ) (bs : List ℕ) → Some (b ∷ bs) ≡ Some [] → ⊥
some_bytes b bs e = cc

-- Where nothing is left, the number of the first layer is how many bytes are missing.
pub front_short : (m n : ℕ) (left : Option (List ℕ)) (layers : Option (List (List ℕ × ℕ))) (rest : List ℕ) (others : List (List ℕ × ℕ)) → option_map (take m) left ≡ Some [] → behind_front m left layers ≡ Some ((rest, n) ∷ others) → m ≡ n
front_short m n None layers rest others end first = absurd (none_bytes [] end)
front_short m n (Some bytes) None rest others end first = absurd (none_layers (rest, n) others first)
front_short m n (Some []) (Some layers) rest others end first = omega (arith, missing_number m n [] rest layers others first)
front_short zero n (Some (b ∷ bs)) (Some layers) rest others end first = omega (arith, missing_number zero n (b ∷ bs) rest layers others first)
front_short (suc m) n (Some (b ∷ bs)) (Some layers) rest others end first = absurd (some_bytes b (take m bs) end)
