-- Names of segments are ASCII, have 20 bytes, and are distinct.
use Rattle.std.proofs.Common.{◌≡◌, ℕ, zero, suc, ◌<◌, ◌*◌, ◌/◌, ◌%◌, ◌^◌, List, [], ◌∷◌, ◌++◌, length, get_or, take, refl, sym, ap, subst, ◌∙◌, arith, rules, IsAscii, codes, length-append}
use Rattle.std.proofs.Math.Nat.{pow-succ'}
use Rattle.std.proofs.Math.Seq.{take-append_seam, get_or-append_seam}
use Rattle.std.proofs.lemmas.List.{append_cancel_left}
use Rattle.std.proofs.lemmas.Str.{IsAscii-append}
use Rattle.std.proofs.lemmas.Str.Ascii.{IsAscii-nil, IsAscii-cons}
use Rattle.disk_index.specs.Names.{digit, hex, segment_name}

pub length-hex : (k n : ℕ) → length (hex k n) ≡ k
length-hex zero n = refl
length-hex (suc k) n =
    let before = length-hex k (n / 16) in
    let both = length-append (hex k (n / 16)) (digit (n % 16) ∷ []) in
    grind (arith, before, both)

digit-small : (d : ℕ) → d < 16 → digit d < 128
digit-small d h = grind arith

pub IsAscii-hex : (k n : ℕ) → IsAscii (hex k n)
IsAscii-hex zero n = IsAscii-nil
IsAscii-hex (suc k) n = IsAscii-append (hex k (n / 16)) (digit (n % 16) ∷ []) (IsAscii-hex k (n / 16)) (IsAscii-cons (digit (n % 16)) [] (digit-small (n % 16) (omega arith)) IsAscii-nil)

pub length-segment_name : (n : ℕ) → length (segment_name n) ≡ 20
unfolding segment_name
length-segment_name n = ap (λ k. suc (suc (suc (suc k)))) (length-hex 16 n)

pub IsAscii-segment_name : (n : ℕ) → IsAscii (segment_name n)
unfolding segment_name
IsAscii-segment_name n = IsAscii-append (codes "seg-") (hex 16 n) (search rules) (IsAscii-hex 16 n)

-- ---- numbers are told by their digits

digit-injective : (a b : ℕ) → a < 16 → b < 16 → digit a ≡ digit b → a ≡ b
digit-injective a b ha hb e = grind arith

-- the digits before the last one, and the last one
front : (k : ℕ) (xs ys : List ℕ) (x y : ℕ) → length xs ≡ k → length ys ≡ k → xs ++ x ∷ [] ≡ ys ++ y ∷ [] → xs ≡ ys
front k xs ys x y lx ly e =
    let left : take k (xs ++ x ∷ []) ≡ xs = subst (λ j. take j (xs ++ x ∷ []) ≡ xs) lx (take-append_seam xs (x ∷ [])) in
    let right : take k (ys ++ y ∷ []) ≡ ys = subst (λ j. take j (ys ++ y ∷ []) ≡ ys) ly (take-append_seam ys (y ∷ [])) in
    sym left ∙ ap (take k) e ∙ right

last : (k : ℕ) (xs ys : List ℕ) (x y : ℕ) → length xs ≡ k → length ys ≡ k → xs ++ x ∷ [] ≡ ys ++ y ∷ [] → x ≡ y
last k xs ys x y lx ly e =
    let left : get_or (xs ++ x ∷ []) k 0 ≡ x = subst (λ j. get_or (xs ++ x ∷ []) j 0 ≡ x) lx (get_or-append_seam xs x [] 0) in
    let right : get_or (ys ++ y ∷ []) k 0 ≡ y = subst (λ j. get_or (ys ++ y ∷ []) j 0 ≡ y) ly (get_or-append_seam ys y [] 0) in
    sym left ∙ ap (λ zs. get_or zs k 0) e ∙ right

quotient_below : (p m : ℕ) → m < 16 * p → m / 16 < p
quotient_below p m h = omega arith

same_number : (m n : ℕ) → m / 16 ≡ n / 16 → m % 16 ≡ n % 16 → m ≡ n
same_number m n quotients rests = omega arith

pub hex-injective : (k m n : ℕ) → m < 16 ^ k → n < 16 ^ k → hex k m ≡ hex k n → m ≡ n
hex-injective zero m n hm hn e = omega arith
hex-injective (suc k) m n hm hn e =
    let fronts : hex k (m / 16) ≡ hex k (n / 16) = front k (hex k (m / 16)) (hex k (n / 16)) _ _ (length-hex k (m / 16)) (length-hex k (n / 16)) e in
    let lasts : digit (m % 16) ≡ digit (n % 16) = last k (hex k (m / 16)) (hex k (n / 16)) _ _ (length-hex k (m / 16)) (length-hex k (n / 16)) e in
    let rests : m % 16 ≡ n % 16 = digit-injective (m % 16) (n % 16) (omega arith) (omega arith) lasts in
    let power : 16 ^ suc k ≡ 16 * 16 ^ k = pow-succ' 16 k in
    let quotients : m / 16 ≡ n / 16 = hex-injective k (m / 16) (n / 16) (quotient_below (16 ^ k) m (rw power at hm)) (quotient_below (16 ^ k) n (rw power at hn)) fronts in
    same_number m n quotients rests

pub segment_name-injective : (m n : ℕ) → m < 2 ^ 64 → n < 2 ^ 64 → segment_name m ≡ segment_name n → m ≡ n
unfolding segment_name
segment_name-injective m n hm hn e = hex-injective 16 m n hm hn (append_cancel_left (codes "seg-") (hex 16 m) (hex 16 n) e)
