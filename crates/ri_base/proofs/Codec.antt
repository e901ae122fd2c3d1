-- Reading and writing as two views of one grammar: what is read is spelled so, and what is spelled so is read.
use Rattle.std.proofs.Common.{◌≡◌, ℕ, zero, suc, ◌+◌, ◌^◌, ◌<◌, ◌≤◌, ◌&&◌, nat_le, Bool, true, false, cond, ltb, eqb, List, [], ◌∷◌, ◌++◌, length, get_or, take, drop, Result, Ok, Err, refl, sym, ap, subst, ◌∙◌, append_assoc, arith, inl, inr}
use Rattle.std.specs.List.{flat_map}
use Rattle.std.specs.Int.{Width, w16, w32, w64, byte_len, from_le_bytes, to_le_bytes}
use Rattle.std.proofs.lemmas.Bool.{cases_lt, eqb-true, ltb-false, le-ltb}
use Rattle.std.proofs.lemmas.List.{take_at, drop_at, take-append-drop, length-append, length-take, get_or-drop, get_or-take, get_or_past, nil_from_length, append-nil}
use Rattle.std.proofs.lemmas.List.Concat.{flat_map-cons}
use Rattle.std.proofs.lemmas.Nat.{le_bytes_2, le_bytes_4, le_bytes_8, from_le_bytes-to_le_bytes_2, from_le_bytes-to_le_bytes_4, from_le_bytes-to_le_bytes_8}
use Rattle.ri_base.specs.Fields.{byte, number, ruled, ruled_byte, front, ruled_front, text_length, text}
use Rattle.ri_base.specs.Reading.{Reading, AllFit, ◌>>=◌, kept, repeat, whole}
use Rattle.ri_base.specs.Spelling.{spelled_text}

-- each is a byte
pub record IsBytes (bytes : List ℕ) : Type 0 where
  pub small : (i : ℕ) → get_or bytes i 0 < 256

pub IsBytes-drop : (n : ℕ) (bytes : List ℕ) → IsBytes bytes → IsBytes (drop n bytes)
IsBytes-drop n bytes h = record { small = λ i. rw get_or-drop (h.small (n + i)) }

pub IsBytes-take : (n : ℕ) (bytes : List ℕ) → IsBytes bytes → IsBytes (take n bytes)
IsBytes-take n bytes h = record { small = small }
  where
    small : (i : ℕ) → get_or (take n bytes) i 0 < 256
    small i = elim (cases_lt i n) [
      | inl lt ↦ rw (get_or-take n bytes i 0 lt) (h.small i)
      | inr le ↦ rw (get_or_past (take n bytes) i 0 (omega (arith, length-take n bytes))) (omega arith)
    ]

IsBytes-rest : (b : ℕ) (bytes : List ℕ) → IsBytes (b ∷ bytes) → IsBytes bytes
IsBytes-rest b bytes h = record { small = λ i. h.small (suc i) }

-- ---- steps that did not fail

pub bind_ok : {A B : Type 0} (r : Reading A) (f : A × List ℕ → Reading B) (y : B × List ℕ) → (r >>= f) ≡ Ok y → (x : A × List ℕ) × (r ≡ Ok x) × (f x ≡ Ok y)
bind_ok (Ok x) f y e = (x, refl, e)
bind_ok (Err left) f y e = absurd cc

pub guard_ok : {A : Type 0} (b : Bool) (left : ℕ) (x y : A) → cond {A = Result A ℕ} b (Err left) (Ok x) ≡ Ok y → (b ≡ false) × (x ≡ y)
guard_ok true left x y e = absurd cc
guard_ok false left x y e = (refl, cc)

pub kept_ok : {A : Type 0} (b : Bool) (x y : A × List ℕ) (bytes : List ℕ) → kept b x bytes ≡ Ok y → (b ≡ true) × (x ≡ y)
kept_ok true x y bytes e = (refl, cc)
kept_ok false x y bytes e = absurd cc

abbrev done : {A : Type 0} → A → Result A ℕ
done x = Ok x

pub ok_is : {A : Type 0} (x y : A) → done x ≡ done y → x ≡ y
ok_is x y e = cc

-- what a reading took from the front
pub record Takes (bytes text rest : List ℕ) : Type 0 where
  pub parts : bytes ≡ text ++ rest
  pub rest_fits : IsBytes rest

pub Takes-then : (a x b y c : List ℕ) → Takes a x b → Takes b y c → Takes a (x ++ y) c
Takes-then a x b y c p q = record { parts = p.parts ∙ ap (λ (t : List ℕ). x ++ t) q.parts ∙ sym (append_assoc x y c); rest_fits = q.rest_fits }

-- ---- the law of a reading and a spelling

pub record IsCodec {A : Type 0} (read : List ℕ → Reading A) (spell : A → List ℕ) (fits : A → Type 0) : Type 0 where
  pub takes : (bytes : List ℕ) (x : A × List ℕ) → IsBytes bytes → read bytes ≡ Ok x → Takes bytes (spell x.0) x.1 × fits x.0
  pub again : (x : A) (rest : List ℕ) → fits x → read (spell x ++ rest) ≡ Ok (x, rest)

-- one reading, and then what goes on with its value
pub codec_then : {A C : Type 0} (r : List ℕ → Reading A) (s : A → List ℕ) (f : A → Type 0) (k : A → List ℕ → Reading C) (t : A → C → List ℕ) (g : A → C → Type 0) (first : C → A)
    → IsCodec r s f → ((a : A) → f a → IsCodec (k a) (t a) (g a)) → ((a : A) (c : C) → f a → g a c → first c ≡ a)
    → IsCodec (λ bytes. r bytes >>= λ x. k x.0 x.1) (λ c. s (first c) ++ t (first c) c) (λ c. f (first c) × g (first c) c)
codec_then {A} {C} r s f k t g first one more back = record { takes = taking; again = reading }
  where
    taking : (bytes : List ℕ) (x : C × List ℕ) → IsBytes bytes → (r bytes >>= λ x. k x.0 x.1) ≡ Ok x → Takes bytes (s (first x.0) ++ t (first x.0) x.0) x.1 × (f (first x.0) × g (first x.0) x.0)
    taking bytes x fits e =
        let a = bind_ok (r bytes) (λ y. k y.0 y.1) x e in
        let p = one.takes bytes a.0 fits a.1 in
        let q = (more a.0.0 p.1).takes a.0.1 x p.0.rest_fits a.2 in
        let same : first x.0 ≡ a.0.0 = back a.0.0 x.0 p.1 q.1 in
        subst (λ (y : A). Takes bytes (s y ++ t y x.0) x.1 × (f y × g y x.0)) (sym same)
        (Takes-then bytes (s a.0.0) a.0.1 (t a.0.0 x.0) x.1 p.0 q.0, (p.1, q.1))

    reading : (x : C) (rest : List ℕ) → f (first x) × g (first x) x → ((r ((s (first x) ++ t (first x) x) ++ rest)) >>= λ x. k x.0 x.1) ≡ Ok (x, rest)
    reading x rest h =
        let e : r ((s (first x) ++ t (first x) x) ++ rest) ≡ Ok (first x, t (first x) x ++ rest) =
        ap r (append_assoc (s (first x)) (t (first x) x) rest) ∙ one.again (first x) (t (first x) x ++ rest) h.0 in
        ap (λ (y : Reading A). y >>= λ x. k x.0 x.1) e ∙ (more (first x) h.0).again x rest h.1

-- a value in another form
pub codec_as : {A C : Type 0} (r : List ℕ → Reading A) (s : A → List ℕ) (f : A → Type 0) (made : A → C) (of : C → A)
    → IsCodec r s f → ((a : A) → f a → of (made a) ≡ a)
    → IsCodec (λ bytes. r bytes >>= λ x. Ok (made x.0, x.1)) (λ c. s (of c)) (λ c. f (of c) × (made (of c) ≡ c))
codec_as {A} {C} r s f made of one back = record { takes = taking; again = reading }
  where
    taking : (bytes : List ℕ) (x : C × List ℕ) → IsBytes bytes → (r bytes >>= λ x. Ok (made x.0, x.1)) ≡ Ok x → Takes bytes (s (of x.0)) x.1 × (f (of x.0) × (made (of x.0) ≡ x.0))
    taking bytes x fits e =
        let a = bind_ok (r bytes) (λ y. Ok (made y.0, y.1)) x e in
        let p = one.takes bytes a.0 fits a.1 in
        let is : (made a.0.0, a.0.1) ≡ x = ok_is (made a.0.0, a.0.1) x a.2 in
        let same : of (made a.0.0) ≡ a.0.0 = back a.0.0 p.1 in
        subst (λ (y : C × List ℕ). Takes bytes (s (of y.0)) y.1 × (f (of y.0) × (made (of y.0) ≡ y.0))) is
        (subst (λ (y : A). Takes bytes (s y) a.0.1 × (f y × (made y ≡ made a.0.0))) (sym same) (p.0, (p.1, refl)))

    reading : (x : C) (rest : List ℕ) → f (of x) × (made (of x) ≡ x) → (r (s (of x) ++ rest) >>= λ x. Ok (made x.0, x.1)) ≡ Ok (x, rest)
    reading x rest h = ap (λ (y : Reading A). y >>= λ x. Ok (made x.0, x.1)) (one.again (of x) rest h.0) ∙ ap (λ (y : C). Ok (y, rest)) h.1

-- ---- numbers

pub record IsWide (w : Width) (limit : ℕ) : Type 0 where
  pub len : (n : ℕ) → length (to_le_bytes w n) ≡ byte_len w
  pub back : (bytes : List ℕ) → length bytes ≡ byte_len w → IsBytes bytes → to_le_bytes w (from_le_bytes w bytes) ≡ bytes
  pub again : (n : ℕ) → n < limit → from_le_bytes w (to_le_bytes w n) ≡ n
  pub below : (bytes : List ℕ) → IsBytes bytes → from_le_bytes w bytes < limit

pub wide16 : IsWide w16 (2 ^ 16)
wide16 = record {
  len = λ n. refl;
  back = λ bytes len fits. le_bytes_2 bytes _ len fits.small refl;
  again = λ n lt. from_le_bytes-to_le_bytes_2 n lt;
  below = λ bytes fits. omega (arith, fits.small 0, fits.small 1);
}

pub wide32 : IsWide w32 (2 ^ 32)
wide32 = record {
  len = λ n. refl;
  back = λ bytes len fits. le_bytes_4 bytes _ len fits.small refl;
  again = λ n lt. from_le_bytes-to_le_bytes_4 n lt;
  below = λ bytes fits. omega (arith, fits.small 0, fits.small 1, fits.small 2, fits.small 3);
}

pub wide64 : IsWide w64 (2 ^ 64)
wide64 = record {
  len = λ n. refl;
  back = λ bytes len fits. le_bytes_8 bytes _ len fits.small refl;
  again = λ n lt. from_le_bytes-to_le_bytes_8 n lt;
  below = λ bytes fits. omega (arith, fits.small 0, fits.small 1, fits.small 2, fits.small 3, fits.small 4, fits.small 5, fits.small 6, fits.small 7);
}

pub number_codec : (w : Width) (limit : ℕ) → IsWide w limit → IsCodec (number w) (to_le_bytes w) (λ n. n < limit)
number_codec w limit wide = record { takes = taking; again = reading }
  where
    taking : (bytes : List ℕ) (x : ℕ × List ℕ) → IsBytes bytes → number w bytes ≡ Ok x → Takes bytes (to_le_bytes w x.0) x.1 × (x.0 < limit)
    taking bytes x fits e =
        let g = guard_ok (ltb (length bytes) (byte_len w)) (length bytes) (from_le_bytes w (take (byte_len w) bytes), drop (byte_len w) bytes) x e in
        let long : byte_len w ≤ length bytes = ltb-false _ _ g.0 in
        let back : to_le_bytes w (from_le_bytes w (take (byte_len w) bytes)) ≡ take (byte_len w) bytes = wide.back (take (byte_len w) bytes) (omega (arith, length-take (byte_len w) bytes)) (IsBytes-take (byte_len w) bytes fits) in
        subst (λ (y : ℕ × List ℕ). Takes bytes (to_le_bytes w y.0) y.1 × (y.0 < limit)) g.1
        (record { parts = rw back (sym (take-append-drop (byte_len w) bytes)); rest_fits = IsBytes-drop (byte_len w) bytes fits }, wide.below (take (byte_len w) bytes) (IsBytes-take (byte_len w) bytes fits))

    reading : (n : ℕ) (rest : List ℕ) → n < limit → number w (to_le_bytes w n ++ rest) ≡ Ok (n, rest)
    reading n rest lt =
        let len = wide.len n in
        let long : ltb (length (to_le_bytes w n ++ rest)) (byte_len w) ≡ false = le-ltb _ _ (omega (arith, length-append (to_le_bytes w n) rest)) in
        rw (long, take_at (to_le_bytes w n) rest (byte_len w) len, drop_at (to_le_bytes w n) rest (byte_len w) len, wide.again n lt) refl

-- a number under a rule
pub ruled_codec : (w : Width) (limit : ℕ) (rule : ℕ → Bool) → IsWide w limit → IsCodec (ruled w rule) (to_le_bytes w) (λ n. (n < limit) × (rule n ≡ true))
unfolding ruled
ruled_codec w limit rule wide = record { takes = taking; again = reading }
  where
    one : IsCodec (number w) (to_le_bytes w) (λ n. n < limit)
    one = number_codec w limit wide

    taking : (bytes : List ℕ) (x : ℕ × List ℕ) → IsBytes bytes → (number w bytes >>= λ n. kept (rule n.0) n bytes) ≡ Ok x → Takes bytes (to_le_bytes w x.0) x.1 × ((x.0 < limit) × (rule x.0 ≡ true))
    taking bytes x fits e =
        let a = bind_ok (number w bytes) (λ n. kept (rule n.0) n bytes) x e in
        let p = one.takes bytes a.0 fits a.1 in
        let k = kept_ok (rule a.0.0) a.0 x bytes a.2 in
        subst (λ (y : ℕ × List ℕ). Takes bytes (to_le_bytes w y.0) y.1 × ((y.0 < limit) × (rule y.0 ≡ true))) k.1 (p.0, (p.1, k.0))

    reading : (n : ℕ) (rest : List ℕ) → (n < limit) × (rule n ≡ true) → (number w (to_le_bytes w n ++ rest) >>= λ m. kept (rule m.0) m (to_le_bytes w n ++ rest)) ≡ Ok (n, rest)
    reading n rest h = rw (one.again n rest h.0, h.1) refl

-- a byte under a rule
pub ruled_byte_codec : (rule : ℕ → Bool) → IsCodec (ruled_byte rule) (λ b. b ∷ []) (λ b. rule b ≡ true)
unfolding ruled_byte
ruled_byte_codec rule = record { takes = taking; again = λ b rest h. rw h refl }
  where
    taking : (bytes : List ℕ) (x : ℕ × List ℕ) → IsBytes bytes → (byte bytes >>= λ b. kept (rule b.0) b bytes) ≡ Ok x → Takes bytes (x.0 ∷ []) x.1 × (rule x.0 ≡ true)
    taking [] x fits e = absurd cc
    taking (b ∷ bytes) x fits e =
        let k = kept_ok (rule b) (b, bytes) x (b ∷ bytes) e in
        subst (λ (y : ℕ × List ℕ). Takes (b ∷ bytes) (y.0 ∷ []) y.1 × (rule y.0 ≡ true)) k.1 (record { parts = refl; rest_fits = IsBytes-rest b bytes fits }, k.0)

-- ---- texts

pub text_codec : (most : ℕ) (rule : List ℕ → Bool) → IsCodec (text most rule) spelled_text (λ x. (nat_le 1 (length x) && nat_le (length x) most ≡ true) × (rule x ≡ true))
unfolding text text_length ruled_front
text_codec most rule = record { takes = taking; again = reading }
  where
    Fitting : List ℕ → Type 0
    Fitting x = (nat_le 1 (length x) && nat_le (length x) most ≡ true) × (rule x ≡ true)

    taking : (bytes : List ℕ) (x : List ℕ × List ℕ) → IsBytes bytes → text most rule bytes ≡ Ok x → Takes bytes (spelled_text x.0) x.1 × Fitting x.0
    taking [] x fits e = absurd cc
    taking (b ∷ bytes) x fits e =
        let a = bind_ok (kept (nat_le 1 b && nat_le b most) (b, bytes) (b ∷ bytes)) (λ n. front n.0 n.1 >>= λ y. kept (rule y.0) y n.1) x e in
        let k = kept_ok (nat_le 1 b && nat_le b most) (b, bytes) a.0 (b ∷ bytes) a.1 in
        let c = bind_ok (front b bytes) (λ y. kept (rule y.0) y bytes) x (subst (λ (n : ℕ × List ℕ). (front n.0 n.1 >>= λ y. kept (rule y.0) y n.1) ≡ Ok x) (sym k.1) a.2) in
        let g = guard_ok (ltb (length bytes) b) (length bytes) (take b bytes, drop b bytes) c.0 c.1 in
        let long : b ≤ length bytes = ltb-false _ _ g.0 in
        let len : length (take b bytes) ≡ b = omega (arith, length-take b bytes) in
        let j = kept_ok (rule c.0.0) c.0 x bytes c.2 in
        let is : (take b bytes, drop b bytes) ≡ x = g.1 ∙ j.1 in
        let ruled : rule (take b bytes) ≡ true = ap (λ (y : List ℕ × List ℕ). rule y.0) g.1 ∙ j.0 in
        let whole : b ∷ bytes ≡ spelled_text (take b bytes) ++ drop b bytes = ap (λ (t : List ℕ). b ∷ t) (sym (take-append-drop b bytes)) ∙ ap (λ (n : ℕ). n ∷ (take b bytes ++ drop b bytes)) (sym len) in
        subst (λ (y : List ℕ × List ℕ). Takes (b ∷ bytes) (spelled_text y.0) y.1 × Fitting y.0) is
        (record { parts = whole; rest_fits = IsBytes-drop b bytes (IsBytes-rest b bytes fits) }, (ap (λ (n : ℕ). nat_le 1 n && nat_le n most) len ∙ k.0, ruled))

    reading : (x : List ℕ) (rest : List ℕ) → Fitting x → text most rule (spelled_text x ++ rest) ≡ Ok (x, rest)
    reading x rest h =
        let long : ltb (length (x ++ rest)) (length x) ≡ false = le-ltb _ _ (omega (arith, length-append x rest)) in
        rw (h.0, long, take_at x rest (length x) refl, drop_at x rest (length x) refl, h.1) refl

-- ---- lists

pub repeat_codec : {S A : Type 0} (one : S → List ℕ → Reading A) (spell : A → List ℕ) (fits : S → A → Type 0) (next : S → A → S)
    → ((s : S) → IsCodec (one s) spell (fits s))
    → (n : ℕ) (s : S) → IsCodec (repeat one next n s) (flat_map spell) (λ xs. (length xs ≡ n) × AllFit fits next s xs)
unfolding repeat
repeat_codec {S} {A} one spell fits next each n s = record { takes = taking n s; again = λ xs rest h. subst (λ (k : ℕ). repeat one next k s (flat_map spell xs ++ rest) ≡ Ok (xs, rest)) h.0 (reading s xs rest h.1) }
  where
    taking : (n : ℕ) (s : S) (bytes : List ℕ) (x : List A × List ℕ) → IsBytes bytes → repeat one next n s bytes ≡ Ok x → Takes bytes (flat_map spell x.0) x.1 × ((length x.0 ≡ n) × AllFit fits next s x.0)
    taking zero s bytes x ok e =
        subst (λ (y : List A × List ℕ). Takes bytes (flat_map spell y.0) y.1 × ((length y.0 ≡ 0) × AllFit fits next s y.0)) (ok_is ([], bytes) x e) (record { parts = refl; rest_fits = ok }, (refl, tt))
    taking (suc n) s bytes x ok e =
        let a = bind_ok (one s bytes) (λ y. repeat one next n (next s y.0) y.1 >>= λ ys. Ok (y.0 ∷ ys.0, ys.1)) x e in
        let b = bind_ok (repeat one next n (next s a.0.0) a.0.1) (λ ys. Ok (a.0.0 ∷ ys.0, ys.1)) x a.2 in
        let p = (each s).takes bytes a.0 ok a.1 in
        let q = taking n (next s a.0.0) a.0.1 b.0 p.0.rest_fits b.1 in
        let both = Takes-then bytes (spell a.0.0) a.0.1 (flat_map spell b.0.0) b.0.1 p.0 q.0 in
        let made : List A × List ℕ = (a.0.0 ∷ b.0.0, b.0.1) in
        subst (λ (y : List A × List ℕ). Takes bytes (flat_map spell y.0) y.1 × ((length y.0 ≡ suc n) × AllFit fits next s y.0)) (ok_is made x b.2) (rw flat_map-cons both, (ap suc q.1.0, (p.1, q.1.1)))

    reading : (s : S) (xs : List A) (rest : List ℕ) → AllFit fits next s xs → repeat one next (length xs) s (flat_map spell xs ++ rest) ≡ Ok (xs, rest)
    reading s [] rest h = refl
    reading s (x ∷ xs) rest h =
        let regrouped : flat_map spell (x ∷ xs) ++ rest ≡ spell x ++ (flat_map spell xs ++ rest) = ap (λ (t : List ℕ). t ++ rest) (flat_map-cons spell x xs) ∙ append_assoc (spell x) (flat_map spell xs) rest in
        ap (repeat one next (suc (length xs)) s) regrouped ∙ rw ((each s).again x (flat_map spell xs ++ rest) h.0, reading (next s x) xs rest h.1) refl

-- ---- a whole part

pub record IsWhole {A B : Type 0} (rule : A → Bool) (view : A → B) (spell : A → List ℕ) (fits : A → Type 0) (bytes : List ℕ) (y : B) : Type 0 where
  pub value : A
  pub is : view value ≡ y
  pub spelled : bytes ≡ spell value
  pub fit : fits value
  pub ruled : rule value ≡ true

whole_parts : {A B : Type 0} (rule : A → Bool) (view : A → B) (x : A × List ℕ) (y : B) → whole rule view (Ok x) ≡ Ok y → (length x.1 ≡ 0) × (rule x.0 ≡ true) × (view x.0 ≡ y)
whole_parts {A} {B} rule view x y e = by (eqb (length x.1) 0) (rule x.0) refl refl e
  where
    by : (b c : Bool) → eqb (length x.1) 0 ≡ b → rule x.0 ≡ c → cond {A = Result B ℕ} b (cond c (Ok (view x.0)) (Err 0)) (Err (length x.1)) ≡ Ok y → (length x.1 ≡ 0) × (rule x.0 ≡ true) × (view x.0 ≡ y)
    by true true h k e = (eqb-true _ _ h, k, cc)
    by true false h k e = absurd cc
    by false c h k e = absurd cc

pub whole_takes : {A B : Type 0} (read : List ℕ → Reading A) (spell : A → List ℕ) (fits : A → Type 0) (rule : A → Bool) (view : A → B) → IsCodec read spell fits
    → (bytes : List ℕ) (y : B) → IsBytes bytes → whole rule view (read bytes) ≡ Ok y → IsWhole rule view spell fits bytes y
whole_takes {A} {B} read spell fits rule view codec bytes y small e = by (read bytes) refl e
  where
    by : (r : Reading A) → read bytes ≡ r → whole rule view r ≡ Ok y → IsWhole rule view spell fits bytes y
    by (Ok x) h e =
        let p = whole_parts rule view x y e in
        let t = codec.takes bytes x small h in
        record {
          value = x.0;
          is = p.2;
          spelled = t.0.parts ∙ ap (λ (r : List ℕ). spell x.0 ++ r) (nil_from_length x.1 p.0) ∙ append-nil (spell x.0);
          fit = t.1;
          ruled = p.1;
        }
    by (Err left) h e = absurd cc

pub whole_again : {A B : Type 0} (read : List ℕ → Reading A) (spell : A → List ℕ) (fits : A → Type 0) (rule : A → Bool) (view : A → B) → IsCodec read spell fits
    → (x : A) → fits x → rule x ≡ true → whole rule view (read (spell x)) ≡ Ok (view x)
whole_again {A} {B} read spell fits rule view codec x fit h =
    let e : read (spell x) ≡ Ok (x, []) = ap read (sym (append-nil (spell x))) ∙ codec.again x [] fit in
    rw (e, h) refl

-- the first n bytes under a rule
pub front_codec : (n : ℕ) (rule : List ℕ → Bool) → IsCodec (ruled_front n rule) (λ x. x) (λ x. (length x ≡ n) × (rule x ≡ true))
unfolding ruled_front
front_codec n rule = record { takes = taking; again = reading }
  where
    taking : (bytes : List ℕ) (x : List ℕ × List ℕ) → IsBytes bytes → (front n bytes >>= λ x. kept (rule x.0) x bytes) ≡ Ok x → Takes bytes x.0 x.1 × ((length x.0 ≡ n) × (rule x.0 ≡ true))
    taking bytes x fits e =
        let c = bind_ok (front n bytes) (λ y. kept (rule y.0) y bytes) x e in
        let g = guard_ok (ltb (length bytes) n) (length bytes) (take n bytes, drop n bytes) c.0 c.1 in
        let long : n ≤ length bytes = ltb-false _ _ g.0 in
        let len : length (take n bytes) ≡ n = omega (arith, length-take n bytes) in
        let j = kept_ok (rule c.0.0) c.0 x bytes c.2 in
        let ruled : rule (take n bytes) ≡ true = ap (λ (y : List ℕ × List ℕ). rule y.0) g.1 ∙ j.0 in
        subst (λ (y : List ℕ × List ℕ). Takes bytes y.0 y.1 × ((length y.0 ≡ n) × (rule y.0 ≡ true))) (g.1 ∙ j.1)
        (record { parts = sym (take-append-drop n bytes); rest_fits = IsBytes-drop n bytes fits }, (len, ruled))

    reading : (x : List ℕ) (rest : List ℕ) → (length x ≡ n) × (rule x ≡ true) → (front n (x ++ rest) >>= λ y. kept (rule y.0) y (x ++ rest)) ≡ Ok (x, rest)
    reading x rest h =
        let long : ltb (length (x ++ rest)) n ≡ false = le-ltb _ _ (omega (arith, length-append x rest, h.0)) in
        rw (long, take_at x rest n h.0, drop_at x rest n h.0, h.1) refl
