-- Lines, and pieces of them.
use Rattle.std.proofs.Common.{ℕ, zero, suc, ◌≡◌, ◌<◌, ◌≤◌, ◌+◌, ◌-◌, min, Bool, true, false, List, [], ◌∷◌, ◌++◌, Option, length, take, drop, refl, sym, ap, ◌∙◌, arith, length-take, append_assoc, append-nil}
use Rattle.std.specs.Prelude.{Some, None, nat_lt, IfSome, slice_index, ◌==◌}
use Rattle.std.specs.Option.{option_map}
use Rattle.std.specs.List.{after_first, before_first, position_or_len}
use Rattle.std.specs.Io.KnownBytes.{IsAtEnd, prepend_known}
use Rattle.std.proofs.Math.Seq.{take-append-add, drop-append-add, take-length}
use Rattle.std.proofs.lemmas.Bool.{false_from_ne_true, lt-ltb, ltb-false, ltb-true}
use Rattle.std.proofs.lemmas.List.{drop_all, take_all, take_min, take-append-le, drop-append-le}
use Rattle.memchr.specs.Find.{IsFirstByte, is_byte}
use Rattle.line_reader.specs.Lines.{behind_line, has_feed, is_feed, is_too_long, kept, without_return}
use Rattle.line_reader.specs.declared.line.TheConstants.{KEPT_BYTES, LINE_BYTES}
use Rattle.line_parts.proofs.FirstByte.{first_byte, no_byte}

-- WHAT IS KEPT

pub taken_behind : (n room : ℕ) (xs ys : List ℕ) → length xs ≤ n → room ≡ min (n - length xs) (length ys) → xs ++ take room ys ≡ take n (xs ++ ys)
taken_behind n room xs ys le e =
    let whole : n ≡ length xs + (n - length xs) = omega arith in
    ap (λ k. xs ++ take k ys) e ∙ ap (λ zs. xs ++ zs) (take_min (n - length xs) ys) ∙ sym (ap (λ k. take k (xs ++ ys)) whole ∙ take-append-add xs ys (n - length xs))

-- taking from the front twice
taken_twice : (n : ℕ) (xs ys : List ℕ) → take n (take n xs ++ ys) ≡ take n (xs ++ ys)
taken_twice zero xs ys = refl
taken_twice (suc n) [] ys = refl
taken_twice (suc n) (x ∷ xs) ys = ap (λ zs. x ∷ zs) (taken_twice n xs ys)

pub kept_twice : (xs ys : List ℕ) → kept (kept xs ++ ys) ≡ kept (xs ++ ys)
unfolding kept
kept_twice xs ys = taken_twice KEPT_BYTES xs ys

-- FEEDS

pub feed_found : (bytes : List ℕ) (n : ℕ) → IsFirstByte (is_byte 10) bytes (Some n) → true ≡ has_feed bytes
feed_found bytes n first =
    let found = first_byte 10 bytes n first in
    let lt : position_or_len is_feed bytes < length bytes = omega (arith, found.0, found.1) in
    sym (lt-ltb _ _ lt)

pub feed_before : (bytes : List ℕ) (n : ℕ) → IsFirstByte (is_byte 10) bytes (Some n) → take n bytes ≡ before_first is_feed bytes
feed_before bytes n first = ap (λ k. take k bytes) (first_byte 10 bytes n first).0

pub feed_after : (bytes : List ℕ) (n : ℕ) → IsFirstByte (is_byte 10) bytes (Some n) → drop (n + 1) bytes ≡ after_first is_feed bytes
feed_after bytes n first = ap (λ k. drop (k + 1) bytes) (first_byte 10 bytes n first).0

pub no_feed : (bytes : List ℕ) → IsFirstByte (is_byte 10) bytes None → false ≡ has_feed bytes
no_feed bytes none =
    let e = no_byte 10 bytes none in
    sym (false_from_ne_true (has_feed bytes) (λ h. let lt = ltb-true _ _ h in omega (arith, lt, e)))

pub no_feed_before : (bytes : List ℕ) → IsFirstByte (is_byte 10) bytes None → bytes ≡ before_first is_feed bytes
no_feed_before bytes none = sym (take-length bytes) ∙ ap (λ k. take k bytes) (no_byte 10 bytes none)

pub no_feed_after : (bytes : List ℕ) → IsFirstByte (is_byte 10) bytes None → drop (length bytes) bytes ≡ after_first is_feed bytes
no_feed_after bytes none =
    let e = no_byte 10 bytes none in
    drop_all (length bytes) bytes (omega arith) ∙ sym (drop_all (position_or_len is_feed bytes + 1) bytes (omega (arith, e)))

-- A PIECE AND WHAT FOLLOWS

-- where a piece has a LF the line ends in it
place_in : (bytes rest : List ℕ) → position_or_len is_feed bytes < length bytes → position_or_len is_feed (bytes ++ rest) ≡ position_or_len is_feed bytes
place_in [] rest lt = absurd (omega arith)
place_in (b ∷ bytes) rest lt = by (is_feed b) refl (λ h. place_in bytes rest h)
  where
    by : (v : Bool) → is_feed b ≡ v → (position_or_len is_feed bytes < length bytes → position_or_len is_feed (bytes ++ rest) ≡ position_or_len is_feed bytes) → position_or_len is_feed (b ∷ bytes ++ rest) ≡ position_or_len is_feed (b ∷ bytes)
    by true e further = rw e refl
    by false e further =
        let more : position_or_len is_feed (b ∷ bytes) ≡ 1 + position_or_len is_feed bytes = rw e refl in
        let behind : position_or_len is_feed (bytes ++ rest) ≡ position_or_len is_feed bytes = further (omega (arith, lt, more)) in
        rw (e, behind) refl

-- where it has none the line goes on
place_behind : (bytes rest : List ℕ) → length bytes ≤ position_or_len is_feed bytes → position_or_len is_feed (bytes ++ rest) ≡ length bytes + position_or_len is_feed rest
place_behind [] rest le = omega arith
place_behind (b ∷ bytes) rest le = by (is_feed b) refl (λ h. place_behind bytes rest h)
  where
    by : (v : Bool) → is_feed b ≡ v → (length bytes ≤ position_or_len is_feed bytes → position_or_len is_feed (bytes ++ rest) ≡ length bytes + position_or_len is_feed rest) → position_or_len is_feed (b ∷ bytes ++ rest) ≡ length (b ∷ bytes) + position_or_len is_feed rest
    by true e further =
        let none : position_or_len is_feed (b ∷ bytes) ≡ 0 = rw e refl in
        absurd (omega (arith, le, none))
    by false e further =
        let more : position_or_len is_feed (b ∷ bytes) ≡ 1 + position_or_len is_feed bytes = rw e refl in
        let behind : position_or_len is_feed (bytes ++ rest) ≡ length bytes + position_or_len is_feed rest = further (omega (arith, le, more)) in
        rw (e, behind) (omega arith)

before_here : (bytes rest : List ℕ) → has_feed bytes ≡ true → before_first is_feed (bytes ++ rest) ≡ before_first is_feed bytes
before_here bytes rest has =
    let lt = ltb-true _ _ has in
    let le : position_or_len is_feed bytes ≤ length bytes = omega (arith, lt) in
    ap (λ k. take k (bytes ++ rest)) (place_in bytes rest lt) ∙ take-append-le (position_or_len is_feed bytes) bytes rest le

after_here : (bytes rest : List ℕ) → has_feed bytes ≡ true → after_first is_feed (bytes ++ rest) ≡ after_first is_feed bytes ++ rest
after_here bytes rest has =
    let lt = ltb-true _ _ has in
    ap (λ k. drop (k + 1) (bytes ++ rest)) (place_in bytes rest lt) ∙ drop-append-le (position_or_len is_feed bytes + 1) bytes rest (omega (arith, lt))

before_further : (bytes rest : List ℕ) → has_feed bytes ≡ false → before_first is_feed (bytes ++ rest) ≡ bytes ++ before_first is_feed rest
before_further bytes rest none = ap (λ k. take k (bytes ++ rest)) (place_behind bytes rest (ltb-false _ _ none)) ∙ take-append-add bytes rest (position_or_len is_feed rest)

after_further : (bytes rest : List ℕ) → has_feed bytes ≡ false → after_first is_feed (bytes ++ rest) ≡ after_first is_feed rest
after_further bytes rest none =
    ap (λ k. drop (k + 1) (bytes ++ rest)) (place_behind bytes rest (ltb-false _ _ none))
    ∙ (let whole : length bytes + position_or_len is_feed rest + 1 ≡ length bytes + (position_or_len is_feed rest + 1) = omega arith in ap (λ k. drop k (bytes ++ rest)) whole)
    ∙ drop-append-add bytes rest (position_or_len is_feed rest + 1)

before_all : (bytes : List ℕ) → has_feed bytes ≡ false → before_first is_feed bytes ≡ bytes
before_all bytes none = take_all (position_or_len is_feed bytes) bytes (ltb-false _ _ none)

pub after_none : (bytes : List ℕ) → has_feed bytes ≡ false → after_first is_feed bytes ≡ []
after_none bytes none = drop_all (position_or_len is_feed bytes + 1) bytes (let le = ltb-false _ _ none in omega (arith, le))

-- A LINE SO FAR

-- what is kept of a line of which this much is kept already
abbrev pub text_behind : List ℕ → List ℕ → List ℕ
text_behind text bytes = kept (text ++ before_first is_feed bytes)

-- the line ends in what is ahead
pub text_ends : (text old now ahead : List ℕ) (left start : Option (List ℕ)) → has_feed ahead ≡ true → now ≡ text_behind text ahead
    → option_map (text_behind text) (prepend_known ahead left) ≡ option_map (text_behind old) start → IfSome start (λ bytes. now ≡ text_behind old bytes)
text_ends text old now ahead left None has is so_far = tt
text_ends text old now ahead None (Some bytes) has is so_far = cc
text_ends text old now ahead (Some rest) (Some bytes) has is so_far =
    let here : text_behind text (ahead ++ rest) ≡ text_behind text ahead = ap (λ xs. kept (text ++ xs)) (before_here ahead rest has) in
    let same : text_behind text (ahead ++ rest) ≡ text_behind old bytes = cc in
    is ∙ sym here ∙ same

pub rest_ends : (ahead now : List ℕ) (left start : Option (List ℕ)) → has_feed ahead ≡ true → now ≡ after_first is_feed ahead
    → option_map behind_line (prepend_known ahead left) ≡ option_map behind_line start → prepend_known now left ≡ option_map behind_line start
unfolding behind_line
rest_ends ahead now None start has is so_far = so_far
rest_ends ahead now (Some rest) start has is so_far = ap (λ xs. Some (xs ++ rest)) is ∙ ap (λ xs. Some xs) (sym (after_here ahead rest has)) ∙ so_far

-- it goes on behind it
pub text_further : (text old now ahead : List ℕ) (left unread start : Option (List ℕ)) → has_feed ahead ≡ false → now ≡ text_behind text ahead → unread ≡ prepend_known [] left
    → option_map (text_behind text) (prepend_known ahead left) ≡ option_map (text_behind old) start → option_map (text_behind now) unread ≡ option_map (text_behind old) start
text_further text old now ahead None unread start none is un so_far = rw un so_far
text_further text old now ahead (Some rest) unread start none is un so_far =
    let all : now ≡ kept (text ++ ahead) = is ∙ ap (λ xs. kept (text ++ xs)) (before_all ahead none) in
    let more : text_behind now rest ≡ text_behind text (ahead ++ rest) =
    ap (λ xs. kept (xs ++ before_first is_feed rest)) all ∙ kept_twice (text ++ ahead) (before_first is_feed rest)
    ∙ ap kept (append_assoc text ahead (before_first is_feed rest)) ∙ sym (ap (λ xs. kept (text ++ xs)) (before_further ahead rest none)) in
    rw un (ap (λ xs. Some xs) more ∙ so_far)

pub rest_further : (ahead : List ℕ) (left unread start : Option (List ℕ)) → has_feed ahead ≡ false → unread ≡ prepend_known [] left
    → option_map behind_line (prepend_known ahead left) ≡ option_map behind_line start → option_map behind_line unread ≡ option_map behind_line start
unfolding behind_line
rest_further ahead None unread start none un so_far = rw un so_far
rest_further ahead (Some rest) unread start none un so_far = rw un (ap (λ xs. Some xs) (sym (after_further ahead rest none)) ∙ so_far)

-- and the input ends there
pub text_at_end : (old now : List ℕ) (unread start : Option (List ℕ)) → now ≡ kept now → IsAtEnd unread → option_map (text_behind now) unread ≡ option_map (text_behind old) start → IfSome start (λ bytes. now ≡ text_behind old bytes)
text_at_end old now unread None is ended so_far = tt
text_at_end old now None (Some bytes) is ended so_far = cc
text_at_end old now (Some rest) (Some bytes) is ended so_far =
    let empty : text_behind now rest ≡ kept now = ap (λ xs. text_behind now xs) ended ∙ ap kept (append-nil now) in
    let same : text_behind now rest ≡ text_behind old bytes = cc in
    is ∙ sym empty ∙ same

pub rest_at_end : (unread start : Option (List ℕ)) → IsAtEnd unread → option_map behind_line unread ≡ option_map behind_line start → unread ≡ option_map behind_line start
unfolding behind_line
rest_at_end None start ended so_far = so_far
rest_at_end (Some rest) start ended so_far =
    let empty : Some rest ≡ Some (after_first is_feed rest) = rw ended refl in
    empty ∙ so_far

-- A WHOLE LINE

length_without : (xs : List ℕ) → (length (without_return xs) ≤ length xs) × (length xs ≤ length (without_return xs) + 1)
length_without xs = by (slice_index xs (length xs - 1) == 13) refl
  where
    by : (v : Bool) → (slice_index xs (length xs - 1) == 13) ≡ v → (length (without_return xs) ≤ length xs) × (length xs ≤ length (without_return xs) + 1)
    by true e = rw e (let n = length-take (length xs - 1) xs in (omega (arith, n), omega (arith, n)))
    by false e = rw e (omega arith, omega arith)

kept_few : (xs : List ℕ) → length xs ≤ KEPT_BYTES → kept xs ≡ xs
unfolding kept
kept_few xs le = take_all KEPT_BYTES xs le

kept_many : (xs : List ℕ) → KEPT_BYTES ≤ length xs → length (kept xs) ≡ KEPT_BYTES
unfolding kept
kept_many xs le = length-take KEPT_BYTES xs ∙ omega arith

pub size_kept : (xs : List ℕ) → nat_lt LINE_BYTES (length (without_return (kept xs))) ≡ is_too_long (without_return xs)
size_kept xs = by (nat_lt KEPT_BYTES (length xs)) refl
  where
    by : (v : Bool) → nat_lt KEPT_BYTES (length xs) ≡ v → nat_lt LINE_BYTES (length (without_return (kept xs))) ≡ is_too_long (without_return xs)
    by true e =
        let lt = ltb-true _ _ e in
        let a = length_without xs in
        let b = length_without (kept xs) in
        let k = kept_many xs (omega arith) in
        let one : nat_lt LINE_BYTES (length (without_return (kept xs))) ≡ true = lt-ltb _ _ (omega (arith, a.1, b.1, k)) in
        let two : nat_lt LINE_BYTES (length (without_return xs)) ≡ true = lt-ltb _ _ (omega (arith, a.1)) in
        one ∙ sym two
    by false e = rw (kept_few xs (ltb-false _ _ e)) refl

pub text_kept : (xs : List ℕ) → is_too_long (without_return xs) ≡ false → without_return (kept xs) ≡ without_return xs
text_kept xs e =
    let few = ltb-false _ _ e in
    let a = length_without xs in
    ap without_return (kept_few xs (omega (arith, few, a.1)))

pub kept_again : (xs : List ℕ) → kept xs ≡ kept (kept xs)
kept_again xs = sym (ap (λ ys. kept ys) (append-nil xs)) ∙ sym (kept_twice xs []) ∙ ap (λ ys. kept ys) (append-nil (kept xs))

pub at_end_behind : (bytes : List ℕ) (left : Option (List ℕ)) → bytes ≡ [] → IsAtEnd left → IsAtEnd (prepend_known bytes left)
at_end_behind bytes None e ended = tt
at_end_behind bytes (Some rest) e ended = rw (e, ended) refl
