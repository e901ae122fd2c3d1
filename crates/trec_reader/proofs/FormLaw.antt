-- A document is read where bytes of its form stand, and nowhere else.
use Rattle.std.proofs.Common.{ℕ, suc, ◌≡◌, ◌<◌, ◌≤◌, ◌+◌, Bool, true, false, not, ◌&&◌, List, [], ◌∷◌, ◌++◌, length, take, drop, Option, Some, None, option_map, Ok, Err, IsTrue, refl, sym, ap, ◌∙◌, subst, arith, append_assoc, length-append, length-take}
use Rattle.std.specs.Prelude.{if◌then◌else◌, codes, ◌==◌, nat_lt, nat_le}
use Rattle.std.specs.List.{list_all, prefix_len}
use Rattle.std.proofs.Math.Seq.{take-append_seam, drop-append_seam, drop-append-add}
use Rattle.std.proofs.lemmas.List.{take-append-drop, drop-drop}
use Rattle.std.proofs.lemmas.List.Folds.{length-prefix_len}
use Rattle.ri_base.specs.Ascii.{is_space}
use Rattle.ri_base.specs.Text.{is_docno, is_docno_byte}
use Rattle.ri_base.specs.declared.text.TheConstants.{DOCNO_BYTES}
use Rattle.trec_reader.specs.Marks.{end_tag, is_named, tag}
use Rattle.trec_reader.specs.Pieces.{pieces}
use Rattle.trec_reader.specs.Documents.{Reading, after, continued, ◌>>=◌, space, start_tag, start_tag_of, doc_tag, docno_tag, docno, docno_behind, docno_of, docno_tagged, spaced_docno, docno_element, spaced_element, header, text, text_of, to_end, to_end_at, named, document}
use Rattle.trec_reader.specs.Form.{AreSpaces, HasNoEnd, IsTag, StartsWithDocument}
use Rattle.trec_reader.specs.declared.mark.Mark.{Mark}
use Rattle.trec_reader.specs.declared.mark.Mark.TheVariants.{Is, Not, Open}
use Rattle.trec_reader.specs.declared.mark.Tag.{Tag}
use Rattle.trec_reader.specs.declared.piece.Piece.{Piece}
use Rattle.trec_reader.specs.declared.stop.Stop.{Stop}
use Rattle.trec_reader.specs.declared.stop.Stop.TheVariants.{Refused}
use Rattle.trec_reader.specs.declared.stop.Kind.TheVariants.{DocnoEmpty, DocnoBad, DocnoLong}
use Rattle.trec_reader.proofs.Runs.{passes_of_run, docno_fits}
use Rattle.trec_reader.proofs.TagForms.{both_true, end_tag_form, form_end_tag, form_tagged, named_form, same_bytes, end_tag_plain, front_fits, tag_open}

-- WHERE A TEXT ENDS

here_is : (bytes : List ℕ) (t : Tag) → end_tag (codes "doc") bytes ≡ Is t → to_end bytes ≡ Some (0, t.close + 1)
unfolding end_tag tag
here_is [] t e = cc
here_is (b ∷ bytes) t e = ap (λ m. to_end_at m (to_end bytes)) e

abbrev head_or : List ℕ → ℕ
head_or [] = 0
head_or (x ∷ xs) = x

pair : {A B : Type 0} (a c : A) (b d : B) → ◌≡◌ {A = Option (A × B)} (Some (a, b)) (Some (c, d)) → (a ≡ c) × (b ≡ d)
pair {A = A} {B = B} a c b d e = let same : ◌≡◌ {A = A × B} (a, b) (c, d) = cc in (ap (λ x. x.0) same, ap (λ x. x.1) same)

-- no end tag stands before the first
none_before : (bytes before front more : List ℕ) (n m : ℕ) → to_end bytes ≡ Some (n, m) → bytes ≡ before ++ (front ++ more) → IsTag true (codes "doc") front → n ≤ length before
none_before bytes [] front more n m e parts h =
    let found = form_end_tag (codes "doc") front more h in
    let zero_is = pair 0 n _ m (sym (here_is bytes found.0 (ap (end_tag (codes "doc")) parts ∙ found.1)) ∙ e) in
    omega (arith, zero_is.0)
none_before [] (b ∷ before) front more n m e parts h = absurd cc
none_before (c ∷ bytes) (b ∷ before) front more n m e parts h =
    by (end_tag (codes "doc") (c ∷ bytes)) (to_end bytes) (λ i j f. none_before bytes before front more i j f (ap (drop 1) parts) h) e
  where
    by : (k : Mark) (o : Option (ℕ × ℕ)) → ((i j : ℕ) → o ≡ Some (i, j) → i ≤ length before) → to_end_at k o ≡ Some (n, m) → n ≤ length (b ∷ before)
    by (Is t) o on e = let zero_is = pair 0 n _ m e in omega (arith, zero_is.0)
    by Not None on e = absurd cc
    by Not (Some (i, j)) on e = let one = pair (suc i) n j m e in omega (arith, one.0, on i j refl)
    by Open o on e = absurd cc

-- bytes of some form at the front of others, so many
pub record Front (P : List ℕ → Type 0) (bytes : List ℕ) (n : ℕ) : Type 0 where
  pub front : List ℕ
  pub rest : List ℕ
  pub parts : bytes ≡ front ++ rest
  pub long : length front ≡ n
  pub is : P front

-- the first end tag
end_at : (bytes : List ℕ) (n m : ℕ) → to_end bytes ≡ Some (n, m) → Front (IsTag true (codes "doc")) (drop n bytes) m
end_at [] n m e = absurd cc
end_at (b ∷ bytes) n m e = by (end_tag (codes "doc") (b ∷ bytes)) refl (to_end bytes) (λ i j f. end_at bytes i j f) n m e
  where
    by : (k : Mark) → end_tag (codes "doc") (b ∷ bytes) ≡ k → (o : Option (ℕ × ℕ)) → ((i j : ℕ) → o ≡ Some (i, j) → Front (IsTag true (codes "doc")) (drop i bytes) j) → (n m : ℕ) → to_end_at k o ≡ Some (n, m) → Front (IsTag true (codes "doc")) (drop n (b ∷ bytes)) m
    by (Is t) is o on n m e =
        let same = pair 0 n (t.close + 1) m e in
        let form = end_tag_form (codes "doc") (b ∷ bytes) t is in
        subst (λ i. Front (IsTag true (codes "doc")) (drop i (b ∷ bytes)) m) same.0 (record { front = form.front; rest = form.rest; parts = form.parts; long = sym form.close ∙ same.1; is = form.is })
    by Not is None on n m e = absurd cc
    by Not is (Some (i, j)) on n m e = let same = pair (suc i) n j m e in subst (λ x. Front (IsTag true (codes "doc")) (drop x (b ∷ bytes)) m) same.0 (subst (Front (IsTag true (codes "doc")) (drop i bytes)) same.1 (on i j refl))
    by Open is o on n m e = absurd cc

within_end : (bytes : List ℕ) (n m : ℕ) → to_end bytes ≡ Some (n, m) → n ≤ length bytes
within_end [] n m e = absurd cc
within_end (b ∷ bytes) n m e = by (end_tag (codes "doc") (b ∷ bytes)) (to_end bytes) (λ i j f. within_end bytes i j f) e
  where
    by : (k : Mark) (o : Option (ℕ × ℕ)) → ((i j : ℕ) → o ≡ Some (i, j) → i ≤ length bytes) → to_end_at k o ≡ Some (n, m) → n ≤ length (b ∷ bytes)
    by (Is t) o on e = let same = pair 0 n (t.close + 1) m e in omega (arith, same.0)
    by Not None on e = absurd cc
    by Not (Some (i, j)) on e = let same = pair (suc i) n j m e in omega (arith, same.0, on i j refl)
    by Open o on e = absurd cc

tag_some : (is_end : Bool) (name front : List ℕ) → IsTag is_end name front → 0 < length front
tag_some is_end name front h = let o = tag_open is_end name front h in omega (arith, ap length o.is)

-- no end tag stands in the text
no_end : (bytes : List ℕ) (n m : ℕ) → to_end bytes ≡ Some (n, m) → HasNoEnd (take n bytes)
no_end bytes n m e before front behind same h =
    let parts : bytes ≡ before ++ (front ++ (behind ++ drop n bytes)) =
    sym (take-append-drop n bytes) ∙ ap (λ xs. xs ++ drop n bytes) same ∙ append_assoc (before ++ front) behind (drop n bytes) ∙ append_assoc before front (behind ++ drop n bytes) in
    let before_it = none_before bytes before front (behind ++ drop n bytes) n m e parts h in
    omega (arith, before_it, tag_some true (codes "doc") front h, ap length same, length-take n bytes, within_end bytes n m e, length-append (before ++ front) behind, length-append before front)

to_end_is : (text close rest : List ℕ) → HasNoEnd text → IsTag true (codes "doc") close → to_end (text ++ (close ++ rest)) ≡ Some (length text, length close)
to_end_is [] close rest none h = let found = form_end_tag (codes "doc") close rest h in here_is (close ++ rest) found.0 found.1 ∙ ap (λ n. Some (0, n)) found.2
to_end_is (b ∷ text) close rest none h =
    by (end_tag (codes "doc") (b ∷ (text ++ (close ++ rest)))) refl (to_end_is text close rest (λ before front behind e t. none (b ∷ before) front behind (ap (λ xs. b ∷ xs) e) t) h)
  where
    here : text ++ (close ++ rest) ≡ text ++ 60 ∷ ((tag_open true (codes "doc") close h).more ++ rest)
    here = ap (λ xs. text ++ (xs ++ rest)) (tag_open true (codes "doc") close h).is

    by : (m : Mark) → end_tag (codes "doc") (b ∷ (text ++ (close ++ rest))) ≡ m → to_end (text ++ (close ++ rest)) ≡ Some (length text, length close) → to_end_at m (to_end (text ++ (close ++ rest))) ≡ Some (length (b ∷ text), length close)
    by (Is t) is further =
        let form = end_tag_form (codes "doc") _ t is in
        let sign = tag_open true (codes "doc") form.front form.is in
        let tail : text ++ 60 ∷ ((tag_open true (codes "doc") close h).more ++ rest) ≡ sign.more ++ form.rest = sym here ∙ ap (drop 1) (form.parts ∙ ap (λ xs. xs ++ form.rest) sign.is) in
        let fits = front_fits text _ sign.more form.rest tail sign.no_other in
        let first : b ≡ 60 = ap (λ xs. head_or xs) (form.parts ∙ ap (λ xs. xs ++ form.rest) sign.is) in
        let whole : b ∷ text ≡ form.front ++ fits.0 = ap (λ xs. b ∷ xs) fits.1 ∙ ap (λ x. x ∷ (sign.more ++ fits.0)) first ∙ ap (λ xs. xs ++ fits.0) (sym sign.is) in
        absurd (none [] form.front fits.0 whole form.is)
    by Not is further = ap (option_map (λ x. (suc x.0, x.1))) further
    by Open is further = absurd (end_tag_plain (codes "doc") b text _ (ap (λ xs. end_tag (codes "doc") (b ∷ xs)) (sym here) ∙ is))

-- READINGS

-- one reading and then another
record Bound {A B : Type 0} (r : List ℕ → Reading A) (next : A → List ℕ → Reading B) (bytes : List ℕ) (y : B) (n : ℕ) : Type 0 where
  pub value : A
  pub long : ℕ
  pub further : ℕ
  pub first : r bytes ≡ Ok (value, long)
  pub second : next value (drop long bytes) ≡ Ok (y, further)
  pub all : long + further ≡ n

read_pair : {A : Type 0} (x y : A) (m n : ℕ) → ◌≡◌ {A = Reading A} (Ok (x, m)) (Ok (y, n)) → (x ≡ y) × (m ≡ n)
read_pair {A = A} x y m n e = let same : ◌≡◌ {A = A × ℕ} (x, m) (y, n) = cc in (ap (λ z. z.0) same, ap (λ z. z.1) same)

bound : {A B : Type 0} (r : List ℕ → Reading A) (next : A → List ℕ → Reading B) (bytes : List ℕ) (y : B) (n : ℕ) → (r >>= next) bytes ≡ Ok (y, n) → Bound r next bytes y n
bound {A = A} {B = B} r next bytes y n e = by (r bytes) refl e
  where
    by : (a : Reading A) → r bytes ≡ a → continued a bytes next ≡ Ok (y, n) → Bound r next bytes y n
    by (Ok (x, m)) is e = at (next x (drop m bytes)) refl e
      where
        at : (b : Reading B) → next x (drop m bytes) ≡ b → after m b ≡ Ok (y, n) → Bound r next bytes y n
        at (Ok (z, k)) here e = let same = read_pair z y (m + k) n e in record { value = x; long = m; further = k; first = is; second = here ∙ ap (λ w. Ok (w, k)) same.0; all = same.1 }
        at (Err stop) here e = absurd cc
    by (Err stop) is e = absurd cc

bound_is : {A B : Type 0} (r : List ℕ → Reading A) (next : A → List ℕ → Reading B) (bytes : List ℕ) (x : A) (y : B) (m k : ℕ) → r bytes ≡ Ok (x, m) → next x (drop m bytes) ≡ Ok (y, k) → (r >>= next) bytes ≡ Ok (y, m + k)
bound_is r next bytes x y m k first second = rw (first, second) refl

-- the same where the first reads just these bytes
bound_front : {A B : Type 0} (r : List ℕ → Reading A) (next : A → List ℕ → Reading B) (front rest : List ℕ) (x : A) (y : B) (k : ℕ) → r (front ++ rest) ≡ Ok (x, length front) → next x rest ≡ Ok (y, k) → (r >>= next) (front ++ rest) ≡ Ok (y, length front + k)
bound_front r next front rest x y k first second = bound_is r next (front ++ rest) x y (length front) k first (ap (next x) (drop-append_seam front rest) ∙ second)

-- TAGS

abbrev choice : Bool → ℕ → Stop → Reading (Unit {0})
choice v n none = if v then Ok (tt, n) else Err none

start_front : (name : List ℕ) (none unfinished : Stop) (bytes : List ℕ) (u : Unit {0}) (n : ℕ) → start_tag name none unfinished bytes ≡ Ok (u, n) → Front (IsTag false name) bytes n
start_front name none unfinished bytes u n e = by (tag bytes) refl e
  where
    by : (m : Mark) → tag bytes ≡ m → start_tag_of name none unfinished bytes m ≡ Ok (u, n) → Front (IsTag false name) bytes n
    by (Is t) is e = at t.is_end (is_named name bytes t) refl refl e
      where
        at : (v w : Bool) → t.is_end ≡ v → is_named name bytes t ≡ w → choice (not v && w) (t.close + 1) none ≡ Ok (u, n) → Front (IsTag false name) bytes n
        at true w h g e = absurd cc
        at false true h g e =
            let form = named_form false name bytes t is h g in
            let same = read_pair tt u (t.close + 1) n e in
            record { front = form.0.front; rest = form.0.rest; parts = form.0.parts; long = sym form.0.close ∙ same.1; is = form.1 }
        at false false h g e = absurd cc
    by Not is e = absurd cc
    by Open is e = absurd cc

start_reads : (name : List ℕ) (none unfinished : Stop) (front rest : List ℕ) → IsTag false name front → start_tag name none unfinished (front ++ rest) ≡ Ok (tt, length front)
start_reads name none unfinished front rest h =
    let tagged = form_tagged false name front rest h in
    rw (tagged.is, tagged.end, same_bytes _ _ tagged.named, tagged.close) refl

-- RUNS

pub run_exact : (p : ℕ → Bool) (xs ys : List ℕ) → list_all p xs ≡ true → prefix_len p ys ≡ 0 → prefix_len p (xs ++ ys) ≡ length xs
run_exact p [] ys h stops = stops
run_exact p (x ∷ xs) ys h stops =
    let both = both_true (p x) (list_all p xs) h in
    rw (both.0, run_exact p xs ys both.1 stops) (omega arith)

-- a run at the front
pub run_front : (p : ℕ → Bool) (bytes : List ℕ) → Front (λ front. IsTrue (list_all p front)) bytes (prefix_len p bytes)
run_front p bytes = record { front = take (prefix_len p bytes) bytes; rest = drop (prefix_len p bytes) bytes; parts = sym (take-append-drop (prefix_len p bytes) bytes); long = run_length p bytes; is = passes_of_run p bytes (prefix_len p bytes) refl }
  where
    run_length : (p : ℕ → Bool) (bytes : List ℕ) → length (take (prefix_len p bytes) bytes) ≡ prefix_len p bytes
    run_length p bytes = length-prefix_len p bytes

no_docno_byte : (b : ℕ) → is_space b ≡ true → is_docno_byte b ≡ false
no_docno_byte b e = grind (arith, e)

-- no docno goes on where white space stands, or '<'
docno_stops : (spaces rest : List ℕ) → IsTrue (list_all is_space spaces) → prefix_len is_docno_byte (spaces ++ 60 ∷ rest) ≡ 0
docno_stops [] rest h = refl
docno_stops (s ∷ spaces) rest h = rw (no_docno_byte s (both_true (is_space s) (list_all is_space spaces) h).0) refl

-- DOCNOS

record DocnoPart (name bytes : List ℕ) : Type 0 where
  pub space : List ℕ
  pub close : List ℕ
  pub parts : bytes ≡ name ++ (space ++ close)
  pub is_docno : IsTrue (is_docno name)
  pub spaces : AreSpaces space
  pub closes : IsTag true (codes "docno") close

-- what is read behind a docno and its white space
record Behind (front : List ℕ) (at : ℕ) (bytes : List ℕ) (found : List ℕ) (n : ℕ) : Type 0 where
  pub same : front ≡ found
  pub some : 0 < length front
  pub short : nat_lt DOCNO_BYTES (length front) ≡ false
  pub long : ℕ
  pub all : at + long ≡ n
  pub close : Front (IsTag true (codes "docno")) bytes long

abbrev choices : Bool → Bool → Bool → ℕ → List ℕ → ℕ → Reading (List ℕ)
choices u v w at front n = if u then Err (Refused DocnoEmpty at) else if not v then Err (Refused DocnoBad at) else if w then Err (Refused DocnoLong 0) else Ok (front, n)

behind : (front : List ℕ) (at : ℕ) (bytes : List ℕ) (found : List ℕ) (n : ℕ) → docno_behind front at bytes ≡ Ok (found, n) → Behind front at bytes found n
behind front at [] found n e = absurd cc
behind front at (b ∷ bytes) found n e = by (b == 60) e
  where
    tagged : (m : Mark) → tag (b ∷ bytes) ≡ m → docno_tagged front at (b ∷ bytes) m ≡ Ok (found, n) → Behind front at (b ∷ bytes) found n
    tagged (Is t) is e = chosen (length front == 0) (t.is_end && is_named (codes "docno") (b ∷ bytes) t) (nat_lt DOCNO_BYTES (length front)) refl refl refl e
      where
        chosen : (u v w : Bool) → (length front == 0) ≡ u → (t.is_end && is_named (codes "docno") (b ∷ bytes) t) ≡ v → nat_lt DOCNO_BYTES (length front) ≡ w → choices u v w at front (at + (t.close + 1)) ≡ Ok (found, n) → Behind front at (b ∷ bytes) found n
        chosen true v w eu ev ew e = absurd cc
        chosen false false w eu ev ew e = absurd cc
        chosen false true true eu ev ew e = absurd cc
        chosen false true false eu ev ew e =
            let both = both_true t.is_end (is_named (codes "docno") (b ∷ bytes) t) ev in
            let form = named_form true (codes "docno") (b ∷ bytes) t is both.0 both.1 in
            let same = read_pair front found (at + (t.close + 1)) n e in
            record {
              same = same.0;
              some = grind (arith, eu);
              short = ew;
              long = t.close + 1;
              all = same.1;
              close = record { front = form.0.front; rest = form.0.rest; parts = form.0.parts; long = sym form.0.close; is = form.1 };
            }
    tagged Not is e = absurd cc
    tagged Open is e = absurd cc

    by : (v : Bool) → (if v then docno_tagged front at (b ∷ bytes) (tag (b ∷ bytes)) else Err (Refused DocnoBad (length front))) ≡ Ok (found, n) → Behind front at (b ∷ bytes) found n
    by true e = tagged (tag (b ∷ bytes)) refl e
    by false e = absurd cc

-- the parts of readings
abbrev Sound : {A : Type 0} → (List ℕ → Reading A) → (A → List ℕ → Type 0) → Type 0
Sound {A = A} r P = (bytes : List ℕ) (x : A) (n : ℕ) → r bytes ≡ Ok (x, n) → Front (P x) bytes n

pub front_rest : {P : List ℕ → Type 0} (bytes : List ℕ) (n : ℕ) (f : Front P bytes n) → drop n bytes ≡ f.rest
front_rest bytes n f = ap (λ m. drop m bytes) (sym f.long) ∙ ap (drop (length f.front)) f.parts ∙ drop-append_seam f.front f.rest

-- two parts
record Both (P Q : List ℕ → Type 0) (bytes : List ℕ) : Type 0 where
  pub first : List ℕ
  pub second : List ℕ
  pub parts : bytes ≡ first ++ second
  pub left : P first
  pub right : Q second

both_front : {P Q : List ℕ → Type 0} (bytes : List ℕ) (m k n : ℕ) → Front P bytes m → Front Q (drop m bytes) k → m + k ≡ n → Front (Both P Q) bytes n
both_front bytes m k n f g e = record {
  front = f.front ++ g.front;
  rest = g.rest;
  parts = f.parts ∙ ap (λ xs. f.front ++ xs) (sym (front_rest bytes m f) ∙ g.parts) ∙ sym (append_assoc f.front g.front g.rest);
  long = omega (arith, length-append f.front g.front, f.long, g.long, e);
  is = record { first = f.front; second = g.front; parts = refl; left = f.is; right = g.is };
}

-- where P tells of the value too
record Then {A B : Type 0} (P : A → List ℕ → Type 0) (Q : A → B → List ℕ → Type 0) (y : B) (bytes : List ℕ) : Type 0 where
  pub value : A
  pub both : Both (P value) (Q value y) bytes

then_sound : {A B : Type 0} (r : List ℕ → Reading A) (next : A → List ℕ → Reading B) (P : A → List ℕ → Type 0) (Q : A → B → List ℕ → Type 0) → Sound r P → ((x : A) → Sound (next x) (Q x)) → Sound (r >>= next) (Then P Q)
then_sound r next P Q f g bytes y n e =
    let b = bound r next bytes y n e in
    let front = both_front bytes b.long b.further n (f bytes b.value b.long b.first) (g b.value (drop b.long bytes) y b.further b.second) b.all in
    record { front = front.front; rest = front.rest; parts = front.parts; long = front.long; is = record { value = b.value; both = front.is } }

record IsFound (name bytes : List ℕ) : Type 0 where
  pub same : bytes ≡ name
  pub is_docno : IsTrue (is_docno name)

found_front : (bytes name : List ℕ) (at n : ℕ) (rest : List ℕ) → Behind (take (prefix_len is_docno_byte bytes) bytes) at rest name n → Front (IsFound name) bytes (prefix_len is_docno_byte bytes)
found_front bytes name at n rest b =
    let good : is_docno (take (prefix_len is_docno_byte bytes) bytes) ≡ true = docno_fits _ (passes_of_run is_docno_byte bytes _ refl) b.some ∙ ap (λ v. if v then false else true) b.short in
    record {
      front = take (prefix_len is_docno_byte bytes) bytes;
      rest = drop (prefix_len is_docno_byte bytes) bytes;
      parts = sym (take-append-drop (prefix_len is_docno_byte bytes) bytes);
      long = length-prefix_len is_docno_byte bytes;
      is = record { same = b.same; is_docno = subst (λ xs. is_docno xs ≡ true) b.same good };
    }

docno_part : (name bytes : List ℕ) → Both (IsFound name) (Both (λ front. IsTrue (list_all is_space front)) (IsTag true (codes "docno"))) bytes → DocnoPart name bytes
docno_part name bytes h = record {
  space = h.right.first;
  close = h.right.second;
  parts = h.parts ∙ ap (λ xs. xs ++ h.second) h.left.same ∙ ap (λ xs. name ++ xs) h.right.parts;
  is_docno = h.left.is_docno;
  spaces = h.right.left;
  closes = h.right.right;
}

-- the same bytes of another form
as_front : {P Q : List ℕ → Type 0} (bytes : List ℕ) (n : ℕ) → Front P bytes n → ((front : List ℕ) → P front → Q front) → Front Q bytes n
as_front bytes n f g = record { front = f.front; rest = f.rest; parts = f.parts; long = f.long; is = g f.front f.is }

docno_sound : Sound docno DocnoPart
unfolding docno
docno_sound bytes name n e =
    let b = behind _ _ _ name n e in
    let run = found_front bytes name _ n _ b in
    let space_run = run_front is_space (drop (prefix_len is_docno_byte bytes) bytes) in
    let place : drop (prefix_len is_space (drop (prefix_len is_docno_byte bytes) bytes)) (drop (prefix_len is_docno_byte bytes) bytes) ≡ drop (prefix_len is_docno_byte bytes + prefix_len is_space (drop (prefix_len is_docno_byte bytes) bytes)) bytes = drop-drop _ _ bytes in
    let close = subst (λ xs. Front (IsTag true (codes "docno")) xs b.long) (sym place) b.close in
    let inner = both_front (drop (prefix_len is_docno_byte bytes) bytes) _ b.long _ space_run close refl in
    let whole = both_front bytes (prefix_len is_docno_byte bytes) _ n run inner (omega (arith, b.all)) in
    as_front bytes n whole (docno_part name)

docno_front_good : (name : List ℕ) → is_docno name ≡ true → (list_all is_docno_byte name ≡ true) × ((length name == 0) ≡ false) × (nat_lt DOCNO_BYTES (length name) ≡ false)
docno_front_good name h =
    let both = both_true (nat_le 1 (length name) && nat_le (length name) DOCNO_BYTES) (list_all is_docno_byte name) h in
    let bounds = both_true (nat_le 1 (length name)) (nat_le (length name) DOCNO_BYTES) both.0 in
    (both.1, grind (arith, bounds.0), grind (arith, bounds.1))

behind_reads : (name : List ℕ) (at : ℕ) (close rest : List ℕ) → is_docno name ≡ true → IsTag true (codes "docno") close → docno_behind name at (close ++ rest) ≡ Ok (name, at + length close)
behind_reads name at close rest h c =
    let sign = tag_open true (codes "docno") close c in
    let tagged = form_tagged true (codes "docno") close rest c in
    let good = docno_front_good name h in
    let opens : close ++ rest ≡ 60 ∷ (sign.more ++ rest) = ap (λ xs. xs ++ rest) sign.is in
    let first : docno_behind name at (close ++ rest) ≡ docno_tagged name at (close ++ rest) (tag (close ++ rest)) = subst (λ xs. docno_behind name at xs ≡ docno_tagged name at xs (tag xs)) (sym opens) refl in
    let second : docno_tagged name at (close ++ rest) (Is tagged.mark) ≡ Ok (name, at + (tagged.mark.close + 1)) = rw (good.1, good.2, tagged.end, same_bytes _ _ tagged.named) refl in
    first ∙ ap (docno_tagged name at (close ++ rest)) tagged.is ∙ second ∙ ap (λ n. Ok (name, at + n)) tagged.close

docno_reads : (name spaces close rest : List ℕ) → is_docno name ≡ true → AreSpaces spaces → IsTag true (codes "docno") close → docno (name ++ (spaces ++ (close ++ rest))) ≡ Ok (name, length name + length spaces + length close)
unfolding docno
docno_reads name spaces close rest h s c =
    let sign = tag_open true (codes "docno") close c in
    let opens : close ++ rest ≡ 60 ∷ (sign.more ++ rest) = ap (λ xs. xs ++ rest) sign.is in
    let stops : prefix_len is_docno_byte (spaces ++ (close ++ rest)) ≡ 0 = ap (λ xs. prefix_len is_docno_byte (spaces ++ xs)) opens ∙ docno_stops spaces (sign.more ++ rest) s in
    let space_stops : prefix_len is_space (close ++ rest) ≡ 0 = ap (prefix_len is_space) opens in
    let run = run_exact is_docno_byte name (spaces ++ (close ++ rest)) (docno_front_good name h).0 stops in
    let space_run = run_exact is_space spaces (close ++ rest) s space_stops in
    let seam = drop-append_seam name (spaces ++ (close ++ rest)) in
    let far : drop (length name + length spaces) (name ++ (spaces ++ (close ++ rest))) ≡ close ++ rest = drop-append-add name (spaces ++ (close ++ rest)) (length spaces) ∙ drop-append_seam spaces (close ++ rest) in
    ap (docno_of (name ++ (spaces ++ (close ++ rest)))) run
    ∙ ap (λ xs. docno_behind (take (length name) (name ++ (spaces ++ (close ++ rest)))) (length name + prefix_len is_space xs) (drop (length name + prefix_len is_space xs) (name ++ (spaces ++ (close ++ rest))))) seam
    ∙ ap (λ k. docno_behind (take (length name) (name ++ (spaces ++ (close ++ rest)))) (length name + k) (drop (length name + k) (name ++ (spaces ++ (close ++ rest))))) space_run
    ∙ ap (λ xs. docno_behind xs (length name + length spaces) (drop (length name + length spaces) (name ++ (spaces ++ (close ++ rest))))) (take-append_seam name (spaces ++ (close ++ rest)))
    ∙ ap (docno_behind name (length name + length spaces)) far
    ∙ behind_reads name (length name + length spaces) close rest h c

-- HEADERS

abbrev Spaces : Unit {0} → List ℕ → Type 0
Spaces u bytes = AreSpaces bytes

abbrev StartTag : List ℕ → Unit {0} → List ℕ → Type 0
StartTag name u bytes = IsTag false name bytes

space_sound : Sound space Spaces
space_sound bytes u n e = let same = read_pair tt u (prefix_len is_space bytes) n e in subst (Front AreSpaces bytes) same.1 (run_front is_space bytes)

doc_tag_sound : Sound doc_tag (StartTag (codes "doc"))
unfolding doc_tag
doc_tag_sound bytes u n e = start_front (codes "doc") _ _ bytes u n e

docno_tag_sound : Sound docno_tag (StartTag (codes "docno"))
unfolding docno_tag
docno_tag_sound bytes u n e = start_front (codes "docno") _ _ bytes u n e

abbrev SpacedDocno : List ℕ → List ℕ → Type 0
SpacedDocno = Then Spaces (λ _. DocnoPart)

abbrev DocnoElement : List ℕ → List ℕ → Type 0
DocnoElement = Then (StartTag (codes "docno")) (λ _. SpacedDocno)

abbrev SpacedElement : List ℕ → List ℕ → Type 0
SpacedElement = Then Spaces (λ _. DocnoElement)

abbrev Header : List ℕ → List ℕ → Type 0
Header = Then (StartTag (codes "doc")) (λ _. SpacedElement)

spaced_docno_sound : Sound spaced_docno SpacedDocno
unfolding spaced_docno
spaced_docno_sound = then_sound space (λ _. docno) Spaces (λ _. DocnoPart) space_sound (λ _. docno_sound)

docno_element_sound : Sound docno_element DocnoElement
unfolding docno_element
docno_element_sound = then_sound docno_tag (λ _. spaced_docno) (StartTag (codes "docno")) (λ _. SpacedDocno) docno_tag_sound (λ _. spaced_docno_sound)

spaced_element_sound : Sound spaced_element SpacedElement
unfolding spaced_element
spaced_element_sound = then_sound space (λ _. docno_element) Spaces (λ _. DocnoElement) space_sound (λ _. docno_element_sound)

header_sound : Sound header Header
unfolding header
header_sound = then_sound doc_tag (λ _. spaced_element) (StartTag (codes "doc")) (λ _. SpacedElement) doc_tag_sound (λ _. spaced_element_sound)

-- TEXTS

record TextPart (name : List ℕ) (found : List ℕ × List Piece) (bytes : List ℕ) : Type 0 where
  pub text : List ℕ
  pub close : List ℕ
  pub parts : bytes ≡ text ++ close
  pub same : name ≡ found.0
  pub pieces : pieces text ≡ found.1
  pub no_end : HasNoEnd text
  pub closes : IsTag true (codes "doc") close

text_front : (bytes : List ℕ) (i j : ℕ) → to_end bytes ≡ Some (i, j) → (name : List ℕ) (found : List ℕ × List Piece) → name ≡ found.0 → pieces (take i bytes) ≡ found.1 → Front (TextPart name found) bytes (i + j)
text_front bytes i j e name found same found_pieces =
    let close = end_at bytes i j e in
    record {
      front = take i bytes ++ close.front;
      rest = close.rest;
      parts = sym (take-append-drop i bytes) ∙ ap (λ xs. take i bytes ++ xs) close.parts ∙ sym (append_assoc (take i bytes) close.front close.rest);
      long = omega (arith, length-append (take i bytes) close.front, length-take i bytes, within_end bytes i j e, close.long);
      is = record { text = take i bytes; close = close.front; parts = refl; same = same; pieces = found_pieces; no_end = no_end bytes i j e; closes = close.is };
    }

named_sound : (name : List ℕ) → Sound (λ bytes. named name (text bytes)) (TextPart name)
unfolding text
named_sound name bytes found n e = by (to_end bytes) refl e
  where
    by : (o : Option (ℕ × ℕ)) → to_end bytes ≡ o → named name (text_of bytes o) ≡ Ok (found, n) → Front (TextPart name found) bytes n
    by None is e = absurd cc
    by (Some (i, j)) is e =
        let same = read_pair {A = List ℕ × List Piece} (name, pieces (take i bytes)) found (i + j) n e in
        subst (Front (TextPart name found) bytes) same.1 (text_front bytes i j is name found (ap (λ x. x.0) same.0) (ap (λ x. x.1) same.0))

document_front : Sound document (Then Header TextPart)
unfolding document
document_front = then_sound header (λ name rest. named name (text rest)) Header TextPart header_sound named_sound

-- WHAT HAS THE FORM IS READ

space_reads : (front rest : List ℕ) → AreSpaces front → prefix_len is_space rest ≡ 0 → space (front ++ rest) ≡ Ok (tt, length front)
space_reads front rest h stops = ap (λ n. Ok (tt, n)) (run_exact is_space front rest h stops)

no_space_byte : (b : ℕ) → is_docno_byte b ≡ true → is_space b ≡ false
no_space_byte b e = grind (arith, e)

no_space : (name rest : List ℕ) → is_docno name ≡ true → prefix_len is_space (name ++ rest) ≡ 0
no_space [] rest h = absurd cc
no_space (b ∷ name) rest h = rw (no_space_byte b (both_true (is_docno_byte b) (list_all is_docno_byte name) (docno_front_good (b ∷ name) h).0).0) refl

pub no_space_tag : (is_end : Bool) (name tag rest : List ℕ) → IsTag is_end name tag → prefix_len is_space (tag ++ rest) ≡ 0
no_space_tag is_end name tag rest h = ap (λ xs. prefix_len is_space (xs ++ rest)) (tag_open is_end name tag h).is

spaced_docno_reads : (spaces name behind close rest : List ℕ) → AreSpaces spaces → is_docno name ≡ true → AreSpaces behind → IsTag true (codes "docno") close → spaced_docno (spaces ++ (name ++ (behind ++ (close ++ rest)))) ≡ Ok (name, length spaces + (length name + length behind + length close))
unfolding spaced_docno
spaced_docno_reads spaces name behind close rest s h b c = bound_front space (λ _. docno) spaces (name ++ (behind ++ (close ++ rest))) tt name _ (space_reads spaces _ s (no_space name _ h)) (docno_reads name behind close rest h b c)

docno_element_reads : (front rest name : List ℕ) (n : ℕ) → IsTag false (codes "docno") front → spaced_docno rest ≡ Ok (name, n) → docno_element (front ++ rest) ≡ Ok (name, length front + n)
unfolding docno_element docno_tag
docno_element_reads front rest name n h e = bound_front docno_tag (λ _. spaced_docno) front rest tt name n (start_reads (codes "docno") _ _ front rest h) e

spaced_element_reads : (spaces front rest name : List ℕ) (n : ℕ) → AreSpaces spaces → IsTag false (codes "docno") front → docno_element (front ++ rest) ≡ Ok (name, n) → spaced_element (spaces ++ (front ++ rest)) ≡ Ok (name, length spaces + n)
unfolding spaced_element
spaced_element_reads spaces front rest name n s h e = bound_front space (λ _. docno_element) spaces (front ++ rest) tt name n (space_reads spaces _ s (no_space_tag false _ front rest h)) e

header_reads : (front rest name : List ℕ) (n : ℕ) → IsTag false (codes "doc") front → spaced_element rest ≡ Ok (name, n) → header (front ++ rest) ≡ Ok (name, length front + n)
unfolding header doc_tag
header_reads front rest name n h e = bound_front doc_tag (λ _. spaced_element) front rest tt name n (start_reads (codes "doc") _ _ front rest h) e

text_reads : (name text_bytes close rest : List ℕ) → HasNoEnd text_bytes → IsTag true (codes "doc") close → named name (text (text_bytes ++ (close ++ rest))) ≡ Ok ((name, pieces text_bytes), length text_bytes + length close)
unfolding text
text_reads name text_bytes close rest none h =
    ap (λ o. named name (text_of (text_bytes ++ (close ++ rest)) o)) (to_end_is text_bytes close rest none h) ∙ ap (λ xs. Ok ((name, pieces xs), length text_bytes + length close)) (take-append_seam text_bytes (close ++ rest))

pub nest : (a s b t c u d x e rest : List ℕ) → (a ++ s ++ b ++ t ++ c ++ u ++ d ++ x ++ e) ++ rest ≡ a ++ (s ++ (b ++ (t ++ (c ++ (u ++ (d ++ (x ++ (e ++ rest))))))))
nest a s b t c u d x e rest = simp append_assoc refl

sizes : (a s b t c u d x e : List ℕ) → length (a ++ s ++ b ++ t ++ c ++ u ++ d ++ x ++ e) ≡ (length a + (length s + (length b + (length t + (length c + length u + length d))))) + (length x + length e)
sizes a s b t c u d x e = simp length-append (omega arith)

dropped : (a s b t c u d rest : List ℕ) → drop (length a + (length s + (length b + (length t + (length c + length u + length d))))) (a ++ (s ++ (b ++ (t ++ (c ++ (u ++ (d ++ rest))))))) ≡ rest
dropped a s b t c u d rest =
    let regroup : length c + length u + length d ≡ length c + (length u + length d) = omega arith in
    drop-append-add a _ _ ∙ drop-append-add s _ _ ∙ drop-append-add b _ _ ∙ drop-append-add t _ _ ∙ ap (λ n. drop n (c ++ (u ++ (d ++ rest)))) regroup ∙ drop-append-add c _ _ ∙ drop-append-add u _ _ ∙ drop-append_seam d rest

-- THE LAW

joined : (whole h t a p s q b r u v name w d x e : List ℕ) → whole ≡ h ++ t → h ≡ a ++ p → p ≡ s ++ q → q ≡ b ++ r → r ≡ u ++ v → v ≡ name ++ (w ++ d) → t ≡ x ++ e → whole ≡ a ++ s ++ b ++ u ++ name ++ w ++ d ++ x ++ e
joined whole h t a p s q b r u v name w d x e e1 e2 e3 e4 e5 e6 e7 = rw (e1, e2, e3, e4, e5, e6, e7) (simp append_assoc refl)

-- the form of a document, told by the parts of what is read
starts : (bytes name : List ℕ) (found : List Piece) (n : ℕ) → Front (Then Header TextPart (name, found)) bytes n → (text_bytes : List ℕ) × StartsWithDocument name text_bytes n bytes × (found ≡ pieces text_bytes)
starts bytes name found n f =
    let all = f.is in
    let h1 = all.both.left in
    let h2 = h1.both.right in
    let h3 = h2.both.right in
    let h4 = h3.both.right in
    let d = h4.both.right in
    let x = all.both.right in
    let flat = joined f.front _ _ _ _ _ _ _ _ _ _ name d.space d.close x.text x.close all.both.parts h1.both.parts h2.both.parts h3.both.parts h4.both.parts (d.parts ∙ ap (λ xs. xs ++ (d.space ++ d.close)) x.same) x.parts in (
      x.text,
      record {
        whole = f.front;
        rest = f.rest;
        parts = f.parts;
        long = f.long;
        is_document = record {
          doc_tag = h1.both.first;
          space_before_tag = h2.both.first;
          docno_tag = h3.both.first;
          space_before = h4.both.first;
          space_behind = d.space;
          docno_end = d.close;
          doc_end = x.close;
          whole = flat;
          begins = h1.both.left;
          are_spaces_before_tag = h2.both.left;
          begins_docno = h3.both.left;
          are_spaces_before = h4.both.left;
          is_docno = subst (λ xs. is_docno xs ≡ true) x.same d.is_docno;
          are_spaces_behind = d.spaces;
          ends_docno = d.closes;
          no_end = x.no_end;
          ends = x.closes;
        };
      },
      sym x.pieces,
    )

pub document_is : (bytes name : List ℕ) (found : List Piece) (n : ℕ) → document bytes ≡ Ok ((name, found), n) → (text_bytes : List ℕ) × StartsWithDocument name text_bytes n bytes × (found ≡ pieces text_bytes)
document_is bytes name found n e = starts bytes name found n (document_front bytes (name, found) n e)

pub document_reads : (bytes name text_bytes : List ℕ) (n : ℕ) → StartsWithDocument name text_bytes n bytes → document bytes ≡ Ok ((name, pieces text_bytes), n)
unfolding document
document_reads bytes name text_bytes n h =
    let d = h.is_document in
    let parts = h.parts ∙ ap (λ xs. xs ++ h.rest) d.whole ∙ nest d.doc_tag d.space_before_tag d.docno_tag d.space_before name d.space_behind d.docno_end text_bytes d.doc_end h.rest in
    let long = sym (sizes d.doc_tag d.space_before_tag d.docno_tag d.space_before name d.space_behind d.docno_end text_bytes d.doc_end) ∙ ap length (sym d.whole) ∙ h.long in
    let head = header_reads d.doc_tag _ name _ d.begins (spaced_element_reads d.space_before_tag d.docno_tag _ name _ d.are_spaces_before_tag d.begins_docno (docno_element_reads d.docno_tag _ name _ d.begins_docno (spaced_docno_reads d.space_before name d.space_behind d.docno_end (text_bytes ++ (d.doc_end ++ h.rest)) d.are_spaces_before d.is_docno d.are_spaces_behind d.ends_docno))) in
    let tail = dropped d.doc_tag d.space_before_tag d.docno_tag d.space_before name d.space_behind d.docno_end (text_bytes ++ (d.doc_end ++ h.rest)) in
    ap document parts ∙ bound_is header (λ found rest. named found (text rest)) _ name (name, pieces text_bytes) _ _ head (ap (λ xs. named name (text xs)) tail ∙ text_reads name text_bytes d.doc_end h.rest d.no_end d.ends) ∙ ap (λ k. Ok ((name, pieces text_bytes), k)) long
