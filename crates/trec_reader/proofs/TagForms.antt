-- A tag begins where bytes of its form stand, and nowhere else.
use Rattle.std.proofs.Common.{ℕ, suc, ◌≡◌, ◌+◌, ◌-◌, Bool, true, false, not, ◌&&◌, ◌||◌, List, [], ◌∷◌, ◌++◌, length, drop, Option, Some, None, refl, sym, ap, ◌∙◌, subst, arith, append_assoc, length-append, eqb-true}
use Rattle.std.specs.Prelude.{if◌then◌else◌, codes, slice_get, ◌==◌}
use Rattle.std.specs.List.{list_all}
use Rattle.std.specs.Str.{bytes_eq}
use Rattle.std.proofs.Math.Seq.{take-append_seam}
use Rattle.std.proofs.lemmas.Slice.Eq.{bytes_eq-Decides}
use Rattle.ri_base.specs.Ascii.{is_letter}
use Rattle.trec_reader.specs.Marks.{end_tag, is_angle, is_named, only_end_named, tag, tag_closed, tag_inner, tag_lettered, tag_name, tag_slashed, to_angle}
use Rattle.trec_reader.specs.Form.{IsTag, inner_name, begins_with_letter}
use Rattle.trec_reader.specs.declared.mark.Mark.{Mark}
use Rattle.trec_reader.specs.declared.mark.Mark.TheVariants.{Is, Not, Open}
use Rattle.trec_reader.specs.declared.mark.Tag.{Tag}

abbrev pub plain : ℕ → Bool
plain b = not (is_angle b)

-- BYTES OF THE FORM ARE A TAG

-- behind plain bytes stands a '>'
closed_angle : (inner rest : List ℕ) → list_all plain inner ≡ true → to_angle (inner ++ 62 ∷ rest) ≡ length inner
closed_angle [] rest e = refl
closed_angle (b ∷ inner) rest e = by (plain b) refl (closed_angle inner rest) e
  where
    by : (v : Bool) → plain b ≡ v → (list_all plain inner ≡ true → to_angle (inner ++ 62 ∷ rest) ≡ length inner) → (v && list_all plain inner) ≡ true → to_angle (b ∷ inner ++ 62 ∷ rest) ≡ length (b ∷ inner)
    by true h further e = rw (h, further e) (omega arith)
    by false h further e = absurd cc

closed_get : (inner rest : List ℕ) → slice_get (inner ++ 62 ∷ rest) (length inner) ≡ Some 62
closed_get [] rest = refl
closed_get (b ∷ inner) rest = closed_get inner rest

abbrev tag_of : Bool → ℕ → ℕ → Tag
tag_of is_end begin n = record { is_end = is_end; begin = begin; close = begin + n }

lettered_is : (is_end : Bool) (begin : ℕ) (inner rest : List ℕ) → begins_with_letter inner ≡ true → list_all plain inner ≡ true → tag_lettered is_end begin (inner ++ 62 ∷ rest) ≡ Is (tag_of is_end begin (length inner))
lettered_is is_end begin [] rest l e = absurd cc
lettered_is is_end begin (b ∷ inner) rest l e = rw (l, closed_angle (b ∷ inner) rest e, closed_get (b ∷ inner) rest) refl

not_slash : (b : ℕ) → is_letter b ≡ true → (b == 47) ≡ false
not_slash b l = by (b == 47) refl
  where
    by : (v : Bool) → (b == 47) ≡ v → (b == 47) ≡ false
    by true e = let is : b ≡ 47 = eqb-true b 47 e in let no : false ≡ true = subst (λ x. is_letter x ≡ true) is l in absurd cc
    by false e = e

slashed_is : (inner rest : List ℕ) → begins_with_letter inner ≡ true → list_all plain inner ≡ true → tag_slashed (inner ++ 62 ∷ rest) ≡ Is (tag_of false 1 (length inner))
slashed_is [] rest l e = absurd cc
slashed_is (b ∷ inner) rest l e = rw (not_slash b l) (lettered_is false 1 (b ∷ inner) rest l e)

-- where the letter of a tag stands
abbrev pub begin_of : Bool → ℕ
begin_of is_end = if is_end then 2 else 1

abbrev pub sign_of : Bool → List ℕ
sign_of is_end = if is_end then codes "</" else codes "<"

form_is : (is_end : Bool) (inner rest : List ℕ) → begins_with_letter inner ≡ true → list_all plain inner ≡ true → tag (sign_of is_end ++ inner ++ 62 ∷ rest) ≡ Is (tag_of is_end (begin_of is_end) (length inner))
unfolding tag
form_is true inner rest l e = lettered_is true 2 inner rest l e
form_is false inner rest l e = slashed_is inner rest l e

form_inner : (is_end : Bool) (inner rest : List ℕ) → tag_inner (sign_of is_end ++ inner ++ 62 ∷ rest) (tag_of is_end (begin_of is_end) (length inner)) ≡ inner
form_inner true inner rest = let n : (2 + length inner) - 2 ≡ length inner = omega arith in rw n (take-append_seam inner (62 ∷ rest))
form_inner false inner rest = let n : (1 + length inner) - 1 ≡ length inner = omega arith in rw n (take-append_seam inner (62 ∷ rest))

-- what the form of a tag says of bytes that it begins
pub record Tagged (is_end : Bool) (name front rest : List ℕ) : Type 0 where
  pub mark : Tag
  pub is : tag (front ++ rest) ≡ Is mark
  pub end : mark.is_end ≡ is_end
  pub named : tag_name (front ++ rest) mark ≡ name
  pub close : mark.close + 1 ≡ length front

form_length : (is_end : Bool) (inner : List ℕ) → (begin_of is_end + length inner) + 1 ≡ length (sign_of is_end ++ inner ++ codes ">")
form_length true inner = omega (arith, length-append inner (codes ">"))
form_length false inner = omega (arith, length-append inner (codes ">"))

form_shift : (is_end : Bool) (inner rest : List ℕ) → (sign_of is_end ++ inner ++ codes ">") ++ rest ≡ sign_of is_end ++ inner ++ 62 ∷ rest
form_shift true inner rest = ap (λ xs. 60 ∷ 47 ∷ xs) (append_assoc inner (codes ">") rest)
form_shift false inner rest = ap (λ xs. 60 ∷ xs) (append_assoc inner (codes ">") rest)

pub form_tagged : (is_end : Bool) (name front rest : List ℕ) → IsTag is_end name front → Tagged is_end name front rest
form_tagged is_end name front rest h =
    let shift : front ++ rest ≡ sign_of is_end ++ h.inner ++ 62 ∷ rest = ap (λ xs. xs ++ rest) h.whole ∙ form_shift is_end h.inner rest in
    record {
      mark = tag_of is_end (begin_of is_end) (length h.inner);
      is = ap tag shift ∙ form_is is_end h.inner rest h.lettered h.no_angle;
      end = refl;
      named = ap (λ xs. inner_name (tag_inner xs (tag_of is_end (begin_of is_end) (length h.inner)))) shift ∙ ap inner_name (form_inner is_end h.inner rest) ∙ h.named;
      close = form_length is_end h.inner ∙ ap length (sym h.whole);
    }

-- A TAG HAS THE FORM

-- the bytes that a tag has, and those behind it
pub record Form (t : Tag) (bytes : List ℕ) : Type 0 where
  pub front : List ℕ
  pub rest : List ℕ
  pub parts : bytes ≡ front ++ rest
  pub close : t.close + 1 ≡ length front
  pub is : IsTag t.is_end (tag_name bytes t) front

-- what stands before the first '<' or '>', that byte, and the bytes behind it
record Angle (bytes : List ℕ) (b : ℕ) : Type 0 where
  pub inner : List ℕ
  pub rest : List ℕ
  pub parts : bytes ≡ inner ++ b ∷ rest
  pub long : to_angle bytes ≡ length inner
  pub no_angle : list_all plain inner ≡ true

angle_parts : (bytes : List ℕ) (b : ℕ) → slice_get bytes (to_angle bytes) ≡ Some b → Angle bytes b
angle_parts [] b e = absurd cc
angle_parts (x ∷ bytes) b e = by (is_angle x) refl (angle_parts bytes b) e
  where
    by : (v : Bool) → is_angle x ≡ v → (slice_get bytes (to_angle bytes) ≡ Some b → Angle bytes b) → slice_get (x ∷ bytes) (if not v then 1 + to_angle bytes else 0) ≡ Some b → Angle (x ∷ bytes) b
    by true h on e = let is : x ≡ b = cc in record { inner = []; rest = bytes; parts = ap (λ y. y ∷ bytes) is; long = rw h refl; no_angle = refl }
    by false h on e =
        let one : 1 + to_angle bytes ≡ suc (to_angle bytes) = omega arith in
        let further = on (ap (slice_get (x ∷ bytes)) (sym one) ∙ e) in
        record { inner = x ∷ further.inner; rest = further.rest; parts = ap (λ xs. x ∷ xs) further.parts; long = rw h (omega (arith, further.long)); no_angle = rw h further.no_angle }

-- a tag whose letter stands first in these bytes
record Lettered (is_end : Bool) (begin : ℕ) (bytes : List ℕ) (t : Tag) : Type 0 where
  pub inner : List ℕ
  pub rest : List ℕ
  pub parts : bytes ≡ inner ++ 62 ∷ rest
  pub is : t ≡ tag_of is_end begin (length inner)
  pub lettered : begins_with_letter inner ≡ true
  pub no_angle : list_all plain inner ≡ true

letter_plain : (b : ℕ) → is_letter b ≡ true → is_angle b ≡ false
letter_plain b l = by (b == 60) (b == 62) refl refl
  where
    never : (n : ℕ) → is_letter n ≡ false → (b == n) ≡ true → ⊥
    never n other e = let is : b ≡ n = eqb-true b n e in let no : is_letter n ≡ true = subst (λ x. is_letter x ≡ true) is l in absurd cc

    by : (v w : Bool) → (b == 60) ≡ v → (b == 62) ≡ w → (v || w) ≡ false
    by true w e f = absurd (never 60 refl e)
    by false true e f = absurd (never 62 refl f)
    by false false e f = refl

letter_first : (b x : ℕ) (bytes inner rest : List ℕ) → is_letter b ≡ true → is_angle x ≡ true → b ∷ bytes ≡ inner ++ x ∷ rest → begins_with_letter inner ≡ true
letter_first b x bytes [] rest l a e = let same : b ≡ x = cc in let no : is_angle x ≡ false = subst (λ y. is_angle y ≡ false) same (letter_plain b l) in absurd cc
letter_first b x bytes (y ∷ inner) rest l a e = let same : b ≡ y = cc in subst (λ z. is_letter z ≡ true) same l

lettered_parts : (is_end : Bool) (begin : ℕ) (bytes : List ℕ) (t : Tag) → tag_lettered is_end begin bytes ≡ Is t → Lettered is_end begin bytes t
lettered_parts is_end begin [] t e = absurd cc
lettered_parts is_end begin (b ∷ bytes) t e = by (is_letter b) refl e
  where
    closed : is_letter b ≡ true → (o : Option ℕ) → slice_get (b ∷ bytes) (to_angle (b ∷ bytes)) ≡ o → tag_closed is_end begin (to_angle (b ∷ bytes)) o ≡ Is t → Lettered is_end begin (b ∷ bytes) t
    closed l None g e = absurd cc
    closed l (Some c) g e = at (c == 62) refl e
      where
        at : (v : Bool) → (c == 62) ≡ v → (if v then Is (tag_of is_end begin (to_angle (b ∷ bytes))) else Not) ≡ Is t → Lettered is_end begin (b ∷ bytes) t
        at false h e = absurd cc
        at true h e =
            let angle = angle_parts (b ∷ bytes) 62 (g ∙ ap Some (eqb-true c 62 h)) in
            let same : tag_of is_end begin (to_angle (b ∷ bytes)) ≡ t = cc in
            record {
              inner = angle.inner;
              rest = angle.rest;
              parts = angle.parts;
              is = sym same ∙ ap (tag_of is_end begin) angle.long;
              lettered = letter_first b 62 bytes angle.inner angle.rest l refl angle.parts;
              no_angle = angle.no_angle;
            }

    by : (v : Bool) → is_letter b ≡ v → (if v then tag_closed is_end begin (to_angle (b ∷ bytes)) (slice_get (b ∷ bytes) (to_angle (b ∷ bytes))) else Not) ≡ Is t → Lettered is_end begin (b ∷ bytes) t
    by true l e = closed l (slice_get (b ∷ bytes) (to_angle (b ∷ bytes))) refl e
    by false l e = absurd cc

form_here : (is_end : Bool) (inner rest : List ℕ) → begins_with_letter inner ≡ true → list_all plain inner ≡ true → Form (tag_of is_end (begin_of is_end) (length inner)) (sign_of is_end ++ inner ++ 62 ∷ rest)
form_here is_end inner rest l e = record {
  front = sign_of is_end ++ inner ++ codes ">";
  rest = rest;
  parts = sym (form_shift is_end inner rest);
  close = form_length is_end inner;
  is = record { inner = inner; whole = refl; lettered = l; no_angle = e; named = ap inner_name (sym (form_inner is_end inner rest)) };
}

form_from : (is_end : Bool) (bytes all : List ℕ) (t : Tag) → all ≡ sign_of is_end ++ bytes → Lettered is_end (begin_of is_end) bytes t → Form t all
form_from is_end bytes all t e h =
    let here : all ≡ sign_of is_end ++ h.inner ++ 62 ∷ h.rest = e ∙ ap (λ xs. sign_of is_end ++ xs) h.parts ∙ sym (append_assoc (sign_of is_end) h.inner (62 ∷ h.rest)) in
    subst (λ u. Form u all) (sym h.is) (subst (Form (tag_of is_end (begin_of is_end) (length h.inner))) (sym here) (form_here is_end h.inner h.rest h.lettered h.no_angle))

pub tag_form : (bytes : List ℕ) (t : Tag) → tag bytes ≡ Is t → Form t bytes
unfolding tag
tag_form [] t e = absurd cc
tag_form (b ∷ bytes) t e = by (b == 60) refl e
  where
    slashed : b ≡ 60 → (more : List ℕ) → more ≡ bytes → tag_slashed more ≡ Is t → Form t (b ∷ bytes)
    slashed is [] same e = absurd cc
    slashed is (c ∷ more) same e = at (c == 47) refl e
      where
        at : (v : Bool) → (c == 47) ≡ v → (if v then tag_lettered true 2 more else tag_lettered false 1 (c ∷ more)) ≡ Is t → Form t (b ∷ bytes)
        at true h e = form_from true more (b ∷ bytes) t (rw (is, sym same, eqb-true c 47 h) refl) (lettered_parts true 2 more t e)
        at false h e = form_from false (c ∷ more) (b ∷ bytes) t (rw (is, sym same) refl) (lettered_parts false 1 (c ∷ more) t e)

    by : (v : Bool) → (b == 60) ≡ v → (if v then tag_slashed bytes else Not) ≡ Is t → Form t (b ∷ bytes)
    by true h e = slashed (eqb-true b 60 h) bytes refl e
    by false h e = absurd cc

-- END TAGS

pub same_bytes : (xs ys : List ℕ) → xs ≡ ys → bytes_eq xs ys ≡ true
same_bytes xs ys e = (bytes_eq-Decides xs ys).1 e

pub form_end_tag : (name front rest : List ℕ) → IsTag true name front → (t : Tag) × (end_tag name (front ++ rest) ≡ Is t) × (t.close + 1 ≡ length front)
unfolding end_tag
form_end_tag name front rest h =
    let tagged = form_tagged true name front rest h in
    (tagged.mark, rw (tagged.is, tagged.end, same_bytes _ _ tagged.named) refl, tagged.close)

-- the bytes that an end tag of this name has, and those behind it
pub record EndForm (name : List ℕ) (t : Tag) (bytes : List ℕ) : Type 0 where
  pub front : List ℕ
  pub rest : List ℕ
  pub parts : bytes ≡ front ++ rest
  pub close : t.close + 1 ≡ length front
  pub is : IsTag true name front

pub both_true : (v w : Bool) → (v && w) ≡ true → (v ≡ true) × (w ≡ true)
both_true true true e = (refl, refl)
both_true true false e = absurd cc
both_true false w e = absurd cc

pub named_form : (is_end : Bool) (name bytes : List ℕ) (t : Tag) → tag bytes ≡ Is t → t.is_end ≡ is_end → is_named name bytes t ≡ true → (form : Form t bytes) × IsTag is_end name form.front
named_form is_end name bytes t e end named =
    let form = tag_form bytes t e in
    (form, subst (λ n. IsTag is_end n form.front) ((bytes_eq-Decides _ _).0 named) (subst (λ v. IsTag v (tag_name bytes t) form.front) end form.is))

pub end_tag_form : (name bytes : List ℕ) (t : Tag) → end_tag name bytes ≡ Is t → EndForm name t bytes
unfolding end_tag
end_tag_form name bytes t e = by (tag bytes) refl e
  where
    by : (m : Mark) → tag bytes ≡ m → only_end_named name bytes m ≡ Is t → EndForm name t bytes
    by (Is u) is e = at (u.is_end && is_named name bytes u) refl e
      where
        at : (v : Bool) → (u.is_end && is_named name bytes u) ≡ v → (if v then Is u else Not) ≡ Is t → EndForm name t bytes
        at true h e =
            let same : u ≡ t = cc in
            let both = both_true _ _ h in
            let form = named_form true name bytes u is both.0 both.1 in
            subst (λ x. EndForm name x bytes) same (record { front = form.0.front; rest = form.0.rest; parts = form.0.parts; close = form.0.close; is = form.1 })
        at false h e = absurd cc
    by Not is e = absurd cc
    by Open is e = absurd cc

-- WHERE '<' STANDS

abbrev pub other : ℕ → Bool
other b = not (b == 60)

-- in a tag '<' stands at the front alone
pub record Opens (bytes : List ℕ) : Type 0 where
  pub more : List ℕ
  pub is : bytes ≡ 60 ∷ more
  pub no_other : list_all other more ≡ true

inner_other : (inner : List ℕ) → list_all plain inner ≡ true → list_all other (inner ++ codes ">") ≡ true
inner_other [] e = refl
inner_other (b ∷ inner) e = by (b == 60) (b == 62) e (inner_other inner)
  where
    by : (v w : Bool) → (not (v || w) && list_all plain inner) ≡ true → (list_all plain inner ≡ true → list_all other (inner ++ codes ">") ≡ true) → (not v && list_all other (inner ++ codes ">")) ≡ true
    by true w e on = absurd cc
    by false true e on = absurd cc
    by false false e on = on e

pub tag_open : (is_end : Bool) (name bytes : List ℕ) → IsTag is_end name bytes → Opens bytes
tag_open true name bytes h = record { more = 47 ∷ (h.inner ++ codes ">"); is = h.whole; no_other = inner_other h.inner h.no_angle }
tag_open false name bytes h = record { more = h.inner ++ codes ">"; is = h.whole; no_other = inner_other h.inner h.no_angle }

-- Bytes without '<' at the front of others lie before the first '<'.
pub front_fits : (xs ys front rest : List ℕ) → xs ++ 60 ∷ ys ≡ front ++ rest → list_all other front ≡ true → (more : List ℕ) × (xs ≡ front ++ more)
front_fits xs ys [] rest e h = (xs, refl)
front_fits [] ys (f ∷ front) rest e h =
    let same : 60 ≡ f = cc in
    let no : list_all other (60 ∷ front) ≡ true = subst (λ x. list_all other (x ∷ front) ≡ true) (sym same) h in
    absurd cc
front_fits (x ∷ xs) ys (f ∷ front) rest e h =
    let same : x ≡ f = cc in
    let further = front_fits xs ys front rest (ap (drop 1) e) (both_true (other f) (list_all other front) h).1 in
    (further.0, ap (λ zs. x ∷ zs) further.1 ∙ ap (λ z. z ∷ (front ++ further.0)) same)

-- where a '<' stands behind, it is plain whether a tag begins
angle_stands : (xs ys : List ℕ) → slice_get (xs ++ 60 ∷ ys) (to_angle (xs ++ 60 ∷ ys)) ≡ None → ⊥
angle_stands [] ys e = absurd cc
angle_stands (x ∷ xs) ys e = by (is_angle x) (angle_stands xs ys) e
  where
    by : (v : Bool) → (slice_get (xs ++ 60 ∷ ys) (to_angle (xs ++ 60 ∷ ys)) ≡ None → ⊥) → slice_get (x ∷ xs ++ 60 ∷ ys) (if not v then 1 + to_angle (xs ++ 60 ∷ ys) else 0) ≡ None → ⊥
    by true on e = absurd cc
    by false on e = let one : 1 + to_angle (xs ++ 60 ∷ ys) ≡ suc (to_angle (xs ++ 60 ∷ ys)) = omega arith in on (ap (slice_get (x ∷ xs ++ 60 ∷ ys)) (sym one) ∙ e)

lettered_plain : (is_end : Bool) (begin : ℕ) (xs ys : List ℕ) → tag_lettered is_end begin (xs ++ 60 ∷ ys) ≡ Open → ⊥
lettered_plain is_end begin [] ys e = absurd cc
lettered_plain is_end begin (x ∷ xs) ys e = by (is_letter x) e
  where
    at : (n : ℕ) (o : Option ℕ) → (o ≡ None → ⊥) → tag_closed is_end begin n o ≡ Open → ⊥
    at n None some e = some refl
    at n (Some c) some e = shut (c == 62) e
      where
        shut : (v : Bool) → (if v then Is (tag_of is_end begin n) else Not) ≡ Open → ⊥
        shut true e = absurd cc
        shut false e = absurd cc

    by : (v : Bool) → (if v then tag_closed is_end begin (to_angle (x ∷ xs ++ 60 ∷ ys)) (slice_get (x ∷ xs ++ 60 ∷ ys) (to_angle (x ∷ xs ++ 60 ∷ ys))) else Not) ≡ Open → ⊥
    by true e = at _ _ (angle_stands (x ∷ xs) ys) e
    by false e = absurd cc

slashed_plain : (xs ys : List ℕ) → tag_slashed (xs ++ 60 ∷ ys) ≡ Open → ⊥
slashed_plain [] ys e = absurd cc
slashed_plain (x ∷ xs) ys e = by (x == 47) e
  where
    by : (v : Bool) → (if v then tag_lettered true 2 (xs ++ 60 ∷ ys) else tag_lettered false 1 (x ∷ xs ++ 60 ∷ ys)) ≡ Open → ⊥
    by true e = lettered_plain true 2 xs ys e
    by false e = lettered_plain false 1 (x ∷ xs) ys e

tag_plain : (b : ℕ) (xs ys : List ℕ) → tag (b ∷ (xs ++ 60 ∷ ys)) ≡ Open → ⊥
unfolding tag
tag_plain b xs ys e = by (b == 60) e
  where
    by : (v : Bool) → (if v then tag_slashed (xs ++ 60 ∷ ys) else Not) ≡ Open → ⊥
    by true e = slashed_plain xs ys e
    by false e = absurd cc

pub end_tag_plain : (name : List ℕ) (b : ℕ) (xs ys : List ℕ) → end_tag name (b ∷ (xs ++ 60 ∷ ys)) ≡ Open → ⊥
unfolding end_tag
end_tag_plain name b xs ys e = by (tag (b ∷ (xs ++ 60 ∷ ys))) (tag_plain b xs ys) e
  where
    by : (m : Mark) → (m ≡ Open → ⊥) → only_end_named name (b ∷ (xs ++ 60 ∷ ys)) m ≡ Open → ⊥
    by (Is t) never e = at (t.is_end && is_named name (b ∷ (xs ++ 60 ∷ ys)) t) e
      where
        at : (v : Bool) → (if v then Is t else Not) ≡ Open → ⊥
        at true e = absurd cc
        at false e = absurd cc
    by Not never e = absurd cc
    by Open never e = never refl
