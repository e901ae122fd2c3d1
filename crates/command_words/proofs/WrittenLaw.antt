-- Words are read as items just where these are written so.
use Rattle.std.proofs.Common.{◌≡◌, ◌∙◌, ◌+◌, ℕ, suc, Bool, true, false, ◌||◌, ◌==◌, List, [], ◌∷◌, ◌++◌, map, Option, None, Some, option_map, codes, refl, sym, ap, subst, bytes_eq, arith, inl, inr, if◌then◌else◌}
use Rattle.std.proofs.lemmas.Bool.{eqb-false, eqb-true, false≢true, or_parts}
use Rattle.std.specs.List.{after_first, before_first, list_any, position_or_len}
use Rattle.command_words.specs.Items.{Form, Item, form_of, is_equals, is_option_name, item_then, items_from, named, named_then, option, other, plain, text, value_in, value_then}
use Rattle.command_words.specs.Written.{AreWords, IsPlain, none, with_end, with_equals, with_next, with_text}
use Rattle.command_words.proofs.NamedLemmas.{same_bytes}

-- ---- the names of options

module _ (P : List ℕ → Type 0) (k : P (codes "k")) (mu : P (codes "mu")) (topic : P (codes "topic")) (run : P (codes "run")) (name : List ℕ) where
  at_run : (b : Bool) → bytes_eq (codes "run") name ≡ b → (b || false) ≡ true → P name
  at_run true e h = subst P (same_bytes (codes "run") name e) run
  at_run false e h = absurd (false≢true h)

  at_topic : (b : Bool) → bytes_eq (codes "topic") name ≡ b → (b || (bytes_eq (codes "run") name || false)) ≡ true → P name
  at_topic true e h = subst P (same_bytes (codes "topic") name e) topic
  at_topic false e h = at_run (bytes_eq (codes "run") name) refl h

  at_mu : (b : Bool) → bytes_eq (codes "mu") name ≡ b → (b || (bytes_eq (codes "topic") name || (bytes_eq (codes "run") name || false))) ≡ true → P name
  at_mu true e h = subst P (same_bytes (codes "mu") name e) mu
  at_mu false e h = at_topic (bytes_eq (codes "topic") name) refl h

  at_k : (b : Bool) → bytes_eq (codes "k") name ≡ b → (b || (bytes_eq (codes "mu") name || (bytes_eq (codes "topic") name || (bytes_eq (codes "run") name || false)))) ≡ true → P name
  at_k true e h = subst P (same_bytes (codes "k") name e) k
  at_k false e h = at_mu (bytes_eq (codes "mu") name) refl h

  -- what holds of each name of an option
  each_name : is_option_name name ≡ true → P name
  each_name h = at_k (bytes_eq (codes "k") name) refl h

name_alone : (name : List ℕ) → is_option_name name ≡ true → form_of (45 ∷ 45 ∷ name) ≡ named name None
name_alone name = each_name (λ n. form_of (45 ∷ 45 ∷ n) ≡ named n None) refl refl refl refl name

name_and_equals : (name value : List ℕ) → is_option_name name ≡ true → form_of (45 ∷ 45 ∷ (name ++ 61 ∷ value)) ≡ named name (Some value)
name_and_equals name value = each_name (λ n. form_of (45 ∷ 45 ∷ (n ++ 61 ∷ value)) ≡ named n (Some value)) refl refl refl refl name

-- ---- `=` in a word

no_equals : (bs : List ℕ) → list_any is_equals bs ≡ false → before_first is_equals bs ≡ bs
no_equals [] absent = refl
no_equals (b ∷ bs) absent =
    let parts = or_parts (b == 61) (list_any is_equals bs) absent in
    let more : 1 + position_or_len is_equals bs ≡ suc (position_or_len is_equals bs) = omega arith in
    rw (parts.0, more) (ap (λ (xs : List ℕ). b ∷ xs) (no_equals bs parts.1))

module _ (b : ℕ) (bs : List ℕ) where
  equals_here : (t : Bool) → (b == 61) ≡ t → (t || list_any is_equals bs) ≡ true → (list_any is_equals bs ≡ true → bs ≡ before_first is_equals bs ++ 61 ∷ after_first is_equals bs)
      → b ∷ bs ≡ before_first is_equals (b ∷ bs) ++ 61 ∷ after_first is_equals (b ∷ bs)
  equals_here true e some further = rw e (ap (λ (x : ℕ). x ∷ bs) (eqb-true b 61 e))
  equals_here false e some further =
      let more : 1 + position_or_len is_equals bs ≡ suc (position_or_len is_equals bs) = omega arith in
      let behind : suc (position_or_len is_equals bs) + 1 ≡ suc (position_or_len is_equals bs + 1) = omega arith in
      rw (e, more, behind) (ap (λ (xs : List ℕ). b ∷ xs) (further some))

parted : (bs : List ℕ) → list_any is_equals bs ≡ true → bs ≡ before_first is_equals bs ++ 61 ∷ after_first is_equals bs
parted [] some = absurd (false≢true some)
parted (b ∷ bs) some = equals_here b bs (b == 61) refl some (parted bs)

-- ---- the shape of a word

data Shape (word : List ℕ) : Type 0 where
  as_plain : form_of word ≡ plain → IsPlain word → Shape word
  as_long : (b : ℕ) (bs : List ℕ) → word ≡ 45 ∷ 45 ∷ b ∷ bs → Shape word
  as_end : word ≡ 45 ∷ 45 ∷ [] → Shape word
  as_short : (b : ℕ) (bs : List ℕ) → word ≡ 45 ∷ b ∷ bs → form_of word ≡ other → Shape word

two_in_front : (bs : List ℕ) → Shape (45 ∷ 45 ∷ bs)
two_in_front [] = as_end refl
two_in_front (b ∷ bs) = as_long b bs refl

one_in_front : (b : ℕ) (bs : List ℕ) (t : Bool) → (b == 45) ≡ t → Shape (45 ∷ b ∷ bs)
one_in_front b bs true e = subst (λ (c : ℕ). Shape (45 ∷ c ∷ bs)) (sym (eqb-true b 45 e)) (two_in_front bs)
one_in_front b bs false e = as_short b bs refl (rw e refl)

dash_in_front : (bs : List ℕ) → Shape (45 ∷ bs)
dash_in_front [] = as_plain refl (inl refl)
dash_in_front (b ∷ bs) = one_in_front b bs (b == 45) refl

front : ℕ → List ℕ → ℕ
front d [] = d
front d (b ∷ bs) = b

same_front : (b : ℕ) (bs rest : List ℕ) → b ∷ bs ≡ 45 ∷ rest → b ≡ 45
unfolding front
same_front b bs rest e = ap (front b) e

any_in_front : (b : ℕ) (bs : List ℕ) (t : Bool) → (b == 45) ≡ t → Shape (b ∷ bs)
any_in_front b bs true e = subst (λ (c : ℕ). Shape (c ∷ bs)) (sym (eqb-true b 45 e)) (dash_in_front bs)
any_in_front b bs false e = as_plain (rw e refl) (inr (λ rest is. eqb-false b 45 e (same_front b bs rest is)))

shape_of : (word : List ℕ) → Shape word
shape_of [] = as_plain refl (inr (λ rest is. cc))
shape_of (b ∷ bs) = any_in_front b bs (b == 45) refl

-- a plain word has no `-` and something behind it
not_dashed : (word : List ℕ) (b : ℕ) (bs : List ℕ) → IsPlain word → word ≡ 45 ∷ b ∷ bs → ⊥
not_dashed word b bs (inl dash) is = let e : codes "-" ≡ 45 ∷ b ∷ bs = sym dash ∙ is in cc
not_dashed word b bs (inr apart) is = apart (b ∷ bs) is

plain_form : (word : List ℕ) → IsPlain word → Shape word → form_of word ≡ plain
plain_form word is (as_plain form is') = form
plain_form word is (as_long b bs e) = absurd (not_dashed word 45 (b ∷ bs) is e)
plain_form word is (as_end e) = absurd (not_dashed word 45 [] is e)
plain_form word is (as_short b bs e form) = absurd (not_dashed word b bs is e)

-- ---- items that are written so are read

pub written_items : (words : List (List ℕ)) (items : List Item) → AreWords items words → items_from words None ≡ Some items
written_items _ _ none = refl
written_items _ _ (with_text t items words is more) =
    ap (λ (f : Form). item_then f t words (items_from words)) (plain_form t is (shape_of t))
    ∙ ap (option_map (λ (rest : List Item). text t ∷ rest)) (written_items words items more)
written_items _ _ (with_equals name value items words is more) =
    ap (λ (f : Form). item_then f (codes "--" ++ (name ++ 61 ∷ value)) words (items_from words)) (name_and_equals name value is)
    ∙ ap (λ (b : Bool). if b then named_then name (Some value) (items_from words) else None) is
    ∙ ap (option_map (λ (rest : List Item). option name value ∷ rest)) (written_items words items more)
written_items _ _ (with_next name value items words is value_is more) =
    ap (λ (f : Form). item_then f (codes "--" ++ name) (value ∷ words) (items_from (value ∷ words))) (name_alone name is)
    ∙ ap (λ (b : Bool). if b then named_then name None (items_from (value ∷ words)) else None) is
    ∙ ap (λ (f : Form). value_then f name value (items_from words None)) (plain_form value value_is (shape_of value))
    ∙ ap (option_map (λ (rest : List Item). option name value ∷ rest)) (written_items words items more)
written_items _ _ (with_end texts) = refl

-- ---- items that are read are written so

module _ (words : List (List ℕ)) where
  abbrev Idle : Type 0
  Idle = (items : List Item) → items_from words None ≡ Some items → AreWords items words

  abbrev Waits : Type 0
  Waits = (name : List ℕ) (items : List Item) → is_option_name name ≡ true → items_from words (Some name) ≡ Some items → AreWords items ((codes "--" ++ name) ∷ words)

record Written (words : List (List ℕ)) : Type 0 where
  idle : Idle words
  waits : Waits words

some_same : {X : Type 0} (x y : X) → Some x ≡ Some y → x ≡ y
some_same x y e = cc

none_some : {X : Type 0} (x : X) → None ≡ Some x → ⊥
none_some x e = cc

-- an item in front of others
put_in_front : (item : Item) (found : Option (List Item)) (items : List Item) (Q : List Item → Type 0) → option_map (λ rest. item ∷ rest) found ≡ Some items
    → ((rest : List Item) → found ≡ Some rest → Q (item ∷ rest)) → Q items
put_in_front item None items Q e h = absurd (none_some items e)
put_in_front item (Some rest) items Q e h = subst Q (some_same (item ∷ rest) items e) (h rest refl)

module _ (word : List ℕ) (words : List (List ℕ)) (behind : Written words) where
  abbrev by_form : Form → Option (List Item)
  by_form f = item_then f word words (items_from words)

  idle_plain : IsPlain word → (items : List Item) → by_form plain ≡ Some items → AreWords items (word ∷ words)
  idle_plain is items e =
      put_in_front (text word) (items_from words None) items (λ xs. AreWords xs (word ∷ words)) e
      (λ rest found. with_text word rest words is (behind.idle rest found))

  module _ (b : ℕ) (bs : List ℕ) (is : word ≡ 45 ∷ 45 ∷ b ∷ bs) where
    abbrev its_name : List ℕ
    its_name = before_first is_equals (b ∷ bs)

    abbrev its_value : List ℕ
    its_value = after_first is_equals (b ∷ bs)

    long_known : (t : Bool) → list_any is_equals (b ∷ bs) ≡ t → is_option_name its_name ≡ true → (items : List Item) → named_then its_name (if t then Some its_value else None) (items_from words) ≡ Some items → AreWords items (word ∷ words)
    long_known true equals known items e =
        let parts : word ≡ codes "--" ++ (its_name ++ 61 ∷ its_value) = is ∙ ap (λ (xs : List ℕ). 45 ∷ 45 ∷ xs) (parted (b ∷ bs) equals) in
        put_in_front (option its_name its_value) (items_from words None) items (λ xs. AreWords xs (word ∷ words)) e
        (λ rest found. subst (λ (w : List ℕ). AreWords (option its_name its_value ∷ rest) (w ∷ words)) (sym parts) (with_equals its_name its_value rest words known (behind.idle rest found)))
    long_known false equals known items e =
        let parts : word ≡ codes "--" ++ its_name = is ∙ ap (λ (xs : List ℕ). 45 ∷ 45 ∷ xs) (sym (no_equals (b ∷ bs) equals)) in
        subst (λ (w : List ℕ). AreWords items (w ∷ words)) (sym parts) (behind.waits its_name items known e)

    long_by : (t : Bool) → is_option_name its_name ≡ t → (items : List Item) → (if t then named_then its_name (value_in (b ∷ bs)) (items_from words) else None) ≡ Some items → AreWords items (word ∷ words)
    long_by true known items e = long_known (list_any is_equals (b ∷ bs)) refl known items e
    long_by false known items e = absurd (none_some items e)

    idle_long : (items : List Item) → by_form (form_of word) ≡ Some items → AreWords items (word ∷ words)
    idle_long items e = long_by (is_option_name its_name) refl items (sym (ap (λ (w : List ℕ). by_form (form_of w)) is) ∙ e)

  idle_next : Shape word → Idle (word ∷ words)
  idle_next (as_plain form is) items e = idle_plain is items (sym (ap by_form form) ∙ e)
  idle_next (as_long b bs is) items e = idle_long b bs is items e
  idle_next (as_end is) items e =
      let texts : Some (map text words) ≡ Some items = sym (ap (λ (w : List ℕ). by_form (form_of w)) is) ∙ e in
      subst (λ (w : List ℕ). AreWords items (w ∷ words)) (sym is) (subst (λ (xs : List Item). AreWords xs ((45 ∷ 45 ∷ []) ∷ words)) (some_same (map text words) items texts) (with_end words))
  idle_next (as_short b bs is form) items e = absurd (none_some items (sym (ap by_form form) ∙ e))

  module _ (name : List ℕ) (items : List Item) (known : is_option_name name ≡ true) where
    abbrev by_value : Form → Option (List Item)
    by_value f = value_then f name word (items_from words None)

    waits_next : Shape word → items_from (word ∷ words) (Some name) ≡ Some items → AreWords items ((codes "--" ++ name) ∷ (word ∷ words))
    waits_next (as_plain form is) e =
        put_in_front (option name word) (items_from words None) items (λ xs. AreWords xs ((codes "--" ++ name) ∷ (word ∷ words))) (sym (ap by_value form) ∙ e)
        (λ rest found. with_next name word rest words known is (behind.idle rest found))
    waits_next (as_long b bs is) e = absurd (none_some items (sym (ap (λ (w : List ℕ). by_value (form_of w)) is) ∙ e))
    waits_next (as_end is) e = absurd (none_some items (sym (ap (λ (w : List ℕ). by_value (form_of w)) is) ∙ e))
    waits_next (as_short b bs is form) e = absurd (none_some items (sym (ap by_value form) ∙ e))

written : (words : List (List ℕ)) → Written words
written [] = record {
  idle = λ items e. subst (λ (xs : List Item). AreWords xs []) (some_same [] items e) none;
  waits = λ name items known e. absurd (none_some items e);
}
written (word ∷ words) = record {
  idle = idle_next word words (written words) (shape_of word);
  waits = λ name items known e. waits_next word words (written words) name items known (shape_of word) e;
}

pub items_written : (words : List (List ℕ)) (items : List Item) → items_from words None ≡ Some items → AreWords items words
items_written words = (written words).idle
