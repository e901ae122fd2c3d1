-- A text that is read as an expression is one of it.
use Rattle.std.proofs.Common.{ℕ, zero, suc, ◌≡◌, ◌≤◌, Bool, true, false, not, ◌&&◌, ◌||◌, ◌⊎◌, inl, inr, List, [], ◌∷◌, ◌++◌, length, drop, Ok, Err, refl, sym, ap, ◌∙◌, subst, arith, append_assoc, eqb-true}
use Rattle.std.specs.Prelude.{◌==◌, nat_lt, if◌then◌else◌, codes}
use Rattle.std.specs.List.{list_all, prefix_len, take_while}
use Rattle.std.specs.Str.{bytes_eq}
use Rattle.std.proofs.lemmas.Slice.Eq.{bytes_eq-Decides}
use Rattle.std.proofs.lemmas.List.Folds.{list_all-append}
use Rattle.ri_base.specs.Ascii.{is_space, is_letter, is_digit, is_letter_or_digit}
use Rattle.ri_base.specs.Expression as tree
use Rattle.ri_base.specs.Expression.{ExprTree, expr_trees}
use Rattle.query_reader.specs.Cursor.{At, Reading, place, refuse}
use Rattle.query_reader.specs.Bytes.{begins, begins_in, skip, past, spaced}
use Rattle.query_reader.specs.Operators.{operator_of, extent_operator, test_operator, name_of, is_number, is_numbered, behind_letters}
use Rattle.query_reader.specs.Parts.{expect, number, field}
use Rattle.query_reader.specs.Items.{hash, is_context, arguments}
use Rattle.query_reader.specs.Exprs.{number_then_opening, head_of, head, is_any, made, behind_argument, next_expr, operator, atom, with_field, expr_by, inner, expr}
use Rattle.query_reader.specs.QueryText.{without_context, ended, lone_expr, expr_text, placed, start}
use Rattle.query_language.specs.Grammar as grammar
use Rattle.query_language.specs.Grammar.{AreArguments, IsField, IsNumber, IsAtom, IsExpr, IsExprText}
use Rattle.query_reader.specs.declared.fault.QueryKind.{QueryKind}
use Rattle.query_reader.specs.declared.fault.QueryKind.TheVariants as kind
use Rattle.query_reader.specs.declared.operator.Operator.{Operator}
use Rattle.query_reader.specs.declared.operator.Operator.TheVariants.{Filreq, Filrej, Combine, Max, Weight, Prior, Any, Band, Syn, Ordered, Unordered, Later, Unknown}
use Rattle.query_reader.specs.declared.operator.Head.{Head}
use Rattle.query_reader.specs.declared.operator.Head.TheVariants.{AnyOf, BandOf, SynOf, OrderedBy, UnorderedBy}
use Rattle.query_reader.proofs.ReadFits.{AllRead, bind_all, if_all}
use Rattle.query_language.proofs.PrintParts.{digits-no-letter, left_true, right_true}
use Rattle.query_language.proofs.GrammarItems.{Makes, One, Spaced, arguments_reads, spaced_reads}
use Rattle.query_language.proofs.GrammarParts.{Hashed, IsNumberHere, Reads, begins_parts, expect-reads, field-reads, hash-same, number-reads, run_all, run_longest, run_parts, simple-reads}

-- OPERATORS

-- what name an operator has
abbrev pub IsNamed : Operator → List ℕ → Type 0
IsNamed Any name = name ≡ codes "any"
IsNamed Band name = name ≡ codes "band"
IsNamed Syn name = name ≡ codes "syn"
IsNamed Ordered name = (is_number name ≡ true) ⊎ (is_numbered 111 100 name ≡ true)
IsNamed Unordered name = is_numbered 117 119 name ≡ true
IsNamed Filreq name = name ≡ codes "filreq"
IsNamed Filrej name = name ≡ codes "filrej"
IsNamed Combine name = name ≡ codes "combine"
IsNamed Max name = name ≡ codes "max"
IsNamed Weight name = name ≡ codes "weight"
IsNamed Prior name = name ≡ codes "prior"
IsNamed Later name = Unit {0}
IsNamed Unknown name = Unit {0}

if_named : (name : List ℕ) (v : Bool) (x y : Operator) → (v ≡ true → IsNamed x name) → (v ≡ false → IsNamed y name) → IsNamed (if v then x else y) name
if_named name true x y yes_case no_case = yes_case refl
if_named name false x y yes_case no_case = no_case refl

same_name : (xs ys : List ℕ) → bytes_eq xs ys ≡ true → xs ≡ ys
same_name xs ys e = (bytes_eq-Decides xs ys).0 e

either : (v w : Bool) → (v || w) ≡ true → (v ≡ true) ⊎ (w ≡ true)
either true w e = inl refl
either false w e = inr e

extent_named : (name : List ℕ) → IsNamed (extent_operator name) name
unfolding extent_operator test_operator
extent_named name =
    if_named name (bytes_eq name (codes "any")) _ _ (λ e. same_name name _ e) (λ _.
    if_named name (bytes_eq name (codes "band")) _ _ (λ e. same_name name _ e) (λ _.
    if_named name (bytes_eq name (codes "syn")) _ _ (λ e. same_name name _ e) (λ _.
    if_named name (is_number name || is_numbered 111 100 name) _ _ (λ e. either (is_number name) _ e) (λ _.
    if_named name (is_numbered 117 119 name) _ _ (λ e. e) (λ _.
    if_named name (bytes_eq name (codes "less") || bytes_eq name (codes "greater") || bytes_eq name (codes "between") || bytes_eq name (codes "equals")) _ _ (λ _. tt) (λ _. tt))))))

pub op_named : (name : List ℕ) → IsNamed (operator_of name) name
unfolding operator_of
op_named name =
    if_named name (bytes_eq name (codes "filreq")) _ _ (λ e. same_name name _ e) (λ _.
    if_named name (bytes_eq name (codes "filrej")) _ _ (λ e. same_name name _ e) (λ _.
    if_named name (bytes_eq name (codes "combine")) _ _ (λ e. same_name name _ e) (λ _.
    if_named name (bytes_eq name (codes "max")) _ _ (λ e. same_name name _ e) (λ _.
    if_named name (bytes_eq name (codes "weight")) _ _ (λ e. same_name name _ e) (λ _.
    if_named name (bytes_eq name (codes "prior")) _ _ (λ e. same_name name _ e) (λ _. extent_named name))))))

pub no_letters : (rest : List ℕ) → begins_in is_letter_or_digit rest ≡ false → prefix_len is_letter rest ≡ 0
no_letters [] e = refl
no_letters (b ∷ rest) e = by (is_letter b) refl e
  where
    by : (v : Bool) → is_letter b ≡ v → (v || is_digit b) ≡ false → prefix_len is_letter (b ∷ rest) ≡ 0
    by true h e = absurd cc
    by false h e = rw h refl

-- the name and what stands behind it
pub record NameHere (at : At) (name : List ℕ) : Type 0 where
  pub rest : List ℕ
  pub parts : at.bytes ≡ 35 ∷ (name ++ rest)
  pub longest : begins_in is_letter_or_digit rest ≡ false

pub name_here : (at : At) (name : List ℕ) → begins 35 at.bytes ≡ true → name_of at ≡ name → NameHere at name
name_here at name b e = record {
  rest = skip is_letter_or_digit (drop 1 at.bytes);
  parts = begins_parts 35 at.bytes b ∙ ap (λ xs. 35 ∷ xs) (sym (run_parts is_letter_or_digit (drop 1 at.bytes)) ∙ ap (λ xs. xs ++ skip is_letter_or_digit (drop 1 at.bytes)) e);
  longest = run_longest is_letter_or_digit (drop 1 at.bytes);
}

-- the bytes behind the letters, where the name is letters and then no letter
pub behind_is : (at : At) (letters rest : List ℕ) → at.bytes ≡ 35 ∷ (letters ++ rest) → skip is_letter (letters ++ rest) ≡ rest → (behind_letters at).bytes ≡ rest
behind_is at letters rest e s = ap (λ xs. skip is_letter (drop 1 xs)) e ∙ s

any_skip : (rest : List ℕ) → prefix_len is_letter rest ≡ 0 → skip is_letter (codes "any" ++ rest) ≡ rest
any_skip rest e = rw e refl

band_skip : (rest : List ℕ) → prefix_len is_letter rest ≡ 0 → skip is_letter (codes "band" ++ rest) ≡ rest
band_skip rest e = rw e refl

syn_skip : (rest : List ℕ) → prefix_len is_letter rest ≡ 0 → skip is_letter (codes "syn" ++ rest) ≡ rest
syn_skip rest e = rw e refl

od_skip : (rest : List ℕ) → prefix_len is_letter rest ≡ 0 → skip is_letter (codes "od" ++ rest) ≡ rest
od_skip rest e = rw e refl

uw_skip : (rest : List ℕ) → prefix_len is_letter rest ≡ 0 → skip is_letter (codes "uw" ++ rest) ≡ rest
uw_skip rest e = rw e refl

none_skip : (rest : List ℕ) → prefix_len is_letter rest ≡ 0 → skip is_letter ([] ++ rest) ≡ rest
none_skip rest e = rw e refl

number_letters : (name rest : List ℕ) → is_number name ≡ true → prefix_len is_letter (name ++ rest) ≡ 0
number_letters name rest e = digits-no-letter name rest (grind (arith, left_true (nat_lt 0 (length name)) _ e)) (eqb-true _ _ (right_true (nat_lt 0 (length name)) (prefix_len is_digit name == length name) e))

record Numbered (a b : ℕ) (name : List ℕ) : Type 0 where
  pub digits : List ℕ
  pub parts : name ≡ a ∷ b ∷ digits
  pub is_number : is_number digits ≡ true

numbered_parts : (a b : ℕ) (name : List ℕ) → is_numbered a b name ≡ true → Numbered a b name
numbered_parts a b [] e = absurd cc
numbered_parts a b (x ∷ []) e = absurd cc
numbered_parts a b (x ∷ y ∷ bytes) e =
    let front = left_true ((x == a) && (y == b)) (is_number bytes) e in
    record { digits = bytes; parts = ap (λ z. z ∷ y ∷ bytes) (eqb-true x a (left_true (x == a) (y == b) front)) ∙ ap (λ z. a ∷ z ∷ bytes) (eqb-true y b (right_true (x == a) (y == b) front)); is_number = right_true ((x == a) && (y == b)) (is_number bytes) e }

-- an operator up to its arguments
abbrev IsHead : Head → List ℕ → List ℕ → Type 0
IsHead (AnyOf f) text behind = (name : List ℕ) × (text ≡ codes "#any:" ++ name) × IsField f name behind
IsHead BandOf text behind = text ≡ codes "#band("
IsHead SynOf text behind = text ≡ codes "#syn("
IsHead (OrderedBy n) text behind = (digits : List ℕ) × ((text ≡ codes "#" ++ (digits ++ 40 ∷ [])) ⊎ (text ≡ codes "#od" ++ (digits ++ 40 ∷ []))) × IsNumber n digits
IsHead (UnorderedBy n) text behind = (digits : List ℕ) × (text ≡ codes "#uw" ++ (digits ++ 40 ∷ [])) × IsNumber n digits

-- a number and `(`
record Opening (bytes : List ℕ) (y : ℕ × At) : Type 0 where
  pub digits : List ℕ
  pub parts : bytes ≡ digits ++ 40 ∷ y.1.bytes
  pub is_number : IsNumber y.0 digits

opening-reads : (at : At) → AllRead (Opening at.bytes) (number_then_opening at)
unfolding number_then_opening
opening-reads at =
    bind_all (Reads IsNumberHere at.bytes) (Opening at.bytes) (number at) _ (number-reads at) (λ n k.
    bind_all (λ y. n.1.bytes ≡ 40 ∷ y.1.bytes) (Opening at.bytes) (expect 40 n.1) _ (expect-reads 40 n.1) (λ o e. record { digits = k.text; parts = k.parts ∙ ap (λ xs. k.text ++ xs) e; is_number = k.is }))

-- digits behind a sign
sign_parts : (sign digits rest : List ℕ) → sign ++ (digits ++ 40 ∷ rest) ≡ (sign ++ (digits ++ 40 ∷ [])) ++ rest
sign_parts sign digits rest = simp append_assoc refl

head_of-reads : (o : Operator) (at : At) → begins 35 at.bytes ≡ true → IsNamed o (name_of at) → AllRead (Reads IsHead at.bytes) (head_of o at)
unfolding head_of
head_of-reads Any at b named =
    let name = name_here at (codes "any") b named in
    let place_is = behind_is at (codes "any") name.rest name.parts (any_skip name.rest (no_letters name.rest name.longest)) in
    bind_all (λ y. (behind_letters at).bytes ≡ 58 ∷ y.1.bytes) (Reads IsHead at.bytes) (expect 58 (behind_letters at)) _ (expect-reads 58 (behind_letters at)) (λ c e.
    bind_all (Reads IsField c.1.bytes) (Reads IsHead at.bytes) (field c.1) _ (field-reads c.1) (λ f k.
    record { text = codes "#any:" ++ k.text; parts = name.parts ∙ ap (λ xs. codes "#any" ++ xs) (sym place_is ∙ e ∙ ap (λ xs. 58 ∷ xs) k.parts); is = (k.text, refl, k.is) }))
head_of-reads Band at b named =
    let name = name_here at (codes "band") b named in
    let place_is = behind_is at (codes "band") name.rest name.parts (band_skip name.rest (no_letters name.rest name.longest)) in
    bind_all (λ y. (behind_letters at).bytes ≡ 40 ∷ y.1.bytes) (Reads IsHead at.bytes) (expect 40 (behind_letters at)) _ (expect-reads 40 (behind_letters at)) (λ c e.
    record { text = codes "#band("; parts = name.parts ∙ ap (λ xs. codes "#band" ++ xs) (sym place_is ∙ e); is = refl })
head_of-reads Syn at b named =
    let name = name_here at (codes "syn") b named in
    let place_is = behind_is at (codes "syn") name.rest name.parts (syn_skip name.rest (no_letters name.rest name.longest)) in
    bind_all (λ y. (behind_letters at).bytes ≡ 40 ∷ y.1.bytes) (Reads IsHead at.bytes) (expect 40 (behind_letters at)) _ (expect-reads 40 (behind_letters at)) (λ c e.
    record { text = codes "#syn("; parts = name.parts ∙ ap (λ xs. codes "#syn" ++ xs) (sym place_is ∙ e); is = refl })
head_of-reads Ordered at b (inl e) =
    let name = name_here at (name_of at) b refl in
    let place_is = behind_is at [] (name_of at ++ name.rest) name.parts (none_skip _ (number_letters (name_of at) name.rest e)) in
    bind_all (Opening (behind_letters at).bytes) (Reads IsHead at.bytes) (number_then_opening (behind_letters at)) _ (opening-reads (behind_letters at)) (λ n k.
    record { text = codes "#" ++ (k.digits ++ 40 ∷ []); parts = name.parts ∙ ap (λ xs. 35 ∷ xs) (sym place_is ∙ k.parts) ∙ sign_parts (codes "#") k.digits n.1.bytes; is = (k.digits, inl refl, k.is_number) })
head_of-reads Ordered at b (inr e) =
    let numbered = numbered_parts 111 100 (name_of at) e in
    let name = name_here at (111 ∷ 100 ∷ numbered.digits) b numbered.parts in
    let place_is = behind_is at (codes "od") (numbered.digits ++ name.rest) name.parts (od_skip _ (number_letters numbered.digits name.rest numbered.is_number)) in
    bind_all (Opening (behind_letters at).bytes) (Reads IsHead at.bytes) (number_then_opening (behind_letters at)) _ (opening-reads (behind_letters at)) (λ n k.
    record { text = codes "#od" ++ (k.digits ++ 40 ∷ []); parts = name.parts ∙ ap (λ xs. codes "#od" ++ xs) (sym place_is ∙ k.parts) ∙ sign_parts (codes "#od") k.digits n.1.bytes; is = (k.digits, inr refl, k.is_number) })
head_of-reads Unordered at b e =
    let numbered = numbered_parts 117 119 (name_of at) e in
    let name = name_here at (117 ∷ 119 ∷ numbered.digits) b numbered.parts in
    let place_is = behind_is at (codes "uw") (numbered.digits ++ name.rest) name.parts (uw_skip _ (number_letters numbered.digits name.rest numbered.is_number)) in
    bind_all (Opening (behind_letters at).bytes) (Reads IsHead at.bytes) (number_then_opening (behind_letters at)) _ (opening-reads (behind_letters at)) (λ n k.
    record { text = codes "#uw" ++ (k.digits ++ 40 ∷ []); parts = name.parts ∙ ap (λ xs. codes "#uw" ++ xs) (sym place_is ∙ k.parts) ∙ sign_parts (codes "#uw") k.digits n.1.bytes; is = (k.digits, refl, k.is_number) })
head_of-reads Filreq at b named = tt
head_of-reads Filrej at b named = tt
head_of-reads Combine at b named = tt
head_of-reads Max at b named = tt
head_of-reads Weight at b named = tt
head_of-reads Prior at b named = tt
head_of-reads Later at b named = tt
head_of-reads Unknown at b named = tt

same_at : (o : Operator) (at new : At) → new.bytes ≡ at.bytes → o ≡ operator_of (name_of at) → begins 35 at.bytes ≡ true → AllRead (Reads IsHead new.bytes) (head_of o new)
same_at o at new e h b = head_of-reads o new (ap (begins 35) e ∙ b) (subst (λ x. IsNamed x (name_of new)) (ap (λ xs. operator_of (take_while is_letter_or_digit (drop 1 xs))) e ∙ sym h) (op_named (name_of new)))

head-reads : (room : ℕ) (at : At) → begins 35 at.bytes ≡ true → AllRead (Reads IsHead at.bytes) (head room at)
unfolding head
head-reads room at b = bind_all (Hashed at) (Reads IsHead at.bytes) (hash room at) _ (hash-same room at) (λ x k. subst (λ xs. AllRead (Reads IsHead xs) (head_of x.0 x.1)) k.1 (same_at x.0 at x.1 k.1 k.0 b))

-- ARGUMENTS

abbrev AreAll : List ExprTree → List ℕ → List ℕ → Type 0
AreAll xs text behind = AreArguments (expr_trees xs) text behind

makes_arguments : Makes IsExpr AreAll
makes_arguments = record { last = λ x s t u b h k l. grammar.last x s t u b h k l; more = λ x y xs s t o b h k l. grammar.further x (expr_trees (y ∷ xs)) s t o b h k l }

behind_argument-reads : (one : At → Reading ExprTree) → One IsExpr one → One IsExpr (behind_argument one)
unfolding behind_argument
behind_argument-reads one h at = if_all (Reads IsExpr at.bytes) (is_context at) _ _ (λ e. tt) (λ e. h at)

arguments-reads : (one : At → Reading ExprTree) → One IsExpr one → (mark : ℕ) (at : At) → AllRead (Reads AreAll at.bytes) (arguments one (next_expr one) mark at)
unfolding next_expr
arguments-reads one h mark at = arguments_reads IsExpr AreAll makes_arguments one (behind_argument one) h (behind_argument-reads one h) mark at

-- EXPRESSIONS

made_any : (h : Head) (text behind : List ℕ) → is_any h ≡ true → IsHead h text behind → IsAtom (made h []) text behind
unfolding made
made_any (AnyOf f) text behind e k = subst (λ xs. IsAtom (tree.any f) xs behind) (sym k.1) (grammar.of_any f k.0 behind k.2)
made_any BandOf text behind e k = absurd cc
made_any SynOf text behind e k = absurd cc
made_any (OrderedBy n) text behind e k = absurd cc
made_any (UnorderedBy n) text behind e k = absurd cc

made_all : (h : Head) (text between inside behind : List ℕ) (xs : List ExprTree) → is_any h ≡ false → IsHead h text between → AreAll xs inside behind → IsAtom (made h xs) (text ++ inside) behind
unfolding made
made_all (AnyOf f) text between inside behind xs e k all = absurd cc
made_all BandOf text between inside behind xs e k all = subst (λ t. IsAtom (tree.band (expr_trees xs)) (t ++ inside) behind) (sym k) (grammar.of_band (expr_trees xs) inside behind all)
made_all SynOf text between inside behind xs e k all = subst (λ t. IsAtom (tree.syn (expr_trees xs)) (t ++ inside) behind) (sym k) (grammar.of_syn (expr_trees xs) inside behind all)
made_all (OrderedBy n) text between inside behind xs e (digits, inl is, number_is) all =
    let shift : text ++ inside ≡ codes "#" ++ (digits ++ 40 ∷ inside) = ap (λ t. t ++ inside) is ∙ sym (sign_parts (codes "#") digits inside) in
    subst (λ t. IsAtom (tree.ordered n (expr_trees xs)) t behind) (sym shift) (grammar.of_number n (expr_trees xs) digits inside behind number_is all)
made_all (OrderedBy n) text between inside behind xs e (digits, inr is, number_is) all =
    let shift : text ++ inside ≡ codes "#od" ++ (digits ++ 40 ∷ inside) = ap (λ t. t ++ inside) is ∙ sym (sign_parts (codes "#od") digits inside) in
    subst (λ t. IsAtom (tree.ordered n (expr_trees xs)) t behind) (sym shift) (grammar.of_od n (expr_trees xs) digits inside behind number_is all)
made_all (UnorderedBy n) text between inside behind xs e (digits, is, number_is) all =
    let shift : text ++ inside ≡ codes "#uw" ++ (digits ++ 40 ∷ inside) = ap (λ t. t ++ inside) is ∙ sym (sign_parts (codes "#uw") digits inside) in
    subst (λ t. IsAtom (tree.unordered n (expr_trees xs)) t behind) (sym shift) (grammar.of_uw n (expr_trees xs) digits inside behind number_is all)

operator-reads : (room : ℕ) (one : At → Reading ExprTree) → One IsExpr one → (at : At) → begins 35 at.bytes ≡ true → AllRead (Reads IsAtom at.bytes) (operator room one at)
unfolding operator
operator-reads room one h at b = bind_all (Reads IsHead at.bytes) (Reads IsAtom at.bytes) (head room at) _ (head-reads room at b) (λ x k.
    if_all (Reads IsAtom at.bytes) (is_any x.0) _ _ (λ e. record { text = k.text; parts = k.parts; is = made_any x.0 k.text x.1.bytes e k.is }) (λ e.
    bind_all (Reads AreAll x.1.bytes) (Reads IsAtom at.bytes) (arguments one (next_expr one) (place at) x.1) _ (arguments-reads one h (place at) x.1) (λ y m.
    record { text = k.text ++ m.text; parts = k.parts ∙ ap (λ xs. k.text ++ xs) m.parts ∙ sym (append_assoc k.text m.text y.1.bytes); is = made_all x.0 k.text x.1.bytes m.text y.1.bytes y.0 e k.is m.is })))

with_field-reads : (bytes : List ℕ) (x : ExprTree) (mid : At) → Reads IsAtom bytes (x, mid) → AllRead (Reads IsExpr bytes) (with_field x mid)
unfolding with_field
with_field-reads bytes x mid k =
    if_all (Reads IsExpr bytes) (begins 46 mid.bytes && not (begins 40 (drop 1 mid.bytes))) _ _
    (λ e. bind_all (Reads IsField (drop 1 mid.bytes)) (Reads IsExpr bytes) (field (past 1 mid)) _ (field-reads (past 1 mid)) (λ f m.
    let shift : mid.bytes ≡ 46 ∷ (m.text ++ f.1.bytes) = begins_parts 46 mid.bytes (left_true (begins 46 mid.bytes) _ e) ∙ ap (λ xs. 46 ∷ xs) m.parts in
    record { text = k.text ++ 46 ∷ m.text; parts = k.parts ∙ ap (λ xs. k.text ++ xs) shift ∙ sym (append_assoc k.text (46 ∷ m.text) f.1.bytes); is = grammar.with_field x f.0 k.text m.text f.1.bytes (subst (IsAtom x k.text) shift k.is) m.is }))
    (λ e. record { text = k.text; parts = k.parts; is = grammar.alone x k.text mid.bytes k.is e })

expr_by-reads : (room : ℕ) (one : At → Reading ExprTree) → ((at : At) → begins 35 at.bytes ≡ true → AllRead (Reads IsAtom at.bytes) (operator room one at)) → One IsExpr (expr_by room one)
unfolding expr_by atom
expr_by-reads room one h at =
    bind_all (Reads IsAtom at.bytes) (Reads IsExpr at.bytes) _ _
    (if_all (Reads IsAtom at.bytes) (begins 35 at.bytes) _ _ (λ e. h at e) (λ e. simple-reads room at))
    (λ x k. with_field-reads at.bytes x.0 x.1 k)

refused-reads : (k : QueryKind) → One IsExpr (refuse k)
refused-reads k at = tt

pub expr-reads : (room : ℕ) → One IsExpr (expr room)
unfolding inner
expr-reads zero = expr_by-reads zero (refuse kind.TooDeep) (operator-reads zero (refuse kind.TooDeep) (refused-reads kind.TooDeep))
expr-reads (suc room) = expr_by-reads (suc room) (expr room) (operator-reads (suc room) (expr room) (expr-reads room))

-- TEXTS

-- only white space is left
record Ended (bytes : List ℕ) (x y : ExprTree × At) : Type 0 where
  pub same : y.0 ≡ x.0
  pub spaces : list_all is_space x.1.bytes ≡ true

pub no_bytes : (bytes : List ℕ) → nat_lt 0 (length bytes) ≡ false → bytes ≡ []
no_bytes [] e = refl
no_bytes (b ∷ bytes) e = absurd (omega (arith, short (length bytes) e))
  where
    short : (n : ℕ) → nat_lt 0 (suc n) ≡ false → suc n ≤ 0
    short n e = grind (arith, e)

pub spaces_left : (bytes : List ℕ) → skip is_space (skip is_space bytes) ≡ [] → list_all is_space bytes ≡ true
spaces_left bytes e =
    let one = run_parts is_space bytes in
    let two = run_parts is_space (skip is_space bytes) in
    let parts : bytes ≡ take_while is_space bytes ++ (take_while is_space (skip is_space bytes) ++ []) = sym one ∙ ap (λ xs. take_while is_space bytes ++ xs) (sym two ∙ ap (λ xs. take_while is_space (skip is_space bytes) ++ xs) e) in
    ap (list_all is_space) parts ∙ all (take_while is_space bytes) (take_while is_space (skip is_space bytes)) (run_all is_space bytes) (run_all is_space (skip is_space bytes))
  where
    all : (a b : List ℕ) → list_all is_space a ≡ true → list_all is_space b ≡ true → list_all is_space (a ++ (b ++ [])) ≡ true
    all a b h k = simp (list_all-append, h, k) refl

text_of : (bytes : List ℕ) (x : ExprTree) (mid : At) → Spaced IsExpr bytes (x, mid) → list_all is_space mid.bytes ≡ true → IsExprText x bytes
text_of bytes x mid k spaces = record { space = k.space; text = k.text; space_behind = mid.bytes; parts = k.parts ∙ sym (append_assoc k.space k.text mid.bytes); spaces = k.spaces; is_expr = k.is; spaces_behind = spaces }

lone-reads : (at : At) → AllRead (λ y. IsExprText y.0 at.bytes) (lone_expr (spaced at))
unfolding lone_expr without_context ended
lone-reads at =
    let Q : ExprTree × At → Type 0 = λ y. IsExprText y.0 at.bytes in
    bind_all (Reads IsExpr (spaced at).bytes) Q (expr 32 (spaced at)) _ (expr-reads 32 (spaced at)) (λ x k.
    bind_all (λ z. (z.0 ≡ x.0) × (z.1.bytes ≡ (spaced x.1).bytes)) Q _ _ (if_all (λ z. (z.0 ≡ x.0) × (z.1.bytes ≡ (spaced x.1).bytes)) (is_context (spaced x.1)) _ _ (λ e. tt) (λ e. (refl, refl))) (λ z m.
    bind_all (λ w. skip is_space z.1.bytes ≡ []) Q _ _ (if_all (λ w. skip is_space z.1.bytes ≡ []) (nat_lt 0 (place (spaced z.1))) _ _ (λ e. tt) (λ e. no_bytes (spaced z.1).bytes e)) (λ w n.
    subst (λ t. IsExprText t at.bytes) (sym m.0) (text_of at.bytes x.0 x.1 (spaced_reads IsExpr at x k) (spaces_left x.1.bytes (ap (skip is_space) (sym m.1) ∙ n))))))

pub expr_text_is : (bytes : List ℕ) (x : ExprTree) → expr_text bytes ≡ Ok x → IsExprText x bytes
unfolding expr_text
expr_text_is bytes x e = by (lone_expr (spaced (start bytes))) (lone-reads (start bytes)) e
  where
    by : (r : Reading ExprTree) → AllRead (λ y. IsExprText y.0 bytes) r → placed bytes r ≡ Ok x → IsExprText x bytes
    by (Ok (y, new)) h e = let same : y ≡ x = cc in subst (λ t. IsExprText t bytes) same h
    by (Err (k, left)) h e = absurd cc
