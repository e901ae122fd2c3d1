-- What is printed of an expression is read as that expression.
use Rattle.std.proofs.Common.{ℕ, zero, suc, ◌≡◌, ◌≤◌, ◌<◌, ◌+◌, Bool, true, false, not, ◌&&◌, List, [], ◌∷◌, ◌++◌, Option, None, Ok, Err, refl, ap, ◌∙◌, arith, append_assoc, add-zero, max}
use Rattle.std.specs.Prelude.{codes, if◌then◌else◌}
use Rattle.std.specs.Fmt.{decimal}
use Rattle.ri_base.specs.Ascii.{is_letter_or_digit}
use Rattle.ri_base.specs.Text.{is_term}
use Rattle.ri_base.specs.Expression as tree
use Rattle.ri_base.specs.Expression.{ExprTree, ExprTrees, expr_trees, is_width, is_in_field, depth, depths, nodes, all_nodes, is_sound, are_sound, are_arguments}
use Rattle.query_printer.specs.Printed.{doubled, printed, printed_all, printed_more}
use Rattle.query_reader.specs.Cursor.{At, Reading, refuse}
use Rattle.query_reader.specs.Bytes.{begins, past}
use Rattle.query_reader.specs.Operators.{extent_operator, operator_of, operator_at, is_belief_operator, is_filter, is_combine}
use Rattle.query_reader.specs.Parts.{expect}
use Rattle.query_reader.specs.Items.{hash, is_context, found, until_closing, further, following, first, arguments}
use Rattle.query_reader.specs.Exprs.{number_then_opening, head_of, head, is_any, made, behind_argument, next_expr, operator, simple, atom, with_field, expr_by, inner, expr}
use Rattle.query_reader.specs.declared.fault.QueryKind.TheVariants.{ContextInside, EmptyOperator}
use Rattle.query_reader.specs.declared.operator.Head.{Head}
use Rattle.query_reader.specs.declared.operator.Head.TheVariants.{AnyOf, BandOf, SynOf, OrderedBy, UnorderedBy}
use Rattle.query_language.proofs.PrintParts.{here, left_true, right_true, entered-reads, quoted-reads, front-taken, IsName, name_begins, Ends, Stops, field-reads, Item, hash-item, spaced-none, spaced-one, writes-width, digits-letters, digits-no-letter, operator-number, operator-uw, number-reads}

-- the trees of a list of arguments
abbrev pub list : ExprTrees → List ExprTree
list tree.none = []
list (tree.more x xs) = x ∷ list xs

pub trees-list : (xs : ExprTrees) → expr_trees (list xs) ≡ xs
trees-list tree.none = refl
trees-list (tree.more x xs) = ap (tree.more x) (trees-list xs)

pub head-any : (r n : ℕ) (f rest : List ℕ) → IsName f → Ends rest → n + 1 ≤ 1000 → head (suc r) (here (codes "#any:" ++ f ++ rest) n) ≡ Ok (AnyOf f, here rest (n + 1))
unfolding head head_of hash extent_operator operator_of expect
head-any r n f rest ok ends h = rw (entered-reads r n _ h, field-reads f rest (n + 1) ok ends) refl

pub head-syn : (r n : ℕ) (rest : List ℕ) → n + 1 ≤ 1000 → head (suc r) (here (codes "#syn(" ++ rest) n) ≡ Ok (SynOf, here rest (n + 1))
unfolding head head_of hash extent_operator operator_of expect
head-syn r n rest h = rw (entered-reads r n _ h) refl

pub head-band : (r n : ℕ) (rest : List ℕ) → n + 1 ≤ 1000 → head (suc r) (here (codes "#band(" ++ rest) n) ≡ Ok (BandOf, here rest (n + 1))
unfolding head head_of hash extent_operator operator_of expect
head-band r n rest h = rw (entered-reads r n _ h) refl

head-ordered : (r n width : ℕ) (rest : List ℕ) → is_width width ≡ true → n + 1 ≤ 1000 → head (suc r) (here (35 ∷ (decimal width ++ 40 ∷ rest)) n) ≡ Ok (OrderedBy width, here rest (n + 1))
unfolding head head_of hash number_then_opening expect
head-ordered r n width rest ok h =
    let w = writes-width width ok in
    let run = front-taken is_letter_or_digit (decimal width) (40 ∷ rest) (digits-letters (decimal width) w.digits) refl in
    rw (run, operator-number (decimal width) w.some w.digits, entered-reads r n _ h, digits-no-letter (decimal width) (40 ∷ rest) w.some w.digits, number-reads width (40 ∷ rest) (n + 1) ok refl) refl

head-unordered : (r n width : ℕ) (rest : List ℕ) → is_width width ≡ true → n + 1 ≤ 1000 → head (suc r) (here (35 ∷ 117 ∷ 119 ∷ (decimal width ++ 40 ∷ rest)) n) ≡ Ok (UnorderedBy width, here rest (n + 1))
unfolding head head_of hash number_then_opening expect
head-unordered r n width rest ok h =
    let w = writes-width width ok in
    let run = front-taken is_letter_or_digit (117 ∷ 119 ∷ decimal width) (40 ∷ rest) (omega (arith, digits-letters (decimal width) w.digits)) refl in
    rw (run, operator-uw (decimal width) w.some w.digits, entered-reads r n _ h, digits-no-letter (decimal width) (40 ∷ rest) w.some w.digits, number-reads width (40 ∷ rest) (n + 1) ok refl) refl

-- no belief, filter or window stands here
pub record IsPlain (bytes : List ℕ) (n : ℕ) : Type 0 where
  pub belief : is_belief_operator (operator_at (here bytes n)) ≡ false
  pub filter : is_filter (operator_at (here bytes n)) ≡ false
  pub combine : is_combine (operator_at (here bytes n)) ≡ false

-- the laws of an item
pub record Law (x : ExprTree) : Type 0 where
  pub some : 0 < nodes x
  pub item : (rest : List ℕ) → Item (printed x ++ rest)
  pub plain : (rest : List ℕ) (n : ℕ) → is_sound x ≡ true → IsPlain (printed x ++ rest) n
  pub of_atom : (room n : ℕ) (rest : List ℕ) → depth x ≤ room → is_sound x ≡ true → is_in_field x ≡ false → n + nodes x ≤ 1000 → Ends rest → atom room (inner room) (here (printed x ++ rest) n) ≡ Ok (x, here rest (n + nodes x))
  pub of_expr : (room n : ℕ) (rest : List ℕ) → depth x ≤ room → is_sound x ≡ true → n + nodes x ≤ 1000 → Stops rest → expr room (here (printed x ++ rest) n) ≡ Ok (x, here rest (n + nodes x))

-- the laws of arguments
pub record Laws (xs : ExprTrees) : Type 0 where
  pub stops : (rest : List ℕ) → Stops (printed_more xs ++ rest)
  pub all : (room n mark : ℕ) (rest : List ℕ) → depths xs ≤ room → are_arguments xs ≡ true → n + all_nodes xs ≤ 1000 → arguments (expr room) (next_expr (expr room)) mark (here (printed_all xs ++ rest) n) ≡ Ok (list xs, here rest (n + all_nodes xs))
  pub more : (room n turns : ℕ) (rest : List ℕ) → depths xs ≤ room → are_sound xs ≡ true → n + all_nodes xs ≤ 1000 → all_nodes xs < turns → further (next_expr (expr room)) turns (here (printed_more xs ++ rest) n) ≡ Ok (list xs, here rest (n + all_nodes xs))

no_field_behind : (x : ExprTree) (rest : List ℕ) (n : ℕ) → Stops rest → with_field x (here rest n) ≡ Ok (x, here rest n)
unfolding with_field
no_field_behind x rest n stops = rw stops.no_field refl

expr-from_atom : (x : ExprTree) (room n m : ℕ) (bytes rest : List ℕ) → Stops rest → atom room (inner room) (here bytes n) ≡ Ok (x, here rest m) → expr room (here bytes n) ≡ Ok (x, here rest m)
unfolding expr_by
expr-from_atom x room n m bytes rest stops e = rw e (no_field_behind x rest m stops)

-- the laws of an item by how it is read as an atom
atom-law : (x : ExprTree) → 0 < nodes x → ((rest : List ℕ) → Item (printed x ++ rest)) → ((rest : List ℕ) (n : ℕ) → is_sound x ≡ true → IsPlain (printed x ++ rest) n)
    → ((room n : ℕ) (rest : List ℕ) → depth x ≤ room → is_sound x ≡ true → n + nodes x ≤ 1000 → Ends rest → atom room (inner room) (here (printed x ++ rest) n) ≡ Ok (x, here rest (n + nodes x))) → Law x
atom-law x some item plain reads = record {
  some = some;
  item = item;
  plain = plain;
  of_atom = λ room n rest deep ok alone h ends. reads room n rest deep ok h ends;
  of_expr = λ room n rest deep ok h stops. expr-from_atom x room n _ _ rest stops (reads room n rest deep ok h stops.ends);
}

-- a word

word-atom : (t rest : List ℕ) (room n : ℕ) → is_term t ≡ true → n + 1 ≤ 1000 → Ends rest → atom room (inner room) (here (printed (tree.word t) ++ rest) n) ≡ Ok (tree.word t, here rest (n + 1))
unfolding atom simple printed printed_all printed_more
word-atom t rest room n term h ends = rw (append_assoc (doubled t) (34 ∷ []) rest) (quoted-reads t rest n term h ends.quote)

word-law : (t : List ℕ) → Law (tree.word t)
unfolding printed printed_all printed_more nodes all_nodes depth depths is_sound are_sound are_arguments
word-law t = atom-law (tree.word t) (omega arith) (λ rest. record { space = refl; close = refl; dot = refl; some = omega arith }) (λ rest n ok. record { belief = refl; filter = refl; combine = refl }) (λ room n rest deep ok h ends. word-atom t rest room n ok h ends)

-- a field

any-atom : (f rest : List ℕ) (room n : ℕ) → 1 ≤ room → IsName f → n + 1 ≤ 1000 → Ends rest → atom room (inner room) (here (printed (tree.any f) ++ rest) n) ≡ Ok (tree.any f, here rest (n + 1))
unfolding atom operator made printed printed_all printed_more
any-atom f rest zero n deep ok h ends = absurd (omega arith)
any-atom f rest (suc r) n deep ok h ends = rw (head-any r n f rest ok ends h) refl

any-law : (f : List ℕ) → Law (tree.any f)
unfolding extent_operator operator_of printed printed_all printed_more nodes all_nodes depth depths is_sound are_sound are_arguments
any-law f = atom-law (tree.any f) (omega arith) (λ rest. hash-item _) (λ rest n ok. record { belief = refl; filter = refl; combine = refl }) (λ room n rest deep ok h ends. any-atom f rest room n deep ok h ends)

-- operators

inner-suc : (r : ℕ) → inner (suc r) ≡ expr r
unfolding inner
inner-suc r = refl

-- an operator whose head is read is read with its arguments, on one level less
pub operator-atom : (h : Head) (x : ExprTree) (xs : ExprTrees) (name inside rest : List ℕ) (room n : ℕ) → is_any h ≡ false → made h (list xs) ≡ x → 1 + depths xs ≤ room → n + (1 + all_nodes xs) ≤ 1000
    → ((r : ℕ) → n + 1 ≤ 1000 → head (suc r) (here (35 ∷ name) n) ≡ Ok (h, here inside (n + 1)))
    → ((r mark : ℕ) → depths xs ≤ r → n + 1 + all_nodes xs ≤ 1000 → arguments (expr r) (next_expr (expr r)) mark (here inside (n + 1)) ≡ Ok (list xs, here rest (n + 1 + all_nodes xs)))
    → atom room (inner room) (here (35 ∷ name) n) ≡ Ok (x, here rest (n + (1 + all_nodes xs)))
unfolding atom operator
operator-atom h x xs name inside rest zero n some is deep few heads all = absurd (omega (arith, deep))
operator-atom h x xs name inside rest (suc r) n some is deep few heads all =
    rw (heads r (omega (arith, few)), some, inner-suc r, all r _ (omega (arith, deep)) (omega (arith, few)), is) (ap (λ m. Ok (x, here rest m)) (omega arith))

syn-atom : (xs : ExprTrees) → Laws xs → (rest : List ℕ) (room n : ℕ) → 1 + depths xs ≤ room → are_arguments xs ≡ true → n + (1 + all_nodes xs) ≤ 1000 → atom room (inner room) (here (printed (tree.syn xs) ++ rest) n) ≡ Ok (tree.syn xs, here rest (n + (1 + all_nodes xs)))
unfolding made printed printed_all printed_more
syn-atom xs laws rest room n deep ok h =
    let inside = printed_all xs ++ rest in
    operator-atom SynOf (tree.syn xs) xs (codes "syn(" ++ inside) inside rest room n refl (ap tree.syn (trees-list xs)) deep h (λ r few. head-syn r n inside few) (λ r mark d few. laws.all r (n + 1) mark rest d ok few)

band-atom : (xs : ExprTrees) → Laws xs → (rest : List ℕ) (room n : ℕ) → 1 + depths xs ≤ room → are_arguments xs ≡ true → n + (1 + all_nodes xs) ≤ 1000 → atom room (inner room) (here (printed (tree.band xs) ++ rest) n) ≡ Ok (tree.band xs, here rest (n + (1 + all_nodes xs)))
unfolding made printed printed_all printed_more
band-atom xs laws rest room n deep ok h =
    let inside = printed_all xs ++ rest in
    operator-atom BandOf (tree.band xs) xs (codes "band(" ++ inside) inside rest room n refl (ap tree.band (trees-list xs)) deep h (λ r few. head-band r n inside few) (λ r mark d few. laws.all r (n + 1) mark rest d ok few)

ordered-atom : (width : ℕ) (xs : ExprTrees) → Laws xs → (rest : List ℕ) (room n : ℕ) → 1 + depths xs ≤ room → is_width width ≡ true → are_arguments xs ≡ true → n + (1 + all_nodes xs) ≤ 1000 → atom room (inner room) (here (printed (tree.ordered width xs) ++ rest) n) ≡ Ok (tree.ordered width xs, here rest (n + (1 + all_nodes xs)))
unfolding made printed printed_all printed_more
ordered-atom width xs laws rest room n deep wide ok h =
    let inside = printed_all xs ++ rest in
    rw (append_assoc (decimal width) (40 ∷ printed_all xs) rest) (
    operator-atom (OrderedBy width) (tree.ordered width xs) xs (decimal width ++ 40 ∷ inside) inside rest room n refl (ap (tree.ordered width) (trees-list xs)) deep h (λ r few. head-ordered r n width inside wide few) (λ r mark d few. laws.all r (n + 1) mark rest d ok few))

unordered-atom : (width : ℕ) (xs : ExprTrees) → Laws xs → (rest : List ℕ) (room n : ℕ) → 1 + depths xs ≤ room → is_width width ≡ true → are_arguments xs ≡ true → n + (1 + all_nodes xs) ≤ 1000 → atom room (inner room) (here (printed (tree.unordered width xs) ++ rest) n) ≡ Ok (tree.unordered width xs, here rest (n + (1 + all_nodes xs)))
unfolding made printed printed_all printed_more
unordered-atom width xs laws rest room n deep wide ok h =
    let inside = printed_all xs ++ rest in
    rw (append_assoc (decimal width) (40 ∷ printed_all xs) rest) (
    operator-atom (UnorderedBy width) (tree.unordered width xs) xs (117 ∷ 119 ∷ (decimal width ++ 40 ∷ inside)) inside rest room n refl (ap (tree.unordered width) (trees-list xs)) deep h (λ r few. head-unordered r n width inside wide few) (λ r mark d few. laws.all r (n + 1) mark rest d ok few))

ordered-plain : (width : ℕ) (rest : List ℕ) (n : ℕ) → is_width width ≡ true → IsPlain (35 ∷ (decimal width ++ 40 ∷ rest)) n
ordered-plain width rest n ok =
    let w = writes-width width ok in
    let run = front-taken is_letter_or_digit (decimal width) (40 ∷ rest) (digits-letters (decimal width) w.digits) refl in
    let name = operator-number (decimal width) w.some w.digits in
    record { belief = rw (run, name) refl; filter = rw (run, name) refl; combine = rw (run, name) refl }

unordered-plain : (width : ℕ) (rest : List ℕ) (n : ℕ) → is_width width ≡ true → IsPlain (35 ∷ 117 ∷ 119 ∷ (decimal width ++ 40 ∷ rest)) n
unordered-plain width rest n ok =
    let w = writes-width width ok in
    let run = front-taken is_letter_or_digit (117 ∷ 119 ∷ decimal width) (40 ∷ rest) (omega (arith, digits-letters (decimal width) w.digits)) refl in
    let name = operator-uw (decimal width) w.some w.digits in
    record { belief = rw (run, name) refl; filter = rw (run, name) refl; combine = rw (run, name) refl }

syn-law : (xs : ExprTrees) → Laws xs → Law (tree.syn xs)
unfolding extent_operator operator_of printed printed_all printed_more nodes all_nodes depth depths is_sound are_sound are_arguments
syn-law xs laws = atom-law (tree.syn xs) (omega arith) (λ rest. hash-item _) (λ rest n ok. record { belief = refl; filter = refl; combine = refl }) (λ room n rest deep ok h ends. syn-atom xs laws rest room n deep ok h)

band-law : (xs : ExprTrees) → Laws xs → Law (tree.band xs)
unfolding extent_operator operator_of printed printed_all printed_more nodes all_nodes depth depths is_sound are_sound are_arguments
band-law xs laws = atom-law (tree.band xs) (omega arith) (λ rest. hash-item _) (λ rest n ok. record { belief = refl; filter = refl; combine = refl }) (λ room n rest deep ok h ends. band-atom xs laws rest room n deep ok h)

ordered-law : (width : ℕ) (xs : ExprTrees) → Laws xs → Law (tree.ordered width xs)
unfolding printed printed_all printed_more nodes all_nodes depth depths is_sound are_sound are_arguments
ordered-law width xs laws =
    atom-law (tree.ordered width xs) (omega arith) (λ rest. hash-item _) (λ rest n ok. rw (append_assoc (decimal width) (40 ∷ printed_all xs) rest) (ordered-plain width (printed_all xs ++ rest) n (left_true (is_width width) _ ok)))
    (λ room n rest deep ok h ends. ordered-atom width xs laws rest room n deep (left_true (is_width width) _ ok) (right_true (is_width width) _ ok) h)

unordered-law : (width : ℕ) (xs : ExprTrees) → Laws xs → Law (tree.unordered width xs)
unfolding printed printed_all printed_more nodes all_nodes depth depths is_sound are_sound are_arguments
unordered-law width xs laws =
    atom-law (tree.unordered width xs) (omega arith) (λ rest. hash-item _) (λ rest n ok. rw (append_assoc (decimal width) (40 ∷ printed_all xs) rest) (unordered-plain width (printed_all xs ++ rest) n (left_true (is_width width) _ ok)))
    (λ room n rest deep ok h ends. unordered-atom width xs laws rest room n deep (left_true (is_width width) _ ok) (right_true (is_width width) _ ok) h)

-- an expression in a field

field-expr : (x : ExprTree) (f : List ℕ) → Law x → (room n : ℕ) (rest : List ℕ) → depth x ≤ room → is_sound x ≡ true → is_in_field x ≡ false → IsName f → n + nodes x ≤ 1000 → Stops rest → expr room (here (printed x ++ 46 ∷ (f ++ rest)) n) ≡ Ok (tree.in_field x f, here rest (n + nodes x))
unfolding expr_by with_field
field-expr x f law room n rest deep sound alone ok h stops =
    rw (law.of_atom room n (46 ∷ (f ++ rest)) deep sound alone h (record { letters = refl; quote = refl; comma = refl }), name_begins 40 f rest ok refl, field-reads f rest (n + nodes x) ok stops.ends) refl

not_not : (b : Bool) → not b ≡ true → b ≡ false
not_not b h = grind arith

field-law : (x : ExprTree) (f : List ℕ) → Law x → Law (tree.in_field x f)
unfolding printed printed_all printed_more nodes all_nodes depth depths is_sound are_sound are_arguments
field-law x f law = record {
  some = law.some;
  item = λ rest. rw (append_assoc (printed x) (46 ∷ f) rest) (law.item (46 ∷ (f ++ rest)));
  plain = λ rest n ok. rw (append_assoc (printed x) (46 ∷ f) rest) (law.plain (46 ∷ (f ++ rest)) n (sound_of _ ok));
  of_atom = λ room n rest deep ok alone h ends. absurd (different alone);
  of_expr = λ room n rest deep ok h stops. rw (append_assoc (printed x) (46 ∷ f) rest) (field-expr x f law room n rest deep (sound_of _ ok) (not_not (is_in_field x) (left_true (not (is_in_field x)) (is_sound x) (left_true (not (is_in_field x) && is_sound x) _ ok))) (right_true (not (is_in_field x) && is_sound x) _ ok) h stops);
}
  where
    different : true ≡ false → ⊥
    different e = cc

    sound_of : (b : Bool) → (not (is_in_field x) && is_sound x && b) ≡ true → is_sound x ≡ true
    sound_of b ok = right_true (not (is_in_field x)) (is_sound x) (left_true (not (is_in_field x) && is_sound x) b ok)

-- arguments

none-more : (room n turns : ℕ) (rest : List ℕ) → 0 < turns → further (next_expr (expr room)) turns (here (41 ∷ rest) n) ≡ Ok ([], here rest n)
unfolding further next_expr until_closing
none-more room n zero rest h = absurd (omega arith)
none-more room n (suc turns) rest h = refl

none-laws : Laws tree.none
unfolding printed printed_all printed_more nodes all_nodes depth depths is_sound are_sound are_arguments
none-laws = record {
  stops = λ rest. record { ends = record { letters = refl; quote = refl; comma = refl }; no_field = refl };
  all = λ room n mark rest deep ok h. absurd (different ok);
  more = λ room n turns rest deep ok h lt. rw (add-zero n) (none-more room n turns rest lt);
}
  where
    different : false ≡ true → ⊥
    different e = cc

-- behind white space
abbrev next_of : (At → Reading ExprTree) → At → Reading (Option ExprTree)
next_of one at = if begins 41 at.bytes then Ok (None, past 1 at) else found (if is_context at then refuse ContextInside at else one at)

next-item : (one : At → Reading ExprTree) (bytes : List ℕ) (n : ℕ) → Item bytes → next_expr one (here (32 ∷ bytes) n) ≡ found (one (here bytes n))
unfolding next_expr until_closing behind_argument
next-item one bytes n item =
    let there : next_of one (here bytes n) ≡ found (one (here bytes n)) = rw (item.close, item.dot) refl in
    ap (next_of one) (spaced-one bytes n item.space) ∙ there

more-more : (x : ExprTree) (xs : ExprTrees) → Law x → Laws xs → (room n turns : ℕ) (rest : List ℕ) → max (depth x) (depths xs) ≤ room → is_sound x ≡ true → are_sound xs ≡ true → n + (nodes x + all_nodes xs) ≤ 1000 → nodes x + all_nodes xs < turns → further (next_expr (expr room)) turns (here (32 ∷ (printed x ++ (printed_more xs ++ rest))) n) ≡ Ok (x ∷ list xs, here rest (n + (nodes x + all_nodes xs)))
unfolding further
more-more x xs law laws room n zero rest deep ok sound h lt = absurd (omega arith)
more-more x xs law laws room n (suc turns) rest deep ok sound h lt =
    let left = law.some in
    rw (
      next-item (expr room) (printed x ++ (printed_more xs ++ rest)) n (law.item (printed_more xs ++ rest)),
      law.of_expr room n (printed_more xs ++ rest) (omega arith) ok (omega arith) (laws.stops rest),
      laws.more room (n + nodes x) turns rest (omega arith) sound (omega arith) (omega arith),
    )
    (ap (λ m. Ok (x ∷ list xs, here rest m)) (omega arith))

abbrev first_of : {A : Type 0} → (At → Reading A) → ℕ → At → Reading A
first_of one mark at = if begins 41 at.bytes then Err (EmptyOperator, mark) else one at

pub first-item : {A : Type 0} (one : At → Reading A) (mark : ℕ) (bytes : List ℕ) (n : ℕ) → Item bytes → first one mark (here bytes n) ≡ one (here bytes n)
unfolding first
first-item one mark bytes n item =
    let there : first_of one mark (here bytes n) ≡ one (here bytes n) = rw item.close refl in
    ap (first_of one mark) (spaced-none bytes n item.space) ∙ there

more-all : (x : ExprTree) (xs : ExprTrees) → Law x → Laws xs → (room n mark : ℕ) (rest : List ℕ) → max (depth x) (depths xs) ≤ room → is_sound x ≡ true → are_sound xs ≡ true → n + (nodes x + all_nodes xs) ≤ 1000 → arguments (expr room) (next_expr (expr room)) mark (here (printed x ++ (printed_more xs ++ rest)) n) ≡ Ok (x ∷ list xs, here rest (n + (nodes x + all_nodes xs)))
unfolding arguments following
more-all x xs law laws room n mark rest deep ok sound h =
    let left = law.some in
    let item = law.item (printed_more xs ++ rest) in
    rw (
      first-item (expr room) mark (printed x ++ (printed_more xs ++ rest)) n item,
      law.of_expr room n (printed_more xs ++ rest) (omega arith) ok (omega arith) (laws.stops rest),
      laws.more room (n + nodes x) 1000 rest (omega arith) sound (omega arith) (omega arith),
    )
    (ap (λ m. Ok (x ∷ list xs, here rest m)) (omega arith))

more-laws : (x : ExprTree) (xs : ExprTrees) → Law x → Laws xs → Laws (tree.more x xs)
unfolding printed printed_all printed_more nodes all_nodes depth depths is_sound are_sound are_arguments
more-laws x xs law laws = record {
  stops = λ rest. record { ends = record { letters = refl; quote = refl; comma = refl }; no_field = refl };
  all = λ room n mark rest deep ok h. rw (append_assoc (printed x) (printed_more xs) rest) (more-all x xs law laws room n mark rest deep (left_true (is_sound x) (are_sound xs) ok) (right_true (is_sound x) (are_sound xs) ok) h);
  more = λ room n turns rest deep ok h lt. rw (append_assoc (printed x) (printed_more xs) rest) (more-more x xs law laws room n turns rest deep (left_true (is_sound x) (are_sound xs) ok) (right_true (is_sound x) (are_sound xs) ok) h lt);
}

mutual
  pub expr_law : (x : ExprTree) → Law x
  expr_law (tree.word t) = word-law t
  expr_law (tree.any f) = any-law f
  expr_law (tree.syn xs) = syn-law xs (expr_laws xs)
  expr_law (tree.band xs) = band-law xs (expr_laws xs)
  expr_law (tree.ordered n xs) = ordered-law n xs (expr_laws xs)
  expr_law (tree.unordered n xs) = unordered-law n xs (expr_laws xs)
  expr_law (tree.in_field x f) = field-law x f (expr_law x)

  pub expr_laws : (xs : ExprTrees) → Laws xs
  expr_laws tree.none = none-laws
  expr_laws (tree.more x xs) = more-laws x xs (expr_law x) (expr_laws xs)
