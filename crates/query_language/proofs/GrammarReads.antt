-- A text of an expression is read as that expression.
use Rattle.std.proofs.Common.{ℕ, zero, suc, ◌≡◌, ◌≤◌, ◌<◌, ◌+◌, ◌-◌, Bool, true, false, List, [], ◌∷◌, ◌++◌, length, map, Option, None, Ok, Err, refl, sym, ap, ◌∙◌, arith, append_assoc, append-nil}
use Rattle.std.specs.Prelude.{◌==◌, if◌then◌else◌, codes}
use Rattle.std.specs.List.{list_all, prefix_len, take_while}
use Rattle.ri_base.specs.Ascii.{is_space, is_digit, is_letter_or_digit}
use Rattle.ri_base.specs.Text.{is_term, is_name}
use Rattle.ri_base.specs.Expression as tree
use Rattle.ri_base.specs.Expression.{ExprTree, ExprTrees, expr_trees, is_width, depth, depths, nodes, all_nodes}
use Rattle.tokens.specs.Words.{text_terms}
use Rattle.query_printer.specs.Printed.{doubled}
use Rattle.query_reader.specs.Cursor.{At, Reading, refuse}
use Rattle.query_reader.specs.Bytes.{is_word_byte, begins, begins_in, skip, past, spaced}
use Rattle.query_reader.specs.Operators.{operator_of, extent_operator, is_number}
use Rattle.query_reader.specs.Parts.{expect, number, field}
use Rattle.query_reader.specs.Items.{entered, hash, is_context, found, until_closing, further, following, first, arguments}
use Rattle.query_reader.specs.Exprs.{word_of, word, number_then_opening, head_of, head, is_any, made, behind_argument, next_expr, operator, simple, atom, with_field, expr_by, inner, expr}
use Rattle.query_reader.specs.QueryText.{without_context, ended, lone_expr, expr_text, placed, start}
use Rattle.query_language.specs.Grammar as grammar
use Rattle.query_language.specs.Grammar.{AreSpaces, AreArguments, BeginsNoField, IsField, IsNumber, IsWord, IsAtom, IsExpr, IsExprText}
use Rattle.query_reader.specs.declared.fault.QueryKind.TheVariants.{ContextInside, EmptyOperator}
use Rattle.query_reader.specs.declared.operator.Operator.TheVariants.{Ordered}
use Rattle.query_reader.specs.declared.operator.Head.{Head}
use Rattle.query_reader.specs.declared.operator.Head.TheVariants.{AnyOf, BandOf, OrderedBy, SynOf, UnorderedBy}
use Rattle.query_language.proofs.PrintParts.{here, left_true, right_true, entered-reads, numbered-reads, quoted-reads, front-taken, front-skipped, Item, hash-item, digits-letters, digits-no-letter, operator-number, operator-uw, number-is, not_zero}
use Rattle.query_language.proofs.ExprLaw.{list, trees-list, head-syn, head-band, operator-atom, expr_law}
use Rattle.query_reader.proofs.ReadFits.{words-nodes}
use Rattle.query_reader.proofs.Words.{word_of_many}

-- RUNS

run_whole : (p : ℕ → Bool) (f : List ℕ) → list_all p f ≡ true → prefix_len p f ≡ length f
run_whole p [] h = refl
run_whole p (b ∷ f) h = rw (left_true (p b) (list_all p f) h, run_whole p f (right_true (p b) (list_all p f) h)) (omega arith)

run_ends : (p : ℕ → Bool) (rest : List ℕ) → begins_in p rest ≡ false → prefix_len p rest ≡ 0
run_ends p [] h = refl
run_ends p (b ∷ rest) h = rw h refl

taken : (p : ℕ → Bool) (f rest : List ℕ) → list_all p f ≡ true → begins_in p rest ≡ false → take_while p (f ++ rest) ≡ f
taken p f rest h k = front-taken p f rest (run_whole p f h) (run_ends p rest k)

skipped : (p : ℕ → Bool) (f rest : List ℕ) → list_all p f ≡ true → begins_in p rest ≡ false → skip p (f ++ rest) ≡ rest
skipped p f rest h k = front-skipped p f rest (run_whole p f h) (run_ends p rest k)

spaced_is : (space bytes : List ℕ) (n : ℕ) → AreSpaces space → prefix_len is_space bytes ≡ 0 → spaced (here (space ++ bytes) n) ≡ here bytes n
spaced_is space bytes n h k = ap (λ xs. here xs n) (front-skipped is_space space bytes (run_whole is_space space h) k)

-- PARTS

field_is : (f name rest : List ℕ) (n : ℕ) → IsField f name rest → field (here (name ++ rest) n) ≡ Ok (f, here rest n)
unfolding field
field_is f name rest n h = rw (taken is_letter_or_digit name rest h.run h.longest, h.same, h.is_name, skipped is_letter_or_digit name rest h.run h.longest, h.no_comma) refl

letter_other : (b : ℕ) → is_letter_or_digit b ≡ true → (b == 40) ≡ false
letter_other b h = grind arith

field_begins : (f name rest : List ℕ) → IsField f name rest → begins 40 (name ++ rest) ≡ false
field_begins f [] rest h = absurd (none f (sym h.same) h.is_name)
  where
    none : (f : List ℕ) → f ≡ [] → is_name f ≡ true → ⊥
    none [] e k = absurd cc
    none (x ∷ f) e k = absurd cc
field_begins f (b ∷ name) rest h = letter_other b (left_true (is_letter_or_digit b) (list_all is_letter_or_digit name) h.run)

number_some : (n : ℕ) (ds : List ℕ) → IsNumber n ds → 0 < length ds
number_some n [] h = absurd (none n (sym h.value) h.is_width)
  where
    none : (n : ℕ) → n ≡ 0 → is_width n ≡ true → ⊥
    none zero e k = absurd cc
    none (suc n) e k = absurd (omega (arith, e))
number_some n (d ∷ ds) h = omega arith

number_is_read : (n : ℕ) (ds rest : List ℕ) (m : ℕ) → IsNumber n ds → number (here (ds ++ 40 ∷ rest) m) ≡ Ok (n, here (40 ∷ rest) m)
unfolding number
number_is_read n ds rest m h = rw (taken is_digit ds (40 ∷ rest) h.run refl, h.value, h.is_width, skipped is_digit ds (40 ∷ rest) h.run refl) refl

-- ATOMS

word_first : (b : ℕ) → is_word_byte b ≡ true → (is_space b ≡ false) × ((b == 35) ≡ false) × ((b == 34) ≡ false) × ((b == 41) ≡ false) × ((b == 46) ≡ false)
word_first b h = (grind arith, grind arith, grind arith, grind arith, grind arith)

record First (bytes : List ℕ) : Type 0 where
  pub hash : begins 35 bytes ≡ false
  pub quote : begins 34 bytes ≡ false
  pub word : begins_in is_word_byte bytes ≡ true
  pub item : Item bytes

word_begins : (text behind : List ℕ) → IsWord text behind → First (text ++ behind)
word_begins [] behind h = absurd (omega (arith, h.some))
word_begins (b ∷ text) behind h =
    let is = left_true (is_word_byte b) (list_all is_word_byte text) h.run in
    let f = word_first b is in
    record { hash = f.1; quote = f.2; word = is; item = record { space = rw f.0 refl; close = f.3; dot = f.4; some = omega arith } }

word_is : (room n : ℕ) (text behind : List ℕ) (x : ExprTree) (m : ℕ) → IsWord text behind → word_of room (text_terms text) (here (text ++ behind) n) ≡ Ok (x, here (text ++ behind) m) → atom room (inner room) (here (text ++ behind) n) ≡ Ok (x, here behind m)
unfolding atom simple word
word_is room n text behind x m h e =
    let f = word_begins text behind h in
    rw (f.hash, f.quote, f.word, taken is_word_byte text behind h.run h.longest, h.no_star, e, skipped is_word_byte text behind h.run h.longest) refl

-- what a text of an atom, of an expression and of arguments is read as
record Atom (x : ExprTree) (text behind : List ℕ) : Type 0 where
  pub item : Item (text ++ behind)
  pub of_atom : (room n : ℕ) → depth x ≤ room → n + nodes x ≤ 1000 → atom room (inner room) (here (text ++ behind) n) ≡ Ok (x, here behind (n + nodes x))

pub record Expr (x : ExprTree) (text behind : List ℕ) : Type 0 where
  pub item : Item (text ++ behind)
  pub of_expr : (room n : ℕ) → depth x ≤ room → n + nodes x ≤ 1000 → expr room (here (text ++ behind) n) ≡ Ok (x, here behind (n + nodes x))

record Arguments (xs : ExprTrees) (text behind : List ℕ) : Type 0 where
  pub all : (room n mark : ℕ) → depths xs ≤ room → n + all_nodes xs ≤ 1000 → arguments (expr room) (next_expr (expr room)) mark (here (text ++ behind) n) ≡ Ok (list xs, here behind (n + all_nodes xs))
  pub more : (room n turns : ℕ) → depths xs ≤ room → n + all_nodes xs ≤ 1000 → all_nodes xs < turns → further (next_expr (expr room)) turns (here (text ++ behind) n) ≡ Ok (list xs, here behind (n + all_nodes xs))

one_term : (room n : ℕ) (t : List ℕ) (bytes : List ℕ) → n + 1 ≤ 1000 → word_of room (t ∷ []) (here bytes n) ≡ Ok (tree.word t, here bytes (n + 1))
unfolding word_of
one_term room n t bytes h = rw (numbered-reads bytes n 1 h) refl

word_atom : (t text behind : List ℕ) → IsWord text behind → text_terms text ≡ t ∷ [] → Atom (tree.word t) text behind
unfolding depth nodes
word_atom t text behind h e = record {
  item = (word_begins text behind h).item;
  of_atom = λ room n deep few. word_is room n text behind (tree.word t) (n + 1) h (ap (λ ts. word_of room ts (here (text ++ behind) n)) e ∙ one_term room n t (text ++ behind) few);
}

entered_many : (r n k : ℕ) (bytes : List ℕ) → n + k ≤ 1000 → entered (suc r) k (here bytes n) ≡ Ok (tt, here bytes (n + k))
unfolding entered
entered_many r n k bytes h = rw (not_zero r) (numbered-reads bytes n k h)

words_are : (room n : ℕ) (ts : List (List ℕ)) (bytes : List ℕ) → 1 ≤ room → 2 ≤ length ts → n + (1 + length ts) ≤ 1000 → word_of room ts (here bytes n) ≡ Ok (tree.ordered 1 (expr_trees (map tree.word ts)), here bytes (n + (1 + length ts)))
words_are zero n ts bytes r some h = absurd (omega (arith, r))
words_are (suc room) n ts bytes r some h =
    let sum : n + (length ts + 1) ≡ n + (1 + length ts) = omega arith in
    rw (word_of_many (suc room) ts (here bytes n) some, entered_many room n (length ts + 1) bytes (omega (arith, h))) (ap (λ m. Ok (tree.ordered 1 (expr_trees (map tree.word ts)), here bytes m)) sum)

words_atom : (ts : List (List ℕ)) (text behind : List ℕ) → IsWord text behind → text_terms text ≡ ts → 2 ≤ length ts → Atom (tree.ordered 1 (expr_trees (map tree.word ts))) text behind
unfolding depth nodes
words_atom ts text behind h e some = record {
  item = (word_begins text behind h).item;
  of_atom = λ room n deep few.
      let count = words-nodes ts in
      word_is room n text behind _ _ h (ap (λ us. word_of room us (here (text ++ behind) n)) e ∙ words_are room n ts (text ++ behind) (omega (arith, deep)) some (omega (arith, few, count)) ∙ ap (λ m. Ok (tree.ordered 1 (expr_trees (map tree.word ts)), here (text ++ behind) (n + (1 + m)))) (sym count));
}

quoted_atom : (t behind : List ℕ) → is_term t ≡ true → begins 34 behind ≡ false → Atom (tree.word t) (34 ∷ (doubled t ++ 34 ∷ [])) behind
unfolding depth nodes atom simple
quoted_atom t behind h k = record {
  item = record { space = refl; close = refl; dot = refl; some = omega arith };
  of_atom = λ room n deep few. rw (append_assoc (doubled t) (34 ∷ []) behind) (quoted-reads t behind n h few k);
}

any_head : (r n : ℕ) (f name rest : List ℕ) → IsField f name rest → n + 1 ≤ 1000 → head (suc r) (here (codes "#any:" ++ (name ++ rest)) n) ≡ Ok (AnyOf f, here rest (n + 1))
unfolding head head_of hash extent_operator operator_of expect
any_head r n f name rest h k = rw (entered-reads r n _ k, field_is f name rest (n + 1) h) refl

any_is : (f name behind : List ℕ) (room n : ℕ) → IsField f name behind → 1 ≤ room → n + 1 ≤ 1000 → atom room (inner room) (here (codes "#any:" ++ (name ++ behind)) n) ≡ Ok (tree.any f, here behind (n + 1))
unfolding atom operator made
any_is f name behind zero n h deep k = absurd (omega (arith, deep))
any_is f name behind (suc r) n h deep k = rw (any_head r n f name behind h k) refl

any_atom : (f name behind : List ℕ) → IsField f name behind → Atom (tree.any f) (codes "#any:" ++ name) behind
unfolding depth nodes
any_atom f name behind h = record {
  item = hash-item _;
  of_atom = λ room n deep few. any_is f name behind room n h deep few;
}

-- an operator whose head is read, by its arguments
operator_is : (h : Head) (x : ExprTree) (xs : ExprTrees) (text name inside behind : List ℕ) → text ++ behind ≡ 35 ∷ name → is_any h ≡ false → made h (list xs) ≡ x → depth x ≡ 1 + depths xs → nodes x ≡ 1 + all_nodes xs
    → ((r n : ℕ) → n + 1 ≤ 1000 → head (suc r) (here (35 ∷ name) n) ≡ Ok (h, here (inside ++ behind) (n + 1))) → Arguments xs inside behind → Atom x text behind
operator_is h x xs text name inside behind same some is levels count heads laws = record {
  item = rw same (hash-item name);
  of_atom = λ room n deep few.
      rw (same, count)
      (operator-atom h x xs name (inside ++ behind) behind room n some is (omega (arith, deep, levels)) (omega (arith, few, count)) (λ r k. heads r n k) (λ r mark d k. laws.all r (n + 1) mark d k));
}

syn_atom : (xs : ExprTrees) (inside behind : List ℕ) → Arguments xs inside behind → Atom (tree.syn xs) (codes "#syn(" ++ inside) behind
unfolding depth nodes made
syn_atom xs inside behind laws =
    operator_is SynOf (tree.syn xs) xs (codes "#syn(" ++ inside) (codes "syn(" ++ (inside ++ behind)) inside behind refl refl (ap tree.syn (trees-list xs)) refl refl (λ r n k. head-syn r n (inside ++ behind) k) laws

band_atom : (xs : ExprTrees) (inside behind : List ℕ) → Arguments xs inside behind → Atom (tree.band xs) (codes "#band(" ++ inside) behind
unfolding depth nodes made
band_atom xs inside behind laws =
    operator_is BandOf (tree.band xs) xs (codes "#band(" ++ inside) (codes "band(" ++ (inside ++ behind)) inside behind refl refl (ap tree.band (trees-list xs)) refl refl (λ r n k. head-band r n (inside ++ behind) k) laws

-- numbers

not_od : (ds : List ℕ) → is_number (111 ∷ 100 ∷ ds) ≡ false
not_od ds = grind arith

operator_od : (ds : List ℕ) → 0 < length ds → prefix_len is_digit ds ≡ length ds → operator_of (111 ∷ 100 ∷ ds) ≡ Ordered
unfolding extent_operator operator_of
operator_od ds h k = rw (not_od ds, number-is ds h k) refl

number_head : (r n w : ℕ) (ds rest : List ℕ) → IsNumber w ds → n + 1 ≤ 1000 → head (suc r) (here (35 ∷ (ds ++ 40 ∷ rest)) n) ≡ Ok (OrderedBy w, here rest (n + 1))
unfolding head head_of hash number_then_opening expect
number_head r n w ds rest h k =
    let digits = run_whole is_digit ds h.run in
    let some = number_some w ds h in
    let run = front-taken is_letter_or_digit ds (40 ∷ rest) (digits-letters ds digits) refl in
    rw (run, operator-number ds some digits, entered-reads r n _ k, digits-no-letter ds (40 ∷ rest) some digits, number_is_read w ds rest (n + 1) h) refl

od_head : (r n w : ℕ) (ds rest : List ℕ) → IsNumber w ds → n + 1 ≤ 1000 → head (suc r) (here (35 ∷ 111 ∷ 100 ∷ (ds ++ 40 ∷ rest)) n) ≡ Ok (OrderedBy w, here rest (n + 1))
unfolding head head_of hash number_then_opening expect
od_head r n w ds rest h k =
    let digits = run_whole is_digit ds h.run in
    let some = number_some w ds h in
    let run = front-taken is_letter_or_digit (111 ∷ 100 ∷ ds) (40 ∷ rest) (omega (arith, digits-letters ds digits)) refl in
    rw (run, operator_od ds some digits, entered-reads r n _ k, digits-no-letter ds (40 ∷ rest) some digits, number_is_read w ds rest (n + 1) h) refl

uw_head : (r n w : ℕ) (ds rest : List ℕ) → IsNumber w ds → n + 1 ≤ 1000 → head (suc r) (here (35 ∷ 117 ∷ 119 ∷ (ds ++ 40 ∷ rest)) n) ≡ Ok (UnorderedBy w, here rest (n + 1))
unfolding head head_of hash number_then_opening expect
uw_head r n w ds rest h k =
    let digits = run_whole is_digit ds h.run in
    let some = number_some w ds h in
    let run = front-taken is_letter_or_digit (117 ∷ 119 ∷ ds) (40 ∷ rest) (omega (arith, digits-letters ds digits)) refl in
    rw (run, operator-uw ds some digits, entered-reads r n _ k, digits-no-letter ds (40 ∷ rest) some digits, number_is_read w ds rest (n + 1) h) refl

number_atom : (w : ℕ) (xs : ExprTrees) (ds inside behind : List ℕ) → IsNumber w ds → Arguments xs inside behind → Atom (tree.ordered w xs) (codes "#" ++ (ds ++ 40 ∷ inside)) behind
unfolding depth nodes made
number_atom w xs ds inside behind d laws =
    operator_is (OrderedBy w) (tree.ordered w xs) xs (codes "#" ++ (ds ++ 40 ∷ inside)) (ds ++ 40 ∷ (inside ++ behind)) inside behind
    (ap (λ bytes. 35 ∷ bytes) (append_assoc ds (40 ∷ inside) behind)) refl (ap (tree.ordered w) (trees-list xs)) refl refl (λ r n k. number_head r n w ds (inside ++ behind) d k) laws

od_atom : (w : ℕ) (xs : ExprTrees) (ds inside behind : List ℕ) → IsNumber w ds → Arguments xs inside behind → Atom (tree.ordered w xs) (codes "#od" ++ (ds ++ 40 ∷ inside)) behind
unfolding depth nodes made
od_atom w xs ds inside behind d laws =
    operator_is (OrderedBy w) (tree.ordered w xs) xs (codes "#od" ++ (ds ++ 40 ∷ inside)) (111 ∷ 100 ∷ (ds ++ 40 ∷ (inside ++ behind))) inside behind
    (ap (λ bytes. 35 ∷ 111 ∷ 100 ∷ bytes) (append_assoc ds (40 ∷ inside) behind)) refl (ap (tree.ordered w) (trees-list xs)) refl refl (λ r n k. od_head r n w ds (inside ++ behind) d k) laws

uw_atom : (w : ℕ) (xs : ExprTrees) (ds inside behind : List ℕ) → IsNumber w ds → Arguments xs inside behind → Atom (tree.unordered w xs) (codes "#uw" ++ (ds ++ 40 ∷ inside)) behind
unfolding depth nodes made
uw_atom w xs ds inside behind d laws =
    operator_is (UnorderedBy w) (tree.unordered w xs) xs (codes "#uw" ++ (ds ++ 40 ∷ inside)) (117 ∷ 119 ∷ (ds ++ 40 ∷ (inside ++ behind))) inside behind
    (ap (λ bytes. 35 ∷ 117 ∷ 119 ∷ bytes) (append_assoc ds (40 ∷ inside) behind)) refl (ap (tree.unordered w) (trees-list xs)) refl refl (λ r n k. uw_head r n w ds (inside ++ behind) d k) laws

-- EXPRESSIONS

alone_is : (x : ExprTree) (text behind : List ℕ) → Atom x text behind → BeginsNoField behind → (room n : ℕ) → depth x ≤ room → n + nodes x ≤ 1000 → expr room (here (text ++ behind) n) ≡ Ok (x, here behind (n + nodes x))
unfolding expr_by with_field
alone_is x text behind h none room n deep few = rw (h.of_atom room n deep few, none) refl

alone_expr : (x : ExprTree) (text behind : List ℕ) → Atom x text behind → BeginsNoField behind → Expr x text behind
alone_expr x text behind h none = record { item = h.item; of_expr = alone_is x text behind h none }

field_expr_is : (x : ExprTree) (f text name behind : List ℕ) → Atom x text (46 ∷ (name ++ behind)) → IsField f name behind → (room n : ℕ) → depth x ≤ room → n + nodes x ≤ 1000 → expr room (here (text ++ 46 ∷ (name ++ behind)) n) ≡ Ok (tree.in_field x f, here behind (n + nodes x))
unfolding expr_by with_field
field_expr_is x f text name behind h k room n deep few = rw (h.of_atom room n deep few, field_begins f name behind k, field_is f name behind (n + nodes x) k) refl

field_expr : (x : ExprTree) (f text name behind : List ℕ) → Atom x text (46 ∷ (name ++ behind)) → IsField f name behind → Expr (tree.in_field x f) (text ++ 46 ∷ name) behind
unfolding depth nodes
field_expr x f text name behind h k = record {
  item = rw (append_assoc text (46 ∷ name) behind) h.item;
  of_expr = λ room n deep few. rw (append_assoc text (46 ∷ name) behind) (field_expr_is x f text name behind h k room n deep few);
}

-- ARGUMENTS

abbrev first_of : (At → Reading ExprTree) → ℕ → At → Reading ExprTree
first_of one mark at = if begins 41 at.bytes then Err (EmptyOperator, mark) else one at

first_is : (one : At → Reading ExprTree) (mark : ℕ) (space bytes : List ℕ) (n : ℕ) → AreSpaces space → Item bytes → first one mark (here (space ++ bytes) n) ≡ one (here bytes n)
unfolding first
first_is one mark space bytes n s item =
    let there : first_of one mark (here bytes n) ≡ one (here bytes n) = rw item.close refl in
    ap (first_of one mark) (spaced_is space bytes n s item.space) ∙ there

abbrev next_of : (At → Reading ExprTree) → At → Reading (Option ExprTree)
next_of one at = if begins 41 at.bytes then Ok (None, past 1 at) else found (if is_context at then refuse ContextInside at else one at)

next_is : (one : At → Reading ExprTree) (space bytes : List ℕ) (n : ℕ) → AreSpaces space → Item bytes → next_expr one (here (space ++ bytes) n) ≡ found (one (here bytes n))
unfolding next_expr until_closing behind_argument
next_is one space bytes n s item =
    let there : next_of one (here bytes n) ≡ found (one (here bytes n)) = rw (item.close, item.dot) refl in
    ap (next_of one) (spaced_is space bytes n s item.space) ∙ there

next_none : (one : At → Reading ExprTree) (space rest : List ℕ) (n : ℕ) → AreSpaces space → next_expr one (here (space ++ 41 ∷ rest) n) ≡ Ok (None, here rest n)
unfolding next_expr until_closing behind_argument
next_none one space rest n s = ap (next_of one) (spaced_is space (41 ∷ rest) n s refl)

none_more : (room n turns : ℕ) (space rest : List ℕ) → AreSpaces space → 0 < turns → further (next_expr (expr room)) turns (here (space ++ 41 ∷ rest) n) ≡ Ok ([], here rest n)
unfolding further
none_more room n zero space rest s h = absurd (omega (arith, h))
none_more room n (suc turns) space rest s h = rw (next_none (expr room) space rest n s) refl

some_more : (x : ExprTree) (xs : List ExprTree) (space text rest behind : List ℕ) (room n m turns : ℕ) → AreSpaces space → Expr x text rest → depth x ≤ room → n + nodes x ≤ 1000 → 0 < turns → further (next_expr (expr room)) (turns - 1) (here rest (n + nodes x)) ≡ Ok (xs, here behind m) → further (next_expr (expr room)) turns (here (space ++ (text ++ rest)) n) ≡ Ok (x ∷ xs, here behind m)
unfolding further
some_more x xs space text rest behind room n m zero s h deep few some e = absurd (omega (arith, some))
some_more x xs space text rest behind room n m (suc turns) s h deep few some e =
    let one : suc turns - 1 ≡ turns = omega arith in
    rw (next_is (expr room) space (text ++ rest) n s h.item, h.of_expr room n deep few, ap (λ k. further (next_expr (expr room)) k (here rest (n + nodes x))) (sym one) ∙ e) refl

some_all : (x : ExprTree) (xs : List ExprTree) (space text rest behind : List ℕ) (room n m mark : ℕ) → AreSpaces space → Expr x text rest → depth x ≤ room → n + nodes x ≤ 1000 → further (next_expr (expr room)) 1000 (here rest (n + nodes x)) ≡ Ok (xs, here behind m) → arguments (expr room) (next_expr (expr room)) mark (here (space ++ (text ++ rest)) n) ≡ Ok (x ∷ xs, here behind m)
unfolding arguments following
some_all x xs space text rest behind room n m mark s h deep few e = rw (first_is (expr room) mark space (text ++ rest) n s h.item, h.of_expr room n deep few, e) refl

regroup : (a b c d : List ℕ) → (a ++ (b ++ c)) ++ d ≡ a ++ (b ++ (c ++ d))
regroup a b c d = simp append_assoc refl

some_nodes : (x : ExprTree) → 0 < nodes x
some_nodes x = (expr_law x).some

last_arguments : (x : ExprTree) (space text space_behind behind : List ℕ) → AreSpaces space → Expr x text (space_behind ++ 41 ∷ behind) → AreSpaces space_behind → Arguments (tree.more x tree.none) (space ++ (text ++ (space_behind ++ 41 ∷ []))) behind
unfolding depths all_nodes
last_arguments x space text space_behind behind s h t =
    let shift : (space ++ (text ++ (space_behind ++ 41 ∷ []))) ++ behind ≡ space ++ (text ++ (space_behind ++ 41 ∷ behind)) = regroup space text (space_behind ++ 41 ∷ []) behind ∙ ap (λ ys. space ++ (text ++ ys)) (append_assoc space_behind (41 ∷ []) behind) in
    record {
      all = λ room n mark deep few. rw shift (some_all x [] space text _ behind room n _ mark s h (omega (arith, deep)) (omega (arith, few)) (none_more room (n + nodes x) 1000 space_behind behind t (omega arith)) ∙ ap (λ m. Ok (x ∷ [], here behind m)) (omega arith));
      more = λ room n turns deep few lt. rw shift (some_more x [] space text _ behind room n _ turns s h (omega (arith, deep)) (omega (arith, few)) (omega (arith, lt)) (none_more room (n + nodes x) (turns - 1) space_behind behind t (omega (arith, lt, some_nodes x))) ∙ ap (λ m. Ok (x ∷ [], here behind m)) (omega arith));
    }

further_arguments : (x : ExprTree) (xs : ExprTrees) (space text others behind : List ℕ) → AreSpaces space → Expr x text (others ++ behind) → Arguments xs others behind → Arguments (tree.more x xs) (space ++ (text ++ others)) behind
unfolding depths all_nodes
further_arguments x xs space text others behind s h k =
    let shift = regroup space text others behind in
    record {
      all = λ room n mark deep few. rw shift (some_all x (list xs) space text _ behind room n _ mark s h (omega (arith, deep)) (omega (arith, few)) (k.more room (n + nodes x) 1000 (omega (arith, deep)) (omega (arith, few)) (omega (arith, few, some_nodes x))) ∙ ap (λ m. Ok (x ∷ list xs, here behind m)) (omega arith));
      more = λ room n turns deep few lt. rw shift (some_more x (list xs) space text _ behind room n _ turns s h (omega (arith, deep)) (omega (arith, few)) (omega (arith, lt)) (k.more room (n + nodes x) (turns - 1) (omega (arith, deep)) (omega (arith, few)) (omega (arith, lt, some_nodes x))) ∙ ap (λ m. Ok (x ∷ list xs, here behind m)) (omega arith));
    }

mutual
  atom_reads : (x : ExprTree) (text behind : List ℕ) → IsAtom x text behind → Atom x text behind
  atom_reads _ _ _ (grammar.of_word t text behind h e) = word_atom t text behind h e
  atom_reads _ _ _ (grammar.of_words ts text behind h e some) = words_atom ts text behind h e some
  atom_reads _ _ _ (grammar.of_quoted t behind h k) = quoted_atom t behind h k
  atom_reads _ _ _ (grammar.of_any f name behind h) = any_atom f name behind h
  atom_reads _ _ _ (grammar.of_band xs inside behind h) = band_atom xs inside behind (arguments_read xs inside behind h)
  atom_reads _ _ _ (grammar.of_syn xs inside behind h) = syn_atom xs inside behind (arguments_read xs inside behind h)
  atom_reads _ _ _ (grammar.of_number n xs digits inside behind d h) = number_atom n xs digits inside behind d (arguments_read xs inside behind h)
  atom_reads _ _ _ (grammar.of_od n xs digits inside behind d h) = od_atom n xs digits inside behind d (arguments_read xs inside behind h)
  atom_reads _ _ _ (grammar.of_uw n xs digits inside behind d h) = uw_atom n xs digits inside behind d (arguments_read xs inside behind h)

  pub expr_reads : (x : ExprTree) (text behind : List ℕ) → IsExpr x text behind → Expr x text behind
  expr_reads _ _ _ (grammar.alone x text behind h none) = alone_expr x text behind (atom_reads x text behind h) none
  expr_reads _ _ _ (grammar.with_field x f text name behind h k) = field_expr x f text name behind (atom_reads x text (46 ∷ (name ++ behind)) h) k

  arguments_read : (xs : ExprTrees) (text behind : List ℕ) → AreArguments xs text behind → Arguments xs text behind
  arguments_read _ _ _ (grammar.last x space text space_behind behind s h t) = last_arguments x space text space_behind behind s (expr_reads x text (space_behind ++ 41 ∷ behind) h) t
  arguments_read _ _ _ (grammar.further x xs space text others behind s h k) = further_arguments x xs space text others behind s (expr_reads x text (others ++ behind) h) (arguments_read xs others behind k)

-- TEXTS

spaces_end : (space : List ℕ) (n : ℕ) → AreSpaces space → spaced (here space n) ≡ here [] n
spaces_end space n s = ap (λ xs. spaced (here xs n)) (sym (append-nil space)) ∙ spaced_is space [] n s refl

abbrev without : ExprTree → At → Reading ExprTree
without x at = if is_context at then refuse ContextInside at else Ok (x, at)

no_context : (x : ExprTree) (space : List ℕ) (n : ℕ) → AreSpaces space → without_context x (here space n) ≡ Ok (x, here [] n)
unfolding without_context
no_context x space n s = ap (without x) (spaces_end space n s)

ended_here : (n : ℕ) → ended (here [] n) ≡ Ok (tt, here [] n)
unfolding ended
ended_here n = refl

lone_reads : (x : ExprTree) (text space : List ℕ) → Expr x text space → AreSpaces space → depth x ≤ 32 → nodes x ≤ 1000 → lone_expr (here (text ++ space) 0) ≡ Ok (x, here [] (0 + nodes x))
unfolding lone_expr
lone_reads x text space h s deep few = rw (h.of_expr 32 0 deep (omega (arith, few)), no_context x space (0 + nodes x) s, ended_here (0 + nodes x)) refl

pub expr_text_reads : (bytes : List ℕ) (x : ExprTree) → IsExprText x bytes → depth x ≤ 32 → nodes x ≤ 1000 → expr_text bytes ≡ Ok x
unfolding expr_text
expr_text_reads bytes x h deep few =
    let e = expr_reads x h.text h.space_behind h.is_expr in
    let parts : bytes ≡ h.space ++ (h.text ++ h.space_behind) = h.parts ∙ append_assoc h.space h.text h.space_behind in
    let front : spaced (start bytes) ≡ here (h.text ++ h.space_behind) 0 = ap (λ xs. spaced (here xs 0)) parts ∙ spaced_is h.space (h.text ++ h.space_behind) 0 h.spaces e.item.space in
    ap (λ at. placed bytes (lone_expr at)) front ∙ ap (placed bytes) (lone_reads x h.text h.space_behind e h.spaces_behind deep few)
