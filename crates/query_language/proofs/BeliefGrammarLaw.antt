-- What is read as a belief is a text of it.
use Rattle.std.proofs.Common.{ℕ, zero, suc, ◌≡◌, ◌≤◌, ◌<◌, ◌+◌, Bool, true, false, not, ◌&&◌, ◌||◌, inl, inr, List, [], ◌∷◌, ◌++◌, length, drop, refl, sym, ap, ◌∙◌, subst, arith, append_assoc, eqb-true}
use Rattle.std.specs.Prelude.{◌==◌, nat_lt, if◌then◌else◌, codes}
use Rattle.std.specs.List.{prefix_len, take_while}
use Rattle.ri_base.specs.Ascii.{is_space, is_letter, is_digit, is_letter_or_digit}
use Rattle.ri_base.specs.Expression.{ExprTree}
use Rattle.ri_base.specs.Query.{BeliefTree, belief_trees, weighted_trees}
use Rattle.query_reader.specs.Cursor.{At, Reading, ◌>>=◌, place, refuse}
use Rattle.query_reader.specs.Bytes.{begins, begins_in, skip, behind, past, spaced}
use Rattle.query_reader.specs.Operators.{operator_of, operator_at, name_of, is_belief_operator, behind_letters}
use Rattle.query_reader.specs.Parts.{expect, closing, field, weight, begins_weight, whole_digits, decimals, has_point, billionths}
use Rattle.query_reader.specs.Items.{hash, is_context, arguments}
use Rattle.query_reader.specs.Exprs.{expr}
use Rattle.query_reader.specs.Beliefs.{context, with_context, leaf, prior, next_belief, weighted, behind_weighted, next_weighted, inside_of, belief_operator, belief_by, inner_belief, belief}
use Rattle.query_language.specs.Grammar.{AreSpaces, IsExpr, IsField}
use Rattle.query_language.specs.BeliefGrammar as grammar
use Rattle.query_language.specs.BeliefGrammar.{AreBeliefs, AreWeighted, IsBelief, IsWeight, IsWeighted}
use Rattle.query_reader.specs.declared.fault.QueryKind.{QueryKind}
use Rattle.query_reader.specs.declared.fault.QueryKind.TheVariants as kind
use Rattle.query_reader.specs.declared.operator.Operator.{Operator}
use Rattle.query_reader.specs.declared.operator.Operator.TheVariants.{Filreq, Filrej, Combine, Max, Weight, Prior, Any, Band, Syn, Ordered, Unordered, Later, Unknown}
use Rattle.query_reader.proofs.ReadFits.{AllRead, bind_all, if_all}
use Rattle.query_language.proofs.PrintParts.{left_true, right_true}
use Rattle.query_language.proofs.GrammarParts.{Hashed, Reads, begins_parts, expect-reads, field-reads, hash-same, run_all, run_longest, run_parts, some_run}
use Rattle.query_language.proofs.GrammarLaw.{IsNamed, behind_is, expr-reads, name_here, no_letters, op_named}
use Rattle.query_language.proofs.GrammarItems.{Makes, One, Spaced, arguments_reads, spaced_reads, weaker}

-- WEIGHTS

some_weight : (bytes : List ℕ) → begins_weight bytes ≡ true → 0 < length (whole_digits bytes) + length (decimals bytes)
some_weight [] e = absurd cc
some_weight (b ∷ rest) e = by (is_digit b) refl e
  where
    point : (c : ℕ) → c ≡ 46 → begins_in is_digit rest ≡ true → 0 < length (whole_digits (c ∷ rest)) + length (decimals (c ∷ rest))
    point c is h = subst (λ x. 0 < length (whole_digits (x ∷ rest)) + length (decimals (x ∷ rest))) (sym is) (omega (arith, some_run is_digit rest h))

    by : (v : Bool) → is_digit b ≡ v → (v || (b == 46) && begins_in is_digit rest) ≡ true → 0 < length (whole_digits (b ∷ rest)) + length (decimals (b ∷ rest))
    by true h e = omega (arith, some_run is_digit (b ∷ rest) h)
    by false h e = point b (eqb-true b 46 (left_true (b == 46) _ e)) (right_true (b == 46) (begins_in is_digit rest) e)

abbrev part_of : Bool → List ℕ → List ℕ
part_of v bytes = if v then take_while is_digit (drop 1 (skip is_digit bytes)) else []

abbrev left_of : Bool → At → At
left_of v at = if v then behind is_digit (past 1 (behind is_digit at)) else behind is_digit at

not_more : (a b : ℕ) → (nat_lt 6 a || nat_lt 9 b) ≡ false → (a ≤ 6) × (b ≤ 9)
not_more a b e = grind (arith, e)

weight_form : (at : At) (v : Bool) → has_point at.bytes ≡ v → 0 < length (whole_digits at.bytes) + length (part_of v at.bytes) → (nat_lt 6 (length (whole_digits at.bytes)) || nat_lt 9 (length (part_of v at.bytes))) ≡ false → Reads IsWeight at.bytes (billionths (whole_digits at.bytes) (part_of v at.bytes), left_of v at)
weight_form at true h some e =
    let short = not_more _ _ e in
    let bytes = at.bytes in
    record {
      text = whole_digits bytes ++ 46 ∷ part_of true bytes;
      parts = sym (run_parts is_digit bytes) ∙ ap (λ xs. whole_digits bytes ++ xs) (begins_parts 46 (skip is_digit bytes) h ∙ ap (λ xs. 46 ∷ xs) (sym (run_parts is_digit (drop 1 (skip is_digit bytes))))) ∙ sym (append_assoc (whole_digits bytes) (46 ∷ part_of true bytes) (left_of true at).bytes);
      is = record { whole = whole_digits bytes; part = part_of true bytes; form = inr refl; digits = run_all is_digit bytes; part_digits = run_all is_digit (drop 1 (skip is_digit bytes)); some = some; short = short.0; part_short = short.1; longest = run_longest is_digit (drop 1 (skip is_digit bytes)); value = refl };
    }
weight_form at false h some e =
    let short = not_more _ _ e in
    let bytes = at.bytes in
    record {
      text = whole_digits bytes;
      parts = sym (run_parts is_digit bytes);
      is = record { whole = whole_digits bytes; part = []; form = inl (refl, refl, h); digits = run_all is_digit bytes; part_digits = refl; some = some; short = short.0; part_short = short.1; longest = run_longest is_digit bytes; value = refl };
    }

not_false : (b : Bool) → not b ≡ false → b ≡ true
not_false true e = refl
not_false false e = absurd cc

weight_reads : (at : At) → AllRead (Reads IsWeight at.bytes) (weight at)
unfolding weight
weight_reads at =
    if_all (Reads IsWeight at.bytes) (not (begins_weight at.bytes)) _ _ (λ e. tt) (λ e.
    if_all (Reads IsWeight at.bytes) (nat_lt 6 (length (whole_digits at.bytes)) || nat_lt 9 (length (decimals at.bytes))) _ _ (λ g. tt) (λ g. weight_form at (has_point at.bytes) refl (some_weight at.bytes (not_false (begins_weight at.bytes) e)) g))

-- LEAVES

abbrev pub Shut : List ℕ → Unit {0} × At → Type 0
Shut bytes y = (space : List ℕ) × (bytes ≡ space ++ 41 ∷ y.1.bytes) × AreSpaces space

pub closing_reads : (at : At) → AllRead (Shut at.bytes) (closing at)
closing_reads at = weaker (λ y. (spaced at).bytes ≡ 41 ∷ y.1.bytes) (Shut at.bytes) (expect 41 (spaced at)) (expect-reads 41 (spaced at)) (λ y e. (take_while is_space at.bytes, sym (run_parts is_space at.bytes) ∙ ap (λ xs. take_while is_space at.bytes ++ xs) e, run_all is_space at.bytes))

context_parts : (bytes : List ℕ) → (begins 46 bytes && begins 40 (drop 1 bytes)) ≡ true → bytes ≡ 46 ∷ 40 ∷ drop 2 bytes
context_parts [] e = absurd cc
context_parts (b ∷ []) e = let no : false ≡ true = right_true (b == 46) false e in absurd cc
context_parts (b ∷ c ∷ bytes) e = ap (λ x. x ∷ c ∷ bytes) (eqb-true b 46 (left_true (b == 46) (c == 40) e)) ∙ ap (λ x. 46 ∷ x ∷ bytes) (eqb-true c 40 (right_true (b == 46) (c == 40) e))

-- a field's name and `)`
record FieldShut (bytes : List ℕ) (y : List ℕ × At) : Type 0 where
  pub name : List ℕ
  pub space : List ℕ
  pub parts : bytes ≡ name ++ (space ++ 41 ∷ y.1.bytes)
  pub is_field : IsField y.0 name (space ++ 41 ∷ y.1.bytes)
  pub spaces : AreSpaces space

field_shut : (bytes : List ℕ) (f : List ℕ × At) (new : At) → Reads IsField bytes f → Shut f.1.bytes (tt, new) → FieldShut bytes (f.0, new)
field_shut bytes f new k m = record { name = k.text; space = m.0; parts = k.parts ∙ ap (λ xs. k.text ++ xs) m.1; is_field = subst (IsField f.0 k.text) m.1 k.is; spaces = m.2 }

context_reads : (at : At) → AllRead (FieldShut (drop 2 at.bytes)) (context at)
unfolding context
context_reads at = bind_all (Reads IsField (drop 2 at.bytes)) (FieldShut (drop 2 at.bytes)) (field (past 2 at)) _ (field-reads (past 2 at)) (λ f k.
    bind_all (Shut f.1.bytes) (FieldShut (drop 2 at.bytes)) (closing f.1) _ (closing_reads f.1) (λ c m. field_shut (drop 2 at.bytes) f c.1 k m))

long : (t s n u rest : List ℕ) → t ++ (s ++ 46 ∷ 40 ∷ (n ++ (u ++ 41 ∷ rest))) ≡ (t ++ (s ++ 46 ∷ 40 ∷ (n ++ (u ++ 41 ∷ [])))) ++ rest
long t s n u rest = simp append_assoc refl

with_context_reads : (bytes : List ℕ) (x : ExprTree) (mid : At) → Reads IsExpr bytes (x, mid) → AllRead (Reads IsBelief bytes) (with_context x mid)
unfolding with_context
with_context_reads bytes x mid k =
    if_all (Reads IsBelief bytes) (is_context (spaced mid)) _ _
    (λ e. bind_all (FieldShut (drop 2 (spaced mid).bytes)) (Reads IsBelief bytes) (context (spaced mid)) _ (context_reads (spaced mid)) (λ f m.
    let shift : mid.bytes ≡ take_while is_space mid.bytes ++ 46 ∷ 40 ∷ (m.name ++ (m.space ++ 41 ∷ f.1.bytes)) =
    sym (run_parts is_space mid.bytes) ∙ ap (λ xs. take_while is_space mid.bytes ++ xs) (context_parts (spaced mid).bytes e ∙ ap (λ xs. 46 ∷ 40 ∷ xs) m.parts) in
    record {
      text = k.text ++ (take_while is_space mid.bytes ++ 46 ∷ 40 ∷ (m.name ++ (m.space ++ 41 ∷ [])));
      parts = k.parts ∙ ap (λ xs. k.text ++ xs) shift ∙ long k.text (take_while is_space mid.bytes) m.name m.space f.1.bytes;
      is = grammar.of_context x f.0 k.text (take_while is_space mid.bytes) m.name m.space f.1.bytes (subst (IsExpr x k.text) shift k.is) (run_all is_space mid.bytes) m.is_field m.spaces;
    }))
    (λ e. record { text = k.text; parts = k.parts; is = grammar.of_leaf x k.text mid.bytes k.is e })

leaf_reads : (room : ℕ) (at : At) → AllRead (Reads IsBelief at.bytes) (leaf room at)
unfolding leaf
leaf_reads room at = bind_all (Reads IsExpr at.bytes) (Reads IsBelief at.bytes) (expr room at) _ (expr-reads room at) (λ x k. with_context_reads at.bytes x.0 x.1 k)

-- OPERATORS

abbrev pub AreBeliefsHere : List BeliefTree → List ℕ → List ℕ → Type 0
AreBeliefsHere xs text behind = AreBeliefs (belief_trees xs) text behind

abbrev IsWeightedHere : ℕ × BeliefTree → List ℕ → List ℕ → Type 0
IsWeightedHere x text behind = IsWeighted x.0 x.1 text behind

abbrev AreWeightedHere : List (ℕ × BeliefTree) → List ℕ → List ℕ → Type 0
AreWeightedHere xs text behind = AreWeighted (weighted_trees xs) text behind

makes_beliefs : Makes IsBelief AreBeliefsHere
makes_beliefs = record { last = λ x s t u b h k l. grammar.last x s t u b h k l; more = λ x y xs s t o b h k l. grammar.further x (belief_trees (y ∷ xs)) s t o b h k l }

makes_weighted : Makes IsWeightedHere AreWeightedHere
makes_weighted = record { last = λ x s t u b h k l. grammar.last_weighted x.0 x.1 s t u b h k l; more = λ x y xs s t o b h k l. grammar.further_weighted x.0 x.1 (weighted_trees (y ∷ xs)) s t o b h k l }

weighted_reads : (one : At → Reading BeliefTree) → One IsBelief one → One IsWeightedHere (weighted one)
unfolding weighted
weighted_reads one h at = bind_all (Reads IsWeight at.bytes) (Reads IsWeightedHere at.bytes) (weight at) _ (weight_reads at) (λ w k.
    bind_all (Spaced IsBelief w.1.bytes) (Reads IsWeightedHere at.bytes) (one (spaced w.1)) _ (weaker (Reads IsBelief (spaced w.1).bytes) (Spaced IsBelief w.1.bytes) (one (spaced w.1)) (h (spaced w.1)) (spaced_reads IsBelief w.1)) (λ x m.
    record { text = k.text ++ (m.space ++ m.text); parts = k.parts ∙ ap (λ xs. k.text ++ xs) m.parts ∙ three k.text m.space m.text x.1.bytes; is = grammar.of_weighted w.0 x.0 k.text m.space m.text x.1.bytes (subst (IsWeight w.0 k.text) m.parts k.is) m.spaces m.is }))
  where
    three : (a b c d : List ℕ) → a ++ (b ++ (c ++ d)) ≡ (a ++ (b ++ c)) ++ d
    three a b c d = simp append_assoc refl

behind_weighted_reads : (one : At → Reading BeliefTree) → One IsBelief one → One IsWeightedHere (behind_weighted one)
unfolding behind_weighted
behind_weighted_reads one h at = if_all (Reads IsWeightedHere at.bytes) (begins_weight at.bytes) _ _ (λ e. weighted_reads one h at) (λ e. tt)

pub beliefs_read : (one : At → Reading BeliefTree) → One IsBelief one → (mark : ℕ) (at : At) → AllRead (Reads AreBeliefsHere at.bytes) (arguments one (next_belief one) mark at)
unfolding next_belief
beliefs_read one h mark at = arguments_reads IsBelief AreBeliefsHere makes_beliefs one one h h mark at

all_weighted_read : (one : At → Reading BeliefTree) → One IsBelief one → (mark : ℕ) (at : At) → AllRead (Reads AreWeightedHere at.bytes) (arguments (weighted one) (next_weighted one) mark at)
unfolding next_weighted
all_weighted_read one h mark at = arguments_reads IsWeightedHere AreWeightedHere makes_weighted (weighted one) (behind_weighted one) (weighted_reads one h) (behind_weighted_reads one h) mark at

prior_reads : (mark : ℕ) (at : At) → AllRead (FieldShut at.bytes) (prior mark at)
unfolding prior
prior_reads mark at = if_all (FieldShut at.bytes) (begins 41 (spaced at).bytes) _ _ (λ e. tt) (λ e.
    bind_all (Reads IsField at.bytes) (FieldShut at.bytes) (field at) _ (field-reads at) (λ f k.
    bind_all (Shut f.1.bytes) (FieldShut at.bytes) (closing f.1) _ (closing_reads f.1) (λ c m. field_shut at.bytes f c.1 k m)))

-- the sign of an operator and what is inside it
pub signed : (at opened : At) (sign : List ℕ) → begins 35 at.bytes ≡ true → name_of at ≡ sign → ((rest : List ℕ) → prefix_len is_letter rest ≡ 0 → skip is_letter (sign ++ rest) ≡ rest) → (behind_letters at).bytes ≡ 40 ∷ opened.bytes → at.bytes ≡ 35 ∷ (sign ++ 40 ∷ opened.bytes)
signed at opened sign b named skips e =
    let name = name_here at sign b named in
    name.parts ∙ ap (λ xs. 35 ∷ (sign ++ xs)) (sym (behind_is at sign name.rest name.parts (skips name.rest (no_letters name.rest name.longest))) ∙ e)

-- no other operator is read as a belief
refused_behind : (at : At) → AllRead (Reads IsBelief at.bytes) (expect 40 (behind_letters at) >>= λ opened. refuse kind.Expected opened.1)
refused_behind at = bind_all (λ y. Unit {0}) (Reads IsBelief at.bytes) (expect 40 (behind_letters at)) _ (weaker (λ y. (behind_letters at).bytes ≡ 40 ∷ y.1.bytes) (λ y. Unit {0}) _ (expect-reads 40 (behind_letters at)) (λ x k. tt)) (λ c e. tt)

operator_reads : (o : Operator) (one : At → Reading BeliefTree) → One IsBelief one → (mark : ℕ) (at : At) → begins 35 at.bytes ≡ true → IsNamed o (name_of at) → AllRead (Reads IsBelief at.bytes) (expect 40 (behind_letters at) >>= λ opened. inside_of o one mark opened.1)
unfolding inside_of
operator_reads Combine one h mark at b named = bind_all (λ y. (behind_letters at).bytes ≡ 40 ∷ y.1.bytes) (Reads IsBelief at.bytes) (expect 40 (behind_letters at)) _ (expect-reads 40 (behind_letters at)) (λ c e.
    bind_all (Reads AreBeliefsHere c.1.bytes) (Reads IsBelief at.bytes) (arguments one (next_belief one) mark c.1) _ (beliefs_read one h mark c.1) (λ xs k.
    record { text = codes "#combine(" ++ k.text; parts = signed at c.1 (codes "combine") b named (λ rest z. rw z refl) e ∙ ap (λ ys. codes "#combine(" ++ ys) k.parts; is = grammar.of_combine (belief_trees xs.0) k.text xs.1.bytes k.is }))
operator_reads Max one h mark at b named = bind_all (λ y. (behind_letters at).bytes ≡ 40 ∷ y.1.bytes) (Reads IsBelief at.bytes) (expect 40 (behind_letters at)) _ (expect-reads 40 (behind_letters at)) (λ c e.
    bind_all (Reads AreBeliefsHere c.1.bytes) (Reads IsBelief at.bytes) (arguments one (next_belief one) mark c.1) _ (beliefs_read one h mark c.1) (λ xs k.
    record { text = codes "#max(" ++ k.text; parts = signed at c.1 (codes "max") b named (λ rest z. rw z refl) e ∙ ap (λ ys. codes "#max(" ++ ys) k.parts; is = grammar.of_max (belief_trees xs.0) k.text xs.1.bytes k.is }))
operator_reads Weight one h mark at b named = bind_all (λ y. (behind_letters at).bytes ≡ 40 ∷ y.1.bytes) (Reads IsBelief at.bytes) (expect 40 (behind_letters at)) _ (expect-reads 40 (behind_letters at)) (λ c e.
    bind_all (Reads AreWeightedHere c.1.bytes) (Reads IsBelief at.bytes) (arguments (weighted one) (next_weighted one) mark c.1) _ (all_weighted_read one h mark c.1) (λ xs k.
    record { text = codes "#weight(" ++ k.text; parts = signed at c.1 (codes "weight") b named (λ rest z. rw z refl) e ∙ ap (λ ys. codes "#weight(" ++ ys) k.parts; is = grammar.of_weight (weighted_trees xs.0) k.text xs.1.bytes k.is }))
operator_reads Prior one h mark at b named = bind_all (λ y. (behind_letters at).bytes ≡ 40 ∷ y.1.bytes) (Reads IsBelief at.bytes) (expect 40 (behind_letters at)) _ (expect-reads 40 (behind_letters at)) (λ c e.
    bind_all (FieldShut c.1.bytes) (Reads IsBelief at.bytes) (prior mark c.1) _ (prior_reads mark c.1) (λ f k.
    record { text = codes "#prior(" ++ (k.name ++ (k.space ++ 41 ∷ [])); parts = signed at c.1 (codes "prior") b named (λ rest z. rw z refl) e ∙ ap (λ ys. codes "#prior(" ++ ys) (k.parts ∙ three k.name k.space f.1.bytes); is = grammar.of_prior f.0 k.name k.space f.1.bytes k.is_field k.spaces }))
  where
    three : (a b d : List ℕ) → a ++ (b ++ 41 ∷ d) ≡ (a ++ (b ++ 41 ∷ [])) ++ d
    three a b d = simp append_assoc refl
operator_reads Any one h mark at b named = refused_behind at
operator_reads Band one h mark at b named = refused_behind at
operator_reads Syn one h mark at b named = refused_behind at
operator_reads Ordered one h mark at b named = refused_behind at
operator_reads Unordered one h mark at b named = refused_behind at
operator_reads Filreq one h mark at b named = refused_behind at
operator_reads Filrej one h mark at b named = refused_behind at
operator_reads Later one h mark at b named = refused_behind at
operator_reads Unknown one h mark at b named = refused_behind at

belief_operator_reads : (room : ℕ) (one : At → Reading BeliefTree) → One IsBelief one → (at : At) → begins 35 at.bytes ≡ true → AllRead (Reads IsBelief at.bytes) (belief_operator room one at)
unfolding belief_operator
belief_operator_reads room one h at b = bind_all (Hashed at) (Reads IsBelief at.bytes) (hash room at) _ (hash-same room at) (λ x k.
    subst (λ xs. AllRead (Reads IsBelief xs) (expect 40 (behind_letters x.1) >>= λ opened. inside_of x.0 one (place at) opened.1)) k.1
    (operator_reads x.0 one h (place at) x.1 (ap (begins 35) k.1 ∙ b) (subst (λ o. IsNamed o (name_of x.1)) (ap (λ xs. operator_of (take_while is_letter_or_digit (drop 1 xs))) k.1 ∙ sym k.0) (op_named (name_of x.1)))))

hash_here : (at : At) → is_belief_operator (operator_at at) ≡ true → begins 35 at.bytes ≡ true
hash_here at e = by (begins 35 at.bytes) e
  where
    by : (v : Bool) → is_belief_operator (if v then operator_of (name_of at) else Unknown) ≡ true → v ≡ true
    by true e = refl
    by false e = absurd cc

belief_by_reads : (room : ℕ) (one : At → Reading BeliefTree) → One IsBelief one → One IsBelief (belief_by room one)
unfolding belief_by
belief_by_reads room one h at = if_all (Reads IsBelief at.bytes) (is_belief_operator (operator_at at)) _ _ (λ e. belief_operator_reads room one h at (hash_here at e)) (λ e. leaf_reads room at)

refused_reads : (k : QueryKind) → One IsBelief (refuse k)
refused_reads k at = tt

pub belief_reads : (room : ℕ) → One IsBelief (belief room)
unfolding inner_belief
belief_reads zero = belief_by_reads zero (refuse kind.TooDeep) (refused_reads kind.TooDeep)
belief_reads (suc room) = belief_by_reads (suc room) (belief room) (belief_reads room)
