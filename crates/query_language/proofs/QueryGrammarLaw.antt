-- A text that is read as a query is one of it.
use Rattle.std.proofs.Common.{ℕ, zero, suc, ◌≡◌, Bool, true, false, ◌||◌, List, [], ◌∷◌, ◌++◌, length, drop, Option, None, Some, Ok, Err, refl, sym, ap, ◌∙◌, subst, arith, append_assoc, eqb-true, true≢false}
use Rattle.std.specs.Prelude.{◌==◌, nat_lt, if◌then◌else◌, codes}
use Rattle.std.specs.List.{list_all, prefix_len, take_while}
use Rattle.std.specs.Str.{bytes_eq}
use Rattle.std.proofs.lemmas.Slice.Eq.{bytes_eq-Decides}
use Rattle.ri_base.specs.Ascii.{is_space, is_letter}
use Rattle.ri_base.specs.Expression.{ExprTree}
use Rattle.ri_base.specs.Query.{BeliefTree, FilterTree, QueryTree}
use Rattle.ri_base.specs.declared.query.Range.{Range}
use Rattle.query_printer.specs.Printed.{begins_passages}
use Rattle.query_reader.specs.Cursor.{At, Reading, place, refuse}
use Rattle.query_reader.specs.Bytes.{begins, behind, skip, spaced}
use Rattle.query_reader.specs.Operators.{operator_of, operator_at, name_of, is_filter, is_combine, behind_letters}
use Rattle.query_reader.specs.Parts.{expect, closing, number, field}
use Rattle.query_reader.specs.Items.{entered, is_context, until_end, found, next_then, further, following, first, arguments}
use Rattle.query_reader.specs.Exprs.{inner, expr}
use Rattle.query_reader.specs.Beliefs.{belief, inner_belief, next_belief}
use Rattle.query_reader.specs.QueryText.{passages, range, is_window, window_head, window, keeps, without_context, filter_head, filter, lone_belief, body_by, inner_body, body, ended, next_top, top_beliefs, query, query_text, placed, start}
use Rattle.query_language.specs.Grammar.{AreSpaces, IsExpr, IsField}
use Rattle.query_language.specs.BeliefGrammar.{IsBelief}
use Rattle.query_language.specs.QueryGrammar as grammar
use Rattle.query_language.specs.QueryGrammar.{AreTop, IsBody, IsQueryText, IsRange, filter_sign}
use Rattle.query_reader.specs.declared.fault.QueryKind.{QueryKind}
use Rattle.query_reader.specs.declared.fault.QueryKind.TheVariants as kind
use Rattle.query_reader.specs.declared.operator.Operator.{Operator}
use Rattle.query_reader.specs.declared.operator.Operator.TheVariants.{Filreq, Filrej, Combine, Max, Weight, Prior, Any, Band, Syn, Ordered, Unordered, Later, Unknown}
use Rattle.query_reader.proofs.ReadFits.{AllRead, bind_all, if_all}
use Rattle.query_language.proofs.PrintParts.{left_true}
use Rattle.query_language.proofs.GrammarParts.{IsNumberHere, Reads, entered-same, expect-reads, field-reads, number-reads, run_all, run_parts}
use Rattle.query_language.proofs.GrammarLaw.{IsNamed, behind_is, expr-reads, name_here, no_bytes, no_letters, op_named, spaces_left}
use Rattle.query_language.proofs.GrammarItems.{One, Spaced, first_reads, spaced_reads}
use Rattle.query_language.proofs.BeliefGrammarLaw.{AreBeliefsHere, Shut, belief_reads, beliefs_read, closing_reads}

-- RANGES

passages_reads : (at : At) → begins_passages at.bytes ≡ true → AllRead (Reads IsRange at.bytes) (passages at)
unfolding passages
passages_reads at e =
    let name : take_while is_letter at.bytes ≡ codes "passage" = (bytes_eq-Decides (take_while is_letter at.bytes) (codes "passage")).0 (left_true (bytes_eq (take_while is_letter at.bytes) (codes "passage")) _ e) in
    bind_all (Reads IsNumberHere (skip is_letter at.bytes)) (Reads IsRange at.bytes) (number (behind is_letter at)) _ (number-reads (behind is_letter at)) (λ w k.
    bind_all (λ y. w.1.bytes ≡ 58 ∷ y.1.bytes) (Reads IsRange at.bytes) (expect 58 w.1) _ (expect-reads 58 w.1) (λ c g.
    bind_all (Reads IsNumberHere c.1.bytes) (Reads IsRange at.bytes) (number c.1) _ (number-reads c.1) (λ v m.
    record {
      text = codes "passage" ++ (k.text ++ 58 ∷ m.text);
      parts = sym (run_parts is_letter at.bytes) ∙ ap (λ xs. xs ++ skip is_letter at.bytes) name ∙ ap (λ xs. codes "passage" ++ xs) (k.parts ∙ ap (λ xs. k.text ++ xs) (g ∙ ap (λ xs. 58 ∷ xs) m.parts) ∙ sym (append_assoc k.text (58 ∷ m.text) v.1.bytes));
      is = grammar.of_passages w.0 v.0 k.text m.text v.1.bytes k.is m.is;
    })))

range_reads : (at : At) → AllRead (Reads IsRange at.bytes) (range at)
unfolding range
range_reads at = if_all (Reads IsRange at.bytes) (begins_passages at.bytes) _ _ (λ e. passages_reads at e) (λ e.
    bind_all (Reads IsField at.bytes) (Reads IsRange at.bytes) (field at) _ (field-reads at) (λ f k. record { text = k.text; parts = k.parts; is = grammar.of_field f.0 k.text f.1.bytes k.is (subst (λ xs. begins_passages xs ≡ false) k.parts e) }))

-- WINDOWS

-- the names of a window and of a filter
abbrev AreSigns : Operator → List ℕ → Type 0
AreSigns o name = (is_combine o ≡ true → name ≡ codes "combine") × (is_filter o ≡ true → name ≡ (if keeps o then codes "filreq" else codes "filrej"))

signs_of : (o : Operator) (name : List ℕ) → IsNamed o name → AreSigns o name
signs_of Combine name n = (λ e. n, λ e. absurd cc)
signs_of Filreq name n = (λ e. absurd cc, λ e. n)
signs_of Filrej name n = (λ e. absurd cc, λ e. n)
signs_of Max name n = (λ e. absurd cc, λ e. absurd cc)
signs_of Weight name n = (λ e. absurd cc, λ e. absurd cc)
signs_of Prior name n = (λ e. absurd cc, λ e. absurd cc)
signs_of Any name n = (λ e. absurd cc, λ e. absurd cc)
signs_of Band name n = (λ e. absurd cc, λ e. absurd cc)
signs_of Syn name n = (λ e. absurd cc, λ e. absurd cc)
signs_of Ordered name n = (λ e. absurd cc, λ e. absurd cc)
signs_of Unordered name n = (λ e. absurd cc, λ e. absurd cc)
signs_of Later name n = (λ e. absurd cc, λ e. absurd cc)
signs_of Unknown name n = (λ e. absurd cc, λ e. absurd cc)

-- an operator that is known stands behind a sign
signs_here : (is : Operator → Bool) → is Unknown ≡ false → (at : At) → is (operator_at at) ≡ true → (begins 35 at.bytes ≡ true) × AreSigns (operator_at at) (name_of at)
signs_here is unknown at e = by (begins 35 at.bytes) refl e
  where
    by : (v : Bool) → begins 35 at.bytes ≡ v → is (if v then operator_of (name_of at) else Unknown) ≡ true → (begins 35 at.bytes ≡ true) × AreSigns (if v then operator_of (name_of at) else Unknown) (name_of at)
    by true b e = (b, signs_of (operator_of (name_of at)) (name_of at) (op_named (name_of at)))
    by false b e = absurd (true≢false (sym e ∙ unknown))

combine_name : (at : At) → is_combine (operator_at at) ≡ true → (begins 35 at.bytes ≡ true) × (name_of at ≡ codes "combine")
combine_name at e = let here = signs_here is_combine refl at e in (here.0, here.1.0 e)

filter_name : (at : At) → is_filter (operator_at at) ≡ true → (begins 35 at.bytes ≡ true) × (name_of at ≡ (if keeps (operator_at at) then codes "filreq" else codes "filrej"))
filter_name at e = let here = signs_here is_filter refl at e in (here.0, here.1.1 e)

-- the sign of an operator and the byte behind it
signed_by : (at here : At) (c : ℕ) (rest sign : List ℕ) → here.bytes ≡ at.bytes → begins 35 at.bytes ≡ true → name_of at ≡ sign → ((more : List ℕ) → prefix_len is_letter more ≡ 0 → skip is_letter (sign ++ more) ≡ more) → (behind_letters here).bytes ≡ c ∷ rest → at.bytes ≡ 35 ∷ (sign ++ c ∷ rest)
signed_by at here c rest sign same b named skips e =
    let name = name_here at sign b named in
    let place_is = behind_is at sign name.rest name.parts (skips name.rest (no_letters name.rest name.longest)) in
    name.parts ∙ ap (λ xs. 35 ∷ (sign ++ xs)) (sym place_is ∙ ap (λ xs. skip is_letter (drop 1 xs)) (sym same) ∙ e)

record WindowHead (bytes : List ℕ) (y : Range × At) : Type 0 where
  pub text : List ℕ
  pub parts : bytes ≡ codes "#combine[" ++ (text ++ 93 ∷ 40 ∷ y.1.bytes)
  pub is : IsRange y.0 text (93 ∷ 40 ∷ y.1.bytes)

window_head_reads : (room : ℕ) (at : At) → is_combine (operator_at at) ≡ true → AllRead (WindowHead at.bytes) (window_head room at)
unfolding window_head
window_head_reads room at c =
    let name = combine_name at c in
    bind_all (λ y. y.1.bytes ≡ at.bytes) (WindowHead at.bytes) (entered room 1 at) _ (entered-same room 1 at) (λ here same.
    bind_all (λ y. (behind_letters here.1).bytes ≡ 91 ∷ y.1.bytes) (WindowHead at.bytes) (expect 91 (behind_letters here.1)) _ (expect-reads 91 (behind_letters here.1)) (λ bracket e.
    bind_all (Reads IsRange bracket.1.bytes) (WindowHead at.bytes) (range bracket.1) _ (range_reads bracket.1) (λ r k.
    bind_all (λ y. r.1.bytes ≡ 93 ∷ y.1.bytes) (WindowHead at.bytes) (expect 93 r.1) _ (expect-reads 93 r.1) (λ close g.
    bind_all (λ y. close.1.bytes ≡ 40 ∷ y.1.bytes) (WindowHead at.bytes) (expect 40 close.1) _ (expect-reads 40 close.1) (λ opened h.
    let tail : r.1.bytes ≡ 93 ∷ 40 ∷ opened.1.bytes = g ∙ ap (λ xs. 93 ∷ xs) h in
    record {
      text = k.text;
      parts = signed_by at here.1 91 bracket.1.bytes (codes "combine") same name.0 name.1 (λ more z. rw z refl) e ∙ ap (λ xs. codes "#combine[" ++ xs) (k.parts ∙ ap (λ xs. k.text ++ xs) tail);
      is = subst (IsRange r.0 k.text) tail k.is;
    })))))

window_reads : (room : ℕ) (one : At → Reading BeliefTree) → One IsBelief one → (at : At) → is_combine (operator_at at) ≡ true → AllRead (Reads IsBody at.bytes) (window room one at)
unfolding window
window_reads room one h at c =
    bind_all (WindowHead at.bytes) (Reads IsBody at.bytes) (window_head room at) _ (window_head_reads room at c) (λ r k.
    bind_all (Reads AreBeliefsHere r.1.bytes) (Reads IsBody at.bytes) (arguments one (next_belief one) (place at) r.1) _ (beliefs_read one h (place at) r.1) (λ xs m.
    record {
      text = codes "#combine[" ++ (k.text ++ 93 ∷ 40 ∷ m.text);
      parts = k.parts ∙ ap (λ ys. codes "#combine[" ++ (k.text ++ 93 ∷ 40 ∷ ys)) m.parts ∙ ap (λ ys. codes "#combine[" ++ ys) (sym (append_assoc k.text (93 ∷ 40 ∷ m.text) xs.1.bytes));
      is = grammar.of_window r.0 xs.0 k.text m.text xs.1.bytes (subst (λ ys. IsRange r.0 k.text (93 ∷ 40 ∷ ys)) m.parts k.is) m.is;
    }))

-- FILTERS

record FilterHead (bytes : List ℕ) (y : FilterTree × At) : Type 0 where
  pub space : List ℕ
  pub text : List ℕ
  pub between : List ℕ
  pub parts : bytes ≡ filter_sign y.0.keep ++ (space ++ (text ++ (between ++ y.1.bytes)))
  pub spaces : AreSpaces space
  pub is_expr : IsExpr y.0.expr text (between ++ y.1.bytes)
  pub spaces_between : AreSpaces between

filter_skips : (v : Bool) (more : List ℕ) → prefix_len is_letter more ≡ 0 → skip is_letter ((if v then codes "filreq" else codes "filrej") ++ more) ≡ more
filter_skips true more z = rw z refl
filter_skips false more z = rw z refl

sign_is : (v : Bool) (rest : List ℕ) → 35 ∷ ((if v then codes "filreq" else codes "filrej") ++ 40 ∷ rest) ≡ filter_sign v ++ rest
sign_is true rest = refl
sign_is false rest = refl

abbrev Argument : ExprTree × At → ExprTree × At → Type 0
Argument x y = (y.0 ≡ x.0) × (y.1.bytes ≡ (spaced x.1).bytes)

argument_reads : (x : ExprTree × At) → AllRead (Argument x) (without_context x.0 x.1)
unfolding without_context
argument_reads x = if_all (Argument x) (is_context (spaced x.1)) _ _ (λ e. tt) (λ e. (refl, refl))

filter_head_reads : (room : ℕ) (one : At → Reading ExprTree) → One IsExpr one → (at : At) → is_filter (operator_at at) ≡ true → AllRead (FilterHead at.bytes) (filter_head room one at)
unfolding filter_head
filter_head_reads room one h at f =
    let name = filter_name at f in
    bind_all (λ y. y.1.bytes ≡ at.bytes) (FilterHead at.bytes) (entered room 1 at) _ (entered-same room 1 at) (λ here same.
    bind_all (λ y. (behind_letters here.1).bytes ≡ 40 ∷ y.1.bytes) (FilterHead at.bytes) (expect 40 (behind_letters here.1)) _ (expect-reads 40 (behind_letters here.1)) (λ opened e.
    bind_all (Spaced IsExpr opened.1.bytes) (FilterHead at.bytes) (first one (place at) opened.1) _ (first_reads IsExpr one h (place at) opened.1) (λ x k.
    bind_all (Argument x) (FilterHead at.bytes) (without_context x.0 x.1) _ (argument_reads x) (λ a m.
    let between : x.1.bytes ≡ take_while is_space x.1.bytes ++ a.1.bytes = sym (run_parts is_space x.1.bytes) ∙ ap (λ xs. take_while is_space x.1.bytes ++ xs) (sym m.1) in
    record {
      space = k.space;
      text = k.text;
      between = take_while is_space x.1.bytes;
      parts = signed_by at here.1 40 opened.1.bytes _ same name.0 name.1 (filter_skips (keeps (operator_at at))) e ∙ sign_is (keeps (operator_at at)) opened.1.bytes ∙ ap (λ xs. filter_sign (keeps (operator_at at)) ++ xs) (k.parts ∙ ap (λ xs. k.space ++ (k.text ++ xs)) between);
      spaces = k.spaces;
      is_expr = subst (λ t. IsExpr t k.text (take_while is_space x.1.bytes ++ a.1.bytes)) (sym m.0) (subst (IsExpr x.0 k.text) between k.is);
      spaces_between = run_all is_space x.1.bytes;
    }))))

nested : (g s t b i u r : List ℕ) → g ++ (s ++ (t ++ (b ++ (i ++ (u ++ 41 ∷ r))))) ≡ (g ++ (s ++ (t ++ (b ++ (i ++ (u ++ 41 ∷ [])))))) ++ r
nested g s t b i u r = simp append_assoc refl

filter_reads : (room : ℕ) (one : At → Reading ExprTree) (rest : At → Reading QueryTree) → One IsExpr one → One IsBody rest → (at : At) → is_filter (operator_at at) ≡ true → AllRead (Reads IsBody at.bytes) (filter room one rest at)
unfolding filter
filter_reads room one rest h j at f =
    bind_all (FilterHead at.bytes) (Reads IsBody at.bytes) (filter_head room one at) _ (filter_head_reads room one h at f) (λ x k.
    bind_all (Reads IsBody x.1.bytes) (Reads IsBody at.bytes) (rest x.1) _ (j x.1) (λ q m.
    bind_all (Shut q.1.bytes) (Reads IsBody at.bytes) (closing q.1) _ (closing_reads q.1) (λ c n.
    let tail : x.1.bytes ≡ m.text ++ (n.0 ++ 41 ∷ c.1.bytes) = m.parts ∙ ap (λ xs. m.text ++ xs) n.1 in
    record {
      text = filter_sign x.0.keep ++ (k.space ++ (k.text ++ (k.between ++ (m.text ++ (n.0 ++ 41 ∷ [])))));
      parts = k.parts ∙ ap (λ xs. filter_sign x.0.keep ++ (k.space ++ (k.text ++ (k.between ++ xs)))) tail ∙ nested (filter_sign x.0.keep) k.space k.text k.between m.text n.0 c.1.bytes;
      is = grammar.of_filter x.0.keep x.0.expr q.0 k.space k.text k.between m.text n.0 c.1.bytes k.spaces (subst (λ xs. IsExpr x.0.expr k.text (k.between ++ xs)) tail k.is_expr) k.spaces_between (subst (IsBody q.0 m.text) n.1 m.is) n.2;
    })))

-- BODIES

lone_reads : (room : ℕ) → One IsBody (lone_belief room)
unfolding lone_belief
lone_reads room at = bind_all (Reads IsBelief at.bytes) (Reads IsBody at.bytes) (belief room at) _ (belief_reads room at) (λ x k. record { text = k.text; parts = k.parts; is = grammar.of_belief x.0 k.text x.1.bytes k.is })

body_by_reads : (room : ℕ) (one_expr : At → Reading ExprTree) (one_belief : At → Reading BeliefTree) (rest : At → Reading QueryTree) → One IsExpr one_expr → One IsBelief one_belief → One IsBody rest → One IsBody (body_by room one_expr one_belief rest)
unfolding body_by
body_by_reads room one_expr one_belief rest h k m at = if_all (Reads IsBody at.bytes) (is_filter (operator_at at)) _ _ (λ e. filter_reads room one_expr rest h m at e) (λ e.
    if_all (Reads IsBody at.bytes) (is_window at) _ _ (λ g. window_reads room one_belief k at (left_true (is_combine (operator_at at)) _ g)) (λ g. lone_reads room at))

refused : {A : Type 0} (P : A → List ℕ → List ℕ → Type 0) (k : QueryKind) → One P (refuse k)
refused P k at = tt

body_reads : (room : ℕ) → One IsBody (body room)
unfolding inner_body inner inner_belief
body_reads zero = body_by_reads zero (refuse kind.TooDeep) (refuse kind.TooDeep) (refuse kind.TooDeep) (refused IsExpr kind.TooDeep) (refused IsBelief kind.TooDeep) (refused IsBody kind.TooDeep)
body_reads (suc room) = body_by_reads (suc room) (expr room) (belief room) (body room) (expr-reads room) (belief_reads room) (body_reads room)

-- TOP

abbrev NextTop : List ℕ → Option BeliefTree × At → Type 0
NextTop bytes (None, new) = AreSpaces bytes
NextTop bytes (Some x, new) = Spaced IsBelief bytes (x, new)

abbrev MoreTop : List BeliefTree → List ℕ → Type 0
MoreTop [] bytes = AreSpaces bytes
MoreTop (x ∷ xs) bytes = AreTop (x ∷ xs) bytes

top_join : (bytes : List ℕ) (x : BeliefTree) (mid : At) (xs : List BeliefTree) → Spaced IsBelief bytes (x, mid) → MoreTop xs mid.bytes → AreTop (x ∷ xs) bytes
top_join bytes x mid [] k m = subst (AreTop (x ∷ [])) (sym k.parts) (grammar.last x k.space k.text mid.bytes k.spaces k.is m)
top_join bytes x mid (y ∷ xs) k m = subst (AreTop (x ∷ y ∷ xs)) (sym k.parts) (grammar.further x y xs k.space k.text mid.bytes k.spaces k.is m)

empty : (bytes : List ℕ) → (length bytes == 0) ≡ true → bytes ≡ []
empty [] e = refl
empty (b ∷ bytes) e = absurd (omega (arith, eqb-true (length (b ∷ bytes)) 0 e))

spaces_only : (bytes : List ℕ) → skip is_space bytes ≡ [] → list_all is_space bytes ≡ true
spaces_only bytes e = spaces_left bytes (ap (skip is_space) e)

found_top : (at : At) (r : Reading BeliefTree) → AllRead (Reads IsBelief (spaced at).bytes) r → AllRead (NextTop at.bytes) (found r)
found_top at (Ok x) h = spaced_reads IsBelief at x h
found_top at (Err fault) h = tt

next_top_reads : (at : At) → AllRead (NextTop at.bytes) (next_top at)
unfolding next_top until_end
next_top_reads at = if_all (NextTop at.bytes) (place (spaced at) == 0) _ _ (λ e. spaces_only at.bytes (empty (spaced at).bytes e)) (λ e. found_top at (belief 32 (spaced at)) (belief_reads 32 (spaced at)))

abbrev TopRead : At → List BeliefTree × At → Type 0
TopRead at y = MoreTop y.0 at.bytes

top_then : (at : At) (r : Reading (Option BeliefTree)) (rest : At → Reading (List BeliefTree)) → AllRead (NextTop at.bytes) r → ((new : At) → AllRead (TopRead new) (rest new)) → AllRead (TopRead at) (next_then r rest)
top_then at (Ok (None, new)) rest k m = k
top_then at (Ok (Some x, new)) rest k m = bind_all (TopRead new) (TopRead at) (rest new) _ (m new) (λ y n. top_join at.bytes x new y.0 k n)
top_then at (Err fault) rest k m = tt

top_further : (turns : ℕ) (at : At) → AllRead (TopRead at) (further next_top turns at)
unfolding further
top_further zero at = tt
top_further (suc turns) at = top_then at (next_top at) _ (next_top_reads at) (λ new. top_further turns new)

top_reads : (at : At) → AllRead (λ y. AreTop y.0 at.bytes) (top_beliefs (spaced at))
unfolding top_beliefs following
top_reads at = bind_all (Reads IsBelief (spaced at).bytes) (λ y. AreTop y.0 at.bytes) (belief 32 (spaced at)) _ (belief_reads 32 (spaced at)) (λ x k.
    bind_all (TopRead x.1) (λ y. AreTop y.0 at.bytes) (further next_top 1000 x.1) _ (top_further 1000 x.1) (λ y m. top_join at.bytes x.0 x.1 y.0 (spaced_reads IsBelief at x k) m))

-- QUERIES

ended_reads : (at : At) → AllRead (λ y. AreSpaces at.bytes) (ended at)
unfolding ended
ended_reads at = if_all (λ y. AreSpaces at.bytes) (nat_lt 0 (place (spaced at))) _ _ (λ e. tt) (λ e. spaces_only at.bytes (no_bytes (spaced at).bytes e))

query_of : (at : At) (q : QueryTree) (mid : At) → Spaced IsBody at.bytes (q, mid) → AreSpaces mid.bytes → IsQueryText q at.bytes
query_of at q mid k s = subst (IsQueryText q) (sym k.parts) (grammar.of_body q k.space k.text mid.bytes k.spaces k.is s)

query_reads : (at : At) → AllRead (λ y. IsQueryText y.0 at.bytes) (query (spaced at))
unfolding query
query_reads at =
    let Q : QueryTree × At → Type 0 = λ y. IsQueryText y.0 at.bytes in
    if_all Q (is_filter (operator_at (spaced at)) || is_window (spaced at)) _ _
    (λ e. bind_all (Reads IsBody (spaced at).bytes) Q (body 32 (spaced at)) _ (body_reads 32 (spaced at)) (λ q k.
    bind_all (λ y. AreSpaces q.1.bytes) Q (ended q.1) _ (ended_reads q.1) (λ end s. query_of at q.0 q.1 (spaced_reads IsBody at q k) s)))
    (λ e. bind_all (λ y. AreTop y.0 at.bytes) Q (top_beliefs (spaced at)) _ (top_reads at) (λ xs k. grammar.of_beliefs xs.0 at.bytes k))

pub query_text_is : (bytes : List ℕ) (q : QueryTree) → query_text bytes ≡ Ok q → IsQueryText q bytes
unfolding query_text
query_text_is bytes q e = by (query (spaced (start bytes))) (query_reads (start bytes)) e
  where
    by : (r : Reading QueryTree) → AllRead (λ y. IsQueryText y.0 bytes) r → placed bytes r ≡ Ok q → IsQueryText q bytes
    by (Ok (y, new)) h e = let same : y ≡ q = cc in subst (λ t. IsQueryText t bytes) same h
    by (Err (k, left)) h e = absurd cc
