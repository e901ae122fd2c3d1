-- Whether an expression has an extent in a document can be tested: each operator looks for extents below a bound that none
-- passes.
use Rattle.std.specs.Prelude.{◌≡◌, ◌<◌, ◌≤◌, ℕ, zero, suc, ◌+◌, ◌-◌, Bool, true, false, ◌&&◌, ◌||◌, not, nat_lt, nat_eq, List, [], ◌∷◌, ◌⊎◌, Some, None, slice_get, length, Decides}
use Rattle.std.proofs.Common.{refl, ap, arith, inl, inr, ⊎_elim, bytes_eq}
use Rattle.std.proofs.lemmas.Bool.Decides.{Decides-and, Decides-or, Decides-not, Decides-like, Decides-ltb, Decides-eqb, Decides-below_or, leb_tells}
use Rattle.std.proofs.lemmas.Slice.Eq.{bytes_eq-Decides}
use Rattle.ri_base.specs.Documents.{Document, Field}
use Rattle.ri_base.specs.Expression.{ExprTree, ExprTrees, word, ordered, unordered, syn, any, band, in_field, none, more}
use Rattle.extent_lists.specs.Extents.{Ext, Exts, IsField, LiesInField}
use Rattle.ri_base.specs.Pair.{Pair}
use Rattle.extent_lists.specs.Pairs.{bound, field_bound}
use Rattle.extent_lists.specs.Operators.{Follows, HasEach, HasEachInside, HasInside, IsChain, IsInSome, IsInside, IsLeastEnd, IsWindow, Joins}
use Rattle.extent_lists.proofs.LeafLemmas.{field_cases, field_here, field_later, field_none}

-- a test, whose answer is true exactly where P holds
abbrev pub Test : Type 0 → Type 0
Test P = (r : Bool) × Decides r P

pub like : {P Q : Type 0} → (P → Q) → (Q → P) → Test P → Test Q
like f g t = (t.0, Decides-like t.0 f g t.1)

pub both : {P Q : Type 0} → Test P → Test Q → Test (P × Q)
both s t = (s.0 && t.0, Decides-and s.0 t.0 s.1 t.1)

pub three : {P Q R : Type 0} → Test P → Test Q → Test R → Test (P × Q × R)
three s t u = like (λ h. (h.0, h.1.0, h.1.1)) (λ h. (h.0, (h.1, h.2))) (both s (both t u))

pub either : {P Q : Type 0} → Test P → Test Q → Test (P ⊎ Q)
either s t = (s.0 || t.0, Decides-or s.0 t.0 s.1 t.1)

pub never : Test ⊥
never = (false, (λ e. cc, λ p. absurd p))

pub always : {P : Type 0} → P → Test P
always p = (true, (λ e. p, λ q. refl))

pub is_below : (a b : ℕ) → Test (a < b)
is_below a b = (nat_lt a b, Decides-ltb a b)

le_or : (a b : ℕ) → (a ≤ b) ⊎ (b < a)
le_or a b = ⊎_elim (λ h. inl h.1) (λ h. inr h.1) (leb_tells a b)

pub is_at_most : (a b : ℕ) → Test (a ≤ b)
is_at_most a b = like (λ h. omega (arith, h)) (λ h. omega (arith, h)) (is_below a (suc b))

pub is_number : (a b : ℕ) → Test (a ≡ b)
is_number a b = (nat_eq a b, Decides-eqb a b)

is_text : (a b : List ℕ) → Test (a ≡ b)
is_text a b = (bytes_eq a b, bytes_eq-Decides a b)

abbrev any_below : (ℕ → Bool) → ℕ → Bool
any_below p zero = false
any_below p (suc n) = p n || any_below p n

le_unless : (a b : ℕ) → (b < a → ⊥) → a ≤ b
le_unless a b never_less = ⊎_elim (λ h. h) (λ h. absurd (never_less h)) (le_or a b)

below_unless : (a b : ℕ) → (b ≤ a → ⊥) → a < b
below_unless a b never_less = ⊎_elim (λ h. absurd (never_less h)) (λ h. h) (le_or b a)

none_of : {P : Type 0} → Test P → Test (P → ⊥)
none_of t = (not t.0, Decides-not t.0 t.1)

-- some number below n
some_below : (P : ℕ → Type 0) (n : ℕ) → ((k : ℕ) → Test (P k)) → Test ((k : ℕ) × (k < n) × P k)
some_below P n t = (any_below (λ k. (t k).0) n, Decides-below_or (λ k. (t k).0) P (any_below (λ k. (t k).0)) (λ k. (t k).1) refl (λ m. refl) n)

-- A set of extents can be tested, and each of its extents begins and ends below n.
pub record Tested (n : ℕ) (R : ℕ → ℕ → Type 0) : Type 0 where
  pub test : (b e : ℕ) → Test (R b e)
  pub begins : (b e : ℕ) → R b e → b < n
  pub ends : (b e : ℕ) → R b e → e < n

abbrev pub AllTested : ℕ → List (ℕ → ℕ → Type 0) → Type 0
AllTested n [] = Unit {0}
AllTested n (R ∷ rest) = Tested n R × AllTested n rest

-- ---- several sets

pub some_tested : (n : ℕ) (rs : List (ℕ → ℕ → Type 0)) → AllTested n rs → Tested n (IsInSome rs)
some_tested n [] t = record { test = λ b e. never; begins = λ b e h. absurd h; ends = λ b e h. absurd h }
some_tested n (R ∷ rest) (t, ts) =
    let more = some_tested n rest ts in
    record {
      test = λ b e. either (t.test b e) (more.test b e);
      begins = λ b e h. ⊎_elim (λ r. t.begins b e r) (λ r. more.begins b e r) h;
      ends = λ b e h. ⊎_elim (λ r. t.ends b e r) (λ r. more.ends b e r) h;
    }

some_extent : (n : ℕ) (R : ℕ → ℕ → Type 0) → Tested n R → Test ((b : ℕ) × (e : ℕ) × R b e)
some_extent n R t = like (λ (b, low, (e, high, r)). (b, e, r)) (λ (b, e, r). (b, t.begins b e r, (e, t.ends b e r, r))) (some_below (λ b. (e : ℕ) × (e < n) × R b e) n (λ b. some_below (λ e. R b e) n (λ e. t.test b e)))

pub each_tested : (n : ℕ) (rs : List (ℕ → ℕ → Type 0)) → AllTested n rs → Test (HasEach rs)
each_tested n [] t = always tt
each_tested n (R ∷ rest) (t, ts) = both (some_extent n R t) (each_tested n rest ts)

-- ---- least ends

pub least_end : (R : ℕ → ℕ → Type 0) → ((b e : ℕ) → Test (R b e)) → (b e : ℕ) → Test (IsLeastEnd R b e)
least_end R t b e = like
    (λ (r, alone). record { ends = r; least = λ other s. le_unless e other (λ lt. alone (other, lt, s)) })
    (λ h. (h.ends, λ (other, lt, s). let no_less = h.least other s in omega (arith, lt, no_less)))
    (both (t b e) (none_of (some_below (λ other. R b other) e (λ other. t b other))))

-- ---- chains

pub joins_tested : (n m : ℕ) (R S : ℕ → ℕ → Type 0) → Tested n R → Tested n S → Tested n (Joins m R S)
joins_tested n m R S r s = record {
  test = λ b e. like
      (λ (end, low, (begin, high, h)). (end, begin, h.0, h.1, h.2))
      (λ (end, begin, first, follows, later). (end, r.ends b end first, (begin, s.begins begin e later, (first, follows, later))))
      (some_below (λ end. (begin : ℕ) × (begin < n) × (R b end × Follows m end begin × S begin e)) n
      (λ end. some_below (λ begin. R b end × Follows m end begin × S begin e) n
      (λ begin. three (r.test b end) (both (is_at_most end begin) (is_at_most (begin + 1) (end + m))) (s.test begin e))));
  begins = λ b e (end, begin, first, follows, later). r.begins b end first;
  ends = λ b e (end, begin, first, follows, later). s.ends begin e later;
}

chain : (n m : ℕ) (rs : List (ℕ → ℕ → Type 0)) → AllTested n rs → Tested n (IsChain m rs)
chain n m [] t = record { test = λ b e. never; begins = λ b e h. absurd h; ends = λ b e h. absurd h }
chain n m (R ∷ []) t = t.0
chain n m (R ∷ S ∷ rest) t = joins_tested n m R (IsChain m (S ∷ rest)) t.0 (chain n m (S ∷ rest) t.1)

-- ---- windows

has_inside : (n : ℕ) (R : ℕ → ℕ → Type 0) → Tested n R → (b e : ℕ) → Test (HasInside R b e)
has_inside n R t b e = like
    (λ (from, low, (to, high, h)). (from, to, h.0, h.1))
    (λ (from, to, r, lies). (from, t.begins from to r, (to, t.ends from to r, (r, lies))))
    (some_below (λ from. (to : ℕ) × (to < n) × (R from to × IsInside from to b e)) n
    (λ from. some_below (λ to. R from to × IsInside from to b e) n
    (λ to. both (t.test from to) (both (is_at_most b from) (is_at_most to e)))))

has_each_inside : (n : ℕ) (rs : List (ℕ → ℕ → Type 0)) → AllTested n rs → (b e : ℕ) → Test (HasEachInside rs b e)
has_each_inside n [] t b e = always tt
has_each_inside n (R ∷ rest) t b e = both (has_inside n R t.0 b e) (has_each_inside n rest t.1 b e)

window : (n m : ℕ) (rs : List (ℕ → ℕ → Type 0)) → AllTested n rs → (b e : ℕ) → Test (IsWindow m rs b e)
window n m rs t b e =
    let some = some_tested n rs t in
    like
    (λ (short, inside, (to, low, h)). record { narrow = short; each = inside; begins = (to, h.0, h.1) })
    (λ w. (w.narrow, w.each, (w.begins.0, some.ends b w.begins.0 w.begins.2, (w.begins.1, w.begins.2))))
    (three (is_at_most e (b + m)) (has_each_inside n rs t b e)
    (some_below (λ to. (to ≤ e) × IsInSome rs b to) n (λ to. both (is_at_most to e) (some.test b to))))

-- what is inside a window that ends behind the bound is inside the one that ends at it
cut_inside : (n : ℕ) (rs : List (ℕ → ℕ → Type 0)) → AllTested n rs → (b e : ℕ) → HasEachInside rs b e → HasEachInside rs b (n - 1)
cut_inside n [] t b e h = tt
cut_inside n (R ∷ rest) (t, ts) b e ((from, to, r, (low, high)), others) =
    let bound = t.ends from to r in
    ((from, to, r, (low, omega (arith, bound))), cut_inside n rest ts b e others)

cut : (n m : ℕ) (rs : List (ℕ → ℕ → Type 0)) → AllTested n rs → (b e : ℕ) → n ≤ e → IsWindow m rs b e → IsWindow m rs b (n - 1)
cut n m rs t b e behind w =
    let bound = (some_tested n rs t).ends b w.begins.0 w.begins.2 in
    let short = w.narrow in
    record {
      narrow = omega (arith, behind, short);
      each = cut_inside n rs t b e w.each;
      begins = (w.begins.0, omega (arith, bound), w.begins.2);
    }

pub least_window : (n m : ℕ) (rs : List (ℕ → ℕ → Type 0)) → AllTested n rs → Tested n (IsLeastEnd (IsWindow m rs))
least_window n m rs t = record {
  test = λ b e. least_end (IsWindow m rs) (window n m rs t) b e;
  begins = λ b e h. (some_tested n rs t).begins b h.ends.begins.0 h.ends.begins.2;
  ends = λ b e h. below_unless e n (λ behind.
      let again = h.least (n - 1) (cut n m rs t b e behind h.ends) in
      let first = (some_tested n rs t).begins b h.ends.begins.0 h.ends.begins.2 in
      omega (arith, behind, again, first));
}

pub least_tested : (n : ℕ) (R : ℕ → ℕ → Type 0) → Tested n R → Tested n (IsLeastEnd R)
least_tested n R t = record {
  test = λ b e. least_end R t.test b e;
  begins = λ b e h. t.begins b e h.ends;
  ends = λ b e h. t.ends b e h.ends;
}

pub has_around : (n : ℕ) (R : ℕ → ℕ → Type 0) → Tested n R → (b e : ℕ) → Test ((from : ℕ) × (to : ℕ) × R from to × IsInside b e from to)
has_around n R t b e = like
    (λ (from, low, (to, high, h)). (from, to, h.0, h.1))
    (λ (from, to, r, lies). (from, t.begins from to r, (to, t.ends from to r, (r, lies))))
    (some_below (λ from. (to : ℕ) × (to < n) × (R from to × IsInside b e from to)) n
    (λ from. some_below (λ to. R from to × IsInside b e from to) n
    (λ to. both (t.test from to) (both (is_at_most from b) (is_at_most e to)))))

-- ---- terms and fields

is_token : (tokens : List (List ℕ)) (t : List ℕ) (b : ℕ) → Test (slice_get tokens b ≡ Some t)
is_token [] t b = like (λ e. absurd e) (λ (e : None ≡ Some t). cc) never
is_token (x ∷ xs) t zero = like (λ e. ap Some e) (λ e. cc) (is_text x t)
is_token (x ∷ xs) t (suc b) = is_token xs t b

token_within : (tokens : List (List ℕ)) (t : List ℕ) (b : ℕ) → slice_get tokens b ≡ Some t → b < length tokens
token_within [] t b e = cc
token_within (x ∷ xs) t zero e = omega arith
token_within (x ∷ xs) t (suc b) e = let less = token_within xs t b e in omega (arith, less)

is_here : (s : Field) (f : List ℕ) (b e : ℕ) → Test ((s.name ≡ f) × (s.begin ≡ b) × (s.end ≡ e))
is_here s f b e = three (is_text s.name f) (is_number s.begin b) (is_number s.end e)

is_field : (fields : List Field) (f : List ℕ) (b e : ℕ) → Test (IsField fields f b e)
is_field [] f b e = like (λ h. absurd h) (field_none f b e) never
is_field (s ∷ rest) f b e = like
    (⊎_elim (λ h. field_here s rest f b e h.0 h.1 h.2) (field_later s rest f b e))
    (field_cases s rest f b e)
    (either (is_here s f b e) (is_field rest f b e))

field_within : (fields : List Field) (f : List ℕ) (b e : ℕ) → IsField fields f b e → b + e ≤ field_bound fields
field_within [] f b e h = absurd (field_none f b e h)
field_within (s ∷ rest) f b e h = ⊎_elim
    (λ h. let from = h.1 in let to = h.2 in omega (arith, from, to))
    (λ r. let less = field_within rest f b e r in omega (arith, less))
    (field_cases s rest f b e h)

fields_tested : (d : Document) (f : List ℕ) → Tested (bound d) (IsField d.fields f)
fields_tested d f = record {
  test = λ b e. is_field d.fields f b e;
  begins = λ b e h. let less = field_within d.fields f b e h in omega (arith, less);
  ends = λ b e h. let less = field_within d.fields f b e h in omega (arith, less);
}

word_tested : (d : Document) (t : List ℕ) → Tested (bound d) (λ b e. (slice_get d.tokens b ≡ Some t) × (e ≡ b + 1))
word_tested d t = record {
  test = λ b e. both (is_token d.tokens t b) (is_number e (b + 1));
  begins = λ b e h. let less = token_within d.tokens t b h.0 in omega (arith, less);
  ends = λ b e h. let less = token_within d.tokens t b h.0 in let next = h.1 in omega (arith, less, next);
}

pub whole_tested : (n m : ℕ) (rs : List (ℕ → ℕ → Type 0)) → m < n → AllTested n rs → Tested n (λ b e. (b ≡ 0) × (e ≡ m) × (b < e) × HasEach rs)
whole_tested n m rs inside t = record {
  test = λ b e. like (λ h. (h.0, h.1, h.2.0, h.2.1)) (λ h. (h.0, h.1, (h.2, h.3))) (three (is_number b 0) (is_number e m) (both (is_below b e) (each_tested n rs t)));
  begins = λ b e h. let first = h.0 in omega (arith, first, inside);
  ends = λ b e h. let last = h.1 in omega (arith, last, inside);
}

inside_tested : (d : Document) (R : ℕ → ℕ → Type 0) (f : List ℕ) → Tested (bound d) R → Tested (bound d) (λ b e. R b e × LiesInField d.fields f b e)
inside_tested d R f t = record {
  test = λ b e. both (t.test b e) (has_around (bound d) (IsField d.fields f) (fields_tested d f) b e);
  begins = λ b e h. t.begins b e h.0;
  ends = λ b e h. t.ends b e h.0;
}

mutual
  unfolding Ext Exts

  pub ext_tested : (x : ExprTree) (d : Document) → Tested (bound d) (Ext x d)
  ext_tested (word t) d = word_tested d t
  ext_tested (ordered n xs) d = least_tested (bound d) (IsChain n (Exts xs d)) (chain (bound d) n (Exts xs d) (exts_tested xs d))
  ext_tested (unordered n xs) d = least_window (bound d) n (Exts xs d) (exts_tested xs d)
  ext_tested (syn xs) d = some_tested (bound d) (Exts xs d) (exts_tested xs d)
  ext_tested (any f) d = fields_tested d f
  ext_tested (band xs) d = whole_tested (bound d) (length d.tokens) (Exts xs d) (omega arith) (exts_tested xs d)
  ext_tested (in_field x f) d = inside_tested d (Ext x d) f (ext_tested x d)

  pub exts_tested : (xs : ExprTrees) (d : Document) → AllTested (bound d) (Exts xs d)
  exts_tested none d = tt
  exts_tested (more x xs) d = (ext_tested x d, exts_tested xs d)

-- whether the expression has this extent in the document
unfoldable pub has_extent : ExprTree → Document → Pair → Bool
has_extent x d p = ((ext_tested x d).test p.begin p.end).0
