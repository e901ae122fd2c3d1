-- the plan of an expression
use Rattle.std.proofs.Common.{◌≡◌, ◌↔◌, ℕ, zero, suc, ◌+◌, ◌<◌, ◌≤◌, Bool, true, false, nat_le, List, [], ◌∷◌, ◌++◌, length, take, get_or, add-one, map, Vec, Box, Global, refl, sym, ap, ◌∙◌, subst, arith}
use Rattle.std.specs.List.{All, Contains}
use Rattle.std.proofs.lemmas.Bool.Decides.{nat_tests}
use Rattle.ri_base.specs.Documents.{Document, Field}
use Rattle.ri_base.specs.Expression.{ExprTree, expr_tree, expr_trees, any, band, in_field, ordered, syn, unordered, word}
use Rattle.ri_base.specs.Pair.{Pair}
use Rattle.ri_base.specs.declared.expression.ExtentExpr.{ExtentExpr, Any, Ordered, Unordered, Syn, Band, InField, Word}
use Rattle.ri_base.proofs.ExpressionLemmas.{expr_tree-Word, expr_tree-Any, expr_tree-Ordered, expr_tree-Unordered, expr_tree-Syn, expr_tree-Band, expr_tree-InField}
use Rattle.extent_lists.specs.Extents.{Ext, Exts, IsField}
use Rattle.extent_lists.specs.Plans.{LiesInSome}
use Rattle.extent_lists.specs.Operators.{IsChain, IsLeastEnd, IsWindow, Joins}
use Rattle.extent_lists.specs.Plans.{GiveEach, Gives, Plan, Plans, each_set, joined, listed, more, none, set, shortest, union_of, whole, window, within}
use Rattle.extent_lists.specs.Rows.{Lists}
use Rattle.extent_walks.specs.Walks.{chain_plan, plan, plans}
use Rattle.extent_walks.specs.declared.walk.Ahead.{Ahead}
use Rattle.std.proofs.lemmas.List.{append_assoc}
use Rattle.extent_lists.proofs.SameLemmas.{AreWithin, HasEach-within, IsChain-within, IsInSome-within, IsLeastEnd-same, IsWindow-within}

-- ---- lists

module _ (xs : List Pair) (d : Document) where
  pub gives_word : (t : List ℕ) → Lists (Ext (word t) d) xs → Gives (listed xs) (word t) d
  unfolding Ext set
  gives_word t l b e = (λ h. l.only b e h.0, λ h. (l.all b e h, omega (arith, h.1)))

  pub gives_any : (f : List ℕ) → Lists (IsField d.fields f) xs → All (λ s. s.begin < s.end) d.fields → Gives (listed xs) (any f) d
  unfolding Ext set
  gives_any f l some b e = (λ h. l.only b e h.0, λ h. (l.all b e h, field_some d.fields h some))
    where
      field_some : (fields : List Field) → Contains fields (record { name = f; begin = b; end = e }) → All (λ s. s.begin < s.end) fields → b < e
      field_some fields h some =
          let is = h.2 in
          let lower = some h.0 (record { name = f; begin = b; end = e }) h.1 in
          subst (λ (v : Field). v.begin < v.end) is lower

-- ---- several expressions

each_within : (d : Document) (g : Plans) (ts : List ExprTree) → GiveEach g ts d → AreWithin (each_set g) (Exts (expr_trees ts) d)
unfolding Exts each_set set
each_within d none [] h = tt
each_within d none (t ∷ ts) h = absurd h
each_within d (more p g) [] h = absurd h
each_within d (more p g) (t ∷ ts) h = (λ b e k. (h.0 b e).0 k, each_within d g ts h.1)

within_each : (d : Document) (g : Plans) (ts : List ExprTree) → GiveEach g ts d → AreWithin (Exts (expr_trees ts) d) (each_set g)
unfolding Exts each_set set
within_each d none [] h = tt
within_each d none (t ∷ ts) h = absurd h
within_each d (more p g) [] h = absurd h
within_each d (more p g) (t ∷ ts) h = (λ b e k. (h.0 b e).1 k, within_each d g ts h.1)

module _ (d : Document) (g : Plans) (ts : List ExprTree) (h : GiveEach g ts d) where
  gives_syn : Gives (union_of g) (syn (expr_trees ts)) d
  unfolding Ext set
  gives_syn b e = (λ k. IsInSome-within (each_set g) _ (each_within d g ts h) b e k, λ k. IsInSome-within _ (each_set g) (within_each d g ts h) b e k)

  gives_band : (n : ℕ) → n ≡ length d.tokens → Gives (whole n g) (band (expr_trees ts)) d
  unfolding Ext set
  gives_band n is b e = (
    λ k. (k.0, k.1 ∙ is, k.2, HasEach-within (each_set g) _ (each_within d g ts h) k.3),
    λ k. (k.0, k.1 ∙ sym is, k.2, HasEach-within _ (each_set g) (within_each d g ts h) k.3),
  )

  gives_unordered : (n : ℕ) → Gives (window n g) (unordered n (expr_trees ts)) d
  unfolding Ext set
  gives_unordered n b e =
      let to = IsWindow-within n (each_set g) _ (each_within d g ts h) in
      let from = IsWindow-within n _ (each_set g) (within_each d g ts h) in
      (λ k. IsLeastEnd-same (IsWindow n (each_set g)) _ to from b e k, λ k. IsLeastEnd-same _ (IsWindow n (each_set g)) from to b e k)

  gives_ordered : (n : ℕ) (p : Plan) → ((b e : ℕ) → set p b e ↔ IsLeastEnd (IsChain n (each_set g)) b e) → Gives p (ordered n (expr_trees ts)) d
  unfolding Ext
  gives_ordered n p same b e =
      let to = IsChain-within n (each_set g) _ (each_within d g ts h) in
      let from = IsChain-within n _ (each_set g) (within_each d g ts h) in
      (λ k. IsLeastEnd-same (IsChain n (each_set g)) _ to from b e ((same b e).0 k), λ k. (same b e).1 (IsLeastEnd-same _ (IsChain n (each_set g)) from to b e k))

gives_in_field : (d : Document) (p : Plan) (t : ExprTree) (f : List ℕ) (xs outer : List Pair) → Gives p t d → Lists (IsField d.fields f) xs → ((b e : ℕ) → LiesInSome outer b e ↔ LiesInSome xs b e) → Gives (within p outer) (in_field t f) d
unfolding Ext set
gives_in_field d p t f xs outer h l same b e = (
  λ k. ((h b e).0 k.0, let w = (same b e).0 k.1 in (w.0, w.1, l.only w.0 w.1 w.2, w.3)),
  λ k. ((h b e).1 k.0, (same b e).1 (k.1.0, k.1.1, l.all k.1.0 k.1.1 k.1.2, k.1.3)),
)

-- ---- the variants of an expression

module _ (x : ExtentExpr) (d : Document) (p : Plan) where
  pub Gives-of_word : (t : List ℕ) (xs : List Pair) → x ≡ Word t → p ≡ listed xs → Lists (Ext (word t) d) xs → Gives p (expr_tree x) d
  Gives-of_word t xs e is l = rw (e, is, expr_tree-Word) (gives_word xs d t l)

  pub Gives-of_any : (f : List ℕ) (xs : List Pair) → x ≡ Any f → p ≡ listed xs → Lists (IsField d.fields f) xs → All (λ s. s.begin < s.end) d.fields → Gives p (expr_tree x) d
  Gives-of_any f xs e is l some = rw (e, is, expr_tree-Any) (gives_any xs d f l some)

  pub Gives-of_syn : (a : Vec ExtentExpr Global) (g : Plans) → x ≡ Syn a → p ≡ union_of g → GiveEach g (map expr_tree a.items) d → Gives p (expr_tree x) d
  Gives-of_syn a g e is h = rw (e, is, expr_tree-Syn) (gives_syn d g (map expr_tree a.items) h)

  pub Gives-of_band : (a : Vec ExtentExpr Global) (g : Plans) (n : ℕ) → x ≡ Band a → p ≡ whole n g → n ≡ length d.tokens → GiveEach g (map expr_tree a.items) d → Gives p (expr_tree x) d
  Gives-of_band a g n e is tokens h = rw (e, is, expr_tree-Band) (gives_band d g (map expr_tree a.items) h n tokens)

  pub Gives-of_unordered : (n : ℕ) (a : Vec ExtentExpr Global) (g : Plans) → x ≡ Unordered n a → p ≡ window n g → GiveEach g (map expr_tree a.items) d → Gives p (expr_tree x) d
  Gives-of_unordered n a g e is h = rw (e, is, expr_tree-Unordered) (gives_unordered d g (map expr_tree a.items) h n)

  pub Gives-of_ordered : (n : ℕ) (a : Vec ExtentExpr Global) (g : Plans) → x ≡ Ordered n a → ((b e : ℕ) → set p b e ↔ IsLeastEnd (IsChain n (each_set g)) b e) → GiveEach g (map expr_tree a.items) d → Gives p (expr_tree x) d
  Gives-of_ordered n a g e same h = rw (e, expr_tree-Ordered) (gives_ordered d g (map expr_tree a.items) h n p same)

  pub Gives-of_in_field : (b : Box ExtentExpr Global) (f : List ℕ) (q : Plan) (xs outer : List Pair) → x ≡ InField b f → p ≡ within q outer → Gives q (expr_tree b.value) d → Lists (IsField d.fields f) xs → ((m n : ℕ) → LiesInSome outer m n ↔ LiesInSome xs m n) → Gives p (expr_tree x) d
  Gives-of_in_field b f q xs outer e is h l same = rw (e, is, expr_tree-InField) (gives_in_field d q (expr_tree b.value) f xs outer h l same)

GiveEach-push : (d : Document) (xs : List Ahead) (ts : List ExprTree) (y : Ahead) (t : ExprTree) → GiveEach (plans xs) ts d → Gives (plan y.walk) t d → GiveEach (plans (xs ++ y ∷ [])) (ts ++ t ∷ []) d
GiveEach-push d [] [] y t h k = (k, tt)
GiveEach-push d [] (u ∷ ts) y t h k = absurd h
GiveEach-push d (x ∷ xs) [] y t h k = absurd h
GiveEach-push d (x ∷ xs) (u ∷ ts) y t h k = (h.0, GiveEach-push d xs ts y t h.1 k)

map_take : (xs : List ExtentExpr) (i : ℕ) (x : ExtentExpr) → i < length xs → x ≡ get_or xs i x → map expr_tree (take (suc i) xs) ≡ map expr_tree (take i xs) ++ expr_tree x ∷ []
map_take [] i x h e = absurd (omega (arith, h))
map_take (y ∷ ys) zero x h e = ap (λ (v : ExtentExpr). expr_tree v ∷ []) (sym e)
map_take (y ∷ ys) (suc i) x h e = ap (λ (ts : List ExprTree). expr_tree y ∷ ts) (map_take ys i x (omega (arith, h)) e)

-- one expression more
pub GiveEach-more : (d : Document) (xs : List ExtentExpr) (i : ℕ) (x : ExtentExpr) (ys : List Ahead) (y : Ahead) → i < length xs → x ≡ get_or xs i x → GiveEach (plans ys) (map expr_tree (take i xs)) d → Gives (plan y.walk) (expr_tree x) d → GiveEach (plans (ys ++ y ∷ [])) (map expr_tree (take (i + 1) xs)) d
GiveEach-more d xs i x ys y lt e h k = rw (add-one, map_take xs i x lt e) (GiveEach-push d ys (map expr_tree (take i xs)) y (expr_tree x) h k)

-- ---- chains

-- a set of ends has a least one, where no least one is ruled out
no_least : (C : ℕ → ℕ → Type 0) (b other bound : ℕ) → ((m : ℕ) → IsLeastEnd C b m → m ≤ other → ⊥) → (k : ℕ) → k ≤ bound → k ≤ other → C b k → ⊥
no_least C b other zero fails k h p c = fails k (record { ends = c; least = λ m r. omega (arith, h) }) p
no_least C b other (suc bound) fails k h p c = fails k (record { ends = c; least = λ m r. by m (λ q. no_least C b other bound fails m (omega (arith, q, h)) (omega (arith, q, p)) r) (nat_le k m) refl }) p
  where
    by : (m : ℕ) → (m < k → ⊥) → (v : Bool) → nat_le k m ≡ v → k ≤ m
    by m r true e = grind (arith, nat_tests)
    by m r false e = absurd (r (grind (arith, nat_tests)))

module _ (n : ℕ) (R C L : ℕ → ℕ → Type 0) (same : (b e : ℕ) → L b e ↔ IsLeastEnd C b e) (b e : ℕ) where
  least_to : IsLeastEnd (Joins n R L) b e → IsLeastEnd (Joins n R C) b e
  least_to h = record {
    ends = (h.ends.0, h.ends.1, h.ends.2, h.ends.3, ((same h.ends.1 e).0 h.ends.4).ends);
    least = λ other j. by other j (nat_le e other) refl;
  }
    where
      by : (other : ℕ) → Joins n R C b other → (v : Bool) → nat_le e other ≡ v → e ≤ other
      by other j true k = grind (arith, nat_tests)
      by other j false k =
          let lower : other < e = grind (arith, nat_tests) in
          absurd (no_least C j.1 other other
          (λ m l p. let above = h.least m (j.0, j.1, j.2, j.3, (same j.1 m).1 l) in omega (arith, above, p, lower))
          other (omega arith) (omega arith) j.4)

  least_from : IsLeastEnd (Joins n R C) b e → IsLeastEnd (Joins n R L) b e
  least_from h = record {
    ends = (
      h.ends.0,
      h.ends.1,
      h.ends.2,
      h.ends.3,
      (same h.ends.1 e).1 (record {
        ends = h.ends.4;
        least = λ other c. h.least other (h.ends.0, h.ends.1, h.ends.2, h.ends.3, c);
      }),
    );
    least = λ other j. h.least other (j.0, j.1, j.2, j.3, ((same j.1 other).0 j.4).ends);
  }

  least_same : IsLeastEnd (Joins n R L) b e ↔ IsLeastEnd (Joins n R C) b e
  least_same = (least_to, least_from)

pub chain_none : (n : ℕ) (b e : ℕ) → set (listed []) b e ↔ IsLeastEnd (IsChain n (each_set none)) b e
unfolding set each_set
chain_none n b e = (λ h. absurd h.0, λ h. absurd h.ends)

pub chain_one : (n : ℕ) (p : Plan) (b e : ℕ) → set (shortest p) b e ↔ IsLeastEnd (IsChain n (each_set (more p none))) b e
unfolding set each_set
chain_one n p b e = (λ h. h, λ h. h)

pub chain_more : (n : ℕ) (p q r : Plan) (g : Plans) → ((b e : ℕ) → set r b e ↔ IsLeastEnd (IsChain n (each_set (more q g))) b e) → (b e : ℕ) → set (joined n p r) b e ↔ IsLeastEnd (IsChain n (each_set (more p (more q g)))) b e
unfolding set each_set
chain_more n p q r g same b e = least_same n (set p) (IsChain n (each_set (more q g))) (set r) same b e

pub chain_plan-is : (n : ℕ) (g : Plans) (b e : ℕ) → set (chain_plan n g) b e ↔ IsLeastEnd (IsChain n (each_set g)) b e
chain_plan-is n none b e = chain_none n b e
chain_plan-is n (more p none) b e = chain_one n p b e
chain_plan-is n (more p (more q g)) b e = chain_more n p q (chain_plan n (more q g)) g (λ c d. chain_plan-is n (more q g) c d) b e

-- the chain of those arguments that are taken, of which the others come before them
pub record IsChainSoFar (n : ℕ) (all others : List Ahead) (p : Plan) : Type 0 where
  pub one : Ahead
  pub rest : List Ahead
  pub all_are : all ≡ others ++ one ∷ rest
  pub chain : p ≡ chain_plan n (plans (one ∷ rest))

pub IsChainSoFar-last : (n : ℕ) (all others : List Ahead) (x : Ahead) → all ≡ others ++ x ∷ [] → IsChainSoFar n all others (shortest (plan x.walk))
IsChainSoFar-last n all others x is = record { one = x; rest = []; all_are = is; chain = refl }

pub IsChainSoFar-more : (n : ℕ) (all others fewer : List Ahead) (x : Ahead) (p : Plan) → IsChainSoFar n all others p → others ≡ fewer ++ x ∷ [] → IsChainSoFar n all fewer (joined n (plan x.walk) p)
IsChainSoFar-more n all others fewer x p h is = record {
  one = x;
  rest = h.one ∷ h.rest;
  all_are = h.all_are ∙ ap (λ (xs : List Ahead). xs ++ h.one ∷ h.rest) is ∙ append_assoc fewer (x ∷ []) (h.one ∷ h.rest);
  chain = ap (λ (q : Plan). joined n (plan x.walk) q) h.chain;
}

pub IsChainSoFar-all : (n : ℕ) (all : List Ahead) (p : Plan) → IsChainSoFar n all [] p → p ≡ chain_plan n (plans all)
IsChainSoFar-all n all p h = h.chain ∙ ap (λ (xs : List Ahead). chain_plan n (plans xs)) (sym h.all_are)
