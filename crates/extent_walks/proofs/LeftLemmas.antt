-- what an iterator has left
use Rattle.std.specs.Prelude.{Decides, slice_get}
use Rattle.std.proofs.Common.{◌≡◌, ◌&&◌, drop, ℕ, ◌+◌, ◌≤◌, ◌⊎◌, inl, inr, ⊎_elim, Bool, true, false, nat_lt, Some, None, List, [], ◌∷◌, refl, sym, ap, ◌∙◌, subst, arith}
use Rattle.std.proofs.lemmas.Bool.Decides.{Decides-and, nat_tests}
use Rattle.ri_base.specs.Documents.{Document}
use Rattle.ri_base.specs.Expression.{ExprTree}
use Rattle.ri_base.specs.Pair.{Pair}
use Rattle.extent_lists.specs.Extents.{Ext}
use Rattle.extent_lists.specs.Listing.{IsBefore, IsListing}
use Rattle.extent_lists.specs.Pairs.{pair}
use Rattle.extent_lists.specs.Plans.{Gives, Plan, plan_bound, set}
use Rattle.extent_lists.specs.Rows.{Has, IsBeforeAll, Lists}
use Rattle.extent_lists.proofs.ListLemmas.{Lists-tested, same_list}
use Rattle.extent_lists.proofs.ListingLemmas.{IsListing-lists}
use Rattle.extent_lists.proofs.PlanTests.{has_planned, planned, planned_begins, planned_ends}
use Rattle.extent_lists.proofs.SameLemmas.{Lists-same}
use Rattle.extent_walks.specs.Left.{left}
use Rattle.extent_walks.specs.Next.{IsFrom, IsNext, is_from}
use Rattle.extent_walks.proofs.NextLemmas.{is_from-false, is_from-true, never}

from_decides : (begin end b e : ℕ) → Decides (is_from begin end b e) (IsFrom begin end b e)
from_decides begin end b e = (is_from-true begin end b e, λ f. by (is_from begin end b e) refl f)
  where
    by : (v : Bool) → is_from begin end b e ≡ v → IsFrom begin end b e → is_from begin end b e ≡ true
    by true h f = h
    by false h f = absurd (is_from-false begin end b e h f)

abbrev Left : Plan → ℕ → ℕ → ℕ → ℕ → Type 0
Left p begin end b e = set p b e × IsFrom begin end b e

Lists-left : (p : Plan) (begin end : ℕ) → Lists (Left p begin end) (left p begin end)
unfolding left
Lists-left p begin end = Lists-tested (plan_bound p) (Left p begin end) (record {
  test = λ b e. (has_planned p b e && is_from begin end b e, Decides-and (has_planned p b e) (is_from begin end b e) (planned p b e) (from_decides begin end b e));
  begins = λ b e h. planned_begins p b e h.0;
  ends = λ b e h. planned_ends p b e h.0;
})

before_all : (x : Pair) (ys : List Pair) → ((b e : ℕ) → Has ys b e → IsBefore x (pair b e)) → IsBeforeAll x ys
before_all x [] h = tt
before_all x (y ∷ ys) h = (h y.begin y.end (inl (refl, refl)), before_all x ys (λ b e k. h b e (inr k)))

behind : (p q m n b e : ℕ) → IsFrom p q m n → IsFrom m (n + 1) b e → IsFrom p q b e
behind p q m n b e k l = grind arith

above : (m n b e : ℕ) → IsFrom m (n + 1) b e → IsBefore (pair m n) (pair b e)
above m n b e k = grind arith

here_or_behind : (m n b e : ℕ) → IsFrom m n b e → ((m ≡ b) × (n ≡ e)) ⊎ IsFrom m (n + 1) b e
here_or_behind m n b e f = ⊎_elim (λ k. inr (inl k)) (λ k. by (nat_lt n e) refl k) f
  where
    by : (v : Bool) → nat_lt n e ≡ v → (m ≡ b) × (n ≤ e) → ((m ≡ b) × (n ≡ e)) ⊎ IsFrom m (n + 1) b e
    by true h k = inr (inr (k.0, grind (arith, nat_tests)))
    by false h k = inl (k.0, grind (arith, nat_tests))

-- where there is no next one none is left
pub left-none : (p : Plan) (begin end : ℕ) → IsNext (set p) begin end None → left p begin end ≡ []
left-none p begin end h = same_list (Left p begin end) (left p begin end) [] (Lists-left p begin end) (record {
  ascending = tt;
  only = λ b e k. absurd k;
  all = λ b e k. absurd (never (h.least b e k.0 k.1).1);
})

-- the next one is the first of those that are left, and the others are those behind it
pub left-some : (p : Plan) (begin end : ℕ) (x : Pair) → IsNext (set p) begin end (Some x) → left p begin end ≡ x ∷ left p x.begin (x.end + 1)
left-some p begin end x h =
    let rest = Lists-left p x.begin (x.end + 1) in
    let first = h.only x refl in
    same_list (Left p begin end) (left p begin end) (x ∷ left p x.begin (x.end + 1)) (Lists-left p begin end) (record {
      ascending = (before_all x (left p x.begin (x.end + 1)) (λ b e k. above x.begin x.end b e (rest.only b e k).1), rest.ascending);
      only = λ b e. ⊎_elim
          (λ k. subst (λ (n : ℕ). Left p begin end n e) k.0 (subst (λ (n : ℕ). Left p begin end x.begin n) k.1 first))
          (λ k. let w = rest.only b e k in (w.0, behind begin end x.begin x.end b e first.1 w.1));
      all = λ b e k.
          let w = h.least b e k.0 k.1 in
          let is : w.0 ≡ x = same_some (sym w.1) in
          ⊎_elim
          (λ u. inl u)
          (λ u. inr (rest.all b e (k.0, u)))
          (here_or_behind x.begin x.end b e (subst (λ (v : Pair). IsFrom v.begin v.end b e) is w.2));
    })
  where
    same_some : {y : Pair} → Some y ≡ Some x → y ≡ x
    same_some e = cc

-- from the first place on all are left
pub IsListing-left : (p : Plan) (x : ExprTree) (d : Document) → Gives p x d → IsListing (Ext x d) (left p 0 0)
IsListing-left p x d h = IsListing-lists (Ext x d) (left p 0 0)
    (Lists-same (Left p 0 0) (Ext x d) (left p 0 0) (λ b e k. (h b e).0 k.0) (λ b e k. ((h b e).1 k, any b e)) (Lists-left p 0 0))
  where
    any : (b e : ℕ) → IsFrom 0 0 b e
    any b e = grind arith

-- ---- what is taken

module _ (p q : Plan) (same : q ≡ p) (begin end : ℕ) where
  pub first-none : IsNext (set p) begin end None → None ≡ slice_get (left p begin end) 0
  first-none h = sym (ap (λ (xs : List Pair). slice_get xs 0) (left-none p begin end h))

  pub others-none : IsNext (set p) begin end None → left q begin end ≡ drop 1 (left p begin end)
  others-none h =
      let empty = left-none p begin end h in
      ap (λ (r : Plan). left r begin end) same ∙ empty ∙ sym (ap (λ (xs : List Pair). drop 1 xs) empty)

  pub first-some : (x : Pair) → IsNext (set p) begin end (Some x) → Some x ≡ slice_get (left p begin end) 0
  first-some x h = sym (ap (λ (xs : List Pair). slice_get xs 0) (left-some p begin end x h))

  pub others-some : (x : Pair) → IsNext (set p) begin end (Some x) → left q x.begin (x.end + 1) ≡ drop 1 (left p begin end)
  others-some x h = ap (λ (r : Plan). left r x.begin (x.end + 1)) same ∙ sym (ap (λ (xs : List Pair). drop 1 xs) (left-some p begin end x h))
