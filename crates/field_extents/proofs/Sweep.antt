-- A sweep over runs of positions whose begins don't fall: it counts the positions of a window that lie in some run.
use Rattle.std.proofs.Common.{◌≡◌, ℕ, ◌+◌, ◌-◌, ◌<◌, ◌≤◌, ⊎_elim, Bool, true, false, min, max, sym, ◌∙◌, arith}
use Rattle.std.specs.List.{count_by}
use Rattle.std.proofs.lemmas.Bool.{cases_lt}
use Rattle.ri_base.specs.Pair.{Pair}
use Rattle.field_extents.specs.Extents.{positions}
use Rattle.field_extents.proofs.Counts.{count_by-agree, count_by-filled, Fills}

-- the test passes at `count` positions of the window, all of them before `next`
pub record IsSwept (window : Pair) (test : ℕ → Bool) (count next : ℕ) : Type 0 where
  pub counted : count ≡ count_by test (positions window)
  pub low : window.begin ≤ next
  pub high : next ≤ window.end
  pub few : count + window.begin ≤ next
  pub ahead : (i : ℕ) → next ≤ i → i < window.end → test i ≡ false

-- it passes at each position of the window that lies before `next` and not before `from`
pub record IsFilled (window : Pair) (test : ℕ → Bool) (next from : ℕ) : Type 0 where
  pub passes : (i : ℕ) → window.begin ≤ i → from ≤ i → i < next → test i ≡ true

-- q passes the positions from b on up to e, and agrees with p at the others
pub record Adds (p q : ℕ → Bool) (b e : ℕ) : Type 0 where
  pub run : (i : ℕ) → b ≤ i → i < e → q i ≡ true
  pub before : (i : ℕ) → i < b → q i ≡ p i
  pub behind : (i : ℕ) → e ≤ i → q i ≡ p i

-- two tests that agree in the window
pub IsSwept-agree : (window : Pair) (p q : ℕ → Bool) (count next : ℕ) → ((i : ℕ) → window.begin ≤ i → i < window.end → q i ≡ p i) → IsSwept window p count next → IsSwept window q count next
IsSwept-agree window p q count next same s = record {
  counted = s.counted ∙ sym (count_by-agree p q window.begin (window.end - window.begin) (λ i l u. same i l (omega (arith, s.low, s.high))));
  low = s.low;
  high = s.high;
  few = s.few;
  ahead = λ i l u. same i (omega (arith, s.low)) u ∙ s.ahead i l u;
}

pub IsFilled-agree : (window : Pair) (p q : ℕ → Bool) (next from : ℕ) → next ≤ window.end → ((i : ℕ) → window.begin ≤ i → i < window.end → q i ≡ p i) → IsFilled window p next from → IsFilled window q next from
IsFilled-agree window p q next from high same f = record {
  passes = λ i l k u. same i l (omega arith) ∙ f.passes i l k u;
}

module _ (window : Pair) (p q : ℕ → Bool) (count next b e : ℕ) (s : IsSwept window p count next) (f : IsFilled window p next b) (a : Adds p q b e) where
  -- up to `next` the run adds nothing
  same_before : (i : ℕ) → window.begin ≤ i → i < next → q i ≡ p i
  same_before i l u = ⊎_elim
      (λ (front : i < b). a.before i front)
      (λ (at : b ≤ i). ⊎_elim (λ (within : i < e). a.run i at within ∙ sym (f.passes i l at u)) (λ (past : e ≤ i). a.behind i past) (cases_lt i e))
      (cases_lt i b)

  -- a run that has something to add
  pub IsSwept-taken : max b next < min e window.end → IsSwept window q (count + (min e window.end - max b next)) (min e window.end)
  IsSwept-taken some =
      let fills : Fills p q window.begin (window.end - window.begin) (max b next) (min e window.end) = record {
        before = λ i l u. ⊎_elim (λ (front : i < next). same_before i l front) (λ (at : next ≤ i). a.before i (omega arith)) (cases_lt i next);
        new = λ i l u. s.ahead i (omega arith) (omega arith);
        filled = λ i l u. a.run i (omega arith) (omega arith);
        behind = λ i l u. a.behind i (omega (arith, s.low, s.high));
      } in
      let more : count_by q (positions window) ≡ count_by p (positions window) + (min e window.end - max b next) =
      count_by-filled p q window.begin (window.end - window.begin) (max b next) (min e window.end) (omega (arith, s.low)) (omega arith) (omega (arith, s.low, s.high)) fills in
      record {
        counted = omega (arith, s.counted, more);
        low = omega (arith, s.low);
        high = omega arith;
        few = omega (arith, s.few);
        ahead = λ i l u. a.behind i (omega arith) ∙ s.ahead i (omega arith) u;
      }

  pub IsFilled-taken : max b next < min e window.end → (from : ℕ) → b ≤ from → IsFilled window q (min e window.end) from
  IsFilled-taken some from later = record { passes = λ i l k u. a.run i (omega arith) (omega arith) }

  same_passed : min e window.end ≤ max b next → (i : ℕ) → window.begin ≤ i → i < window.end → q i ≡ p i
  same_passed none i l u = ⊎_elim
      (λ (front : i < next). same_before i l front)
      (λ (at : next ≤ i). ⊎_elim (λ (early : i < b). a.before i early) (λ (reached : b ≤ i). a.behind i (omega arith)) (cases_lt i b))
      (cases_lt i next)

  -- a run that has nothing to add
  pub IsSwept-passed : min e window.end ≤ max b next → IsSwept window q count next
  IsSwept-passed none = IsSwept-agree window p q count next (same_passed none) s

  pub IsFilled-passed : min e window.end ≤ max b next → (from : ℕ) → IsFilled window p next from → IsFilled window q next from
  IsFilled-passed none from g = IsFilled-agree window p q next from s.high (same_passed none) g
