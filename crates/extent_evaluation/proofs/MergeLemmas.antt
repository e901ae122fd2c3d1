-- two lists in one
use Rattle.std.proofs.Common.{◌≡◌, ℕ, ◌≤◌, ◌⊎◌, inl, inr, ⊎_elim, Bool, true, false, cond, List, [], ◌∷◌, ◌++◌, length, take, drop, refl, sym, ◌∙◌, arith}
use Rattle.std.proofs.lemmas.List.{drop_all, append-nil, take-append-drop}
use Rattle.std.proofs.lemmas.Bool.Decides.{nat_tests}
use Rattle.ri_base.specs.Pair.{Pair}
use Rattle.extent_lists.specs.Listing.{IsBefore}
use Rattle.extent_lists.specs.Operators.{IsInSome}
use Rattle.extent_lists.specs.Rows.{Has, IsAscending, IsBeforeAll, Lists, is_earlier, sets}

-- x goes to its place in the second list, and `later` has what follows
abbrev pub merge_into : Pair → List Pair → (List Pair → List Pair) → List Pair → List Pair
merge_into x xs later [] = x ∷ xs
merge_into x xs later (y ∷ ys) =
    cond (is_earlier x y) (x ∷ later (y ∷ ys)) (cond (is_earlier y x) (y ∷ merge_into x xs later ys) (x ∷ later ys))

-- both lists in one, each extent once
abbrev pub merge : List Pair → List Pair → List Pair
merge [] ys = ys
merge (x ∷ xs) ys = merge_into x xs (merge xs) ys

merge-nil : (xs : List Pair) → merge xs [] ≡ xs
merge-nil [] = refl
merge-nil (x ∷ xs) = refl

-- once one list has ended, the other follows as it is
pub merge-ended : (xs ys : List Pair) (i j : ℕ) → (length xs ≤ i) ⊎ (length ys ≤ j) → merge (drop i xs) (drop j ys) ≡ drop i xs ++ drop j ys
merge-ended xs ys i j = ⊎_elim
    (λ h. rw (drop_all i xs h) refl)
    (λ h. rw (drop_all j ys h) (merge-nil (drop i xs) ∙ sym (append-nil (drop i xs))))

pub IsBefore-trans : (x y z : Pair) → IsBefore x y → IsBefore y z → IsBefore x z
IsBefore-trans x y z p q = grind arith

pub IsBeforeAll-trans : (x y : Pair) (ys : List Pair) → IsBefore x y → IsBeforeAll y ys → IsBeforeAll x ys
IsBeforeAll-trans x y [] p q = tt
IsBeforeAll-trans x y (z ∷ zs) p q = (IsBefore-trans x y z p q.0, IsBeforeAll-trans x y zs p q.1)

is_earlier-true : (x y : Pair) → is_earlier x y ≡ true → IsBefore x y
is_earlier-true x y h = grind (arith, nat_tests)

is_earlier-neither : (x y : Pair) → is_earlier x y ≡ false → is_earlier y x ≡ false → (x.begin ≡ y.begin) × (x.end ≡ y.end)
is_earlier-neither x y h k = grind (arith, nat_tests)

-- the third list has the extents of both, in order
record IsMerge (xs ys zs : List Pair) : Type 0 where
  before : (z : Pair) → IsBeforeAll z xs → IsBeforeAll z ys → IsBeforeAll z zs
  ascending : IsAscending zs
  only : (b e : ℕ) → Has zs b e → Has xs b e ⊎ Has ys b e
  left : (b e : ℕ) → Has xs b e → Has zs b e
  right : (b e : ℕ) → Has ys b e → Has zs b e

module _ (x : Pair) (xs : List Pair) (later : List Pair → List Pair) (merges_later : (ys : List Pair) → IsAscending ys → IsMerge xs ys (later ys)) (up : IsAscending (x ∷ xs)) where
  first : (y : Pair) (ys : List Pair) → IsAscending (y ∷ ys) → IsBefore x y → IsMerge (x ∷ xs) (y ∷ ys) (x ∷ later (y ∷ ys))
  first y ys up_y lower =
      let m = merges_later (y ∷ ys) up_y in
      record {
        before = λ z u v. (u.0, m.before z u.1 v);
        ascending = (m.before x up.0 (lower, IsBeforeAll-trans x y ys lower up_y.0), m.ascending);
        only = λ b e. ⊎_elim (λ h. inl (inl h)) (λ h. ⊎_elim (λ k. inl (inr k)) (λ k. inr k) (m.only b e h));
        left = λ b e. ⊎_elim (λ h. inl h) (λ h. inr (m.left b e h));
        right = λ b e h. inr (m.right b e h);
      }

  second : (y : Pair) (ys zs : List Pair) → IsAscending (y ∷ ys) → IsBefore y x → IsMerge (x ∷ xs) ys zs → IsMerge (x ∷ xs) (y ∷ ys) (y ∷ zs)
  second y ys zs up_y lower m =
      record {
        before = λ z u v. (v.0, m.before z u v.1);
        ascending = (m.before y (lower, IsBeforeAll-trans y x xs lower up.0) up_y.0, m.ascending);
        only = λ b e. ⊎_elim (λ h. inr (inl h)) (λ h. ⊎_elim (λ k. inl k) (λ k. inr (inr k)) (m.only b e h));
        left = λ b e h. inr (m.left b e h);
        right = λ b e. ⊎_elim (λ h. inl h) (λ h. inr (m.right b e h));
      }

  both : (y : Pair) (ys : List Pair) → IsAscending (y ∷ ys) → (x.begin ≡ y.begin) × (x.end ≡ y.end) → IsMerge (x ∷ xs) (y ∷ ys) (x ∷ later ys)
  both y ys up_y same =
      let m = merges_later ys up_y.1 in
      record {
        before = λ z u v. (u.0, m.before z u.1 v.1);
        ascending = (m.before x up.0 (alike ys up_y.0), m.ascending);
        only = λ b e. ⊎_elim (λ h. inl (inl h)) (λ h. ⊎_elim (λ k. inl (inr k)) (λ k. inr (inr k)) (m.only b e h));
        left = λ b e. ⊎_elim (λ h. inl h) (λ h. inr (m.left b e h));
        right = λ b e. ⊎_elim (λ h. inl (cc, cc)) (λ h. inr (m.right b e h));
      }
    where
      alike : (zs : List Pair) → IsBeforeAll y zs → IsBeforeAll x zs
      alike [] h = tt
      alike (z ∷ zs) h = (grind arith, alike zs h.1)

  chosen : (y : Pair) (ys : List Pair) → IsAscending (y ∷ ys) → IsMerge (x ∷ xs) ys (merge_into x xs later ys) → (p q : Bool) → is_earlier x y ≡ p → is_earlier y x ≡ q → IsMerge (x ∷ xs) (y ∷ ys) (cond p (x ∷ later (y ∷ ys)) (cond q (y ∷ merge_into x xs later ys) (x ∷ later ys)))
  chosen y ys up_y rest true q e f = first y ys up_y (is_earlier-true x y e)
  chosen y ys up_y rest false true e f = second y ys _ up_y (is_earlier-true y x f) rest
  chosen y ys up_y rest false false e f = both y ys up_y (is_earlier-neither x y e f)

  into : (ys : List Pair) → IsAscending ys → IsMerge (x ∷ xs) ys (merge_into x xs later ys)
  into [] up_y = record {
    before = λ z u v. u;
    ascending = up;
    only = λ b e h. inl h;
    left = λ b e h. h;
    right = λ b e h. absurd h;
  }
  into (y ∷ ys) up_y = chosen y ys up_y (into ys up_y.1) (is_earlier x y) (is_earlier y x) refl refl

merges : (xs ys : List Pair) → IsAscending xs → IsAscending ys → IsMerge xs ys (merge xs ys)
merges [] ys up_x up_y = record {
  before = λ z u v. v;
  ascending = up_y;
  only = λ b e h. inr h;
  left = λ b e h. absurd h;
  right = λ b e h. h;
}
merges (x ∷ xs) ys up_x up_y = into x xs (merge xs) (λ zs up_z. merges xs zs up_x.1 up_z) up_x ys up_y

pub Lists-merge : (xs ys zs : List Pair) → IsAscending xs → IsAscending ys → zs ≡ merge xs ys → Lists (λ b e. Has xs b e ⊎ Has ys b e) zs
Lists-merge xs ys zs up_x up_y is =
    let m = merges xs ys up_x up_y in
    rw is (record {
      ascending = m.ascending;
      only = m.only;
      all = λ b e. ⊎_elim (λ k. m.left b e k) (λ k. m.right b e k);
    })

-- ---- several lists

sets-append : (ls ms : List (List Pair)) (b e : ℕ) → IsInSome (sets (ls ++ ms)) b e → IsInSome (sets ls) b e ⊎ IsInSome (sets ms) b e
sets-append [] ms b e h = inr h
sets-append (l ∷ ls) ms b e h = ⊎_elim (λ k. inl (inl k)) (λ k. ⊎_elim (λ u. inl (inr u)) (λ u. inr u) (sets-append ls ms b e k)) h

sets-front : (ls ms : List (List Pair)) (b e : ℕ) → IsInSome (sets ls) b e → IsInSome (sets (ls ++ ms)) b e
sets-front [] ms b e h = absurd h
sets-front (l ∷ ls) ms b e h = ⊎_elim (λ k. inl k) (λ k. inr (sets-front ls ms b e k)) h

sets-back : (ls ms : List (List Pair)) (b e : ℕ) → IsInSome (sets ms) b e → IsInSome (sets (ls ++ ms)) b e
sets-back [] ms b e h = h
sets-back (l ∷ ls) ms b e h = inr (sets-back ls ms b e h)

-- the lists of a front and of what follows it
pub union_halves : (ls : List (List Pair)) (n : ℕ) (xs ys zs : List Pair) → Lists (IsInSome (sets (take n ls))) xs → Lists (IsInSome (sets (drop n ls))) ys → Lists (λ b e. Has xs b e ⊎ Has ys b e) zs → Lists (IsInSome (sets ls)) zs
union_halves ls n xs ys zs l r m = record {
  ascending = m.ascending;
  only = λ b e h. whole b e (⊎_elim (λ k. sets-front _ _ b e (l.only b e k)) (λ k. sets-back (take n ls) _ b e (r.only b e k)) (m.only b e h));
  all = λ b e h. m.all b e (⊎_elim (λ k. inl (l.all b e k)) (λ k. inr (r.all b e k)) (sets-append (take n ls) (drop n ls) b e (parts b e h)));
}
  where
    whole : (b e : ℕ) → IsInSome (sets (take n ls ++ drop n ls)) b e → IsInSome (sets ls) b e
    whole b e h = rw take-append-drop at h

    parts : (b e : ℕ) → IsInSome (sets ls) b e → IsInSome (sets (take n ls ++ drop n ls)) b e
    parts b e h = rw take-append-drop h
