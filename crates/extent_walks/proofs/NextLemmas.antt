-- the least extent of a set from a place on
use Rattle.std.proofs.Common.{◌≡◌, ◌↔◌, ℕ, ◌+◌, ◌-◌, ◌*◌, ◌<◌, ◌≤◌, ◌⊎◌, inl, inr, ⊎_elim, Bool, true, false, cond, max, Option, Some, None, List, [], ◌∷◌, nat_lt, refl, sym, ◌∙◌, ap, subst, arith}
use Rattle.std.proofs.lemmas.Bool.Decides.{nat_tests}
use Rattle.ri_base.specs.Pair.{Pair}
use Rattle.extent_lists.specs.Rows.{least_with}
use Rattle.extent_walks.specs.Next.{EndsFrom, IsFrom, IsLeast, IsLeastBelow, IsNext, earlier, is_from, least_either}
use Rattle.extent_lists.specs.Plans.{LiesInSome}
use Rattle.extent_lists.specs.Operators.{Follows, HasEach, HasEachInside, HasInside, IsInSome, IsLeastEnd, IsWindow, Joins}
use Rattle.extent_lists.specs.Rows.{is_earlier}
use Rattle.extent_walks.specs.Shapes.{AreMonotone, HaveOneEnd}
use Rattle.extent_lists.proofs.RowLemmas.{least_with-is, least_with-old, least_with-some}

pub never : {X : Type 0} {x : X} → None ≡ Some x → ⊥
never h = cc

same_some : {X : Type 0} {p q : X} → Some p ≡ Some q → p ≡ q
same_some h = cc

pub is_from-true : (p q b e : ℕ) → is_from p q b e ≡ true → IsFrom p q b e
is_from-true p q b e h = grind (arith, nat_tests)

pub is_from-false : (p q b e : ℕ) → is_from p q b e ≡ false → IsFrom p q b e → ⊥
is_from-false p q b e h k = grind (arith, nat_tests)

IsFrom-trans : (a b c d x y : ℕ) → IsFrom a b c d → IsFrom c d x y → IsFrom a b x y
IsFrom-trans a b c d x y p q = grind arith

pub IsFrom-begin : (a b x y : ℕ) → IsFrom a b x y → a ≤ x
IsFrom-begin a b x y p = grind arith

pub IsFrom-here : (a b x y : ℕ) → IsFrom a b x y → x ≡ a → b ≤ y
IsFrom-here a b x y p e = grind arith

pub IsFrom-end : (a b y : ℕ) → IsFrom a b a y → b ≤ y
IsFrom-end a b y p = grind arith

IsFrom-low : (a x y : ℕ) → a ≤ x → IsFrom a 0 x y
IsFrom-low a x y h = grind arith

-- what is least from a place on is so from each place up to it
pub IsNext-later : (R : ℕ → ℕ → Type 0) (begin end b e : ℕ) (found : Option Pair) → IsNext R begin end found → IsFrom begin end b e → ((x : Pair) → found ≡ Some x → IsFrom b e x.begin x.end) → IsNext R b e found
IsNext-later R begin end b e found h later from = record {
  only = λ x is. ((h.only x is).0, from x is);
  least = λ x y r f. h.least x y r (IsFrom-trans begin end b e x y later f);
}

pub IsNext-at_begin : (R : ℕ → ℕ → Type 0) (low : ℕ) (x : Pair) → IsNext R low 0 (Some x) → IsNext R x.begin 0 (Some x)
IsNext-at_begin R low x h = IsNext-later R low 0 x.begin 0 (Some x) h (IsFrom-low low x.begin 0 (IsFrom-begin low 0 x.begin x.end (h.only x refl).1)) (λ y is.
    let same : x ≡ y = same_some is in
    IsFrom-low x.begin y.begin y.end (omega (arith, ap (λ (v : Pair). v.begin) same)))

pub IsNext-begin : (R : ℕ → ℕ → Type 0) (low : ℕ) (x : Pair) → IsNext R low 0 (Some x) → low ≤ x.begin
IsNext-begin R low x h = IsFrom-begin low 0 x.begin x.end (h.only x refl).1

-- where the one extent of a begin ends before the place, the next is that from the next begin on
pub IsNext-next_begin : (R : ℕ → ℕ → Type 0) (begin end : ℕ) (x : Pair) (found : Option Pair) → HaveOneEnd R → R x.begin x.end → x.begin ≡ begin → x.end < end → IsNext R (x.begin + 1) 0 found → IsNext R begin end found
IsNext-next_begin R begin end x found one r is ends h = record {
  only = λ y same. let w = h.only y same in (w.0, inl (omega (arith, is, IsFrom-begin (x.begin + 1) 0 y.begin y.end w.1)));
  least = λ b e s f. h.least b e s (IsFrom-low (x.begin + 1) b e (⊎_elim (λ k. omega (arith, is, k)) (λ k. passed b e s k.0 k.1) f));
}
  where
    passed : (b e : ℕ) → R b e → begin ≡ b → end ≤ e → x.begin + 1 ≤ b
    passed b e s same behind =
        let here : R x.begin e = subst (λ (v : ℕ). R v e) (sym (is ∙ same)) s in
        absurd (omega (arith, one x.begin x.end e r here, ends, behind))

-- of two sets that are the same
pub IsNext-same : (R S : ℕ → ℕ → Type 0) → ((b e : ℕ) → R b e ↔ S b e) → (begin end : ℕ) (found : Option Pair) → IsNext S begin end found → IsNext R begin end found
IsNext-same R S same begin end found h = record {
  only = λ x is. let w = h.only x is in ((same x.begin x.end).1 w.0, w.1);
  least = λ b e r f. h.least b e ((same b e).0 r) f;
}

-- ---- any of two sets

earlier-is : (o p : Option Pair) (x : Pair) → earlier o p ≡ Some x → (o ≡ Some x) ⊎ (p ≡ Some x)
earlier-is None p x h = inr h
earlier-is (Some y) None x h = inl h
earlier-is (Some y) (Some z) x h = by (is_earlier z y) refl h
  where
    by : (v : Bool) → is_earlier z y ≡ v → cond v (Some z) (Some y) ≡ Some x → (Some y ≡ Some x) ⊎ (Some z ≡ Some x)
    by true e h = inr h
    by false e h = inl h

earlier-left : (o p : Option Pair) (x : Pair) → o ≡ Some x → (z : Pair) × (earlier o p ≡ Some z) × IsFrom z.begin z.end x.begin x.end
earlier-left None p x h = absurd (never h)
earlier-left (Some y) None x h = (x, h, inr (refl, omega arith))
earlier-left (Some y) (Some z) x h =
    let e : y ≡ x = cc in
    subst (λ (w : Pair). (v : Pair) × (earlier (Some y) (Some z) ≡ Some v) × IsFrom v.begin v.end w.begin w.end) e (by (is_earlier z y) refl)
  where
    by : (v : Bool) → is_earlier z y ≡ v → (w : Pair) × (cond v (Some z) (Some y) ≡ Some w) × IsFrom w.begin w.end y.begin y.end
    by true e = (z, refl, grind (arith, nat_tests))
    by false e = (y, refl, inr (refl, omega arith))

earlier-right : (o p : Option Pair) (x : Pair) → p ≡ Some x → (z : Pair) × (earlier o p ≡ Some z) × IsFrom z.begin z.end x.begin x.end
earlier-right None p x h = (x, h, inr (refl, omega arith))
earlier-right (Some y) None x h = absurd (never h)
earlier-right (Some y) (Some z) x h =
    let e : z ≡ x = cc in
    subst (λ (w : Pair). (v : Pair) × (earlier (Some y) (Some z) ≡ Some v) × IsFrom v.begin v.end w.begin w.end) e (by (is_earlier z y) refl)
  where
    by : (v : Bool) → is_earlier z y ≡ v → (w : Pair) × (cond v (Some z) (Some y) ≡ Some w) × IsFrom w.begin w.end z.begin z.end
    by true e = (z, refl, inr (refl, omega arith))
    by false e = (y, refl, grind (arith, nat_tests))

pub IsNext-none : (begin end : ℕ) → IsNext (IsInSome []) begin end None
IsNext-none begin end = record {
  only = λ x h. absurd (never h);
  least = λ b e r f. absurd r;
}

pub IsNext-either : (R : ℕ → ℕ → Type 0) (ss : List (ℕ → ℕ → Type 0)) (begin end : ℕ) (o p : Option Pair) → IsNext R begin end o → IsNext (IsInSome ss) begin end p → IsNext (IsInSome (R ∷ ss)) begin end (earlier o p)
IsNext-either R ss begin end o p h k = record {
  only = λ x is. ⊎_elim
      (λ u. let w = h.only x u in (inl w.0, w.1))
      (λ u. let w = k.only x u in (inr w.0, w.1))
      (earlier-is o p x is);
  least = λ b e r f. ⊎_elim
      (λ u. let w = h.least b e u f in let v = earlier-left o p w.0 w.1 in (v.0, v.1, IsFrom-trans _ _ w.0.begin w.0.end _ _ v.2 w.2))
      (λ u. let w = k.least b e u f in let v = earlier-right o p w.0 w.1 in (v.0, v.1, IsFrom-trans _ _ w.0.begin w.0.end _ _ v.2 w.2))
      r;
}

-- ---- those that lie in a field

module _ (R : ℕ → ℕ → Type 0) (fields : List Pair) (begin end : ℕ) where
  abbrev Inner : ℕ → ℕ → Type 0
  Inner b e = R b e × LiesInSome fields b e

  -- none lies between the place and this one
  pub record IsPassed (b e : ℕ) : Type 0 where
    pub behind : IsFrom begin end b e
    pub none : (x y : ℕ) → Inner x y → IsFrom begin end x y → IsFrom b e x y

  pub IsPassed-first : IsPassed begin end
  IsPassed-first = record { behind = inr (refl, omega arith); none = λ x y r f. f }

  pub IsPassed-over : (b e : ℕ) (x : Pair) → IsPassed b e → IsNext R b e (Some x) → (LiesInSome fields x.begin x.end → ⊥) → IsPassed x.begin (x.end + 1)
  IsPassed-over b e x p h out = record {
    behind = IsFrom-trans begin end x.begin x.end x.begin (x.end + 1) (IsFrom-trans begin end b e x.begin x.end p.behind (h.only x refl).1) (inr (refl, omega arith));
    none = λ y z r f.
        let w = h.least y z r.0 (p.none y z r f) in
        let is : w.0 ≡ x = cc in
        let from : IsFrom x.begin x.end y z = subst (λ (v : Pair). IsFrom v.begin v.end y z) is w.2 in
        past y z from r.1;
  }
    where
      past : (y z : ℕ) → IsFrom x.begin x.end y z → LiesInSome fields y z → IsFrom x.begin (x.end + 1) y z
      past y z f lies = ⊎_elim
          (λ k. inl k)
          (λ k. by (nat_lt x.end z) refl k)
          f
        where
          by : (v : Bool) → nat_lt x.end z ≡ v → (x.begin ≡ y) × (x.end ≤ z) → IsFrom x.begin (x.end + 1) y z
          by true j k = inr (k.0, grind (arith, nat_tests))
          by false j k =
              let ends : z ≡ x.end = grind (arith, nat_tests) in
              absurd (out (subst (λ (v : ℕ). LiesInSome fields v x.end) (sym k.0) (subst (λ (v : ℕ). LiesInSome fields y v) ends lies)))

  pub IsNext-within : (b e : ℕ) (x : Pair) → IsPassed b e → IsNext R b e (Some x) → LiesInSome fields x.begin x.end → IsNext Inner begin end (Some x)
  IsNext-within b e x p h lies = record {
    only = λ y is.
        let same : x ≡ y = cc in
        subst (λ (v : Pair). Inner v.begin v.end × IsFrom begin end v.begin v.end) same (((h.only x refl).0, lies), IsFrom-trans begin end b e x.begin x.end p.behind (h.only x refl).1);
    least = λ y z r f. h.least y z r.0 (p.none y z r f);
  }

  pub IsNext-none_within : (b e : ℕ) → IsPassed b e → IsNext R b e None → IsNext Inner begin end None
  IsNext-none_within b e p h = record {
    only = λ y is. absurd (never is);
    least = λ y z r f. absurd (never (h.least y z r.0 (p.none y z r f)).1);
  }

-- ---- the least end for each begin

-- no extent of a least end begins from the place on and before `low`
abbrev pub AreLow : (ℕ → ℕ → Type 0) → ℕ → ℕ → ℕ → Type 0
AreLow Raw begin end low = (b e : ℕ) → IsLeastEnd Raw b e → IsFrom begin end b e → low ≤ b

module _ (Raw First : ℕ → ℕ → Type 0) (starts : (b e : ℕ) → Raw b e → (t : ℕ) × First b t) (begin end : ℕ) where
  pub AreLow-first : AreLow Raw begin end begin
  AreLow-first b e r f = IsFrom-begin begin end b e f

  begins_behind : (low : ℕ) (x : Pair) (b e : ℕ) → IsNext First low 0 (Some x) → Raw b e → low ≤ b → x.begin ≤ b
  begins_behind low x b e h r lower =
      let t = starts b e r in
      let w = h.least b t.0 t.1 (IsFrom-low low b t.0 lower) in
      let is : w.0 ≡ x = same_some (sym w.1) in
      IsFrom-begin x.begin x.end b t.0 (subst (λ (v : Pair). IsFrom v.begin v.end b t.0) is w.2)

  pub AreLow-over : (low : ℕ) (x : Pair) (least : Option ℕ) → AreLow Raw begin end low → IsNext First low 0 (Some x) → IsLeast (Raw x.begin) least → ((e : ℕ) → least ≡ Some e → IsFrom begin end x.begin e → ⊥) → AreLow Raw begin end (x.begin + 1)
  AreLow-over low x least a h l out b e r f = by (nat_lt x.begin b) refl
    where
      by : (v : Bool) → nat_lt x.begin b ≡ v → x.begin + 1 ≤ b
      by true j = grind (arith, nat_tests)
      by false j =
          let behind = begins_behind low x b e h r.ends (a b e r f) in
          let is : b ≡ x.begin = grind (arith, nat_tests, behind) in
          let w = l.least e (subst (λ (v : ℕ). Raw v e) is r.ends) in
          let least_here : e ≤ w.0 = r.least w.0 (subst (λ (v : ℕ). Raw v w.0) (sym is) (l.only w.0 w.1)) in
          let ends : e ≡ w.0 = omega (arith, w.2) in
          absurd (out w.0 w.1 (subst (λ (v : ℕ). IsFrom begin end x.begin v) ends (subst (λ (v : ℕ). IsFrom begin end v e) is f)))

  pub IsNext-least : (low : ℕ) (x z : Pair) (least : Option ℕ) → AreLow Raw begin end low → IsNext First low 0 (Some x) → IsLeast (Raw x.begin) least → z.begin ≡ x.begin → least ≡ Some z.end → IsFrom begin end x.begin z.end → IsNext (IsLeastEnd Raw) begin end (Some z)
  IsNext-least low x z least a h l begins ends from = record {
    only = λ y is.
        let same : z ≡ y = same_some is in
        subst (λ (v : Pair). IsLeastEnd Raw v.begin v.end × IsFrom begin end v.begin v.end) same (here, subst (λ (v : ℕ). IsFrom begin end v z.end) (sym begins) from);
    least = λ b e r f. (z, refl, subst (λ (v : ℕ). IsFrom v z.end b e) (sym begins) (no_later b e r f));
  }
    where
      here : IsLeastEnd Raw z.begin z.end
      here = subst (λ (v : ℕ). IsLeastEnd Raw v z.end) (sym begins) (record {
        ends = l.only z.end ends;
        least = λ other r.
            let w = l.least other r in
            let is : z.end ≡ w.0 = same_some (sym ends ∙ w.1) in
            omega (arith, is, w.2);
      })

      no_later : (b e : ℕ) → IsLeastEnd Raw b e → IsFrom begin end b e → IsFrom x.begin z.end b e
      no_later b e r f = by (nat_lt x.begin b) refl
        where
          by : (v : Bool) → nat_lt x.begin b ≡ v → IsFrom x.begin z.end b e
          by true j = inl (grind (arith, nat_tests))
          by false j =
              let behind = begins_behind low x b e h r.ends (a b e r f) in
              let is : x.begin ≡ b = grind (arith, nat_tests, behind) in
              let w = l.least e (subst (λ (v : ℕ). Raw v e) (sym is) r.ends) in
              let same : z.end ≡ w.0 = same_some (sym ends ∙ w.1) in
              inr (is, omega (arith, same, w.2))

  pub IsNext-no_least : (low : ℕ) → AreLow Raw begin end low → IsNext First low 0 None → IsNext (IsLeastEnd Raw) begin end None
  IsNext-no_least low a h = record {
    only = λ y is. absurd (never is);
    least = λ b e r f.
        let t = starts b e r.ends in
        absurd (never (h.least b t.0 t.1 (IsFrom-low low b t.0 (a b e r f))).1);
  }

-- the first of its begin has the least end
pub IsLeast-first : (R : ℕ → ℕ → Type 0) (low : ℕ) (x : Pair) → IsNext R low 0 (Some x) → IsLeast (R x.begin) (Some x.end)
IsLeast-first R low x h = record {
  only = λ m is. subst (λ (v : ℕ). R x.begin v) (same_some is) (h.only x refl).0;
  least = λ e r.
      let w = h.least x.begin e r (IsFrom-low low x.begin e (IsFrom-begin low 0 x.begin x.end (h.only x refl).1)) in
      let is : w.0 ≡ x = same_some (sym w.1) in
      (x.end, refl, IsFrom-end x.begin x.end e (subst (λ (v : Pair). IsFrom v.begin v.end x.begin e) is w.2));
}

-- how much of the places lies ahead falls from place to place
pub place_falls : (begin end b e : ℕ) → IsFrom begin end b e → b < 4294967296 → e + 1 < 18446744073709551616 → (4294967296 - b) * 18446744073709551616 + (18446744073709551616 - (e + 1)) < (4294967296 - begin) * 18446744073709551616 + (18446744073709551616 - end)
place_falls begin end b e f p q = ⊎_elim (λ k. omega (arith, k, p, q)) (λ k. omega (arith, k.0, k.1, p, q)) f

-- ---- the least end of a range of begins

-- the least end so far: of the begins below `begin`
pub record IsLeastSoFar (R : ℕ → ℕ → Type 0) (low top begin : ℕ) (least : Option ℕ) : Type 0 where
  pub from : low ≤ begin
  pub only : (m : ℕ) → least ≡ Some m → EndsFrom R low top m
  pub least_is : (b e : ℕ) → low ≤ b → b < begin → R b e → (m : ℕ) × (least ≡ Some m) × (m ≤ e)

module _ (R : ℕ → ℕ → Type 0) (some : (b e : ℕ) → R b e → b < e) (low top : ℕ) where
  pub IsLeastSoFar-none : IsLeastSoFar R low top low None
  IsLeastSoFar-none = record {
    from = omega arith;
    only = λ m h. absurd (never h);
    least_is = λ b e p q r. absurd (omega (arith, p, q));
  }

  pub IsLeastSoFar-more : (begin : ℕ) (least : Option ℕ) (x : Pair) → IsLeastSoFar R low top begin least → IsNext R begin 0 (Some x) → x.begin < top → IsLeastSoFar R low top (x.begin + 1) (least_with x.end least)
  IsLeastSoFar-more begin least x l h inside =
      let begins = IsFrom-begin begin 0 x.begin x.end (h.only x refl).1 in
      record {
        from = omega (arith, begins, l.from);
        only = λ m is. ⊎_elim
            (λ k. (x.begin, omega (arith, begins, l.from), inside, subst (λ (v : ℕ). R x.begin v) k (h.only x refl).0))
            (λ k. l.only m k)
            (least_with-is x.end least m is);
        least_is = λ b e p q r. by b e p q r (nat_lt b begin) refl;
      }
    where
      by : (b e : ℕ) → low ≤ b → b < x.begin + 1 → R b e → (v : Bool) → nat_lt b begin ≡ v → (m : ℕ) × (least_with x.end least ≡ Some m) × (m ≤ e)
      by b e p q r true j =
          let w = l.least_is b e p (grind (arith, nat_tests)) r in
          let u = least_with-old x.end least w.0 w.1 in
          (u.0, u.1, omega (arith, u.2, w.2))
      by b e p q r false j =
          let w = h.least b e r (IsFrom-low begin b e (grind (arith, nat_tests))) in
          let is : w.0 ≡ x = same_some (sym w.1) in
          let from : IsFrom x.begin x.end b e = subst (λ (v : Pair). IsFrom v.begin v.end b e) is w.2 in
          let u = least_with-some x.end least in
          (u.0, u.1, omega (arith, u.2, ends b e q from))
        where
          ends : (b e : ℕ) → b < x.begin + 1 → IsFrom x.begin x.end b e → x.end ≤ e
          ends b e q f = grind arith

  -- no later begin has a lesser end
  pub IsLeast-so_far : (begin : ℕ) (least : Option ℕ) → IsLeastSoFar R low top begin least → ((b e : ℕ) → begin ≤ b → b < top → R b e → (m : ℕ) × (least ≡ Some m) × (m ≤ e)) → IsLeast (EndsFrom R low top) least
  IsLeast-so_far begin least l others = record {
    only = l.only;
    least = λ e h. by e h (nat_lt h.0 begin) refl;
  }
    where
      by : (e : ℕ) (h : EndsFrom R low top e) → (v : Bool) → nat_lt h.0 begin ≡ v → (m : ℕ) × (least ≡ Some m) × (m ≤ e)
      by e h true j = l.least_is h.0 e h.1 (grind (arith, nat_tests)) h.3
      by e h false j = others h.0 e (grind (arith, nat_tests)) h.2 h.3

  pub IsLeast-at_top : (begin : ℕ) (least : Option ℕ) → IsLeastSoFar R low top begin least → top ≤ begin → IsLeast (EndsFrom R low top) least
  IsLeast-at_top begin least l past = IsLeast-so_far begin least l (λ b e p q r. absurd (omega (arith, p, q, past)))

  pub IsLeast-short : (begin : ℕ) (least : Option ℕ) (m : ℕ) → IsLeastSoFar R low top begin least → least ≡ Some m → m ≤ begin → IsLeast (EndsFrom R low top) least
  IsLeast-short begin least m l is short = IsLeast-so_far begin least l (λ b e p q r. (m, is, omega (arith, p, some b e r, short)))

  pub IsLeast-ended : (begin : ℕ) (least : Option ℕ) → IsLeastSoFar R low top begin least → IsNext R begin 0 None → IsLeast (EndsFrom R low top) least
  IsLeast-ended begin least l h = IsLeast-so_far begin least l (λ b e p q r. absurd (never (h.least b e r (IsFrom-low begin b e p)).1))

  pub IsLeast-beyond : (begin : ℕ) (least : Option ℕ) (x : Pair) → IsLeastSoFar R low top begin least → IsNext R begin 0 (Some x) → top ≤ x.begin → IsLeast (EndsFrom R low top) least
  IsLeast-beyond begin least x l h past = IsLeast-so_far begin least l (λ b e p q r.
      let w = h.least b e r (IsFrom-low begin b e p) in
      let is : w.0 ≡ x = same_some (sym w.1) in
      let from = IsFrom-begin x.begin x.end b e (subst (λ (v : Pair). IsFrom v.begin v.end b e) is w.2) in
      absurd (omega (arith, from, q, past)))

-- where an extent that begins no earlier than another ends no earlier, the first one has the least end
pub IsLeast-first_end : (R : ℕ → ℕ → Type 0) (low top : ℕ) (x : Pair) → AreMonotone R → IsNext R low 0 (Some x) → x.begin < top → IsLeast (EndsFrom R low top) (Some x.end)
IsLeast-first_end R low top x up h inside =
    let w = h.only x refl in
    record {
      only = λ m is. (x.begin, IsFrom-begin low 0 x.begin x.end w.1, inside, subst (λ (v : ℕ). R x.begin v) (same_some is) w.0);
      least = λ e k.
          let u = h.least k.0 e k.3 (IsFrom-low low k.0 e k.1) in
          let is : u.0 ≡ x = same_some (sym u.1) in
          let from = IsFrom-begin x.begin x.end k.0 e (subst (λ (v : Pair). IsFrom v.begin v.end k.0 e) is u.2) in
          (x.end, refl, up x.begin x.end k.0 e w.0 k.3 from);
    }

-- ---- the least end of those that are joined

module _ (n : ℕ) (R S : ℕ → ℕ → Type 0) (begin : ℕ) where
  -- the least end so far: of the first extents of this begin that end below `end`
  pub record IsJoinedSoFar (end : ℕ) (least : Option ℕ) : Type 0 where
    pub only : (m : ℕ) → least ≡ Some m → Joins n R S begin m
    pub least_is : (to from e : ℕ) → to < end → R begin to → Follows n to from → S from e → (m : ℕ) × (least ≡ Some m) × (m ≤ e)

  pub IsJoinedSoFar-none : IsJoinedSoFar 0 None
  IsJoinedSoFar-none = record {
    only = λ m h. absurd (never h);
    least_is = λ to from e p r f s. absurd (omega (arith, p));
  }

  either-is : (o p : Option ℕ) (m : ℕ) → least_either o p ≡ Some m → (o ≡ Some m) ⊎ (p ≡ Some m)
  either-is None p m h = inr h
  either-is (Some v) p m h = ⊎_elim (λ k. inl (ap (λ (u : ℕ). Some u) k)) (λ k. inr k) (least_with-is v p m h)

  either-left : (o p : Option ℕ) (m : ℕ) → o ≡ Some m → (v : ℕ) × (least_either o p ≡ Some v) × (v ≤ m)
  either-left None p m h = absurd (never h)
  either-left (Some u) p m h = let w = least_with-some u p in let is : u ≡ m = same_some h in (w.0, w.1, omega (arith, w.2, is))

  either-right : (o p : Option ℕ) (m : ℕ) → p ≡ Some m → (v : ℕ) × (least_either o p ≡ Some v) × (v ≤ m)
  either-right None p m h = (m, h, omega arith)
  either-right (Some u) p m h = least_with-old u p m h

  pub IsJoinedSoFar-more : (end : ℕ) (least here : Option ℕ) (x : Pair) → IsJoinedSoFar end least → IsNext R begin end (Some x) → x.begin ≡ begin → IsLeast (EndsFrom S x.end (x.end + n)) here → IsJoinedSoFar (x.end + 1) (least_either here least)
  IsJoinedSoFar-more end least here x l h same found = record {
    only = λ m is. ⊎_elim
        (λ k. let w = found.only m k in (x.end, w.0, subst (λ (v : ℕ). R v x.end) same (h.only x refl).0, (w.1, omega (arith, w.2)), w.3))
        (λ k. l.only m k)
        (either-is here least m is);
    least_is = λ to from e p r f s. by to from e p r f s (nat_lt to end) refl;
  }
    where
      by : (to from e : ℕ) → to < x.end + 1 → R begin to → Follows n to from → S from e → (v : Bool) → nat_lt to end ≡ v → (m : ℕ) × (least_either here least ≡ Some m) × (m ≤ e)
      by to from e p r f s true j =
          let w = l.least_is to from e (grind (arith, nat_tests)) r f s in
          let u = either-right here least w.0 w.1 in
          (u.0, u.1, omega (arith, u.2, w.2))
      by to from e p r f s false j =
          let w = h.least begin to r (inr (refl, grind (arith, nat_tests))) in
          let is : w.0 ≡ x = same_some (sym w.1) in
          let behind : IsFrom x.begin x.end begin to = subst (λ (v : Pair). IsFrom v.begin v.end begin to) is w.2 in
          let ends : x.end ≤ to = IsFrom-end begin x.end to (subst (λ (v : ℕ). IsFrom v x.end begin to) same behind) in
          let t : to ≡ x.end = omega (arith, p, ends) in
          let least_here = found.least e (from, omega (arith, t, f.0), omega (arith, t, f.1), s) in
          let u = either-left here least least_here.0 least_here.1 in
          (u.0, u.1, omega (arith, u.2, least_here.2))

  IsLeast-joined : (end : ℕ) (least : Option ℕ) → IsJoinedSoFar end least → ((to : ℕ) → R begin to → end ≤ to → ⊥) → IsLeast (Joins n R S begin) least
  IsLeast-joined end least l others = record {
    only = l.only;
    least = λ e h. by e h (nat_lt h.0 end) refl;
  }
    where
      by : (e : ℕ) (h : Joins n R S begin e) → (v : Bool) → nat_lt h.0 end ≡ v → (m : ℕ) × (least ≡ Some m) × (m ≤ e)
      by e h true j = l.least_is h.0 h.1 e (grind (arith, nat_tests)) h.2 h.3 h.4
      by e h false j = absurd (others h.0 h.2 (grind (arith, nat_tests)))

  pub IsLeast-joined_ended : (end : ℕ) (least : Option ℕ) → IsJoinedSoFar end least → IsNext R begin end None → IsLeast (Joins n R S begin) least
  IsLeast-joined_ended end least l h = IsLeast-joined end least l (λ to r p. never (h.least begin to r (inr (refl, p))).1)

  pub IsLeast-joined_beyond : (end : ℕ) (least : Option ℕ) (x : Pair) → IsJoinedSoFar end least → IsNext R begin end (Some x) → (x.begin ≡ begin → ⊥) → IsLeast (Joins n R S begin) least
  IsLeast-joined_beyond end least x l h other = IsLeast-joined end least l (λ to r p.
      let w = h.least begin to r (inr (refl, p)) in
      let is : w.0 ≡ x = same_some (sym w.1) in
      let behind = IsFrom-begin x.begin x.end begin to (subst (λ (v : Pair). IsFrom v.begin v.end begin to) is w.2) in
      let before = IsFrom-begin begin end x.begin x.end (h.only x refl).1 in
      other (omega (arith, behind, before)))

-- ---- the least end by which each set has an extent

HasEachInside-wider : (ss : List (ℕ → ℕ → Type 0)) (b e m : ℕ) → e ≤ m → HasEachInside ss b e → HasEachInside ss b m
HasEachInside-wider [] b e m h k = tt
HasEachInside-wider (S ∷ ss) b e m h k = ((k.0.0, k.0.1, k.0.2, (k.0.3.0, omega (arith, k.0.3.1, h))), HasEachInside-wider ss b e m h k.1)

pub IsLeastBelow-none : (low top : ℕ) → IsLeastBelow top (HasEachInside [] low) (Some 0)
IsLeastBelow-none low top = record {
  only = λ m h. tt;
  least = λ e h p. (0, refl, omega arith);
}

module _ (R : ℕ → ℕ → Type 0) (some : (b e : ℕ) → R b e → b < e) (ss : List (ℕ → ℕ → Type 0)) (low top : ℕ) where
  ends_from : (e : ℕ) → HasInside R low e → e < top → (to : ℕ) × EndsFrom R low top to × (to ≤ e)
  ends_from e h p = (h.1, (h.0, h.3.0, omega (arith, some h.0 h.1 h.2, h.3.1, p), h.2), h.3.1)

  pub IsLeastBelow-both : (a b m : ℕ) → IsLeast (EndsFrom R low top) (Some a) → IsLeastBelow top (HasEachInside ss low) (Some b) → m ≡ max a b → IsLeastBelow top (HasEachInside (R ∷ ss) low) (Some m)
  IsLeastBelow-both a b m l k is = record {
    only = λ v h.
        let same : m ≡ v = same_some h in
        let w = l.only a refl in
        ((w.0, a, w.3, (w.1, omega (arith, is, same))), HasEachInside-wider ss low b v (omega (arith, is, same)) (k.only b refl));
    least = λ e h p.
        let w = ends_from e h.0 p in
        let u = l.least w.0 w.1 in
        let one : a ≡ u.0 = same_some u.1 in
        let v = k.least e h.1 p in
        let two : b ≡ v.0 = same_some v.1 in
        (m, refl, omega (arith, is, one, two, u.2, v.2, w.2));
  }

-- where a set has no end, no extent has one of it inside
pub IsLeastBelow-missing : (R : ℕ → ℕ → Type 0) (some : (b e : ℕ) → R b e → b < e) (ss : List (ℕ → ℕ → Type 0)) (low top : ℕ) → ((e : ℕ) → HasEachInside ss low e → HasInside R low e) → IsLeast (EndsFrom R low top) None → IsLeastBelow top (HasEachInside ss low) None
IsLeastBelow-missing R some ss low top one l = record {
  only = λ m h. absurd (never h);
  least = λ e h p. let w = ends_from R some [] low top e (one e h) p in absurd (never (l.least w.0 w.1).1);
}

-- ---- windows

module _ (n : ℕ) (ss : List (ℕ → ℕ → Type 0)) (x : Pair) (first : IsNext (IsInSome ss) x.begin 0 (Some x)) where
  begin_ends : (e : ℕ) → IsWindow n ss x.begin e → x.end ≤ e
  begin_ends e w =
      let u = first.least x.begin w.begins.0 w.begins.2 (inr (refl, omega arith)) in
      let is : u.0 ≡ x = same_some (sym u.1) in
      let ends = IsFrom-end x.begin x.end w.begins.0 (subst (λ (v : Pair). IsFrom v.begin v.end x.begin w.begins.0) is u.2) in
      omega (arith, ends, w.begins.1)

  pub IsLeast-no_window : IsLeastBelow (x.begin + n + 1) (HasEachInside ss x.begin) None → IsLeast (IsWindow n ss x.begin) None
  IsLeast-no_window l = record {
    only = λ m h. absurd (never h);
    least = λ e w. absurd (never (l.least e w.each (omega (arith, w.narrow))).1);
  }

  window_ends : (end m e : ℕ) → IsLeastBelow (x.begin + n + 1) (HasEachInside ss x.begin) (Some end) → m ≡ max end x.end → IsWindow n ss x.begin e → m ≤ e
  window_ends end m e l is w =
      let u = l.least e w.each (omega (arith, w.narrow)) in
      let same : end ≡ u.0 = same_some u.1 in
      omega (arith, is, same, u.2, begin_ends e w)

  pub IsLeast-too_wide : (end m : ℕ) → IsLeastBelow (x.begin + n + 1) (HasEachInside ss x.begin) (Some end) → m ≡ max end x.end → x.begin + n < m → IsLeast (IsWindow n ss x.begin) None
  IsLeast-too_wide end m l is wide = record {
    only = λ v h. absurd (never h);
    least = λ e w. absurd (omega (arith, window_ends end m e l is w, w.narrow, wide));
  }

  pub IsLeast-window : (end m : ℕ) → IsLeastBelow (x.begin + n + 1) (HasEachInside ss x.begin) (Some end) → m ≡ max end x.end → m ≤ x.begin + n → IsLeast (IsWindow n ss x.begin) (Some m)
  IsLeast-window end m l is narrow = record {
    only = λ v h.
        let same : m ≡ v = same_some h in
        record {
          narrow = omega (arith, same, narrow);
          each = HasEachInside-wider ss x.begin end v (omega (arith, is, same)) (l.only end refl);
          begins = (x.end, omega (arith, is, same), (first.only x refl).0);
        };
    least = λ e w. (m, refl, window_ends end m e l is w);
  }

-- ---- whole documents

pub IsNext-whole : (n : ℕ) (ss : List (ℕ → ℕ → Type 0)) (begin end : ℕ) (x : Pair) → 0 < n → x ≡ record { begin = 0; end = n } → HasEach ss → IsFrom begin end 0 n → IsNext (λ b e. (b ≡ 0) × (e ≡ n) × (b < e) × HasEach ss) begin end (Some x)
IsNext-whole n ss begin end x some is each from = record {
  only = λ y h.
      let same : record { begin = 0; end = n } ≡ y = sym is ∙ same_some h in
      subst (λ (v : Pair). ((v.begin ≡ 0) × (v.end ≡ n) × (v.begin < v.end) × HasEach ss) × IsFrom begin end v.begin v.end) same ((refl, refl, some, each), from);
  least = λ b e h f. (x, refl, inr (omega (arith, ap (λ (v : Pair). v.begin) is, h.0), omega (arith, ap (λ (v : Pair). v.end) is, h.1)));
}

pub IsNext-not_whole : (n : ℕ) (ss : List (ℕ → ℕ → Type 0)) (begin end : ℕ) → (0 < n → IsFrom begin end 0 n → HasEach ss → ⊥) → IsNext (λ b e. (b ≡ 0) × (e ≡ n) × (b < e) × HasEach ss) begin end None
IsNext-not_whole n ss begin end fails = record {
  only = λ y h. absurd (never h);
  least = λ b e h f. absurd (fails (omega (arith, h.0, h.1, h.2)) (subst (λ (v : ℕ). IsFrom begin end 0 v) h.1 (subst (λ (v : ℕ). IsFrom begin end v e) h.0 f)) h.3);
}

-- ---- whether each set has an extent

pub HasEach-more : (R : ℕ → ℕ → Type 0) (ss : List (ℕ → ℕ → Type 0)) (x : Pair) → IsNext R 0 0 (Some x) → HasEach ss → HasEach (R ∷ ss)
HasEach-more R ss x h k = ((x.begin, x.end, (h.only x refl).0), k)

pub IsNext-no_extent : (R : ℕ → ℕ → Type 0) → IsNext R 0 0 None → ((b : ℕ) × (e : ℕ) × R b e) → ⊥
IsNext-no_extent R h k = never (h.least k.0 k.1 k.2 (IsFrom-low 0 k.0 k.1 (omega arith))).1
