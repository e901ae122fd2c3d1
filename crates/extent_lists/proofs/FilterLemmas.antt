-- the extents of a list that pass a test
use Rattle.std.proofs.Common.{◌≡◌, ℕ, inl, inr, ⊎_elim, Bool, true, false, cond, List, [], ◌∷◌, filter, refl, sym, ap, ◌∙◌, subst}
use Rattle.std.proofs.lemmas.Bool.{true≢false}
use Rattle.ri_base.specs.Pair.{Pair}
use Rattle.extent_lists.specs.Pairs.{pair}
use Rattle.extent_lists.specs.Rows.{BeginsAfter, Has, IsAscending, IsBeforeAll, IsRising}

same_pair : (x : Pair) (b e : ℕ) → (x.begin ≡ b) × (x.end ≡ e) → x ≡ pair b e
same_pair x b e h =
    let make : ℕ → ℕ → Pair = λ m n. record { begin = m; end = n } in
    ap (λ (n : ℕ). make n x.end) h.0 ∙ ap (λ (n : ℕ). make b n) h.1

pub record IsFiltered (test : Pair → Bool) (xs zs : List Pair) : Type 0 where
  pub before : (z : Pair) → IsBeforeAll z xs → IsBeforeAll z zs
  pub ascending : IsAscending xs → IsAscending zs
  pub after : (b : ℕ) → BeginsAfter b xs → BeginsAfter b zs
  pub rising : IsRising xs → IsRising zs
  pub only : (b e : ℕ) → Has zs b e → Has xs b e × (test (pair b e) ≡ true)
  pub all : (b e : ℕ) → Has xs b e → test (pair b e) ≡ true → Has zs b e

module _ (test : Pair → Bool) where
  kept : (x : Pair) (xs zs : List Pair) → test x ≡ true → IsFiltered test xs zs → IsFiltered test (x ∷ xs) (x ∷ zs)
  kept x xs zs h m = record {
    before = λ z u. (u.0, m.before z u.1);
    ascending = λ u. (m.before x u.0, m.ascending u.1);
    after = λ b u. (u.0, m.after b u.1);
    rising = λ u. (m.after x.begin u.0, m.rising u.1);
    only = λ b e. ⊎_elim (λ k. (inl k, subst (λ (y : Pair). test y ≡ true) (same_pair x b e k) h)) (λ k. let w = m.only b e k in (inr w.0, w.1));
    all = λ b e k p. ⊎_elim (λ u. inl u) (λ u. inr (m.all b e u p)) k;
  }

  left_out : (x : Pair) (xs zs : List Pair) → test x ≡ false → IsFiltered test xs zs → IsFiltered test (x ∷ xs) zs
  left_out x xs zs h m = record {
    before = λ z u. m.before z u.1;
    ascending = λ u. m.ascending u.1;
    after = λ b u. m.after b u.1;
    rising = λ u. m.rising u.1;
    only = λ b e k. let w = m.only b e k in (inr w.0, w.1);
    all = λ b e k p. ⊎_elim (λ u. absurd (true≢false (sym p ∙ ap test (sym (same_pair x b e u)) ∙ h))) (λ u. m.all b e u p) k;
  }

  by_test : (x : Pair) (xs zs : List Pair) (v : Bool) → test x ≡ v → IsFiltered test xs zs → IsFiltered test (x ∷ xs) (cond v (x ∷ zs) zs)
  by_test x xs zs true h m = kept x xs zs h m
  by_test x xs zs false h m = left_out x xs zs h m

  pub IsFiltered-filter : (xs : List Pair) → IsFiltered test xs (filter test xs)
  IsFiltered-filter [] = record {
    before = λ z u. tt;
    ascending = λ u. tt;
    after = λ b u. tt;
    rising = λ u. tt;
    only = λ b e h. absurd h;
    all = λ b e h p. absurd h;
  }
  IsFiltered-filter (x ∷ xs) = by_test x xs (filter test xs) (test x) refl (IsFiltered-filter xs)
