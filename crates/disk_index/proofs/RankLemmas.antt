-- The ranks of terms by range.
use Rattle.std.proofs.Common.{◌≡◌, ◌≢◌, ◌<◌, ◌≤◌, ◌⊎◌, ℕ, zero, suc, ◌+◌, ◌||◌, ◌==◌, List, [], ◌∷◌, ◌++◌, length, take, get_or, replicate, set, length-set, Bool, true, false, cond, Some, None, refl, sym, ap, subst, ◌∙◌, inl, inr, append_assoc, add-zero, arith}
use Rattle.std.specs.Int.{div_ceil}
use Rattle.std.specs.Prelude.{is_some}
use Rattle.std.specs.List.{All, AllPairs, find}
use Rattle.std.proofs.Math.Dec.{eqb}
use Rattle.std.proofs.lemmas.Bool.{eq-eqb, ne_eqb}
use Rattle.std.proofs.lemmas.Bool.Decides.{eqb_tells}
use Rattle.std.proofs.lemmas.List.{append-nil, get_or-replicate, get_or-set_other, get_or-set_same, get_or-take, get_or_default, length-replicate, length-take}
use Rattle.std.proofs.lemmas.List.Elements.{All-cons, All-head, All-nil, All-tail}
use Rattle.seg_codec.specs.declared.dictionary.BlockPlace.{BlockPlace}
use Rattle.seg_codec.specs.declared.dictionary.TermBlocks.{TermBlocks}
use Rattle.disk_index.specs.Ranks.{AreRanks, IsRanked, own_rank, ranks_from, ranks_of}

-- ---- one block more

find-push : {X : Type 0} (p : X → Bool) (xs : List X) (x : X) → is_some (find p (xs ++ x ∷ [])) ≡ (is_some (find p xs) || p x)
find-push {X} p [] x = by (p x)
  where
    by : (b : Bool) → is_some (cond b (Some x) None) ≡ (false || b)
    by true = refl
    by false = refl
find-push {X} p (y ∷ ys) x = by (p y) (find-push p ys x)
  where
    by : (b : Bool) → is_some (find p (ys ++ x ∷ [])) ≡ (is_some (find p ys) || p x) → is_some (cond b (Some y) (find p (ys ++ x ∷ []))) ≡ (is_some (cond b (Some y) (find p ys)) || p x)
    by true e = refl
    by false e = e

or-false : (a : Bool) → (a || false) ≡ a
or-false true = refl
or-false false = refl

none-below : (range : ℕ) (bs : List BlockPlace) → All (λ a. a.range < range) bs → is_some (find (λ b. b.range == range) bs) ≡ false
none-below range [] all = refl
none-below range (b ∷ bs) all =
    let less : b.range < range = All-head (λ (a : BlockPlace). a.range < range) b bs all in
    let test : (b.range == range) ≡ false = ne_eqb b.range range (λ e. omega (arith, e, less)) in
    ap (λ t. is_some (cond t (Some b) (find (λ (a : BlockPlace). a.range == range) bs))) test ∙ none-below range bs (All-tail (λ (a : BlockPlace). a.range < range) b bs all)

own_rank-other : (range rank : ℕ) (bs : List BlockPlace) (b : BlockPlace) → b.range ≢ range → own_rank range rank (bs ++ b ∷ []) ≡ own_rank range rank bs
own_rank-other range rank bs b differ =
    let test : (b.range == range) ≡ false = ne_eqb b.range range differ in
    let had = is_some (find (λ (a : BlockPlace). a.range == range) bs) in
    ap (λ t. cond t (rank ∷ []) []) (find-push (λ (a : BlockPlace). a.range == range) bs b ∙ ap (λ t. had || t) test ∙ or-false had)

own_rank-same : (range rank : ℕ) (bs : List BlockPlace) (b : BlockPlace) → b.range ≡ range → All (λ a. a.range < b.range) bs → own_rank range rank (bs ++ b ∷ []) ≡ own_rank range rank bs ++ rank ∷ []
own_rank-same range rank bs b same all =
    let test : (b.range == range) ≡ true = eq-eqb b.range range same in
    let none : is_some (find (λ (a : BlockPlace). a.range == range) bs) ≡ false = none-below range bs (subst (λ n. All (λ (a : BlockPlace). a.range < n) bs) same all) in
    let now : is_some (find (λ (a : BlockPlace). a.range == range) (bs ++ b ∷ [])) ≡ true = find-push (λ (a : BlockPlace). a.range == range) bs b ∙ ap (λ t. t || (b.range == range)) none ∙ test in
    ap (λ t. cond t (rank ∷ []) []) now ∙ sym (ap (λ t. cond t (rank ∷ []) [] ++ rank ∷ []) none)

pub IsRanked-start : (rank : ℕ) (old : List (List ℕ)) → IsRanked [] rank old old
IsRanked-start rank old = record { same_count = refl; each = λ range h. sym (append-nil (get_or old range [])) }

pub IsRanked-more : (bs : List BlockPlace) (b : BlockPlace) (rank : ℕ) (old mid new : List (List ℕ)) → All (λ a. a.range < b.range) bs → IsRanked bs rank old mid
    → new ≡ set mid b.range (get_or mid b.range [] ++ rank ∷ []) → IsRanked (bs ++ b ∷ []) rank old new
IsRanked-more bs b rank old mid new all h e =
    let count = h.same_count in
    record { same_count = ap (λ (l : List (List ℕ)). length l) e ∙ length-set mid b.range (get_or mid b.range [] ++ rank ∷ []) ∙ count; each = λ range inside. by range inside (eqb_tells b.range range) }
  where
    by : (range : ℕ) → range < length old → ((eqb b.range range ≡ true) × (b.range ≡ range)) ⊎ ((eqb b.range range ≡ false) × (b.range ≢ range))
        → get_or new range [] ≡ get_or old range [] ++ own_rank range rank (bs ++ b ∷ [])
    by range inside (inl y) =
        let same : b.range ≡ range = y.1 in
        let count = h.same_count in
        let within : b.range < length mid = omega (arith, same, count, inside) in
        let here : get_or new b.range [] ≡ get_or mid b.range [] ++ rank ∷ [] = ap (λ l. get_or l b.range []) e ∙ get_or-set_same mid b.range (get_or mid b.range [] ++ rank ∷ []) [] within in
        ap (λ n. get_or new n []) (sym same) ∙ here ∙ ap (λ n. get_or mid n [] ++ rank ∷ []) same ∙ ap (λ l. l ++ rank ∷ []) (h.each range inside)
        ∙ append_assoc (get_or old range []) (own_rank range rank bs) (rank ∷ []) ∙ ap (λ l. get_or old range [] ++ l) (sym (own_rank-same range rank bs b same all))
    by range inside (inr y) =
        let other : b.range ≢ range = y.1 in
        ap (λ l. get_or l range []) e ∙ get_or-set_other mid b.range range (get_or mid b.range [] ++ rank ∷ []) [] (λ z. other (sym z)) ∙ h.each range inside
        ∙ ap (λ l. get_or old range [] ++ l) (sym (own_rank-other range rank bs b other))

abbrev pub no_place : BlockPlace
no_place = record { range = 0; place = 0; length = 0 }

-- the blocks before one have lower ranges
pub lower-ranges : (bs : List BlockPlace) (i : ℕ) (b : BlockPlace) → AllPairs (λ a b. a.range < b.range) bs → i < length bs → (e : BlockPlace) → b ≡ get_or bs i e → All (λ a. a.range < b.range) (take i bs)
lower-ranges bs i b up inside e is k d small =
    let size = length-take i bs in
    let less : k < i = omega (arith, small, size) in
    let within : k < length bs = omega (arith, less, inside) in
    let pair : (get_or bs k e).range < (get_or bs i e).range = up k i e less inside in
    let here : get_or (take i bs) k d ≡ get_or bs k e = get_or-take i bs k d less ∙ get_or_default bs k d e within in
    subst (λ (a : BlockPlace). a.range < b.range) (sym here) (subst (λ (c : BlockPlace). (get_or bs k e).range < c.range) (sym is) pair)

-- ---- one term more

ranks_from-push : (range i : ℕ) (ts : List TermBlocks) (t : TermBlocks) → ranks_from range i (ts ++ t ∷ []) ≡ ranks_from range i ts ++ own_rank range (i + length ts) t.blocks
ranks_from-push range i [] t = append-nil (own_rank range i t.blocks) ∙ ap (λ n. own_rank range n t.blocks) (sym (add-zero i))
ranks_from-push range i (x ∷ ts) t =
    let own = own_rank range i x.blocks in
    ap (λ (l : List ℕ). own ++ l) (ranks_from-push range (i + 1) ts t ∙ ap (λ n. ranks_from range (i + 1) ts ++ own_rank range n t.blocks) (omega arith))
    ∙ sym (append_assoc own (ranks_from range (i + 1) ts) (own_rank range (i + length (x ∷ ts)) t.blocks))

-- the ranks of the terms so far
pub record AreRows (count : ℕ) (ts : List TermBlocks) (rows : List (List ℕ)) : Type 0 where
  pub same_count : length rows ≡ count
  pub each : (range : ℕ) → range < count → get_or rows range [] ≡ ranks_from range 0 ts

pub AreRows-start : (count : ℕ) → AreRows count [] (replicate count [])
AreRows-start count = record { same_count = length-replicate count []; each = λ range inside. get_or-replicate count range [] [] inside }

pub AreRows-more : (count rank : ℕ) (ts : List TermBlocks) (t : TermBlocks) (rows new : List (List ℕ)) → AreRows count ts rows → rank ≡ length ts → IsRanked t.blocks rank rows new → AreRows count (ts ++ t ∷ []) new
AreRows-more count rank ts t rows new a is h = record {
  same_count = h.same_count ∙ a.same_count;
  each = λ range inside.
      h.each range (subst (λ n. range < n) (sym a.same_count) inside) ∙ ap (λ l. l ++ own_rank range rank t.blocks) (a.each range inside)
      ∙ ap (λ n. ranks_from range 0 ts ++ own_rank range n t.blocks) (omega (arith, is)) ∙ sym (ranks_from-push range 0 ts t);
}

pub AreRanks-from : (docs count : ℕ) (ts : List TermBlocks) (rows : List (List ℕ)) → count ≡ div_ceil docs 64 → AreRows count ts rows → AreRanks docs ts rows
unfolding ranks_of
AreRanks-from docs count ts rows is a = record { count = a.same_count ∙ is; each = λ range inside. a.each range (subst (λ n. range < n) a.same_count inside) }

-- ---- what ranks there are

-- ranks that rise from one on, below another
unfoldable pub RiseBelow : ℕ → ℕ → List ℕ → Type 0
RiseBelow low end [] = Unit {0}
RiseBelow low end (k ∷ ks) = (low ≤ k) × ((k < end) × RiseBelow (k + 1) end ks)

rise-lower : (low high end : ℕ) (ks : List ℕ) → low ≤ high → RiseBelow high end ks → RiseBelow low end ks
unfolding RiseBelow
rise-lower low high end [] le h = tt
rise-lower low high end (k ∷ ks) le h = (omega (arith, h.0), h.1)

ranks_from-rise : (range i end : ℕ) (ts : List TermBlocks) → i + length ts ≤ end → RiseBelow i end (ranks_from range i ts)
unfolding RiseBelow
ranks_from-rise range i end [] le = tt
ranks_from-rise range i end (t ∷ ts) le = by (is_some (find (λ (b : BlockPlace). b.range == range) t.blocks)) (ranks_from-rise range (i + 1) end ts (omega arith))
  where
    by : (b : Bool) → RiseBelow (i + 1) end (ranks_from range (i + 1) ts) → RiseBelow i end (cond b (i ∷ []) [] ++ ranks_from range (i + 1) ts)
    by true rest = (omega arith, (omega arith, rest))
    by false rest = rise-lower i (i + 1) end (ranks_from range (i + 1) ts) (omega arith) rest

pub ranks_of-rise : (range : ℕ) (ts : List TermBlocks) → RiseBelow 0 (length ts) (ranks_of range ts)
unfolding ranks_of
ranks_of-rise range ts = ranks_from-rise range 0 (length ts) ts (omega arith)

rise-inside : (low end : ℕ) (ks : List ℕ) (i : ℕ) → RiseBelow low end ks → i < length ks → get_or ks i 0 < end
unfolding RiseBelow
rise-inside low end [] i up h = absurd (omega arith)
rise-inside low end (k ∷ ks) zero up h = up.1.0
rise-inside low end (k ∷ ks) (suc i) up h = rise-inside (k + 1) end ks i up.1.1 (omega arith)

-- each is one of the dictionary
pub ranks-inside : (range : ℕ) (ts : List TermBlocks) (ks : List ℕ) (i : ℕ) → ks ≡ ranks_of range ts → i < length ks → get_or ks i 0 < length ts
ranks-inside range ts ks i is h = rise-inside 0 (length ts) ks i (subst (RiseBelow 0 (length ts)) (sym is) (ranks_of-rise range ts)) h

rise-from : (low end : ℕ) (ks : List ℕ) (i : ℕ) → RiseBelow low end ks → i < length ks → low ≤ get_or ks i 0
unfolding RiseBelow
rise-from low end [] i up h = absurd (omega arith)
rise-from low end (k ∷ ks) zero up h = up.0
rise-from low end (k ∷ ks) (suc i) up h = let next = rise-from (k + 1) end ks i up.1.1 (omega arith) in omega (arith, next, up.0)

rise-before : (low end : ℕ) (ks : List ℕ) (i : ℕ) → RiseBelow low end ks → i < length ks → All (λ j. j < get_or ks i 0) (take i ks)
unfolding RiseBelow
rise-before low end [] i up h = absurd (omega arith)
rise-before low end (k ∷ ks) zero up h = All-nil (λ j. j < k)
rise-before low end (k ∷ ks) (suc i) up h =
    let next = rise-from (k + 1) end ks i up.1.1 (omega arith) in
    All-cons (λ j. j < get_or ks i 0) k (take i ks) (omega (arith, next)) (rise-before (k + 1) end ks i up.1.1 (omega arith))

-- those before one are lower
pub ranks-before : (range : ℕ) (ts : List TermBlocks) (ks : List ℕ) (i : ℕ) → ks ≡ ranks_of range ts → i < length ks → All (λ j. j < get_or ks i 0) (take i ks)
ranks-before range ts ks i is h = rise-before 0 (length ts) ks i (subst (RiseBelow 0 (length ts)) (sym is) (ranks_of-rise range ts)) h
