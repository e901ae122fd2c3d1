-- terms with numbers, sorted
use Rattle.std.proofs.Common.{◌≡◌, ◌≢◌, ◌<◌, ℕ, zero, suc, ◌+◌, List, [], ◌∷◌, ◌++◌, length, map, get_or, slice_get, Some, true, false, refl, sym, ap, subst, ◌∙◌, arith, add-zero, append_assoc, length-append}
use Rattle.std.specs.Cmp.Lexicographic.{slice_cmp}
use Rattle.std.specs.List.{All, AllPairs, Contains, IsDistinct}
use Rattle.std.specs.List.Sorted.{IsPermutation, IsSorted}
use Rattle.std.specs.Ordering.{nat_cmp, is_lt, on, ordering_reverse}
use Rattle.std.specs.Str.{bytes_eq}
use Rattle.std.specs.declared.cmp.Ordering.{Ordering}
use Rattle.std.specs.declared.cmp.Ordering.TheVariants.{Less, Equal, Greater}
use Rattle.std.proofs.lemmas.Cmp.{nat_list_cmp_total, nat_list_eq_equiv}
use Rattle.std.proofs.lemmas.List.{get_or-map, get_or_default, ext_get_or, length-map}
use Rattle.std.proofs.lemmas.List.Elements.{All-nil, All-cons, All-map, All-weaker, All-contains_itself}
use Rattle.std.proofs.lemmas.List.Sorted.{All-permutation, Contains-permutation, IsPermutation-map, length_permutation, ranks_by, sorted_far}
use Rattle.std.proofs.lemmas.Map.Keys.{IsDistinct-IsPermutation}
use Rattle.std.proofs.lemmas.Map.Lookups.{exact_bytes}
use Rattle.std.proofs.lemmas.Map.Made.{AllPairs-from_IsDistinct}
use Rattle.std.proofs.lemmas.Option.{slice_get-get_or, slice_get_within, get_or_from_slice_get}
use Rattle.std.proofs.lemmas.Slice.Eq.{bytes_eq-Decides}
use Rattle.std.proofs.Math.Seq.{get_or-append_seam}
use Rattle.ri_base.specs.Inversion.{by_number}
use Rattle.memory_index.specs.Inverts.{AreRising, AreSorted, numbered_from, terms_of}
use Rattle.memory_index.specs.declared.numbered.Numbered.{Numbered}

pub numbered_from-push : (n : ℕ) (ts : List (List ℕ)) (t : List ℕ) → numbered_from n (ts ++ t ∷ []) ≡ numbered_from n ts ++ record { term = t; number = n + length ts } ∷ []
numbered_from-push n [] t = ap (λ k. record { term = t; number = k } ∷ []) (sym (add-zero n))
numbered_from-push n (u ∷ ts) t = ap (λ l. record { term = u; number = n } ∷ l) (numbered_from-push (n + 1) ts t ∙ ap (λ k. numbered_from (n + 1) ts ++ record { term = t; number = k } ∷ []) (omega arith))

length_numbered : (n : ℕ) (ts : List (List ℕ)) → length (numbered_from n ts) ≡ length ts
length_numbered n [] = refl
length_numbered n (t ∷ ts) = omega (arith, length_numbered (n + 1) ts)

terms_numbered : (n : ℕ) (ts : List (List ℕ)) → terms_of (numbered_from n ts) ≡ ts
terms_numbered n [] = refl
terms_numbered n (t ∷ ts) = ap (λ l. t ∷ l) (terms_numbered (n + 1) ts)

-- each has its term's place as its number
numbered_each : (pre ts : List (List ℕ)) (n : ℕ) → n ≡ length pre → All (λ s. slice_get (pre ++ ts) s.number ≡ Some s.term) (numbered_from n ts)
numbered_each pre [] n e = All-nil (λ s. slice_get (pre ++ []) s.number ≡ Some s.term)
numbered_each pre (t ∷ ts) n e =
    let P : Numbered → Type 0 = λ s. slice_get (pre ++ t ∷ ts) s.number ≡ Some s.term in
    let here : slice_get (pre ++ t ∷ ts) n ≡ Some t =
    slice_get-get_or (pre ++ t ∷ ts) n t (omega (arith, length-append pre (t ∷ ts))) ∙ ap Some (ap (λ k. get_or (pre ++ t ∷ ts) k t) e ∙ get_or-append_seam pre t ts t) in
    let rest : All (λ s. slice_get ((pre ++ t ∷ []) ++ ts) s.number ≡ Some s.term) (numbered_from (n + 1) ts) =
    numbered_each (pre ++ t ∷ []) ts (n + 1) (omega (arith, length-append pre (t ∷ []))) in
    All-cons P (record { term = t; number = n }) (numbered_from (n + 1) ts) here
    (subst (λ l. All (λ s. slice_get l s.number ≡ Some s.term) (numbered_from (n + 1) ts)) (append_assoc pre (t ∷ []) ts) rest)

-- of two terms that differ, one that isn't after the other is before it
below_from_not_after : (a b : List ℕ) → a ≢ b → is_lt (slice_cmp nat_cmp b a) ≡ false → slice_cmp nat_cmp a b ≡ Less
below_from_not_after a b differ h = by (slice_cmp nat_cmp a b) refl
  where
    by : (o : Ordering) → slice_cmp nat_cmp a b ≡ o → slice_cmp nat_cmp a b ≡ Less
    by Less e = e
    by Equal e = absurd (differ (exact_bytes a b e))
    by Greater e =
        let back : slice_cmp nat_cmp b a ≡ Less = nat_list_cmp_total.antisymm b a ∙ ap ordering_reverse e in
        let t : true ≡ false = ap is_lt (sym back) ∙ h in
        cc

pub AreSorted-made : (terms : List (List ℕ)) (sorted : List Numbered) → IsDistinct bytes_eq terms → IsPermutation (numbered_from 0 terms) sorted
    → IsSorted (on (λ s. s.term) (slice_cmp nat_cmp)) sorted → AreSorted terms sorted
AreSorted-made terms sorted apart moved up = record {
  same_length = length_permutation (numbered_from 0 terms) sorted moved ∙ length_numbered 0 terms;
  each = All-permutation (λ s. slice_get terms s.number ≡ Some s.term) (numbered_from 0 terms) sorted moved (numbered_each [] terms 0 refl);
  all = All-weaker (Contains (numbered_from 0 terms)) (Contains sorted) (λ x p. Contains-permutation (numbered_from 0 terms) sorted x moved p) (numbered_from 0 terms) (All-contains_itself (numbered_from 0 terms));
  rising = λ i j d lower inside. rises i j d lower inside;
}
  where
    named : IsPermutation terms (terms_of sorted)
    named = subst (λ l. IsPermutation l (terms_of sorted)) (terms_numbered 0 terms) (IsPermutation-map (λ (s : Numbered). s.term) (numbered_from 0 terms) sorted moved)

    pairs : AllPairs (λ x y. x ≢ y) (terms_of sorted)
    pairs = AllPairs-from_IsDistinct bytes_eq-Decides (terms_of sorted) (IsDistinct-IsPermutation bytes_eq nat_list_eq_equiv.symm terms (terms_of sorted) named apart)

    rises : AreRising (terms_of sorted)
    rises i j d lower inside =
        let len : length (terms_of sorted) ≡ length sorted = grind (arith, length-map) in
        let s : Numbered = record { term = d; number = 0 } in
        let inside2 : j < length sorted = omega arith in
        let far : is_lt (slice_cmp nat_cmp (get_or sorted j s).term (get_or sorted i s).term) ≡ false =
        sorted_far (λ x y. is_lt (slice_cmp nat_cmp x.term y.term)) (ranks_by nat_list_cmp_total (λ (x : Numbered). x.term)) sorted up i j s (omega arith) inside2 in
        let at_i : get_or (terms_of sorted) i d ≡ (get_or sorted i s).term = get_or-map (λ (x : Numbered). x.term) sorted i s d (omega arith) in
        let at_j : get_or (terms_of sorted) j d ≡ (get_or sorted j s).term = get_or-map (λ (x : Numbered). x.term) sorted j s d inside2 in
        below_from_not_after _ _ (pairs i j d lower inside) (rw (at_i, at_j) far)

get_or_numbered : (s : ℕ) (ts : List (List ℕ)) (n : ℕ) (d : Numbered) → n < length ts → get_or (numbered_from s ts) n d ≡ record { term = get_or ts n []; number = s + n }
get_or_numbered s [] n d h = absurd (omega arith)
get_or_numbered s (t ∷ ts) zero d h = ap (λ k. record { term = t; number = k }) (sym (add-zero s))
get_or_numbered s (t ∷ ts) (suc n) d h = get_or_numbered (s + 1) ts n d (omega arith) ∙ ap (λ k. record { term = get_or ts n []; number = k }) (omega arith)

-- the ranks give the terms back
pub named_made : (terms : List (List ℕ)) (sorted : List Numbered) (ranks : List ℕ) → AreSorted terms sorted → length ranks ≡ length terms
    → ((j : ℕ) (d : Numbered) → j < length sorted → get_or (terms_of sorted) (get_or ranks (get_or sorted j d).number 0) [] ≡ get_or terms (get_or sorted j d).number [])
    → by_number (terms_of sorted) ranks ≡ terms
named_made terms sorted ranks s len told =
    let f : ℕ → List ℕ = λ r. get_or (terms_of sorted) r [] in
    let flen : length (map f ranks) ≡ length ranks = length-map ranks f in
    ext_get_or [] (map f ranks) terms (flen ∙ len) (λ n h. at n (omega arith))
  where
    at : (n : ℕ) → n < length terms → get_or (by_number (terms_of sorted) ranks) n [] ≡ get_or terms n []
    at n h =
        let x : Numbered = record { term = get_or terms n []; number = n } in
        let e : get_or (numbered_from 0 terms) n x ≡ record { term = get_or terms n []; number = 0 + n } = get_or_numbered 0 terms n x h in
        let z : 0 + n ≡ n = omega arith in
        let e2 : get_or (numbered_from 0 terms) n x ≡ x = e ∙ ap (λ k. record { term = get_or terms n []; number = k }) z in
        let inside : n < length (numbered_from 0 terms) = omega (arith, length_numbered 0 terms) in
        let c : Contains sorted x = subst (Contains sorted) e2 (s.all n x inside) in
        let k : (get_or sorted c.0 x).number ≡ n = ap (λ (y : Numbered). y.number) c.2 in
        get_or-map (λ r. get_or (terms_of sorted) r []) ranks n 0 [] (omega arith)
        ∙ ap (λ m. get_or (terms_of sorted) (get_or ranks m 0) []) (sym k) ∙ told c.0 x c.1 ∙ ap (λ m. get_or terms m []) k

-- each sorted term is one of the terms, and each of the terms is sorted
pub sorted_only : (terms : List (List ℕ)) (sorted : List Numbered) → AreSorted terms sorted → All (Contains terms) (terms_of sorted)
sorted_only terms sorted s = All-map (Contains terms) (λ (x : Numbered). x.term) sorted
    (All-weaker (λ x. slice_get terms x.number ≡ Some x.term) (λ x. Contains terms x.term) (λ x p. (x.number, slice_get_within terms x.number x.term p, get_or_from_slice_get terms x.number x.term x.term p)) sorted s.each)

pub sorted_all : (terms : List (List ℕ)) (sorted : List Numbered) → AreSorted terms sorted → All (Contains (terms_of sorted)) terms
sorted_all terms sorted s = λ n d h.
    let x : Numbered = record { term = get_or terms n d; number = n } in
    let g : get_or terms n [] ≡ get_or terms n d = get_or_default terms n [] d h in
    let z : 0 + n ≡ n = omega arith in
    let e2 : get_or (numbered_from 0 terms) n x ≡ x = get_or_numbered 0 terms n x h ∙ ap (λ k. record { term = get_or terms n []; number = k }) z ∙ ap (λ t. record { term = t; number = n }) g in
    let inside : n < length (numbered_from 0 terms) = omega (arith, length_numbered 0 terms) in
    let c : Contains sorted x = subst (Contains sorted) e2 (s.all n x inside) in
    let len : length (terms_of sorted) ≡ length sorted = length-map sorted (λ (y : Numbered). y.term) in
    (c.0, omega (arith, c.1, len), get_or-map (λ (y : Numbered). y.term) sorted c.0 x (get_or terms n d) c.1 ∙ ap (λ (y : Numbered). y.term) c.2)
