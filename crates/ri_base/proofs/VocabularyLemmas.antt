-- there is one vocabulary of a collection, and `vocabulary_of` is it
use Rattle.std.proofs.Common.{◌≡◌, ◌<◌, ◌⊎◌, ℕ, ◌+◌, List, [], ◌∷◌, length, get_or, refl, sym, ap, subst, ◌∙◌, inl, inr, arith}
use Rattle.std.specs.BTreeSet.{insert_key}
use Rattle.std.specs.Cmp.Lexicographic.{slice_cmp}
use Rattle.std.specs.List.{AllByRecursion, AllPairs, Contains}
use Rattle.std.specs.List.Sorted.{IsStrictlySortedBy}
use Rattle.std.specs.Ordering.{match_ordering, nat_cmp, ordering_reverse}
use Rattle.std.specs.declared.cmp.Ordering.{Ordering}
use Rattle.std.specs.declared.cmp.Ordering.TheVariants.{Less, Equal, Greater}
use Rattle.std.proofs.lemmas.Cmp.{nat_list_cmp_total, tied_itself}
use Rattle.std.proofs.lemmas.List.{get_or_default}
use Rattle.std.proofs.lemmas.List.Elements.{All-contains, All-from_recursion, All-weaker, recursion_from_All}
use Rattle.std.proofs.lemmas.Map.Keys.{Less-from_sorted, sorted_from_all_adjacent, sorted_head, sorted_tail}
use Rattle.std.proofs.lemmas.Map.Lookups.{exact_bytes}
use Rattle.std.proofs.lemmas.Map.Views.{All-insert_key}
use Rattle.ri_base.specs.Documents.{Document}
use Rattle.ri_base.specs.Vocabulary.{IsTermBefore, IsVocabulary, Occurs, vocabulary_of, with_terms}
use Rattle.ri_base.proofs.ListLemmas.{Contains-cases, Contains-here, Contains-later, Contains-none}

abbrev order : List ℕ → List ℕ → Ordering
order = slice_cmp nat_cmp

abbrev IsRising : List (List ℕ) → Type 0
IsRising terms = IsStrictlySortedBy order terms

-- what a term's insertion leaves
new_is_there : (t : List ℕ) (ts : List (List ℕ)) → Contains (insert_key order ts t) t
new_is_there t [] = Contains-here t []
new_is_there t (x ∷ ts) = by (order t x) refl (new_is_there t ts)
  where
    by : (o : Ordering) → order t x ≡ o → Contains (insert_key order ts t) t → Contains (match_ordering o (t ∷ x ∷ ts) (x ∷ ts) (x ∷ insert_key order ts t)) t
    by Less e rest = Contains-here t (x ∷ ts)
    by Equal e rest = subst (λ y. Contains (y ∷ ts) t) (exact_bytes t x e) (Contains-here t ts)
    by Greater e rest = Contains-later x (insert_key order ts t) t rest

old_is_there : (t : List ℕ) (ts : List (List ℕ)) (q : List ℕ) → Contains ts q → Contains (insert_key order ts t) q
old_is_there t [] q c = absurd (Contains-none q c)
old_is_there t (x ∷ ts) q c = by (order t x) c (λ d. old_is_there t ts q d)
  where
    by : (o : Ordering) → Contains (x ∷ ts) q → (Contains ts q → Contains (insert_key order ts t) q) → Contains (match_ordering o (t ∷ x ∷ ts) (x ∷ ts) (x ∷ insert_key order ts t)) q
    by Less c rest = Contains-later t (x ∷ ts) q c
    by Equal c rest = c
    by Greater c rest = elim (Contains-cases x ts q c) [
      | inl e ↦ subst (λ y. Contains (x ∷ insert_key order ts t) y) e (Contains-here x (insert_key order ts t))
      | inr d ↦ Contains-later x (insert_key order ts t) q (rest d)
    ]

old_or_new : (t : List ℕ) (ts : List (List ℕ)) (q : List ℕ) → Contains (insert_key order ts t) q → (t ≡ q) ⊎ Contains ts q
old_or_new t [] q c = Contains-cases t [] q c
old_or_new t (x ∷ ts) q c = by (order t x) c (λ d. old_or_new t ts q d)
  where
    by : (o : Ordering) → Contains (match_ordering o (t ∷ x ∷ ts) (x ∷ ts) (x ∷ insert_key order ts t)) q → (Contains (insert_key order ts t) q → (t ≡ q) ⊎ Contains ts q) → (t ≡ q) ⊎ Contains (x ∷ ts) q
    by Less c rest = Contains-cases t (x ∷ ts) q c
    by Equal c rest = inr c
    by Greater c rest = elim (Contains-cases x (insert_key order ts t) q c) [
      | inl e ↦ inr (subst (λ y. Contains (x ∷ ts) y) e (Contains-here x ts))
      | inr d ↦ elim (rest d) [ inl e ↦ inl e | inr f ↦ inr (Contains-later x ts q f) ]
    ]

IsRising-insert : (t : List ℕ) (ts : List (List ℕ)) → IsRising ts → IsRising (insert_key order ts t)
unfolding IsStrictlySortedBy
IsRising-insert t [] up = (tt, tt)
IsRising-insert t (x ∷ ts) up = by (order t x) refl up (IsRising-insert t ts up.1)
  where
    after : (ys : List (List ℕ)) → order t x ≡ Less → AllByRecursion (λ y. order x y ≡ Less) ys → AllByRecursion (λ y. order t y ≡ Less) ys
    after ys e h = recursion_from_All (λ y. order t y ≡ Less) ys
        (All-weaker (λ y. order x y ≡ Less) (λ y. order t y ≡ Less) (λ y p. nat_list_cmp_total.trans t x y e p) ys (All-from_recursion (λ y. order x y ≡ Less) ys h))

    by : (o : Ordering) → order t x ≡ o → IsRising (x ∷ ts) → IsRising (insert_key order ts t) → IsRising (match_ordering o (t ∷ x ∷ ts) (x ∷ ts) (x ∷ insert_key order ts t))
    by Less e up rest = ((e, after ts e up.0), up)
    by Equal e up rest = up
    by Greater e up rest =
        let back : order x t ≡ Less = nat_list_cmp_total.antisymm x t ∙ ap ordering_reverse e in (
          recursion_from_All (λ y. order x y ≡ Less) (insert_key order ts t)
              (All-insert_key order t (λ y. order x y ≡ Less) ts (All-from_recursion (λ y. order x y ≡ Less) ts up.0) back),
          rest,
        )

-- what the insertion of several terms leaves
IsRising-with_terms : (ts terms : List (List ℕ)) → IsRising terms → IsRising (with_terms ts terms)
IsRising-with_terms [] terms up = up
IsRising-with_terms (t ∷ ts) terms up = IsRising-insert t (with_terms ts terms) (IsRising-with_terms ts terms up)

with_terms-old : (ts terms : List (List ℕ)) (q : List ℕ) → Contains terms q → Contains (with_terms ts terms) q
with_terms-old [] terms q c = c
with_terms-old (t ∷ ts) terms q c = old_is_there t (with_terms ts terms) q (with_terms-old ts terms q c)

with_terms-new : (ts terms : List (List ℕ)) (q : List ℕ) → Contains ts q → Contains (with_terms ts terms) q
with_terms-new [] terms q c = absurd (Contains-none q c)
with_terms-new (t ∷ ts) terms q c = elim (Contains-cases t ts q c) [
  | inl e ↦ subst (λ y. Contains (insert_key order (with_terms ts terms) t) y) e (new_is_there t (with_terms ts terms))
  | inr d ↦ old_is_there t (with_terms ts terms) q (with_terms-new ts terms q d)
]

with_terms-cases : (ts terms : List (List ℕ)) (q : List ℕ) → Contains (with_terms ts terms) q → Contains ts q ⊎ Contains terms q
with_terms-cases [] terms q c = inr c
with_terms-cases (t ∷ ts) terms q c = elim (old_or_new t (with_terms ts terms) q c) [
  | inl e ↦ inl (subst (λ y. Contains (t ∷ ts) y) e (Contains-here t ts))
  | inr d ↦ elim (with_terms-cases ts terms q d) [ inl f ↦ inl (Contains-later t ts q f) | inr f ↦ inr f ]
]

IsRising-vocabulary : (docs : List Document) → IsRising (vocabulary_of docs)
unfolding IsStrictlySortedBy
IsRising-vocabulary [] = tt
IsRising-vocabulary (d ∷ docs) = IsRising-with_terms d.tokens (vocabulary_of docs) (IsRising-vocabulary docs)

vocabulary-all : (docs : List Document) (q : List ℕ) → Occurs q docs → Contains (vocabulary_of docs) q
vocabulary-all [] q o = elim o [ ]
vocabulary-all (d ∷ docs) q (inl c) = with_terms-new d.tokens (vocabulary_of docs) q c
vocabulary-all (d ∷ docs) q (inr o) = with_terms-old d.tokens (vocabulary_of docs) q (vocabulary-all docs q o)

vocabulary-only : (docs : List Document) (q : List ℕ) → Contains (vocabulary_of docs) q → Occurs q docs
vocabulary-only [] q c = absurd (Contains-none q c)
vocabulary-only (d ∷ docs) q c = elim (with_terms-cases d.tokens (vocabulary_of docs) q c) [
  | inl e ↦ inl e
  | inr e ↦ inr (vocabulary-only docs q e)
]

pub IsVocabulary-vocabulary_of : (docs : List Document) → IsVocabulary (vocabulary_of docs) docs
IsVocabulary-vocabulary_of docs = record {
  rising = λ i j d lower inside. Less-from_sorted order (vocabulary_of docs) i j d (IsRising-vocabulary docs) lower inside;
  only = λ k d inside. vocabulary-only docs (get_or (vocabulary_of docs) k d) (k, inside, get_or-self (vocabulary_of docs) k d inside);
  all = vocabulary-all docs;
}
  where
    get_or-self : (xs : List (List ℕ)) (k : ℕ) (d : List ℕ) → k < length xs → get_or xs k (get_or xs k d) ≡ get_or xs k d
    get_or-self xs k d inside = sym (get_or_default xs k d (get_or xs k d) inside)

-- two rising lists with the same terms are equal
never_after_itself : (x : List ℕ) → order x x ≡ Less → ⊥
never_after_itself x e =
    let tied : order x x ≡ Equal = tied_itself nat_list_cmp_total x in
    let clash : Less ≡ Equal = sym e ∙ tied in
    cc

never_both : (x y : List ℕ) → order x y ≡ Less → order y x ≡ Less → ⊥
never_both x y e f = never_after_itself x (nat_list_cmp_total.trans x y x e f)

later : (x : List ℕ) (xs : List (List ℕ)) (y : List ℕ) → IsRising (x ∷ xs) → Contains xs y → order x y ≡ Less
later x xs y up c = All-contains (λ z. order x z ≡ Less) xs y (All-from_recursion (λ z. order x z ≡ Less) xs (sorted_head order x xs up)) c

rising_same : (xs ys : List (List ℕ)) → IsRising xs → IsRising ys → ((q : List ℕ) → Contains xs q → Contains ys q) → ((q : List ℕ) → Contains ys q → Contains xs q) → xs ≡ ys
rising_same [] [] up down f g = refl
rising_same [] (y ∷ ys) up down f g = absurd (Contains-none y (g y (Contains-here y ys)))
rising_same (x ∷ xs) [] up down f g = absurd (Contains-none x (f x (Contains-here x xs)))
rising_same (x ∷ xs) (y ∷ ys) up down f g =
    ap (λ z. z ∷ xs) heads ∙ ap (λ l. y ∷ l) (rising_same xs ys (sorted_tail order x xs up) (sorted_tail order y ys down) forth back)
  where
    heads : x ≡ y
    heads = elim (Contains-cases y ys x (f x (Contains-here x xs))) [
      | inl e ↦ sym e
      | inr c ↦ elim (Contains-cases x xs y (g y (Contains-here y ys))) [
        | inl e ↦ e
        | inr d ↦ absurd (never_both x y (later x xs y up d) (later y ys x down c))
      ]
    ]

    forth : (q : List ℕ) → Contains xs q → Contains ys q
    forth q c = elim (Contains-cases y ys q (f q (Contains-later x xs q c))) [
      | inl e ↦ absurd (never_after_itself x (subst (λ z. order x z ≡ Less) (sym (heads ∙ e)) (later x xs q up c)))
      | inr d ↦ d
    ]

    back : (q : List ℕ) → Contains ys q → Contains xs q
    back q c = elim (Contains-cases x xs q (g q (Contains-later y ys q c))) [
      | inl e ↦ absurd (never_after_itself y (subst (λ z. order y z ≡ Less) (sym (sym heads ∙ e)) (later y ys q down c)))
      | inr d ↦ d
    ]

IsRising-from_pairs : (terms : List (List ℕ)) → AllPairs IsTermBefore terms → IsRising terms
IsRising-from_pairs terms up = sorted_from_all_adjacent nat_list_cmp_total terms [] (λ k inside. up k (k + 1) [] (omega arith) inside)

pub IsVocabulary-same : (terms : List (List ℕ)) (docs : List Document) → IsVocabulary terms docs → terms ≡ vocabulary_of docs
IsVocabulary-same terms docs v =
    rising_same terms (vocabulary_of docs) (IsRising-from_pairs terms v.rising) (IsRising-vocabulary docs)
    (λ q c. vocabulary-all docs q (All-contains (λ t. Occurs t docs) terms q v.only c))
    (λ q c. v.all q (vocabulary-only docs q c))
