-- Sums that are kept.
use Rattle.std.proofs.Common.{◌≡◌, ◌<◌, ◌⊎◌, ℕ, zero, suc, List, [], ◌∷◌, length, map, get_or, Option, Some, None, IfSome, Contains, inl, inr, sym, ap, subst, ◌∙◌, arith}
use Rattle.std.proofs.lemmas.List.{get_or-map, length-map}
use Rattle.ri_base.specs.Documents.{Document}
use Rattle.ri_base.specs.Expression.{ExprTree, expr_tree}
use Rattle.ri_base.specs.declared.hit.LeafStats.{LeafStats}
use Rattle.ri_base.proofs.ListLemmas.{Contains-here, Contains-later}
use Rattle.counts.specs.Kept.{AreSums, IsKept, IsNew, Kept, all_kept, kept_of}
use Rattle.counts.specs.Sums.{AreBounded, sums}
use Rattle.counts.specs.declared.kept_sum.KeptSum.{KeptSum}
use Rattle.counts.specs.declared.kept_sum.SumKey.{SumKey}

pub key-is : (a b : SumKey) → a.generation ≡ b.generation → a.fingerprint ≡ b.fingerprint → a ≡ b
key-is a b p q = ap (λ n. record { generation = n; fingerprint = a.fingerprint }) p ∙ ap (λ n. record { generation = b.generation; fingerprint = n }) q

-- ---- what a list says of its entries

module _ {A B : Type 0} (f : A → B) where
  came-from : (xs : List A) (k : ℕ) (y : B) → k < length (map f xs) → get_or (map f xs) k y ≡ y → (x : A) × Contains xs x × (f x ≡ y)
  came-from [] k y lt is = absurd (omega (arith, lt))
  came-from (x ∷ xs) zero y lt is = (x, Contains-here x xs, is)
  came-from (x ∷ xs) (suc k) y lt is = let rest = came-from xs k y (omega (arith, lt)) is in (rest.0, Contains-later x xs rest.0 rest.1, rest.2)

  Contains-map : (xs : List A) (y : B) → Contains (map f xs) y → (x : A) × Contains xs x × (f x ≡ y)
  Contains-map xs y h = came-from xs h.0 y h.1 h.2

  pub Contains-mapped : (xs : List A) (x : A) → Contains xs x → Contains (map f xs) (f x)
  Contains-mapped xs x h = (h.0, omega (arith, h.1, length-map xs f), get_or-map f xs h.0 x (f x) h.1 ∙ ap f h.2)

  pub all-mapped : (xs ys : List A) → ((x : A) → Contains xs x → Contains ys x) → (y : B) → Contains (map f xs) y → Contains (map f ys) y
  all-mapped xs ys all y h = let came = Contains-map xs y h in subst (Contains (map f ys)) came.2 (Contains-mapped ys came.0 (all came.0 came.1))

  pub added-mapped : (xs ys : List A) (own : A) → ((x : A) → Contains xs x → Contains ys x ⊎ (x ≡ own)) → (y : B) → Contains (map f xs) y → Contains (map f ys) y ⊎ (y ≡ f own)
  added-mapped xs ys own all y h =
      let came = Contains-map xs y h in
      elim (all came.0 came.1) [
        | inl was ↦ inl (subst (Contains (map f ys)) came.2 (Contains-mapped ys came.0 was))
        | inr is ↦ inr (sym came.2 ∙ ap f is)
      ]

-- ---- what was found under a key of this generation

pub kept-found : (es : List (SumKey × KeptSum)) (k : SumKey) (s : KeptSum) (generation : ℕ) (x : ExprTree) (context : Option (List ℕ)) (found : Option LeafStats) → Contains es (k, s)
    → k.generation ≡ generation → IfSome found (λ t. expr_tree s.expr ≡ x) → IfSome found (λ t. s.context ≡ context) → IfSome found (λ t. s.stats ≡ t)
    → IfSome found (IsKept (all_kept es) generation x context)
kept-found es k s generation x context (Some t) there same p q r =
    (kept_of (k, s), Contains-mapped kept_of es (k, s) there, record { generation_is = same; expr_is = p; context_is = q; stats_are = r })
kept-found es k s generation x context None there same p q r = tt

-- ---- the sums that are kept are those over the documents

module _ (docs : List Document) (generation : ℕ) where
  pub sums-right : (all : List Kept) (x : ExprTree) (context : Option (List ℕ)) (stats : LeafStats) → AreSums docs generation all → IsKept all generation x context stats → stats ≡ sums docs x context
  sums-right all x context stats s k =
      sym k.2.stats_are ∙ s.right k.0 k.1 k.2.generation_is ∙ ap (λ (t : ExprTree). sums docs t k.0.context) k.2.expr_is ∙ ap (sums docs x) k.2.context_is

  pub sums-stay : (old new : List Kept) → ((e : Kept) → Contains new e → Contains old e) → AreSums docs generation old → AreSums docs generation new
  sums-stay old new all s = record { right = λ e h. s.right e (all e h); none_later = λ e h. s.none_later e (all e h) }

  pub sums-added : (old new : List Kept) (x : ExprTree) (context : Option (List ℕ)) (stats : LeafStats) → ((e : Kept) → Contains new e → Contains old e ⊎ IsNew generation x context e stats)
      → stats ≡ sums docs x context → AreSums docs generation old → AreSums docs generation new
  sums-added old new x context stats adds is s = record {
    right = λ e h same. elim (adds e h) [
      | inl was ↦ s.right e was same
      | inr own ↦ own.sums.stats_are ∙ is ∙ sym (ap (sums docs x) own.sums.context_is) ∙ sym (ap (λ (t : ExprTree). sums docs t e.context) own.sums.expr_is)
    ];
    none_later = λ e h. elim (adds e h) [
      | inl was ↦ s.none_later e was
      | inr own ↦ (let same = own.sums.generation_is in omega (arith, same))
    ];
  }

-- ---- their bounds

abbrev pub AllBounded : List Kept → Type 0
AllBounded all = (e : Kept) → Contains all e → AreBounded e.stats

pub bounded-kept : (all : List Kept) (generation : ℕ) (x : ExprTree) (context : Option (List ℕ)) (stats : LeafStats) → AllBounded all → IsKept all generation x context stats → AreBounded stats
bounded-kept all generation x context stats bound k = subst AreBounded k.2.stats_are (bound k.0 k.1)

pub bounded-added : (old new : List Kept) (generation : ℕ) (x : ExprTree) (context : Option (List ℕ)) (stats : LeafStats) → ((e : Kept) → Contains new e → Contains old e ⊎ IsNew generation x context e stats)
    → AreBounded stats → AllBounded old → AllBounded new
bounded-added old new generation x context stats adds bound all e h = elim (adds e h) [
  | inl was ↦ all e was
  | inr own ↦ subst AreBounded (sym own.sums.stats_are) bound
]
