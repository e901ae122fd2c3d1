-- lists of extents by recursion and by places
use Rattle.std.proofs.Common.{◌≡◌, ℕ, zero, suc, ◌<◌, inl, inr, ⊎_elim, List, [], ◌∷◌, map, refl, ap, ◌∙◌, arith}
use Rattle.std.specs.List.{All, AllPairs, Contains}
use Rattle.std.specs.List.Sorted.{IsStrictlyIncreasing}
use Rattle.std.proofs.lemmas.List.Elements.{All-cons, All-nil}
use Rattle.std.proofs.lemmas.List.Kept.{AllPairs-cons, AllPairs-from_increasing}
use Rattle.ri_base.specs.Pair.{Pair}
use Rattle.extent_lists.specs.Listing.{IsBefore, IsListing}
use Rattle.extent_lists.specs.Rows.{Has, IsAscending, IsBeforeAll, Lists, extent_at}
use Rattle.extent_lists.proofs.LeafLemmas.{AllPairs-head, AllPairs-tail}

All-before : (x : Pair) (xs : List Pair) → IsBeforeAll x xs → All (IsBefore x) xs
All-before x [] h = All-nil (IsBefore x)
All-before x (y ∷ ys) h = All-cons (IsBefore x) y ys h.0 (All-before x ys h.1)

pub AllPairs-ascending : (xs : List Pair) → IsAscending xs → AllPairs IsBefore xs
AllPairs-ascending [] up = λ i j d lower inside. absurd (omega (arith, inside))
AllPairs-ascending (x ∷ xs) up = AllPairs-cons IsBefore x xs (All-before x xs up.0) (AllPairs-ascending xs up.1)

All-has : (R : ℕ → ℕ → Type 0) (xs : List Pair) → ((b e : ℕ) → Has xs b e → R b e) → All (λ x. R x.begin x.end) xs
All-has R [] h = All-nil (λ (x : Pair). R x.begin x.end)
All-has R (x ∷ xs) h = All-cons (λ (y : Pair). R y.begin y.end) x xs (h x.begin x.end (inl (refl, refl))) (All-has R xs (λ b e k. h b e (inr k)))

pub Contains-has : (xs : List Pair) (b e : ℕ) → Has xs b e → Contains xs (record { begin = b; end = e })
Contains-has [] b e h = absurd h
Contains-has (x ∷ xs) b e h =
    let make : ℕ → ℕ → Pair = λ m n. record { begin = m; end = n } in
    ⊎_elim
    (λ k. (zero, omega arith, ap (λ (n : ℕ). make n x.end) k.0 ∙ ap (λ (n : ℕ). make b n) k.1))
    (λ k. let w = Contains-has xs b e k in (suc w.0, omega (arith, w.1), w.2))
    h

pub IsListing-lists : (R : ℕ → ℕ → Type 0) (xs : List Pair) → Lists R xs → IsListing R xs
IsListing-lists R xs l = record {
  ascending = AllPairs-ascending xs l.ascending;
  only = All-has R xs l.only;
  all = λ b e h. Contains-has xs b e (l.all b e h);
}

-- the extents of places that rise
before_places : (x : ℕ) (ps : List ℕ) → All (λ p. x < p) ps → IsBeforeAll (extent_at x) (map extent_at ps)
before_places x [] h = tt
before_places x (p ∷ ps) h = (inl (h zero 0 (omega arith)), before_places x ps (λ k d inside. h (suc k) d (omega (arith, inside))))

ascending_places : (ps : List ℕ) → AllPairs (λ x y. x < y) ps → IsAscending (map extent_at ps)
ascending_places [] h = tt
ascending_places (p ∷ ps) h = (before_places p ps (AllPairs-head (λ (x y : ℕ). x < y) p ps h), ascending_places ps (AllPairs-tail (λ (x y : ℕ). x < y) p ps h))

pub IsAscending-places : (ps : List ℕ) (v : List Pair) → IsStrictlyIncreasing ps → v ≡ map extent_at ps → IsAscending v
IsAscending-places ps v up is = rw is (ascending_places ps (AllPairs-from_increasing ps up))
