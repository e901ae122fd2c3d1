-- How many postings of one id stand one behind the other, one posting more at a time.
use Rattle.std.proofs.Common.{◌≡◌, ◌≢◌, ◌<◌, ◌≤◌, ℕ, ◌+◌, ◌==◌, ◌⊎◌, inl, inr, ⊎_elim, max, Bool, true, false, cond, List, [], ◌∷◌, ◌++◌, length, length-append, take, get_or, refl, sym, ap, subst, ◌∙◌, arith}
use Rattle.std.specs.List.Sorted.{IsNonDecreasingBy}
use Rattle.std.proofs.lemmas.Bool.{cases_lt}
use Rattle.std.proofs.lemmas.Bool.Decides.{eqb_tells}
use Rattle.std.proofs.lemmas.List.{get_or_default, take_more}
use Rattle.ri_base.specs.Places.{places_at}
use Rattle.ri_base.specs.declared.places.Place.{Place}
use Rattle.ri_base.proofs.PlacesLemmas.{places_at-append}
use Rattle.range_masks.specs.Most.{IsMostOfOne}

-- how many of the postings have the id
abbrev pub count : ℕ → List Place → ℕ
count id ps = length (places_at id ps)

count_one : (id : ℕ) (p : Place) → count id (p ∷ []) ≡ cond (p.id == id) 1 0
count_one id p = by (p.id == id)
  where
    by : (b : Bool) → length (cond b (p.at ∷ []) []) ≡ cond b 1 0
    by true = refl
    by false = refl

module _ (block : List Place) (k : ℕ) (p : Place) (inside : k < length block) (is : p ≡ get_or block k p) where
  abbrev old : ℕ → ℕ
  old id = count id (take k block)

  abbrev new : ℕ → ℕ
  new id = count id (take (k + 1) block)

  count_more : (id : ℕ) → new id ≡ old id + cond (p.id == id) 1 0
  count_more id =
      let front = take k block in
      let more : take (k + 1) block ≡ front ++ p ∷ [] = take_more block k p inside ∙ ap (λ (x : Place). front ++ x ∷ []) (sym is) in
      ap (count id) more ∙ ap length (places_at-append id front (p ∷ [])) ∙ length-append (places_at id front) (places_at id (p ∷ [])) ∙ ap (λ n. old id + n) (count_one id p)

  count_own : (id : ℕ) → p.id ≡ id → new id ≡ old id + 1
  count_own id same = let test : (p.id == id) ≡ true = grind (arith, same) in count_more id ∙ ap (λ b. old id + cond b 1 0) test

  count_other : (id : ℕ) → p.id ≢ id → new id ≡ old id
  count_other id other = let test : (p.id == id) ≡ false = grind (arith, other) in count_more id ∙ ap (λ b. old id + cond b 1 0) test ∙ omega arith

  -- the run of the last id
  own_more : (id run more : ℕ) → run ≡ old id → id ≤ p.id → ((j : ℕ) → id < j → old j ≡ 0) → more ≡ cond (p.id == id) (run + 1) 1 → more ≡ new p.id
  own_more id run more own low none longer = by (eqb_tells p.id id)
    where
      by : (((p.id == id) ≡ true) × (p.id ≡ id)) ⊎ (((p.id == id) ≡ false) × (p.id ≡ id → ⊥)) → more ≡ new p.id
      by (inl same) =
          let grown : more ≡ run + 1 = longer ∙ ap (λ b. cond b (run + 1) 1) same.0 in
          let here : old p.id ≡ run = ap old same.1 ∙ sym own in
          omega (arith, grown, here, count_own p.id refl)
      by (inr other) =
          let first : more ≡ 1 = longer ∙ ap (λ b. cond b (run + 1) 1) other.0 in
          let apart = other.1 in
          omega (arith, first, none p.id (omega (arith, low, apart)), count_own p.id refl)

  -- no later id has been there
  none_more : (id : ℕ) → id ≤ p.id → ((j : ℕ) → id < j → old j ≡ 0) → (j : ℕ) → p.id < j → new j ≡ 0
  none_more id low none j behind = count_other j (λ e. omega (arith, e, behind)) ∙ none j (omega (arith, low, behind))

  ahead_more : IsNonDecreasingBy (λ q. q.id) block → (d : Place) → k + 1 < length block → p.id ≤ (get_or block (k + 1) d).id
  ahead_more up d next =
      let here : p ≡ get_or block k d = is ∙ get_or_default block k p d inside in
      subst (λ (q : Place). q.id ≤ (get_or block (k + 1) d).id) (sym here) (up k (k + 1) d (omega arith) next)

  -- the longest run so far
  most_more : (run most now : ℕ) → run ≡ new p.id → now ≡ max most run → IsMostOfOne (take k block) most → IsMostOfOne (take (k + 1) block) now
  most_more run most now own greater so_far = record { each = λ j. each j (eqb_tells p.id j); reached = reached so_far.reached }
    where
      each : (j : ℕ) → (((p.id == j) ≡ true) × (p.id ≡ j)) ⊎ (((p.id == j) ≡ false) × (p.id ≡ j → ⊥)) → new j ≤ now
      each j (inl same) = let here : new j ≡ run = ap new (sym same.1) ∙ sym own in omega (arith, here, greater)
      each j (inr other) = omega (arith, count_other j other.1, so_far.each j, greater)

      kept : (j : ℕ) → most ≡ old j → run ≤ most → (((p.id == j) ≡ true) × (p.id ≡ j)) ⊎ (((p.id == j) ≡ false) × (p.id ≡ j → ⊥)) → (now ≡ 0) ⊎ ((i : ℕ) × (now ≡ new i))
      kept j at under (inl same) = let here : new j ≡ run = ap new (sym same.1) ∙ sym own in absurd (omega (arith, here, at, under, count_own j same.1))
      kept j at under (inr other) = inr (j, omega (arith, greater, under, at, count_other j other.1))

      before : run ≤ most → (most ≡ 0) ⊎ ((j : ℕ) × (most ≡ old j)) → (now ≡ 0) ⊎ ((i : ℕ) × (now ≡ new i))
      before under (inl none) = inl (omega (arith, greater, under, none))
      before under (inr at) = kept at.0 at.1 under (eqb_tells p.id at.0)

      reached : (most ≡ 0) ⊎ ((j : ℕ) × (most ≡ old j)) → (now ≡ 0) ⊎ ((i : ℕ) × (now ≡ new i))
      reached was = ⊎_elim
          (λ (over : most < run). inr (p.id, omega (arith, greater, over, own)))
          (λ (under : run ≤ most). before under was)
          (cases_lt most run)

-- of the first postings: how many there are of the last id, and how many of one id at most
pub record IsRunTo (block : List Place) (k id run most : ℕ) : Type 0 where
  pub own : run ≡ count id (take k block)
  pub none : (j : ℕ) → id < j → count j (take k block) ≡ 0
  pub ahead : (d : Place) → k < length block → id ≤ (get_or block k d).id
  pub longest : IsMostOfOne (take k block) most

pub run_none : (block : List Place) → IsRunTo block 0 0 0 0
run_none block = record {
  own = refl;
  none = λ j behind. refl;
  ahead = λ d inside. omega arith;
  longest = record { each = λ j. omega arith; reached = inl refl };
}

pub run_short : (same : Bool) (run more : ℕ) → more ≡ cond same (run + 1) 1 → more ≤ run + 1
run_short true run more longer = omega (arith, longer)
run_short false run more longer = omega (arith, longer)

pub run_more : (block : List Place) (k id run most more now : ℕ) (d : Place) → k < length block → IsNonDecreasingBy (λ p. p.id) block → IsRunTo block k id run most
    → more ≡ cond ((get_or block k d).id == id) (run + 1) 1 → now ≡ max most more → IsRunTo block (k + 1) (get_or block k d).id more now
run_more block k id run most more now d inside up so_far longer greater =
    let p = get_or block k d in
    let is : p ≡ get_or block k p = get_or_default block k d p inside in
    let low : id ≤ p.id = so_far.ahead d inside in
    let own = own_more block k p inside is id run more so_far.own low so_far.none longer in
    record {
      own = own;
      none = none_more block k p inside is id low so_far.none;
      ahead = λ e next. ahead_more block k p inside is up e next;
      longest = most_more block k p inside is more most now own greater so_far.longest;
    }
