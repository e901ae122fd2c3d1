-- chains whose arguments have the ends of their extents in order
use Rattle.std.proofs.Common.{◌≡◌, ℕ, zero, suc, ◌+◌, ◌-◌, ◌<◌, ◌≤◌, ⊎_elim, Bool, true, false, nat_le, Option, Some, None, List, [], ◌∷◌, length, drop, get_or, slice_set, add-one, refl, sym, ap, ◌∙◌, subst, arith}
use Rattle.std.specs.Prelude.{⊤}
use Rattle.std.specs.List.{All}
use Rattle.ri_base.specs.Pair.{Pair}
use Rattle.std.proofs.lemmas.Bool.Decides.{nat_tests}
use Rattle.std.proofs.lemmas.List.Elements.{All-head, All-tail}
use Rattle.std.proofs.lemmas.List.{drop-set-lt, length-set}
use Rattle.extent_lists.specs.Operators.{Follows, IsChain}
use Rattle.extent_lists.specs.Plans.{Plan, Plans, none, more, set, each_set}
use Rattle.extent_walks.specs.Chains.{AreChained, IsAsked, IsChainFrom, IsReached, plan_at, with_first}
use Rattle.extent_walks.specs.Next.{IsFrom, IsNext}
use Rattle.extent_walks.specs.Shapes.{is_monotone, plans_shape}
use Rattle.extent_walks.specs.Walks.{plan, plans}
use Rattle.extent_walks.specs.declared.reach.Reach.{Reach}
use Rattle.extent_walks.specs.declared.walk.Ahead.{Ahead}
use Rattle.extent_walks.proofs.NextLemmas.{IsFrom-begin, never}
use Rattle.extent_walks.proofs.ShapeLemmas.{EachMonotone, chained_monotone}
use Rattle.extent_walks.proofs.WalkLaws.{set-some}

-- ---- one argument of several

abbrev pub plans_drop : ℕ → Plans → Plans
plans_drop zero g = g
plans_drop (suc i) none = none
plans_drop (suc i) (more p g) = plans_drop i g

abbrev pub plans_count : Plans → ℕ
plans_count none = 0
plans_count (more p g) = suc (plans_count g)

pub plans_count-is : (xs : List Ahead) → plans_count (plans xs) ≡ length xs
plans_count-is [] = refl
plans_count-is (x ∷ xs) = ap (λ (k : ℕ). suc k) (plans_count-is xs)

pub each_set-count : (g : Plans) → length (each_set g) ≡ plans_count g
unfolding set each_set
each_set-count none = refl
each_set-count (more p g) = ap (λ (k : ℕ). suc k) (each_set-count g)

pub plan_at-is : (xs : List Ahead) (k : ℕ) (d : Ahead) → k < length xs → plan (get_or xs k d).walk ≡ plan_at (plans xs) k
plan_at-is [] k d h = absurd (omega (arith, h))
plan_at-is (x ∷ xs) zero d h = refl
plan_at-is (x ∷ xs) (suc k) d h = plan_at-is xs k d (omega (arith, h))

abbrev SetAt : Plans → ℕ → ℕ → ℕ → Type 0
SetAt g k = set (plan_at g k)

-- ---- chains of which an extent begins no earlier than it did

raise_head : (n : ℕ) (R : ℕ → ℕ → Type 0) (ss : List (ℕ → ℕ → Type 0)) (l v : ℕ) (ls : List ℕ) (b e : ℕ) → v ≤ b → IsChainFrom n (R ∷ ss) (l ∷ ls) b e → IsChainFrom n (R ∷ ss) (v ∷ ls) b e
raise_head n R [] l v ls b e p h = (p, h.1)
raise_head n R (S ∷ ss) l v ls b e p h = (p, h.1)

head_low : (n : ℕ) (R : ℕ → ℕ → Type 0) (ss : List (ℕ → ℕ → Type 0)) (l : ℕ) (ls : List ℕ) (b e : ℕ) → IsChainFrom n (R ∷ ss) (l ∷ ls) b e → (l ≤ b) × ((t : ℕ) × R b t)
head_low n R [] l ls b e h = (h.0, (e, h.1))
head_low n R (S ∷ ss) l ls b e h = (h.0, (h.1.0, h.1.2))

-- the first of a set comes no later than any from the place on
first_before : (R : ℕ → ℕ → Type 0) (l : ℕ) (x : Pair) (b e : ℕ) → IsNext R l 0 (Some x) → l ≤ b → R b e → x.begin ≤ b
first_before R l x b e h low r =
    let w = h.least b e r (from l b e low) in
    let is : w.0 ≡ x = cc in
    IsFrom-begin x.begin x.end b e (subst (λ (v : Pair). IsFrom v.begin v.end b e) is w.2)
  where
    from : (l b e : ℕ) → l ≤ b → IsFrom l 0 b e
    from l b e p = grind arith

no_first : (R : ℕ → ℕ → Type 0) (l b e : ℕ) → IsNext R l 0 None → l ≤ b → R b e → ⊥
no_first R l b e h low r = never (h.least b e r (from l b e low)).1
  where
    from : (l b e : ℕ) → l ≤ b → IsFrom l 0 b e
    from l b e p = grind arith

-- the one that follows begins no earlier than the first ends
raise_next : (n : ℕ) (g : Plans) (k : ℕ) (x : Pair) (ls : List ℕ) → suc k < plans_count g → EachMonotone (each_set g) → IsNext (SetAt g k) (get_or ls k 0) 0 (Some x) → (b e : ℕ) → IsChainFrom n (each_set g) ls b e → IsChainFrom n (each_set g) (slice_set ls (suc k) x.end) b e
unfolding set each_set
raise_next n none k x ls p m f b e h = absurd (omega (arith, p))
raise_next n (more q none) k x ls p m f b e h = absurd (omega (arith, p))
raise_next n (more q (more r g)) k x [] p m f b e h = absurd h
raise_next n (more q (more r g)) zero x (l ∷ []) p m f b e h = h
raise_next n (more q (more r g)) zero x (l ∷ u ∷ ls) p m f b e h =
    let begins = first_before (set q) l x b h.1.0 f h.0 h.1.2 in
    let ends = m.0 x.begin x.end b h.1.0 (f.only x refl).0 h.1.2 begins in
    (h.0, (h.1.0, h.1.1, h.1.2, h.1.3, raise_head n (set r) (each_set g) u x.end ls h.1.1 e (omega (arith, ends, h.1.3.0)) h.1.4))
raise_next n (more q (more r g)) (suc k) x (l ∷ ls) p m f b e h =
    (h.0, (h.1.0, h.1.1, h.1.2, h.1.3, raise_next n (more r g) k x ls (omega (arith, p)) m.1 f h.1.1 e h.1.4))

-- an extent that no other follows is passed
raise_here : (n : ℕ) (g : Plans) (k : ℕ) (x y : Pair) (ls : List ℕ) → suc k < plans_count g → EachMonotone (each_set g) → IsNext (SetAt g k) (get_or ls k 0) 0 (Some x) → IsNext (SetAt g (suc k)) (get_or ls (suc k) 0) 0 (Some y) → x.end + n ≤ y.begin → (b e : ℕ) → IsChainFrom n (each_set g) ls b e → IsChainFrom n (each_set g) (slice_set ls k (x.begin + 1)) b e
unfolding set each_set
raise_here n none k x y ls p m f s far b e h = absurd (omega (arith, p))
raise_here n (more q none) k x y ls p m f s far b e h = absurd (omega (arith, p))
raise_here n (more q (more r g)) k x y [] p m f s far b e h = absurd h
raise_here n (more q (more r none)) zero x y (l ∷ []) p m f s far b e h = absurd h.1.4
raise_here n (more q (more r (more t g))) zero x y (l ∷ []) p m f s far b e h = absurd h.1.4
raise_here n (more q (more r g)) zero x y (l ∷ u ∷ ls) p m f s far b e h =
    let begins = first_before (set q) l x b h.1.0 f h.0 h.1.2 in
    let later = head_low n (set r) (each_set g) u ls h.1.1 e h.1.4 in
    let next = first_before (set r) u y h.1.1 later.1.0 s later.0 later.1.1 in
    (by b h.1.0 h.1.2 begins (omega (arith, far, next, h.1.3.1)), h.1)
  where
    by : (b t : ℕ) → set q b t → x.begin ≤ b → x.end < t → x.begin + 1 ≤ b
    by b t r begins ends = decided b t r begins ends (nat_le b x.begin) refl
      where
        decided : (b t : ℕ) → set q b t → x.begin ≤ b → x.end < t → (v : Bool) → nat_le b x.begin ≡ v → x.begin + 1 ≤ b
        decided b t r begins ends true j = absurd (omega (arith, ends, m.0 b t x.begin x.end r (f.only x refl).0 (grind (arith, nat_tests))))
        decided b t r begins ends false j = grind (arith, nat_tests)
raise_here n (more q (more r g)) (suc k) x y (l ∷ ls) p m f s far b e h =
    (h.0, (h.1.0, h.1.1, h.1.2, h.1.3, raise_here n (more r g) k x y ls (omega (arith, p)) m.1 f s far h.1.1 e h.1.4))

-- where an argument has no extent any more, there is no chain
no_chain : (n : ℕ) (g : Plans) (k : ℕ) (ls : List ℕ) → k < plans_count g → IsNext (SetAt g k) (get_or ls k 0) 0 None → (b e : ℕ) → IsChainFrom n (each_set g) ls b e → ⊥
unfolding set each_set
no_chain n none k ls p f b e h = absurd (omega (arith, p))
no_chain n (more q none) k [] p f b e h = absurd h
no_chain n (more q none) zero (l ∷ ls) p f b e h = no_first (set q) l b e f h.0 h.1
no_chain n (more q none) (suc k) (l ∷ ls) p f b e h = absurd (omega (arith, p))
no_chain n (more q (more r g)) k [] p f b e h = absurd h
no_chain n (more q (more r g)) zero (l ∷ ls) p f b e h = no_first (set q) l b h.1.0 f h.0 h.1.2
no_chain n (more q (more r g)) (suc k) (l ∷ ls) p f b e h = no_chain n (more r g) k ls (omega (arith, p)) f h.1.1 e h.1.4

-- ---- the first extents from the numbers on, where each follows the one before

abbrev pub IsFirst : (ℕ → ℕ → Type 0) → ℕ → ℕ → ℕ → Type 0
IsFirst R l b e = IsNext R l 0 (Some (record { begin = b; end = e }))

abbrev pub IsRun : ℕ → Plans → List ℕ → ℕ → ℕ → Type 0
IsRun n none ls b e = ⊥
IsRun n (more p g) [] b e = ⊥
IsRun n (more p none) (l ∷ ls) b e = IsFirst (set p) l b e
IsRun n (more p (more q g)) (l ∷ ls) b e = (to : ℕ) × (from : ℕ) × IsFirst (set p) l b to × Follows n to from × IsRun n (more q g) ls from e

-- the same, if there is an argument
abbrev pub HasRun : ℕ → Plans → List ℕ → ℕ → Type 0
HasRun n none ls e = ⊤
HasRun n (more p g) ls e = (b : ℕ) × IsRun n (more p g) ls b e

run_chain : (n : ℕ) (g : Plans) (ls : List ℕ) (b e : ℕ) → IsRun n g ls b e → IsChain n (each_set g) b e
unfolding set each_set
run_chain n none ls b e h = absurd h
run_chain n (more p none) [] b e h = absurd h
run_chain n (more p (more q g)) [] b e h = absurd h
run_chain n (more p none) (l ∷ ls) b e h = (h.only (record { begin = b; end = e }) refl).0
run_chain n (more p (more q g)) (l ∷ ls) b e h = (h.0, h.1, (h.2.only (record { begin = b; end = h.0 }) refl).0, h.3, run_chain n (more q g) ls h.1 e h.4)

run_least : (n : ℕ) (g : Plans) (ls : List ℕ) (b e c d : ℕ) → EachMonotone (each_set g) → IsRun n g ls b e → IsChainFrom n (each_set g) ls c d → (b ≤ c) × (e ≤ d)
unfolding set each_set
run_least n none ls b e c d m r h = absurd h
run_least n (more p none) [] b e c d m r h = absurd h
run_least n (more p (more q g)) [] b e c d m r h = absurd h
run_least n (more p none) (l ∷ ls) b e c d m r h =
    let x : Pair = record { begin = b; end = e } in
    let begins = first_before (set p) l x c d r h.0 h.1 in
    (begins, m.0 b e c d (r.only x refl).0 h.1 begins)
run_least n (more p (more q g)) (l ∷ ls) b e c d m r h =
    let x : Pair = record { begin = b; end = r.0 } in
    (first_before (set p) l x c h.1.0 r.2 h.0 h.1.2, (run_least n (more q g) ls r.1 e h.1.1 d m.1 r.4 h.1.4).1)

one_first : (R : ℕ → ℕ → Type 0) (l b e : ℕ) (y : Pair) → IsFirst R l b e → IsNext R l 0 (Some y) → b ≡ y.begin
one_first R l b e y h k =
    let x : Pair = record { begin = b; end = e } in
    let u = h.only x refl in
    let v = k.only y refl in
    omega (arith, first_before R l x y.begin y.end h (IsFrom-begin l 0 y.begin y.end v.1) v.0, first_before R l y b e k (IsFrom-begin l 0 b e u.1) u.0)

run_first : (n : ℕ) (p : Plan) (g : Plans) (l : ℕ) (ls : List ℕ) (b e : ℕ) (y : Pair) → IsRun n (more p g) (l ∷ ls) b e → IsNext (set p) l 0 (Some y) → b ≡ y.begin
run_first n p none l ls b e y r h = one_first (set p) l b e y r h
run_first n p (more q g) l ls b e y r h = one_first (set p) l b r.0 y r.2 h

run_tail : (n : ℕ) (g : Plans) (i : ℕ) (ls : List ℕ) (e : ℕ) → i < plans_count g → HasRun n (plans_drop i g) (drop i ls) e → HasRun n (plans_drop (suc i) g) (drop (suc i) ls) e
run_tail n none i ls e p h = absurd (omega (arith, p))
run_tail n (more p none) zero ls e q h = tt
run_tail n (more p (more r g)) zero [] e q h = absurd h.1
run_tail n (more p (more r g)) zero (l ∷ ls) e q h = (h.1.1, h.1.4)
run_tail n (more p g) (suc i) [] e q h = run_tail n g i [] e (omega (arith, q)) (drop_none i h)
  where
    drop_none : (i : ℕ) → HasRun n (plans_drop i g) [] e → HasRun n (plans_drop i g) (drop i []) e
    drop_none zero h = h
    drop_none (suc i) h = h
run_tail n (more p g) (suc i) (l ∷ ls) e q h = run_tail n g i ls e (omega (arith, q)) h

-- one more before them
run_more : (n : ℕ) (g : Plans) (k : ℕ) (x y : Pair) (ls : List ℕ) (e : ℕ) → suc k < plans_count g → k < length ls → IsNext (SetAt g k) (get_or ls k 0) 0 (Some x) → IsNext (SetAt g (suc k)) (get_or ls (suc k) 0) 0 (Some y) → Follows n x.end y.begin → HasRun n (plans_drop (suc k) g) (drop (suc k) ls) e → HasRun n (plans_drop k g) (drop k ls) e
run_more n none k x y ls e p j f s link h = absurd (omega (arith, p))
run_more n (more q none) k x y ls e p j f s link h = absurd (omega (arith, p))
run_more n (more q (more r g)) k x y [] e p j f s link h = absurd (omega (arith, j))
run_more n (more q (more r g)) zero x y (l ∷ []) e p j f s link h = absurd (none_here g h.1)
  where
    none_here : (g : Plans) → IsRun n (more r g) [] h.0 e → ⊥
    none_here none k = k
    none_here (more t g) k = k
run_more n (more q (more r g)) zero x y (l ∷ u ∷ ls) e p j f s link h =
    let same : h.0 ≡ y.begin = run_first n r g u ls h.0 e y h.1 s in
    (x.begin, (x.end, h.0, f, subst (λ (v : ℕ). Follows n x.end v) (sym same) link, h.1))
run_more n (more q (more r g)) (suc k) x y (l ∷ ls) e p j f s link h = run_more n (more r g) k x y ls e (omega (arith, p)) (omega (arith, j)) f s link h

-- the last alone
run_last : (n : ℕ) (g : Plans) (k : ℕ) (x : Pair) (ls : List ℕ) → suc k ≡ plans_count g → k < length ls → IsNext (SetAt g k) (get_or ls k 0) 0 (Some x) → HasRun n (plans_drop k g) (drop k ls) x.end
run_last n none k x ls p j f = absurd (omega (arith, p))
run_last n (more q g) k x [] p j f = absurd (omega (arith, j))
run_last n (more q none) zero x (l ∷ ls) p j f = (x.begin, f)
run_last n (more q (more r g)) zero x (l ∷ ls) p j f = absurd (omega (arith, p))
run_last n (more q g) (suc k) x (l ∷ ls) p j f = run_last n g k x ls (omega (arith, p)) (omega (arith, j)) f

-- ---- the search

-- the first number is no less
abbrev IsBelowFirst : ℕ → List ℕ → Type 0
IsBelowFirst low [] = ⊤
IsBelowFirst low (l ∷ ls) = low ≤ l

below_set : (low : ℕ) (ls : List ℕ) (k v : ℕ) → k < length ls → get_or ls k 0 ≤ v → IsBelowFirst low ls → IsBelowFirst low (slice_set ls k v)
below_set low [] k v p q h = absurd (omega (arith, p))
below_set low (l ∷ ls) zero v p q h = omega (arith, q, h)
below_set low (l ∷ ls) (suc k) v p q h = h

-- how far the numbers may rise
abbrev pub room : List ℕ → ℕ
room [] = 0
room (l ∷ ls) = (4294967296 - l) + room ls

pub room_falls : (ls : List ℕ) (k v : ℕ) → k < length ls → get_or ls k 0 < v → v ≤ 4294967296 → room (slice_set ls k v) < room ls
room_falls [] k v p q r = absurd (omega (arith, p))
room_falls (l ∷ ls) zero v p q r = omega (arith, q, r)
room_falls (l ∷ ls) (suc k) v p q r = let h = room_falls ls k v (omega (arith, p)) q r in omega (arith, h)

-- no chain from `low` on has an extent before its number, and from the i-th argument on each first extent is followed by
-- the next one
pub record IsSearched (n : ℕ) (g : Plans) (low i end : ℕ) (ls : List ℕ) : Type 0 where
  pub count : length ls ≡ plans_count g
  pub passed : (b e : ℕ) → low ≤ b → IsChain n (each_set g) b e → IsChainFrom n (each_set g) ls b e
  pub first : IsBelowFirst low ls
  pub run : HasRun n (plans_drop i g) (drop i ls) end

chain_from_first : (n : ℕ) (ss : List (ℕ → ℕ → Type 0)) (ls : List ℕ) (low b e : ℕ) → low ≤ b → IsChainFrom n ss ls b e → IsChainFrom n ss (with_first low ls) b e
chain_from_first n [] ls low b e p h = absurd h
chain_from_first n (R ∷ []) [] low b e p h = absurd h
chain_from_first n (R ∷ S ∷ ss) [] low b e p h = absurd h
chain_from_first n (R ∷ []) (l ∷ ls) low b e p h = (omega (arith, p, h.0), h.1)
chain_from_first n (R ∷ S ∷ ss) (l ∷ ls) low b e p h = (omega (arith, p, h.0), h.1)

chain_from_none : (n : ℕ) (ss : List (ℕ → ℕ → Type 0)) (ls : List ℕ) (b e : ℕ) → All (λ l. l ≡ 0) ls → length ls ≡ length ss → IsChain n ss b e → IsChainFrom n ss ls b e
chain_from_none n [] ls b e z p h = absurd h
chain_from_none n (R ∷ []) [] b e z p h = absurd (omega (arith, p))
chain_from_none n (R ∷ S ∷ ss) [] b e z p h = absurd (omega (arith, p))
chain_from_none n (R ∷ []) (l ∷ ls) b e z p h = (omega (arith, All-head (λ (k : ℕ). k ≡ 0) l ls z), h)
chain_from_none n (R ∷ S ∷ ss) (l ∷ ls) b e z p h =
    (omega (arith, All-head (λ (k : ℕ). k ≡ 0) l ls z), (h.0, h.1, h.2, h.3, chain_from_none n (S ∷ ss) ls h.1 e (All-tail (λ (k : ℕ). k ≡ 0) l ls z) (omega (arith, p)) h.4))

count_first : (low : ℕ) (ls : List ℕ) → length (with_first low ls) ≡ length ls
count_first low [] = refl
count_first low (l ∷ ls) = refl

below_first : (low : ℕ) (ls : List ℕ) → IsBelowFirst low (with_first low ls)
below_first low [] = tt
below_first low (l ∷ ls) = omega arith

drop_plans : (g : Plans) (i : ℕ) → plans_count g ≤ i → plans_drop i g ≡ none
drop_plans none zero p = refl
drop_plans none (suc i) p = refl
drop_plans (more q g) zero p = absurd (omega (arith, p))
drop_plans (more q g) (suc i) p = drop_plans g i (omega (arith, p))

pub IsSearched-asked : (n : ℕ) (g : Plans) (low i : ℕ) (old new : Reach) → IsReached n (each_set g) old → IsAsked low old new → i ≡ plans_count g → IsSearched n g low i 0 new.lows.items
IsSearched-asked n g low i old new h a last =
    let known = a.lows.0 in
    let counted : length known ≡ length (each_set g) = a.lows.1 ∙ h.count in
    let from_known : (b e : ℕ) → low ≤ b → IsChain n (each_set g) b e → IsChainFrom n (each_set g) known b e = λ b e p c. ⊎_elim
    (λ k. subst (λ (ls : List ℕ). IsChainFrom n (each_set g) ls b e) (sym k.1) (h.passed b e (omega (arith, k.0, p)) c))
    (λ k. chain_from_none n (each_set g) known b e k counted c)
    a.lows.3 in
    rw a.lows.2 (record {
      count = count_first low known ∙ counted ∙ each_set-count g;
      passed = λ b e p c. chain_from_first n (each_set g) known low b e p (from_known b e p c);
      first = below_first low known;
      run = rw (drop_plans g i (omega (arith, last))) tt;
    })

-- ---- an argument on the way, and the one behind it

-- `x` is the next extent of the k-th argument from its number on, and those behind it are searched
pub record IsAt (n : ℕ) (g : Plans) (low k end : ℕ) (ls : List ℕ) (x : Pair) : Type 0 where
  pub mono : EachMonotone (each_set g)
  pub searched : IsSearched n g low (k + 1) end ls
  pub inside : k < plans_count g
  pub next : IsNext (SetAt g k) (get_or ls k 0) 0 (Some x)

-- and `y` is that of the argument behind it
pub record IsFollowed (g : Plans) (k : ℕ) (ls : List ℕ) (y : Pair) : Type 0 where
  pub more_of : k + 1 < plans_count g
  pub next : IsNext (SetAt g (k + 1)) (get_or ls (k + 1) 0) 0 (Some y)

pub number_is : (ls : List ℕ) (k v : ℕ) → k < length ls → v ≡ get_or ls k v → v ≡ get_or ls k 0
number_is [] k v p e = absurd (omega (arith, p))
number_is (l ∷ ls) zero v p e = e
number_is (l ∷ ls) (suc k) v p e = number_is ls k v (omega (arith, p)) e

searched_before : (n : ℕ) (g : Plans) (low i end : ℕ) (ls : List ℕ) → 0 < i → IsSearched n g low i end ls → IsSearched n g low ((i - 1) + 1) end ls
searched_before n g low i end ls p h = let one : i ≡ (i - 1) + 1 = omega (arith, p) in subst (λ (v : ℕ). IsSearched n g low v end ls) one h

-- the walks of the arguments are as they were at first
module _ (xs ys : List Ahead) (same : plans xs ≡ plans ys) where
  pub is_inside : {i : ℕ} → 0 < i → i ≤ length xs → i - 1 < plans_count (plans ys)
  is_inside some inside = omega (arith, some, inside, plans_count-is xs, ap plans_count same)

  -- the next extent is that from the number that is held
  pub next_at : {n low i end : ℕ} {ls : List ℕ} (k : ℕ) {v : ℕ} {o : Option Pair} → IsSearched n (plans ys) low i end ls → k < plans_count (plans ys) → v ≡ get_or ls k v → IsNext (set (plan_at (plans xs) k)) v 0 o
      → IsNext (SetAt (plans ys) k) (get_or ls k 0) 0 o
  next_at {n} {low} {i} {end} {ls} k {v} {o} searched inside is next =
      let low_is : v ≡ get_or ls k 0 = number_is ls k v (omega (arith, inside, searched.count)) is in
      subst (λ (l : ℕ). IsNext (SetAt (plans ys) k) l 0 o) low_is (subst (λ (g : Plans). IsNext (SetAt g k) v 0 o) same next)

  pub is_at : {n low i end : ℕ} {ls : List ℕ} {v : ℕ} {x : Pair} → AreChained (plans ys) → 0 < i → i ≤ length xs → IsSearched n (plans ys) low i end ls → v ≡ get_or ls (i - 1) v → IsNext (set (plan_at (plans xs) (i - 1))) v 0 (Some x)
      → IsAt n (plans ys) low (i - 1) end ls x
  is_at {n} {low} {i} {end} {ls} chained some inside searched is next = record {
    mono = chained_monotone (plans ys) chained;
    searched = searched_before n (plans ys) low i end ls some searched;
    inside = is_inside some inside;
    next = next_at (i - 1) searched (is_inside some inside) is next;
  }

module _ {n : ℕ} {g : Plans} {low k end : ℕ} {ls : List ℕ} {x : Pair} (here : IsAt n g low k end ls x) where
  first_is : get_or ls k 0 ≤ x.begin
  first_is = IsFrom-begin (get_or ls k 0) 0 x.begin x.end (here.next.only x refl).1

  pub IsSearched-last : plans_count g ≤ k + 1 → IsSearched n g low k x.end ls
  IsSearched-last last = record {
    count = here.searched.count;
    passed = here.searched.passed;
    first = here.searched.first;
    run = run_last n g k x ls (omega (arith, last, here.inside)) (omega (arith, here.searched.count, here.inside)) here.next;
  }

  module _ {y : Pair} (behind : IsFollowed g k ls y) where
    next_is : get_or ls (k + 1) 0 ≤ y.begin
    next_is = IsFrom-begin (get_or ls (k + 1) 0) 0 y.begin y.end (behind.next.only y refl).1

    pub IsSearched-follows : x.end ≤ y.begin → y.begin < x.end + n → IsSearched n g low k end ls
    IsSearched-follows after near = record {
      count = here.searched.count;
      passed = here.searched.passed;
      first = here.searched.first;
      run = run_more n g k x y ls end (omega (arith, behind.more_of)) (omega (arith, here.searched.count, here.inside)) here.next (rw add-one at behind.next) (after, omega (arith, near)) (rw add-one at here.searched.run);
    }

    pub IsSearched-early : y.begin < x.end → IsSearched n g low (k + 2) end (slice_set ls (k + 1) x.end)
    IsSearched-early early = record {
      count = length-set ls (k + 1) x.end ∙ here.searched.count;
      passed = λ b e p c. rw add-one (raise_next n g k x ls (omega (arith, behind.more_of)) here.mono here.next b e (here.searched.passed b e p c));
      first = below_set low ls (k + 1) x.end (omega (arith, here.searched.count, behind.more_of)) (omega (arith, next_is, early)) here.searched.first;
      run = rw (drop-set-lt (k + 2) ls (k + 1) x.end (omega arith)) (two (run_tail n g (k + 1) ls end behind.more_of here.searched.run));
    }
      where
        two : HasRun n (plans_drop (suc (k + 1)) g) (drop (suc (k + 1)) ls) end → HasRun n (plans_drop (k + 2) g) (drop (k + 2) ls) end
        two r = let e : suc (k + 1) ≡ k + 2 = omega arith in rw e at r

    pub room-early : y.begin < x.end → x.end ≤ 4294967296 → room (slice_set ls (k + 1) x.end) < room ls
    room-early early fits = room_falls ls (k + 1) x.end (omega (arith, here.searched.count, behind.more_of)) (omega (arith, next_is, early)) fits

    pub IsSearched-far : x.end + n ≤ y.begin → IsSearched n g low (k + 1) end (slice_set ls k (x.begin + 1))
    IsSearched-far far = record {
      count = length-set ls k (x.begin + 1) ∙ here.searched.count;
      passed = λ b e p c. raise_here n g k x y ls (omega (arith, behind.more_of)) here.mono here.next (rw add-one at behind.next) far b e (here.searched.passed b e p c);
      first = below_set low ls k (x.begin + 1) (omega (arith, here.searched.count, here.inside)) (omega (arith, first_is)) here.searched.first;
      run = rw (drop-set-lt (k + 1) ls k (x.begin + 1) (omega arith)) here.searched.run;
    }

    pub room-far : x.begin + 1 ≤ 4294967296 → room (slice_set ls k (x.begin + 1)) < room ls
    room-far fits = room_falls ls k (x.begin + 1) (omega (arith, here.searched.count, here.inside)) (omega (arith, first_is)) fits

pub IsNext-no_chain : (n : ℕ) (g : Plans) (low i k end : ℕ) (ls : List ℕ) → IsSearched n g low i end ls → k < plans_count g → IsNext (SetAt g k) (get_or ls k 0) 0 None → IsNext (IsChain n (each_set g)) low 0 None
IsNext-no_chain n g low i k end ls h inside f = record {
  only = λ y e. absurd (never e);
  least = λ b e c from. absurd (no_chain n g k ls inside f b e (h.passed b e (IsFrom-begin low 0 b e from) c));
}

pub IsNext-chain : (n : ℕ) (g : Plans) (low end : ℕ) (ls : List ℕ) (x z : Pair) → EachMonotone (each_set g) → IsSearched n g low 0 end ls → 0 < plans_count g → IsNext (SetAt g 0) (get_or ls 0 0) 0 (Some x) → z.begin ≡ x.begin → z.end ≡ end → IsNext (IsChain n (each_set g)) low 0 (Some z)
IsNext-chain n none low end ls x z m h p f b e = absurd (omega (arith, p))
IsNext-chain n (more q g) low end [] x z m h p f b e = absurd (omega (arith, h.count))
IsNext-chain n (more q g) low end (l ∷ ls) x z m h p f is ends =
    let at : h.run.0 ≡ x.begin = run_first n q g l ls h.run.0 end x h.run.1 f in
    let begins : h.run.0 ≡ z.begin = at ∙ sym is in
    let run : IsRun n (more q g) (l ∷ ls) z.begin z.end = subst (λ (v : ℕ). IsRun n (more q g) (l ∷ ls) v z.end) begins (subst (λ (v : ℕ). IsRun n (more q g) (l ∷ ls) h.run.0 v) (sym ends) h.run.1) in
    let lower : l ≤ x.begin = IsFrom-begin l 0 x.begin x.end (f.only x refl).1 in
    record {
      only = λ y same.
          let e : z ≡ y = cc in
          subst (λ (v : Pair). IsChain n (each_set (more q g)) v.begin v.end × IsFrom low 0 v.begin v.end) e (run_chain n (more q g) (l ∷ ls) z.begin z.end run, from z.begin z.end (omega (arith, h.first, lower, is)));
      least = λ b e c fr.
          let w = run_least n (more q g) (l ∷ ls) z.begin z.end b e m run (h.passed b e (IsFrom-begin low 0 b e fr) c) in
          (z, refl, before b e w.0 w.1);
    }
  where
    from : (b e : ℕ) → low ≤ b → IsFrom low 0 b e
    from b e p = grind arith

    before : (b e : ℕ) → z.begin ≤ b → z.end ≤ e → IsFrom z.begin z.end b e
    before b e p r = grind arith

pub IsNext-empty_chain : (n : ℕ) (g : Plans) (low : ℕ) → plans_count g ≡ 0 → IsNext (IsChain n (each_set g)) low 0 None
unfolding set each_set
IsNext-empty_chain n none low p = record {
  only = λ y e. absurd (never e);
  least = λ b e c from. absurd c;
}
IsNext-empty_chain n (more q g) low p = absurd (omega (arith, p))

pub IsReached-searched : (n : ℕ) (g : Plans) (low i end : ℕ) (reach : Reach) → reach.from ≡ low → IsSearched n g low i end reach.lows.items → IsReached n (each_set g) reach
IsReached-searched n g low i end reach is h = record {
  count = h.count ∙ sym (each_set-count g);
  passed = λ b e p c. h.passed b e (omega (arith, p, is)) c;
}

pub chained_some : (g : Plans) → AreChained g → 0 < plans_count g
chained_some none h = absurd h
chained_some (more p g) h = omega arith

chain_some : (n : ℕ) (g : Plans) (b e : ℕ) → IsChain n (each_set g) b e → b < e
unfolding set each_set
chain_some n none b e h = absurd h
chain_some n (more p none) b e h = set-some p b e h
chain_some n (more p (more r g)) b e h =
    let later = chain_some n (more r g) h.1 e h.4 in
    omega (arith, set-some p b h.0 h.2, h.3.0, later)

-- a search that has come to the first argument gives an extent
pub searched_some : (n : ℕ) (g : Plans) (low end : ℕ) (ls : List ℕ) (x : Pair) → IsSearched n g low 0 end ls → 0 < plans_count g → IsNext (SetAt g 0) (get_or ls 0 0) 0 (Some x) → x.begin < end
searched_some n none low end ls x h p f = absurd (omega (arith, p))
searched_some n (more q g) low end [] x h p f = absurd (omega (arith, h.count))
searched_some n (more q g) low end (l ∷ ls) x h p f =
    let at : h.run.0 ≡ x.begin = run_first n q g l ls h.run.0 end x h.run.1 f in
    let some = chain_some n (more q g) h.run.0 end (run_chain n (more q g) (l ∷ ls) h.run.0 end h.run.1) in
    omega (arith, some, at)

pub chained_of : (xs : List Ahead) → 0 < length xs → is_monotone (plans_shape (plans xs)) ≡ true → AreChained (plans xs)
chained_of [] p h = absurd (omega (arith, p))
chained_of (x ∷ xs) p h = h

pub IsReached-new : (n : ℕ) (g : Plans) (reach : Reach) → length reach.lows.items ≡ plans_count g → All (λ l. l ≡ 0) reach.lows.items → IsReached n (each_set g) reach
IsReached-new n g reach count fresh = record {
  count = count ∙ sym (each_set-count g);
  passed = λ b e p c. chain_from_none n (each_set g) reach.lows.items b e fresh (count ∙ sym (each_set-count g)) c;
}
