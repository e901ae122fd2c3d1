-- The ranges that a search can't pass for their bounds.
use Rattle.std.proofs.Common.{◌≡◌, ◌<◌, ◌≤◌, ℕ, zero, suc, ◌+◌, ◌*◌, ◌/◌, ◌==◌, ◌&&◌, nat_lt, not, cond, if◌then◌else◌, Bool, true, false, List, [], ◌∷◌, ◌++◌, inl, inr, ◌⊎◌, Option, None, Some, IfSome, length, map, take, drop, refl, sym, ap, subst, ◌∙◌, arith, append_assoc}
use Rattle.std.specs.List.{list_any}
use Rattle.std.proofs.lemmas.Bool.{eqb-false, eqb-true, false≢true}
use Rattle.std.proofs.lemmas.Bool.Decides.{nat_tests}
use Rattle.std.proofs.lemmas.List.{length-append, map-append}
use Rattle.ri_base.specs.Documents.{Document}
use Rattle.disk_index.specs.Snapshots.{unmarked}
use Rattle.bounded_keys.specs.Kept.{is_beaten_by, lower, upper}
use Rattle.bounded_keys.specs.declared.entry.Entry.{Entry}
use Rattle.bounded_keys.proofs.Beaten.{beaten_more}
use Rattle.document_scoring.specs.Candidates.{Candidate, candidates}
use Rattle.ranker.specs.Blocks.{OpensWithin}
use Rattle.ranker.specs.First.{KeptEntries, WereOffered, early_of, scale_of}
use Rattle.ranker.specs.Passed.{has_live, ranges_of}
use Rattle.ranker.specs.RangeKeys.{has_table, range_key}
use Rattle.ranker.specs.Squares.{entry_by}
use Rattle.ranker.specs.Unbeaten.{Holds, Sought, Stretch, candidate_count, come_to, is_beaten_behind, is_unbeaten, live_at, live_to, scored, unbeaten}
use Rattle.ranker.specs.declared.window.Window.{Window}
use Rattle.ranker.proofs.AskedLemmas.{last-or}
use Rattle.ranker.proofs.OpeningLemmas.{opens-same, times-more, times-sum}
use Rattle.ranker.proofs.PassedLemmas.{unmarked-more}
use Rattle.ranker.proofs.PlaceLemmas.{unmarked-front}
use Rattle.ranker.proofs.RankingLemmas.{candidates-append}
use Rattle.ranker.proofs.SquaresLemmas.{rows_by}
use Rattle.ranker.proofs.WithinLemmas.{take-take}

pub left-by : {A B C : Type 0} → (A → B) → A ⊎ C → B ⊎ C
left-by f (inl a) = inl (f a)
left-by f (inr c) = inr c

-- ---- numbers that rise

module _ (f : ℕ → ℕ) (up : (n : ℕ) → f n ≤ f (suc n)) where
  rises-last : (m n : ℕ) → (m ≤ n → f m ≤ f n) → (m ≤ n) ⊎ (m ≡ suc n) → f m ≤ f (suc n)
  rises-last m n rest (inl few) = let front = rest few in let one = up n in omega (arith, front, one)
  rises-last m n rest (inr same) = let e = ap f same in omega (arith, e)

  pub rises : (m n : ℕ) → m ≤ n → f m ≤ f n
  rises m zero le = let none : m ≡ 0 = omega (arith, le) in let e = ap f none in omega (arith, e)
  rises m (suc n) le = rises-last m n (λ few. rises m n few) (last-or m n le)

-- ---- up to an id

come-by : (here there : Bool) (id next : ℕ) → id ≤ next → (here ≡ true → there ≡ false → id / 64 < next / 64) → (if here then id / 64 + 1 else id / 64) ≤ (if there then next / 64 + 1 else next / 64)
come-by true true id next up past = omega (arith, up)
come-by true false id next up past = let lt = past refl refl in omega (arith, lt)
come-by false true id next up past = omega (arith, up)
come-by false false id next up past = omega (arith, up)

pub come-on : (range id next : ℕ) → id ≤ next → come_to range id ≤ come_to range next
come-on range id next up = come-by (range == id / 64) (range == next / 64) id next up past
  where
    past : (range == id / 64) ≡ true → (range == next / 64) ≡ false → id / 64 < next / 64
    past e f =
        let here : range ≡ id / 64 = eqb-true range (id / 64) e in
        let differ = eqb-false range (next / 64) f in
        omega (arith, up, here, differ)

-- a range that is held is among those that are come to
pub come-here : (range id next : ℕ) → range ≡ id / 64 → id ≤ next → id / 64 + 1 ≤ come_to range next
come-here range id next is up =
    let own : (range == id / 64) ≡ true = grind arith in
    let here : come_to range id ≡ id / 64 + 1 = ap (λ (b : Bool). if b then id / 64 + 1 else id / 64) own in
    let on = come-on range id next up in
    omega (arith, here, on)

-- ---- ranges behind all ids

dropped : (marks : List Bool) (n : ℕ) → length marks ≤ n → drop n marks ≡ []
dropped [] zero le = refl
dropped [] (suc n) le = refl
dropped (b ∷ marks) zero le = absurd (omega (arith, le))
dropped (b ∷ marks) (suc n) le = dropped marks n (omega (arith, le))

none-live : (marks : List Bool) (n : ℕ) → length marks ≤ 64 * n → has_live marks n ≡ false
none-live marks n le = ap (λ (xs : List Bool). list_any not (take 64 xs)) (dropped marks (64 * n) le)

-- ---- documents before an id

pub live-before : (m : Stretch) (j i : ℕ) → j ≤ i → (rest : List Document) × (live_to m i ≡ live_to m j ++ rest)
live-before m j i le =
    let h = unmarked-front (take i m.docs) m.marks j in
    let same : unmarked (take j (take i m.docs)) m.marks ≡ unmarked (take j m.docs) m.marks = ap (λ (ds : List Document). unmarked ds m.marks) (take-take m.docs j i le) in
    (h.0, ap (λ (ds : List Document). m.before ++ ds) (h.1 ∙ ap (λ (ds : List Document). ds ++ h.0) same) ∙ sym (append_assoc m.before (unmarked (take j m.docs) m.marks) h.0))

and-none : (b : Bool) → not (b && false) ≡ true
and-none true = refl
and-none false = refl

none-of : (b : Bool) (P : b ≡ true → ⊥) → b ≡ false
none-of true P = absurd (P refl)
none-of false P = refl

module _ (s : Sought) where
  entries : List Document → List (Entry Window)
  entries docs = map (entry_by s.network) (candidates s.kind s.priors s.filters s.network docs)

  -- by what is held
  pub not-beaten : (docs : List Document) (kept : KeptEntries) (n : ℕ) → Holds s docs kept
      → ((all : List (Entry Window)) → WereOffered all kept → is_beaten_by (λ (x : Entry Window). x.leading) kept.scale kept.most all n ≡ false) → is_beaten_behind s docs n ≡ false
  not-beaten docs kept n h none =
      let cs : List Candidate = candidates s.kind s.priors s.filters s.network docs in
      let named : map (early_of s.network) h.rows ≡ map (entry_by s.network) cs = rows_by s.network h.rows ∙ ap (map (entry_by s.network)) h.all in
      subst (λ n'. is_beaten_by (λ (x : Entry Window). x.leading) n' s.most (map (entry_by s.network) cs) n ≡ false) h.scaled
      (subst (λ k. is_beaten_by (λ (x : Entry Window). x.leading) kept.scale k (map (entry_by s.network) cs) n ≡ false) h.room
      (subst (λ (xs : List (Entry Window)). is_beaten_by (λ (x : Entry Window). x.leading) kept.scale kept.most xs n ≡ false) named (none (map (early_of s.network) h.rows) h.offered)))

  -- what fewer documents beat more do
  not-before : (old rest docs : List Document) (n : ℕ) → docs ≡ old ++ rest → is_beaten_behind s docs n ≡ false → is_beaten_behind s old n ≡ false
  not-before old rest docs n is none = none-of (is_beaten_behind s old n) (λ beaten.
      let both : map (entry_by s.network) (candidates s.kind s.priors s.filters s.network docs) ≡ map (entry_by s.network) (candidates s.kind s.priors s.filters s.network old) ++ map (entry_by s.network) (candidates s.kind s.priors s.filters s.network rest) =
      ap (λ (ds : List Document). map (entry_by s.network) (candidates s.kind s.priors s.filters s.network ds)) is ∙ ap (map (entry_by s.network)) (candidates-append s.kind s.priors s.filters s.network old rest)
      ∙ map-append (entry_by s.network) (candidates s.kind s.priors s.filters s.network old) (candidates s.kind s.priors s.filters s.network rest) in
      let more = beaten_more (λ (x : Entry Window). lower x.leading) (λ (x : Entry Window). upper (scale_of s.network) x.leading) (λ (x : Entry Window). x.leading) s.most (map (entry_by s.network) (candidates s.kind s.priors s.filters s.network old))
      (map (entry_by s.network) (candidates s.kind s.priors s.filters s.network rest)) (lower n) (lower n) (omega arith) beaten in
      let whole : is_beaten_behind s docs n ≡ true = ap (λ (xs : List (Entry Window)). is_beaten_by (λ (x : Entry Window). x.leading) (scale_of s.network) s.most xs n) both ∙ more in
      false≢true (sym none ∙ whole))

  module _ (m : Stretch) where
    pub unbeaten-more : (a b : ℕ) → a ≤ b → unbeaten s m a ≤ unbeaten s m b
    unbeaten-more a b le = rises (unbeaten s m) (λ n. omega arith) a b le

    pub scored-more : (a b : ℕ) → a ≤ b → scored s m a ≤ scored s m b
    scored-more a b le = rises (scored s m) (λ n. omega arith) a b le

    -- none behind the last id
    past-last : (n : ℕ) → (ranges_of (length m.marks) ≤ n → unbeaten s m n ≤ unbeaten s m (ranges_of (length m.marks))) → (ranges_of (length m.marks) ≤ n) ⊎ (ranges_of (length m.marks) ≡ suc n)
        → unbeaten s m (suc n) ≤ unbeaten s m (ranges_of (length m.marks))
    past-last n rest (inl few) =
        let front = rest few in
        let none : unbeaten s m (suc n) ≡ unbeaten s m n + 0 = ap (λ (b : Bool). unbeaten s m n + cond (b && is_unbeaten s m n) 1 0) (none-live m.marks n (omega (arith, few))) in
        omega (arith, front, none)
    past-last n rest (inr same) = let e = ap (unbeaten s m) same in omega (arith, e)

    unbeaten-past : (n : ℕ) → ranges_of (length m.marks) ≤ n → unbeaten s m n ≤ unbeaten s m (ranges_of (length m.marks))
    unbeaten-past zero le = omega arith
    unbeaten-past (suc n) le = past-last n (λ few. unbeaten-past n few) (last-or (ranges_of (length m.marks)) n le)

    -- no more than there are
    pub unbeaten-le : (n : ℕ) → unbeaten s m n ≤ unbeaten s m (ranges_of (length m.marks))
    unbeaten-le n = by (nat_lt (ranges_of (length m.marks)) n) refl
      where
        by : (b : Bool) → nat_lt (ranges_of (length m.marks)) n ≡ b → unbeaten s m n ≤ unbeaten s m (ranges_of (length m.marks))
        by true e = unbeaten-past n (let past : ranges_of (length m.marks) ≤ n = grind (arith, nat_tests) in past)
        by false e = unbeaten-more n (ranges_of (length m.marks)) (let few : n ≤ ranges_of (length m.marks) = grind (arith, nat_tests) in few)

    -- one more
    pub unbeaten-next : (n : ℕ) → has_live m.marks n ≡ true → is_unbeaten s m n ≡ true → unbeaten s m (n + 1) ≡ unbeaten s m n + 1
    unbeaten-next n live is =
        let next : n + 1 ≡ suc n = omega arith in
        ap (unbeaten s m) next ∙ ap (λ (b : Bool). unbeaten s m n + cond (b && is_unbeaten s m n) 1 0) live ∙ ap (λ (b : Bool). unbeaten s m n + cond b 1 0) is

    -- ---- blocks

    -- where none is opened
    pub opens-none : (t range id n a : ℕ) → come_to range id ≤ n → OpensWithin t (unbeaten s m (come_to range id)) (unbeaten s m n) a a
    opens-none t range id n a le = opens-same t (unbeaten s m (come_to range id)) (unbeaten s m n) a (unbeaten-more (come_to range id) n le)

    -- those of one range
    pub opens-range : (t range id n a b : ℕ) → has_live m.marks (id / 64) ≡ true → is_unbeaten s m (id / 64) ≡ true → id / 64 + 1 ≤ n → (range ≡ id / 64 → b ≡ a) → b ≤ a + t
        → OpensWithin t (unbeaten s m (come_to range id)) (unbeaten s m n) a b
    opens-range t range id n a b live is last none cost = by (range == id / 64) refl
      where
        by : (here : Bool) → (range == id / 64) ≡ here → OpensWithin t (unbeaten s m (if here then id / 64 + 1 else id / 64)) (unbeaten s m n) a b
        by true e =
            let same = none (eqb-true range (id / 64) e) in
            let more = times-more t (unbeaten s m (id / 64 + 1)) (unbeaten s m n) (unbeaten-more (id / 64 + 1) n last) in
            omega (arith, same, more)
        by false e =
            let one = ap (λ k. t * k) (unbeaten-next (id / 64) live is) in
            let sum = times-sum t (unbeaten s m (id / 64)) 1 in
            let more = times-more t (unbeaten s m (id / 64 + 1)) (unbeaten s m n) (unbeaten-more (id / 64 + 1) n last) in
            omega (arith, one, sum, more, cost)

    -- ---- candidates

    abbrev count_to : ℕ → ℕ
    count_to i = candidate_count s (unmarked (take i m.docs) m.marks)

    count-next : (i : ℕ) → i < length m.docs → length m.marks ≡ length m.docs → count_to (i + 1) ≡ count_to i + candidate_count s (live_at m i)
    count-next i lt whole =
        let old : List Document = unmarked (take i m.docs) m.marks in
        ap (candidate_count s) (unmarked-more m.docs m.marks i lt whole)
        ∙ ap length (candidates-append s.kind s.priors s.filters s.network old (live_at m i))
        ∙ length-append (candidates s.kind s.priors s.filters s.network old) (candidates s.kind s.priors s.filters s.network (live_at m i))

    -- of ids whose ranges can't be passed
    pub scored-over : (n i j : ℕ) → j ≡ i + n → j ≤ length m.docs → length m.marks ≡ length m.docs → ((id : ℕ) → i ≤ id → id < j → is_unbeaten s m (id / 64) ≡ true) → scored s m j + count_to i ≡ scored s m i + count_to j
    scored-over zero i j far le whole all =
        let same : i ≡ j = omega (arith, far) in
        let a = ap (scored s m) same in
        let b = ap count_to same in
        omega (arith, a, b)
    scored-over (suc n) i j far le whole all =
        let rest = scored-over n (i + 1) j (omega (arith, far)) le whole (λ id low high. all id (omega (arith, low)) high) in
        let next : i + 1 ≡ suc i = omega arith in
        let one : scored s m (i + 1) ≡ scored s m i + candidate_count s (live_at m i) =
        ap (scored s m) next ∙ ap (λ (b : Bool). scored s m i + cond b (candidate_count s (live_at m i)) 0) (all i (omega arith) (omega (arith, far))) in
        let more = count-next i (omega (arith, far, le)) whole in
        omega (arith, rest, one, more)

    -- ---- a range that isn't passed

    -- no candidate before the range beats its bound, where none before a later id does
    unbeaten-from : (id : ℕ) → is_beaten_behind s (live_to m id) (range_key s.kind s.priors s.network m.docs (id / 64)) ≡ false → is_unbeaten s m (id / 64) ≡ true
    unbeaten-from id none =
        let front = live-before m (64 * (id / 64)) id (omega arith) in
        let first = not-before (live_to m (64 * (id / 64))) front.0 (live_to m id) (range_key s.kind s.priors s.network m.docs (id / 64)) front.1 none in
        ap (λ (b : Bool). not (has_table s.tables m.number && b)) first ∙ and-none (has_table s.tables m.number)

    pub is-unbeaten : (id : ℕ) (kept : KeptEntries) (bound : Option ℕ) → Holds s (live_to m id) kept → ((n : ℕ) → bound ≡ Some n → n ≡ range_key s.kind s.priors s.network m.docs (id / 64))
        → IfSome bound (λ n. (all : List (Entry Window)) → WereOffered all kept → is_beaten_by (λ (x : Entry Window). x.leading) kept.scale kept.most all n ≡ false)
        → (bound ≡ None → (has_table s.tables m.number ≡ false) ⊎ ((all : List (Entry Window)) → WereOffered all kept → (n : ℕ) → is_beaten_by (λ (x : Entry Window). x.leading) kept.scale kept.most all n ≡ false))
        → is_unbeaten s m (id / 64) ≡ true
    is-unbeaten id kept (Some n) h key none unbound =
        unbeaten-from id (ap (is_beaten_behind s (live_to m id)) (sym (key n refl)) ∙ not-beaten (live_to m id) kept n h none)
    is-unbeaten id kept None h key none unbound = by (unbound refl)
      where
        by : (has_table s.tables m.number ≡ false) ⊎ ((all : List (Entry Window)) → WereOffered all kept → (n : ℕ) → is_beaten_by (λ (x : Entry Window). x.leading) kept.scale kept.most all n ≡ false) → is_unbeaten s m (id / 64) ≡ true
        by (inl untold) = ap (λ (b : Bool). not (b && is_beaten_behind s (live_to m (64 * (id / 64))) (range_key s.kind s.priors s.network m.docs (id / 64)))) untold
        by (inr few) = unbeaten-from id (not-beaten (live_to m id) kept (range_key s.kind s.priors s.network m.docs (id / 64)) h (λ all offered. few all offered (range_key s.kind s.priors s.network m.docs (id / 64))))
