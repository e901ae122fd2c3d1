-- Of how many ranges bounds were asked for.
use Rattle.std.proofs.Common.{◌≡◌, ◌<◌, ◌≤◌, ℕ, zero, suc, ◌+◌, ◌*◌, ◌/◌, ◌%◌, ◌-◌, cond, not, nat_lt, if◌then◌else◌, Bool, true, false, List, [], ◌∷◌, inl, inr, ◌⊎◌, Option, None, Some, is_some, get_or, length, take, drop, refl, sym, ap, subst, arith, ◌∙◌, IfErr, Result, Ok, Err}
use Rattle.std.specs.List.{list_any}
use Rattle.std.proofs.lemmas.Bool.{false≢true}
use Rattle.std.proofs.lemmas.Bool.Decides.{nat_tests}
use Rattle.std.proofs.lemmas.List.{length-drop}
use Rattle.store_ends.specs.Files.{Files}
use Rattle.belief_nodes.specs.Network.{NetworkTree}
use Rattle.disk_index.specs.Parts.{reads, size}
use Rattle.disk_index.specs.Snapshots.{Marked}
use Rattle.disk_index.proofs.RebuiltLemmas.{reads-length}
use Rattle.ranker.specs.First.{AsksWithin, early_cost}
use Rattle.ranker.specs.Passed.{IsSpan, asked_at, asked_by, asked_of, behind, has_live, is_clear, layout, layout_in, live_ranges, nothing_known, part_at, ranges_in, ranges_of}
use Rattle.ranker.specs.declared.place.Ahead.{Ahead}
use Rattle.ranker.specs.declared.place.Passed.{Passed}
use Rattle.ranker.specs.declared.place.Place.{Place}
use Rattle.ranker.proofs.PassedLemmas.{cost-more, cost-sum}

-- ---- ranges with live ids

pub last-or : (m n : ℕ) → m ≤ suc n → (m ≤ n) ⊎ (m ≡ suc n)
last-or m n le = by (nat_lt n m) refl
  where
    by : (b : Bool) → nat_lt n m ≡ b → (m ≤ n) ⊎ (m ≡ suc n)
    by true e = let last : m ≡ suc n = grind (arith, nat_tests) in inr last
    by false e = let few : m ≤ n = grind (arith, nat_tests) in inl few

module _ (marks : List Bool) where
  live-last : (m n : ℕ) → (m ≤ n → live_ranges marks m ≤ live_ranges marks n) → (m ≤ n) ⊎ (m ≡ suc n) → live_ranges marks m ≤ live_ranges marks (suc n)
  live-last m n rest (inl few) = let front = rest few in omega (arith, front)
  live-last m n rest (inr same) = let e = ap (live_ranges marks) same in omega (arith, e)

  live-more : (m n : ℕ) → m ≤ n → live_ranges marks m ≤ live_ranges marks n
  live-more m zero le = let none : m ≡ 0 = omega (arith, le) in let e = ap (live_ranges marks) none in omega (arith, e)
  live-more m (suc n) le = live-last m n (λ few. live-more m n few) (last-or m n le)

any-taken : (marks : List Bool) (n i : ℕ) → i < n → i < length marks → get_or marks i false ≡ false → list_any not (take n marks) ≡ true
any-taken [] n i few lt live = absurd (omega (arith, lt))
any-taken (b ∷ marks) zero i few lt live = absurd (omega (arith, few))
any-taken (false ∷ marks) (suc n) i few lt live = refl
any-taken (true ∷ marks) (suc n) zero few lt live = absurd (false≢true (sym live))
any-taken (true ∷ marks) (suc n) (suc i) few lt live = any-taken marks n i (omega (arith, few)) (omega (arith, lt)) live

got-dropped : (marks : List Bool) (n i j : ℕ) → j ≡ n + i → j < length marks → get_or (drop n marks) i false ≡ get_or marks j false
got-dropped [] n i j is lt = absurd (omega (arith, lt))
got-dropped (b ∷ marks) zero i j is lt = let same : i ≡ j = omega (arith, is) in ap (λ k. get_or (b ∷ marks) k false) same
got-dropped (b ∷ marks) (suc n) i zero is lt = absurd (omega (arith, is))
got-dropped (b ∷ marks) (suc n) i (suc j) is lt = got-dropped marks n i j (omega (arith, is)) (omega (arith, lt))

-- the range of a live id has one
pub live-here : (marks : List Bool) (id : ℕ) → id < length marks → get_or marks id false ≡ false → has_live marks (id / 64) ≡ true
live-here marks id lt live =
    let from : ℕ = 64 * (id / 64) in
    let there = got-dropped marks from (id - from) id (omega arith) lt in
    let long = length-drop from marks in
    any-taken (drop from marks) 64 (id - from) (omega arith) (omega (arith, long, lt)) (there ∙ live)

-- ---- in a part

by-on : (marks : List Bool) (bound : Option ℕ) (id next end : ℕ) → id ≤ next → asked_by marks bound id end ≤ asked_by marks bound next end
by-on marks None id next end up = live-more marks (id / 64) (next / 64) (omega (arith, up))
by-on marks (Some n) id next end up = omega arith

-- no fewer before a later id
pub asked-on : (marks : List Bool) (id next : ℕ) (ahead later : Ahead) → id ≤ next → later ≡ ahead → asked_of marks id ahead ≤ asked_of marks next later
asked-on marks id next ahead later up same = subst (λ (a : Ahead). asked_of marks id ahead ≤ asked_of marks next a) (sym same) (by-on marks ahead.bound id next ahead.end up)

-- as many, whatever mask is read
pub asked-opened : (marks : List Bool) (id next : ℕ) (ahead now later : Ahead) → id ≤ next → now.end ≡ ahead.end → now.bound ≡ ahead.bound → later ≡ now → asked_of marks id ahead ≤ asked_of marks next later
asked-opened marks id next ahead now later up end bound same =
    let ends = ap (asked_by marks now.bound id) end in
    let bounds = ap (λ (b : Option ℕ). asked_by marks b id ahead.end) bound in
    let on = asked-on marks id next now later up same in
    omega (arith, ends, bounds, on)

by-all : (marks : List Bool) (bound : Option ℕ) (size id end : ℕ) → id ≤ end → end ≤ size → asked_by marks bound id end ≤ live_ranges marks (ranges_of size)
by-all marks None size id end back inside = live-more marks (id / 64) (ranges_of size) (omega (arith, back, inside))
by-all marks (Some n) size id end back inside = live-more marks (ranges_of end) (ranges_of size) (omega (arith, inside))

-- no more than there are
pub asked-all : (marks : List Bool) (size id : ℕ) (ahead : Ahead) → IsSpan size id ahead → asked_of marks id ahead ≤ live_ranges marks (ranges_of size)
asked-all marks size id ahead h = by-all marks ahead.bound size id ahead.end h.back h.inside

by-found : (marks : List Bool) (bound : Option ℕ) (size id end : ℕ) → end ≤ id → id ≤ end → (end < size → end % 64 ≡ 0) → id < size → asked_by marks bound id end ≤ live_ranges marks (id / 64)
by-found marks None size id end up back whole lt = omega arith
by-found marks (Some n) size id end up back whole lt =
    let last = whole (omega (arith, up, lt)) in
    live-more marks (ranges_of end) (id / 64) (omega (arith, last, up, back))

-- where something is found out anew, the ranges before were told by what was known
pub asked-found : (marks : List Bool) (size id : ℕ) (was now : Ahead) → (now ≡ was) ⊎ ((was.end ≤ id) × (now.bound ≡ None)) → IsSpan size id was → id < size → asked_of marks id was ≤ asked_of marks id now
asked-found marks size id was now (inl same) h lt = let e = ap (asked_of marks id) same in omega (arith, e)
asked-found marks size id was now (inr new) h lt =
    let none : asked_of marks id now ≡ live_ranges marks (id / 64) = ap (λ (b : Option ℕ). asked_by marks b id now.end) new.1 in
    let before = by-found marks was.bound size id was.end new.0 h.back h.whole lt in
    omega (arith, none, before)

-- ---- squarings

pub unbound : (bound : Option ℕ) → is_some bound ≡ false → bound ≡ None
unbound None none = refl
unbound (Some n) none = absurd (false≢true (sym none))

pub asks-same : (network : NetworkTree) (p q a : ℕ) → p ≤ q → AsksWithin network p q a a
asks-same network p q a le = let more = cost-more network p q le in omega (arith, more)

pub asks-then : (network : NetworkTree) (p q r a b d : ℕ) → AsksWithin network p q a b → AsksWithin network q r b d → AsksWithin network p r a d
asks-then network p q r a b d first second = omega (arith, first, second)

-- of one range more
pub asks-one : (network : NetworkTree) (p q a b : ℕ) → p + 1 ≤ q → b ≤ a + early_cost network 1 → AsksWithin network p q a b
asks-one network p q a b le one = let sum = cost-sum network p 1 in let more = cost-more network (p + 1) q le in omega (arith, sum, more, one)

-- whether a bound was asked for
pub asked-either : (was bound : Option ℕ) (a b : ℕ) → was ≡ None → (bound ≡ None → b ≡ a) → ((bound ≡ was) × (b ≡ a)) ⊎ ((was ≡ None) × (is_some bound ≡ true))
asked-either was None a b none same = inl (sym none, same refl)
asked-either was (Some n) a b none same = inr (none, refl)

pub if-err : {X E : Type 0} (r : Result X E) (P : Type 0) → P → IfErr r (λ e. P)
if-err (Ok x) P h = tt
if-err (Err e) P h = h

by-some : (marks : List Bool) (bound : Option ℕ) (id end : ℕ) → is_some bound ≡ true → asked_by marks bound id end ≡ live_ranges marks (ranges_of end)
by-some marks None id end some = absurd (false≢true some)
by-some marks (Some n) id end some = refl

-- the range of a live id is one more
range-more : (marks : List Bool) (n next : ℕ) → has_live marks n ≡ true → next ≡ suc n → live_ranges marks next ≡ live_ranges marks n + 1
range-more marks n next live is = ap (live_ranges marks) is ∙ ap (λ (b : Bool). live_ranges marks n + cond b 1 0) live

pub asks-bounded : (network : NetworkTree) (marks : List Bool) (size id : ℕ) (ahead now : Ahead) (a b : ℕ) → ((now.bound ≡ ahead.bound) × (b ≡ a)) ⊎ ((ahead.bound ≡ None) × (is_some now.bound ≡ true)) → now.end ≡ ahead.end
    → id < ahead.end → is_clear ahead.mask ≡ false → has_live marks (id / 64) ≡ true → b ≤ a + early_cost network 1 → IsSpan size id ahead → AsksWithin network (asked_of marks id ahead) (asked_of marks id now) a b
asks-bounded network marks size id ahead now a b (inl none) end some read live one h =
    let ends = ap (asked_by marks now.bound id) end in
    let bounds = ap (λ (b : Option ℕ). asked_by marks b id ahead.end) none.0 in
    let same = none.1 in
    let more = cost-more network (asked_of marks id ahead) (asked_of marks id now) (omega (arith, ends, bounds)) in
    omega (arith, more, same)
asks-bounded network marks size id ahead now a b (inr new) end some read live one h =
    let before : asked_of marks id ahead ≡ live_ranges marks (id / 64) = ap (λ (b : Option ℕ). asked_by marks b id ahead.end) new.0 in
    let after = by-some marks now.bound id now.end new.1 in
    let last = h.short read in
    let next : ranges_of now.end ≡ suc (id / 64) = omega (arith, end, some, last) in
    let more = range-more marks (id / 64) (ranges_of now.end) live next in
    asks-one network (asked_of marks id ahead) (asked_of marks id now) a b (omega (arith, before, after, more)) one

-- where no more are asked for than there are
pub asks-all : (network : NetworkTree) (marks : List Bool) (size id : ℕ) (ahead : Ahead) (a b : ℕ) → ahead.bound ≡ None → id < size → has_live marks (id / 64) ≡ true → b ≤ a + early_cost network 1
    → AsksWithin network (asked_of marks id ahead) (live_ranges marks (ranges_of size)) a b
asks-all network marks size id ahead a b unbound lt live one =
    let before : asked_of marks id ahead ≡ live_ranges marks (id / 64) = ap (λ (b : Option ℕ). asked_by marks b id ahead.end) unbound in
    let more = range-more marks (id / 64) (suc (id / 64)) live refl in
    let front = live-more marks (suc (id / 64)) (ranges_of size) (omega (arith, lt)) in
    asks-one network (asked_of marks id ahead) (live_ranges marks (ranges_of size)) a b (omega (arith, before, more, front)) one

-- ---- in parts

pub ranges-suc : (parts : List Marked) (part : ℕ) → part < length parts → ranges_in (take (suc part) parts) ≡ ranges_in (take part parts) + ranges_of (size (part_at parts part).source)
ranges-suc [] part lt = absurd (omega (arith, lt))
ranges-suc (m ∷ parts) zero lt = omega arith
ranges-suc (m ∷ parts) (suc part) lt = let rest = ranges-suc parts part (omega (arith, lt)) in omega (arith, rest)

pub ranges-front : (parts : List Marked) (part : ℕ) → ranges_in (take part parts) + ranges_of (size (part_at parts part).source) ≤ ranges_in parts
ranges-front [] zero = omega arith
ranges-front [] (suc part) = omega arith
ranges-front (m ∷ parts) zero = omega arith
ranges-front (m ∷ parts) (suc part) = let rest = ranges-front parts part in omega (arith, rest)

layout-suc : (parts : List Marked) (part : ℕ) → part < length parts → layout (take (suc part) parts) ≡ layout (take part parts) + layout_in (part_at parts part)
layout-suc [] part lt = absurd (omega (arith, lt))
layout-suc (m ∷ parts) zero lt = omega arith
layout-suc (m ∷ parts) (suc part) lt = let rest = layout-suc parts part (omega (arith, lt)) in omega (arith, rest)

pub layout-front : (parts : List Marked) (part : ℕ) → layout (take part parts) + layout_in (part_at parts part) ≤ layout parts
layout-front [] zero = omega arith
layout-front [] (suc part) = omega arith
layout-front (m ∷ parts) zero = omega arith
layout-front (m ∷ parts) (suc part) = let rest = layout-front parts part in omega (arith, rest)

-- no more than there are
pub asked-le : (told : Option Files) (parts : List Marked) (at : Place) → IsSpan (length (reads told (part_at parts at.part).source)) at.id at.ahead → asked_at parts at ≤ layout parts
asked-le told parts at h =
    let m = part_at parts at.part in
    let here = asked-all m.marks (length (reads told m.source)) at.id at.ahead h in
    let same = ap (λ n. live_ranges m.marks (ranges_of n)) (reads-length told m.source) in
    let front = layout-front parts at.part in
    omega (arith, here, same, front)

-- before the place behind documents of its part
pub asked-behind : (parts : List Marked) (at : Place) (to : Passed) (most : ℕ) → at.part < length parts → asked_of (part_at parts at.part).marks to.id to.ahead ≤ layout_in (part_at parts at.part)
    → layout (take at.part parts) + asked_of (part_at parts at.part).marks to.id to.ahead ≤ asked_at parts (behind at to most)
asked-behind parts at to most lt le = by (nat_lt to.docs most)
  where
    by : (b : Bool) → layout (take at.part parts) + asked_of (part_at parts at.part).marks to.id to.ahead
        ≤ asked_at parts (if b then record { part = at.part + 1; id = 0; credit = at.credit + to.docs; ahead = nothing_known } else record { part = at.part; id = to.id; credit = at.credit + to.docs; ahead = to.ahead })
    by true =
        let next : at.part + 1 ≡ suc at.part = omega arith in
        let there = ap (λ n. layout (take n parts)) next in
        let whole = layout-suc parts at.part lt in
        omega (arith, there, whole, le)
    by false = omega arith
