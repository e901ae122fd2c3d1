-- How many blocks of a range are opened.
use Rattle.std.proofs.Common.{◌≡◌, ◌<◌, ◌≤◌, ℕ, zero, suc, ◌+◌, ◌-◌, ◌*◌, ◌/◌, ◌==◌, nat_lt, if◌then◌else◌, Bool, true, false, List, [], ◌∷◌, Result, Ok, Err, IfOk, IsErrAnd, OnOk, length, take, get_or, refl, sym, ap, subst, arith}
use Rattle.std.proofs.lemmas.Bool.{eqb-false, eqb-true}
use Rattle.std.proofs.lemmas.Bool.Decides.{nat_tests}
use Rattle.disk_index.specs.Parts.{size}
use Rattle.disk_index.specs.Snapshots.{Marked}
use Rattle.ranker.specs.Blocks.{OpensWithin, opened_at, opened_if, opened_of}
use Rattle.ranker.specs.Going.{OpensAt, OpensIn}
use Rattle.ranker.specs.Passed.{IsPassed, behind, live_ids, nothing_known, part_at, ranges_in, ranges_of}
use Rattle.ranker.specs.declared.place.Passed.{Passed}
use Rattle.ranker.specs.declared.place.Place.{Place}
use Rattle.ranker.proofs.AskedLemmas.{ranges-front, ranges-suc}
use Rattle.ranker.proofs.PassedLemmas.{ids-live}

-- ---- so many of each term

pub times-sum : (t m n : ℕ) → t * (m + n) ≡ t * m + t * n
times-sum t m n = omega arith

pub times-more : (t m n : ℕ) → m ≤ n → t * m ≤ t * n
times-more t m n le =
    let whole : m + (n - m) ≡ n = omega (arith, le) in
    let all : t * (m + (n - m)) ≡ t * n = ap (λ k. t * k) whole in
    let both = times-sum t m (n - m) in
    omega (arith, all, both)

pub opens-same : (t p q a : ℕ) → p ≤ q → OpensWithin t p q a a
opens-same t p q a le = let more = times-more t p q le in omega (arith, more)

pub opens-then : (t p q r a b d : ℕ) → OpensWithin t p q a b → OpensWithin t q r b d → OpensWithin t p r a d
opens-then t p q r a b d first second = omega (arith, first, second)

pub opens-more : (t p q r a b : ℕ) → OpensWithin t p q a b → q ≤ r → OpensWithin t p r a b
opens-more t p q r a b h le = let more = times-more t q r le in omega (arith, h, more)

-- behind other ranges
pub opens-further : (t n p q r a b : ℕ) → OpensWithin t p q a b → n + q ≤ r → OpensWithin t (n + p) r a b
opens-further t n p q r a b h le =
    let first = times-sum t n p in
    let second = times-sum t n q in
    let more = times-more t (n + q) r le in
    omega (arith, h, first, second, more)

-- ---- ranges of a part

by-le : (here : Bool) (all id : ℕ) → opened_if here all id ≤ ranges_of all
by-le true all id = omega arith
by-le false all id = omega arith

-- no more than there are
pub opened-le : (all range id : ℕ) → opened_of all range id ≤ ranges_of all
opened-le all range id = by-le (range == id / 64) all id

by-on : (here there : Bool) (all id next : ℕ) → id ≤ next → (here ≡ true → there ≡ false → id / 64 < next / 64) → opened_if here all id ≤ opened_if there all next
by-on true true all id next up past = omega (arith, up)
by-on true false all id next up past = let lt = past refl refl in omega (arith, lt)
by-on false true all id next up past = omega (arith, up)
by-on false false all id next up past = omega (arith, up)

-- no fewer before a later id
pub opened-on : (all range id next : ℕ) → id ≤ next → opened_of all range id ≤ opened_of all range next
opened-on all range id next up = by-on (range == id / 64) (range == next / 64) all id next up past
  where
    past : (range == id / 64) ≡ true → (range == next / 64) ≡ false → id / 64 < next / 64
    past e f =
        let here : range ≡ id / 64 = eqb-true range (id / 64) e in
        let differ = eqb-false range (next / 64) f in
        omega (arith, up, here, differ)

-- one range more, where it wasn't opened before
pub opens-one : (t all p id n a b : ℕ) → id / 64 + 1 ≤ n → (p ≡ id / 64 → b ≡ a) → b ≤ a + t → OpensWithin t (opened_of all p id) n a b
opens-one t all p id n a b last none cost = by (p == id / 64) refl
  where
    by : (here : Bool) → (p == id / 64) ≡ here → OpensWithin t (opened_if here all id) n a b
    by true e =
        let same = none (eqb-true p (id / 64) e) in
        let more = times-more t (opened_if true all id) n (omega (arith, last)) in
        omega (arith, same, more)
    by false e =
        let sum = times-sum t (id / 64) 1 in
        let first = times-more t (opened_if false all id) (id / 64) (omega arith) in
        let more = times-more t (id / 64 + 1) n last in
        omega (arith, sum, first, more, cost)

-- this range is among those before an id behind it
last : (all q id next : ℕ) → id < all → id ≤ next → q ≡ id / 64 → id / 64 + 1 ≤ opened_of all q next
last all q id next inside up is =
    let own : (q == id / 64) ≡ true = grind arith in
    let here : opened_of all q id ≡ opened_if true all id = ap (λ b. opened_if b all id) own in
    let on = opened-on all q id next up in
    omega (arith, here, on, inside)

pub on-ok : {T E : Type 0} (r : Result T E) (A : Type 0) → A → OnOk r A
on-ok (Ok x) A a = a
on-ok (Err e) A a = tt

-- ---- what it comes to in a part, where documents are passed and where they aren't

-- nothing is opened
pub OpensIn-none : {E : Type 0} (terms size id range a most : ℕ) (to : Passed) → id ≤ to.id → OpensIn {E = E} terms size id range range a a most (Ok to)
OpensIn-none terms size id range a most to up = record {
  opened = opens-same terms (opened_of size range id) (opened_of size range to.id) a (opened-on size range id to.id up);
  opens = opens-same terms (opened_of size range id) (ranges_of size) a (opened-le size range id);
  few = omega arith;
}

pub OpensIn-failed : {E : Type 0} (Q : E → Type 0) (terms size id range a most : ℕ) (result : Result Passed E) → IsErrAnd result Q → OpensIn terms size id range range a a most result
OpensIn-failed Q terms size id range a most (Ok to) failed = absurd failed
OpensIn-failed Q terms size id range a most (Err e) failed = record { opened = tt; opens = opens-same terms (opened_of size range id) (ranges_of size) a (opened-le size range id); few = omega arith }

-- this range is opened, unless it is
opened-one : {E : Type 0} (terms size p q id a b : ℕ) (result : Result Passed E) → id < size → IfOk result (λ to. id ≤ to.id) → OnOk result (q ≡ id / 64) → (p ≡ id / 64 → b ≡ a) → b ≤ a + terms
    → IfOk result (λ to. OpensWithin terms (opened_of size p id) (opened_of size q to.id) a b)
opened-one terms size p q id a b (Ok to) inside back is none cost = opens-one terms size p id (opened_of size q to.id) a b (last size q id to.id inside back is) none cost
opened-one terms size p q id a b (Err e) inside back is none cost = tt

pub OpensIn-one : {E : Type 0} (terms size p q id a b : ℕ) (result : Result Passed E) → id < size → IfOk result (λ to. id ≤ to.id) → OnOk result (q ≡ id / 64) → (p ≡ id / 64 → b ≡ a) → b ≤ a + terms → OpensIn terms size id p q a b terms result
OpensIn-one terms size p q id a b result inside back is none cost = record {
  opened = opened-one terms size p q id a b result inside back is none cost;
  opens = opens-one terms size p id (ranges_of size) a b (omega (arith, inside)) none cost;
  few = cost;
}

-- behind so many documents
pub OpensIn-passed : {E : Type 0} (terms size id range own a b docs most : ℕ) (to : Passed) → OpensWithin terms (opened_of size range id) (opened_of size own to.id) a b → b ≤ a + terms * docs → docs ≤ most → OpensIn {E = E} terms size id range own a b (terms * most) (Ok to)
OpensIn-passed terms size id range own a b docs most to opened each le = record {
  opened = opened;
  opens = opens-more terms (opened_of size range id) (opened_of size own to.id) (ranges_of size) a b opened (opened-le size own to.id);
  few = let more = times-more terms docs most le in omega (arith, more, each);
}

-- where those behind them aren't passed
pub OpensIn-broken : {E R : Type 0} (Q : E → Type 0) (terms size id range mid own a b d docs most at : ℕ) (inner : Result Passed R) (result : Result Passed E) → IsErrAnd result Q → OpensWithin terms (opened_of size range id) (opened_of size mid at) a b → b ≤ a + terms * docs → docs < most
    → OpensIn terms size at mid own b d terms inner → OpensIn terms size id range own a d (terms * most) result
OpensIn-broken Q terms size id range mid own a b d docs most at inner (Ok to) failed opened each lt h = absurd failed
OpensIn-broken Q terms size id range mid own a b d docs most at inner (Err e) failed opened each lt h = record {
  opened = tt;
  opens = opens-then terms (opened_of size range id) (opened_of size mid at) (ranges_of size) a b d opened h.opens;
  few =
      let sum = times-sum terms docs 1 in
      let more = times-more terms (docs + 1) most (omega (arith, lt)) in
      let one = h.few in
      omega (arith, sum, more, each, one);
}

-- ---- live documents

ids-le : (marks : List Bool) (i j : ℕ) → i ≤ j → live_ids marks i ≤ live_ids marks j
ids-le marks zero j le = omega arith
ids-le marks (suc i) zero le = absurd (omega (arith, le))
ids-le [] (suc i) (suc j) le = omega arith
ids-le (true ∷ marks) (suc i) (suc j) le = ids-le marks i j (omega (arith, le))
ids-le (false ∷ marks) (suc i) (suc j) le = let rest = ids-le marks i j (omega (arith, le)) in omega (arith, rest)

some-live : (marks : List Bool) (id most : ℕ) (to : Passed) → id < length marks → get_or marks id false ≡ false → IsPassed marks id most to → id < to.id → 1 ≤ to.docs
some-live marks id most to inside live h up =
    let one = ids-live marks id inside live in
    let more = ids-le marks (id + 1) to.id (omega (arith, up)) in
    let docs = h.docs in
    omega (arith, one, more, docs)

-- a live document is passed for each range that is opened
pub each-passed : {E : Type 0} (t : ℕ) (marks : List Bool) (id most a b : ℕ) (passed : Result Passed E) → id < length marks → get_or marks id false ≡ false → IfOk passed (IsPassed marks id most) → IfOk passed (λ to. 0 < most → id < to.id) → b ≤ a + t
    → IfOk passed (λ to. 0 < most → b ≤ a + t * to.docs)
each-passed t marks id most a b (Ok to) inside live h forward cost = λ any.
    let more = times-more t 1 to.docs (some-live marks id most to inside live h (forward any)) in
    omega (arith, more, cost)
each-passed t marks id most a b (Err e) inside live h forward cost = tt

-- ---- ranges of parts

-- no more than there are
pub opened-all : (parts : List Marked) (at : Place) (range : ℕ) → opened_at parts at range ≤ ranges_in parts
opened-all parts at range =
    let here = opened-le (size (part_at parts at.part).source) range at.id in
    let front = ranges-front parts at.part in
    omega (arith, here, front)

-- before the place behind documents of its part
pub opened-behind : (parts : List Marked) (at : Place) (to : Passed) (most range now : ℕ) → at.part < length parts → (most ≤ to.docs → now ≡ range)
    → ranges_in (take at.part parts) + opened_of (size (part_at parts at.part).source) range to.id ≤ opened_at parts (behind at to most) now
opened-behind parts at to most range now lt same = by (nat_lt to.docs most) refl
  where
    by : (b : Bool) → nat_lt to.docs most ≡ b → ranges_in (take at.part parts) + opened_of (size (part_at parts at.part).source) range to.id
        ≤ opened_at parts (if b then record { part = at.part + 1; id = 0; credit = at.credit + to.docs; ahead = nothing_known } else record { part = at.part; id = to.id; credit = at.credit + to.docs; ahead = to.ahead }) now
    by true e =
        let next : at.part + 1 ≡ suc at.part = omega arith in
        let there = ap (λ n. ranges_in (take n parts)) next in
        let whole = ranges-suc parts at.part lt in
        let le = opened-le (size (part_at parts at.part).source) range to.id in
        omega (arith, there, whole, le)
    by false e =
        let all : most ≤ to.docs = grind (arith, nat_tests) in
        let is = ap (λ r. opened_of (size (part_at parts at.part).source) r to.id) (same all) in
        omega (arith, is)

-- ---- what it comes to in parts

-- nothing is opened
pub OpensAt-none : {R E : Type 0} (terms : ℕ) (parts : List Marked) (at : Place) (range a most : ℕ) (x : R) → OpensAt {E = E} terms parts at at range range a a most (Ok x)
OpensAt-none terms parts at range a most x = record { opened = opens-same terms (opened_at parts at range) (opened_at parts at range) a (omega arith); opens = opens-same terms (opened_at parts at range) (ranges_in parts) a (opened-all parts at range); few = omega arith }

-- at a place
pub OpensAt-passed : {R E : Type 0} (terms : ℕ) (parts : List Marked) (at to : Place) (range own a b most : ℕ) (x : R) → OpensWithin terms (opened_at parts at range) (opened_at parts to own) a b → b ≤ a + most → OpensAt {E = E} terms parts at to range own a b most (Ok x)
OpensAt-passed terms parts at to range own a b most x opened few = record {
  opened = opened;
  opens = opens-more terms (opened_at parts at range) (opened_at parts to own) (ranges_in parts) a b opened (opened-all parts to own);
  few = few;
}

-- where the documents behind it aren't passed
pub OpensAt-broken : {R U E V : Type 0} (Q : E → Type 0) (terms : ℕ) (parts : List Marked) (at mid to : Place) (range between own a b d left most : ℕ) (inner : Result U V) (result : Result R E) → IsErrAnd result Q → OpensWithin terms (opened_at parts at range) (opened_at parts mid between) a b
    → b + left ≤ a + most → OpensAt terms parts mid to between own b d left inner → OpensAt terms parts at to range own a d most result
OpensAt-broken Q terms parts at mid to range between own a b d left most inner (Ok x) failed opened few h = absurd failed
OpensAt-broken Q terms parts at mid to range between own a b d left most inner (Err e) failed opened few h = record {
  opened = tt;
  opens = opens-then terms (opened_at parts at range) (opened_at parts mid between) (ranges_in parts) a b d opened h.opens;
  few = let more = h.few in omega (arith, few, more);
}

-- documents of the part of a place: behind them, and where they aren't passed
module _ (terms : ℕ) (parts : List Marked) (at : Place) (m : Marked) (is : part_at parts at.part ≡ m) where
  opens-own : (range a b : ℕ) → OpensWithin terms (opened_of (size m.source) range at.id) (ranges_of (size m.source)) a b → OpensWithin terms (opened_at parts at range) (ranges_in parts) a b
  opens-own range a b h =
      opens-further terms (ranges_in (take at.part parts)) (opened_of (size (part_at parts at.part).source) range at.id) (ranges_of (size (part_at parts at.part).source)) (ranges_in parts) a b
      (subst (λ (p : Marked). OpensWithin terms (opened_of (size p.source) range at.id) (ranges_of (size p.source)) a b) (sym is) h) (ranges-front parts at.part)

  pub OpensAt-failed : {R E V : Type 0} (Q : E → Type 0) (range own a b most : ℕ) (inner : Result Passed V) (result : Result R E) → IsErrAnd result Q → OpensIn terms (size m.source) at.id range own a b most inner → OpensAt terms parts at at range own a b most result
  OpensAt-failed Q range own a b most inner (Ok x) failed h = absurd failed
  OpensAt-failed Q range own a b most inner (Err e) failed h = record { opened = tt; opens = opens-own range a b h.opens; few = h.few }

  pub OpensAt-behind : {R E V : Type 0} (range mid own a b docs most : ℕ) (to : Passed) (x : R) → at.part < length parts → (docs ≤ to.docs → own ≡ mid) → OpensIn {E = V} terms (size m.source) at.id range mid a b most (Ok to)
      → OpensAt {E = E} terms parts at (behind at to docs) range own a b most (Ok x)
  OpensAt-behind range mid own a b docs most to x lt same h = record {
    opened = opens-further terms (ranges_in (take at.part parts)) (opened_of (size (part_at parts at.part).source) range at.id) (opened_of (size (part_at parts at.part).source) mid to.id) (opened_at parts (behind at to docs) own) a b
        (subst (λ (p : Marked). OpensWithin terms (opened_of (size p.source) range at.id) (opened_of (size p.source) mid to.id) a b) (sym is) h.opened) (opened-behind parts at to docs mid own lt same);
    opens = opens-own range a b h.opens;
    few = h.few;
  }

-- whatever becomes of it, for the same calls
pub OpensAt-else : {R U E V : Type 0} (Q : E → Type 0) (terms : ℕ) (parts : List Marked) (at to : Place) (range own a b most : ℕ) (inner : Result U V) (result : Result R E) → IsErrAnd result Q → OpensAt terms parts at to range own a b most inner → OpensAt terms parts at to range own a b most result
OpensAt-else Q terms parts at to range own a b most inner (Ok x) failed h = absurd failed
OpensAt-else Q terms parts at to range own a b most inner (Err e) failed h = record { opened = tt; opens = h.opens; few = h.few }
