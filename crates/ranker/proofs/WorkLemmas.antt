-- What is held and spent while documents are passed.
use Rattle.std.proofs.Common.{◌≡◌, ◌<◌, ◌≤◌, ℕ, zero, suc, ◌+◌, ◌-◌, ◌*◌, ◌/◌, nat_lt, if◌then◌else◌, Bool, true, false, List, [], ◌∷◌, ◌++◌, Option, Result, Ok, Err, IfOk, IsErrAnd, OnOk, length, take, refl, sym, ap, subst, ◌∙◌, arith}
use Rattle.std.proofs.lemmas.Bool.Decides.{nat_tests}
use Rattle.ri_base.specs.Documents.{Document}
use Rattle.store_ends.specs.Files.{Files}
use Rattle.belief_nodes.specs.Network.{NetworkTree}
use Rattle.belief_nodes.specs.Priors.{Prior}
use Rattle.disk_index.specs.Parts.{InMemory, reads, size}
use Rattle.disk_index.specs.Snapshots.{Marked, live, unmarked}
use Rattle.disk_index.proofs.RebuiltLemmas.{reads-length}
use Rattle.ranker.specs.Blocks.{OpensWithin}
use Rattle.ranker.specs.First.{Advances, AsksWithin, HoldsFirst, KeptEntries, SpendsWithin, counted, early_cost}
use Rattle.ranker.specs.Going.{IsAheadBy, IsKnownIn, PassesAt, PassesIn, ScoresIn, Tally, tally}
use Rattle.ranker.specs.Passed.{IsPassed, IsPlace, asked_at, asked_of, behind, has_live, layout, layout_in, live_ranges, nothing_known, part_at, passed, ranges_of}
use Rattle.ranker.specs.Unbeaten.{Holds, Passes, Sought, Spends, Stretch, Work, candidate_count, come_to, early_at, is_unbeaten, live_to, met_at, scored, scored_in, stretch, stretch_at, unbeaten, unbeaten_in, work_at, work_in, work_of, work_to}
use Rattle.ranker.specs.declared.place.Ahead.{Ahead}
use Rattle.ranker.specs.declared.place.Passed.{Passed}
use Rattle.ranker.specs.declared.place.Place.{Place}
use Rattle.ranker.proofs.AskedLemmas.{asked-all, asked-behind, asked-le, asks-then, layout-front}
use Rattle.ranker.proofs.OpeningLemmas.{opens-further, opens-more, opens-then}
use Rattle.ranker.proofs.PassedLemmas.{cost-more, cost-sum}
use Rattle.ranker.proofs.PlaceLemmas.{IsAheadAt-behind, before-next}
use Rattle.ranker.proofs.UnbeatenLemmas.{come-here, come-on, opens-none, opens-range, rises, scored-more, scored-over, unbeaten-le}

-- ---- squarings of bounds and of candidates

-- with the candidates beside
pub asks-beside : (network : NetworkTree) (p q u v a b : ℕ) → AsksWithin network p q a b → u ≤ v → AsksWithin network (p + u) (q + v) a b
asks-beside network p q u v a b asks le =
    let x = cost-sum network p u in
    let y = cost-sum network q v in
    let more = cost-more network u v le in
    omega (arith, asks, x, y, more)

-- those of candidates behind those of bounds
pub asks-scored : (network : NetworkTree) (p q r u v x y a b d : ℕ) → AsksWithin network p q a b → d + early_cost network (q + x) ≤ b + early_cost network (r + y) → v + x ≡ u + y → AsksWithin network (p + u) (r + v) a d
asks-scored network p q r u v x y a b d asks spent same =
    let e : early_cost network (v + x) ≡ early_cost network (u + y) = ap (early_cost network) same in
    let vx = cost-sum network v x in
    let uy = cost-sum network u y in
    let qx = cost-sum network q x in
    let ry = cost-sum network r y in
    let pu = cost-sum network p u in
    let rv = cost-sum network r v in
    omega (arith, asks, spent, e, vx, uy, qx, ry, pu, rv)

pub asks-up : (network : NetworkTree) (p q r a b : ℕ) → AsksWithin network p q a b → q ≤ r → AsksWithin network p r a b
asks-up network p q r a b asks le = let more = cost-more network q r le in omega (arith, asks, more)

-- ---- one step behind the other

pub Spends-then : (network : NetworkTree) (terms : ℕ) (was mid now : Work) → Spends network terms was mid → Spends network terms mid now → Spends network terms was now
Spends-then network terms was mid now first second = record {
  squares = asks-then network was.early mid.early now.early was.squares mid.squares now.squares first.squares second.squares;
  blocks = opens-then terms was.opened mid.opened now.opened was.blocks mid.blocks now.blocks first.blocks second.blocks;
}

pub Spends-same : (network : NetworkTree) (terms : ℕ) (was : Work) → Spends network terms was was
Spends-same network terms was = record { squares = omega arith; blocks = omega arith }

pub Passes-then : (s : Sought) (terms : ℕ) (old mid new : List Document) (a b c : KeptEntries) (was half now : Work) → Passes s terms old mid a b was half → Passes s terms mid new b c half now → Passes s terms old new a c was now
Passes-then s terms old mid new a b c was half now first second = record {
  step = λ h. second.step (first.step h);
  spends = λ h. Spends-then s.network terms was half now (first.spends h) (second.spends (first.step h));
}

pub Passes-same : (s : Sought) (terms : ℕ) (old : List Document) (kept : KeptEntries) (was : Work) → Passes s terms old old kept kept was was
Passes-same s terms old kept was = record { step = λ h. h; spends = λ h. Spends-same s.network terms was }

-- ---- in a part

module _ (s : Sought) (m : Stretch) where
  -- documents that change nothing of what is held
  pub Passes-by : (terms id to : ℕ) (ahead later : Ahead) (range : ℕ) (kept : KeptEntries) (a b blocks : ℕ) → id ≤ to
      → ((before : List Document) (most : ℕ) → HoldsFirst s.kind s.priors s.filters s.network (before ++ unmarked (take id m.docs) m.marks) most kept → HoldsFirst s.kind s.priors s.filters s.network (before ++ unmarked (take to m.docs) m.marks) most kept)
      → AsksWithin s.network (asked_of m.marks id ahead) (asked_of m.marks to later) a b → Passes s terms (live_to m id) (live_to m to) kept kept (work_to s m id ahead range a blocks) (work_to s m to later range b blocks)
  Passes-by terms id to ahead later range kept a b blocks up step asks = record {
    step = λ h. step m.before s.most h;
    spends = λ h. record {
      squares = asks-beside s.network (asked_of m.marks id ahead) (asked_of m.marks to later) (scored s m id) (scored s m to) a b asks (scored-more s m id to up);
      blocks = opens-none s m terms range id (come_to range to) blocks (come-on range id to up);
    };
  }

  -- where nothing more is looked at
  pub Spends-none : (terms id : ℕ) (ahead : Ahead) (range a b blocks : ℕ) → id ≤ length m.docs → AsksWithin s.network (asked_of m.marks id ahead) (live_ranges m.marks (ranges_of (length m.docs))) a b
      → Spends s.network terms (work_to s m id ahead range a blocks) (work_of s m b blocks)
  Spends-none terms id ahead range a b blocks inside asks = record {
    squares = asks-beside s.network (asked_of m.marks id ahead) (live_ranges m.marks (ranges_of (length m.docs))) (scored s m id) (scored s m (length m.docs)) a b asks (scored-more s m id (length m.docs) inside);
    blocks = opens-more terms (unbeaten s m (come_to range id)) (unbeaten s m (come_to range id)) (unbeaten s m (ranges_of (length m.marks))) blocks blocks (omega arith) (unbeaten-le s m (come_to range id));
  }

  -- no more than the whole part
  pub Spends-whole : (terms : ℕ) (was : Work) (id : ℕ) (ahead : Ahead) (range a b : ℕ) → id ≤ length m.docs → asked_of m.marks id ahead ≤ live_ranges m.marks (ranges_of (length m.docs))
      → Spends s.network terms was (work_to s m id ahead range a b) → Spends s.network terms was (work_of s m a b)
  Spends-whole terms was id ahead range a b inside asked h =
      let all : Spends s.network terms (work_to s m id ahead range a b) (work_of s m a b) = Spends-none terms id ahead range a a b inside (let more = cost-more s.network (asked_of m.marks id ahead) (live_ranges m.marks (ranges_of (length m.docs))) asked in omega (arith, more)) in
      Spends-then s.network terms was (work_to s m id ahead range a b) (work_of s m a b) h all

  -- ---- what it comes to, where it is done and where it isn't

  -- documents that change nothing of what is held
  pub PassesIn-by : {E : Type 0} (terms id : ℕ) (ahead : Ahead) (range : ℕ) (kept : KeptEntries) (a b blocks : ℕ) (to : Passed) → id ≤ to.id → id ≤ length m.docs
      → ((before : List Document) (most : ℕ) → HoldsFirst s.kind s.priors s.filters s.network (before ++ unmarked (take id m.docs) m.marks) most kept → HoldsFirst s.kind s.priors s.filters s.network (before ++ unmarked (take to.id m.docs) m.marks) most kept)
      → AsksWithin s.network (asked_of m.marks id ahead) (asked_of m.marks to.id to.ahead) a b → IsKnownIn s m to.id to.ahead → PassesIn {E = E} s terms m id ahead kept kept (tally range a blocks) (tally range b blocks) (Ok to)
  PassesIn-by terms id ahead range kept a b blocks to up inside step asks known = record {
    first = Passes-by terms id to.id ahead to.ahead range kept a b blocks up step asks;
    known = known;
    within = λ held. Spends-none terms id ahead range a b blocks inside
        (asks-up s.network (asked_of m.marks id ahead) (asked_of m.marks to.id to.ahead) (live_ranges m.marks (ranges_of (length m.docs))) a b asks (asked-all m.marks (length m.docs) to.id to.ahead known.span));
  }

  -- no bound is told
  pub PassesIn-none : {E : Type 0} (Q : E → Type 0) (terms id : ℕ) (ahead : Ahead) (range : ℕ) (kept : KeptEntries) (a b blocks : ℕ) (result : Result Passed E) → IsErrAnd result Q → id ≤ length m.docs
      → AsksWithin s.network (asked_of m.marks id ahead) (live_ranges m.marks (ranges_of (length m.docs))) a b → PassesIn s terms m id ahead kept kept (tally range a blocks) (tally range b blocks) result
  PassesIn-none Q terms id ahead range kept a b blocks (Ok to) failed inside asks = absurd failed
  PassesIn-none Q terms id ahead range kept a b blocks (Err e) failed inside asks = record { first = tt; known = tt; within = λ held. Spends-none terms id ahead range a b blocks inside asks }

  -- behind documents that were passed
  pub PassesIn-passed : {E : Type 0} (terms id : ℕ) (ahead : Ahead) (kept next : KeptEntries) (was now : Tally) (to : Passed) → to.id ≤ length m.docs
      → Passes s terms (live_to m id) (live_to m to.id) kept next (work_to s m id ahead was.range was.squares was.blocks) (work_to s m to.id to.ahead now.range now.squares now.blocks) → IsKnownIn s m to.id to.ahead
      → PassesIn {E = E} s terms m id ahead kept next was now (Ok to)
  PassesIn-passed terms id ahead kept next was now to inside passes known = record {
    first = passes;
    known = known;
    within = λ held. Spends-whole terms (work_to s m id ahead was.range was.squares was.blocks) to.id to.ahead now.range now.squares now.blocks inside (asked-all m.marks (length m.docs) to.id to.ahead known.span) (passes.spends held);
  }

  -- where those behind them aren't
  pub PassesIn-broken : {E R : Type 0} (Q : E → Type 0) (terms id : ℕ) (ahead : Ahead) (kept half next : KeptEntries) (was mid now : Tally) (at : ℕ) (later : Ahead) (inner : Result Passed R) (result : Result Passed E) → IsErrAnd result Q
      → Passes s terms (live_to m id) (live_to m at) kept half (work_to s m id ahead was.range was.squares was.blocks) (work_to s m at later mid.range mid.squares mid.blocks) → PassesIn s terms m at later half next mid now inner
      → PassesIn s terms m id ahead kept next was now result
  PassesIn-broken Q terms id ahead kept half next was mid now at later inner (Ok to) failed passes h = absurd failed
  PassesIn-broken Q terms id ahead kept half next was mid now at later inner (Err e) failed passes h = record {
    first = tt;
    known = tt;
    within = λ held. Spends-then s.network terms (work_to s m id ahead was.range was.squares was.blocks) (work_to s m at later mid.range mid.squares mid.blocks) (work_of s m now.squares now.blocks) (passes.spends held) (h.within (passes.step held));
  }

  -- documents of a range that can't be passed
  module _ (id : ℕ) (ahead now : Ahead) (range own : ℕ) (kept next : KeptEntries) (a b d blocks more terms : ℕ) (whole : length m.marks ≡ length m.docs) (inside : id < length m.docs) (end : now.end ≤ length m.docs) (short : now.end ≤ 64 * (id / 64 + 1))
      (asks : AsksWithin s.network (asked_of m.marks id ahead) (asked_of m.marks id now) a b) (live : has_live m.marks (id / 64) ≡ true)
      (found : Holds s (live_to m id) kept → is_unbeaten s m (id / 64) ≡ true) (none : range ≡ id / 64 → more ≡ blocks) (cost : more ≤ blocks + terms) where
    over : (to : ℕ) → id ≤ to → to ≤ now.end → is_unbeaten s m (id / 64) ≡ true
        → scored s m to + candidate_count s (unmarked (take id m.docs) m.marks) ≡ scored s m id + candidate_count s (unmarked (take to m.docs) m.marks)
    over to up within is =
        scored-over s m (to - id) id to (omega (arith, up)) (omega (arith, within, end)) whole
        (λ i low high. let same : i / 64 ≡ id / 64 = omega (arith, low, high, within, short) in ap (is_unbeaten s m) same ∙ is)

    Passes-over : {E : Type 0} (passed : Result Passed E) → IfOk passed (λ to. id ≤ to.id) → IfOk passed (λ to. to.id ≤ now.end) → OnOk passed (own ≡ id / 64)
        → IfOk passed (λ to. Advances s.kind s.priors s.filters s.network (unmarked (take id m.docs) m.marks) (unmarked (take to.id m.docs) m.marks) (counted kept b (asked_of m.marks id now)) (counted next d (asked_of m.marks to.id to.ahead)))
        → IfOk passed (λ to. Passes s terms (live_to m id) (live_to m to.id) kept next (work_to s m id ahead range a blocks) (work_to s m to.id to.ahead own d more))
    Passes-over (Err e) back within is on = tt
    Passes-over (Ok to) back within is on =
        let up : id ≤ to.id = back in
        record {
          step = λ h. on.step m.before s.most h;
          spends = λ h. record {
            squares = asks-scored s.network (asked_of m.marks id ahead) (asked_of m.marks id now) (asked_of m.marks to.id to.ahead) (scored s m id) (scored s m to.id)
                (candidate_count s (unmarked (take id m.docs) m.marks)) (candidate_count s (unmarked (take to.id m.docs) m.marks)) a b d asks on.cost (over to.id up within (found h));
            blocks = opens-range s m terms range id (come_to own to.id) blocks more live (found h) (come-here own id to.id is up) none cost;
          };
        }

    -- whatever is answered
    Spends-over : id ≤ now.end
        → SpendsWithin s.kind s.priors s.filters s.network (unmarked (take id m.docs) m.marks) (unmarked (take now.end m.docs) m.marks) (asked_of m.marks id now) (live_ranges m.marks (ranges_of (length m.docs))) b d
        → Holds s (live_to m id) kept → Spends s.network terms (work_to s m id ahead range a blocks) (work_of s m d more)
    Spends-over up spent h = record {
      squares = asks-up s.network (asked_of m.marks id ahead + scored s m id) (live_ranges m.marks (ranges_of (length m.docs)) + scored s m now.end) (live_ranges m.marks (ranges_of (length m.docs)) + scored s m (length m.docs)) a d
          (asks-scored s.network (asked_of m.marks id ahead) (asked_of m.marks id now) (live_ranges m.marks (ranges_of (length m.docs))) (scored s m id) (scored s m now.end)
          (candidate_count s (unmarked (take id m.docs) m.marks)) (candidate_count s (unmarked (take now.end m.docs) m.marks)) a b d asks spent (over now.end up (omega arith) (found h)))
          (let le = scored-more s m now.end (length m.docs) end in omega (arith, le));
      blocks = opens-range s m terms range id (ranges_of (length m.marks)) blocks more live (found h) (omega (arith, inside, whole)) none cost;
    }

    pub PassesIn-over : {E : Type 0} (result : Result Passed E) → id ≤ now.end → IfOk result (λ to. id ≤ to.id) → IfOk result (λ to. to.id ≤ now.end) → OnOk result (own ≡ id / 64) → ScoresIn s m id now kept next b d result
        → PassesIn s terms m id ahead kept next (tally range a blocks) (tally own d more) result
    PassesIn-over result up back within is h = record { first = Passes-over result back within is h.first; known = h.known; within = Spends-over up h.within }

-- ---- by what was read, and what the priors told, before

pub PassesIn-read : {E : Type 0} (told priors : List Prior) (read docs : List Document) (stay : told ≡ priors) (same : read ≡ docs) (of : List Prior → Sought) (m : List Document → Stretch) (terms id : ℕ) (ahead : Ahead) (kept next : KeptEntries) (was now : Tally)
    (result : Result Passed E) → PassesIn (of told) terms (m read) id ahead kept next was now result → PassesIn (of priors) terms (m docs) id ahead kept next was now result
PassesIn-read told priors read docs stay same of m terms id ahead kept next was now result h =
    subst (λ (ds : List Document). PassesIn (of priors) terms (m ds) id ahead kept next was now result) same (subst (λ (ps : List Prior). PassesIn (of ps) terms (m read) id ahead kept next was now result) stay h)

-- ---- in parts

-- behind the last part there are no documents
part-none : (parts : List Marked) (part : ℕ) → length parts ≤ part → part_at parts part ≡ record { source = InMemory []; marks = [] }
part-none [] zero past = refl
part-none [] (suc part) past = refl
part-none (m ∷ parts) zero past = absurd (omega (arith, past))
part-none (m ∷ parts) (suc part) past = part-none parts part (omega (arith, past))

-- behind other parts
pub Spends-further : (network : NetworkTree) (terms a b x y p q u v p' q' u' v' e o : ℕ) → p' ≤ e + p → e + q ≤ q' → u' ≡ o + u → o + v ≤ v'
    → Spends network terms (record { squares = a; early = p; blocks = x; opened = u }) (record { squares = b; early = q; blocks = y; opened = v })
    → Spends network terms (record { squares = a; early = p'; blocks = x; opened = u' }) (record { squares = b; early = q'; blocks = y; opened = v' })
Spends-further network terms a b x y p q u v p' q' u' v' e o less more is last h = record {
  squares =
      let s = h.squares in
      let ep = cost-sum network e p in
      let eq = cost-sum network e q in
      let low = cost-more network p' (e + p) less in
      let high = cost-more network (e + q) q' more in
      omega (arith, s, ep, eq, low, high);
  blocks = subst (λ n. OpensWithin terms n v' x y) (sym is) (opens-further terms o u v v' x y h.blocks last);
}

module _ (s : Sought) (told : Option Files) (parts : List Marked) where
  pub unbeaten-parts : (a b : ℕ) → a ≤ b → unbeaten_in s told parts a ≤ unbeaten_in s told parts b
  unbeaten-parts a b le = rises (unbeaten_in s told parts) (λ n. omega arith) a b le

  pub scored-parts : (a b : ℕ) → a ≤ b → scored_in s told parts a ≤ scored_in s told parts b
  scored-parts a b le = rises (scored_in s told parts) (λ n. omega arith) a b le

  module _ (at : Place) where
    -- in the part of a place, and in all parts
    pub Spends-part : (terms range a b x y : ℕ) → at.part < length parts
        → Spends s.network terms (work_to s (stretch_at told parts at.part) at.id at.ahead range a x) (work_of s (stretch_at told parts at.part) b y)
        → Spends s.network terms (work_at s told parts at range a x) (work_in s told parts b y)
    Spends-part terms range a b x y lt h =
        let m : Stretch = stretch_at told parts at.part in
        let long = reads-length told (part_at parts at.part).source in
        let bounds = layout-front parts at.part in
        let bounds_all : live_ranges m.marks (ranges_of (length m.docs)) ≡ layout_in (part_at parts at.part) = ap (λ n. live_ranges m.marks (ranges_of n)) long in
        let scored_all : scored s m (length m.docs) ≡ scored s m (size (part_at parts at.part).source) = ap (scored s m) long in
        let scored_front = scored-parts (suc at.part) (length parts) (omega (arith, lt)) in
        let opened_front = unbeaten-parts (suc at.part) (length parts) (omega (arith, lt)) in
        Spends-further s.network terms a b x y (asked_of m.marks at.id at.ahead + scored s m at.id) (live_ranges m.marks (ranges_of (length m.docs)) + scored s m (length m.docs))
        (unbeaten s m (come_to range at.id)) (unbeaten s m (ranges_of (length m.marks)))
        (early_at s told parts at) (layout parts + scored_in s told parts (length parts)) (met_at s told parts at range) (unbeaten_in s told parts (length parts))
        (layout (take at.part parts) + scored_in s told parts at.part) (unbeaten_in s told parts at.part)
        (omega arith) (omega (arith, bounds, bounds_all, scored_all, scored_front)) refl (omega (arith, opened_front)) h

    -- to the place behind documents of its part
    module _ (to : Passed) (most : ℕ) (lt : at.part < length parts) (inside : to.id ≤ size (part_at parts at.part).source) where
      abbrev place_by : Bool → Place
      place_by b = if b then record { part = at.part + 1; id = 0; credit = at.credit + to.docs; ahead = nothing_known } else record { part = at.part; id = to.id; credit = at.credit + to.docs; ahead = to.ahead }

      scored-behind : scored_in s told parts at.part + scored s (stretch_at told parts at.part) to.id ≤ scored_in s told parts (behind at to most).part + scored s (stretch_at told parts (behind at to most).part) (behind at to most).id
      scored-behind = by (nat_lt to.docs most)
        where
          by : (b : Bool) → scored_in s told parts at.part + scored s (stretch_at told parts at.part) to.id
              ≤ scored_in s told parts (place_by b).part
              + scored s (stretch_at told parts (place_by b).part)
              (place_by b).id
          by true =
              let next : at.part + 1 ≡ suc at.part = omega arith in
              let there = ap (scored_in s told parts) next in
              let more = scored-more s (stretch_at told parts at.part) to.id (size (part_at parts at.part).source) inside in
              omega (arith, there, more)
          by false = omega arith

      met-behind : (range now : ℕ) → (most ≤ to.docs → now ≡ range) → unbeaten_in s told parts at.part + unbeaten s (stretch_at told parts at.part) (come_to range to.id) ≤ met_at s told parts (behind at to most) now
      met-behind range now same = by (nat_lt to.docs most) refl
        where
          by : (b : Bool) → nat_lt to.docs most ≡ b → unbeaten_in s told parts at.part + unbeaten s (stretch_at told parts at.part) (come_to range to.id)
              ≤ met_at s told parts (place_by b) now
          by true e =
              let next : at.part + 1 ≡ suc at.part = omega arith in
              let there = ap (unbeaten_in s told parts) next in
              let all = unbeaten-le s (stretch_at told parts at.part) (come_to range to.id) in
              omega (arith, there, all)
          by false e =
              let full : most ≤ to.docs = grind (arith, nat_tests) in
              let is = ap (λ r. unbeaten s (stretch_at told parts at.part) (come_to r to.id)) (same full) in
              omega (arith, is)

      passed-behind : (to.docs < most → to.id ≡ size (part_at parts at.part).source) → passed told parts (behind at to most) ≡ live_to (stretch_at told parts at.part) to.id
      passed-behind end = by (nat_lt to.docs most) refl
        where
          by : (b : Bool) → nat_lt to.docs most ≡ b
              → passed told parts (place_by b) ≡ live_to (stretch_at told parts at.part) to.id
          by true e = let fewer : to.docs < most = grind (arith, nat_tests) in before-next told parts at.part to.id lt (end fewer)
          by false e = refl

      pub Passes-behind : (terms range own now : ℕ) (kept next : KeptEntries) (a b x y : ℕ) → (to.docs < most → to.id ≡ size (part_at parts at.part).source) → (most ≤ to.docs → now ≡ own)
          → layout (take at.part parts) + asked_of (part_at parts at.part).marks to.id to.ahead ≤ asked_at parts (behind at to most)
          → Passes s terms (live_to (stretch_at told parts at.part) at.id) (live_to (stretch_at told parts at.part) to.id) kept next (work_to s (stretch_at told parts at.part) at.id at.ahead range a x) (work_to s (stretch_at told parts at.part) to.id to.ahead own b y)
          → Passes s terms (passed told parts at) (passed told parts (behind at to most)) kept next (work_at s told parts at range a x) (work_at s told parts (behind at to most) now b y)
      Passes-behind terms range own now kept next a b x y end same asked h = record {
        step = λ held. subst (λ (ds : List Document). Holds s ds next) (sym (passed-behind end)) (h.step held);
        spends = λ held.
            let m : Stretch = stretch_at told parts at.part in
            let scored_on = scored-behind in
            Spends-further s.network terms a b x y (asked_of m.marks at.id at.ahead + scored s m at.id) (asked_of m.marks to.id to.ahead + scored s m to.id)
            (unbeaten s m (come_to range at.id)) (unbeaten s m (come_to own to.id))
            (early_at s told parts at) (early_at s told parts (behind at to most)) (met_at s told parts at range) (met_at s told parts (behind at to most) now)
            (layout (take at.part parts) + scored_in s told parts at.part) (unbeaten_in s told parts at.part)
            (omega arith) (omega (arith, asked, scored_on)) refl (met-behind own now same) (h.spends held);
      }

    -- no more than all parts
    pub early-all : IsPlace parts at → scored_in s told parts at.part + scored s (stretch_at told parts at.part) at.id ≤ scored_in s told parts (length parts)
    early-all place = by (nat_lt at.part (length parts)) refl
      where
        by : (b : Bool) → nat_lt at.part (length parts) ≡ b → scored_in s told parts at.part + scored s (stretch_at told parts at.part) at.id ≤ scored_in s told parts (length parts)
        by true e =
            let lt : at.part < length parts = grind (arith, nat_tests) in
            let all = scored-more s (stretch_at told parts at.part) at.id (size (part_at parts at.part).source) place.id in
            let front = scored-parts (suc at.part) (length parts) (omega (arith, lt)) in
            omega (arith, all, front)
        by false e =
            let past : length parts ≤ at.part = grind (arith, nat_tests) in
            let last = place.part in
            let none : size (part_at parts at.part).source ≡ 0 = ap (λ (p : Marked). size p.source) (part-none parts at.part past) in
            let id = place.id in
            let first : at.id ≡ 0 = omega (arith, id, none) in
            let e' = ap (scored s (stretch_at told parts at.part)) first in
            let end = scored-parts at.part (length parts) (omega (arith, last)) in
            omega (arith, e', end)

    pub met-all : (range : ℕ) → IsPlace parts at → met_at s told parts at range ≤ unbeaten_in s told parts (length parts)
    met-all range place = by (nat_lt at.part (length parts)) refl
      where
        by : (b : Bool) → nat_lt at.part (length parts) ≡ b → met_at s told parts at range ≤ unbeaten_in s told parts (length parts)
        by true e =
            let lt : at.part < length parts = grind (arith, nat_tests) in
            let all = unbeaten-le s (stretch_at told parts at.part) (come_to range at.id) in
            let front = unbeaten-parts (suc at.part) (length parts) (omega (arith, lt)) in
            omega (arith, all, front)
        by false e =
            let past : length parts ≤ at.part = grind (arith, nat_tests) in
            let last = place.part in
            let all = unbeaten-le s (stretch_at told parts at.part) (come_to range at.id) in
            let none : unbeaten s (stretch_at told parts at.part) (ranges_of (length (part_at parts at.part).marks)) ≡ unbeaten s (stretch_at told parts at.part) 0 = ap (λ (p : Marked). unbeaten s (stretch_at told parts at.part) (ranges_of (length p.marks))) (part-none parts at.part past) in
            let end = unbeaten-parts at.part (length parts) (omega (arith, last)) in
            omega (arith, all, none, end)

    pub Spends-all : (terms : ℕ) (was : Work) (range b y : ℕ) → IsPlace parts at → asked_at parts at ≤ layout parts
        → Spends s.network terms was (work_at s told parts at range b y) → Spends s.network terms was (work_in s told parts b y)
    Spends-all terms was range b y place asked h =
        let scored_all = early-all place in
        record {
          squares = asks-up s.network was.early (early_at s told parts at) (layout parts + scored_in s told parts (length parts)) was.squares b h.squares (omega (arith, asked, scored_all));
          blocks = opens-more terms was.opened (met_at s told parts at range) (unbeaten_in s told parts (length parts)) was.blocks y h.blocks (met-all range place);
        }

-- ---- what it comes to in parts

module _ (s : Sought) (terms : ℕ) (told : Option Files) (parts : List Marked) (at : Place) where
  -- at a place
  pub PassesAt-passed : {R E : Type 0} (to : Place) (kept next : KeptEntries) (was now : Tally) (x : R) → IsPlace parts to → Passes s terms (passed told parts at) (passed told parts to) kept next (work_at s told parts at was.range was.squares was.blocks) (work_at s told parts to now.range now.squares now.blocks)
      → IsAheadBy s told parts to → PassesAt {E = E} s terms told parts at to kept next was now (Ok x)
  PassesAt-passed to kept next was now x place passes known = record {
    first = passes;
    known = known;
    within = λ held. Spends-all s told parts to terms (work_at s told parts at was.range was.squares was.blocks) now.range now.squares now.blocks place (asked-le told parts to known.here.span) (passes.spends held);
  }

  -- where the documents behind it aren't passed
  pub PassesAt-broken : {R U E V : Type 0} (Q : E → Type 0) (mid to : Place) (kept half next : KeptEntries) (was between now : Tally) (inner : Result U V) (result : Result R E) → IsErrAnd result Q
      → Passes s terms (passed told parts at) (passed told parts mid) kept half (work_at s told parts at was.range was.squares was.blocks) (work_at s told parts mid between.range between.squares between.blocks)
      → PassesAt s terms told parts mid to half next between now inner → PassesAt s terms told parts at to kept next was now result
  PassesAt-broken Q mid to kept half next was between now inner (Ok x) failed passes h = absurd failed
  PassesAt-broken Q mid to kept half next was between now inner (Err e) failed passes h = record {
    first = tt;
    known = tt;
    within = λ held. Spends-then s.network terms (work_at s told parts at was.range was.squares was.blocks) (work_at s told parts mid between.range between.squares between.blocks) (work_in s told parts now.squares now.blocks) (passes.spends held) (h.within (passes.step held));
  }

-- documents of the part of a place: behind them, and where they aren't passed
module _ (s : Sought) (terms : ℕ) (told : Option Files) (parts : List Marked) (at : Place) (m : Marked) (is : part_at parts at.part ≡ m) (lt : at.part < length parts) (ahead : IsAheadBy s told parts at) where
  abbrev own : Marked → Stretch
  own p = stretch at.part (live told (take at.part parts)) (reads told p.source) p.marks

  pub known-own : IsKnownIn s (own m) at.id at.ahead
  known-own = subst (λ (p : Marked). IsKnownIn s (own p) at.id at.ahead) is ahead.here

  within-own : {E : Type 0} (kept next : KeptEntries) (was now : Tally) (result : Result Passed E) → PassesIn s terms (own m) at.id at.ahead kept next was now result
      → Holds s (passed told parts at) kept → Spends s.network terms (work_at s told parts at was.range was.squares was.blocks) (work_in s told parts now.squares now.blocks)
  within-own kept next was now result h held =
      Spends-part s told parts at terms was.range was.squares now.squares was.blocks now.blocks lt
      (subst (λ (p : Marked). Holds s (live_to (own p) at.id) kept → Spends s.network terms (work_to s (own p) at.id at.ahead was.range was.squares was.blocks) (work_of s (own p) now.squares now.blocks)) (sym is) h.within held)

  pub PassesAt-failed : {R E V : Type 0} (Q : E → Type 0) (kept next : KeptEntries) (was now : Tally) (inner : Result Passed V) (result : Result R E) → IsErrAnd result Q → PassesIn s terms (own m) at.id at.ahead kept next was now inner → PassesAt s terms told parts at at kept next was now result
  PassesAt-failed Q kept next was now inner (Ok x) failed h = absurd failed
  PassesAt-failed Q kept next was now inner (Err e) failed h = record { first = tt; known = tt; within = within-own kept next was now inner h }

  pub PassesAt-behind : {R E V : Type 0} (kept next : KeptEntries) (was now : Tally) (own_range : ℕ) (to : Passed) (most : ℕ) (x : R) → length m.marks ≡ size m.source → IsPassed m.marks at.id most to → (to.docs < most → to.id ≡ size m.source) → (most ≤ to.docs → own_range ≡ now.range)
      → PassesIn {E = V} s terms (own m) at.id at.ahead kept next was now (Ok to) → PassesAt {E = E} s terms told parts at (behind at to most) kept next was (tally own_range now.squares now.blocks) (Ok x)
  PassesAt-behind kept next was now own_range to most x whole passes end same h =
      let inside = passes.inside in
      let size_is : size (part_at parts at.part).source ≡ size m.source = ap (λ (p : Marked). size p.source) is in
      let all = asked-all m.marks (length (reads told m.source)) to.id to.ahead h.known.span in
      let layout_is : live_ranges m.marks (ranges_of (length (reads told m.source))) ≡ layout_in m = ap (λ n. live_ranges m.marks (ranges_of n)) (reads-length told m.source) in
      let below : asked_of m.marks to.id to.ahead ≤ layout_in m = omega (arith, all, layout_is) in
      let asked = asked-behind parts at to most lt (subst (λ (p : Marked). asked_of p.marks to.id to.ahead ≤ layout_in p) (sym is) below) in
      record {
        first = Passes-behind s told parts at to most lt (omega (arith, inside, size_is, whole)) terms was.range now.range own_range kept next was.squares now.squares was.blocks now.blocks (subst (λ (p : Marked). to.docs < most → to.id ≡ size p.source) (sym is) end) same asked
            (subst (λ (p : Marked). Passes s terms (live_to (own p) at.id) (live_to (own p) to.id) kept next (work_to s (own p) at.id at.ahead was.range was.squares was.blocks) (work_to s (own p) to.id to.ahead now.range now.squares now.blocks)) (sym is) h.first);
        known = IsAheadAt-behind s.kind s.priors s.filters s.network s.tables told parts at to most m is ahead.each h.known;
        within = within-own kept next was now (Ok to) h;
      }

-- by the files as they were, and what the priors told, before
pub PassesAt-later : {R E : Type 0} (was priors : List Prior) (here told : Option Files) (stay : was ≡ priors) (same : here ≡ told) (of : List Prior → Sought) (terms : ℕ) (parts : List Marked) (at to : Place) (kept next : KeptEntries) (before now : Tally) (result : Result R E)
    → PassesAt (of was) terms here parts at to kept next before now result → PassesAt (of priors) terms told parts at to kept next before now result
PassesAt-later was priors here told stay same of terms parts at to kept next before now result h =
    subst (λ (f : Option Files). PassesAt (of priors) terms f parts at to kept next before now result) same (subst (λ (ps : List Prior). PassesAt (of ps) terms here parts at to kept next before now result) stay h)
