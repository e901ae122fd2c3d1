-- Places in the parts of a snapshot, and the live documents before them.
use Rattle.std.proofs.Common.{◌≡◌, ◌<◌, ◌≤◌, ℕ, zero, suc, ◌+◌, ◌-◌, min, nat_lt, if◌then◌else◌, Bool, true, false, List, [], ◌∷◌, ◌++◌, Option, None, length, take, get_or, refl, sym, ap, subst, ◌∙◌, arith, append_assoc, append-nil}
use Rattle.std.proofs.lemmas.Bool.Decides.{nat_tests}
use Rattle.std.proofs.lemmas.Grind.{flat_map-append}
use Rattle.std.proofs.lemmas.List.{length-append, nil_from_length, take_all, take_more}
use Rattle.ri_base.specs.Documents.{Document}
use Rattle.ri_base.specs.Query.{FilterTree}
use Rattle.store_ends.specs.Files.{Files}
use Rattle.smoothing.specs.declared.rule.RuleKind.{RuleKind}
use Rattle.range_bounds.specs.declared.table.RangeTable.{RangeTable}
use Rattle.belief_nodes.specs.Network.{NetworkTree}
use Rattle.belief_nodes.specs.Priors.{Prior}
use Rattle.disk_index.specs.Parts.{InMemory, reads, size}
use Rattle.disk_index.specs.Snapshots.{IsSnapshot, Marked, live, live_in, unmarked}
use Rattle.disk_index.proofs.LiveLemmas.{live-few, live-length}
use Rattle.disk_index.proofs.RebuiltLemmas.{reads-length}
use Rattle.ranker.specs.First.{Advances, Counted, HoldsFirst}
use Rattle.ranker.specs.Passed.{IsAheadAt, IsKnown, IsPassed, IsPlace, IsTold, behind, live_before, live_ids, nothing_known, part_at, passed}
use Rattle.ranker.specs.declared.place.Passed.{Passed}
use Rattle.ranker.specs.declared.place.Place.{Place}
use Rattle.ranker.proofs.AheadLemmas.{IsKnown-nothing}
use Rattle.ranker.proofs.PassedLemmas.{cost-append, unmarked-ids}

-- ---- documents before a place stand before all others

pub unmarked-front : {A : Type 0} (xs : List A) (marks : List Bool) (i : ℕ) → (rest : List A) × (unmarked xs marks ≡ unmarked (take i xs) marks ++ rest)
unmarked-front xs marks zero = (unmarked xs marks, refl)
unmarked-front [] marks (suc i) = ([], refl)
unmarked-front (x ∷ xs) [] (suc i) = ([], refl)
unmarked-front (x ∷ xs) (true ∷ marks) (suc i) = unmarked-front xs marks i
unmarked-front {A} (x ∷ xs) (false ∷ marks) (suc i) = let h = unmarked-front xs marks i in (h.0, ap (λ (ys : List A). x ∷ ys) h.1)

-- the documents before an id of a part, where these stand behind those of the first parts
abbrev pub before : Option Files → List Marked → ℕ → ℕ → List Document
before told parts part id = live told (take part parts) ++ live_before told (part_at parts part) id

pub live-front : (told : Option Files) (parts : List Marked) (part id : ℕ) → (rest : List Document) × (live told parts ≡ before told parts part id ++ rest)
live-front told [] zero id = unmarked-front (reads told (InMemory [])) [] id
live-front told [] (suc part) id = unmarked-front (reads told (InMemory [])) [] id
live-front told (m ∷ parts) zero id =
    let h = unmarked-front (reads told m.source) m.marks id in
    (h.0 ++ live told parts, ap (λ (ds : List Document). ds ++ live told parts) h.1 ∙ append_assoc (live_before told m id) h.0 (live told parts))
live-front told (m ∷ parts) (suc part) id =
    let h = live-front told parts part id in
    let own : List Document = live_in told m in
    let mid : List Document = live told (take part parts) in
    let last : List Document = live_before told (part_at parts part) id in
    (h.0, ap (λ (ds : List Document). own ++ ds) h.1 ∙ sym (append_assoc own (mid ++ last) h.0) ∙ ap (λ (ds : List Document). ds ++ h.0) (sym (append_assoc own mid last)))

pub passed-le : (told : Option Files) (parts : List Marked) (at : Place) → length (passed told parts at) ≤ length (live told parts)
passed-le told parts at =
    let h = live-front told parts at.part at.id in
    let long : length (passed told parts at ++ h.0) ≡ length (passed told parts at) + length h.0 = length-append (passed told parts at) h.0 in
    let whole : length (live told parts) ≡ length (passed told parts at ++ h.0) = ap length h.1 in
    omega (arith, long, whole)

-- where as many stand before a place as there are, these are all
pub passed-all : (told : Option Files) (parts : List Marked) (at : Place) → length (passed told parts at) ≡ length (live told parts) → passed told parts at ≡ live told parts
passed-all told parts at same =
    let h = live-front told parts at.part at.id in
    let long : length (passed told parts at ++ h.0) ≡ length (passed told parts at) + length h.0 = length-append (passed told parts at) h.0 in
    let whole : length (live told parts) ≡ length (passed told parts at ++ h.0) = ap length h.1 in
    let none : h.0 ≡ [] = nil_from_length h.0 (omega (arith, long, whole, same)) in
    sym (h.1 ∙ ap (λ (ds : List Document). passed told parts at ++ ds) none ∙ append-nil (passed told parts at))

-- ---- from part to part

pub live-next : (told : Option Files) (parts : List Marked) (part : ℕ) → part < length parts → live told (take (part + 1) parts) ≡ live told (take part parts) ++ live_in told (part_at parts part)
live-next told parts part lt =
    let none : Marked = record { source = InMemory []; marks = [] } in
    let m : Marked = part_at parts part in
    ap (live told) (take_more parts part none lt)
    ∙ flat_map-append (live_in told) (take part parts) (m ∷ [])
    ∙ ap (λ (ds : List Document). live told (take part parts) ++ ds) (append-nil (live_in told m))

-- behind the last document of a part the next one begins
pub before-next : (told : Option Files) (parts : List Marked) (part id : ℕ) → part < length parts → id ≡ size (part_at parts part).source → before told parts (part + 1) 0 ≡ before told parts part id
before-next told parts part id lt end =
    let m : Marked = part_at parts part in
    let all : live_before told m id ≡ live_in told m = ap (λ (ds : List Document). unmarked ds m.marks) (take_all id (reads told m.source) (omega (arith, end, reads-length told m.source))) in
    append-nil (live told (take (part + 1) parts)) ∙ live-next told parts part lt ∙ ap (λ (ds : List Document). live told (take part parts) ++ ds) (sym all)

before-length : (told : Option Files) (parts : List Marked) (part id : ℕ) → length (part_at parts part).marks ≡ size (part_at parts part).source
    → length (before told parts part id) ≡ length (live told (take part parts)) + live_ids (part_at parts part).marks id
before-length told parts part id whole =
    let m : Marked = part_at parts part in
    let long : length (before told parts part id) ≡ length (live told (take part parts)) + length (live_before told m id) = length-append (live told (take part parts)) (live_before told m id) in
    let own : length (live_before told m id) ≡ live_ids m.marks id = unmarked-ids (reads told m.source) m.marks id (omega (arith, whole, reads-length told m.source)) in
    omega (arith, long, own)

-- the part of a number is the one that stands there
pub part-is : (parts : List Marked) (i : ℕ) (m : Marked) → i < length parts → m ≡ get_or parts i m → part_at parts i ≡ m
part-is [] i m lt is = absurd (omega (arith, lt))
part-is (p ∷ parts) zero m lt is = sym is
part-is (p ∷ parts) (suc i) m lt is = part-is parts i m (omega (arith, lt)) is

module _ (parts : List Marked) (at : Place) (to : Passed) (most : ℕ) where
  placed : at.part < length parts → length (part_at parts at.part).marks ≡ size (part_at parts at.part).source → IsPassed (part_at parts at.part).marks at.id most to
      → (to.docs < most → to.id ≡ size (part_at parts at.part).source) → IsPlace parts at → IsPlace parts (behind at to most)
  placed lt whole go end was = by (nat_lt to.docs most) refl
    where
      count : (told : Option Files) → at.credit + to.docs ≡ length (before told parts at.part to.id)
      count told =
          let first = before-length told parts at.part at.id whole in
          let last = before-length told parts at.part to.id whole in
          let here : at.credit ≡ length (before told parts at.part at.id) = was.credit told in
          let more = go.docs in
          omega (arith, first, last, here, more)

      by : (b : Bool) → nat_lt to.docs most ≡ b → IsPlace parts (if b then record { part = at.part + 1; id = 0; credit = at.credit + to.docs; ahead = nothing_known } else record { part = at.part; id = to.id; credit = at.credit + to.docs; ahead = to.ahead })
      by true e =
          let fewer : to.docs < most = grind (arith, nat_tests) in
          let done : to.id ≡ size (part_at parts at.part).source = end fewer in
          record {
            part = omega (arith, lt);
            id = omega arith;
            credit = λ told. count told ∙ ap length (sym (before-next told parts at.part to.id lt done));
          }
      by false e = record { part = omega (arith, lt); id = let inside = go.inside in omega (arith, inside, whole); credit = count }

  -- the place behind the documents of its part
  pub IsPlace-behind : (m : Marked) → part_at parts at.part ≡ m → at.part < length parts → length m.marks ≡ size m.source → IsPassed m.marks at.id most to → (to.docs < most → to.id ≡ size m.source)
      → IsPlace parts at → IsPlace parts (behind at to most)
  IsPlace-behind m is =
      subst (λ (p : Marked). at.part < length parts → length p.marks ≡ size p.source → IsPassed p.marks at.id most to → (to.docs < most → to.id ≡ size p.source) → IsPlace parts at → IsPlace parts (behind at to most)) is placed

  module _ (kind : RuleKind) (priors : List Prior) (filters : List FilterTree) (network : NetworkTree) (told : Option Files) (few next : Counted) where
    -- the same behind documents of other parts
    Advances-behind : (first old new : List Document) → Advances kind priors filters network old new few next → Advances kind priors filters network (first ++ old) (first ++ new) few next
    Advances-behind first old new h = record {
      step = λ others k held.
          subst (λ (ds : List Document). HoldsFirst kind priors filters network ds k next.kept) (append_assoc others first new)
          (h.step (others ++ first) k (subst (λ (ds : List Document). HoldsFirst kind priors filters network ds k few.kept) (sym (append_assoc others first old)) held));
      cost = let a = cost-append kind priors filters network first old in let b = cost-append kind priors filters network first new in let c = h.cost in omega (arith, a, b, c);
    }

    advanced : at.part < length parts → (to.docs < most → to.id ≡ size (part_at parts at.part).source)
        → Advances kind priors filters network (live_before told (part_at parts at.part) at.id) (live_before told (part_at parts at.part) to.id) few next
        → Advances kind priors filters network (passed told parts at) (passed told parts (behind at to most)) few next
    advanced lt end h = by (nat_lt to.docs most) refl
      where
        on : Advances kind priors filters network (before told parts at.part at.id) (before told parts at.part to.id) few next
        on = Advances-behind (live told (take at.part parts)) (live_before told (part_at parts at.part) at.id) (live_before told (part_at parts at.part) to.id) h

        by : (b : Bool) → nat_lt to.docs most ≡ b
            → Advances kind priors filters network (passed told parts at) (passed told parts (if b then record { part = at.part + 1; id = 0; credit = at.credit + to.docs; ahead = nothing_known } else record { part = at.part; id = to.id; credit = at.credit + to.docs; ahead = to.ahead })) few next
        by true e =
            let fewer : to.docs < most = grind (arith, nat_tests) in
            subst (λ (ds : List Document). Advances kind priors filters network (before told parts at.part at.id) ds few next) (sym (before-next told parts at.part to.id lt (end fewer))) on
        by false e = on

    -- to the place behind the documents of its part
    pub Advances-place : (m : Marked) → part_at parts at.part ≡ m → at.part < length parts → (to.docs < most → to.id ≡ size m.source)
        → Advances kind priors filters network (live_before told m at.id) (live_before told m to.id) few next → Advances kind priors filters network (passed told parts at) (passed told parts (behind at to most)) few next
    Advances-place m is =
        subst (λ (p : Marked). at.part < length parts → (to.docs < most → to.id ≡ size p.source) → Advances kind priors filters network (live_before told p at.id) (live_before told p to.id) few next
        → Advances kind priors filters network (passed told parts at) (passed told parts (behind at to most)) few next) is advanced

-- what is known at the place behind documents of its part
pub IsAheadAt-behind : (kind : RuleKind) (priors : List Prior) (filters : List FilterTree) (network : NetworkTree) (tables : List RangeTable) (told : Option Files) (parts : List Marked) (at : Place) (to : Passed) (most : ℕ) (m : Marked)
    → part_at parts at.part ≡ m → ((number : ℕ) → IsTold network tables number (reads told (part_at parts number).source))
    → IsKnown kind priors filters network tables at.part (reads told m.source) to.id to.ahead → IsAheadAt kind priors filters network tables told parts (behind at to most)
IsAheadAt-behind kind priors filters network tables told parts at to most m is each h = by (nat_lt to.docs most)
  where
    by : (b : Bool) → IsAheadAt kind priors filters network tables told parts (if b then record { part = at.part + 1; id = 0; credit = at.credit + to.docs; ahead = nothing_known } else record { part = at.part; id = to.id; credit = at.credit + to.docs; ahead = to.ahead })
    by true = record { here = IsKnown-nothing kind priors filters network tables (at.part + 1) (reads told (part_at parts (at.part + 1)).source) (each (at.part + 1)); each = each }
    by false = record { here = subst (λ (p : Marked). IsKnown kind priors filters network tables at.part (reads told p.source) to.id to.ahead) (sym is) h; each = each }

-- by the files as they were, and what the priors told, before
pub IsAheadAt-later : (kind : RuleKind) (was priors : List Prior) (filters : List FilterTree) (network : NetworkTree) (tables : List RangeTable) (here told : Option Files) (parts : List Marked) (at : Place) → was ≡ priors → here ≡ told
    → IsAheadAt kind was filters network tables here parts at → IsAheadAt kind priors filters network tables told parts at
IsAheadAt-later kind was priors filters network tables here told parts at stay same h =
    subst (λ (f : Option Files). IsAheadAt kind priors filters network tables f parts at) same (subst (λ (ps : List Prior). IsAheadAt kind ps filters network tables here parts at) stay h)

-- by the files as they were, and what the priors told, before
pub Advances-later : (kind : RuleKind) (was priors : List Prior) (filters : List FilterTree) (network : NetworkTree) (here told : Option Files) (parts : List Marked) (a b : Place) (few next : Counted) → was ≡ priors → here ≡ told
    → Advances kind was filters network (passed here parts a) (passed here parts b) few next → Advances kind priors filters network (passed told parts a) (passed told parts b) few next
Advances-later kind was priors filters network here told parts a b few next stay same h =
    subst (λ (f : Option Files). Advances kind priors filters network (passed f parts a) (passed f parts b) few next) same
    (subst (λ (ps : List Prior). Advances kind ps filters network (passed here parts a) (passed here parts b) few next) stay h)

-- ---- numbers

-- no more documents are passed than there are
pub credit-le : (told : Option Files) (parts : List Marked) (at : Place) → IsPlace parts at → at.credit ≤ length (live told parts)
credit-le told parts at place = let here = place.credit told in let front = passed-le told parts at in omega (arith, here, front)

-- no more documents are passed than a snapshot may hold
pub credit-few : (parts : List Marked) (at : Place) → IsSnapshot parts → IsPlace parts at → at.credit ≤ 4194304
credit-few parts at fits place =
    let here = place.credit None in
    let front = passed-le None parts at in
    let long = live-length None parts in
    let few = live-few None parts in
    let most = fits.few in
    omega (arith, here, front, long, few, most)

abbrev credit_of : Place → ℕ
credit_of p = p.credit

abbrev part_of : Place → ℕ
part_of p = p.part

pub credit-behind : (at : Place) (to : Passed) (most : ℕ) → (behind at to most).credit ≡ at.credit + to.docs
credit-behind at to most = by (nat_lt to.docs most)
  where
    by : (b : Bool) → credit_of (if b then record { part = at.part + 1; id = 0; credit = at.credit + to.docs; ahead = nothing_known } else record { part = at.part; id = to.id; credit = at.credit + to.docs; ahead = to.ahead }) ≡ at.credit + to.docs
    by true = refl
    by false = refl

pub part-behind : (at : Place) (to : Passed) (most : ℕ) → (behind at to most).part ≡ (if nat_lt to.docs most then at.part + 1 else at.part)
part-behind at to most = by (nat_lt to.docs most)
  where
    by : (b : Bool) → part_of (if b then record { part = at.part + 1; id = 0; credit = at.credit + to.docs; ahead = nothing_known } else record { part = at.part; id = to.id; credit = at.credit + to.docs; ahead = to.ahead }) ≡ (if b then at.part + 1 else at.part)
    by true = refl
    by false = refl

-- where no part is left, or as many are passed as were asked for
pub credit-min : (told : Option Files) (parts : List Marked) (at : Place) (was docs left : ℕ) → IsPlace parts at → at.credit + left ≡ was + docs → (0 < left → at.part < length parts → ⊥)
    → at.credit ≡ min (was + docs) (length (live told parts))
credit-min told parts at was docs zero place sum stop =
    let here = place.credit told in
    let front = passed-le told parts at in
    omega (arith, here, front, sum)
credit-min told parts at was docs (suc left) place sum stop =
    let past : length parts ≤ at.part = grind (arith, stop) in
    let here = place.credit told in
    let front = passed-le told parts at in
    let long : length (passed told parts at) ≡ length (live told (take at.part parts)) + length (live_before told (part_at parts at.part) at.id) = length-append (live told (take at.part parts)) (live_before told (part_at parts at.part) at.id) in
    let all : length (live told (take at.part parts)) ≡ length (live told parts) = ap (λ (ps : List Marked). length (live told ps)) (take_all at.part parts past) in
    omega (arith, here, front, long, all, sum)

-- a loop over the parts comes to its end
pub left-falls : (n part docs most now : ℕ) → part < n → 0 < most → docs ≤ most → now ≡ (if nat_lt docs most then part + 1 else part) → n - now + min (most - docs) 1 < n - part + min most 1
left-falls n part docs most now lt some few is = by (nat_lt docs most) refl is
  where
    by : (b : Bool) → nat_lt docs most ≡ b → now ≡ (if b then part + 1 else part) → n - now + min (most - docs) 1 < n - part + min most 1
    by true e is = omega (arith, lt, some, few, is)
    by false e is = let all : most ≤ docs = grind (arith, nat_tests) in omega (arith, lt, some, few, is, all)
