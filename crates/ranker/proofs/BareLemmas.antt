-- Live documents that come next and have nothing to show, passed without a look.
use Rattle.std.proofs.Common.{◌≡◌, ◌<◌, ◌≤◌, ℕ, zero, suc, ◌+◌, ◌-◌, ◌/◌, ◌%◌, ◌^◌, min, nat_lt, if◌then◌else◌, Bool, true, false, List, [], ◌∷◌, Option, length, get_or, w64, refl, sym, ap, subst, ◌∙◌, arith}
use Rattle.std.specs.Int.{bit_at, trailing_zeros}
use Rattle.std.proofs.Math.Nat.{div-le_self}
use Rattle.std.proofs.lemmas.Bool.{false≢true}
use Rattle.std.proofs.lemmas.Bool.Decides.{nat_tests}
use Rattle.std.proofs.lemmas.Nat.{shr-shr}
use Rattle.std.proofs.lemmas.Nat.Bits.{bit_at-trailing_zeros, bit_at-zero}
use Rattle.deletion_list.specs.Marks.{marked_count}
use Rattle.ri_base.specs.Query.{FilterTree}
use Rattle.store_ends.specs.Files.{Files}
use Rattle.smoothing.specs.declared.rule.RuleKind.{RuleKind}
use Rattle.belief_nodes.specs.Network.{NetworkTree}
use Rattle.belief_nodes.specs.Priors.{Prior}
use Rattle.disk_index.specs.Parts.{reads, size}
use Rattle.disk_index.specs.Snapshots.{Marked}
use Rattle.disk_index.proofs.RebuiltLemmas.{reads-length}
use Rattle.range_bounds.specs.declared.table.RangeTable.{RangeTable}
use Rattle.ranker.specs.First.{Advances, Counted, counted}
use Rattle.ranker.specs.Held.{IsHeld, is_open}
use Rattle.ranker.specs.Passed.{AreBare, IsAheadAt, IsBare, IsBareTo, IsPassed, IsPlace, behind, live_ids, nothing_known, part_at, passed}
use Rattle.ranker.specs.declared.held.Held.{Held}
use Rattle.ranker.specs.declared.held.Held.TheVariants.{Open, Ended}
use Rattle.ranker.specs.declared.place.Passed.{Passed}
use Rattle.ranker.specs.declared.place.Place.{Place}
use Rattle.ranker.proofs.PassedLemmas.{Advances-bare, ids-live}
use Rattle.ranker.proofs.PlaceLemmas.{Advances-place, IsPlace-behind}

-- ---- ids without a bit in a mask

lowest-clear : (n i : ℕ) → n < 2 ^ 64 → i < trailing_zeros w64 n → bit_at n i ≡ 0
lowest-clear zero i fits low = bit_at-zero i
lowest-clear (suc n) i fits low = (bit_at-trailing_zeros w64 (suc n) (omega arith) fits).2 i low

-- the bits of a mask from the place of an id on, up to the first that is set
pub run-clear : (mask id run i : ℕ) → mask < 2 ^ 64 → run ≡ min (trailing_zeros w64 (mask / 2 ^ (id % 64))) (64 - id % 64) → id ≤ i → i < id + run → bit_at mask (i % 64) ≡ 0
run-clear mask id run i fits is low high =
    let small : mask / 2 ^ (id % 64) ≤ mask = div-le_self mask (2 ^ (id % 64)) in
    let place : id % 64 + (i - id) ≡ i % 64 = omega (arith, is, low, high) in
    let clear = lowest-clear (mask / 2 ^ (id % 64)) (i - id) (omega (arith, small, fits)) (omega (arith, is, low, high)) in
    ap (bit_at mask) (sym place) ∙ sym (ap (λ n. n % 2) (shr-shr mask (id % 64) (i - id))) ∙ clear

-- ---- ids that aren't marked

-- where none is
pub none-marked : (marks : List Bool) (id : ℕ) → marked_count marks ≡ 0 → get_or marks id false ≡ false
none-marked [] zero none = refl
none-marked [] (suc id) none = refl
none-marked (true ∷ marks) id none = absurd (omega (arith, none))
none-marked (false ∷ marks) zero none = refl
none-marked (false ∷ marks) (suc id) none = none-marked marks id none

-- the live ones among ids of which none is marked
ids-run : (marks : List Bool) (id n : ℕ) → id + n ≤ length marks → ((i : ℕ) → id ≤ i → i < id + n → get_or marks i false ≡ false) → live_ids marks (id + n) ≡ live_ids marks id + n
ids-run marks id zero le h = let same : id + 0 ≡ id = omega arith in let all = ap (live_ids marks) same in omega (arith, all)
ids-run marks id (suc n) le h =
    let next : id + suc n ≡ (id + n) + 1 = omega arith in
    let there = ap (live_ids marks) next in
    let one = ids-live marks (id + n) (omega (arith, le)) (h (id + n) (omega arith) (omega arith)) in
    let rest = ids-run marks id n (omega (arith, le)) (λ i low high. h i low (omega (arith, high))) in
    omega (arith, there, one, rest)

-- a part with documents is one of the parts
part-some : (parts : List Marked) (part : ℕ) → 0 < size (part_at parts part).source → part < length parts
part-some [] zero some = absurd (omega (arith, some))
part-some [] (suc part) some = absurd (omega (arith, some))
part-some (m ∷ parts) zero some = omega arith
part-some (m ∷ parts) (suc part) some = let rest = part-some parts part some in omega (arith, rest)

-- ---- so many of them

-- the place behind so many documents of its part
abbrev pub place_on : Place → ℕ → Place
place_on at docs = record { part = at.part; id = at.id + docs; credit = at.credit + docs; ahead = at.ahead }

abbrev moved : Place → ℕ → ℕ → Place
moved at id credit = record { part = at.part; id = id; credit = credit; ahead = at.ahead }

module _ (parts : List Marked) (at : Place) (count : ℕ) (bare : AreBare (part_at parts at.part) at.ahead at.id count) where
  abbrev pub own : Marked
  own = part_at parts at.part

  abbrev to : ℕ → Passed
  to docs = record { id = at.id + docs; docs = docs; ahead = at.ahead }

  behind-on : (docs : ℕ) → behind at (to docs) docs ≡ place_on at docs
  behind-on docs = by (nat_lt docs docs) refl
    where
      by : (b : Bool) → nat_lt docs docs ≡ b
          → (if b then record { part = at.part + 1; id = 0; credit = at.credit + docs; ahead = nothing_known } else place_on at docs) ≡ place_on at docs
      by true e = absurd (grind (arith, nat_tests))
      by false e = refl

  module _ (docs : ℕ) (some : 0 < count) (few : docs ≤ count) where
    first : IsBare own at.ahead at.id
    first = bare at.id (omega arith) (omega (arith, some))

    last : IsBare own at.ahead (at.id + (docs - 1))
    last = bare (at.id + (docs - 1)) (omega arith) (omega (arith, some, few))

    inside : at.id + docs ≤ size own.source
    inside = let here = first.inside in let there = last.inside in omega (arith, here, there)

    there : at.part < length parts
    there = let here = first.inside in part-some parts at.part (omega (arith, here))

    is_passed : IsPassed own.marks at.id docs (to docs)
    is_passed = let whole = first.whole in record {
      inside = omega (arith, whole, inside);
      docs = ids-run own.marks at.id docs (omega (arith, whole, inside)) (λ i low high. (bare i low (omega (arith, high, few))).live);
      few = omega arith;
    }

    IsPlace-on : IsPlace parts at → IsPlace parts (place_on at docs)
    IsPlace-on place = subst (IsPlace parts) (behind-on docs) (IsPlace-behind parts at (to docs) docs own refl there first.whole is_passed (λ fewer. absurd (omega (arith, fewer))) place)

    module _ (kind : RuleKind) (priors : List Prior) (filters : List FilterTree) (network : NetworkTree) (tables : List RangeTable) (told : Option Files) (ahead : IsAheadAt kind priors filters network tables told parts at) where
      Advances-on : (rows : Counted) → Advances kind priors filters network (passed told parts at) (passed told parts (place_on at docs)) rows rows
      Advances-on rows =
          let whole = first.whole in
          let read = reads-length told own.source in
          subst (λ (p : Place). Advances kind priors filters network (passed told parts at) (passed told parts p) rows rows) (behind-on docs)
          (Advances-place parts at (to docs) docs kind priors filters network told rows rows own refl there (λ fewer. absurd (omega (arith, fewer)))
          (Advances-bare kind priors filters network (reads told own.source) own.marks rows at.id (at.id + docs) (omega arith) (omega (arith, inside, read)) (omega (arith, whole, read))
          (λ i low high. let b = bare i low (omega (arith, high, few)) in ahead.here.may.none i low b.known b.clear)))

      IsHeld-bare : (most : ℕ) (held : Held) → is_open held ≡ true → IsHeld kind priors filters network (passed told parts at) most held → IsHeld kind priors filters network (passed told parts (place_on at docs)) most held
      IsHeld-bare most (Open rows) is h = (Advances-on (counted rows 0 0)).step [] most h
      IsHeld-bare most (Ended hits) is h = absurd (false≢true is)

  -- they end where what is known does, or before
  pub bare-end : (docs : ℕ) → docs ≤ count → at.id ≤ at.ahead.end → at.id + docs ≤ at.ahead.end
  bare-end zero few back = omega (arith, back)
  bare-end (suc docs) few back = let b = last (suc docs) (omega (arith, few)) few in let known = b.known in omega (arith, known)

  -- ---- none of them, or so many

  place_on-none : place_on at 0 ≡ at
  place_on-none =
      let id : at.id + 0 ≡ at.id = omega arith in
      let credit : at.credit + 0 ≡ at.credit = omega arith in
      ap (λ i. moved at i (at.credit + 0)) id ∙ ap (λ n. moved at at.id n) credit

  pub IsPlace-few : (docs : ℕ) → docs ≤ count → IsPlace parts at → IsPlace parts (place_on at docs)
  IsPlace-few zero few place = subst (IsPlace parts) (sym place_on-none) place
  IsPlace-few (suc docs) few place = IsPlace-on (suc docs) (omega (arith, few)) few place

  module _ (kind : RuleKind) (priors : List Prior) (filters : List FilterTree) (network : NetworkTree) (tables : List RangeTable) (told : Option Files) (ahead : IsAheadAt kind priors filters network tables told parts at) where
    pub IsHeld-few : (docs most : ℕ) (held : Held) → docs ≤ count → is_open held ≡ true → IsHeld kind priors filters network (passed told parts at) most held
        → IsHeld kind priors filters network (passed told parts (place_on at docs)) most held
    IsHeld-few zero most held few is h = subst (λ (p : Place). IsHeld kind priors filters network (passed told parts p) most held) (sym place_on-none) h
    IsHeld-few (suc docs) most held few is h = IsHeld-bare (suc docs) (omega (arith, few)) few kind priors filters network tables told ahead most held is h

-- ---- up to a credit

pub IsBareTo-at : (parts : List Marked) (at : Place) (count all to : ℕ) → AreBare (part_at parts at.part) at.ahead at.id count → at.id + count < 2 ^ 32 → at.credit ≤ all → to ≡ min (at.credit + count + 1) all → IsBareTo parts at all to
IsBareTo-at parts at count all to bare ids few is = record {
  ids = omega (arith, ids, is);
  from = omega (arith, few, is);
  left = omega (arith, is);
  bare = λ docs lt i low high. bare i low (omega (arith, high, lt, is));
}

pub IsBareTo-on : (parts : List Marked) (at : Place) (all to docs : ℕ) → at.credit + docs < to → IsBareTo parts at all to → IsBareTo parts (place_on at docs) all to
IsBareTo-on parts at all to docs lt h = record {
  from = omega (arith, lt);
  left = h.left;
  ids = let fits = h.ids in omega (arith, fits);
  bare = λ more less i low high. h.bare (docs + more) (omega (arith, less)) i (omega (arith, low)) (omega (arith, high));
}
