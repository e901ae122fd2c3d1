-- What a step comes to for what a search holds.
use Rattle.std.proofs.Common.{◌≡◌, ◌≤◌, ◌+◌, ℕ, true, false, List, Option, Result, Ok, Err, IsErrAnd, refl, ap, arith}
use Rattle.store_ends.specs.Files.{Files}
use Rattle.disk_index.specs.Snapshots.{Marked, live}
use Rattle.ranker.specs.First.{KeptEntries}
use Rattle.ranker.specs.Going.{IsAheadBy, IsHeldBy, PassesAt, TakesAt, Tally, found_by, tally}
use Rattle.ranker.specs.Held.{is_open}
use Rattle.ranker.specs.Passed.{IsPlace, passed}
use Rattle.ranker.specs.Squares.{late_cost, spent}
use Rattle.ranker.specs.Unbeaten.{Holds, Sought, early_at, early_in}
use Rattle.ranker.specs.declared.held.Held.{Held}
use Rattle.ranker.specs.declared.held.Held.TheVariants.{Open}
use Rattle.ranker.specs.declared.place.Place.{Place}
use Rattle.ranker.proofs.AskedLemmas.{asked-le}
use Rattle.ranker.proofs.HeldLemmas.{IsHeld-first, IsHeld-on}
use Rattle.ranker.proofs.OpeningLemmas.{opens-same}
use Rattle.ranker.proofs.SquaresLemmas.{squares_end, squares_ended, squares_met, squares_on, squares_whole}
use Rattle.ranker.proofs.WorkLemmas.{early-all, met-all}

-- where all documents were passed before
pub TakesAt-ended : {R E : Type 0} (s : Sought) (terms : ℕ) (told : Option Files) (parts : List Marked) (at : Place) (held : Held) (was : Tally) (x : R) → is_open held ≡ false → IsPlace parts at → passed told parts at ≡ live told parts → IsAheadBy s told parts at
    → IsHeldBy s (passed told parts at) held → TakesAt {E = E} s terms told parts at at held held was was (Ok x)
TakesAt-ended s terms told parts at held was x shut place all ahead h =
    let early = early-all s told parts at place in
    let asked = asked-le told parts at ahead.here.span in
    record {
      taken = h;
      known = ahead;
      squares = omega arith;
      within = squares_ended s.network s.most (is_open held) (early_at s told parts at) (early_in s told parts) (found_by s (passed told parts at)) (found_by s (live told parts)) was.squares shut (omega (arith, early, asked)) (ap (found_by s) all);
      met = opens-same terms _ _ was.blocks (omega arith);
      meets = opens-same terms _ _ was.blocks (met-all s told parts at was.range place);
    }

module _ (s : Sought) (terms : ℕ) (told : Option Files) (parts : List Marked) (at to : Place) (held : Held) (kept next : KeptEntries) (was now : Tally) (is : held ≡ Open kept) (h : IsHeldBy s (passed told parts at) held) where
  first : Holds s (passed told parts at) kept
  first = IsHeld-first s.kind s.priors s.filters s.network (passed told parts at) s.most held kept is h

  on : (Holds s (passed told parts at) kept → Holds s (passed told parts to) next) → IsHeldBy s (passed told parts to) (Open next)
  on step = IsHeld-on s.kind s.priors s.filters s.network (passed told parts at) (passed told parts to) s.most held kept next is step h

  -- the documents aren't passed
  pub TakesAt-failed : {R U E V : Type 0} (Q : E → Type 0) (later : Held) (inner : Result U V) (result : Result R E) → IsErrAnd result Q → PassesAt s terms told parts at to kept next was now inner → TakesAt s terms told parts at to held later was now result
  TakesAt-failed Q later inner (Ok x) failed passes = absurd failed
  TakesAt-failed Q later inner (Err e) failed passes =
      let spends = passes.within first in
      record {
        taken = tt;
        known = tt;
        squares = tt;
        within = squares_whole s.network s.most (is_open held) (early_at s told parts at) (early_in s told parts) (found_by s (passed told parts at)) (found_by s (live told parts)) was.squares now.squares (ap is_open is) spends.squares;
        met = tt;
        meets = spends.blocks;
      }

  -- some are left behind them
  pub TakesAt-on : {R U E V : Type 0} (x : R) {y : U} → PassesAt {E = V} s terms told parts at to kept next was now (Ok y) → TakesAt {E = E} s terms told parts at to held (Open next) was now (Ok x)
  TakesAt-on x passes =
      let spends = passes.first.spends first in
      let whole = passes.within first in
      record {
        taken = on passes.first.step;
        known = passes.known;
        squares = squares_on s.network s.most (is_open held) true (early_at s told parts at) (early_at s told parts to) (found_by s (passed told parts at)) (found_by s (passed told parts to)) was.squares now.squares (ap is_open is) refl spends.squares;
        within = squares_whole s.network s.most (is_open held) (early_at s told parts at) (early_in s told parts) (found_by s (passed told parts at)) (found_by s (live told parts)) was.squares now.squares (ap is_open is) whole.squares;
        met = spends.blocks;
        meets = whole.blocks;
      }

  -- none is left, and the first of the candidates are to become the results
  module _ (squares : ℕ) (all : passed told parts to ≡ live told parts) (cost : IsHeldBy s (passed told parts to) (Open next) → squares ≤ now.squares + late_cost s.network s.most (found_by s (passed told parts to))) where
    within : {U V : Type 0} (y : U) → PassesAt {E = V} s terms told parts at to kept next was now (Ok y) → squares + spent s.network s.most (is_open held) (early_at s told parts at) (found_by s (passed told parts at))
        ≤ was.squares + spent s.network s.most false (early_in s told parts) (found_by s (live told parts))
    within y passes =
        let whole = passes.within first in
        squares_met s.network s.most (is_open held) (early_at s told parts at) (early_in s told parts) (found_by s (passed told parts at)) (found_by s (passed told parts to)) (found_by s (live told parts)) was.squares now.squares squares (ap is_open is) (ap (found_by s) all) whole.squares
        (cost (on passes.first.step))

    -- they don't
    pub TakesAt-broken : {R U E V : Type 0} (y : U) (Q : E → Type 0) (later : Held) (result : Result R E) → IsErrAnd result Q → PassesAt {E = V} s terms told parts at to kept next was now (Ok y)
        → TakesAt s terms told parts at to held later was (tally now.range squares now.blocks) result
    TakesAt-broken y Q later (Ok x) failed passes = absurd failed
    TakesAt-broken y Q later (Err e) failed passes =
        let whole = passes.within first in
        record { taken = tt; known = tt; squares = tt; within = within y passes; met = tt; meets = whole.blocks }

    -- they do
    pub TakesAt-end : {R U E V : Type 0} {x : R} (y : U) (later : Held) → is_open later ≡ false → (IsHeldBy s (passed told parts to) (Open next) → IsHeldBy s (passed told parts to) later) → PassesAt {E = V} s terms told parts at to kept next was now (Ok y)
        → TakesAt {E = E} s terms told parts at to held later was (tally now.range squares now.blocks) (Ok x)
    TakesAt-end y later ended results passes =
        let spends = passes.first.spends first in
        let whole = passes.within first in
        record {
          taken = results (on passes.first.step);
          known = passes.known;
          squares = squares_end s.network s.most (is_open held) (is_open later) (early_at s told parts at) (early_at s told parts to) (found_by s (passed told parts at)) (found_by s (passed told parts to)) was.squares now.squares squares (ap is_open is) ended spends.squares
              (cost (on passes.first.step));
          within = within y passes;
          met = spends.blocks;
          meets = whole.blocks;
        }
