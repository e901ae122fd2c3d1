-- Documents of a range whose mask is read.
use Rattle.std.proofs.Common.{◌≡◌, ◌≤◌, ℕ, List, Bool, true, false, IfOk, IsErrAnd, Result, Ok, Err, length, take, subst, arith}
use Rattle.ri_base.specs.Documents.{Document}
use Rattle.ri_base.specs.Query.{FilterTree}
use Rattle.smoothing.specs.declared.rule.RuleKind.{RuleKind}
use Rattle.belief_nodes.specs.Network.{NetworkTree}
use Rattle.belief_nodes.specs.Priors.{Prior}
use Rattle.disk_index.specs.Snapshots.{unmarked}
use Rattle.ranker.specs.First.{Advances, KeptEntries, SpendsWithin, counted}
use Rattle.ranker.specs.Going.{IsKnownIn, ScoresIn}
use Rattle.ranker.specs.Passed.{IsAhead, IsPassed, asked_of, is_clear, live_ranges, ranges_of}
use Rattle.ranker.specs.Unbeaten.{Sought, Stretch}
use Rattle.ranker.specs.declared.place.Ahead.{Ahead}
use Rattle.ranker.specs.declared.place.Passed.{Passed}
use Rattle.ranker.proofs.AheadLemmas.{IsKnown-masked, IsKnown-on, IsKnown-opened, bare}
use Rattle.ranker.proofs.AskedLemmas.{asked-all, asked-opened, asks-same}
use Rattle.ranker.proofs.PassedLemmas.{Advances-asks, Advances-bare}
use Rattle.ranker.proofs.WithinLemmas.{cost-to, within-asks, within-same}

pub Advances-opened : {E : Type 0} (kind : RuleKind) (priors : List Prior) (filters : List FilterTree) (network : NetworkTree) (docs : List Document) (marks : List Bool) (id : ℕ) (ahead now : Ahead) (passed : Result Passed E)
    (kept next : KeptEntries) (a b : ℕ) → now.end ≡ ahead.end → now.bound ≡ ahead.bound → IfOk passed (λ to. id ≤ to.id) → IfOk passed (λ to. to.ahead ≡ now)
    → IfOk passed (λ to. Advances kind priors filters network (unmarked (take id docs) marks) (unmarked (take to.id docs) marks) (counted kept a 0) (counted next b 0))
    → IfOk passed (λ to. Advances kind priors filters network (unmarked (take id docs) marks) (unmarked (take to.id docs) marks) (counted kept a (asked_of marks id ahead)) (counted next b (asked_of marks to.id to.ahead)))
Advances-opened kind priors filters network docs marks id ahead now (Ok to) kept next a b end bound back same h =
    Advances-asks kind priors filters network (unmarked (take id docs) marks) (unmarked (take to.id docs) marks) kept next a a b (asked_of marks id ahead) (asked_of marks id ahead) (asked_of marks to.id to.ahead)
    (asks-same network (asked_of marks id ahead) (asked_of marks id ahead) a (omega arith)) (asked-opened marks id to.id ahead now to.ahead back end bound same) h
Advances-opened kind priors filters network docs marks id ahead now (Err e) kept next a b end bound back same h = tt

-- ---- from an id on, of which so much is known

-- no more squarings than those of candidates up to the end of what is known, and of all bounds
abbrev Within : Sought → Stretch → ℕ → Ahead → ℕ → ℕ → Type 0
Within s m id ahead a b = SpendsWithin s.kind s.priors s.filters s.network (unmarked (take id m.docs) m.marks) (unmarked (take ahead.end m.docs) m.marks) (asked_of m.marks id ahead) (live_ranges m.marks (ranges_of (length m.docs))) a b

module _ (s : Sought) (m : Stretch) (id : ℕ) (ahead : Ahead) (known : IsKnownIn s m id ahead) where
  -- by the candidates alone
  within-looked : (a b : ℕ) → SpendsWithin s.kind s.priors s.filters s.network (unmarked (take id m.docs) m.marks) (unmarked (take ahead.end m.docs) m.marks) 0 0 a b → Within s m id ahead a b
  within-looked a b spends =
      within-asks s.kind s.priors s.filters s.network (unmarked (take id m.docs) m.marks) (unmarked (take ahead.end m.docs) m.marks) (asked_of m.marks id ahead) (asked_of m.marks id ahead) (live_ranges m.marks (ranges_of (length m.docs))) a a b
      (asks-same s.network (asked_of m.marks id ahead) (asked_of m.marks id ahead) a (omega arith)) (asked-all m.marks (length m.docs) id ahead known.span) spends

  within-none : (a : ℕ) → Within s m id ahead a a
  within-none a =
      within-looked a a (within-same s.kind s.priors s.filters s.network (unmarked (take id m.docs) m.marks) (unmarked (take ahead.end m.docs) m.marks) a (cost-to s.kind s.priors s.filters s.network m.docs m.marks id ahead.end known.span.back))

  -- where it can't be told which may have something to show
  pub ScoresIn-none : {E : Type 0} (Q : E → Type 0) (kept : KeptEntries) (a : ℕ) (result : Result Passed E) → IsErrAnd result Q → ScoresIn s m id ahead kept kept a a result
  ScoresIn-none Q kept a (Ok to) failed = absurd failed
  ScoresIn-none Q kept a (Err e) failed = record { first = tt; known = tt; within = within-none a }

  module _ (open_to : Ahead) (end : open_to.end ≡ ahead.end) (bound : open_to.bound ≡ ahead.bound) (read : is_clear ahead.mask ≡ false) (may : IsAhead s.filters s.network.leaves m.docs id open_to) where
    opened : IsKnownIn s m id open_to
    opened = IsKnown-opened s.kind s.priors s.filters s.network s.tables m.number m.docs id ahead open_to end bound read may known

    -- where none may have something to show
    pub ScoresIn-clear : {E : Type 0} (kept : KeptEntries) (a most : ℕ) (to : Passed) → is_clear open_to.mask ≡ true → length m.marks ≡ length m.docs → IsPassed m.marks id most to → to.id ≤ open_to.end → id ≤ to.id → to.ahead ≡ open_to
        → ScoresIn {E = E} s m id ahead kept kept a a (Ok to)
    ScoresIn-clear kept a most to clear whole passed within back same =
        let inside = passed.inside in
        record {
          first = Advances-asks s.kind s.priors s.filters s.network (unmarked (take id m.docs) m.marks) (unmarked (take to.id m.docs) m.marks) kept kept a a a (asked_of m.marks id ahead) (asked_of m.marks id ahead) (asked_of m.marks to.id to.ahead)
              (asks-same s.network (asked_of m.marks id ahead) (asked_of m.marks id ahead) a (omega arith)) (asked-opened m.marks id to.id ahead open_to to.ahead back end bound same)
              (Advances-bare s.kind s.priors s.filters s.network m.docs m.marks (counted kept a 0) id to.id back (omega (arith, inside, whole)) whole
              (λ i low high. bare s.filters s.network.leaves m.docs id open_to clear may i low (omega (arith, high, within))));
          known = IsKnown-on s.kind s.priors s.filters s.network s.tables m.number m.docs id to.id open_to to.ahead back within same opened;
          within = within-none a;
        }

    -- where those are looked at that may
    pub ScoresIn-looked : {E : Type 0} (kept next : KeptEntries) (a b : ℕ) (result : Result Passed E) → IfOk result (λ to. id ≤ to.id) → IfOk result (λ to. to.id ≤ open_to.end) → IfOk result (λ to. to.ahead ≡ open_to)
        → IfOk result (λ to. Advances s.kind s.priors s.filters s.network (unmarked (take id m.docs) m.marks) (unmarked (take to.id m.docs) m.marks) (counted kept a 0) (counted next b 0))
        → SpendsWithin s.kind s.priors s.filters s.network (unmarked (take id m.docs) m.marks) (unmarked (take open_to.end m.docs) m.marks) 0 0 a b → ScoresIn s m id ahead kept next a b result
    ScoresIn-looked kept next a b result back within same first spends = record {
      first = Advances-opened s.kind s.priors s.filters s.network m.docs m.marks id ahead open_to result kept next a b end bound back same first;
      known = IsKnown-masked s.kind s.priors s.filters s.network s.tables m.number m.docs id open_to result back within same opened;
      within = within-looked a b (subst (λ e. SpendsWithin s.kind s.priors s.filters s.network (unmarked (take id m.docs) m.marks) (unmarked (take e m.docs) m.marks) 0 0 a b) end spends);
    }

-- by what was read before
pub ScoresIn-read : {E : Type 0} (s : Sought) (m : List Document → Stretch) (read docs : List Document) → read ≡ docs → (id : ℕ) (ahead : Ahead) (kept next : KeptEntries) (a b : ℕ) (result : Result Passed E) → ScoresIn s (m read) id ahead kept next a b result
    → ScoresIn s (m docs) id ahead kept next a b result
ScoresIn-read s m read docs same id ahead kept next a b result h = subst (λ (ds : List Document). ScoresIn s (m ds) id ahead kept next a b result) same h
