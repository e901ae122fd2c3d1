-- How many squarings a search spends.
use Rattle.std.proofs.Common.{◌≡◌, ◌≤◌, ℕ, ◌+◌, ◌-◌, ◌*◌, if◌then◌else◌, Bool, true, false, List, [], ◌∷◌, length, map, refl, ap, subst, ◌∙◌, arith}
use Rattle.log_chain.specs.Progress.{Progress}
use Rattle.log_chain.specs.declared.chain.TheConstants.{FIRST, LAST}
use Rattle.ri_base.specs.Documents.{Document}
use Rattle.ri_base.specs.Query.{FilterTree}
use Rattle.ri_base.specs.Ratio.{Ratio, ratio_of}
use Rattle.ri_base.specs.declared.fraction.Fraction.{Fraction}
use Rattle.smoothing.specs.declared.rule.RuleKind.{RuleKind}
use Rattle.belief_nodes.specs.Network.{NetworkTree}
use Rattle.belief_nodes.specs.Priors.{Prior}
use Rattle.document_scoring.specs.Candidates.{Candidate, candidates}
use Rattle.document_scoring.specs.Rows.{row_candidate}
use Rattle.document_scoring.specs.declared.scoring.Row.{Row}
use Rattle.bounded_keys.specs.Digits.{early}
use Rattle.bounded_keys.specs.Entries.{in_question}
use Rattle.bounded_keys.specs.declared.entry.Entry.{Entry}
use Rattle.bounded_keys.proofs.Levels.{early_digits}
use Rattle.ranker.specs.First.{AreEntries, AsksWithin, HoldsFirst, KeptEntries, WereOffered, early_cost, early_of, key_by, window_of}
use Rattle.ranker.specs.Held.{IsHeld}
use Rattle.ranker.specs.Squares.{entry_by, late_cost, spent}
use Rattle.ranker.specs.declared.held.Held.{Held}
use Rattle.ranker.specs.declared.held.Held.TheVariants.{Open}
use Rattle.ranker.specs.declared.window.Window.{Window}
use Rattle.ranker.proofs.PassedLemmas.{cost-more}

-- ---- entries of candidates

abbrev at_first : Ratio → Progress
at_first r = record { p = r.p; q = r.q; level = FIRST }

early_ratios : (fractions : List Fraction) → early fractions ≡ map at_first (map ratio_of fractions)
early_ratios [] = refl
early_ratios (f ∷ fs) = ap (λ (ls : List Progress). at_first (ratio_of f) ∷ ls) (early_ratios fs)

module _ (network : NetworkTree) where
  early_by : (r : Row) → early_of network r ≡ entry_by network (row_candidate r)
  early_by r =
      let leading = ap (key_by network) (early_digits r.fractions) in
      let leaves = early_ratios r.fractions in
      λ i. record { leading = leading i; window = window_of r; leaves = leaves i }

  pub rows_by : (rows : List Row) → map (early_of network) rows ≡ map (entry_by network) (map row_candidate rows)
  rows_by [] = refl
  rows_by (r ∷ rows) = λ i. early_by r i ∷ rows_by rows i

  -- ---- the end of a search

  -- the late squarings of what was offered are those of the candidates
  pub late_spent : (kind : RuleKind) (priors : List Prior) (filters : List FilterTree) (docs : List Document) (most : ℕ) (was : Held) (kept : KeptEntries) (before after : ℕ) → was ≡ Open kept → AreEntries network kept
      → ((all : List (Entry Window)) → WereOffered all kept → after ≤ before + (LAST - FIRST) * length network.leaves * length (in_question kept.scale kept.most all))
      → IsHeld kind priors filters network docs most was → after ≤ before + late_cost network most (candidates kind priors filters network docs)
  late_spent kind priors filters docs most was kept before after is entries cost h =
      let held : HoldsFirst kind priors filters network docs most kept = subst (λ (x : Held). IsHeld kind priors filters network docs most x) is h in
      let cs : List Candidate = candidates kind priors filters network docs in
      let taken : after ≤ before + (LAST - FIRST) * length network.leaves * length (in_question kept.scale kept.most (map (early_of network) held.rows)) = cost (map (early_of network) held.rows) held.offered in
      let named : map (early_of network) held.rows ≡ map (entry_by network) cs = rows_by held.rows ∙ ap (map (entry_by network)) held.all in
      subst (λ n. after ≤ before + (LAST - FIRST) * length network.leaves * length (in_question n most (map (entry_by network) cs))) entries.scaled
      (subst (λ n. after ≤ before + (LAST - FIRST) * length network.leaves * length (in_question kept.scale n (map (entry_by network) cs))) held.room
      (subst (λ (xs : List (Entry Window)). after ≤ before + (LAST - FIRST) * length network.leaves * length (in_question kept.scale kept.most xs)) named taken))

  -- ---- steps

  module _ (most : ℕ) where
    spent_open : (more : Bool) (p : ℕ) (cs : List Candidate) → more ≡ true → spent network most more p cs ≡ early_cost network p
    spent_open more p cs is =
        let e : spent network most more p cs ≡ early_cost network p + 0 = ap (λ (b : Bool). early_cost network p + (if b then 0 else late_cost network most cs)) is in
        omega (arith, e)

    spent_ended : (more : Bool) (p : ℕ) (cs : List Candidate) → more ≡ false → spent network most more p cs ≡ early_cost network p + late_cost network most cs
    spent_ended more p cs is = ap (λ (b : Bool). early_cost network p + (if b then 0 else late_cost network most cs)) is

    -- as long as some documents are left
    pub squares_on : (was now : Bool) (p q : ℕ) (old new : List Candidate) (a b : ℕ) → was ≡ true → now ≡ true → AsksWithin network p q a b → b + spent network most was p old ≤ a + spent network most now q new
    squares_on was now p q old new a b more still le = let x = spent_open was p old more in let y = spent_open now q new still in omega (arith, x, y, le)

    -- where none is left
    pub squares_end : (was now : Bool) (p q : ℕ) (old new : List Candidate) (a b d : ℕ) → was ≡ true → now ≡ false → AsksWithin network p q a b → d ≤ b + late_cost network most new
        → d + spent network most was p old ≤ a + spent network most now q new
    squares_end was now p q old new a b d more ended le late = let x = spent_open was p old more in let y = spent_ended now q new ended in omega (arith, x, y, le, late)

    -- by all that comes
    pub squares_whole : (was : Bool) (p q : ℕ) (old all : List Candidate) (a b : ℕ) → was ≡ true → AsksWithin network p q a b → b + spent network most was p old ≤ a + spent network most false q all
    squares_whole was p q old all a b more le =
        let x = spent_open was p old more in
        let y = spent_ended false q all refl in
        omega (arith, x, y, le)

    -- where all candidates were met
    pub squares_met : (was : Bool) (p q : ℕ) (old met all : List Candidate) (a b d : ℕ) → was ≡ true → met ≡ all → AsksWithin network p q a b → d ≤ b + late_cost network most met
        → d + spent network most was p old ≤ a + spent network most false q all
    squares_met was p q old met all a b d more same le late =
        let whole = squares_end was false p q old met a b d more refl le late in
        subst (λ (cs : List Candidate). d + spent network most was p old ≤ a + spent network most false q cs) same whole

    -- where it has ended before
    pub squares_ended : (was : Bool) (p r : ℕ) (old all : List Candidate) (a : ℕ) → was ≡ false → p ≤ r → old ≡ all → a + spent network most was p old ≤ a + spent network most false r all
    squares_ended was p r old all a ended asked same =
        let e : spent network most was p old ≡ spent network most false p all = ap (λ (b : Bool). spent network most b p old) ended ∙ ap (spent network most false p) same in
        let z = cost-more network p r asked in
        omega (arith, e, z)
