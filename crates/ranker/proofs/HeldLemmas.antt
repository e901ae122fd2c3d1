-- What a search holds: while it goes on, and at its end.
use Rattle.std.proofs.Common.{◌≡◌, ◌≤◌, ℕ, nat_lt, false, List, map, length, sym, ap, subst, ◌∙◌, arith}
use Rattle.std.specs.List.{All}
use Rattle.std.proofs.lemmas.Bool.{false≢true}
use Rattle.std.proofs.lemmas.Bool.Decides.{nat_tests}
use Rattle.ri_base.specs.Documents.{Document}
use Rattle.ri_base.specs.Query.{FilterTree}
use Rattle.ri_base.specs.declared.hit.Hit.{Hit}
use Rattle.smoothing.specs.declared.rule.RuleKind.{RuleKind}
use Rattle.belief_nodes.specs.Network.{NetworkTree}
use Rattle.belief_nodes.specs.Priors.{Prior}
use Rattle.first_few.specs.First.{IsFront}
use Rattle.bounded_keys.specs.Entries.{IsEarly, by_key, settled}
use Rattle.bounded_keys.specs.declared.entry.Entry.{Entry}
use Rattle.bounded_keys.specs.declared.entry.Settled.{Settled}
use Rattle.ranker.specs.First.{AreEntries, HoldsFirst, KeptEntries, WereOffered, key_by, settled_candidate, window_order}
use Rattle.ranker.specs.Held.{HoldsEntries, IsHeld, is_open}
use Rattle.ranker.specs.Ranking.{IsAnswerBy, candidate_of}
use Rattle.ranker.specs.Windows.{KeepsWindows}
use Rattle.ranker.specs.declared.held.Held.{Held}
use Rattle.ranker.specs.declared.held.Held.TheVariants.{Open, Ended}
use Rattle.ranker.specs.declared.window.Window.{Window}
use Rattle.ranker.proofs.RankingLemmas.{IsAnswerBy-front}

module _ (kind : RuleKind) (priors : List Prior) (filters : List FilterTree) (network : NetworkTree) where
  -- the first candidates in order are the results
  pub IsHeld-ended : (docs : List Document) (most : ℕ) (was : Held) (kept : KeptEntries) (front : List (Settled Window)) (hits : List Hit) → was ≡ Open kept
      → map candidate_of hits ≡ map settled_candidate front → map (λ (h : Hit). h.key) hits ≡ map (λ (x : Settled Window). x.key) front
      → ((all : List (Entry Window)) → WereOffered all kept → All (IsEarly (key_by network) (length network.leaves)) all → IsFront (by_key window_order) kept.most (map (settled (key_by network)) all) front)
      → IsHeld kind priors filters network docs most was → IsHeld kind priors filters network docs most (Ended hits)
  IsHeld-ended docs most was kept front hits is told keys shown h =
      let open_held : HoldsFirst kind priors filters network docs most kept = subst (λ (x : Held). IsHeld kind priors filters network docs most x) is h in
      IsAnswerBy-front kind priors filters network docs most kept front hits told keys open_held shown

  -- documents behind those that were passed
  pub IsHeld-on : (old new : List Document) (most : ℕ) (was : Held) (kept next : KeptEntries) → was ≡ Open kept → (HoldsFirst kind priors filters network old most kept → HoldsFirst kind priors filters network new most next)
      → IsHeld kind priors filters network old most was → IsHeld kind priors filters network new most (Open next)
  IsHeld-on old new most was kept next is on h = on (subst (λ (x : Held). IsHeld kind priors filters network old most x) is h)

  -- what is held while it goes on
  pub IsHeld-first : (docs : List Document) (most : ℕ) (was : Held) (kept : KeptEntries) → was ≡ Open kept → IsHeld kind priors filters network docs most was → HoldsFirst kind priors filters network docs most kept
  IsHeld-first docs most was kept is h = subst (λ (x : Held). IsHeld kind priors filters network docs most x) is h

  -- where all documents are passed, what is held are the results
  pub IsHeld-answer : (docs all : List Document) (most : ℕ) (held : Held) (hits : List Hit) → held ≡ Ended hits → docs ≡ all → IsHeld kind priors filters network docs most held → IsAnswerBy kind priors filters network all most hits
  IsHeld-answer docs all most held hits is same h =
      subst (λ (ds : List Document). IsAnswerBy kind priors filters network ds most hits) same (subst (λ (x : Held). IsHeld kind priors filters network docs most x) is h)

-- it has ended where as many documents are passed as there are
pub ended-credit : (held : Held) (hits : List Hit) (credit live : ℕ) → held ≡ Ended hits → is_open held ≡ nat_lt credit live → credit ≤ live → credit ≡ live
ended-credit held hits credit live is open_where few =
    let shut : nat_lt credit live ≡ false = sym open_where ∙ ap is_open is in
    let past : live ≤ credit = grind (arith, nat_tests) in
    omega (arith, past, few)

-- ---- entries are held

kept_of : KeptEntries → Held → KeptEntries
kept_of other (Open kept) = kept
kept_of other (Ended hits) = other

pub HoldsEntries-open : (network : NetworkTree) (kept : KeptEntries) → AreEntries network kept → HoldsEntries network (Open kept)
unfolding kept_of
HoldsEntries-open network kept h = λ other same. subst (AreEntries network) (ap (kept_of kept) same) h

pub HoldsEntries-ended : (network : NetworkTree) (hits : List Hit) → HoldsEntries network (Ended hits)
HoldsEntries-ended network hits = λ other same. absurd (false≢true (ap is_open same))

pub HoldsEntries-shut : (network : NetworkTree) (held : Held) → is_open held ≡ false → HoldsEntries network held
HoldsEntries-shut network held shut = λ other same. absurd (false≢true (sym shut ∙ ap is_open same))

pub HoldsEntries-on : (network : NetworkTree) (own : List Document) (was : Held) (kept next : KeptEntries) → was ≡ Open kept → KeepsWindows network own kept next → HoldsEntries network was → HoldsEntries network (Open next)
HoldsEntries-on network own was kept next is keeps h = HoldsEntries-open network next (keeps.entries (h kept is))
