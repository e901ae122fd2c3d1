-- What a search holds of the documents that it passed.
use Rattle.std.specs.Prelude.{◌≡◌, ℕ, Bool, true, false, List}
use Rattle.ri_base.specs.Documents.{Document}
use Rattle.ri_base.specs.Query.{FilterTree}
use Rattle.smoothing.specs.declared.rule.RuleKind.{RuleKind}
use Rattle.belief_nodes.specs.Network.{NetworkTree}
use Rattle.belief_nodes.specs.Priors.{Prior}
use Rattle.ranker.specs.First.{AreEntries, HoldsFirst, KeptEntries}
use Rattle.ranker.specs.Ranking.{IsAnswerBy}
use Rattle.ranker.specs.declared.held.Held.{Held}
use Rattle.ranker.specs.declared.held.Held.TheVariants.{Open, Ended}

-- whether documents may be left
abbrev pub is_open : Held → Bool
is_open (Open kept) = true
is_open (Ended hits) = false

-- the first candidates of these documents, or the answer over them
abbrev pub IsHeld : RuleKind → List Prior → List FilterTree → NetworkTree → List Document → ℕ → Held → Type 0
IsHeld kind priors filters network docs most (Open kept) = HoldsFirst kind priors filters network docs most kept
IsHeld kind priors filters network docs most (Ended hits) = IsAnswerBy kind priors filters network docs most hits

-- as long as documents may be left, entries of the network are held
abbrev pub HoldsEntries : NetworkTree → Held → Type 0
HoldsEntries network held = (kept : KeptEntries) → held ≡ Open kept → AreEntries network kept
