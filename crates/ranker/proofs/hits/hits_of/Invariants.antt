use Rattle.std.proofs.Common.{◌≡◌, ◌++◌, List, length, map}
use Rattle.std.specs.Prelude.{reverse}
use Rattle.bounded_keys.specs.declared.entry.Settled.{Settled}
use Rattle.ri_base.specs.declared.hit.Hit.{Hit}
use Rattle.ranker.specs.First.{settled_candidate}
use Rattle.ranker.specs.Ranking.{candidate_of}
use Rattle.ranker.specs.declared.window.Window.{Window}
use Rattle.ranker.proofs.hits.hits_of.Given as goal

abbrev pub invariant-loop-settled : goal.invariant-loop-settled
invariant-loop-settled l = record {
  made : (made : List (Settled Window)) × (l.fn.first.items ≡ made ++ reverse l.first.items)
      × (map candidate_of l.hits.items ≡ map settled_candidate made)
      × (map (λ (h : Hit). h.key) l.hits.items ≡ map (λ (x : Settled Window). x.key) made);
}

abbrev pub decreases-loop-settled : goal.decreases-loop-settled
decreases-loop-settled l = length l.first.items
