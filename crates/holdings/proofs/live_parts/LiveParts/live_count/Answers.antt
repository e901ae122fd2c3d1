use Rattle.std.proofs.Common.{subst}
use Rattle.std.specs.List.{IsDistinct}
use Rattle.std.specs.Str.{bytes_eq}
use Rattle.holdings.specs.MarkedParts.{docnos_of}
use Rattle.holdings.specs.Parts.{Parts, all_parts}
use Rattle.holdings.proofs.KeptLemmas.{kept-distinct}
use Rattle.holdings.proofs.live_parts.LiveParts.live_count.Goals as goal

pub returns-clause-distinct : goal.returns-clause-distinct
returns-clause-distinct c = subst (λ (p : Parts). IsDistinct bytes_eq (docnos_of (all_parts p))) c.self.view_is (kept-distinct _ _ _ c.self.invariant)
