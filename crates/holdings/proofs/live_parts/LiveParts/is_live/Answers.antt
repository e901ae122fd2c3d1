use Rattle.std.proofs.Common.{◌∙◌, ap}
use Rattle.holdings.specs.Parts.{Parts, is_live}
use Rattle.holdings.proofs.KeptLemmas.{live-from_lookup}
use Rattle.holdings.proofs.live_parts.LiveParts.is_live.Goals as goal

pub returns : goal.returns
returns c =
    c.contains_key.ensures ∙ live-from_lookup _ _ _ c.self.invariant c.args.docno.now ∙ ap (λ (p : Parts). is_live p c.args.docno.now) c.self.view_is
