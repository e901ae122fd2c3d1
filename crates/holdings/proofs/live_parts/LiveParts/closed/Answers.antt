use Rattle.std.proofs.Common.{subst}
use Rattle.std.specs.List.{All, IsDistinct}
use Rattle.std.specs.Str.{bytes_eq}
use Rattle.holdings.specs.MarkedParts.{IsWhole, docnos_of, filled}
use Rattle.holdings.specs.Parts.{Parts}
use Rattle.holdings.proofs.KeptLemmas.{All-front, CanWrite, front-distinct, kept-distinct}
use Rattle.holdings.proofs.live_parts.LiveParts.closed.Goals as goal

pub returns-clause-whole : goal.returns-clause-whole
returns-clause-whole c =
    subst (λ (p : Parts). All IsWhole p.closed) c.self.view_is (All-front IsWhole c.self.inside.closed.items (filled c.self.inside.filling.documents c.self.inside.marks) c.self.invariant.whole)

pub returns-clause-writable : goal.returns-clause-writable
returns-clause-writable c =
    subst (λ (p : Parts). All CanWrite p.closed) c.self.view_is (All-front CanWrite c.self.inside.closed.items (filled c.self.inside.filling.documents c.self.inside.marks) c.self.invariant.writable)

pub returns-clause-distinct : goal.returns-clause-distinct
returns-clause-distinct c =
    subst (λ (p : Parts). IsDistinct bytes_eq (docnos_of p.closed)) c.self.view_is
    (front-distinct c.self.inside.closed.items (filled c.self.inside.filling.documents c.self.inside.marks) (kept-distinct _ _ _ c.self.invariant))
