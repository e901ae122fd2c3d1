use Rattle.std.proofs.Common.{◌∙◌, sym, subst}
use Rattle.merge_job.specs.Closed.{AreClosed}
use Rattle.merge_job.proofs.ClosedLemmas.{AreClosed-end, AreClosed-none}
use Rattle.merge_job.proofs.copied.Copied.close.Goals as goal

pub returns-then-len-eq0 : goal.returns-then-len-eq0
returns-then-len-eq0 c =
    subst (λ v. AreClosed v c.self.inside.parts.items) c.self.view_is
    (AreClosed-none c.self.inside.most c.self.inside.parts.items c.self.inside.filling.documents c.self.invariant.1 c.self.invariant.2 (sym c.len.ensures.exact ∙ c.if-len-eq0.true))

pub returns-in-Ok : goal.returns-in-Ok
returns-in-Ok c =
    subst (λ v. AreClosed v c.end.new.parts.items) c.self.view_is
    (AreClosed-end c.self.inside.most c.self.inside.parts.items c.end.new.parts.items c.self.inside.filling.documents c.self.invariant.1 c.self.invariant.2 (λ e. c.if-len-eq0.false (c.len.ensures.exact ∙ e)) c.in-Ok.ensures.closed)
