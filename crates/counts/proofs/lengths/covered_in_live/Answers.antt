use Rattle.std.proofs.Common.{◌≡◌, false, get_or, Some, subst, sym, ◌∙◌}
use Rattle.ri_base.specs.Collection.{document_at}
use Rattle.disk_index.specs.Parts.{Source, reads}
use Rattle.counts.specs.Sums.{counted_tokens}
use Rattle.counts.proofs.SumsLemmas.{dead_none, live_all}
use Rattle.counts.proofs.lengths.covered_in_live.Goals as goal

pub returns-then-is_marked-clause-exact : goal.returns-then-is_marked-clause-exact
returns-then-is_marked-clause-exact c = λ told.
    let m = c.args.marked.now in
    dead_none (get_or m.marks c.args.id false) (counted_tokens (Some c.args.name.now) (document_at (reads told m.source) c.args.id)) (sym c.is_marked.ensures ∙ c.if-is_marked.true)

pub returns-clause-exact : goal.returns-clause-exact
returns-clause-exact c = λ told.
    let m = c.args.marked.now in
    let n = counted_tokens (Some c.args.name.now) (document_at (reads told m.source) c.args.id) in
    let here : c.covered_in.result ≡ n = subst (λ (p : Source). c.covered_in.result ≡ counted_tokens (Some c.args.name.now) (document_at (reads told p) c.args.id)) c.part.ensures.part (c.covered_in.ensures.exact told) in
    here ∙ live_all (get_or m.marks c.args.id false) n (sym c.is_marked.ensures ∙ c.if-is_marked.false)
