use Rattle.ri_base.specs.Ratio.{ratio_of}
use Rattle.prior_lines.proofs.KeptLemmas.{pushed_is_kept}
use Rattle.prior_lines.proofs.RowsLemmas.{pushed_view}
use Rattle.prior_lines.proofs.rows.KeptRows.push.Goals as goal

pub returns : goal.returns
returns c = pushed_view c.self.inside.rest c.self.inside.rows.entries c.insert.new.self.entries c.args.docno c.args.fraction c.args.self.now c.self.view_is c.requires.new c.in_ok-insert.ensures.entries

pub invariant_of-self-2 : goal.invariant_of-self-2
invariant_of-self-2 c =
    let view = pushed_view c.self.inside.rest c.self.inside.rows.entries c.insert.new.self.entries c.args.docno c.args.fraction c.args.self.now c.self.view_is c.requires.new c.in_ok-insert.ensures.entries in
    pushed_is_kept c.args.self.now _ c.args.docno (ratio_of c.args.fraction) (rw c.self.view_is at c.self.invariant) c.requires.named c.requires.room c.requires.small view
