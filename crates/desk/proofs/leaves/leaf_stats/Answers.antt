use Rattle.std.proofs.Common.{◌≡◌, inl, inr, option_copied}
use Rattle.std.proofs.lemmas.Result.{IfOk-weaker}
use Rattle.belief_nodes.specs.Leaves.{AreLeafStats}
use Rattle.disk_index.specs.Snapshots.{live}
use Rattle.ri_base.specs.Expression.{expr_tree}
use Rattle.query_check.specs.Leaves.{leaf_tree}
use Rattle.document_scoring.specs.Counts.{stats_of}
use Rattle.counts.specs.Sums.{AreBounded, sums}
use Rattle.counts.proofs.ReadingLemmas.{reads-same}
use Rattle.desk.proofs.LeafLemmas.{extents-stats, kept-early, leaf-range, prior-stats}
use Rattle.desk.proofs.leaves.leaf_stats.Goals as goal

pub returns-in-Extents-clause-exact : goal.returns-in-Extents-clause-exact
returns-in-Extents-clause-exact g c = λ backed cached are.
    let docs = live (g.T.Store.files c.args.store.now) c.args.snapshot.now in
    let seen = option_copied c.as_ref-context.result in
    IfOk-weaker c.leaf.result (λ s. s ≡ sums docs (expr_tree c.in-Extents.expr) seen) (λ s. s ≡ stats_of docs (leaf_tree c.args.leaf.now))
    (λ s is. extents-stats docs c.args.leaf.now c.in-Extents.expr c.in-Extents.context seen s c.in-Extents.is c.as_ref-context.ensures.value is) (c.leaf.ensures.exact backed cached are)

pub returns-in-Extents-clause-range : goal.returns-in-Extents-clause-range
returns-in-Extents-clause-range g c = IfOk-weaker c.leaf.result (λ s. AreBounded s) (λ s. AreLeafStats s) leaf-range c.leaf.ensures.range

pub returns-in-Extents-clause-reads : goal.returns-in-Extents-clause-reads
returns-in-Extents-clause-reads g c = record { quiet = c.leaf.ensures.quiet; later = c.leaf.ensures.later; cache = c.leaf.ensures.cache }

pub returns-in-Prior-clause-exact : goal.returns-in-Prior-clause-exact
returns-in-Prior-clause-exact g c = λ backed cached are. prior-stats (live (g.T.Store.files c.args.store.now) c.args.snapshot.now) c.args.leaf.now c.in-Prior.field-0 c.in-Prior.is

pub returns-in-Prior-clause-reads : goal.returns-in-Prior-clause-reads
returns-in-Prior-clause-reads g c = reads-same _ _ _ _ _ _ _ _ _ _

pub returns-in-Extents-clause-adds : goal.returns-in-Extents-clause-adds
returns-in-Extents-clause-adds g c = λ e there. elim (c.leaf.ensures.adds e there) [
  | inl old ↦ inl old
  | inr new ↦ inr (kept-early c.args.generation _ _ e c.leaf.result new)
]

pub returns-in-Prior-clause-adds : goal.returns-in-Prior-clause-adds
returns-in-Prior-clause-adds g c = λ e there. inl there
