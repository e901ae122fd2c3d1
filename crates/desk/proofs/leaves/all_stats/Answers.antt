use Rattle.std.proofs.Common.{◌≡◌, ◌+◌, ◌++◌, ◌∷◌, [], List, Option, map, ap, subst, sym, ◌∙◌, inl, rules, refl}
use Rattle.std.proofs.lemmas.List.{length_push, take_all}
use Rattle.std.proofs.lemmas.List.Elements.{All-push}
use Rattle.ri_base.specs.declared.hit.LeafStats.{LeafStats}
use Rattle.belief_nodes.specs.Leaves.{AreLeafStats}
use Rattle.std.proofs.lemmas.Result.{err_from_is_err_and}
use Rattle.query_check.specs.Leaves.{leaf_tree}
use Rattle.query_check.specs.declared.leaf_kind.LeafKind.{LeafKind}
use Rattle.store_ends.specs.Files.{Files}
use Rattle.disk_index.specs.Snapshots.{AreBacked, AreIntact, live}
use Rattle.disk_index.proofs.AmongLemmas.{AreIntact-backed}
use Rattle.document_scoring.specs.Counts.{stats_of}
use Rattle.counts.specs.Kept.{AreSums}
use Rattle.counts.proofs.ReadingLemmas.{cache-among, reads-same, reads-then}
use Rattle.desk.proofs.LeafLemmas.{added-then, stats-next}
use Rattle.desk.proofs.leaves.all_stats.Goals as goal

pub loop-leaf-init : goal.loop-leaf-init
loop-leaf-init g c = record {
  undamaged = refl;
  exact = λ backed cached are. search rules;
  kept = λ backed cached are. are;
  adds = λ e there. inl there;
  each = search rules;
  range = search rules;
  reads = reads-same _ _ _ _ _ _ _ _ _ _;
}

pub loop-leaf-preserved : goal.loop-leaf-preserved
loop-leaf-preserved g c =
    let told = g.T.Store.files c.args.store.now in
    let parts = c.args.snapshot.now in
    let inv = c.loop-leaf.invariant in
    let same : g.T.Store.files c.loop-leaf.store ≡ told = inv.reads.quiet.same_files in
    let all = c.loop-leaf.stats.items in
    let found = c.in_ok-found.found in
    let pushed : c.push.new.self.items ≡ all ++ found ∷ [] = search rules in
    record {
      undamaged = c.in_ok-found.ensures.undamaged ∙ c.loop-leaf.invariant.undamaged;
      exact = λ backed cached are.
          let now = subst (λ (f : Option Files). AreBacked f parts) (sym same) backed in
          let held = cache-among _ _ _ _ _ _ _ parts _ _ _ _ inv.reads backed cached in
          let sums = subst (λ (f : Option Files). AreSums (live f parts) c.args.generation c.loop-leaf.counts) (sym same) (inv.kept backed cached are) in
          let one = c.in_ok-found.ensures.exact now held sums ∙ ap (λ (f : Option Files). stats_of (live f parts) (leaf_tree c.leaf-item.result)) same in
          pushed ∙ stats-next (live told parts) c.args.leaves.now c.loop-leaf.leaf-index c.leaf-item.result c.loop-leaf.stats.items c.in_ok-found.found c.loop-leaf-test.true c.leaf-item.is (inv.exact backed cached are) one;
      kept = λ backed cached are.
          let now = subst (λ (f : Option Files). AreBacked f parts) (sym same) backed in
          let held = cache-among _ _ _ _ _ _ _ parts _ _ _ _ inv.reads backed cached in
          let sums = subst (λ (f : Option Files). AreSums (live f parts) c.args.generation c.loop-leaf.counts) (sym same) (inv.kept backed cached are) in
          subst (λ (f : Option Files). AreSums (live f parts) c.args.generation c.leaf_stats.new.counts) same (c.in_ok-found.ensures.kept now held sums);
      adds = λ e there. added-then e c.args.counts.now c.loop-leaf.counts (inv.adds e) (c.leaf_stats.ensures.adds e there);
      each = rw pushed (length_push all found ∙ ap (λ n. n + 1) inv.each);
      range = rw pushed (All-push (λ (s : LeafStats). AreLeafStats s) all found inv.range c.in_ok-found.ensures.range);
      reads = reads-then _ _ _ _ _ _ _ _ _ _ _ _ _ _ inv.reads c.in_ok-found.ensures.reads;
    }

pub returns-clause-exact : goal.returns-clause-exact
returns-clause-exact g c = λ backed cached are.
    c.loop-leaf.invariant.exact backed cached are ∙ ap (λ (ls : List LeafKind). map (stats_of (live (g.T.Store.files c.args.store.now) c.args.snapshot.now)) (map leaf_tree ls)) (take_all c.loop-leaf.leaf-index c.args.leaves.now c.loop-leaf-test.false)

pub returns-in_err-found-clause-honest : goal.returns-in_err-found-clause-honest
returns-in_err-found-clause-honest g c = λ intact cached.
    let p = err_from_is_err_and c.from_residual-in_err-found.result c.from_residual-in_err-found.ensures.1 in
    let same = c.loop-leaf.invariant.reads.quiet.same_files in
    let parts = c.args.snapshot.now in
    let now = subst (λ (f : Option Files). AreIntact f parts) (sym same) intact in
    let backed = AreIntact-backed (g.T.Store.files c.args.store.now) parts intact in
    rw (p.1, p.2) (c.in_err-found.ensures.honest now (cache-among _ _ _ _ _ _ _ parts _ _ _ _ c.loop-leaf.invariant.reads backed cached))

pub returns-in_err-found-clause-reads : goal.returns-in_err-found-clause-reads
returns-in_err-found-clause-reads g c = reads-then _ _ _ _ _ _ _ _ _ _ _ _ _ _ c.loop-leaf.invariant.reads c.in_err-found.ensures.reads

pub returns-in_err-map_err-clause-reads : goal.returns-in_err-map_err-clause-reads
returns-in_err-map_err-clause-reads g c = reads-then _ _ _ _ _ _ _ _ _ _ _ _ _ _ c.loop-leaf.invariant.reads c.in_ok-found.ensures.reads

pub returns-clause-kept : goal.returns-clause-kept
returns-clause-kept g c = c.loop-leaf.invariant.kept

pub returns-clause-adds : goal.returns-clause-adds
returns-clause-adds g c = c.loop-leaf.invariant.adds

pub returns-in_err-found-clause-adds : goal.returns-in_err-found-clause-adds
returns-in_err-found-clause-adds g c = λ e there. added-then e c.args.counts.now c.loop-leaf.counts (c.loop-leaf.invariant.adds e) (c.leaf_stats.ensures.adds e there)

pub returns-in_err-map_err-clause-adds : goal.returns-in_err-map_err-clause-adds
returns-in_err-map_err-clause-adds g c = λ e there. added-then e c.args.counts.now c.loop-leaf.counts (c.loop-leaf.invariant.adds e) (c.leaf_stats.ensures.adds e there)
