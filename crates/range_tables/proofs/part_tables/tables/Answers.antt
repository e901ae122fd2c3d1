use Rattle.std.proofs.Common.{rules, ◌≡◌, ◌∙◌, ◌++◌, ◌∷◌, [], List, Option, length, length-append, map, subst, sym, ap, arith, refl}
use Rattle.std.proofs.lemmas.List.{take_all}
use Rattle.std.proofs.lemmas.Result.{err_from_is_err_and}
use Rattle.store_ends.specs.Files.{Files}
use Rattle.query_check.specs.Leaves.{leaf_tree}
use Rattle.disk_index.specs.Cache.{CacheKeeps, IsCacheBacked}
use Rattle.disk_index.specs.Parts.{IsFileOf, IsPartBacked, IsPartIntact, Source, reads}
use Rattle.disk_index.specs.QuietLaws.{CacheKeeps-same, IsQuiet-same, IsQuiet-then}
use Rattle.disk_index.specs.Snapshots.{IsFileAmong, Marked}
use Rattle.disk_index.proofs.AmongLemmas.{AreIntact-backed, backed-at, intact-at, keeps-among}
use Rattle.disk_index.proofs.BackedLemmas.{IsCacheBacked-among}
use Rattle.range_bounds.specs.Tables.{AreTablesOf, IsTableOf}
use Rattle.range_tables.proofs.TableLemmas.{tables_more}
use Rattle.range_tables.proofs.part_tables.tables.Goals as goal

pub loop-marked-init : goal.loop-marked-init
loop-marked-init g c = record {
  undamaged = refl;
  exact = λ backed cached. search rules;
  each = search rules;
  cache = CacheKeeps-same (g.T.Store.files c.args.store.now) (IsFileAmong c.args.parts.now) c.args.cache.now;
  quiet = IsQuiet-same g.T.Store.files g.T.Store.layers g.T.Store.clock g.T.Store.since g.T.Store.longest g.T.Store.held g.T.Store.faults c.args.store.now;
  later = omega arith;
}

pub loop-marked-preserved : goal.loop-marked-preserved
loop-marked-preserved g c =
    let told = g.T.Store.files c.args.store.now in
    let here = g.T.Store.files c.loop-marked.store in
    let parts = c.args.parts.now in
    let inv = c.loop-marked.invariant in
    let i = c.loop-marked.marked-index in
    let m : Marked = c.marked-item.result in
    let table = c.in_ok-table.table in
    let same : here ≡ told = inv.quiet.same_files in
    let own = c.part.ensures.part in
    let pushed : c.push.new.self.items ≡ c.loop-marked.tables.items ++ table ∷ [] = search rules in
    let leaves = map leaf_tree c.args.leaves.now in
    record {
      undamaged = c.in_ok-table.ensures.undamaged ∙ c.loop-marked.invariant.undamaged;
      exact = λ backed cached.
          let part : IsPartBacked here m.source = subst (λ (f : Option Files). IsPartBacked f m.source) (sym same) (backed-at parts i m c.loop-marked-test.true c.marked-item.is told backed) in
          let blocks : IsCacheBacked here c.loop-marked.cache =
          subst (λ (f : Option Files). IsCacheBacked f c.loop-marked.cache) (sym same) (IsCacheBacked-among told parts c.args.cache.now c.loop-marked.cache backed inv.cache cached) in
          let found : IsTableOf leaves (reads told m.source) table =
          subst (λ (f : Option Files). IsTableOf leaves (reads f m.source) table) same
          (subst (λ (s : Source). IsTableOf leaves (reads here s) table) own (c.in_ok-table.ensures.exact (subst (λ (s : Source). IsPartBacked here s) (sym own) part) blocks)) in
          tables_more leaves (λ (n : Marked). reads told n.source) parts i m c.loop-marked.tables.items c.push.new.self.items table c.loop-marked-test.true c.marked-item.is pushed (inv.exact backed cached) found;
      each = ap length pushed ∙ omega (arith, length-append c.loop-marked.tables.items (table ∷ []), inv.each);
      cache = keeps-among parts i m c.loop-marked-test.true c.marked-item.is told here c.args.cache.now c.loop-marked.cache c.part_table.new.cache same inv.cache
          (subst (λ (s : Source). CacheKeeps here (IsFileOf s) c.loop-marked.cache c.part_table.new.cache) own c.part_table.ensures.cache);
      quiet = IsQuiet-then g.T.Store.files g.T.Store.layers g.T.Store.clock g.T.Store.since g.T.Store.longest g.T.Store.held g.T.Store.faults c.args.store.now c.loop-marked.store c.part_table.new.store inv.quiet c.part_table.ensures.quiet;
      later = omega (arith, inv.later, c.part_table.ensures.later);
    }

pub returns-in_err-table-clause-honest : goal.returns-in_err-table-clause-honest
returns-in_err-table-clause-honest g c = λ intact cached.
    let told = g.T.Store.files c.args.store.now in
    let here = g.T.Store.files c.loop-marked.store in
    let parts = c.args.parts.now in
    let inv = c.loop-marked.invariant in
    let m : Marked = c.marked-item.result in
    let same : here ≡ told = inv.quiet.same_files in
    let part : IsPartIntact here m.source = subst (λ (f : Option Files). IsPartIntact f m.source) (sym same) (intact-at parts c.loop-marked.marked-index m c.loop-marked-test.true c.marked-item.is told intact) in
    let blocks : IsCacheBacked here c.loop-marked.cache =
    subst (λ (f : Option Files). IsCacheBacked f c.loop-marked.cache) (sym same) (IsCacheBacked-among told parts c.args.cache.now c.loop-marked.cache (AreIntact-backed told parts intact) inv.cache cached) in
    let p = err_from_is_err_and c.from_residual-in_err-table.result c.from_residual-in_err-table.ensures.1 in
    rw (p.1, p.2) (c.in_err-table.ensures.honest (subst (λ (s : Source). IsPartIntact here s) (sym c.part.ensures.part) part) blocks)

pub returns-in_err-table-clause-cache : goal.returns-in_err-table-clause-cache
returns-in_err-table-clause-cache g c =
    let here = g.T.Store.files c.loop-marked.store in
    keeps-among c.args.parts.now c.loop-marked.marked-index c.marked-item.result c.loop-marked-test.true c.marked-item.is (g.T.Store.files c.args.store.now) here c.args.cache.now c.loop-marked.cache c.part_table.new.cache
    c.loop-marked.invariant.quiet.same_files c.loop-marked.invariant.cache (subst (λ (s : Source). CacheKeeps here (IsFileOf s) c.loop-marked.cache c.part_table.new.cache) c.part.ensures.part c.part_table.ensures.cache)

pub returns-in_err-map_err-clause-cache : goal.returns-in_err-map_err-clause-cache
returns-in_err-map_err-clause-cache g c =
    let here = g.T.Store.files c.loop-marked.store in
    keeps-among c.args.parts.now c.loop-marked.marked-index c.marked-item.result c.loop-marked-test.true c.marked-item.is (g.T.Store.files c.args.store.now) here c.args.cache.now c.loop-marked.cache c.part_table.new.cache
    c.loop-marked.invariant.quiet.same_files c.loop-marked.invariant.cache (subst (λ (s : Source). CacheKeeps here (IsFileOf s) c.loop-marked.cache c.part_table.new.cache) c.part.ensures.part c.part_table.ensures.cache)

pub returns-clause-exact : goal.returns-clause-exact
returns-clause-exact g c = λ backed cached.
    let told = g.T.Store.files c.args.store.now in
    subst (λ (ms : List Marked). AreTablesOf (map leaf_tree c.args.leaves.now) (map (λ (m : Marked). reads told m.source) ms) c.loop-marked.tables.items) (take_all c.loop-marked.marked-index c.args.parts.now c.loop-marked-test.false) (c.loop-marked.invariant.exact backed cached)
