use Rattle.std.proofs.Common.{◌≡◌, ◌∙◌, ◌<◌, ◌++◌, ◌∷◌, [], ap, arith, false, true, length, refl, rules, subst, sym, List}
use Rattle.std.specs.Prelude.{is_some, nat_le}
use Rattle.std.specs.List.{All}
use Rattle.std.proofs.lemmas.Bool.{le-leb, lt-leb}
use Rattle.std.proofs.lemmas.List.Elements.{All-push}
use Rattle.std.proofs.lemmas.Result.{err_from_is_err_and}
use Rattle.ri_base.specs.Documents.{Document}
use Rattle.query_check.specs.Answers.{whole_checked}
use Rattle.disk_index.specs.Snapshots as snapshots
use Rattle.disk_index.specs.Snapshots.{AreIntact}
use Rattle.counts.specs.Kept.{AreSums}
use Rattle.belief_nodes.specs.Network.{network_tree}
use Rattle.repository.specs.States as repositories
use Rattle.desk.specs.declared.reply.Refusal.TheVariants.{DeskFull, NameTaken}
use Rattle.desk.specs.Backed.{IsDeskBacked, IsDeskIntact, Keeps}
use Rattle.desk.specs.Keeping.{AreKept, AsksFor, IsOpen}
use Rattle.desk.specs.declared.query.OpenQuery.{OpenQuery}
use Rattle.desk.specs.declared.query.TheConstants.{MAX_QUERIES}
use Rattle.desk.proofs.CacheLemmas.{cache-read, listed-now}
use Rattle.desk.proofs.Closing.{priors-closed, snapped-kept, summed-kept}
use Rattle.desk.proofs.Found.{found-as, seen}
use Rattle.desk.proofs.IntactLemmas.{AreAllIntact, intact-from, merge-moved}
use Rattle.desk.proofs.KeptLemmas.{kept-pushed}
use Rattle.desk.proofs.OpenExits.{full-refused, new-search, open-accepted-by, open-done, open-new, open-refusal, open-refused-by, taken-refused}
use Rattle.desk.proofs.Exits.{leaves-failed}
use Rattle.desk.proofs.kept.Kept.open_checked.Goals as goal

pub returns-then-is_some-clause-steps : goal.returns-then-is_some-clause-steps
returns-then-is_some-clause-steps g c = λ backed.
    let told = g.T.Store.files c.args.store.now in
    let view = seen c.self.inside in
    let taken = found-as view c.args.self.now c.args.name c.self.view_is true (ap is_some (sym c.find.ensures) ∙ sym c.is_some.ensures ∙ c.if-is_some.true) in
    open-refusal told view c.args.self.now c.args.name c.args.k (whole_checked c.args.checked) (NameTaken c.args.name) c.self.view_is (taken-refused told view c.args.name c.args.k (whole_checked c.args.checked) taken) backed

pub returns-then-is_some-clause-refuses : goal.returns-then-is_some-clause-refuses
returns-then-is_some-clause-refuses g c = λ told.
    let view = seen c.self.inside in
    let taken = found-as view c.args.self.now c.args.name c.self.view_is true (ap is_some (sym c.find.ensures) ∙ sym c.is_some.ensures ∙ c.if-is_some.true) in
    open-refused-by told view c.args.self.now c.args.name c.args.k (whole_checked c.args.checked) (NameTaken c.args.name) c.self.view_is (taken-refused told view c.args.name c.args.k (whole_checked c.args.checked) taken)

pub returns-then-len-ge-MAX_QUERIES-clause-steps : goal.returns-then-len-ge-MAX_QUERIES-clause-steps
returns-then-len-ge-MAX_QUERIES-clause-steps g c = λ backed.
    let told = g.T.Store.files c.args.store.now in
    let s = c.self.inside in
    let view = seen c.self.inside in
    let free = found-as view c.args.self.now c.args.name c.self.view_is false (ap is_some (sym c.find.ensures) ∙ sym c.is_some.ensures ∙ c.if-is_some.false) in
    let full : nat_le MAX_QUERIES (length s.queries.items) ≡ true = le-leb MAX_QUERIES (length s.queries.items) (omega (arith, c.len.ensures, c.if-len-ge-MAX_QUERIES.true)) in
    open-refusal told view c.args.self.now c.args.name c.args.k (whole_checked c.args.checked) (DeskFull c.args.name) c.self.view_is (full-refused told view c.args.name c.args.k (whole_checked c.args.checked) free full) backed

pub returns-then-len-ge-MAX_QUERIES-clause-refuses : goal.returns-then-len-ge-MAX_QUERIES-clause-refuses
returns-then-len-ge-MAX_QUERIES-clause-refuses g c = λ told.
    let s = c.self.inside in
    let view = seen c.self.inside in
    let free = found-as view c.args.self.now c.args.name c.self.view_is false (ap is_some (sym c.find.ensures) ∙ sym c.is_some.ensures ∙ c.if-is_some.false) in
    let full : nat_le MAX_QUERIES (length s.queries.items) ≡ true = le-leb MAX_QUERIES (length s.queries.items) (omega (arith, c.len.ensures, c.if-len-ge-MAX_QUERIES.true)) in
    open-refused-by told view c.args.self.now c.args.name c.args.k (whole_checked c.args.checked) (DeskFull c.args.name) c.self.view_is (full-refused told view c.args.name c.args.k (whole_checked c.args.checked) free full)

pub invariant_of-self : goal.invariant_of-self
invariant_of-self g c =
    λ usable there.
    let s = c.self.inside in
    snapped-kept c.snapshot.result s.repository c.snapshot.new.self s.queries.items s.counts c.snapshot.ensures.closed c.snapshot.ensures.left (c.self.invariant usable (sym c.snapshot.ensures.usable ∙ there))

pub invariant_of-self-in_err-search : goal.invariant_of-self-in_err-search
invariant_of-self-in_err-search g c =
    λ usable there.
    let s = c.self.inside in
    summed-kept c.snapshot.result s.repository c.snapshot.new.self s.queries.items s.counts c.counted_search.new.counts c.snapshot.ensures.closed c.snapshot.ensures.left c.counted_search.ensures.adds (c.self.invariant usable (sym c.snapshot.ensures.usable ∙ there))

pub invariant_of-self-in_err-map_err : goal.invariant_of-self-in_err-map_err
invariant_of-self-in_err-map_err g c =
    λ usable there.
    let s = c.self.inside in
    let same : c.push.new.self.items ≡ s.queries.items = search rules in
    subst (λ (qs : List OpenQuery). AreKept c.snapshot.new.self qs c.counted_search.new.counts) (sym same) (summed-kept c.snapshot.result s.repository c.snapshot.new.self s.queries.items s.counts c.counted_search.new.counts c.snapshot.ensures.closed c.snapshot.ensures.left c.counted_search.ensures.adds (c.self.invariant usable (sym c.snapshot.ensures.usable ∙ there)))

pub invariant_of-self-2 : goal.invariant_of-self-2
invariant_of-self-2 g c =
    λ usable there.
    let s = c.self.inside in
    let priors = priors-closed c.snapshot.result s.repository c.snapshot.new.self c.snapshot.ensures.closed c.snapshot.ensures.left in
    let name = c.args.name in
    let few : length s.queries.items < MAX_QUERIES = omega (arith, c.len.ensures, c.if-len-ge-MAX_QUERIES.false) in
    let q : OpenQuery = record { name = c.args.name; search = c.in_ok-search.search } in
    let snapshot = c.in_ok-snapshot.snapshot in
    let stats = (network_tree c.in_ok-search.search.network).stats in
    let made = c.in_ok-search.ensures in
    let new = new-search snapshot c.args.checked stats c.args.k q.search made.snapshot made.checked made.network made.most made.credit made.usable in
    let asks = subst (λ (x : Keeps). All (AsksFor (length x.repository.priors)) (whole_checked c.args.checked).leaves) (sym c.self.view_is) c.requires.asks in
    let one : IsOpen (length c.snapshot.new.self.priors) q = open-new (length c.snapshot.new.self.priors) name snapshot c.args.checked stats c.args.k q new c.in_ok-snapshot.ensures.distinct c.requires.k.1
    (subst (λ n. All (AsksFor n) (whole_checked c.args.checked).leaves) (sym (ap length priors)) asks) in
    let pushed : c.push.new.self.items ≡ s.queries.items ++ q ∷ [] = search rules in
    subst (λ (qs : List OpenQuery). AreKept c.snapshot.new.self qs c.counted_search.new.counts) (sym pushed)
    (kept-pushed c.snapshot.new.self s.queries.items c.counted_search.new.counts q few one (summed-kept c.snapshot.result s.repository c.snapshot.new.self s.queries.items s.counts c.counted_search.new.counts c.snapshot.ensures.closed c.snapshot.ensures.left c.counted_search.ensures.adds (c.self.invariant usable (sym c.snapshot.ensures.usable ∙ there))))

pub returns-in_err-search-clause-honest : goal.returns-in_err-search-clause-honest
returns-in_err-search-clause-honest g c = λ backed intact.
    let told = g.T.Store.files c.args.store.now in
    let b : IsDeskBacked told (seen c.self.inside) = subst (IsDeskBacked told) (sym c.self.view_is) backed in
    let i : IsDeskIntact told (seen c.self.inside) = subst (IsDeskIntact told) (sym c.self.view_is) intact in
    let p = err_from_is_err_and c.from_residual-in_err-search.result c.from_residual-in_err-search.ensures.1 in
    rw (p.1, p.2) (c.in_err-search.ensures.honest (c.in_ok-snapshot.ensures.stored_intact told i.parts) b.cache.backed)

pub returns-clause-steps : goal.returns-clause-steps
returns-clause-steps g c = λ backed.
    let told = g.T.Store.files c.args.store.now in
    let after = g.T.Store.files c.counted_search.new.store in
    let s = c.self.inside in
    let name = c.args.name in
    let view = seen c.self.inside in
    let free = found-as view c.args.self.now name c.self.view_is false (ap is_some (sym c.find.ensures) ∙ sym c.is_some.ensures ∙ c.if-is_some.false) in
    let room : nat_le MAX_QUERIES (length s.queries.items) ≡ false = lt-leb MAX_QUERIES (length s.queries.items) (omega (arith, c.len.ensures, c.if-len-ge-MAX_QUERIES.false)) in
    let q : OpenQuery = record { name = c.args.name; search = c.in_ok-search.search } in
    let snapshot = c.in_ok-snapshot.snapshot in
    let stats = (network_tree c.in_ok-search.search.network).stats in
    let made = c.in_ok-search.ensures in
    let new = new-search snapshot c.args.checked stats c.args.k q.search made.snapshot made.checked made.network made.most made.credit made.usable in
    let documents = c.in_ok-snapshot.ensures.documents told in
    let wide : c.from-live.result ≡ c.live_count.result = search rules in
    let pushed : c.push.new.self.items ≡ s.queries.items ++ q ∷ [] = search rules in
    let generation : c.generation-generation.result ≡ s.repository.held.generation = c.generation-generation.ensures ∙ ap (λ (x : repositories.State). x.held.generation) c.in_ok-snapshot.ensures.closed in
    let sums : IsDeskBacked told view → AreSums (snapshots.live told snapshot) c.generation-generation.result s.counts = λ b.
    subst (λ n. AreSums (snapshots.live told snapshot) n s.counts) (sym generation) (subst (λ (docs : List Document). AreSums docs s.repository.held.generation s.counts) (sym documents) b.counts) in
    let reads = made.reads in
    open-done told view name c.args.k c.args.checked snapshot stats q new refl documents after c.args.self.now c.snapshot.new.self c.push.new.self.items c.counted_search.new.counts c.counted_search.new.cache c.from-live.result c.in_ok-told.told
    c.self.view_is c.in_ok-snapshot.ensures.closed pushed c.in_ok-told.ensures reads.quiet.same_files free room (wide ∙ c.live_count.ensures told) c.in_ok-snapshot.ensures.numbers
    (λ b. c.in_ok-snapshot.ensures.stored told b.repository)
    (λ b. made.taken (c.in_ok-snapshot.ensures.stored told b.repository) b.cache.backed)
    (λ b. made.exact (c.in_ok-snapshot.ensures.stored told b.repository) b.cache.backed (sums b))
    (λ b. subst (λ n. AreSums (snapshots.live told snapshot) n c.counted_search.new.counts) generation (made.kept (c.in_ok-snapshot.ensures.stored told b.repository) b.cache.backed (sums b)))
    (λ b. cache-read told s.repository snapshot s.cache c.counted_search.new.cache (listed-now s.repository snapshot c.in_ok-snapshot.ensures.numbers) (c.in_ok-snapshot.ensures.stored told b.repository) reads.cache b.cache) backed

pub returns-clause-refuses : goal.returns-clause-refuses
returns-clause-refuses g c = λ told.
    let s = c.self.inside in
    let view = seen c.self.inside in
    let free = found-as view c.args.self.now c.args.name c.self.view_is false (ap is_some (sym c.find.ensures) ∙ sym c.is_some.ensures ∙ c.if-is_some.false) in
    let room : nat_le MAX_QUERIES (length s.queries.items) ≡ false = lt-leb MAX_QUERIES (length s.queries.items) (omega (arith, c.len.ensures, c.if-len-ge-MAX_QUERIES.false)) in
    open-accepted-by told view c.args.self.now c.args.name c.args.k (whole_checked c.args.checked) c.self.view_is free room

pub returns-in_err-search-clause-keeps : goal.returns-in_err-search-clause-keeps
returns-in_err-search-clause-keeps g c =
    let p = err_from_is_err_and c.from_residual-in_err-search.result c.from_residual-in_err-search.ensures.1 in
    rw (p.1, p.2) (leaves-failed _ (seen c.self.inside) c.args.self.now _ c.self.view_is refl c.in_err-search.ensures.damaged)

pub returns-clause-keeps : goal.returns-clause-keeps
returns-clause-keeps g c = record {
  form = search rules;
  kind = ap (λ (x : Keeps). x.kind) c.self.view_is;
  unchanged = tt;
  usable = search rules;
  undamaged = c.in_ok-search.ensures.undamaged ∙ ap (λ (x : Keeps). x.cache.damage) c.self.view_is;
  damaged = tt;
}

pub returns-in_err-map_err-clause-keeps : goal.returns-in_err-map_err-clause-keeps
returns-in_err-map_err-clause-keeps g c =
    let p = err_from_is_err_and c.from_residual-in_err-map_err.result c.from_residual-in_err-map_err.ensures.1 in
    rw (p.1, p.2) (record {
      form = tt;
      kind = ap (λ (x : Keeps). x.kind) c.self.view_is;
      unchanged = tt;
      usable = tt;
      undamaged = tt;
      damaged = c.in_ok-search.ensures.undamaged ∙ ap (λ (x : Keeps). x.cache.damage) c.self.view_is;
    })

pub returns-clause-intact : goal.returns-clause-intact
returns-clause-intact g c = λ told whole.
    let s = c.self.inside in
    let view = seen c.self.inside in
    let q : OpenQuery = record { name = c.args.name; search = c.in_ok-search.search } in
    let pushed : c.push.new.self.items ≡ s.queries.items ++ q ∷ [] = search rules in
    intact-from told told view c.args.self.now (record { repository = c.snapshot.new.self; kind = s.kind; queries = c.push.new.self.items; counts = c.counted_search.new.counts; cache = c.counted_search.new.cache; usable = s.usable }) c.self.view_is
    (λ w.
    let own : AreIntact told q.search.snapshot = subst (AreIntact told) (sym c.in_ok-search.ensures.snapshot) (c.in_ok-snapshot.ensures.stored_intact told w.parts) in
    record {
      parts = c.snapshot.ensures.intact told w.parts;
      queries = subst (AreAllIntact told) (sym pushed) (All-push (λ (x : OpenQuery). AreIntact told x.search.snapshot) s.queries.items q w.queries own);
      merge = merge-moved told s.repository.merge c.snapshot.new.self.merge (ap (λ (x : repositories.State). x.merge) c.in_ok-snapshot.ensures.closed) w.merge;
    }) whole
