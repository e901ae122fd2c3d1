use Rattle.std.proofs.Common.{◌≡◌, ◌<◌, ◌≤◌, false, get_or, IfErr, IfOk, option_copied, subst, sym, ◌∙◌}
use Rattle.std.proofs.lemmas.Result.{IfOk-weaker}
use Rattle.ri_base.specs.Collection.{document_at}
use Rattle.ri_base.specs.Expression.{EachWord, expr_tree}
use Rattle.ri_base.specs.Faults.{IsOutside}
use Rattle.disk_index.specs.Cache.{IsCacheBacked}
use Rattle.disk_index.specs.Parts.{IsFileOf, IsPartBacked, IsPartIntact, IsReadableOf, Source, reads, size}
use Rattle.counts.specs.Reading.{OnlyReads}
use Rattle.counts.specs.Sums.{counted_tokens, occurrences}
use Rattle.counts.proofs.ReadingLemmas.{reads-same}
use Rattle.counts.proofs.SumsLemmas.{dead_none, live_all}
use Rattle.counts.proofs.sums.in_live_document.Goals as goal

pub in_document-requires : goal.in_document-requires
in_document-requires g c = subst (λ (p : Source). c.args.id < size p) (sym c.part.ensures.part) c.requires

pub returns-then-is_marked-clause-exact : goal.returns-then-is_marked-clause-exact
returns-then-is_marked-clause-exact g c = λ backed cached.
    let m = c.args.marked.now in
    dead_none (get_or m.marks c.args.id false) (occurrences (expr_tree c.args.expr.now) (option_copied c.args.context) (document_at (reads (g.T.Store.files c.args.store.now) m.source) c.args.id))
    (sym c.is_marked.ensures ∙ c.if-is_marked.true)

pub returns-then-is_marked-clause-reads : goal.returns-then-is_marked-clause-reads
returns-then-is_marked-clause-reads g c = reads-same _ _ _ _ _ _ _ _ _ _

pub returns-clause-exact : goal.returns-clause-exact
returns-clause-exact g c = λ backed cached.
    let told = g.T.Store.files c.args.store.now in
    let m = c.args.marked.now in
    let f = occurrences (expr_tree c.args.expr.now) (option_copied c.args.context) in
    let n = f (document_at (reads told m.source) c.args.id) in
    let here : IfOk c.in_document.result (λ k. k ≡ n) =
    subst (λ (p : Source). IsPartBacked told p → IsCacheBacked told c.args.cache.now → IfOk c.in_document.result (λ k. k ≡ f (document_at (reads told p) c.args.id))) c.part.ensures.part c.in_document.ensures.exact backed cached in
    subst (λ v. IfOk c.in_document.result (λ k. k ≡ v)) (live_all (get_or m.marks c.args.id false) n (sym c.is_marked.ensures ∙ c.if-is_marked.false)) here

pub returns-clause-few : goal.returns-clause-few
returns-clause-few g c =
    let told = g.T.Store.files c.args.store.now in
    let m = c.args.marked.now in
    let f = counted_tokens (option_copied c.args.context) in
    let n = f (document_at (reads told m.source) c.args.id) in
    let here : IfOk c.in_document.result (λ k. k ≤ n) =
    subst (λ (p : Source). IfOk c.in_document.result (λ k. k ≤ f (document_at (reads told p) c.args.id))) c.part.ensures.part c.in_document.ensures.few in
    subst (λ v. IfOk c.in_document.result (λ k. k ≤ v)) (live_all (get_or m.marks c.args.id false) n (sym c.is_marked.ensures ∙ c.if-is_marked.false)) here

pub returns-clause-honest : goal.returns-clause-honest
returns-clause-honest g c =
    let told = g.T.Store.files c.args.store.now in
    subst (λ (p : Source). IsPartIntact told p → IsCacheBacked told c.args.cache.now → IfErr c.in_document.result IsOutside) c.part.ensures.part c.in_document.ensures.honest

pub returns-clause-reads : goal.returns-clause-reads
returns-clause-reads g c =
    subst (λ (p : Source). OnlyReads g.T.Store.files g.T.Store.layers g.T.Store.clock g.T.Store.since g.T.Store.longest g.T.Store.held g.T.Store.faults (IsFileOf p) c.args.store.now c.in_document.new.store c.args.cache.now c.in_document.new.cache)
    c.part.ensures.part c.in_document.ensures.reads

pub returns-then-is_marked-clause-told : goal.returns-then-is_marked-clause-told
returns-then-is_marked-clause-told g c = λ live may. let marked = sym c.is_marked.ensures ∙ c.if-is_marked.true in absurd cc

pub returns-clause-told : goal.returns-clause-told
returns-clause-told g c =
    IfOk-weaker c.in_document.result _ _ (λ n each live may.
    subst (λ (p : Source). EachWord (λ t. IsReadableOf (g.T.Store.files c.args.store.now) c.args.cache.now p t c.args.id) (expr_tree c.args.expr.now)) c.part.ensures.part each) c.in_document.ensures.told
