use Rattle.std.proofs.Common.{◌≡◌, List, Option, IfErr, IfOk, ap, subst, sym, ◌∙◌}
use Rattle.store_ends.specs.Files.{Files}
use Rattle.seg_codec.specs.Fits.{FitBlock}
use Rattle.seg_codec.specs.declared.documents.Entry.{Entry}
use Rattle.disk_index.specs.Blocks.{IsBlockFault}
use Rattle.disk_index.specs.Cache.{IsCacheBacked}
use Rattle.disk_index.specs.Faults.{CameFrom}
use Rattle.disk_index.specs.Kept.{Kept, key_of, place_of}
use Rattle.disk_index.specs.Names.{segment_name}
use Rattle.disk_index.specs.Reads.{HasSegment}
use Rattle.disk_index.specs.Ranks.{term_of}
use Rattle.disk_index.specs.declared.cache.BlockKey.{BlockKey}
use Rattle.disk_index.proofs.KeyLemmas.{key-number, keyed, match_none, match_some, outside_fault, right_block, unkeyed}
use Rattle.disk_index.proofs.RebuiltLemmas.{backed-laid}
use Rattle.disk_index.proofs.index.DiskIndex.ranked_block.Goals as goal

pub returns-in_ok-empty-in-None-clause-exact : goal.returns-in_ok-empty-in-None-clause-exact
returns-in_ok-empty-in-None-clause-exact g c = λ docs b backed.
    c.in_ok-empty-in-None.ensures ∙ unkeyed (g.T.Store.files c.args.store.now) c.args.self.now docs (term_of c.args.self.now.dictionary c.args.rank) c.args.range (sym c.in-None.ensures.key) b

pub returns-in-Some-clause-exact : goal.returns-in-Some-clause-exact
returns-in-Some-clause-exact g c = λ docs b backed.
    let k = keyed (g.T.Store.files c.args.store.now) c.args.self.now docs (term_of c.args.self.now.dictionary c.args.rank) c.args.range c.in-Some.key c.in-Some.ensures.key b in
    let same : c.self.inside.documents ≡ c.args.self.now.outlines = ap (λ (k : Kept). k.outlines) c.self.view_is in
    let number = key-number c.args.self.now.number c.args.range (place_of c.args.self.now.dictionary (term_of c.args.self.now.dictionary c.args.rank) c.args.range) c.in-Some.key c.in-Some.ensures.key in
    let fits = c.once.ensures.fits docs (subst (λ n. HasSegment (g.T.Store.files c.args.store.now) n docs) (sym number) b.has)
    (same ∙ (backed-laid (g.T.Store.files c.args.store.now) c.args.self.now docs b).outlines) backed in
    right_block b.has.files c.args.self.now.outlines c.in-Some.key _ k c.once.result (c.once.ensures.exact b.has.files b.has.is_told (subst (λ (f : Option Files). IsCacheBacked f c.args.cache.now) b.has.is_told backed))
    (subst (λ (os : List Entry). IfOk c.once.result (FitBlock os c.in-Some.key.range)) same fits)

pub returns-in-Some-clause-honest : goal.returns-in-Some-clause-honest
returns-in-Some-clause-honest g c = λ docs b intact.
    let same : c.self.inside.documents ≡ c.args.self.now.outlines = ap (λ (k : Kept). k.outlines) c.self.view_is in
    let k = keyed (g.T.Store.files c.args.store.now) c.args.self.now docs (term_of c.args.self.now.dictionary c.args.rank) c.args.range c.in-Some.key c.in-Some.ensures.key b in
    let number = key-number c.args.self.now.number c.args.range (place_of c.args.self.now.dictionary (term_of c.args.self.now.dictionary c.args.rank) c.args.range) c.in-Some.key c.in-Some.ensures.key in
    let whole = subst (λ n. (b.has.files (segment_name n)).read ≡ (b.has.files (segment_name n)).put) (sym number) (intact b.has.files b.has.is_told) in
    outside_fault b.has.files c.args.self.now.outlines c.in-Some.key _ k whole c.once.result
    (subst (λ (es : List Entry). IfErr c.once.result (IsBlockFault b.has.files c.in-Some.key es)) same (c.once.ensures.fault b.has.files b.has.is_told))

pub returns-in_ok-empty-in-None-clause-fault : goal.returns-in_ok-empty-in-None-clause-fault
returns-in_ok-empty-in-None-clause-fault g c = λ f told.
    match_none (key_of c.args.self.now.number c.args.range) (place_of c.args.self.now.dictionary (term_of c.args.self.now.dictionary c.args.rank) c.args.range) _ _ (sym c.in-None.ensures.key) tt

pub returns-in-Some-clause-fault : goal.returns-in-Some-clause-fault
returns-in-Some-clause-fault g c = λ f told.
    let same : c.self.inside.documents ≡ c.args.self.now.outlines = ap (λ (k : Kept). k.outlines) c.self.view_is in
    match_some (key_of c.args.self.now.number c.args.range) (place_of c.args.self.now.dictionary (term_of c.args.self.now.dictionary c.args.rank) c.args.range) c.in-Some.key _
    (λ (k : BlockKey). IfErr c.once.result (IsBlockFault f k c.args.self.now.outlines)) c.in-Some.ensures.key
    (subst (λ (es : List Entry). IfErr c.once.result (IsBlockFault f c.in-Some.key es)) same (c.once.ensures.fault f told))

pub returns-in_ok-empty-in-None-clause-origin : goal.returns-in_ok-empty-in-None-clause-origin
returns-in_ok-empty-in-None-clause-origin g c =
    match_none (key_of c.args.self.now.number c.args.range) (place_of c.args.self.now.dictionary (term_of c.args.self.now.dictionary c.args.rank) c.args.range) _ _ (sym c.in-None.ensures.key) c.in_ok-empty-in-None.ensures

pub returns-in-Some-clause-origin : goal.returns-in-Some-clause-origin
returns-in-Some-clause-origin g c =
    let told = g.T.Store.files c.args.store.now in
    let same : c.self.inside.documents ≡ c.args.self.now.outlines = ap (λ (k : Kept). k.outlines) c.self.view_is in
    match_some (key_of c.args.self.now.number c.args.range) (place_of c.args.self.now.dictionary (term_of c.args.self.now.dictionary c.args.rank) c.args.range) c.in-Some.key _
    (λ (k : BlockKey). IfOk c.once.result (CameFrom told c.args.cache.now c.args.self.now.outlines k)) c.in-Some.ensures.key
    (subst (λ (es : List Entry). IfOk c.once.result (CameFrom told c.args.cache.now es c.in-Some.key)) same c.once.ensures.origin)
