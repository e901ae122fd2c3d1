use Rattle.std.proofs.Common.{List, Option, Contains, IfSome, inl, refl, subst, sym}
use Rattle.seg_codec.specs.Fits.{FitBlock}
use Rattle.seg_codec.specs.declared.blocks.BlockEntry.{BlockEntry}
use Rattle.seg_codec.specs.declared.documents.Entry.{Entry}
use Rattle.disk_index.specs.Cache.{Cached, KeptBlock}
use Rattle.disk_index.proofs.CacheLemmas.{came-read}
use Rattle.disk_index.proofs.cache.BlockCache.once.Goals as goal

pub returns-in_err-block-clause-cache : goal.returns-in_err-block-clause-cache
returns-in_err-block-clause-cache g c = λ e h. subst (λ (l : Cached). Contains l.kept e) c.self.view_is (c.in_err-block.ensures.stay e h)

pub returns-in-Some-clause-cache : goal.returns-in-Some-clause-cache
returns-in-Some-clause-cache g c = λ e h. subst (λ (l : Cached). Contains l.kept e) c.self.view_is (c.in_ok-block.ensures.stay e h)

pub returns-in-Some-clause-exact : goal.returns-in-Some-clause-exact
returns-in-Some-clause-exact g c = λ f told backed.
    let es = c.self.inside.kept.entries in
    let found : Contains es (c.args.key, c.in-Some.block) = subst (λ (o : Option (List BlockEntry)). IfSome o (λ b. Contains es (c.args.key, b))) c.in-Some.is c.in_ok-block.ensures.found in
    (backed f refl (c.args.key, c.in-Some.block) (subst (λ (l : Cached). Contains l.kept (c.args.key, c.in-Some.block)) c.self.view_is found)).0

pub returns-in-Some-clause-fits : goal.returns-in-Some-clause-fits
returns-in-Some-clause-fits g c = λ docs s same backed.
    let es = c.self.inside.kept.entries in
    let found : Contains es (c.args.key, c.in-Some.block) = subst (λ (o : Option (List BlockEntry)). IfSome o (λ b. Contains es (c.args.key, b))) c.in-Some.is c.in_ok-block.ensures.found in
    let fits = (backed s.files s.is_told (c.args.key, c.in-Some.block) (subst (λ (l : Cached). Contains l.kept (c.args.key, c.in-Some.block)) c.self.view_is found)).1 docs s in
    subst (λ (os : List Entry). FitBlock os c.args.key.range c.in-Some.block) (sym same) fits

pub returns-in-Some-clause-origin : goal.returns-in-Some-clause-origin
returns-in-Some-clause-origin g c =
    let es = c.self.inside.kept.entries in
    let found : Contains es (c.args.key, c.in-Some.block) = subst (λ (o : Option (List BlockEntry)). IfSome o (λ b. Contains es (c.args.key, b))) c.in-Some.is c.in_ok-block.ensures.found in
    inl (subst (λ (l : Cached). Contains l.kept (c.args.key, c.in-Some.block)) c.self.view_is found)

pub returns-clause-cache : goal.returns-clause-cache
returns-clause-cache g c = λ e h. subst (λ (l : Cached). Contains l.kept e) c.self.view_is (c.in_ok-block.ensures.stay e (subst (λ (l : List KeptBlock). Contains l e) c.read.ensures.same h))

pub returns-clause-exact : goal.returns-clause-exact
returns-clause-exact g c = λ f told backed. c.read.ensures.exact f told

pub returns-clause-origin : goal.returns-clause-origin
returns-clause-origin g c =
    came-read (g.T.Store.files c.args.store.now) c.args.self.now c.args.documents.now c.args.key c.read.result c.read.ensures.fits c.read.ensures.exact
