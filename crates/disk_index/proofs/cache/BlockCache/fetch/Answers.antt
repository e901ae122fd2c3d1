use Rattle.std.proofs.Common.{List, Option, Contains, IfSome, inl, inr, refl, subst, sym}
use Rattle.seg_codec.specs.Fits.{FitBlock}
use Rattle.seg_codec.specs.declared.blocks.BlockEntry.{BlockEntry}
use Rattle.seg_codec.specs.declared.documents.Entry.{Entry}
use Rattle.disk_index.specs.Cache.{AllIn, AllKept, Cached, KeptBlock}
use Rattle.disk_index.proofs.CacheLemmas.{fetched}
use Rattle.disk_index.proofs.cache.BlockCache.fetch.Goals as goal
use Rattle.disk_index.proofs.cache.BlockCache.fetch.Goals.{in-Ok, in_default-share}

pub returns-in_err-block-clause-cache : goal.returns-in_err-block-clause-cache
returns-in_err-block-clause-cache g c = record { each = λ e h. inl (subst (λ (l : Cached). Contains l.kept e) c.self.view_is (c.in_err-block.ensures.stay e h)) }

pub returns-in-Some-clause-cache : goal.returns-in-Some-clause-cache
returns-in-Some-clause-cache g c = record { each = λ e h. inl (subst (λ (l : Cached). Contains l.kept e) c.self.view_is (c.in_ok-block.ensures.stay e h)) }

pub returns-in-Some-clause-exact : goal.returns-in-Some-clause-exact
returns-in-Some-clause-exact g c = λ f told backed.
    let es = c.self.inside.kept.entries in
    let found : Contains es (c.args.key, c.in-Some.block) = subst (λ (o : Option (List BlockEntry)). IfSome o (λ b. Contains es (c.args.key, b))) c.in-Some.is c.in_ok-block.ensures.found in
    (backed f refl (c.args.key, c.in-Some.block) (subst (λ (l : Cached). Contains l.kept (c.args.key, c.in-Some.block)) c.self.view_is found)).0

pub returns-in-Some-clause-fits : goal.returns-in-Some-clause-fits
returns-in-Some-clause-fits g c = λ docs s same backed.
    let es = c.self.inside.kept.entries in
    let found : Contains es (c.args.key, c.in-Some.block) = subst (λ (o : Option (List BlockEntry)). IfSome o (λ b. Contains es (c.args.key, b))) c.in-Some.is c.in_ok-block.ensures.found in
    let fits = (backed s.files s.is_told (c.args.key, c.in-Some.block) (subst (λ (l : Cached). Contains l.kept (c.args.key, c.in-Some.block)) c.self.view_is found)).1 docs s in
    subst (λ (os : List Entry). FitBlock os c.args.key.range c.in-Some.block) (sym same) fits

pub returns-in-Some-clause-origin : goal.returns-in-Some-clause-origin
returns-in-Some-clause-origin g c =
    let es = c.self.inside.kept.entries in
    let found : Contains es (c.args.key, c.in-Some.block) = subst (λ (o : Option (List BlockEntry)). IfSome o (λ b. Contains es (c.args.key, b))) c.in-Some.is c.in_ok-block.ensures.found in
    inl (subst (λ (l : Cached). Contains l.kept (c.args.key, c.in-Some.block)) c.self.view_is found)

pub returns-clause-origin : goal.returns-clause-origin
returns-clause-origin g c = inr (record { fit = c.in_ok-block-2.ensures.fits; bytes = λ f told. (c.in_ok-block-2.ensures.exact f told).bytes })

pub returns-in_err-block-2-clause-cache : goal.returns-in_err-block-2-clause-cache
returns-in_err-block-2-clause-cache g c = record { each = λ e h. inl (subst (λ (l : Cached). Contains l.kept e) c.self.view_is (c.in_ok-block.ensures.stay e (subst (λ (l : List KeptBlock). Contains l e) c.read.ensures.same h))) }

pub returns-clause-exact : goal.returns-clause-exact
returns-clause-exact g c = λ f told backed. c.in_ok-block-2.ensures.exact f told

pub returns-clause-cache : goal.returns-clause-cache
returns-clause-cache g c =
    let now = c.args.self.now in
    let mid = c.read.new.self in
    let stay : AllKept now mid = λ e h. subst (λ (l : Cached). Contains l.kept e) c.self.view_is (c.in_ok-block.ensures.stay e (subst (λ (l : List KeptBlock). Contains l e) c.read.ensures.same h)) in
    let back : AllIn mid.kept c.self-2.inside.kept.entries = λ e h. subst (λ (l : Cached). Contains l.kept e) c.self-2.view_is h in
    elim c.match-share.branch [
      | in-Ok w ↦ fetched (g.T.Store.files c.args.store.now) c.args.key c.args.documents.now now mid c.match-share.self c.in_ok-block-2.block w.in-Ok.shared stay
          (λ e h. elim (w.keep.ensures e (subst (λ (l : Cached). Contains l.kept e) w.self-is h)) [ inl was ↦ inl (back e was) | inr is ↦ inr is ]) w.in-Ok.ensures c.in_ok-block-2.ensures.fits c.in_ok-block-2.ensures.exact
      | in_default-share w ↦ record { each = λ e h. inl (stay e (subst (λ (l : Cached). Contains l.kept e) w.self-is h)) }
    ]
