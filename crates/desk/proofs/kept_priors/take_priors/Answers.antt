use Rattle.std.proofs.Common.{◌≡◌, ◌<◌, ◌≤◌, ◌+◌, ◌++◌, ◌∷◌, [], List, Option, drop, length, map, inr, ap, refl, sym, subst, ◌∙◌, arith}
use Rattle.std.specs.List.{AllZip}
use Rattle.std.proofs.lemmas.List.{length-map, length-set, length_push, take_all}
use Rattle.std.proofs.lemmas.Result.{err_from_is_err_and}
use Rattle.std.proofs.lemmas.Slice.Zip.{AllZip-long}
use Rattle.store_ends.specs.Files.{Files}
use Rattle.disk_index.specs.QuietLaws.{IsQuiet-same, IsQuiet-then}
use Rattle.manifest.specs.declared.manifest.PriorEntry.{PriorEntry}
use Rattle.repository.specs.Stands.{IsPriorListed, IsPriorRead}
use Rattle.repository.specs.States.{ReadsAs}
use Rattle.desk.specs.Priors.{run_priors}
use Rattle.desk.proofs.PlugLemmas.{entry-at, is-free, listed-next, plug-next, priors-all, reads-next, told_prior}
use Rattle.desk.proofs.kept_priors.take_priors.Goals as goal

pub loop-number-init : goal.loop-number-init
loop-number-init g c = record {
  front = ([], refl, c.requires.plugs);
  reads = λ col reads. c.requires.plugs;
  listed = λ f told. ([], tt, c.requires.plugs);
  many = sym (length-map c.args.plugs.now (λ b. (goal.BeliefNode-dyn g (b.vtable, b.value)).meaning b.value)) ∙ ap length c.requires.plugs;
  quiet = IsQuiet-same g.T.Store.files g.T.Store.layers g.T.Store.clock g.T.Store.since g.T.Store.longest g.T.Store.held g.T.Store.faults _;
  later = omega arith;
}

pub returns-in_err-rows-clause-fault : goal.returns-in_err-rows-clause-fault
returns-in_err-rows-clause-fault g c = λ f told.
    let inside : c.loop-number.number < length c.args.repository.now.priors = omega (arith, c.loop-number-test.true, ap length c.priors-count.ensures.list) in
    let e = entry-at c.args.repository.now.priors c.loop-number.number inside in
    let p = err_from_is_err_and c.from_residual.result c.from_residual.ensures.1 in
    rw (p.1, p.2) (inr (e.0, e.2, c.in_err-rows.ensures.fault f e.0 (c.loop-number.invariant.quiet.same_files ∙ told) e.1))

pub take_rows-requires : goal.take_rows-requires
take_rows-requires g c =
    let n = c.loop-number.number in
    let inv = c.loop-number.invariant in
    let list : length c.priors-count.result.now ≡ length c.args.repository.now.priors = ap length c.priors-count.ensures.list in
    let most : length c.args.repository.now.priors ≤ 8 = c.priors-count.ensures.few c.requires.usable in
    let few : n < 8 = omega (arith, c.loop-number-test.true, list, most) in
    record { empty = is-free _ c.loop-number.plugs n few inv.front.0 c.index-plugs-number.result (omega (arith, few, inv.many)) inv.front.1 inv.front.2 }

pub loop-number-preserved : goal.loop-number-preserved
loop-number-preserved g c =
    let told = g.T.Store.files c.args.store.now in
    let here = g.T.Store.files c.loop-number.store in
    let n = c.loop-number.number in
    let inv = c.loop-number.invariant in
    let plugs = c.loop-number.plugs in
    let new = c.take_rows.new.plug in
    let rows = c.in_ok-rows.rows in
    let tells = (goal.BeliefNode-dyn g (new.vtable, new.value)).meaning new.value in
    let own = c.in_ok-rows.ensures in
    let es = c.args.repository.now.priors in
    let list : length c.priors-count.result.now ≡ length c.args.repository.now.priors = ap length c.priors-count.ensures.list in
    let most : length c.args.repository.now.priors ≤ 8 = c.priors-count.ensures.few c.requires.usable in
    let few : n < 8 = omega (arith, c.loop-number-test.true, list, most) in
    let inside : n < length es = omega (arith, c.loop-number-test.true, ap length c.priors-count.ensures.list) in
    let same : here ≡ told = inv.quiet.same_files in
    record {
      front = (inv.front.0 ++ tells ∷ [], length_push inv.front.0 tells ∙ ap (λ k. k + 1) inv.front.1, plug-next _ plugs n few inv.front.0 new tells inv.front.1 inv.front.2 refl);
      reads = λ col reads.
          let long : length col.priors ≡ length es = AllZip-long (IsPriorListed told) es col.priors reads.priors_are in
          let now = subst (λ (o : Option Files). ReadsAs o c.args.repository.now col) (sym same) reads in
          reads-next _ plugs n few col.priors new rows (omega (arith, inside, long)) (inv.reads col reads) c.in_ok-take_rows.ensures (λ p at. own.reads col p now at);
      listed = λ files is.
          let q = inv.listed files is in
          listed-next _ plugs n few told es q.0 new rows inside q.1 q.2 c.in_ok-take_rows.ensures
          (λ e at. subst (λ (o : Option Files). IsPriorRead o e (record { name = e.name; table = rows })) same (own.rows files e (same ∙ is) at));
      many = length-set plugs n new ∙ inv.many;
      quiet = IsQuiet-then g.T.Store.files g.T.Store.layers g.T.Store.clock g.T.Store.since g.T.Store.longest g.T.Store.held g.T.Store.faults _ _ _ inv.quiet own.quiet;
      later = omega (arith, inv.later, own.later);
    }

pub returns-clause-priors : goal.returns-clause-priors
returns-clause-priors g c = λ col reads.
    let n = c.loop-number.number in
    let es = c.args.repository.now.priors in
    let long : length col.priors ≡ length es = AllZip-long (IsPriorListed (g.T.Store.files c.args.store.now)) es col.priors reads.priors_are in
    let all : n ≡ length col.priors = omega (arith, c.loop-number-test.false, c.loop-number.auto.number-end, ap length c.priors-count.ensures.list, long) in
    c.loop-number.invariant.reads col reads ∙ priors-all col.priors n all

pub returns-clause-listed : goal.returns-clause-listed
returns-clause-listed g c = λ files is.
    let told = g.T.Store.files c.args.store.now in
    let n = c.loop-number.number in
    let es = c.args.repository.now.priors in
    let q = c.loop-number.invariant.listed files is in
    let past : length es ≤ n = omega (arith, c.loop-number-test.false, ap length c.priors-count.ensures.list) in
    let all : AllZip (IsPriorRead told) es q.0 = subst (λ (xs : List PriorEntry). AllZip (IsPriorRead told) xs q.0) (take_all n es past) q.1 in
    let count : n ≡ length q.0 = omega (arith, past, c.loop-number.auto.number-end, ap length c.priors-count.ensures.list, AllZip-long (IsPriorRead told) es q.0 all) in
    (q.0, all, q.2 ∙ ap (λ m. map told_prior q.0 ++ drop m run_priors) count)
