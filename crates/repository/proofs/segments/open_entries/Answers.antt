use Rattle.std.proofs.Common.{◌≡◌, ◌+◌, ◌∙◌, ◌++◌, ◌∷◌, [], List, Option, ap, arith, inr, subst, sym, take}
use Rattle.std.specs.List.{AllZip}
use Rattle.std.proofs.lemmas.List.{take_more}
use Rattle.std.proofs.lemmas.Result.{err_from_is_err_and}
use Rattle.std.proofs.lemmas.Slice.Zip.{all_zipped_more}
use Rattle.store_ends.specs.Files.{Files}
use Rattle.manifest.specs.declared.manifest.SegEntry.{SegEntry}
use Rattle.disk_index.specs.QuietLaws.{IsQuiet-then}
use Rattle.disk_index.specs.Snapshots.{Marked}
use Rattle.repository.specs.Opening.{IsEntryOpened}
use Rattle.repository.specs.Stands.{IsListed}
use Rattle.repository.proofs.FirstLemmas.{first-refused}
use Rattle.repository.proofs.OpenLemmas.{listed-at}
use Rattle.repository.proofs.segments.open_entries.Goals as goal

pub returns-in_err-part-clause-honest : goal.returns-in_err-part-clause-honest
returns-in_err-part-clause-honest g c = λ segments listed.
    let p = err_from_is_err_and c.from_residual-in_err-part.result c.from_residual-in_err-part.ensures.1 in
    let here = listed-at (g.T.Store.files c.args.store.now) c.args.entries.now segments c.loop-entry.entry-index c.entry-item.result listed c.loop-entry-test.true c.entry-item.is in
    let now = subst (λ (o : Option Files). IsListed o c.entry-item.result here.0) (sym c.loop-entry.invariant.quiet.same_files) here.1 in
    rw (p.1, p.2) (c.in_err-part.ensures.honest here.0 now)

pub returns-in_err-part-clause-fault : goal.returns-in_err-part-clause-fault
returns-in_err-part-clause-fault g c = λ f told.
    let inv = c.loop-entry.invariant in
    let p = err_from_is_err_and c.from_residual-in_err-part.result c.from_residual-in_err-part.ensures.1 in
    let refused = c.in_err-part.ensures.fault f (inv.quiet.same_files ∙ told) in
    rw (p.1, p.2)
    (inr (first-refused (g.T.Store.files c.args.store.now) f c.args.entries.now c.loop-entry.parts.items c.loop-entry.entry-index c.entry-item.result _ told inv.opened c.loop-entry-test.true c.entry-item.is refused))

pub loop-entry-preserved : goal.loop-entry-preserved
loop-entry-preserved g c =
    let inv = c.loop-entry.invariant in
    let told = g.T.Store.files c.args.store.now in
    let more : take (c.loop-entry.entry-index + 1) c.args.entries.now ≡ take c.loop-entry.entry-index c.args.entries.now ++ c.entry-item.result ∷ [] =
    take_more c.args.entries.now c.loop-entry.entry-index c.entry-item.result c.loop-entry-test.true ∙ ap (λ (e : SegEntry). take c.loop-entry.entry-index c.args.entries.now ++ e ∷ []) (sym c.entry-item.is) in
    let here : IsEntryOpened told c.entry-item.result c.in_ok-part.part = subst (λ (o : Option Files). IsEntryOpened o c.entry-item.result c.in_ok-part.part) inv.quiet.same_files c.in_ok-part.ensures.opened in
    record {
      opened = subst (λ (es : List SegEntry). AllZip (IsEntryOpened told) es c.put_behind.new.parts.items) (sym more)
          (subst (λ (ms : List Marked). AllZip (IsEntryOpened told) (take c.loop-entry.entry-index c.args.entries.now ++ c.entry-item.result ∷ []) ms) (sym c.in_ok-put_behind.ensures)
          (all_zipped_more (IsEntryOpened told) _ _ c.entry-item.result c.in_ok-part.part inv.opened here));
      quiet = IsQuiet-then g.T.Store.files g.T.Store.layers g.T.Store.clock g.T.Store.since g.T.Store.longest g.T.Store.held g.T.Store.faults c.args.store.now c.loop-entry.store c.open_entry.new.store inv.quiet c.open_entry.ensures.quiet;
      later = (let a = inv.later in let b = c.open_entry.ensures.later in omega (arith, a, b));
    }
