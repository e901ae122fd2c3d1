use Rattle.std.proofs.Common.{◌∙◌, List, ap, refl, subst, arith, length}
use Rattle.std.specs.List.{All}
use Rattle.std.proofs.lemmas.List.{take_all}
use Rattle.std.proofs.lemmas.List.Elements.{All-nil}
use Rattle.std.proofs.lemmas.Slice.Zip.{AllZip-long}
use Rattle.store_ends.proofs.Files.{Leaves-same, SameWhere-same}
use Rattle.disk_index.specs.Snapshots.{Marked}
use Rattle.store_ends.specs.Files.{SameWhere}
use Rattle.repository.specs.Saved.{IsSaved, IsUnlisted}
use Rattle.repository.specs.Writes.{IsOther}
use Rattle.repository.proofs.GoingLemmas.{going-same, going-then}
use Rattle.repository.proofs.ListedLemmas.{IsStored}
use Rattle.repository.proofs.SaveLemmas.{first-stored, leaves-then, others-then, saves-none, saves-then}
use Rattle.repository.proofs.saving.write_parts.Goals as goal

pub loop-place-init : goal.loop-place-init
loop-place-init g c = record {
  saved = saves-none (g.T.Store.files c.args.store.now) c.args.numbers.now c.args.held.now;
  first = All-nil IsStored;
  same = SameWhere-same (IsOther (IsUnlisted c.args.numbers.now.numbers)) (g.T.Store.files c.args.store.now);
  stops = Leaves-same (g.T.Store.since c.args.store.now) (SameWhere (IsOther (IsUnlisted c.args.numbers.now.numbers)) (g.T.Store.files c.args.store.now));
  goes_on = going-same g.T.Store.layers g.T.Store.clock g.T.Store.longest g.T.Store.held c.args.store.now;
  later = omega arith;
  none = refl;
}

pub write_part-requires : goal.write_part-requires
write_part-requires g c =
    let inv = c.loop-place.invariant in
    let long = AllZip-long (IsSaved (g.T.Store.files c.loop-place.store) c.loop-place.numbers.numbers) _ _ inv.saved.parts in
    let count = ap (λ (l : List Marked). length l) c.closed_parts-place-end.ensures.parts in
    omega (arith, long, count, c.loop-place-test.true)

pub loop-place-preserved : goal.loop-place-preserved
loop-place-preserved g c =
    let inv = c.loop-place.invariant in
    let step = c.in_ok-write_part.ensures.saved in
    let told = g.T.Store.files c.write_part.new.store in
    let long = AllZip-long (IsSaved (g.T.Store.files c.loop-place.store) c.loop-place.numbers.numbers) _ _ inv.saved.parts in
    let longer = AllZip-long (IsSaved told c.write_part.new.numbers.numbers) _ _ step.parts in
    let count = ap (λ (l : List Marked). length l) c.closed_parts-place-end.ensures.parts in
    record {
      saved = saves-then (g.T.Store.files c.loop-place.store) told c.args.numbers.now c.loop-place.numbers c.write_part.new.numbers c.args.held.now c.loop-place.held c.write_part.new.held inv.saved c.write_part.ensures.same step;
      first = first-stored told c.write_part.new.numbers.numbers c.loop-place.place c.loop-place.held.parts.closed c.write_part.new.held.parts.closed step.parts inv.first c.in_ok-write_part.ensures.on_disk
          (omega (arith, long, longer, count, c.loop-place-test.true));
      same = others-then c.args.numbers.now.numbers c.loop-place.numbers.numbers _ _ _ inv.saved.taken inv.same c.write_part.ensures.same;
      stops = leaves-then _ _ _ c.args.numbers.now.numbers c.loop-place.numbers.numbers _ _ inv.saved.taken inv.same inv.stops c.write_part.ensures.stops;
      goes_on = going-then g.T.Store.layers g.T.Store.clock g.T.Store.longest g.T.Store.held c.args.store.now c.loop-place.store c.write_part.new.store inv.goes_on c.write_part.ensures.goes_on;
      later = (let a = inv.later in let b = c.write_part.ensures.later in omega (arith, a, b));
      none = c.in_ok-write_part.ensures.none (λ e. cc) ∙ inv.none;
    }

pub returns-clause-on_disk : goal.returns-clause-on_disk
returns-clause-on_disk g c =
    let inv = c.loop-place.invariant in
    let long = AllZip-long (IsSaved (g.T.Store.files c.loop-place.store) c.loop-place.numbers.numbers) _ _ inv.saved.parts in
    let count = ap (λ (l : List Marked). length l) c.closed_parts-place-end.ensures.parts in
    subst (All IsStored) (take_all c.loop-place.place c.loop-place.held.parts.closed (omega (arith, long, count, c.loop-place-test.false))) inv.first
