use Rattle.std.proofs.Common.{◌≡◌, ◌∙◌, ap, refl, subst, sym, List, rules}
use Rattle.std.specs.Prelude.{Err, Ok}
use Rattle.std.proofs.lemmas.Result.{err_from_is_err_and}
use Rattle.ri_base.specs.Expression.{expr_tree}
use Rattle.disk_index.specs.Snapshots as snapshots
use Rattle.disk_index.specs.Snapshots.{AreBacked, AreIntact, Marked}
use Rattle.repository.specs.States.{part_numbers}
use Rattle.session_events.specs.declared.event.Event.TheVariants as event
use Rattle.desk.specs.Asked.{IsNotTaken, scanned}
use Rattle.desk.specs.Backed.{IsDeskBacked, IsDeskIntact, Keeps, state_of}
use Rattle.desk.specs.Scanning.{extents_in}
use Rattle.desk.specs.declared.asking.NotTaken.{NotTaken}
use Rattle.desk.specs.declared.asking.NotTaken.TheVariants as not_taken
use Rattle.desk.proofs.CacheLemmas.{cache-read, listed-now}
use Rattle.desk.proofs.Cases.{scan-fault, scan-found}
use Rattle.desk.proofs.Closing.{snapped-kept}
use Rattle.desk.proofs.Exits.{accepted-by, leaves-failed, refused-exit, refused-so}
use Rattle.desk.proofs.Found.{seen}
use Rattle.desk.proofs.IntactLemmas.{intact-from, merge-moved}
use Rattle.desk.proofs.ReadingExits.{scan-done, with_read}
use Rattle.repository.specs.States as repositories
use Rattle.desk.proofs.kept.Kept.scan.Goals as goal

pub returns-in-Err-Refused-clause-steps : goal.returns-in-Err-Refused-clause-steps
returns-in-Err-Refused-clause-steps g c = λ backed.
    let told = g.T.Store.files c.args.store.now in
    let now : Keeps = c.args.self.now in
    let taken : IsNotTaken (scanned c.as_slice.result.now) (not_taken.Refused c.in-Err-Refused.refusal) = subst (λ (n : NotTaken). IsNotTaken (scanned c.as_slice.result.now) n) c.in-Err-Refused.field-0-is c.in-Err-Refused.ensures.refused in
    let why : scanned c.args.text.now ≡ Err c.in-Err-Refused.refusal = ap scanned (sym c.as_slice.ensures) ∙ taken in
    rw c.in-Err-Refused.field-0-is (refused-exit (event.Scan c.args.text.now) told now c.in-Err-Refused.refusal (scan-fault (state_of told now) c.args.text.now c.in-Err-Refused.refusal why) backed)

pub returns-in-Err-Refused-clause-refuses : goal.returns-in-Err-Refused-clause-refuses
returns-in-Err-Refused-clause-refuses g c = λ told.
    let now : Keeps = c.args.self.now in
    let taken : IsNotTaken (scanned c.as_slice.result.now) (not_taken.Refused c.in-Err-Refused.refusal) = subst (λ (n : NotTaken). IsNotTaken (scanned c.as_slice.result.now) n) c.in-Err-Refused.field-0-is c.in-Err-Refused.ensures.refused in
    let why : scanned c.args.text.now ≡ Err c.in-Err-Refused.refusal = ap scanned (sym c.as_slice.ensures) ∙ taken in
    rw c.in-Err-Refused.field-0-is (refused-so (event.Scan c.args.text.now) (state_of told now) c.in-Err-Refused.refusal (scan-fault (state_of told now) c.args.text.now c.in-Err-Refused.refusal why))

pub invariant_of-self : goal.invariant_of-self
invariant_of-self g c =
    λ usable there.
    let s = c.self.inside in
    snapped-kept c.snapshot.result s.repository c.snapshot.new.self s.queries.items s.counts c.snapshot.ensures.closed c.snapshot.ensures.left (c.self.invariant usable (sym c.snapshot.ensures.usable ∙ there))

pub invariant_of-self-2 : goal.invariant_of-self-2
invariant_of-self-2 g c =
    λ usable there.
    let s = c.self.inside in
    snapped-kept c.snapshot.result s.repository c.snapshot.new.self s.queries.items s.counts c.snapshot.ensures.closed c.snapshot.ensures.left (c.self.invariant usable (sym c.snapshot.ensures.usable ∙ there))

pub invariant_of-self-in_err-lines : goal.invariant_of-self-in_err-lines
invariant_of-self-in_err-lines g c =
    λ usable there.
    let s = c.self.inside in
    snapped-kept c.snapshot.result s.repository c.snapshot.new.self s.queries.items s.counts c.snapshot.ensures.closed c.snapshot.ensures.left (c.self.invariant usable (sym c.snapshot.ensures.usable ∙ there))

pub returns-clause-steps : goal.returns-clause-steps
returns-clause-steps g c = λ backed.
    let told = g.T.Store.files c.args.store.now in
    let after = g.T.Store.files c.scan.new.store in
    let view = seen c.self.inside in
    let text = c.args.text.now in
    let x = expr_tree c.in-Ok.expr in
    let parts = c.parts.result.now in
    let own : parts ≡ c.in_ok-snapshot.snapshot = c.parts.ensures.parts in
    let is : scanned text ≡ Ok x = ap scanned (sym c.as_slice.ensures) ∙ c.in-Ok.ensures.read in
    let numbers : part_numbers parts ≡ part_numbers view.repository.held.parts.closed = ap part_numbers own ∙ c.in_ok-snapshot.ensures.numbers in
    scan-done told after view c.args.self.now c.snapshot.new.self text x c.in_ok-lines.lines c.scan.new.cache c.self.view_is c.in_ok-snapshot.ensures.closed c.in_ok-lines.ensures.reads.quiet.same_files is
    (λ b. c.in_ok-lines.ensures.exact (subst (λ (ms : List Marked). AreBacked told ms) (sym own) (c.in_ok-snapshot.ensures.stored told b.repository)) b.cache.backed
    ∙ ap (λ (ms : List Marked). extents_in x (snapshots.live told ms)) own ∙ ap (extents_in x) (c.in_ok-snapshot.ensures.documents told))
    (λ b. cache-read told view.repository parts view.cache c.scan.new.cache (listed-now view.repository parts numbers) (subst (λ (ms : List Marked). AreBacked told ms) (sym own) (c.in_ok-snapshot.ensures.stored told b.repository)) c.in_ok-lines.ensures.reads.cache b.cache) backed

pub returns-clause-refuses : goal.returns-clause-refuses
returns-clause-refuses g c = λ told.
    let view = seen c.self.inside in
    let is : scanned c.args.text.now ≡ Ok (expr_tree c.in-Ok.expr) = ap scanned (sym c.as_slice.ensures) ∙ c.in-Ok.ensures.read in
    accepted-by (event.Scan c.args.text.now) told view c.args.self.now _ c.self.view_is (scan-found (state_of told view) c.args.text.now (expr_tree c.in-Ok.expr) is) refl

pub returns-in_err-lines-clause-honest : goal.returns-in_err-lines-clause-honest
returns-in_err-lines-clause-honest g c = λ backed intact.
    let told = g.T.Store.files c.args.store.now in
    let view = seen c.self.inside in
    let b : IsDeskBacked told view = subst (IsDeskBacked told) (sym c.self.view_is) backed in
    let i : IsDeskIntact told view = subst (IsDeskIntact told) (sym c.self.view_is) intact in
    let p = err_from_is_err_and c.from_residual-in_err-lines.result c.from_residual-in_err-lines.ensures.1 in
    rw (p.1, p.2) (c.in_err-lines.ensures.honest (subst (λ (ms : List Marked). AreIntact told ms) (sym c.parts.ensures.parts) (c.in_ok-snapshot.ensures.stored_intact told i.parts)) b.cache.backed)

pub returns-in_err-lines-clause-keeps : goal.returns-in_err-lines-clause-keeps
returns-in_err-lines-clause-keeps g c =
    let p = err_from_is_err_and c.from_residual-in_err-lines.result c.from_residual-in_err-lines.ensures.1 in
    rw (p.1, p.2) (leaves-failed _ (seen c.self.inside) c.args.self.now _ c.self.view_is refl c.in_err-lines.ensures.damaged)

pub returns-clause-keeps : goal.returns-clause-keeps
returns-clause-keeps g c = record {
  form = search rules;
  kind = ap (λ (x : Keeps). x.kind) c.self.view_is;
  unchanged = tt;
  usable = search rules;
  undamaged = c.in_ok-lines.ensures.undamaged ∙ ap (λ (x : Keeps). x.cache.damage) c.self.view_is;
  damaged = tt;
}

pub returns-clause-intact : goal.returns-clause-intact
returns-clause-intact g c = λ told whole.
    let view = seen c.self.inside in
    intact-from told told view c.args.self.now (with_read view c.snapshot.new.self c.scan.new.cache) c.self.view_is
    (λ w. record {
      parts = c.snapshot.ensures.intact told w.parts;
      queries = w.queries;
      merge = merge-moved told view.repository.merge c.snapshot.new.self.merge (ap (λ (x : repositories.State). x.merge) c.in_ok-snapshot.ensures.closed) w.merge;
    }) whole
