use Rattle.std.proofs.Common.{List, refl, subst, sym}
use Rattle.manifest.specs.declared.manifest.SegEntry.{SegEntry}
use Rattle.repository.specs.Opening.{AreEntriesHeld}
use Rattle.repository.proofs.OpenLemmas.{numbered-opened, stored-opened}
use Rattle.repository.proofs.repository.of_manifest.Goals as goal

pub invariant_of-result : goal.invariant_of-result
invariant_of-result g c = (
  λ usable.
      let told = g.T.Store.files c.args.store.now in
      let held = subst (λ (es : List SegEntry). AreEntriesHeld told c.args.limits es c.in_ok-held.held) c.as_slice.ensures c.in_ok-held.ensures.held in
      numbered-opened told c.args.limits c.args.list _ c.requires held refl (sym c.into_vec.ensures) (sym c.into_vec-2.ensures),
  λ usable. tt,
)

pub returns-clause-stored : goal.returns-clause-stored
returns-clause-stored g c =
    let told = g.T.Store.files c.args.store.now in
    stored-opened told c.args.limits c.as_slice.result.now c.in_ok-held.held c.in_ok-held.ensures.held
