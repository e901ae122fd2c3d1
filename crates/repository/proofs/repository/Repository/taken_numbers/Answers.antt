use Rattle.std.proofs.Common.{◌++◌, ◌∙◌, List, ap, subst, sym, ℕ}
use Rattle.manifest.specs.Listing.{AreNumbered, prior_numbers}
use Rattle.manifest.specs.declared.manifest.PriorEntry.{PriorEntry}
use Rattle.disk_index.specs.Snapshots.{Marked}
use Rattle.repository.specs.States.{State, part_numbers}
use Rattle.repository.proofs.ListedLemmas.{all-listed, next-some}
use Rattle.repository.proofs.Views.{seen}
use Rattle.repository.proofs.repository.Repository.taken_numbers.Goals as goal

pub of-requires-clause-some : goal.of-requires-clause-some
of-requires-clause-some c =
    let view = seen c.self.view_is in
    next-some view (c.self.invariant.0 (ap (λ (x : State). x.usable) c.self.view_is ∙ c.requires))

pub of-requires-clause-numbered : goal.of-requires-clause-numbered
of-requires-clause-numbered c =
    let view = seen c.self.view_is in
    let all = all-listed view (c.self.invariant.0 (ap (λ (x : State). x.usable) c.self.view_is ∙ c.requires)) in
    let parts = subst (λ (ms : List Marked). AreNumbered view.next (part_numbers ms ++ (view.stale ++ prior_numbers view.priors))) (sym c.closed_parts.ensures.parts) all in
    let stale = subst (λ (ns : List ℕ). AreNumbered view.next (part_numbers c.closed_parts.result.now ++ (ns ++ prior_numbers view.priors))) (sym c.deref.ensures.value) parts in
    subst (λ (ps : List PriorEntry). AreNumbered view.next (part_numbers c.closed_parts.result.now ++ (c.deref.result.now ++ prior_numbers ps))) (sym c.deref-2.ensures.value) stale
