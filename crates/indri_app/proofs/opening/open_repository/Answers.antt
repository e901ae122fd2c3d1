use Rattle.std.proofs.Common.{refl, sym, subst}
use Rattle.holdings.specs.declared.limits.Limits.{Limits}
use Rattle.repository.specs.Opening.{IsRepositoryOpened}
use Rattle.repository.specs.RealLimits.{AreReal}
use Rattle.indri_app.proofs.OpeningLemmas.{absent-opening, none-there, not-absent, open-of, some-there, store-of_files, want-of}
use Rattle.indri_app.proofs.opening.open_repository.Goals as goal

-- it is open

pub returns-in-Ok-Some-clause-opened : goal.returns-in-Ok-Some-clause-opened
returns-in-Ok-Some-clause-opened g c = λ k stands.
    let limits = c.real.ensures in
    let real : AreReal c.real.result = record { part_docs = limits.part_docs; held_docs = limits.held_docs; held_tokens = limits.held_tokens } in
    let fresh = rw c.in-Ok-Some.field-0-is at c.in-Ok-Some.ensures.fresh in
    record {
      backed = rw c.in-Ok-Some.field-0-is at (c.in-Ok-Some.ensures.backed k (stands c.real.result real));
      real = subst AreReal (sym fresh.limits_are) real;
      stands = stands;
      reads = rw c.in-Ok-Some.field-0-is at (c.in-Ok-Some.ensures.reads k (stands c.real.result real));
    }

pub returns-in-Ok-Some-clause-usable : goal.returns-in-Ok-Some-clause-usable
returns-in-Ok-Some-clause-usable g c = let fresh = rw c.in-Ok-Some.field-0-is at c.in-Ok-Some.ensures.fresh in fresh.usable

pub returns-in-Ok-Some-clause-stored : goal.returns-in-Ok-Some-clause-stored
returns-in-Ok-Some-clause-stored g c = rw c.in-Ok-Some.field-0-is at c.in-Ok-Some.ensures.stored

pub returns-in-Ok-Some-clause-unmerged : goal.returns-in-Ok-Some-clause-unmerged
returns-in-Ok-Some-clause-unmerged g c = let fresh = rw c.in-Ok-Some.field-0-is at c.in-Ok-Some.ensures.fresh in fresh.unmerged

pub returns-in-Ok-Some-clause-real : goal.returns-in-Ok-Some-clause-real
returns-in-Ok-Some-clause-real g c =
    let limits = c.real.ensures in
    let real : AreReal c.real.result = record { part_docs = limits.part_docs; held_docs = limits.held_docs; held_tokens = limits.held_tokens } in
    let fresh = rw c.in-Ok-Some.field-0-is at c.in-Ok-Some.ensures.fresh in
    subst AreReal (sym fresh.limits_are) real

pub returns-in-Ok-Some-clause-read : goal.returns-in-Ok-Some-clause-read
returns-in-Ok-Some-clause-read g c = λ f told.
    let fresh = rw c.in-Ok-Some.field-0-is at c.in-Ok-Some.ensures.fresh in
    subst (λ (l : Limits). IsRepositoryOpened (g.T.Store.files c.args.store.now) l c.in-Ok-Some.repository) (sym fresh.limits_are) (rw c.in-Ok-Some.field-0-is at (c.in-Ok-Some.ensures.opened f told))

pub returns-in-Ok-Some-clause-there : goal.returns-in-Ok-Some-clause-there
returns-in-Ok-Some-clause-there g c = λ f told. sym (rw c.in-Ok-Some.field-0-is at (c.in-Ok-Some.ensures.there f told))

pub returns-in-Ok-Some-clause-without : goal.returns-in-Ok-Some-clause-without
returns-in-Ok-Some-clause-without g c = λ f told none. absurd (some-there _ (rw c.in-Ok-Some.field-0-is at (c.in-Ok-Some.ensures.there f told)) none)

-- there is no manifest

pub returns-in-Ok-None-clause-honest : goal.returns-in-Ok-None-clause-honest
returns-in-Ok-None-clause-honest g c = λ k stands.
    let limits = c.real.ensures in
    let real : AreReal c.real.result = record { part_docs = limits.part_docs; held_docs = limits.held_docs; held_tokens = limits.held_tokens } in
    rw c.in-Ok-None.field-0-is at (c.in-Ok-None.ensures.reads k (stands c.real.result real))

pub returns-in-Ok-None-clause-absent : goal.returns-in-Ok-None-clause-absent
returns-in-Ok-None-clause-absent g c = λ f told is. none-there _ (rw c.in-Ok-None.field-0-is at (c.in-Ok-None.ensures.there f told))

pub returns-in-Ok-None-clause-without : goal.returns-in-Ok-None-clause-without
returns-in-Ok-None-clause-without g c = λ f told none. (tt, tt)

-- it can't be opened

pub returns-in-Err-clause-honest : goal.returns-in-Err-clause-honest
returns-in-Err-clause-honest g c = λ k stands.
    let limits = c.real.ensures in
    let real : AreReal c.real.result = record { part_docs = limits.part_docs; held_docs = limits.held_docs; held_tokens = limits.held_tokens } in
    rw c.of_files.ensures (want-of c.in-Err.fault (c.in-Err.ensures.honest k (stands c.real.result real)))

pub returns-in-Err-clause-absent : goal.returns-in-Err-clause-absent
returns-in-Err-clause-absent g c = λ f told is. absurd (not-absent c.in-Err.fault cc)

pub returns-in-Err-clause-without : goal.returns-in-Err-clause-without
returns-in-Err-clause-without g c = λ f told none. (tt, rw c.of_files.ensures (absent-opening f _ c.in-Err.fault none (c.in-Err.ensures.fault f told)))

pub returns-in-Err-clause-only : goal.returns-in-Err-clause-only
returns-in-Err-clause-only g c = rw c.of_files.ensures (open-of c.in-Err.fault)

pub returns-in-Err-clause-store : goal.returns-in-Err-clause-store
returns-in-Err-clause-store g c = λ is. let one = store-of_files c.in-Err.fault cc in c.in-Err.ensures.store (rw one refl)
