use Rattle.std.proofs.Common.{refl, sym, subst}
use Rattle.repository.specs.RealLimits.{AreReal}
use Rattle.indri_app.proofs.OpeningLemmas.{file-of, store-of_files, want-of}
use Rattle.indri_app.proofs.WholeLemmas.{intact-empty}
use Rattle.indri_app.proofs.creation.open_made.Goals as goal

-- it is open

pub returns-in-Ok-Some-clause-opened : goal.returns-in-Ok-Some-clause-opened
returns-in-Ok-Some-clause-opened g c = λ stands.
    let limits = c.real.ensures in
    let real : AreReal c.real.result = record { part_docs = limits.part_docs; held_docs = limits.held_docs; held_tokens = limits.held_tokens } in
    let fresh = rw c.in-Ok-Some.field-0-is at c.in-Ok-Some.ensures.fresh in
    record {
      backed = rw c.in-Ok-Some.field-0-is at (c.in-Ok-Some.ensures.backed _ (stands c.real.result real));
      real = subst AreReal (sym fresh.limits_are) real;
      stands = stands;
      reads = rw c.in-Ok-Some.field-0-is at (c.in-Ok-Some.ensures.reads _ (stands c.real.result real));
    }

pub returns-in-Ok-Some-clause-intact : goal.returns-in-Ok-Some-clause-intact
returns-in-Ok-Some-clause-intact g c = λ stands.
    let limits = c.real.ensures in
    let real : AreReal c.real.result = record { part_docs = limits.part_docs; held_docs = limits.held_docs; held_tokens = limits.held_tokens } in
    let there = (stands c.real.result real).has in
    let reads = rw c.in-Ok-Some.field-0-is at (c.in-Ok-Some.ensures.reads _ (stands c.real.result real)) in
    let opened = rw c.in-Ok-Some.field-0-is at (c.in-Ok-Some.ensures.opened there.files there.is_told) in
    intact-empty _ _ c.in-Ok-Some.repository opened reads.documents_are

pub returns-in-Ok-Some-clause-usable : goal.returns-in-Ok-Some-clause-usable
returns-in-Ok-Some-clause-usable g c = let fresh = rw c.in-Ok-Some.field-0-is at c.in-Ok-Some.ensures.fresh in fresh.usable

pub returns-in-Ok-Some-clause-unmerged : goal.returns-in-Ok-Some-clause-unmerged
returns-in-Ok-Some-clause-unmerged g c = let fresh = rw c.in-Ok-Some.field-0-is at c.in-Ok-Some.ensures.fresh in fresh.unmerged

-- the manifest is gone

pub returns-in-Ok-None-clause-honest : goal.returns-in-Ok-None-clause-honest
returns-in-Ok-None-clause-honest g c = λ stands.
    let limits = c.real.ensures in
    let real : AreReal c.real.result = record { part_docs = limits.part_docs; held_docs = limits.held_docs; held_tokens = limits.held_tokens } in
    rw c.in-Ok-None.field-0-is at (c.in-Ok-None.ensures.reads _ (stands c.real.result real))

-- it can't be opened

pub returns-in-Err-clause-honest : goal.returns-in-Err-clause-honest
returns-in-Err-clause-honest g c = λ stands.
    let limits = c.real.ensures in
    let real : AreReal c.real.result = record { part_docs = limits.part_docs; held_docs = limits.held_docs; held_tokens = limits.held_tokens } in
    rw c.of_files.ensures (want-of c.in-Err.fault (c.in-Err.ensures.honest _ (stands c.real.result real)))

pub returns-in-Err-clause-only : goal.returns-in-Err-clause-only
returns-in-Err-clause-only g c = rw c.of_files.ensures (file-of c.in-Err.fault)

pub returns-in-Err-clause-store : goal.returns-in-Err-clause-store
returns-in-Err-clause-store g c = λ is. let one = store-of_files c.in-Err.fault cc in c.in-Err.ensures.store (rw one refl)
