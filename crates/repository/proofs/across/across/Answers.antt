use Rattle.std.proofs.Common.{◌<◌, ◌⊎◌, inl, inr, length}
use Rattle.ri_base.specs.Faults.{IsOutside}
use Rattle.holdings.specs.declared.refusals.PartsFault.TheVariants.{Repeated}
use Rattle.repository.specs.Opening.{TellsAcross}
use Rattle.repository.proofs.FirstLemmas.{part-at}
use Rattle.repository.proofs.across.across.Goals as goal

pub returns-in-Repeated-clause-tells : goal.returns-in-Repeated-clause-tells
returns-in-Repeated-clause-tells g c = λ f ms told opened.
    let entry = c.index-entries-part-in-Repeated.result in
    let is = c.index-entries-part-in-Repeated.is in
    let below : c.in-Repeated.part < length c.args.entries.now = rw c.in-Repeated.is at c.requires in
    let part = part-at f c.args.entries.now ms c.in-Repeated.part entry opened below is in
    let tells : TellsAcross c.args.entries.now ms (Repeated c.in-Repeated.part c.in-Repeated.id) c.docno_fault.result ⊎ IsOutside c.docno_fault.result =
    elim (c.docno_fault.ensures.tells f part.0 told part.2) [ inl at ↦ inl (entry, part.0, is, part.1, at) | inr outside ↦ inr outside ] in
    rw c.in-Repeated.is tells
