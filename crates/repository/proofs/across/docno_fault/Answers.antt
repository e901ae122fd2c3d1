use Rattle.std.proofs.Common.{ℕ, ap, inl, inr}
use Rattle.ri_base.specs.declared.seg_fault.FileName.TheVariants.{Segment}
use Rattle.ri_base.specs.declared.seg_fault.PartName.TheVariants.{Documents}
use Rattle.ri_base.specs.declared.seg_fault.SegFault.TheVariants.{Malformed}
use Rattle.repository.proofs.across.docno_fault.Goals as goal

pub returns-in-Ok-clause-tells : goal.returns-in-Ok-clause-tells
returns-in-Ok-clause-tells g c = λ f m told opened. inl (ap (λ (place : ℕ). Malformed (Segment c.args.entry.now.number) Documents place) (c.in-Ok.ensures.place f m told opened))

pub returns-in-Err-clause-tells : goal.returns-in-Err-clause-tells
returns-in-Err-clause-tells g c = λ f m told opened. inr (c.in-Err.ensures.outside f m told opened)
