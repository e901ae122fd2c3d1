use Rattle.std.proofs.Common.{◌≡◌, length, ap, ◌∙◌, arith}
use Rattle.ri_base.proofs.FieldFaults.{answer_found, answer_only}
use Rattle.ri_base.specs.declared.seg_fault.FileName.TheVariants as files
use Rattle.ri_base.specs.declared.seg_fault.PartName.TheVariants as parts
use Rattle.manifest.specs.PriorFits.{IsPrior}
use Rattle.manifest.specs.Priors.{prior_file, prior_text}
use Rattle.manifest.proofs.PriorLaws.{prior_takes, prior_again}
use Rattle.manifest.proofs.prior_reading.read_prior.Goals as goal

pub returns-clause-found : goal.returns-clause-found
returns-clause-found c =
    answer_found (λ p. p) (λ x. (c.args.bytes.now ≡ prior_text x) × IsPrior x) (prior_file c.args.bytes.now)
    (λ x e. prior_takes c.args.bytes.now x (record { small = λ i. omega (arith, c.type_inv.bytes i) }) e) c.prior_answer.result (files.Prior c.args.number) parts.Prior (length c.args.bytes.now) c.prior_answer.ensures

pub returns-clause-only : goal.returns-clause-only
returns-clause-only c t fit is =
    answer_only (λ p. p) (prior_file c.args.bytes.now) c.prior_answer.result (files.Prior c.args.number) parts.Prior (length c.args.bytes.now) c.prior_answer.ensures t (ap prior_file is ∙ prior_again t fit)
