use Rattle.std.proofs.Common.{◌≤◌, List, length, subst}
use Rattle.ri_base.specs.Documents.{Field}
use Rattle.ri_base.specs.declared.limits.TheConstants.{MAX_DOC_FIELDS}
use Rattle.merge_job.proofs.CutLemmas.{names-alone}
use Rattle.merge_job.proofs.copied.cut.Goals as goal

pub returns-in-Ok-clause-named : goal.returns-in-Ok-clause-named
returns-in-Ok-clause-named c = names-alone c.args.doc.now (subst (λ (fs : List Field). length fs ≤ MAX_DOC_FIELDS) c.fields-fields.ensures.fields c.fields-fields.ensures.form.sound.few)
