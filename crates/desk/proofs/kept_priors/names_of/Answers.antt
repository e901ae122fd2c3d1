use Rattle.std.proofs.Common.{map, ap, ◌∙◌}
use Rattle.std.proofs.lemmas.List.{take_all}
use Rattle.manifest.specs.declared.manifest.PriorEntry.{PriorEntry}
use Rattle.desk.proofs.ListLemmas.{map-next}
use Rattle.desk.proofs.kept_priors.names_of.Goals as goal

pub loop-entry-init : goal.loop-entry-init
loop-entry-init c = c.in_ok-names.ensures.items

pub loop-entry-preserved : goal.loop-entry-preserved
loop-entry-preserved c =
    c.in_ok-push.ensures.items
    ∙ map-next (λ (e : PriorEntry). e.name) c.args.priors.now c.loop-entry.entry-index c.entry-item.result c.loop-entry.names.items c.in_ok-clone_in.field-0 c.loop-entry-test.true c.entry-item.is c.loop-entry.invariant c.in_ok-clone_in.ensures

pub returns : goal.returns
returns c = c.loop-entry.invariant ∙ ap (map (λ (e : PriorEntry). e.name)) (take_all c.loop-entry.entry-index c.args.priors.now c.loop-entry-test.false)
