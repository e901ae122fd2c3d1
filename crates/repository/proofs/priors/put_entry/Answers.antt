use Rattle.std.proofs.Common.{◌∙◌, Some, ap, arith, set}
use Rattle.manifest.specs.declared.manifest.PriorEntry.{PriorEntry}
use Rattle.repository.proofs.EntryLemmas.{found-at, none-there, old-there, place-within, push-there, set-there}
use Rattle.repository.proofs.priors.put_entry.Goals as goal

pub index_mut-requires : goal.index_mut-requires
index_mut-requires c =
    let within = place-within c.args.priors.now.items c.args.name c.in-Some.place (record { name = c.args.name; number = c.args.number }) (found-at c.args.priors.now.items c.deref.result.now c.args.name c.as_bytes.result.now c.place_of.result c.deref.ensures.value c.as_bytes.ensures.bytes c.place_of.ensures ∙ c.in-Some.is) in
    omega (arith, within, c.args.priors.now.ok.0)

pub returns-in-Some-clause-priors : goal.returns-in-Some-clause-priors
returns-in-Some-clause-priors c =
    let es = c.args.priors.now.items in
    let i = c.in-Some.place in
    ap (λ (e : PriorEntry). set es i e) (c.renumber.ensures.entry ∙ ap (λ (e : PriorEntry). record { name = e.name; number = c.args.number }) c.index_mut.ensures.value)
    ∙ set-there es c.args.name c.args.number i c.index_mut.result.now (found-at c.args.priors.now.items c.deref.result.now c.args.name c.as_bytes.result.now c.place_of.result c.deref.ensures.value c.as_bytes.ensures.bytes c.place_of.ensures ∙ c.in-Some.is)

pub returns-in-Some-clause-old : goal.returns-in-Some-clause-old
returns-in-Some-clause-old c =
    let es = c.args.priors.now.items in
    ap (λ n. Some n) (c.renumber.ensures.number ∙ ap (λ (e : PriorEntry). e.number) c.index_mut.ensures.value)
    ∙ old-there es c.args.name c.in-Some.place c.index_mut.result.now (found-at c.args.priors.now.items c.deref.result.now c.args.name c.as_bytes.result.now c.place_of.result c.deref.ensures.value c.as_bytes.ensures.bytes c.place_of.ensures ∙ c.in-Some.is)

pub returns-in_ok-push-in-None-clause-priors : goal.returns-in_ok-push-in-None-clause-priors
returns-in_ok-push-in-None-clause-priors c = c.in_ok-push-in-None.ensures.items ∙ push-there c.args.priors.now.items c.args.name c.args.number (found-at c.args.priors.now.items c.deref.result.now c.args.name c.as_bytes.result.now c.place_of.result c.deref.ensures.value c.as_bytes.ensures.bytes c.place_of.ensures ∙ c.in-None.is)

pub returns-in_ok-push-in-None-clause-old : goal.returns-in_ok-push-in-None-clause-old
returns-in_ok-push-in-None-clause-old c = none-there c.args.priors.now.items c.args.name (found-at c.args.priors.now.items c.deref.result.now c.args.name c.as_bytes.result.now c.place_of.result c.deref.ensures.value c.as_bytes.ensures.bytes c.place_of.ensures ∙ c.in-None.is)
