use Rattle.std.proofs.Common.{◌≡◌, ℕ, List, [], ◌∷◌, map, Ok, subst}
use Rattle.std.proofs.lemmas.List.{map-append}
use Rattle.std.proofs.lemmas.Result.{err_from_is_err_and}
use Rattle.ri_base.specs.FieldAnswers.{Fails}
use Rattle.ri_base.specs.Reading.{repeat}
use Rattle.manifest.specs.Entries.{BehindPrior, behind_prior, prior}
use Rattle.manifest.specs.declared.manifest.PriorEntry.{PriorEntry}
use Rattle.ri_base.proofs.Loops.{goes_on, ends, is_done}
use Rattle.manifest.proofs.entries.priors_from.Goals as goal

abbrev state : List PriorEntry → List ℕ → BehindPrior
state ps used = record { names = map (λ (p : PriorEntry). p.name) ps; used = used }

pub returns-in_err-prior : goal.returns-in_err-prior
returns-in_err-prior c =
    let p = err_from_is_err_and c.from_residual-in_err-prior.result c.from_residual-in_err-prior.ensures.1 in
    let fails = subst (λ ps. Fails c.in_err-prior.field-0.0 (prior c.args.next (state ps c.loop.used.keys) c.loop.rest.now)) c.as_slice.ensures.value c.in_err-prior.ensures in
    rw (p.1, p.2) (ends (prior c.args.next) behind_prior c.in_err-prior.field-0.0 c.loop.priors.items c.args.count c.loop.counter (state c.loop.priors.items c.loop.used.keys) c.loop.rest.now (repeat (prior c.args.next) behind_prior c.args.count (state [] c.args.before.keys) c.args.bytes.now) c.loop-test.true fails c.loop.invariant)

pub loop-preserved : goal.loop-preserved
loop-preserved c =
    let read = subst (λ ps. prior c.args.next (state ps c.loop.used.keys) c.loop.rest.now ≡ Ok (c.in_ok-prior.prior, c.in_ok-prior.after.now)) c.as_slice.ensures.value c.in_ok-prior.ensures in
    rw (c.in_ok-insert.ensures.keys, c.in_ok-push.ensures.items, map-append (λ (p : PriorEntry). p.name) c.loop.priors.items (c.in_ok-prior.prior ∷ [])) (goes_on (prior c.args.next) behind_prior c.loop.priors.items c.args.count c.loop.counter (state c.loop.priors.items c.loop.used.keys) c.loop.rest.now c.in_ok-prior.prior c.in_ok-prior.after.now (repeat (prior c.args.next) behind_prior c.args.count (state [] c.args.before.keys) c.args.bytes.now) c.loop-test.true read c.loop.invariant)

pub returns : goal.returns
returns c = is_done (prior c.args.next) behind_prior c.loop.priors.items c.args.count c.loop.counter (state c.loop.priors.items c.loop.used.keys) c.loop.rest.now (repeat (prior c.args.next) behind_prior c.args.count (state [] c.args.before.keys) c.args.bytes.now) c.loop-test.false c.loop.invariant
