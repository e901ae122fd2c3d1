use Rattle.std.proofs.Common.{◌≡◌, ◌∙◌, ◌≤◌, ap, length, map, subst, sym, arith, Option}
use Rattle.std.specs.Prelude.{Err, Ok}
use Rattle.std.proofs.lemmas.List.{length-map}
use Rattle.std.proofs.lemmas.Result.{IfOk-weaker}
use Rattle.manifest.specs.declared.manifest.PriorEntry.{PriorEntry}
use Rattle.query_check.specs.Answers.{whole_checked}
use Rattle.std.specs.List.{All}
use Rattle.store_ends.specs.Files.{Files}
use Rattle.session_events.specs.declared.event.Event.TheVariants as event
use Rattle.desk.specs.Asked.{IsNotTaken, asked}
use Rattle.desk.specs.declared.asking.NotTaken.{NotTaken}
use Rattle.desk.specs.declared.asking.NotTaken.TheVariants as not_taken
use Rattle.desk.specs.Backed.{IsDeskBacked, Keeps, Steps, StepsTo, state_of}
use Rattle.desk.specs.Keeping.{AsksFor}
use Rattle.desk.specs.Step.{open_step, step}
use Rattle.desk.specs.Told.{RefusesAs}
use Rattle.desk.proofs.Exits.{refused-by, refused-here}
use Rattle.desk.proofs.Found.{seen}
use Rattle.desk.proofs.OpenExits.{open-asked, refuses-asked, steps-asked}
use Rattle.desk.proofs.kept.Kept.open.Goals as goal

pub ask-requires-clause-few : goal.ask-requires-clause-few
ask-requires-clause-few g c =
    let s = c.self.inside in
    let own : c.deref.result.now ≡ map (λ (e : PriorEntry). e.name) s.repository.priors = c.deref.ensures.value ∙ c.in_ok-names.ensures ∙ ap (map (λ (e : PriorEntry). e.name)) c.priors.ensures.list in
    let few : length s.repository.priors ≤ 8 = c.priors.ensures.few (ap (λ (x : Keeps). x.repository.usable) c.self.view_is ∙ c.requires.usable.1) in
    let long = ap length own in
    let each = length-map s.repository.priors (λ (e : PriorEntry). e.name) in
    omega (arith, few, long, each)

pub open_checked-requires-clause-asks : goal.open_checked-requires-clause-asks
open_checked-requires-clause-asks g c =
    let s = c.self.inside in
    let own : c.deref.result.now ≡ map (λ (e : PriorEntry). e.name) s.repository.priors = c.deref.ensures.value ∙ c.in_ok-names.ensures ∙ ap (map (λ (e : PriorEntry). e.name)) c.priors.ensures.list in
    let count : length c.deref.result.now ≡ length s.repository.priors = ap length own ∙ length-map s.repository.priors (λ (e : PriorEntry). e.name) in
    subst (λ (x : Keeps). All (AsksFor (length x.repository.priors)) (whole_checked c.in-Ok.checked).leaves) c.self.view_is (subst (λ n. All (AsksFor n) (whole_checked c.in-Ok.checked).leaves) count c.in-Ok.ensures.asks)

pub returns-in-Err-Refused-clause-steps : goal.returns-in-Err-Refused-clause-steps
returns-in-Err-Refused-clause-steps g c = λ backed.
    let told = g.T.Store.files c.args.store.now in
    let view = seen c.self.inside in
    let own : c.deref.result.now ≡ map (λ (e : PriorEntry). e.name) view.repository.priors = c.deref.ensures.value ∙ c.in_ok-names.ensures ∙ ap (map (λ (e : PriorEntry). e.name)) c.priors.ensures.list in
    let why = c.in-Err-Refused.refusal in
    let taken : IsNotTaken (asked c.deref.result.now c.as_slice.result.now) (not_taken.Refused why) = subst (λ (n : NotTaken). IsNotTaken (asked c.deref.result.now c.as_slice.result.now) n) c.in-Err-Refused.field-0-is c.in-Err-Refused.ensures.refused in
    let is : asked c.deref.result.now c.args.text.now ≡ Err why = ap (asked c.deref.result.now) (sym c.as_slice.ensures) ∙ taken in
    rw c.in-Err-Refused.field-0-is (refused-here (event.Open c.args.name c.args.k c.args.text.now) told view c.args.self.now why c.self.view_is (open-asked told view c.args.name c.args.k c.args.text.now c.deref.result.now (Err why) own is) backed)

pub returns-in-Err-Refused-clause-refuses : goal.returns-in-Err-Refused-clause-refuses
returns-in-Err-Refused-clause-refuses g c = λ told.
    let view = seen c.self.inside in
    let own : c.deref.result.now ≡ map (λ (e : PriorEntry). e.name) view.repository.priors = c.deref.ensures.value ∙ c.in_ok-names.ensures ∙ ap (map (λ (e : PriorEntry). e.name)) c.priors.ensures.list in
    let why = c.in-Err-Refused.refusal in
    let taken : IsNotTaken (asked c.deref.result.now c.as_slice.result.now) (not_taken.Refused why) = subst (λ (n : NotTaken). IsNotTaken (asked c.deref.result.now c.as_slice.result.now) n) c.in-Err-Refused.field-0-is c.in-Err-Refused.ensures.refused in
    let is : asked c.deref.result.now c.args.text.now ≡ Err why = ap (asked c.deref.result.now) (sym c.as_slice.ensures) ∙ taken in
    rw c.in-Err-Refused.field-0-is (refused-by (event.Open c.args.name c.args.k c.args.text.now) told view c.args.self.now why c.self.view_is (open-asked told view c.args.name c.args.k c.args.text.now c.deref.result.now (Err why) own is))

pub returns-in-Ok-clause-steps : goal.returns-in-Ok-clause-steps
returns-in-Ok-clause-steps g c =
    let told = g.T.Store.files c.args.store.now in
    let after = g.T.Store.files c.open_checked.new.store in
    let view = seen c.self.inside in
    let own : c.deref.result.now ≡ map (λ (e : PriorEntry). e.name) view.repository.priors = c.deref.ensures.value ∙ c.in_ok-names.ensures ∙ ap (map (λ (e : PriorEntry). e.name)) c.priors.ensures.list in
    let q = whole_checked c.in-Ok.checked in
    let is : asked c.deref.result.now c.args.text.now ≡ Ok q = ap (asked c.deref.result.now) (sym c.as_slice.ensures) ∙ c.in-Ok.ensures.read in
    IfOk-weaker c.open_checked.result (λ y. IsDeskBacked told c.args.self.now → StepsTo (open_step (state_of told c.args.self.now) c.args.name c.args.k (Ok q)) after c.open_checked.new.self y)
    (λ y. IsDeskBacked told c.args.self.now → Steps (event.Open c.args.name c.args.k c.args.text.now) told after c.args.self.now c.open_checked.new.self y)
    (λ y done backed. steps-asked told after c.args.self.now c.open_checked.new.self c.args.name c.args.k c.args.text.now c.deref.result.now (Ok q) y (subst (λ (x : Keeps). c.deref.result.now ≡ map (λ (e : PriorEntry). e.name) x.repository.priors) c.self.view_is own) is (done backed))
    c.open_checked.ensures.steps

pub returns-in-Ok-clause-refuses : goal.returns-in-Ok-clause-refuses
returns-in-Ok-clause-refuses g c =
    let view = seen c.self.inside in
    let own : c.deref.result.now ≡ map (λ (e : PriorEntry). e.name) view.repository.priors = c.deref.ensures.value ∙ c.in_ok-names.ensures ∙ ap (map (λ (e : PriorEntry). e.name)) c.priors.ensures.list in
    let q = whole_checked c.in-Ok.checked in
    let is : asked c.deref.result.now c.args.text.now ≡ Ok q = ap (asked c.deref.result.now) (sym c.as_slice.ensures) ∙ c.in-Ok.ensures.read in
    IfOk-weaker c.open_checked.result (λ y. (told : Option Files) → RefusesAs y (open_step (state_of told c.args.self.now) c.args.name c.args.k (Ok q)).1)
    (λ y. (told : Option Files) → RefusesAs y (step (state_of told c.args.self.now) (event.Open c.args.name c.args.k c.args.text.now)).1)
    (λ y done told. refuses-asked told c.args.self.now c.args.name c.args.k c.args.text.now c.deref.result.now (Ok q) y (subst (λ (x : Keeps). c.deref.result.now ≡ map (λ (e : PriorEntry). e.name) x.repository.priors) c.self.view_is own) is (done told))
    c.open_checked.ensures.refuses
