use Rattle.std.proofs.Common.{◌≡◌, ◌∙◌, true, false, None, Some, Option, sym, subst, rules}
use Rattle.std.specs.Prelude.{IfErr, IfOk, IfSome}
use Rattle.refusals.specs.declared.refusal.Refusal.{Refusal}
use Rattle.refusals.specs.declared.refusal.Refusal.TheVariants.{Fixed, PriorsFull}
use Rattle.repository.specs.Priors.{is_full}
use Rattle.collection_commands.specs.PriorSetting.{IsPriorBroken, IsPriorDone, PriorStops, name_refusal}
use Rattle.collection_commands.proofs.PriorLemmas.{named-broken, named-done, none-some, not-some, refusal-fixed, refusal-full, refusal-none, room-left, room-right}
use Rattle.collection_commands.proofs.prior_command.set_prior.Goals as goal

-- the name is that of lengths

pub returns-then-is_length-clause-finished : goal.returns-then-is_length-clause-finished
returns-then-is_length-clause-finished g c = λ k ahead.
    named-done (Fixed c.args.name) k c.args.name (refusal-fixed k c.args.name (sym c.is_length.ensures ∙ c.if-is_length.true)) c.refuse.result _ _ _ _ c.refuse.ensures.refused (c.refuse.ensures.finished k _ ahead.stands)

pub returns-then-is_length-clause-broken : goal.returns-then-is_length-clause-broken
returns-then-is_length-clause-broken g c = λ k ahead.
    named-broken (Fixed c.args.name) k c.args.name (refusal-fixed k c.args.name (sym c.is_length.ensures ∙ c.if-is_length.true)) c.refuse.result _ _ _ _ c.refuse.ensures.only (c.refuse.ensures.broken k _ ahead.stands)

-- there is no room for it

pub returns-then-not-has_room_for-clause-finished : goal.returns-then-not-has_room_for-clause-finished
returns-then-not-has_room_for-clause-finished g c = λ k ahead.
    let none : c.has_room_for.result ≡ false = search rules in
    let full = room-left (is_full c.args.repository.now.priors c.args.name) _ c.has_room_for.ensures none in
    let is : name_refusal k c.args.name ≡ Some (PriorsFull c.args.name) = refusal-full _ c.args.repository.now k c.args.name ahead.reads (sym c.is_length.ensures ∙ c.if-is_length.false) full in
    named-done (PriorsFull c.args.name) k c.args.name is c.refuse-then-not-has_room_for.result _ _ _ _ c.refuse-then-not-has_room_for.ensures.refused (c.refuse-then-not-has_room_for.ensures.finished k _ ahead.stands)

pub returns-then-not-has_room_for-clause-broken : goal.returns-then-not-has_room_for-clause-broken
returns-then-not-has_room_for-clause-broken g c = λ k ahead.
    let none : c.has_room_for.result ≡ false = search rules in
    let full = room-left (is_full c.args.repository.now.priors c.args.name) _ c.has_room_for.ensures none in
    let is : name_refusal k c.args.name ≡ Some (PriorsFull c.args.name) = refusal-full _ c.args.repository.now k c.args.name ahead.reads (sym c.is_length.ensures ∙ c.if-is_length.false) full in
    named-broken (PriorsFull c.args.name) k c.args.name is c.refuse-then-not-has_room_for.result _ _ _ _ c.refuse-then-not-has_room_for.ensures.only (c.refuse-then-not-has_room_for.ensures.broken k _ ahead.stands)

pub returns-then-not-has_room_for-clause-swept : goal.returns-then-not-has_room_for-clause-swept
returns-then-not-has_room_for-clause-swept g c = λ k ahead free.
    let none : c.has_room_for.result ≡ false = search rules in
    let full = room-left (is_full c.args.repository.now.priors c.args.name) _ c.has_room_for.ensures none in
    let is : name_refusal k c.args.name ≡ Some (PriorsFull c.args.name) = refusal-full _ c.args.repository.now k c.args.name ahead.reads (sym c.is_length.ensures ∙ c.if-is_length.false) full in
    absurd (not-some (name_refusal k c.args.name) (PriorsFull c.args.name) is free)

-- it isn't refused

pub returns-clause-finished : goal.returns-clause-finished
returns-clause-finished g c = λ k ahead.
    let there : c.has_room_for.result ≡ true = search rules in
    let free = room-right (is_full c.args.repository.now.priors c.args.name) _ c.has_room_for.ensures there in
    let none : name_refusal k c.args.name ≡ None = refusal-none _ c.args.repository.now k c.args.name ahead.reads (sym c.is_length.ensures ∙ c.if-is_length.false) free in
    subst (λ (w : Option Refusal). IfOk c.take_rows.result (λ refused. IfSome (g.S.Source.left c.args.source.now) (λ bytes. IsPriorDone w refused k c.args.name bytes (g.K.Sink.taken c.args.sink.now) (g.K.Sink.taken c.take_rows.new.sink) (g.T.Store.files c.take_rows.new.store))))
    (sym none) (c.take_rows.ensures.finished k ahead)

pub returns-clause-broken : goal.returns-clause-broken
returns-clause-broken g c = λ k ahead.
    let there : c.has_room_for.result ≡ true = search rules in
    let free = room-right (is_full c.args.repository.now.priors c.args.name) _ c.has_room_for.ensures there in
    let none : name_refusal k c.args.name ≡ None = refusal-none _ c.args.repository.now k c.args.name ahead.reads (sym c.is_length.ensures ∙ c.if-is_length.false) free in
    subst (λ (w : Option Refusal). IfErr c.take_rows.result (λ fault. IfSome (g.S.Source.left c.args.source.now) (λ bytes. IsPriorBroken w fault k c.args.name bytes (g.K.Sink.taken c.args.sink.now) (g.K.Sink.taken c.take_rows.new.sink) (g.T.Store.files c.take_rows.new.store))))
    (sym none) (c.take_rows.ensures.broken k ahead)

pub returns-clause-stops : goal.returns-clause-stops
returns-clause-stops g c = λ k ahead.
    let there : c.has_room_for.result ≡ true = search rules in
    let free = room-right (is_full c.args.repository.now.priors c.args.name) _ c.has_room_for.ensures there in
    let none : name_refusal k c.args.name ≡ None = refusal-none _ c.args.repository.now k c.args.name ahead.reads (sym c.is_length.ensures ∙ c.if-is_length.false) free in
    subst (λ (w : Option Refusal). IfSome (g.S.Source.left c.args.source.now) (λ bytes. PriorStops w k c.args.name bytes (g.T.Store.since c.args.store.now) (g.T.Store.since c.take_rows.new.store))) (sym none) (c.take_rows.ensures.stops k ahead)

pub returns-clause-refused : goal.returns-clause-refused
returns-clause-refused g c = λ k ahead some.
    let there : c.has_room_for.result ≡ true = search rules in
    let free = room-right (is_full c.args.repository.now.priors c.args.name) _ c.has_room_for.ensures there in
    let none : name_refusal k c.args.name ≡ None = refusal-none _ c.args.repository.now k c.args.name ahead.reads (sym c.is_length.ensures ∙ c.if-is_length.false) free in
    absurd (none-some (name_refusal k c.args.name) none some)
