use Rattle.std.proofs.Common.{◌≡◌, ◌∙◌, Bool, Option, ap, refl, subst, sym}
use Rattle.std.proofs.lemmas.List.{length-map}
use Rattle.std.specs.Prelude.{IfErr, IfOk, IfSome, OnOk}
use Rattle.store_ends.specs.Files.{Files, Leaves}
use Rattle.smoothing.specs.declared.rule.RuleKind.TheVariants.{Dirichlet}
use Rattle.command_pieces.specs.CommandFaults.{IsBrokenBy}
use Rattle.command_pieces.specs.Pieces.{Finished, StandsAlong, some_refused}
use Rattle.command_pieces.specs.declared.command_fault.CommandFault.{CommandFault}
use Rattle.ri_base.specs.declared.seg_fault.SegFault.TheVariants as files
use Rattle.repository.specs.RealLimits.{StandsFor}
use Rattle.repository.specs.States.{IsStateIntact}
use Rattle.script_reader.specs.Items.{items}
use Rattle.desk.specs.State.{State, collection_of}
use Rattle.indri_app.specs.Items.{pieces_of, state_behind_all}
use Rattle.indri_app.specs.Orders.{AreTrue}
use Rattle.indri_app.specs.Sessions.{session_pieces}
use Rattle.desk.proofs.EventExits.{quiet-on}
use Rattle.indri_app.proofs.Beginning.{ahead-read, begun-all, behind-on, files-fault, merge-intact, merge-none, none-begun, rose-earlier, stops-quiet, stops-read}
use Rattle.indri_app.proofs.Standing.{grows-none, outside-honest}
use Rattle.indri_app.proofs.script.session.Goals as goal

-- the files of the priors aren't read

pub returns-in-Err-clause-broken : goal.returns-in-Err-clause-broken
returns-in-Err-clause-broken g c = λ k ahead.
    let stands = (ahead-read _ _ c.args.repository k c.take_priors.ensures.quiet.same_files ahead).stands in
    rw c.of_files.ensures (none-begun c.in-Err.fault (g.S.Source.left c.args.source.now) k (session_pieces c.args.repository.held.limits (Dirichlet c.args.mu) k) _ _ _ refl stands)

pub returns-in-Err-clause-stops : goal.returns-in-Err-clause-stops
returns-in-Err-clause-stops g c = λ k ahead.
    stops-quiet _ _ (g.S.Source.left c.args.source.now) k (session_pieces c.args.repository.held.limits (Dirichlet c.args.mu) k) c.take_priors.ensures.quiet.no_more

pub returns-in-Err-clause-grows : goal.returns-in-Err-clause-grows
returns-in-Err-clause-grows g c = grows-none _ _ refl

pub returns-in-Err-clause-only : goal.returns-in-Err-clause-only
returns-in-Err-clause-only g c = rw c.of_files.ensures (files-fault c.in-Err.fault)

pub returns-in-Err-clause-goes_on : goal.returns-in-Err-clause-goes_on
returns-in-Err-clause-goes_on g c = quiet-on g.T.Store.files g.T.Store.layers g.T.Store.clock g.T.Store.since g.T.Store.longest g.T.Store.held _ _ c.take_priors.ensures.quiet

pub returns-in-Err-clause-honest : goal.returns-in-Err-clause-honest
returns-in-Err-clause-honest g c = λ k ahead intact. rw c.of_files.ensures (outside-honest c.in-Err.fault (c.in-Err.ensures.honest ahead.backed))

-- there is no memory for a desk

pub returns-in_default-clause-broken : goal.returns-in_default-clause-broken
returns-in_default-clause-broken g c = λ k ahead.
    let stands = (ahead-read _ _ c.args.repository k c.take_priors.ensures.quiet.same_files ahead).stands in
    none-begun files.Memory (g.S.Source.left c.args.source.now) k (session_pieces c.args.repository.held.limits (Dirichlet c.args.mu) k) _ _ _ refl stands

pub returns-in_default-clause-stops : goal.returns-in_default-clause-stops
returns-in_default-clause-stops g c = λ k ahead.
    stops-quiet _ _ (g.S.Source.left c.args.source.now) k (session_pieces c.args.repository.held.limits (Dirichlet c.args.mu) k) c.take_priors.ensures.quiet.no_more

pub returns-in_default-clause-grows : goal.returns-in_default-clause-grows
returns-in_default-clause-grows g c = grows-none _ _ refl

pub returns-in_default-clause-goes_on : goal.returns-in_default-clause-goes_on
returns-in_default-clause-goes_on g c = quiet-on g.T.Store.files g.T.Store.layers g.T.Store.clock g.T.Store.since g.T.Store.longest g.T.Store.held _ _ c.take_priors.ensures.quiet

-- all items are taken

pub returns-clause-refused : goal.returns-clause-refused
returns-clause-refused g c = λ k ahead.
    let now = ahead-read _ _ c.args.repository k c.take_priors.ensures.quiet.same_files ahead in
    let made = c.in-Ok-new.ensures in
    let kind = c.in-Ok-new.desk.same_kind ∙ ap (λ r. r.kind) (made.rule ∙ c.new-rule.ensures) in
    let all = begun-all _ c.args.repository c.in-Ok-new.desk.kept _ k (Dirichlet c.args.mu) made.repository made.queries c.requires.none kind now (made.backed _ now.backed (merge-none _ _ c.requires.none))
    (c.in-Ok.ensures.priors k ahead.reads) (length-map c.take_priors.new.plugs _ ∙ c.take_priors.ensures.nine) in
    subst (λ (s : State). IfOk c.take_items.result (λ (refused : Bool). IfSome (g.S.Source.left c.args.source.now) (λ bytes. some_refused (pieces_of s (items bytes)) ≡ refused))) all.1 (c.take_items.ensures.refused k all.0)

pub returns-clause-finished : goal.returns-clause-finished
returns-clause-finished g c = λ k ahead.
    let now = ahead-read _ _ c.args.repository k c.take_priors.ensures.quiet.same_files ahead in
    let made = c.in-Ok-new.ensures in
    let kind = c.in-Ok-new.desk.same_kind ∙ ap (λ r. r.kind) (made.rule ∙ c.new-rule.ensures) in
    let all = begun-all _ c.args.repository c.in-Ok-new.desk.kept _ k (Dirichlet c.args.mu) made.repository made.queries c.requires.none kind now (made.backed _ now.backed (merge-none _ _ c.requires.none))
    (c.in-Ok.ensures.priors k ahead.reads) (length-map c.take_priors.new.plugs _ ∙ c.take_priors.ensures.nine) in
    subst (λ (s : State). OnOk c.take_items.result (IfSome (g.S.Source.left c.args.source.now) (λ bytes. Finished StandsFor k (pieces_of s (items bytes)) (g.K.Sink.taken c.args.sink.now) (g.K.Sink.taken c.take_items.new.sink) (g.T.Store.files c.take_items.new.store)))) all.1 (c.take_items.ensures.finished k all.0)

pub returns-clause-stands : goal.returns-clause-stands
returns-clause-stands g c = λ k ahead.
    let now = ahead-read _ _ c.args.repository k c.take_priors.ensures.quiet.same_files ahead in
    let made = c.in-Ok-new.ensures in
    let kind = c.in-Ok-new.desk.same_kind ∙ ap (λ r. r.kind) (made.rule ∙ c.new-rule.ensures) in
    let all = begun-all _ c.args.repository c.in-Ok-new.desk.kept _ k (Dirichlet c.args.mu) made.repository made.queries c.requires.none kind now (made.backed _ now.backed (merge-none _ _ c.requires.none))
    (c.in-Ok.ensures.priors k ahead.reads) (length-map c.take_priors.new.plugs _ ∙ c.take_priors.ensures.nine) in
    subst (λ (s : State). OnOk c.take_items.result (IfSome (g.S.Source.left c.args.source.now) (λ bytes. StandsFor (collection_of (state_behind_all s (items bytes))) (g.T.Store.files c.take_items.new.store)))) all.1 (c.take_items.ensures.stands k all.0)

pub returns-clause-order : goal.returns-clause-order
returns-clause-order g c = λ k ahead.
    let now = ahead-read _ _ c.args.repository k c.take_priors.ensures.quiet.same_files ahead in
    let made = c.in-Ok-new.ensures in
    let kind = c.in-Ok-new.desk.same_kind ∙ ap (λ r. r.kind) (made.rule ∙ c.new-rule.ensures) in
    let all = begun-all _ c.args.repository c.in-Ok-new.desk.kept _ k (Dirichlet c.args.mu) made.repository made.queries c.requires.none kind now (made.backed _ now.backed (merge-none _ _ c.requires.none))
    (c.in-Ok.ensures.priors k ahead.reads) (length-map c.take_priors.new.plugs _ ∙ c.take_priors.ensures.nine) in
    subst (λ (s : State). OnOk c.take_items.result (IfSome (g.S.Source.left c.args.source.now) (λ bytes. AreTrue s (items bytes)))) all.1 (c.take_items.ensures.order k all.0)

pub returns-clause-broken : goal.returns-clause-broken
returns-clause-broken g c = λ k ahead.
    let now = ahead-read _ _ c.args.repository k c.take_priors.ensures.quiet.same_files ahead in
    let made = c.in-Ok-new.ensures in
    let kind = c.in-Ok-new.desk.same_kind ∙ ap (λ r. r.kind) (made.rule ∙ c.new-rule.ensures) in
    let all = begun-all _ c.args.repository c.in-Ok-new.desk.kept _ k (Dirichlet c.args.mu) made.repository made.queries c.requires.none kind now (made.backed _ now.backed (merge-none _ _ c.requires.none))
    (c.in-Ok.ensures.priors k ahead.reads) (length-map c.take_priors.new.plugs _ ∙ c.take_priors.ensures.nine) in
    subst (λ (s : State). IfErr c.take_items.result (λ (why : CommandFault). IfSome (g.S.Source.left c.args.source.now) (λ bytes. IsBrokenBy why StandsFor k (pieces_of s (items bytes)) (g.K.Sink.taken c.args.sink.now) (g.K.Sink.taken c.take_items.new.sink) (g.T.Store.files c.take_items.new.store)))) all.1 (c.take_items.ensures.broken k all.0)

pub returns-clause-honest : goal.returns-clause-honest
returns-clause-honest g c = λ k ahead intact.
    let now = ahead-read _ _ c.args.repository k c.take_priors.ensures.quiet.same_files ahead in
    let made = c.in-Ok-new.ensures in
    let kind = c.in-Ok-new.desk.same_kind ∙ ap (λ r. r.kind) (made.rule ∙ c.new-rule.ensures) in
    let all = begun-all _ c.args.repository c.in-Ok-new.desk.kept _ k (Dirichlet c.args.mu) made.repository made.queries c.requires.none kind now (made.backed _ now.backed (merge-none _ _ c.requires.none))
    (c.in-Ok.ensures.priors k ahead.reads) (length-map c.take_priors.new.plugs _ ∙ c.take_priors.ensures.nine) in
    c.take_items.ensures.honest k all.0 (made.intact _ (subst (λ (f : Option Files). IsStateIntact f c.args.repository) (sym c.take_priors.ensures.quiet.same_files) intact) (merge-intact _ c.args.repository c.requires.none))

pub returns-clause-stops : goal.returns-clause-stops
returns-clause-stops g c = λ k ahead.
    let now = ahead-read _ _ c.args.repository k c.take_priors.ensures.quiet.same_files ahead in
    let made = c.in-Ok-new.ensures in
    let kind = c.in-Ok-new.desk.same_kind ∙ ap (λ r. r.kind) (made.rule ∙ c.new-rule.ensures) in
    let all = begun-all _ c.args.repository c.in-Ok-new.desk.kept _ k (Dirichlet c.args.mu) made.repository made.queries c.requires.none kind now (made.backed _ now.backed (merge-none _ _ c.requires.none))
    (c.in-Ok.ensures.priors k ahead.reads) (length-map c.take_priors.new.plugs _ ∙ c.take_priors.ensures.nine) in
    stops-read _ _ _ (g.S.Source.left c.args.source.now) k (session_pieces c.args.repository.held.limits (Dirichlet c.args.mu) k) c.take_priors.ensures.quiet.no_more
    (subst (λ (s : State). IfSome (g.S.Source.left c.args.source.now) (λ bytes. Leaves (g.T.Store.since c.take_priors.new.store) (g.T.Store.since c.take_items.new.store) (StandsAlong StandsFor k (pieces_of s (items bytes))))) all.1 (c.take_items.ensures.stops k all.0))

pub returns-clause-goes_on : goal.returns-clause-goes_on
returns-clause-goes_on g c = behind-on g.T.Store.files g.T.Store.layers g.T.Store.clock g.T.Store.since g.T.Store.longest g.T.Store.held _ _ _ c.take_priors.ensures.quiet c.take_items.ensures.goes_on

pub returns-clause-store : goal.returns-clause-store
returns-clause-store g c = λ e. rose-earlier _ _ _ c.take_priors.ensures.later (c.take_items.ensures.store e)
