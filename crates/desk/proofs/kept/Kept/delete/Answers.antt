use Rattle.std.proofs.Common.{◌≡◌, ◌∙◌, false, true, ap, refl, rules, sym, Option}
use Rattle.std.specs.Prelude.{is_err}
use Rattle.holdings.specs.Contents.{deleted}
use Rattle.holdings.specs.Parts.{is_live}
use Rattle.store_ends.specs.Files.{Files}
use Rattle.repository.specs.Stands.{Collection}
use Rattle.repository.specs.States.{ReadsAs}
use Rattle.repository.specs.Steps.{with_held, without_docno}
use Rattle.session_events.specs.declared.event.Event.TheVariants as event
use Rattle.desk.specs.declared.reply.Refusal.TheVariants.{NoSuchDoc}
use Rattle.desk.specs.Backed.{Keeps, state_of}
use Rattle.desk.proofs.Cases.{step-deleted}
use Rattle.desk.proofs.DocumentExits.{absent-step, delete-done, err-of, live-there, live-told, ok-of, refused-done, with_repository}
use Rattle.desk.proofs.Exits.{accepted-by, refused-by}
use Rattle.desk.proofs.Found.{seen}
use Rattle.desk.proofs.KeptLemmas.{kept-repository, priors-call}
use Rattle.desk.proofs.IntactLemmas.{intact-from, intact-moved, merge-moved}
use Rattle.repository.specs.States as repositories
use Rattle.desk.proofs.kept.Kept.delete.Goals as goal

pub invariant_of-self : goal.invariant_of-self
invariant_of-self c = λ usable working.
    let s = c.self.inside in
    kept-repository s.repository c.delete.new.self s.queries.items s.counts
    (priors-call c.delete.result s.repository c.delete.new.self (with_held s.repository (deleted s.repository.held c.args.docno)) c.delete.ensures.deleted c.delete.ensures.kept refl) (c.self.invariant usable (sym c.delete.ensures.usable ∙ working))

pub returns-then-is_err-clause-steps : goal.returns-then-is_err-clause-steps
returns-then-is_err-clause-steps c = λ told backed.
    let view = seen c.self.inside in
    let was : is_err c.delete.result ≡ true = sym c.is_err.ensures.value ∙ c.if-is_err.true in
    let gone : is_live view.repository.held.parts c.args.docno ≡ false = c.delete.ensures.refused.0 was in
    refused-done told (event.Delete c.args.docno) view c.args.self.now c.delete.new.self (NoSuchDoc c.args.docno) c.self.view_is (err-of c.delete.result (c.delete.new.self ≡ view.repository) was c.delete.ensures.kept) (absent-step told view c.args.docno gone) backed

pub returns-then-is_err-clause-refuses : goal.returns-then-is_err-clause-refuses
returns-then-is_err-clause-refuses c = λ told.
    let view = seen c.self.inside in
    let was : is_err c.delete.result ≡ true = sym c.is_err.ensures.value ∙ c.if-is_err.true in
    let gone : is_live view.repository.held.parts c.args.docno ≡ false = c.delete.ensures.refused.0 was in
    refused-by (event.Delete c.args.docno) told view c.args.self.now (NoSuchDoc c.args.docno) c.self.view_is (absent-step told view c.args.docno gone)

pub returns-clause-steps : goal.returns-clause-steps
returns-clause-steps c = λ told backed.
    let view = seen c.self.inside in
    let kept = c.self.invariant (ap (λ (x : Keeps). x.usable) c.self.view_is ∙ c.requires.usable.0) (ap (λ (x : Keeps). x.repository.usable) c.self.view_is ∙ c.requires.usable.1) in
    let was : is_err c.delete.result ≡ false = sym c.is_err.ensures.value ∙ c.if-is_err.false in
    let live : is_live view.repository.held.parts c.args.docno ≡ true = live-there c.delete.result (is_live view.repository.held.parts c.args.docno) c.delete.ensures.refused was in
    delete-done told view c.args.self.now c.delete.new.self c.args.docno c.self.view_is kept.early (ok-of c.delete.result (c.delete.new.self ≡ with_held view.repository (deleted view.repository.held c.args.docno)) was c.delete.ensures.deleted) live
    (ok-of c.delete.result ((f : Option Files) (k : Collection) → ReadsAs f view.repository k → ReadsAs f c.delete.new.self (without_docno k c.args.docno)) was c.delete.ensures.reads told) (c.delete.ensures.backed told) (c.delete.ensures.merging told) backed

pub returns-clause-refuses : goal.returns-clause-refuses
returns-clause-refuses c = λ told.
    let view = seen c.self.inside in
    let was : is_err c.delete.result ≡ false = sym c.is_err.ensures.value ∙ c.if-is_err.false in
    let live : is_live view.repository.held.parts c.args.docno ≡ true = live-there c.delete.result (is_live view.repository.held.parts c.args.docno) c.delete.ensures.refused was in
    accepted-by (event.Delete c.args.docno) told view c.args.self.now _ c.self.view_is (step-deleted (state_of told view) c.args.docno (live-told told view c.args.docno ∙ live)) refl

pub invariant_of-self-2 : goal.invariant_of-self-2
invariant_of-self-2 c = λ usable working.
    let s = c.self.inside in
    kept-repository s.repository c.delete.new.self s.queries.items s.counts
    (priors-call c.delete.result s.repository c.delete.new.self (with_held s.repository (deleted s.repository.held c.args.docno)) c.delete.ensures.deleted c.delete.ensures.kept refl) (c.self.invariant usable (sym c.delete.ensures.usable ∙ working))

pub returns-then-is_err-clause-keeps : goal.returns-then-is_err-clause-keeps
returns-then-is_err-clause-keeps c = record {
  form = tt;
  kind = ap (λ (x : Keeps). x.kind) c.self.view_is;
  unchanged =
      let view = seen c.self.inside in
      let was : is_err c.delete.result ≡ true = sym c.is_err.ensures.value ∙ c.if-is_err.true in
      ap (with_repository view) (err-of c.delete.result (c.delete.new.self ≡ view.repository) was c.delete.ensures.kept) ∙ c.self.view_is;
  usable = search rules;
  undamaged = ap (λ (x : Keeps). x.cache.damage) c.self.view_is;
  damaged = tt;
}

pub returns-then-is_err-clause-intact : goal.returns-then-is_err-clause-intact
returns-then-is_err-clause-intact c = λ told whole.
    let view = seen c.self.inside in
    let was : is_err c.delete.result ≡ true = sym c.is_err.ensures.value ∙ c.if-is_err.true in
    intact-moved told (with_repository view c.delete.new.self) c.args.self.now (ap (with_repository view) (err-of c.delete.result (c.delete.new.self ≡ view.repository) was c.delete.ensures.kept) ∙ c.self.view_is) whole

pub returns-clause-intact : goal.returns-clause-intact
returns-clause-intact c = λ told whole.
    let view = seen c.self.inside in
    let was : is_err c.delete.result ≡ false = sym c.is_err.ensures.value ∙ c.if-is_err.false in
    let made = ok-of c.delete.result (c.delete.new.self ≡ with_held view.repository (deleted view.repository.held c.args.docno)) was c.delete.ensures.deleted in
    intact-from told told view c.args.self.now (with_repository view c.delete.new.self) c.self.view_is
    (λ w. record { parts = c.delete.ensures.intact told w.parts; queries = w.queries; merge = merge-moved told view.repository.merge c.delete.new.self.merge (ap (λ (x : repositories.State). x.merge) made) w.merge }) whole
