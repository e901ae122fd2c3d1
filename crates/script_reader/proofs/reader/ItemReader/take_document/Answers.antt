use Rattle.std.proofs.Common.{rules, ◌≡◌, ◌+◌, ◌-◌, arith, false}
use Rattle.script_reader.proofs.ItemLemmas.{given_document, given_none, given_order, given_refused, refused_is, text_stays}
use Rattle.script_reader.proofs.reader.ItemReader.take_document.Goals as goal

pub returns-in_ok-document_item-in-Ok-Some-clause-items : goal.returns-in_ok-document_item-in-Ok-Some-clause-items
returns-in_ok-document_item-in-Ok-Some-clause-items g c =
    let (alive, within, order) = rw c.requires.stage at c.requires.ready.stage in
    let e = c.in-Ok-Some.ensures in
    let read = rw c.in-Ok-Some.field-0-is at e.read in
    rw (c.requires.stage, c.in_ok-document_item-in-Ok-Some.ensures.item) (given_document c.args.self.now.lines.ahead.bytes c.args.missing _ c.args.self.now.documents.ahead c.next_raw-result.new.missing _ c.next_raw-result.new.documents.ahead c.args.place (g.S.Source.left c.args.source.now) (g.S.Source.left c.next_raw-result.new.source) e.rest e.short e.same_end order (omega (arith, e.most, e.lowers)) (omega (arith, e.most, e.lowers, c.taken.ensures, c.taken-taken.ensures)) c.in-Ok-Some.raw read)

pub returns-in-Ok-None-clause-items : goal.returns-in-Ok-None-clause-items
returns-in-Ok-None-clause-items g c =
    let (alive, within, order) = rw c.requires.stage at c.requires.ready.stage in
    let e = c.in-Ok-None.ensures in
    let read = rw c.in-Ok-None.field-0-is at e.read in
    rw (c.requires.stage, c.short_item.ensures) (given_none c.args.self.now.lines.ahead.bytes c.args.missing _ c.args.self.now.documents.ahead c.next_raw-result.new.missing _ c.next_raw-result.new.documents.ahead c.args.place (g.S.Source.left c.args.source.now) (g.S.Source.left c.next_raw-result.new.source) e.rest e.short e.same_end order (omega (arith, e.most, e.lowers)) (omega (arith, e.most, e.lowers, c.taken.ensures, c.taken-taken.ensures)) read)

pub returns-in_ok-document_item-in-Ok-Some-clause-ready : goal.returns-in_ok-document_item-in-Ok-Some-clause-ready
returns-in_ok-document_item-in-Ok-Some-clause-ready g c =
    let (alive, within, order) = rw c.requires.stage at c.requires.ready.stage in
    let e = c.in-Ok-Some.ensures in
    let now : c.next_raw-result.new.documents.is_ended ≡ false = search rules in
    record {
      fits = omega (arith, c.requires.ready.fits, e.most, e.lowers, c.taken.ensures, c.taken-taken.ensures);
      stage = (now, omega (arith, within, e.most, e.lowers, c.taken.ensures, c.taken-taken.ensures), given_order c.args.self.now.lines.ahead.bytes c.args.missing (c.args.self.now.lines.ahead.offset + c.args.self.now.passed) c.args.self.now.documents.ahead c.next_raw-result.new.missing (c.args.self.now.lines.ahead.offset + (c.args.self.now.passed + (c.taken.result - c.taken-taken.result))) c.next_raw-result.new.documents.ahead c.args.place (g.S.Source.left c.args.source.now) (g.S.Source.left c.next_raw-result.new.source) e.rest e.short e.same_end order (omega (arith, e.most, e.lowers)) (omega (arith, e.most, e.lowers, c.taken.ensures, c.taken-taken.ensures)));
    }

pub returns-in_ok-refusal-in-Err-clause-items : goal.returns-in_ok-refusal-in-Err-clause-items
returns-in_ok-refusal-in-Err-clause-items g c =
    let (alive, within, order) = rw c.requires.stage at c.requires.ready.stage in
    let e = c.in-Err.ensures in
    let kept = c.in_ok-refusal-in-Err.ensures.kept in
    rw (c.requires.stage, kept.0) (given_refused c.args.self.now.lines.ahead.bytes c.args.missing _ c.args.self.now.documents.ahead c.next_raw-result.new.missing _ c.next_raw-result.new.documents.ahead c.args.place (g.S.Source.left c.args.source.now) (g.S.Source.left c.next_raw-result.new.source) e.rest e.short e.same_end order (omega (arith, e.most, e.lowers)) (omega (arith, e.most, e.lowers, c.taken.ensures, c.taken-taken.ensures)) c.in-Err.refusal (refused_is c.in-Err.refusal c.args.self.now.documents.ahead.offset _ _ kept.1 e.read))

pub returns-in_ok-document_item-in-Ok-Some-clause-same : goal.returns-in_ok-document_item-in-Ok-Some-clause-same
returns-in_ok-document_item-in-Ok-Some-clause-same g c = λ _. c.in-Ok-Some.ensures.none (λ e. cc)

pub returns-in-Ok-None-clause-same : goal.returns-in-Ok-None-clause-same
returns-in-Ok-None-clause-same g c = λ _. c.in-Ok-None.ensures.none (λ e. cc)

pub returns-in_ok-refusal-in-Err-clause-same : goal.returns-in_ok-refusal-in-Err-clause-same
returns-in_ok-refusal-in-Err-clause-same g c = λ _. text_stays c.in-Err.refusal _ _ c.in_ok-refusal-in-Err.ensures.kept.1 c.in-Err.ensures.none
