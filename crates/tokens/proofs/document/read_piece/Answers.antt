use Rattle.std.proofs.Common.{◌≡◌, ◌++◌, length, subst}
use Rattle.std.specs.Prelude.{OnOk}
use Rattle.tokens.specs.Words.{byte_terms}
use Rattle.tokens.proofs.PieceLemmas.{break_behind, close_behind, open_behind, text_behind}
use Rattle.tokens.proofs.document.read_piece.Goals as goal

pub returns-in-Text-clause-fields : goal.returns-in-Text-clause-fields
returns-in-Text-clause-fields c = text_behind c.push_byte_terms.result c.args.piece c.in-Text.text c.args.tokens.now c.push_byte_terms.new.terms c.args.fields.now c.args.opened.now c.in-Text.is
    (subst (λ bytes. OnOk c.push_byte_terms.result (c.push_byte_terms.new.terms ≡ c.args.tokens.now ++ byte_terms bytes)) c.as_slice.ensures c.push_byte_terms.ensures.ok)

pub returns-in_ok-open_field-in-Open-clause-fields : goal.returns-in_ok-open_field-in-Open-clause-fields
returns-in_ok-open_field-in-Open-clause-fields c = λ list keeps. open_behind c.args.piece c.in-Open.name (length c.args.tokens.now) c.len-at.result list c.args.fields.now c.args.opened.now c.open_field.new.self c.in-Open.is c.len-at.ensures c.in_ok-open_field-in-Open.ensures.here c.in_ok-open_field-in-Open.ensures.others keeps

pub returns-in_ok-close_one-in-Close-clause-fields : goal.returns-in_ok-close_one-in-Close-clause-fields
returns-in_ok-close_one-in-Close-clause-fields c = λ list keeps. close_behind c.args.piece c.in-Close.name (length c.args.tokens.now) c.len-at.result list c.args.fields.now c.close_one.new.fields c.close_one.new.opened c.in-Close.is c.len-at.ensures (c.in_ok-close_one-in-Close.ensures.fields list keeps) (c.in_ok-close_one-in-Close.ensures.rest list keeps)

pub returns-in-Break-clause-fields : goal.returns-in-Break-clause-fields
returns-in-Break-clause-fields c = λ list keeps. break_behind c.args.piece (length c.args.tokens.now) list c.args.fields.now c.args.opened.now c.in-Break.is keeps
