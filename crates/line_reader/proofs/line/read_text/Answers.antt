use Rattle.std.proofs.Common.{rules, ◌≡◌, ◌∙◌, sym, ap, length, arith, [], false, length-drop}
use Rattle.std.specs.Io.KnownBytes.{prepend_known}
use Rattle.read_ahead.proofs.StepsLemmas.{steps_then, steps_ahead}
use Rattle.line_reader.specs.Lines.{has_feed, kept}
use Rattle.line_reader.proofs.LineLemmas.{after_none, at_end_behind, kept_again, rest_at_end, rest_ends, rest_further, text_at_end, text_ends, text_further}
use Rattle.line_reader.proofs.line.read_text.Goals as goal

pub returns-then-branch-clause-text : goal.returns-then-branch-clause-text
returns-then-branch-clause-text g c = text_ends c.pieces.text.items c.args.text.now.items c.take_piece.new.text.items c.pieces.ahead.bytes (g.S.Source.left c.pieces.source) _ (search rules) c.in_ok-take_piece.ensures.text c.pieces.invariant.text

pub returns-then-branch-clause-rest : goal.returns-then-branch-clause-rest
returns-then-branch-clause-rest g c = rest_ends c.pieces.ahead.bytes c.take_piece.new.ahead.bytes (g.S.Source.left c.pieces.source) _ (search rules) c.in_ok-take_piece.ensures.rest c.pieces.invariant.rest

pub returns-then-branch-2-clause-rest : goal.returns-then-branch-2-clause-rest
returns-then-branch-2-clause-rest g c =
    let none : has_feed c.pieces.ahead.bytes ≡ false = search rules in
    let empty : c.take_piece.new.ahead.bytes ≡ [] = c.in_ok-take_piece.ensures.rest ∙ after_none c.pieces.ahead.bytes none in
    let unread : prepend_known c.fill.new.self.bytes (g.S.Source.left c.fill.new.source) ≡ prepend_known [] (g.S.Source.left c.pieces.source) = rw empty at c.in_ok-fill.ensures.unread in
    let ended = rw c.if-branch-2.true at c.in_ok-fill.ensures.ended in
    rest_at_end _ _ (at_end_behind c.fill.new.self.bytes (g.S.Source.left c.fill.new.source) (ended.1 ∙ empty) ended.0) (rest_further c.pieces.ahead.bytes (g.S.Source.left c.pieces.source) _ _ none unread c.pieces.invariant.rest)

pub returns-then-branch-2-clause-text : goal.returns-then-branch-2-clause-text
returns-then-branch-2-clause-text g c =
    let none : has_feed c.pieces.ahead.bytes ≡ false = search rules in
    let empty : c.take_piece.new.ahead.bytes ≡ [] = c.in_ok-take_piece.ensures.rest ∙ after_none c.pieces.ahead.bytes none in
    let unread : prepend_known c.fill.new.self.bytes (g.S.Source.left c.fill.new.source) ≡ prepend_known [] (g.S.Source.left c.pieces.source) = rw empty at c.in_ok-fill.ensures.unread in
    let ended = rw c.if-branch-2.true at c.in_ok-fill.ensures.ended in
    let again : c.take_piece.new.text.items ≡ kept c.take_piece.new.text.items = c.in_ok-take_piece.ensures.text ∙ kept_again _ ∙ ap kept (sym c.in_ok-take_piece.ensures.text) in
    text_at_end c.args.text.now.items c.take_piece.new.text.items _ _ again (at_end_behind c.fill.new.self.bytes (g.S.Source.left c.fill.new.source) (ended.1 ∙ empty) ended.0) (text_further c.pieces.text.items c.args.text.now.items c.take_piece.new.text.items c.pieces.ahead.bytes (g.S.Source.left c.pieces.source) _ _ none c.in_ok-take_piece.ensures.text unread c.pieces.invariant.text)

pub pieces-preserved : goal.pieces-preserved
pieces-preserved g c =
    let none : has_feed c.pieces.ahead.bytes ≡ false = search rules in
    let empty : c.take_piece.new.ahead.bytes ≡ [] = c.in_ok-take_piece.ensures.rest ∙ after_none c.pieces.ahead.bytes none in
    let unread : prepend_known c.fill.new.self.bytes (g.S.Source.left c.fill.new.source) ≡ prepend_known [] (g.S.Source.left c.pieces.source) = rw empty at c.in_ok-fill.ensures.unread in
    let (count, within, bytes, offset) = c.in_ok-take_piece.ensures.advances in
    record {
      few = c.in_ok-take_piece.ensures.few;
      text = text_further c.pieces.text.items c.args.text.now.items c.take_piece.new.text.items c.pieces.ahead.bytes (g.S.Source.left c.pieces.source) _ _ none c.in_ok-take_piece.ensures.text unread c.pieces.invariant.text;
      rest = rest_further c.pieces.ahead.bytes (g.S.Source.left c.pieces.source) _ _ none unread c.pieces.invariant.rest;
      steps = steps_then _ _ _ _ _ _ _ _ _ _ _ c.pieces.invariant.steps (steps_then _ _ _ _ _ _ _ _ _ _ _ (steps_ahead g.S.Source.left g.S.Source.layers g.S.Source.held g.S.Source.faults g.S.Source.can_give _ _ count c.pieces.source within bytes offset) c.in_ok-fill.ensures.steps);
      none = c.in_ok-fill.ensures.none (λ e. cc) ∙ c.pieces.invariant.none;
      moves = λ some. omega (arith, c.pieces.invariant.moves some, within, offset, ap length bytes, ap length empty, length-drop count c.pieces.ahead.bytes, c.in_ok-fill.ensures.offset);
    }

pub returns-then-branch-2-clause-none : goal.returns-then-branch-2-clause-none
returns-then-branch-2-clause-none g c = λ _. c.in_ok-fill.ensures.none (λ e. cc) ∙ c.pieces.invariant.none

pub fill-requires : goal.fill-requires
fill-requires g c =
    let none : has_feed c.pieces.ahead.bytes ≡ false = search rules in
    let empty : c.take_piece.new.ahead.bytes ≡ [] = c.in_ok-take_piece.ensures.rest ∙ after_none c.pieces.ahead.bytes none in
    rw empty (omega arith)

pub returns-in_err-take_piece-clause-steps : goal.returns-in_err-take_piece-clause-steps
returns-in_err-take_piece-clause-steps g c =
    let (count, within, bytes, offset) = c.in_err-take_piece.ensures.advances in
    steps_then g.S.Source.left g.S.Source.layers g.S.Source.held g.S.Source.faults g.S.Source.can_give _ _ _ _ _ _ c.pieces.invariant.steps (steps_ahead g.S.Source.left g.S.Source.layers g.S.Source.held g.S.Source.faults g.S.Source.can_give _ _ count c.pieces.source within bytes offset)

pub returns-then-branch-clause-steps : goal.returns-then-branch-clause-steps
returns-then-branch-clause-steps g c =
    let (count, within, bytes, offset) = c.in_ok-take_piece.ensures.advances in
    steps_then g.S.Source.left g.S.Source.layers g.S.Source.held g.S.Source.faults g.S.Source.can_give _ _ _ _ _ _ c.pieces.invariant.steps (steps_ahead g.S.Source.left g.S.Source.layers g.S.Source.held g.S.Source.faults g.S.Source.can_give _ _ count c.pieces.source within bytes offset)

pub returns-in_err-fill-clause-steps : goal.returns-in_err-fill-clause-steps
returns-in_err-fill-clause-steps g c =
    let (count, within, bytes, offset) = c.in_ok-take_piece.ensures.advances in
    steps_then g.S.Source.left g.S.Source.layers g.S.Source.held g.S.Source.faults g.S.Source.can_give _ _ _ _ _ _ c.pieces.invariant.steps (steps_then g.S.Source.left g.S.Source.layers g.S.Source.held g.S.Source.faults g.S.Source.can_give _ _ _ _ _ _ (steps_ahead g.S.Source.left g.S.Source.layers g.S.Source.held g.S.Source.faults g.S.Source.can_give _ _ count c.pieces.source within bytes offset) c.in_err-fill.ensures.steps)

pub returns-then-branch-2-clause-steps : goal.returns-then-branch-2-clause-steps
returns-then-branch-2-clause-steps g c =
    let (count, within, bytes, offset) = c.in_ok-take_piece.ensures.advances in
    steps_then g.S.Source.left g.S.Source.layers g.S.Source.held g.S.Source.faults g.S.Source.can_give _ _ _ _ _ _ c.pieces.invariant.steps (steps_then g.S.Source.left g.S.Source.layers g.S.Source.held g.S.Source.faults g.S.Source.can_give _ _ _ _ _ _ (steps_ahead g.S.Source.left g.S.Source.layers g.S.Source.held g.S.Source.faults g.S.Source.can_give _ _ count c.pieces.source within bytes offset) c.in_ok-fill.ensures.steps)
