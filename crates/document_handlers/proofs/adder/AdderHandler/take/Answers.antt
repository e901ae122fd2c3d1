use Rattle.std.proofs.Common.{◌≡◌, rules}
use Rattle.tokens.specs.declared.document.TokenRefusal.TheVariants.{Memory}
use Rattle.document_handlers.proofs.AdditionLemmas.{unread, unread-behind, unread-reply}
use Rattle.document_handlers.proofs.adder.AdderHandler.take.Goals as goal

pub returns-in_ok-reply-in-Err : goal.returns-in_ok-reply-in-Err
returns-in_ok-reply-in-Err c =
    let some : c.in-Err.refusal ≡ Memory → ⊥ = λ e. search rules in
    let is = unread c.args.document c.in-Err.refusal c.in-Err.ensures some in
    record {
      reply = λ w does. unread-reply does.0 _ does.1 w c.args.document c.in-Err.refusal _ does.4 is c.in_ok-reply-in-Err.ensures;
      behind = λ w does. (does.0, does.1, does.2, does.3, unread-behind does.0 _ does.1 w c.args.document c.in-Err.refusal does.4 is);
      whole = c.requires.whole;
    }
