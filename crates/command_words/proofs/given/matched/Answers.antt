use Rattle.std.proofs.lemmas.Result.{err_from_is_err_and}
use Rattle.command_words.proofs.GivenLemmas.{words_given, words_refused}
use Rattle.command_words.proofs.given.matched.Goals as goal

pub returns-in_err-matches : goal.returns-in_err-matches
returns-in_err-matches c =
    let p = err_from_is_err_and c.from_residual-in_err-matches.result c.from_residual-in_err-matches.ensures.1 in
    rw (p.1, p.2) (words_refused _ _ c.requires c.in_ok-any_command.ensures _ c.in_err-matches.ensures)

pub returns : goal.returns
returns c =
    words_given _ _ c.requires c.in_ok-any_command.ensures c.in_ok-matches.matches _ c.in_ok-matches.ensures c.value.ensures c.value-2.ensures
    c.value-3.ensures c.value-4.ensures c.value-5.ensures c.value-6.ensures
