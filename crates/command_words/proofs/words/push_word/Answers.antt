use Rattle.std.proofs.lemmas.Str.{is_utf8-from_IsUtf8}
use Rattle.command_words.proofs.words.push_word.Goals as goal

pub returns-in_err-push-clause-text : goal.returns-in_err-push-clause-text
returns-in_err-push-clause-text c = is_utf8-from_IsUtf8 _ c.utf8.word

pub returns-clause-text : goal.returns-clause-text
returns-clause-text c = is_utf8-from_IsUtf8 _ c.utf8.word
