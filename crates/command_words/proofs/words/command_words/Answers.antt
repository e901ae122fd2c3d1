use Rattle.std.proofs.Common.{rules}
use Rattle.command_words.specs.Given.{told_given}
use Rattle.command_words.proofs.WordLemmas.{no_command}
use Rattle.command_words.proofs.words.command_words.Goals as goal

pub returns-in_default-clause-words : goal.returns-in_default-clause-words
returns-in_default-clause-words c = no_command c.args.command.now (told_given c.args.given.now) (search rules) (search rules) (search rules) (search rules) (search rules) (search rules) (search rules) (search rules) (search rules) (search rules)
