-- The command of clap that reads the words, and what it makes of them. No public clause cites this: that it is what the
-- items of the words give is proved.
use Rattle.std.specs.Prelude.{true, List, Option, None, Some, codes, if◌then◌else◌}
use Rattle.clap.specs.Simple.{on_top}
use Rattle.clap.specs.Words.{App, Row, Rule, Text, first_of, matches_of, new_app, new_rule, with_rule}
use Rattle.command_words.specs.Given.{Values}
use Rattle.command_words.specs.Taken.{is_taken}

-- an option `--name VALUE` or `--name=VALUE`, at most once
abbrev pub option_rule : Text → Rule
option_rule name = record (new_rule name) { long = Some name }

-- no program's name before the words, and no `--help`
abbrev pub bare_app : Text → App
bare_app name = on_top (λ s. record s { no_binary_name = true; disable_help_flag = true }) (new_app name)

-- two positional words and the options k, mu, topic and run
unfoldable pub words_app : App
words_app =
    with_rule (with_rule (with_rule (with_rule (with_rule (with_rule (bare_app (codes "indri"))
    (new_rule (codes "first"))) (new_rule (codes "second"))) (option_rule (codes "k"))) (option_rule (codes "mu")))
    (option_rule (codes "topic"))) (option_rule (codes "run"))

unfoldable pub rows_of_words : List Text → List Row
rows_of_words words = matches_of words_app words

abbrev pub values_of_rows : List Row → Values
values_of_rows rows = record {
  first = first_of (codes "first") rows;
  second = first_of (codes "second") rows;
  k = first_of (codes "k") rows;
  mu = first_of (codes "mu") rows;
  topic = first_of (codes "topic") rows;
  run = first_of (codes "run") rows;
}

-- what clap finds in the words, where it takes them
unfoldable pub taken_by : List Text → Option Values
taken_by words = if is_taken words_app words then Some (values_of_rows (rows_of_words words)) else None
