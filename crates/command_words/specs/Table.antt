-- The table of commands: what the words of the command line ask for.
use Rattle.std.specs.Prelude.{ℕ, Bool, ◌&&◌, ◌||◌, nat_le, List, ◌∷◌, codes, length, map, Option, None, Some, is_some, option_map, option_and_then, if◌then◌else◌}
use Rattle.std.specs.List.{list_all}
use Rattle.std.specs.Str.{bytes_eq}
use Rattle.ri_base.specs.Ascii.{lower}
use Rattle.ri_base.specs.Text.{is_name}
use Rattle.smoothing.specs.declared.rule.TheConstants.{MAX_MU}
use Rattle.generated_events.specs.declared.generator.TheConstants.{MAX_GENERATED}
use Rattle.command_words.specs.Given.{Values, given_by}
use Rattle.line_parts.specs.Digits.{number_to}
use Rattle.command_words.specs.Numbers.{number_or}
use Rattle.command_words.specs.declared.labels.TheConstants.{LABEL_BYTES}
use Rattle.command_words.specs.declared.words.TheConstants.{DEFAULT_MU, DEFAULT_RESULTS, MAX_RESULTS}

-- a query's text, how many results are asked for, the number of its smoothing, and the topic and the run of run lines
pub record Question : Type 0 where
  pub text : List ℕ
  pub k : ℕ
  pub mu : ℕ
  pub labels : Option (List ℕ × List ℕ)

-- what is asked for
pub data Asks : Type 0 where
  scan : List ℕ → Asks
  query : Question → Asks
  explain : ℕ → Question → Asks
  create : Asks
  add : Asks
  delete : Asks
  merge : Asks
  prior : List ℕ → Asks
  session : ℕ → Asks
  gen : ℕ → Asks

-- ---- the topic and the run: both or neither, each of 1 to 64 bytes from 33 to 126

abbrev pub is_label_byte : ℕ → Bool
is_label_byte b = nat_le 33 b && nat_le b 126

abbrev pub is_label : List ℕ → Bool
is_label text = nat_le 1 (length text) && nat_le (length text) LABEL_BYTES && list_all is_label_byte text

abbrev pub labels_of : Option (List ℕ) → Option (List ℕ) → Option (Option (List ℕ × List ℕ))
labels_of None None = Some None
labels_of (Some topic) (Some run) = if is_label topic && is_label run then Some (Some (topic, run)) else None
labels_of _ _ = None

-- ---- the commands

-- the one positional word, where no second one stands
abbrev pub only_word : Values → Option (List ℕ)
only_word given = if is_some given.second then None else given.first

abbrev pub has_options : Values → Bool
has_options given = is_some given.k || is_some given.mu || is_some given.topic || is_some given.run

-- scan EXPR
abbrev pub scan_by : Values → Option Asks
scan_by given = if has_options given then None else option_map scan (only_word given)

abbrev pub query_from : Option (List ℕ) → Option ℕ → Option ℕ → Option (Option (List ℕ × List ℕ)) → Option Asks
query_from (Some text) (Some k) (Some mu) (Some labels) = Some (query (record { text = text; k = k; mu = mu; labels = labels }))
query_from _ _ _ _ = None

-- query QUERY [--k N] [--mu N] [--topic TOPIC --run RUN]
abbrev pub query_by : Values → Option Asks
query_by given =
    query_from (only_word given) (number_or DEFAULT_RESULTS MAX_RESULTS given.k) (number_or DEFAULT_MU MAX_MU given.mu) (labels_of given.topic given.run)

abbrev pub explain_from : Option ℕ → Option (List ℕ) → Option ℕ → Option Asks
explain_from (Some rank) (Some text) (Some mu) = Some (explain rank (record { text = text; k = rank; mu = mu; labels = None }))
explain_from _ _ _ = None

-- explain RANK QUERY [--mu N]
abbrev pub explain_by : Values → Option Asks
explain_by given =
    if is_some given.k || is_some given.topic || is_some given.run then None
    else explain_from (option_and_then (number_to MAX_RESULTS) given.first) given.second (number_or DEFAULT_MU MAX_MU given.mu)

-- a command behind which nothing stands
abbrev pub bare_by : Asks → Values → Option Asks
bare_by asks given = if has_options given || is_some given.first || is_some given.second then None else Some asks

-- the name that a word is, read without case
abbrev pub name_in : List ℕ → Option (List ℕ)
name_in word = if is_name (map lower word) then Some (map lower word) else None

-- prior NAME
abbrev pub prior_by : Values → Option Asks
prior_by given = if has_options given then None else option_map prior (option_and_then name_in (only_word given))

-- session [--mu N]
abbrev pub session_by : Values → Option Asks
session_by given =
    if is_some given.first || is_some given.second || is_some given.k || is_some given.topic || is_some given.run then None
    else option_map session (number_or DEFAULT_MU MAX_MU given.mu)

-- gen N
abbrev pub gen_by : Values → Option Asks
gen_by given = if has_options given then None else option_map gen (option_and_then (number_to MAX_GENERATED) (only_word given))

abbrev pub command_by : List ℕ → Values → Option Asks
command_by command given =
    if bytes_eq command (codes "scan") then scan_by given
    else if bytes_eq command (codes "query") then query_by given
    else if bytes_eq command (codes "explain") then explain_by given
    else if bytes_eq command (codes "create") then bare_by create given
    else if bytes_eq command (codes "add") then bare_by add given
    else if bytes_eq command (codes "delete") then bare_by delete given
    else if bytes_eq command (codes "merge") then bare_by merge given
    else if bytes_eq command (codes "prior") then prior_by given
    else if bytes_eq command (codes "session") then session_by given
    else if bytes_eq command (codes "gen") then gen_by given
    else None

-- what the words ask for, where they are in the table: a folder, a command, and what stands behind them
abbrev pub asks_of : List (List ℕ) → Option Asks
asks_of (folder ∷ command ∷ rest) = option_and_then (command_by command) (given_by rest)
asks_of _ = None
