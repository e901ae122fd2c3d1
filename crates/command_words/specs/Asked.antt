-- What the answer of `read_words` says.
use Rattle.std.specs.Prelude.{ℕ, ◌≤◌, List, Option, String, option_map, string_bytes}
use Rattle.smoothing.specs.Fractions.{IsMu}
use Rattle.generated_events.specs.declared.generator.TheConstants.{MAX_GENERATED}
use Rattle.command_words.specs.Table.{Asks, Question, add, create, delete, explain, gen, merge, prior, query, scan, session}
use Rattle.command_words.specs.declared.words.Asked.{Asked}
use Rattle.command_words.specs.declared.words.Words.{Words}
use Rattle.command_words.specs.declared.words.Words.TheVariants.{Add, Create, Delete, Explain, Gen, Merge, Prior, Query, Scan, Session}
use Rattle.command_words.specs.declared.words.TheConstants.{MAX_RESULTS}

abbrev pub told_labels : {Z : Type 0} → Option (String Z × String Z) → Option (List ℕ × List ℕ)
told_labels labels = option_map (λ x. (string_bytes x.0, string_bytes x.1)) labels

abbrev pub told_asked : Asked → Question
told_asked asked = record { text = string_bytes asked.text; k = asked.k; mu = asked.mu; labels = told_labels asked.trec }

abbrev pub told_words : Words → Asks
told_words (Scan text) = scan (string_bytes text)
told_words (Query asked) = query (told_asked asked)
told_words (Explain rank asked) = explain rank (told_asked asked)
told_words Create = create
told_words Add = add
told_words Delete = delete
told_words Merge = merge
told_words (Prior name) = prior name
told_words (Session mu) = session mu
told_words (Gen count) = gen count

-- the numbers of a query are in their ranges
pub record IsInRange (asked : Asked) : Type 0 where
  pub least : 1 ≤ asked.k
  pub most : asked.k ≤ MAX_RESULTS
  pub mu : IsMu asked.mu

abbrev pub AreInRange : Words → Type 0
AreInRange (Scan text) = Unit {0}
AreInRange (Query asked) = IsInRange asked
AreInRange (Explain rank asked) = (1 ≤ rank) × (rank ≤ MAX_RESULTS) × IsInRange asked
AreInRange Create = Unit {0}
AreInRange Add = Unit {0}
AreInRange Delete = Unit {0}
AreInRange Merge = Unit {0}
AreInRange (Prior name) = Unit {0}
AreInRange (Session mu) = IsMu mu
AreInRange (Gen count) = (1 ≤ count) × (count ≤ MAX_GENERATED)
