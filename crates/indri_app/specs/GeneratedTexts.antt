-- What `gen` writes.
use Rattle.std.specs.Prelude.{ℕ, List, [], ◌∷◌, ◌++◌, codes, length}
use Rattle.std.specs.Fmt.{decimal}
use Rattle.ri_base.specs.Collection.{token_count}
use Rattle.ri_base.specs.Documents.{Document}
use Rattle.ranked_output.specs.Texts.{lines_of, lines_text}
use Rattle.generated_events.specs.Events.{last_event}
use Rattle.desk.specs.State.{State}
use Rattle.desk.specs.Step.{step}
use Rattle.desk.specs.Told.{Told, results}
use Rattle.desk.specs.declared.reply.Reply.{Reply}
use Rattle.desk.specs.declared.reply.Reply.TheVariants.{Results}
use Rattle.indri_app.specs.Results.{entries_text}

-- gen N live LIVE tokens TOKENS
abbrev pub summary_line : ℕ → ℕ → ℕ → List ℕ
summary_line n live tokens = codes "gen " ++ decimal n ++ codes " live " ++ decimal live ++ codes " tokens " ++ decimal tokens ++ 10 ∷ []

-- how many documents are live, and how many tokens they have
abbrev pub summary_text : ℕ → List Document → List ℕ
summary_text n live = summary_line n (length live) (token_count live)

-- the lines of results alone; where none are told there are none
abbrev pub told_lines : Told → List ℕ
told_lines (results name scale entries) = entries_text scale entries
told_lines t = []

-- what is written in the state in which the results are shown
abbrev pub gen_text : ℕ → State → List ℕ
gen_text n s = summary_text n s.live ++ told_lines (step s last_event).1

-- the lines of the results that a reply shows
abbrev pub reply_lines : Reply → List ℕ
reply_lines (Results name scale hits) = lines_text (lines_of scale hits)
reply_lines r = []
