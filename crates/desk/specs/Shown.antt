-- What is shown of a ranking, and the lines that show its results.
use Rattle.std.specs.Prelude.{ℕ, ◌+◌, List, [], ◌∷◌, ◌++◌, Option, None, Some}
use Rattle.command_words.specs.Asked.{told_labels}
use Rattle.command_words.specs.Table.{Question}
use Rattle.ranked_output.specs.Texts.{Line, line_text, trec_text}
use Rattle.desk.specs.declared.shown.Shown.{Shown as Form}
use Rattle.desk.specs.declared.shown.Shown.TheVariants.{Explanation, Results}

-- its first results, so many at most, as result lines or as lines of a run of this topic; or why the result of a rank has
-- its score
pub data Shown : Type 0 where
  results : ℕ → Option (List ℕ × List ℕ) → Shown
  explanation : ℕ → Shown

abbrev pub told_shown : Form → Shown
told_shown (Results count labels) = results count (told_labels labels)
told_shown (Explanation rank) = explanation rank

-- what a question asks for
abbrev pub shown_for : Question → Shown
shown_for question = results question.k question.labels

-- a line as a result line, or as a line of a run of this topic
abbrev pub shown_line : Option (List ℕ × List ℕ) → ℕ → Line → List ℕ
shown_line None rank l = line_text rank l
shown_line (Some labels) rank l = trec_text labels.0 rank l.docno l.score labels.1

-- the text of lines whose first has this rank
abbrev pub shown_from : Option (List ℕ × List ℕ) → ℕ → List Line → List ℕ
shown_from labels rank [] = []
shown_from labels rank (l ∷ ls) = shown_line labels rank l ++ shown_from labels (rank + 1) ls

-- the text of a ranking's lines
abbrev pub shown_text : Option (List ℕ × List ℕ) → List Line → List ℕ
shown_text labels lines = shown_from labels 1 lines
