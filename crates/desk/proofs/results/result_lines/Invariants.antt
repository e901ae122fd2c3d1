use Rattle.std.proofs.Common.{◌≡◌, ◌+◌, ◌++◌, drop, length, IfSome}
use Rattle.std.specs.Option.{option_copied}
use Rattle.command_words.specs.Asked.{told_labels}
use Rattle.ranked_output.specs.Texts.{lines_behind, lines_of}
use Rattle.desk.specs.Replied.{leaf_count}
use Rattle.desk.specs.Shown.{shown_from, shown_text}
use Rattle.desk.proofs.results.result_lines.Given as goal

-- the text so far, and that of the hits that are left
abbrev pub invariant-loop-hit : goal.invariant-loop-hit
invariant-loop-hit l =
    (l.text.items ++ shown_from (told_labels l.labels) l.rank (lines_behind l.scale (option_copied l.above) (drop l.hit-index l.hit-items)) ≡ shown_text (told_labels l.labels) (lines_of l.scale l.hits))
    × (l.rank ≡ l.hit-index + 1)
    × IfSome l.above (λ above. length above.now.fractions ≡ leaf_count l.hits)
