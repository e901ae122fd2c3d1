-- The lines of an answer, told as its entries.
use Rattle.std.specs.Prelude.{ℕ, ◌+◌, ◌*◌, ◌==◌, ◌&&◌, nat_lt, Bool, true, false, List, [], ◌∷◌, ◌++◌, Option, None, Some, codes, length, if◌then◌else◌}
use Rattle.log_chain.specs.Score.{score}
use Rattle.ri_base.specs.Ratio.{Ratio}
use Rattle.ranked_output.specs.Texts.{line_text}
use Rattle.ranked_output.specs.declared.marks.Mark.{Mark}
use Rattle.ranked_output.specs.declared.marks.Mark.TheVariants.{First, Below, Same, Near}
use Rattle.desk.specs.Lines.{reply_line, with_count}
use Rattle.desk.specs.Answers.{Entry}

-- leaf by leaf the same number, however each fraction is written
abbrev pub are_same : List Ratio → List Ratio → Bool
are_same [] [] = true
are_same (x ∷ xs) (y ∷ ys) = (x.p * y.q == y.p * x.q) && are_same xs ys
are_same xs ys = false

-- the mark of an entry behind that of the line above
abbrev pub mark_behind : ℕ → Option Entry → Entry → Mark
mark_behind scale None e = First
mark_behind scale (Some above) e =
    if are_same above.candidate.beliefs e.candidate.beliefs then Same
    else if nat_lt (above.key + 2 * scale) e.key then Below
    else Near

-- RANK MARK -SCORE DOCNO BEGIN END; the beliefs aren't shown
abbrev pub entry_text : ℕ → ℕ → Mark → Entry → List ℕ
entry_text scale rank mark e = line_text rank (record {
  mark = mark;
  score = score scale e.key;
  docno = e.candidate.docno;
  begin = e.candidate.begin;
  end = e.candidate.end;
  fractions = [];
})

-- the lines of entries behind the one above them, if there is one; the first has this rank
abbrev pub entries_behind : ℕ → ℕ → Option Entry → List Entry → List ℕ
entries_behind scale rank above [] = []
entries_behind scale rank above (e ∷ es) = entry_text scale rank (mark_behind scale above e) e ++ entries_behind scale (rank + 1) (Some e) es

-- the lines of an answer
abbrev pub entries_text : ℕ → List Entry → List ℕ
entries_text scale entries = entries_behind scale 1 None entries

-- how many results they are, and then the line of each
abbrev pub answer_text : List ℕ → ℕ → List Entry → List ℕ
answer_text name scale entries = reply_line (codes "results") (with_count name (length entries)) ++ entries_text scale entries
