-- The lines of a ranking and their texts. The format is the project's own.
use Rattle.std.specs.Prelude.{ℕ, zero, suc, ◌+◌, ◌/◌, ◌%◌, List, [], ◌∷◌, ◌++◌, Option, None, Some}
use Rattle.std.specs.Fmt.{decimal}
use Rattle.log_chain.specs.Score.{score}
use Rattle.ri_base.specs.declared.fraction.Fraction.{Fraction}
use Rattle.ri_base.specs.declared.hit.Hit.{Hit}
use Rattle.ranked_output.specs.declared.marks.Mark.{Mark}
use Rattle.ranked_output.specs.declared.marks.Mark.TheVariants.{First, Below, Same, Near}
use Rattle.ranked_output.specs.Marks.{mark_of}

-- the last decimal digits of n, so many as are asked for
unfoldable pub last_digits : ℕ → ℕ → List ℕ
last_digits zero n = []
last_digits (suc places) n = last_digits places (n / 10) ++ (48 + n % 10) ∷ []

-- whole part, point and six digits of a number of millionths
abbrev pub score_text : ℕ → List ℕ
score_text millionths = decimal (millionths / 1000000) ++ 46 ∷ last_digits 6 millionths

-- what a line shows of a hit, its score in millionths, and the beliefs of the query's leaves that it doesn't show
pub record Line : Type 0 where
  pub mark : Mark
  pub score : ℕ
  pub docno : List ℕ
  pub begin : ℕ
  pub end : ℕ
  pub fractions : List Fraction

-- the line of a hit with its mark
abbrev pub line_of : ℕ → Mark → Hit → Line
line_of scale mark hit = record {
  mark = mark;
  score = score scale hit.key;
  docno = hit.docno;
  begin = hit.begin;
  end = hit.end;
  fractions = hit.fractions;
}

abbrev pub sign : Mark → ℕ
sign First = 45
sign Below = 62
sign Same = 61
sign Near = 126

-- DOCNO BEGIN END, the end of a line
abbrev pub hit_text : List ℕ → ℕ → ℕ → List ℕ
hit_text docno begin end = docno ++ 32 ∷ decimal begin ++ 32 ∷ decimal end ++ 10 ∷ []

-- RANK MARK -SCORE DOCNO BEGIN END
abbrev pub line_text : ℕ → Line → List ℕ
line_text rank l =
    decimal rank ++ 32 ∷ sign l.mark ∷ 32 ∷ 45 ∷ score_text l.score ++ 32 ∷ hit_text l.docno l.begin l.end

-- TOPIC Q0 DOCNO RANK
abbrev pub found_text : List ℕ → List ℕ → ℕ → List ℕ
found_text topic docno rank = topic ++ 32 ∷ 81 ∷ 48 ∷ 32 ∷ docno ++ 32 ∷ decimal rank

-- TOPIC Q0 DOCNO RANK -SCORE RUN: the line of a document in a run, six columns as trec_eval reads them
abbrev pub trec_text : List ℕ → ℕ → List ℕ → ℕ → List ℕ → List ℕ
trec_text topic rank docno score run =
    topic ++ 32 ∷ 81 ∷ 48 ∷ 32 ∷ docno ++ 32 ∷ decimal rank ++ 32 ∷ 45 ∷ score_text score ++ 32 ∷ run ++ 10 ∷ []

-- the lines of hits behind the one above them, if there is one
abbrev pub lines_behind : ℕ → Option Hit → List Hit → List Line
lines_behind scale above [] = []
lines_behind scale above (hit ∷ hits) = line_of scale (mark_of scale above hit) hit ∷ lines_behind scale (Some hit) hits

-- the lines of a ranking's hits in their order
abbrev pub lines_of : ℕ → List Hit → List Line
lines_of scale hits = lines_behind scale None hits

-- the text of lines whose first has this rank
abbrev pub text_from : ℕ → List Line → List ℕ
text_from rank [] = []
text_from rank (l ∷ ls) = line_text rank l ++ text_from (rank + 1) ls

-- the text of a ranking's lines
abbrev pub lines_text : List Line → List ℕ
lines_text lines = text_from 1 lines
