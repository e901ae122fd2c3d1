-- What is written of a reply is the text of what it shows.
use Rattle.std.proofs.Common.{◌≡◌, ◌+◌, ◌*◌, ◌==◌, ℕ, nat_lt, ◌&&◌, List, [], ◌∷◌, ◌++◌, codes, map, refl, sym, ap, ◌∙◌, Option, None, Some}
use Rattle.std.specs.Prelude.{if◌then◌else◌}
use Rattle.std.specs.Fmt.{decimal}
use Rattle.std.specs.Option.{option_map}
use Rattle.std.proofs.lemmas.List.{length-map}
use Rattle.ri_base.specs.Documents.{Document}
use Rattle.ri_base.specs.Pair.{Pair}
use Rattle.ri_base.specs.Ratio.{ratio_of}
use Rattle.ri_base.specs.declared.fraction.Fraction.{Fraction}
use Rattle.ri_base.specs.declared.hit.Hit.{Hit}
use Rattle.ri_base.specs.declared.hit.LeafStats.{LeafStats}
use Rattle.log_chain.specs.Score.{score}
use Rattle.query_printer.specs.Printed.{context_text, printed}
use Rattle.query_check.specs.Leaves.{LeafTree, extents, prior}
use Rattle.ranker.specs.Ranking.{candidate_of}
use Rattle.ranked_output.specs.Explained as explained
use Rattle.ranked_output.specs.Explained.{belief_column, counts_columns, places_text, result_line, scale_line, score_line}
use Rattle.ranked_output.specs.Marks as marks
use Rattle.ranked_output.specs.Texts.{lines_behind, lines_of, lines_text, text_from}
use Rattle.ranked_output.specs.declared.explained.Explained.{Explained}
use Rattle.ranked_output.specs.declared.explained.LeafShown.{LeafShown}
use Rattle.ranked_output.specs.declared.explained.LeafShown.TheVariants as shown
use Rattle.ranked_output.specs.declared.marks.Mark.TheVariants.{Below, Near, Same}
use Rattle.result_explanation.specs.Explanation.{IsExplanation, LeafTold, expression, hit_window, leaf_told, leaves_told, named, told_leaf}
use Rattle.desk.specs.Lines.{reply_line, results_text, with_count}
use Rattle.desk.specs.Replied.{is_refused, reply_piece, reply_text}
use Rattle.desk.specs.declared.reply.Reply.{Reply}
use Rattle.desk.specs.declared.reply.Reply.TheVariants as reply
use Rattle.desk.specs.Answers.{Entry, entry_of}
use Rattle.desk.specs.Told as told
use Rattle.desk.specs.Told.{Line, Shows, Told, is_refusal}
use Rattle.indri_app.specs.Explanations.{explanation_text, leaf_text, leaves_text, result_text}
use Rattle.indri_app.specs.Results.{answer_text, are_same, entries_behind, entries_text, entry_text, mark_behind}
use Rattle.indri_app.specs.ToldTexts.{told_reply, told_text}

-- ---- results

same-beliefs : (xs ys : List Fraction) → marks.are_same xs ys ≡ are_same (map ratio_of xs) (map ratio_of ys)
same-beliefs [] [] = refl
same-beliefs [] (y ∷ ys) = refl
same-beliefs (x ∷ xs) [] = refl
same-beliefs (x ∷ xs) (y ∷ ys) = ap (λ b. (x.p * y.q == y.p * x.q) && b) (same-beliefs xs ys)

same-mark : (scale : ℕ) (above : Option Hit) (hit : Hit) → marks.mark_of scale above hit ≡ mark_behind scale (option_map entry_of above) (entry_of hit)
same-mark scale None hit = refl
same-mark scale (Some above) hit = ap (λ b. if b then Same else if nat_lt (above.key + 2 * scale) hit.key then Below else Near) (same-beliefs above.fractions hit.fractions)

same-lines : (scale rank : ℕ) (above : Option Hit) (hits : List Hit) → text_from rank (lines_behind scale above hits) ≡ entries_behind scale rank (option_map entry_of above) (map entry_of hits)
same-lines scale rank above [] = refl
same-lines scale rank above (hit ∷ hits) = λ i. entry_text scale rank (same-mark scale above hit i) (entry_of hit) ++ same-lines scale (rank + 1) (Some hit) hits i

-- the lines of hits are those of their entries
pub hits-text : (scale : ℕ) (hits : List Hit) (entries : List Entry) → map entry_of hits ≡ entries → lines_text (lines_of scale hits) ≡ entries_text scale entries
hits-text scale hits entries are = same-lines scale 1 None hits ∙ ap (entries_text scale) are

results-same : (name : List ℕ) (scale : ℕ) (hits : List Hit) → reply_text (reply.Results name scale hits) ≡ answer_text name scale (map entry_of hits)
unfolding reply_text results_text
results-same name scale hits = λ i. reply_line (codes "results") (with_count name (sym (length-map hits entry_of) i)) ++ same-lines scale 1 None hits i

-- ---- an explanation

abbrev text_told : ℕ → LeafTold → List ℕ
text_told i (expression x context count stats found belief) =
    codes "leaf " ++ decimal i ++ 32 ∷ printed x ++ context_text context ++ counts_columns count stats ++ belief_column belief ++ 10 ∷ places_text found
text_told i (named name belief) = codes "prior " ++ decimal i ++ 32 ∷ name ++ belief_column belief ++ 10 ∷ []

abbrev texts_told : ℕ → List LeafTold → List ℕ
texts_told i [] = []
texts_told i (l ∷ ls) = text_told i l ++ texts_told (i + 1) ls

leaf-shown : (i : ℕ) (l : LeafShown) → explained.leaf_text i l ≡ text_told i (told_leaf l)
leaf-shown i (shown.Extents expr context count stats found belief) = refl
leaf-shown i (shown.Prior name belief) = refl

leaves-shown : (i : ℕ) (ls : List LeafShown) → explained.leaves_text i ls ≡ texts_told i (map told_leaf ls)
leaves-shown i [] = refl
leaves-shown i (l ∷ ls) = λ k. leaf-shown i l k ++ leaves-shown (i + 1) ls k

module _ (names : List (List ℕ)) (d : Document) (w : Pair) where
  leaf-same : (i : ℕ) (l : LeafTree) (s : LeafStats) (b : Fraction) → text_told i (leaf_told names d w l s b) ≡ leaf_text names d w i l s (ratio_of b)
  leaf-same i (extents x context) s b = refl
  leaf-same i (prior number) s b = refl

  leaves-same : (i : ℕ) (ls : List LeafTree) (ss : List LeafStats) (bs : List Fraction) → texts_told i (leaves_told names d w ls ss bs) ≡ leaves_text names d w i ls ss (map ratio_of bs)
  unfolding leaves_told
  leaves-same i [] ss bs = refl
  leaves-same i (l ∷ ls) [] bs = refl
  leaves-same i (l ∷ ls) (s ∷ ss) [] = refl
  leaves-same i (l ∷ ls) (s ∷ ss) (b ∷ bs) = λ k. leaf-same i l s b k ++ leaves-same (i + 1) ls ss bs k

abbrev line_with : Line → Entry → Line
line_with l e = record { names = l.names; query = l.query; stats = l.stats; document = l.document; rank = l.rank; entry = e }

explained-same : (l : Line) (e : Explained) → IsExplanation l.names l.query l.stats l.document l.rank e.hit e → entry_of e.hit ≡ l.entry → reply_text (reply.Explained e) ≡ explanation_text l
unfolding reply_text result_line
explained-same l e is entry =
    let leaves : explained.leaves_text 1 e.leaves ≡ leaves_text l.names l.document (hit_window e.hit) 1 l.query.leaves l.stats (map ratio_of e.hit.fractions) =
    leaves-shown 1 e.leaves ∙ ap (texts_told 1) is.leaves_are ∙ leaves-same l.names l.document (hit_window e.hit) 1 l.query.leaves l.stats e.hit.fractions in
    let first : reply_text (reply.Explained e) ≡ explanation_text (line_with l (entry_of e.hit)) =
    λ i. result_text (is.rank_is i) (candidate_of e.hit) ++ scale_line (is.scale_is i) ++ leaves i ++ score_line (score (is.scale_is i) e.hit.key) in
    first ∙ ap (λ (x : Entry). explanation_text (line_with l x)) entry

-- ---- replies

shown-text : (t : Told) (r : Reply) → Shows t r → reply_text r ≡ told_text t
unfolding told_text
shown-text (told.added docno tokens) r shows = ap reply_text shows
shown-text (told.deleted docno) r shows = ap reply_text shows
shown-text (told.flushed live) r shows = ap reply_text shows
shown-text (told.merging size) r shows = ap reply_text shows
shown-text (told.turned credit size) r shows = ap reply_text shows
shown-text (told.merged live) r shows = ap reply_text shows
shown-text (told.opened name live) r shows = ap reply_text shows
shown-text (told.stepped name credit live) r shows = ap reply_text shows
shown-text (told.results name scale entries) r shows = ap reply_text shows.1.0 ∙ results-same name scale shows.0 ∙ ap (answer_text name scale) shows.1.1
shown-text (told.explained line) r shows = ap reply_text shows.1.0 ∙ explained-same line shows.0 shows.1.1.0 shows.1.1.1
shown-text (told.extents found) r shows = ap reply_text shows
shown-text (told.closed name) r shows = ap reply_text shows
shown-text (told.ended live) r shows = ap reply_text shows
shown-text (told.refused why) r shows = ap reply_text shows

shown-refusal : (t : Told) (r : Reply) → Shows t r → is_refused r ≡ is_refusal t
shown-refusal (told.added docno tokens) r shows = ap is_refused shows
shown-refusal (told.deleted docno) r shows = ap is_refused shows
shown-refusal (told.flushed live) r shows = ap is_refused shows
shown-refusal (told.merging size) r shows = ap is_refused shows
shown-refusal (told.turned credit size) r shows = ap is_refused shows
shown-refusal (told.merged live) r shows = ap is_refused shows
shown-refusal (told.opened name live) r shows = ap is_refused shows
shown-refusal (told.stepped name credit live) r shows = ap is_refused shows
shown-refusal (told.results name scale entries) r shows = ap is_refused shows.1.0
shown-refusal (told.explained line) r shows = ap is_refused shows.1.0
shown-refusal (told.extents found) r shows = ap is_refused shows
shown-refusal (told.closed name) r shows = ap is_refused shows
shown-refusal (told.ended live) r shows = ap is_refused shows
shown-refusal (told.refused why) r shows = ap is_refused shows

pub shown-piece : (t : Told) (r : Reply) → Shows t r → reply_piece r ≡ told_reply t
shown-piece t r shows = λ i. record { text = shown-text t r shows i; is_refusal = shown-refusal t r shows i; flushes = None }
