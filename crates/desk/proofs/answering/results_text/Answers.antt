use Rattle.std.proofs.Common.{◌<◌, ◌≡◌, [], None, Some, arith, ap, length, ◌∙◌}
use Rattle.std.proofs.lemmas.Result.{IfOk-weaker}
use Rattle.command_words.specs.Asked.{told_labels}
use Rattle.query_check.specs.Answers.{whole_checked}
use Rattle.query_check.specs.declared.checked.Checked.{Checked}
use Rattle.query_check.specs.Scale.{scale}
use Rattle.query_check.specs.Trees.{scaled_tree}
use Rattle.belief_nodes.specs.Network.{network_tree}
use Rattle.ranker.specs.Searches.{searched}
use Rattle.ranked_output.specs.Texts.{lines_of}
use Rattle.desk.specs.Answer.{IsAnswerText}
use Rattle.desk.specs.Shown.{results, shown_text}
use Rattle.desk.proofs.AnswerLemmas.{result_text}
use Rattle.desk.proofs.FormLemmas.{search-form}
use Rattle.desk.proofs.SearchLemmas.{search-answer}
use Rattle.desk.proofs.answering.results_text.Goals as goal

pub returns : goal.returns
returns c = λ kind priors told taken summed.
    let s = c.args.search.now in
    let q = whole_checked s.checked in
    let docs = searched told s in
    let found = search-answer kind priors s docs c.results_of.result.now c.requires.network summed (c.results_of.ensures.answer kind priors told taken) in
    let some : 0 < scale (scaled_tree s.checked.tree) = let least = s.checked.kept.positive in let whole = s.checked.kept.whole in omega (arith, least, whole) in
    let order = c.ranking_is_true.ensures kind priors q docs found.0 s.most found.1 some in
    IfOk-weaker c.result_lines.result (λ text. text.items ≡ shown_text (told_labels c.args.labels.now) (lines_of c.checked.result.now.scale c.results_of.result.now))
    (λ text. IsAnswerText kind priors [] (results s.most (told_labels c.args.labels.now)) q docs (Some text.items))
    (λ text is. result_text kind priors [] s.most (told_labels c.args.labels.now) q docs found.0 c.results_of.result.now text.items s.checked.kept.whole found.1 order found.2
    (is ∙ ap (λ (k : Checked). shown_text (told_labels c.args.labels.now) (lines_of k.scale c.results_of.result.now)) c.checked.ensures)) c.result_lines.ensures

pub result_lines-requires : goal.result_lines-requires
result_lines-requires c =
    let s = c.args.search.now in
    search-form s.checked c.checked.result.now.scale (length (network_tree s.network).leaves) s.most (searched None s) c.results_of.result.now
    (ap (λ (k : Checked). k.scale) c.checked.ensures) c.requires.most (c.results_of.ensures.windows None)
