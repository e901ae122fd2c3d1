use Rattle.std.proofs.Common.{Some, ap}
use Rattle.command_words.specs.Asked.{told_labels}
use Rattle.query_check.specs.Answers.{whole_checked}
use Rattle.ranker.specs.Searches.{searched}
use Rattle.desk.specs.Shown.{told_shown}
use Rattle.desk.proofs.AnswerLemmas.{results-few, results-shown}
use Rattle.desk.proofs.answering.show.Goals as goal

pub returns-in_ok-results_text-in-Results-clause-exact : goal.returns-in_ok-results_text-in-Results-clause-exact
returns-in_ok-results_text-in-Results-clause-exact g c = λ kind priors backed cached taken summed.
    let told = g.T.Store.files c.args.store.now in
    let s = c.args.search.now in
    results-shown kind priors c.args.names.now c.args.shown.now c.in-Results.count (told_labels c.in-Results.labels) s.most (whole_checked s.checked) (searched told s) (Some c.in_ok-results_text-in-Results.field-0.items)
    (ap told_shown c.in-Results.is) c.requires.most (c.in_ok-results_text-in-Results.ensures kind priors told taken summed)

pub returns-in-Explanation-clause-exact : goal.returns-in-Explanation-clause-exact
returns-in-Explanation-clause-exact g c = λ kind priors backed cached taken summed. rw c.in-Explanation.is (c.explanation.ensures.exact kind priors backed cached taken summed)

pub results_text-requires-clause-most : goal.results_text-requires-clause-most
results_text-requires-clause-most g c =
    results-few c.args.shown.now c.in-Results.count (told_labels c.in-Results.labels) c.args.search.now.most (ap told_shown c.in-Results.is) c.requires.most c.requires.shown
