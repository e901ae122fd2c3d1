-- What the order of the results that are shown claims: nothing of keys, but of the beliefs behind them.
use Rattle.std.specs.Prelude.{Option, Some}
use Rattle.ranked_output.specs.Texts.{lines_of}
use Rattle.true_order.specs.TrueOrder.{IsTrueOrder}
use Rattle.desk.specs.Priors.{priors_with}
use Rattle.session_events.specs.declared.event.Event.{Event}
use Rattle.session_events.specs.declared.event.Event.TheVariants as event
use Rattle.desk.specs.declared.reply.Reply.{Reply}
use Rattle.desk.specs.declared.reply.Reply.TheVariants.{Results}
use Rattle.desk.specs.Answers.{beliefs_behind}
use Rattle.desk.specs.State.{Query, State, named}

-- the order of the lines is true of the beliefs of all that may be shown of the documents of the query's opening
abbrev pub IsTrueOf : State → Option Query → Reply → Type 0
IsTrueOf s (Some q) (Results name scale hits) = IsTrueOrder q.query.tree (lines_of scale hits) (beliefs_behind s.kind (priors_with s.priors) q.query q.k q.live)
IsTrueOf s q r = Unit {0}

-- what is shown in this state is so
abbrev pub IsTrueReply : State → Event → Reply → Type 0
IsTrueReply s (event.Show name) r = IsTrueOf s (named name s.queries) r
IsTrueReply s e r = Unit {0}
