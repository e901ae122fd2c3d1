-- What the order of the results claims that a session shows: nothing of keys, but of the beliefs behind them.
use Rattle.std.specs.Prelude.{◌≡◌, ⊤, ℕ, List, [], ◌∷◌, Option, Some, map}
use Rattle.ri_base.specs.declared.hit.Hit.{Hit}
use Rattle.ranked_output.specs.Texts.{lines_of, lines_text}
use Rattle.true_order.specs.TrueOrder.{IsTrueOrder}
use Rattle.desk.specs.Priors.{priors_with}
use Rattle.script_reader.specs.declared.item.Item.{Item}
use Rattle.script_reader.specs.declared.item.Item.TheVariants.{Event}
use Rattle.session_events.specs.declared.event.Event.TheVariants.{Show}
use Rattle.desk.specs.Answers.{Entry, beliefs_behind, entry_of}
use Rattle.desk.specs.State.{Query, State, named}
use Rattle.desk.specs.Step.{step}
use Rattle.desk.specs.Told.{Told, results}
use Rattle.indri_app.specs.Items.{state_behind}
use Rattle.indri_app.specs.Results.{entries_text}

-- These lines are written of the entries of a query, and their order is true of the beliefs of all that may be shown of the documents
-- of its opening.
pub record IsTrueAnswer (s : State) (q : Query) (scale : ℕ) (entries : List Entry) : Type 0 where
  pub hits : List Hit
  pub are : map entry_of hits ≡ entries
  pub written : lines_text (lines_of scale hits) ≡ entries_text scale entries
  pub ordered : IsTrueOrder q.query.tree (lines_of scale hits) (beliefs_behind s.kind (priors_with s.priors) q.query q.k q.live)

-- what is told of a query, if it is open
abbrev pub IsTrueTold : State → Option Query → Told → Type 0
IsTrueTold s (Some q) (results name scale entries) = IsTrueAnswer s q scale entries
IsTrueTold s q t = ⊤

-- what an item shows in this state is in a true order
abbrev pub IsTrueItem : State → Item → Type 0
IsTrueItem s (Event (Show name)) = IsTrueTold s (named name s.queries) (step s (Show name)).1
IsTrueItem s i = ⊤

-- and so is what each of these items shows
unfoldable pub AreTrue : State → List Item → Type 0
AreTrue s [] = ⊤
AreTrue s (i ∷ items) = IsTrueItem s i × AreTrue (state_behind s i) items
