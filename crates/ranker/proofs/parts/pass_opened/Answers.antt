use Rattle.std.proofs.Common.{◌≡◌, ◌<◌, ◌/◌, ℕ, List, length, map, sym, subst, ◌∙◌}
use Rattle.ri_base.specs.Documents.{Document}
use Rattle.ri_base.specs.Query.{filter_tree}
use Rattle.belief_nodes.specs.Network.{network_tree}
use Rattle.extent_lists.proofs.KeepsLemmas.{Keeps-then}
use Rattle.ranker.specs.Unbeaten.{Sought, Stretch, sought, stretch}
use Rattle.ranker.proofs.AheadLemmas.{IsKnown-read}
use Rattle.ranker.proofs.OpenedLemmas.{ScoresIn-none, ScoresIn-read}
use Rattle.ranker.proofs.OpeningLemmas.{on-ok}
use Rattle.ranker.proofs.parts.pass_opened.Given as given
use Rattle.ranker.proofs.parts.pass_opened.Goals as goal
use Rattle.ranker.proofs.parts.pass_opened.Goals.{Start}

module _ (g : given.Over) (c : Start g) where
  -- what is searched for, in which documents
  abbrev found : ℕ → Sought
  found count = sought c.args.rule.now.kind (map (λ b. (goal.BeliefNode-dyn g (b.vtable, b.value)).meaning b.value) c.args.plugs.now) (map filter_tree c.args.filters.now) (network_tree c.args.network.now) c.args.tables.now count

  abbrev part : List Document → List Document → Stretch
  part before docs = stretch c.args.number before docs c.args.marks.now

pub pass_open-requires-clause-id : goal.pass_open-requires-clause-id
pass_open-requires-clause-id g c = subst (λ (ds : List Document). c.args.id < length ds) (sym c.open_range.ensures.keeps.documents_stay) c.requires.id

pub pass_open-requires-clause-marks : goal.pass_open-requires-clause-marks
pass_open-requires-clause-marks g c = subst (λ (ds : List Document). length c.args.marks.now ≡ length ds) (sym c.open_range.ensures.keeps.documents_stay) c.requires.marks

pub returns-clause-keeps : goal.returns-clause-keeps
returns-clause-keeps g c =
    let read = c.pass_open.ensures.keeps in
    Keeps-then _ _ _ _ _ g.met.P.OpensRanges.calm_then _ _ _ c.open_range.ensures.keeps
    record { documents_stay = read.documents_stay; no_fault_lost = read.no_fault_lost; sound_stays = read.sound_stays; intact_stays = read.intact_stays; stays_quiet = g.met.P.OpensRanges.calm_reading _ _ read.stays_quiet }

pub returns-clause-work : goal.returns-clause-work
returns-clause-work g c = λ sound before count known.
    let start = (goal.at.returns-clause-work g c).Start in
    let s = found g start count in
    let docs = g.P.Postings.documents c.args.part.now in
    let read = g.P.Postings.documents c.open_range.new.self in
    let keeps = c.open_range.ensures.keeps in
    let here = IsKnown-read s.kind s.priors s.filters s.network s.tables c.args.number docs read c.args.id c.args.ahead (sym keeps.documents_stay) known in
    ScoresIn-read s (part g start before) read docs keeps.documents_stay c.args.id c.args.ahead c.args.first.now c.pass_open.new.first c.args.squares.now c.pass_open.new.squares c.pass_open.result
    (c.pass_open.ensures.work (keeps.sound_stays sound) before count here)

pub returns-clause-windows : goal.returns-clause-windows
returns-clause-windows g c = rw c.open_range.ensures.keeps.documents_stay at c.pass_open.ensures.windows

pub returns-clause-present : goal.returns-clause-present
returns-clause-present g c =
    let stays = g.met.P.OpensRanges.present_stays _ _ c.pass_open.ensures.keeps.stays_quiet in
    on-ok c.pass_open.result (g.P.OpensRanges.present c.pass_open.new.part ≡ c.args.id / 64) (stays ∙ c.in_ok-count.ensures.present)

pub returns-in_err-count-clause-work : goal.returns-in_err-count-clause-work
returns-in_err-count-clause-work g c = λ sound before count known.
    let start = (goal.at.returns-in_err-count-clause-work g c).Start in
    ScoresIn-none (found g start count) (part g start before (g.P.Postings.documents c.args.part.now)) c.args.id c.args.ahead known _ c.args.first.now c.args.squares.now c.from_residual.result c.from_residual.ensures.1
