use Rattle.std.proofs.Common.{◌≡◌, ◌≤◌, ◌++◌, List, length, map}
use Rattle.store_ends.specs.Files.{GoesOn, Leaves}
use Rattle.command_pieces.specs.Pieces.{StandsAlong, kept_behind}
use Rattle.repository.specs.RealLimits.{StandsFor}
use Rattle.repository.specs.Stands.{Collection}
use Rattle.generated_events.specs.Left.{events_left}
use Rattle.script_reader.specs.declared.item.Item.{Item}
use Rattle.script_reader.specs.declared.item.Item.TheVariants.{Event}
use Rattle.desk.specs.Backed.{IsDeskIntact, IsUsable, state_of}
use Rattle.indri_app.specs.Generated.{gen_items}
use Rattle.indri_app.specs.Items.{pieces_of, state_behind_all}
use Rattle.indri_app.specs.Sessions.{IsUnderWay}
use Rattle.indri_app.proofs.filling.do_events.Given as goal

abbrev pub invariant-events : goal.invariant-events
invariant-events g l =
    let told = map (λ b. (goal.BeliefNode-dyn g (b.vtable, b.value)).meaning b.value) l.fn.plugs in
    let now = map (λ b. (goal.BeliefNode-dyn g (b.vtable, b.value)).meaning b.value) l.plugs in
    let start = state_of (g.T.Store.files l.fn.store) l.fn.desk.kept in
    let IsBegun = IsUnderWay (g.T.Store.files l.fn.store) l.fn.desk.kept told in
    (done : List Item) × record {
      followed : done ++ map Event (events_left l.generator.count l.generator.stage) ≡ gen_items l.fn.count;
      state : (kept : Collection) → IsBegun kept → state_of (g.T.Store.files l.store) l.desk.kept ≡ state_behind_all start done;
      way : (kept : Collection) → IsBegun kept → IsUnderWay (g.T.Store.files l.store) l.desk.kept now (kept_behind kept (pieces_of start done));
      intact : (kept : Collection) → IsBegun kept → IsDeskIntact (g.T.Store.files l.fn.store) l.fn.desk.kept → IsDeskIntact (g.T.Store.files l.store) l.desk.kept;
      stops : (kept : Collection) → IsBegun kept → Leaves (g.T.Store.since l.fn.store) (g.T.Store.since l.store) (StandsAlong StandsFor kept (pieces_of start done));
      usable : IsUsable l.desk.kept;
      rule : l.desk.rule ≡ l.fn.desk.rule;
      stay : now ≡ told;
      nine : length l.plugs ≡ 9;
      goes_on : GoesOn g.T.Store.layers g.T.Store.clock g.T.Store.longest g.T.Store.held l.fn.store l.store;
      later : g.T.Store.faults l.fn.store ≤ g.T.Store.faults l.store;
    }

abbrev pub decreases-events : goal.decreases-events
decreases-events g l = length (events_left l.generator.count l.generator.stage)
