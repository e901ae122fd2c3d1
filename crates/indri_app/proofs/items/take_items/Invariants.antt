use Rattle.std.proofs.Common.{◌≡◌, ◌≤◌, false, true, length, map, List}
use Rattle.store_ends.specs.Files.{GoesOn, Leaves}
use Rattle.command_pieces.specs.Pieces.{Finished, StandsAlong, kept_behind, some_refused}
use Rattle.repository.specs.RealLimits.{StandsFor}
use Rattle.repository.specs.Stands.{Collection}
use Rattle.script_reader.specs.State.{IsReady, is_ended, work_left}
use Rattle.script_reader.specs.declared.item.Item.{Item}
use Rattle.desk.specs.Backed.{IsDeskIntact, IsUsable, state_of}
use Rattle.desk.specs.State.{collection_of}
use Rattle.indri_app.specs.Items.{pieces_of, state_behind_all}
use Rattle.indri_app.specs.Orders.{AreTrue}
use Rattle.indri_app.specs.Sessions.{Grows, IsUnderWay}
use Rattle.indri_app.proofs.Following.{AreFollowed}
use Rattle.indri_app.proofs.items.take_items.Given as goal

abbrev pub invariant-items : goal.invariant-items
invariant-items g l =
    let start = state_of (g.T.Store.files l.fn.store) l.fn.desk.kept in
    let IsBegun = IsUnderWay (g.T.Store.files l.fn.store) l.fn.desk.kept (map (λ b. (goal.BeliefNode-dyn g (b.vtable, b.value)).meaning b.value) l.fn.plugs) in
    (done : List Item) × record {
      followed : AreFollowed done l.reader (g.S.Source.left l.fn.source) (g.S.Source.left l.source);
      ready : IsReady l.reader (g.S.Source.left l.source) (g.S.Source.can_give l.source);
      state : (kept : Collection) → IsBegun kept → state_of (g.T.Store.files l.store) l.desk.kept ≡ state_behind_all start done;
      way : (kept : Collection) → IsBegun kept → IsUnderWay (g.T.Store.files l.store) l.desk.kept (map (λ b. (goal.BeliefNode-dyn g (b.vtable, b.value)).meaning b.value) l.plugs) (kept_behind kept (pieces_of start done));
      intact : (kept : Collection) → IsBegun kept → IsDeskIntact (g.T.Store.files l.fn.store) l.fn.desk.kept → IsDeskIntact (g.T.Store.files l.store) l.desk.kept;
      refused : (kept : Collection) → IsBegun kept → l.some_refused ≡ some_refused (pieces_of start done);
      finished : (kept : Collection) → IsBegun kept → Finished StandsFor kept (pieces_of start done) (g.K.Sink.taken l.fn.sink) (g.K.Sink.taken l.sink) (g.T.Store.files l.store);
      order : (kept : Collection) → IsBegun kept → AreTrue start done;
      ended : (kept : Collection) → IsBegun kept → is_ended l.reader ≡ true → kept_behind kept (pieces_of start done) ≡ collection_of (state_behind_all start done);
      stops : (kept : Collection) → IsBegun kept → Leaves (g.T.Store.since l.fn.store) (g.T.Store.since l.store) (StandsAlong StandsFor kept (pieces_of start done));
      grows : Grows (g.K.Sink.taken l.fn.sink) (g.K.Sink.taken l.sink);
      usable : is_ended l.reader ≡ false → IsUsable l.desk.kept;
      rule : l.desk.rule ≡ l.fn.desk.rule;
      stay : map (λ b. (goal.BeliefNode-dyn g (b.vtable, b.value)).meaning b.value) l.plugs ≡ map (λ b. (goal.BeliefNode-dyn g (b.vtable, b.value)).meaning b.value) l.fn.plugs;
      nine : length l.plugs ≡ 9;
      goes_on : GoesOn g.T.Store.layers g.T.Store.clock g.T.Store.longest g.T.Store.held l.fn.store l.store;
      layers : g.S.Source.layers l.source ≡ g.S.Source.layers l.fn.source;
      held : g.S.Source.held l.source ≡ g.S.Source.held l.fn.source;
      read_later : g.S.Source.faults l.fn.source ≤ g.S.Source.faults l.source;
      write_later : g.K.Sink.faults l.fn.sink ≤ g.K.Sink.faults l.sink;
      store_later : g.T.Store.faults l.fn.store ≤ g.T.Store.faults l.store;
    }

abbrev pub decreases-items : goal.decreases-items
decreases-items g l = work_left l.reader (g.S.Source.can_give l.source)
