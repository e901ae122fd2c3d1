use Rattle.std.proofs.Common.{◌≡◌, ◌≤◌}
use Rattle.std.specs.Option.{option_map}
use Rattle.read_ahead.specs.Ahead.{Moves}
use Rattle.script_reader.specs.State.{IsReady, is_ended, items_left, work_left}
use Rattle.script_reader.proofs.reader.ItemReader.next_item.Given as goal

abbrev pub invariant-turns : goal.invariant-turns
invariant-turns g l = record {
  items : option_map (items_left l.fn.self) (g.S.Source.left l.fn.source) ≡ option_map (items_left l.self) (g.S.Source.left l.source);
  ready : IsReady l.self (g.S.Source.left l.source) (g.S.Source.can_give l.source);
  work : work_left l.self (g.S.Source.can_give l.source) ≤ work_left l.fn.self (g.S.Source.can_give l.fn.source);
  ended : is_ended l.self ≡ is_ended l.fn.self;
  same : g.S.Source.faults l.source ≡ g.S.Source.faults l.fn.source;
  moves : Moves g.S.Source.layers g.S.Source.held g.S.Source.faults l.fn.source l.source;
}

abbrev pub decreases-turns : goal.decreases-turns
decreases-turns g l = work_left l.self (g.S.Source.can_give l.source)
