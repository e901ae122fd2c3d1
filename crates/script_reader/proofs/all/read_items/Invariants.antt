use Rattle.std.proofs.Common.{◌≡◌, ◌++◌}
use Rattle.std.specs.Option.{option_map}
use Rattle.read_ahead.specs.Ahead.{Moves}
use Rattle.script_reader.specs.Items.{items}
use Rattle.script_reader.specs.State.{IsReady, items_left, work_left}
use Rattle.script_reader.proofs.all.read_items.Given as goal

abbrev pub invariant-items : goal.invariant-items
invariant-items g l = record {
  followed : option_map (λ rest. l.items.items ++ items_left l.reader rest) (g.S.Source.left l.source) ≡ option_map items (g.S.Source.left l.fn.source);
  ready : IsReady l.reader (g.S.Source.left l.source) (g.S.Source.can_give l.source);
  same : g.S.Source.faults l.source ≡ g.S.Source.faults l.fn.source;
  moves : Moves g.S.Source.layers g.S.Source.held g.S.Source.faults l.fn.source l.source;
}

abbrev pub decreases-items : goal.decreases-items
decreases-items g l = work_left l.reader (g.S.Source.can_give l.source)
