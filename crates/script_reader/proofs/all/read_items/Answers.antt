use Rattle.std.proofs.Common.{◌∙◌, refl, arith}
use Rattle.read_ahead.proofs.StepsLemmas.{moves_then}
use Rattle.script_reader.specs.Items.{items}
use Rattle.script_reader.specs.State.{items_left}
use Rattle.script_reader.proofs.ItemLemmas.{followed_next, followed_start}
use Rattle.script_reader.proofs.all.read_items.Goals as goal

pub items-init : goal.items-init
items-init g c = record {
  followed = rw c.new-items.ensures.items (followed_start (items_left c.in_ok-reader.reader) items (g.S.Source.left c.args.source.now) c.in_ok-reader.ensures.items);
  ready = c.in_ok-reader.ensures.ready (g.S.Source.left c.args.source.now) (g.S.Source.can_give c.args.source.now) (g.met.S.Source.is_bounded c.args.source.now);
  same = refl;
  moves = record { same_layers = refl; same_held = refl; later = omega arith };
}

pub items-preserved : goal.items-preserved
items-preserved g c =
    let gives = rw c.in-Some.is at c.in_ok-item.ensures.items in
    record {
      followed = rw c.in_ok-push.ensures.items (followed_next c.items.items.items c.in-Some.item (items_left c.items.reader) (items_left c.next_item.new.self) (g.S.Source.left c.items.source) (g.S.Source.left c.next_item.new.source) _ c.items.invariant.followed gives);
      ready = c.in_ok-item.ensures.ready;
      same = c.in_ok-item.ensures.same (λ e. cc) ∙ c.items.invariant.same;
      moves = moves_then _ _ _ _ _ _ c.items.invariant.moves c.in_ok-item.ensures.moves;
    }
