use Rattle.std.proofs.Common.{arith}
use Rattle.log_chain.specs.declared.chain.TheConstants.{LAST}
use Rattle.true_order.proofs.Orders.{first_hold}
use Rattle.true_order.proofs.laws.order_is_true.Goals as goal

pub returns : goal.returns
returns c = λ tree hits k ranked.
    first_hold tree hits k (record {
      apart = λ a b h i. c.keys_apart.ensures tree a b LAST h i (omega arith);
      near = c.keys_near.ensures tree;
      scored = λ a h. record {
        lower = c.key_scored.ensures.lower tree a h;
        upper = c.key_scored.ensures.upper tree a h ranked.some;
      };
    }) ranked
