use Rattle.std.proofs.Common.{true, rules, arith}
use Rattle.std.proofs.lemmas.List.{length-set}
use Rattle.deletion_list.proofs.MarkLemmas.{one_more}
use Rattle.deletion_list.proofs.del_list.DelList.mark.Goals as goal

pub overflow_sub-self : goal.overflow_sub-self
overflow_sub-self c =
    let p = one_more c.self.inside.marks.items c.args.id (search rules) (search rules) in
    omega (arith, p.1, c.self.invariant.0)

pub invariant_of-self : goal.invariant_of-self
invariant_of-self c =
    let p = one_more c.self.inside.marks.items c.args.id (search rules) (search rules) in
    (omega (arith, p.0, p.1, c.self.invariant.0, length-set c.self.inside.marks.items c.args.id true), omega (arith, c.self.invariant.1, length-set c.self.inside.marks.items c.args.id true))
