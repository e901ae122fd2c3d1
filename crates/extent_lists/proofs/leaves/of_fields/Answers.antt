use Rattle.std.proofs.Common.{◌≡◌, arith}
use Rattle.std.proofs.lemmas.Grind.{common_steps}
use Rattle.extent_lists.proofs.LeafLemmas.{Lists-named, named}
use Rattle.extent_lists.proofs.leaves.of_fields.Goals as goal

pub returns : goal.returns
returns c =
    let is : c.loop-span.out.items ≡ named c.args.name.now c.args.spans.now = grind (arith, common_steps) in
    Lists-named c.args.name.now c.args.spans.now _ c.requires is
