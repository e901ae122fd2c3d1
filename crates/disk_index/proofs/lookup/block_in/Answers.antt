use Rattle.std.proofs.Common.{sym, rules}
use Rattle.std.specs.Ordering.{nat_cmp}
use Rattle.std.proofs.lemmas.Fn.{always_returns_same}
use Rattle.disk_index.proofs.LookupLemmas.{range_at-found, range_at-none}
use Rattle.disk_index.proofs.lookup.block_in.Goals as goal

pub returns-in-Ok : goal.returns-in-Ok
returns-in-Ok c =
    let found = c.in-Ok.ensures.position (λ b. nat_cmp b.range c.args.range) (always_returns_same _ _ _ (λ a r g called. search rules)) in
    sym (range_at-found c.args.blocks.now c.args.range c.in-Ok.rank c.requires _ c.in-Ok.ensures.bound found)

pub returns-in-Err : goal.returns-in-Err
returns-in-Err c =
    let found = c.in-Err.ensures.position (λ b. nat_cmp b.range c.args.range) (always_returns_same _ _ _ (λ a r g called. search rules)) in
    sym (range_at-none c.args.blocks.now c.args.range _ c.requires found)
