use Rattle.std.proofs.Common.{rules, ◌≡◌, ◌<◌, ◌+◌, ◌-◌, ◌++◌, map, take, drop, length, get_or, set, ap, ◌∙◌, arith}
use Rattle.log_chain.specs.Progress.{Progress}
use Rattle.leaf_chains.specs.Chains.{at_level}
use Rattle.leaf_chains.proofs.Written.{one_more, written_more, written_read}
use Rattle.leaf_chains.proofs.chains.extend_all.Goals as goal

pub loop-chain-preserved : goal.loop-chain-preserved
loop-chain-preserved g c =
    let ys = c.args.chains.now.items in
    let i = c.loop-chain.chain-index in
    let x = c.chain-item.result in
    let inside : i < length ys = search rules in
    let read : get_or c.loop-chain.chain-items i x ≡ get_or ys i x = ap (λ zs. get_or zs i x) c.loop-chain.invariant.done ∙ written_read (at_level c.args.to) ys i x inside in
    let level : (get_or c.loop-chain.chain-items i x).level ≡ c.args.from = ap (λ (a : Progress). a.level) read ∙ c.requires.at i x inside in
    let cost : c.extend_to.new.squares ≡ c.loop-chain.squares + (c.args.to - (get_or c.loop-chain.chain-items i x).level) = c.extend_to.ensures.cost in
    record {
      done = ap (λ zs. set zs i c.extend_to.new.chain) c.loop-chain.invariant.done
          ∙ ap (λ v. set (map (at_level c.args.to) (take i ys) ++ drop i ys) i v) (c.extend_to.ensures.level ∙ ap (at_level c.args.to) read)
          ∙ written_more (at_level c.args.to) ys i x inside;
      cost = one_more c.args.squares.now (c.args.to - c.args.from) i _ _ c.loop-chain.invariant.cost (cost ∙ ap (λ n. c.loop-chain.squares + (c.args.to - n)) level);
      within = omega (arith, inside);
    }
