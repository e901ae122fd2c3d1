use Rattle.std.proofs.Common.{map, sym, arith}
use Rattle.std.proofs.lemmas.Bool.{false≢true}
use Rattle.ri_base.specs.Query.{filter_tree}
use Rattle.belief_nodes.specs.Network.{network_tree}
use Rattle.ranker.proofs.AheadLemmas.{IsAhead-bare, IsAhead-unread}
use Rattle.ranker.proofs.ahead.look_ahead.Goals as goal

pub returns-then-id-end-clause-ahead : goal.returns-then-id-end-clause-ahead
returns-then-id-end-clause-ahead g c = λ sound.
    IsAhead-bare (map filter_tree c.args.filters.now) (network_tree c.args.network.now).leaves (g.P.Postings.documents c.args.part.now) c.args.id c.bare_end-end.result (c.bare_end-end.ensures.bare sound)

pub returns-then-id-end-clause-span : goal.returns-then-id-end-clause-span
returns-then-id-end-clause-span g c =
    let lt = c.if-id-end.true in
    record {
      back = omega (arith, lt);
      inside = c.bare_end-end.ensures.inside;
      whole = c.bare_end-end.ensures.whole;
      short = λ read. absurd (false≢true (sym read));
    }

pub returns-clause-ahead : goal.returns-clause-ahead
returns-clause-ahead g c = λ sound.
    IsAhead-unread (map filter_tree c.args.filters.now) (network_tree c.args.network.now).leaves (g.P.Postings.documents c.args.part.now) c.args.id c.end_of.result

pub returns-clause-span : goal.returns-clause-span
returns-clause-span g c =
    let end = c.end_of.ensures in
    let all = c.docs.ensures in
    let id = c.requires.id in
    record {
      back = omega (arith, end, all, id);
      inside = omega (arith, end, all);
      whole = λ less. omega (arith, end, all, less);
      short = λ read. omega (arith, end);
    }
