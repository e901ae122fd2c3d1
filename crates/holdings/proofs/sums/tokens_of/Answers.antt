use Rattle.std.proofs.Common.{◌≡◌, ◌<◌, ap, arith, ◌∙◌, None, take}
use Rattle.std.proofs.lemmas.List.{take_all}
use Rattle.ri_base.specs.Collection.{token_count}
use Rattle.disk_index.specs.Parts.{reads, size, source_of}
use Rattle.disk_index.proofs.LiveLemmas.{all-more}
use Rattle.disk_index.proofs.RebuiltLemmas.{reads-length}
use Rattle.holdings.proofs.LiveLemmas.{tokens-reads}
use Rattle.holdings.proofs.sums.tokens_of.Goals as goal

pub loop-id-preserved : goal.loop-id-preserved
loop-id-preserved c =
    let source = source_of c.args.part.now in
    let docs = reads None source in
    let inside : c.loop-id.id < size source = omega (arith, c.loop-id-test.true, c.docs-id-end.ensures.size) in
    let more = all-more docs c.loop-id.id (omega (arith, inside, reads-length None source)) in
    record {
      short = omega (arith, c.loop-id.invariant.short, c.length.ensures.most, c.from-tokens.ensures);
      first = omega (arith, c.loop-id.invariant.first, c.from-tokens.ensures, c.length.ensures.exact None, more);
    }

pub returns-clause-exact : goal.returns-clause-exact
returns-clause-exact c =
    let source = source_of c.args.part.now in
    let docs = reads None source in
    let all : take c.loop-id.id docs ≡ docs = take_all c.loop-id.id docs (omega (arith, c.loop-id-test.false, c.docs-id-end.ensures.size, reads-length None source)) in
    c.loop-id.invariant.first ∙ ap token_count all ∙ tokens-reads None source
