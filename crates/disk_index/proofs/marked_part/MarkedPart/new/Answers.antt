use Rattle.std.proofs.Common.{◌<◌, false, get_or, refl, subst, ◌∙◌, arith}
use Rattle.disk_index.specs.Parts.{size, source_of}
use Rattle.disk_index.proofs.LiveLemmas.{Unless, first-more, unless-le}
use Rattle.disk_index.proofs.marked_part.MarkedPart.new.Goals as goal

pub loop-id-init : goal.loop-id-init
loop-id-init c = record { short = omega arith; fewer = omega arith; first = record { all = λ told. refl; living = λ told. refl } }

pub loop-id-preserved : goal.loop-id-preserved
loop-id-preserved c =
    let inside : c.loop-id.id < size (source_of c.args.part) = omega (arith, c.loop-id-test.true, c.docs-id-end.ensures.size) in
    let taken : Unless (get_or c.args.marks c.loop-id.id false) c.from-length.result c.unless-live_tokens.result =
    subst (λ b. Unless b c.from-length.result c.unless-live_tokens.result) c.is_marked.ensures c.unless-live_tokens.ensures in
    record {
      short = omega (arith, c.loop-id.invariant.short, c.length.ensures.most, c.from-length.ensures);
      fewer = omega (arith, c.loop-id.invariant.fewer, unless-le c.is_marked.result c.from-length.result c.unless-live_tokens.result c.unless-live_tokens.ensures);
      first = first-more (source_of c.args.part) c.args.marks c.loop-id.id c.loop-id.tokens c.loop-id.live_tokens c.from-length.result c.unless-live_tokens.result c.loop-id.invariant.first inside c.requires
          (λ told. c.from-length.ensures ∙ c.length.ensures.exact told) taken;
    }
