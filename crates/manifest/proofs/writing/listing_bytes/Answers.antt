use Rattle.manifest.specs.Listing.{listing}
use Rattle.manifest.proofs.WritingLemmas.{few_marks, few_priors, few_segments}
use Rattle.manifest.proofs.writing.listing_bytes.Goals as goal

pub put_segments-requires-clause-few : goal.put_segments-requires-clause-few
put_segments-requires-clause-few c = few_segments (listing c.args.next c.args.segments.now c.args.stale.now c.args.priors.now) c.requires

pub put_segments-requires-clause-marks : goal.put_segments-requires-clause-marks
put_segments-requires-clause-marks c = few_marks (listing c.args.next c.args.segments.now c.args.stale.now c.args.priors.now) c.requires

pub put_priors-requires : goal.put_priors-requires
put_priors-requires c = few_priors (listing c.args.next c.args.segments.now c.args.stale.now c.args.priors.now) c.requires
