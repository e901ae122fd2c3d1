use Rattle.std.proofs.Common.{◌≡◌, ◌≤◌, Option, take}
use Rattle.ri_base.specs.declared.limits.TheConstants.{MAX_HELD_TOKENS}
use Rattle.store_ends.specs.Files.{Files}
use Rattle.disk_index.specs.Snapshots.{documents_held, tokens_held}
use Rattle.disk_index.specs.declared.limits.TheConstants.{MAX_HELD_DOCS}
use Rattle.disk_index.proofs.snapshot.fits_snapshot.Given as goal

abbrev pub invariant-loop-part : goal.invariant-loop-part
invariant-loop-part l = record {
  documents : l.documents ≡ documents_held (take l.part-index l.parts);
  tokens : (told : Option Files) → l.tokens ≡ tokens_held told (take l.part-index l.parts);
  few : l.documents ≤ MAX_HELD_DOCS;
  short : l.tokens ≤ MAX_HELD_TOKENS;
}
