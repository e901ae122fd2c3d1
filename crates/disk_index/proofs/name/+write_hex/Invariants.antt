use Rattle.std.proofs.Common.{length}
use Rattle.disk_index.proofs.name.+write_hex.Given as goal

abbrev pub decreases-write_hex : goal.decreases-write_hex
decreases-write_hex l = length l.places.now
