use Rattle.std.proofs.Common.{◌≡◌, take}
use Rattle.std.specs.Option.{option_map}
use Rattle.store_ends.specs.Files.{whole}
use Rattle.store_ends.specs.Past.{first_files, after}
use Rattle.store_ends.proofs.change.bytes_of.Given as goal

abbrev pub invariant-loop-change : goal.invariant-loop-change
invariant-loop-change l = whole (option_map (λ bytes. bytes.now) l.bytes) ≡ after (first_files l.first) (take l.change-index l.changes) l.name
