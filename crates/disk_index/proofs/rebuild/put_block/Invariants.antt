use Rattle.std.proofs.Common.{◌≡◌, drop}
use Rattle.disk_index.specs.Rebuild.{put_block, put_entries}
use Rattle.disk_index.proofs.rebuild.put_block.Given as goal

abbrev pub invariant-loop-entry : goal.invariant-loop-entry
invariant-loop-entry l = put_entries l.at l.rank (drop l.entry-index l.entries) l.rows.items ≡ put_block l.begin l.rank l.entries l.initial.rows.items
