use Rattle.std.proofs.Common.{◌≡◌}
use Rattle.disk_index.specs.Rebuild.{documents_of}
use Rattle.disk_index.proofs.RebuildLemmas.{all-documents}
use Rattle.disk_index.proofs.rebuild.documents_of.Given as goal

abbrev pub invariant-loop-i : goal.invariant-loop-i
invariant-loop-i l = all-documents l.dictionary l.outlines l.rows l.i l.docs ≡ documents_of l.dictionary l.outlines l.rows
