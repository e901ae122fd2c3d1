-- What becomes of a collection where a document is added or deleted.
use Rattle.std.specs.Prelude.{◌+◌, ℕ, List, [], ◌∷◌, ◌++◌, length}
use Rattle.ri_base.specs.Documents.{Document}
use Rattle.holdings.specs.Contents.{Contents}
use Rattle.holdings.specs.Parts.{without}
use Rattle.repository.specs.Stands.{Collection}
use Rattle.repository.specs.States.{State}

-- one document more, behind the others
abbrev pub with_document : Collection → Document → Collection
with_document c d = record { live = c.live ++ d ∷ []; documents = c.documents + 1; tokens = c.tokens + length d.tokens; priors = c.priors }

-- without the documents of this docno; the numbers held count them on
abbrev pub without_docno : Collection → List ℕ → Collection
without_docno c docno = record { live = without docno c.live; documents = c.documents; tokens = c.tokens; priors = c.priors }

-- other contents are held, and all else stays
abbrev pub with_held : State → Contents → State
with_held s held = record { held = held; next = s.next; stale = s.stale; priors = s.priors; merge = s.merge; usable = s.usable }
