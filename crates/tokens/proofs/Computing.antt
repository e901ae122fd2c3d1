-- One name to unfold where a proof computes the terms of a text that is written out.
use Rattle.caseless.proofs.Computing.{caseless}
use Rattle.unicode_segmentation.proofs.Computing.{unicode_segmentation}

-- `unfolding tokens` lets `refl` compute `text_terms`
unfoldable pub tokens : Unit {0}
unfolding caseless unicode_segmentation
tokens = tt
