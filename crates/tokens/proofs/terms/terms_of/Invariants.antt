use Rattle.std.proofs.Common.{◌≡◌, ◌++◌}
use Rattle.tokens.specs.Words.{terms_among, text_terms}
use Rattle.unicode_segmentation.specs.Iter.{unicode_words_left}
use Rattle.tokens.proofs.terms.terms_of.Given as goal

-- the terms so far, and those of the words that are left
abbrev pub invariant-loop-word : goal.invariant-loop-word
invariant-loop-word l = l.terms ++ terms_among (unicode_words_left l.word-iterator) ≡ text_terms l.text
