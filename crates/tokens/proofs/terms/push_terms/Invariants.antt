use Rattle.std.proofs.Common.{◌≡◌, ◌≤◌, ◌++◌, length}
use Rattle.tokens.specs.Words.{terms_among, text_terms}
use Rattle.unicode_segmentation.specs.Iter.{unicode_words_left}
use Rattle.tokens.proofs.terms.push_terms.Given as goal
use Rattle.ri_base.specs.declared.limits.TheConstants.{MAX_DOC_TOKENS}

-- the terms so far, and those of the words that are left
abbrev pub invariant-loop-word : goal.invariant-loop-word
invariant-loop-word l =
    (l.terms ++ terms_among (unicode_words_left l.word-iterator) ≡ l.fn.terms ++ text_terms l.text)
    × (length l.terms ≤ MAX_DOC_TOKENS)
