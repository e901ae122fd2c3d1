use Rattle.std.proofs.Common.{◌≡◌, ◌++◌, drop, map, true}
use Rattle.command_words.specs.Texts.{are_texts}
use Rattle.command_words.proofs.words.words_behind.Given as goal

abbrev pub invariant-loop-index : goal.invariant-loop-index
invariant-loop-index l = record {
  words : map (λ word. word.now) l.rest.items ++ drop l.index l.words ≡ drop 2 l.words;
  texts : are_texts (map (λ word. word.now) l.rest.items) ≡ true;
}
