use Rattle.std.proofs.Common.{◌≡◌, ◌++◌, ◌∷◌, [], Some, rules, slice_get}
use Rattle.command_words.proofs.WordLemmas.{text_kept, word_kept}
use Rattle.command_words.proofs.words.words_behind.Goals as goal

pub loop-index-preserved : goal.loop-index-preserved
loop-index-preserved c =
    let word : slice_get c.args.words.now c.loop-index.index ≡ Some c.in-Some.word.now = search rules in
    let push : c.push_word.new.words.items ≡ c.loop-index.rest.items ++ c.in-Some.word ∷ [] = search rules in
    record {
      words = rw push (word_kept c.loop-index.rest.items c.args.words.now c.loop-index.index c.in-Some.word word c.loop-index.invariant.words);
      texts = rw push (text_kept c.loop-index.rest.items c.in-Some.word c.loop-index.invariant.texts c.push_word.ensures.text);
    }
