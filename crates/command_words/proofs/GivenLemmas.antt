-- The command is of plain options, and what its matches say.
use Rattle.std.proofs.Common.{◌≡◌, ◌∙◌, List, None, Some, true, false, refl, sym, ap, subst, codes, option_map, inl, inr}
use Rattle.std.specs.Prelude.{◌⊎◌}
use Rattle.clap.specs.Words.{App, Text, first_of, found_of, is_simple_and_free, rows_of}
use Rattle.clap.specs.declared.parser.matches.ArgMatches.{ArgMatches}
use Rattle.clap.proofs.OnLiterals.{clap_on_literals}
use Rattle.command_words.specs.ClapCommand.{rows_of_words, taken_by, words_app}
use Rattle.command_words.specs.Given.{given_by, told_given}
use Rattle.command_words.specs.Taken.{IsTakenBy, is_taken}
use Rattle.command_words.specs.Texts.{are_texts}
use Rattle.command_words.specs.declared.given.Given.{Given}
use Rattle.command_words.proofs.TakenWords.{given_is_taken}

pub words_app_is_free : is_simple_and_free words_app ≡ true
unfolding words_app clap_on_literals
words_app_is_free = refl

module _ (app : App) (words : List Text) (texts : are_texts words ≡ true) (is_it : app ≡ words_app) where
  refused : (M : Type 0) → M ⊎ (is_taken app words ≡ false) → M ⊎ (taken_by words ≡ None)
  unfolding taken_by
  refused M (inl memory) = inl memory
  refused M (inr refusal) = inr (let e : is_taken words_app words ≡ false = ap (λ a. is_taken a words) (sym is_it) ∙ refusal in rw e refl)

  pub words_refused : (M : Type 0) → M ⊎ (is_taken app words ≡ false) → M ⊎ (given_by words ≡ None)
  words_refused M h = rw (given_is_taken words texts) (refused M h)

  taken : (m : ArgMatches) (g : Given) → IsTakenBy app words m
      → option_map (λ s. s.now) g.first ≡ first_of (codes "first") (rows_of (found_of m)) → option_map (λ s. s.now) g.second ≡ first_of (codes "second") (rows_of (found_of m))
      → option_map (λ s. s.now) g.k ≡ first_of (codes "k") (rows_of (found_of m)) → option_map (λ s. s.now) g.mu ≡ first_of (codes "mu") (rows_of (found_of m))
      → option_map (λ s. s.now) g.topic ≡ first_of (codes "topic") (rows_of (found_of m)) → option_map (λ s. s.now) g.run ≡ first_of (codes "run") (rows_of (found_of m))
      → taken_by words ≡ Some (told_given g)
  unfolding taken_by rows_of_words
  taken m g h first second k mu topic run =
      let h' = subst (λ (a : App). IsTakenBy a words m) is_it h in rw (first, second, k, mu, topic, run, h'.rows, h'.takes) refl

  pub words_given : (m : ArgMatches) (g : Given) → IsTakenBy app words m
      → option_map (λ s. s.now) g.first ≡ first_of (codes "first") (rows_of (found_of m)) → option_map (λ s. s.now) g.second ≡ first_of (codes "second") (rows_of (found_of m))
      → option_map (λ s. s.now) g.k ≡ first_of (codes "k") (rows_of (found_of m)) → option_map (λ s. s.now) g.mu ≡ first_of (codes "mu") (rows_of (found_of m))
      → option_map (λ s. s.now) g.topic ≡ first_of (codes "topic") (rows_of (found_of m)) → option_map (λ s. s.now) g.run ≡ first_of (codes "run") (rows_of (found_of m))
      → given_by words ≡ Some (told_given g)
  words_given m g h first second k mu topic run = given_is_taken words texts ∙ taken m g h first second k mu topic run
