-- What clap's clauses say of a command of plain options.
use Rattle.std.proofs.Common.{◌≡◌, List, [], ◌∷◌, Result, MatchResult, IfOk, Ok, Err, true, false, inl, inr, refl}
use Rattle.std.specs.Prelude.{◌⊎◌}
use Rattle.clap.specs.Words.{App, FailsBy, HasKind, HasMatchesOf, Kinds, Text, fault_of, is_simple, is_simple_and_free, kind_of}
use Rattle.clap.specs.declared.error.Error.{Error}
use Rattle.clap.specs.declared.error.kind.ErrorKind.TheVariants as kind
use Rattle.clap.specs.declared.parser.matches.ArgMatches.{ArgMatches}
use Rattle.clap.proofs.WalkLemmas.{both}
use Rattle.command_words.specs.Taken.{IsTakenBy, is_taken}

module _ (app : App) (words : List Text) where
  refused : (ks : Kinds) (e : Error) → fault_of app words ≡ ks → HasKind ks e → (kind_of e ≡ kind.OutOfMemory) ⊎ (is_taken app words ≡ false)
  unfolding is_taken
  refused ks e fault (inl memory) = inl memory
  refused [] e fault (inr among) = absurd among
  refused (k ∷ ks) e fault (inr among) = inr (rw fault refl)

  pub taken_or_refused : (r : Result ArgMatches Error) → is_simple_and_free app ≡ true → IfOk r (HasMatchesOf app words)
      → (is_simple_and_free app ≡ true → FailsBy (fault_of app words) r)
      → MatchResult r (IsTakenBy app words) (λ e. (kind_of e ≡ kind.OutOfMemory) ⊎ (is_taken app words ≡ false))
  unfolding is_taken
  taken_or_refused (Ok m) simple matches kinds = record { takes = rw (kinds simple) refl; rows = (matches (both (is_simple app) _ simple).0).0 }
  taken_or_refused (Err e) simple matches kinds = refused _ e refl (kinds simple)
