-- Lines of docnos that are taken one by one.
use Rattle.std.proofs.Common.{◌≡◌, ℕ, Bool, false, ◌||◌, List, [], ◌∷◌, ◌++◌, refl, sym, ◌∙◌, subst, Option, Some, None}
use Rattle.std.specs.Io.KnownBytes.{prepend_known}
use Rattle.std.specs.Option.{option_map, IfSome}
use Rattle.command_pieces.specs.Faults.{IsCut}
use Rattle.command_pieces.specs.Pieces.{some_refused}
use Rattle.command_pieces.specs.Written.{AllWritten, CutBetween, Plain}
use Rattle.command_pieces.specs.declared.fault.Fault.{Fault}
use Rattle.command_pieces.proofs.Cut.{all_none, cut-behind}
use Rattle.command_pieces.proofs.InTurn.{cut-turn, refused-turn, state-next, turns-append, written-turn}
use Rattle.command_pieces.proofs.Joining.{refused-one}
use Rattle.docno_lines.specs.Docnos.{docno_answer, docnos_at}
use Rattle.docno_lines.specs.declared.docno.DocnoLine.{DocnoLine}
use Rattle.repository.specs.Stands.{Collection}
use Rattle.collection_commands.specs.Deletions.{behind_line, behind_lines, line_piece, line_pieces}
use Rattle.collection_commands.proofs.Followed.{all-taken, more-taken, some-taken}

-- These lines were read, and what is unread, before which stand so many bytes, holds the others.
abbrev pub AreFollowed : List DocnoLine → ℕ → Option (List ℕ) → Option (List ℕ) → Type 0
AreFollowed done offset unread start = option_map (λ rest. done ++ docnos_at offset rest) unread ≡ option_map (docnos_at 0) start

followed-from : (start : Option (List ℕ)) → AreFollowed [] 0 (prepend_known [] start) start
followed-from None = refl
followed-from (Some bytes) = refl

pub followed-start : (ahead : List ℕ) (offset : ℕ) (start : Option (List ℕ)) → ahead ≡ [] → offset ≡ 0 → AreFollowed [] offset (prepend_known ahead start) start
followed-start ahead offset start none first = rw (none, first) (followed-from start)

pub followed-more : (done : List DocnoLine) (line : DocnoLine) (o p : ℕ) (old new start : Option (List ℕ)) → AreFollowed done o old start
    → option_map (docnos_at o) old ≡ option_map (docno_answer (Some line) p) new → AreFollowed (done ++ line ∷ []) p new start
followed-more done line o p old new start f e = more-taken (docnos_at 0) done (docnos_at o) line (docnos_at p) old new start f e

-- What holds of the lines that were read, however the input goes on, holds of the input.
pub some-done : (Q : List DocnoLine → Type 0) (done : List DocnoLine) (o : ℕ) (unread start : Option (List ℕ)) → AreFollowed done o unread start → ((rest : List DocnoLine) → Q (done ++ rest)) → IfSome start (λ bytes. Q (docnos_at 0 bytes))
some-done Q done o unread start f q = some-taken (docnos_at 0) done (docnos_at o) Q unread start f q

-- The input ends.
pub all-done : (Q : List DocnoLine → Type 0) (done : List DocnoLine) (o p : ℕ) (old new start : Option (List ℕ)) → AreFollowed done o old start → option_map (docnos_at o) old ≡ option_map (docno_answer None p) new → Q done → IfSome start (λ bytes. Q (docnos_at 0 bytes))
all-done Q done o p old new start f e q = all-taken (docnos_at 0) done (docnos_at o) Q old new start f e q

-- ---- what is written of lines

abbrev one_piece : Collection → DocnoLine → List Plain
one_piece c line = line_piece c line ∷ []

pieces-append : (c : Collection) (xs ys : List DocnoLine) → line_pieces c (xs ++ ys) ≡ line_pieces c xs ++ line_pieces (behind_lines c xs) ys
unfolding line_pieces behind_lines
pieces-append c xs ys = turns-append behind_line one_piece c xs ys

pub behind-none : (c : Collection) → c ≡ behind_lines c []
unfolding behind_lines
behind-none c = refl

pub behind-next : (c : Collection) (done : List DocnoLine) (line : DocnoLine) → behind_line (behind_lines c done) line ≡ behind_lines c (done ++ line ∷ [])
unfolding behind_lines
behind-next c done line = state-next behind_line c done line

pub refused-start : (c : Collection) → false ≡ some_refused (line_pieces c [])
unfolding line_pieces
refused-start c = refl

pub written-start : (c : Collection) (taken : Option (List ℕ)) → AllWritten (line_pieces c []) taken taken
unfolding line_pieces
written-start c taken = all_none taken

pub refused-next : (c : Collection) (done : List DocnoLine) (line : DocnoLine) (noted refused : Bool) → noted ≡ some_refused (line_pieces c done) → refused ≡ (line_piece (behind_lines c done) line).is_refusal
    → (noted || refused) ≡ some_refused (line_pieces c (done ++ line ∷ []))
unfolding line_pieces behind_lines
refused-next c done line noted refused n r = refused-turn behind_line one_piece c done line noted refused n (r ∙ sym (refused-one (line_piece (behind_lines c done) line)))

module _ (c : Collection) (done : List DocnoLine) (line : DocnoLine) (before mid now : Option (List ℕ)) (a : AllWritten (line_pieces c done) before mid) where
  pub written-next : AllWritten (line_piece (behind_lines c done) line ∷ []) mid now → AllWritten (line_pieces c (done ++ line ∷ [])) before now
  unfolding line_pieces behind_lines
  written-next b = written-turn behind_line one_piece c done line before mid now a b

  -- The line is broken off, and further ones would have followed.
  pub cut-next : (e : Fault) (rest : List DocnoLine) → IsCut e (line_piece (behind_lines c done) line ∷ []) mid now → IsCut e (line_pieces c ((done ++ line ∷ []) ++ rest)) before now
  unfolding line_pieces behind_lines
  cut-next e rest b = subst (λ ps. IsCut e ps before now) (sym (pieces-append c (done ++ line ∷ []) rest)) (cut-turn behind_line one_piece c done line before mid now a e _ b)

-- Between two lines further ones would have followed.
pub cut-here : (c : Collection) (done rest : List DocnoLine) (before now : Option (List ℕ)) → AllWritten (line_pieces c done) before now → CutBetween (line_pieces c (done ++ rest)) before now
cut-here c done rest before now a = subst (λ ps. CutBetween ps before now) (sym (pieces-append c done rest)) (cut-behind (line_pieces c done) _ before now a)
