-- Documents that are taken one by one.
use Rattle.std.proofs.Common.{◌≡◌, ◌+◌, ℕ, Bool, true, false, ◌||◌, List, [], ◌∷◌, ◌++◌, length, refl, ap, sym, ◌∙◌, subst, Option, Some, None, Ok, Err, append_assoc, append-nil, arith, zero-add}
use Rattle.std.specs.Io.KnownBytes.{prepend_known}
use Rattle.std.specs.Option.{option_map, IfSome}
use Rattle.trec_reader.proofs.Shorter.{read_is}
use Rattle.trec_reader.specs.Read.{Found, entry, entry_then, offset_of, read, read_rest, with_document}
use Rattle.trec_reader.specs.Refusal.{Gives, IsRefused}
use Rattle.trec_reader.specs.declared.document.RawDoc.{RawDoc}
use Rattle.trec_reader.specs.declared.refusal.TrecRefusal.{TrecRefusal}
use Rattle.trec_reader.specs.declared.refusal.TrecRefusal.TheVariants as input
use Rattle.command_pieces.specs.Faults.{IsCut}
use Rattle.command_pieces.specs.Pieces.{some_refused}
use Rattle.command_pieces.specs.Written.{AllWritten, CutBetween}
use Rattle.document_handlers.specs.Work.{Work, behind, behind_all, document_pieces, input_pieces, refusal_pieces, replies}
use Rattle.command_pieces.specs.declared.fault.Fault.{Fault}
use Rattle.command_pieces.proofs.Cut.{all_none, all-then, cut-behind, cut-then}
use Rattle.command_pieces.proofs.InTurn.{cut-turn, refused-turn, state-next, turns-append, written-turn}
use Rattle.command_pieces.proofs.Joining.{refused-append}

-- documents, and then what is found
abbrev pub found_behind : List RawDoc → Found → Found
found_behind done found = (done ++ found.0, found.1)

-- These documents were read, and what is unread, before which stand so many bytes, holds the others.
abbrev pub AreFollowed : List RawDoc → ℕ → Option (List ℕ) → Option (List ℕ) → Type 0
AreFollowed done offset unread start = option_map (λ rest. found_behind done (read_rest (offset + length rest) rest)) unread ≡ option_map read start

rest_is : (o : ℕ) (bytes : List ℕ) → read_rest (o + length bytes) bytes ≡ entry_then (entry o bytes) (read_rest (o + length bytes))
rest_is o bytes = let here : offset_of (o + length bytes) bytes ≡ o = omega arith in read_is (o + length bytes) bytes ∙ ap (λ k. entry_then (entry k bytes) (read_rest (o + length bytes))) here

whole : (bytes : List ℕ) → found_behind [] (read_rest (0 + length bytes) bytes) ≡ read bytes
whole bytes = ap (λ n. read_rest n bytes) (zero-add (length bytes))

followed-from : (start : Option (List ℕ)) → AreFollowed [] 0 (prepend_known [] start) start
followed-from None = refl
followed-from (Some bytes) = ap Some (whole bytes)

pub followed-start : (ahead : List ℕ) (offset : ℕ) (start : Option (List ℕ)) → ahead ≡ [] → offset ≡ 0 → AreFollowed [] offset (prepend_known ahead start) start
followed-start ahead offset start none first = rw (none, first) (followed-from start)

pub followed-more : (done : List RawDoc) (d : RawDoc) (o p : ℕ) (old new start : Option (List ℕ)) → AreFollowed done o old start
    → option_map (entry o) old ≡ option_map (λ rest. Ok (Some d, rest)) new → option_map (λ xs. p + length xs) new ≡ option_map (λ xs. o + length xs) old → AreFollowed (done ++ d ∷ []) p new start
followed-more done d o p None None start f e same = f
followed-more done d o p None (Some ys) start f e same = cc
followed-more done d o p (Some xs) None start f e same = cc
followed-more done d o p (Some xs) (Some ys) start f e same =
    let is : entry o xs ≡ Ok (Some d, ys) = cc in
    let total : o + length xs ≡ p + length ys = cc in
    let later = read_rest (p + length ys) ys in
    let found : read_rest (o + length xs) xs ≡ with_document d later = rest_is o xs ∙ ap (λ r. entry_then r (read_rest (o + length xs))) is ∙ ap (λ n. with_document d (read_rest n ys)) total in
    let docs : (done ++ d ∷ []) ++ later.0 ≡ done ++ d ∷ later.0 = append_assoc done (d ∷ []) later.0 in
    ap Some (ap (λ ds. (ds, later.1)) docs ∙ ap (found_behind done) (sym found)) ∙ f

-- What holds of the documents that were read, however the input goes on, holds of the input.
pub some-done : (Q : Found → Type 0) (done : List RawDoc) (o : ℕ) (unread start : Option (List ℕ)) → AreFollowed done o unread start → ((rest : Found) → Q (found_behind done rest)) → IfSome start (λ bytes. Q (read bytes))
some-done Q done o unread None f q = tt
some-done Q done o None (Some bytes) f q = cc
some-done Q done o (Some ys) (Some bytes) f q =
    let all : found_behind done (read_rest (o + length ys) ys) ≡ read bytes = cc in
    subst Q all (q (read_rest (o + length ys) ys))

-- The input ends.
pub all-done : (Q : Found → Type 0) (done : List RawDoc) (o : ℕ) (old new start : Option (List ℕ)) → AreFollowed done o old start → option_map (entry o) old ≡ option_map (λ rest. Ok (None, rest)) new → Q (done, None) → IfSome start (λ bytes. Q (read bytes))
all-done Q done o old new None f e q = tt
all-done Q done o None new (Some bytes) f e q = cc
all-done Q done o (Some xs) None (Some bytes) f e q = cc
all-done Q done o (Some xs) (Some ys) (Some bytes) f e q =
    let is : entry o xs ≡ Ok (None, ys) = cc in
    let found : read_rest (o + length xs) xs ≡ ([], None) = rest_is o xs ∙ ap (λ r. entry_then r (read_rest (o + length xs))) is in
    let all : found_behind done (read_rest (o + length xs) xs) ≡ read bytes = cc in
    subst Q (ap (λ ds. (ds, None)) (sym (append-nil done)) ∙ ap (found_behind done) (sym found) ∙ all) q

-- The input ends at a refusal.
pub refused-done : (Q : Found → Type 0) (done : List RawDoc) (o : ℕ) (why : TrecRefusal) (old start : Option (List ℕ)) → AreFollowed done o old start → IsRefused entry why o old → Q (done, Some why) → IfSome start (λ bytes. Q (read bytes))
refused-done Q done o why old None f e q = tt
refused-done Q done o why None (Some bytes) f e q = cc
refused-done Q done o why (Some xs) (Some bytes) f e q =
    let is : entry o xs ≡ Err why = cc in
    let found : read_rest (o + length xs) xs ≡ ([], Some why) = rest_is o xs ∙ ap (λ r. entry_then r (read_rest (o + length xs))) is in
    let all : found_behind done (read_rest (o + length xs) xs) ≡ read bytes = cc in
    subst Q (ap (λ ds. (ds, Some why)) (sym (append-nil done)) ∙ ap (found_behind done) (sym found) ∙ all) q

-- an answer that is neither a fault nor want of memory is a refusal of the text
pub is_refused : (r : TrecRefusal) (o : ℕ) (old new : Option (List ℕ)) → Gives (Err r) o old new → (r ≡ input.Read → ⊥) → (r ≡ input.Memory → ⊥) → IsRefused entry r o old
is_refused (input.NoDocno at) o old new h a b = h
is_refused (input.DocnoEmpty at) o old new h a b = h
is_refused (input.DocnoBad at) o old new h a b = h
is_refused (input.DocnoLong at) o old new h a b = h
is_refused (input.DocOpen at) o old new h a b = h
is_refused (input.NotADoc at) o old new h a b = h
is_refused (input.DocTooLarge at) o old new h a b = h
is_refused input.Read o old new h a b = absurd (a refl)
is_refused input.Ended o old new h a b = absurd h
is_refused input.Memory o old new h a b = absurd (b refl)

-- ---- what is written of documents

pieces-append : (w : Work) (xs ys : List RawDoc) → document_pieces w (xs ++ ys) ≡ document_pieces w xs ++ document_pieces (behind_all w xs) ys
unfolding document_pieces behind_all
pieces-append w xs ys = turns-append behind replies w xs ys

pub behind-none : (w : Work) → w ≡ behind_all w []
unfolding behind_all
behind-none w = refl

pub behind-next : (w : Work) (done : List RawDoc) (d : RawDoc) → behind (behind_all w done) d ≡ behind_all w (done ++ d ∷ [])
unfolding behind_all
behind-next w done d = state-next behind w done d

pub refused-start : (w : Work) → false ≡ some_refused (document_pieces w [])
unfolding document_pieces
refused-start w = refl

pub all-start : (w : Work) (taken : Option (List ℕ)) → AllWritten (document_pieces w []) taken taken
unfolding document_pieces
all-start w taken = all_none taken

pub refused-next : (w : Work) (done : List RawDoc) (d : RawDoc) (noted refused : Bool) → noted ≡ some_refused (document_pieces w done) → refused ≡ some_refused (replies (behind_all w done) d)
    → (noted || refused) ≡ some_refused (document_pieces w (done ++ d ∷ []))
unfolding document_pieces behind_all
refused-next w done d noted refused n r = refused-turn behind replies w done d noted refused n r

-- what is written of an input that begins with these documents
input-append : (w : Work) (done : List RawDoc) (rest : Found) → input_pieces w (found_behind done rest) ≡ document_pieces w done ++ input_pieces (behind_all w done) rest
input-append w done rest = ap (λ ps. ps ++ refusal_pieces rest.1) (pieces-append w done rest.0) ∙ append_assoc (document_pieces w done) (document_pieces (behind_all w done) rest.0) (refusal_pieces rest.1)

module _ (w : Work) (done : List RawDoc) (d : RawDoc) (before mid now : Option (List ℕ)) (a : AllWritten (document_pieces w done) before mid) where
  pub all-next : AllWritten (replies (behind_all w done) d) mid now → AllWritten (document_pieces w (done ++ d ∷ [])) before now
  unfolding document_pieces behind_all
  all-next b = written-turn behind replies w done d before mid now a b

  pub broken-next : (e : Fault) (rest : Found) → IsCut e (replies (behind_all w done) d) mid now → IsCut e (input_pieces w (found_behind (done ++ d ∷ []) rest)) before now
  unfolding document_pieces behind_all
  broken-next e rest b = subst (λ ps. IsCut e ps before now) (sym (input-append w (done ++ d ∷ []) rest)) (cut-turn behind replies w done d before mid now a e _ b)

-- Between two documents further ones would have followed.
pub stopped-here : (w : Work) (done : List RawDoc) (rest : Found) (before now : Option (List ℕ)) → AllWritten (document_pieces w done) before now → CutBetween (input_pieces w (found_behind done rest)) before now
stopped-here w done rest before now a = subst (λ ps. CutBetween ps before now) (sym (input-append w done rest)) (cut-behind (document_pieces w done) _ before now a)

-- ---- the input ends

pub all-pieces : (w : Work) (done : List RawDoc) → document_pieces w done ≡ input_pieces w (done, None)
all-pieces w done = sym (append-nil (document_pieces w done))

pub all-written : (w : Work) (done : List RawDoc) (before now : Option (List ℕ)) → AllWritten (document_pieces w done) before now → AllWritten (input_pieces w (done, None)) before now
all-written w done before now a = subst (λ ps. AllWritten ps before now) (all-pieces w done) a

pub refused-all : (w : Work) (done : List RawDoc) (noted : Bool) → noted ≡ some_refused (document_pieces w done) → noted ≡ some_refused (input_pieces w (done, None))
refused-all w done noted e = e ∙ ap some_refused (all-pieces w done)

or-true : (b : Bool) → (b || true) ≡ true
or-true true = refl
or-true false = refl

-- the refusal of the input is noted
pub refused-last : (w : Work) (done : List RawDoc) (why : TrecRefusal) → true ≡ some_refused (input_pieces w (done, Some why))
refused-last w done why = sym (refused-append (document_pieces w done) (refusal_pieces (Some why)) ∙ or-true (some_refused (document_pieces w done)))

pub all-last : (w : Work) (done : List RawDoc) (why : TrecRefusal) (before mid now : Option (List ℕ)) → AllWritten (document_pieces w done) before mid → AllWritten (refusal_pieces (Some why)) mid now → AllWritten (input_pieces w (done, Some why)) before now
all-last w done why before mid now a b = all-then (document_pieces w done) (refusal_pieces (Some why)) before mid now a b

pub broken-last : (e : Fault) (w : Work) (done : List RawDoc) (why : TrecRefusal) (before mid now : Option (List ℕ)) → AllWritten (document_pieces w done) before mid → IsCut e (refusal_pieces (Some why)) mid now → IsCut e (input_pieces w (done, Some why)) before now
broken-last e w done why before mid now a b = cut-then e (document_pieces w done) (refusal_pieces (Some why)) before mid now a b
