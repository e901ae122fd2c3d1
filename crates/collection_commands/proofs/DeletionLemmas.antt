-- A line of docnos, over a repository.
use Rattle.std.proofs.Common.{◌≡◌, ℕ, true, false, List, refl, ap, sym, ◌∙◌, subst, Option, Result, Ok, Err, map}
use Rattle.std.specs.Prelude.{IfOk, OnOk}
use Rattle.std.proofs.lemmas.Bool.{true_from_ne_false}
use Rattle.std.specs.Set.{is_member}
use Rattle.std.specs.Str.{bytes_eq}
use Rattle.ri_base.specs.Documents.{Document}
use Rattle.store_ends.specs.Files.{Files}
use Rattle.command_pieces.specs.Written.{Plain, told_piece}
use Rattle.docno_lines.specs.declared.docno.DocnoLine.{DocnoLine}
use Rattle.docno_lines.specs.declared.docno.DocnoLine.TheVariants.{BadEvent, Docno, LineTooLong}
use Rattle.holdings.specs.Parts.{all_parts, is_live}
use Rattle.holdings.proofs.LiveLemmas.{docnos-live}
use Rattle.refusals.specs.Lines.{refusal_piece}
use Rattle.refusals.specs.declared.refusal.Refusal.TheVariants as refusal
use Rattle.repository.specs.Stands.{Collection}
use Rattle.repository.specs.States.{ReadsAs, State}
use Rattle.repository.specs.Steps.{without_docno}
use Rattle.collection_commands.specs.Deletions.{behind_line, deleted_text, is_there, line_piece}

-- a docno is live where the collection has a document with it
live-there : (told : Option Files) (s : State) (c : Collection) (docno : List ℕ) → ReadsAs told s c → is_live s.held.parts docno ≡ is_there c docno
live-there told s c docno reads =
    ap (λ ks. is_member bytes_eq ks docno) (sym (docnos-live told (all_parts s.held.parts))) ∙ ap (λ ds. is_member bytes_eq (map (λ (d : Document). d.docno) ds) docno) reads.live_are

piece-there : (c : Collection) (docno : List ℕ) → is_there c docno ≡ true → told_piece (deleted_text docno) ≡ line_piece c (Docno docno)
unfolding line_piece
piece-there c docno e = rw e refl

piece-absent : (c : Collection) (docno : List ℕ) → is_there c docno ≡ false → refusal_piece (refusal.NoSuchDoc docno) ≡ line_piece c (Docno docno)
unfolding line_piece
piece-absent c docno e = rw e refl

behind-there : (c : Collection) (docno : List ℕ) → is_there c docno ≡ true → without_docno c docno ≡ behind_line c (Docno docno)
unfolding behind_line
behind-there c docno e = rw e refl

behind-absent : (c : Collection) (docno : List ℕ) → is_there c docno ≡ false → c ≡ behind_line c (Docno docno)
unfolding behind_line
behind-absent c docno e = rw e refl

-- ---- a docno that is live

pub deleted-reply : (told : Option Files) (s : State) (c : Collection) (docno : List ℕ) (p : Plain) → ReadsAs told s c → (is_live s.held.parts docno ≡ false → ⊥) → p ≡ told_piece (deleted_text docno) → p ≡ line_piece c (Docno docno)
deleted-reply told s c docno p reads live e = e ∙ piece-there c docno (sym (live-there told s c docno reads) ∙ true_from_ne_false (is_live s.held.parts docno) live)

pub deleted-reads : (told : Option Files) (s t : State) (c : Collection) (docno : List ℕ) → ReadsAs told s c → (is_live s.held.parts docno ≡ false → ⊥) → ReadsAs told t (without_docno c docno) → ReadsAs told t (behind_line c (Docno docno))
deleted-reads told s t c docno reads live now = subst (ReadsAs told t) (behind-there c docno (sym (live-there told s c docno reads) ∙ true_from_ne_false (is_live s.held.parts docno) live)) now

-- ---- a docno that isn't

pub absent-reads : (told : Option Files) (s t : State) (c : Collection) (docno : List ℕ) → ReadsAs told s c → is_live s.held.parts docno ≡ false → t ≡ s → ReadsAs told t (behind_line c (Docno docno))
absent-reads told s t c docno reads live same =
    subst (λ u. ReadsAs told u (behind_line c (Docno docno))) (sym same) (subst (ReadsAs told s) (behind-absent c docno (sym (live-there told s c docno reads) ∙ live)) reads)

-- ---- an answer

pub reply-as : {E : Type 0} (r : Result Plain E) (p q : Plain) → p ≡ q → IfOk r (λ reply. reply ≡ p) → IfOk r (λ reply. reply ≡ q)
reply-as (Ok reply) p q same is = is ∙ same
reply-as (Err e) p q same is = tt

pub reads-as : {A E : Type 0} (r : Result A E) (P : Type 0) → P → OnOk r P
reads-as (Ok a) P p = p
reads-as (Err e) P p = tt

pub absent-piece : (told : Option Files) (s : State) (c : Collection) (docno : List ℕ) → ReadsAs told s c → is_live s.held.parts docno ≡ false → refusal_piece (refusal.NoSuchDoc docno) ≡ line_piece c (Docno docno)
absent-piece told s c docno reads live = piece-absent c docno (sym (live-there told s c docno reads) ∙ live)

pub bad-piece : (c : Collection) (line : DocnoLine) (place : ℕ) → line ≡ BadEvent place → refusal_piece (refusal.BadEvent place) ≡ line_piece c line
unfolding line_piece
bad-piece c line place e = rw e refl

pub bad-behind : (c : Collection) (line : DocnoLine) (place : ℕ) → line ≡ BadEvent place → c ≡ behind_line c line
unfolding behind_line
bad-behind c line place e = rw e refl

pub long-piece : (c : Collection) (line : DocnoLine) (place : ℕ) → line ≡ LineTooLong place → refusal_piece (refusal.LineTooLong place) ≡ line_piece c line
unfolding line_piece
long-piece c line place e = rw e refl

pub long-behind : (c : Collection) (line : DocnoLine) (place : ℕ) → line ≡ LineTooLong place → c ≡ behind_line c line
unfolding behind_line
long-behind c line place e = rw e refl
