-- A run of a command that changes no file.
use Rattle.std.proofs.Common.{◌≡◌, ◌≤◌, inl, inr, ℕ, Bool, List, [], Option, None, Some, Result, Ok, Err, true, false, refl, sym, ap, subst, ◌∙◌}
use Rattle.std.specs.Prelude.{IfErr, IfOk, OnOk}
use Rattle.std.specs.Option.{IfSome}
use Rattle.ri_base.specs.Expression.{ExprTree}
use Rattle.store_ends.specs.Files.{Files}
use Rattle.trec_reader.specs.Read.{read}
use Rattle.query_reader.specs.QueryText.{expr_text}
use Rattle.query_reader.specs.declared.fault.QueryKind.{QueryKind}
use Rattle.query_refusals.specs.Lines.{line_of}
use Rattle.query_refusals.specs.declared.refusal.QueryRefusal.{QueryRefusal}
use Rattle.query_refusals.specs.declared.refusal.QueryRefusal.TheVariants.{Text}
use Rattle.command_words.specs.Table.{Asks, scan}
use Rattle.command_pieces.specs.Faults.{IsCut}
use Rattle.command_pieces.specs.Pieces.{some_refused}
use Rattle.command_pieces.specs.Written.{AllWritten, AnyFiles, CutBetween, CutWithin, Plain, unflushed}
use Rattle.command_pieces.specs.declared.command_fault.CommandFault.TheVariants as fault
use Rattle.command_pieces.specs.declared.fault.Fault.{Fault}
use Rattle.command_pieces.specs.declared.fault.Fault.TheVariants as items
use Rattle.command_pieces.proofs.Cut.{cut_first}
use Rattle.command_pieces.proofs.Ending.{with-line}
use Rattle.command_pieces.proofs.Joining.{StoppedBetween-none}
use Rattle.command_pieces.proofs.Lifting.{Finished-lifted, broken-lifted, refused_same}
use Rattle.document_handlers.specs.Work.{input_pieces, scanning}
use Rattle.repository.specs.RealLimits.{StandsFor}
use Rattle.repository.specs.Stands.{Collection}
use Rattle.desk.specs.Priors.{names_with}
use Rattle.indri_app.specs.Command.{ArePieces, expr_refusal, text_refusal}
use Rattle.indri_app.specs.LastLines.{read_line}
use Rattle.indri_app.specs.Runs.{IsEnded, IsPlainStatus, IsReplyStatus, RunsTo, ScansFor, ScansTo, Tells, WritesBy, items_answer}
use Rattle.indri_app.specs.declared.status.Status.{Status}
use Rattle.indri_app.specs.declared.status.Status.TheVariants as status
use Rattle.indri_app.proofs.Closing.{as-status}

-- ---- how it ends, by what it answers

as-writes : (s t : Status) (ps : List Plain) (before now : Option (List ℕ)) (a z : ℕ) → s ≡ t → WritesBy t ps before now a z → WritesBy s ps before now a z
as-writes s t ps before now a z e w = subst (λ u. WritesBy u ps before now a z) (sym e) w

still-cut : (ps : List Plain) (before mid now : Option (List ℕ)) → now ≡ mid → CutBetween ps before mid → CutBetween ps before now
still-cut ps before mid now e cut = subst (λ t. CutBetween ps before t) (sym e) cut

pub ended-writes : (answer : Result Bool Fault) (s : Status) (ps : List Plain) (before mid now : Option (List ℕ)) (a b z : ℕ) → a ≤ b → IfOk answer (λ refused. refused ≡ some_refused ps) → OnOk answer (AllWritten ps before mid) → IfErr answer (λ why. IsCut why ps before mid)
    → IsEnded (items_answer answer) s mid now b z → WritesBy s ps before now a z
ended-writes (Ok false) s ps before mid now a b z h refused all cut (e, same) = as-writes s status.Done ps before now a z e (sym refused, subst (λ t. AllWritten ps before t) (sym same) all)
ended-writes (Ok true) s ps before mid now a b z h refused all cut (e, same) = as-writes s status.SomeRefused ps before now a z e (sym refused, subst (λ t. AllWritten ps before t) (sym same) all)
ended-writes (Err items.Read) s ps before mid now a b z h refused all cut ends = elim ends [
  | inl (e, l) ↦ as-writes s status.ReadFault ps before now a z e (with-line read_line AnyFiles tt ps before mid now None a b z h cut l)
  | inr (e, same) ↦ as-writes s status.Memory ps before now a z e (still-cut ps before mid now same cut)
]
ended-writes (Err items.Write) s ps before mid now a b z h refused all cut (e, same) = as-writes s status.WriteFault ps before now a z e (subst (λ t. CutWithin ps before t) (sym same) cut)
ended-writes (Err items.Memory) s ps before mid now a b z h refused all cut (e, same) = as-writes s status.Memory ps before now a z e (still-cut ps before mid now same cut)

pub ended-writes-some : (answer : Result Bool Fault) (s : Status) (ps : List ℕ → List Plain) (left before mid now : Option (List ℕ)) (a b z : ℕ) → a ≤ b → IfOk answer (λ refused. IfSome left (λ bytes. refused ≡ some_refused (ps bytes))) → OnOk answer (IfSome left (λ bytes. AllWritten (ps bytes) before mid))
    → IfErr answer (λ why. IfSome left (λ bytes. IsCut why (ps bytes) before mid)) → IsEnded (items_answer answer) s mid now b z → IfSome left (λ bytes. WritesBy s (ps bytes) before now a z)
ended-writes-some answer s ps None before mid now a b z h refused all cut ends = tt
ended-writes-some (Ok refused') s ps (Some bytes) before mid now a b z h refused all cut ends = ended-writes (Ok refused') s (ps bytes) before mid now a b z h refused all cut ends
ended-writes-some (Err why) s ps (Some bytes) before mid now a b z h refused all cut ends = ended-writes (Err why) s (ps bytes) before mid now a b z h refused all cut ends

pub items-plain : (answer : Result Bool Fault) (s : Status) (mid now : Option (List ℕ)) (b z : ℕ) → IsEnded (items_answer answer) s mid now b z → IsPlainStatus s
items-plain (Ok false) s mid now b z (e, same) = subst IsPlainStatus (sym e) tt
items-plain (Ok true) s mid now b z (e, same) = subst IsPlainStatus (sym e) tt
items-plain (Err items.Read) s mid now b z ends = elim ends [ inl (e, l) ↦ subst IsPlainStatus (sym e) tt | inr (e, same) ↦ subst IsPlainStatus (sym e) tt ]
items-plain (Err items.Write) s mid now b z (e, same) = subst IsPlainStatus (sym e) tt
items-plain (Err items.Memory) s mid now b z (e, same) = subst IsPlainStatus (sym e) tt

-- an answer that isn't broken off by its source
pub items-reply : (answer : Result Bool Fault) (s : Status) (mid now : Option (List ℕ)) (b z : ℕ) → (answer ≡ Err items.Read → ⊥) → IsEnded (items_answer answer) s mid now b z → IsReplyStatus s
items-reply (Ok false) s mid now b z never (e, same) = subst IsReplyStatus (sym e) tt
items-reply (Ok true) s mid now b z never (e, same) = subst IsReplyStatus (sym e) tt
items-reply (Err items.Read) s mid now b z never ends = absurd (never refl)
items-reply (Err items.Write) s mid now b z never (e, same) = subst IsReplyStatus (sym e) tt
items-reply (Err items.Memory) s mid now b z never (e, same) = subst IsReplyStatus (sym e) tt

pub items-read : (answer : Result Bool Fault) → items_answer answer ≡ Err fault.Read → answer ≡ Err items.Read
items-read (Ok refused) e = absurd cc
items-read (Err items.Read) e = refl
items-read (Err items.Write) e = absurd cc
items-read (Err items.Memory) e = absurd cc

pub items-write : (answer : Result Bool Fault) → items_answer answer ≡ Err fault.Write → answer ≡ Err items.Write
items-write (Ok refused) e = absurd cc
items-write (Err items.Read) e = absurd cc
items-write (Err items.Write) e = refl
items-write (Err items.Memory) e = absurd cc

-- ---- a scan

pub scans-of : (text : List ℕ) (x : ExprTree) (s : Status) (left before now : Option (List ℕ)) (a z : ℕ) → expr_text text ≡ Ok x → IfSome left (λ bytes. WritesBy s (input_pieces (scanning x) (read bytes)) before now a z) → IfSome left (λ bytes. ScansTo s text bytes before now a z)
scans-of text x s None before now a z e w = tt
scans-of text x s (Some bytes) before now a z e w = subst (λ r. ScansFor r s bytes before now a z) (sym e) w

refused-for : (r : Result ExprTree (QueryKind × ℕ)) (why : QueryRefusal) (s : Status) (bytes : List ℕ) (before now : Option (List ℕ)) (a z : ℕ) → expr_refusal r ≡ Some why → Tells status.QueryRefused (line_of why) s before now → ScansFor r s bytes before now a z
refused-for (Ok x) why s bytes before now a z e tells = absurd cc
refused-for (Err why') why s bytes before now a z e tells = let one : why ≡ Text why'.0 why'.1 = cc in subst (λ w. Tells status.QueryRefused (line_of w) s before now) one tells

pub scans-refused : (text : List ℕ) (why : QueryRefusal) (s : Status) (left before now : Option (List ℕ)) (a z : ℕ) → expr_refusal (expr_text text) ≡ Some why → Tells status.QueryRefused (line_of why) s before now → IfSome left (λ bytes. ScansTo s text bytes before now a z)
scans-refused text why s None before now a z e tells = tt
scans-refused text why s (Some bytes) before now a z e tells = refused-for (expr_text text) why s bytes before now a z e tells

memory-for : (r : Result ExprTree (QueryKind × ℕ)) (bytes : List ℕ) (before : Option (List ℕ)) (a z : ℕ) → ScansFor r status.Memory bytes before before a z
memory-for (Ok x) bytes before a z = cut_first (input_pieces (scanning x) (read bytes)) before before refl
memory-for (Err why) bytes before a z = inr (inr (refl, refl))

pub scans-memory : (text : List ℕ) (left before : Option (List ℕ)) (a z : ℕ) → IfSome left (λ bytes. ScansTo status.Memory text bytes before before a z)
scans-memory text None before a z = tt
scans-memory text (Some bytes) before a z = memory-for (expr_text text) bytes before a z

pub tells-plain : (line : List ℕ) (s : Status) (before now : Option (List ℕ)) → Tells status.QueryRefused line s before now → IsPlainStatus s
tells-plain line s before now tells = elim tells [
  | inl h ↦ subst IsPlainStatus (sym h.0) tt
  | inr more ↦ elim more [ inl h ↦ subst IsPlainStatus (sym h.0) tt | inr h ↦ subst IsPlainStatus (sym h.0) tt ]
]

pub tells-no_read : (line : List ℕ) (s : Status) (before now : Option (List ℕ)) → Tells status.QueryRefused line s before now → s ≡ status.ReadFault → ⊥
tells-no_read line s before now tells e = elim tells [
  | inl h ↦ let w = h.0 in absurd cc
  | inr more ↦ elim more [ inl h ↦ let w = h.0 in absurd cc | inr h ↦ let w = h.0 in absurd cc ]
]

-- ---- over files that stand for a collection

module _ (told : Option Files) (asks : Asks) (c : Collection) (bytes : List ℕ) (before now : Option (List ℕ)) (a z : ℕ) where
  pub plain-runs : (s : Status) (ps : List Plain) → ArePieces told asks c bytes (unflushed ps) → StandsFor c told → WritesBy s ps before now a z → RunsTo s told asks c bytes before now told a z
  plain-runs status.Done ps are stands w = (unflushed ps, are, refused_same Collection ps ∙ w.0, Finished-lifted StandsFor c ps before now told w.1 stands)
  plain-runs status.SomeRefused ps are stands w = (unflushed ps, are, refused_same Collection ps ∙ w.0, Finished-lifted StandsFor c ps before now told w.1 stands)
  plain-runs status.ReadFault ps are stands w = (unflushed ps, inr are, record { taken = w.taken; stopped = broken-lifted items.Read StandsFor c ps before w.taken told w.stopped stands; ended = w.ended })
  plain-runs status.WriteFault ps are stands w = inl (unflushed ps, are, broken-lifted items.Write StandsFor c ps before now told w stands)
  plain-runs status.Memory ps are stands w = (unflushed ps, inr are, broken-lifted items.Memory StandsFor c ps before now told w stands)
  plain-runs status.QueryRefused ps are stands w = absurd w
  plain-runs status.Exists ps are stands w = absurd w
  plain-runs status.StoreFault ps are stands w = absurd w
  plain-runs status.Usage ps are stands w = absurd w
  plain-runs status.Malformed ps are stands w = absurd w
  plain-runs status.NoRepository ps are stands w = absurd w

  -- the text is refused
  pub tells-runs : (s : Status) (why : QueryRefusal) → text_refusal (names_with c.priors) asks ≡ Some why → StandsFor c told → Tells status.QueryRefused (line_of why) s before now → RunsTo s told asks c bytes before now told a z
  tells-runs s why refused stands tells = elim tells [
    | inl (e, written) ↦ as-status told asks c bytes before told a z s status.QueryRefused now e (record { why = why; refused = refused; written = written; same = refl })
    | inr more ↦ elim more [
      | inl (e, front) ↦ as-status told asks c bytes before told a z s status.WriteFault now e (inr (why, refused, front, refl))
      | inr (e, same) ↦ as-status told asks c bytes before told a z s status.Memory now e ([], inl refl, StoppedBetween-none StandsFor c [] before now told same stands)
    ]
  ]

scan-for : (told : Option Files) (text : List ℕ) (c : Collection) (bytes : List ℕ) (before now : Option (List ℕ)) (a z : ℕ) (s : Status) (r : Result ExprTree (QueryKind × ℕ)) → expr_text text ≡ r → StandsFor c told → ScansFor r s bytes before now a z → RunsTo s told (scan text) c bytes before now told a z
scan-for told text c bytes before now a z s (Ok x) e stands w = plain-runs told (scan text) c bytes before now a z s (input_pieces (scanning x) (read bytes)) (x, e, refl) stands w
scan-for told text c bytes before now a z s (Err why) e stands w = tells-runs told (scan text) c bytes before now a z s (Text why.0 why.1) (ap expr_refusal e) stands w

pub scan-runs : (told : Option Files) (text : List ℕ) (c : Collection) (left before now : Option (List ℕ)) (a z : ℕ) (s : Status) → StandsFor c told → IfSome left (λ bytes. ScansTo s text bytes before now a z) → IfSome left (λ bytes. RunsTo s told (scan text) c bytes before now told a z)
scan-runs told text c None before now a z s stands w = tt
scan-runs told text c (Some bytes) before now a z s stands w = scan-for told text c bytes before now a z s (expr_text text) refl stands w
