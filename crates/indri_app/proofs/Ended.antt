-- How a run ends, by what its command answers.
use Rattle.std.proofs.Common.{◌≡◌, ◌≤◌, ◌⊎◌, inl, inr, ℕ, Bool, List, Option, None, Some, Result, Ok, Err, true, false, refl, sym, ap, subst, ◌∙◌, arith, take, []}
use Rattle.std.specs.Prelude.{IfErr, OnOk, IsTrue, is_some}
use Rattle.std.proofs.lemmas.Bool.{both_ways}
use Rattle.ri_ends.specs.Causes.{Rose}
use Rattle.command_pieces.specs.CommandFaults.{IsDamage}
use Rattle.command_pieces.specs.Lines.{WritesLine}
use Rattle.command_pieces.specs.Pieces.{Writes}
use Rattle.command_pieces.specs.declared.command_fault.CommandFault.{CommandFault}
use Rattle.command_pieces.specs.declared.command_fault.CommandFault.TheVariants as fault
use Rattle.collection_commands.proofs.CauseLemmas.{as-causes, damage_causes, of-both, of-more}
use Rattle.indri_app.specs.Changes.{IsFoundFirst, IsOverFault, first_causes}
use Rattle.indri_app.specs.LastLines.{EndsWith, IsClosed, absent_line, exists_line, last_line, malformed_line, missing_line, status_of}
use Rattle.indri_app.specs.Opened.{IsAbsentFault, IsWant, absent_causes, want_causes}
use Rattle.indri_app.specs.Runs.{HasDone, IsAbsentStatus, IsAllDone, IsEnded, IsUntouched, WritesDamage}
use Rattle.indri_app.specs.declared.status.Status.{Status}
use Rattle.indri_app.specs.declared.status.Status.TheVariants as status

-- ---- the count of an end rose, and it never falls

pub rose-later : (a b z : ℕ) → Rose a b → b ≤ z → Rose a z
rose-later a b z r h = omega (arith, r, h)

pub rose-earlier : (a b z : ℕ) → a ≤ b → Rose b z → Rose a z
rose-earlier a b z h r = omega (arith, h, r)

-- the line is the first that is written
pub line-first : (line : List ℕ) (start mid now : Option (List ℕ)) (a b z : ℕ) → mid ≡ start → a ≤ b → WritesLine mid now line b z → WritesLine start now line a z
line-first line start mid now a b z e h l = record {
  front = l.front;
  written = subst (λ t. Writes t now (take l.front line)) e l.written;
  whole = λ short. rose-earlier a b z h (l.whole short);
}

-- ---- why a command is broken off, and the status of its run

ends-status : (line : Option (List ℕ)) (t s : Status) (mid now : Option (List ℕ)) (b z : ℕ) → EndsWith line t s mid now b z → (s ≡ t) ⊎ (s ≡ status.Memory)
ends-status None t s mid now b z ends = inl ends.0
ends-status (Some line) t s mid now b z ends = elim ends [ inl h ↦ inl h.0 | inr h ↦ inr h.0 ]

pub closed-status : (why : CommandFault) (s : Status) (mid now : Option (List ℕ)) (b z : ℕ) → IsClosed why s mid now b z → (s ≡ status_of why) ⊎ (s ≡ status.Memory)
closed-status why s mid now b z ends = ends-status (last_line why) (status_of why) s mid now b z ends

-- the fault of a status, where it is that of one alone
abbrev fault_by : Status → Option CommandFault
fault_by status.ReadFault = Some fault.Read
fault_by status.WriteFault = Some fault.Write
fault_by status.StoreFault = Some fault.Store
fault_by status.NoRepository = Some fault.NoRepository
fault_by status.Exists = Some fault.Exists
fault_by s = None

only-fault : (why f : CommandFault) → fault_by (status_of why) ≡ Some f → why ≡ f
only-fault fault.Read f e = cc
only-fault fault.Write f e = cc
only-fault fault.Store f e = cc
only-fault (fault.Malformed file part place) f e = cc
only-fault (fault.Missing file) f e = cc
only-fault fault.NoRepository f e = cc
only-fault fault.Exists f e = cc
only-fault fault.Memory f e = cc

-- a run with such a status was broken off by its fault
module _ (f : CommandFault) (t : Status) (is : fault_by t ≡ Some f) where
  closed-by : (why : CommandFault) (s : Status) (mid now : Option (List ℕ)) (b z : ℕ) → IsClosed why s mid now b z → s ≡ t → why ≡ f
  closed-by why s mid now b z ends e = elim (closed-status why s mid now b z ends) [
    | inl w ↦ only-fault why f (ap fault_by (sym w ∙ e) ∙ is)
    | inr m ↦ let x : None ≡ Some f = ap fault_by (sym m ∙ e) ∙ is in absurd cc
  ]

  ended-by : (answer : Result Bool CommandFault) (s : Status) (mid now : Option (List ℕ)) (b z : ℕ) → IsEnded answer s mid now b z → s ≡ t → answer ≡ Err f
  ended-by (Ok false) s mid now b z (w, same) e = let x : None ≡ Some f = ap fault_by (sym w ∙ e) ∙ is in absurd cc
  ended-by (Ok true) s mid now b z (w, same) e = let x : None ≡ Some f = ap fault_by (sym w ∙ e) ∙ is in absurd cc
  ended-by (Err why) s mid now b z ends e = ap Err (closed-by why s mid now b z ends e)

pub read-closed : (why : CommandFault) (s : Status) (mid now : Option (List ℕ)) (b z : ℕ) → IsClosed why s mid now b z → s ≡ status.ReadFault → why ≡ fault.Read
read-closed = closed-by fault.Read status.ReadFault refl

pub read-ended : (answer : Result Bool CommandFault) (s : Status) (mid now : Option (List ℕ)) (b z : ℕ) → IsEnded answer s mid now b z → s ≡ status.ReadFault → answer ≡ Err fault.Read
read-ended = ended-by fault.Read status.ReadFault refl

pub write-closed : (why : CommandFault) (s : Status) (mid now : Option (List ℕ)) (b z : ℕ) → IsClosed why s mid now b z → s ≡ status.WriteFault → why ≡ fault.Write
write-closed = closed-by fault.Write status.WriteFault refl

pub write-ended : (answer : Result Bool CommandFault) (s : Status) (mid now : Option (List ℕ)) (b z : ℕ) → IsEnded answer s mid now b z → s ≡ status.WriteFault → answer ≡ Err fault.Write
write-ended = ended-by fault.Write status.WriteFault refl

pub store-closed : (why : CommandFault) (s : Status) (mid now : Option (List ℕ)) (b z : ℕ) → IsClosed why s mid now b z → s ≡ status.StoreFault → why ≡ fault.Store
store-closed = closed-by fault.Store status.StoreFault refl

pub store-ended : (answer : Result Bool CommandFault) (s : Status) (mid now : Option (List ℕ)) (b z : ℕ) → IsEnded answer s mid now b z → s ≡ status.StoreFault → answer ≡ Err fault.Store
store-ended = ended-by fault.Store status.StoreFault refl

pub absent-closed : (why : CommandFault) (s : Status) (mid now : Option (List ℕ)) (b z : ℕ) → IsClosed why s mid now b z → s ≡ status.NoRepository → why ≡ fault.NoRepository
absent-closed = closed-by fault.NoRepository status.NoRepository refl

pub absent-ended : (answer : Result Bool CommandFault) (s : Status) (mid now : Option (List ℕ)) (b z : ℕ) → IsEnded answer s mid now b z → s ≡ status.NoRepository → answer ≡ Err fault.NoRepository
absent-ended = ended-by fault.NoRepository status.NoRepository refl

pub exists-closed : (why : CommandFault) (s : Status) (mid now : Option (List ℕ)) (b z : ℕ) → IsClosed why s mid now b z → s ≡ status.Exists → why ≡ fault.Exists
exists-closed = closed-by fault.Exists status.Exists refl

pub exists-ended : (answer : Result Bool CommandFault) (s : Status) (mid now : Option (List ℕ)) (b z : ℕ) → IsEnded answer s mid now b z → s ≡ status.Exists → answer ≡ Err fault.Exists
exists-ended = ended-by fault.Exists status.Exists refl

-- whether a fault may have it
abbrev is_of_fault : Status → Bool
is_of_fault status.Done = false
is_of_fault status.Usage = false
is_of_fault status.QueryRefused = false
is_of_fault status.SomeRefused = false
is_of_fault s = true

of-fault : (why : CommandFault) → is_of_fault (status_of why) ≡ true
of-fault fault.Read = refl
of-fault fault.Write = refl
of-fault fault.Store = refl
of-fault (fault.Malformed file part place) = refl
of-fault (fault.Missing file) = refl
of-fault fault.NoRepository = refl
of-fault fault.Exists = refl
of-fault fault.Memory = refl

-- no run that is broken off has such a status
not_closed : (t : Status) → is_of_fault t ≡ false → (why : CommandFault) (s : Status) (mid now : Option (List ℕ)) (b z : ℕ) → IsClosed why s mid now b z → s ≡ t → ⊥
not_closed t none why s mid now b z ends e = elim (closed-status why s mid now b z ends) [
  | inl w ↦ both_ways true (sym (of-fault why) ∙ ap is_of_fault (sym w ∙ e) ∙ none) refl
  | inr m ↦ both_ways true (ap is_of_fault (sym m ∙ e) ∙ none) refl
]

pub usage-not_closed : (why : CommandFault) (s : Status) (mid now : Option (List ℕ)) (b z : ℕ) → IsClosed why s mid now b z → s ≡ status.Usage → ⊥
usage-not_closed = not_closed status.Usage refl

pub done-not_closed : (why : CommandFault) (s : Status) (mid now : Option (List ℕ)) (b z : ℕ) → IsClosed why s mid now b z → s ≡ status.Done → ⊥
done-not_closed = not_closed status.Done refl

pub some-not_closed : (why : CommandFault) (s : Status) (mid now : Option (List ℕ)) (b z : ℕ) → IsClosed why s mid now b z → s ≡ status.SomeRefused → ⊥
some-not_closed = not_closed status.SomeRefused refl

pub refused-not_closed : (why : CommandFault) (s : Status) (mid now : Option (List ℕ)) (b z : ℕ) → IsClosed why s mid now b z → s ≡ status.QueryRefused → ⊥
refused-not_closed = not_closed status.QueryRefused refl

pub usage-not_ended : (answer : Result Bool CommandFault) (s : Status) (mid now : Option (List ℕ)) (b z : ℕ) → IsEnded answer s mid now b z → s ≡ status.Usage → ⊥
usage-not_ended (Ok false) s mid now b z (w, same) e = absurd cc
usage-not_ended (Ok true) s mid now b z (w, same) e = absurd cc
usage-not_ended (Err why) s mid now b z ends e = usage-not_closed why s mid now b z ends e

pub refused-not_ended : (answer : Result Bool CommandFault) (s : Status) (mid now : Option (List ℕ)) (b z : ℕ) → IsEnded answer s mid now b z → s ≡ status.QueryRefused → ⊥
refused-not_ended (Ok false) s mid now b z (w, same) e = absurd cc
refused-not_ended (Ok true) s mid now b z (w, same) e = absurd cc
refused-not_ended (Err why) s mid now b z ends e = refused-not_closed why s mid now b z ends e

pub all-not_closed : (why : CommandFault) (s : Status) (mid now : Option (List ℕ)) (b z : ℕ) → IsClosed why s mid now b z → IsAllDone s → ⊥
all-not_closed why s mid now b z ends all = elim all [
  | inl e ↦ done-not_closed why s mid now b z ends e
  | inr e ↦ some-not_closed why s mid now b z ends e
]

pub done-not_closed-any : (why : CommandFault) (s : Status) (mid now : Option (List ℕ)) (b z : ℕ) → IsClosed why s mid now b z → HasDone s → ⊥
done-not_closed-any why s mid now b z ends has = elim has [
  | inl e ↦ not_closed status.Done refl why s mid now b z ends e
  | inr other ↦ elim other [ inl e ↦ not_closed status.SomeRefused refl why s mid now b z ends e | inr e ↦ refused-not_closed why s mid now b z ends e ]
]

-- what holds where the command answered that it was done
pub done-ended : (P : Type 0) (answer : Result Bool CommandFault) (s : Status) (mid now : Option (List ℕ)) (b z : ℕ) → OnOk answer P → IsEnded answer s mid now b z → HasDone s → P
done-ended P (Ok refused) s mid now b z p ends has = p
done-ended P (Err why) s mid now b z p ends has = absurd (done-not_closed-any why s mid now b z ends has)

-- ---- damage

malformed-of : (why : CommandFault) → status.Malformed ≡ status_of why → IsDamage why
malformed-of fault.Read e = absurd cc
malformed-of fault.Write e = absurd cc
malformed-of fault.Store e = absurd cc
malformed-of (fault.Malformed f p place) e = tt
malformed-of (fault.Missing f) e = tt
malformed-of fault.NoRepository e = absurd cc
malformed-of fault.Exists e = absurd cc
malformed-of fault.Memory e = absurd cc

pub malformed-closed : (why : CommandFault) (s : Status) (mid now : Option (List ℕ)) (b z : ℕ) → IsClosed why s mid now b z → s ≡ status.Malformed → IsDamage why
malformed-closed why s mid now b z ends e = elim (closed-status why s mid now b z ends) [ inl w ↦ malformed-of why (sym e ∙ w) | inr m ↦ absurd cc ]

pub damage-closed : (why : CommandFault) (s : Status) (mid now : Option (List ℕ)) (b z : ℕ) → IsClosed why s mid now b z → s ≡ status.Malformed → WritesDamage mid now b z
damage-closed fault.Read s mid now b z ends e = absurd (malformed-closed fault.Read s mid now b z ends e)
damage-closed fault.Write s mid now b z ends e = absurd (malformed-closed fault.Write s mid now b z ends e)
damage-closed fault.Store s mid now b z ends e = absurd (malformed-closed fault.Store s mid now b z ends e)
damage-closed (fault.Malformed f p place) s mid now b z ends e = elim ends [ inl (w, l) ↦ (fault.Malformed f p place, tt, (malformed_line f p place, refl, l)) | inr (w, same) ↦ absurd cc ]
damage-closed (fault.Missing f) s mid now b z ends e = elim ends [ inl (w, l) ↦ (fault.Missing f, tt, (missing_line f, refl, l)) | inr (w, same) ↦ absurd cc ]
damage-closed fault.NoRepository s mid now b z ends e = absurd (malformed-closed fault.NoRepository s mid now b z ends e)
damage-closed fault.Exists s mid now b z ends e = absurd (malformed-closed fault.Exists s mid now b z ends e)
damage-closed fault.Memory s mid now b z ends e = absurd (malformed-closed fault.Memory s mid now b z ends e)

pub damage-first : (start mid now : Option (List ℕ)) (a b z : ℕ) → mid ≡ start → a ≤ b → WritesDamage mid now b z → WritesDamage start now a z
damage-first start mid now a b z e h (why, damage, (line, is, l)) = (why, damage, (line, is, line-first line start mid now a b z e h l))

-- the fault is one that is found first
first-damage : (why : CommandFault) → IsDamage why → IsFoundFirst why
first-damage why d = of-more damage_causes first_causes refl why ((as-causes why).damage d)

pub first-ended : (Q : Type 0) (answer : Result Bool CommandFault) (s : Status) (mid now : Option (List ℕ)) (b z : ℕ) → IfErr answer (λ why. IsFoundFirst why → Q) → IsEnded answer s mid now b z → s ≡ status.Malformed → Q
first-ended Q (Ok false) s mid now b z q (w, same) e = absurd cc
first-ended Q (Ok true) s mid now b z q (w, same) e = absurd cc
first-ended Q (Err why) s mid now b z q ends e = q (first-damage why (malformed-closed why s mid now b z ends e))

pub damage-ended : (answer : Result Bool CommandFault) (s : Status) (mid now : Option (List ℕ)) (b z : ℕ) → IsEnded answer s mid now b z → s ≡ status.Malformed → WritesDamage mid now b z
damage-ended (Ok false) s mid now b z (w, same) e = absurd cc
damage-ended (Ok true) s mid now b z (w, same) e = absurd cc
damage-ended (Err why) s mid now b z ends e = damage-closed why s mid now b z ends e

-- ---- the manifest

damage-not_absent : (why : CommandFault) → IsDamage why → IsAbsentFault why → ⊥
damage-not_absent why d absent = of-both damage_causes absent_causes [] refl why ((as-causes why).damage d) absent

pub damage-not_want : (why : CommandFault) → IsDamage why → IsWant why → ⊥
damage-not_want why d want = of-both damage_causes want_causes [] refl why ((as-causes why).damage d) want

-- damage is told only where there is a manifest
pub there-ended : (found : Option (List ℕ)) (answer : Result Bool CommandFault) (s : Status) (mid now : Option (List ℕ)) (b z : ℕ) → (found ≡ None → OnOk answer ⊥ × IfErr answer IsAbsentFault) → IsEnded answer s mid now b z → s ≡ status.Malformed
    → IsTrue (is_some found)
there-ended (Some bytes) answer s mid now b z without ends e = refl
there-ended None (Ok false) s mid now b z without (w, same) e = absurd cc
there-ended None (Ok true) s mid now b z without (w, same) e = absurd cc
there-ended None (Err why) s mid now b z without ends e = absurd (damage-not_absent why (malformed-closed why s mid now b z ends e) (without refl).1)

pub absent-closed-status : (why : CommandFault) (s : Status) (mid now : Option (List ℕ)) (b z : ℕ) → IsAbsentFault why → IsClosed why s mid now b z → IsAbsentStatus s
absent-closed-status fault.Read s mid now b z absent ends = absurd absent
absent-closed-status fault.Write s mid now b z absent ends = absurd absent
absent-closed-status fault.Store s mid now b z absent ends = elim ends [ inl h ↦ inr (inl h.0) | inr h ↦ inr (inr h.0) ]
absent-closed-status (fault.Malformed f p place) s mid now b z absent ends = absurd absent
absent-closed-status (fault.Missing f) s mid now b z absent ends = absurd absent
absent-closed-status fault.NoRepository s mid now b z absent ends = elim ends [ inl h ↦ inl h.0 | inr h ↦ inr (inr h.0) ]
absent-closed-status fault.Exists s mid now b z absent ends = absurd absent
absent-closed-status fault.Memory s mid now b z absent ends = inr (inr ends.0)

-- how it ends where there is none
pub without-ended : (answer : Result Bool CommandFault) (s : Status) (mid now : Option (List ℕ)) (b z : ℕ) → OnOk answer ⊥ × IfErr answer IsAbsentFault → IsEnded answer s mid now b z → IsAbsentStatus s
without-ended (Ok refused) s mid now b z without ends = absurd without.0
without-ended (Err why) s mid now b z without ends = absent-closed-status why s mid now b z without.1 ends

line-closed : (line : List ℕ) (t s : Status) (mid now : Option (List ℕ)) (b z : ℕ) → EndsWith (Some line) t s mid now b z → (s ≡ status.Memory → ⊥) → WritesLine mid now line b z
line-closed line t s mid now b z ends other = elim ends [ inl h ↦ h.1 | inr h ↦ absurd (other h.0) ]

pub absent-line-closed : (why : CommandFault) (s : Status) (mid now : Option (List ℕ)) (b z : ℕ) → IsClosed why s mid now b z → s ≡ status.NoRepository → WritesLine mid now absent_line b z
absent-line-closed why s mid now b z ends e =
    line-closed absent_line status.NoRepository s mid now b z (subst (λ (w : CommandFault). IsClosed w s mid now b z) (absent-closed why s mid now b z ends e) ends) (λ (m : s ≡ status.Memory). cc)

pub absent-line-ended : (answer : Result Bool CommandFault) (s : Status) (mid now : Option (List ℕ)) (b z : ℕ) → IsEnded answer s mid now b z → s ≡ status.NoRepository → WritesLine mid now absent_line b z
absent-line-ended (Ok false) s mid now b z (w, same) e = absurd cc
absent-line-ended (Ok true) s mid now b z (w, same) e = absurd cc
absent-line-ended (Err why) s mid now b z ends e = absent-line-closed why s mid now b z ends e

pub exists-line-closed : (why : CommandFault) (s : Status) (mid now : Option (List ℕ)) (b z : ℕ) → IsClosed why s mid now b z → s ≡ status.Exists → WritesLine mid now exists_line b z
exists-line-closed why s mid now b z ends e =
    line-closed exists_line status.Exists s mid now b z (subst (λ (w : CommandFault). IsClosed w s mid now b z) (exists-closed why s mid now b z ends e) ends) (λ (m : s ≡ status.Memory). cc)

-- a command that works on a repository isn't broken off because there is one
pub exists-not_ended : (answer : Result Bool CommandFault) (s : Status) (mid now : Option (List ℕ)) (b z : ℕ) → IfErr answer IsOverFault → IsEnded answer s mid now b z → s ≡ status.Exists → ⊥
exists-not_ended answer s mid now b z only ends e = subst (λ (r : Result Bool CommandFault). IfErr r IsOverFault) (exists-ended answer s mid now b z ends e) only

-- there was no manifest, and that was found first
pub absent-first : (Q : Type 0) (answer : Result Bool CommandFault) → IfErr answer (λ why. IsFoundFirst why → Q) → answer ≡ Err fault.NoRepository → Q
absent-first Q answer q e = subst (λ (r : Result Bool CommandFault). IfErr r (λ why. IsFoundFirst why → Q)) e q tt

-- a run that needs a manifest is untouched
pub untouched-ended : (Q : Type 0) (answer : Result Bool CommandFault) (s : Status) (mid now : Option (List ℕ)) (b z : ℕ) → IfErr answer (λ why. IsFoundFirst why → Q) → IfErr answer IsOverFault → IsEnded answer s mid now b z → IsUntouched s → Q
untouched-ended Q answer s mid now b z q only ends un = elim un [
  | inl e ↦ absurd (usage-not_ended answer s mid now b z ends e)
  | inr more ↦ elim more [
    | inl e ↦ absurd (refused-not_ended answer s mid now b z ends e)
    | inr last ↦ elim last [
      | inl e ↦ absent-first Q answer q (absent-ended answer s mid now b z ends e)
      | inr e ↦ absurd (exists-not_ended answer s mid now b z only ends e)
    ]
  ]
]
