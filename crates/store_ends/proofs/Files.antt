-- Files of which one is changed, and what a stop leaves over several calls.
use Rattle.std.proofs.Common.{◌≡◌, ◌⊎◌, inl, inr, ℕ, ◌≤◌, List, refl, sym, ap, subst, ◌∙◌, Bool, true, false, Option, Some, None}
use Rattle.std.specs.Prelude.{bytes_eq, if◌then◌else◌}
use Rattle.std.specs.Option.{option_map}
use Rattle.std.proofs.Math.Path.{fun_ext}
use Rattle.std.proofs.lemmas.Bool.{false_from_ne_true}
use Rattle.std.proofs.lemmas.Slice.Eq.{bytes_eq-Decides}
use Rattle.store_ends.specs.Files.{AnyState, File, Files, Leaves, LeavesNoMore, OldOrNew, SameWhere, set_file, whole, with_file}

-- a file under another name is as it was
pub set_file-other : (name other : List ℕ) (file : File) (f : Files) → (other ≡ name → ⊥) → set_file name file f other ≡ f other
set_file-other name other file f ne =
    let e : bytes_eq other name ≡ false = false_from_ne_true (bytes_eq other name) (λ eq. ne ((bytes_eq-Decides other name).0 eq)) in
    rw e refl

pub with_file-other : (name other : List ℕ) (state : Option (List ℕ)) (f : Files) → (other ≡ name → ⊥) → with_file name state f other ≡ f other
with_file-other name other state f ne = set_file-other name other (whole state) f ne

pub with_file-same : (name : List ℕ) (state : Option (List ℕ)) (f : Files) → with_file name state f name ≡ whole state
with_file-same name state f =
    let e : bytes_eq name name ≡ true = (bytes_eq-Decides name name).1 refl in
    rw e refl

-- No call leaves anything new.
pub Leaves-same : (past : ℕ → Files → Type 0) (P : Option Files → Type 0) → Leaves past past P
Leaves-same past P = record { each = λ t f s. inl s }

-- One call after others: what it may leave is among what they all may leave.
pub Leaves-then : (past mid since : ℕ → Files → Type 0) (P Q : Option Files → Type 0) → Leaves past mid P → Leaves mid since Q → ((f : Option Files) → Q f → P f) → Leaves past since P
Leaves-then past mid since P Q first second into = record { each = λ t f s. elim (second.each t f s) [ inl m ↦ first.each t f m | inr q ↦ inr (into (Some f) q) ] }

-- A reading call after others leaves nothing new.
pub Leaves-none : (past mid since : ℕ → Files → Type 0) (P : Option Files → Type 0) → Leaves past mid P → LeavesNoMore mid since → Leaves past since P
Leaves-none past mid since P first second = record { each = λ t f s. first.each t f (second t f s) }

own : (name other : List ℕ) (f : Files) (b : Bool) → bytes_eq other name ≡ b → (if b then f name else f other) ≡ f other
own name other f true e = ap f (sym ((bytes_eq-Decides other name).0 e))
own name other f false e = refl

-- Files are the same where one of them is put into the state that it has.
pub set_file-own : (name : List ℕ) (f : Files) → set_file name (f name) f ≡ f
set_file-own name f = fun_ext (λ other. own name other f (bytes_eq other name) refl)

-- What a stop leaves holds of the files as they are too, which are the old ones or some of which P holds.
pub Leaves-now : {S : Type 0} (files : S → Option Files) (clock : S → ℕ) (since : S → ℕ → Files → Type 0) (old new : S) (P : Option Files → Type 0) (f : Files)
    → ((t : ℕ) (g : Files) → t ≤ clock new → files new ≡ Some g → since new t g) → ((g : Files) → since old (clock old) g → files old ≡ Some g)
    → clock old ≤ clock new → Leaves (since old) (since new) P → files new ≡ Some f → (files old ≡ Some f) ⊎ P (Some f)
Leaves-now files clock since old new P f honest still later leaves now =
    elim (leaves.each (clock old) f (honest (clock old) f later now)) [ inl before ↦ inl (still f before) | inr p ↦ inr p ]

-- A stop at a moment since the call began leaves the old files or some of which P holds.
pub Leaves-entry : {S : Type 0} (files : S → Option Files) (clock : S → ℕ) (since : S → ℕ → Files → Type 0) (old new : S) (P : Option Files → Type 0) (f : Files)
    → ((g : Files) → since old (clock old) g → files old ≡ Some g) → Leaves (since old) (since new) P → since new (clock old) f → (files old ≡ Some f) ⊎ P (Some f)
Leaves-entry files clock since old new P f still leaves left = elim (leaves.each (clock old) f left) [ inl before ↦ inl (still f before) | inr p ↦ inr p ]

-- ---- files that stay the same

pub SameWhere-same : (P : List ℕ → Type 0) (a : Option Files) → SameWhere P a a
SameWhere-same P None = tt
SameWhere-same P (Some f) = λ name p. refl

pub SameWhere-equal : (P : List ℕ → Type 0) (a b : Option Files) → b ≡ a → SameWhere P a b
SameWhere-equal P a b e = subst (SameWhere P a) (sym e) (SameWhere-same P a)

pub SameWhere-then : (P : List ℕ → Type 0) (a b c : Option Files) → SameWhere P a b → SameWhere P b c → SameWhere P a c
SameWhere-then P None None None ab bc = tt
SameWhere-then P None None (Some h) ab bc = bc
SameWhere-then P None (Some g) c ab bc = absurd ab
SameWhere-then P (Some f) None c ab bc = absurd ab
SameWhere-then P (Some f) (Some g) None ab bc = absurd bc
SameWhere-then P (Some f) (Some g) (Some h) ab bc = λ name p. bc name p ∙ ab name p

-- so it is where fewer names are looked at
pub SameWhere-fewer : (P Q : List ℕ → Type 0) (a b : Option Files) → ((name : List ℕ) → Q name → P name) → SameWhere P a b → SameWhere Q a b
SameWhere-fewer P Q None None into same = tt
SameWhere-fewer P Q None (Some g) into same = same
SameWhere-fewer P Q (Some f) None into same = same
SameWhere-fewer P Q (Some f) (Some g) into same = λ name q. same name (into name q)

-- where one file changes of whose name P doesn't hold
pub SameWhere-changed : (P : List ℕ → Type 0) (name : List ℕ) (file : File) (a b c : Option Files) → (P name → ⊥) → SameWhere P a b → c ≡ option_map (set_file name file) b → SameWhere P a c
SameWhere-changed P name file None None c not ab e = subst (SameWhere P None) (sym e) tt
SameWhere-changed P name file None (Some g) c not ab e = absurd ab
SameWhere-changed P name file (Some f) None c not ab e = absurd ab
SameWhere-changed P name file (Some f) (Some g) c not ab e =
    subst (SameWhere P (Some f)) (sym e) (λ other p. set_file-other name other file g (λ eq. not (subst P eq p)) ∙ ab other p)

pub SameWhere-any : (P : List ℕ → Type 0) (name : List ℕ) (a b c : Option Files) → (P name → ⊥) → SameWhere P a b → AnyState name b c → SameWhere P a c
SameWhere-any P name a b c not ab any = SameWhere-changed P name any.0 a b c not ab any.1

pub SameWhere-step : (P : List ℕ → Type 0) (name : List ℕ) (state : Option (List ℕ)) (a b c : Option Files) → (P name → ⊥) → SameWhere P a b → OldOrNew name state b c → SameWhere P a c
SameWhere-step P name state a b c not ab step = elim step [
  | inl old ↦ subst (SameWhere P a) (sym old) ab
  | inr new ↦ SameWhere-changed P name (whole state) a b c not ab new
]

-- The file under a name of which P holds.
pub SameWhere-at : (P : List ℕ → Type 0) (a b : Option Files) (f g : Files) (name : List ℕ) → SameWhere P a b → a ≡ Some f → b ≡ Some g → P name → g name ≡ f name
SameWhere-at P a b f g name same ea eb p =
    let s : SameWhere P (Some f) (Some g) = subst (λ (x : Option Files). SameWhere P x (Some g)) ea (subst (λ (x : Option Files). SameWhere P a x) eb same) in
    s name p

-- Where files were told they are told.
pub SameWhere-told : (P : List ℕ → Type 0) (a b : Option Files) (f : Files) → SameWhere P a b → a ≡ Some f → (g : Files) × (b ≡ Some g)
SameWhere-told P None b f same is = absurd cc
SameWhere-told P (Some h) None f same is = absurd same
SameWhere-told P (Some h) (Some g) f same is = (g, refl)
