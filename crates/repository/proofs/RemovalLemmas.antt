-- Where the files of numbers are removed.
use Rattle.std.proofs.Common.{◌≡◌, ◌<◌, ◌+◌, ◌^◌, ℕ, zero, suc, Bool, true, false, List, [], ◌∷◌, get_or, take, length, Option, Some, None, refl, sym, ap, subst, ◌∙◌, arith}
use Rattle.std.specs.List.{All}
use Rattle.std.specs.Option.{option_map}
use Rattle.std.specs.Prelude.{bytes_eq, if◌then◌else◌}
use Rattle.std.proofs.lemmas.List.Elements.{All-more, All-weaker}
use Rattle.store_ends.specs.Files.{Files, Leaves, OldOrNew, SameWhere, whole, with_file}
use Rattle.store_ends.proofs.Files.{Leaves-then, SameWhere-fewer, SameWhere-step, SameWhere-then, with_file-other, with_file-same}
use Rattle.disk_index.specs.Names.{segment_name}
use Rattle.repository.specs.Names.{manifest_name, prior_name}
use Rattle.repository.specs.Numbers.{is_among}
use Rattle.repository.specs.Writes.{AreGone, IsGone, IsOther}
use Rattle.repository.proofs.NameLemmas.{prior_name-manifest, segment_name-manifest, segment_name-prior}
use Rattle.repository.proofs.NumberLemmas.{among-own, among-right}

-- the number whose files may change
abbrev pub IsThat : ℕ → ℕ → Type 0
IsThat number n = n ≡ number

pub own-segment : (number : ℕ) (name : List ℕ) → number < 2 ^ 64 → name ≡ segment_name number → IsOther (IsThat number) name → ⊥
own-segment number name small is other = (other number small refl).0 is

pub own-prior : (number : ℕ) (name : List ℕ) → number < 2 ^ 64 → name ≡ prior_name number → IsOther (IsThat number) name → ⊥
own-prior number name small is other = (other number small refl).1 is

-- a file of its own is removed

pub file-removed : (number : ℕ) (name : List ℕ) (a b c : Option Files) → (IsOther (IsThat number) name → ⊥) → SameWhere (IsOther (IsThat number)) a b → OldOrNew name None b c → SameWhere (IsOther (IsThat number)) a c
file-removed number name a b c own same step = SameWhere-step (IsOther (IsThat number)) name None a b c own same step

pub file-stops : (number : ℕ) (name : List ℕ) (past mid since : ℕ → Files → Type 0) (a b : Option Files) → (IsOther (IsThat number) name → ⊥) → SameWhere (IsOther (IsThat number)) a b → Leaves past mid (SameWhere (IsOther (IsThat number)) a)
    → Leaves mid since (OldOrNew name None b) → Leaves past since (SameWhere (IsOther (IsThat number)) a)
file-stops number name past mid since a b own same first second =
    Leaves-then past mid since (SameWhere (IsOther (IsThat number)) a) (OldOrNew name None b) first second (λ f step. file-removed number name a b f own same step)

-- ---- one of several numbers

abbrev pub IsAmong : List ℕ → ℕ → Type 0
IsAmong ns n = is_among n ns ≡ true

pub among-at : (ns : List ℕ) (i d : ℕ) → i < length ns → is_among (get_or ns i d) ns ≡ true
among-at [] i d within = absurd (omega (arith, within))
among-at (n ∷ ns) zero d within = among-own n ns
among-at (n ∷ ns) (suc i) d within = among-right (get_or ns i d) n ns (among-at ns i d (omega (arith, within)))

one-removed : (ns : List ℕ) (i : ℕ) (a b : Option Files) → i < length ns → SameWhere (IsOther (IsThat (get_or ns i 0))) a b → SameWhere (IsOther (IsAmong ns)) a b
one-removed ns i a b within same =
    SameWhere-fewer (IsOther (IsThat (get_or ns i 0))) (IsOther (IsAmong ns)) a b (λ name other n fits e. other n fits (ap (λ (m : ℕ). is_among m ns) e ∙ among-at ns i 0 within)) same

pub more-removed : (ns : List ℕ) (i : ℕ) (a b c : Option Files) → i < length ns → SameWhere (IsOther (IsAmong ns)) a b → SameWhere (IsOther (IsThat (get_or ns i 0))) b c → SameWhere (IsOther (IsAmong ns)) a c
more-removed ns i a b c within first second = SameWhere-then (IsOther (IsAmong ns)) a b c first (one-removed ns i b c within second)

pub more-stops : (ns : List ℕ) (i : ℕ) (past mid since : ℕ → Files → Type 0) (a b : Option Files) → i < length ns → SameWhere (IsOther (IsAmong ns)) a b → Leaves past mid (SameWhere (IsOther (IsAmong ns)) a)
    → Leaves mid since (SameWhere (IsOther (IsThat (get_or ns i 0))) b) → Leaves past since (SameWhere (IsOther (IsAmong ns)) a)
more-stops ns i past mid since a b within same first second =
    Leaves-then past mid since (SameWhere (IsOther (IsAmong ns)) a) (SameWhere (IsOther (IsThat (get_or ns i 0))) b) first second (λ f now. more-removed ns i a b f within same now)

-- ---- gone

none-there : (name other : List ℕ) (f : Files) (b : Bool) → f other ≡ whole None → (if b then whole None else f other) ≡ whole None
none-there name other f true gone = refl
none-there name other f false gone = gone

pub gone-still : (name : List ℕ) (n : ℕ) (b c : Option Files) → c ≡ option_map (with_file name None) b → IsGone n b → IsGone n c
gone-still name n None c e gone = subst (IsGone n) (sym e) tt
gone-still name n (Some f) c e gone =
    subst (IsGone n) (sym e) (none-there name (segment_name n) f (bytes_eq (segment_name n) name) gone.0, none-there name (prior_name n) f (bytes_eq (prior_name n) name) gone.1)

pub gone-both : (n : ℕ) (segment prior : List ℕ) (a b c : Option Files) → segment ≡ segment_name n → prior ≡ prior_name n → b ≡ option_map (with_file segment None) a → c ≡ option_map (with_file prior None) b → IsGone n c
gone-both n segment prior None b c one other first second = subst (IsGone n) (sym (second ∙ ap (option_map (with_file prior None)) first)) tt
gone-both n segment prior (Some f) b c one other first second =
    let g = with_file (segment_name n) None f in
    let left : c ≡ Some (with_file (prior_name n) None g) = second ∙ ap (option_map (with_file prior None)) first ∙ ap (λ (l : List ℕ). Some (with_file l None (with_file segment None f))) other ∙ ap (λ (l : List ℕ). Some (with_file (prior_name n) None (with_file l None f))) one in
    subst (IsGone n) (sym left)
    (with_file-other (prior_name n) (segment_name n) None g (λ e. segment_name-prior n n e) ∙ with_file-same (segment_name n) None f, with_file-same (prior_name n) None g)

-- one number more
pub gone-more : (ns : List ℕ) (i : ℕ) (b c : Option Files) → i < length ns → ((n : ℕ) → IsGone n b → IsGone n c) → IsGone (get_or ns i 0) c → AreGone (take i ns) b → AreGone (take (i + 1) ns) c
gone-more ns i b c within still here gone = All-more (λ n. IsGone n c) ns i 0 within (All-weaker (λ n. IsGone n b) (λ n. IsGone n c) still (take i ns) gone) here

-- the manifest is no file of a number
pub gone-listed : (ns bytes : List ℕ) (b c : Option Files) → c ≡ option_map (with_file manifest_name (Some bytes)) b → AreGone ns b → AreGone ns c
gone-listed ns bytes b c put gone = All-weaker (λ n. IsGone n b) (λ n. IsGone n c) (λ n. one n b put) ns gone
  where
    one : (n : ℕ) (x : Option Files) → c ≡ option_map (with_file manifest_name (Some bytes)) x → IsGone n x → IsGone n c
    one n None e g = subst (IsGone n) (sym e) tt
    one n (Some f) e g =
        subst (IsGone n) (sym e)
        (with_file-other manifest_name (segment_name n) (Some bytes) f (λ m. segment_name-manifest n (sym m)) ∙ g.0, with_file-other manifest_name (prior_name n) (Some bytes) f (λ m. prior_name-manifest n (sym m)) ∙ g.1)

-- nor are those of other numbers
pub gone-same : (P : List ℕ → Type 0) (ns : List ℕ) (a b : Option Files) → SameWhere P a b → All (λ n. P (segment_name n) × P (prior_name n)) ns → AreGone ns a → AreGone ns b
gone-same P ns a b same names gone = λ k d within. by (get_or ns k d) a b same (names k d within) (gone k d within)
  where
    by : (n : ℕ) (x y : Option Files) → SameWhere P x y → P (segment_name n) × P (prior_name n) → IsGone n x → IsGone n y
    by n None None s p g = tt
    by n None (Some h) s p g = absurd s
    by n (Some f) None s p g = absurd s
    by n (Some f) (Some h) s p g = (s (segment_name n) p.0 ∙ g.0, s (prior_name n) p.1 ∙ g.1)
