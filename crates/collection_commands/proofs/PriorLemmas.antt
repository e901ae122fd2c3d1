-- The prior of a name and its rows, over the collection that a repository reads as.
use Rattle.std.proofs.Common.{◌≡◌, inl, inr, ℕ, suc, Bool, true, false, ◌||◌, List, [], ◌∷◌, Option, None, Some, Result, Ok, Err, length, map, refl, sym, ap, subst, ◌∙◌, arith}
use Rattle.std.specs.Prelude.{◌&&◌, ◌==◌, filter, is_some, not, nat_le, IfOk, IfErr, OnOk, IfSome, IsSome}
use Rattle.std.specs.List.{AllZip, list_any}
use Rattle.std.specs.List.Sorted.{IsPermutation}
use Rattle.std.proofs.lemmas.Bool.Decides.{nat_tests}
use Rattle.std.proofs.lemmas.List.{length-map}
use Rattle.std.proofs.lemmas.Slice.Zip.{AllZip-long}
use Rattle.ri_base.specs.declared.fraction.Fraction.{Fraction}
use Rattle.ri_base.specs.declared.limits.TheConstants.{MAX_PRIORS}
use Rattle.store_ends.specs.Files.{Files, Leaves}
use Rattle.command_pieces.specs.CommandFaults.{IsBrokenBy, IsChangeFault, of_items}
use Rattle.command_pieces.specs.Faults.{IsCut}
use Rattle.command_pieces.specs.Pieces.{Finished, StandsAlong, some_refused}
use Rattle.command_pieces.specs.Written.{AllWritten, Plain, told_piece, unflushed}
use Rattle.command_pieces.specs.declared.command_fault.CommandFault.{CommandFault}
use Rattle.command_pieces.specs.declared.command_fault.CommandFault.TheVariants as command
use Rattle.command_pieces.specs.declared.fault.Fault.{Fault}
use Rattle.command_pieces.proofs.Commands.{Along-changed, Finished-changed, by-changed, by-items, by-unchanged, refused-changed}
use Rattle.command_pieces.proofs.Joining.{StoppedBetween-none}
use Rattle.command_pieces.proofs.Lifting.{Finished-lifted, broken-lifted}
use Rattle.manifest.specs.Entries.{length_name}
use Rattle.manifest.specs.PriorFits.{IsPrior}
use Rattle.manifest.specs.Priors.{PriorTable, row_of}
use Rattle.manifest.specs.declared.manifest.PriorEntry.{PriorEntry}
use Rattle.prior_lines.specs.Rows.{Kept, is_refusal, none_kept, outcome_at, prior_row, prior_rows, refusals}
use Rattle.prior_lines.specs.declared.line.RowLine.{RowLine}
use Rattle.prior_lines.specs.declared.line.RowLine.TheVariants as row
use Rattle.refusals.specs.Lines.{refusal_piece}
use Rattle.refusals.specs.declared.refusal.Refusal.{Refusal}
use Rattle.refusals.specs.declared.refusal.Refusal.TheVariants.{Fixed, PriorsFull}
use Rattle.repository.specs.Priors.{is_full, is_named, is_same, with_prior}
use Rattle.repository.specs.RealLimits.{StandsFor}
use Rattle.repository.specs.Stands.{Collection, IsPriorListed, Prior}
use Rattle.repository.specs.States.{ReadsAs, State}
use Rattle.collection_commands.specs.PriorSetting.{IsPriorBroken, IsPriorDone, IsTableOf, PriorStops, has_prior, name_pieces, name_refusal, prior_text, set_pieces, setting_pieces}
use Rattle.collection_commands.specs.RowRefusals.{row_pieces}

-- ---- its reply

pub told-rows : (name : List ℕ) (rows : List (List ℕ × Fraction)) (table : PriorTable) (text : List ℕ) (p : Plain) → map row_of rows ≡ table.rows → text ≡ prior_text name (length rows) → p ≡ told_piece text
    → p ≡ told_piece (prior_text name (length table.rows))
told-rows name rows table text p same e is = is ∙ ap told_piece (e ∙ ap (prior_text name) (sym (length-map rows row_of) ∙ ap length same))

-- ---- its name

named-same : (told : Option Files) (es : List PriorEntry) (ps : List Prior) (name : List ℕ) → AllZip (IsPriorListed told) es ps → is_named es name ≡ list_any (λ (p : Prior). is_same name p.name) ps
named-same told [] [] name all = refl
named-same told [] (p ∷ ps) name all = absurd all
named-same told (e ∷ es) [] name all = absurd all
named-same told (e ∷ es) (p ∷ ps) name all =
    ap (λ (n : List ℕ). is_same name n || is_named es name) (sym all.0.name) ∙ ap (λ (b : Bool). is_same name p.name || b) (named-same told es ps name all.1)

-- there is room for it in the collection where there is in the repository
full-same : (told : Option Files) (s : State) (c : Collection) (name : List ℕ) → ReadsAs told s c → is_full s.priors name ≡ (not (has_prior c name) && nat_le MAX_PRIORS (length c.priors))
full-same told s c name reads =
    ap (λ (b : Bool). not b && nat_le MAX_PRIORS (length s.priors)) (named-same told s.priors c.priors name reads.priors_are)
    ∙ ap (λ (n : ℕ). not (has_prior c name) && nat_le MAX_PRIORS n) (sym (AllZip-long (IsPriorListed told) s.priors c.priors reads.priors_are))

pub refusal-fixed : (c : Collection) (name : List ℕ) → is_same name length_name ≡ true → name_refusal c name ≡ Some (Fixed name)
refusal-fixed c name fixed = rw fixed refl

pub refusal-full : (told : Option Files) (s : State) (c : Collection) (name : List ℕ) → ReadsAs told s c → is_same name length_name ≡ false → is_full s.priors name ≡ true → name_refusal c name ≡ Some (PriorsFull name)
refusal-full told s c name reads other full =
    let here : (not (has_prior c name) && nat_le MAX_PRIORS (length c.priors)) ≡ true = sym (full-same told s c name reads) ∙ full in
    rw (other, here) refl

pub refusal-none : (told : Option Files) (s : State) (c : Collection) (name : List ℕ) → ReadsAs told s c → is_same name length_name ≡ false → is_full s.priors name ≡ false → name_refusal c name ≡ None
refusal-none told s c name reads other room =
    let here : (not (has_prior c name) && nat_le MAX_PRIORS (length c.priors)) ≡ false = sym (full-same told s c name reads) ∙ room in
    rw (other, here) refl

-- ---- its name is refused

pub not-some : (o : Option Refusal) (why : Refusal) → o ≡ Some why → o ≡ None → ⊥
not-some o why some none = cc

module _ (why : Refusal) (c : Collection) (name : List ℕ) (is : name_refusal c name ≡ Some why) where
  pub named-done : (r : Result Bool CommandFault) (left : Option (List ℕ)) (before now : Option (List ℕ)) (f : Option Files) → IfOk r (λ refused. refused ≡ true) → OnOk r (Finished StandsFor c (name_pieces why) before now f)
      → IfOk r (λ refused. IfSome left (λ bytes. IsPriorDone (name_refusal c name) refused c name bytes before now f))
  named-done (Ok refused) None before now f e a = tt
  named-done (Ok refused) (Some bytes) before now f e a = subst (λ (w : Option Refusal). IsPriorDone w refused c name bytes before now f) (sym is) (name_pieces why, refl, sym e, a)
  named-done (Err fault) left before now f e a = tt

  one-broken : (e : CommandFault) (bytes : List ℕ) (before now : Option (List ℕ)) (f : Option Files) → IsChangeFault e → IsBrokenBy e StandsFor c (name_pieces why) before now f → IsPriorBroken (Some why) e c name bytes before now f
  one-broken command.Read bytes before now f change b = absurd change
  one-broken command.Write bytes before now f change b = (name_pieces why, refl, b)
  one-broken command.Store bytes before now f change b = (name_pieces why, refl, b)
  one-broken (command.Malformed file part place) bytes before now f change b = absurd change
  one-broken (command.Missing file) bytes before now f change b = absurd change
  one-broken command.NoRepository bytes before now f change b = absurd change
  one-broken command.Exists bytes before now f change b = absurd change
  one-broken command.Memory bytes before now f change b = (name_pieces why, inr refl, b)

  pub named-broken : (r : Result Bool CommandFault) (left : Option (List ℕ)) (before now : Option (List ℕ)) (f : Option Files) → IfErr r IsChangeFault → IfErr r (λ fault. IsBrokenBy fault StandsFor c (name_pieces why) before now f)
      → IfErr r (λ fault. IfSome left (λ bytes. IsPriorBroken (name_refusal c name) fault c name bytes before now f))
  named-broken (Ok refused) left before now f change b = tt
  named-broken (Err fault) None before now f change b = tt
  named-broken (Err fault) (Some bytes) before now f change b =
      subst (λ (w : Option Refusal). IsPriorBroken w fault c name bytes before now f) (sym is) (one-broken fault bytes before now f change b)

pub read-broken : (c : Collection) (name : List ℕ) (left : Option (List ℕ)) (taken : Option (List ℕ)) (f : Option Files) → StandsFor c f → IfSome left (λ bytes. IsPriorBroken None command.Read c name bytes taken taken f)
read-broken c name None taken f s = tt
read-broken c name (Some bytes) taken f s = ([], refl, StoppedBetween-none StandsFor c [] taken taken f refl s)

pub memory-broken : (c : Collection) (name : List ℕ) (left : Option (List ℕ)) (taken : Option (List ℕ)) (f : Option Files) → StandsFor c f → IfSome left (λ bytes. IsPriorBroken None command.Memory c name bytes taken taken f)
memory-broken c name None taken f s = tt
memory-broken c name (Some bytes) taken f s = ([], inl refl, StoppedBetween-none StandsFor c [] taken taken f refl s)

-- ---- its rows are known

-- what was read, made into a table
pub table-of : (kept : Kept) (table : PriorTable) (left : Option (List ℕ)) → IfSome left (λ bytes. kept ≡ prior_rows bytes) → table.rest ≡ kept.rest → IsPermutation (map prior_row kept.rows) table.rows → IsPrior table
    → IfSome left (λ bytes. IsTableOf (prior_rows bytes) table)
table-of kept table None is rest rows form = tt
table-of kept table (Some bytes) is rest rows form = subst (λ (k : Kept). IsTableOf k table) is (record { rest = rest; rows = rows; form = form })

some-lines : (n : ℕ) → true ≡ not (suc n == 0)
some-lines n = grind (arith, nat_tests)

rows-refused : (lines : List RowLine) → some_refused (row_pieces (filter is_refusal lines)) ≡ not (length (filter is_refusal lines) == 0)
unfolding row_pieces
rows-refused [] = refl
rows-refused (row.Accepted ∷ lines) = rows-refused lines
rows-refused (row.BadRow place ∷ lines) = some-lines (length (filter is_refusal lines))
rows-refused (row.LineTooLong place ∷ lines) = some-lines (length (filter is_refusal lines))
rows-refused (row.RepeatedRow docno ∷ lines) = some-lines (length (filter is_refusal lines))
rows-refused (row.RepeatedRest ∷ lines) = some-lines (length (filter is_refusal lines))
rows-refused (row.TooManyRows place ∷ lines) = some-lines (length (filter is_refusal lines))

module _ (c : Collection) (name : List ℕ) (table : PriorTable) (lines : List RowLine) where
  pub set-done : (left : Option (List ℕ)) (refused : Bool) (before mid now : Option (List ℕ)) (f g : Option Files) → IfSome left (λ bytes. IsTableOf (prior_rows bytes) table) → IfSome left (λ bytes. lines ≡ refusals bytes)
      → refused ≡ not (length lines == 0) → AllWritten (row_pieces lines) before mid → StandsFor c f → Finished StandsFor c (setting_pieces c name table) mid now g → IfSome left (λ bytes. IsPriorDone None refused c name bytes before now g)
  set-done None refused before mid now f g is said e a s b = tt
  set-done (Some bytes) refused before mid now f g is said e a s b = (
    set_pieces c name bytes table,
    (table, is, refl),
    refused-changed (with_prior c name table) (row_pieces (refusals bytes)) (told_piece (prior_text name (length table.rows))) refl
        ∙ rows-refused (outcome_at none_kept 0 bytes).1 ∙ ap (λ (ls : List RowLine). not (length ls == 0)) (sym said) ∙ sym e,
    Finished-changed StandsFor c (with_prior c name table) (row_pieces (refusals bytes)) (told_piece (prior_text name (length table.rows))) before mid now f g (subst (λ (ls : List RowLine). AllWritten (row_pieces ls) before mid) said a) s b,
  )

  begun : (e : CommandFault) (bytes : List ℕ) (before now : Option (List ℕ)) (f : Option Files) → IsTableOf (prior_rows bytes) table → IsChangeFault e → IsBrokenBy e StandsFor c (set_pieces c name bytes table) before now f → IsPriorBroken None e c name bytes before now f
  begun command.Read bytes before now f is change b = absurd change
  begun command.Write bytes before now f is change b = (set_pieces c name bytes table, (table, is, refl), b)
  begun command.Store bytes before now f is change b = (set_pieces c name bytes table, (table, is, refl), b)
  begun (command.Malformed file part place) bytes before now f is change b = absurd change
  begun (command.Missing file) bytes before now f is change b = absurd change
  begun command.NoRepository bytes before now f is change b = absurd change
  begun command.Exists bytes before now f is change b = absurd change
  begun command.Memory bytes before now f is change b = (set_pieces c name bytes table, inr (table, is, refl), b)

  -- the lines are broken off
  pub lines-broken : (e : Fault) (r : CommandFault) (left : Option (List ℕ)) (before now : Option (List ℕ)) (f : Option Files) → IfSome left (λ bytes. IsTableOf (prior_rows bytes) table) → IfSome left (λ bytes. lines ≡ refusals bytes)
      → r ≡ of_items e → IsChangeFault r → IsCut e (row_pieces lines) before now → StandsFor c f → IfSome left (λ bytes. IsPriorBroken None r c name bytes before now f)
  lines-broken e r None before now f is said by change b s = tt
  lines-broken e r (Some bytes) before now f is said by change b s =
      begun r bytes before now f is change
      (subst (λ (x : CommandFault). IsBrokenBy x StandsFor c (set_pieces c name bytes table) before now f) (sym by)
      (by-unchanged e StandsFor c (with_prior c name table) (row_pieces (refusals bytes)) (told_piece (prior_text name (length table.rows))) before now f (subst (λ (ls : List RowLine). IsCut e (row_pieces ls) before now) said b) s))

  -- they are written, and the rest is broken off
  pub set-broken : (e : CommandFault) (left : Option (List ℕ)) (before mid now : Option (List ℕ)) (f g : Option Files) → IfSome left (λ bytes. IsTableOf (prior_rows bytes) table) → IfSome left (λ bytes. lines ≡ refusals bytes)
      → IsChangeFault e → AllWritten (row_pieces lines) before mid → StandsFor c f → IsBrokenBy e StandsFor c (setting_pieces c name table) mid now g → IfSome left (λ bytes. IsPriorBroken None e c name bytes before now g)
  set-broken e None before mid now f g is said change a s b = tt
  set-broken e (Some bytes) before mid now f g is said change a s b =
      begun e bytes before now g is change
      (by-changed e StandsFor c (with_prior c name table) (row_pieces (refusals bytes)) (told_piece (prior_text name (length table.rows))) before mid now f g (subst (λ (ls : List RowLine). AllWritten (row_pieces ls) before mid) said a) s b)

  pub set-stops : (left : Option (List ℕ)) (past since : ℕ → Files → Type 0) → IfSome left (λ bytes. IsTableOf (prior_rows bytes) table) → Leaves past since (StandsAlong StandsFor c (setting_pieces c name table)) → IfSome left (λ bytes. PriorStops None c name bytes past since)
  set-stops None past since is leaves = tt
  set-stops (Some bytes) past since is leaves =
      (set_pieces c name bytes table, inr (table, is, refl), Along-changed past since StandsFor c (with_prior c name table) (row_pieces (refusals bytes)) (told_piece (prior_text name (length table.rows))) leaves)

-- ---- the refusal of its name is written

pub refused-finished : (c : Collection) (why : Refusal) (q : Plain) (before now : Option (List ℕ)) (f : Option Files) → q ≡ refusal_piece why → AllWritten (q ∷ []) before now → StandsFor c f → Finished StandsFor c (name_pieces why) before now f
refused-finished c why q before now f is a s = subst (λ (p : Plain). Finished StandsFor c (unflushed (p ∷ [])) before now f) is (Finished-lifted StandsFor c (q ∷ []) before now f a s)

pub refused-broken : (e : Fault) (r : CommandFault) (c : Collection) (why : Refusal) (q : Plain) (before now : Option (List ℕ)) (f : Option Files) → r ≡ of_items e → q ≡ refusal_piece why → IsCut e (q ∷ []) before now → StandsFor c f
    → IsBrokenBy r StandsFor c (name_pieces why) before now f
refused-broken e r c why q before now f by is b s =
    subst (λ (x : CommandFault). IsBrokenBy x StandsFor c (name_pieces why) before now f) (sym by)
    (subst (λ (p : Plain). IsBrokenBy (of_items e) StandsFor c (unflushed (p ∷ [])) before now f) is (by-items e StandsFor c (unflushed (q ∷ [])) before now f (broken-lifted e StandsFor c (q ∷ []) before now f b s)))

pub refused-unwritten : (c : Collection) (why : Refusal) (taken : Option (List ℕ)) (f : Option Files) → StandsFor c f → IsBrokenBy command.Memory StandsFor c (name_pieces why) taken taken f
refused-unwritten c why taken f s = StoppedBetween-none StandsFor c (name_pieces why) taken taken f refl s

-- ---- its name isn't refused

pub none-some : (o : Option Refusal) → o ≡ None → IsSome o → ⊥
none-some o none some = let here : is_some {T = Refusal} None ≡ true = ap is_some (sym none) ∙ some in cc

pub room-left : (full room : Bool) → room ≡ not full → room ≡ false → full ≡ true
room-left true room is e = refl
room-left false room is e = cc

pub room-right : (full room : Bool) → room ≡ not full → room ≡ true → full ≡ false
room-right true room is e = cc
room-right false room is e = refl
