-- Items that are done one behind the other.
use Rattle.std.proofs.Common.{◌≡◌, ◌⊎◌, inl, inr, ℕ, Bool, true, false, ◌||◌, List, [], ◌∷◌, ◌++◌, map, refl, ap, sym, ◌∙◌, subst, Option, Some, None, append_assoc, append-nil}
use Rattle.std.specs.Option.{option_map, IfSome}
use Rattle.store_ends.specs.Files.{Files, Leaves}
use Rattle.command_pieces.specs.CommandFaults.{IsBrokenBy}
use Rattle.command_pieces.specs.Pieces.{Finished, Piece, StandsAlong, StoppedBetween, kept_behind, some_refused}
use Rattle.command_pieces.specs.declared.command_fault.CommandFault.{CommandFault}
use Rattle.command_pieces.proofs.Commands.{by-more, by-then}
use Rattle.command_pieces.proofs.Joining.{Along-more, Along-then, Finished-none, Finished-then, StoppedBetween-finished, kept-append, kept-none, refused-append, refused-one}
use Rattle.repository.specs.RealLimits.{StandsFor}
use Rattle.repository.specs.Stands.{Collection}
use Rattle.script_reader.specs.Items.{items}
use Rattle.script_reader.specs.State.{answer_items, is_end, items_left}
use Rattle.script_reader.specs.declared.item.Item.{Item}
use Rattle.script_reader.specs.declared.item.Item.TheVariants as item
use Rattle.script_reader.specs.declared.reader.ItemReader.{ItemReader}
use Rattle.session_events.specs.declared.event.Event.{Event}
use Rattle.desk.specs.State.{State, collection_of}
use Rattle.collection_commands.proofs.Followed.{all-taken, more-taken, some-taken}
use Rattle.indri_app.specs.Items.{item_piece, kept_by, pieces_of, state_behind, state_behind_all}
use Rattle.indri_app.specs.Orders.{AreTrue, IsTrueItem}
use Rattle.indri_app.proofs.StepLemmas.{end-kept}

-- These items were done, and the reader has the others.
abbrev pub AreFollowed : List Item → ItemReader → Option (List ℕ) → Option (List ℕ) → Type 0
AreFollowed done reader start now = option_map (λ rest. done ++ items_left reader rest) now ≡ option_map items start

pub followed-start : (r : ItemReader) (start : Option (List ℕ)) → ((bytes : List ℕ) → items_left r bytes ≡ items bytes) → AreFollowed [] r start start
followed-start r None all = refl
followed-start r (Some bytes) all = ap Some (all bytes)

pub followed-more : (done : List Item) (i : Item) (r r' : ItemReader) (start old new : Option (List ℕ)) → AreFollowed done r start old
    → option_map (items_left r) old ≡ option_map (answer_items (Some i) r') new → AreFollowed (done ++ i ∷ []) r' start new
followed-more done i r r' start old new f e = more-taken items done (items_left r) i (items_left r') old new start f e

-- What holds of the items that are done, however they go on, holds of those of the script.
pub some-done : (Q : List Item → Type 0) (done : List Item) (r : ItemReader) (start now : Option (List ℕ)) → AreFollowed done r start now → ((rest : List Item) → Q (done ++ rest)) → IfSome start (λ bytes. Q (items bytes))
some-done Q done r start now f q = some-taken items done (items_left r) Q now start f q

-- The script ends.
pub all-done : (Q : List Item → Type 0) (done : List Item) (r : ItemReader) (start old new : Option (List ℕ)) → AreFollowed done r start old → option_map (items_left r) old ≡ option_map (λ rest. []) new → Q done → IfSome start (λ bytes. Q (items bytes))
all-done Q done r start old new f e q = all-taken items done (items_left r) Q old new start f e q

-- ---- pieces and states

pieces-append : (s : State) (xs ys : List Item) → pieces_of s (xs ++ ys) ≡ pieces_of s xs ++ pieces_of (state_behind_all s xs) ys
unfolding pieces_of state_behind_all
pieces-append s [] ys = refl
pieces-append s (x ∷ xs) ys = ap (λ ps. item_piece s x ∷ ps) (pieces-append (state_behind s x) xs ys)

state-append : (s : State) (xs ys : List Item) → state_behind_all s (xs ++ ys) ≡ state_behind_all (state_behind_all s xs) ys
unfolding state_behind_all
state-append s [] ys = refl
state-append s (x ∷ xs) ys = state-append (state_behind s x) xs ys

pieces-none : (s : State) → pieces_of s [] ≡ []
unfolding pieces_of
pieces-none s = refl

pieces-one : (s : State) (i : Item) → pieces_of s (i ∷ []) ≡ item_piece s i ∷ []
unfolding pieces_of
pieces-one s i = refl

state-one : (s : State) (i : Item) → state_behind_all s (i ∷ []) ≡ state_behind s i
unfolding state_behind_all
state-one s i = refl

pub state-none : (s : State) → s ≡ state_behind_all s []
unfolding state_behind_all
state-none s = refl

behind-one : (kept : Collection) (s : State) (i : Item) → kept_behind kept (item_piece s i ∷ []) ≡ kept_by kept s i
unfolding kept_behind
behind-one kept s i = refl

-- ---- before the first item

pub refused-start : (s : State) → false ≡ some_refused (pieces_of s [])
refused-start s = sym (ap some_refused (pieces-none s))

pub Finished-start : (kept : Collection) (s : State) (taken : Option (List ℕ)) (f : Option Files) → StandsFor kept f → Finished StandsFor kept (pieces_of s []) taken taken f
Finished-start kept s taken f stands = subst (λ ps. Finished StandsFor kept ps taken taken f) (sym (pieces-none s)) (Finished-none StandsFor kept taken f stands)

pub kept-start : (kept : Collection) (s : State) → kept_behind kept (pieces_of s []) ≡ kept
kept-start kept s = ap (kept_behind kept) (pieces-none s) ∙ kept-none kept

pub true-start : (s : State) → AreTrue s []
unfolding AreTrue
true-start s = tt

-- ---- one item more, in the state behind those that are done

module _ (start here : State) (done : List Item) (i : Item) (is : here ≡ state_behind_all start done) where
  pieces-next : pieces_of start done ++ item_piece here i ∷ [] ≡ pieces_of start (done ++ i ∷ [])
  pieces-next = ap (λ s. pieces_of start done ++ item_piece s i ∷ []) is ∙ sym (pieces-append start done (i ∷ []) ∙ ap (λ ps. pieces_of start done ++ ps) (pieces-one (state_behind_all start done) i))

  pub state-next : (now : State) → now ≡ state_behind here i → now ≡ state_behind_all start (done ++ i ∷ [])
  state-next now e = e ∙ ap (λ s. state_behind s i) is ∙ sym (state-append start done (i ∷ []) ∙ state-one (state_behind_all start done) i)

  pub refused-next : (noted refused : Bool) → noted ≡ some_refused (pieces_of start done) → refused ≡ (item_piece here i).is_refusal → (noted || refused) ≡ some_refused (pieces_of start (done ++ i ∷ []))
  refused-next noted refused n r =
      ap (λ b. b || refused) n ∙ ap (λ b. some_refused (pieces_of start done) || b) (r ∙ sym (refused-one (item_piece here i)))
      ∙ sym (refused-append (pieces_of start done) (item_piece here i ∷ [])) ∙ ap some_refused pieces-next

  pub kept-next : (kept : Collection) → kept_by (kept_behind kept (pieces_of start done)) here i ≡ kept_behind kept (pieces_of start (done ++ i ∷ []))
  kept-next kept = sym (behind-one (kept_behind kept (pieces_of start done)) here i) ∙ sym (kept-append kept (pieces_of start done) (item_piece here i ∷ [])) ∙ ap (kept_behind kept) pieces-next

  pub Finished-next : (kept : Collection) (before mid now : Option (List ℕ)) (f g : Option Files) → Finished StandsFor kept (pieces_of start done) before mid f
      → Finished StandsFor (kept_behind kept (pieces_of start done)) (item_piece here i ∷ []) mid now g → Finished StandsFor kept (pieces_of start (done ++ i ∷ [])) before now g
  Finished-next kept before mid now f g a b =
      subst (λ ps. Finished StandsFor kept ps before now g) pieces-next (Finished-then StandsFor kept (pieces_of start done) (item_piece here i ∷ []) before mid now f g a b)

  pub Along-next : (past mid since : ℕ → Files → Type 0) (kept : Collection) → Leaves past mid (StandsAlong StandsFor kept (pieces_of start done))
      → Leaves mid since (StandsAlong StandsFor (kept_behind kept (pieces_of start done)) (item_piece here i ∷ [])) → Leaves past since (StandsAlong StandsFor kept (pieces_of start (done ++ i ∷ [])))
  Along-next past mid since kept a b =
      subst (λ ps. Leaves past since (StandsAlong StandsFor kept ps)) pieces-next (Along-then past mid since StandsFor kept (pieces_of start done) (item_piece here i ∷ []) a b)

  -- as the files stand within it
  pub along-next : (kept : Collection) (f : Option Files) → StandsFor (kept_behind kept (pieces_of start done)) f ⊎ StandsFor (kept_by (kept_behind kept (pieces_of start done)) here i) f → StandsAlong StandsFor kept (pieces_of start (done ++ i ∷ [])) f
  along-next kept f either = elim either [
    | inl old ↦ record { done = pieces_of start done; left = item_piece here i ∷ []; are = sym pieces-next; files_stand = old }
    | inr new ↦ record { done = pieces_of start (done ++ i ∷ []); left = []; are = sym (append-nil (pieces_of start (done ++ i ∷ []))); files_stand = subst (λ k. StandsFor k f) (kept-next kept) new }
  ]

  -- it is broken off, and further ones would have followed
  pub broken-next : (e : CommandFault) (kept : Collection) (rest : List Item) (before mid now : Option (List ℕ)) (f g : Option Files) → Finished StandsFor kept (pieces_of start done) before mid f
      → IsBrokenBy e StandsFor (kept_behind kept (pieces_of start done)) (item_piece here i ∷ []) mid now g → IsBrokenBy e StandsFor kept (pieces_of start ((done ++ i ∷ []) ++ rest)) before now g
  broken-next e kept rest before mid now f g a b =
      subst (λ ps. IsBrokenBy e StandsFor kept ps before now g)
      (ap (λ ps. ps ++ pieces_of (state_behind_all start (done ++ i ∷ [])) rest) pieces-next ∙ sym (pieces-append start (done ++ i ∷ []) rest))
      (by-more e StandsFor kept (pieces_of start done ++ item_piece here i ∷ []) _ before now g (by-then e StandsFor kept (pieces_of start done) (item_piece here i ∷ []) before mid now f g a b))

  -- behind the end the files stand for what is live
  pub end-next : (kept : Collection) → is_end (Some i) ≡ true → kept_behind kept (pieces_of start (done ++ i ∷ [])) ≡ collection_of (state_behind_all start (done ++ i ∷ []))
  end-next kept ends = sym (kept-next kept) ∙ end-kept _ here i ends ∙ ap collection_of (state-next (state_behind here i) refl)

-- ---- between two items further ones would have followed

pub stopped-here : (kept : Collection) (s : State) (done rest : List Item) (before now : Option (List ℕ)) (f : Option Files) → Finished StandsFor kept (pieces_of s done) before now f → StoppedBetween StandsFor kept (pieces_of s (done ++ rest)) before now f
stopped-here kept s done rest before now f a = subst (λ ps. StoppedBetween StandsFor kept ps before now f) (sym (pieces-append s done rest)) (StoppedBetween-finished StandsFor kept (pieces_of s done) _ before now f a)

pub Along-here : (past since : ℕ → Files → Type 0) (kept : Collection) (s : State) (done rest : List Item) → Leaves past since (StandsAlong StandsFor kept (pieces_of s done)) → Leaves past since (StandsAlong StandsFor kept (pieces_of s (done ++ rest)))
Along-here past since kept s done rest l = subst (λ ps. Leaves past since (StandsAlong StandsFor kept ps)) (sym (pieces-append s done rest)) (Along-more past since StandsFor kept (pieces_of s done) _ l)

-- the same of a script of which these items are done
module _ (kept : Collection) (s : State) (done : List Item) (r : ItemReader) (first left : Option (List ℕ)) (followed : AreFollowed done r first left) where
  pub some-stopped : (before now : Option (List ℕ)) (f : Option Files) → Finished StandsFor kept (pieces_of s done) before now f → IfSome first (λ bytes. StoppedBetween StandsFor kept (pieces_of s (items bytes)) before now f)
  some-stopped before now f a = some-done (λ (is : List Item). StoppedBetween StandsFor kept (pieces_of s is) before now f) done r first left followed (λ rest. stopped-here kept s done rest before now f a)

  pub some-along : (past since : ℕ → Files → Type 0) → Leaves past since (StandsAlong StandsFor kept (pieces_of s done)) → IfSome first (λ bytes. Leaves past since (StandsAlong StandsFor kept (pieces_of s (items bytes))))
  some-along past since l = some-done (λ (is : List Item). Leaves past since (StandsAlong StandsFor kept (pieces_of s is))) done r first left followed (λ rest. Along-here past since kept s done rest l)

pub along-here : (kept : Collection) (s : State) (done rest : List Item) (f : Option Files) → StandsAlong StandsFor kept (pieces_of s done) f → StandsAlong StandsFor kept (pieces_of s (done ++ rest)) f
along-here kept s done rest f a =
    let more = pieces_of (state_behind_all s done) rest in
    record { done = a.done; left = a.left ++ more; are = pieces-append s done rest ∙ ap (λ ps. ps ++ more) a.are ∙ append_assoc a.done a.left more; files_stand = a.files_stand }

-- the same where the items are told
module _ (kept : Collection) (s : State) (done rest all : List Item) (followed : done ++ rest ≡ all) where
  pub stands-of : (f : Option Files) → StandsAlong StandsFor kept (pieces_of s done) f → StandsAlong StandsFor kept (pieces_of s all) f
  stands-of f a = subst (λ (is : List Item). StandsAlong StandsFor kept (pieces_of s is) f) followed (along-here kept s done rest f a)

  pub leaves-of : (past since : ℕ → Files → Type 0) → Leaves past since (StandsAlong StandsFor kept (pieces_of s done)) → Leaves past since (StandsAlong StandsFor kept (pieces_of s all))
  leaves-of past since l = subst (λ (is : List Item). Leaves past since (StandsAlong StandsFor kept (pieces_of s is))) followed (Along-here past since kept s done rest l)

-- one event more is done
pub events-next : (done all : List Item) (e : Event) (old new : List Event) → old ≡ e ∷ new → done ++ map item.Event old ≡ all → (done ++ item.Event e ∷ []) ++ map item.Event new ≡ all
events-next done all e old new gives followed = append_assoc done (item.Event e ∷ []) (map item.Event new) ∙ ap (λ es. done ++ map item.Event es) (sym gives) ∙ followed

pub along-none : (kept : Collection) (ps : List (Piece Collection)) (f : Option Files) → StandsFor kept f → StandsAlong StandsFor kept ps f
along-none kept ps f stands = record { done = []; left = ps; are = refl; files_stand = subst (λ k. StandsFor k f) (sym (kept-none kept)) stands }

pub along-all : (kept : Collection) (ps : List (Piece Collection)) (f : Option Files) → StandsFor (kept_behind kept ps) f → StandsAlong StandsFor kept ps f
along-all kept ps f stands = record { done = ps; left = []; are = sym (append-nil ps); files_stand = stands }

-- ---- true orders

true-more : (s : State) (done : List Item) (i : Item) → AreTrue s done → IsTrueItem (state_behind_all s done) i → AreTrue s (done ++ i ∷ [])
unfolding AreTrue state_behind_all
true-more s [] i all one = (one, tt)
true-more s (x ∷ xs) i all one = (all.0, true-more (state_behind s x) xs i all.1 one)

pub true-next : (start here : State) (done : List Item) (i : Item) → here ≡ state_behind_all start done → AreTrue start done → IsTrueItem here i → AreTrue start (done ++ i ∷ [])
true-next start here done i is all one = true-more start done i all (subst (λ s. IsTrueItem s i) is one)
