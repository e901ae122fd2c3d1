-- How clap goes on by one word, at a word that is read as a text, as an option or as an option's value.
use Rattle.std.proofs.Common.{◌≡◌, ◌∙◌, ℕ, Bool, true, false, ◌&&◌, ◌||◌, List, [], ◌∷◌, ◌++◌, map, fold, Option, None, Some, option_map, codes, refl, sym, ap, ap₂, if◌then◌else◌}
use Rattle.std.specs.Option.{option_map_or}
use Rattle.std.proofs.lemmas.List.{append_assoc}
use Rattle.std.specs.List.{list_any}
use Rattle.clap.specs.Faults.{positional_fault, settle_fault, step_fault, turn_fault, use_fault, walk_fault, word_fault}
use Rattle.clap.specs.Kinds.{Kinds, or_else}
use Rattle.clap.specs.Walk as walk
use Rattle.clap.specs.Walk.{Held, Row, Rule, Step, Text, Waiting, Walk, after_step, arg_by_id, arg_by_index, is_pending, option_word, positional_held, pushed, settled, settled_rows, to_positional, used, used_by_id, walked, word_met}
use Rattle.clap.specs.declared.error.kind.ErrorKind.{ErrorKind}
use Rattle.clap.specs.declared.error.kind.ErrorKind.TheVariants as kind
use Rattle.command_words.specs.Given.{Named, are_apart, has_name, text_names}
use Rattle.command_words.specs.Taken.{is_none_of}
use Rattle.command_words.proofs.ClapRules.{rules, row, set_rule, shape, use_adds, use_again, use_first}
use Rattle.command_words.proofs.NamedLemmas.{apart_more, not_apart}

-- ---- where the walk stands

-- how many texts were read
pub data Place : Type 0 where
  none : Place
  one : Place
  two : Place

abbrev pub position : Place → ℕ
position none = 1
position one = 2
position two = 3

abbrev pub names : Place → List Text
names none = text_names
names one = codes "second" ∷ []
names two = []

abbrev pub pending : Option Named → Option (Text × List Text)
pending None = None
pending (Some g) = Some (g.0, g.1 ∷ [])

abbrev pub with_rows : List Row → Held
with_rows rows = record { rows = rows; pending = None; skip = 0 }

-- what is kept, and what is to be kept next
abbrev pub held : List Named → Option Named → Held
held all next = record { rows = map row all; pending = pending next; skip = 0 }

abbrev pub standing : Held → ℕ → Bool → Walk
standing h i ends = record { held = h; waiting = walk.idle; position = i; is_trailing = ends; stopped = None }

abbrev pub idle_at : List Named → Option Named → Place → Bool → Walk
idle_at all next place ends = standing (held all next) (position place) ends

-- an option waits for its value
abbrev pub waiting_held : List Named → Text → Held
waiting_held all name = record { rows = map row all; pending = Some (name, []); skip = 0 }

abbrev pub waiting_with : Held → Text → ℕ → Bool → Walk
waiting_with h name i ends = record { held = h; waiting = walk.option name; position = i; is_trailing = ends; stopped = None }

abbrev pub waiting_at : List Named → Text → Place → Bool → Walk
waiting_at all name place ends = waiting_with (waiting_held all name) name (position place) ends

-- ---- what comes of the words

abbrev pub after : Walk → List Text → Walk
after w words = fold (walked rules []) w words

-- what is kept in the end, where nothing is refused
abbrev pub outcome : Walk → List Text → Option (List Row)
outcome w words =
    if is_none_of (or_else (walk_fault shape [] w words) (settle_fault rules false (after w words).held))
    then Some (settled rules (after w words).held).rows else None

refused_first : (t r e : Kinds) (x : Option (List Row)) → (if is_none_of (or_else (or_else t r) e) then x else None) ≡ (if is_none_of t then (if is_none_of (or_else r e) then x else None) else None)
refused_first [] r e x = refl
refused_first (k ∷ ks) r e x = refl

module _ (w : Walk) (word : Text) (words : List Text) where
  outcome_next : outcome w (word ∷ words) ≡ (if is_none_of (turn_fault shape [] w word) then outcome (walked rules [] w word) words else None)
  unfolding walk_fault
  outcome_next =
      refused_first (turn_fault shape [] w word) (walk_fault shape [] (walked rules [] w word) words)
      (settle_fault rules false (after (walked rules [] w word) words).held) (Some (settled rules (after (walked rules [] w word) words).held).rows)

  pub refused_at : (k : ErrorKind) (ks : Kinds) → turn_fault shape [] w word ≡ k ∷ ks → outcome w (word ∷ words) ≡ None
  refused_at k ks e = outcome_next ∙ ap (λ (t : Kinds). if is_none_of t then outcome (walked rules [] w word) words else None) e

  pub passed_at : (v : Walk) → turn_fault shape [] w word ≡ [] → walked rules [] w word ≡ v → outcome w (word ∷ words) ≡ outcome v words
  passed_at v fine step =
      outcome_next ∙ ap (λ (t : Kinds). if is_none_of t then outcome (walked rules [] w word) words else None) fine
      ∙ ap (λ (x : Walk). outcome x words) step

pub outcome_end : (w : Walk) → outcome w [] ≡ (if is_none_of (settle_fault rules false w.held) then Some (settled rules w.held).rows else None)
unfolding walk_fault
outcome_end w = refl

-- what the items give, behind what is kept already
abbrev pub given_behind : List Named → Option (List Named) → Option (List Row)
given_behind all None = None
given_behind all (Some rest) = if are_apart (all ++ rest) then Some (map row (all ++ rest)) else None

abbrev pub ahead : Option Named → Option (List Named) → Option (List Named)
ahead None more = more
ahead (Some g) more = option_map (λ rest. g ∷ rest) more

pub nothing_ahead : (all : List Named) (next : Option Named) → given_behind all (ahead next None) ≡ None
nothing_ahead all None = refl
nothing_ahead all (Some g) = refl

given_twice : (all : List Named) (g : Named) (more : Option (List Named)) → list_any (has_name g.0) all ≡ true → given_behind all (ahead (Some g) more) ≡ None
given_twice all g None there = refl
given_twice all g (Some rest) there = rw (not_apart all g rest there) refl

moved : (all : List Named) (g : Named) (more : Option (List Named)) → given_behind all (ahead (Some g) more) ≡ given_behind (all ++ g ∷ []) more
moved all g None = refl
moved all g (Some rest) = ap (λ (xs : List Named). if are_apart xs then Some (map row xs) else None) (sym (append_assoc all (g ∷ []) rest))

-- ---- what is to be kept next is kept, or refused

pub data Settling (all : List Named) (next : Option Named) : Type 0 where
  fails : (k : ErrorKind) → settle_fault rules false (held all next) ≡ k ∷ [] → ((more : Option (List Named)) → given_behind all (ahead next more) ≡ None) → Settling all next
  goes : (now : List Named) → settle_fault rules false (held all next) ≡ [] → settled rules (held all next) ≡ held now None → are_apart now ≡ true
      → ((more : Option (List Named)) → given_behind all (ahead next more) ≡ given_behind now more) → Settling all next

-- the name is that of an argument
abbrev pub IsArgument : Text → Type 0
IsArgument name = (long : Option Text) × (index : Option ℕ) × (arg_by_id rules name ≡ Some (set_rule name long index))

abbrev pub IsKnown : Option Named → Type 0
IsKnown None = Unit {0}
IsKnown (Some g) = IsArgument g.0

module _ (all : List Named) (g : Named) (argument : IsArgument g.0) where
  pub settles_by : settle_fault rules false (held all (Some g)) ≡ use_fault false (set_rule g.0 argument.0 argument.1) (g.1 ∷ []) (map row all)
  settles_by = ap (λ (o : Option Rule). option_map_or (λ (a : Rule). use_fault false a (g.1 ∷ []) (map row all)) o []) argument.2

  pub settled_by : settled rules (held all (Some g)) ≡ with_rows (used (set_rule g.0 argument.0 argument.1) (g.1 ∷ []) (map row all))
  settled_by = ap (λ (o : Option Rule). with_rows (used_by_id o (g.1 ∷ []) (map row all))) argument.2

  settles_known : are_apart all ≡ true → (b : Bool) → list_any (has_name g.0) all ≡ b → Settling all (Some g)
  settles_known apart true there =
      fails kind.ArgumentConflict (settles_by ∙ use_again g.0 g.1 argument.0 argument.1 all there) (λ more. given_twice all g more there)
  settles_known apart false new =
      goes (all ++ g ∷ []) (settles_by ∙ use_first g.0 g.1 argument.0 argument.1 all new)
      (settled_by ∙ ap with_rows (use_adds g.0 g.1 argument.0 argument.1 all new)) (apart_more all g apart new) (λ more. moved all g more)

pub settles : (all : List Named) (next : Option Named) → IsKnown next → are_apart all ≡ true → Settling all next
settles all None known apart = goes all refl refl apart (λ more. refl)
settles all (Some g) known apart = settles_known all g known apart (list_any (has_name g.0) all) refl

-- ---- a word as a text

abbrev pub texted : Place → Text → (Place → Option (List Named)) → Option (List Named)
texted none word rest = option_map (λ more. (codes "first", word) ∷ more) (rest one)
texted one word rest = option_map (λ more. (codes "second", word) ∷ more) (rest two)
texted two word rest = None

pub pick : {X : Type 0} (b : Bool) (x y : X) → (if b && false then x else y) ≡ y
pick true x y = refl
pick false x y = refl

or_none : (b : Bool) → (b || false) ≡ b
or_none true = refl
or_none false = refl

module _ (all : List Named) (next : Option Named) (ends : Bool) (word : Text) (words : List Text) where
  -- the word is one for a positional argument
  abbrev pub IsText : Place → Type 0
  IsText place = (word_met rules [] ends walk.idle (position place) word (held all next) ≡ (held all next, walk.value))
      × (word_fault shape [] ends walk.idle word (held all next) ≡ [])

  turn_by : (place : Place) → IsText place → turn_fault shape [] (idle_at all next place ends) word ≡ step_fault shape (position place) (held all next) walk.value
  turn_by place is = ap₂ (λ (f : Kinds) (m : Held × Step). or_else f (step_fault shape (position place) m.0 m.1)) is.1 is.0

  walked_by : (place : Place) → IsText place
      → walked rules [] (idle_at all next place ends) word ≡ to_positional rules (arg_by_index rules (position place)) word (idle_at all next place ends) (held all next)
  unfolding walked
  walked_by place is = ap (λ (m : Held × Step). after_step rules word (idle_at all next place ends) m.0 m.1) is.0

  module _ (id : Text) (index : Option ℕ) where
    positional_by : positional_fault rules false (set_rule id None index) (held all next) ≡ settle_fault rules false (held all next)
    positional_by = pick (is_pending (set_rule id None index) (pending next)) [] (settle_fault rules false (held all next))

    positional_now : (now : List Named) → settled rules (held all next) ≡ held now None → positional_held rules (set_rule id None index) word (held all next) ≡ held now (Some (id, word))
    positional_now now done =
        ap (λ (h : Held). pushed id word h) (pick (is_pending (set_rule id None index) (pending next)) (held all next) (settled rules (held all next)) ∙ done)

  -- what comes of the words behind, at each place
  abbrev Behind : (Place → Option (List Named)) → Type 0
  Behind rest = (place : Place) (all' : List Named) (next' : Option Named) → IsKnown next' → are_apart all' ≡ true → outcome (idle_at all' next' place ends) words ≡ given_behind all' (ahead next' (rest place))

  module _ (rest : Place → Option (List Named)) (behind : Behind rest) where
    text_first : IsText none → Settling all next → outcome (idle_at all next none ends) (word ∷ words) ≡ given_behind all (ahead next (texted none word rest))
    text_first is (fails k fault nothing) =
        refused_at (idle_at all next none ends) word words k [] (turn_by none is ∙ positional_by (codes "first") (Some 1) ∙ fault) ∙ sym (nothing (texted none word rest))
    text_first is (goes now fine done apart same) =
        passed_at (idle_at all next none ends) word words (idle_at now (Some (codes "first", word)) one ends) (turn_by none is ∙ positional_by (codes "first") (Some 1) ∙ fine)
        (walked_by none is ∙ ap₂ (λ (h : Held) (b : Bool). standing h 2 b) (positional_now (codes "first") (Some 1) now done) (or_none ends))
        ∙ behind one now (Some (codes "first", word)) (None, Some 1, refl) apart ∙ sym (same (texted none word rest))

    text_second : IsText one → Settling all next → outcome (idle_at all next one ends) (word ∷ words) ≡ given_behind all (ahead next (texted one word rest))
    text_second is (fails k fault nothing) =
        refused_at (idle_at all next one ends) word words k [] (turn_by one is ∙ positional_by (codes "second") (Some 2) ∙ fault) ∙ sym (nothing (texted one word rest))
    text_second is (goes now fine done apart same) =
        passed_at (idle_at all next one ends) word words (idle_at now (Some (codes "second", word)) two ends) (turn_by one is ∙ positional_by (codes "second") (Some 2) ∙ fine)
        (walked_by one is ∙ ap₂ (λ (h : Held) (b : Bool). standing h 3 b) (positional_now (codes "second") (Some 2) now done) (or_none ends))
        ∙ behind two now (Some (codes "second", word)) (None, Some 2, refl) apart ∙ sym (same (texted one word rest))

    pub text_next : (place : Place) → IsText place → Settling all next → outcome (idle_at all next place ends) (word ∷ words) ≡ given_behind all (ahead next (texted place word rest))
    text_next none is settling = text_first is settling
    text_next one is settling = text_second is settling
    text_next two is settling =
        refused_at (idle_at all next two ends) word words kind.UnknownArgument [] (turn_by two is) ∙ sym (nothing_ahead all next)
