-- How clap goes on by one word before `--`, by the word's form.
use Rattle.std.proofs.Common.{◌≡◌, ◌∙◌, ℕ, Bool, true, false, List, [], ◌∷◌, length, Option, None, Some, refl, ap, ap₂, bytes_eq, if◌then◌else◌, nat_lt}
use Rattle.std.specs.Option.{option_map_or}
use Rattle.std.specs.Str.{is_utf8}
use Rattle.clap.specs.Faults.{bundle_fault, bundle_step_fault, flag_word_fault, flags_fault, long_fault, option_fault, other_fault, settle_fault, step_fault, turn_fault, use_fault, word_fault}
use Rattle.clap.specs.Kinds.{Kinds, or_else}
use Rattle.clap.specs.Lexer.{long_of, short_of}
use Rattle.clap.specs.Walk as walk
use Rattle.clap.specs.Walk.{Held, Row, Rule, Step, Text, Waiting, Walk, after_step, arg_by_id, arg_by_long, long_or_other, long_word, option_word, plain_word, pushed, settled, short_or_plain, subcommand_met, subcommand_or_other, used, walked, word_met}
use Rattle.clap.specs.declared.error.kind.ErrorKind.{ErrorKind}
use Rattle.clap.specs.declared.error.kind.ErrorKind.TheVariants as kind
use Rattle.command_words.proofs.ClapRules.{rules, set_rule, shape}
use Rattle.command_words.proofs.NamedLemmas.{itself}
use Rattle.command_words.proofs.WordForms.{first_char, two_dashes}

abbrev pub walk_at : Waiting → Held → ℕ → Walk
walk_at q h i = record { held = h; waiting = q; position = i; is_trailing = false; stopped = None }

abbrev end_or : {X : Type 0} → Bool → X → X → X
end_or b x y = if b then x else y

pub or_else_none : (ks : Kinds) → or_else ks [] ≡ ks
or_else_none [] = refl
or_else_none (k ∷ ks) = refl

module _ (q : Waiting) (h : Held) (i : ℕ) (word : Text) where
  pub turn_is : (f : Kinds) (m : Held × Step) → word_fault shape [] false q word h ≡ f → word_met rules [] false q i word h ≡ m
      → turn_fault shape [] (walk_at q h i) word ≡ or_else f (step_fault shape i m.0 m.1)
  turn_is f m fault met = ap₂ (λ (ks : Kinds) (x : Held × Step). or_else ks (step_fault shape i x.0 x.1)) fault met

  -- what is refused by the word itself
  pub turn_refused : (k : ErrorKind) (ks : Kinds) → word_fault shape [] false q word h ≡ k ∷ ks → turn_fault shape [] (walk_at q h i) word ≡ k ∷ ks
  turn_refused k ks fault = ap (λ (fs : Kinds). or_else fs (step_fault shape i (word_met rules [] false q i word h).0 (word_met rules [] false q i word h).1)) fault

  pub walked_is : (m : Held × Step) → word_met rules [] false q i word h ≡ m → walked rules [] (walk_at q h i) word ≡ after_step rules word (walk_at q h i) m.0 m.1
  unfolding walked
  walked_is m met = ap (λ (x : Held × Step). after_step rules word (walk_at q h i) x.0 x.1) met

  module _ (free : subcommand_met [] q word ≡ None) where
    flag_fault : bytes_eq word two_dashes ≡ false → word_fault shape [] false q word h ≡ flag_word_fault rules false (long_of word) word h
    flag_fault dashes =
        ap (λ (o : Option Text). other_fault shape o word h) free
        ∙ ap (λ (b : Bool). end_or b [] (flag_word_fault rules false (long_of word) word h)) dashes

    flag_met : bytes_eq word two_dashes ≡ false → word_met rules [] false q i word h ≡ long_or_other rules q word (long_of word) h
    flag_met dashes =
        ap (λ (o : Option Text). subcommand_or_other rules o q i word h) free
        ∙ ap (λ (b : Bool). end_or {X = Held × Step} b (h, walk.trailing i) (long_or_other rules q word (long_of word) h)) dashes

    pub end_fault : bytes_eq word two_dashes ≡ true → word_fault shape [] false q word h ≡ []
    end_fault dashes =
        ap (λ (o : Option Text). other_fault shape o word h) free
        ∙ ap (λ (b : Bool). end_or b [] (flag_word_fault rules false (long_of word) word h)) dashes

    pub end_met : bytes_eq word two_dashes ≡ true → word_met rules [] false q i word h ≡ (h, walk.trailing i)
    end_met dashes =
        ap (λ (o : Option Text). subcommand_or_other rules o q i word h) free
        ∙ ap (λ (b : Bool). end_or {X = Held × Step} b (h, walk.trailing i) (long_or_other rules q word (long_of word) h)) dashes

    pub plain_fault : bytes_eq word two_dashes ≡ false → long_of word ≡ None → short_of word ≡ None → word_fault shape [] false q word h ≡ []
    plain_fault dashes long short =
        flag_fault dashes ∙ ap (λ (o : Option (Text × Option Text)). flag_word_fault rules false o word h) long
        ∙ ap (λ (o : Option Text). option_map_or (λ (flags : Text). bundle_fault rules false flags h) o []) short

    pub plain_met : bytes_eq word two_dashes ≡ false → long_of word ≡ None → short_of word ≡ None → word_met rules [] false q i word h ≡ plain_word rules q word h
    plain_met dashes long short =
        flag_met dashes ∙ ap (λ (o : Option (Text × Option Text)). long_or_other rules q word o h) long
        ∙ ap (λ (o : Option Text). short_or_plain rules q word o h) short

    module _ (name : Text) (value : Option Text) (dashes : bytes_eq word two_dashes ≡ false) (long : long_of word ≡ Some (name, value)) where
      named_fault : word_fault shape [] false q word h ≡ long_fault rules false (arg_by_long rules name) value h
      named_fault = flag_fault dashes ∙ ap (λ (o : Option (Text × Option Text)). flag_word_fault rules false o word h) long

      pub unknown_fault : arg_by_long rules name ≡ None → word_fault shape [] false q word h ≡ kind.UnknownArgument ∷ []
      unknown_fault no_argument = named_fault ∙ ap (λ (o : Option Rule). long_fault rules false o value h) no_argument

      pub known_fault : (id : Text) → arg_by_long rules name ≡ Some (set_rule id (Some id) None) → word_fault shape [] false q word h ≡ option_fault rules false (set_rule id (Some id) None) value h
      known_fault id argument = named_fault ∙ ap (λ (o : Option Rule). long_fault rules false o value h) argument

      pub known_met : (id : Text) → arg_by_long rules name ≡ Some (set_rule id (Some id) None)
          → word_met rules [] false q i word h ≡ walk.after_flag rules q word (walk.option_met rules (set_rule id (Some id) None) value h).0 (walk.option_met rules (set_rule id (Some id) None) value h).1
      known_met id argument =
          flag_met dashes ∙ ap (λ (o : Option (Text × Option Text)). long_or_other rules q word o h) long
          ∙ ap (λ (o : Option Rule). walk.after_flag rules q word (walk.long_met rules o value h).0 (walk.long_met rules o value h).1) argument

    -- one `-` and something behind it
    pub short_fault : (b : ℕ) (bs : Text) → word ≡ 45 ∷ b ∷ bs → is_utf8 word ≡ true → h.skip ≡ 0 → bytes_eq word two_dashes ≡ false → long_of word ≡ None → short_of word ≡ Some (b ∷ bs)
        → word_fault shape [] false q word h ≡ kind.UnknownArgument ∷ []
    unfolding flags_fault
    short_fault b bs is text whole dashes long short =
        let char = first_char b bs (rw is at text) in
        flag_fault dashes ∙ ap (λ (o : Option (Text × Option Text)). flag_word_fault rules false o word h) long
        ∙ ap (λ (o : Option Text). option_map_or (λ (flags : Text). bundle_fault rules false flags h) o []) short
        ∙ ap (λ (n : ℕ). flags_fault rules false (length (b ∷ bs)) (b ∷ bs) n (record h { skip = 0 })) whole
        ∙ ap (λ (o : Option ℕ). bundle_step_fault rules false o (b ∷ bs) 0 (record h { skip = 0 }) (flags_fault rules false (length bs))) char.1

-- ---- an option that waits for its value

module _ (name : Text) (argument : arg_by_id rules name ≡ Some (set_rule name (Some name) None)) where
  -- it has none yet
  pub no_value : (h : Held) → h.pending ≡ Some (name, []) → settle_fault rules false h ≡ kind.InvalidValue ∷ []
  no_value h none =
      ap (λ (p : Option (Text × List Text)). option_map_or (λ (x : Text × List Text). option_map_or (λ (a : Rule). use_fault false a x.1 h.rows) (arg_by_id rules x.0) []) p []) none
      ∙ ap (λ (o : Option Rule). option_map_or (λ (a : Rule). use_fault false a [] h.rows) o []) argument

  abbrev pub value_awaited : List Row → Held
  value_awaited rows = record { rows = rows; pending = Some (name, []); skip = 0 }

  abbrev pub value_kept : List Row → Text → Held
  value_kept rows word = record { rows = rows; pending = Some (name, word ∷ []); skip = 0 }

  abbrev stepped : Held × Waiting → Held × Step
  stepped x = (x.0, walk.next x.1)

  -- the word is its value
  pub value_met : (rows : List Row) (word : Text) → plain_word rules (walk.option name) word (value_awaited rows) ≡ (value_kept rows word, walk.next walk.idle)
  value_met rows word =
      ap (λ (o : Option Rule). stepped (option_word o name word (value_awaited rows))) argument
      ∙ ap (λ (b : Bool). stepped (value_kept rows word, if nat_lt (if b then 1 else 0) 1 then walk.option name else walk.idle)) (itself name)
