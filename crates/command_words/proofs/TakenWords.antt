-- Clap takes just the words that are items in order, and finds in them what these items give.
use Rattle.std.proofs.Common.{◌≡◌, ◌∙◌, ℕ, Bool, true, false, List, [], ◌∷◌, map, Option, None, Some, option_map, option_and_then, refl, sym, ap, ap₂, bytes_eq, codes, is_some, if◌then◌else◌}
use Rattle.std.specs.Str.{is_utf8}
use Rattle.std.proofs.lemmas.Bool.{and_parts}
use Rattle.std.proofs.lemmas.List.{append-nil}
use Rattle.clap.specs.Faults.{built_fault, check_fault, entered_fault, fault_of, level_fault, option_fault, settle_fault, turn_fault, use_fault, walk_fault, word_fault}
use Rattle.clap.specs.Kinds.{Kinds, or_else}
use Rattle.clap.specs.Lexer.{long_of, short_of}
use Rattle.clap.specs.Simple.{App, entered, names_of}
use Rattle.clap.specs.Walk as walk
use Rattle.clap.specs.Walk.{Held, Row, Rule, Step, Text, Waiting, Walk, arg_by_id, arg_by_long, finished, is_pending, rows_after, settled, used, word_met}
use Rattle.clap.specs.declared.error.kind.ErrorKind.{ErrorKind}
use Rattle.clap.specs.declared.error.kind.ErrorKind.TheVariants as kind
use Rattle.command_words.specs.ClapCommand.{rows_of_words, taken_by, values_of_rows, words_app}
use Rattle.command_words.specs.Given.{Named, are_apart, given_by, given_for, values_in, values_of}
use Rattle.command_words.specs.Items.{Form, Item, end, form_of, is_option_name, item_then, items_from, named, named_then, option, other, plain, text, value_then}
use Rattle.command_words.specs.Taken.{is_none_of, is_taken}
use Rattle.command_words.specs.Texts.{are_texts}
use Rattle.command_words.proofs.ClapRules.{LooksUp, app_is_built, built_app, first_is, known, looks_up, no_default_rows, no_defaults, row, rules, set_rule, shape, unknown}
use Rattle.command_words.proofs.ClapSteps.{IsKnown, Place, Settling, after, ahead, fails, given_behind, goes, held, idle_at, names, none, nothing_ahead, one, outcome, outcome_end, passed_at, pick, position, refused_at, settled_by, settles, settles_by, text_next, texted, two, waiting_at, waiting_held}
use Rattle.command_words.proofs.ClapTurns.{end_fault, end_met, known_fault, known_met, no_value, or_else_none, plain_fault, plain_met, short_fault, turn_is, turn_refused, unknown_fault, value_met, walked_is}
use Rattle.command_words.proofs.WordForms.{Looks, as_end, as_named, as_other, as_plain, looks, two_dashes}

-- ---- the last word is read

nothing_more : (now : List Named) → are_apart now ≡ true → given_behind now (Some []) ≡ Some (map row now)
nothing_more now apart =
    ap (λ (xs : List Named). if are_apart xs then Some (map row xs) else None) (append-nil now)
    ∙ ap (λ (b : Bool). if b then Some (map row now) else None) apart

ended : (all : List Named) (next : Option Named) (place : Place) (ends : Bool) → Settling all next → outcome (idle_at all next place ends) [] ≡ given_behind all (ahead next (Some []))
ended all next place ends (fails k fault nothing) =
    outcome_end (idle_at all next place ends)
    ∙ ap (λ (ks : Kinds). if is_none_of ks then Some (settled rules (held all next)).rows else None) fault ∙ sym (nothing (Some []))
ended all next place ends (goes now fine done apart same) =
    outcome_end (idle_at all next place ends)
    ∙ ap₂ (λ (ks : Kinds) (h : Held). if is_none_of ks then Some h.rows else None) fine done ∙ sym (same (Some []) ∙ nothing_more now apart)

-- ---- the words behind `--`

abbrev read_texts : Place → List Text → Option (List Named)
read_texts place words = given_for (map text words) (names place)

texts_read : (place : Place) (word : Text) (words : List Text) → read_texts place (word ∷ words) ≡ texted place word (λ p. read_texts p words)
texts_read none word words = refl
texts_read one word words = refl
texts_read two word words = refl

texts_behind : (words : List Text) (place : Place) (all : List Named) (next : Option Named) → IsKnown next → are_apart all ≡ true
    → outcome (idle_at all next place true) words ≡ given_behind all (ahead next (read_texts place words))
texts_behind [] place all next argument apart = ended all next place true (settles all next argument apart)
texts_behind (word ∷ words) place all next argument apart =
    text_next all next true word words (λ p. read_texts p words) (texts_behind words) place (refl, refl) (settles all next argument apart)
    ∙ ap (λ (more : Option (List Named)). given_behind all (ahead next more)) (sym (texts_read place word words))

-- ---- the words before it

abbrev given_at : Place → List Item → Option (List Named)
given_at place items = given_for items (names place)

abbrev read : Place → List Text → Option (List Named)
read place words = option_and_then (given_at place) (items_from words None)

-- the first word is the value of an option
abbrev read_value : Place → Text → List Text → Option (List Named)
read_value place name words = option_and_then (given_at place) (items_from words (Some name))

add_text : (place : Place) (word : Text) (items : Option (List Item))
    → option_and_then (given_at place) (option_map (λ rest. text word ∷ rest) items) ≡ texted place word (λ p. option_and_then (given_at p) items)
add_text none word None = refl
add_text one word None = refl
add_text two word None = refl
add_text none word (Some items) = refl
add_text one word (Some items) = refl
add_text two word (Some items) = refl

add_option : (place : Place) (name value : Text) (items : Option (List Item))
    → option_and_then (given_at place) (option_map (λ rest. option name value ∷ rest) items) ≡ option_map (λ rest. (name, value) ∷ rest) (option_and_then (given_at place) items)
add_option place name value None = refl
add_option place name value (Some items) = refl

abbrev IsOption : Text → Type 0
IsOption name = arg_by_id rules name ≡ Some (set_rule name (Some name) None)

record Reads (words : List Text) : Type 0 where
  idle : (place : Place) (all : List Named) (next : Option Named) → IsKnown next → are_apart all ≡ true
      → outcome (idle_at all next place false) words ≡ given_behind all (ahead next (read place words))
  waits : (place : Place) (all : List Named) (name : Text) → IsOption name → are_apart all ≡ true
      → outcome (waiting_at all name place false) words ≡ given_behind all (read_value place name words)

module _ (all : List Named) (name : Text) (place : Place) (ends : Bool) (by_id : IsOption name) where
  -- nothing is read where an option is left without its value
  never_ends : outcome (waiting_at all name place ends) [] ≡ None
  never_ends =
      outcome_end (waiting_at all name place ends)
      ∙ ap (λ (ks : Kinds). if is_none_of ks then Some (settled rules (waiting_held all name)).rows else None) (no_value name by_id (waiting_held all name) refl)

module _ (all : List Named) (name : Text) (by_id : IsOption name) (word : Text) where
  text_refused : (place : Place) → (k : ErrorKind) × (turn_fault shape [] (waiting_at all name place true) word ≡ k ∷ [])
  text_refused none = (kind.InvalidValue, pick (is_pending (set_rule (codes "first") None (Some 1)) (Some (name, []))) [] (settle_fault rules false (waiting_held all name)) ∙ no_value name by_id (waiting_held all name) refl)
  text_refused one = (kind.InvalidValue, pick (is_pending (set_rule (codes "second") None (Some 2)) (Some (name, []))) [] (settle_fault rules false (waiting_held all name)) ∙ no_value name by_id (waiting_held all name) refl)
  text_refused two = (kind.UnknownArgument, refl)

never_given : (all : List Named) (name : Text) (place : Place) → IsOption name → (words : List Text) → outcome (waiting_at all name place true) words ≡ None
never_given all name place by_id [] = never_ends all name place true by_id
never_given all name place by_id (word ∷ words) =
    let x = text_refused all name by_id word place in
    refused_at (waiting_at all name place true) word words x.0 [] x.1

-- an option that waits, and one that has its value, with what comes next
abbrev awaiting : Text → Held → Held × Step
awaiting name h = (record h { pending = Some (name, []) }, walk.next (walk.option name))

abbrev going_on : Held → Held × Step
going_on h = (h, walk.next walk.idle)

module _ (word : Text) (words : List Text) (is_text : is_utf8 word ≡ true) (behind : Reads words) where
  -- what is read, by the form of the first word
  abbrev by_form : Place → Form → Option (List Named)
  by_form place form = option_and_then (given_at place) (item_then form word words (items_from words))

  abbrev by_option : Place → Text → Option Text → Bool → Option (List Named)
  by_option place name value b = option_and_then (given_at place) (if b then named_then name value (items_from words) else None)

  module _ (place : Place) (all : List Named) (next : Option Named) (argument : IsKnown next) (apart : are_apart all ≡ true) where
    abbrev Goes : Form → Type 0
    Goes form = outcome (idle_at all next place false) (word ∷ words) ≡ given_behind all (ahead next (by_form place form))

    goes_plain : bytes_eq word two_dashes ≡ false → long_of word ≡ None → short_of word ≡ None → Goes plain
    goes_plain dashes long short =
        text_next all next false word words (λ p. read p words) behind.idle place
        (plain_met walk.idle (held all next) (position place) word refl dashes long short, plain_fault walk.idle (held all next) (position place) word refl dashes long short)
        (settles all next argument apart)
        ∙ ap (λ (more : Option (List Named)). given_behind all (ahead next more)) (sym (add_text place word (items_from words None)))

    goes_end : bytes_eq word two_dashes ≡ true → Goes end
    goes_end dashes =
        let met = end_met walk.idle (held all next) (position place) word refl dashes in
        let fault = end_fault walk.idle (held all next) (position place) word refl dashes in
        passed_at (idle_at all next place false) word words (idle_at all next place true)
        (turn_is walk.idle (held all next) (position place) word [] (held all next, walk.trailing (position place)) fault met)
        (walked_is walk.idle (held all next) (position place) word (held all next, walk.trailing (position place)) met)
        ∙ texts_behind words place all next argument apart

    goes_other : (b : ℕ) (bs : Text) → word ≡ 45 ∷ b ∷ bs → bytes_eq word two_dashes ≡ false → long_of word ≡ None → short_of word ≡ Some (b ∷ bs) → Goes other
    goes_other b bs is dashes long short =
        refused_at (idle_at all next place false) word words kind.UnknownArgument []
        (turn_refused walk.idle (held all next) (position place) word kind.UnknownArgument []
        (short_fault walk.idle (held all next) (position place) word refl b bs is is_text refl dashes long short))
        ∙ sym (nothing_ahead all next)

    module _ (name : Text) (value : Option Text) (dashes : bytes_eq word two_dashes ≡ false) (long : long_of word ≡ Some (name, value)) where
      goes_unknown : is_option_name name ≡ false → arg_by_long rules name ≡ None → Goes (named name value)
      goes_unknown no_option no_argument =
          refused_at (idle_at all next place false) word words kind.UnknownArgument []
          (turn_refused walk.idle (held all next) (position place) word kind.UnknownArgument []
          (unknown_fault walk.idle (held all next) (position place) word refl name value dashes long no_argument))
          ∙ sym (ap (λ (b : Bool). given_behind all (ahead next (by_option place name value b))) no_option ∙ nothing_ahead all next)

    module _ (name : Text) (is_option : is_option_name name ≡ true) (by_long : arg_by_long rules name ≡ Some (set_rule name (Some name) None)) (by_id : IsOption name) (dashes : bytes_eq word two_dashes ≡ false) where
      goes_waiting : long_of word ≡ Some (name, None) → Settling all next → Goes (named name None)
      goes_waiting long (fails k fault nothing) =
          refused_at (idle_at all next place false) word words k []
          (turn_refused walk.idle (held all next) (position place) word k []
          (known_fault walk.idle (held all next) (position place) word refl name None dashes long name by_long ∙ fault))
          ∙ sym (nothing (by_form place (named name None)))
      goes_waiting long (goes now fine done apart' same) =
          let met = known_met walk.idle (held all next) (position place) word refl name None dashes long name by_long ∙ ap (awaiting name) done in
          passed_at (idle_at all next place false) word words (waiting_at now name place false)
          (turn_is walk.idle (held all next) (position place) word [] (awaiting name (held now None))
          (known_fault walk.idle (held all next) (position place) word refl name None dashes long name by_long ∙ fine) met)
          (walked_is walk.idle (held all next) (position place) word (awaiting name (held now None)) met)
          ∙ behind.waits place now name by_id apart'
          ∙ sym (same (by_form place (named name None)) ∙ ap (λ (b : Bool). given_behind now (by_option place name None b)) is_option)

      module _ (value : Text) (long : long_of word ≡ Some (name, Some value)) where
        abbrev rule : Rule
        rule = set_rule name (Some name) None

        given_now : (now : List Named) → given_behind now (by_form place (named name (Some value))) ≡ given_behind now (ahead (Some (name, value)) (read place words))
        given_now now =
            ap (λ (b : Bool). given_behind now (by_option place name (Some value) b)) is_option
            ∙ ap (given_behind now) (add_option place name value (items_from words None))

        first_fault : word_fault shape [] false walk.idle word (held all next) ≡ or_else (settle_fault rules false (held all next)) (use_fault false rule (value ∷ []) (settled rules (held all next)).rows)
        first_fault = known_fault walk.idle (held all next) (position place) word refl name (Some value) dashes long name by_long

        module _ (now : List Named) (fine : settle_fault rules false (held all next) ≡ []) (done : settled rules (held all next) ≡ held now None)
            (same : (more : Option (List Named)) → given_behind all (ahead next more) ≡ given_behind now more) where
          then_fault : word_fault shape [] false walk.idle word (held all next) ≡ settle_fault rules false (held now (Some (name, value)))
          then_fault =
              first_fault ∙ ap₂ (λ (ks : Kinds) (h : Held). or_else ks (use_fault false rule (value ∷ []) h.rows)) fine done
              ∙ sym (settles_by now (name, value) (Some name, None, by_id))

          then_met : word_met rules [] false walk.idle (position place) word (held all next) ≡ going_on (settled rules (held now (Some (name, value))))
          then_met =
              known_met walk.idle (held all next) (position place) word refl name (Some value) dashes long name by_long
              ∙ ap (λ (h : Held). going_on (record { rows = used rule (value ∷ []) h.rows; pending = None; skip = 0 })) done
              ∙ ap going_on (sym (settled_by now (name, value) (Some name, None, by_id)))

          then_goes : Settling now (Some (name, value)) → Goes (named name (Some value))
          then_goes (fails k fault nothing) =
              refused_at (idle_at all next place false) word words k []
              (turn_refused walk.idle (held all next) (position place) word k [] (then_fault ∙ fault))
              ∙ sym (same (by_form place (named name (Some value))) ∙ given_now now ∙ nothing (read place words))
          then_goes (goes now' fine' done' apart' same') =
              let met = then_met ∙ ap going_on done' in
              passed_at (idle_at all next place false) word words (idle_at now' None place false)
              (turn_is walk.idle (held all next) (position place) word [] (going_on (held now' None)) (then_fault ∙ fine') met)
              (walked_is walk.idle (held all next) (position place) word (going_on (held now' None)) met)
              ∙ behind.idle place now' None tt apart'
              ∙ sym (same (by_form place (named name (Some value))) ∙ given_now now ∙ same' (read place words))

        goes_valued : Settling all next → Goes (named name (Some value))
        goes_valued (fails k fault nothing) =
            refused_at (idle_at all next place false) word words k []
            (turn_refused walk.idle (held all next) (position place) word k []
            (first_fault ∙ ap (λ (ks : Kinds). or_else ks (use_fault false rule (value ∷ []) (settled rules (held all next)).rows)) fault))
            ∙ sym (nothing (by_form place (named name (Some value))))
        goes_valued (goes now fine done apart' same) =
            then_goes now fine done same (settles now (Some (name, value)) (Some name, None, by_id) apart')

    goes_named : (name : Text) (value : Option Text) → bytes_eq word two_dashes ≡ false → long_of word ≡ Some (name, value) → LooksUp name → Goes (named name value)
    goes_named name value dashes long (unknown no_option no_argument) = goes_unknown name value dashes long no_option no_argument
    goes_named name None dashes long (known is_option by_long by_id) = goes_waiting name is_option by_long by_id dashes long (settles all next argument apart)
    goes_named name (Some value) dashes long (known is_option by_long by_id) = goes_valued name is_option by_long by_id dashes value long (settles all next argument apart)

    by_its_form : (form : Form) → form_of word ≡ form → Goes form → Goes (form_of word)
    by_its_form form is h = h ∙ sym (ap (λ (f : Form). given_behind all (ahead next (by_form place f))) is)

    goes_on : Looks word → Goes (form_of word)
    goes_on (as_plain form dashes long short) = by_its_form plain form (goes_plain dashes long short)
    goes_on (as_named name value form dashes long) = by_its_form (named name value) form (goes_named name value dashes long (looks_up name))
    goes_on (as_end form dashes) = by_its_form end form (goes_end dashes)
    goes_on (as_other b bs is form dashes long short) = by_its_form other form (goes_other b bs is dashes long short)

  module _ (place : Place) (all : List Named) (name : Text) (by_id : IsOption name) (apart : are_apart all ≡ true) where
    abbrev Takes : Form → Type 0
    Takes form = outcome (waiting_at all name place false) (word ∷ words) ≡ given_behind all (option_and_then (given_at place) (value_then form name word (items_from words None)))

    takes_plain : bytes_eq word two_dashes ≡ false → long_of word ≡ None → short_of word ≡ None → Takes plain
    takes_plain dashes long short =
        let met = plain_met (walk.option name) (waiting_held all name) (position place) word refl dashes long short ∙ value_met name by_id (map row all) word in
        let fault = plain_fault (walk.option name) (waiting_held all name) (position place) word refl dashes long short in
        passed_at (waiting_at all name place false) word words (idle_at all (Some (name, word)) place false)
        (turn_is (walk.option name) (waiting_held all name) (position place) word [] (going_on (held all (Some (name, word)))) fault met)
        (walked_is (walk.option name) (waiting_held all name) (position place) word (going_on (held all (Some (name, word)))) met)
        ∙ behind.idle place all (Some (name, word)) (Some name, None, by_id) apart
        ∙ ap (given_behind all) (sym (add_option place name word (items_from words None)))

    takes_end : bytes_eq word two_dashes ≡ true → Takes end
    takes_end dashes =
        let met = end_met (walk.option name) (waiting_held all name) (position place) word refl dashes in
        let fault = end_fault (walk.option name) (waiting_held all name) (position place) word refl dashes in
        passed_at (waiting_at all name place false) word words (waiting_at all name place true)
        (turn_is (walk.option name) (waiting_held all name) (position place) word [] (waiting_held all name, walk.trailing (position place)) fault met)
        (walked_is (walk.option name) (waiting_held all name) (position place) word (waiting_held all name, walk.trailing (position place)) met)
        ∙ never_given all name place by_id words

    refused_value : (k : ErrorKind) (form : Form) → word_fault shape [] false (walk.option name) word (waiting_held all name) ≡ k ∷ [] → value_then form name word (items_from words None) ≡ None → Takes form
    refused_value k form fault nothing =
        refused_at (waiting_at all name place false) word words k []
        (turn_refused (walk.option name) (waiting_held all name) (position place) word k [] fault)
        ∙ sym (ap (λ (x : Option (List Item)). given_behind all (option_and_then (given_at place) x)) nothing)

    takes_other : (b : ℕ) (bs : Text) → word ≡ 45 ∷ b ∷ bs → bytes_eq word two_dashes ≡ false → long_of word ≡ None → short_of word ≡ Some (b ∷ bs) → Takes other
    takes_other b bs is dashes long short =
        refused_value kind.UnknownArgument other (short_fault (walk.option name) (waiting_held all name) (position place) word refl b bs is is_text refl dashes long short) refl

    module _ (other_name : Text) (value : Option Text) (dashes : bytes_eq word two_dashes ≡ false) (long : long_of word ≡ Some (other_name, value)) where
      option_refused : (value' : Option Text) → option_fault rules false (set_rule other_name (Some other_name) None) value' (waiting_held all name) ≡ kind.InvalidValue ∷ []
      option_refused None = no_value name by_id (waiting_held all name) refl
      option_refused (Some v) =
          ap (λ (ks : Kinds). or_else ks (use_fault false (set_rule other_name (Some other_name) None) (v ∷ []) (settled rules (waiting_held all name)).rows))
          (no_value name by_id (waiting_held all name) refl)

      takes_named : LooksUp other_name → Takes (named other_name value)
      takes_named (unknown no_option no_argument) =
          refused_value kind.UnknownArgument (named other_name value)
          (unknown_fault (walk.option name) (waiting_held all name) (position place) word refl other_name value dashes long no_argument) refl
      takes_named (known is_option by_long by_id') =
          refused_value kind.InvalidValue (named other_name value)
          (known_fault (walk.option name) (waiting_held all name) (position place) word refl other_name value dashes long other_name by_long ∙ option_refused value) refl

    takes_by : (form : Form) → form_of word ≡ form → Takes form → Takes (form_of word)
    takes_by form is h = h ∙ sym (ap (λ (f : Form). given_behind all (option_and_then (given_at place) (value_then f name word (items_from words None)))) is)

    takes_on : Looks word → Takes (form_of word)
    takes_on (as_plain form dashes long short) = takes_by plain form (takes_plain dashes long short)
    takes_on (as_named other_name value form dashes long) = takes_by (named other_name value) form (takes_named other_name value dashes long (looks_up other_name))
    takes_on (as_end form dashes) = takes_by end form (takes_end dashes)
    takes_on (as_other b bs is form dashes long short) = takes_by other form (takes_other b bs is dashes long short)

  reads_more : Reads (word ∷ words)
  reads_more = record {
    idle = λ place all next argument apart. goes_on place all next argument apart (looks word);
    waits = λ place all name by_id apart. takes_on place all name by_id apart (looks word);
  }

reads : (words : List Text) → are_texts words ≡ true → Reads words
reads [] texts = record {
  idle = λ place all next argument apart. ended all next place false (settles all next argument apart);
  waits = λ place all name by_id apart. never_ends all name place false by_id;
}
reads (word ∷ words) texts =
    let parts = and_parts (is_utf8 word) (are_texts words) texts in
    reads_more word words parts.0 (reads words parts.1)

-- ---- the whole

abbrev start : Walk
start = idle_at [] None none false

module _ (words : List Text) where
  abbrev faults : Kinds
  faults = or_else (walk_fault shape [] start words) (settle_fault rules false (after start words).held)

  abbrev rows_found : List Row
  rows_found = (settled rules (after start words).held).rows

  none_entered : (stop : Option (Text × List Text)) → entered built_app stop ≡ None
  none_entered None = refl
  none_entered (Some p) = refl

  none_fails : (stop : Option (Text × List Text)) → entered_fault built_app stop ≡ []
  none_fails None = refl
  none_fails (Some p) = refl

  level_is : level_fault shape [] walk.nothing_held words false [] ≡ faults
  level_is =
      ap (λ (ks : Kinds). or_else (walk_fault shape [] start words) (or_else (settle_fault rules false (after start words).held) (or_else ks (check_fault shape (finished rules (after start words).held) false))))
      (no_defaults rows_found)
      ∙ ap (or_else (walk_fault shape [] start words)) (or_else_none (settle_fault rules false (after start words).held))

  fault_is : fault_of words_app words ≡ faults
  unfolding words_app
  fault_is =
      ap (λ (a : App). built_fault a walk.nothing_held words) app_is_built
      ∙ ap₂ (λ (o : Option (Text × List Row)) (ks : Kinds). level_fault shape [] walk.nothing_held words (is_some o) ks)
      (none_entered (after start words).stopped) (none_fails (after start words).stopped)
      ∙ level_is

  rows_are : rows_of_words words ≡ rows_found
  unfolding rows_of_words words_app
  rows_are =
      ap (λ (a : App). rows_after a.top.rules (names_of a) words) app_is_built ∙ no_default_rows rows_found

  chosen : (b : Bool) (rows : List Row) → (if b then Some (values_of_rows rows) else None) ≡ option_map values_of_rows (if b then Some rows else None)
  chosen true rows = refl
  chosen false rows = refl

  taken_is : taken_by words ≡ option_map values_of_rows (outcome start words)
  unfolding taken_by is_taken
  taken_is =
      ap₂ (λ (ks : Kinds) (rows : List Row). if is_none_of ks then Some (values_of_rows rows) else None) fault_is rows_are
      ∙ chosen (is_none_of faults) rows_found

values_are : (all : List Named) → values_of_rows (map row all) ≡ values_in all
values_are all = λ i. record {
  first = first_is all (codes "first") i;
  second = first_is all (codes "second") i;
  k = first_is all (codes "k") i;
  mu = first_is all (codes "mu") i;
  topic = first_is all (codes "topic") i;
  run = first_is all (codes "run") i;
}

valued : (all : List Named) (b : Bool) → option_map values_of_rows (if b then Some (map row all) else None) ≡ (if b then Some (values_in all) else None)
valued all true = ap Some (values_are all)
valued all false = refl

all_valued : (more : Option (List Named)) → option_map values_of_rows (given_behind [] more) ≡ option_and_then values_of more
all_valued None = refl
all_valued (Some all) = valued all (are_apart all)

-- what the items of words give is what clap takes
pub given_is_taken : (words : List Text) → are_texts words ≡ true → given_by words ≡ taken_by words
unfolding given_by
given_is_taken words texts =
    sym (taken_is words ∙ ap (option_map values_of_rows) ((reads words texts).idle none [] None tt refl) ∙ all_valued (read none words))
