-- What clap makes of the command, and how it looks at one use of an argument.
use Rattle.std.proofs.Common.{◌≡◌, ◌∙◌, ℕ, Bool, true, false, ◌&&◌, ◌||◌, cond, List, [], ◌∷◌, ◌++◌, map, fold, find, slice_get, Option, None, Some, option_map, option_and_then, codes, refl, sym, ap, subst, bytes_eq, if◌then◌else◌}
use Rattle.std.proofs.lemmas.Bool.{or_parts, or_right}
use Rattle.std.proofs.lemmas.List.{append-nil, map-append}
use Rattle.std.specs.List.{list_any}
use Rattle.clap.specs.Faults.{defaults_fault, given_default_fault, use_fault}
use Rattle.clap.specs.Kinds.{or_else}
use Rattle.clap.specs.Simple.{App, Shape, built, filled, new_rule}
use Rattle.clap.specs.Walk.{Row, Rule, Text, arg_by_id, arg_by_long, at_row, first_of, has_row, more_values, used, with_default, with_values}
use Rattle.clap.specs.declared.error.kind.ErrorKind.TheVariants as kind
use Rattle.clap.specs.declared.builder.value_parser.Reading.TheVariants as reading
use Rattle.clap.specs.declared.parser.matches.ValueSource.TheVariants.{CommandLine}
use Rattle.command_words.specs.ClapCommand.{words_app}
use Rattle.command_words.specs.Given.{Named, has_name, value_of}
use Rattle.command_words.specs.Items.{is_option_name}
use Rattle.command_words.proofs.NamedLemmas.{same_bytes}

-- ---- the arguments as they are built

-- an argument with one value, by its name, its long name and its place
abbrev pub set_rule : Text → Option Text → Option ℕ → Rule
set_rule id long index = record (filled (new_rule id)) { long = long; index = index }

abbrev rule_at : Text × Option Text × Option ℕ → Rule
rule_at x = set_rule x.0 x.1 x.2

abbrev arguments : List (Text × Option Text × Option ℕ)
arguments =
    (codes "first", None, Some 1) ∷ (codes "second", None, Some 2) ∷ (codes "k", Some (codes "k"), None)
    ∷ (codes "mu", Some (codes "mu"), None) ∷ (codes "topic", Some (codes "topic"), None) ∷ (codes "run", Some (codes "run"), None) ∷ []

abbrev pub rules : List Rule
rules = map rule_at arguments

abbrev pub shape : Shape
shape = record {
  name = codes "indri";
  aliases = [];
  rules = rules;
  is_plain = true;
  is_leaf = true;
  no_binary_name = true;
  disable_help_flag = true;
  disable_help_subcommand = true;
  disable_version_flag = false;
  propagate_version = false;
  has_version = false;
  has_long_version = false;
  args_override_self = false;
  arg_required_else_help = false;
  subcommand_required = false;
  subcommand_negates_reqs = false;
  is_built = true;
}

abbrev pub built_app : App
built_app = record { top = shape; subs = [] }

pub app_is_built : built words_app ≡ built_app
unfolding words_app
app_is_built = refl

-- ---- defaults: there are none

either_way : {X : Type 0} (b : Bool) (x : X) → (if b then x else x) ≡ x
either_way true x = refl
either_way false x = refl

defaults_none : (rows : List Row) (xs : List (Text × Option Text × Option ℕ)) → defaults_fault rows (map rule_at xs) ≡ []
unfolding defaults_fault
defaults_none rows [] = refl
defaults_none rows (x ∷ xs) =
    ap (λ (b : Bool). or_else (if b then [] else given_default_fault (rule_at x) []) (defaults_fault (with_default rows (rule_at x)) (map rule_at xs))) (or_right (has_row x.0 rows) true refl)
    ∙ defaults_none (with_default rows (rule_at x)) xs

pub no_defaults : (rows : List Row) → defaults_fault rows rules ≡ []
no_defaults rows = defaults_none rows arguments

defaults_kept : (rows : List Row) (xs : List (Text × Option Text × Option ℕ)) → fold with_default rows (map rule_at xs) ≡ rows
defaults_kept rows [] = refl
defaults_kept rows (x ∷ xs) =
    ap (λ (rs : List Row). fold with_default rs (map rule_at xs)) (either_way (has_row x.0 rows) rows) ∙ defaults_kept rows xs

pub no_default_rows : (rows : List Row) → fold with_default rows rules ≡ rows
no_default_rows rows = defaults_kept rows arguments

-- ---- the names of options

pub data LooksUp (name : Text) : Type 0 where
  known : is_option_name name ≡ true → arg_by_long rules name ≡ Some (set_rule name (Some name) None) → arg_by_id rules name ≡ Some (set_rule name (Some name) None) → LooksUp name
  unknown : is_option_name name ≡ false → arg_by_long rules name ≡ None → LooksUp name

module _ (name : Text) where
  none_of_them : bytes_eq (codes "k") name ≡ false → bytes_eq (codes "mu") name ≡ false → bytes_eq (codes "topic") name ≡ false → bytes_eq (codes "run") name ≡ false → LooksUp name
  none_of_them k mu topic run = unknown (rw (k, mu, topic, run) refl) (rw (k, mu, topic, run) refl)

  run_or_none : (b : Bool) → bytes_eq (codes "run") name ≡ b → bytes_eq (codes "k") name ≡ false → bytes_eq (codes "mu") name ≡ false → bytes_eq (codes "topic") name ≡ false → LooksUp name
  run_or_none true e k mu topic = subst LooksUp (same_bytes (codes "run") name e) (known refl refl refl)
  run_or_none false e k mu topic = none_of_them k mu topic e

  topic_or_run : (b : Bool) → bytes_eq (codes "topic") name ≡ b → bytes_eq (codes "k") name ≡ false → bytes_eq (codes "mu") name ≡ false → LooksUp name
  topic_or_run true e k mu = subst LooksUp (same_bytes (codes "topic") name e) (known refl refl refl)
  topic_or_run false e k mu = run_or_none (bytes_eq (codes "run") name) refl k mu e

  mu_or_others : (b : Bool) → bytes_eq (codes "mu") name ≡ b → bytes_eq (codes "k") name ≡ false → LooksUp name
  mu_or_others true e k = subst LooksUp (same_bytes (codes "mu") name e) (known refl refl refl)
  mu_or_others false e k = topic_or_run (bytes_eq (codes "topic") name) refl k e

  k_or_others : (b : Bool) → bytes_eq (codes "k") name ≡ b → LooksUp name
  k_or_others true e = subst LooksUp (same_bytes (codes "k") name e) (known refl refl refl)
  k_or_others false e = mu_or_others (bytes_eq (codes "mu") name) refl e

  pub looks_up : LooksUp name
  looks_up = k_or_others (bytes_eq (codes "k") name) refl

-- ---- rows of one value

abbrev pub row : Named → Row
row g = record {
  id = g.0;
  values = g.1 ∷ [];
  count = None;
  source = Some CommandLine;
  reading = reading.AsWritten;
}

pub has_row_is : (all : List Named) (name : Text) → has_row name (map row all) ≡ list_any (has_name name) all
has_row_is [] name = refl
has_row_is (g ∷ all) name = ap (λ (b : Bool). bytes_eq g.0 name || b) (has_row_is all name)

at_end : (all : List Named) (name : Text) (change : Row → List Row) (missing : List Row) → list_any (has_name name) all ≡ false → at_row name change missing (map row all) ≡ map row all ++ missing
at_end [] name change missing new = refl
at_end (g ∷ all) name change missing new =
    let parts = or_parts (bytes_eq g.0 name) (list_any (has_name name) all) new in
    rw parts.0 (ap (λ (rs : List Row). row g ∷ rs) (at_end all name change missing parts.1))

found_is : (all : List Named) (name : Text) (g : Named) (b : Bool)
    → option_and_then (λ (r : Row). slice_get r.values 0) (find (λ (r : Row). bytes_eq r.id name) (map row all)) ≡ option_map (λ (x : Named). x.1) (find (has_name name) all)
    → option_and_then (λ (r : Row). slice_get r.values 0) (cond b (Some (row g)) (find (λ (r : Row). bytes_eq r.id name) (map row all)))
    ≡ option_map (λ (x : Named). x.1) (cond b (Some g) (find (has_name name) all))
found_is all name g true rest = refl
found_is all name g false rest = rest

pub first_is : (all : List Named) (name : Text) → first_of name (map row all) ≡ value_of all name
first_is [] name = refl
first_is (g ∷ all) name = found_is all name g (bytes_eq g.0 name) (first_is all name)

module _ (name value : Text) (long : Option Text) (index : Option ℕ) (all : List Named) where
  -- a use of an argument is refused where there was one before
  pub use_again : list_any (has_name name) all ≡ true → use_fault false (set_rule name long index) (value ∷ []) (map row all) ≡ kind.ArgumentConflict ∷ []
  use_again there = ap (λ (b : Bool). or_else (if b && true then kind.ArgumentConflict ∷ [] else []) []) (has_row_is all name ∙ there)

  pub use_first : list_any (has_name name) all ≡ false → use_fault false (set_rule name long index) (value ∷ []) (map row all) ≡ []
  use_first new = ap (λ (b : Bool). or_else (if b && true then kind.ArgumentConflict ∷ [] else []) []) (has_row_is all name ∙ new)

  pub use_adds : list_any (has_name name) all ≡ false → used (set_rule name long index) (value ∷ []) (map row all) ≡ map row (all ++ (name, value) ∷ [])
  use_adds new =
      ap (with_values name reading.AsWritten CommandLine (value ∷ [])) (at_end all name (λ r. []) [] new ∙ append-nil (map row all))
      ∙ at_end all name (more_values CommandLine (value ∷ [])) (row (name, value) ∷ []) new
      ∙ sym (map-append row all ((name, value) ∷ []))
