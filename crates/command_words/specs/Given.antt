-- What the items behind a command give: positional words, in their order, and values of options.
use Rattle.std.specs.Prelude.{ℕ, Bool, true, ◌&&◌, not, find, List, [], ◌∷◌, Option, None, Some, codes, option_and_then, option_map, if◌then◌else◌}
use Rattle.std.specs.List.{list_any}
use Rattle.std.specs.Str.{bytes_eq}
use Rattle.command_words.specs.Items.{Item, items_of, option, text}
use Rattle.command_words.specs.declared.given.Given.{Given}

-- the values of two positional words and four options
pub record Values : Type 0 where
  pub first : Option (List ℕ)
  pub second : Option (List ℕ)
  pub k : Option (List ℕ)
  pub mu : Option (List ℕ)
  pub topic : Option (List ℕ)
  pub run : Option (List ℕ)

abbrev pub told_given : Given → Values
told_given given = record {
  first = option_map (λ s. s.now) given.first;
  second = option_map (λ s. s.now) given.second;
  k = option_map (λ s. s.now) given.k;
  mu = option_map (λ s. s.now) given.mu;
  topic = option_map (λ s. s.now) given.topic;
  run = option_map (λ s. s.now) given.run;
}

-- a name, and what is given for it
abbrev pub Named : Type 0
Named = List ℕ × List ℕ

-- what items give: an option's value for its own name, and the texts for these names, in their order. There are no more
-- texts than names
abbrev pub given_for : List Item → List (List ℕ) → Option (List Named)
given_for [] names = Some []
given_for (option name value ∷ items) names = option_map (λ rest. (name, value) ∷ rest) (given_for items names)
given_for (text t ∷ items) [] = None
given_for (text t ∷ items) (name ∷ names) = option_map (λ rest. (name, t) ∷ rest) (given_for items names)

abbrev pub has_name : List ℕ → Named → Bool
has_name name given = bytes_eq given.0 name

-- for no name something is given twice
abbrev pub are_apart : List Named → Bool
are_apart [] = true
are_apart (given ∷ rest) = not (list_any (has_name given.0) rest) && are_apart rest

abbrev pub value_of : List Named → List ℕ → Option (List ℕ)
value_of all name = option_map (λ given. given.1) (find (has_name name) all)

abbrev pub values_in : List Named → Values
values_in all = record {
  first = value_of all (codes "first");
  second = value_of all (codes "second");
  k = value_of all (codes "k");
  mu = value_of all (codes "mu");
  topic = value_of all (codes "topic");
  run = value_of all (codes "run");
}

abbrev pub values_of : List Named → Option Values
values_of all = if are_apart all then Some (values_in all) else None

-- the names of the positional words
abbrev pub text_names : List (List ℕ)
text_names = codes "first" ∷ codes "second" ∷ []

-- what the words give, where they are items with at most two texts and no option twice
unfoldable pub given_by : List (List ℕ) → Option Values
given_by words = option_and_then values_of (option_and_then (λ items. given_for items text_names) (items_of words))
