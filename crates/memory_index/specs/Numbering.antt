-- What the numbering of a document's tokens does to the terms, and the noting of its names to the names.
use Rattle.std.specs.Prelude.{◌≡◌, ◌<◌, ◌≤◌, ℕ, ◌+◌, List, [], ◌∷◌, ◌++◌, ◌||◌, length, map, take, drop, slice_index_or}
use Rattle.std.specs.List.{All, Contains}
use Rattle.std.specs.Set.{is_member}
use Rattle.std.specs.Str.{bytes_eq}
use Rattle.ri_base.specs.Collection.{names_of}
use Rattle.ri_base.specs.Documents.{Document, IsDocument}
use Rattle.ri_base.specs.declared.held.Held.{Held}

-- the terms went from old to new by new ones at the end, each one of the tokens; the numbers are those of the tokens
pub record IsNumbering (old new : List (List ℕ)) (tokens : List (List ℕ)) (numbers : List ℕ) : Type 0 where
  pub kept : take (length old) new ≡ old
  pub few : length new ≤ length old + length tokens
  pub more : length old ≤ length new
  pub told : map (λ n. slice_index_or new n []) numbers ≡ tokens
  pub small : All (λ n. n < length new) numbers
  pub used : All (Contains tokens) (drop (length old) new)

-- the names went from old to new by those of more that weren't there
pub record AreNoted (old new more : List (List ℕ)) : Type 0 where
  pub kept : take (length old) new ≡ old
  pub more_than : length old ≤ length new
  pub together : (q : List ℕ) → is_member bytes_eq new q ≡ (is_member bytes_eq more q || is_member bytes_eq old q)

-- the documents grew by one that stands for this, the terms by its tokens, and the names by its names
pub record Holds (old new names named : List (List ℕ)) (docs more : List Held) (doc : Document) : Type 0 where
  pub held : Held
  pub pushed : more ≡ docs ++ held ∷ []
  pub docno : held.docno ≡ doc.docno
  pub fields : held.fields ≡ doc.fields
  pub tokens : IsNumbering old new doc.tokens held.tokens.items
  pub noted : AreNoted names named (names_of doc.fields)
  pub form : IsDocument doc.tokens doc.fields
