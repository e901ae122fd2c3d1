-- What a command does, piece by piece: what it writes, and what the files stand for by then. `C` is what files can stand for, and
-- `stands` says whether they do.
use Rattle.std.specs.Prelude.{ℕ, ◌≡◌, ◌⊎◌, ◌<◌, Bool, List, [], ◌∷◌, ◌++◌, Option, take, length, unwrap_or}
use Rattle.std.specs.List.{flat_map, list_any}
use Rattle.std.specs.Io.KnownBytes.{append_known}
use Rattle.store_ends.specs.Files.{Files}

-- A piece of what a command does: what it writes, whether that says that something is refused, and what the files stand for behind
-- it, where it is a flush point.
pub record Piece (C : Type 0) : Type 0 where
  pub text : List ℕ
  pub is_refusal : Bool
  pub flushes : Option C

abbrev pub text_of : {C : Type 0} → List (Piece C) → List ℕ
text_of pieces = flat_map (λ p. p.text) pieces

abbrev pub some_refused : {C : Type 0} → List (Piece C) → Bool
some_refused pieces = list_any (λ p. p.is_refusal) pieces

-- what is written of items, one behind the other, each by the state that those before it leave
abbrev pub pieces_in_turn : {S I P : Type 0} → (S → I → S) → (S → I → List P) → S → List I → List P
pieces_in_turn next one s [] = []
pieces_in_turn next one s (i ∷ items) = one s i ++ pieces_in_turn next one (next s i) items

-- what the files stand for behind these pieces: that of the last flush point, or what they stood for before
unfoldable pub kept_behind : {C : Type 0} → C → List (Piece C) → C
kept_behind kept [] = kept
kept_behind kept (p ∷ pieces) = kept_behind (unwrap_or p.flushes kept) pieces

-- just this text was written, told as what a sink had taken before and what it has taken now
abbrev pub Writes : Option (List ℕ) → Option (List ℕ) → List ℕ → Type 0
Writes before now text = now ≡ append_known before text

-- a front of this text was written
abbrev pub WritesFront : Option (List ℕ) → Option (List ℕ) → List ℕ → Type 0
WritesFront before now text = (n : ℕ) × Writes before now (take n text)

-- All pieces were done.
pub record Finished {C : Type 0} (stands : C → Option Files → Type 0) (kept : C) (pieces : List (Piece C)) (before now : Option (List ℕ)) (files : Option Files) : Type 0 where
  pub written : Writes before now (text_of pieces)
  pub files_stand : stands (kept_behind kept pieces) files

-- The first pieces were done. Of the next one only a front is written, which isn't the whole, and the files may stand for what they
-- stand for behind it.
pub record BrokenOff {C : Type 0} (stands : C → Option Files → Type 0) (kept : C) (pieces : List (Piece C)) (before now : Option (List ℕ)) (files : Option Files) : Type 0 where
  pub done : List (Piece C)
  pub left : List (Piece C)
  pub are : pieces ≡ done ++ left
  pub front : ℕ
  pub part : (front ≡ 0) ⊎ (front < length (text_of (take 1 left)))
  pub written : Writes before now (text_of done ++ take front (text_of (take 1 left)))
  pub files_stand : stands (kept_behind kept done) files ⊎ stands (kept_behind kept (done ++ take 1 left)) files

-- The same where nothing of the next piece is written.
pub record StoppedBetween {C : Type 0} (stands : C → Option Files → Type 0) (kept : C) (pieces : List (Piece C)) (before now : Option (List ℕ)) (files : Option Files) : Type 0 where
  pub done : List (Piece C)
  pub left : List (Piece C)
  pub are : pieces ≡ done ++ left
  pub written : Writes before now (text_of done)
  pub files_stand : stands (kept_behind kept done) files ⊎ stands (kept_behind kept (done ++ take 1 left)) files

-- The files stand for what they stand for behind some of the pieces, or for what they stood for before.
pub record StandsAlong {C : Type 0} (stands : C → Option Files → Type 0) (kept : C) (pieces : List (Piece C)) (files : Option Files) : Type 0 where
  pub done : List (Piece C)
  pub left : List (Piece C)
  pub are : pieces ≡ done ++ left
  pub files_stand : stands (kept_behind kept done) files
