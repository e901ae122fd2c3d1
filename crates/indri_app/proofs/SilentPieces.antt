-- Pieces of which nothing is written.
use Rattle.std.proofs.Common.{◌≡◌, ◌∙◌, ◌++◌, inl, ℕ, List, [], ◌∷◌, Option, None, Some, map, refl, sym, ap, subst, append_assoc}
use Rattle.std.specs.Prelude.{option_map, unwrap_or}
use Rattle.std.specs.Io.KnownBytes.{append_known}
use Rattle.std.proofs.lemmas.Grind.{flat_map-append}
use Rattle.std.proofs.lemmas.List.{map-append}
use Rattle.store_ends.specs.Files.{Files, Leaves}
use Rattle.store_ends.proofs.Files.{Leaves-same, Leaves-then}
use Rattle.command_pieces.specs.Pieces.{Finished, Piece, StandsAlong, StoppedBetween, kept_behind, text_of}
use Rattle.command_pieces.proofs.Joining.{append_none}
use Rattle.holdings.specs.declared.limits.Limits.{Limits}
use Rattle.repository.specs.RealLimits.{StandsFor}
use Rattle.repository.specs.Stands.{Collection, empty_collection}
use Rattle.collection_commands.specs.Creation.{IsMade}
use Rattle.indri_app.specs.Generated.{MakingPiece, created, gen_items, new_state, silent, silent_pieces}
use Rattle.indri_app.specs.Items.{pieces_of}

-- ---- what the files stand for

choice : (kept : Collection) (o : Option Collection) → unwrap_or (option_map Some o) (Some kept) ≡ Some (unwrap_or o kept)
choice kept None = refl
choice kept (Some c) = refl

kept-silent : (kept : Collection) (ps : List (Piece Collection)) → kept_behind (Some kept) (map silent ps) ≡ Some (kept_behind kept ps)
unfolding kept_behind
kept-silent kept [] = refl
kept-silent kept (p ∷ ps) = ap (λ k. kept_behind k (map silent ps)) (choice kept p.flushes) ∙ kept-silent (unwrap_or p.flushes kept) ps

kept-made : (ps : List (Piece Collection)) → kept_behind None (created ∷ map silent ps) ≡ Some (kept_behind empty_collection ps)
unfolding kept_behind
kept-made ps = kept-silent empty_collection ps

module _ (files : Files) where
  pub along-made : (ps : List (Piece Collection)) (told : Option Files) → StandsAlong StandsFor empty_collection ps told → StandsAlong (IsMade (Some files)) None (created ∷ map silent ps) told
  along-made ps told a = record {
    done = created ∷ map silent a.done;
    left = map silent a.left;
    are = ap (λ qs. created ∷ map silent qs) a.are ∙ ap (λ qs. created ∷ qs) (map-append silent a.done a.left);
    files_stand = subst (λ k. IsMade (Some files) k told) (sym (kept-made a.done)) a.files_stand;
  }

  pub made-all : (ps : List (Piece Collection)) (told : Option Files) → StandsFor (kept_behind empty_collection ps) told → IsMade (Some files) (kept_behind None (created ∷ map silent ps)) told
  made-all ps told stands = subst (λ k. IsMade (Some files) k told) (sym (kept-made ps)) stands

  -- further pieces would have followed
  pub along-more : (ps qs : List MakingPiece) (told : Option Files) → StandsAlong (IsMade (Some files)) None ps told → StandsAlong (IsMade (Some files)) None (ps ++ qs) told
  along-more ps qs told a = record { done = a.done; left = a.left ++ qs; are = ap (λ rs. rs ++ qs) a.are ∙ append_assoc a.done a.left qs; files_stand = a.files_stand }

-- what holds of more files
pub Leaves-into : (past since : ℕ → Files → Type 0) (P Q : Option Files → Type 0) → Leaves past since P → ((f : Option Files) → P f → Q f) → Leaves past since Q
Leaves-into past since P Q leaves into = Leaves-then past past since Q P (Leaves-same past Q) leaves into

-- ---- nothing is written

no-text : (ps : List (Piece Collection)) → text_of (map silent ps) ≡ []
no-text [] = refl
no-text (p ∷ ps) = no-text ps

pub silent-text : (n : ℕ) (limits : Limits) → text_of (silent_pieces n limits) ≡ []
silent-text n limits = no-text (pieces_of (new_state limits) (gen_items n))

front-empty : (xs ys : List ℕ) → xs ++ ys ≡ [] → xs ≡ []
front-empty [] ys e = refl
front-empty (x ∷ xs) ys e = absurd cc

front-text : (ps done left : List MakingPiece) → ps ≡ done ++ left → text_of ps ≡ [] → text_of done ≡ []
front-text ps done left are none = front-empty (text_of done) (text_of left) (sym (flat_map-append (λ p. p.text) done left) ∙ sym (ap text_of are) ∙ none)

module _ (stands : Option Collection → Option Files → Type 0) (kept : Option Collection) (ps : List MakingPiece) (none : text_of ps ≡ []) (before now : Option (List ℕ)) (told : Option Files) (same : now ≡ before) where
  pub stopped-silent : StandsAlong stands kept ps told → StoppedBetween stands kept ps before now told
  stopped-silent a = record {
    done = a.done;
    left = a.left;
    are = a.are;
    written = same ∙ sym (append_none before) ∙ ap (append_known before) (sym (front-text ps a.done a.left a.are none));
    files_stand = inl a.files_stand;
  }

  pub finished-silent : stands (kept_behind kept ps) told → Finished stands kept ps before now told
  finished-silent s = record { written = same ∙ sym (append_none before) ∙ ap (append_known before) (sym none); files_stand = s }
