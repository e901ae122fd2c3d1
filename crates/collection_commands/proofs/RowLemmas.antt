-- Refused lines of rows, written one behind the other.
use Rattle.std.proofs.Common.{◌≡◌, ◌<◌, ◌≤◌, ◌+◌, ℕ, List, [], ◌∷◌, ◌++◌, Option, get_or, length, take, drop, refl, sym, ap, subst, ◌∙◌, append_assoc, append-nil}
use Rattle.std.proofs.lemmas.List.{take-append-drop, take_all, take_more}
use Rattle.command_pieces.specs.Faults.{IsCut}
use Rattle.command_pieces.specs.Written.{AllWritten}
use Rattle.command_pieces.specs.declared.fault.Fault.{Fault}
use Rattle.command_pieces.proofs.Cut.{all-then, all_none, cut-more, cut-then}
use Rattle.prior_lines.specs.declared.line.RowLine.{RowLine}
use Rattle.collection_commands.specs.RowRefusals.{row_piece, row_pieces}

rows-append : (xs ys : List RowLine) → row_pieces (xs ++ ys) ≡ row_pieces xs ++ row_pieces ys
unfolding row_pieces
rows-append [] ys = refl
rows-append (x ∷ xs) ys = ap (λ ps. row_piece x ++ ps) (rows-append xs ys) ∙ sym (append_assoc (row_piece x) (row_pieces xs) (row_pieces ys))

rows-one : (x : RowLine) → row_pieces (x ∷ []) ≡ row_piece x
unfolding row_pieces
rows-one x = append-nil (row_piece x)

rows-none : row_pieces [] ≡ []
unfolding row_pieces
rows-none = refl

rows-next : (lines : List RowLine) (i : ℕ) (x : RowLine) → i < length lines → x ≡ get_or lines i x → row_pieces (take i lines) ++ row_piece x ≡ row_pieces (take (i + 1) lines)
rows-next lines i x inside at =
    let more : take (i + 1) lines ≡ take i lines ++ x ∷ [] = take_more lines i x inside ∙ ap (λ y. take i lines ++ y ∷ []) (sym at) in
    ap (λ ps. row_pieces (take i lines) ++ ps) (sym (rows-one x)) ∙ sym (rows-append (take i lines) (x ∷ [])) ∙ ap row_pieces (sym more)

pub rows-start : (lines : List RowLine) (taken : Option (List ℕ)) → AllWritten (row_pieces (take 0 lines)) taken taken
rows-start [] taken = subst (λ ps. AllWritten ps taken taken) (sym rows-none) (all_none taken)
rows-start (x ∷ lines) taken = subst (λ ps. AllWritten ps taken taken) (sym rows-none) (all_none taken)

pub rows-more : (lines : List RowLine) (i : ℕ) (x : RowLine) (before mid now : Option (List ℕ)) → i < length lines → x ≡ get_or lines i x → AllWritten (row_pieces (take i lines)) before mid → AllWritten (row_piece x) mid now
    → AllWritten (row_pieces (take (i + 1) lines)) before now
rows-more lines i x before mid now inside at a b = subst (λ ps. AllWritten ps before now) (rows-next lines i x inside at) (all-then (row_pieces (take i lines)) (row_piece x) before mid now a b)

pub rows-all : (lines : List RowLine) (i : ℕ) (before now : Option (List ℕ)) → length lines ≤ i → AllWritten (row_pieces (take i lines)) before now → AllWritten (row_pieces lines) before now
rows-all lines i before now past a = subst (λ ls. AllWritten (row_pieces ls) before now) (take_all i lines past) a

pub rows-broken : (e : Fault) (lines : List RowLine) (i : ℕ) (x : RowLine) (before mid now : Option (List ℕ)) → i < length lines → x ≡ get_or lines i x → AllWritten (row_pieces (take i lines)) before mid → IsCut e (row_piece x) mid now
    → IsCut e (row_pieces lines) before now
rows-broken e lines i x before mid now inside at a b =
    let here : IsCut e (row_pieces (take (i + 1) lines)) before now = subst (λ ps. IsCut e ps before now) (rows-next lines i x inside at) (cut-then e (row_pieces (take i lines)) (row_piece x) before mid now a b) in
    subst (λ ps. IsCut e ps before now) (sym (rows-append (take (i + 1) lines) (drop (i + 1) lines)) ∙ ap row_pieces (take-append-drop (i + 1) lines)) (cut-more e (row_pieces (take (i + 1) lines)) (row_pieces (drop (i + 1) lines)) before now here)
