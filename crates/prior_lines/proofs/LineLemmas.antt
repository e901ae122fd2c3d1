-- What is said of the lines.
use Rattle.std.proofs.Common.{ℕ, ◌≡◌, ◌∷◌, List, Option, ap, ◌∙◌, refl, sym, filter, ◌++◌, []}
use Rattle.std.specs.Prelude.{Some, None}
use Rattle.std.proofs.lemmas.List.{append_assoc}
use Rattle.std.proofs.lemmas.List.Elements.{filter-append}
use Rattle.std.specs.Option.{option_map}
use Rattle.line_reader.specs.Texts.{Placed, placed, text_answer, texts_at, trimmed}
use Rattle.line_reader.specs.declared.line.Line.{Line}
use Rattle.line_reader.proofs.TextLemmas.{texts_then}
use Rattle.prior_lines.specs.Rows.{Kept, Outcome, Step, is_refusal, refused_of, line_step, outcome, outcome_at, row_answer, with_line}
use Rattle.prior_lines.specs.declared.line.RowLine.{RowLine}

-- a line was taken
stepped : (kept now : Kept) (said : RowLine) (text : Placed) (texts : List Placed) → (now, said) ≡ line_step kept text → outcome kept (text ∷ texts) ≡ with_line said (outcome now texts)
unfolding outcome
stepped kept now said text texts is = sym (ap (λ (s : Step). with_line s.1 (outcome s.0 texts)) is)

pub some_given : (line : Line) (text : List ℕ) (kept now : Kept) (said : RowLine) (offset at : ℕ) (old new : Option (List ℕ)) → (now, said) ≡ line_step kept (placed line (trimmed text)) → option_map (texts_at offset) old ≡ option_map (text_answer (Some line) text at) new
    → option_map (outcome_at kept offset) old ≡ option_map (row_answer (Some said) now at) new
some_given line text kept now said offset at old new is e =
    texts_then (outcome kept) offset (text_answer (Some line) text at) (row_answer (Some said) now at) old new e (λ rest. stepped kept now said (placed line (trimmed text)) (texts_at at rest) is)

pub none_given : (text : List ℕ) (kept : Kept) (offset at : ℕ) (old new : Option (List ℕ)) → option_map (texts_at offset) old ≡ option_map (text_answer None text at) new
    → option_map (outcome_at kept offset) old ≡ option_map (row_answer None kept at) new
unfolding outcome
none_given text kept offset at old new e = texts_then (outcome kept) offset (text_answer None text at) (row_answer None kept at) old new e (λ rest. refl)

abbrev outcome_of : Kept → List RowLine → Outcome
outcome_of kept lines = (kept, lines)

-- a line was noted where it is refused
noted : (before now : List RowLine) (said : RowLine) (behind : Outcome) → now ≡ before ++ filter is_refusal (said ∷ []) → refused_of now behind ≡ refused_of before (with_line said behind)
noted before now said behind is =
    let joined : filter is_refusal (said ∷ behind.1) ≡ filter is_refusal (said ∷ []) ++ filter is_refusal behind.1 = filter-append is_refusal (said ∷ []) behind.1 in
    let lists : now ++ filter is_refusal behind.1 ≡ before ++ filter is_refusal (said ∷ behind.1) =
    ap (λ xs. xs ++ filter is_refusal behind.1) is ∙ append_assoc before (filter is_refusal (said ∷ [])) (filter is_refusal behind.1) ∙ ap (λ xs. before ++ xs) (sym joined) in
    ap (outcome_of behind.0) lists

pub followed_next : (kept kept_now : Kept) (before now : List RowLine) (said : RowLine) (offset at : ℕ) (old new : Option (List ℕ)) (all : Option Outcome) → option_map (λ rest. refused_of before (outcome_at kept offset rest)) old ≡ all
    → option_map (outcome_at kept offset) old ≡ option_map (row_answer (Some said) kept_now at) new → now ≡ before ++ filter is_refusal (said ∷ [])
    → option_map (λ rest. refused_of now (outcome_at kept_now at rest)) new ≡ all
followed_next kept kept_now before now said offset at None None all so_far gives is = so_far
followed_next kept kept_now before now said offset at None (Some ys) all so_far gives is = cc
followed_next kept kept_now before now said offset at (Some xs) None all so_far gives is = cc
followed_next kept kept_now before now said offset at (Some xs) (Some ys) all so_far gives is =
    let same : outcome_at kept offset xs ≡ row_answer (Some said) kept_now at ys = cc in
    ap Some (noted before now said (outcome_at kept_now at ys) is ∙ ap (refused_of before) (sym same)) ∙ so_far
